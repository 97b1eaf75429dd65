use Rattle.std.proofs.Common.{sym, ap, ◌∙◌}
use Rattle.perfdata_sources.specs.Raw.{bytes_of}
use Rattle.perfdata_sections.specs.HeaderString.{before_nul}
use Rattle.perfdata_records.proofs.Threads.{before_string, before_none}
use Rattle.perfdata_records.proofs.thread_map.until_nul.Goals as goal

pub returns-in-Some : goal.returns-in-Some
returns-in-Some c =
    let split = c.in-Some.ensures.string in
    sym (before_string (bytes_of c.in-Some.string) (bytes_of c.read_string.new.self) split.no_nul) ∙ ap before_nul (sym split.split)

pub returns-in-None : goal.returns-in-None
returns-in-None c = sym (before_none (bytes_of c.args.bytes) c.in-None.ensures.none)
