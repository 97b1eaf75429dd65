use Rattle.std.proofs.Common.{inr}
use Rattle.std.proofs.lemmas.Result.{err_from_is_err_and}
use Rattle.perfdata_sources.specs.Raw.{bytes_of}
use Rattle.perfdata_events.specs.Words.{u64s_in}
use Rattle.perfdata_events.proofs.sample.parts.BranchStack.parse.Goals as goal

pub returns-in_err-counters-clause-decodes : goal.returns-in_err-counters-clause-decodes
returns-in_err-counters-clause-decodes c =
    let p = err_from_is_err_and c.from_residual-in_err-counters.result c.from_residual-in_err-counters.ensures.1 in
    rw (p.1, p.2) (inr record { value = c.in_ok-count.count; middle = bytes_of c.read_u64.new.fields; starts = c.in_ok-count.ensures.decodes; error = (inr record { value = c.in_ok-hw_index.hw_index; middle = bytes_of c.read_u64_if.new.fields; starts = (rw (c.contains.ensures tt) at c.in_ok-hw_index.ensures.decodes); error = (inr record { value = u64s_in c.in_ok-entries.entries; middle = bytes_of c.read_u64s.new.fields; starts = c.in_ok-entries.ensures.decodes; error = (rw (c.contains-has_counters.ensures tt) at c.in_err-counters.ensures.decodes) }) }) })
