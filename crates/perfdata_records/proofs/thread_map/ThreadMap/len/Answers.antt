use Rattle.std.proofs.Common.{◌/◌, ap, sym, ◌∙◌}
use Rattle.perfdata_sources.specs.Raw.{bytes_of}
use Rattle.perfdata_sources.specs.Endian.{number_in}
use Rattle.perfdata_records.proofs.Threads.{threads_long}
use Rattle.perfdata_records.proofs.thread_map.ThreadMap.len.Goals as goal

pub returns-clause-count : goal.returns-clause-count
returns-clause-count c =
    let map = c.args.self.now in
    ap (λ n. n / 24) c.len.ensures ∙ sym (threads_long (number_in map.endian) _ (bytes_of map.entries))
