use Rattle.std.proofs.Common.{rules, ◌*◌, length, take, arith, ap, sym, ◌∙◌}
use Rattle.perfdata_sources.specs.Raw.{bytes_of}
use Rattle.perfdata_sources.specs.Endian.{number_in}
use Rattle.std.proofs.lemmas.List.{length-take-le}
use Rattle.perfdata_records.proofs.Threads.{is_map, whole_entries}
use Rattle.perfdata_records.proofs.thread_map.ThreadMap.parse.Goals as goal

pub returns-clause-value : goal.returns-clause-value
returns-clause-value g c =
    let number = g.T.ByteOrder.number_of in
    let endian = c.ENDIAN.result in
    let count_read = c.in_ok-count.ensures in
    let split = c.in_ok-entries.ensures in
    let size = c.in-Some.ensures.1 in
    let many = ap (λ n. n * 24) count_read.value in
    is_map number g.met.T.ByteOrder.reads_first (number_in endian)
    (λ n xs. g.met.T.FileOrder.reads_by n xs ∙ ap (λ o. number_in o n xs) (sym c.ENDIAN.ensures))
    (bytes_of c.args.body) (bytes_of c.read_u64.new.self) (bytes_of c.in_ok-entries.entries)
    count_read.rest.enough count_read.rest.rest (omega (arith, split.rest.enough, size, many))
    (split.prefix ∙ ap (λ n. take n (bytes_of c.read_u64.new.self)) (size ∙ many))

pub invariant_of-result : goal.invariant_of-result
invariant_of-result g c =
    let split = c.in_ok-entries.ensures in
    let enough = split.rest.enough in
    record { whole_entries = whole_entries c.in_ok-count.count (bytes_of c.in_ok-entries.entries) (ap length split.prefix ∙ length-take-le _ _ enough ∙ c.in-Some.ensures.1) }

pub returns-in_default-clause-error : goal.returns-in_default-clause-error
returns-in_default-clause-error g c = search rules
