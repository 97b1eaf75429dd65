use Rattle.std.proofs.Common.{rules, ◌≡◌, length}
use Rattle.std.proofs.lemmas.Result.{err_from_is_err_and}
use Rattle.perfdata_sections.proofs.Events.{desc_header_truncated, desc_result, desc_result_needs_memory}
use Rattle.perfdata_sections.proofs.feature_sections.event_desc.read_event_desc.Goals as goal

pub returns-in_err-read_exact-clause-reads : goal.returns-in_err-read_exact-clause-reads
returns-in_err-read_exact-clause-reads g c =
    let p = err_from_is_err_and c.from_residual.result c.from_residual.ensures.1 in
    let long : length c.read_exact.new.buf ≡ 8 = search rules in
    let read_error = c.in_err-read_exact.ensures.reads in
    rw (p.1, p.2) (desc_header_truncated g.T.ByteOrder.number_of g.met.T.ByteOrder.reads_first _ _ _ (g.met.C.PlacedSource.remaining_from_position _) (rw long at read_error))

pub returns-clause-reads : goal.returns-clause-reads
returns-clause-reads g c =
    let long : length c.read_exact.new.buf ≡ 8 = search rules in
    desc_result g.T.ByteOrder.number_of g.met.T.ByteOrder.reads_first _ _ _ c.read_exact.new.buf _ _ c.read_events.result (g.met.C.PlacedSource.remaining_from_position _) long c.in_ok-read_exact.ensures.reads (search rules) (search rules) c.read_events.ensures.reads

pub returns-in_err-read_exact-clause-needs_memory : goal.returns-in_err-read_exact-clause-needs_memory
returns-in_err-read_exact-clause-needs_memory g c =
    let p = err_from_is_err_and c.from_residual.result c.from_residual.ensures.1 in
    rw (p.1, p.2) (λ memory. absurd cc)

pub returns-clause-needs_memory : goal.returns-clause-needs_memory
returns-clause-needs_memory g c =
    let long : length c.read_exact.new.buf ≡ 8 = search rules in
    desc_result_needs_memory g.T.ByteOrder.number_of g.met.T.ByteOrder.reads_first _ _ _ c.read_exact.new.buf _ _ c.read_events.result long c.in_ok-read_exact.ensures.reads (search rules) (search rules) c.read_events.ensures.needs_memory
