use Rattle.std.proofs.lemmas.Result.{err_from_is_err_and}
use Rattle.perfdata_sections.proofs.Events.{event_read, event_truncated, event_needs_memory}
use Rattle.perfdata_sections.proofs.feature_sections.event_desc.read_event.Goals as goal

pub returns-clause-reads : goal.returns-clause-reads
returns-clause-reads g c =
    event_read g.T.ByteOrder.number_of g.met.T.ByteOrder.reads_first c.args.attr_size _ _ _ c.in_ok-attr.attr c.in_ok-name_and_ids.name_and_ids (g.met.C.PlacedSource.remaining_from_position _) c.in_ok-attr.ensures.reads c.in_ok-name_and_ids.ensures.reads

pub returns-in_err-name_and_ids-clause-reads : goal.returns-in_err-name_and_ids-clause-reads
returns-in_err-name_and_ids-clause-reads g c =
    let p = err_from_is_err_and c.from_residual-in_err-name_and_ids.result c.from_residual-in_err-name_and_ids.ensures.1 in
    rw p.1 (event_truncated g.T.ByteOrder.number_of g.met.T.ByteOrder.reads_first c.args.attr_size _ _ _ c.in_ok-attr.attr _ p.0 c.in_ok-attr.ensures.reads c.in_err-name_and_ids.ensures.reads p.2)

pub returns-in_err-attr-clause-needs_memory : goal.returns-in_err-attr-clause-needs_memory
returns-in_err-attr-clause-needs_memory g c =
    let p = err_from_is_err_and c.from_residual.result c.from_residual.ensures.1 in
    rw (p.1, p.2) (λ memory. absurd (c.in_err-attr.ensures.no_memory memory))

pub returns-in_err-name_and_ids-clause-needs_memory : goal.returns-in_err-name_and_ids-clause-needs_memory
returns-in_err-name_and_ids-clause-needs_memory g c =
    let p = err_from_is_err_and c.from_residual-in_err-name_and_ids.result c.from_residual-in_err-name_and_ids.ensures.1 in
    rw p.1 (λ memory. event_needs_memory g.T.ByteOrder.number_of g.met.T.ByteOrder.reads_first c.args.attr_size _ _ _ c.in_ok-attr.attr _ p.0 c.in_ok-attr.ensures.reads c.in_err-name_and_ids.ensures.reads p.2 memory)
