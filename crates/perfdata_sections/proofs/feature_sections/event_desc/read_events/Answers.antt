use Rattle.std.proofs.Common.{rules, refl, inl, inr}
use Rattle.std.proofs.lemmas.Result.{err_from_is_err_and}
use Rattle.perfdata_sections.proofs.Events.{events_more, events_stop, events_need_memory, events_after_seek}
use Rattle.perfdata_sections.proofs.feature_sections.event_desc.read_events.Goals as goal

pub events-preserved : goal.events-preserved
events-preserved g c = record {
  prefix_read = events_more g.T.ByteOrder.number_of g.met.T.ByteOrder.reads_first c.args.attr_size c.events._index _ _ _ c.events.all.items c.push.new.self.items c.in_ok-description.description c.events.invariant.prefix_read c.in_ok-description.ensures.reads
      c.in_ok-push.ensures.items;
  pauses = search rules;
  same_loan = search rules;
}

pub returns-in_err-description-clause-reads : goal.returns-in_err-description-clause-reads
returns-in_err-description-clause-reads g c =
    let p = err_from_is_err_and c.from_residual.result c.from_residual.ensures.1 in
    rw (p.1, p.2) (events_stop g.T.ByteOrder.number_of g.met.T.ByteOrder.reads_first c.args.attr_size c.events._index c.args.count _ _ _ c.events.all.items _ (g.met.C.PlacedSource.remaining_from_position _) (search rules) c.events.invariant.prefix_read c.in_err-description.ensures.reads)

pub returns-in_err-push-clause-reads : goal.returns-in_err-push-clause-reads
returns-in_err-push-clause-reads g c =
    let p = err_from_is_err_and c.from_residual-in_err-push.result c.from_residual-in_err-push.ensures.1 in
    rw (p.1, p.2) (
      events_after_seek g.T.ByteOrder.number_of g.met.T.ByteOrder.reads_first c.args.attr_size c.events._index _ _ _ c.events.all.items c.in_ok-description.description (g.met.C.PlacedSource.remaining_from_position _) c.events.invariant.prefix_read c.in_ok-description.ensures.reads,
      λ ne. absurd (ne refl),
    )

pub returns-in_err-description-clause-needs_memory : goal.returns-in_err-description-clause-needs_memory
returns-in_err-description-clause-needs_memory g c =
    let p = err_from_is_err_and c.from_residual.result c.from_residual.ensures.1 in
    rw (p.1, p.2) (λ memory. events_need_memory g.T.ByteOrder.number_of g.met.T.ByteOrder.reads_first c.args.attr_size c.events._index c.args.count _ _ _ c.events.all.items (search rules) c.events.invariant.prefix_read
    (inl (c.in_err-description.ensures.needs_memory memory)))

pub returns-in_err-push-clause-needs_memory : goal.returns-in_err-push-clause-needs_memory
returns-in_err-push-clause-needs_memory g c =
    let p = err_from_is_err_and c.from_residual-in_err-push.result c.from_residual-in_err-push.ensures.1 in
    rw (p.1, p.2) (λ _. events_need_memory g.T.ByteOrder.number_of g.met.T.ByteOrder.reads_first c.args.attr_size c.events._index c.args.count _ _ _ c.events.all.items (search rules) c.events.invariant.prefix_read
    (inr (c.in_ok-description.description, c.in_ok-description.ensures.reads)))
