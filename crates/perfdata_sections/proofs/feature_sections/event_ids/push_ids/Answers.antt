use Rattle.std.proofs.Common.{arith, ◌++◌, ◌∷◌, [], drop, length-drop, ap, ◌∙◌}
use Rattle.std.proofs.lemmas.List.{take_all}
use Rattle.std.proofs.lemmas.Result.{err_from_is_err_and}
use Rattle.perfdata_sections.proofs.IdLists.{ids_pushed, ids_complete}
use Rattle.perfdata_sections.proofs.feature_sections.event_ids.push_ids.Goals as goal

pub returns-in_err-push-clause-memory : goal.returns-in_err-push-clause-memory
returns-in_err-push-clause-memory g c =
    let p = err_from_is_err_and c.from_residual.result c.from_residual.ensures.1 in
    rw p.1 (omega (arith, c.ids.invariant.within))

pub ids-preserved : goal.ids-preserved
ids-preserved g c = record {
  within = omega (arith, c.ids.invariant.within, length-drop 8 c.ids.rest.now);
  ids = ids_pushed g.T.ByteOrder.number_of g.met.T.ByteOrder.reads_first _ c.ids.ids.items c.ids.rest.now c.push.new.self.items _ c.ids.invariant.ids (omega arith)
      (c.in_ok-push.ensures.items ∙ ap (λ n. c.ids.ids.items ++ n ∷ []) c.read_u64.ensures) (take_all _ (drop 8 c.ids.rest.now) (omega (arith, length-drop 8 c.ids.rest.now)));
}

pub ids-smaller : goal.ids-smaller
ids-smaller g c = omega (arith, length-drop 8 c.ids.rest.now)

pub returns-clause-ids : goal.returns-clause-ids
returns-clause-ids g c = ids_complete g.T.ByteOrder.number_of g.met.T.ByteOrder.reads_first _ c.ids.ids.items c.ids.rest.now c.ids.invariant.ids (omega arith)
