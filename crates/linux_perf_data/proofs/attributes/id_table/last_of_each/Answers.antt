use Rattle.std.proofs.Common.{◌∙◌, ◌+◌, ap, subst, sym}
use Rattle.linux_perf_data.proofs.IdPairLemmas.{LastSoFar, last_none, last_skipped, last_pushed, last_all}
use Rattle.linux_perf_data.proofs.attributes.id_table.last_of_each.Goals as goal
use Rattle.linux_perf_data.proofs.attributes.id_table.last_of_each.Goals.{then-is_last_of_id+in_ok-push, else-is_last_of_id}

pub pairs-init : goal.pairs-init
pairs-init c = rw (c.new-last.ensures.items) (last_none _)

pub pairs-preserved : goal.pairs-preserved
pairs-preserved c =
    let so = c.pairs.invariant in
    let more = c.pairs-test.true in
    let ordered = c.args.ordered.now in
    elim c.if-is_last_of_id.branch [
      | then-is_last_of_id+in_ok-push w ↦
          subst (λ l. LastSoFar ordered l (c.pairs.at + 1)) (sym (ap (λ v. v.items) w.last-is ∙ w.in_ok-push.ensures.items)) (last_pushed ordered c.pairs.last.items c.pairs.at c.requires more w.if-is_last_of_id.ensures so)
      | else-is_last_of_id w ↦ subst (λ v. LastSoFar ordered v.items (c.pairs.at + 1)) (sym w.last-is) (last_skipped ordered c.pairs.last.items c.pairs.at c.requires more w.if-is_last_of_id.ensures so)
    ]

pub returns : goal.returns
returns c = last_all c.args.ordered.now c.pairs.last.items c.pairs.at c.pairs-test.false c.pairs.invariant
