use Rattle.std.proofs.Common.{sym, ◌∙◌}
use Rattle.std.specs.Str.{bytes_eq}
use Rattle.perfdata_sources.proofs.RawDataPieces.{and_first, and_last, and_second, bytes_eq_seams}
use Rattle.perfdata_sources.proofs.raw.equal_bytes.Goals as goal
use Rattle.perfdata_sources.proofs.raw.equal_bytes.Goals.{then-eq, else-eq}

pub returns-then-eq-2 : goal.returns-then-eq-2
returns-then-eq-2 c =
    let whole = bytes_eq_seams c.args.first.now c.args.second.now c.args.other_first.now c.args.other_second.now
    c.split_at.result.0.now c.split_at.result.1.now c.split_at-2.result.0.now c.split_at-2.result.1.now
    c.split_at.ensures.front c.split_at.ensures.back c.split_at-2.ensures.front c.split_at-2.ensures.back
    c.requires c.if-second-other_middle.false in
    elim c.if-eq.branch [
      | then-eq w ↦ c.eq-then-eq-2.ensures ∙ sym (whole ∙ and_last _ _ _ (sym c.eq.ensures ∙ w.if-eq.true) (sym w.eq-then-eq.ensures ∙ sym w.value-is ∙ c.if-eq-2.true))
      | else-eq w ↦ cc
    ]

pub returns-else-eq-2 : goal.returns-else-eq-2
returns-else-eq-2 c =
    let whole = bytes_eq_seams c.args.first.now c.args.second.now c.args.other_first.now c.args.other_second.now
    c.split_at.result.0.now c.split_at.result.1.now c.split_at-2.result.0.now c.split_at-2.result.1.now
    c.split_at.ensures.front c.split_at.ensures.back c.split_at-2.ensures.front c.split_at-2.ensures.back
    c.requires c.if-second-other_middle.false in
    elim c.if-eq.branch [
      | then-eq w ↦ c.if-eq-2.false ∙ sym (whole ∙ and_second _ _ _ (sym c.eq.ensures ∙ w.if-eq.true) (sym w.eq-then-eq.ensures ∙ sym w.value-is ∙ c.if-eq-2.false))
      | else-eq w ↦ c.if-eq-2.false ∙ sym (whole ∙ and_first _ (bytes_eq c.split_at-2.result.0.now c.split_at.result.1.now) (bytes_eq c.split_at-2.result.1.now c.args.other_second.now) (sym c.eq.ensures ∙ w.if-eq.false))
    ]
