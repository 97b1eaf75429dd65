use Rattle.std.proofs.Common.{rules, ◌≡◌, None, ◌∙◌}
use Rattle.perfdata_sources.specs.steps.RelativeSeek.{IsRelativeSeek}
use Rattle.perfdata_sources.proofs.source.relative_seek.relative_seek_to.Goals as goal
use Rattle.perfdata_sources.proofs.source.relative_seek.relative_seek_to.Goals.{in-Start, in-Current+in-Some-position_at_offset}

pub returns : goal.returns
returns c =
    let relative = c.relative_seek_between.result in
    let leads = c.relative_seek_between.ensures.lands_at in
    let same : relative.target ≡ c.match-to.target = c.relative_seek_between.ensures.target None in
    let is : IsRelativeSeek c.in-Some.position c.args.to relative.offset relative.target = elim c.match-to.branch [
      | in-Start w ↦ record { lands_at = leads; target = λ bytes. rw w.in-Start.is (same ∙ w.target-is) }
      | in-Current+in-Some-position_at_offset w ↦ record { lands_at = leads; target = λ bytes. rw w.in-Current.is (rw (same ∙ w.target-is) (search rules)) }
    ] in
    rw c.in-Some.is is
