use Rattle.std.proofs.Common.{◌≡◌, ◌∙◌, ℕ, List, ap, arith, replicate, slice_get, sym}
use Rattle.perfdata_views.proofs.PprofSamples.{zeros_at}
use Rattle.perfdata_views.proofs.pprof_profile.Converter.new.Goals as goal

pub returns-clause-cached : goal.returns-clause-cached
returns-clause-cached c = λ number id there positive.
    let items : c.in_ok-vec.field-0.items ≡ replicate c.len.result 0 = c.in_ok-vec.ensures.items_if_clones_equal (λ y is. is) in
    let none = zeros_at c.len.result number id (ap (λ (ids : List ℕ). slice_get ids number) (sym items) ∙ there) in
    absurd (omega (arith, none, positive))
