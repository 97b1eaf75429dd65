use Rattle.perfdata_profile.proofs.Growing.{none_at}
use Rattle.perfdata_profile.proofs.locating.Locator.new.Goals as goal

pub invariant_of-result : goal.invariant_of-result
invariant_of-result c = record { cached = λ index at id found. absurd (none_at _ c.new-2.ensures index (at, id) found) }
