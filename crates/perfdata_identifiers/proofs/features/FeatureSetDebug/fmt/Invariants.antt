use denote.Shadow.{shadow}
use denote.Text.{Utf8}
use Rattle.perfdata_identifiers.proofs.features.FeatureSetDebug.fmt.Given as goal

abbrev pub invariant-loop-feature : goal.invariant-loop-feature
invariant-loop-feature g l =
    (goal.iterator-loop-feature g).can_next l.feature-iterator ×
    (goal.iterator-loop-feature g).is_finite l.feature-iterator ×
    shadow (Utf8 l.separator)
