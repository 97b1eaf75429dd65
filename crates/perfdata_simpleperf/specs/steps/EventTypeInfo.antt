-- Steps of private functions: the events in simpleperf's meta info: a line for each, with its name, type and config, separated by commas.
use Rattle.std.specs.Prelude.{◌≡◌, ℕ, List, ◌∷◌, Option, None, Some, ⊤}
use Rattle.perfdata_sections.specs.declared.event_type.SimplePerfEventType.{SimplePerfEventType}
use Rattle.perfdata_simpleperf.specs.EventTypeInfo.{EventType, event_type_of, DescribesEvent}

-- the result of parsing one line
abbrev pub ParsesEvent : List (List ℕ) → Option SimplePerfEventType → Type 0
ParsesEvent ps (Some e) = DescribesEvent ps (event_type_of e)
ParsesEvent ps None = (e : EventType) → ¬ DescribesEvent ps e

-- the first three items of a list, or `None` if there are fewer
abbrev pub IsFirstThree : {A : Type 0} → (A → List ℕ) → List (List ℕ) → Option (A × A × A) → Type 0
IsFirstThree bytes (p ∷ q ∷ r ∷ more) (Some (a, b, c)) = (bytes a ≡ p) × (bytes b ≡ q) × (bytes c ≡ r)
IsFirstThree bytes (p ∷ q ∷ r ∷ more) None = ⊥
IsFirstThree bytes _ (Some _) = ⊥
IsFirstThree bytes _ None = ⊤
