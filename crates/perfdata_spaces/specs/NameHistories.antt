-- What a thread is called after records.
use Rattle.std.specs.Prelude.{◌≡◌, ℕ, ℤ, Bool, false, List, ◌∷◌, ◌++◌, Option, None, Some}
use Rattle.std.specs.List.{All}
use Rattle.perfdata_spaces.specs.Effects.{NameEffect, Names, Inherits, KeepsAll}
use Rattle.perfdata_spaces.specs.Processes.{is_same}

-- Whether an effect sets the name of a thread.
abbrev pub names : ℤ → NameEffect → Bool
names tid (Names thread name) = is_same thread tid
names tid (Inherits thread parent) = is_same thread tid
names tid KeepsAll = false

abbrev pub NoneNames : ℤ → List NameEffect → Type 0
NoneNames tid effects = All (λ effect. names tid effect ≡ false) effects

-- The name of a thread after effects.
pub data IsName : ℤ → List NameEffect → Option (List ℕ) → Type 0 where
  -- Nothing named the thread.
  never_named : (tid : ℤ) (effects : List NameEffect) (name : Option (List ℕ)) → NoneNames tid effects → name ≡ None
      → IsName tid effects name
  -- A COMM was last.
  named : (tid : ℤ) (effects earlier later : List NameEffect) (bytes : List ℕ) (name : Option (List ℕ))
      → effects ≡ earlier ++ Names tid bytes ∷ later → NoneNames tid later → name ≡ Some bytes → IsName tid effects name
  -- A fork was last: the name of the forking thread at that time.
  inherited : (tid parent : ℤ) (effects earlier later : List NameEffect) (name : Option (List ℕ))
      → effects ≡ earlier ++ Inherits tid parent ∷ later → NoneNames tid later → IsName parent earlier name
      → IsName tid effects name
