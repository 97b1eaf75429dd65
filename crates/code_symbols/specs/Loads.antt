-- The code that a jitdump describes, by its times.
use Rattle.std.specs.Prelude.{◌≡◌, ℕ, ◌≤◌, List, ◌++◌, All, filter, nat_le}
use Rattle.code_symbols.specs.declared.jit.Load.{Load}

-- the code that is loaded up to a time
abbrev pub loaded_until : ℕ → List Load → List Load
loaded_until time loads = filter (λ l. nat_le l.time time) loads

-- all of the code is loaded up to this time
abbrev pub AreUntil : ℕ → List Load → Type 0
AreUntil time loads = All (λ l. l.time ≤ time) loads

-- more code is shown, after what was
pub record ShowsMore (old new : List Load) : Type 0 where
  pub more : List Load
  pub is : new ≡ old ++ more
