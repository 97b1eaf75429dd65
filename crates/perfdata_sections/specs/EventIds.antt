-- The ids of an event: consecutive numbers of eight bytes each.
use Rattle.std.specs.Prelude.{◌≡◌, ℕ, zero, suc, ◌*◌, ◌≤◌, List, [], ◌∷◌, length, drop, Result, Ok, Err, Vec}
use Rattle.std.specs.declared.alloc.Global.{Global}
use Rattle.perfdata_sources.specs.Source.{State, ReadExactError}
use Rattle.perfdata_sources.specs.declared.source.append.AppendError.{AppendError}
use Rattle.perfdata_sources.specs.declared.source.append.AppendError.TheVariants.{Memory, Source}
use Rattle.perfdata_sections.specs.ParsedPart.{PartRead, PartPartlyRead}

-- The first numbers of eight bytes each.
abbrev pub u64s_of : (ℕ → List ℕ → ℕ) → ℕ → List ℕ → List ℕ
u64s_of number zero bytes = []
u64s_of number (suc n) bytes = number 8 bytes ∷ u64s_of number n (drop 8 bytes)

module _ (number : ℕ → List ℕ → ℕ) (count : ℕ) where
  -- `xs` consists of exactly `count` ids.
  abbrev pub AreIds : List ℕ → List ℕ → Type 0
  AreIds xs ids = (length xs ≡ 8 * count) × (ids ≡ u64s_of number count xs)

  -- `xs` starts with `count` ids.
  abbrev pub BeginsWithIds : List ℕ → List ℕ → Type 0
  BeginsWithIds xs ids = (8 * count ≤ length xs) × (ids ≡ u64s_of number count xs)

  -- What reading `count` ids at the source's position does. Memory runs out only after the bytes of an id.
  abbrev pub ReadsIds : State → Result (Vec ℕ Global) AppendError → State → Type 0
  ReadsIds old (Ok v) new = PartRead AreIds old v.items new
  ReadsIds old (Err Memory) new = PartPartlyRead (λ xs. (8 ≤ length xs) × (length xs ≤ 8 * count)) old new
  ReadsIds old (Err (Source e)) new = ReadExactError old (8 * count) e new
