-- Entries that are written over a prefix of an array.
use Rattle.std.specs.Prelude.{◌≡◌, ℕ, ◌<◌, List, [], ◌∷◌, ◌++◌, length, take, drop}
use Rattle.linux_perf_data.specs.RecordEntries.{with_prefix}

-- the entries from index `first` on, over the start of an array
abbrev pub with_prefix_from : {T : Type 0} → ℕ → List T → List T → List T
with_prefix_from start entries old = with_prefix (drop start entries) old

-- entries after the first `at` elements of an array, up to its capacity
abbrev pub with_entries_at : {T : Type 0} → ℕ → List T → List T → List T
with_entries_at at entries old = take at old ++ with_prefix entries (drop at old)

-- If the array contains the entries from index `first` on up to `index`, it also contains the entry of `index` afterwards.
abbrev pub WritesOneMore : {T : Type 0} → ℕ → ℕ → T → List T → List T → Type 0
WritesOneMore {T} start index entry old new = (entries before : List T) → index ≡ length entries → old ≡ with_prefix_from start entries before
    → new ≡ with_prefix_from start (entries ++ entry ∷ []) before

-- This many bytes, unless they are 2^64 - 1 or more, are written over the start of an array, up to its capacity.
abbrev pub WritesBytes : ℕ → List ℕ → List ℕ → Type 0
WritesBytes size old new = size < 18446744073709551615 → (bytes : List ℕ) × ((length bytes ≡ size) × (new ≡ with_prefix bytes old))
