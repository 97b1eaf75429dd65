-- Steps of private functions: the entries of the records of one kind, as plain numbers.
use Rattle.std.specs.Prelude.{◌≡◌, ℕ, ◌+◌, ◌<◌, ◌≤◌, Bool, false, List, length, Result, Ok, Err}
use Rattle.perfdata_arrays.specs.Overwrites.{with_entries_at}
use Rattle.perfdata_arrays.specs.declared.decoder.EntryCounts.{EntryCounts}

-- The entries are written after the first elements, up to the capacity. If they don't fit, and not all are counted, nothing is written.
abbrev pub AddsEntries : {E : Type 0} → List E → Bool → ℕ → List E → Result EntryCounts EntryCounts → List E → Type 0
AddsEntries own counts_all count old (Ok added) new =
    (added.entries ≡ length own) × (added.frames ≡ 0) × (counts_all ≡ false → count + length own ≤ length old) × (new ≡ with_entries_at count own old)
AddsEntries own counts_all count old (Err needed) new =
    (counts_all ≡ false) × (needed.entries ≡ length own) × (needed.frames ≡ 0) × (length old < count + length own) × (new ≡ old)
