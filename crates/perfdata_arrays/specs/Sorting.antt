-- Entries of records in order of time.
use Rattle.std.specs.Prelude.{◌≡◌, ◌⊎◌, ℕ, ◌^◌, ◌-◌, ◌<◌, ◌==◌, ◌||◌, List, length, if◌then◌else◌}
use Rattle.std.specs.Ordering.{nat_cmp}
use Rattle.std.specs.List.Sorted.{IsPermutation, IsNonDecreasingBy, IsStableByKey}
use Rattle.linux_perf_data.specs.declared.in_memory.entries.RecordEntry.{RecordEntry}
use Rattle.perfdata_arrays.specs.declared.status.Status.{Status}
use Rattle.perfdata_arrays.specs.declared.status.Status.TheVariants.{Success, OutOfMemory}

-- The time of an entry in nanoseconds, or 0 if it has none. The times 0 and 2^64 - 1 count as none.
abbrev pub time_or_zero : RecordEntry → ℕ
time_or_zero r = if (r.has_timestamp == 0) || (r.timestamp == 2 ^ 64 - 1) then 0 else r.timestamp

-- The same entries in order of time. Entries with one time, and those without a time, keep their order.
pub record SortedByTime (before after : List RecordEntry) : Type 0 where
  pub permutation : IsPermutation before after
  pub ascending : IsNonDecreasingBy time_or_zero after
  pub stable : IsStableByKey time_or_zero nat_cmp before after

-- The entries are sorted, or an allocation failed and they are unchanged. Up to 20 entries are sorted without an allocation.
abbrev pub SortsByTime : List RecordEntry → Status → List RecordEntry → Type 0
SortsByTime before status after = ((status ≡ Success) × SortedByTime before after) ⊎ ((status ≡ OutOfMemory) × (20 < length before) × (after ≡ before))
