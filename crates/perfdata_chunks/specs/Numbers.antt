-- The numbers of small feature sections, and the units of the section PMU_MAPPINGS.
use Rattle.std.specs.Prelude.{◌≡◌, ◌⊎◌, ℕ, ◌+◌, ◌<◌, ◌≤◌, ◌==◌, List, [], ◌∷◌, length, drop, if◌then◌else◌}
use Rattle.perfdata_sources.specs.Endian.{number_in}
use Rattle.perfdata_sources.specs.declared.endian.Endianness.{Endianness}
use Rattle.linux_perf_data.specs.RecordEntries.{HasBytesAt, with_prefix}
use Rattle.linux_perf_data.specs.Values.{BeginsWithString, string_text}
use Rattle.perfdata_arrays.specs.declared.status.Status.{Status}
use Rattle.perfdata_arrays.specs.declared.status.Status.TheVariants.{Success, Truncated}
use Rattle.perfdata_chunks.specs.declared.numbers.NumbersResult.{NumbersResult}
use Rattle.perfdata_chunks.specs.declared.numbers.Pmu.{Pmu}

-- The size of the numbers of a feature in bytes: NRCPUS 7, TOTAL_MEM 10, SAMPLE_TIME 21, CLOCKID 23, DIR_FORMAT 24, COMPRESSED 27,
-- CLOCK_DATA 29. Another feature has none.
abbrev pub numbers_size : ℕ → ℕ
numbers_size feature =
    if feature == 7 then 8
    else if feature == 10 then 8
    else if feature == 21 then 16
    else if feature == 23 then 8
    else if feature == 24 then 8
    else if feature == 27 then 20
    else if feature == 29 then 24
    else 0

module _ (order : Endianness) where
  -- the number of four or of eight bytes at an offset
  abbrev pub u32_at : List ℕ → ℕ → ℕ
  u32_at section offset = number_in order 4 (drop offset section)

  abbrev pub u64_at : List ℕ → ℕ → ℕ
  u64_at section offset = number_in order 8 (drop offset section)

  -- The numbers of a feature's section, in order.
  abbrev pub numbers_of : ℕ → List ℕ → List ℕ
  numbers_of feature xs =
      if feature == 7 then u32_at xs 0 ∷ u32_at xs 4 ∷ []
      else if feature == 10 then u64_at xs 0 ∷ []
      else if feature == 21 then u64_at xs 0 ∷ u64_at xs 8 ∷ []
      else if feature == 23 then u64_at xs 0 ∷ []
      else if feature == 24 then u64_at xs 0 ∷ []
      else if feature == 27 then u32_at xs 0 ∷ u32_at xs 4 ∷ u32_at xs 8 ∷ u32_at xs 12 ∷ u32_at xs 16 ∷ []
      else if feature == 29 then u32_at xs 0 ∷ u32_at xs 4 ∷ u64_at xs 8 ∷ u64_at xs 16 ∷ []
      else []

  -- The numbers are written up to the capacity, and counted; or the section doesn't contain all of them, and nothing is written.
  abbrev pub ReadsNumbers : ℕ → List ℕ → List ℕ → NumbersResult → List ℕ → Type 0
  ReadsNumbers feature section old result new =
      ((result.status ≡ Success) × (numbers_size feature ≤ length section) × (result.count ≡ length (numbers_of feature section))
      × (new ≡ with_prefix (numbers_of feature section) old))
      ⊎ ((result.status ≡ Truncated) × (length section < numbers_size feature) × (result.count ≡ 0) × (new ≡ old))

  -- ---- units

  -- The bytes start with a whole unit: a type of four bytes, and a string.
  abbrev pub BeginsWithPmu : List ℕ → Type 0
  BeginsWithPmu xs = (4 ≤ length xs) × BeginsWithString order (drop 4 xs)

  -- The unit at an offset. The text of its name follows its type and its length, of four bytes each.
  abbrev pub pmu_at : List ℕ → ℕ → Pmu
  pmu_at section at = record {
    name_offset = at + 8;
    name_size = length (string_text order (drop (at + 4) section));
    next_offset = at + 8 + u32_at section (at + 4);
    event_type = u32_at section at;
    reserved = 0;
  }

  -- The unit at an offset is written, and its name is there; or there is no complete one, and the old value is unchanged.
  abbrev pub ReadsPmu : List ℕ → ℕ → Pmu → Status → Pmu → Type 0
  ReadsPmu section at old status new =
      ((status ≡ Success) × BeginsWithPmu (drop at section) × HasBytesAt section (at + 8) (string_text order (drop (at + 4) section))
      × (new ≡ pmu_at section at))
      ⊎ ((status ≡ Truncated) × (¬ BeginsWithPmu (drop at section)) × (new ≡ old))
