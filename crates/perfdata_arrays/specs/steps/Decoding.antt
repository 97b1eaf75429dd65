-- Steps of private functions: what records add to two arrays: entries, and the frames of those that have some.
use Rattle.std.specs.Prelude.{◌≡◌, ℕ, ◌+◌, ◌≤◌, ◌||◌, Bool, false, List, length, Result, Ok, Err}
use Rattle.perfdata_sources.specs.declared.endian.Endianness.{Endianness}
use Rattle.linux_perf_data.specs.Attribute.{Attribute}
use Rattle.linux_perf_data.specs.Layout.{RecordView}
use Rattle.perfdata_arrays.specs.Overwrites.{with_entries_at}
use Rattle.perfdata_arrays.specs.declared.decoder.EntryCounts.{EntryCounts}
use Rattle.perfdata_arrays.specs.Decoding.{EntryKind, wants_frames}

-- in a walk that counts all, also if it has none
abbrev pub wants : Bool → ℕ → Bool
wants counts_all capacity = counts_all || wants_frames capacity

-- ---- a record

module _ {A B : Type 0} (kind : EntryKind A B) (counts_all : Bool) (order : Endianness) (attrs : List Attribute) (base : ℕ) (h : RecordView) (count used : ℕ)
    (entries : List A) (frames : List B) where
  -- What the record adds is written after the first elements, up to the capacities. It fits, unless all is counted.
  pub record WritesRecord (added : EntryCounts) (entries' : List A) (frames' : List B) : Type 0 where
    pub own : List A
    pub own_frames : List B
    pub adds : kind.Adds (wants counts_all (length frames)) order attrs base used h own own_frames
    pub count_is : added.entries ≡ length own
    pub frames_count_is : added.frames ≡ length own_frames
    pub written : entries' ≡ with_entries_at count own entries
    pub frames_written : frames' ≡ with_entries_at used own_frames frames
    pub fits : counts_all ≡ false → (count + length own ≤ length entries) × (used + length own_frames ≤ length frames)
    pub few : (length own ≤ 8 + length h.body) × (length own_frames ≤ 8 + length h.body)

  -- What the record adds doesn't fit, and nothing is written.
  pub record ExceedsArrays (needed : EntryCounts) (entries' : List A) (frames' : List B) : Type 0 where
    pub in_page : counts_all ≡ false
    pub own : List A
    pub own_frames : List B
    pub adds : kind.Adds (wants_frames (length frames)) order attrs base used h own own_frames
    pub exceeds : kind.Exceeds (length entries) (length frames) count used own own_frames needed
    pub unchanged : entries' ≡ entries
    pub frames_unchanged : frames' ≡ frames

  abbrev pub DecodesRecord : Result EntryCounts EntryCounts → List A → List B → Type 0
  DecodesRecord (Ok added) entries' frames' = WritesRecord added entries' frames'
  DecodesRecord (Err needed) entries' frames' = ExceedsArrays needed entries' frames'
