-- What records add to two arrays: entries, and the frames of those that have some.
use Rattle.std.specs.Prelude.{ℕ, ◌+◌, ◌==◌, ◌++◌, Bool, List, [], ◌∷◌, length, not}
use Rattle.perfdata_sources.specs.declared.endian.Endianness.{Endianness}
use Rattle.linux_perf_data.specs.Attribute.{Attribute}
use Rattle.linux_perf_data.specs.Layout.{RecordView}
use Rattle.perfdata_arrays.specs.declared.decoder.EntryCounts.{EntryCounts}

-- Says what a record adds to entries and frames, by a byte order, attributes, the offset of the first record, and the number of frames
-- before it.
abbrev pub Adding : Type 0 → Type 0 → Type 1
Adding A B = Endianness → List Attribute → ℕ → ℕ → RecordView → List A → List B → Type 0

-- A kind of entries.
pub record EntryKind (A B : Type 0) : Type 1 where
  -- what a record adds, with frames or without
  pub Adds : Bool → Adding A B
  -- What a record adds doesn't fit in arrays with these capacities after this many entries and frames. These numbers are reported.
  pub Exceeds : ℕ → ℕ → ℕ → ℕ → List A → List B → EntryCounts → Type 0
  -- every record fits in an array of entries that isn't full, and an array of frames with this capacity
  pub AlwaysFits : ℕ → Type 0
  -- an entry after this number of other frames
  pub after_frames : ℕ → A → A

-- frames are wanted if their array has elements
abbrev pub wants_frames : ℕ → Bool
wants_frames capacity = not (capacity == 0)

-- ---- records

-- What records add, in the order of the records. `attrs_after` are the attributes that are known after some records: in a file always
-- the same, in a pipe those of its opening and of these records.
pub data AreEntriesOf {A B : Type 0} (Adds : Adding A B) (order : Endianness) (attrs_after : List RecordView → List Attribute) (base : ℕ) : List RecordView
    → List A → List B → Type 0 where
  of_no_records : AreEntriesOf Adds order attrs_after base [] [] []
  of_one_more : (records : List RecordView) (entries : List A) (frames : List B) (h : RecordView) (own : List A) (own_frames : List B)
      → AreEntriesOf Adds order attrs_after base records entries frames → Adds order (attrs_after (records ++ h ∷ [])) base (length frames) h own own_frames
      → AreEntriesOf Adds order attrs_after base (records ++ h ∷ []) (entries ++ own) (frames ++ own_frames)
