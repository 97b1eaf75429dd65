-- The event types section. An entry consists of a frame and the section of the event's ids (`perf_file_attr` of Linux's perf).
use Rattle.std.specs.Prelude.{◌≡◌, ◌≢◌, ℕ, ◌+◌, ◌*◌, ◌/◌, ◌^◌, ◌<◌, ◌≤◌, ◌⊎◌, List, [], ◌∷◌, ◌++◌, length, drop, slice_get, Option, Some, Result, Ok, Err, IfSome, Vec, string_bytes}
use Rattle.std.specs.Option.{option_map}
use Rattle.std.specs.declared.alloc.Global.{Global}
use Rattle.perfdata_sources.specs.Source.{State, Position, AfterSeek, at_offset, all_bytes_of}
use Rattle.perfdata_base.specs.Section.{EndFitsU64, EndOverflowsU64, IsSectionEntry}
use Rattle.perfdata_sources.specs.declared.attr.PerfEventAttr.{PerfEventAttr}
use Rattle.perfdata_base.specs.declared.section.PerfFileSection.{PerfFileSection}
use Rattle.perfdata_sections.specs.AttributeDescription.{attr_in, name_in, ids_in}
use Rattle.perfdata_sections.specs.AttrFrames.{IsAttrInFrame, IsFrameError, ConsumesFrameError, IsFrameReadError}
use Rattle.perfdata_sections.specs.Error.{IsUnexpectedEof}
use Rattle.perfdata_sections.specs.EventIds.{BeginsWithIds}
use Rattle.perfdata_sections.specs.Items.{SomeBytes, ReadOrSeekErrorAt, IsTruncationOf, IsReadErrorOf, IsShorterThan, ItemsAt, AreItems, ItemsRead, ItemsReadErrorBy, ReadsItemAt, ReadsItemAtBy, ReadsItemsBy}
use Rattle.perfdata_sections.specs.declared.feature_sections.AttributeDescription.{AttributeDescription}
use Rattle.perfdata_sections.specs.declared.feature_sections.event_types.EventTypeEntry.{EventTypeEntry}
use Rattle.perfdata_sections.specs.declared.event_type.SimplePerfEventType.{SimplePerfEventType}
use Rattle.perfdata_sections.specs.declared.error.Error.{Error}
use Rattle.perfdata_sections.specs.declared.error.Error.TheVariants.{Read, Memory}
use Rattle.perfdata_sections.specs.declared.error.ReadError.TheVariants.{PerfEventAttr as OfAttr}

-- The name of the event type at an index, or `None` if there is no such type.
abbrev pub type_name_at : List SimplePerfEventType → ℕ → Option (List ℕ)
type_name_at types i = option_map (λ t. string_bytes t.name) (slice_get types i)

-- The offset after the last whole id of a section.
abbrev pub ids_end : PerfFileSection → ℕ
ids_end s = s.offset + 8 * (s.size / 8)

-- The position after the ids of these entries, or the given position if there are no entries.
abbrev pub position_after_ids : Option Position → List EventTypeEntry → Option Position
position_after_ids position [] = position
position_after_ids position (entry ∷ entries) = position_after_ids (at_offset (ids_end entry.ids) position) entries

-- The source's position is after the ids of `entries`, or `start` if there are none. Its number of pauses is unchanged.
pub record IsAfterIds (old : State) (start : Option Position) (entries : List EventTypeEntry) (new : State) : Type 0 where
  pub position : new.position ≡ position_after_ids start entries
  pub pauses : new.pauses ≡ old.pauses

module _ (number : ℕ → List ℕ → ℕ) where
  -- ---- entries

  -- `xs` starts with this section entry.
  abbrev pub HoldsSectionEntry : List ℕ → PerfFileSection → Type 0
  HoldsSectionEntry xs s = (16 ≤ length xs) × IsSectionEntry number xs s

  -- What reading a section entry at an offset does.
  abbrev pub ReadsSectionEntryAt : State → ℕ → Result PerfFileSection Error → State → Type 0
  ReadsSectionEntryAt old at result new = ReadsItemAt HoldsSectionEntry (IsTruncationOf (IsShorterThan 16)) (IsReadErrorOf (IsShorterThan 16)) old at result new

  module _ (attr_size : ℕ) where
    -- `xs` starts with a frame and the section entry of its ids.
    pub record IsEventTypeEntry (xs : List ℕ) (entry : EventTypeEntry) : Type 0 where
      pub attr_in_frame : IsAttrInFrame number attr_size xs entry.attr
      pub ids : HoldsSectionEntry (drop attr_size xs) entry.ids

    -- `xs` doesn't start with a frame, or has fewer than 16 bytes after the frame.
    abbrev pub IsEventTypeEntryError : Error → List ℕ → Type 0
    IsEventTypeEntryError e xs = IsFrameError number attr_size e xs
        ⊎ (((a : PerfEventAttr) × IsAttrInFrame number attr_size xs a) × IsUnexpectedEof e × (length (drop attr_size xs) < 16))

    -- A frame at the offset `at` is read, and reading the section entry after it fails.
    pub record IdsEntryReadError (old : State) (at : ℕ) (e : Error) (new : State) : Type 0 where
      pub attr : PerfEventAttr
      pub is_possible : SomeBytes (λ xs. IsAttrInFrame number attr_size xs attr)
      pub matches : IfSome (all_bytes_of old.position) (λ all. IsAttrInFrame number attr_size (drop at all) attr)
      pub error : ReadOrSeekErrorAt (IsTruncationOf (IsShorterThan 16)) (IsReadErrorOf (IsShorterThan 16)) old (at + attr_size) e new

    -- Reading an entry at an offset fails at its frame or at the section entry after the frame.
    abbrev pub EventTypeEntryReadError : State → ℕ → Error → State → Type 0
    EventTypeEntryReadError old at e new =
        ReadOrSeekErrorAt (ConsumesFrameError number attr_size) (IsFrameReadError number attr_size) old at e new ⊎ IdsEntryReadError old at e new

    -- What reading an entry at an offset does.
    abbrev pub ReadsEventTypeEntryAt : State → ℕ → Result EventTypeEntry Error → State → Type 0
    ReadsEventTypeEntryAt old at result new = ReadsItemAtBy IsEventTypeEntry EventTypeEntryReadError old at result new

    -- What reading all whole entries of a section does.
    abbrev pub ReadsEventTypeEntries : State → PerfFileSection → Result (Vec EventTypeEntry Global) Error → State → Type 0
    ReadsEventTypeEntries old s result new = ReadsItemsBy IsEventTypeEntry EventTypeEntryReadError (attr_size + 16) old s.offset s.size result new

  -- ---- the ids of an entry

  -- `ids` has one element for each whole id of the section. They are the ids in the section if all bytes are known.
  pub record AreSectionIds (all_bytes : Option (List ℕ)) (s : PerfFileSection) (ids : List ℕ) : Type 0 where
    pub end_fits : EndFitsU64 s
    pub count : length ids ≡ s.size / 8
    pub elements : IfSome all_bytes (λ all. BeginsWithIds number (s.size / 8) (drop s.offset all) ids)

  -- The section doesn't contain its ids: its end is 2^64 or above, or its last whole id is truncated.
  abbrev pub IsSectionIdsError : Error → PerfFileSection → List ℕ → Type 0
  IsSectionIdsError e s all = (EndOverflowsU64 s × (e ≡ Read OfAttr)) ⊎ (EndFitsU64 s × IsUnexpectedEof e × (length (drop s.offset all) < 8 * (s.size / 8)))

  -- Reading the ids of a section fails. Either its end is 2^64 or above, and `Unchanged` holds for the source; or reading them at
  -- their offset fails.
  abbrev pub SectionIdsReadError : (State → Type 0) → State → PerfFileSection → Error → State → Type 0
  SectionIdsReadError Unchanged old s e new = (EndOverflowsU64 s × (e ≡ Read OfAttr) × Unchanged new)
      ⊎ (EndFitsU64 s
      × ReadOrSeekErrorAt (IsTruncationOf (IsShorterThan (8 * (s.size / 8)))) (IsReadErrorOf (IsShorterThan (8 * (s.size / 8)))) old s.offset e new)

  -- What reading the ids of a section does. If the end of the section is 2^64 or above, the source is unchanged.
  abbrev pub ReadsSectionIds : State → PerfFileSection → Result (Vec ℕ Global) Error → State → Type 0
  ReadsSectionIds old s (Ok v) new = AfterSeek old new × AreSectionIds (all_bytes_of old.position) s v.items
  ReadsSectionIds old s (Err e) new = AfterSeek old new × (e ≢ Memory → SectionIdsReadError (λ final. final ≡ old) old s e new)

  -- ---- descriptions

  module _ (all_bytes : Option (List ℕ)) (names : ℕ → Option (List ℕ)) where
    -- `d` describes an entry: its attribute, the name for its index, and the ids of its section.
    pub record IsEntryDescription (i : ℕ) (entry : EventTypeEntry) (d : AttributeDescription) : Type 0 where
      pub attr : attr_in d ≡ entry.attr
      pub name : name_in d ≡ names i
      pub ids : AreSectionIds all_bytes entry.ids (ids_in d)

    -- The descriptions describe the entries one by one. The first has the index `i`.
    abbrev pub AreEntryDescriptions : ℕ → List EventTypeEntry → List AttributeDescription → Type 0
    AreEntryDescriptions i [] [] = Unit {0}
    AreEntryDescriptions i [] (d ∷ ds) = ⊥
    AreEntryDescriptions i (entry ∷ entries) [] = ⊥
    AreEntryDescriptions i (entry ∷ entries) (d ∷ ds) = IsEntryDescription i entry d × AreEntryDescriptions (i + 1) entries ds

    -- The entries `before` are described, and `Stops` holds for them and the section of the next entry's ids.
    pub record ErrorAtSectionIds (entries : List EventTypeEntry) (Stops : List EventTypeEntry → PerfFileSection → Type 0) : Type 0 where
      pub before : List EventTypeEntry
      pub failing_entry : EventTypeEntry
      pub after : List EventTypeEntry
      pub elements : entries ≡ before ++ failing_entry ∷ after
      pub descriptions : List AttributeDescription
      pub descriptions_match : AreEntryDescriptions 0 before descriptions
      pub error_here : Stops before failing_entry.ids

  -- What describing entries does. If the end of an id section is 2^64 or above, the source's position is after the ids before it.
  -- If memory runs out, no cause is specified.
  abbrev pub DescribesEntries : (ℕ → Option (List ℕ)) → State → List EventTypeEntry → Result (Vec AttributeDescription Global) Error → State → Type 0
  DescribesEntries names old entries (Ok v) new = AfterSeek old new × AreEntryDescriptions (all_bytes_of old.position) names 0 entries v.items
  DescribesEntries names old entries (Err e) new = AfterSeek old new
      × (e ≢ Memory
      → ErrorAtSectionIds (all_bytes_of old.position) names entries (λ before s. SectionIdsReadError (IsAfterIds old old.position before) old s e new))

  -- ---- the section

  module _ (attr_size : ℕ) (names : ℕ → Option (List ℕ)) (section : PerfFileSection) where
    -- The section is invalid whatever the bytes are: the size of an entry or the end of the section is 2^64 or above.
    abbrev pub IsOutOfRange : Type 0
    IsOutOfRange = (2 ^ 64 ≤ attr_size + 16) ⊎ EndOverflowsU64 section

    -- The section contains as many entries as fit into its size, and these describe them.
    pub record DescribesByEntries (all : List ℕ) (ds : List AttributeDescription) : Type 0 where
      pub entries : List EventTypeEntry
      pub entries_match : AreItems (IsEventTypeEntry attr_size) (attr_size + 16) section.offset section.size all entries
      pub descriptions_match : AreEntryDescriptions (Some all) names 0 entries ds

    -- The first entries are valid, fewer than fit into the section, and `e` is the error of the next.
    pub record ErrorAtEntry (e : Error) (all : List ℕ) : Type 0 where
      pub before : List EventTypeEntry
      pub too_few : length before < section.size / (attr_size + 16)
      pub items_match : ItemsAt (IsEventTypeEntry attr_size) (attr_size + 16) all section.offset before
      pub error_here : IsEventTypeEntryError attr_size e (drop (section.offset + length before * (attr_size + 16)) all)

    -- All entries are valid, and `e` is the error of the ids of one of them.
    pub record ErrorAtIds (e : Error) (all : List ℕ) : Type 0 where
      pub entries : List EventTypeEntry
      pub entries_match : AreItems (IsEventTypeEntry attr_size) (attr_size + 16) section.offset section.size all entries
      pub error : ErrorAtSectionIds (Some all) names entries (λ before s. IsSectionIdsError e s all)

    -- The first error in the section.
    abbrev pub IsEntriesError : Error → List ℕ → Type 0
    IsEntriesError e all = ErrorAtEntry e all ⊎ ErrorAtIds e all

    -- All entries are read, and these describe them.
    pub record EntriesRead (old : State) (ds : List AttributeDescription) (new : State) : Type 0 where
      pub entries : List EventTypeEntry
      pub entries_match : ItemsRead (IsEventTypeEntry attr_size) (attr_size + 16) old section.offset section.size entries new
      pub descriptions_match : AreEntryDescriptions (all_bytes_of old.position) names 0 entries ds

    -- All entries are read, and reading the ids of one of them fails. If the end of these ids is 2^64 or above, the source's
    -- position is after the ids before them, or after the last entry.
    pub record IdsReadError (old : State) (e : Error) (new : State) : Type 0 where
      pub entries : List EventTypeEntry
      pub entries_match : ItemsRead (IsEventTypeEntry attr_size) (attr_size + 16) old section.offset section.size entries new
      pub error : ErrorAtSectionIds (all_bytes_of old.position) names entries
          (λ before s. SectionIdsReadError (IsAfterIds old (at_offset (section.offset + length entries * (attr_size + 16)) old.position) before) old s e new)

    -- The first failure: of an entry or, after all entries are read, of ids.
    abbrev pub EntriesReadError : State → Error → State → Type 0
    EntriesReadError old e new = ItemsReadErrorBy (IsEventTypeEntry attr_size) (EventTypeEntryReadError attr_size)
        (attr_size + 16) old section.offset section.size e new ⊎ IdsReadError old e new

    -- What reading the section does if it isn't invalid. If memory runs out, no cause is specified.
    abbrev pub ReadsDescriptionsInRange : State → Result (Vec AttributeDescription Global) Error → State → Type 0
    ReadsDescriptionsInRange old (Ok v) new = EntriesRead old v.items new
    ReadsDescriptionsInRange old (Err e) new = AfterSeek old new × (e ≢ Memory → EntriesReadError old e new)

    -- What reading the section does. An invalid section leaves the source unchanged.
    abbrev pub ReadsDescriptions : State → Result (Vec AttributeDescription Global) Error → State → Type 0
    ReadsDescriptions old (Ok v) new = (¬ IsOutOfRange) × ReadsDescriptionsInRange old (Ok v) new
    ReadsDescriptions old (Err e) new = (IsOutOfRange × (e ≡ Read OfAttr) × (new ≡ old)) ⊎ ((¬ IsOutOfRange) × ReadsDescriptionsInRange old (Err e) new)

  -- The event types section contains exactly these attributes, without names.
  abbrev pub DescribesByEventTypes : ℕ → PerfFileSection → List ℕ → List AttributeDescription → Type 0
  DescribesByEventTypes attr_size section all ds = DescribesByEntries attr_size (type_name_at []) section all ds

  -- The first error in the event types section.
  abbrev pub IsEventTypesError : ℕ → PerfFileSection → Error → List ℕ → Type 0
  IsEventTypesError attr_size section e all = IsEntriesError attr_size (type_name_at []) section e all

  -- What reading the event types section does.
  abbrev pub ReadsEventTypes : ℕ → PerfFileSection → State → Result (Vec AttributeDescription Global) Error → State → Type 0
  ReadsEventTypes attr_size section old result new = ReadsDescriptions attr_size (type_name_at []) section old result new
