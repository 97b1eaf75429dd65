-- From the entries of events, and the ids in them, to the descriptions, or to the error.
use Rattle.std.proofs.Common.{◌≡◌, ◌≢◌, ℕ, suc, ◌+◌, ◌-◌, ◌*◌, ◌/◌, ◌^◌, ◌<◌, ◌≤◌, List, [], ◌∷◌, ◌++◌, length, take, drop, get_or, refl, sym, ap, ◌∙◌, subst, inl, inr, arith, length-append, length-drop, Option, None, Some}
use Rattle.std.specs.Prelude.{◌⊎◌, IfSome, Result, Ok, Err, Vec}
use Rattle.std.proofs.lemmas.List.{drop-drop, drop-append-le, length-take-le, take_more, take-append-drop, take_all}
use Rattle.std.proofs.Math.Seq.{drop-cons, drop-append_seam}
use Rattle.std.specs.declared.alloc.Global.{Global}
use Rattle.std.specs.declared.io.Error.{Error as SourceError}
use Rattle.std.specs.declared.io.SeekFrom.TheVariants.{Start}
use Rattle.perfdata_sources.specs.Source.{State, Position, all_bytes_of, at_offset, RemainsFromPosition, AfterSeek, SeekSucceeded}
use Rattle.perfdata_base.specs.Section.{EndFitsU64, EndOverflowsU64, section_entry_of, SectionEntryParsed}
use Rattle.perfdata_sources.specs.declared.attr.PerfEventAttr.{PerfEventAttr}
use Rattle.perfdata_base.specs.declared.section.PerfFileSection.{PerfFileSection}
use Rattle.perfdata_sources.specs.declared.source.append.AppendError.{AppendError}
use Rattle.perfdata_sources.specs.declared.source.append.AppendError.TheVariants.{Memory as NoMemory, Source}
use Rattle.perfdata_sources.proofs.ReadErrors.{consumed-after_seek, after_seek_more}
use Rattle.perfdata_sources.proofs.ConsumedLemmas.{consumed_none}
use Rattle.perfdata_sources.proofs.Numbers.{ReadsFirst}
use Rattle.perfdata_sections.specs.AttributeDescription.{attr_in, name_in, ids_in}
use Rattle.perfdata_sections.specs.AttrFrames.{IsAttrInFrame, ConsumesFrameError, IsFrameReadError, IsAttributesSourceError}
use Rattle.perfdata_sections.specs.Error.{IsUnexpectedEof}
use Rattle.perfdata_sections.specs.EventIds.{AreIds, BeginsWithIds, ReadsIds}
use Rattle.perfdata_sections.specs.EventTypes.{HoldsSectionEntry, IsEventTypeEntry, IsEventTypeEntryError, EventTypeEntryReadError, AreSectionIds, IsSectionIdsError, SectionIdsReadError, ids_end, position_after_ids, IsAfterIds, IsEntryDescription, AreEntryDescriptions, ErrorAtSectionIds, DescribesEntries, IsOutOfRange, DescribesByEntries, IsEntriesError, EntriesRead, EntriesReadError, ReadsDescriptions}
use Rattle.perfdata_sections.specs.ParsedPart.{PartRead, file_error_of}
use Rattle.perfdata_sections.specs.Items.{SomeBytes, NextReadError, ReadOrSeekErrorAt, IsTruncationOf, IsReadErrorOf, IsShorterThan, ItemRead, ItemsAt, AreItems, ItemsRead}
use Rattle.perfdata_sections.proofs.ItemRuns.{if_some_more, if_some_both, error_there, error_later, seek_then_consumed, read_error_carries, truncated_next, read_there}
use Rattle.perfdata_sections.proofs.Frames.{frame_carries, frame_remains, frame_filled}
use Rattle.perfdata_sections.proofs.IdLists.{ids_stay, numbers_long}
use Rattle.perfdata_sections.specs.declared.feature_sections.AttributeDescription.{AttributeDescription}
use Rattle.perfdata_sections.specs.declared.feature_sections.event_types.EventTypeEntry.{EventTypeEntry}
use Rattle.perfdata_sections.specs.declared.error.Error.{Error}
use Rattle.perfdata_sections.specs.declared.error.Error.TheVariants.{IoError, Read, Memory}
use Rattle.perfdata_sections.specs.declared.error.ReadError.TheVariants.{PerfEventAttr as OfAttr}

if_some_any : (o : Option (List ℕ)) (P : List ℕ → Type 0) → ((xs : List ℕ) → P xs) → IfSome o P
if_some_any None P any = tt
if_some_any (Some xs) P any = any xs

-- ---- a truncated part at an offset

-- a seek, followed by too too_few bytes
pub truncated_there : (a b c : State) (at n count : ℕ) (e : SourceError) → SeekSucceeded a (Start at) n b → NextReadError (IsTruncationOf (IsShorterThan count)) (IsReadErrorOf (IsShorterThan count)) b (IoError e) c
    → AfterSeek a c × (IoError e ≢ Memory → ReadOrSeekErrorAt (IsTruncationOf (IsShorterThan count)) (IsReadErrorOf (IsShorterThan count)) a at (IoError e) c)
truncated_there a b c at n count e seek next = error_there (IsTruncationOf (IsShorterThan count)) (IsReadErrorOf (IsShorterThan count)) (read_error_carries (IsShorterThan count)) a b c at n (IoError e) seek next

truncated_later_at : (count : ℕ) (a b c : State) (at : ℕ) (e : Error) → AfterSeek a b → ReadOrSeekErrorAt (IsTruncationOf (IsShorterThan count)) (IsReadErrorOf (IsShorterThan count)) b at e c → ReadOrSeekErrorAt (IsTruncationOf (IsShorterThan count)) (IsReadErrorOf (IsShorterThan count)) a at e c
truncated_later_at count a b c at e after_seek read_error = error_later (IsTruncationOf (IsShorterThan count)) (IsReadErrorOf (IsShorterThan count)) (read_error_carries (IsShorterThan count)) a b c at e after_seek read_error

-- a part is truncated: all bytes show it, or the source failed or paused
truncated_source_error : (count : ℕ) (a c : State) (at : ℕ) (e : Error) → ReadOrSeekErrorAt (IsTruncationOf (IsShorterThan count)) (IsReadErrorOf (IsShorterThan count)) a at e c → IfSome (all_bytes_of a.position) (λ all. IsUnexpectedEof e × (length (drop at all) < count)) ⊎ IsAttributesSourceError a e c
truncated_source_error count a c at e read_error = elim read_error [
  | inl there ↦ elim there.cause [
    | inl is_visible ↦ inl (if_some_more (all_bytes_of a.position) (λ all. IsTruncationOf (IsShorterThan count) e there.consumed_bytes (drop at all)) (λ all. IsUnexpectedEof e × (length (drop at all) < count)) (λ all truncated. (truncated.0, truncated.1)) is_visible.1)
    | inr source ↦ elim source.1 [ inl failed ↦ inr (inl failed) | inr paused ↦ inr (inr (inl paused)) ]
  ]
  | inr seek ↦ inr (inl seek)
]

module _ (number : ℕ → List ℕ → ℕ) (first : ReadsFirst number) where
  -- ---- an entry

  pub section_there : (a b c : State) (at n : ℕ) (s : PerfFileSection) → SeekSucceeded a (Start at) n b → SectionEntryParsed number b s c → ItemRead (HoldsSectionEntry number) a at s c
  section_there a b c at n s seek was_read =
      let long = was_read.exact_len in
      read_there (HoldsSectionEntry number) a b c at n was_read.bytes s seek was_read.consumes (λ rest.
      let long_enough : 8 ≤ length (drop 8 was_read.bytes) = omega (arith, length-drop 8 was_read.bytes) in
      let offset = first 8 was_read.bytes rest (omega arith) in
      let size = ap (number 8) (drop-append-le 8 was_read.bytes rest (omega arith)) ∙ first 8 (drop 8 was_read.bytes) rest long_enough in
      let same : section_entry_of number (was_read.bytes ++ rest) ≡ section_entry_of number was_read.bytes = λ i. record { offset = offset i; size = size i } in
      (omega (arith, length-append was_read.bytes rest), was_read.matches ∙ sym same))

  -- the source is then positioned after it
  pub section_position : (a b c : State) (at n : ℕ) (s : PerfFileSection) → SeekSucceeded a (Start at) n b → SectionEntryParsed number b s c → c.position ≡ at_offset (at + 16) a.position
  section_position a b c at n s seek was_read = seek_then_consumed a b c at n was_read.bytes seek was_read.consumes ∙ ap (λ k. at_offset (at + k) a.position) was_read.exact_len

  module _ (attr_size : ℕ) where
    -- some bytes contain both parts of an entry
    some_entry : (attr : PerfEventAttr) (s : PerfFileSection) → SomeBytes (λ xs. IsAttrInFrame number attr_size xs attr) → SomeBytes (λ xs. HoldsSectionEntry number xs s)
        → (e : EventTypeEntry) → e.attr ≡ attr → e.ids ≡ s → SomeBytes (λ xs. IsEventTypeEntry number attr_size xs e)
    some_entry attr s framed there e same_attr same_ids =
        let filled = frame_filled number first attr_size framed.0 attr framed.1 in
        let ids_entry : drop attr_size (filled.0 ++ there.0) ≡ there.0 = ap (λ n. drop n (filled.0 ++ there.0)) (sym filled.1) ∙ drop-append_seam filled.0 there.0 in (
          filled.0 ++ there.0,
          record {
            attr_in_frame = subst (λ x. IsAttrInFrame number attr_size (filled.0 ++ there.0) x) (sym same_attr) (frame_remains number first attr_size filled.0 there.0 attr filled.2);
            ids = subst (λ xs. HoldsSectionEntry number xs e.ids) (sym ids_entry) (subst (λ x. HoldsSectionEntry number there.0 x) (sym same_ids) there.1);
          },
        )

    pub entry_there : (a b c : State) (at : ℕ) (attr : PerfEventAttr) (s : PerfFileSection) (e : EventTypeEntry) → e.attr ≡ attr → e.ids ≡ s → ItemRead (IsAttrInFrame number attr_size) a at attr b → ItemRead (HoldsSectionEntry number) b (at + attr_size) s c
        → ItemRead (IsEventTypeEntry number attr_size) a at e c
    entry_there a b c at attr s e same_attr same_ids frame ids_entry = record {
      after_seek = after_seek_more a b c frame.after_seek ids_entry.after_seek;
      is_possible = some_entry attr s frame.is_possible ids_entry.is_possible e same_attr same_ids;
      matches = if_some_both (all_bytes_of a.position) (λ all. IsAttrInFrame number attr_size (drop at all) attr) (λ all. HoldsSectionEntry number (drop (at + attr_size) all) s) (λ all. IsEventTypeEntry number attr_size (drop at all) e)
          (λ all framed there. record {
            attr_in_frame = subst (λ x. IsAttrInFrame number attr_size (drop at all) x) (sym same_attr) framed;
            ids = subst (λ xs. HoldsSectionEntry number xs e.ids) (sym (drop-drop attr_size at all)) (subst (λ x. HoldsSectionEntry number (drop (at + attr_size) all) x) (sym same_ids) there);
          })
          frame.matches (subst (λ o. IfSome o (λ all. HoldsSectionEntry number (drop (at + attr_size) all) s)) frame.after_seek.all_bytes ids_entry.matches);
    }

    pub entry_truncated : (a b c : State) (at : ℕ) (attr : PerfEventAttr) (e : Error) → ItemRead (IsAttrInFrame number attr_size) a at attr b
        → AfterSeek b c × (e ≢ Memory → ReadOrSeekErrorAt (IsTruncationOf (IsShorterThan 16)) (IsReadErrorOf (IsShorterThan 16)) b (at + attr_size) e c) → AfterSeek a c × (e ≢ Memory → EventTypeEntryReadError number attr_size a at e c)
    entry_truncated a b c at attr e frame read_error = (
      after_seek_more a b c frame.after_seek read_error.0,
      λ ne. inr (record { attr = attr; is_possible = frame.is_possible; matches = frame.matches; error = truncated_later_at 16 a b c (at + attr_size) e frame.after_seek (read_error.1 ne) }),
    )

    -- an error from a later state is also one from the earlier state
    pub entry_later : (a b c : State) (at : ℕ) (e : Error) → AfterSeek a b → EventTypeEntryReadError number attr_size b at e c → EventTypeEntryReadError number attr_size a at e c
    entry_later a b c at e after_seek read_error = elim read_error [
      | inl frame ↦ inl (error_later (ConsumesFrameError number attr_size) (IsFrameReadError number attr_size) (frame_carries number first attr_size) a b c at e after_seek frame)
      | inr truncated ↦ inr (record {
        attr = truncated.attr;
        is_possible = truncated.is_possible;
        matches = subst (λ o. IfSome o (λ all. IsAttrInFrame number attr_size (drop at all) truncated.attr)) after_seek.all_bytes truncated.matches;
        error = truncated_later_at 16 a b c (at + attr_size) e after_seek truncated.error;
      })
    ]

  -- ---- the ids of an entry

  pub ids_there : (a b c : State) (s : PerfFileSection) (n : ℕ) (ids : List ℕ) → EndFitsU64 s → SeekSucceeded a (Start s.offset) n b → PartRead (AreIds number (s.size / 8)) b ids c → AfterSeek a c × AreSectionIds number (all_bytes_of a.position) s ids
  ids_there a b c s n ids end_fits seek was_read =
      let one = read_there (BeginsWithIds number (s.size / 8)) a b c s.offset n was_read.bytes ids seek was_read.consumes (λ rest. ids_stay number first (s.size / 8) was_read.bytes rest ids was_read.matches) in
      (one.after_seek, record { end_fits = end_fits; count = ap length was_read.matches.1 ∙ numbers_long number (s.size / 8) was_read.bytes; elements = one.matches })

  -- the source is then positioned after them
  pub ids_position : (a b c : State) (s : PerfFileSection) (n : ℕ) (ids : List ℕ) → SeekSucceeded a (Start s.offset) n b → PartRead (AreIds number (s.size / 8)) b ids c → c.position ≡ at_offset (ids_end s) a.position
  ids_position a b c s n ids seek was_read = seek_then_consumed a b c s.offset n was_read.bytes seek was_read.consumes ∙ ap (λ k. at_offset (s.offset + k) a.position) was_read.matches.0

  pub ids_error : (a b c : State) (s : PerfFileSection) (n : ℕ) (error : AppendError) (e : Error) → EndFitsU64 s → SeekSucceeded a (Start s.offset) n b → ReadsIds number (s.size / 8) b (Err error) c → e ≡ file_error_of error
      → AfterSeek a c × (e ≢ Memory → SectionIdsReadError number (λ final. final ≡ a) a s e c)
  ids_error a b c s n NoMemory e end_fits seek some is = (after_seek_more a b c seek.after_seek (consumed-after_seek b c some.bytes seek.after_seek.from_position some.consumes), λ ne. absurd (ne is))
  ids_error a b c s n (Source error) e end_fits seek truncated is =
      subst (λ e. AfterSeek a c × (e ≢ Memory → SectionIdsReadError number (λ final. final ≡ a) a s e c)) (sym is)
      (let there = truncated_there a b c s.offset n (8 * (s.size / 8)) error seek (truncated_next b c (8 * (s.size / 8)) error truncated) in
      (there.0, λ ne. inr (end_fits, there.1 ne)))

  -- the end of the ids exceeds 64 bits, and the source is unchanged
  pub ids_end_overflows : (a : State) (s : PerfFileSection) → RemainsFromPosition a → EndOverflowsU64 s → AfterSeek a a × (Read OfAttr ≢ Memory → SectionIdsReadError number (λ final. final ≡ a) a s (Read OfAttr) a)
  ids_end_overflows a s from_position overflows = (consumed-after_seek a a [] from_position (consumed_none a), λ ne. inl (overflows, refl, refl))

  ids_later : (P Q : State → Type 0) (a b c : State) (s : PerfFileSection) (e : Error) → (P c → Q c) → AfterSeek a b → SectionIdsReadError number P b s e c → SectionIdsReadError number Q a s e c
  ids_later P Q a b c s e stands after_seek read_error = elim read_error [
    | inl overflows ↦ inl (overflows.0, overflows.1, stands overflows.2)
    | inr end_fits ↦ inr (end_fits.0, truncated_later_at (8 * (s.size / 8)) a b c s.offset e after_seek end_fits.1)
  ]

  -- ---- the descriptions of entries

  module _ (all_bytes : Option (List ℕ)) (names : ℕ → Option (List ℕ)) where
    descriptions_push : (k : ℕ) (entries : List EventTypeEntry) (ds : List AttributeDescription) (entry : EventTypeEntry) (d : AttributeDescription) → AreEntryDescriptions number all_bytes names k entries ds → IsEntryDescription number all_bytes names (k + length entries) entry d
        → AreEntryDescriptions number all_bytes names k (entries ++ entry ∷ []) (ds ++ d ∷ [])
    descriptions_push k [] [] entry d before here = (let e : k + 0 ≡ k = omega arith in subst (λ i. IsEntryDescription number all_bytes names i entry d) e here, tt)
    descriptions_push k [] (y ∷ ys) entry d before here = absurd before
    descriptions_push k (x ∷ xs) [] entry d before here = absurd before
    descriptions_push k (x ∷ xs) (y ∷ ys) entry d before here =
        let e : k + suc (length xs) ≡ (k + 1) + length xs = omega arith in
        (before.0, descriptions_push (k + 1) xs ys entry d before.1 (subst (λ i. IsEntryDescription number all_bytes names i entry d) e here))

    -- one more entry is described
    pub descriptions_more : (entries : List EventTypeEntry) (i : ℕ) (z : EventTypeEntry) (ds now : List AttributeDescription) (d : AttributeDescription) → i < length entries → AreEntryDescriptions number all_bytes names 0 (take i entries) ds → now ≡ ds ++ d ∷ []
        → IsEntryDescription number all_bytes names i (get_or entries i z) d → AreEntryDescriptions number all_bytes names 0 (take (i + 1) entries) now
    descriptions_more entries i z ds now d low before pushed here =
        let long : 0 + length (take i entries) ≡ i = omega (arith, length-take-le i entries (omega arith)) in
        subst (λ l. AreEntryDescriptions number all_bytes names 0 l now) (sym (take_more entries i z low))
        (subst (λ l. AreEntryDescriptions number all_bytes names 0 (take i entries ++ get_or entries i z ∷ []) l) (sym pushed)
        (descriptions_push 0 (take i entries) ds (get_or entries i z) d before (subst (λ k. IsEntryDescription number all_bytes names k (get_or entries i z) d) (sym long) here)))

    -- all entries are described
    pub descriptions_of_all : (entries : List EventTypeEntry) (i : ℕ) (ds : List AttributeDescription) → length entries ≤ i → AreEntryDescriptions number all_bytes names 0 (take i entries) ds → AreEntryDescriptions number all_bytes names 0 entries ds
    descriptions_of_all entries i ds past before = subst (λ l. AreEntryDescriptions number all_bytes names 0 l ds) (take_all i entries past) before

    -- the next entry has an error
    pub descriptions_stops : (entries : List EventTypeEntry) (i : ℕ) (z : EventTypeEntry) (ds : List AttributeDescription) (Stops : List EventTypeEntry → PerfFileSection → Type 0) → i < length entries → AreEntryDescriptions number all_bytes names 0 (take i entries) ds → Stops (take i entries) ((get_or entries i z).ids)
        → ErrorAtSectionIds number all_bytes names entries Stops
    descriptions_stops entries i z ds Stops low before here = record {
      before = take i entries;
      failing_entry = get_or entries i z;
      after = drop (suc i) entries;
      elements = sym (take-append-drop i entries) ∙ ap (λ r. take i entries ++ r) (drop-cons entries i z low);
      descriptions = ds;
      descriptions_match = before;
      error_here = here;
    }

  -- ids that are read from a later state are those of an entry
  pub descriptions_one : (names : ℕ → Option (List ℕ)) (i : ℕ) (a b : State) (entry : EventTypeEntry) (d : AttributeDescription) → AfterSeek a b → attr_in d ≡ entry.attr → name_in d ≡ names i → AreSectionIds number (all_bytes_of b.position) entry.ids (ids_in d)
      → IsEntryDescription number (all_bytes_of a.position) names i entry d
  descriptions_one names i a b entry d after_seek attr name ids = record { attr = attr; name = name; ids = subst (λ o. AreSectionIds number o entry.ids (ids_in d)) after_seek.all_bytes ids }

  position_after_push : (position : Option Position) (entries : List EventTypeEntry) (entry : EventTypeEntry) → position_after_ids position (entries ++ entry ∷ []) ≡ at_offset (ids_end entry.ids) (position_after_ids position entries)
  position_after_push position [] entry = refl
  position_after_push position (x ∷ xs) entry = position_after_push (at_offset (ids_end x.ids) position) xs entry

  -- the source is positioned after the ids of one more entry
  pub after_more : (start b c : Option Position) (entries : List EventTypeEntry) (i : ℕ) (z : EventTypeEntry) → i < length entries → b ≡ position_after_ids start (take i entries) → c ≡ at_offset (ids_end ((get_or entries i z).ids)) b
      → c ≡ position_after_ids start (take (i + 1) entries)
  after_more start b c entries i z low before here =
      here ∙ ap (at_offset (ids_end ((get_or entries i z).ids))) before ∙ sym (position_after_push start (take i entries) (get_or entries i z)) ∙ ap (position_after_ids start) (sym (take_more entries i z low))

  -- reading the ids of the next entry failed
  pub descriptions_error : (names : ℕ → Option (List ℕ)) (a b c : State) (entries : List EventTypeEntry) (i : ℕ) (z : EventTypeEntry) (ds : List AttributeDescription) (e : Error) → AfterSeek a b → i < length entries → AreEntryDescriptions number (all_bytes_of a.position) names 0 (take i entries) ds
      → b.position ≡ position_after_ids a.position (take i entries) → b.pauses ≡ a.pauses → AfterSeek b c × (e ≢ Memory → SectionIdsReadError number (λ final. final ≡ b) b ((get_or entries i z).ids) e c)
      → AfterSeek a c × (e ≢ Memory → ErrorAtSectionIds number (all_bytes_of a.position) names entries (λ before s. SectionIdsReadError number (IsAfterIds a a.position before) a s e c))
  descriptions_error names a b c entries i z ds e after_seek low before position pauses read_error = (
    after_seek_more a b c after_seek read_error.0,
    λ ne. descriptions_stops (all_bytes_of a.position) names entries i z ds (λ before s. SectionIdsReadError number (IsAfterIds a a.position before) a s e c) low before
        (ids_later (λ final. final ≡ b) (IsAfterIds a a.position (take i entries)) a b c ((get_or entries i z).ids) e
        (λ same. record { position = ap (λ s. s.position) same ∙ position; pauses = ap (λ s. s.pauses) same ∙ pauses }) after_seek (read_error.1 ne)),
  )

-- ---- the section

items_read_after_seek : (number : ℕ → List ℕ → ℕ) (attr_size : ℕ) (a b c : State) (offset size : ℕ) (entries : List EventTypeEntry) → AfterSeek b c → ItemsRead (IsEventTypeEntry number attr_size) (attr_size + 16) a offset size entries b
    → ItemsRead (IsEventTypeEntry number attr_size) (attr_size + 16) a offset size entries c
items_read_after_seek number attr_size a b c offset size entries after_seek entries_read = record { after_seek = after_seek_more a b c entries_read.after_seek after_seek; count = entries_read.count; is_possible = entries_read.is_possible; matches = entries_read.matches }

module _ (number : ℕ → List ℕ → ℕ) (attr_size : ℕ) (names : ℕ → Option (List ℕ)) (s : PerfFileSection) where
  is_in_range : attr_size ≤ 2 ^ 64 - 1 - 16 → s.offset ≤ 2 ^ 64 - 1 - s.size → s.size < 2 ^ 64 → ¬ IsOutOfRange number attr_size names s
  is_in_range low end_fits fits overflows = elim overflows [ inl a ↦ omega arith | inr b ↦ omega arith ]

  -- the descriptions of the entries are those of their section
  described_read : (a b c : State) (entries : List EventTypeEntry) (v : Vec AttributeDescription Global) → attr_size ≤ 2 ^ 64 - 1 - 16 → s.offset ≤ 2 ^ 64 - 1 - s.size → s.size < 2 ^ 64
      → ItemsRead (IsEventTypeEntry number attr_size) (attr_size + 16) a s.offset s.size entries b → DescribesEntries number names b entries (Ok v) c → (¬ IsOutOfRange number attr_size names s) × EntriesRead number attr_size names s a v.items c
  described_read a b c entries v low end_fits fits entries_read described = (
    is_in_range low end_fits fits,
    record {
      entries = entries;
      entries_match = items_read_after_seek number attr_size a b c s.offset s.size entries described.0 entries_read;
      descriptions_match = subst (λ o. AreEntryDescriptions number o names 0 entries v.items) entries_read.after_seek.all_bytes described.1;
    },
  )

  -- the source is positioned after the entries, if there are any
  abbrev pub IsAfterEntries : State → State → List EventTypeEntry → Type 0
  IsAfterEntries a b entries = (0 < length entries → b.position ≡ at_offset (s.offset + length entries * (attr_size + 16)) a.position) × (b.pauses ≡ a.pauses)

  module _ (first : ReadsFirst number) where
    ids_error_later : (a b c : State) (at : Option Position) (entries : List EventTypeEntry) (e : Error) → AfterSeek a b → (0 < length entries → b.position ≡ at) → b.pauses ≡ a.pauses
        → ErrorAtSectionIds number (all_bytes_of b.position) names entries (λ before s. SectionIdsReadError number (IsAfterIds b b.position before) b s e c)
        → ErrorAtSectionIds number (all_bytes_of a.position) names entries (λ before s. SectionIdsReadError number (IsAfterIds a at before) a s e c)
    ids_error_later a b c at entries e after_seek position pauses stops =
        let some : 0 < length entries = omega (arith, ap length stops.elements, length-append stops.before (stops.failing_entry ∷ stops.after)) in
        record {
          before = stops.before;
          failing_entry = stops.failing_entry;
          after = stops.after;
          elements = stops.elements;
          descriptions = stops.descriptions;
          descriptions_match = subst (λ o. AreEntryDescriptions number o names 0 stops.before stops.descriptions) after_seek.all_bytes stops.descriptions_match;
          error_here = ids_later number first (IsAfterIds b b.position stops.before) (IsAfterIds a at stops.before) a b c stops.failing_entry.ids e
              (λ stands. record { position = stands.position ∙ ap (λ p. position_after_ids p stops.before) (position some); pauses = stands.pauses ∙ pauses }) after_seek stops.error_here;
        }

    -- reading the ids of an entry failed
    described_error : (a b c : State) (entries : List EventTypeEntry) (e : Error) → IsAfterEntries a b entries → attr_size ≤ 2 ^ 64 - 1 - 16 → s.offset ≤ 2 ^ 64 - 1 - s.size → s.size < 2 ^ 64
        → ItemsRead (IsEventTypeEntry number attr_size) (attr_size + 16) a s.offset s.size entries b → DescribesEntries number names b entries (Err e) c
        → (¬ IsOutOfRange number attr_size names s) × (AfterSeek a c × (e ≢ Memory → EntriesReadError number attr_size names s a e c))
    described_error a b c entries e stands low end_fits fits entries_read described = (
      is_in_range low end_fits fits,
      (
        after_seek_more a b c entries_read.after_seek described.0,
        λ ne. inr (record {
          entries = entries;
          entries_match = items_read_after_seek number attr_size a b c s.offset s.size entries described.0 entries_read;
          error = ids_error_later a b c (at_offset (s.offset + length entries * (attr_size + 16)) a.position) entries e entries_read.after_seek stands.0 stands.1 (described.1 ne);
        }),
      ),
    )

    -- the result of describing the entries is that of their section
    pub described_result : (a b c : State) (entries l : List EventTypeEntry) (r : Result (Vec AttributeDescription Global) Error) → l ≡ entries → IsAfterEntries a b entries → attr_size ≤ 2 ^ 64 - 1 - 16 → s.offset ≤ 2 ^ 64 - 1 - s.size → s.size < 2 ^ 64
        → ItemsRead (IsEventTypeEntry number attr_size) (attr_size + 16) a s.offset s.size entries b → DescribesEntries number names b l r c → ReadsDescriptions number attr_size names s a r c
    described_result a b c entries l (Ok v) same stands low end_fits fits entries_read described = described_read a b c entries v low end_fits fits entries_read (subst (λ l. DescribesEntries number names b l (Ok v) c) same described)
    described_result a b c entries l (Err e) same stands low end_fits fits entries_read described = inr (described_error a b c entries e stands low end_fits fits entries_read (subst (λ l. DescribesEntries number names b l (Err e) c) same described))

  -- ---- facts on all bytes of the source

  entries_if_known : (o : Option (List ℕ)) (entries : List EventTypeEntry) (ds : List AttributeDescription) → IfSome o (λ all. AreItems (IsEventTypeEntry number attr_size) (attr_size + 16) s.offset s.size all entries) → AreEntryDescriptions number o names 0 entries ds
      → IfSome o (λ all. DescribesByEntries number attr_size names s all ds)
  entries_if_known None entries ds entries_read described = tt
  entries_if_known (Some all) entries ds entries_read described = record { entries = entries; entries_match = entries_read; descriptions_match = described }

  -- all bytes contain what was read
  pub entries_described : (old : State) (ds : List AttributeDescription) (new : State) → EntriesRead number attr_size names s old ds new → IfSome (all_bytes_of old.position) (λ all. DescribesByEntries number attr_size names s all ds)
  entries_described old ds new was_read = entries_if_known (all_bytes_of old.position) was_read.entries ds was_read.entries_match.matches was_read.descriptions_match

  ids_error_if_known : (o : Option (List ℕ)) (entries : List EventTypeEntry) (e : Error) (Stops : List EventTypeEntry → PerfFileSection → Type 0) → IfSome o (λ all. AreItems (IsEventTypeEntry number attr_size) (attr_size + 16) s.offset s.size all entries)
      → (stops : ErrorAtSectionIds number o names entries Stops) → IfSome o (λ all. IsSectionIdsError number e stops.failing_entry.ids all) → IfSome o (λ all. IsEntriesError number attr_size names s e all)
  ids_error_if_known None entries e Stops entries_read stops here = tt
  ids_error_if_known (Some all) entries e Stops entries_read stops here = inr (record {
    entries = entries;
    entries_match = entries_read;
    error = record { before = stops.before; failing_entry = stops.failing_entry; after = stops.after; elements = stops.elements; descriptions = stops.descriptions; descriptions_match = stops.descriptions_match; error_here = here };
  })

  -- reading the ids of a section failed: all bytes show it, or the source failed or paused
  ids_source_error : (P : State → Type 0) (a c : State) (t : PerfFileSection) (e : Error) → SectionIdsReadError number P a t e c → IfSome (all_bytes_of a.position) (λ all. IsSectionIdsError number e t all) ⊎ IsAttributesSourceError a e c
  ids_source_error P a c t e read_error = elim read_error [
    | inl overflows ↦ inl (if_some_any (all_bytes_of a.position) (λ all. IsSectionIdsError number e t all) (λ all. inl (overflows.0, overflows.1)))
    | inr end_fits ↦ elim (truncated_source_error (8 * (t.size / 8)) a c t.offset e end_fits.1) [
      | inl is_visible ↦ inl (if_some_more (all_bytes_of a.position) (λ all. IsUnexpectedEof e × (length (drop t.offset all) < 8 * (t.size / 8))) (λ all. IsSectionIdsError number e t all) (λ all truncated. inr (end_fits.0, truncated.0, truncated.1)) is_visible)
      | inr source_error ↦ inr source_error
    ]
  ]

  entry_error_in_bytes : (o : Option (List ℕ)) (e : Error) (before : List EventTypeEntry) → length before < s.size / (attr_size + 16) → IfSome o (λ all. ItemsAt (IsEventTypeEntry number attr_size) (attr_size + 16) all s.offset before)
      → IfSome o (λ all. IsEventTypeEntryError number attr_size e (drop (s.offset + length before * (attr_size + 16)) all)) → IfSome o (λ all. IsEntriesError number attr_size names s e all)
  entry_error_in_bytes o e before too_few each here = if_some_both o _ _ (λ all. IsEntriesError number attr_size names s e all) (λ all entries_read none. inl (record { before = before; too_few = too_few; items_match = entries_read; error_here = none })) each here

  entry_source_error : (a c : State) (at : ℕ) (e : Error) → EventTypeEntryReadError number attr_size a at e c → IfSome (all_bytes_of a.position) (λ all. IsEventTypeEntryError number attr_size e (drop at all)) ⊎ IsAttributesSourceError a e c
  entry_source_error a c at e read_error = elim read_error [
    | inl frame ↦ elim frame [
      | inl there ↦ elim there.cause [
        | inl is_visible ↦ inl (if_some_more (all_bytes_of a.position) (λ all. ConsumesFrameError number attr_size e there.consumed_bytes (drop at all)) (λ all. IsEventTypeEntryError number attr_size e (drop at all)) (λ all none. inl none.0) is_visible.1)
        | inr source ↦ inr (inr (inr (source.0.0, source.1)))
      ]
      | inr seek ↦ inr (inl seek)
    ]
    | inr truncated ↦ elim (truncated_source_error 16 a c (at + attr_size) e truncated.error) [
      | inl is_visible ↦ inl (if_some_both (all_bytes_of a.position) (λ all. IsAttrInFrame number attr_size (drop at all) truncated.attr) (λ all. IsUnexpectedEof e × (length (drop (at + attr_size) all) < 16)) (λ all. IsEventTypeEntryError number attr_size e (drop at all))
          (λ all framed none. inr ((truncated.attr, framed), none.0, subst (λ l. length l < 16) (sym (drop-drop attr_size at all)) none.1))
          truncated.matches is_visible)
      | inr source_error ↦ inr source_error
    ]
  ]

  -- all bytes show the first error, or the source failed or paused
  pub entries_source_error : (old : State) (e : Error) (new : State) → EntriesReadError number attr_size names s old e new → IfSome (all_bytes_of old.position) (λ all. IsEntriesError number attr_size names s e all) ⊎ IsAttributesSourceError old e new
  entries_source_error old e new stops = elim stops [
    | inl entries_read ↦ elim (entry_source_error old new (s.offset + length entries_read.before * (attr_size + 16)) e entries_read.error) [
      | inl is_visible ↦ inl (entry_error_in_bytes (all_bytes_of old.position) e entries_read.before entries_read.too_few entries_read.elements is_visible)
      | inr source_error ↦ inr source_error
    ]
    | inr ids ↦
        let at = at_offset (s.offset + length ids.entries * (attr_size + 16)) old.position in
        elim (ids_source_error (IsAfterIds old at ids.error.before) old new ids.error.failing_entry.ids e ids.error.error_here) [
          | inl is_visible ↦ inl (ids_error_if_known (all_bytes_of old.position) ids.entries e (λ before t. SectionIdsReadError number (IsAfterIds old at before) old t e new) ids.entries_match.matches ids.error is_visible)
          | inr source_error ↦ inr source_error
        ]
  ]
