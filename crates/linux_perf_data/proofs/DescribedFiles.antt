-- The description of a file is unique, and a file that opens has no error.
use Rattle.std.proofs.Common.{◌≡◌, ℕ, zero, suc, ◌+◌, ◌-◌, ◌*◌, ◌<◌, List, [], ◌∷◌, ◌++◌, length, drop, map, refl, sym, ap, ◌∙◌, subst, inl, inr, arith, Option, None, Some}
use Rattle.std.specs.Prelude.{All}
use Rattle.std.proofs.lemmas.List.Elements.{All-head, All-tail}
use Rattle.perfdata_sources.specs.Source.{Position}
use Rattle.perfdata_base.specs.Section.{EndFitsU64}
use Rattle.perfdata_sources.specs.Endian.{number_in}
use Rattle.perfdata_identifiers.specs.Features.{features_of}
use Rattle.perfdata_sources.specs.declared.attr.PerfEventAttr.{PerfEventAttr}
use Rattle.perfdata_base.specs.declared.section.PerfFileSection.{PerfFileSection}
use Rattle.perfdata_sources.specs.declared.endian.Endianness.{Endianness}
use Rattle.perfdata_sources.specs.declared.endian.Endianness.TheVariants.{LittleEndian}
use Rattle.perfdata_base.specs.declared.header.PerfHeader.{PerfHeader}
use Rattle.perfdata_sources.proofs.Numbers.{in_reads_first}
use Rattle.perfdata_sections.specs.AttributeDescription.{DescribedEvent, attr_in, ids_in, events_in}
use Rattle.perfdata_sections.specs.AttrFrames.{IsAttrInFrame, IsFrameError, IsPlainDescription}
use Rattle.perfdata_sections.specs.Error.{IsUnexpectedEof, IsInvalidInput}
use Rattle.perfdata_sections.specs.EventDesc.{DescribesByEventDesc}
use Rattle.perfdata_sections.specs.EventTypes.{type_name_at, IsEventTypeEntry, IsEventTypeEntryError, AreSectionIds, IsSectionIdsError, AreEntryDescriptions, DescribesByEntries, IsEntriesError}
use Rattle.perfdata_sections.specs.Items.{ItemsAt}
use Rattle.perfdata_sections.specs.declared.feature_sections.AttributeDescription.{AttributeDescription}
use Rattle.perfdata_sections.specs.declared.event_type.SimplePerfEventType.{SimplePerfEventType}
use Rattle.perfdata_simpleperf.specs.EventTypeInfo.{event_type_of}
use Rattle.perfdata_sections.specs.declared.error.Error.{Error}
use Rattle.perfdata_sections.specs.declared.error.Error.TheVariants.{Read, UnrecognizedMagicValue, InconsistentAttributeSizes, StringUtf8, NoEventTypesInSimpleperfMetaInfo}
use Rattle.perfdata_sections.specs.declared.error.ReadError.TheVariants.{PerfEventAttr as OfAttr}
use Rattle.perfdata_sections.proofs.EventPrefixes.{event_desc_is_unique, event_desc_or_error}
use Rattle.linux_perf_data.specs.Attribute.{Attribute, AreConsistent}
use Rattle.linux_perf_data.specs.AttributeSources.{NamesEventTypes, IsMetaInfoError, DescribesBySections, DescribesByAttrs, DescribesWith, IsSectionsError, IsAttrSectionError, IsSourcesErrorWith}
use Rattle.linux_perf_data.specs.Descriptions.{described_attribute, described_attributes}
use Rattle.linux_perf_data.specs.Laws.{TruncatedHeaderFails, FarHeaderFails, UnknownMagicFails}
use Rattle.linux_perf_data.specs.FileOpening.{table_offset, HoldsSections, section_data, DescribesAttributes, IsAttributesError, IsErrorAfterHeader, HasHeader, IsFileError}
use Rattle.linux_perf_data.specs.FeatureNumbers.{event_desc, simpleperf_meta_info}
use Rattle.linux_perf_data.specs.OpenedFile.{DescribesFile}
use Rattle.linux_perf_data.specs.PerfFile.{endian_of_file, descriptions_of_file}
use Rattle.linux_perf_data.specs.FeatureData.{FeatureEntry as TableEntry, HoldsSection, SectionTruncated, SectionsTruncated}
use Rattle.linux_perf_data.specs.declared.perf_file.PerfFile.{PerfFile}
use Rattle.linux_perf_data.proofs.PipeOpeningUniqueness.{same_order}
use Rattle.linux_perf_data.proofs.ConsistencyLemmas.{consistent_not_inconsistent}

-- an entry of the attribute section
abbrev pub Described : {E : Type 0} → (List ℕ → E → Type 0) → Type 0
Described {E} IsOne = E

abbrev pub Entry : Type 0
Entry = Described (IsEventTypeEntry (number_in LittleEndian) 0)

-- ---- consecutive items

module _ {D : Type 0} (IsOne : List ℕ → D → Type 0) (step : ℕ) (all : List ℕ) where
  pub run_at : (n at : ℕ) (ds : List D) → ItemsAt IsOne step all at ds → n < length ds → (d : D) × IsOne (drop (at + n * step) all) d
  run_at n at [] run fewer = absurd (omega (arith, fewer))
  run_at zero at (d ∷ ds) (is, more) fewer =
      let here : at ≡ at + 0 * step = omega arith in
      (d, subst (λ k. IsOne (drop k all) d) here is)
  run_at (suc n) at (d ∷ ds) (is, more) fewer =
      let there = run_at n (at + step) ds more (omega (arith, fewer)) in
      let here : at + step + n * step ≡ at + suc n * step = omega arith in
      (there.0, subst (λ k. IsOne (drop k all) there.0) here there.1)

  pub run_alike : {B : Type 0} (f : D → B) → ((xs : List ℕ) (d e : D) → IsOne xs d → IsOne xs e → f d ≡ f e) → (at : ℕ) (ds es : List D) → length ds ≡ length es → ItemsAt IsOne step all at ds → ItemsAt IsOne step all at es → map f ds ≡ map f es
  run_alike f same at [] [] long x y = refl
  run_alike f same at [] (e ∷ es) long x y = absurd (omega (arith, long))
  run_alike f same at (d ∷ ds) [] long x y = absurd (omega (arith, long))
  run_alike f same at (d ∷ ds) (e ∷ es) long (is, more) (is', more') =
      ap (λ b. b ∷ map f ds) (same (drop at all) d e is is') ∙ ap (λ l. f e ∷ l) (run_alike f same (at + step) ds es (omega (arith, long)) more more')

  pub run_one : ((xs : List ℕ) (d e : D) → IsOne xs d → IsOne xs e → d ≡ e) → (at : ℕ) (ds es : List D) → length ds ≡ length es → ItemsAt IsOne step all at ds → ItemsAt IsOne step all at es → ds ≡ es
  run_one same at [] [] long x y = refl
  run_one same at [] (e ∷ es) long x y = absurd (omega (arith, long))
  run_one same at (d ∷ ds) [] long x y = absurd (omega (arith, long))
  run_one same at (d ∷ ds) (e ∷ es) long (is, more) (is', more') =
      ap (λ b. b ∷ ds) (same (drop at all) d e is is') ∙ ap (λ l. e ∷ l) (run_one same (at + step) ds es (omega (arith, long)) more more')

module _ (number : ℕ → List ℕ → ℕ) where
  -- ---- padded attributes

  pub frame_no_error : (size : ℕ) (e : Error) (xs : List ℕ) (a : PerfEventAttr) → IsAttrInFrame number size xs a → IsFrameError number size e xs → ⊥
  frame_no_error size (Read OfAttr) xs a framed (inl (inl truncated)) = let least = framed.matches.min_size in let there = framed.matches.complete in omega (arith, truncated, least, there)
  frame_no_error size (Read OfAttr) xs a framed (inl (inr (least, within, truncated))) = let there = framed.matches.complete in omega (arith, truncated, there)
  frame_no_error size (Read OfAttr) xs a framed (inr (big_enough, small)) = let least = framed.matches.min_size in omega (arith, small, least)
  frame_no_error size (InconsistentAttributeSizes own all) xs a framed (big_enough, is, are, least, above) = let within = framed.within in omega (arith, is, within, above)
  frame_no_error size _ xs a framed none = absurd none

  attribute_same : (d e : AttributeDescription) → attr_in d ≡ attr_in e → ids_in d ≡ ids_in e → described_attribute d ≡ described_attribute e
  attribute_same d e attr ids =
      let one : described_attribute d ≡ (let a : Attribute = record { attr = attr_in e; ids = ids_in d } in a) = ap (λ x. record { attr = x; ids = ids_in d }) attr in
      let two : (let a : Attribute = record { attr = attr_in e; ids = ids_in d } in a) ≡ described_attribute e = ap (λ x. record { attr = attr_in e; ids = x }) ids in
      one ∙ two

  described_alike : (size : ℕ) (xs : List ℕ) (d e : AttributeDescription) → IsPlainDescription number size xs d → IsPlainDescription number size xs e → described_attribute d ≡ described_attribute e
  described_alike size xs d e x y = attribute_same d e (x.attr_in_frame.matches.matches ∙ sym y.attr_in_frame.matches.matches) (x.ids ∙ sym y.ids)

  -- ---- entries

  entry_same : (d e : Entry) → d.attr ≡ e.attr → d.ids ≡ e.ids → d ≡ e
  entry_same d e attr ids =
      let one : d ≡ (let a : Entry = record { attr = e.attr; ids = d.ids } in a) = ap (λ x. record { attr = x; ids = d.ids }) attr in
      let two : (let a : Entry = record { attr = e.attr; ids = d.ids } in a) ≡ e = ap (λ x. record { attr = e.attr; ids = x }) ids in
      one ∙ two

  pub entry_one : (size : ℕ) (xs : List ℕ) (d e : Entry) → IsEventTypeEntry number size xs d → IsEventTypeEntry number size xs e → d ≡ e
  entry_one size xs d e x y = entry_same d e (x.attr_in_frame.matches.matches ∙ sym y.attr_in_frame.matches.matches) (x.ids.1 ∙ sym y.ids.1)

  pub entry_no_error : (size : ℕ) (e : Error) (xs : List ℕ) (d : Entry) → IsEventTypeEntry number size xs d → IsEventTypeEntryError number size e xs → ⊥
  entry_no_error size e xs d is (inl none) = frame_no_error size e xs d.attr is.attr_in_frame none
  entry_no_error size e xs d is (inr (framed, truncated, fewer)) = let there = is.ids.0 in omega (arith, fewer, there)

  pub ids_no_error : (e : Error) (s : PerfFileSection) (all ids : List ℕ) → AreSectionIds number (Some all) s ids → IsSectionIdsError number e s all → ⊥
  ids_no_error e s all ids is (inl (far, read)) = let end_fits_u64 = is.end_fits in omega (arith, far, end_fits_u64)
  ids_no_error e s all ids is (inr (end_fits_u64, truncated, fewer)) = let there = is.elements.0 in omega (arith, fewer, there)

  module _ (all : List ℕ) where
    given_long : (names : ℕ → Option (List ℕ)) (i : ℕ) (entries : List Entry) (ds : List AttributeDescription) → AreEntryDescriptions number (Some all) names i entries ds → length ds ≡ length entries
    given_long names i [] [] is = refl
    given_long names i [] (d ∷ ds) is = absurd is
    given_long names i (x ∷ xs) [] is = absurd is
    given_long names i (x ∷ xs) (d ∷ ds) (is, more) = ap suc (given_long names (i + 1) xs ds more)

    given_alike : (names others : ℕ → Option (List ℕ)) (i : ℕ) (entries : List Entry) (ds es : List AttributeDescription) → AreEntryDescriptions number (Some all) names i entries ds → AreEntryDescriptions number (Some all) others i entries es → described_attributes ds ≡ described_attributes es
    given_alike names others i [] [] [] x y = refl
    given_alike names others i [] (d ∷ ds) es x y = absurd x
    given_alike names others i [] [] (e ∷ es) x y = absurd y
    given_alike names others i (t ∷ ts) [] es x y = absurd x
    given_alike names others i (t ∷ ts) (d ∷ ds) [] x y = absurd y
    given_alike names others i (t ∷ ts) (d ∷ ds) (e ∷ es) (is, more) (is', more') =
        ap (λ a. a ∷ described_attributes ds) (attribute_same d e (is.attr ∙ sym is'.attr) (is.ids.elements.1 ∙ sym is'.ids.elements.1))
        ∙ ap (λ l. described_attribute e ∷ l) (given_alike names others (i + 1) ts ds es more more')

    descriptions_no_error : (e : Error) (names : ℕ → Option (List ℕ)) (i : ℕ) (before : List Entry) (next : Entry) (after : List Entry) (ds : List AttributeDescription) → AreEntryDescriptions number (Some all) names i (before ++ next ∷ after) ds → IsSectionIdsError number e next.ids all → ⊥
    descriptions_no_error e names i [] next after [] is none = absurd is
    descriptions_no_error e names i [] next after (d ∷ ds) (is, more) none = ids_no_error e next.ids all (ids_in d) is.ids none
    descriptions_no_error e names i (b ∷ bs) next after [] is none = absurd is
    descriptions_no_error e names i (b ∷ bs) next after (d ∷ ds) (is, more) none = descriptions_no_error e names (i + 1) bs next after ds more none

    module _ (size : ℕ) (section : PerfFileSection) where
      pub entries_one : (names others : ℕ → Option (List ℕ)) (ds es : List AttributeDescription) → (x : DescribesByEntries number size names section all ds) → (y : DescribesByEntries number size others section all es) → x.entries ≡ y.entries
      entries_one names others ds es x y = run_one (IsEventTypeEntry number size) (size + 16) all (entry_one size) section.offset x.entries y.entries (x.entries_match.count ∙ sym y.entries_match.count) x.entries_match.items_match y.entries_match.items_match

      entries_alike : (names others : ℕ → Option (List ℕ)) (ds es : List AttributeDescription) → DescribesByEntries number size names section all ds → DescribesByEntries number size others section all es → described_attributes ds ≡ described_attributes es
      entries_alike names others ds es x y =
          given_alike names others 0 y.entries ds es (subst (λ l. AreEntryDescriptions number (Some all) names 0 l ds) (entries_one names others ds es x y) x.descriptions_match) y.descriptions_match

      entries_stand : (names others : ℕ → Option (List ℕ)) (e : Error) (ds : List AttributeDescription) → DescribesByEntries number size names section all ds → IsEntriesError number size others section e all → ⊥
      entries_stand names others e ds x (inl stops) =
          let fewer = stops.too_few in
          let count = x.entries_match.count in
          let here = run_at (IsEventTypeEntry number size) (size + 16) all (length stops.before) section.offset x.entries x.entries_match.items_match (omega (arith, fewer, count)) in
          entry_no_error size e (drop (section.offset + length stops.before * (size + 16)) all) here.0 here.1 stops.error_here
      entries_stand names others e ds x (inr stops) =
          let same = run_one (IsEventTypeEntry number size) (size + 16) all (entry_one size) section.offset x.entries stops.entries (x.entries_match.count ∙ sym stops.entries_match.count) x.entries_match.items_match stops.entries_match.items_match in
          let same_entries = same ∙ stops.error.elements in
          descriptions_no_error e names 0 stops.error.before stops.error.failing_entry stops.error.after ds (subst (λ l. AreEntryDescriptions number (Some all) names 0 l ds) same_entries x.descriptions_match) stops.error.error_here

-- ---- EVENT_DESC

attribute_of : DescribedEvent → Attribute
attribute_of d = record { attr = d.attr; ids = d.ids }

attributes_by_events : (ds : List AttributeDescription) → described_attributes ds ≡ map attribute_of (events_in ds)
unfolding attribute_of
attributes_by_events [] = refl
attributes_by_events (d ∷ ds) = ap (λ l. described_attribute d ∷ l) (attributes_by_events ds)

desc_alike : (order : Endianness) (desc : List ℕ) (ds es : List AttributeDescription) → DescribesByEventDesc (number_in order) desc ds → DescribesByEventDesc (number_in order) desc es → described_attributes ds ≡ described_attributes es
desc_alike order desc ds es x y =
    attributes_by_events ds ∙ ap (map attribute_of) (event_desc_is_unique (number_in order) (in_reads_first order) desc (events_in ds) (events_in es) x y) ∙ sym (attributes_by_events es)

-- ---- meta info

pub names_no_error : (info : List ℕ) (e : Error) (types : List SimplePerfEventType) → NamesEventTypes info types → IsMetaInfoError info e → ⊥
names_no_error info StringUtf8 types names none = none names.all_utf8
names_no_error info NoEventTypesInSimpleperfMetaInfo types names (texts, none) = none (map event_type_of types) names.lists_types
names_no_error info _ types names none = absurd none

module _ (order : Endianness) (h : PerfHeader) (all : List ℕ) where
  -- ---- attributes

  attrs_alike : (info : Option (List ℕ)) (ds es : List AttributeDescription) → DescribesByAttrs order h info all ds → DescribesByAttrs order h info all es → described_attributes ds ≡ described_attributes es
  attrs_alike (Some info) ds es x y = entries_alike (number_in order) all (h.attr_size - 16) h.attr_section (type_name_at x.types) (type_name_at y.types) ds es x.attributes_match y.attributes_match
  attrs_alike None ds es (can, x) (can', y) =
      run_alike (IsPlainDescription (number_in order) h.attr_size) h.attr_size all described_attribute (described_alike (number_in order) h.attr_size) h.attr_section.offset ds es (x.count ∙ sym y.count) x.items_match y.items_match

  sections_alike : (info : Option (List ℕ)) (ds es : List AttributeDescription) → DescribesBySections order h info all ds → DescribesBySections order h info all es → described_attributes ds ≡ described_attributes es
  sections_alike info ds es (inl (some, can, x)) (inl (some', can', y)) = entries_alike (number_in order) all h.attr_size h.event_types_section (type_name_at []) (type_name_at []) ds es x y
  sections_alike info ds es (inl (some, can, x)) (inr (none, y)) = absurd (some none)
  sections_alike info ds es (inr (none, x)) (inl (some, can, y)) = absurd (some none)
  sections_alike info ds es (inr (none, x)) (inr (none', y)) = attrs_alike info ds es x y

  pub with_alike : (desc info : Option (List ℕ)) (ds es : List AttributeDescription) → DescribesWith order h desc info all ds → DescribesWith order h desc info all es → described_attributes ds ≡ described_attributes es
  with_alike (Some desc) info ds es x y = desc_alike order desc ds es x y
  with_alike None info ds es x y = sections_alike info ds es x y

  section_no_error : (info : Option (List ℕ)) (e : Error) (ds : List AttributeDescription) → DescribesByAttrs order h info all ds → IsAttrSectionError order h info all e → ⊥
  section_no_error (Some info) e ds x (inl none) = names_no_error info e x.types x.names_types none
  section_no_error (Some info) e ds x (inr (types, names, inl (fewer, read))) = let size_fits = x.attr_size_fits in omega (arith, fewer, size_fits)
  section_no_error (Some info) e ds x (inr (types, names, inr (size_fits, inl (far, read)))) = x.section_valid far
  section_no_error (Some info) e ds x (inr (types, names, inr (size_fits, inr (can, stops)))) =
      entries_stand (number_in order) all (h.attr_size - 16) h.attr_section (type_name_at x.types) (type_name_at types) e ds x.attributes_match stops
  section_no_error None e ds (can, x) (inl (far, read)) = can far
  section_no_error None e ds (can, x) (inr (can', stops)) =
      let fewer = stops.too_few in
      let count = x.count in
      let here = run_at (IsPlainDescription (number_in order) h.attr_size) h.attr_size all (length stops.before) h.attr_section.offset ds x.items_match (omega (arith, fewer, count)) in
      frame_no_error (number_in order) h.attr_size e (drop (h.attr_section.offset + length stops.before * h.attr_size) all) (attr_in here.0) here.1.attr_in_frame stops.error_here

  sections_no_error : (info : Option (List ℕ)) (e : Error) (ds : List AttributeDescription) → DescribesBySections order h info all ds → IsSectionsError order h info all e → ⊥
  sections_no_error info e ds (inl (some, can, x)) (inl (some', inl (far, read))) = can far
  sections_no_error info e ds (inl (some, can, x)) (inl (some', inr (can', stops))) = entries_stand (number_in order) all h.attr_size h.event_types_section (type_name_at []) (type_name_at []) e ds x stops
  sections_no_error info e ds (inl (some, can, x)) (inr (none, stops)) = some none
  sections_no_error info e ds (inr (none, x)) (inl (some, stops)) = some none
  sections_no_error info e ds (inr (none, x)) (inr (none', stops)) = section_no_error info e ds x stops

  pub sources_no_error : (desc info : Option (List ℕ)) (e : Error) (ds : List AttributeDescription) → DescribesWith order h desc info all ds → IsSourcesErrorWith order h desc info all e → ⊥
  sources_no_error (Some desc) info e ds x stops = event_desc_or_error (number_in order) (in_reads_first order) e desc (events_in ds) stops x
  sources_no_error None info e ds x stops = sections_no_error info e ds x stops

  -- ---- after a header

  none_described : (ds : List AttributeDescription) → 0 < length ds → described_attributes ds ≡ [] → ⊥
  none_described [] some same = omega (arith, some)
  none_described (d ∷ ds) some same = let none : suc (length (described_attributes ds)) ≡ 0 = ap length same in omega (arith, none)

  attributes_no_error : (e : Error) (ds : List AttributeDescription) → 0 < length ds → AreConsistent (described_attributes ds) → DescribesAttributes order h all ds → IsAttributesError order h all e → ⊥
  attributes_no_error e ds some all_consistent is (inl stops) = sources_no_error (section_data order h all event_desc) (section_data order h all simpleperf_meta_info) e ds is stops
  attributes_no_error e ds some all_consistent is (inr (inl (e_is, none))) = none_described ds some (with_alike (section_data order h all event_desc) (section_data order h all simpleperf_meta_info) ds [] is none)
  attributes_no_error e ds some all_consistent is (inr (inr inconsistent)) =
      let same = with_alike (section_data order h all event_desc) (section_data order h all simpleperf_meta_info) ds inconsistent.descriptions is inconsistent.attributes_match in
      consistent_not_inconsistent (described_attributes inconsistent.descriptions) inconsistent.inconsistency (subst AreConsistent same all_consistent) inconsistent.is_inconsistent

  missing_none : (before : List TableEntry) (entry : TableEntry) (later : List TableEntry) → All (λ e. HoldsSection all e.1) (before ++ entry ∷ later) → SectionTruncated all entry.1 → ⊥
  missing_none [] entry later holds is_missing = let here = All-head (λ (e : TableEntry). HoldsSection all e.1) entry later holds in omega (arith, here, is_missing)
  missing_none (b ∷ bs) entry later holds is_missing = missing_none bs entry later (All-tail (λ (e : TableEntry). HoldsSection all e.1) b (bs ++ entry ∷ later) holds) is_missing

  pub holds_or_missing : HoldsSections order h all → SectionsTruncated order all (table_offset h) (features_of h.features) → ⊥
  holds_or_missing (table, holds) (inl fewer) = omega (arith, table, fewer)
  holds_or_missing (table, holds) (inr (table', one)) = missing_none one.before one.entry one.later (subst (All (λ e. HoldsSection all e.1)) one.matches holds) one.is_truncated_here

  after_header_no_error : (e : Error) (ds : List AttributeDescription) → EndFitsU64 h.data_section → HoldsSections order h all → 0 < length ds → AreConsistent (described_attributes ds) → DescribesAttributes order h all ds → IsErrorAfterHeader order h all e → ⊥
  after_header_no_error e ds end_fits_u64 holds some all_consistent is (inl (read, far)) = omega (arith, end_fits_u64, far)
  after_header_no_error e ds end_fits_u64 holds some all_consistent is (inr (inl (truncated, end_fits', is_missing))) = holds_or_missing holds is_missing
  after_header_no_error e ds end_fits_u64 holds some all_consistent is (inr (inr (end_fits', holds', stops))) = attributes_no_error e ds some all_consistent is stops

-- ---- the file

pub header_one : (p : Position) (h i : PerfHeader) → HasHeader p h → HasHeader p i → h ≡ i
header_one p h i x y = x.matches ∙ sym y.matches

-- a file that opens has no error
pub described_file_opens : (p : Position) (h : PerfHeader) (file : PerfFile) (e : Error) → DescribesFile p h file → IsFileError p e → ⊥
described_file_opens p h file e d (inl (truncated, fewer)) = let there = d.matches.has_header.complete in omega (arith, fewer, there)
described_file_opens p h file e d (inr (inl (other, has, (far, invalid)))) =
    let same = ap (λ x. x.header_size) (header_one p other h has d.matches.has_header) in
    let passes = d.matches.can_skip_extra in
    omega (arith, same, far, passes)
described_file_opens p h file e d (inr (inr (inl (other, (has, end_fits_u64, unknown, is))))) =
    unknown (endian_of_file file) (ap (λ x. x.magic) (header_one p other h has d.matches.has_header) ∙ d.matches.magic)
described_file_opens p h file e d (inr (inr (inr (order, (other, is, stops))))) =
    let same = header_one p other h is.has_header d.matches.has_header in
    let orders : order ≡ endian_of_file file = same_order order (endian_of_file file) (sym is.magic ∙ ap (λ x. x.magic) same ∙ d.matches.magic) in
    let here : IsErrorAfterHeader (endian_of_file file) h p.all_bytes e = subst (λ x. IsErrorAfterHeader (endian_of_file file) x p.all_bytes e) same (subst (λ o. IsErrorAfterHeader o other p.all_bytes e) orders stops) in
    let some = file.nonempty in
    let long = file.attributes.ok.0 in
    after_header_no_error (endian_of_file file) h p.all_bytes e (descriptions_of_file file) d.end_fits d.sections_complete (omega (arith, some, long)) d.consistent d.attributes here

-- ---- errors before the bytes after a header

pub truncated_header_fails : TruncatedHeaderFails
truncated_header_fails p fewer = (
  (λ e stops. elim stops as (λ _. IsUnexpectedEof e) [
    | inl truncated ↦ truncated.0
    | inr (inl (h, has, reason)) ↦ let there = has.complete in absurd (omega (arith, fewer, there))
    | inr (inr (inl (h, none))) ↦ let there = none.0.complete in absurd (omega (arith, fewer, there))
    | inr (inr (inr (order, (h, is, stops)))) ↦ let there = is.has_header.complete in absurd (omega (arith, fewer, there))
  ]),
  λ h file d. let there = d.matches.has_header.complete in omega (arith, fewer, there),
)

same_size : (p : Position) (h i : PerfHeader) → HasHeader p h → HasHeader p i → h.header_size ≡ i.header_size
same_size p h i x y = ap (λ x. x.header_size) (header_one p h i x y)

pub far_header_fails : FarHeaderFails
far_header_fails p h has far = (
  (λ e stops. elim stops as (λ _. IsInvalidInput e) [
    | inl (truncated, fewer) ↦ let there = has.complete in absurd (omega (arith, fewer, there))
    | inr (inl (i, has', (far', invalid))) ↦ invalid
    | inr (inr (inl (i, none))) ↦ let same = same_size p i h none.0 has in let end_fits_u64 = none.1 in absurd (omega (arith, same, far, end_fits_u64))
    | inr (inr (inr (order, (i, is, stops)))) ↦ let same = same_size p i h is.has_header has in let end_fits_u64 = is.can_skip_extra in absurd (omega (arith, same, far, end_fits_u64))
  ]),
  λ i file d. let same = same_size p i h d.matches.has_header has in let end_fits_u64 = d.matches.can_skip_extra in omega (arith, same, far, end_fits_u64),
)

pub unknown_magic_fails : UnknownMagicFails
unknown_magic_fails p h has end_fits_u64 unknown = (
  (λ e stops. elim stops as (λ _. e ≡ UnrecognizedMagicValue h.magic) [
    | inl (truncated, fewer) ↦ let there = has.complete in absurd (omega (arith, fewer, there))
    | inr (inl (i, has', (far, invalid))) ↦ let same = same_size p i h has' has in absurd (omega (arith, same, far, end_fits_u64))
    | inr (inr (inl (i, none))) ↦ none.3 ∙ ap (λ x. UnrecognizedMagicValue x.magic) (header_one p i h none.0 has)
    | inr (inr (inr (order, (i, is, stops)))) ↦ absurd (unknown order (ap (λ x. x.magic) (header_one p h i has is.has_header) ∙ is.magic))
  ]),
  λ i file d. unknown (endian_of_file file) (ap (λ x. x.magic) (header_one p h i has d.matches.has_header) ∙ d.matches.magic),
)
