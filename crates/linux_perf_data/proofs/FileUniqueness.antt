-- The bytes of a file determine its description.
use Rattle.std.proofs.Common.{◌≡◌, ℕ, ◌+◌, ◌-◌, List, [], ◌∷◌, map, refl, sym, ap, ◌∙◌, subst, inl, inr, Option, None, Some}
use Rattle.std.specs.Prelude.{slice_get, string_bytes}
use Rattle.std.proofs.lemmas.Option.{slice_get-map}
use Rattle.perfdata_sources.specs.Endian.{number_in}
use Rattle.perfdata_base.specs.declared.section.PerfFileSection.{PerfFileSection}
use Rattle.perfdata_sources.specs.declared.endian.Endianness.{Endianness}
use Rattle.perfdata_base.specs.declared.header.PerfHeader.{PerfHeader}
use Rattle.perfdata_sources.proofs.Numbers.{in_reads_first}
use Rattle.perfdata_sections.specs.AttributeDescription.{DescribedEvent, attr_in, name_in, ids_in, event_in, events_in}
use Rattle.perfdata_sections.specs.AttrFrames.{IsPlainDescription}
use Rattle.perfdata_sections.specs.EventTypes.{type_name_at, AreEntryDescriptions, DescribesByEntries}
use Rattle.perfdata_sections.specs.declared.feature_sections.AttributeDescription.{AttributeDescription}
use Rattle.perfdata_sections.specs.declared.event_type.SimplePerfEventType.{SimplePerfEventType}
use Rattle.perfdata_sections.proofs.EventPrefixes.{event_desc_is_unique}
use Rattle.perfdata_simpleperf.specs.MetaInfo.{last_value, meta_pairs}
use Rattle.perfdata_simpleperf.specs.EventTypeInfo.{EventType, event_type_of, event_type_info, text_lines, line_fields, DescribesEvent, DescribeEvents, DescribesEventTypes}
use Rattle.linux_perf_data.specs.AttributeSources.{DescribesBySections, DescribesByAttrs, DescribesWith}
use Rattle.linux_perf_data.specs.FeatureNumbers.{event_desc, simpleperf_meta_info}
use Rattle.linux_perf_data.specs.Laws.{FileDescriptionIsUnique}
use Rattle.linux_perf_data.specs.FileOpening.{section_data, DescribesAttributes}
use Rattle.linux_perf_data.specs.PerfFile.{endian_of_file, descriptions_of_file}
use Rattle.linux_perf_data.proofs.DescribedFiles.{Entry, run_alike, entries_one, header_one}
use Rattle.linux_perf_data.proofs.PipeOpeningUniqueness.{same_order}

event_same : (d e : AttributeDescription) → attr_in d ≡ attr_in e → name_in d ≡ name_in e → ids_in d ≡ ids_in e → event_in d ≡ event_in e
event_same d e attr name ids =
    let one : event_in d ≡ (let a : DescribedEvent = record { attr = attr_in e; name = name_in d; ids = ids_in d } in a) = ap (λ x. record { attr = x; name = name_in d; ids = ids_in d }) attr in
    let two : (let a : DescribedEvent = record { attr = attr_in e; name = name_in d; ids = ids_in d } in a) ≡ (let a : DescribedEvent = record { attr = attr_in e; name = name_in e; ids = ids_in d } in a) =
    ap (λ x. record { attr = attr_in e; name = x; ids = ids_in d }) name in
    let three : (let a : DescribedEvent = record { attr = attr_in e; name = name_in e; ids = ids_in d } in a) ≡ event_in e = ap (λ x. record { attr = attr_in e; name = name_in e; ids = x }) ids in
    one ∙ two ∙ three

-- ---- the names of simpleperf's event types

abbrev text_of : SimplePerfEventType → List ℕ
text_of t = string_bytes t.name

one_name : (ps : List (List ℕ)) (e f : EventType) → DescribesEvent ps e → DescribesEvent ps f → e.name ≡ f.name
one_name [] e f x y = absurd x
one_name (a ∷ []) e f x y = absurd x
one_name (a ∷ b ∷ []) e f x y = absurd x
one_name (a ∷ b ∷ c ∷ more) e f x y = x.0 ∙ sym y.0

one_text_each : (ls : List (List ℕ)) (ts us : List SimplePerfEventType) → DescribeEvents ls (map event_type_of ts) → DescribeEvents ls (map event_type_of us) → map text_of ts ≡ map text_of us
one_text_each [] [] [] x y = refl
one_text_each [] [] (u ∷ us) x y = cc
one_text_each [] (t ∷ ts) us x y = cc
one_text_each (l ∷ ls) [] us x y = absurd x
one_text_each (l ∷ ls) (t ∷ ts) [] x y = absurd y
one_text_each (l ∷ ls) (t ∷ ts) (u ∷ us) (x, xs) (y, ys) =
    ap (λ n. n ∷ map text_of ts) (one_name (line_fields l) (event_type_of t) (event_type_of u) x y) ∙ ap (λ r. text_of u ∷ r) (one_text_each ls ts us xs ys)

one_texts : (value : Option (List ℕ)) (ts us : List SimplePerfEventType) → DescribesEventTypes value (map event_type_of ts) → DescribesEventTypes value (map event_type_of us) → map text_of ts ≡ map text_of us
one_texts None ts us x y = absurd x
one_texts (Some text) ts us x y = one_text_each (text_lines text) ts us x y

names_alike : (ts us : List SimplePerfEventType) → map text_of ts ≡ map text_of us → (i : ℕ) → type_name_at ts i ≡ type_name_at us i
names_alike ts us same i = sym (slice_get-map text_of ts i) ∙ ap (λ l. slice_get l i) same ∙ slice_get-map text_of us i

-- ---- descriptions of entries and padded attributes

module _ (number : ℕ → List ℕ → ℕ) where
  described_event : (size : ℕ) (xs : List ℕ) (d e : AttributeDescription) → IsPlainDescription number size xs d → IsPlainDescription number size xs e → event_in d ≡ event_in e
  described_event size xs d e x y = event_same d e (x.attr_in_frame.matches.matches ∙ sym y.attr_in_frame.matches.matches) (x.name ∙ sym y.name) (x.ids ∙ sym y.ids)

  module _ (all : List ℕ) (names others : ℕ → Option (List ℕ)) (same : (i : ℕ) → names i ≡ others i) where
    given_events : (i : ℕ) (entries : List Entry) (ds es : List AttributeDescription) → AreEntryDescriptions number (Some all) names i entries ds → AreEntryDescriptions number (Some all) others i entries es → events_in ds ≡ events_in es
    given_events i [] [] [] x y = refl
    given_events i [] (d ∷ ds) es x y = absurd x
    given_events i [] [] (e ∷ es) x y = absurd y
    given_events i (t ∷ ts) [] es x y = absurd x
    given_events i (t ∷ ts) (d ∷ ds) [] x y = absurd y
    given_events i (t ∷ ts) (d ∷ ds) (e ∷ es) (is, more) (is', more') =
        ap (λ a. a ∷ events_in ds) (event_same d e (is.attr ∙ sym is'.attr) (is.name ∙ same i ∙ sym is'.name) (is.ids.elements.1 ∙ sym is'.ids.elements.1))
        ∙ ap (λ l. event_in e ∷ l) (given_events (i + 1) ts ds es more more')

    entries_events : (size : ℕ) (section : PerfFileSection) (ds es : List AttributeDescription) → DescribesByEntries number size names section all ds → DescribesByEntries number size others section all es → events_in ds ≡ events_in es
    entries_events size section ds es x y =
        given_events 0 y.entries ds es (subst (λ l. AreEntryDescriptions number (Some all) names 0 l ds) (entries_one number all size section names others ds es x y) x.descriptions_match) y.descriptions_match

module _ (order : Endianness) (h : PerfHeader) (all : List ℕ) where
  attrs_events : (info : Option (List ℕ)) (ds es : List AttributeDescription) → DescribesByAttrs order h info all ds → DescribesByAttrs order h info all es → events_in ds ≡ events_in es
  attrs_events (Some info) ds es x y =
      entries_events (number_in order) all (type_name_at x.types) (type_name_at y.types) (names_alike x.types y.types (one_texts (last_value (meta_pairs info) event_type_info) x.types y.types x.names_types.lists_types y.names_types.lists_types)) (h.attr_size - 16) h.attr_section ds es x.attributes_match y.attributes_match
  attrs_events None ds es (can, x) (can', y) =
      run_alike (IsPlainDescription (number_in order) h.attr_size) h.attr_size all event_in (described_event (number_in order) h.attr_size) h.attr_section.offset ds es (x.count ∙ sym y.count) x.items_match y.items_match

  sections_events : (info : Option (List ℕ)) (ds es : List AttributeDescription) → DescribesBySections order h info all ds → DescribesBySections order h info all es → events_in ds ≡ events_in es
  sections_events info ds es (inl (some, can, x)) (inl (some', can', y)) = entries_events (number_in order) all (type_name_at []) (type_name_at []) (λ i. refl) h.attr_size h.event_types_section ds es x y
  sections_events info ds es (inl (some, can, x)) (inr (none, y)) = absurd (some none)
  sections_events info ds es (inr (none, x)) (inl (some, can, y)) = absurd (some none)
  sections_events info ds es (inr (none, x)) (inr (none', y)) = attrs_events info ds es x y

  with_events : (desc info : Option (List ℕ)) (ds es : List AttributeDescription) → DescribesWith order h desc info all ds → DescribesWith order h desc info all es → events_in ds ≡ events_in es
  with_events (Some desc) info ds es x y = event_desc_is_unique (number_in order) (in_reads_first order) desc (events_in ds) (events_in es) x y
  with_events None info ds es x y = sections_events info ds es x y

-- ---- the file

pub file_description_is_unique : FileDescriptionIsUnique
file_description_is_unique p h i f g x y =
    let same = header_one p h i x.matches.has_header y.matches.has_header in
    let orders : endian_of_file f ≡ endian_of_file g = same_order (endian_of_file f) (endian_of_file g) (sym x.matches.magic ∙ ap (λ k. k.magic) same ∙ y.matches.magic) in
    let there : DescribesAttributes (endian_of_file g) i p.all_bytes (descriptions_of_file f) =
    subst (λ k. DescribesAttributes (endian_of_file g) k p.all_bytes (descriptions_of_file f)) same (subst (λ o. DescribesAttributes o h p.all_bytes (descriptions_of_file f)) orders x.attributes) in
    record {
      header = same;
      same_endian = orders;
      features = x.features ∙ ap (λ k. k.features) same ∙ sym y.features;
      feature_data = λ n. x.sections n ∙ ap (λ o. section_data o h p.all_bytes n) orders ∙ ap (λ k. section_data (endian_of_file g) k p.all_bytes n) same ∙ sym (y.sections n);
      events = with_events (endian_of_file g) i p.all_bytes (section_data (endian_of_file g) i p.all_bytes event_desc) (section_data (endian_of_file g) i p.all_bytes simpleperf_meta_info) (descriptions_of_file f) (descriptions_of_file g) there y.attributes;
    }
