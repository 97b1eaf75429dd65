-- Two errors of one file have the same cause, because the first error of an opening is unique.
use Rattle.std.proofs.Common.{◌≡◌, ℕ, ◌+◌, ◌-◌, ◌*◌, ◌<◌, List, [], ◌∷◌, ◌++◌, length, drop, refl, sym, ap, ◌∙◌, subst, inl, inr, arith, Option, None, Some}
use Rattle.std.proofs.lemmas.Bool.{cases_lt}
use Rattle.perfdata_sources.specs.Endian.{number_in}
use Rattle.perfdata_base.specs.declared.section.PerfFileSection.{PerfFileSection}
use Rattle.perfdata_sources.specs.declared.endian.Endianness.{Endianness}
use Rattle.perfdata_base.specs.declared.header.PerfHeader.{PerfHeader}
use Rattle.perfdata_sources.proofs.Numbers.{in_reads_first}
use Rattle.perfdata_sections.specs.AttributeDescription.{attr_in, ids_in}
use Rattle.perfdata_sections.specs.AttrFrames.{IsFrameError, IsPlainDescription}
use Rattle.perfdata_sections.specs.EventTypes.{type_name_at, IsEventTypeEntry, IsEventTypeEntryError, IsSectionIdsError, AreEntryDescriptions, IsEntriesError, ErrorAtEntry, ErrorAtIds}
use Rattle.perfdata_sections.specs.Items.{ItemsAt}
use Rattle.perfdata_sections.specs.declared.feature_sections.AttributeDescription.{AttributeDescription}
use Rattle.perfdata_sections.specs.declared.error.Error.{Error}
use Rattle.perfdata_sections.specs.declared.error.Error.TheVariants.{StringUtf8, NoEventTypesInSimpleperfMetaInfo}
use Rattle.perfdata_sections.proofs.EventErrors.{Alike, frame_error, desc_error}
use Rattle.linux_perf_data.specs.Attribute.{AreInconsistent}
use Rattle.linux_perf_data.specs.AttributeSources.{IsMetaInfoError, IsSectionsError, IsAttrSectionError, IsSourcesErrorWith}
use Rattle.linux_perf_data.specs.Descriptions.{described_attributes}
use Rattle.linux_perf_data.specs.Laws.{SameCause, FileErrorIsUnique}
use Rattle.linux_perf_data.specs.FileOpening.{section_data, IsAttributesError, IsErrorAfterHeader}
use Rattle.linux_perf_data.specs.FeatureNumbers.{event_desc, simpleperf_meta_info}
use Rattle.linux_perf_data.specs.Consistency.{error_of_inconsistency}
use Rattle.linux_perf_data.proofs.DescribedFiles.{Entry, run_at, run_one, frame_no_error, entry_one, entry_no_error, ids_no_error, names_no_error, with_alike, sources_no_error, holds_or_missing, header_one, truncated_header_fails, far_header_fails, unknown_magic_fails}
use Rattle.linux_perf_data.proofs.PipeOpeningUniqueness.{same_order}
use Rattle.linux_perf_data.proofs.ConsistencyLemmas.{inconsistency_is_unique, first_same, tail_same}

-- ---- consecutive items

-- If no item follows either of two runs, the runs have the same length and end at the same offset.
module _ {D : Type 0} (IsOne : List ℕ → D → Type 0) (step : ℕ) (all : List ℕ) (IsNot : Error → List ℕ → Type 0) (apart : (e : Error) (xs : List ℕ) (d : D) → IsOne xs d → IsNot e xs → ⊥) where
  run_goes_on : (e : Error) (at n : ℕ) (ds : List D) → ItemsAt IsOne step all at ds → n < length ds → IsNot e (drop (at + n * step) all) → ⊥
  run_goes_on e at n ds run fewer none = let here = run_at IsOne step all n at ds run fewer in apart e (drop (at + n * step) all) here.0 here.1 none

  run_errors_alike : (e f : Error) (at : ℕ) (ds es : List D) → ItemsAt IsOne step all at ds → ItemsAt IsOne step all at es → IsNot e (drop (at + length ds * step) all) → IsNot f (drop (at + length es * step) all)
      → ((xs : List ℕ) → IsNot e xs → IsNot f xs → Alike e f) → Alike e f
  run_errors_alike e f at ds es x y none none' alike = elim (cases_lt (length ds) (length es)) [
    | inl fewer ↦ absurd (run_goes_on e at (length ds) es y fewer none)
    | inr most ↦ elim (cases_lt (length es) (length ds)) [
      | inl fewer ↦ absurd (run_goes_on f at (length es) ds x fewer none')
      | inr least ↦
          let long : length ds ≡ length es = omega (arith, most, least) in
          alike (drop (at + length es * step) all) (subst (λ n. IsNot e (drop (at + n * step) all)) long none) none'
    ]
  ]

module _ (number : ℕ → List ℕ → ℕ) where
  -- ---- entries

  entry_errors_alike : (size : ℕ) (e f : Error) (xs : List ℕ) → IsEventTypeEntryError number size e xs → IsEventTypeEntryError number size f xs → Alike e f
  entry_errors_alike size e f xs (inl x) (inl y) = inl (frame_error number size e f xs x y)
  entry_errors_alike size e f xs (inl x) (inr (framed, eof, fewer)) = absurd (frame_no_error number size e xs framed.0 framed.1 x)
  entry_errors_alike size e f xs (inr (framed, eof, fewer)) (inl y) = absurd (frame_no_error number size f xs framed.0 framed.1 y)
  entry_errors_alike size e f xs (inr (framed, eof, fewer)) (inr (framed', eof', too_few')) = inr (eof, eof')

  ids_errors_alike : (e f : Error) (s : PerfFileSection) (all : List ℕ) → IsSectionIdsError number e s all → IsSectionIdsError number f s all → Alike e f
  ids_errors_alike e f s all (inl (far, read)) (inl (far', read')) = inl (read ∙ sym read')
  ids_errors_alike e f s all (inl (far, read)) (inr (end_fits_u64, eof, fewer)) = absurd (omega (arith, far, end_fits_u64))
  ids_errors_alike e f s all (inr (end_fits_u64, eof, fewer)) (inl (far, read)) = absurd (omega (arith, far, end_fits_u64))
  ids_errors_alike e f s all (inr (end_fits_u64, eof, fewer)) (inr (end_fits', eof', too_few')) = inr (eof, eof')

  module _ (all : List ℕ) (names others : ℕ → Option (List ℕ)) where
    -- The first entry whose IDs are out of bounds is unique.
    descriptions_errors_alike : (e f : Error) (i : ℕ) (xs ys ws zs : List Entry) (x y : Entry) (ds es : List AttributeDescription) → xs ++ x ∷ ws ≡ ys ++ y ∷ zs → AreEntryDescriptions number (Some all) names i xs ds → AreEntryDescriptions number (Some all) others i ys es
        → IsSectionIdsError number e x.ids all → IsSectionIdsError number f y.ids all → Alike e f
    descriptions_errors_alike e f i [] [] ws zs x y ds es same described described' none none' =
        ids_errors_alike e f y.ids all (subst (λ (t : Entry). IsSectionIdsError number e t.ids all) (first_same x y ws zs same) none) none'
    descriptions_errors_alike e f i [] (t ∷ ys) ws zs x y ds [] same described described' none none' = absurd described'
    descriptions_errors_alike e f i [] (t ∷ ys) ws zs x y ds (d ∷ es) same described (is, more) none none' =
        absurd (ids_no_error number e t.ids all (ids_in d) is.ids (subst (λ (t : Entry). IsSectionIdsError number e t.ids all) (first_same x t ws (ys ++ y ∷ zs) same) none))
    descriptions_errors_alike e f i (t ∷ xs) [] ws zs x y [] es same described described' none none' = absurd described
    descriptions_errors_alike e f i (t ∷ xs) [] ws zs x y (d ∷ ds) es same (is, more) described' none none' =
        absurd (ids_no_error number f t.ids all (ids_in d) is.ids (subst (λ (t : Entry). IsSectionIdsError number f t.ids all) (sym (first_same t y (xs ++ x ∷ ws) zs same)) none'))
    descriptions_errors_alike e f i (s ∷ xs) (t ∷ ys) ws zs x y [] es same described described' none none' = absurd described
    descriptions_errors_alike e f i (s ∷ xs) (t ∷ ys) ws zs x y (d ∷ ds) [] same described described' none none' = absurd described'
    descriptions_errors_alike e f i (s ∷ xs) (t ∷ ys) ws zs x y (c ∷ ds) (d ∷ es) same (is, more) (is', more') none none' =
        descriptions_errors_alike e f (i + 1) xs ys ws zs x y ds es (tail_same s t (xs ++ x ∷ ws) (ys ++ y ∷ zs) same) more more' none none'

  module _ (all : List ℕ) (size : ℕ) (section : PerfFileSection) where
    -- an error at the IDs of entries excludes an error at an entry, because all entries are complete
    entries_or_truncated : (names others : ℕ → Option (List ℕ)) (e f : Error) → ErrorAtEntry number size names section e all → ErrorAtIds number size others section f all → ⊥
    entries_or_truncated names others e f s t =
        let fewer = s.too_few in
        let count = t.entries_match.count in
        let here = run_at (IsEventTypeEntry number size) (size + 16) all (length s.before) section.offset t.entries t.entries_match.items_match (omega (arith, fewer, count)) in
        entry_no_error number size e (drop (section.offset + length s.before * (size + 16)) all) here.0 here.1 s.error_here

    entries_errors_alike : (names others : ℕ → Option (List ℕ)) (e f : Error) → IsEntriesError number size names section e all → IsEntriesError number size others section f all → Alike e f
    entries_errors_alike names others e f (inl s) (inl t) =
        run_errors_alike (IsEventTypeEntry number size) (size + 16) all (IsEventTypeEntryError number size) (entry_no_error number size) e f section.offset s.before t.before s.items_match t.items_match s.error_here t.error_here (entry_errors_alike size e f)
    entries_errors_alike names others e f (inl s) (inr t) = absurd (entries_or_truncated names others e f s t)
    entries_errors_alike names others e f (inr s) (inl t) = absurd (entries_or_truncated others names f e t s)
    entries_errors_alike names others e f (inr s) (inr t) =
        let same : s.entries ≡ t.entries = run_one (IsEventTypeEntry number size) (size + 16) all (entry_one number size) section.offset s.entries t.entries (s.entries_match.count ∙ sym t.entries_match.count) s.entries_match.items_match t.entries_match.items_match in
        let same_entries = sym s.error.elements ∙ same ∙ t.error.elements in
        descriptions_errors_alike all names others e f 0 s.error.before t.error.before s.error.after t.error.after s.error.failing_entry t.error.failing_entry s.error.descriptions t.error.descriptions same_entries s.error.descriptions_match t.error.descriptions_match s.error.error_here t.error.error_here

-- ---- meta info

utf8_error_alike : (info : List ℕ) (f : Error) → IsMetaInfoError info StringUtf8 → IsMetaInfoError info f → (let e : Error = StringUtf8 in e) ≡ f
utf8_error_alike info StringUtf8 x y = refl
utf8_error_alike info NoEventTypesInSimpleperfMetaInfo x (texts, none) = absurd (x texts)
utf8_error_alike info _ x y = absurd y

types_error_alike : (info : List ℕ) (f : Error) → IsMetaInfoError info NoEventTypesInSimpleperfMetaInfo → IsMetaInfoError info f → (let e : Error = NoEventTypesInSimpleperfMetaInfo in e) ≡ f
types_error_alike info StringUtf8 (texts, none) y = absurd (y texts)
types_error_alike info NoEventTypesInSimpleperfMetaInfo x y = refl
types_error_alike info _ x y = absurd y

names_errors_alike : (info : List ℕ) (e f : Error) → IsMetaInfoError info e → IsMetaInfoError info f → e ≡ f
names_errors_alike info StringUtf8 f x y = utf8_error_alike info f x y
names_errors_alike info NoEventTypesInSimpleperfMetaInfo f x y = types_error_alike info f x y
names_errors_alike info _ f x y = absurd x

module _ (order : Endianness) (h : PerfHeader) (all : List ℕ) where
  -- ---- attributes

  section_errors_alike : (info : Option (List ℕ)) (e f : Error) → IsAttrSectionError order h info all e → IsAttrSectionError order h info all f → Alike e f
  section_errors_alike (Some info) e f (inl x) (inl y) = inl (names_errors_alike info e f x y)
  section_errors_alike (Some info) e f (inl x) (inr (types, names, y)) = absurd (names_no_error info e types names x)
  section_errors_alike (Some info) e f (inr (types, names, x)) (inl y) = absurd (names_no_error info f types names y)
  section_errors_alike (Some info) e f (inr (types, names, inl (fewer, read))) (inr (others, names', inl (too_few', read'))) = inl (read ∙ sym read')
  section_errors_alike (Some info) e f (inr (types, names, inl (fewer, read))) (inr (others, names', inr (size_fits, y))) = absurd (omega (arith, fewer, size_fits))
  section_errors_alike (Some info) e f (inr (types, names, inr (size_fits, x))) (inr (others, names', inl (fewer, read))) = absurd (omega (arith, fewer, size_fits))
  section_errors_alike (Some info) e f (inr (types, names, inr (size_fits, inl (far, read)))) (inr (others, names', inr (size_fits', inl (far', read')))) = inl (read ∙ sym read')
  section_errors_alike (Some info) e f (inr (types, names, inr (size_fits, inl (far, read)))) (inr (others, names', inr (size_fits', inr (can, y)))) = absurd (can far)
  section_errors_alike (Some info) e f (inr (types, names, inr (size_fits, inr (can, x)))) (inr (others, names', inr (size_fits', inl (far, read)))) = absurd (can far)
  section_errors_alike (Some info) e f (inr (types, names, inr (size_fits, inr (can, x)))) (inr (others, names', inr (size_fits', inr (can', y)))) =
      entries_errors_alike (number_in order) all (h.attr_size - 16) h.attr_section (type_name_at types) (type_name_at others) e f x y
  section_errors_alike None e f (inl (far, read)) (inl (far', read')) = inl (read ∙ sym read')
  section_errors_alike None e f (inl (far, read)) (inr (can, y)) = absurd (can far)
  section_errors_alike None e f (inr (can, x)) (inl (far, read)) = absurd (can far)
  section_errors_alike None e f (inr (can, x)) (inr (can', y)) =
      run_errors_alike (IsPlainDescription (number_in order) h.attr_size) h.attr_size all (IsFrameError (number_in order) h.attr_size) (λ e xs d is none. frame_no_error (number_in order) h.attr_size e xs (attr_in d) is.attr_in_frame none) e f h.attr_section.offset x.before y.before x.items_match y.items_match x.error_here y.error_here
      (λ xs none none'. inl (frame_error (number_in order) h.attr_size e f xs none none'))

  sections_errors_alike : (info : Option (List ℕ)) (e f : Error) → IsSectionsError order h info all e → IsSectionsError order h info all f → Alike e f
  sections_errors_alike info e f (inl (some, inl (far, read))) (inl (some', inl (far', read'))) = inl (read ∙ sym read')
  sections_errors_alike info e f (inl (some, inl (far, read))) (inl (some', inr (can, y))) = absurd (can far)
  sections_errors_alike info e f (inl (some, inr (can, x))) (inl (some', inl (far, read))) = absurd (can far)
  sections_errors_alike info e f (inl (some, inr (can, x))) (inl (some', inr (can', y))) = entries_errors_alike (number_in order) all h.attr_size h.event_types_section (type_name_at []) (type_name_at []) e f x y
  sections_errors_alike info e f (inl (some, x)) (inr (none, y)) = absurd (some none)
  sections_errors_alike info e f (inr (none, x)) (inl (some, y)) = absurd (some none)
  sections_errors_alike info e f (inr (none, x)) (inr (none', y)) = section_errors_alike info e f x y

  sources_errors_alike : (desc info : Option (List ℕ)) (e f : Error) → IsSourcesErrorWith order h desc info all e → IsSourcesErrorWith order h desc info all f → Alike e f
  sources_errors_alike (Some desc) info e f x y = desc_error (number_in order) (in_reads_first order) e f desc x y
  sources_errors_alike None info e f x y = sections_errors_alike info e f x y

  -- ---- after a header

  attributes_errors_alike : (e f : Error) → IsAttributesError order h all e → IsAttributesError order h all f → Alike e f
  attributes_errors_alike e f (inl x) (inl y) = sources_errors_alike (section_data order h all event_desc) (section_data order h all simpleperf_meta_info) e f x y
  attributes_errors_alike e f (inl x) (inr (inl (is, none))) = absurd (sources_no_error order h all (section_data order h all event_desc) (section_data order h all simpleperf_meta_info) e [] none x)
  attributes_errors_alike e f (inl x) (inr (inr inconsistent)) = absurd (sources_no_error order h all (section_data order h all event_desc) (section_data order h all simpleperf_meta_info) e inconsistent.descriptions inconsistent.attributes_match x)
  attributes_errors_alike e f (inr (inl (is, none))) (inl y) = absurd (sources_no_error order h all (section_data order h all event_desc) (section_data order h all simpleperf_meta_info) f [] none y)
  attributes_errors_alike e f (inr (inl (is, none))) (inr (inl (is', none'))) = inl (is ∙ sym is')
  attributes_errors_alike e f (inr (inl (is, none))) (inr (inr inconsistent)) =
      let same : described_attributes inconsistent.descriptions ≡ [] = with_alike order h all (section_data order h all event_desc) (section_data order h all simpleperf_meta_info) inconsistent.descriptions [] inconsistent.attributes_match none in
      absurd (subst (λ l. AreInconsistent l inconsistent.inconsistency) same inconsistent.is_inconsistent)
  attributes_errors_alike e f (inr (inr inconsistent)) (inl y) = absurd (sources_no_error order h all (section_data order h all event_desc) (section_data order h all simpleperf_meta_info) f inconsistent.descriptions inconsistent.attributes_match y)
  attributes_errors_alike e f (inr (inr inconsistent)) (inr (inl (is, none))) =
      let same : described_attributes inconsistent.descriptions ≡ [] = with_alike order h all (section_data order h all event_desc) (section_data order h all simpleperf_meta_info) inconsistent.descriptions [] inconsistent.attributes_match none in
      absurd (subst (λ l. AreInconsistent l inconsistent.inconsistency) same inconsistent.is_inconsistent)
  attributes_errors_alike e f (inr (inr x)) (inr (inr y)) =
      let same : described_attributes x.descriptions ≡ described_attributes y.descriptions = with_alike order h all (section_data order h all event_desc) (section_data order h all simpleperf_meta_info) x.descriptions y.descriptions x.attributes_match y.attributes_match in
      let breach : x.inconsistency ≡ y.inconsistency = inconsistency_is_unique (described_attributes y.descriptions) x.inconsistency y.inconsistency (subst (λ l. AreInconsistent l x.inconsistency) same x.is_inconsistent) y.is_inconsistent in
      inl (x.matches ∙ ap error_of_inconsistency breach ∙ sym y.matches)

  after_header_errors_alike : (e f : Error) → IsErrorAfterHeader order h all e → IsErrorAfterHeader order h all f → Alike e f
  after_header_errors_alike e f (inl (read, far)) (inl (read', far')) = inl (read ∙ sym read')
  after_header_errors_alike e f (inl (read, far)) (inr (inl (eof, end_fits_u64, is_missing))) = absurd (omega (arith, far, end_fits_u64))
  after_header_errors_alike e f (inl (read, far)) (inr (inr (end_fits_u64, holds, y))) = absurd (omega (arith, far, end_fits_u64))
  after_header_errors_alike e f (inr (inl (eof, end_fits_u64, is_missing))) (inl (read, far)) = absurd (omega (arith, far, end_fits_u64))
  after_header_errors_alike e f (inr (inl (eof, end_fits_u64, is_missing))) (inr (inl (eof', end_fits', missing'))) = inr (eof, eof')
  after_header_errors_alike e f (inr (inl (eof, end_fits_u64, is_missing))) (inr (inr (end_fits', holds, y))) = absurd (holds_or_missing order h all holds is_missing)
  after_header_errors_alike e f (inr (inr (end_fits_u64, holds, x))) (inl (read, far)) = absurd (omega (arith, far, end_fits_u64))
  after_header_errors_alike e f (inr (inr (end_fits_u64, holds, x))) (inr (inl (eof, end_fits', is_missing))) = absurd (holds_or_missing order h all holds is_missing)
  after_header_errors_alike e f (inr (inr (end_fits_u64, holds, x))) (inr (inr (end_fits', holds', y))) = attributes_errors_alike e f x y

-- ---- the file

pub same_cause : (e f : Error) → Alike e f → SameCause e f
same_cause e f (inl same) = inl same
same_cause e f (inr eof) = inr (inl eof)

pub opening_error_is_unique : FileErrorIsUnique
opening_error_is_unique p e f (inl (eof, fewer)) y = inr (inl (eof, (truncated_header_fails p fewer).0 f y))
opening_error_is_unique p e f (inr (inl (h, has, (far, invalid)))) y = inr (inr (inl (invalid, (far_header_fails p h has far).0 f y)))
opening_error_is_unique p e f (inr (inr (inl (h, (has, end_fits_u64, unknown, is))))) y = inl (is ∙ sym ((unknown_magic_fails p h has end_fits_u64 unknown).0 f y))
opening_error_is_unique p e f (inr (inr (inr x))) (inl (eof, fewer)) = inr (inl ((truncated_header_fails p fewer).0 e (inr (inr (inr x))), eof))
opening_error_is_unique p e f (inr (inr (inr x))) (inr (inl (h, has, (far, invalid)))) = inr (inr (inl ((far_header_fails p h has far).0 e (inr (inr (inr x))), invalid)))
opening_error_is_unique p e f (inr (inr (inr x))) (inr (inr (inl (h, (has, end_fits_u64, unknown, is))))) = inl ((unknown_magic_fails p h has end_fits_u64 unknown).0 e (inr (inr (inr x))) ∙ sym is)
opening_error_is_unique p e f (inr (inr (inr (order, (h, is, x))))) (inr (inr (inr (order', (i, is', y))))) =
    let same = header_one p h i is.has_header is'.has_header in
    let orders : order ≡ order' = same_order order order' (sym is.magic ∙ ap (λ k. k.magic) same ∙ is'.magic) in
    let here : IsErrorAfterHeader order' i p.all_bytes e = subst (λ k. IsErrorAfterHeader order' k p.all_bytes e) same (subst (λ o. IsErrorAfterHeader o h p.all_bytes e) orders x) in
    same_cause e f (after_header_errors_alike order' i p.all_bytes e f here y)
