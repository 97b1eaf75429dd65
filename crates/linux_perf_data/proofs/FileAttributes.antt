-- The sections of a file determine its attributes, or the error.
use Rattle.std.proofs.Common.{◌≡◌, ◌≢◌, ℕ, ◌-◌, List, [], refl, sym, subst, inl, inr, Option, None, Some}
use Rattle.std.specs.Prelude.{◌≤◌, IsTrue, Result, Ok, Err, IfSome, Vec}
use Rattle.std.specs.declared.alloc.Global.{Global}
use Rattle.perfdata_sources.specs.Source.{State, RemainsFromPosition, AfterSeek, all_bytes_of, memory_source_at}
use Rattle.perfdata_sources.specs.Endian.{number_in}
use Rattle.perfdata_sources.proofs.Numbers.{in_reads_first}
use Rattle.perfdata_sources.proofs.ReadErrors.{after_seek_none}
use Rattle.perfdata_sources.specs.declared.endian.Endianness.{Endianness}
use Rattle.perfdata_base.specs.declared.header.PerfHeader.{PerfHeader}
use Rattle.perfdata_sections.specs.AttrFrames.{IsAttributesSourceError}
use Rattle.perfdata_sections.specs.EventDesc.{DescribesByEventDesc, IsEventDescError, ReadsEventDesc}
use Rattle.perfdata_sections.specs.EventTypes.{DescribesByEventTypes, IsEventTypesError, ReadsDescriptions, type_name_at}
use Rattle.perfdata_sections.specs.SimpleperfAttrs.{DescribesBySimpleperf, IsSimpleperfAttrsError}
use Rattle.perfdata_sections.specs.declared.event_type.SimplePerfEventType.{SimplePerfEventType}
use Rattle.perfdata_sections.specs.declared.feature_sections.AttributeDescription.{AttributeDescription}
use Rattle.perfdata_sections.specs.declared.error.Error.{Error}
use Rattle.perfdata_sections.proofs.Entries.{entries_described, entries_source_error}
use Rattle.perfdata_sections.proofs.Events.{event_desc_described, event_desc_source_error}
use Rattle.linux_perf_data.specs.AttributeSources.{known_sections, NamesEventTypes, DescribesFrom, IsSourcesError, ReadsAttributes}
use Rattle.linux_perf_data.specs.steps.AttributeSources.{ParsesEventDesc, ParsesMetaEventTypes, ReadsTypesSection, ReadsSimpleperfSection}

-- a property of all values holds for the value of an option
pub if_each : {T : Type 0} (o : Option T) (P : T → Type 0) → ((x : T) → P x) → IfSome o P
if_each None P each = tt
if_each (Some x) P each = each x

pub if_more : {T : Type 0} (o : Option T) (P Q : T → Type 0) → ((x : T) → P x → Q x) → IfSome o P → IfSome o Q
if_more None P Q more is = tt
if_more (Some x) P Q more is = more x is

pub if_both : {T : Type 0} (o : Option T) (P Q S : T → Type 0) → ((x : T) → P x → Q x → S x) → IfSome o P → IfSome o Q → IfSome o S
if_both None P Q S both p q = tt
if_both (Some x) P Q S both p q = both x p q

-- ---- EVENT_DESC, in memory

-- bytes in memory have no source error
steady_no_source_error : (a b : State) (e : Error) → IsTrue a.steady → IsAttributesSourceError a e b → ⊥
steady_no_source_error a b e steady (inl (is, failed)) = failed.not_steady steady
steady_no_source_error a b e steady (inr (inl (is, paused))) = paused.not_steady steady
steady_no_source_error a b e steady (inr (inr (is, inl failed))) = failed.not_steady steady
steady_no_source_error a b e steady (inr (inr (is, inr paused))) = paused.not_steady steady

pub event_desc_read : (order : Endianness) (desc : List ℕ) (a b : State) (r : Result (Vec AttributeDescription Global) Error) → a ≡ memory_source_at desc 0 → ReadsEventDesc (number_in order) a r b → ParsesEventDesc order desc r
event_desc_read order desc a b (Ok v) is parsed =
    subst (λ s. IfSome s.bytes (λ xs. DescribesByEventDesc (number_in order) xs v.items)) is (event_desc_described (number_in order) (in_reads_first order) a v.items b parsed)
event_desc_read order desc a b (Err e) is error = λ m.
    let placed : RemainsFromPosition a = subst RemainsFromPosition (sym is) refl in
    elim (event_desc_source_error (number_in order) (in_reads_first order) a e b placed (error.1 m)) [
      | inl seen_here ↦ subst (λ s. IfSome s.bytes (IsEventDescError (number_in order) e)) is seen_here
      | inr source_error ↦ absurd (steady_no_source_error a b e (subst (λ s. IsTrue s.steady) (sym is) refl) source_error)
    ]

module _ (order : Endianness) (h : PerfHeader) (a : State) (placed : RemainsFromPosition a) where
  -- the event types section contains the attributes
  pub types_read : (info : Option (List ℕ)) (c : State) (r : Result (Vec AttributeDescription Global) Error) → h.event_types_section.size ≢ 0 → ReadsTypesSection order h.attr_size h.event_types_section a r c → ReadsAttributes order h (known_sections None info) a r c
  types_read info c (Ok v) some (can, parsed) = (
    parsed.entries_match.after_seek,
    if_more (all_bytes_of a.position) (λ all. DescribesByEventTypes (number_in order) h.attr_size h.event_types_section all v.items) (λ all. DescribesFrom order h (known_sections None info) all v.items)
        (λ all is. inl (some, can, is)) (entries_described (number_in order) h.attr_size (type_name_at []) h.event_types_section a v.items c parsed),
  )
  types_read info c (Err e) some (inl (far, is, same)) =
      (subst (AfterSeek a) (sym same) (after_seek_none a placed), λ m. inl (if_each (all_bytes_of a.position) (λ all. IsSourcesError order h (known_sections None info) all e) (λ all. inl (some, inl (far, is)))))
  types_read info c (Err e) some (inr (can, error)) = (
    error.0,
    λ m. elim (entries_source_error (number_in order) h.attr_size (type_name_at []) h.event_types_section a e c (error.1 m)) [
      | inl seen_here ↦ inl (if_more (all_bytes_of a.position) (IsEventTypesError (number_in order) h.attr_size h.event_types_section e) (λ all. IsSourcesError order h (known_sections None info) all e) (λ all here. inl (some, inr (can, here))) seen_here)
      | inr source_error ↦ inr source_error
    ],
  )

  -- the entries of the attribute section contain the attributes, with the names of the meta info
  named_entries : (info : List ℕ) (types : List SimplePerfEventType) (c : State) (r : Result (Vec AttributeDescription Global) Error) → h.event_types_section.size ≡ 0 → NamesEventTypes info types → 16 ≤ h.attr_size
      → ReadsDescriptions (number_in order) (h.attr_size - 16) (type_name_at types) h.attr_section a r c → ReadsAttributes order h (known_sections None (Some info)) a r c
  named_entries info types c (Ok v) none names size_fits (can, parsed) = (
    parsed.entries_match.after_seek,
    if_more (all_bytes_of a.position) (λ all. DescribesBySimpleperf (number_in order) h.attr_size h.attr_section types all v.items) (λ all. DescribesFrom order h (known_sections None (Some info)) all v.items)
        (λ all is. inr (none, record { types = types; names_types = names; attr_size_fits = size_fits; section_valid = can; attributes_match = is })) (entries_described (number_in order) (h.attr_size - 16) (type_name_at types) h.attr_section a v.items c parsed),
  )
  named_entries info types c (Err e) none names size_fits (inl (far, is, same)) =
      (subst (AfterSeek a) (sym same) (after_seek_none a placed), λ m. inl (if_each (all_bytes_of a.position) (λ all. IsSourcesError order h (known_sections None (Some info)) all e) (λ all. inr (none, inr (types, names, inr (size_fits, inl (far, is)))))))
  named_entries info types c (Err e) none names size_fits (inr (can, error)) = (
    error.0,
    λ m. elim (entries_source_error (number_in order) (h.attr_size - 16) (type_name_at types) h.attr_section a e c (error.1 m)) [
      | inl seen_here ↦ inl (if_more (all_bytes_of a.position) (IsSimpleperfAttrsError (number_in order) h.attr_size h.attr_section types e) (λ all. IsSourcesError order h (known_sections None (Some info)) all e)
          (λ all here. inr (none, inr (types, names, inr (size_fits, inr (can, here))))) seen_here)
      | inr source_error ↦ inr source_error
    ],
  )

  -- the attribute section contains the attributes
  pub named_read : (info : List ℕ) (types : List SimplePerfEventType) (c : State) (r : Result (Vec AttributeDescription Global) Error) → h.event_types_section.size ≡ 0 → NamesEventTypes info types
      → ReadsSimpleperfSection order h.attr_size h.attr_section types a r c → ReadsAttributes order h (known_sections None (Some info)) a r c
  named_read info types c (Ok v) none names (size_fits, parsed) = named_entries info types c (Ok v) none names size_fits parsed
  named_read info types c (Err e) none names (inl (small, is, same)) =
      (subst (AfterSeek a) (sym same) (after_seek_none a placed), λ m. inl (if_each (all_bytes_of a.position) (λ all. IsSourcesError order h (known_sections None (Some info)) all e) (λ all. inr (none, inr (types, names, inl (small, is))))))
  named_read info types c (Err e) none names (inr (size_fits, error)) = named_entries info types c (Err e) none names size_fits error

  -- EVENT_DESC contains the attributes
  pub desc_read : (desc : List ℕ) (info : Option (List ℕ)) (r : Result (Vec AttributeDescription Global) Error) → ParsesEventDesc order desc r → ReadsAttributes order h (known_sections (Some desc) info) a r a
  desc_read desc info (Ok v) parses = (after_seek_none a placed, if_each (all_bytes_of a.position) (λ all. DescribesFrom order h (known_sections (Some desc) info) all v.items) (λ all. parses))
  desc_read desc info (Err e) parses = (after_seek_none a placed, λ m. inl (if_each (all_bytes_of a.position) (λ all. IsSourcesError order h (known_sections (Some desc) info) all e) (λ all. parses m)))

  -- the meta info contains no event types
  pub meta_info_error : (info : List ℕ) (e : Error) → h.event_types_section.size ≡ 0 → ParsesMetaEventTypes info (Err e) → ReadsAttributes order h (known_sections None (Some info)) a (Err e) a
  meta_info_error info e none parses =
      (after_seek_none a placed, λ m. inl (if_each (all_bytes_of a.position) (λ all. IsSourcesError order h (known_sections None (Some info)) all e) (λ all. inr (none, inl (parses m)))))
