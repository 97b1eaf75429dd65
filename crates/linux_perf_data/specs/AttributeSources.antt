-- The sources of a file's attributes. They are the section EVENT_DESC if it is present, else the event types section if it isn't
-- empty, else the attribute section. If the file has simpleperf's meta info, the event types in it name the attributes of the
-- attribute section (Linux's perf.data format, and simpleperf's).
use Rattle.std.specs.Prelude.{◌≡◌, ◌≢◌, ℕ, ◌+◌, ◌-◌, ◌*◌, ◌/◌, ◌<◌, ◌≤◌, ◌⊎◌, List, [], length, drop, map, All, Option, None, Some, Result, Ok, Err, IfSome, Vec}
use Rattle.std.specs.declared.alloc.Global.{Global}
use Rattle.perfdata_sources.specs.Source.{State, AfterSeek, all_bytes_of}
use Rattle.perfdata_sources.specs.Endian.{number_in}
use Rattle.perfdata_sources.specs.declared.endian.Endianness.{Endianness}
use Rattle.perfdata_base.specs.declared.header.PerfHeader.{PerfHeader}
use Rattle.perfdata_base.specs.declared.section.PerfFileSection.{PerfFileSection}
use Rattle.perfdata_sections.specs.Items.{ItemsAt}
use Rattle.perfdata_sections.specs.AttrFrames.{IsAttributesSourceError, DescribesByAttrSection, IsPlainDescription, IsFrameError, IsInvalidAttrSection}
use Rattle.perfdata_sections.specs.EventDesc.{DescribesByEventDesc, IsEventDescError}
use Rattle.perfdata_sections.specs.EventTypes.{DescribesByEventTypes, IsEventTypesError, IsOutOfRange, type_name_at}
use Rattle.perfdata_simpleperf.specs.MetaInfo.{meta_pairs, last_value, IsUtf8Pair}
use Rattle.perfdata_sections.specs.SimpleperfAttrs.{DescribesBySimpleperf, IsSimpleperfAttrsError}
use Rattle.perfdata_simpleperf.specs.EventTypeInfo.{EventType, event_type_of, event_type_info, DescribesEventTypes}
use Rattle.perfdata_sections.specs.declared.event_type.SimplePerfEventType.{SimplePerfEventType}
use Rattle.perfdata_sections.specs.declared.feature_sections.AttributeDescription.{AttributeDescription}
use Rattle.perfdata_sections.specs.declared.error.Error.{Error}
use Rattle.perfdata_sections.specs.declared.error.Error.TheVariants.{Read, StringUtf8, NoEventTypesInSimpleperfMetaInfo, Memory}
use Rattle.perfdata_sections.specs.declared.error.ReadError.TheVariants.{PerfEventAttr as OfAttr}

-- The attribute section contains fewer valid frames than its size allows. The next frame is invalid, and `e` is its error.
pub record AttrSectionError (order : Endianness) (attr_size : ℕ) (section : PerfFileSection) (e : Error) (all : List ℕ) : Type 0 where
  pub before : List AttributeDescription
  pub too_few : length before < section.size / attr_size
  pub items_match : ItemsAt (IsPlainDescription (number_in order) attr_size) attr_size all section.offset before
  pub error_here : IsFrameError (number_in order) attr_size e (drop (section.offset + length before * attr_size) all)

-- The bytes of the sections EVENT_DESC and SIMPLEPERF_META_INFO, if the file has them.
pub record KnownSections : Type 0 where
  pub event_desc : Option (List ℕ)
  pub meta_info : Option (List ℕ)

abbrev pub known_sections : Option (List ℕ) → Option (List ℕ) → KnownSections
known_sections desc info = record { event_desc = desc; meta_info = info }

-- The meta info is UTF-8 and contains these event types.
pub record NamesEventTypes (info : List ℕ) (types : List SimplePerfEventType) : Type 0 where
  pub all_utf8 : All IsUtf8Pair (meta_pairs info)
  pub lists_types : DescribesEventTypes (last_value (meta_pairs info) event_type_info) (map event_type_of types)

-- The meta info contains no event types: a key or a value isn't UTF-8, or it has no valid text of event types.
abbrev pub IsMetaInfoError : List ℕ → Error → Type 0
IsMetaInfoError info StringUtf8 = ¬ All IsUtf8Pair (meta_pairs info)
IsMetaInfoError info NoEventTypesInSimpleperfMetaInfo =
    All IsUtf8Pair (meta_pairs info) × ((es : List EventType) → ¬ DescribesEventTypes (last_value (meta_pairs info) event_type_info) es)
IsMetaInfoError info _ = ⊥

module _ (order : Endianness) (h : PerfHeader) where
  -- The attribute size or the section's range is invalid for the event types section, or for the attribute section, whatever the
  -- bytes are.
  abbrev pub IsInvalidTypesSection : Type 0
  IsInvalidTypesSection = IsOutOfRange (number_in order) h.attr_size (type_name_at []) h.event_types_section

  abbrev pub IsInvalidAttrs : Type 0
  IsInvalidAttrs = IsInvalidAttrSection (number_in order) h.attr_size h.attr_section

  -- The same for simpleperf's attribute section.
  abbrev pub IsInvalidSimpleperfAttrs : List SimplePerfEventType → Type 0
  IsInvalidSimpleperfAttrs types = IsOutOfRange (number_in order) (h.attr_size - 16) (type_name_at types) h.attr_section

  -- The meta info contains event types, and the attribute section contains the attributes that they name.
  pub record DescribesByMeta (info : List ℕ) (all : List ℕ) (ds : List AttributeDescription) : Type 0 where
    pub types : List SimplePerfEventType
    pub names_types : NamesEventTypes info types
    pub attr_size_fits : 16 ≤ h.attr_size
    pub section_valid : ¬ IsInvalidSimpleperfAttrs types
    pub attributes_match : DescribesBySimpleperf (number_in order) h.attr_size h.attr_section types all ds

  -- The attributes of the attribute section, with the names of the meta info if the file has it.
  abbrev pub DescribesByAttrs : Option (List ℕ) → List ℕ → List AttributeDescription → Type 0
  DescribesByAttrs (Some info) all ds = DescribesByMeta info all ds
  DescribesByAttrs None all ds = (¬ IsInvalidAttrs) × DescribesByAttrSection (number_in order) h.attr_size h.attr_section all ds

  -- The attributes if there is no EVENT_DESC: those of the event types section, or of the attribute section if the event types
  -- section is empty.
  abbrev pub DescribesBySections : Option (List ℕ) → List ℕ → List AttributeDescription → Type 0
  DescribesBySections info all ds =
      ((h.event_types_section.size ≢ 0) × (¬ IsInvalidTypesSection) × DescribesByEventTypes (number_in order) h.attr_size h.event_types_section all ds)
      ⊎ ((h.event_types_section.size ≡ 0) × DescribesByAttrs info all ds)

  abbrev pub DescribesWith : Option (List ℕ) → Option (List ℕ) → List ℕ → List AttributeDescription → Type 0
  DescribesWith (Some desc) info all ds = DescribesByEventDesc (number_in order) desc ds
  DescribesWith None info all ds = DescribesBySections info all ds

  -- The file's bytes and the bytes of these sections describe exactly these attributes.
  abbrev pub DescribesFrom : KnownSections → List ℕ → List AttributeDescription → Type 0
  DescribesFrom sections all ds = DescribesWith sections.event_desc sections.meta_info all ds

  abbrev pub IsTypesError : List ℕ → Error → Type 0
  IsTypesError all e =
      (IsInvalidTypesSection × (e ≡ Read OfAttr)) ⊎ ((¬ IsInvalidTypesSection) × IsEventTypesError (number_in order) h.attr_size h.event_types_section e all)

  abbrev pub IsAttrsError : List ℕ → Error → Type 0
  IsAttrsError all e = (IsInvalidAttrs × (e ≡ Read OfAttr)) ⊎ ((¬ IsInvalidAttrs) × AttrSectionError order h.attr_size h.attr_section e all)

  -- The attribute size is below 16, the range of the attribute section is invalid, or the entries of the section have an error.
  abbrev pub IsSimpleperfError : List SimplePerfEventType → List ℕ → Error → Type 0
  IsSimpleperfError types all e =
      ((h.attr_size < 16) × (e ≡ Read OfAttr))
      ⊎ ((16 ≤ h.attr_size) × ((IsInvalidSimpleperfAttrs types × (e ≡ Read OfAttr))
      ⊎ ((¬ IsInvalidSimpleperfAttrs types) × IsSimpleperfAttrsError (number_in order) h.attr_size h.attr_section types e all)))

  -- The meta info contains no event types, or the attribute section is invalid for them.
  abbrev pub IsMetaError : List ℕ → List ℕ → Error → Type 0
  IsMetaError info all e = IsMetaInfoError info e ⊎ ((types : List SimplePerfEventType) × NamesEventTypes info types × IsSimpleperfError types all e)

  abbrev pub IsAttrSectionError : Option (List ℕ) → List ℕ → Error → Type 0
  IsAttrSectionError (Some info) all e = IsMetaError info all e
  IsAttrSectionError None all e = IsAttrsError all e

  abbrev pub IsSectionsError : Option (List ℕ) → List ℕ → Error → Type 0
  IsSectionsError info all e =
      ((h.event_types_section.size ≢ 0) × IsTypesError all e)
      ⊎ ((h.event_types_section.size ≡ 0) × IsAttrSectionError info all e)

  abbrev pub IsSourcesErrorWith : Option (List ℕ) → Option (List ℕ) → List ℕ → Error → Type 0
  IsSourcesErrorWith (Some desc) info all e = IsEventDescError (number_in order) e desc
  IsSourcesErrorWith None info all e = IsSectionsError info all e

  -- `e` is the first error in the sources of the attributes.
  abbrev pub IsSourcesError : KnownSections → List ℕ → Error → Type 0
  IsSourcesError sections all e = IsSourcesErrorWith sections.event_desc sections.meta_info all e

  -- Reads a file's attributes. The contract states no cause for a `Memory` error.
  abbrev pub ReadsAttributes : KnownSections → State → Result (Vec AttributeDescription Global) Error → State → Type 0
  ReadsAttributes sections old (Ok v) new = AfterSeek old new × IfSome (all_bytes_of old.position) (λ all. DescribesFrom sections all v.items)
  ReadsAttributes sections old (Err e) new =
      AfterSeek old new × (e ≢ Memory → IfSome (all_bytes_of old.position) (λ all. IsSourcesError sections all e) ⊎ IsAttributesSourceError old e new)
