-- Steps of private functions: the sources of a file's attributes. They are the section EVENT_DESC if it is present, else the event types section if it isn't
-- empty, else the attribute section. If the file has simpleperf's meta info, the event types in it name the attributes of the
-- attribute section (Linux's perf.data format, and simpleperf's).
use Rattle.std.specs.Prelude.{◌≢◌, ℕ, ◌-◌, List, Result, Ok, Err, Vec}
use Rattle.std.specs.declared.alloc.Global.{Global}
use Rattle.perfdata_sources.specs.Source.{State}
use Rattle.perfdata_sources.specs.Endian.{number_in}
use Rattle.perfdata_sources.specs.declared.endian.Endianness.{Endianness}
use Rattle.perfdata_base.specs.declared.section.PerfFileSection.{PerfFileSection}
use Rattle.perfdata_sections.specs.AttrFrames.{ReadsAttrSection}
use Rattle.perfdata_sections.specs.EventDesc.{DescribesByEventDesc, IsEventDescError}
use Rattle.perfdata_sections.specs.EventTypes.{ReadsEventTypes}
use Rattle.perfdata_sections.specs.SimpleperfAttrs.{ReadsSimpleperfAttrs}
use Rattle.perfdata_sections.specs.declared.event_type.SimplePerfEventType.{SimplePerfEventType}
use Rattle.perfdata_sections.specs.declared.feature_sections.AttributeDescription.{AttributeDescription}
use Rattle.perfdata_sections.specs.declared.error.Error.{Error}
use Rattle.perfdata_sections.specs.declared.error.Error.TheVariants.{Memory}
use Rattle.linux_perf_data.specs.AttributeSources.{NamesEventTypes, IsMetaInfoError}

-- Parses the event types in the meta info. The contract doesn't constrain a `Memory` error.
abbrev pub ParsesMetaEventTypes : List ℕ → Result (Vec SimplePerfEventType Global) Error → Type 0
ParsesMetaEventTypes info (Ok v) = NamesEventTypes info v.items
ParsesMetaEventTypes info (Err e) = e ≢ Memory → IsMetaInfoError info e

-- Parses an EVENT_DESC section in memory. The contract states no cause for a `Memory` error.
abbrev pub ParsesEventDesc : Endianness → List ℕ → Result (Vec AttributeDescription Global) Error → Type 0
ParsesEventDesc order desc (Ok v) = DescribesByEventDesc (number_in order) desc v.items
ParsesEventDesc order desc (Err e) = e ≢ Memory → IsEventDescError (number_in order) e desc

abbrev pub ReadsTypesSection : Endianness → ℕ → PerfFileSection → State → Result (Vec AttributeDescription Global) Error → State → Type 0
ReadsTypesSection order attr_size section old result new = ReadsEventTypes (number_in order) attr_size section old result new

abbrev pub ReadsAttrsSection : Endianness → ℕ → PerfFileSection → State → Result (Vec AttributeDescription Global) Error → State → Type 0
ReadsAttrsSection order attr_size section old result new = ReadsAttrSection (number_in order) attr_size section old result new

abbrev pub ReadsSimpleperfSection : Endianness → ℕ → PerfFileSection → List SimplePerfEventType → State → Result (Vec AttributeDescription Global) Error
    → State → Type 0
ReadsSimpleperfSection order attr_size section types old result new = ReadsSimpleperfAttrs (number_in order) attr_size section types old result new
