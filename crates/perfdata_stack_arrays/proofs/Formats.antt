-- The formats of the records of attributes.
use Rattle.std.proofs.Common.{◌≡◌, ℕ, List, ap, ◌∙◌, Option, Some}
use Rattle.std.specs.Prelude.{slice_get}
use Rattle.std.specs.Option.{option_map}
use Rattle.std.proofs.lemmas.Option.{slice_get-map}
use Rattle.perfdata_identifiers.specs.declared.place.parse_info.RecordParseInfo.{RecordParseInfo}
use Rattle.perfdata_sources.specs.declared.endian.Endianness.{Endianness}
use Rattle.perfdata_sections.specs.AttributeDescription.{attr_in}
use Rattle.perfdata_sections.specs.declared.feature_sections.AttributeDescription.{AttributeDescription}
use Rattle.linux_perf_data.specs.Descriptions.{described_attribute, described_attributes}
use Rattle.perfdata_events.specs.EventFormat.{native_format_of}
use Rattle.perfdata_stack_arrays.specs.Events.{format_in}

-- The format of an event whose attribute is at an index.
pub format_at : (order : Endianness) (ds : List AttributeDescription) (index : ℕ) (places : RecordParseInfo) (d : AttributeDescription) → slice_get ds index ≡ Some d
    → format_in order (described_attributes ds) (Some (record { index = index; parse_info = places })) ≡ Some (native_format_of (attr_in d) order)
format_at order ds index places d found =
    let format = λ (o : Option AttributeDescription). option_map (λ a. native_format_of a.attr order) (option_map described_attribute o) in
    ap (option_map (λ a. native_format_of a.attr order)) (slice_get-map described_attribute ds index) ∙ ap format found
