-- Whether records apply in order of time.
use Rattle.std.specs.Prelude.{Bool, false, List}
use Rattle.std.specs.List.{list_any}
use Rattle.perfdata_identifiers.specs.ParseInfo.{is_set}
use Rattle.perfdata_sources.specs.declared.endian.Endianness.{Endianness}
use Rattle.perfdata_sources.specs.declared.endian.Endianness.TheVariants.{LittleEndian, BigEndian}
use Rattle.perfdata_events.specs.AttributeFlags.{SAMPLE_ID_ALL}
use Rattle.perfdata_sections.specs.AttributeDescription.{attr_in}
use Rattle.perfdata_sections.specs.declared.feature_sections.AttributeDescription.{AttributeDescription}

abbrev pub has_sample_id_all : AttributeDescription → Bool
has_sample_id_all description = is_set (attr_in description).flags.0 SAMPLE_ID_ALL

-- Whether the reader knows the times of records that aren't samples: an attribute has SAMPLE_ID_ALL. In a big-endian recording, whose
-- flags a big-endian compiler laid out, it doesn't.
abbrev pub has_times : Endianness → List AttributeDescription → Bool
has_times LittleEndian descriptions = list_any has_sample_id_all descriptions
has_times BigEndian descriptions = false
