-- The attributes in attribute descriptions.
use Rattle.std.specs.Prelude.{List, map}
use Rattle.perfdata_identifiers.specs.ParseInfo.{parse_info_of}
use Rattle.perfdata_identifiers.specs.declared.place.parse_info.RecordParseInfo.{RecordParseInfo}
use Rattle.perfdata_sources.specs.declared.endian.Endianness.{Endianness}
use Rattle.perfdata_sections.specs.declared.feature_sections.AttributeDescription.{AttributeDescription}
use Rattle.perfdata_sections.specs.AttributeDescription.{attr_in, ids_in}
use Rattle.linux_perf_data.specs.Attribute.{Attribute}

-- The attribute of a description, with the identifiers of its records.
abbrev pub described_attribute : AttributeDescription → Attribute
described_attribute d = record { attr = attr_in d; ids = ids_in d }

abbrev pub described_attributes : List AttributeDescription → List Attribute
described_attributes ds = map described_attribute ds

-- The parse info of each attribute's records.
abbrev pub parse_infos_of : Endianness → List Attribute → List RecordParseInfo
parse_infos_of order attrs = map (λ a. parse_info_of a.attr order) attrs
