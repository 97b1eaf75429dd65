-- Steps of private functions: the attributes in attribute descriptions.
use Rattle.std.specs.Prelude.{◌≡◌, List, Result, Ok, Err, Vec}
use Rattle.std.specs.declared.alloc.Global.{Global}
use Rattle.perfdata_identifiers.specs.declared.place.parse_info.RecordParseInfo.{RecordParseInfo}
use Rattle.perfdata_sources.specs.declared.endian.Endianness.{Endianness}
use Rattle.perfdata_sections.specs.declared.error.Error.{Error}
use Rattle.perfdata_sections.specs.declared.error.Error.TheVariants.{Memory}
use Rattle.linux_perf_data.specs.Attribute.{Attribute}
use Rattle.linux_perf_data.specs.Descriptions.{parse_infos_of}

abbrev pub CollectsParseInfos : Endianness → List Attribute → Result (Vec RecordParseInfo Global) Error → Type 0
CollectsParseInfos order attrs (Ok v) = v.items ≡ parse_infos_of order attrs
CollectsParseInfos order attrs (Err e) = e ≡ Memory
