-- The parse infos that were found, by their indices.
use Rattle.std.specs.Prelude.{ℕ, List, Option, slice_get}
use Rattle.perfdata_identifiers.specs.declared.place.parse_info.RecordParseInfo.{RecordParseInfo}
use Rattle.perfdata_order.specs.declared.parse_infos.ParseInfos.{ParseInfos}

abbrev pub parse_infos_of : ParseInfos → List RecordParseInfo
parse_infos_of s = s.found.items

abbrev pub found_at : ParseInfos → ℕ → Option RecordParseInfo
found_at s index = slice_get (parse_infos_of s) index
