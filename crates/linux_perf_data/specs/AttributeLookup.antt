-- The attribute lookup of an iterator.
use Rattle.std.specs.Prelude.{◌≡◌, ℕ, List, ◌∷◌, slice_get, Some}
use Rattle.std.specs.Option.{unwrap_or}
use Rattle.perfdata_identifiers.specs.ParseInfo.{parse_info_of}
use Rattle.perfdata_identifiers.specs.IdCache.{cached_index}
use Rattle.perfdata_identifiers.specs.declared.place.parse_info.RecordParseInfo.{RecordParseInfo}
use Rattle.perfdata_sources.specs.declared.endian.Endianness.{Endianness}
use Rattle.linux_perf_data.specs.declared.attributes.lookup.AttributeLookup.{AttributeLookup}
use Rattle.linux_perf_data.specs.Attribute.{Attribute, AreConsistent, last_index_listing}
use Rattle.linux_perf_data.specs.Descriptions.{parse_infos_of}
use Rattle.linux_perf_data.specs.IdTable.{id_lookup}
use Rattle.linux_perf_data.specs.Consistency.{first_without_identifier}

-- The lookup represents the attributes `attrs` of the input. There is at least one, and they are consistent. The lookup contains
-- the parse infos of their records and the index of the first attribute that lacks IDENTIFIER. The table resolves each identifier
-- to the last attribute that lists it, and so does each entry of the cache.
pub record Represents (order : Endianness) (k : AttributeLookup) (attrs : List Attribute) : Type 0 where
  pub first_attribute : Attribute
  pub other_attributes : List Attribute
  pub elements : attrs ≡ first_attribute ∷ other_attributes
  pub consistent : AreConsistent attrs
  pub first_parse_info : k.first_parse_info ≡ parse_info_of first_attribute.attr order
  pub parse_infos : k.parse_infos.items ≡ parse_infos_of order attrs
  pub first_without_identifier : k.first_without_identifier ≡ first_without_identifier 0 attrs
  pub table : (id : ℕ) → unwrap_or (id_lookup k.table id) 0 ≡ last_index_listing id 0 0 attrs
  pub cache : (id i : ℕ) → cached_index k.cache id ≡ Some i → i ≡ last_index_listing id 0 0 attrs

-- The parse info of the attribute at `index`; that of attribute 0 if `index` is out of range.
abbrev pub parse_info_at : AttributeLookup → ℕ → RecordParseInfo
parse_info_at k index = unwrap_or (slice_get k.parse_infos.items index) k.first_parse_info
