-- The keys of parse infos, and the indices of parse infos by their keys.
use Rattle.std.specs.Prelude.{◌≡◌, ℕ, List, Option, Some, slice_get}
use Rattle.std.specs.BTreeMap.{BTreeMap, get}
use Rattle.std.specs.Option.{option_cmp}
use Rattle.std.specs.Ordering.{nat_cmp, ordering_then}
use Rattle.std.specs.declared.cmp.Ordering.{Ordering}
use Rattle.perfdata_sources.specs.declared.endian.Endianness.{Endianness}
use Rattle.perfdata_sources.specs.declared.endian.Endianness.TheVariants.{LittleEndian, BigEndian}
use Rattle.perfdata_identifiers.specs.declared.place.parse_info.RecordParseInfo.{RecordParseInfo}

-- The numbers that determine a parse info.
abbrev pub Key : Type 0
Key = ℕ × ℕ × Option ℕ × Option ℕ × Option ℕ × Option ℕ

abbrev pub order_number : Endianness → ℕ
order_number LittleEndian = 0
order_number BigEndian = 1

abbrev pub parse_info_key : RecordParseInfo → Key
parse_info_key p = (
  order_number p.endian,
  p.sample_format.0,
  p.id_parse_info.sample_id_from_start,
  p.id_parse_info.other_id_from_end,
  p.sample_time_from_start,
  p.other_time_from_end,
)

abbrev pub offset_cmp : Option ℕ → Option ℕ → Ordering
offset_cmp x y = option_cmp nat_cmp x y

-- Keys are compared field by field.
abbrev pub key_cmp : Key → Key → Ordering
key_cmp x y = ordering_then (ordering_then
    (ordering_then (ordering_then (ordering_then (nat_cmp x.0 y.0) (nat_cmp x.1 y.1)) (offset_cmp x.2 y.2)) (offset_cmp x.3 y.3)) (offset_cmp x.4 y.4))
    (offset_cmp x.5 y.5)

-- The map has the index of each parse info, and nothing else.
abbrev pub AreIndexed : BTreeMap Key ℕ → List RecordParseInfo → Type 0
AreIndexed indices found = (p : RecordParseInfo) (index : ℕ) →
    (get key_cmp indices (parse_info_key p) ≡ Some index → slice_get found index ≡ Some p)
    × (slice_get found index ≡ Some p → get key_cmp indices (parse_info_key p) ≡ Some index)

-- No two parse infos are equal.
abbrev pub AreDistinct : List RecordParseInfo → Type 0
AreDistinct found = (p : RecordParseInfo) (i j : ℕ) → slice_get found i ≡ Some p → slice_get found j ≡ Some p → i ≡ j
