-- The offsets of the u64 fields in the records of an attribute (Linux's `perf_event.h`).
use Rattle.std.specs.Prelude.{ℕ, ◌-◌, ◌*◌, ◌^◌, ◌==◌, Bool, List, [], ◌∷◌, length, filter, position, if◌then◌else◌, Option}
use Rattle.std.specs.Option.{option_map}
use Rattle.std.specs.Int.RustNames.{bit_and}
use Rattle.perfdata_sources.specs.declared.endian.Endianness.{Endianness}
use Rattle.perfdata_sources.specs.declared.attr.PerfEventAttr.{PerfEventAttr}
use Rattle.perfdata_identifiers.specs.declared.place.parse_info.RecordIdParseInfo.{RecordIdParseInfo}
use Rattle.perfdata_identifiers.specs.declared.place.parse_info.RecordParseInfo.{RecordParseInfo}

-- whether bit k is set
abbrev pub is_set : ℕ → ℕ → Bool
is_set bits k = bit_and bits (2 ^ k) == 2 ^ k

-- A field is identified by the number of the format bit that selects it: IP 0, TID 1, TIME 2, ADDR 3, ID 6, CPU 7, STREAM_ID 9,
-- IDENTIFIER 16. These are the fields at the start of a sample, in order.
abbrev pub sample_words : ℕ → List ℕ
sample_words format = filter (is_set format) (16 ∷ 0 ∷ 1 ∷ 2 ∷ 3 ∷ 6 ∷ [])

-- the fields at the end of another kernel record, in order; none without the flag SAMPLE_ID_ALL
abbrev pub trailing_words : ℕ → ℕ → List ℕ
trailing_words format flags = if is_set flags 18 then filter (is_set format) (1 ∷ 2 ∷ 6 ∷ 9 ∷ 7 ∷ 16 ∷ []) else []

-- the offset of a field in a sample, in bytes from the start of the body; each field has eight bytes
abbrev pub offset_from_start : List ℕ → ℕ → Option ℕ
offset_from_start words word = option_map (λ i. 8 * i) (position (λ w. w == word) words)

-- the offset of a trailing field, in bytes from the end of the body
abbrev pub offset_from_end : List ℕ → ℕ → Option ℕ
offset_from_end words word = option_map (λ i. 8 * (length words - i)) (position (λ w. w == word) words)

-- the field that contains the identifier: IDENTIFIER if its bit is set, else ID
abbrev pub identifier_word : ℕ → ℕ
identifier_word format = if is_set format 16 then 16 else 6

-- the offsets of the identifier in the records of an attribute
abbrev pub id_parse_info_of : PerfEventAttr → RecordIdParseInfo
id_parse_info_of a = record {
  sample_id_from_start = offset_from_start (sample_words a.sample_format.0) (identifier_word a.sample_format.0);
  other_id_from_end = offset_from_end (trailing_words a.sample_format.0 a.flags.0) (identifier_word a.sample_format.0);
}

abbrev pub parse_info_of : PerfEventAttr → Endianness → RecordParseInfo
parse_info_of a order = record {
  endian = order;
  sample_format = a.sample_format;
  id_parse_info = id_parse_info_of a;
  sample_time_from_start = offset_from_start (sample_words a.sample_format.0) 2;
  other_time_from_end = offset_from_end (trailing_words a.sample_format.0 a.flags.0) 2;
}
