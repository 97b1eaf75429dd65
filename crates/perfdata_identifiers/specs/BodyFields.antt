-- The numbers at offsets in a record's body.
use Rattle.std.specs.Prelude.{ℕ, ◌+◌, ◌-◌, ◌==◌, ◌&&◌, nat_le, nat_lt, List, length, drop, if◌then◌else◌, Option, None, Some}
use Rattle.std.specs.Option.{option_and_then, option_map}
use Rattle.perfdata_sources.specs.Endian.{number_in}
use Rattle.perfdata_sources.specs.declared.endian.Endianness.{Endianness}

-- The offset of an eight-byte number that starts `at` bytes after the start of a body of `len` bytes, if it is completely in the
-- body.
abbrev pub checked_offset_from_start : ℕ → ℕ → Option ℕ
checked_offset_from_start len at = if nat_le (at + 8) len then Some at else None

-- the offset of such a number that starts `back` bytes before the end of the body
abbrev pub checked_offset_from_end : ℕ → ℕ → Option ℕ
checked_offset_from_end len back = if nat_le 8 back && nat_le back len then Some (len - back) else None

-- The offset of a number in a record's body: by its distance from the start in a sample, and by its distance from the end in
-- another kernel record. A user record, of type 64 and more, has none.
abbrev pub offset_in_body : ℕ → ℕ → Option ℕ → Option ℕ → Option ℕ
offset_in_body kind len start back = if nat_lt kind 64
    then (if kind == 9 then option_and_then (checked_offset_from_start len) start else option_and_then (checked_offset_from_end len) back)
    else None

-- the number at this offset
abbrev pub u64_field_at : Endianness → Option ℕ → Option ℕ → ℕ → List ℕ → Option ℕ
u64_field_at order start back kind body =
    option_map (λ at. number_in order 8 (drop at body)) (offset_in_body kind (length body) start back)
