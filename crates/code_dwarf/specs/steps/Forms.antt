-- The values of attributes (DWARF 5, sections 7.5.5 and 7.5.6; the GNU forms 0x1f01, 0x1f02, 0x1f20 and 0x1f21).
use Rattle.std.specs.Prelude.{◌≡◌, ◌≢◌, ◌⊎◌, ℕ, ◌+◌, ◌-◌, List, length}
use Rattle.std.specs.Int.{cast_unsigned, w64}
use Rattle.std.specs.Prelude.{ℤ, pos}
use Rattle.code_cfi.specs.Numbers.{Uleb128At, Sleb128At}
use Rattle.code_dwarf.specs.steps.Numbers.{NumberAt, OffsetAt, SkippedAt, BlockAfter, LongBlockAt, StringAt}
use Rattle.code_dwarf.specs.declared.abbreviations.AttributeSpec.{AttributeSpec}
use Rattle.code_dwarf.specs.declared.forms.Encoding.{Encoding}
use Rattle.code_dwarf.specs.declared.forms.Value.{Value}
use Rattle.code_dwarf.specs.declared.forms.Value.TheVariants as values

-- a signed LEB128 number as its 64 bits
abbrev pub Sleb128BitsAt : List ℕ → ℕ → List ℕ → Type 0
Sleb128BitsAt bytes n rest = (z : ℤ) × Sleb128At bytes z rest × (n ≡ cast_unsigned w64 z)

-- an index: an unsigned LEB128 number, or a number of 1 to 4 bytes in one of four forms in a row
abbrev pub IndexAt : Encoding → ℕ → ℕ → ℕ → ℕ → List ℕ → ℕ → List ℕ → Type 0
IndexAt e long gnu short form bytes n rest =
    ((form ≡ long) × Uleb128At bytes n rest)
    ⊎ (((form ≡ gnu) × Uleb128At bytes n rest) ⊎ (((form ≡ short) × NumberAt e.endian 1 bytes n rest) ⊎ (((form ≡ short + 1) × NumberAt e.endian 2 bytes n rest)
    ⊎ (((form ≡ short + 2) × NumberAt e.endian 3 bytes n rest) ⊎ ((form ≡ short + 3) × NumberAt e.endian 4 bytes n rest)))))

-- a value of another class: flags, blocks, 16 bytes, the signature of a type, the index of a list of locations
abbrev pub OtherAt : Encoding → ℕ → List ℕ → List ℕ → Type 0
OtherAt e form bytes rest =
    ((form ≡ 25) × (rest ≡ bytes)) ⊎ (((form ≡ 12) × SkippedAt 1 bytes rest)
    ⊎ (((form ≡ 30) × SkippedAt 16 bytes rest) ⊎ (((form ≡ 10) × BlockAfter e.endian 1 bytes rest) ⊎ (((form ≡ 3) × BlockAfter e.endian 2 bytes rest)
    ⊎ (((form ≡ 4) × BlockAfter e.endian 4 bytes rest)
    ⊎ (((form ≡ 9) × LongBlockAt bytes rest) ⊎ (((form ≡ 24) × LongBlockAt bytes rest) ⊎ (((form ≡ 32) × ((n : ℕ) × NumberAt e.endian 8 bytes n rest))
    ⊎ ((form ≡ 34) × ((n : ℕ) × Uleb128At bytes n rest))))))))))

-- the value of an attribute whose form isn't indirect
abbrev pub DirectAt : Encoding → AttributeSpec → List ℕ → Value → List ℕ → Type 0
DirectAt e a bytes (values.Address n) rest = (a.form ≡ 0x01) × OffsetAt e.endian e.has_64_bit_addresses bytes n rest
DirectAt e a bytes (values.AddressIndex n) rest = IndexAt e 0x1b 0x1f01 0x29 a.form bytes n rest
DirectAt e a bytes (values.Constant n) rest =
    ((a.form ≡ 0x0b) × NumberAt e.endian 1 bytes n rest)
    ⊎ (((a.form ≡ 0x05) × NumberAt e.endian 2 bytes n rest)
    ⊎ (((a.form ≡ 0x06) × NumberAt e.endian 4 bytes n rest) ⊎ (((a.form ≡ 0x07) × NumberAt e.endian 8 bytes n rest)
    ⊎ (((a.form ≡ 0x0d) × Sleb128BitsAt bytes n rest)
    ⊎ (((a.form ≡ 0x0f) × Uleb128At bytes n rest) ⊎ ((a.form ≡ 0x21) × (n ≡ cast_unsigned w64 a.constant) × (rest ≡ bytes)))))))
DirectAt e a bytes (values.Offset n) rest = (a.form ≡ 0x17) × OffsetAt e.endian e.is_64_bit bytes n rest
DirectAt e a bytes (values.RangeListIndex n) rest = (a.form ≡ 0x23) × Uleb128At bytes n rest
DirectAt e a bytes (values.InlineString n) rest = (a.form ≡ 0x08) × ((string : List ℕ) × StringAt bytes string rest) × (n ≡ e.end - length bytes)
DirectAt e a bytes (values.StringOffset n) rest = (a.form ≡ 0x0e) × OffsetAt e.endian e.is_64_bit bytes n rest
DirectAt e a bytes (values.LineStringOffset n) rest = (a.form ≡ 0x1f) × OffsetAt e.endian e.is_64_bit bytes n rest
DirectAt e a bytes (values.StringIndex n) rest = IndexAt e 0x1a 0x1f02 0x25 a.form bytes n rest
DirectAt e a bytes (values.AlternateString n) rest =
    ((a.form ≡ 0x1d) × OffsetAt e.endian e.is_64_bit bytes n rest) ⊎ ((a.form ≡ 0x1f21) × OffsetAt e.endian e.is_64_bit bytes n rest)
DirectAt e a bytes (values.UnitReference n) rest =
    ((a.form ≡ 0x11) × NumberAt e.endian 1 bytes n rest)
    ⊎ (((a.form ≡ 0x12) × NumberAt e.endian 2 bytes n rest)
    ⊎ (((a.form ≡ 0x13) × NumberAt e.endian 4 bytes n rest) ⊎ (((a.form ≡ 0x14) × NumberAt e.endian 8 bytes n rest)
    ⊎ ((a.form ≡ 0x15) × Uleb128At bytes n rest))))
DirectAt e a bytes (values.InfoReference n) rest =
    ((a.form ≡ 0x10) × (e.version ≡ 2) × OffsetAt e.endian e.has_64_bit_addresses bytes n rest)
    ⊎ ((a.form ≡ 0x10) × (e.version ≢ 2) × OffsetAt e.endian e.is_64_bit bytes n rest)
DirectAt e a bytes (values.AlternateReference n) rest =
    ((a.form ≡ 0x1c) × NumberAt e.endian 4 bytes n rest)
    ⊎ (((a.form ≡ 0x24) × NumberAt e.endian 8 bytes n rest) ⊎ ((a.form ≡ 0x1f20) × OffsetAt e.endian e.is_64_bit bytes n rest))
DirectAt e a bytes values.Other rest = OtherAt e a.form bytes rest

-- the value of an attribute: the form `DW_FORM_indirect` is followed by another form, which is neither this one nor `DW_FORM_implicit_const`
abbrev pub IndirectAt : Encoding → AttributeSpec → List ℕ → Value → List ℕ → Type 0
IndirectAt e a bytes value rest =
    (form : ℕ) × (mid : List ℕ) × Uleb128At bytes form mid × (form ≢ 22) × (form ≢ 33)
    × DirectAt e (record { name = a.name; form = form; constant = pos 0 }) mid value rest

abbrev pub ValueAt : Encoding → AttributeSpec → List ℕ → Value → List ℕ → Type 0
ValueAt e a bytes value rest = ((a.form ≢ 22) × DirectAt e a bytes value rest) ⊎ ((a.form ≡ 22) × IndirectAt e a bytes value rest)
