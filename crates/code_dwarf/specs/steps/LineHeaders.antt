-- The headers of line programs (DWARF 5, section 6.2.4; DWARF 4, section 6.2.4).
use Rattle.std.specs.Prelude.{◌≡◌, ◌⊎◌, ℕ, ◌+◌, ◌-◌, ◌<◌, ◌≤◌, nat_lt, List, ◌∷◌, length, Bool, ℤ, pos, ◌-ℤ◌, if◌then◌else◌, ◌==◌, Option, Some, None}
use Rattle.code_dwarf.specs.steps.Numbers.{NumberAt, OffsetAt, LengthAt, SplitAt, SkippedAt}
use Rattle.code_dwarf.specs.steps.Units.{IsAddressSize}
use Rattle.code_dwarf.specs.declared.fixed.Endianness.{Endianness}
use Rattle.code_dwarf.specs.declared.line_header.LineHeader.{LineHeader}
use Rattle.code_dwarf.specs.declared.line_header.Parameters.{Parameters}

-- whether addresses have 8 bytes: before version 5 the unit says it, in version 5 the header, where the size of segment selectors follows
abbrev pub AddressSizeAt : ℕ → Bool → List ℕ → Bool → List ℕ → Type 0
AddressSizeAt version given bytes wide rest =
    ((version < 5) × (wide ≡ given) × (rest ≡ bytes))
    ⊎ ((5 ≤ version) × ((size : ℕ) × (mid : List ℕ) × (bytes ≡ size ∷ mid) × IsAddressSize wide size × SkippedAt 1 mid rest))

-- the largest number of operations of an instruction of the machine, which versions from 4 on have
abbrev pub MaximumAt : ℕ → List ℕ → ℕ → List ℕ → Type 0
MaximumAt version bytes n rest = ((version < 4) × (n ≡ 1) × (rest ≡ bytes)) ⊎ ((4 ≤ version) × (bytes ≡ n ∷ rest))

-- the parameters of the machine: after the largest number of operations the flag `default_is_stmt` is skipped. Three of them aren't 0
pub record ParametersAt (version : ℕ) (bytes : List ℕ) (p : Parameters) (rest : List ℕ) : Type 0 where
  pub mid : List ℕ
  pub flag : List ℕ
  pub left : List ℕ
  pub minimum_at : bytes ≡ p.minimum_size ∷ mid
  pub maximum_at : MaximumAt version mid p.maximum_operations flag
  pub flag_at : SkippedAt 1 flag left
  pub split : left ≡ p.line_base ∷ p.line_range ∷ p.opcode_base ∷ rest
  pub some_operations : 0 < p.maximum_operations
  pub some_range : 0 < p.line_range
  pub some_base : 0 < p.opcode_base

-- the signed number that a byte is
abbrev pub signed : ℕ → ℤ
signed n = (if nat_lt n 128 then pos n else pos n -ℤ pos 256)

-- at an offset of a section there is a line program with this header. `given` is whether the unit's addresses have 8 bytes. The program's length, its
-- version, the size of addresses and the header's length come first; then the header's contents: the parameters, the numbers of operands of the
-- standard opcodes and the tables; then the instructions
pub record LineHeaderAt (section : List ℕ) (offset : ℕ) (endian : Endianness) (given : Bool) (h : LineHeader) : Type 0 where
  pub bytes : List ℕ
  pub is_64 : Bool
  pub len : ℕ
  pub mid : List ℕ
  pub contents : List ℕ
  pub rest : List ℕ
  pub after_version : List ℕ
  pub after_size : List ℕ
  pub size : ℕ
  pub after_length : List ℕ
  pub header : List ℕ
  pub instructions : List ℕ
  pub parameters : Parameters
  pub counts : List ℕ
  pub tables : List ℕ
  pub bytes_at : SkippedAt offset section bytes
  pub length_at : LengthAt endian is_64 bytes len mid
  pub contents_at : SplitAt len mid contents rest
  pub version_at : NumberAt endian 2 contents h.encoding.version after_version
  pub lowest_version : 2 ≤ h.encoding.version
  pub highest_version : h.encoding.version ≤ 5
  pub size_at : AddressSizeAt h.encoding.version given after_version h.encoding.has_64_bit_addresses after_size
  pub header_length_at : OffsetAt endian is_64 after_size size after_length
  pub header_at : SplitAt size after_length header instructions
  pub parameters_at : ParametersAt h.encoding.version header parameters counts
  pub tables_at : SkippedAt (parameters.opcode_base - 1) counts tables
  pub endian_is : h.encoding.endian ≡ endian
  pub format_is : h.encoding.is_64_bit ≡ is_64
  pub minimum_is : h.minimum_size ≡ parameters.minimum_size
  pub maximum_is : h.maximum_operations ≡ parameters.maximum_operations
  pub line_base_is : h.line_base ≡ signed parameters.line_base
  pub line_range_is : h.line_range ≡ parameters.line_range
  pub opcode_base_is : h.opcode_base ≡ parameters.opcode_base
  pub ends : h.instructions.end + length rest ≡ length section
  pub instructions_start : h.instructions.start + length instructions ≡ h.instructions.end
  pub tables_end : h.tables.end ≡ h.instructions.start
  pub header_end : h.encoding.end ≡ h.instructions.start
  pub tables_start : h.tables.start + length tables ≡ h.tables.end
  pub counts_start : h.operand_counts.start + length counts ≡ h.tables.end
  pub counts_end : h.operand_counts.end ≡ h.tables.start

-- where a table contains the entry with an index: before version 5 the first has the index 1, in version 5 the index 0
abbrev pub index_in_table : ℕ → ℕ → Option ℕ
index_in_table version index = (if nat_lt version 5 then (if index == 0 then None else Some (index - 1)) else Some index)
