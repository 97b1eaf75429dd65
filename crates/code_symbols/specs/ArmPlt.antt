-- The entries of procedure linkage tables of 32-bit Arm, by their code.
use Rattle.std.specs.Prelude.{◌≡◌, ℕ, ◌+◌, ◌/◌, ◌^◌, ◌==◌, ◌&&◌, Bool, List, [], ◌∷◌, Option, None, Some, bit_and, if◌then◌else◌}
use Rattle.perfdata_sources.specs.declared.endian.Endianness.TheVariants.{LittleEndian}
use Rattle.code_symbols.specs.ElfImages.{number_at}
use Rattle.code_symbols.specs.declared.elf.arm_plt.CodedEntries.{CodedEntries}
use Rattle.code_symbols.specs.declared.elf.header.FileHeader.{FileHeader}
use Rattle.code_symbols.specs.declared.elf.input.Encoding.{Encoding}
use Rattle.code_symbols.specs.declared.elf.plt.PltEntry.{PltEntry}

-- the size of the stub for Thumb code that an entry of Arm code may begin with: `bx pc` and an instruction that isn't reached
abbrev pub stub_size : Encoding → List ℕ → ℕ → ℕ
stub_size e code at = if number_at e code at 2 == 0x4778 then 4 else 0

-- the size of the entry at an offset in Arm code: its stub, and three or four instructions, of which the first is `add ip, pc, #..`
abbrev pub arm_size : Encoding → List ℕ → ℕ → Option ℕ
arm_size e code at = let stub : ℕ = stub_size e code at in let word : ℕ = number_at e code (at + stub) 4 / 2 ^ 8 in
    if word == 0xe28fc6 then Some (stub + 12) else (if word == 0xe28fc2 then Some (stub + 16) else None)

-- the size of the entry at an offset in Thumb-2 code, whose first instruction is `movw ip, #..`
abbrev pub thumb_size : Encoding → List ℕ → ℕ → Option ℕ
thumb_size e code at = if bit_and (number_at e code at 2) 0xfbf0 == 0xf240 && bit_and (number_at e code (at + 2) 2) 0x8f00 == 0x0c00 then Some 16 else None

-- the table is in Thumb-2 code: it starts with `push {lr}` and `ldr.w lr, [pc, #8]`
abbrev pub is_thumb_table : Encoding → List ℕ → Bool
is_thumb_table e code = number_at e code 0 4 == 0xf8dfb500

-- the size of the entry at an offset
abbrev pub coded_size : Encoding → List ℕ → ℕ → Option ℕ
coded_size e code at = if is_thumb_table e code then thumb_size e code at else arm_size e code at

-- the size of the code before the first entry
abbrev pub start_size : Encoding → List ℕ → ℕ
start_size e code = if is_thumb_table e code then 16 else 20

-- these entries follow one another from an offset to an end, each with the size that its code says
abbrev pub FollowEachOther : (ℕ → Option ℕ) → ℕ → List PltEntry → ℕ → Type 0
FollowEachOther size_at at [] end = at ≡ end
FollowEachOther size_at at (x ∷ xs) end = (x.offset ≡ at) × (size_at at ≡ Some x.size) × FollowEachOther size_at (at + x.size) xs end

-- the entries of a table with this code
abbrev pub AreEntries : Encoding → List ℕ → CodedEntries → Type 0
AreEntries e code c = FollowEachOther (coded_size e code) (start_size e code) c.entries.items c.end

-- the byte order of code: little-endian in files with `EF_ARM_BE8`, otherwise that of numbers
abbrev pub code_encoding_of : FileHeader → Encoding
code_encoding_of h = if bit_and h.flags 0x800000 == 0 then h.encoding else record { endian = LittleEndian; is_64_bit = h.encoding.is_64_bit }
