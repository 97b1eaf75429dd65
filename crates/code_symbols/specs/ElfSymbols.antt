-- The entries of the symbol tables of ELF files, and the offsets of their symbols.
use Rattle.std.specs.Prelude.{◌≡◌, ◌≢◌, ◌⊎◌, ℕ, ◌+◌, ◌-◌, ◌*◌, ◌/◌, ◌%◌, ◌^◌, ◌<◌, ◌≤◌, ◌==◌, ◌&&◌, ◌||◌, Bool, false, true, List, [], ◌∷◌, ◌++◌, Option, None, Some, All, bit_and, if◌then◌else◌, length, min, nat_le, not, slice_get, slice_index, slice_index_or, slice_range}
use Rattle.std.specs.Option.{option_and_then, option_map}
use Rattle.code_symbols.specs.ElfImages.{by_class, number_at, word_at}
use Rattle.code_symbols.specs.declared.elf.header.Section.{Section}
use Rattle.code_symbols.specs.declared.elf.header.Segment.{Segment}
use Rattle.code_symbols.specs.declared.elf.input.Encoding.{Encoding}
use Rattle.code_symbols.specs.declared.elf.symbols.ElfSymbol.{ElfSymbol}
use Rattle.code_symbols.specs.declared.elf.symbols.SymbolContext.{SymbolContext}
use Rattle.code_symbols.specs.declared.ranked.RankedSymbol.{RankedSymbol}
use Rattle.code_symbols.specs.StringTable.{bytes_of}
use Rattle.code_symbols.specs.Strings.{IsStringAt, string_in}
use Rattle.code_symbols.specs.Versions.{IsOtherVersion, printed_len}

-- the symbol in an entry (`Elf32_Sym`, `Elf64_Sym`)
abbrev pub elf_symbol_in : Encoding → List ℕ → ElfSymbol
elf_symbol_in e bytes = record {
  name = number_at e bytes 0 4;
  binding = slice_index bytes (by_class e 12 4) / 2 ^ 4;
  symbol_type = bit_and (slice_index bytes (by_class e 12 4)) 15;
  visibility = bit_and (slice_index bytes (by_class e 13 5)) 3;
  section = number_at e bytes (by_class e 14 6) 2;
  value = word_at e bytes 4 8;
  size = word_at e bytes 8 16;
}

-- the segment contains the address in memory
pub record Loads (s : Segment) (x : ℕ) : Type 0 where
  pub starts : s.address ≤ x
  pub ends : x < s.address + s.memory_size

-- the offset, modulo 2^64, of an address by the first segment that contains it
pub record IsOffsetBy (segments : List Segment) (x offset : ℕ) : Type 0 where
  pub before : List Segment
  pub segment : Segment
  pub after : List Segment
  pub list : segments ≡ before ++ segment ∷ after
  pub loads : Loads segment x
  pub first : All (λ s. ¬ Loads s x) before
  pub is : offset ≡ (x - segment.address + segment.offset) % 2 ^ 64

-- the offset of an address, or `None` exactly if no segment contains it
abbrev pub IsOffsetOfAddress : List Segment → ℕ → Option ℕ → Type 0
IsOffsetOfAddress segments x None = All (λ s. ¬ Loads s x) segments
IsOffsetOfAddress segments x (Some offset) = IsOffsetBy segments x offset

-- the address of a symbol: its value, for functions of 32-bit Arm without the bit that says in which mode they run
abbrev pub symbol_address : ℕ → ElfSymbol → ℕ
symbol_address machine s = if machine == 40 && s.symbol_type == 2 then bit_and s.value (2 ^ 64 - 2) else s.value

-- the index of the section of the symbol with this index: that of the table for large ones, none if it is reserved, or the entry's
abbrev pub section_index_of : SymbolContext → ElfSymbol → ℕ → Option ℕ
section_index_of c s i = if s.section == 65535 then Some (number_at c.header.encoding c.section_indices.now (min (i * 4) (2 ^ 64 - 1)) 4)
    else (if nat_le 65280 s.section then None else Some s.section)

-- the section of the symbol with this index
abbrev pub section_of_symbol : SymbolContext → ElfSymbol → ℕ → Option Section
section_of_symbol c s i = option_and_then (slice_get c.sections.now) (section_index_of c s i)

-- the offset of an address by its section, modulo 2^64
abbrev pub section_offset : ℕ → Section → ℕ
section_offset x s = ((x + (2 ^ 64 - s.address)) % 2 ^ 64 + s.offset) % 2 ^ 64

-- the offset of a symbol: that in its section if the file is relocatable or without segments, otherwise that by the segments
pub record IsSymbolOffset (c : SymbolContext) (s : ElfSymbol) (section : Option Section) (result : Option ℕ) : Type 0 where
  pub by_section : ((c.header.file_type ≡ 1) ⊎ (length c.segments.now ≡ 0)) → result ≡ option_map (section_offset (symbol_address c.header.machine s)) section
  pub by_segment : c.header.file_type ≢ 1 → length c.segments.now ≢ 0 → IsOffsetOfAddress c.segments.now (symbol_address c.header.machine s) result

-- the symbol has a name, and is in a section of this file: neither in another file (`SHN_UNDEF`) nor without an address (`SHN_ABS`)
pub record IsDefined (s : ElfSymbol) : Type 0 where
  pub named : s.name ≢ 0
  pub here : s.section ≢ 0
  pub relative : s.section ≢ 0xfff1

-- the same, as a test
abbrev pub is_defined : ElfSymbol → Bool
is_defined s = not (s.name == 0 || s.section == 0 || s.section == 0xfff1)

-- a function (`STT_FUNC`), a function that chooses one (`STT_GNU_IFUNC`), or an object (`STT_OBJECT`)
abbrev pub has_listed_type : ElfSymbol → Bool
has_listed_type s = s.symbol_type == 2 || s.symbol_type == 10 || s.symbol_type == 1

-- a name that begins with `$a`, `$d`, `$t` or `$x`: a mark between code and data in code for Arm and RISC-V
abbrev pub is_mapping_name : List ℕ → Bool
is_mapping_name n = nat_le 2 (length n) && slice_index n 0 == 36
    && (slice_index n 1 == 97 || slice_index n 1 == 100 || slice_index n 1 == 116 || slice_index n 1 == 120)

-- the name of a symbol in its string table
abbrev pub name_in_table : SymbolContext → ElfSymbol → List ℕ
name_in_table c s = string_in (bytes_of c.names.now) s.name

-- what is in the section is visible (neither `STV_INTERNAL` nor `STV_HIDDEN`), in a section of code, and no such mark
abbrev pub is_label : SymbolContext → ElfSymbol → Option ℕ → Bool
is_label c s None = false
is_label c s (Some i) = not (s.visibility == 1) && not (s.visibility == 2) && slice_index_or c.text_sections.now i false
    && not (is_mapping_name (name_in_table c s))

-- a symbol is listed: it is defined here, and of a function or an object, or a label without a type (`STT_NOTYPE`)
abbrev pub is_listed : SymbolContext → ElfSymbol → Option ℕ → Bool
is_listed c s section = is_defined s && (has_listed_type s || (s.symbol_type == 0 && is_label c s section))

-- where a section ends, in the units of `start`, which is the offset of `address`; each end is at most 2^64 - 1
abbrev pub end_of_section : Option Section → ℕ → ℕ → ℕ
end_of_section None address start = 2 ^ 64 - 1
end_of_section (Some s) address start = min (start + (min (s.address + s.size) (2 ^ 64 - 1) - address)) (2 ^ 64 - 1)

-- the version of the symbol with this index isn't the default one of its name (bit 15 of its entry in `.gnu.version`)
abbrev pub is_hidden : SymbolContext → ℕ → Bool
is_hidden c i = nat_le 0x8000 (number_at c.header.encoding c.versions.now (min (i * 2) (2 ^ 64 - 1)) 2)

-- whether the symbol is kept for old programs: by its name, or by its version
pub record IsCompatibility (c : SymbolContext) (s : ElfSymbol) (i : ℕ) (result : Bool) : Type 0 where
  pub name : List ℕ
  pub is_name : IsStringAt (bytes_of c.names.now) s.name name
  pub is_other : Bool
  pub other : IsOtherVersion name is_other
  pub is : result ≡ (is_other || is_hidden c i)

-- the symbol has the offset, the size and the name of the entry with this index, and is a compatibility symbol if that one is
pub record IsRanked (c : SymbolContext) (s : ElfSymbol) (i : ℕ) (r : RankedSymbol) : Type 0 where
  pub defined : IsDefined s
  pub offset : IsSymbolOffset c s (section_of_symbol c s i) (Some r.symbol.start)
  pub size : r.symbol.size ≡ s.size
  pub name : r.symbol.name_start ≡ s.name
  pub of_file : r.is_made ≡ false
  pub compatibility : IsCompatibility c s i r.is_compatibility

-- the entry with this index is listed, and the symbol has its name without a default version, its binding, and the end of its section
pub record IsListed (c : SymbolContext) (s : ElfSymbol) (i : ℕ) (r : RankedSymbol) : Type 0 where
  pub listed : is_listed c s (section_index_of c s i) ≡ true
  pub name_end : r.symbol.name_end ≡ min (s.name + printed_len (name_in_table c s)) (2 ^ 64 - 1)
  pub some_name : 0 < printed_len (name_in_table c s)
  pub weak : r.is_weak ≡ (s.binding == 2)
  pub global : r.is_global ≡ (s.binding == 1)
  pub end : r.section_end ≡ end_of_section (section_of_symbol c s i) (symbol_address c.header.machine s) r.symbol.start

-- the entry with this index has no symbol: it isn't listed, has no name, or is outside all segments and sections
abbrev pub IsLeftOut : SymbolContext → ElfSymbol → ℕ → Type 0
IsLeftOut c s i = (is_listed c s (section_index_of c s i) ≡ false) ⊎ (printed_len (name_in_table c s) ≡ 0) ⊎ IsSymbolOffset c s (section_of_symbol c s i) None

-- the symbol is that of one of the entries of a table, each of `entry_size` bytes
pub record IsOfEntry (c : SymbolContext) (entries : List ℕ) (entry_size : ℕ) (r : RankedSymbol) : Type 0 where
  pub index : ℕ
  pub within : index * entry_size + entry_size ≤ length entries
  pub ranked : IsRanked c (elf_symbol_in c.header.encoding (slice_range entries (index * entry_size) (index * entry_size + entry_size))) index r

-- symbols of entries are appended
pub record AddsEntries (c : SymbolContext) (entries : List ℕ) (entry_size : ℕ) (old new : List RankedSymbol) : Type 0 where
  pub added : List RankedSymbol
  pub appended : new ≡ old ++ added
  pub each : All (IsOfEntry c entries entry_size) added

-- the entry with an index of a table, each of `entry_size` bytes
abbrev pub entry_at : Encoding → List ℕ → ℕ → ℕ → ElfSymbol
entry_at e entries entry_size i = elf_symbol_in e (slice_range entries (i * entry_size) (i * entry_size + entry_size))

-- the symbols of the first entries of a table, in their order
pub data AreOfFirst (c : SymbolContext) (entries : List ℕ) (entry_size : ℕ) : ℕ → List RankedSymbol → Type 0 where
  no_entry : AreOfFirst c entries entry_size 0 []
  entry_left_out : (n : ℕ) (rs : List RankedSymbol) → AreOfFirst c entries entry_size n rs → IsLeftOut c (entry_at c.header.encoding entries entry_size n) n
      → AreOfFirst c entries entry_size (n + 1) rs
  entry_listed : (n : ℕ) (rs : List RankedSymbol) (r : RankedSymbol) → AreOfFirst c entries entry_size n rs
      → IsRanked c (entry_at c.header.encoding entries entry_size n) n r
      → IsListed c (entry_at c.header.encoding entries entry_size n) n r → AreOfFirst c entries entry_size (n + 1) (rs ++ r ∷ [])

-- the symbols of the first entries are appended, in the order of the entries
pub record AddsFirst (c : SymbolContext) (entries : List ℕ) (entry_size n : ℕ) (old new : List RankedSymbol) : Type 0 where
  pub added : List RankedSymbol
  pub appended : new ≡ old ++ added
  pub of_first : AreOfFirst c entries entry_size n added

-- the symbols of all complete entries are appended
pub record AddsAll (c : SymbolContext) (entries : List ℕ) (entry_size : ℕ) (old new : List RankedSymbol) : Type 0 where
  pub count : ℕ
  pub adds : AddsFirst c entries entry_size count old new
  pub complete : length entries < (count + 1) * entry_size
