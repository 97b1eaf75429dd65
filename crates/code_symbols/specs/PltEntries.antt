-- The entries of procedure linkage tables, and their symbols.
use Rattle.std.specs.Prelude.{◌≡◌, ◌⊎◌, ℕ, zero, suc, ◌+◌, ◌*◌, ◌/◌, ◌%◌, ◌^◌, ◌≤◌, Bool, true, false, Option, List, [], ◌∷◌, ◌++◌, All, Some, if◌then◌else◌, length, slice_get, slice_range, None, codes, nat_le}
use Rattle.code_symbols.specs.ArmPlt.{AreEntries}
use Rattle.code_symbols.specs.ElfImages.{word_at}
use Rattle.code_symbols.specs.ElfSymbols.{elf_symbol_in}
use Rattle.code_symbols.specs.StringTable.{bytes_of}
use Rattle.code_symbols.specs.Strings.{string_in}
use Rattle.code_symbols.specs.declared.elf.symbols.ElfSymbol.{ElfSymbol}
use Rattle.code_symbols.specs.declared.elf.arm_plt.CodedEntries.{CodedEntries}
use Rattle.code_symbols.specs.declared.elf.header.Section.{Section}
use Rattle.code_symbols.specs.declared.elf.input.Encoding.{Encoding}
use Rattle.code_symbols.specs.declared.elf.plt.PltContext.{PltContext}
use Rattle.code_symbols.specs.declared.elf.plt.PltEntry.{PltEntry}
use Rattle.code_symbols.specs.declared.elf.plt.PltLayout.{PltLayout}
use Rattle.code_symbols.specs.declared.elf.plt.Relocation.{Relocation}
use Rattle.code_symbols.specs.declared.elf.plt.RelocationKind.{RelocationKind}
use Rattle.code_symbols.specs.declared.elf.plt.RelocationKind.TheVariants.{Descriptor, Function, Indirect, Other}
use Rattle.code_symbols.specs.declared.ranked.RankedSymbol.{RankedSymbol}
use Rattle.code_symbols.specs.declared.ranked.RankedSymbols.{RankedSymbols}
use Rattle.code_symbols.specs.Plt.{IsInPointerOrder}

-- a relocation of a function has an entry, and one of a function that the program chooses if all of these have
abbrev pub has_entry : Bool → RelocationKind → Bool
has_entry are_all Function = true
has_entry are_all Indirect = are_all
has_entry are_all Descriptor = false
has_entry are_all Other = false

-- the relocation in these bytes has this address of a pointer (`r_offset`) and this symbol (`r_info`)
pub record IsRelocation (e : Encoding) (bytes : List ℕ) (r : Relocation) : Type 0 where
  pub offset : r.offset ≡ word_at e bytes 0 0
  pub symbol : r.symbol ≡ (if e.is_64_bit then word_at e bytes 4 8 / 2 ^ 32 else word_at e bytes 4 8 / 2 ^ 8)

-- one of the relocations of the file
pub record IsOfFile (c : PltContext) (r : Relocation) : Type 0 where
  pub at : ℕ
  pub within : at + c.relocation_size ≤ length c.relocations.now
  pub is : IsRelocation c.encoding (slice_range c.relocations.now at (at + c.relocation_size)) r

-- the entry with this index of a layout, whose offset is modulo 2^64
abbrev pub fixed_entry : PltLayout → ℕ → PltEntry
fixed_entry layout i = record { offset = ((i * layout.entry_size) % 2 ^ 64 + layout.header_size) % 2 ^ 64; size = layout.entry_size }

-- the first `n` entries of a layout
abbrev pub fixed_entries : PltLayout → ℕ → List PltEntry
fixed_entries layout zero = []
fixed_entries layout (suc n) = fixed_entries layout n ++ fixed_entry layout n ∷ []

-- the entries of a table: the first ones of a layout, or those that the code of the table says
abbrev pub AreOfTable : PltContext → List PltEntry → Type 0
AreOfTable c entries = ((layout : PltLayout) × (count : ℕ) × (entries ≡ fixed_entries layout count))
    ⊎ ((coded : CodedEntries) × AreEntries c.code_encoding c.code.now coded × (entries ≡ coded.entries.items))

-- the symbol of a relocation, if the symbol table has it
abbrev pub symbol_of_relocation : PltContext → Relocation → Option ElfSymbol
symbol_of_relocation c r = let start : ℕ = r.symbol * c.symbol_size in
    if nat_le (start + c.symbol_size) (length c.symbols.now)
    then Some (elf_symbol_in c.encoding (slice_range c.symbols.now start (start + c.symbol_size))) else None

-- the name of a symbol in a string table, or no bytes
abbrev pub name_of_some : List ℕ → Option ElfSymbol → List ℕ
name_of_some names None = []
name_of_some names (Some s) = string_in names s.name

-- the name of the symbol of a relocation
abbrev pub name_of_relocation : PltContext → Relocation → List ℕ
name_of_relocation c r = name_of_some (bytes_of c.names.now) (symbol_of_relocation c r)

-- the symbol's name is this text, in these bytes
pub record HasText (names text : List ℕ) (r : RankedSymbol) : Type 0 where
  pub within : r.symbol.name_end ≤ length names
  pub is : slice_range names r.symbol.name_start r.symbol.name_end ≡ text

-- the symbol was made with this start and this size
pub record IsMade (start size : ℕ) (r : RankedSymbol) : Type 0 where
  pub start_is : r.symbol.start ≡ start
  pub size_is : r.symbol.size ≡ size
  pub made : r.is_made ≡ true

-- the symbol is that of an entry, which has the index of one of the relocations: its name is that of the relocation's symbol, with `@plt`
pub record IsOfPlt (c : PltContext) (section : Section) (entries : List PltEntry) (relocations : List Relocation)
    (names : List ℕ) (r : RankedSymbol) : Type 0 where
  pub index : ℕ
  pub relocation : Relocation
  pub entry : PltEntry
  pub is : slice_get relocations index ≡ Some relocation
  pub entry_is : slice_get entries index ≡ Some entry
  pub made : IsMade ((section.offset + entry.offset) % 2 ^ 64) entry.size r
  pub text : HasText names (name_of_relocation c relocation ++ codes "@plt") r

-- symbols of entries are appended, and names
pub record AddsPlt (c : PltContext) (section : Section) (entries : List PltEntry) (relocations : List Relocation) (old new : RankedSymbols) : Type 0 where
  pub added : List RankedSymbol
  pub names : List ℕ
  pub appended : new.symbols.items ≡ old.symbols.items ++ added
  pub appended_names : new.names.items ≡ old.names.items ++ names
  pub each : All (IsOfPlt c section entries relocations new.names.items) added

-- symbols of the entries of a table are appended, each that of a relocation in the order of the addresses of their pointers
pub record AddsInOrder (c : PltContext) (section : Section) (old new : RankedSymbols) : Type 0 where
  pub entries : List PltEntry
  pub relocations : List Relocation
  pub of_table : AreOfTable c entries
  pub in_order : IsInPointerOrder relocations
  pub adds : AddsPlt c section entries relocations old new

-- symbols of the entries of a section are appended, each with the name of the relocation of its entry, or none
abbrev pub AddsOfSection : PltContext → Option Section → RankedSymbols → RankedSymbols → Type 0
AddsOfSection c None old new = new ≡ old
AddsOfSection c (Some s) old new = (new ≡ old) ⊎ AddsInOrder c s old new

-- symbols of the entries of two sections are appended, one after the other
pub record AddsOfSections (c : PltContext) (plt second : Option Section) (old new : RankedSymbols) : Type 0 where
  pub between : RankedSymbols
  pub adds_plt : AddsOfSection c plt old between
  pub adds_second : AddsOfSection c second between new
