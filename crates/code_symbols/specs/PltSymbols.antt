-- The symbols of the procedure linkage tables of an ELF file.
use Rattle.std.specs.Prelude.{◌≡◌, ◌≢◌, ◌⊎◌, ℕ, ◌==◌, ◌||◌, List, [], Option, None, Some, codes, if◌then◌else◌, slice_get}
use Rattle.std.specs.Option.{option_and_then, option_or}
use Rattle.code_symbols.specs.ArmPlt.{code_encoding_of}
use Rattle.code_symbols.specs.Contents.{contents_of, contents_of_some}
use Rattle.code_symbols.specs.ElfFiles.{header_of, section_names_of, sections_of}
use Rattle.code_symbols.specs.NamedSections.{IsSectionOfName}
use Rattle.code_symbols.specs.PltEntries.{AddsOfSections}
use Rattle.code_symbols.specs.StringTable.{bytes_of}
use Rattle.code_symbols.specs.declared.elf.ElfFile.{ElfFile}
use Rattle.code_symbols.specs.declared.elf.header.Section.{Section}
use Rattle.code_symbols.specs.declared.elf.plt.PltContext.{PltContext}
use Rattle.code_symbols.specs.declared.ranked.RankedSymbols.{RankedSymbols}

-- the section, if it is code
abbrev pub only_code : Section → Option Section
only_code s = if s.is_code then Some s else None

-- the section, if it is a symbol table (`SHT_SYMTAB`, `SHT_DYNSYM`)
abbrev pub only_symbols : Section → Option Section
only_symbols s = if s.section_type == 2 || s.section_type == 11 then Some s else None

-- the first section with a name that has contents in the file, if it is code
pub record IsCodeOfName (names : List ℕ) (sections : List Section) (name : List ℕ) (code : Option Section) : Type 0 where
  pub section : Option Section
  pub named : IsSectionOfName names sections name section
  pub is : code ≡ option_and_then only_code section

-- the relocations: the first section `.rela.plt` or, without one, the first section `.rel.plt`
pub record IsRelocationSection (names : List ℕ) (sections : List Section) (relocations : Option Section) : Type 0 where
  pub rela : Option Section
  pub rel : Option Section
  pub rela_named : IsSectionOfName names sections (codes ".rela.plt") rela
  pub rel_named : IsSectionOfName names sections (codes ".rel.plt") rel
  pub is : relocations ≡ option_or rela rel

module _ {R : Type 0} (all : List ℕ) (f : ElfFile R) where
  -- the code of `.plt`
  pub record IsPltCode (code : List ℕ) : Type 0 where
    pub section : Option Section
    pub is_section : IsCodeOfName (section_names_of f) (sections_of f) (codes ".plt") section
    pub is : code ≡ contents_of_some all section

  -- the same for 32-bit Arm, otherwise none
  pub record IsArmCode (code : List ℕ) : Type 0 where
    pub arm : (header_of f).machine ≡ 40 → IsPltCode code
    pub other : (header_of f).machine ≢ 40 → code ≡ []

  -- the relocations of the table, the symbols that they are linked to, and the strings that these are linked to
  pub record ArePltBytes (relocations symbols names code : List ℕ) (relocation_size symbol_size : ℕ) : Type 0 where
    pub section : Section
    pub dynamic : Section
    pub is_section : IsRelocationSection (section_names_of f) (sections_of f) (Some section)
    pub is_dynamic : option_and_then only_symbols (slice_get (sections_of f) section.link) ≡ Some dynamic
    pub relocations_are : relocations ≡ contents_of all section
    pub symbols_are : symbols ≡ contents_of all dynamic
    pub names_are : names ≡ contents_of_some all (slice_get (sections_of f) dynamic.link)
    pub code_is : IsArmCode code
    pub relocation_size_is : relocation_size ≡ section.entry_size
    pub symbol_size_is : symbol_size ≡ dynamic.entry_size

-- symbols of the entries of `.plt` and of `.plt.sec` are appended
pub record AddsPltOfFile {R : Type 0} (all : List ℕ) (f : ElfFile R) (old new : RankedSymbols) : Type 0 where
  pub context : PltContext
  pub encoding_is : context.encoding ≡ (header_of f).encoding
  pub code_encoding_is : context.code_encoding ≡ code_encoding_of (header_of f)
  pub bytes_are : ArePltBytes all f
      context.relocations.now context.symbols.now (bytes_of context.names.now) context.code.now context.relocation_size context.symbol_size
  pub plt : Option Section
  pub second : Option Section
  pub is_plt : IsCodeOfName (section_names_of f) (sections_of f) (codes ".plt") plt
  pub is_second : IsCodeOfName (section_names_of f) (sections_of f) (codes ".plt.sec") second
  pub adds : AddsOfSections context plt second old new

-- symbols of the entries of procedure linkage tables are appended, or none
abbrev pub AddsPltSymbols : {R : Type 0} → List ℕ → ElfFile R → RankedSymbols → RankedSymbols → Type 0
AddsPltSymbols all f old new = (new ≡ old) ⊎ AddsPltOfFile all f old new
