-- The symbol table of an ELF file that is read, and all of its symbols.
use Rattle.std.specs.Prelude.{◌≡◌, ◌↔◌, ℕ, ◌<◌, ◌==◌, ◌&&◌, Bool, false, IsTrue, List, [], ◌∷◌, Option, None, Some, MatchOption, length, position, slice_get, slice_index_or}
use Rattle.std.specs.Option.{option_and_then, option_map, option_or}
use Rattle.bstr.specs.Text.{Contains}
use Rattle.code_symbols.specs.Contents.{contents_of, contents_of_some}
use Rattle.code_symbols.specs.ElfFiles.{header_of, section_names_of, sections_of}
use Rattle.code_symbols.specs.ElfSymbols.{AddsAll}
use Rattle.code_symbols.specs.RankedLists.{ranked_names_of, ranked_symbols_of}
use Rattle.code_symbols.specs.StringTable.{bytes_of}
use Rattle.code_symbols.specs.Strings.{string_in}
use Rattle.code_symbols.specs.declared.elf.ElfFile.{ElfFile}
use Rattle.code_symbols.specs.declared.elf.SymbolSection.{SymbolSection}
use Rattle.code_symbols.specs.declared.elf.SymbolSection.TheVariants.{Dynamic, Full}
use Rattle.code_symbols.specs.declared.elf.header.Section.{Section}
use Rattle.code_symbols.specs.declared.elf.header.Segment.{Segment}
use Rattle.code_symbols.specs.declared.elf.symbols.SymbolContext.{SymbolContext}
use Rattle.code_symbols.specs.declared.ranked.RankedSymbols.{RankedSymbols}

-- the index of the first section of a type
abbrev pub index_of_type : List Section → ℕ → Option ℕ
index_of_type sections section_type = position (λ s. s.section_type == section_type) sections

-- the index of the symbol table that is read: the first one of the type `SHT_SYMTAB` or, without one, the first `SHT_DYNSYM`
abbrev pub table_index : List Section → Option ℕ
table_index sections = option_or (index_of_type sections 2) (index_of_type sections 11)

-- the section of the symbols that are read, by the indices of the first `SHT_SYMTAB` and of the first `SHT_DYNSYM`
abbrev pub symbol_section_by : Option ℕ → Option ℕ → Option SymbolSection
symbol_section_by (Some full) dynamic = Some Full
symbol_section_by None (Some dynamic) = Some Dynamic
symbol_section_by None None = None

abbrev pub symbol_section_in : List Section → Option SymbolSection
symbol_section_in sections = symbol_section_by (index_of_type sections 2) (index_of_type sections 11)

-- the symbol table that is read
abbrev pub symbol_table_in : List Section → Option Section
symbol_table_in sections = option_and_then (slice_get sections) (table_index sections)

-- where the strings of the symbol table that is read are in the file
abbrev pub names_offset_in : List Section → Option ℕ
names_offset_in sections = option_map (λ s. s.offset) (option_and_then (λ t. slice_get sections t.link) (symbol_table_in sections))

-- the section has this type, and is linked to the symbol table with this index
abbrev pub is_linked : ℕ → ℕ → Section → Bool
is_linked section_type table s = s.section_type == section_type && s.link == table

-- the first section of a type that is linked to the symbol table with this index
abbrev pub linked_section : List Section → ℕ → ℕ → Option Section
linked_section sections section_type table = option_and_then (slice_get sections) (position (is_linked section_type table) sections)

-- the flags of the first `n` sections: whether the name of the section contains `text`
pub record AreFlagsBefore (names : List ℕ) (sections : List Section) (flags : List Bool) (n : ℕ) : Type 0 where
  pub size : length flags ≡ n
  pub each : (i : ℕ) (s : Section) → i < n → s ≡ slice_index_or sections i s
      → IsTrue (slice_index_or flags i false) ↔ Contains (string_in names s.name) (116 ∷ 101 ∷ 120 ∷ 116 ∷ [])

-- the flags of all sections
abbrev pub AreTextFlags : List ℕ → List Section → List Bool → Type 0
AreTextFlags names sections flags = AreFlagsBefore names sections flags (length sections)

module _ {R : Type 0} (all : List ℕ) (f : ElfFile R) (segments : List Segment) where
  -- what the symbols of the table with this index refer to, in a file with these bytes: the strings of the section that the
  -- table is linked to, and the section indices (`SHT_SYMTAB_SHNDX`) and versions (`SHT_GNU_versym`) that are linked to the table
  pub record IsContext (index : ℕ) (table : Section) (c : SymbolContext) : Type 0 where
    pub header_is : c.header ≡ header_of f
    pub sections_are : c.sections.now ≡ sections_of f
    pub text : AreTextFlags (section_names_of f) (sections_of f) c.text_sections.now
    pub indices_are : c.section_indices.now ≡ contents_of_some all (linked_section (sections_of f) 18 index)
    pub versions_are : c.versions.now ≡ contents_of_some all (linked_section (sections_of f) 0x6fffffff index)
    pub segments_are : c.segments.now ≡ segments
    pub names_are : bytes_of c.names.now ≡ contents_of_some all (slice_get (sections_of f) table.link)

  -- these are the symbols of all entries of a table that are listed, in the order of the entries, and the names are in its strings
  pub record AreSymbolsOfTable (index : ℕ) (table : Section) (r : RankedSymbols) : Type 0 where
    pub context : SymbolContext
    pub is_context : IsContext index table context
    pub adds : AddsAll context (contents_of all table) table.entry_size [] (ranked_symbols_of r)
    pub names : ranked_names_of r ≡ contents_of_some all (slice_get (sections_of f) table.link)

  -- these are the symbols of the table that is read, or none if the file has no such table
  abbrev pub SymbolsOf : RankedSymbols → Type 0
  SymbolsOf r = MatchOption (table_index (sections_of f)) (ranked_symbols_of r ≡ [])
      (λ index. MatchOption (slice_get (sections_of f) index) (ranked_symbols_of r ≡ []) (λ table. AreSymbolsOfTable index table r))
