-- The names of the files with debug information, in an ELF file.
use Rattle.std.specs.Prelude.{ℕ, List, Option, codes}
use Rattle.code_symbols.specs.DebugLinks.{IsAlternateLinkOf, IsDebugLinkOf}
use Rattle.code_symbols.specs.ElfFiles.{header_of, section_names_of, sections_of}
use Rattle.code_symbols.specs.NamedSections.{IsSectionOfName, start_of_some}
use Rattle.code_symbols.specs.declared.elf.AlternateLink.{AlternateLink}
use Rattle.code_symbols.specs.declared.elf.DebugLink.{DebugLink}
use Rattle.code_symbols.specs.declared.elf.ElfFile.{ElfFile}
use Rattle.code_symbols.specs.declared.elf.header.Section.{Section}

module _ {R : Type 0} (all : List ℕ) (f : ElfFile R) where
  -- the debug link of a file with these bytes, or none: that in the first bytes of the first section `.gnu_debuglink`
  pub record IsDebugLinkOfFile (link : Option DebugLink) : Type 0 where
    pub section : Option Section
    pub named : IsSectionOfName (section_names_of f) (sections_of f) (codes ".gnu_debuglink") section
    pub is : IsDebugLinkOf (header_of f).encoding (start_of_some all section) link

  -- the link to the alternate file, or none: that in the first bytes of the first section `.gnu_debugaltlink`
  pub record IsAlternateLinkOfFile (link : Option AlternateLink) : Type 0 where
    pub section : Option Section
    pub named : IsSectionOfName (section_names_of f) (sections_of f) (codes ".gnu_debugaltlink") section
    pub is : IsAlternateLinkOf (start_of_some all section) link
