use Rattle.std.proofs.Common.{take}
use Rattle.std.specs.Prelude.{All}
use Rattle.code_symbols.specs.ElfFiles.{section_names_of, sections_of}
use Rattle.code_symbols.specs.NamedSections.{IsNamed}
use Rattle.code_symbols.proofs.elf.ElfFile.section_of_name.Given as goal

abbrev pub invariant-sections : goal.invariant-sections
invariant-sections g l = All (λ s. ¬ IsNamed (section_names_of l.self) l.name s) (take l.section-index (sections_of l.self))
