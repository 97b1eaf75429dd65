use Rattle.std.proofs.Common.{◌≡◌, ◌++◌, take}
use Rattle.code_symbols.specs.ElfHeaders.{section_notes}
use Rattle.code_symbols.proofs.elf.notes.add_note_sections.Given as goal

abbrev pub invariant-sections : goal.invariant-sections
invariant-sections l = l.notes.items ≡ l.fn.notes.items ++ section_notes (take l.section-index l.sections)
