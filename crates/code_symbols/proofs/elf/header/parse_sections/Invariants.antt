use Rattle.std.proofs.Common.{◌≡◌, ◌*◌, map}
use Rattle.code_symbols.specs.ElfHeaders.{first_entries}
use Rattle.code_symbols.specs.ElfImages.{section_in}
use Rattle.code_symbols.proofs.elf.header.parse_sections.Given as goal

abbrev pub invariant-sections : goal.invariant-sections
invariant-sections l = record {
  at_is : l.at ≡ l._index * l.size;
  are : l.sections.items ≡ map (section_in l.encoding) (first_entries l.bytes l.size l._index);
}
