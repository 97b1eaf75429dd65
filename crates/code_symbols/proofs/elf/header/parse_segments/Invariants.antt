use Rattle.std.proofs.Common.{◌≡◌, ◌*◌}
use Rattle.code_symbols.specs.ElfHeaders.{first_entries}
use Rattle.code_symbols.specs.steps.Segments.{AreSegments}
use Rattle.code_symbols.proofs.elf.header.parse_segments.Given as goal

abbrev pub invariant-segments : goal.invariant-segments
invariant-segments l = record {
  at_is : l.at ≡ l._index * l.size;
  are : AreSegments l.encoding (first_entries l.bytes l.size l._index) l.segments;
}
