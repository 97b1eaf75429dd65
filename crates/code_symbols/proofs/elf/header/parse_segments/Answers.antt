use Rattle.std.proofs.Common.{◌≡◌, ℕ, ◌+◌, ◌*◌, ◌≤◌, arith, subst}
use Rattle.code_symbols.specs.ElfHeaders.{first_entries}
use Rattle.code_symbols.specs.steps.Segments.{AreSegments}
use Rattle.code_symbols.proofs.HeaderLemmas.{entry_within, next_entry, segments_more}
use Rattle.code_symbols.proofs.elf.header.parse_segments.Goals as goal

pub overflow_add-bytes : goal.overflow_add-bytes
overflow_add-bytes c =
    let size : ℕ = c.args.table.entry_size in
    let within : c.segments._index * size + size ≤ c.args.table.count * size = entry_within c.segments._index c.args.table.count size (omega arith) in
    omega (arith, within, c.segments.invariant.at_is, c.requires)

pub slice_bounds-bytes-end : goal.slice_bounds-bytes-end
slice_bounds-bytes-end c =
    let size : ℕ = c.args.table.entry_size in
    let within : c.segments._index * size + size ≤ c.args.table.count * size = entry_within c.segments._index c.args.table.count size (omega arith) in
    omega (arith, within, c.segments.invariant.at_is, c.requires)

pub segments-preserved : goal.segments-preserved
segments-preserved c = record {
  at_is = next_entry c.segments._index c.segments.at c.args.table.entry_size c.segments.invariant.at_is;
  are = segments_more c.args.encoding c.args.bytes.now c.args.table.entry_size c.segments._index c.segments.at c.segments.segments c.add.new.self
      c.segments.invariant.at_is c.segments.invariant.are c.in_ok-add.ensures.loaded c.in_ok-add.ensures.notes c.in_ok-add.ensures.frame_header;
}

pub returns : goal.returns
returns c =
    let all : c.segments._index ≡ c.args.table.count = omega arith in
    subst (λ n. AreSegments c.args.encoding (first_entries c.args.bytes.now c.args.table.entry_size n) c.segments.segments) all c.segments.invariant.are
