use Rattle.std.proofs.Common.{◌≡◌, ℕ, ◌+◌, ◌*◌, ◌≤◌, arith, map, subst, ◌∙◌}
use Rattle.code_symbols.specs.ElfHeaders.{first_entries}
use Rattle.code_symbols.specs.ElfImages.{section_in}
use Rattle.code_symbols.proofs.HeaderLemmas.{entry_within, next_entry, sections_more}
use Rattle.code_symbols.proofs.elf.header.parse_sections.Goals as goal

pub overflow_add-bytes : goal.overflow_add-bytes
overflow_add-bytes c =
    let size : ℕ = c.args.table.entry_size in
    let within : c.sections._index * size + size ≤ c.args.table.count * size = entry_within c.sections._index c.args.table.count size (omega arith) in
    omega (arith, within, c.sections.invariant.at_is, c.requires)

pub slice_bounds-bytes-end : goal.slice_bounds-bytes-end
slice_bounds-bytes-end c =
    let size : ℕ = c.args.table.entry_size in
    let within : c.sections._index * size + size ≤ c.args.table.count * size = entry_within c.sections._index c.args.table.count size (omega arith) in
    omega (arith, within, c.sections.invariant.at_is, c.requires)

pub sections-preserved : goal.sections-preserved
sections-preserved c = record {
  at_is = next_entry c.sections._index c.sections.at c.args.table.entry_size c.sections.invariant.at_is;
  are = c.in_ok-push.ensures.items
      ∙ sections_more c.args.encoding c.args.bytes.now c.args.table.entry_size c.sections._index c.sections.at c.sections.sections.items c.parse_section.result
      c.sections.invariant.at_is c.sections.invariant.are c.parse_section.ensures;
}

pub returns : goal.returns
returns c =
    let all : c.sections._index ≡ c.args.table.count = omega arith in
    subst (λ n. c.sections.sections.items ≡ map (section_in c.args.encoding) (first_entries c.args.bytes.now c.args.table.entry_size n)) all c.sections.invariant.are
