use Rattle.std.proofs.Common.{ap, ◌∙◌}
use Rattle.code_symbols.specs.ElfImages.{section_in}
use Rattle.code_symbols.proofs.HeaderLemmas.{completed_is}
use Rattle.code_symbols.proofs.elf.header.read_sections.Goals as goal

pub returns-clause-header : goal.returns-clause-header
returns-clause-header g c =
    completed_is _ c.args.header.now c.apply_first_section.new.header c.in_ok-first_bytes.first_bytes.items c.parse_section-first_section.result c.if-header-eq0.false
    c.in_ok-first_bytes.ensures.bytes (c.parse_section-first_section.ensures ∙ ap (section_in c.args.header.now.encoding) c.deref.ensures.value) c.apply_first_section.ensures
