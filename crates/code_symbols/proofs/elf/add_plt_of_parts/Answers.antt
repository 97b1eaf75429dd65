use Rattle.std.proofs.Common.{refl}
use Rattle.code_symbols.proofs.PltFileLemmas.{parts_add}
use Rattle.code_symbols.proofs.elf.add_plt_of_parts.Goals as goal

pub returns : goal.returns
returns c =
    parts_add _ c.args.header.now c.args.parts c.args.plt c.args.second c.args.symbols.now c.add_sections.new.symbols refl c.code_encoding.ensures c.deref.ensures.value
    c.deref-2.ensures.value refl c.deref-3.ensures.value refl refl c.add_sections.ensures
