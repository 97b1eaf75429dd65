use Rattle.std.proofs.Common.{sym, ◌∙◌}
use Rattle.code_symbols.proofs.PltFileLemmas.{parts_of_file}
use Rattle.code_symbols.proofs.elf.ElfFile.read_plt_parts.Goals as goal

pub returns-clause-parts : goal.returns-clause-parts
returns-clause-parts g c =
    let found = rw c.in-Some.is at c.relocation_section.ensures in
    let read = c.in_ok-plt_parts.ensures in
    parts_of_file c.args.self.now _ c.in-Some.section c.in-Some-find_symbol_table.dynamic c.in_ok-plt_parts.field-0 found
    (sym c.find_symbol_table.ensures ∙ c.in-Some-find_symbol_table.is) read.relocations read.symbols read.names read.code read.relocation_size read.symbol_size
