use Rattle.code_symbols.proofs.PltFileLemmas.{adds_none}
use Rattle.code_symbols.proofs.elf.plt.add_sections.Goals as goal

pub returns-in_err-relocations : goal.returns-in_err-relocations
returns-in_err-relocations c = record {
  between = c.args.symbols.now;
  adds_plt = adds_none c.args.context.now c.args.plt c.args.symbols.now;
  adds_second = adds_none c.args.context.now c.args.second c.args.symbols.now;
}

pub returns-in_err-add_first : goal.returns-in_err-add_first
returns-in_err-add_first c = record {
  between = c.add_first.new.symbols;
  adds_plt = c.add_first.ensures;
  adds_second = adds_none c.args.context.now c.args.second c.add_first.new.symbols;
}

pub returns-in_err-add_second : goal.returns-in_err-add_second
returns-in_err-add_second c = record { between = c.add_first.new.symbols; adds_plt = c.add_first.ensures; adds_second = c.add_second.ensures }

pub returns : goal.returns
returns c = record { between = c.add_first.new.symbols; adds_plt = c.add_first.ensures; adds_second = c.add_second.ensures }
