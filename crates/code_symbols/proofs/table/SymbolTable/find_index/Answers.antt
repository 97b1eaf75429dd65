use Rattle.std.proofs.Common.{◌∙◌, ap}
use Rattle.code_symbols.specs.Layer.{symbol_in_layers}
use Rattle.code_symbols.proofs.SymbolLemmas.{is_last_index}
use Rattle.code_symbols.proofs.table.SymbolTable.find_index.Goals as goal

pub returns : goal.returns
returns c =
    is_last_index c.args.self.now.symbols.items c.args.address c.find_in_layers.result
    (c.find_in_layers.ensures ∙ ap (λ ls. symbol_in_layers ls c.args.address) c.deref.ensures.value ∙ c.args.self.now.found c.args.address c.ranges.address.fits)
