use Rattle.std.proofs.Common.{◌≡◌, ◌≤◌, length, take}
use Rattle.code_symbols.specs.Layer.{symbol_in_layers}
use Rattle.code_symbols.proofs.table.find_in_layers.Given as goal

abbrev pub invariant-layers : goal.invariant-layers
invariant-layers l = record {
  within : l.count ≤ length l.layers;
  same : symbol_in_layers l.layers l.address ≡ symbol_in_layers (take l.count l.layers) l.address;
}

abbrev pub decreases-layers : goal.decreases-layers
decreases-layers l = l.count
