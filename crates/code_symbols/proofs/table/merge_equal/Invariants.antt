use Rattle.std.proofs.Common.{◌≡◌, ℕ, vec_len}
use Rattle.code_symbols.specs.Layer.{symbol_in_layers}
use Rattle.code_symbols.proofs.table.merge_equal.Given as goal

abbrev pub invariant-merges : goal.invariant-merges
invariant-merges l = (x : ℕ) → symbol_in_layers l.layers.items x ≡ symbol_in_layers l.fn.layers.items x

abbrev pub decreases-merges : goal.decreases-merges
decreases-merges l = vec_len l.layers
