use Rattle.std.proofs.Common.{arith, ◌+◌, ap, length, take}
use Rattle.std.specs.Prelude.{map}
use Rattle.std.specs.String.{string_len}
use Rattle.perfdata_simpleperf.specs.FileRecord.{symbol_value}
use Rattle.perfdata_arrays.specs.SymbolTables.{symbol_names}
use Rattle.perfdata_arrays.proofs.SymbolTablesLemmas.{length-symbol_names-snoc, names-prefix, values-snoc}
use Rattle.perfdata_arrays.proofs.symbol_tables.names_size.Goals as goal

pub returns-in_default : goal.returns-in_default
returns-in_default c =
    let all = c.args.symbols.now in
    let index = c.symbols.index in
    let s = c.index-symbols-index.result in
    let counted = c.symbols.invariant.counted in
    let sum = c.in_default.ensures in
    let size = c.len.ensures in
    omega (arith, sum, size, counted, ap (λ t. string_len t.name) c.index-symbols-index.is, s.name.bytes.ok.0, names-prefix all (index + 1), ap (λ l. length (symbol_names l)) (values-snoc symbol_value all index s c.symbols-test.true c.index-symbols-index.is), length-symbol_names-snoc (map symbol_value (take index all)) (symbol_value s))
