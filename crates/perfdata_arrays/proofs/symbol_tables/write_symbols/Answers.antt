use Rattle.std.proofs.Common.{arith, ◌≡◌, ◌+◌, ◌++◌, ◌∷◌, [], ap, sym, subst, length, take}
use Rattle.std.specs.Prelude.{map}
use Rattle.std.proofs.lemmas.List.{length-map, length-take-le}
use Rattle.perfdata_simpleperf.specs.FileRecord.{symbol_value}
use Rattle.perfdata_arrays.specs.Overwrites.{with_entries_at}
use Rattle.perfdata_arrays.specs.SymbolTables.{symbol_entries_at, symbol_names}
use Rattle.perfdata_arrays.specs.declared.symbol_tables.Symbol.{Symbol}
use Rattle.perfdata_arrays.proofs.SymbolTablesLemmas.{length-symbol_names-snoc, names-prefix, names_written-snoc, symbols_written-snoc, values-snoc}
use Rattle.perfdata_arrays.proofs.symbol_tables.write_symbols.Goals as goal

pub overflow_add-name_offset : goal.overflow_add-name_offset
overflow_add-name_offset c =
    let all = c.args.all.now in
    let index = c.symbols.index in
    let s = c.index-all-index.result in
    let counted = c.symbols.invariant.names_counted in
    let name = c.as_bytes-name.ensures.value in
    let fits = c.requires.names_fit in
    omega (arith, fits, counted, ap length name, names-prefix all (index + 1), ap (λ l. length (symbol_names l)) (values-snoc symbol_value all index s c.symbols-test.true c.index-all-index.is), length-symbol_names-snoc (map symbol_value (take index all)) (symbol_value s))

pub symbols-preserved : goal.symbols-preserved
symbols-preserved c =
    let all = c.args.all.now in
    let start = c.args.start in
    let name_start = c.args.name_start in
    let index = c.symbols.index in
    let offset = c.symbols.name_offset in
    let inv = c.symbols.invariant in
    let s = c.index-all-index.result in
    let test = c.symbols-test.true in
    let within = inv.within in
    let before = map symbol_value (take index all) in
    let prefix : map symbol_value (take (index + 1) all) ≡ before ++ symbol_value s ∷ [] = values-snoc symbol_value all index s test c.index-all-index.is in
    let counted = inv.names_counted in
    let name = c.as_bytes-name.ensures.value in
    let entry : Symbol = record { vaddr = s.vaddr; size = s.len; name_offset = offset; name_size = length c.as_bytes-name.result.now } in
    record {
      within = omega (arith, test);
      names_counted = omega (arith, counted, ap length name, ap (λ l. length (symbol_names l)) prefix, length-symbol_names-snoc before (symbol_value s));
      symbols_written = subst (λ l. c.copy_entries.new.array ≡ with_entries_at start (symbol_entries_at name_start l) c.args.symbols.now) (sym prefix)
          (symbols_written-snoc before (symbol_value s) start (start + index) name_start offset entry c.args.symbols.now c.symbols.symbols c.copy_entries.new.array (omega (arith, length-map (take index all) symbol_value, length-take-le index all within)) counted
          (λ i. record { vaddr = s.vaddr; size = s.len; name_offset = offset; name_size = length (name i) }) inv.symbols_written c.copy_entries.ensures);
      names_written = subst (λ l. c.copy_entries-in-symbols.new.array ≡ with_entries_at name_start (symbol_names l) c.args.names.now) (sym prefix)
          (names_written-snoc before (symbol_value s) name_start offset c.as_bytes-name.result.now c.args.names.now c.symbols.names c.copy_entries-in-symbols.new.array counted name inv.names_written c.copy_entries-in-symbols.ensures);
    }
