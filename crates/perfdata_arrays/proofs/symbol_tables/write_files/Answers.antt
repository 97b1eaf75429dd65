use Rattle.std.proofs.Common.{arith, ◌≡◌, ◌+◌, ◌++◌, ◌∷◌, [], ◌∙◌, ap, sym, subst, length, take}
use Rattle.std.specs.Prelude.{map}
use Rattle.perfdata_simpleperf.specs.FileRecord.{record_value, symbol_value}
use Rattle.perfdata_arrays.specs.Overwrites.{with_entries_at}
use Rattle.perfdata_arrays.specs.SymbolTables.{SymbolArrays, WritesFiles, symbol_entries_at, symbol_names, totals_after_all, zero_totals}
use Rattle.perfdata_arrays.proofs.SymbolTablesLemmas.{totals-snoc, values-snoc, writes_files-snoc, writes_prefix}
use Rattle.perfdata_arrays.proofs.symbol_tables.write_files.Goals as goal

pub returns-in_default : goal.returns-in_default
returns-in_default c =
    let old : SymbolArrays = record { files = c.args.files.now; symbols = c.args.symbols.now; names = c.args.names.now; offsets = c.args.offsets.now } in
    let now : SymbolArrays = record { files = c.files.files; symbols = c.files.symbols; names = c.files.names; offsets = c.files.offsets } in
    let inv = c.files.invariant in
    writes_prefix c.args.all.now c.files.index c.index-all-index.result c.files.totals old now c.files-test.true c.index-all-index.is inv.counted inv.writes c.in_default.ensures

pub files-preserved : goal.files-preserved
files-preserved c =
    let all = c.args.all.now in
    let index = c.files.index in
    let t = c.files.totals in
    let inv = c.files.invariant in
    let r = c.index-all-index.result in
    let test = c.files-test.true in
    let before = map record_value (take index all) in
    let v = record_value r in
    let prefix : map record_value (take (index + 1) all) ≡ before ++ v ∷ [] = values-snoc record_value all index r test c.index-all-index.is in
    let path = c.as_bytes-path.ensures.value in
    let name_start = t.names_size + length c.as_bytes-path.result.now in
    let own = c.as_slice.ensures.value in
    let old : SymbolArrays = record { files = c.args.files.now; symbols = c.args.symbols.now; names = c.args.names.now; offsets = c.args.offsets.now } in
    let now : SymbolArrays = record { files = c.files.files; symbols = c.files.symbols; names = c.files.names; offsets = c.files.offsets } in
    let new : SymbolArrays = record { files = c.copy_entries.new.array; symbols = c.write_symbols.new.symbols; names = c.write_symbols.new.names; offsets = c.copy_entries-in-files-2.new.array } in
    record {
      within = omega (arith, test);
      counted = subst (λ l. c.in-Some.next ≡ totals_after_all zero_totals l) (sym prefix) (totals-snoc before v t c.in-Some.next inv.counted c.in-Some.ensures);
      writes = subst (λ l. WritesFiles l old new) (sym prefix)
          (writes_files-snoc before v t old now new name_start c.file_entry.result c.as_bytes-path.result.now c.copy_entries-in-files.new.array c.dex_offsets.result.now inv.counted inv.writes (ap (λ l. t.names_size + length l) path) c.file_entry.ensures path c.dex_offsets.ensures
          c.copy_entries.ensures c.copy_entries-in-files.ensures c.copy_entries-in-files-2.ensures (c.write_symbols.ensures.symbols ∙ ap (λ l. with_entries_at t.symbol_count (symbol_entries_at name_start (map symbol_value l)) c.files.symbols) own)
          (c.write_symbols.ensures.names ∙ ap (λ l. with_entries_at name_start (symbol_names (map symbol_value l)) c.copy_entries-in-files.new.array) own));
    }
