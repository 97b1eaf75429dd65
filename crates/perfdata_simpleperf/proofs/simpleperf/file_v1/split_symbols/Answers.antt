use Rattle.std.proofs.Common.{arith, map}
use Rattle.std.proofs.lemmas.List.{length-map}
use Rattle.std.proofs.lemmas.Result.{err_from_is_err_and}
use Rattle.perfdata_simpleperf.specs.FileRecord.{symbol_value}
use Rattle.perfdata_simpleperf.specs.FileV1.{SymbolAt, SymbolError}
use Rattle.perfdata_simpleperf.proofs.V1Parts.{length_more, many_more, counted, counted_stop}
use Rattle.perfdata_simpleperf.proofs.simpleperf.file_v1.split_symbols.Goals as goal

pub returns-in_err-symbol-clause-on_error : goal.returns-in_err-symbol-clause-on_error
returns-in_err-symbol-clause-on_error g c =
    let r = c.from_residual-in_err-symbol in
    let p = err_from_is_err_and r.result r.ensures.1 in
    let number = g.T.ByteOrder.number_of in
    rw (p.1, p.2) (counted_stop (SymbolAt number) number (SymbolError number) c.args.bytes.now c.in_ok-count.start.now c.symbols.rest.now c.in_ok-count.count (map symbol_value c.symbols.symbols.items) _
    c.in_ok-count.ensures.on_ok (omega (arith, length-map c.symbols.symbols.items symbol_value, c.symbols.invariant.long)) c.symbols.invariant.are c.in_err-symbol.ensures.on_error)

pub symbols-preserved : goal.symbols-preserved
symbols-preserved g c =
    let number = g.T.ByteOrder.number_of in
    record {
      long = length_more c.symbols.symbols.items c.push.new.self.items c.in_ok-symbol.symbol c.symbols._index c.in_ok-push.ensures.items c.symbols.invariant.long;
      are = many_more (SymbolAt number) symbol_value _ c.symbols.symbols.items c.push.new.self.items c.in_ok-symbol.symbol c.symbols.rest.now c.in_ok-symbol.after.now c.symbols.invariant.are c.in_ok-symbol.ensures.on_ok c.in_ok-push.ensures.items;
    }

pub returns-clause-on_ok : goal.returns-clause-on_ok
returns-clause-on_ok g c =
    let number = g.T.ByteOrder.number_of in
    counted (SymbolAt number) number c.args.bytes.now c.in_ok-count.start.now c.symbols.rest.now c.in_ok-count.count (map symbol_value c.symbols.symbols.items)
    c.in_ok-count.ensures.on_ok (omega (arith, length-map c.symbols.symbols.items symbol_value, c.symbols.invariant.long)) c.symbols.invariant.are
