use Rattle.std.proofs.Common.{◌≡◌, ◌-◌, ◌≤◌, length, map, take, vec_len}
use Rattle.code_symbols.specs.SymbolTable.{names_of, symbols_of}
use Rattle.code_symbols.proofs.JitLemmas.{AreFrom}
use Rattle.code_symbols.proofs.jit.JitSymbols.advance_to.Given as goal

abbrev pub invariant-loads : goal.invariant-loads
invariant-loads l = record {
  loads_are : l.self.loads.items ≡ l.fn.self.loads.items;
  names_are : names_of l.self.table ≡ names_of l.fn.self.table;
  more : l.fn.self.added ≤ l.self.added;
  within : l.self.added ≤ length l.self.loads.items;
  symbols_are : symbols_of l.self.table ≡ map (λ d. d.symbol) (take l.self.added l.self.loads.items);
  until : AreFrom l.time l.fn.self.added l.self.added l.fn.self.loads.items;
}

abbrev pub decreases-loads : goal.decreases-loads
decreases-loads l = vec_len l.self.loads - l.self.added
