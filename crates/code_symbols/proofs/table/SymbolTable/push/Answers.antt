use Rattle.std.proofs.Common.{◌≡◌, ◌<◌, [], ◌∷◌, ◌++◌, length, arith, ◌∙◌, ap, sym, vec_len, Some, None}
use Rattle.std.specs.Prelude.{if◌then◌else◌, is_ok, vec_capacity}
use Rattle.std.proofs.lemmas.Bool.{cond-true}
use Rattle.code_symbols.specs.Boundaries.{covers}
use Rattle.code_symbols.specs.Symbols.{last_from}
use Rattle.code_symbols.proofs.SymbolLemmas.{found-push}
use Rattle.code_symbols.proofs.table.SymbolTable.push.Goals as goal

pub invariant_of-self-2 : goal.invariant_of-self-2
invariant_of-self-2 c = record {
  found = λ x fits.
      let symbols = c.args.self.now.symbols.items in
      let room : vec_len c.reserve.new.self < vec_capacity c.reserve.new.self = omega (arith, c.in_ok-reserve.ensures.ok) in
      let grown = c.push.ensures.items ∙ cond-true (is_ok c.push.result) (c.reserve.new.self.items ++ c.args.symbol ∷ []) c.reserve.new.self.items (c.push.ensures.succeeds room)
      ∙ ap (λ ss. ss ++ c.args.symbol ∷ []) c.in_ok-reserve.ensures.items in
      let counted = c.args.self.now.symbols.ok in
      let size : c.len.result ≡ length symbols = omega (arith, c.len.ensures, c.in_ok-reserve.ensures.len, counted) in
      let one = ap (λ n. if covers c.args.symbol.start c.args.symbol.size x then Some n else None) size in
      found-push symbols c.args.symbol x _ _ _ (c.args.self.now.found x fits) one (c.in_ok-add_symbol.ensures.ok x fits) ∙ ap (λ ss. last_from 0 None ss x) (sym grown);
}
