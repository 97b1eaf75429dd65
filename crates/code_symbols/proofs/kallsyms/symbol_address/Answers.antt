use Rattle.std.proofs.Common.{◌≡◌, ℕ, ◌+◌, List, ◌++◌, true, take, drop, get_or, refl, sym, ap, subst, ◌∙◌, arith}
use Rattle.std.specs.Prelude.{All}
use Rattle.std.proofs.lemmas.Bool.Decides.{Decides-eqb}
use Rattle.std.proofs.lemmas.List.{drop_more, take-append-drop, take_all}
use Rattle.std.proofs.lemmas.List.Elements.{All-more}
use Rattle.std.proofs.lemmas.Slice.Eq.{slice_eq-Decides}
use Rattle.code_symbols.specs.SymbolTable.{names_of}
use Rattle.code_symbols.specs.Symbols.{IsName}
use Rattle.code_symbols.specs.declared.symbol.Symbol.{Symbol}
use Rattle.code_symbols.proofs.NameLemmas.{name_unique}
use Rattle.code_symbols.proofs.kallsyms.symbol_address.Goals as goal

abbrev none : Symbol
none = record { start = 0; size = 0; name_start = 0; name_end = 0 }

pub returns-then-eq : goal.returns-then-eq
returns-then-eq c =
    let items : List Symbol = c.symbols-symbol-items.result.now in
    let i : ℕ = c.symbols.symbol-index in
    let same = (slice_eq-Decides Decides-eqb c.name.result.now c.args.name.now c.eq.result c.eq.ensures).0 c.if-eq.true in
    record {
      before = take i items;
      symbol = get_or items i none;
      after = drop (i + 1) items;
      list = sym c.symbols-symbol-items.ensures ∙ sym (take-append-drop i items) ∙ ap (λ rest. take i items ++ rest) (drop_more items i none c.symbols-test.true);
      named = subst (IsName (names_of c.args.table.now) (get_or items i none)) same c.name.ensures;
      start_is = refl;
      first = c.symbols.invariant;
    }

pub symbols-preserved : goal.symbols-preserved
symbols-preserved c =
    let items : List Symbol = c.symbols-symbol-items.result.now in
    let i : ℕ = c.symbols.symbol-index in
    let names : List ℕ = names_of c.args.table.now in
    All-more (λ s. ¬ IsName names s c.args.name.now) items i none c.symbols-test.true c.symbols.invariant (λ named.
    let same = name_unique names (get_or items i none) c.name.result.now c.args.name.now c.name.ensures named in
    let yes : c.eq.result ≡ true = (slice_eq-Decides Decides-eqb c.name.result.now c.args.name.now c.eq.result c.eq.ensures).1 same in
    absurd cc)

pub returns : goal.returns
returns c =
    let items : List Symbol = c.symbols-symbol-items.result.now in
    subst (All (λ s. ¬ IsName (names_of c.args.table.now) s c.args.name.now))
    (take_all c.symbols.symbol-index items (omega (arith, c.symbols-test.false)) ∙ c.symbols-symbol-items.ensures)
    c.symbols.invariant
