use Rattle.std.proofs.Common.{◌≡◌, rules, List, length, drop, map, sym, subst, ap, ◌∙◌}
use Rattle.std.specs.List.Sorted.{IsNonDecreasingBy}
use Rattle.std.proofs.lemmas.Fn.{always_returns_same}
use Rattle.std.proofs.lemmas.List.Sorted.{IsNonDecreasingBy-from_sort_by_key}
use Rattle.std.proofs.lemmas.List.{take_at}
use Rattle.std.proofs.lemmas.Result.{IfOk-weaker}
use Rattle.code_symbols.specs.Kernel.{AreKernelSymbols, IsKernelLine, without_size}
use Rattle.code_symbols.specs.Lines.{AreSymbolsOfLines}
use Rattle.code_symbols.specs.declared.symbol.Symbol.{Symbol}
use Rattle.code_symbols.proofs.kallsyms.parse_kallsyms.Goals as goal

pub extend_to_next-requires : goal.extend_to_next-requires
extend_to_next-requires c =
    let sorted = IsNonDecreasingBy-from_sort_by_key (λ s. s.start) _ c.in_ok-sort_by_key.ensures.sorted (λ a r q k. search rules) in
    subst (IsNonDecreasingBy (λ s. s.start)) (sym c.deref_mut.ensures.value) sorted

pub returns-clause-symbols : goal.returns-clause-symbols
returns-clause-symbols c =
    let extended : List Symbol = c.extend_to_next.new.symbols in
    let sorted : List Symbol = c.sort_by_key.new.self.items in
    let listed : List Symbol = c.in_ok-symbols.symbols.items in
    let long : length extended ≡ c.sort_by_key.new.self.len = c.extend_to_next.auto.symbols ∙ c.deref_mut.ensures.len in
    let whole : c.deref-2.result.now ≡ extended = c.deref-2.ensures.value ∙ take_at extended (drop (length extended) sorted) c.sort_by_key.new.self.len long in
    let all : AreKernelSymbols c.args.text.items extended = record {
      listed = listed;
      sorted = sorted;
      lines = subst (λ bytes. AreSymbolsOfLines IsKernelLine bytes listed) c.deref.ensures.value c.in_ok-symbols.ensures;
      permuted = c.sort_by_key.ensures.permutation;
      ascends = IsNonDecreasingBy-from_sort_by_key (λ s. s.start) _ c.in_ok-sort_by_key.ensures.sorted (λ a r q k. search rules);
      stable = c.sort_by_key.ensures.stable (λ s. s.start) (always_returns_same _ (λ a r. r ≡ a.0.now.start) _ (λ a r q k. search rules));
      same = c.extend_to_next.ensures.same ∙ ap (map without_size) c.deref_mut.ensures.value;
      reach = c.extend_to_next.ensures.reach;
    } in
    IfOk-weaker c.from_symbols.result _ _ (λ t is. subst (AreKernelSymbols c.args.text.items) (sym (is ∙ whole)) all) c.from_symbols.ensures.symbols
