use Rattle.std.proofs.Common.{true, false, rules, sym, subst}
use Rattle.std.specs.Prelude.{All}
use Rattle.std.proofs.lemmas.List.Elements.{All-filter}
use Rattle.std.proofs.lemmas.List.Kept.{IsNonDecreasingBy-filter}
use Rattle.std.proofs.lemmas.List.Sorted.{All-permutation, IsNonDecreasingBy-from_sort_by_key}
use Rattle.code_symbols.specs.Plt.{IsInPointerOrder}
use Rattle.code_symbols.specs.PltEntries.{IsOfFile, has_entry}
use Rattle.code_symbols.proofs.elf.plt.PltRelocations.read.Goals as goal

pub invariant_of-result : goal.invariant_of-result
invariant_of-result c =
    let sorted = IsNonDecreasingBy-from_sort_by_key (λ r. r.offset) _ c.in_ok-sort_by_key.ensures.sorted (λ a r q k. search rules) in
    record {
      all_in_order = subst IsInPointerOrder (sym c.in_ok-with_kinds.ensures)
          (IsNonDecreasingBy-filter (λ r. r.offset) (λ r. has_entry true r.kind) c.deref.result.now (subst IsInPointerOrder (sym c.deref.ensures.value) sorted));
      functions_in_order = subst IsInPointerOrder (sym c.in_ok-with_kinds-2.ensures)
          (IsNonDecreasingBy-filter (λ r. r.offset) (λ r. has_entry false r.kind) c.deref-2.result.now (subst IsInPointerOrder (sym c.deref-2.ensures.value) sorted));
    }

pub returns : goal.returns
returns c =
    let context = c.args.context.now in
    let sorted : All (IsOfFile context) c.sort_by_key.new.self.items = All-permutation (IsOfFile context) c.in_ok-relocations.relocations.items c.sort_by_key.new.self.items c.sort_by_key.ensures.permutation c.in_ok-relocations.ensures in
    record {
      all = subst (All (IsOfFile context)) (sym c.in_ok-with_kinds.ensures)
          (All-filter (λ r. has_entry true r.kind) (IsOfFile context) c.deref.result.now (subst (All (IsOfFile context)) (sym c.deref.ensures.value) sorted));
      of_functions = subst (All (IsOfFile context)) (sym c.in_ok-with_kinds-2.ensures)
          (All-filter (λ r. has_entry false r.kind) (IsOfFile context) c.deref-2.result.now (subst (All (IsOfFile context)) (sym c.deref-2.ensures.value) sorted));
    }
