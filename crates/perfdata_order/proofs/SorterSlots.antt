-- The number of slots over the calls of a sorter.
use Rattle.std.proofs.Common.{◌≡◌, ℕ, ◌+◌, ◌-◌, ◌≤◌, max, List, [], ◌∷◌, length, sym, ap, ◌∙◌, subst, arith}
use Rattle.std.specs.declared.cmp.Ordering.{Ordering}
use Rattle.std.proofs.lemmas.List.{length_push}
use Rattle.std.proofs.lemmas.List.Sorted.{length_permutation}
use Rattle.perfdata_order.specs.declared.sorter.Sorter.{Sorter}
use Rattle.perfdata_order.specs.Sorter.{held_of, slots_in, slots_for}
use Rattle.perfdata_order.specs.SorterLaws.{Call, MakesCalls, most_held, HasFewSlots}
use Rattle.perfdata_order.specs.SorterLaws.Call.{inserts, ends_round, ends_all, releases, returns, keeps}
use Rattle.perfdata_order.proofs.SorterCalls.{held_after_insert, held_before_return}
use Rattle.perfdata_order.proofs.VacantSlots.{slots_more}

within : (slots before after bound : ℕ) → slots ≤ max before after → before ≤ bound → after ≤ bound → slots ≤ bound
within slots before after bound le first second = omega (arith, le, first, second)

held_within : {K V : Type 0} (calls : List (Call K V)) (held most : ℕ) → most_held held calls ≤ most → held ≤ most
held_within [] held most all = all
held_within (inserts k v ∷ calls) held most all = omega (arith, all)
held_within (ends_round ∷ calls) held most all = held_within calls held most all
held_within (ends_all ∷ calls) held most all = held_within calls held most all
held_within (releases ∷ calls) held most all = held_within calls held most all
held_within (returns k v ∷ calls) held most all = omega (arith, all)
held_within (keeps ∷ calls) held most all = held_within calls held most all

module _ {K V : Type 0} (cmp : K → K → Ordering) where
  slots_from : (calls : List (Call K V)) (first last : Sorter K V) (most : ℕ) → MakesCalls cmp calls first last → length (held_of first) ≤ most → most_held (length (held_of first)) calls ≤ most
      → slots_in first ≤ slots_for most → slots_in last ≤ slots_for most
  slots_from [] first last most made here all few = subst (λ s. slots_in s ≤ slots_for most) (sym made) few
  slots_from (inserts k v ∷ calls) first last most (next, call, made) here all few =
      let one = ap length (held_after_insert first next k v call) ∙ length_push (held_of first) (k, v) in
      let later : most_held (length (held_of first) + 1) calls ≤ most = omega (arith, all) in
      let rest = subst (λ n. most_held n calls ≤ most) (sym one) later in
      slots_from calls next last most made (held_within calls (length (held_of next)) most rest) rest
      (within (slots_in next) (slots_in first) (slots_for (length (held_of first))) (slots_for most) call.slots.few few (slots_more (length (held_of first)) most here))
  slots_from (ends_round ∷ calls) first last most (next, call, made) here all few =
      let same = sym (length_permutation (held_of first) (held_of next) call.sorts.each_once) in
      slots_from calls next last most made (subst (λ n. n ≤ most) same here) (subst (λ n. most_held n calls ≤ most) same all) (subst (λ n. n ≤ slots_for most) (sym call.slots) few)
  slots_from (ends_all ∷ calls) first last most (next, call, made) here all few =
      let same = sym (length_permutation (held_of first) (held_of next) call.sorts.each_once) in
      slots_from calls next last most made (subst (λ n. n ≤ most) same here) (subst (λ n. most_held n calls ≤ most) same all) (subst (λ n. n ≤ slots_for most) (sym call.slots) few)
  slots_from (releases ∷ calls) first last most (next, call, made) here all few =
      let same = sym (length_permutation (held_of first) (held_of next) call.sorts.each_once) in
      slots_from calls next last most made (subst (λ n. n ≤ most) same here) (subst (λ n. most_held n calls ≤ most) same all) (subst (λ n. n ≤ slots_for most) (sym call.slots) few)
  slots_from (returns k v ∷ calls) first last most (next, call, made) here all few =
      let one = ap length (held_before_return first next k v call) in
      let same : length (held_of first) - 1 ≡ length (held_of next) = omega (arith, one) in
      let later : most_held (length (held_of first) - 1) calls ≤ most = omega (arith, all) in
      slots_from calls next last most made (omega (arith, one, here)) (subst (λ n. most_held n calls ≤ most) same later) (subst (λ n. n ≤ slots_for most) (sym call.slots) few)
  slots_from (keeps ∷ calls) first last most (next, call, made) here all few =
      let same = sym (ap length call.held) in
      slots_from calls next last most made (subst (λ n. n ≤ most) same here) (subst (λ n. most_held n calls ≤ most) same all)
      (within (slots_in next) (slots_in first) (slots_for (length (held_of first))) (slots_for most) call.slots.few few (slots_more (length (held_of first)) most here))

pub has_few_slots : {K : Type 0} (V : Type 0) (cmp : K → K → Ordering) → HasFewSlots V cmp
has_few_slots {K} V cmp first last calls new made =
    let none : length (held_of first) ≡ 0 = ap length new.empty in
    let all : most_held (length (held_of first)) calls ≤ most_held 0 calls = let same = ap (λ n. most_held n calls) none in omega (arith, same) in
    let slots = new.slots in
    slots_from cmp calls first last (most_held 0 calls) made (held_within calls (length (held_of first)) (most_held 0 calls) all) all (omega (arith, slots))
