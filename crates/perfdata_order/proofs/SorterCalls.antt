-- Laws of the calls of a sorter.
use Rattle.std.proofs.Common.{◌≡◌, Bool, cond, List, [], ◌∷◌, ◌++◌, sym, ap, ◌∙◌, subst, append_assoc, append-nil}
use Rattle.std.specs.Prelude.{filter}
use Rattle.std.specs.declared.cmp.Ordering.{Ordering}
use Rattle.std.specs.Ordering.{is_lt}
use Rattle.std.specs.List.Sorted.{IsPermutation, ties}
use Rattle.std.proofs.lemmas.List.Elements.{filter-append}
use Rattle.std.proofs.lemmas.List.Sorted.{IsPermutation-refl, IsPermutation-trans, IsPermutation-cons, IsPermutation-append_left}
use Rattle.perfdata_order.specs.Slots.{value_at}
use Rattle.perfdata_order.specs.declared.sorter.Sorter.{Sorter}
use Rattle.perfdata_order.specs.Sorter.{held_of, available_of, pending_of, Returned, Inserted}
use Rattle.perfdata_order.specs.SorterLaws.{Call, inserted_by, returned_by, MakesCalls, ReturnsEachOnce, KeepsInsertionOrder}
use Rattle.perfdata_order.specs.SorterLaws.Call.{inserts, ends_round, ends_all, releases, returns, keeps}
use Rattle.perfdata_order.proofs.Entries.{entries_split}

module _ {K V : Type 0} where
  pub held_split : (s : Sorter K V) → available_of s ++ pending_of s ≡ held_of s
  held_split s = entries_split (value_at s.values) s.available s.order.items

  pub held_after_insert : {cmp : K → K → Ordering} (old new : Sorter K V) (k : K) (v : V) → Inserted cmp old k v new → held_of new ≡ held_of old ++ (k, v) ∷ []
  held_after_insert old new k v done =
      sym (held_split new) ∙ ap (λ a. a ++ pending_of new) done.available ∙ ap (λ p. available_of old ++ p) done.pending
      ∙ sym (append_assoc (available_of old) (pending_of old) ((k, v) ∷ [])) ∙ ap (λ h. h ++ (k, v) ∷ []) (held_split old)

  pub held_before_return : (old new : Sorter K V) (k : K) (v : V) → Returned old k v new → held_of old ≡ (k, v) ∷ held_of new
  held_before_return old new k v done =
      sym (held_split old) ∙ ap (λ a. a ++ pending_of old) done.available ∙ ap (λ p. ((k, v) ∷ available_of new) ++ p) (sym done.pending)
      ∙ ap (λ h. (k, v) ∷ h) (held_split new)

  module _ (cmp : K → K → Ordering) where
    same_after_sort : (e : K × V) (old new more : List (K × V)) → filter (ties (λ (a b : K × V). is_lt (cmp a.0 b.0)) e) new ≡ filter (ties (λ (a b : K × V). is_lt (cmp a.0 b.0)) e) old →
        filter (ties (λ (a b : K × V). is_lt (cmp a.0 b.0)) e) (new ++ more) ≡ filter (ties (λ (a b : K × V). is_lt (cmp a.0 b.0)) e) (old ++ more)
    same_after_sort e old new more same =
        let p = ties (λ (a b : K × V). is_lt (cmp a.0 b.0)) e in
        filter-append p new more ∙ ap (λ h. h ++ filter p more) same ∙ sym (filter-append p old more)

    each_once_from : (calls : List (Call K V)) (first last : Sorter K V) → MakesCalls cmp calls first last →
        IsPermutation (held_of first ++ inserted_by calls) (returned_by calls ++ held_of last)
    each_once_from [] first last made =
        subst (λ s. IsPermutation (held_of first ++ []) (held_of s)) (sym made) (subst (λ h. IsPermutation h (held_of first)) (sym (append-nil (held_of first))) (IsPermutation-refl (held_of first)))
    each_once_from (inserts k v ∷ calls) first last (next, call, made) =
        let held = held_after_insert first next k v call in
        let regrouped : held_of next ++ inserted_by calls ≡ held_of first ++ (k, v) ∷ inserted_by calls =
        ap (λ h. h ++ inserted_by calls) held ∙ append_assoc (held_of first) ((k, v) ∷ []) (inserted_by calls) in
        subst (λ h. IsPermutation h (returned_by calls ++ held_of last)) regrouped (each_once_from calls next last made)
    each_once_from (ends_round ∷ calls) first last (next, call, made) =
        IsPermutation-trans _ _ _ (IsPermutation-append_left (inserted_by calls) (held_of first) (held_of next) call.sorts.each_once) (each_once_from calls next last made)
    each_once_from (ends_all ∷ calls) first last (next, call, made) =
        IsPermutation-trans _ _ _ (IsPermutation-append_left (inserted_by calls) (held_of first) (held_of next) call.sorts.each_once) (each_once_from calls next last made)
    each_once_from (releases ∷ calls) first last (next, call, made) =
        IsPermutation-trans _ _ _ (IsPermutation-append_left (inserted_by calls) (held_of first) (held_of next) call.sorts.each_once) (each_once_from calls next last made)
    each_once_from (returns k v ∷ calls) first last (next, call, made) =
        subst (λ h. IsPermutation (h ++ inserted_by calls) ((k, v) ∷ (returned_by calls ++ held_of last))) (sym (held_before_return first next k v call))
        (IsPermutation-cons (k, v) (held_of next ++ inserted_by calls) (returned_by calls ++ held_of last) (each_once_from calls next last made))
    each_once_from (keeps ∷ calls) first last (next, call, made) =
        subst (λ h. IsPermutation (h ++ inserted_by calls) (returned_by calls ++ held_of last)) call.held (each_once_from calls next last made)

    -- Whether the keys are equal.
    abbrev same_key : K × V → K × V → Bool
    same_key = ties (λ (a b : K × V). is_lt (cmp a.0 b.0))

    same_order_from : (e : K × V) (calls : List (Call K V)) (first last : Sorter K V) → MakesCalls cmp calls first last →
        filter (same_key e) (returned_by calls ++ held_of last) ≡ filter (same_key e) (held_of first ++ inserted_by calls)
    same_order_from e [] first last made =
        ap (λ s. filter (same_key e) (held_of s)) made ∙ sym (ap (λ h. filter (same_key e) h) (append-nil (held_of first)))
    same_order_from e (inserts k v ∷ calls) first last (next, call, made) =
        let held = held_after_insert first next k v call in
        let regrouped : held_of next ++ inserted_by calls ≡ held_of first ++ (k, v) ∷ inserted_by calls =
        ap (λ h. h ++ inserted_by calls) held ∙ append_assoc (held_of first) ((k, v) ∷ []) (inserted_by calls) in
        same_order_from e calls next last made ∙ ap (λ h. filter (same_key e) h) regrouped
    same_order_from e (ends_round ∷ calls) first last (next, call, made) =
        same_order_from e calls next last made ∙ same_after_sort e (held_of first) (held_of next) (inserted_by calls) (call.sorts.stable e)
    same_order_from e (ends_all ∷ calls) first last (next, call, made) =
        same_order_from e calls next last made ∙ same_after_sort e (held_of first) (held_of next) (inserted_by calls) (call.sorts.stable e)
    same_order_from e (releases ∷ calls) first last (next, call, made) =
        same_order_from e calls next last made ∙ same_after_sort e (held_of first) (held_of next) (inserted_by calls) (call.sorts.stable e)
    same_order_from e (returns k v ∷ calls) first last (next, call, made) =
        subst (λ h. filter (same_key e) ((k, v) ∷ (returned_by calls ++ held_of last)) ≡ filter (same_key e) (h ++ inserted_by calls)) (sym (held_before_return first next k v call))
        (ap (λ zs. cond (same_key e (k, v)) ((k, v) ∷ zs) zs) (same_order_from e calls next last made))
    same_order_from e (keeps ∷ calls) first last (next, call, made) =
        subst (λ h. filter (same_key e) (returned_by calls ++ held_of last) ≡ filter (same_key e) (h ++ inserted_by calls)) call.held (same_order_from e calls next last made)

pub returns_each_once : {K : Type 0} (V : Type 0) (cmp : K → K → Ordering) → ReturnsEachOnce V cmp
returns_each_once V cmp first last calls new made =
    subst (λ h. IsPermutation (h ++ inserted_by calls) (returned_by calls ++ held_of last)) new.empty (each_once_from cmp calls first last made)

pub keeps_insertion_order : {K : Type 0} (V : Type 0) (cmp : K → K → Ordering) → KeepsInsertionOrder V cmp
keeps_insertion_order V cmp first last calls new made e =
    subst (λ h. filter (same_key cmp e) (returned_by calls ++ held_of last) ≡ filter (same_key cmp e) (h ++ inserted_by calls)) new.empty (same_order_from cmp e calls first last made)
