-- What a sorter returns ascends.
use Rattle.std.proofs.Common.{◌≡◌, List, [], ◌∷◌, ◌++◌, All, Option, None, Some, sym, ap, ◌∙◌, subst}
use Rattle.std.specs.Prelude.{IfSome}
use Rattle.std.specs.declared.cmp.Ordering.{Ordering}
use Rattle.std.proofs.lemmas.List.Elements.{All-nil, All-cons, All-head, All-tail, All-append}
use Rattle.perfdata_order.specs.declared.sorter.Sorter.{Sorter}
use Rattle.perfdata_order.specs.Order.{IsAtMost, Ascends}
use Rattle.perfdata_order.specs.Sorter.{held_of, available_of, pending_of, IsNew}
use Rattle.perfdata_order.specs.SorterLaws.{Call, returns_each, MakesCalls, RunsAscend}
use Rattle.perfdata_order.specs.SorterLaws.Call.{inserts, ends_round, ends_all, releases, returns, keeps}
use Rattle.perfdata_order.proofs.SorterCalls.{held_split}

pub all_prefix : {X : Type 0} (P : X → Type 0) (xs ys : List X) → All P (xs ++ ys) → All P xs
all_prefix P [] ys all = All-nil P
all_prefix P (x ∷ xs) ys all = All-cons P x xs (All-head P x (xs ++ ys) all) (all_prefix P xs ys (All-tail P x (xs ++ ys) all))

pub all_suffix : {X : Type 0} (P : X → Type 0) (xs ys : List X) → All P (xs ++ ys) → All P ys
all_suffix P [] ys all = all
all_suffix P (x ∷ xs) ys all = all_suffix P xs ys (All-tail P x (xs ++ ys) all)

pub if_some_weaker : {X : Type 0} (P Q : X → Type 0) → ((x : X) → P x → Q x) → (o : Option X) → IfSome o P → IfSome o Q
if_some_weaker P Q f None h = h
if_some_weaker P Q f (Some x) h = f x h

module _ {K V : Type 0} (cmp : K → K → Ordering) where
  -- Each of the first entries is at most each of the second.
  abbrev pub AllAtMost : List (K × V) → List (K × V) → Type 0
  AllAtMost xs ys = All (λ x. All (IsAtMost cmp x) ys) xs

  pub ascends_prefix : (xs ys : List (K × V)) → Ascends cmp (xs ++ ys) → Ascends cmp xs
  ascends_prefix [] ys up = tt
  ascends_prefix (x ∷ xs) ys up = (all_prefix (IsAtMost cmp x) xs ys up.0, ascends_prefix xs ys up.1)

  pub ascends_between : (xs ys : List (K × V)) → Ascends cmp (xs ++ ys) → AllAtMost xs ys
  ascends_between [] ys up = All-nil (λ x. All (IsAtMost cmp x) ys)
  ascends_between (x ∷ xs) ys up = All-cons (λ x. All (IsAtMost cmp x) ys) x xs (all_suffix (IsAtMost cmp x) xs ys up.0) (ascends_between xs ys up.1)

  pub ascends_append : (xs ys : List (K × V)) → Ascends cmp xs → Ascends cmp ys → AllAtMost xs ys → Ascends cmp (xs ++ ys)
  ascends_append [] ys up up' le = up'
  ascends_append (x ∷ xs) ys up up' le = (
    All-append (IsAtMost cmp x) xs ys up.0 (All-head (λ x. All (IsAtMost cmp x) ys) x xs le),
    ascends_append xs ys up.1 up' (All-tail (λ x. All (IsAtMost cmp x) ys) x xs le),
  )

  available_first : (s : Sorter K V) → Ascends cmp (held_of s) → Ascends cmp (available_of s)
  available_first s up = ascends_prefix (available_of s) (pending_of s) (subst (λ es. Ascends cmp es) (sym (held_split s)) up)

  available_ascends : (calls : List (Call K V)) (first last : Sorter K V) → Ascends cmp (available_of first) → MakesCalls cmp calls first last → Ascends cmp (available_of last)
  available_ascends [] first last up made = subst (λ s. Ascends cmp (available_of s)) (sym made) up
  available_ascends (inserts k v ∷ calls) first last up (next, call, made) =
      available_ascends calls next last (subst (λ es. Ascends cmp es) (sym call.available) up) made
  available_ascends (ends_round ∷ calls) first last up (next, call, made) =
      available_ascends calls next last (available_first next call.sorts.ascends) made
  available_ascends (ends_all ∷ calls) first last up (next, call, made) =
      available_ascends calls next last (available_first next call.sorts.ascends) made
  available_ascends (releases ∷ calls) first last up (next, call, made) =
      available_ascends calls next last (available_first next call.sorts.ascends) made
  available_ascends (returns k v ∷ calls) first last up (next, call, made) =
      let whole = subst (λ es. Ascends cmp es) call.available up in
      available_ascends calls next last whole.1 made
  available_ascends (keeps ∷ calls) first last up (next, call, made) =
      available_ascends calls next last (subst (λ es. Ascends cmp es) (sym call.available) up) made

  run_is_available : (run : List (K × V)) (first last : Sorter K V) → MakesCalls cmp (returns_each run) first last → available_of first ≡ run ++ available_of last
  run_is_available [] first last made = ap (λ s. available_of s) (sym made)
  run_is_available (e ∷ es) first last (next, call, made) = call.available ∙ ap (λ zs. e ∷ zs) (run_is_available es next last made)

  available_of_new : (s : Sorter K V) → IsNew s → Ascends cmp (available_of s)
  available_of_new s new = available_first s (subst (λ es. Ascends cmp es) (sym new.empty) tt)

pub runs_ascend : {K : Type 0} (V : Type 0) (cmp : K → K → Ordering) → RunsAscend V cmp
runs_ascend V cmp first middle last calls run new made returned =
    let ready = available_ascends cmp calls first middle (available_of_new cmp first new) made in
    ascends_prefix cmp run (available_of last) (subst (λ es. Ascends cmp es) (run_is_available cmp run middle last returned) ready)
