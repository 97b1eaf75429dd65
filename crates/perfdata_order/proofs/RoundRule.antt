-- What a sorter returns ascends where the inserted entries keep the rule of rounds.
use Rattle.std.proofs.Common.{◌≡◌, ℕ, ◌+◌, ◌≤◌, true, false, List, [], ◌∷◌, ◌++◌, get_or, All, Option, None, Some, refl, sym, ap, ◌∙◌, subst, arith, append_assoc, append-nil}
use Rattle.std.specs.Prelude.{IfSome, if◌then◌else◌}
use Rattle.std.specs.declared.cmp.Ordering.{Ordering}
use Rattle.std.specs.Ordering.{is_le}
use Rattle.std.specs.Cmp.{IsTotalOrder}
use Rattle.std.proofs.lemmas.List.Elements.{All-nil, All-head, All-tail, All-append, All-push}
use Rattle.std.proofs.lemmas.List.Sorted.{All-permutation}
use Rattle.perfdata_order.specs.declared.sorter.Sorter.{Sorter}
use Rattle.perfdata_order.specs.Order.{IsAtMost, Ascends, is_within, greatest_with, SortsEntries}
use Rattle.perfdata_order.specs.Sorter.{held_of, available_of, pending_of, limit_of, greatest_of, IsNew, IsUnchanged, Returned, Inserted, RoundEnded, AllRoundsEnded}
use Rattle.perfdata_order.specs.SorterLaws.{Call, returned_by, releases_in, inserted_in_rounds, MakesCalls, KeepsRoundRule, AscendsUnderRule}
use Rattle.perfdata_order.specs.SorterLaws.Call.{inserts, ends_round, ends_all, releases, returns, keeps}
use Rattle.perfdata_order.proofs.Sorting.{le_trans}
use Rattle.perfdata_order.proofs.SorterCalls.{held_split}
use Rattle.perfdata_order.proofs.AscendingRuns.{all_prefix, all_suffix, if_some_weaker, AllAtMost, ascends_prefix, ascends_between, ascends_append}

nil_prefix : {X : Type 0} (xs ys : List X) → xs ++ ys ≡ [] → xs ≡ []
nil_prefix [] ys none = refl
nil_prefix (x ∷ xs) ys none = cc

nil_suffix : {X : Type 0} (xs ys : List X) → xs ++ ys ≡ [] → ys ≡ []
nil_suffix [] ys none = none
nil_suffix (x ∷ xs) ys none = cc

module _ {K V : Type 0} {cmp : K → K → Ordering} (o : IsTotalOrder cmp) where
  -- The key is at most that of each entry of round n or later.
  abbrev AtMostFrom : ℕ → K → List (ℕ × (K × V)) → Type 0
  AtMostFrom n k future = All (λ y. n ≤ y.0 → is_le (cmp k y.1.0) ≡ true) future

  -- The state in round n, after `outs` were returned and before `future` is inserted.
  record InOrder (n : ℕ) (outs : List (K × V)) (s : Sorter K V) (future : List (ℕ × (K × V))) : Type 0 where
    ascends : Ascends cmp (outs ++ available_of s)
    before_pending : AllAtMost cmp (outs ++ available_of s) (pending_of s)
    before_future : All (λ x. AtMostFrom n x.0 future) (outs ++ available_of s)
    pending_rule : All (λ x. AtMostFrom (n + 2) x.0 future) (pending_of s)
    limit_rule : IfSome (limit_of s) (λ l. AtMostFrom (n + 1) l future)
    greatest_rule : IfSome (greatest_of s) (λ g. AtMostFrom (n + 2) g future)
    rule : KeepsRoundRule cmp future

  later : (m n : ℕ) (k : K) (future : List (ℕ × (K × V))) → m ≤ n → AtMostFrom m k future → AtMostFrom n k future
  later m n k future le all i d lt more = all i d lt (omega arith)

  without_first : (n : ℕ) (k : K) (e : ℕ × (K × V)) (future : List (ℕ × (K × V))) → AtMostFrom n k (e ∷ future) → AtMostFrom n k future
  without_first n k e future all = All-tail (λ y. n ≤ y.0 → is_le (cmp k y.1.0) ≡ true) e future all

  greatest_inserted : (n : ℕ) (k : K) (v : V) (g : Option K) (future : List (ℕ × (K × V))) → IfSome g (λ g. AtMostFrom (n + 2) g ((n, (k, v)) ∷ future)) → AtMostFrom (n + 2) k future
      → AtMostFrom (n + 2) (greatest_with cmp g k) future
  greatest_inserted n k v None future old one = one
  greatest_inserted n k v (Some g) future old one =
      elim (is_le (cmp g k)) as (λ b. AtMostFrom (n + 2) (if b then k else g) future) [ true ↦ one | false ↦ without_first (n + 2) g (n, (k, v)) future old ]

  inserted_in_order : (n : ℕ) (outs : List (K × V)) (s next : Sorter K V) (k : K) (v : V) (future : List (ℕ × (K × V))) → Inserted cmp s k v next →
      InOrder n outs s ((n, (k, v)) ∷ future) → InOrder n outs next future
  inserted_in_order n outs s next k v future call h =
      let first = outs ++ available_of s in
      let same : outs ++ available_of next ≡ first = ap (λ a. outs ++ a) call.available in
      let one : AtMostFrom (n + 2) k future = h.rule.0 in
      record {
        ascends = subst (λ es. Ascends cmp es) (sym same) h.ascends;
        before_pending = subst (λ es. AllAtMost cmp es (pending_of next)) (sym same) (subst (λ es. AllAtMost cmp first es) (sym call.pending)
            (λ i d lt. All-push (IsAtMost cmp (get_or first i d)) (pending_of s) (k, v) (h.before_pending i d lt)
            (All-head (λ y. n ≤ y.0 → is_le (cmp (get_or first i d).0 y.1.0) ≡ true) (n, (k, v)) future (h.before_future i d lt) (omega arith))));
        before_future = subst (λ es. All (λ x. AtMostFrom n x.0 future) es) (sym same)
            (λ i d lt. without_first n (get_or first i d).0 (n, (k, v)) future (h.before_future i d lt));
        pending_rule = subst (λ es. All (λ x. AtMostFrom (n + 2) x.0 future) es) (sym call.pending)
            (All-push (λ x. AtMostFrom (n + 2) x.0 future) (pending_of s) (k, v)
            (λ i d lt. without_first (n + 2) (get_or (pending_of s) i d).0 (n, (k, v)) future (h.pending_rule i d lt)) one);
        limit_rule = subst (λ l. IfSome l (λ l. AtMostFrom (n + 1) l future)) (sym call.limit)
            (if_some_weaker (λ l. AtMostFrom (n + 1) l ((n, (k, v)) ∷ future)) (λ l. AtMostFrom (n + 1) l future) (λ l. without_first (n + 1) l (n, (k, v)) future) (limit_of s) h.limit_rule);
        greatest_rule = subst (λ l. IfSome l (λ l. AtMostFrom (n + 2) l future)) (sym call.greatest)
            (greatest_inserted n k v (greatest_of s) future h.greatest_rule one);
        rule = h.rule.1;
      }

  -- Sorting keeps the returned entries before the others.
  outs_before_held : (outs : List (K × V)) (s : Sorter K V) → Ascends cmp (outs ++ available_of s) → AllAtMost cmp (outs ++ available_of s) (pending_of s) → AllAtMost cmp outs (held_of s)
  outs_before_held outs s up before i d lt =
      let x = get_or outs i d in
      subst (λ es. All (IsAtMost cmp x) es) (held_split s)
      (All-append (IsAtMost cmp x) (available_of s) (pending_of s) (ascends_between cmp outs (available_of s) up i d lt)
      (all_prefix (λ x. All (IsAtMost cmp x) (pending_of s)) outs (available_of s) before i d lt))

  outs_before_sorted : (outs old new : List (K × V)) → SortsEntries cmp old new → AllAtMost cmp outs old → AllAtMost cmp outs new
  outs_before_sorted outs old new sorts before i d lt = All-permutation (IsAtMost cmp (get_or outs i d)) old new sorts.each_once (before i d lt)

  held_rule : (n : ℕ) (outs : List (K × V)) (s : Sorter K V) (future : List (ℕ × (K × V))) → InOrder n outs s future → All (λ x. AtMostFrom (n + 2) x.0 future) (held_of s)
  held_rule n outs s future h =
      subst (λ es. All (λ x. AtMostFrom (n + 2) x.0 future) es) (held_split s)
      (All-append (λ x. AtMostFrom (n + 2) x.0 future) (available_of s) (pending_of s)
      (λ i d lt. later n (n + 2) (get_or (available_of s) i d).0 future (omega arith) (all_suffix (λ x. AtMostFrom n x.0 future) outs (available_of s) h.before_future i d lt))
      h.pending_rule)

  -- What the end of rounds shows of a sorted sorter, of which `outs` were returned.
  ascends_after_sort : (outs : List (K × V)) (old new : Sorter K V) → SortsEntries cmp (held_of old) (held_of new) → Ascends cmp (outs ++ available_of old) → AllAtMost cmp (outs ++ available_of old) (pending_of old)
      → Ascends cmp (outs ++ available_of new) × AllAtMost cmp (outs ++ available_of new) (pending_of new)
  ascends_after_sort outs old new sorts up before =
      let split : available_of new ++ pending_of new ≡ held_of new = held_split new in
      let sorted = subst (λ es. Ascends cmp es) (sym split) sorts.ascends in
      let all = subst (λ es. AllAtMost cmp outs es) (sym split) (outs_before_sorted outs (held_of old) (held_of new) sorts (outs_before_held outs old up before)) in
      let to_available : AllAtMost cmp outs (available_of new) = λ i d lt. all_prefix (IsAtMost cmp (get_or outs i d)) (available_of new) (pending_of new) (all i d lt) in
      let to_pending : AllAtMost cmp outs (pending_of new) = λ i d lt. all_suffix (IsAtMost cmp (get_or outs i d)) (available_of new) (pending_of new) (all i d lt) in (
        ascends_append cmp outs (available_of new) (ascends_prefix cmp outs (available_of old) up) (ascends_prefix cmp (available_of new) (pending_of new) sorted) to_available,
        All-append (λ x. All (IsAtMost cmp x) (pending_of new)) outs (available_of new) to_pending (ascends_between cmp (available_of new) (pending_of new) sorted),
      )

  -- An entry within the limit is at most what follows.
  within_limit : (n : ℕ) (limit : Option K) (future : List (ℕ × (K × V))) → IfSome limit (λ l. AtMostFrom (n + 1) l future) → (x : K × V) → is_within cmp limit x ≡ true → AtMostFrom (n + 1) x.0 future
  within_limit n None future rule x within i d lt more = cc
  within_limit n (Some l) future rule x within i d lt more = le_trans o x.0 l (get_or future i d).1.0 within (rule i d lt more)

  round_ends_in_order : (n : ℕ) (outs : List (K × V)) (s next : Sorter K V) (future : List (ℕ × (K × V))) → RoundEnded cmp s next →
      InOrder n outs s future → InOrder (n + 1) outs next future
  round_ends_in_order n outs s next future call h =
      let up = ascends_after_sort outs s next call.sorts h.ascends h.before_pending in
      let held = All-permutation (λ x. AtMostFrom (n + 2) x.0 future) (held_of s) (held_of next) call.sorts.each_once (held_rule n outs s future h) in
      record {
        ascends = up.0;
        before_pending = up.1;
        before_future = All-append (λ x. AtMostFrom (n + 1) x.0 future) outs (available_of next)
            (λ i d lt. later n (n + 1) (get_or outs i d).0 future (omega arith) (all_prefix (λ x. AtMostFrom n x.0 future) outs (available_of s) h.before_future i d lt))
            (λ i d lt. within_limit n (limit_of s) future h.limit_rule (get_or (available_of next) i d) (call.available i d lt));
        pending_rule = λ i d lt. later (n + 2) (n + 1 + 2) (get_or (pending_of next) i d).0 future (omega arith) (all_suffix (λ x. AtMostFrom (n + 2) x.0 future) (available_of next) (pending_of next) (subst (λ es. All (λ x. AtMostFrom (n + 2) x.0 future) es) (sym (held_split next)) held) i d lt);
        limit_rule = subst (λ l. IfSome l (λ l. AtMostFrom (n + 1 + 1) l future)) (sym call.limit)
            (if_some_weaker (λ l. AtMostFrom (n + 2) l future) (λ l. AtMostFrom (n + 1 + 1) l future) (λ l. later (n + 2) (n + 1 + 1) l future (omega arith)) (greatest_of s) h.greatest_rule);
        greatest_rule = subst (λ l. IfSome l (λ l. AtMostFrom (n + 1 + 2) l future)) (sym call.greatest)
            (if_some_weaker (λ l. AtMostFrom (n + 2) l future) (λ l. AtMostFrom (n + 1 + 2) l future) (λ l. later (n + 2) (n + 1 + 2) l future (omega arith)) (greatest_of s) h.greatest_rule);
        rule = h.rule;
      }

  all_end_in_order : (n : ℕ) (outs : List (K × V)) (s next : Sorter K V) (future : List (ℕ × (K × V))) → AllRoundsEnded cmp s next →
      InOrder n outs s future → InOrder (n + 2) outs next future
  all_end_in_order n outs s next future call h =
      let up = ascends_after_sort outs s next call.sorts h.ascends h.before_pending in
      let held = All-permutation (λ x. AtMostFrom (n + 2) x.0 future) (held_of s) (held_of next) call.sorts.each_once (held_rule n outs s future h) in
      record {
        ascends = up.0;
        before_pending = up.1;
        before_future = All-append (λ x. AtMostFrom (n + 2) x.0 future) outs (available_of next)
            (λ i d lt. later n (n + 2) (get_or outs i d).0 future (omega arith) (all_prefix (λ x. AtMostFrom n x.0 future) outs (available_of s) h.before_future i d lt))
            (all_prefix (λ x. AtMostFrom (n + 2) x.0 future) (available_of next) (pending_of next) (subst (λ es. All (λ x. AtMostFrom (n + 2) x.0 future) es) (sym (held_split next)) held));
        pending_rule = subst (λ es. All (λ x. AtMostFrom (n + 2 + 2) x.0 future) es) (sym call.pending) (All-nil (λ x. AtMostFrom (n + 2 + 2) x.0 future));
        limit_rule = subst (λ l. IfSome l (λ l. AtMostFrom (n + 2 + 1) l future)) (sym call.limit)
            (if_some_weaker (λ l. AtMostFrom (n + 2) l future) (λ l. AtMostFrom (n + 2 + 1) l future) (λ l. later (n + 2) (n + 2 + 1) l future (omega arith)) (greatest_of s) h.greatest_rule);
        greatest_rule = subst (λ l. IfSome l (λ l. AtMostFrom (n + 2 + 2) l future)) (sym call.greatest)
            (if_some_weaker (λ l. AtMostFrom (n + 2) l future) (λ l. AtMostFrom (n + 2 + 2) l future) (λ l. later (n + 2) (n + 2 + 2) l future (omega arith)) (greatest_of s) h.greatest_rule);
        rule = h.rule;
      }

  returned_in_order : (n : ℕ) (outs : List (K × V)) (s next : Sorter K V) (k : K) (v : V) (future : List (ℕ × (K × V))) → Returned s k v next →
      InOrder n outs s future → InOrder n (outs ++ (k, v) ∷ []) next future
  returned_in_order n outs s next k v future call h =
      let same : outs ++ available_of s ≡ (outs ++ (k, v) ∷ []) ++ available_of next = ap (λ a. outs ++ a) call.available ∙ sym (append_assoc outs ((k, v) ∷ []) (available_of next)) in
      record {
        ascends = subst (λ es. Ascends cmp es) same h.ascends;
        before_pending = subst (λ es. AllAtMost cmp es (pending_of next)) same (subst (λ es. AllAtMost cmp (outs ++ available_of s) es) (sym call.pending) h.before_pending);
        before_future = subst (λ es. All (λ x. AtMostFrom n x.0 future) es) same h.before_future;
        pending_rule = subst (λ es. All (λ x. AtMostFrom (n + 2) x.0 future) es) (sym call.pending) h.pending_rule;
        limit_rule = subst (λ l. IfSome l (λ l. AtMostFrom (n + 1) l future)) (sym call.limit) h.limit_rule;
        greatest_rule = subst (λ l. IfSome l (λ l. AtMostFrom (n + 2) l future)) (sym call.greatest) h.greatest_rule;
        rule = h.rule;
      }

  kept_in_order : (n : ℕ) (outs : List (K × V)) (s next : Sorter K V) (future : List (ℕ × (K × V))) → IsUnchanged s next → InOrder n outs s future → InOrder n outs next future
  kept_in_order n outs s next future call h =
      let same : outs ++ available_of s ≡ outs ++ available_of next = ap (λ a. outs ++ a) (sym call.available) in
      record {
        ascends = subst (λ es. Ascends cmp es) same h.ascends;
        before_pending = subst (λ es. AllAtMost cmp es (pending_of next)) same (subst (λ es. AllAtMost cmp (outs ++ available_of s) es) (sym call.pending) h.before_pending);
        before_future = subst (λ es. All (λ x. AtMostFrom n x.0 future) es) same h.before_future;
        pending_rule = subst (λ es. All (λ x. AtMostFrom (n + 2) x.0 future) es) (sym call.pending) h.pending_rule;
        limit_rule = subst (λ l. IfSome l (λ l. AtMostFrom (n + 1) l future)) (sym call.limit) h.limit_rule;
        greatest_rule = subst (λ l. IfSome l (λ l. AtMostFrom (n + 2) l future)) (sym call.greatest) h.greatest_rule;
        rule = h.rule;
      }

  ascends_from : (n : ℕ) (outs : List (K × V)) (calls : List (Call K V)) (first last : Sorter K V) → releases_in calls ≡ 0 → MakesCalls cmp calls first last →
      InOrder n outs first (inserted_in_rounds n calls) → Ascends cmp (outs ++ returned_by calls)
  ascends_from n outs [] first last none made h = subst (λ es. Ascends cmp es) (sym (append-nil outs)) (ascends_prefix cmp outs (available_of first) h.ascends)
  ascends_from n outs (inserts k v ∷ calls) first last none (next, call, made) h =
      ascends_from n outs calls next last none made (inserted_in_order n outs first next k v (inserted_in_rounds n calls) call h)
  ascends_from n outs (ends_round ∷ calls) first last none (next, call, made) h =
      ascends_from (n + 1) outs calls next last none made (round_ends_in_order n outs first next (inserted_in_rounds (n + 1) calls) call h)
  ascends_from n outs (ends_all ∷ calls) first last none (next, call, made) h =
      ascends_from (n + 2) outs calls next last none made (all_end_in_order n outs first next (inserted_in_rounds (n + 2) calls) call h)
  ascends_from n outs (releases ∷ calls) first last none (next, call, made) h = absurd (omega (arith, none))
  ascends_from n outs (returns k v ∷ calls) first last none (next, call, made) h =
      subst (λ es. Ascends cmp es) (append_assoc outs ((k, v) ∷ []) (returned_by calls))
      (ascends_from n (outs ++ (k, v) ∷ []) calls next last none made (returned_in_order n outs first next k v (inserted_in_rounds n calls) call h))
  ascends_from n outs (keeps ∷ calls) first last none (next, call, made) h =
      ascends_from n outs calls next last none made (kept_in_order n outs first next (inserted_in_rounds n calls) call h)

  new_in_order : (s : Sorter K V) (future : List (ℕ × (K × V))) → IsNew s → KeepsRoundRule cmp future → InOrder 0 [] s future
  new_in_order s future new rule =
      let split = held_split s ∙ new.empty in
      let none : available_of s ≡ [] = nil_prefix (available_of s) (pending_of s) split in
      let no_pending : pending_of s ≡ [] = nil_suffix (available_of s) (pending_of s) split in
      record {
        ascends = subst (λ es. Ascends cmp es) (sym none) tt;
        before_pending = subst (λ es. AllAtMost cmp es (pending_of s)) (sym none) (All-nil (λ x. All (IsAtMost cmp x) (pending_of s)));
        before_future = subst (λ es. All (λ x. AtMostFrom 0 x.0 future) es) (sym none) (All-nil (λ x. AtMostFrom 0 x.0 future));
        pending_rule = subst (λ es. All (λ x. AtMostFrom 2 x.0 future) es) (sym no_pending) (All-nil (λ x. AtMostFrom 2 x.0 future));
        limit_rule = subst (λ l. IfSome l (λ l. AtMostFrom 1 l future)) (sym new.limit) tt;
        greatest_rule = subst (λ l. IfSome l (λ l. AtMostFrom 2 l future)) (sym new.greatest) tt;
        rule = rule;
      }

pub ascends_under_rule : {K : Type 0} (V : Type 0) {cmp : K → K → Ordering} → IsTotalOrder cmp → AscendsUnderRule V cmp
ascends_under_rule V o first last calls new made none rule = ascends_from o 0 [] calls first last none made (new_in_order o first (inserted_in_rounds 0 calls) new rule)
