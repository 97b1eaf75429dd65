-- The rounds of the values that a sorter holds.
use Rattle.std.proofs.Common.{◌≡◌, ℕ, ◌+◌, ◌<◌, ◌≤◌, Bool, true, false, get_or, All, Option, None, Some, refl, sym, subst, arith}
use Rattle.std.specs.Prelude.{if◌then◌else◌}
use Rattle.std.specs.Ordering.{nat_cmp, is_le}
use Rattle.std.specs.Cmp.{nat_cmp_total}
use Rattle.std.proofs.lemmas.Bool.Decides.{nat_tests}
use Rattle.std.proofs.lemmas.List.Elements.{All-nil, All-tail, All-push}
use Rattle.std.proofs.lemmas.List.Sorted.{All-permutation}
use Rattle.perfdata_order.specs.declared.sorter.Sorter.{Sorter}
use Rattle.perfdata_order.specs.Order.{is_within, greatest_with}
use Rattle.perfdata_order.specs.Sorter.{held_of, available_of, pending_of, limit_of, greatest_of, IsNew, IsUnchanged, Inserted, Returned, RoundEnded, AllRoundsEnded}
use Rattle.perfdata_order.proofs.Sorting.{le_trans}
use Rattle.perfdata_order.proofs.SorterCalls.{held_split, held_after_insert, held_before_return}
use Rattle.perfdata_order.proofs.AscendingRuns.{all_suffix}

module _ {V : Type 0} (round_of : V → ℕ) where
  abbrev pub round_in : ℕ × V → ℕ
  round_in e = round_of e.1

  -- ---- greatest keys

  to_greater : (k g : ℕ) (e : ℕ × V) (b : Bool) → is_le (nat_cmp g k) ≡ b → is_le (nat_cmp e.0 g) ≡ true → is_le (nat_cmp e.0 (if b then k else g)) ≡ true
  to_greater k g e true is le = le_trans nat_cmp_total e.0 g k le is
  to_greater k g e false is le = le

  still_within : (g : Option ℕ) (k : ℕ) (e : ℕ × V) → is_within nat_cmp g e ≡ true → is_within nat_cmp (Some (greatest_with nat_cmp g k)) e ≡ true
  still_within None k e within = cc
  still_within (Some g) k e within = to_greater k g e (is_le (nat_cmp g k)) refl within

  le_itself : (k : ℕ) → is_le (nat_cmp k k) ≡ true
  le_itself k = grind (arith, nat_tests)

  greater_of_two : (k g : ℕ) (b : Bool) → is_le (nat_cmp g k) ≡ b → is_le (nat_cmp k (if b then k else g)) ≡ true
  greater_of_two k g true is = le_itself k
  greater_of_two k g false is = grind (arith, nat_tests)

  new_within : (g : Option ℕ) (k : ℕ) (value : V) → is_within nat_cmp (Some (greatest_with nat_cmp g k)) (k, value) ≡ true
  new_within None k value = le_itself k
  new_within (Some g) k value = greater_of_two k g (is_le (nat_cmp g k)) refl

  -- ---- the sorter in this round

  pub record TwoRounds (round : ℕ) (s : Sorter ℕ V) : Type 0 where
    pub recent : All (λ e. round ≤ round_in e + 1) (pending_of s)
    pub ended : All (λ e. round_in e < round → is_within nat_cmp (limit_of s) e ≡ true) (held_of s)
    pub known : All (λ e. is_within nat_cmp (greatest_of s) e ≡ true) (held_of s)

  pub inserted_two : (round : ℕ) (old new : Sorter ℕ V) (key : ℕ) (value : V) → round_of value ≡ round → Inserted nat_cmp old key value new → TwoRounds round old → TwoRounds round new
  inserted_two round old new key value same call two =
      let all = held_after_insert old new key value call in
      record {
        recent = subst (λ es. All (λ e. round ≤ round_in e + 1) es) (sym call.pending) (All-push (λ e. round ≤ round_in e + 1) (pending_of old) (key, value) two.recent (omega (arith, same)));
        ended = subst (λ l. All (λ e. round_in e < round → is_within nat_cmp l e ≡ true) (held_of new)) (sym call.limit)
            (subst (λ es. All (λ e. round_in e < round → is_within nat_cmp (limit_of old) e ≡ true) es) (sym all)
            (All-push (λ e. round_in e < round → is_within nat_cmp (limit_of old) e ≡ true) (held_of old) (key, value) two.ended (λ lt. absurd (omega (arith, same, lt)))));
        known = subst (λ g. All (λ e. is_within nat_cmp g e ≡ true) (held_of new)) (sym call.greatest)
            (subst (λ es. All (λ e. is_within nat_cmp (Some (greatest_with nat_cmp (greatest_of old) key)) e ≡ true) es) (sym all)
            (All-push (λ e. is_within nat_cmp (Some (greatest_with nat_cmp (greatest_of old) key)) e ≡ true) (held_of old) (key, value)
            (λ i d lt. still_within (greatest_of old) key (get_or (held_of old) i d) (two.known i d lt)) (new_within (greatest_of old) key value)));
      }

  not_within : (b : Bool) → b ≡ false → b ≡ true → ⊥
  not_within b is_false is_true = cc

  in_last_round : (round : ℕ) (limit : Option ℕ) (e : ℕ × V) → (round_in e < round → is_within nat_cmp limit e ≡ true) → is_within nat_cmp limit e ≡ false → round + 1 ≤ round_in e + 1
  in_last_round round limit e within beyond = let late : round_in e < round → ⊥ = λ lt. not_within (is_within nat_cmp limit e) beyond (within lt) in omega (arith, late)

  pub round_two : (round : ℕ) (old new : Sorter ℕ V) → RoundEnded nat_cmp old new → TwoRounds round old → TwoRounds (round + 1) new
  round_two round old new call two =
      let within = All-permutation (λ e. round_in e < round → is_within nat_cmp (limit_of old) e ≡ true) (held_of old) (held_of new) call.sorts.each_once two.ended in
      let left = all_suffix (λ e. round_in e < round → is_within nat_cmp (limit_of old) e ≡ true) (available_of new) (pending_of new)
      (subst (λ es. All (λ e. round_in e < round → is_within nat_cmp (limit_of old) e ≡ true) es) (sym (held_split new)) within) in
      let known = All-permutation (λ e. is_within nat_cmp (greatest_of old) e ≡ true) (held_of old) (held_of new) call.sorts.each_once two.known in
      record {
        recent = λ i d lt. in_last_round round (limit_of old) (get_or (pending_of new) i d) (left i d lt) (call.pending i d lt);
        ended = λ i d lt earlier. subst (λ l. is_within nat_cmp l (get_or (held_of new) i d) ≡ true) (sym call.limit) (known i d lt);
        known = subst (λ g. All (λ e. is_within nat_cmp g e ≡ true) (held_of new)) (sym call.greatest) known;
      }

  pub all_two : (old_round round : ℕ) (old new : Sorter ℕ V) → AllRoundsEnded nat_cmp old new → TwoRounds old_round old → TwoRounds round new
  all_two old_round round old new call two =
      let known = All-permutation (λ e. is_within nat_cmp (greatest_of old) e ≡ true) (held_of old) (held_of new) call.sorts.each_once two.known in
      record {
        recent = subst (λ es. All (λ e. round ≤ round_in e + 1) es) (sym call.pending) (All-nil (λ (e : ℕ × V). round ≤ round_in e + 1));
        ended = λ i d lt earlier. subst (λ l. is_within nat_cmp l (get_or (held_of new) i d) ≡ true) (sym call.limit) (known i d lt);
        known = subst (λ g. All (λ e. is_within nat_cmp g e ≡ true) (held_of new)) (sym call.greatest) known;
      }

  pub returned_two : (round : ℕ) (old new : Sorter ℕ V) (key : ℕ) (value : V) → Returned old key value new → TwoRounds round old → TwoRounds round new
  returned_two round old new key value call two =
      let all = held_before_return old new key value call in
      record {
        recent = subst (λ es. All (λ e. round ≤ round_in e + 1) es) (sym call.pending) two.recent;
        ended = subst (λ l. All (λ e. round_in e < round → is_within nat_cmp l e ≡ true) (held_of new)) (sym call.limit)
            (All-tail (λ e. round_in e < round → is_within nat_cmp (limit_of old) e ≡ true) (key, value) (held_of new) (subst (λ es. All (λ e. round_in e < round → is_within nat_cmp (limit_of old) e ≡ true) es) all two.ended));
        known = subst (λ g. All (λ e. is_within nat_cmp g e ≡ true) (held_of new)) (sym call.greatest)
            (All-tail (λ e. is_within nat_cmp (greatest_of old) e ≡ true) (key, value) (held_of new) (subst (λ es. All (λ e. is_within nat_cmp (greatest_of old) e ≡ true) es) all two.known));
      }

  pub kept_two : (round : ℕ) (old new : Sorter ℕ V) → IsUnchanged old new → TwoRounds round old → TwoRounds round new
  kept_two round old new call two = record {
    recent = subst (λ es. All (λ e. round ≤ round_in e + 1) es) (sym call.pending) two.recent;
    ended = subst (λ l. All (λ e. round_in e < round → is_within nat_cmp l e ≡ true) (held_of new)) (sym call.limit)
        (subst (λ es. All (λ e. round_in e < round → is_within nat_cmp (limit_of old) e ≡ true) es) (sym call.held) two.ended);
    known = subst (λ g. All (λ e. is_within nat_cmp g e ≡ true) (held_of new)) (sym call.greatest)
        (subst (λ es. All (λ e. is_within nat_cmp (greatest_of old) e ≡ true) es) (sym call.held) two.known);
  }

  pub same_two : (round round' : ℕ) (old new : Sorter ℕ V) → round' ≡ round → new ≡ old → TwoRounds round old → TwoRounds round' new
  same_two round round' old new same_round same two = subst (λ n. TwoRounds n new) (sym same_round) (subst (λ s. TwoRounds round s) (sym same) two)

  pub new_two : (s : Sorter ℕ V) → IsNew s → TwoRounds 0 s
  new_two s new = record {
    recent = λ i d lt. omega arith;
    ended = λ i d lt earlier. absurd (omega (arith, earlier));
    known = subst (λ es. All (λ e. is_within nat_cmp (greatest_of s) e ≡ true) es) (sym new.empty) (All-nil (λ (e : ℕ × V). is_within nat_cmp (greatest_of s) e ≡ true));
  }
