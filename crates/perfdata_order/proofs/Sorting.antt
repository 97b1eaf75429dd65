-- Sorted lists of entries.
use Rattle.std.proofs.Common.{◌≡◌, ℕ, zero, suc, ◌+◌, ◌<◌, ◌≤◌, Bool, true, false, List, [], ◌∷◌, length, get_or, take, drop, All, Option, None, Some, refl, sym, ap, ◌∙◌, subst, arith}
use Rattle.std.specs.declared.cmp.Ordering.{Ordering}
use Rattle.std.specs.declared.cmp.Ordering.TheVariants.{Less, Equal, Greater}
use Rattle.std.specs.Ordering.{is_le, is_lt, is_gt, ordering_reverse}
use Rattle.std.specs.Cmp.{IsTotalOrder, upto}
use Rattle.std.specs.List.Sorted.{IsSortedByKey, IsPartitionPoint, IsPartitionedBy}
use Rattle.std.proofs.lemmas.List.{length-take-le, length-drop, get_or-take, get_or-drop}
use Rattle.std.proofs.lemmas.List.Elements.{All-get_or, All-from_get_or}
use Rattle.std.proofs.lemmas.List.Sorted.{ranks_by, sorted_far}
use Rattle.perfdata_order.specs.Order.{IsAtMost, Ascends, is_within}

le_of_reverse : (r : Ordering) → is_lt r ≡ false → is_le (ordering_reverse r) ≡ true
le_of_reverse Less h = cc
le_of_reverse Equal h = refl
le_of_reverse Greater h = refl

not_gt_from_le : (r : Ordering) → is_le r ≡ true → is_gt r ≡ false
not_gt_from_le Less h = refl
not_gt_from_le Equal h = refl
not_gt_from_le Greater h = cc

le_from_not_gt : (r : Ordering) → is_gt r ≡ false → is_le r ≡ true
le_from_not_gt Less h = refl
le_from_not_gt Equal h = refl
le_from_not_gt Greater h = cc

-- Whether an entry is within a limit doesn't depend on its value.
pub within_same : {K V W : Type 0} (cmp : K → K → Ordering) (limit : Option K) (key : K) (v : V) (w : W) (b : Bool) → is_within cmp limit (key, v) ≡ b → is_within cmp limit (key, w) ≡ b
within_same cmp None key v w b h = h
within_same cmp (Some limit) key v w b h = h

module _ {K : Type 0} {cmp : K → K → Ordering} (o : IsTotalOrder cmp) where
  pub le_from_not_lt : (a b : K) → is_lt (cmp b a) ≡ false → is_le (cmp a b) ≡ true
  le_from_not_lt a b h = ap is_le (o.antisymm a b) ∙ le_of_reverse (cmp b a) h

  pub le_trans : (a b c : K) → is_le (cmp a b) ≡ true → is_le (cmp b c) ≡ true → is_le (cmp a c) ≡ true
  le_trans a b c p q = le_from_not_gt (cmp a c) (upto o a b c (not_gt_from_le (cmp a b) p) (not_gt_from_le (cmp b c) q))

  module _ {V : Type 0} where
    ascends_from_positions : (es : List (K × V)) → ((i j : ℕ) (d : K × V) → i ≤ j → j < length es → is_lt (cmp (get_or es j d).0 (get_or es i d).0) ≡ false) → Ascends cmp es
    ascends_from_positions [] h = tt
    ascends_from_positions (e ∷ es) h = (
      All-from_get_or (IsAtMost cmp e) es e (λ i lt. le_from_not_lt e.0 (get_or es i e).0 (h 0 (suc i) e (omega arith) (omega arith))),
      ascends_from_positions es (λ i j d le lt. h (suc i) (suc j) d (omega arith) (omega arith)),
    )

    -- What a sort by key ensures.
    pub ascends_from_sort : (es : List (K × V)) → IsSortedByKey (λ (e : K × V). e.0) cmp es → Ascends cmp es
    ascends_from_sort es sorted = ascends_from_positions es (sorted_far (λ a b. is_lt (cmp a.0 b.0)) (ranks_by o (λ (e : K × V). e.0)) es sorted)

    within_earlier : (limit : Option K) (a b : K × V) → IsAtMost cmp a b → is_within cmp limit b ≡ true → is_within cmp limit a ≡ true
    within_earlier None a b le h = h
    within_earlier (Some limit) a b le h = le_trans a.0 b.0 limit le h

    -- The entries within a limit come first.
    pub within_first : (limit : Option K) (es : List (K × V)) → Ascends cmp es → IsPartitionedBy (is_within cmp limit) es
    within_first limit [] up i j d le lt h = absurd (omega arith)
    within_first limit (e ∷ es) up zero zero d le lt h = h
    within_first limit (e ∷ es) up zero (suc j) d le lt h =
        let short : j < length es = omega arith in
        within_earlier limit e (get_or es j d) (All-get_or (IsAtMost cmp e) es j d short up.0) h
    within_first limit (e ∷ es) up (suc i) zero d le lt h = absurd (omega arith)
    within_first limit (e ∷ es) up (suc i) (suc j) d le lt h = within_first limit es up.1 i j d (omega arith) (omega arith) h

module _ {X : Type 0} (P Q : X → Type 0) where
  pub before_point : (xs : List X) (i : ℕ) → i ≤ length xs → IsPartitionPoint P Q xs i → All P (take i xs)
  before_point xs i le point k d lt =
      let same_length = length-take-le i xs le in
      let short : k < i = omega (arith, same_length) in
      subst P (sym (get_or-take i xs k d short)) (point.0 k d (omega arith) short)

  pub after_point : (xs : List X) (i : ℕ) → IsPartitionPoint P Q xs i → All Q (drop i xs)
  after_point xs i point k d lt =
      let rest_length = length-drop i xs in
      subst Q (sym (get_or-drop i xs k d)) (point.1 (i + k) d (omega arith) (omega (arith, rest_length)))
