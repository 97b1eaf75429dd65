-- Lists of names in order, and the names with which they start.
use Rattle.std.proofs.Common.{◌≡◌, ◌∙◌, ◌<◌, ◌≤◌, ◌⊎◌, inl, inr, ap, refl, sym, arith, ℕ, zero, suc, false, true≢false, List, [], ◌∷◌, get_or, length, take}
use Rattle.std.specs.Cmp.Lexicographic.{slice_cmp}
use Rattle.std.specs.List.Sorted.{IsSortedBy}
use Rattle.std.specs.Ordering.{is_lt, nat_cmp, ordering_then}
use Rattle.std.proofs.lemmas.Bool.{cases_lt}
use Rattle.std.proofs.lemmas.Cmp.{by_ranked, nat_list_cmp_total, ranked}
use Rattle.std.proofs.lemmas.List.{get_or-map, get_or-take, length-map, take-take}
use Rattle.std.proofs.lemmas.List.Sorted.{ranks_by, sorted_far}
use Rattle.perfdata_views.specs.Trees.{Ascend, IsAtMost, names_at, names_of}
use Rattle.perfdata_views.specs.steps.Trees.{IsShared}
use Rattle.perfdata_views.specs.declared.tree.RankedStack.{RankedStack}

-- The first names decide, or the others do.
at_most_parts : (x y : ℕ) (xs ys : List ℕ) → IsAtMost (x ∷ xs) (y ∷ ys) → (x < y) ⊎ ((x ≡ y) × IsAtMost xs ys)
at_most_parts x y xs ys is = by_ranked (y < x) (y ≡ x) (x < y) (nat_cmp y x) (ranked y x (nat_cmp y x) refl)
    (λ less below. absurd (true≢false (sym (ap (λ o. is_lt (ordering_then o (slice_cmp nat_cmp ys xs))) less) ∙ is)))
    (λ equal same. inr (sym same, sym (ap (λ o. is_lt (ordering_then o (slice_cmp nat_cmp ys xs))) equal) ∙ is))
    (λ greater above. inl above)

-- What is between two lists that start with the same names starts with them.
pub between : (count : ℕ) (a b c : List ℕ) → IsAtMost a b → IsAtMost b c → take count a ≡ take count c → take count b ≡ take count a
between zero a b c below above same = refl
between (suc n) [] [] c below above same = refl
between (suc n) [] (y ∷ b) [] below above same = absurd (true≢false above)
between (suc n) [] (y ∷ b) (z ∷ c) below above same = cc
between (suc n) (x ∷ a) [] c below above same = absurd (true≢false below)
between (suc n) (x ∷ a) (y ∷ b) [] below above same = absurd (true≢false above)
between (suc n) (x ∷ a) (y ∷ b) (z ∷ c) below above same =
    let head : x ≡ z = cc in
    let tail : take n a ≡ take n c = cc in
    elim (at_most_parts x y a b below) [
      | inl less ↦ elim (at_most_parts y z b c above) [
        | inl also ↦ absurd (omega arith)
        | inr also ↦ absurd (omega (arith, also.0))
      ]
      | inr equal ↦ elim (at_most_parts y z b c above) [
        | inl also ↦ absurd (omega (arith, equal.0))
        | inr also ↦
            let rest : take n b ≡ take n a = between n a b c equal.1 also.1 tail in
            let is : y ≡ x = sym equal.0 in
            cc
      ]
    ]

module _ (a b : List ℕ) (shared : ℕ) (is : IsShared a b shared) where
  -- Lists start with the same names up to where they differ.
  pub shared_same : (count : ℕ) → count ≤ shared → take count a ≡ take count b
  shared_same count within = sym (take-take count shared a within) ∙ ap (take count) is.same ∙ take-take count shared b within

  pub same_shared : (count : ℕ) → count ≤ length a → count ≤ length b → take count a ≡ take count b → count ≤ shared
  same_shared count first second same = elim (cases_lt shared count) [
    | inr within ↦ within
    | inl past ↦
        let here : get_or a shared 0 ≡ get_or b shared 0 = sym (get_or-take count a shared 0 past) ∙ ap (λ (l : List ℕ). get_or l shared 0) same ∙ get_or-take count b shared 0 past in
        absurd (is.apart (omega arith) (omega arith) here)
  ]

some_element : {A : Type 0} → (xs : List A) → 0 < length xs → A
some_element [] positive = absurd (omega (arith, positive))
some_element (x ∷ xs) positive = x

abbrev ranks_in : RankedStack → List ℕ
ranks_in stack = stack.ranks.items

-- Sorted stacks ascend.
pub ascend : (stacks : List RankedStack) → IsSortedBy (λ (a b : RankedStack). is_lt (slice_cmp nat_cmp a.ranks.items b.ranks.items)) stacks → Ascend (names_of stacks)
ascend stacks sorted = λ first second upward below.
    let count = length-map stacks ranks_in in
    let inside : second < length stacks = omega (arith, count) in
    let also : first < length stacks = omega (arith, count) in
    let d : RankedStack = some_element stacks (omega arith) in
    let apart : is_lt (slice_cmp nat_cmp (get_or stacks second d).ranks.items (get_or stacks first d).ranks.items) ≡ false = sorted_far (λ (a b : RankedStack). is_lt (slice_cmp nat_cmp a.ranks.items b.ranks.items)) (ranks_by nat_list_cmp_total ranks_in) stacks sorted first second d upward inside in
    let lower = get_or-map ranks_in stacks first d [] also in
    let upper = get_or-map ranks_in stacks second d [] inside in
    ap (λ (l : List ℕ). is_lt (slice_cmp nat_cmp l (names_at (names_of stacks) first))) upper ∙ ap (λ (l : List ℕ). is_lt (slice_cmp nat_cmp (get_or stacks second d).ranks.items l)) lower ∙ apart
