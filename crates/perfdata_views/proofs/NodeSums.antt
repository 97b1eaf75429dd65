-- The sums of the stacks of a node.
use Rattle.std.proofs.Common.{◌≡◌, ◌∙◌, ◌+◌, ◌<◌, ◌≤◌, ◌&&◌, ap, refl, sym, arith, ℕ, zero, suc, Bool, true, false, cond, true≢false, List, [], ◌∷◌, length, get_or, nat_eq, Some, slice_get, take}
use Rattle.std.proofs.lemmas.Bool.{eq-eqb, eqb-true}
use Rattle.std.proofs.lemmas.List.{get_or-map, length-map, length-take-le}
use Rattle.std.proofs.lemmas.List.Sums.{sum_by-cons}
use Rattle.std.proofs.lemmas.Option.{get_or_from_slice_get, slice_get_within}
use Rattle.std.specs.Cmp.Lexicographic.{pointwise}
use Rattle.std.specs.List.{starts_with, sum_by}
use Rattle.perfdata_views.specs.Trees.{ArePositions, IsNode, names_at, names_of, path_of, stack_weight}
use Rattle.perfdata_views.specs.declared.tree.Node.{Node}
use Rattle.perfdata_views.specs.declared.tree.RankedStack.{RankedStack}

-- A sum over those elements of which a test is true, if these are the ones from a first one up to an end.
module _ {A : Type 0} (test : A → Bool) (weight : A → ℕ) where
  abbrev tested : A → ℕ
  tested x = cond (test x) (weight x) 0

  none_sum : (xs : List A) → ((k : ℕ) (x : A) → slice_get xs k ≡ Some x → test x ≡ false) → sum_by tested xs ≡ 0
  none_sum [] none = refl
  none_sum (x ∷ xs) none =
      let rest = none_sum xs (λ k y at. none (suc k) y at) in
      sum_by-cons tested x xs ∙ ap (λ (b : Bool). cond b (weight x) 0 + sum_by tested xs) (none 0 x refl) ∙ omega (arith, rest)

  pub range_sum : (xs : List A) (first end : ℕ) → first ≤ end → end ≤ length xs → ((k : ℕ) (x : A) → slice_get xs k ≡ Some x → first ≤ k → k < end → test x ≡ true)
      → ((k : ℕ) (x : A) → slice_get xs k ≡ Some x → k < first → test x ≡ false) → ((k : ℕ) (x : A) → slice_get xs k ≡ Some x → end ≤ k → test x ≡ false)
      → sum_by weight (take first xs) + sum_by tested xs ≡ sum_by weight (take end xs)
  range_sum [] zero zero upward within inside before after = refl
  range_sum [] zero (suc end) upward within inside before after = absurd (omega (arith, within))
  range_sum [] (suc first) zero upward within inside before after = absurd (omega (arith, upward))
  range_sum [] (suc first) (suc end) upward within inside before after = absurd (omega (arith, within))
  range_sum (x ∷ xs) (suc first) zero upward within inside before after = absurd (omega (arith, upward))
  range_sum (x ∷ xs) zero zero upward within inside before after =
      let none = none_sum (x ∷ xs) (λ k y at. after k y at (omega arith)) in
      let empty : sum_by weight (take 0 (x ∷ xs)) ≡ 0 = refl in
      omega (arith, none, empty)
  range_sum (x ∷ xs) zero (suc end) upward within inside before after =
      let rest = range_sum xs zero end (omega arith) (omega (arith, within)) (λ k y at from until. inside (suc k) y at (omega arith) (omega (arith, until))) (λ k y at below. absurd (omega (arith, below))) (λ k y at past. after (suc k) y at (omega (arith, past))) in
      let empty : sum_by weight (take 0 xs) ≡ 0 = refl in
      let also : sum_by weight (take 0 (x ∷ xs)) ≡ 0 = refl in
      let here : sum_by tested (x ∷ xs) ≡ weight x + sum_by tested xs = sum_by-cons tested x xs ∙ ap (λ (b : Bool). cond b (weight x) 0 + sum_by tested xs) (inside 0 x refl (omega arith) (omega arith)) in
      let right : sum_by weight (take (suc end) (x ∷ xs)) ≡ weight x + sum_by weight (take end xs) = sum_by-cons weight x (take end xs) in
      omega (arith, rest, empty, also, here, right)
  range_sum (x ∷ xs) (suc first) (suc end) upward within inside before after =
      let rest = range_sum xs first end (omega (arith, upward)) (omega (arith, within)) (λ k y at from until. inside (suc k) y at (omega (arith, from)) (omega (arith, until))) (λ k y at below. before (suc k) y at (omega (arith, below))) (λ k y at past. after (suc k) y at (omega (arith, past))) in
      let here : sum_by tested (x ∷ xs) ≡ sum_by tested xs = sum_by-cons tested x xs ∙ ap (λ (b : Bool). cond b (weight x) 0 + sum_by tested xs) (before 0 x refl (omega arith)) ∙ omega arith in
      let left : sum_by weight (take (suc first) (x ∷ xs)) ≡ weight x + sum_by weight (take first xs) = sum_by-cons weight x (take first xs) in
      let right : sum_by weight (take (suc end) (x ∷ xs)) ≡ weight x + sum_by weight (take end xs) = sum_by-cons weight x (take end xs) in
      omega (arith, rest, here, left, right)

and_parts : (a b : Bool) → (a && b) ≡ true → (a ≡ true) × (b ≡ true)
and_parts true b is = (refl, is)
and_parts false b is = absurd (true≢false (sym is))

pub pointwise_same : (xs ys : List ℕ) → pointwise nat_eq xs ys ≡ true → xs ≡ ys
pointwise_same [] [] is = refl
pointwise_same [] (y ∷ ys) is = absurd (true≢false (sym is))
pointwise_same (x ∷ xs) [] is = absurd (true≢false (sym is))
pointwise_same (x ∷ xs) (y ∷ ys) is =
    let parts = and_parts (nat_eq x y) (pointwise nat_eq xs ys) is in
    let head : x ≡ y = eqb-true x y parts.0 in
    let tail = pointwise_same xs ys parts.1 in
    cc

pub same_pointwise : (xs : List ℕ) → pointwise nat_eq xs xs ≡ true
same_pointwise [] = refl
same_pointwise (x ∷ xs) = ap (λ (b : Bool). b && pointwise nat_eq xs xs) (eq-eqb x x refl) ∙ same_pointwise xs

abbrev pub starts : List ℕ → RankedStack → Bool
starts path stack = starts_with nat_eq stack.ranks.items path

not_true : (b : Bool) → (b ≡ true → ⊥) → b ≡ false
not_true true apart = absurd (apart refl)
not_true false apart = refl

module _ (stacks : List RankedStack) (node : Node) (is : IsNode (names_of stacks) node) where
  abbrev ranks_in : RankedStack → List ℕ
  ranks_in stack = stack.ranks.items

  abbrev path : List ℕ
  path = path_of (names_of stacks) node

  path_length : length path ≡ node.depth + 1
  path_length = let long = is.has_name in length-take-le (node.depth + 1) (names_at (names_of stacks) node.first) (omega arith)

  -- The names of a stack by its index.
  names_is : (k : ℕ) (stack : RankedStack) → slice_get stacks k ≡ Some stack → (k < length (names_of stacks)) × (names_at (names_of stacks) k ≡ stack.ranks.items)
  names_is k stack at =
      let within = slice_get_within stacks k stack at in
      let count = length-map stacks ranks_in in
      (omega (arith, within, count), get_or-map ranks_in stacks k stack [] within ∙ ap ranks_in (get_or_from_slice_get stacks k stack stack at))

  starts_inside : (k : ℕ) (stack : RankedStack) → slice_get stacks k ≡ Some stack → node.first ≤ k → k < node.end → starts path stack ≡ true
  starts_inside k stack at from until =
      let names = names_is k stack at in
      let same : take (node.depth + 1) stack.ranks.items ≡ path = ap (take (node.depth + 1)) (sym names.1) ∙ is.inside k from until in
      ap (λ (n : ℕ). pointwise nat_eq path (take n stack.ranks.items)) path_length ∙ ap (pointwise nat_eq path) same ∙ same_pointwise path

  starts_outside : (k : ℕ) (stack : RankedStack) → slice_get stacks k ≡ Some stack → ((node.first ≤ k) × (k < node.end) → ⊥) → starts path stack ≡ false
  starts_outside k stack at apart = not_true (starts path stack) (λ found.
      let names = names_is k stack at in
      let same : path ≡ take (length path) stack.ranks.items = pointwise_same path (take (length path) stack.ranks.items) found in
      let long : take (node.depth + 1) (names_at (names_of stacks) k) ≡ path = ap (take (node.depth + 1)) names.1 ∙ sym (same ∙ ap (λ (n : ℕ). take n stack.ranks.items) path_length) in
      apart (is.outside k names.0 long))

  -- The positions of a node are as far apart as the sum of the stacks that start with its names.
  pub node_sum : (positions : List ℕ) → ArePositions stacks positions
      → get_or positions node.first 0 + sum_by (λ (stack : RankedStack). cond (starts path stack) stack.weight 0) stacks ≡ get_or positions node.end 0
  node_sum positions are =
      let count = length-map stacks ranks_in in
      let upward = is.begins in
      let within = is.ends in
      let sum = range_sum (starts path) stack_weight stacks node.first node.end (omega arith) (omega (arith, count))
      starts_inside
      (λ k stack at below. starts_outside k stack at (λ both. omega (arith, below, both.0)))
      (λ k stack at past. starts_outside k stack at (λ both. omega (arith, past, both.1))) in
      ap (λ (n : ℕ). n + sum_by (λ (stack : RankedStack). cond (starts path stack) stack.weight 0) stacks) (are.each node.first (omega (arith, count))) ∙ sum ∙ sym (are.each node.end (omega (arith, count)))
