-- The outermost nodes of a tree.
use Rattle.std.proofs.Common.{◌≡◌, ◌∙◌, ◌+◌, ◌<◌, ◌≤◌, ◌==◌, ◌⊎◌, inl, inr, ap, refl, sym, subst, arith, ℕ, zero, suc, Bool, true, false, cond, true≢false, All, AllPairs, Contains, List, [], ◌∷◌, get_or, length}
use Rattle.std.proofs.lemmas.Bool.{cases_lt, eq-eqb, eqb-true}
use Rattle.std.proofs.lemmas.List.{length-map}
use Rattle.std.proofs.lemmas.List.Elements.{All-head, All-tail}
use Rattle.std.proofs.lemmas.List.Sums.{sum_by-cons}
use Rattle.perfdata_views.specs.Boxes.{outermost_width, width_of}
use Rattle.perfdata_views.specs.Trees.{ArePositions, Holds, IsNode, IsTree, Precedes, names_at, names_of}
use Rattle.perfdata_views.specs.declared.tree.Node.{Node}
use Rattle.perfdata_views.specs.declared.tree.RankedStack.{RankedStack}
use Rattle.perfdata_views.proofs.Nesting.{in_order, upward}

-- An index is that of a stack of an outermost node.
abbrev IsHeld : List Node → ℕ → Type 0
IsHeld nodes index = ((node : Node) × Contains nodes node × Holds node index 0)

held_by : (n : Node) (ns : List Node) (index : ℕ) → IsHeld (n ∷ ns) index → Holds n index 0 ⊎ IsHeld ns index
held_by n ns index there = by there.1.0 there.1.1 there.1.2
  where
    by : (k : ℕ) → k < length (n ∷ ns) → get_or (n ∷ ns) k there.0 ≡ there.0 → Holds n index 0 ⊎ IsHeld ns index
    by zero within is = inl (subst (λ (m : Node). Holds m index 0) (sym is) there.2)
    by (suc k) within is = inr (there.0, (k, omega (arith, within), is), there.2)

-- A later node at the depth of another begins after it.
follows : (stacks : List (List ℕ)) (n m : Node) (ns : List Node) → All (IsNode stacks) (n ∷ ns) → AllPairs Precedes (n ∷ ns) → n.depth ≡ m.depth → Contains ns m → n.end ≤ m.first
follows stacks n m ns all pairs same there =
    let order : Precedes n m = subst (Precedes n) there.2 (pairs 0 (suc there.0) m (omega arith) (omega (arith, there.1))) in
    let node = All-head (IsNode stacks) n ns all in
    let other : IsNode stacks m = subst (IsNode stacks) there.2 (All-tail (IsNode stacks) n ns all there.0 m there.1) in
    let less : n.end < m.end = elim order [
      | inl before ↦ before
      | inr level ↦ absurd (omega (arith, level.1, same))
    ] in
    in_order stacks n m node other same less

module _ (stacks : List RankedStack) (positions : List ℕ) (are : ArePositions stacks positions) where
  abbrev AreLater : ℕ → List Node → Type 0
  AreLater from nodes = (node : Node) → Contains nodes node → node.depth ≡ 0 → from ≤ node.first

  abbrev FillFrom : List Node → ℕ → Type 0
  FillFrom nodes from = from ≤ length stacks → AreLater from nodes → ((index : ℕ) → from ≤ index → index < length stacks → IsHeld nodes index)
      → get_or positions from 0 + outermost_width positions nodes ≡ get_or positions (length stacks) 0

  -- The outermost nodes from an index on are beside each other, without gaps.
  outermost_from : (nodes : List Node) → All (IsNode (names_of stacks)) nodes → AllPairs Precedes nodes → (from : ℕ) → from ≤ length stacks → AreLater from nodes
      → ((index : ℕ) → from ≤ index → index < length stacks → IsHeld nodes index)
      → get_or positions from 0 + outermost_width positions nodes ≡ get_or positions (length stacks) 0
  outermost_from [] all pairs from within later held = elim (cases_lt from (length stacks)) [
    | inl below ↦
        let none = (held from (omega arith) below).1.1 in
        absurd (omega (arith, none))
    | inr past ↦
        let same : from ≡ length stacks = omega arith in
        let here = ap (λ (n : ℕ). get_or positions n 0) same in
        let none : outermost_width positions [] ≡ 0 = refl in
        omega (arith, here, none)
  ]
  outermost_from (n ∷ ns) all pairs from within later held = by (n.depth == 0) refl (λ start. outermost_from ns rest rest_pairs start)
    where
      rest : All (IsNode (names_of stacks)) ns
      rest = All-tail (IsNode (names_of stacks)) n ns all

      rest_pairs : AllPairs Precedes ns
      rest_pairs = λ i j d below inside. pairs (suc i) (suc j) d (omega (arith, below)) (omega (arith, inside))

      node : IsNode (names_of stacks) n
      node = All-head (IsNode (names_of stacks)) n ns all

      whole : (b : Bool) → (n.depth == 0) ≡ b → outermost_width positions (n ∷ ns) ≡ cond b (width_of positions n) 0 + outermost_width positions ns
      whole b is = subst (λ (c : Bool). outermost_width positions (n ∷ ns) ≡ cond c (width_of positions n) 0 + outermost_width positions ns) is
          (sum_by-cons (λ (m : Node). cond (m.depth == 0) (width_of positions m) 0) n ns)

      still_later : AreLater from ns
      still_later = λ m there outer. later m (suc there.0, omega (arith, there.1), there.2) outer

      -- The first of the outermost nodes begins where the last one ended.
      begins_here : n.depth ≡ 0 → n.first ≡ from
      begins_here outer =
          let from_first = later n (0, omega arith, refl) outer in
          let begins = node.begins in
          let fits = node.ends in
          let count = length-map stacks (λ (s : RankedStack). s.ranks.items) in
          elim (cases_lt from n.first) [
            | inl before ↦ elim (held_by n ns from (held from (omega arith) (omega (arith, count)))) [
              | inl own ↦ let below = own.from in absurd (omega arith)
              | inr other ↦
                  let level = other.2.depth_is in
                  let below = other.2.from in
                  let after = follows (names_of stacks) n other.0 ns all pairs (outer ∙ sym level) other.1 in
                  absurd (omega arith)
            ]
            | inr past ↦ omega arith
          ]

      by : (b : Bool) → (n.depth == 0) ≡ b → ((start : ℕ) → FillFrom ns start) → get_or positions from 0 + outermost_width positions (n ∷ ns) ≡ get_or positions (length stacks) 0
      by true is fill =
          let outer : n.depth ≡ 0 = eqb-true n.depth 0 is in
          let here = begins_here outer in
          let begins = node.begins in
          let fits = node.ends in
          let count = length-map stacks (λ (s : RankedStack). s.ranks.items) in
          let wide = upward stacks positions are n.first n.end (omega arith) (omega (arith, count)) in
          let others = fill n.end (omega (arith, count))
          (λ m there level. follows (names_of stacks) n m ns all pairs (outer ∙ sym level) there)
          (λ index past below. elim (held_by n ns index (held index (omega (arith, here)) below)) [
            | inl own ↦ let until = own.until in absurd (omega arith)
            | inr other ↦ other
          ]) in
          let first = ap (λ (k : ℕ). get_or positions k 0) here in
          let sum = whole true is in
          omega (arith, wide, others, first, sum)
      by false is fill =
          let others = fill from within still_later
          (λ index past below. elim (held_by n ns index (held index past below)) [
            | inl own ↦ absurd (true≢false (sym (eq-eqb n.depth 0 own.depth_is) ∙ is))
            | inr other ↦ other
          ]) in
          let sum = whole false is in
          omega (arith, others, sum)

  -- The outermost nodes of the tree of stacks that have names.
  pub outermost_sum : (nodes : List Node) → IsTree (names_of stacks) nodes → ((index : ℕ) → index < length stacks → 0 < length (names_at (names_of stacks) index))
      → get_or positions 0 0 + outermost_width positions nodes ≡ get_or positions (length stacks) 0
  outermost_sum nodes is named =
      let count = length-map stacks (λ (s : RankedStack). s.ranks.items) in
      outermost_from nodes is.each is.ordered 0 (omega arith) (λ m there outer. omega arith) (λ index from below. is.all index 0 (omega (arith, count)) (named index below))
