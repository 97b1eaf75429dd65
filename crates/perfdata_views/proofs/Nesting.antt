-- The boxes of a tree are nested.
use Rattle.std.proofs.Common.{◌≡◌, ◌∙◌, ◌+◌, ◌-◌, ◌<◌, ◌≤◌, ◌==◌, ◌&&◌, inl, inr, ap, refl, sym, subst, arith, ℕ, suc, Bool, true, false, cond, true≢false, All, AllPairs, Contains, List, [], ◌∷◌, get_or, length, nat_le, nat_lt, take}
use Rattle.std.proofs.lemmas.Bool.{cases_lt, eqb-true}
use Rattle.std.proofs.lemmas.Bool.Decides.{leb_tells}
use Rattle.std.proofs.lemmas.List.{length-map, take-take}
use Rattle.std.proofs.lemmas.List.Elements.{All-head, All-tail}
use Rattle.std.proofs.lemmas.List.Sums.{sum_by-cons, sum_by-take-le}
use Rattle.std.specs.List.{sum_by}
use Rattle.perfdata_views.specs.Boxes.{BoxesNest, children_width, is_child, width_of}
use Rattle.perfdata_views.specs.Trees.{ArePositions, IsNode, Precedes, names_at, names_of, path_of, stack_weight}
use Rattle.perfdata_views.specs.declared.tree.Node.{Node}
use Rattle.perfdata_views.specs.declared.tree.RankedStack.{RankedStack}

module _ (stacks : List (List ℕ)) where
  -- A node that begins in one that is less deep ends in it.
  ends_within : (outer inner : Node) → IsNode stacks outer → IsNode stacks inner → outer.depth ≤ inner.depth → outer.first ≤ inner.first → inner.first < outer.end → inner.end ≤ outer.end
  ends_within outer inner is also shallow from until =
      let last = inner.end - 1 in
      let begins = also.begins in
      let fits = also.ends in
      let cut : (xs : List ℕ) → take (outer.depth + 1) (take (inner.depth + 1) xs) ≡ take (outer.depth + 1) xs = λ xs. take-take (outer.depth + 1) (inner.depth + 1) xs (omega arith) in
      let same : take (inner.depth + 1) (names_at stacks last) ≡ path_of stacks inner = also.inside last (omega arith) (omega arith) in
      let first : take (outer.depth + 1) (names_at stacks inner.first) ≡ path_of stacks outer = is.inside inner.first from until in
      let path : take (outer.depth + 1) (names_at stacks last) ≡ path_of stacks outer = sym (cut (names_at stacks last)) ∙ ap (take (outer.depth + 1)) same ∙ cut (names_at stacks inner.first) ∙ first in
      let found = is.outside last (omega arith) path in
      let below = found.1 in
      omega arith

  -- Nodes at one depth are beside each other.
  is_beside : (one other : Node) → IsNode stacks one → IsNode stacks other → one.depth ≡ other.depth → one.first < other.first → one.end ≤ other.first
  is_beside one other is also same before = elim (cases_lt other.first one.end) [
    | inr past ↦ past
    | inl inside ↦
        let begins = is.begins in
        let fits = is.ends in
        let here : take (one.depth + 1) (names_at stacks other.first) ≡ path_of stacks one = is.inside other.first (omega arith) inside in
        let path : take (other.depth + 1) (names_at stacks one.first) ≡ path_of stacks other = ap (λ (d : ℕ). take (d + 1) (names_at stacks one.first)) (sym same) ∙ sym here ∙ ap (λ (d : ℕ). take (d + 1) (names_at stacks other.first)) same in
        let found = also.outside one.first (omega arith) path in
        let from = found.0 in
        absurd (omega arith)
  ]

  -- Of two nodes at one depth, the one that ends first is before the other.
  pub in_order : (one other : Node) → IsNode stacks one → IsNode stacks other → one.depth ≡ other.depth → one.end < other.end → one.end ≤ other.first
  in_order one other is also same less = elim (cases_lt one.first other.first) [
    | inl before ↦ is_beside one other is also same before
    | inr after ↦
        let begins = is.begins in
        let also_begins = also.begins in
        elim (cases_lt one.first other.end) [
          | inl inside ↦
              -- They start with the same names, so both end at one place.
              let here : take (other.depth + 1) (names_at stacks one.first) ≡ path_of stacks other = also.inside one.first after inside in
              let last : take (other.depth + 1) (names_at stacks one.end) ≡ path_of stacks other = also.inside one.end (omega arith) less in
              let path : take (one.depth + 1) (names_at stacks one.end) ≡ path_of stacks one = ap (λ (d : ℕ). take (d + 1) (names_at stacks one.end)) same ∙ last ∙ sym here ∙ ap (λ (d : ℕ). take (d + 1) (names_at stacks one.first)) (sym same) in
              let fits = also.ends in
              let found = is.outside one.end (omega arith) path in
              let below = found.1 in
              absurd (omega arith)
          | inr past ↦ absurd (omega arith)
        ]
  ]

and_both : (a b : Bool) → (a && b) ≡ true → (a ≡ true) × (b ≡ true)
and_both true b is = (refl, is)
and_both false b is = absurd (true≢false (sym is))

le_true : (a b : ℕ) → nat_le a b ≡ true → a ≤ b
le_true a b is = elim (leb_tells a b) [
  | inl below ↦ below.1
  | inr above ↦ absurd (true≢false (sym is ∙ above.0))
]

pub record IsChild (parent node : Node) : Type 0 where
  pub deeper : node.depth ≡ parent.depth + 1
  pub from : parent.first ≤ node.first
  pub until : node.first < parent.end

child_is : (parent node : Node) → is_child parent node ≡ true → IsChild parent node
child_is parent node is =
    let parts = and_both (node.depth == parent.depth + 1) (nat_le parent.first node.first && nat_lt node.first parent.end) is in
    let rest = and_both (nat_le parent.first node.first) (nat_lt node.first parent.end) parts.1 in
    record { deeper = eqb-true node.depth (parent.depth + 1) parts.0; from = le_true parent.first node.first rest.0; until = le_true (suc node.first) parent.end rest.1 }

module _ (stacks : List RankedStack) (positions : List ℕ) (are : ArePositions stacks positions) where
  count : length (names_of stacks) ≡ length stacks
  count = length-map stacks (λ (s : RankedStack). s.ranks.items)

  pub upward : (first second : ℕ) → first ≤ second → second ≤ length stacks → get_or positions first 0 ≤ get_or positions second 0
  upward first second below within =
      let part = sum_by-take-le stack_weight (take second stacks) first in
      let same : take first (take second stacks) ≡ take first stacks = take-take first second stacks below in
      let lower = are.each first (omega arith) in
      let upper = are.each second within in
      omega (arith, part, ap (sum_by stack_weight) same, lower, upper)

  -- The widths of the children among nodes that follow a position.
  widths_from : (parent : Node) → IsNode (names_of stacks) parent → (nodes : List Node) → All (IsNode (names_of stacks)) nodes → AllPairs Precedes nodes → (from : ℕ) → from ≤ parent.end
      → All (λ (node : Node). is_child parent node ≡ true → from ≤ node.first) nodes
      → get_or positions from 0 + children_width positions nodes parent ≤ get_or positions parent.end 0
  widths_from parent is [] all pairs from within later =
      let fits = is.ends in
      let sum = upward from parent.end within (omega (arith, count)) in
      let none : children_width positions [] parent ≡ 0 = refl in
      omega (arith, sum, none)
  widths_from parent is (n ∷ ns) all pairs from within later = by (is_child parent n) refl
      (widths_from parent is ns rest rest_pairs from within rest_later)
      (λ child. widths_from parent is ns rest rest_pairs n.end (end_within child) (after child))
    where
      node : IsNode (names_of stacks) n
      node = All-head (IsNode (names_of stacks)) n ns all

      rest : All (IsNode (names_of stacks)) ns
      rest = All-tail (IsNode (names_of stacks)) n ns all

      rest_pairs : AllPairs Precedes ns
      rest_pairs = λ i j d below inside. pairs (suc i) (suc j) d (omega (arith, below)) (omega (arith, inside))

      rest_later : All (λ (m : Node). is_child parent m ≡ true → from ≤ m.first) ns
      rest_later = All-tail (λ (m : Node). is_child parent m ≡ true → from ≤ m.first) n ns later

      end_within : is_child parent n ≡ true → n.end ≤ parent.end
      end_within child =
          let c = child_is parent n child in
          let deeper = c.deeper in
          ends_within (names_of stacks) parent n is node (omega arith) c.from c.until

      after : is_child parent n ≡ true → All (λ (m : Node). is_child parent m ≡ true → n.end ≤ m.first) ns
      after child = λ k d inside other.
          let c = child_is parent n child in
          let o = child_is parent (get_or ns k d) other in
          let same : n.depth ≡ (get_or ns k d).depth = c.deeper ∙ sym o.deeper in
          let order : Precedes n (get_or ns k d) = pairs 0 (suc k) d (omega arith) (omega (arith, inside)) in
          let less : n.end < (get_or ns k d).end = elim order [
            | inl before ↦ before
            | inr level ↦ absurd (omega (arith, level.1, same))
          ] in
          in_order (names_of stacks) n (get_or ns k d) node (rest k d inside) same less

      by : (b : Bool) → is_child parent n ≡ b
          → get_or positions from 0 + children_width positions ns parent ≤ get_or positions parent.end 0
          → (is_child parent n ≡ true → get_or positions n.end 0 + children_width positions ns parent ≤ get_or positions parent.end 0)
          → get_or positions from 0 + children_width positions (n ∷ ns) parent ≤ get_or positions parent.end 0
      by true child skipped taken =
          let begins = node.begins in
          let fits = node.ends in
          let whole : children_width positions (n ∷ ns) parent ≡ width_of positions n + children_width positions ns parent = sum_by-cons (λ (m : Node). cond (is_child parent m) (width_of positions m) 0) n ns ∙ ap (λ (b : Bool). cond b (width_of positions n) 0 + children_width positions ns parent) child in
          let start = upward from n.first (later 0 n (omega arith) child) (omega (arith, count)) in
          let wide = upward n.first n.end (omega arith) (omega (arith, count)) in
          let others = taken child in
          omega (arith, whole, start, wide, others)
      by false apart skipped taken =
          let whole : children_width positions (n ∷ ns) parent ≡ 0 + children_width positions ns parent = sum_by-cons (λ (m : Node). cond (is_child parent m) (width_of positions m) 0) n ns ∙ ap (λ (b : Bool). cond b (width_of positions n) 0 + children_width positions ns parent) apart in
          omega (arith, whole, skipped)

pub boxes_nest : BoxesNest
boxes_nest given tree is =
    let stacks = tree.stacks.items in
    let positions = tree.positions.items in
    let nodes = tree.nodes.items in
    let names = names_of stacks in
    let node_is : (node : Node) → Contains nodes node → IsNode names node = λ node contains. subst (IsNode names) contains.2 (is.is_tree.each contains.0 node contains.1) in
    let size : length names ≡ length stacks = length-map stacks (λ (s : RankedStack). s.ranks.items) in
    let rises : (first second : ℕ) → first ≤ second → second ≤ length stacks → get_or positions first 0 ≤ get_or positions second 0 = upward stacks positions is.are_positions in
    record {
      wide = λ node contains.
          let n = node_is node contains in
          let begins = n.begins in
          let fits = n.ends in
          rises node.first node.end (omega arith) (omega (arith, size));
      within = λ outer inner one other shallow from until.
          let o = node_is outer one in
          let i = node_is inner other in
          let fits = o.ends in
          let begins = i.begins in
          let last = ends_within names outer inner o i shallow from until in
          (rises outer.first inner.first from (omega (arith, size)), rises inner.end outer.end last (omega (arith, size)));
      beside = λ one other first second same before.
          let o = node_is other second in
          let fits = o.ends in
          let begins = o.begins in
          rises one.end other.first (is_beside names one other (node_is one first) o same before) (omega (arith, size));
      parent = λ node contains deep.
          let n = node_is node contains in
          let begins = n.begins in
          let fits = n.ends in
          let long = n.has_name in
          let there = is.is_tree.all node.first (node.depth - 1) (omega arith) (omega arith) in
          let holds = there.2 in
          let level = holds.depth_is in
          let outer = node_is there.0 there.1 in
          (there.0, there.1, omega arith, holds.from, ends_within names there.0 node outer n (omega arith) holds.from holds.until);
      widths = λ outer contains.
          let o = node_is outer contains in
          let begins = o.begins in
          let sum = widths_from stacks positions is.are_positions outer o nodes is.is_tree.each is.is_tree.ordered outer.first (omega arith) (λ k d inside child. (child_is outer (get_or nodes k d) child).from) in
          omega (arith, sum);
    }
