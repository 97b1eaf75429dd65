-- The stacks of entries, and the nodes of their names.
use Rattle.std.proofs.Common.{◌≡◌, ◌∙◌, ◌+◌, ◌<◌, ◌&&◌, ◌==◌, ap, refl, sym, subst, arith, ℕ, zero, suc, Bool, true, false, cond, List, [], ◌∷◌, All, Contains, get_or, length, map, nat_eq, Some, slice_get, take}
use Rattle.std.proofs.lemmas.Bool.{eq-eqb, eqb-true}
use Rattle.std.proofs.lemmas.List.{get_or-map, length-map, take-map, take_all}
use Rattle.std.proofs.lemmas.List.Elements.{All-take}
use Rattle.std.proofs.lemmas.List.Sorted.{Contains-permutation, IsPermutation-sym, sum_by-IsPermutation}
use Rattle.std.proofs.lemmas.List.Sums.{sum_by-cons}
use Rattle.std.proofs.lemmas.Option.{get_or_from_slice_get, slice_get-get_or, slice_get_within}
use Rattle.std.specs.Cmp.Lexicographic.{pointwise}
use Rattle.std.specs.List.{sum_by}
use Rattle.std.specs.List.Sorted.{IsPermutation}
use Rattle.perfdata_profile.specs.Interning.{IsOnce}
use Rattle.perfdata_profile.specs.Samples.{AreRelated}
use Rattle.perfdata_views.specs.Counts.{is_line}
use Rattle.perfdata_views.specs.Entries.{Entry, weight_of, weight_where}
use Rattle.perfdata_views.specs.EntryTrees.{EntriesHaveTree, IsEntryTree, IsRanked, IsRanking, entry_names, is_below, node_names, text_at}
use Rattle.perfdata_views.specs.Trees.{ArePositions, IsNode, IsTree, names_at, names_of, path_of, stack_weight}
use Rattle.perfdata_views.specs.declared.tree.Node.{Node}
use Rattle.perfdata_views.specs.declared.tree.RankedStack.{RankedStack}
use Rattle.perfdata_views.proofs.NodeSums.{node_sum, starts}
use Rattle.perfdata_views.proofs.Outermost.{outermost_sum}
use Rattle.perfdata_views.proofs.Tallying.{number_test}

pub map_same : {A B : Type 0} → (f g : A → B) (xs : List A) → ((k : ℕ) (x : A) → slice_get xs k ≡ Some x → f x ≡ g x) → map f xs ≡ map g xs
map_same f g [] same = refl
map_same f g (x ∷ xs) same =
    let head : f x ≡ g x = same 0 x refl in
    let tail = map_same f g xs (λ k y at. same (suc k) y at) in
    cc

pub below_all : {A : Type 0} → (P : A → Type 0) (xs : List A) (k : ℕ) (x : A) → slice_get xs k ≡ Some x → All P xs → P x
below_all P xs k x at all = subst P (get_or_from_slice_get xs k x x at) (all k x (slice_get_within xs k x at))

-- The sum over stacks is that over their entries.
module _ (texts : List (List ℕ)) (once : IsOnce texts) (order ranks : List ℕ) (ranking : IsRanking (length texts) order ranks) where
  abbrev rank_at : ℕ → ℕ
  rank_at number = get_or ranks number 0

  abbrev name_at_rank : ℕ → List ℕ
  name_at_rank rank = text_at texts (get_or order rank 0)

  -- Two numbers have one rank if their texts are one.
  rank_test : (number other : ℕ) → number < length texts → other < length texts → nat_eq (rank_at number) (rank_at other) ≡ is_line (text_at texts number) (text_at texts other)
  rank_test number other within also =
      let same : nat_eq (rank_at number) (rank_at other) ≡ (other == number) = same_test (nat_eq (rank_at number) (rank_at other)) (other == number)
      (λ is. eq-eqb other number (sym (ranking.each other also) ∙ ap (λ (r : ℕ). get_or order r 0) (sym (eqb-true (rank_at number) (rank_at other) is)) ∙ ranking.each number within))
      (λ is. eq-eqb (rank_at number) (rank_at other) (ap rank_at (sym (eqb-true other number is)))) in
      same ∙ number_test texts once number other within also
    where
      same_test : (a b : Bool) → (a ≡ true → b ≡ true) → (b ≡ true → a ≡ true) → a ≡ b
      same_test true b there back = sym (there refl)
      same_test false true there back = back refl
      same_test false false there back = refl

  pointwise_names : (xs ys : List ℕ) → All (λ (n : ℕ). n < length texts) xs → All (λ (n : ℕ). n < length texts) ys → pointwise nat_eq (map rank_at xs) (map rank_at ys) ≡ pointwise is_line (map (text_at texts) xs) (map (text_at texts) ys)
  pointwise_names [] [] first second = refl
  pointwise_names [] (y ∷ ys) first second = refl
  pointwise_names (x ∷ xs) [] first second = refl
  pointwise_names (x ∷ xs) (y ∷ ys) first second =
      ap (λ (b : Bool). b && pointwise nat_eq (map rank_at xs) (map rank_at ys)) (rank_test x y (first 0 0 (omega arith)) (second 0 0 (omega arith)))
      ∙ ap (λ (b : Bool). is_line (text_at texts x) (text_at texts y) && b) (pointwise_names xs ys (λ k d below. first (suc k) d (omega (arith, below))) (λ k d below. second (suc k) d (omega (arith, below))))

  -- A path by ranks, which starts a ranked stack, and its names.
  module _ (path : List ℕ) (path_numbers : List ℕ) (path_within : All (λ (n : ℕ). n < length texts) path_numbers) (path_is : path ≡ map rank_at path_numbers) where
    abbrev path_names : List (List ℕ)
    path_names = map (text_at texts) path_numbers

    below_same : (entry : Entry) (stack : RankedStack) → IsRanked texts ranks entry stack → starts path stack ≡ is_below path_names entry
    below_same entry stack is =
        let count : length path ≡ length path_names = ap length path_is ∙ length-map path_numbers rank_at ∙ sym (length-map path_numbers (text_at texts)) in
        let numbers = is.numbers in
        let n = length path_names in
        let cut : take (length path) stack.ranks.items ≡ map rank_at (take n numbers) = ap (λ (m : ℕ). take m stack.ranks.items) count ∙ ap (take n) is.ranks_are ∙ take-map rank_at n numbers in
        let names : take n (entry_names entry.0) ≡ map (text_at texts) (take n numbers) = ap (take n) (sym is.are.are) ∙ take-map (text_at texts) n numbers in
        ap (pointwise nat_eq path) cut ∙ ap (λ (p : List ℕ). pointwise nat_eq p (map rank_at (take n numbers))) path_is
        ∙ pointwise_names path_numbers (take n numbers) path_within (All-take (λ (m : ℕ). m < length texts) n numbers is.are.within)
        ∙ ap (pointwise is_line path_names) (sym names)

    pub below_sum : (entries : List Entry) (stacks : List RankedStack) → AreRelated (IsRanked texts ranks) entries stacks → sum_by (λ (stack : RankedStack). cond (starts path stack) stack.weight 0) stacks ≡ weight_where (is_below path_names) entries
    below_sum [] [] are = refl
    below_sum [] (s ∷ ss) are = absurd are
    below_sum (e ∷ es) [] are = absurd are
    below_sum (e ∷ es) (s ∷ ss) are =
        let here : cond (starts path s) s.weight 0 ≡ cond (is_below path_names e) (weight_of e) 0 = ap (λ (b : Bool). cond b s.weight 0) (below_same e s are.0) ∙ ap (λ (w : ℕ). cond (is_below path_names e) w 0) are.0.weight in
        let rest = below_sum es ss are.1 in
        let left = sum_by-cons (λ (stack : RankedStack). cond (starts path stack) stack.weight 0) s ss in
        let right = sum_by-cons (λ (entry : Entry). cond (is_below path_names entry) (weight_of entry) 0) e es in
        omega (arith, here, rest, left, right)

    -- The names of a path by ranks.
    pub names_same : map name_at_rank path ≡ path_names
    names_same =
        ap (map name_at_rank) path_is ∙ map_map path_numbers ∙ map_same (λ (n : ℕ). name_at_rank (rank_at n)) (text_at texts) path_numbers (λ k n at.
        ap (text_at texts) (ranking.each n (below_all (λ (m : ℕ). m < length texts) path_numbers k n at path_within)))
      where
        map_map : (xs : List ℕ) → map name_at_rank (map rank_at xs) ≡ map (λ (n : ℕ). name_at_rank (rank_at n)) xs
        map_map [] = refl
        map_map (x ∷ xs) = ap (λ (l : List (List ℕ)). name_at_rank (rank_at x) ∷ l) (map_map xs)

-- The stack of an entry, and the entry of a stack.
related_stack : {A B : Type 0} → (R : A → B → Type 0) (xs : List A) (ys : List B) → AreRelated R xs ys → (index : ℕ) (x : A) → slice_get xs index ≡ Some x → ((y : B) × (slice_get ys index ≡ Some y) × R x y)
related_stack R [] ys are index x at = cc
related_stack R (z ∷ xs) [] are index x at = absurd are
related_stack {A} {B} R (z ∷ xs) (w ∷ ys) are zero x at =
    let same : z ≡ x = cc in
    (w, refl, subst (λ (v : A). R v w) same are.0)
related_stack R (z ∷ xs) (w ∷ ys) are (suc index) x at = related_stack R xs ys are.1 index x at

related_entry : {A B : Type 0} → (R : A → B → Type 0) (xs : List A) (ys : List B) → AreRelated R xs ys → (index : ℕ) (y : B) → slice_get ys index ≡ Some y → ((x : A) × (slice_get xs index ≡ Some x) × R x y)
related_entry R xs [] are index y at = cc
related_entry R [] (w ∷ ys) are index y at = absurd are
related_entry {A} {B} R (z ∷ xs) (w ∷ ys) are zero y at =
    let same : w ≡ y = cc in
    (z, refl, subst (R z) same are.0)
related_entry R (z ∷ xs) (w ∷ ys) are (suc index) y at = related_entry R xs ys are.1 index y at

-- The tree of ranked stacks is that of their entries.
module _ (texts : List (List ℕ)) (once : IsOnce texts) (order ranks : List ℕ) (ranking : IsRanking (length texts) order ranks) (entries : List Entry) (stacks sorted : List RankedStack) (are : AreRelated (IsRanked texts ranks) entries stacks) (permutation : IsPermutation stacks sorted) where
  abbrev rank_of : ℕ → ℕ
  rank_of number = get_or ranks number 0

  abbrev HasEntry : RankedStack → Type 0
  HasEntry stack = ((index : ℕ) × (entry : Entry) × (slice_get entries index ≡ Some entry) × IsRanked texts ranks entry stack)

  -- A sorted stack is that of an entry.
  entry_of : (index : ℕ) → index < length sorted → ((stack : RankedStack) × (slice_get sorted index ≡ Some stack) × HasEntry stack)
  entry_of index below =
      let here = stack_at sorted index below in
      let back = Contains-permutation sorted stacks here.0 (IsPermutation-sym stacks sorted permutation) (index, below, get_or_from_slice_get sorted index here.0 here.0 here.1) in
      let place : slice_get stacks back.0 ≡ Some here.0 = slice_get-get_or stacks back.0 here.0 back.1 ∙ ap (λ (s : RankedStack). Some s) back.2 in
      (here.0, here.1, entry_index back.0 here.0 place)
    where
      stack_at : (xs : List RankedStack) (n : ℕ) → n < length xs → ((s : RankedStack) × (slice_get xs n ≡ Some s))
      stack_at [] n within = absurd (omega (arith, within))
      stack_at (x ∷ xs) zero within = (x, refl)
      stack_at (x ∷ xs) (suc n) within = stack_at xs n (omega (arith, within))

      entry_index : (n : ℕ) (s : RankedStack) → slice_get stacks n ≡ Some s → HasEntry s
      entry_index n s at =
          let entry = related_entry (IsRanked texts ranks) entries stacks are n s at in
          (n, entry.0, entry.1, entry.2)

  -- The names of a sorted stack.
  names_are : (index : ℕ) (stack : RankedStack) → slice_get sorted index ≡ Some stack → names_at (names_of sorted) index ≡ stack.ranks.items
  names_are index stack at = get_or-map (λ (s : RankedStack). s.ranks.items) sorted index stack [] (slice_get_within sorted index stack at) ∙ ap (λ (s : RankedStack). s.ranks.items) (get_or_from_slice_get sorted index stack stack at)

  module _ (node : Node) (is : IsNode (names_of sorted) node) where
    first_inside : node.first < length sorted
    first_inside = let upward = is.begins in let within = is.ends in omega (arith, length-map sorted (λ (s : RankedStack). s.ranks.items))

    -- A stack of the node, and its entry.
    path_from : (index : ℕ) (stack : RankedStack) → slice_get sorted index ≡ Some stack → take (node.depth + 1) (names_at (names_of sorted) index) ≡ path_of (names_of sorted) node → (entry : Entry) (ranked : IsRanked texts ranks entry stack) → path_of (names_of sorted) node ≡ map rank_of (take (node.depth + 1) ranked.numbers)
    path_from index stack at starts_so entry ranked = sym starts_so ∙ ap (take (node.depth + 1)) (names_are index stack at ∙ ranked.ranks_are) ∙ take-map rank_of (node.depth + 1) ranked.numbers

    names_from : (index : ℕ) (stack : RankedStack) → slice_get sorted index ≡ Some stack → take (node.depth + 1) (names_at (names_of sorted) index) ≡ path_of (names_of sorted) node → (entry : Entry) → IsRanked texts ranks entry stack → node_names texts order sorted node ≡ take (node.depth + 1) (entry_names entry.0)
    names_from index stack at starts_so entry ranked =
        let numbers = take (node.depth + 1) ranked.numbers in
        let within = All-take (λ (n : ℕ). n < length texts) (node.depth + 1) ranked.numbers ranked.are.within in
        names_same texts once order ranks ranking (path_of (names_of sorted) node) numbers within (path_from index stack at starts_so entry ranked)
        ∙ sym (take-map (text_at texts) (node.depth + 1) ranked.numbers) ∙ ap (take (node.depth + 1)) ranked.are.are

    node_weight : (positions : List ℕ) → ArePositions sorted positions → get_or positions node.first 0 + weight_where (is_below (node_names texts order sorted node)) entries ≡ get_or positions node.end 0
    node_weight positions are_positions =
        let there = entry_of node.first first_inside in
        let ranked = there.2.3 in
        let numbers = take (node.depth + 1) ranked.numbers in
        let within = All-take (λ (n : ℕ). n < length texts) (node.depth + 1) ranked.numbers ranked.are.within in
        let path = path_of (names_of sorted) node in
        let path_is = path_from node.first there.0 there.1 refl there.2.1 ranked in
        let shuffled = sum_by-IsPermutation (λ (stack : RankedStack). cond (starts path stack) stack.weight 0) stacks sorted permutation in
        let below = below_sum texts once order ranks ranking path numbers within path_is entries stacks are in
        let named = names_same texts once order ranks ranking path numbers within path_is in
        let sum = node_sum sorted node is positions are_positions in
        ap (λ (names : List (List ℕ)). get_or positions node.first 0 + weight_where (is_below names) entries) named ∙ ap (λ (n : ℕ). get_or positions node.first 0 + n) (sym (shuffled ∙ below)) ∙ sum

  weights_related : (es : List Entry) (ss : List RankedStack) → AreRelated (IsRanked texts ranks) es ss → sum_by stack_weight ss ≡ sum_by weight_of es
  weights_related [] [] related = refl
  weights_related [] (s ∷ ss) related = absurd related
  weights_related (e ∷ es) [] related = absurd related
  weights_related (e ∷ es) (s ∷ ss) related =
      let here = related.0.weight in
      let rest = weights_related es ss related.1 in
      omega (arith, here, rest, sum_by-cons stack_weight s ss, sum_by-cons weight_of e es)

  -- Each stack has the name of a thread.
  named : (index : ℕ) → index < length sorted → 0 < length (names_at (names_of sorted) index)
  named index below =
      let there = entry_of index below in
      let ranked = there.2.3 in
      let names = ap length (names_are index there.0 there.1 ∙ ranked.ranks_are) in
      let ranks_count = length-map ranked.numbers rank_of in
      let texts_count = length-map ranked.numbers (text_at texts) in
      let count = ap length ranked.are.are in
      omega (arith, names, ranks_count, texts_count, count)

  pub stacks_sum : sum_by stack_weight sorted ≡ sum_by weight_of entries
  stacks_sum = sum_by-IsPermutation stack_weight stacks sorted permutation ∙ weights_related entries stacks are

  pub tree_is : (positions : List ℕ) (nodes : List Node) → ArePositions sorted positions → IsTree (names_of sorted) nodes → IsEntryTree texts order sorted positions nodes entries
  tree_is positions nodes are_positions is = record {
    weights = λ k d below. node_weight (get_or nodes k d) (is.each k d below) positions are_positions;
    all = λ index depth entry at deep.
        let stack = related_stack (IsRanked texts ranks) entries stacks are index entry at in
        let inside = slice_get_within stacks index stack.0 stack.1 in
        let there = Contains-permutation stacks sorted stack.0 permutation (index, inside, get_or_from_slice_get stacks index stack.0 stack.0 stack.1) in
        let place : slice_get sorted there.0 ≡ Some stack.0 = slice_get-get_or sorted there.0 stack.0 there.1 ∙ ap (λ (s : RankedStack). Some s) there.2 in
        let names = names_are there.0 stack.0 place in
        let ranked = stack.2 in
        let long : length (names_at (names_of sorted) there.0) ≡ length (entry_names entry.0) = ap length (names ∙ ranked.ranks_are) ∙ length-map ranked.numbers rank_of ∙ sym (length-map ranked.numbers (text_at texts)) ∙ ap length ranked.are.are in
        let node = is.all there.0 depth (omega (arith, there.1, length-map sorted (λ (s : RankedStack). s.ranks.items))) (omega (arith, long, deep)) in
        let of_node = at_nodes nodes is node.0 node.1 in
        let holds = node.2 in
        (node.0, node.1, names_from node.0 of_node there.0 stack.0 place (of_node.inside there.0 holds.from holds.until) entry ranked ∙ ap (λ (n : ℕ). take (n + 1) (entry_names entry.0)) holds.depth_is);
    only = λ node contains.
        let of_node = at_nodes nodes is node contains in
        let there = entry_of node.first (first_inside node of_node) in
        (there.2.0, there.2.1, there.2.2, names_from node of_node node.first there.0 there.1 refl there.2.1 there.2.3);
    sum = total;
    outermost =
        let start = are_positions.each 0 (omega arith) in
        let all = outermost_sum sorted positions are_positions nodes is named in
        omega (arith, start, all, total);
  }
    where
      total : get_or positions (length sorted) 0 ≡ sum_by weight_of entries
      total = are_positions.each (length sorted) (omega arith) ∙ ap (sum_by stack_weight) (take_all (length sorted) sorted (omega arith)) ∙ stacks_sum

      at_nodes : (nodes : List Node) → IsTree (names_of sorted) nodes → (node : Node) → Contains nodes node → IsNode (names_of sorted) node
      at_nodes nodes is node contains = subst (IsNode (names_of sorted)) contains.2 (is.each contains.0 node contains.1)

pub entries_have_tree : EntriesHaveTree
entries_have_tree texts order ranks entries stacks tree once ranking are is = tree_is texts once order ranks ranking entries stacks tree.stacks.items are is.are tree.positions.items tree.nodes.items is.are_positions is.is_tree
