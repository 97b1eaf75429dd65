-- A tree as one more stack is added.
use Rattle.std.proofs.Common.{◌≡◌, ◌∙◌, ◌+◌, ◌-◌, ◌<◌, ◌≤◌, ◌⊎◌, inl, inr, ap, refl, sym, subst, arith, ℕ, zero, suc, List, [], ◌∷◌, ◌++◌, All, AllPairs, Contains, append_assoc, drop, get_or, length, length-drop, length-take, replicate, take}
use Rattle.std.proofs.lemmas.Bool.{cases_eq, cases_lt}
use Rattle.std.proofs.lemmas.List.{append-nil, drop_more, get_or-append_right, get_or-drop, get_or-replicate, get_or-take, get_or_append_left, length-append, length-replicate, length-take-le, take_all}
use Rattle.std.proofs.lemmas.List.Elements.{All-append, All-nil, All-push, All-weaker, Contains-append_left, Contains-append_right, Contains-push}
use Rattle.std.proofs.lemmas.List.Quantifiers.{all_pairs_push}
use Rattle.perfdata_views.specs.Trees.{Ascend, Holds, IsAtMost, IsNode, IsTree, Precedes, names_at}
use Rattle.perfdata_views.specs.steps.Trees.{Grows, IsShared, ended_nodes}
use Rattle.perfdata_views.specs.declared.tree.Node.{Node}
use Rattle.perfdata_views.proofs.Ascending.{between, same_shared, shared_same}

abbrev node_at : (depth first end : ℕ) → Node
node_at depth first end = record { depth = depth; first = first; end = end }

ended_next : (firsts : List ℕ) (depth end : ℕ) → depth < length firsts → ended_nodes depth (drop depth firsts) end ≡ ended_nodes (depth + 1) (drop (depth + 1) firsts) end ++ node_at depth (get_or firsts depth 0) end ∷ []
ended_next firsts depth end within = ap (λ (fs : List ℕ). ended_nodes depth fs end) (drop_more firsts depth 0 within)

pub ended_more : (firsts : List ℕ) (depth end : ℕ) → 0 < depth → depth ≤ length firsts → ended_nodes (depth - 1) (drop (depth - 1) firsts) end ≡ ended_nodes depth (drop depth firsts) end ++ node_at (depth - 1) (get_or firsts (depth - 1) 0) end ∷ []
ended_more firsts depth end positive within =
    let same : (depth - 1) + 1 ≡ depth = omega arith in
    ended_next firsts (depth - 1) end (omega arith) ∙ ap (λ (d : ℕ). ended_nodes d (drop d firsts) end ++ node_at (depth - 1) (get_or firsts (depth - 1) 0) end ∷ []) same

ended_each : (P : Node → Type 0) (depth : ℕ) (firsts : List ℕ) (end : ℕ) → ((k : ℕ) → k < length firsts → P (node_at (depth + k) (get_or firsts k 0) end)) → All P (ended_nodes depth firsts end)
ended_each P depth [] end each = All-nil P
ended_each P depth (first ∷ firsts) end each =
    let here : depth + 0 ≡ depth = omega arith in
    let Here : ℕ → Type 0 = λ d. P (node_at d first end) in
    let Later : ℕ → ℕ → Type 0 = λ k d. P (node_at d (get_or firsts k 0) end) in
    All-push P (ended_nodes (depth + 1) firsts end) (node_at depth first end)
    (ended_each P (depth + 1) firsts end (λ k within. let moved : depth + suc k ≡ (depth + 1) + k = omega arith in subst (Later k) moved (each (suc k) (omega arith))))
    (subst Here here (each 0 (omega arith)))

ended_contains : (depth : ℕ) (firsts : List ℕ) (end k : ℕ) (node : Node) → k < length firsts → node.depth ≡ depth + k → node.first ≡ get_or firsts k 0 → node.end ≡ end → Contains (ended_nodes depth firsts end) node
ended_contains depth [] end k node within deep first last = absurd (omega (arith, within))
ended_contains depth (f ∷ firsts) end zero node within deep first last =
    let deep_is : node.depth ≡ depth = omega arith in
    let is : node_at depth f end ≡ node = λ i. record { depth = sym deep_is i; first = sym first i; end = sym last i } in
    subst (Contains (ended_nodes depth (f ∷ firsts) end)) is (Contains-push (ended_nodes (depth + 1) firsts end) (node_at depth f end))
ended_contains depth (f ∷ firsts) end (suc k) node within deep first last =
    Contains-append_left (ended_nodes (depth + 1) firsts end) (node_at depth f end ∷ []) node (ended_contains (depth + 1) firsts end k node (omega arith) (omega arith) first last)

ended_pairs : (nodes : List Node) (depth : ℕ) (firsts : List ℕ) (end : ℕ) → AllPairs Precedes nodes → All (λ (node : Node). node.end < end) nodes → AllPairs Precedes (nodes ++ ended_nodes depth firsts end)
ended_pairs nodes depth [] end pairs before = subst (AllPairs Precedes) (sym (append-nil nodes)) pairs
ended_pairs nodes depth (f ∷ firsts) end pairs before =
    let last = node_at depth f end in
    let earlier : All (λ (node : Node). Precedes node last) nodes = All-weaker (λ (node : Node). node.end < end) (λ (node : Node). Precedes node last) (λ node is. inl is) nodes before in
    let inner : All (λ (node : Node). Precedes node last) (ended_nodes (depth + 1) firsts end) = ended_each (λ (node : Node). Precedes node last) (depth + 1) firsts end (λ k within. inr (refl, omega arith)) in
    let all = All-append (λ (node : Node). Precedes node last) nodes (ended_nodes (depth + 1) firsts end) earlier inner in
    subst (AllPairs Precedes) (append_assoc nodes (ended_nodes (depth + 1) firsts end) (last ∷ []))
    (all_pairs_push Precedes (nodes ++ ended_nodes (depth + 1) firsts end) last (ended_pairs nodes (depth + 1) firsts end pairs before) all)

below_of : (a b : ℕ) → a < b + 1 → (a ≡ b → ⊥) → a < b
below_of a b most apart = elim (cases_lt a b) [
  | inl below ↦ below
  | inr above ↦ absurd (apart (omega arith))
]

module _ (stacks : List (List ℕ)) (count : ℕ) (last firsts : List ℕ) (nodes : List Node) (is : Grows stacks count last firsts nodes) (fits : count ≤ length stacks) where
  -- An open node ends, since no later stack starts with its names.
  ended_node : (depth : ℕ) → depth < length firsts → ((index : ℕ) → count ≤ index → index < length stacks → take (depth + 1) (names_at stacks index) ≡ take (depth + 1) last → ⊥) → IsNode stacks (node_at depth (get_or firsts depth 0) count)
  ended_node depth within later =
      let begun = is.begun depth within in
      let path : take (depth + 1) (names_at stacks (get_or firsts depth 0)) ≡ take (depth + 1) last = is.opened depth (get_or firsts depth 0) within begun (omega arith) in
      record {
        begins = begun;
        ends = fits;
        has_name = omega (arith, ap length path, length-take (depth + 1) last, length-take (depth + 1) (names_at stacks (get_or firsts depth 0)), is.length_is);
        inside = λ index from until. is.opened depth index within until from ∙ sym path;
        outside = λ index below same. elim (cases_lt index count) [
          | inr past ↦ absurd (later index past below (same ∙ path))
          | inl until ↦ (is.only depth index within until (same ∙ path), until)
        ];
      }

-- A list that is cut, and filled up with a number.
pub resized : (firsts cut more : List ℕ) (shared count cut_count index : ℕ) → cut ≡ take shared firsts → cut_count ≡ length cut → shared ≤ length firsts → shared ≤ count → more ≡ take count cut ++ replicate (count - cut_count) index
    → (length more ≡ count) × ((k : ℕ) → k < shared → get_or more k 0 ≡ get_or firsts k 0) × ((k : ℕ) → shared ≤ k → k < count → get_or more k 0 ≡ index)
resized firsts cut more shared count cut_count index cut_is count_is within fits is =
    let cut_length : length cut ≡ shared = ap length cut_is ∙ length-take-le shared firsts within in
    let front : take count cut ≡ cut = take_all count cut (omega (arith, cut_length)) in
    let parts : more ≡ cut ++ replicate (count - cut_count) index = is ∙ ap (λ (l : List ℕ). l ++ replicate (count - cut_count) index) front in (
      ap length parts ∙ length-append cut (replicate (count - cut_count) index) ∙ omega (arith, length-replicate (count - cut_count) index, cut_length),
      (λ k inside. ap (λ (l : List ℕ). get_or l k 0) parts ∙ get_or_append_left cut (replicate (count - cut_count) index) 0 k (omega (arith, cut_length)) ∙ ap (λ (l : List ℕ). get_or l k 0) cut_is ∙ get_or-take shared firsts k 0 inside),
      (λ k past inside. ap (λ (l : List ℕ). get_or l k 0) parts ∙ get_or-append_right cut (replicate (count - cut_count) index) shared k 0 cut_length past ∙ get_or-replicate (count - cut_count) (k - shared) index 0 (omega (arith, cut_length))),
    )

-- The nodes after those from a depth on ended.
module _ (stacks : List (List ℕ)) (count : ℕ) (last firsts : List ℕ) (nodes : List Node) (is : Grows stacks count last firsts nodes) (fits : count ≤ length stacks) (from : ℕ) (within : from ≤ length firsts) (later : (depth : ℕ) → from ≤ depth → depth < length firsts → (index : ℕ) → count ≤ index → index < length stacks → take (depth + 1) (names_at stacks index) ≡ take (depth + 1) last → ⊥) where
  abbrev after : List Node
  after = nodes ++ ended_nodes from (drop from firsts) count

  dropped : (k : ℕ) → k < length (drop from firsts) → (from + k < length firsts) × (get_or (drop from firsts) k 0 ≡ get_or firsts (from + k) 0)
  dropped k below = (omega (arith, length-drop from firsts), get_or-drop from firsts k 0)

  pub after_each : All (IsNode stacks) after
  after_each = All-append (IsNode stacks) nodes (ended_nodes from (drop from firsts) count) is.each
      (ended_each (IsNode stacks) from (drop from firsts) count (λ k below.
      let parts = dropped k below in
      let Here : ℕ → Type 0 = λ f. IsNode stacks (node_at (from + k) f count) in
      subst Here (sym parts.1) (ended_node stacks count last firsts nodes is fits (from + k) parts.0 (later (from + k) (omega arith) parts.0))))

  pub after_ordered : AllPairs Precedes after
  after_ordered = ended_pairs nodes from (drop from firsts) count is.ordered is.before

  pub after_before : All (λ (node : Node). node.end < count + 1) after
  after_before = All-append (λ (node : Node). node.end < count + 1) nodes (ended_nodes from (drop from firsts) count)
      (All-weaker (λ (node : Node). node.end < count) (λ (node : Node). node.end < count + 1) (λ node below. omega (arith, below)) nodes is.before)
      (ended_each (λ (node : Node). node.end < count + 1) from (drop from firsts) count (λ k below. omega arith))

  -- A node that was there, or that ended.
  pub after_all : (index depth : ℕ) → index < count → depth < length (names_at stacks index)
      → ((node : Node) × Contains after node × Holds node index depth) ⊎ ((depth < from) × (depth < length firsts) × (get_or firsts depth 0 ≤ index))
  after_all index depth below deep = elim (is.all index depth below deep) [
    | inl old ↦ inl (old.0, Contains-append_left nodes (ended_nodes from (drop from firsts) count) old.0 old.1, old.2)
    | inr other ↦ elim (cases_lt depth from) [
      | inl earlier ↦ inr (earlier, other.0, other.1)
      | inr ends ↦
          let k = depth - from in
          let moved : from + k ≡ depth = omega arith in
          let inside : k < length (drop from firsts) = omega (arith, length-drop from firsts) in
          let first : get_or firsts depth 0 ≡ get_or (drop from firsts) k 0 = ap (λ (n : ℕ). get_or firsts n 0) (sym moved) ∙ sym (get_or-drop from firsts k 0) in
          let node = node_at depth (get_or firsts depth 0) count in
          inl (node, Contains-append_right nodes (ended_nodes from (drop from firsts) count) node (ended_contains from (drop from firsts) count k node inside (sym moved) first refl), record { depth_is = refl; from = other.1; until = below })
    ]
  ]

-- The tree after the last stack.
pub grown : (stacks : List (List ℕ)) (last firsts : List ℕ) (nodes new : List Node) → Grows stacks (length stacks) last firsts nodes → new ≡ nodes ++ ended_nodes 0 (drop 0 firsts) (length stacks) → IsTree stacks new
grown stacks last firsts nodes new is new_is =
    let none = λ (depth : ℕ) (from : 0 ≤ depth) (within : depth < length firsts) (index : ℕ) (past : length stacks ≤ index) (below : index < length stacks) (same : take (depth + 1) (names_at stacks index) ≡ take (depth + 1) last). absurd {A = ⊥} (omega (arith, past, below)) in
    subst (IsTree stacks) (sym new_is) (record {
      each = after_each stacks (length stacks) last firsts nodes is (omega arith) 0 (omega arith) none;
      all = λ index depth below deep. elim (after_all stacks (length stacks) last firsts nodes is (omega arith) 0 (omega arith) none index depth below deep) [
        | inl there ↦ there
        | inr other ↦ absurd (omega (arith, other.0))
      ];
      ordered = after_ordered stacks (length stacks) last firsts nodes is (omega arith) 0 (omega arith) none;
    })

-- The tree after one more stack.
module _ (stacks : List (List ℕ)) (ascend : Ascend stacks) (count : ℕ) (last firsts : List ℕ) (nodes : List Node) (is : Grows stacks count last firsts nodes) (below : count < length stacks) (shared : ℕ) (share : IsShared last (names_at stacks count) shared) where
  -- The names of nodes that end aren't those with which later stacks start.
  apart : (depth : ℕ) → shared ≤ depth → depth < length firsts → (index : ℕ) → count ≤ index → index < length stacks → take (depth + 1) (names_at stacks index) ≡ take (depth + 1) last → ⊥
  apart depth from within index past inside same =
      let begun = is.begun depth within in
      let last_is : last ≡ names_at stacks (count - 1) = is.last_is (omega (arith, begun)) in
      let lower : IsAtMost last (names_at stacks count) = subst (λ (l : List ℕ). IsAtMost l (names_at stacks count)) (sym last_is) (ascend (count - 1) count (omega arith) below) in
      let here = between (depth + 1) last (names_at stacks count) (names_at stacks index) lower (ascend count index past inside) (sym same) in
      let count_is : depth + 1 ≤ length last = omega (arith, is.length_is) in
      let long : depth + 1 ≤ length (names_at stacks count) = omega (arith, ap length here, length-take (depth + 1) last, length-take (depth + 1) (names_at stacks count)) in
      let most = same_shared last (names_at stacks count) shared share (depth + 1) count_is long (sym here) in
      omega (arith, most)

  module _ (more : List ℕ) (length_is : length more ≡ length (names_at stacks count)) (kept : (k : ℕ) → k < shared → get_or more k 0 ≡ get_or firsts k 0) (new : (k : ℕ) → shared ≤ k → k < length (names_at stacks count) → get_or more k 0 ≡ count) where
    within_firsts : shared ≤ length firsts
    within_firsts = omega (arith, share.within.0, is.length_is)

    abbrev next : List Node
    next = nodes ++ ended_nodes shared (drop shared firsts) count

    same_path : (depth : ℕ) → depth < shared → take (depth + 1) last ≡ take (depth + 1) (names_at stacks count)
    same_path depth inside = shared_same last (names_at stacks count) shared share (depth + 1) (omega arith)

    next_opened : (depth index : ℕ) → depth < length more → index < count + 1 → get_or more depth 0 ≤ index → take (depth + 1) (names_at stacks index) ≡ take (depth + 1) (names_at stacks count)
    next_opened depth index within inside from = elim (cases_eq index count) [
      | inl here ↦ ap (λ (n : ℕ). take (depth + 1) (names_at stacks n)) here
      | inr earlier ↦
          let until : index < count = below_of index count inside earlier in
          elim (cases_lt depth shared) [
            | inr past ↦ absurd (omega (arith, new depth past (omega (arith, length_is))))
            | inl old ↦ is.opened depth index (omega (arith, within_firsts)) until (omega (arith, kept depth old)) ∙ same_path depth old
          ]
    ]

    next_only : (depth index : ℕ) → depth < length more → index < count + 1 → take (depth + 1) (names_at stacks index) ≡ take (depth + 1) (names_at stacks count) → get_or more depth 0 ≤ index
    next_only depth index within inside same = elim (cases_lt depth shared) [
      | inl old ↦ elim (cases_eq index count) [
        | inl here ↦ omega (arith, is.begun depth (omega (arith, within_firsts)), kept depth old)
        | inr earlier ↦ omega (arith, is.only depth index (omega (arith, within_firsts)) (below_of index count inside earlier) (same ∙ sym (same_path depth old)), kept depth old)
      ]
      | inr past ↦ elim (cases_eq index count) [
        | inl here ↦ omega (arith, new depth past (omega (arith, length_is)))
        | inr earlier ↦
            -- What an earlier stack starts with and this one too, the last one starts with.
            let until : index < count = below_of index count inside earlier in
            let last_is : last ≡ names_at stacks (count - 1) = is.last_is (omega arith) in
            let lower : IsAtMost (names_at stacks index) last = subst (IsAtMost (names_at stacks index)) (sym last_is) (ascend index (count - 1) (omega arith) (omega (arith, below))) in
            let upper : IsAtMost last (names_at stacks count) = subst (λ (l : List ℕ). IsAtMost l (names_at stacks count)) (sym last_is) (ascend (count - 1) count (omega arith) below) in
            let both : take (depth + 1) last ≡ take (depth + 1) (names_at stacks count) = between (depth + 1) (names_at stacks index) last (names_at stacks count) lower upper same ∙ same in
            let long : depth + 1 ≤ length (names_at stacks count) = omega (arith, length_is) in
            let also : depth + 1 ≤ length last = omega (arith, ap length both, length-take (depth + 1) last, length-take (depth + 1) (names_at stacks count)) in
            let most = same_shared last (names_at stacks count) shared share (depth + 1) also long both in
            absurd (omega (arith, most))
      ]
    ]

    next_all : (index depth : ℕ) → index < count + 1 → depth < length (names_at stacks index)
        → ((node : Node) × Contains next node × Holds node index depth) ⊎ ((depth < length more) × (get_or more depth 0 ≤ index))
    next_all index depth inside deep = elim (cases_eq index count) [
      | inl here ↦
          let long : depth < length (names_at stacks count) = subst (λ (n : ℕ). depth < length (names_at stacks n)) here deep in
          elim (cases_lt depth shared) [
            | inl old ↦ inr (omega (arith, length_is), omega (arith, is.begun depth (omega (arith, within_firsts)), kept depth old))
            | inr past ↦ inr (omega (arith, length_is), omega (arith, new depth past long))
          ]
      | inr earlier ↦ elim (after_all stacks count last firsts nodes is (omega (arith, below)) shared within_firsts apart index depth (below_of index count inside earlier) deep) [
        | inl there ↦ inl there
        | inr other ↦ inr (omega (arith, length_is, share.within.1), omega (arith, kept depth other.0, other.2))
      ]
    ]

    pub grows_more : Grows stacks (count + 1) (names_at stacks count) more next
    grows_more = record {
      none = λ zero_is. absurd (omega (arith, zero_is));
      last_is = λ positive. let same : (count + 1) - 1 ≡ count = omega arith in ap (names_at stacks) (sym same);
      length_is = length_is;
      begun = λ depth within. elim (cases_lt depth shared) [
        | inl old ↦ omega (arith, is.begun depth (omega (arith, within_firsts)), kept depth old)
        | inr past ↦ omega (arith, new depth past (omega (arith, length_is)))
      ];
      opened = next_opened;
      only = next_only;
      each = after_each stacks count last firsts nodes is (omega (arith, below)) shared within_firsts apart;
      all = next_all;
      ordered = after_ordered stacks count last firsts nodes is (omega (arith, below)) shared within_firsts apart;
      before = after_before stacks count last firsts nodes is (omega (arith, below)) shared within_firsts apart;
    }
