-- Samples in the views of their profile.
use Rattle.std.proofs.Common.{◌≡◌, ◌∙◌, ◌+◌, ◌*◌, ◌==◌, ◌||◌, ℕ, suc, Bool, true, false, cond, not, List, [], ◌∷◌, ap, arith, count_by, filter, get_or, refl, Some, slice_get, subst, sym, take}
use Rattle.std.proofs.Math.Nat.{mul-one, mul-zero}
use Rattle.std.proofs.lemmas.List.Filters.{sum_by-filter_both}
use Rattle.std.proofs.lemmas.List.Folds.{list_any_at}
use Rattle.std.proofs.lemmas.List.Sums.{sum_by-cons}
use Rattle.std.proofs.lemmas.Option.{get_or_from_slice_get, slice_get_within}
use Rattle.std.specs.List.{list_any, sum_by}
use Rattle.perfdata_profile.proofs.Valuing.{sum_by_map}
use Rattle.perfdata_profile.specs.Building.{IsProfileOf}
use Rattle.perfdata_profile.specs.Profiles.{lists_of}
use Rattle.perfdata_profile.specs.Resolving.{Meaning}
use Rattle.perfdata_profile.specs.Samples.{Given}
use Rattle.perfdata_profile.specs.Values.{Lists, SampleValue, name_at}
use Rattle.perfdata_profile.specs.declared.options.ProfileOptions.{ProfileOptions}
use Rattle.perfdata_profile.specs.declared.profile.Profile.{Profile}
use Rattle.perfdata_views.specs.Boxes.{width_of}
use Rattle.perfdata_views.specs.Counts.{is_line}
use Rattle.perfdata_views.specs.CountedSamples.{AreViewsOf, CountsOnce, InBoxes, InLines, InTable, InTree, Views, ViewsCountOnce, any_name, has_frames, has_function, has_leaf, is_in_node, sample_weight, samples_where}
use Rattle.perfdata_views.specs.Entries.{Entry, entries_in, stack_names, weight_of, weight_where}
use Rattle.perfdata_views.specs.FlameBoxes.{AreDrawn, box_of, boxes_of, is_narrow, outermost_box_width}
use Rattle.perfdata_views.specs.FunctionTables.{IsTableOf, is_leaf, occurs}
use Rattle.perfdata_views.specs.Lines.{line_of}
use Rattle.perfdata_views.specs.declared.flame.boxes.FlameBox.{FlameBox}
use Rattle.perfdata_views.specs.declared.table.FunctionRow.{FunctionRow}
use Rattle.perfdata_views.specs.declared.tree.Node.{Node}
use Rattle.perfdata_views.proofs.Counting.{is_line_symm}
use Rattle.perfdata_views.proofs.LineSums.{is_own_line}
use Rattle.perfdata_views.proofs.PprofCounting.{samples_recounted}
use Rattle.perfdata_views.proofs.Regrouping.{entries_regroup}

-- A sum over pairs, by their first and by their second parts.
module _ {A B : Type 0} (test : A → B → Bool) (weight : B → ℕ) where
  abbrev row_sum : List B → A → ℕ
  row_sum ys x = sum_by (λ (y : B). cond (test x y) (weight y) 0) ys

  abbrev column_sum : List A → B → ℕ
  column_sum xs y = weight y * count_by (λ (x : A). test x y) xs

  no_rows : (ys : List B) → sum_by (column_sum []) ys ≡ 0
  no_rows [] = refl
  no_rows (y ∷ ys) =
      let rest = no_rows ys in
      let here : column_sum [] y ≡ 0 = mul-zero (weight y) in
      let whole = sum_by-cons (column_sum []) y ys in
      omega (arith, rest, here, whole)

  row_more : (x : A) (xs : List A) (ys : List B) → sum_by (column_sum (x ∷ xs)) ys ≡ row_sum ys x + sum_by (column_sum xs) ys
  row_more x xs [] = refl
  row_more x xs (y ∷ ys) =
      let rest = row_more x xs ys in
      let left = sum_by-cons (column_sum (x ∷ xs)) y ys in
      let right = sum_by-cons (column_sum xs) y ys in
      let row = sum_by-cons (λ (z : B). cond (test x z) (weight z) 0) y ys in
      let count = sum_by-cons (λ (z : A). cond (test z y) 1 0) x xs in
      by (test x y) (count_by (λ (z : A). test z y) xs) (count_by (λ (z : A). test z y) (x ∷ xs)) count rest left right row
    where
      by : (is : Bool) (n m : ℕ) → m ≡ cond is 1 0 + n → sum_by (column_sum (x ∷ xs)) ys ≡ row_sum ys x + sum_by (column_sum xs) ys
          → sum_by (column_sum (x ∷ xs)) (y ∷ ys) ≡ weight y * m + sum_by (column_sum (x ∷ xs)) ys
          → sum_by (column_sum xs) (y ∷ ys) ≡ weight y * n + sum_by (column_sum xs) ys
          → row_sum (y ∷ ys) x ≡ cond is (weight y) 0 + row_sum ys x
          → sum_by (column_sum (x ∷ xs)) (y ∷ ys) ≡ row_sum (y ∷ ys) x + sum_by (column_sum xs) (y ∷ ys)
      by true n m count rest left right row =
          let more : weight y * m ≡ weight y * (1 + n) = ap (λ (k : ℕ). weight y * k) count in
          omega (arith, more, rest, left, right, row)
      by false n m count rest left right row =
          let same : weight y * m ≡ weight y * (0 + n) = ap (λ (k : ℕ). weight y * k) count in
          omega (arith, same, rest, left, right, row)

  pub sum_swap : (xs : List A) (ys : List B) → sum_by (row_sum ys) xs ≡ sum_by (column_sum xs) ys
  sum_swap [] ys = sym (no_rows ys)
  sum_swap (x ∷ xs) ys = sum_by-cons (row_sum ys) x xs ∙ ap (λ (n : ℕ). row_sum ys x + n) (sum_swap xs ys) ∙ sym (row_more x xs ys)

sum_same : {A : Type 0} → (f g : A → ℕ) (xs : List A) → ((k : ℕ) (x : A) → slice_get xs k ≡ Some x → f x ≡ g x) → sum_by f xs ≡ sum_by g xs
sum_same f g [] same = refl
sum_same f g (x ∷ xs) same =
    let rest = sum_same f g xs (λ k y at. same (suc k) y at) in
    let here = same 0 x refl in
    let left = sum_by-cons f x xs in
    let right = sum_by-cons g x xs in
    omega (arith, rest, here, left, right)

any_at : {A : Type 0} → (test : A → Bool) (xs : List A) (k : ℕ) (x : A) → slice_get xs k ≡ Some x → test x ≡ true → list_any test xs ≡ true
any_at test xs k x at is = list_any_at test xs k x (slice_get_within xs k x at) (ap test (get_or_from_slice_get xs k x x at) ∙ is)

twice : (b : Bool) → b ≡ not (not b)
twice true = refl
twice false = refl

or_false : (b : Bool) → (b || false) ≡ b
or_false true = refl
or_false false = refl

-- The own weights of a table are those of the entries with frames.
module _ (lists : Lists) (entries : List Entry) (rows : List FunctionRow) (table : IsTableOf lists entries rows) where
  abbrev is_leaf_of : FunctionRow → Entry → Bool
  is_leaf_of row entry = is_leaf (name_at lists row.name) entry

  -- An entry with frames has its leaf in one row, and one without in none.
  leaves : (k : ℕ) (entry : Entry) → slice_get entries k ≡ Some entry
      → weight_of entry * count_by (λ (row : FunctionRow). is_leaf_of row entry) rows ≡ cond (has_frames entry.0) (weight_of entry) 0
  leaves k entry at = by (stack_names entry.0.stack) refl
    where
      none : (names : List (List ℕ)) → names ≡ [] → (rs : List FunctionRow) → count_by (λ (row : FunctionRow). list_any (is_line (name_at lists row.name)) (take 1 names)) rs ≡ 0
      none names is rs = ap (λ (ns : List (List ℕ)). count_by (λ (row : FunctionRow). list_any (is_line (name_at lists row.name)) (take 1 ns)) rs) is ∙ zeros rs
        where
          zeros : (rs : List FunctionRow) → count_by (λ (row : FunctionRow). false) rs ≡ 0
          zeros [] = refl
          zeros (r ∷ rs) =
              let rest = zeros rs in
              let whole = sum_by-cons (λ (row : FunctionRow). cond false 1 0) r rs in
              omega (arith, rest, whole)

      one : (name : List ℕ) (names : List (List ℕ)) → stack_names entry.0.stack ≡ name ∷ names → count_by (λ (row : FunctionRow). is_leaf_of row entry) rows ≡ 1
      one name names is =
          let found : occurs name entry ≡ true = ap (list_any (is_line name)) is ∙ ap (λ (b : Bool). b || list_any (is_line name) names) (is_own_line name) in
          let once = table.once name (any_at (occurs name) entries k entry at found) in
          sum_same (λ (row : FunctionRow). cond (is_leaf_of row entry) 1 0) (λ (row : FunctionRow). cond (is_line name (name_at lists row.name)) 1 0) rows (λ j row there.
          ap (λ (b : Bool). cond b 1 0) (ap (λ (ns : List (List ℕ)). list_any (is_line (name_at lists row.name)) (take 1 ns)) is
          ∙ or_false (is_line (name_at lists row.name) name) ∙ is_line_symm (name_at lists row.name) name)) ∙ once

      by : (names : List (List ℕ)) → stack_names entry.0.stack ≡ names → weight_of entry * count_by (λ (row : FunctionRow). is_leaf_of row entry) rows ≡ cond (has_frames entry.0) (weight_of entry) 0
      by [] is =
          let count = none (stack_names entry.0.stack) is rows in
          let frames : has_frames entry.0 ≡ false = ap any_name is in
          ap (λ (n : ℕ). weight_of entry * n) count ∙ mul-zero (weight_of entry) ∙ ap (λ (b : Bool). cond b (weight_of entry) 0) (sym frames)
      by (name ∷ names) is =
          let count = one name names is in
          let frames : has_frames entry.0 ≡ true = ap any_name is in
          ap (λ (n : ℕ). weight_of entry * n) count ∙ mul-one (weight_of entry) ∙ ap (λ (b : Bool). cond b (weight_of entry) 0) (sym frames)

  own_sum : sum_by (λ (row : FunctionRow). row.own) rows ≡ weight_where (λ (entry : Entry). has_frames entry.0) entries
  own_sum =
      sum_same (λ (row : FunctionRow). row.own) (λ (row : FunctionRow). row_sum is_leaf_of weight_of entries row) rows (λ k row at.
      subst (λ (r : FunctionRow). r.own ≡ row_sum is_leaf_of weight_of entries r) (get_or_from_slice_get rows k row row at) (table.each k row (slice_get_within rows k row at)).own)
      ∙ sum_swap is_leaf_of weight_of rows entries
      ∙ sum_same (column_sum is_leaf_of weight_of rows) (λ (entry : Entry). cond (has_frames entry.0) (weight_of entry) 0) entries leaves

module _ (meaning : Meaning) (options : ProfileOptions) (given : List Given) (profile : Profile) (views : Views) (is : IsProfileOf meaning options given profile) (are : AreViewsOf profile views) where
  -- Sums over entries are those over samples.
  regroup : (test : SampleValue → Bool) → weight_where (λ (entry : Entry). test entry.0) (entries_in profile) ≡ samples_where test is.counted
  regroup test = entries_regroup test is.counted (entries_in profile) is.sums

  in_lines : InLines is.counted views.lines
  in_lines = record {
    each = λ index line number at. are.lines.each index line number at ∙ regroup (λ key. is_line line.items (line_of key));
    all = λ index one at.
        let there = is.sums.all index one at in
        are.lines.all there.0 (one.key, there.1) there.2;
    sum = are.lines.sum ∙ is.sums.sum_of_weights;
  }

  in_table : InTable is.counted (lists_of profile.tables) views.rows
  in_table = record {
    own = λ k d below. (are.rows.each k d below).own ∙ regroup (has_leaf (name_at (lists_of profile.tables) (get_or views.rows k d).name));
    total = λ k d below. (are.rows.each k d below).total ∙ regroup (has_function (name_at (lists_of profile.tables) (get_or views.rows k d).name));
    once = λ index one name at found.
        let there = is.sums.all index one at in
        are.rows.once name (any_at (occurs name) (entries_in profile) there.0 (one.key, there.1) there.2 found);
    sum = own_sum (lists_of profile.tables) (entries_in profile) views.rows are.rows ∙ regroup has_frames;
  }

  in_tree : InTree is.counted views.tree
  in_tree = record {
    weights = λ k d below.
        let node = get_or views.tree.tree.nodes.items k d in
        ap (λ (n : ℕ). get_or views.tree.tree.positions.items node.first 0 + n) (sym (regroup (is_in_node views.tree node))) ∙ are.tree.weights k d below;
    all = λ index depth one at deep.
        let there = is.sums.all index one at in
        are.tree.all there.0 depth (one.key, there.1) there.2 deep;
    sum = are.tree.sum ∙ is.sums.sum_of_weights;
    outermost = are.tree.outermost ∙ is.sums.sum_of_weights;
  }

  in_boxes : InBoxes is.counted views.tree views.drawn
  in_boxes =
      let total = in_tree.sum in
      let drawn : AreDrawn (sum_by sample_weight is.counted) (boxes_of views.tree) views.drawn = subst (λ (n : ℕ). AreDrawn n (boxes_of views.tree) views.drawn) total are.drawn in
      let narrow : FlameBox → Bool = is_narrow (sum_by sample_weight is.counted) in
      record {
        widths = λ k d below. let sum = in_tree.weights k d below in omega (arith, sum);
        are = drawn;
        sum = ap (λ (boxes : List FlameBox). sum_by outermost_box_width boxes + sum_by outermost_box_width (filter narrow (boxes_of views.tree))) drawn.boxes_are
            ∙ sum_by-filter_both (λ (b : FlameBox). not (narrow b)) narrow (λ b. twice (narrow b)) outermost_box_width (boxes_of views.tree)
            ∙ sum_by_map (box_of views.tree.order.items views.tree.tree.stacks.items views.tree.tree.positions.items) (λ (node : Node). cond (node.depth == 0) (width_of views.tree.tree.positions.items node) 0) outermost_box_width views.tree.tree.nodes.items (λ node. refl) ∙ in_tree.outermost;
      }

  counts_once : CountsOnce meaning options given profile views
  counts_once = record {
    counted = is.counted;
    are = is.are;
    number = is.number;
    lines = in_lines;
    table = in_table;
    tree = in_tree;
    boxes = in_boxes;
    pprof = samples_recounted is.counted (entries_in profile) is.sums views.columns views.pprof are.pprof;
  }

pub views_count_once : (meaning : Meaning) (options : ProfileOptions) → ViewsCountOnce meaning options
views_count_once meaning options = λ given profile views is are. counts_once meaning options given profile views is are
