-- The columns of two profiles.
use Rattle.std.proofs.Common.{◌≡◌, ◌∙◌, ◌⊎◌, ap, refl, sym, subst, arith, inl, inr, ℕ, zero, suc, Bool, true, false, cond, List, [], ◌∷◌, ◌++◌, filter, map, Some, slice_get, Vec, Global}
use Rattle.std.proofs.lemmas.List.{map-append}
use Rattle.std.proofs.lemmas.List.Elements.{filter-append}
use Rattle.std.proofs.lemmas.List.Folds.{flat_map-map}
use Rattle.std.proofs.lemmas.List.Sums.{sum_by-append, sum_by-cons}
use Rattle.std.specs.List.{flat_map, sum_by}
use Rattle.std.specs.Map.{keys_of}
use Rattle.perfdata_profile.proofs.Elements.{some_same}
use Rattle.perfdata_profile.proofs.Searching.{at_map, map_at}
use Rattle.perfdata_views.specs.Counts.{Added, Counts, IsAscending, ListsLines, counted_lines, is_line, sum_of, weights_of}
use Rattle.perfdata_views.specs.Differences.{HasLine, IsTextOfColumns, line_text, number_in}
use Rattle.perfdata_views.specs.Entries.{Entry}
use Rattle.perfdata_views.specs.Lines.{line_of}
use Rattle.perfdata_views.specs.declared.counts.LineCounts.{LineCounts}
use Rattle.perfdata_views.specs.steps.Differences.{columns_of, key_of}
use Rattle.perfdata_views.specs.steps.Lines.{added_of}
use Rattle.perfdata_views.proofs.LineSums.{count_is, entry_of, is_own_line, own_sum, same_line, some_first, sum_is, weights_sum}

-- Texts of items that are the same item by item.
texts_same : {A : Type 0} → (f g : A → List ℕ) (items : List A) → ((index : ℕ) (item : A) → slice_get items index ≡ Some item → f item ≡ g item) → flat_map f items ≡ flat_map g items
texts_same f g [] each = refl
texts_same f g (item ∷ items) each =
    let rest = texts_same f g items (λ index other at. each (suc index) other at) in
    ap (λ t. t ++ flat_map f items) (each zero item refl) ∙ ap (λ t. g item ++ t) rest

-- The weights of a line among more that are added.
weights_append : (line : List ℕ) (first second : List Added) → weights_of line (first ++ second) ≡ weights_of line first ++ weights_of line second
weights_append line first second =
    ap (map (λ (a : Added). a.weight)) (filter-append (λ (a : Added). is_line line a.line) first second)
    ∙ map-append (λ (a : Added). a.weight) (filter (λ (a : Added). is_line line a.line) first) (filter (λ (a : Added). is_line line a.line) second)

left_sum : (first second : List ℕ) (sum : ℕ) → sum_of first ≡ Some sum → ((all : ℕ) × (sum_of (first ++ second) ≡ Some all))
left_sum [] second sum is = cc
left_sum (w ∷ ws) second sum is = (sum_by (λ n. n) (w ∷ (ws ++ second)), refl)

right_sum : (first second : List ℕ) (sum : ℕ) → sum_of second ≡ Some sum → ((all : ℕ) × (sum_of (first ++ second) ≡ Some all))
right_sum [] second sum is = (sum, is)
right_sum (w ∷ ws) second sum is = (sum_by (λ n. n) (w ∷ (ws ++ second)), refl)

either_sum : (first second : List ℕ) (sum : ℕ) → sum_of (first ++ second) ≡ Some sum → ((one : ℕ) × (sum_of first ≡ Some one)) ⊎ ((one : ℕ) × (sum_of second ≡ Some one))
either_sum [] second sum is = inr (sum, is)
either_sum (w ∷ ws) second sum is = inl (sum_by (λ n. n) (w ∷ ws), refl)

-- Lines without their counts.
abbrev Line : Type 0
Line = Vec ℕ Global × ℕ

abbrev weight_added : Added → ℕ
weight_added added = added.weight

abbrev keys_with : List ℕ → List Line → List Added
keys_with line lines = filter (λ (a : Added). is_line line a.line) (map key_of lines)

with_key : (b : Bool) (key : Added) (rest : List Added) → key.weight ≡ 0 → sum_by (λ w. w) (map weight_added rest) ≡ 0 → sum_by (λ w. w) (map weight_added (cond b (key ∷ rest) rest)) ≡ 0
with_key true key rest none is = sum_by-cons (λ w. w) key.weight (map weight_added rest) ∙ omega (arith, none, is)
with_key false key rest none is = is

no_weights : (line : List ℕ) (lines : List Line) → sum_by (λ w. w) (weights_of line (map key_of lines)) ≡ 0
no_weights line [] = refl
no_weights line (l ∷ ls) = with_key (is_line line l.0.items) (key_of l) (keys_with line ls) refl (no_weights line ls)

key_sum : (lines : List Line) (index : ℕ) (line : Line) → slice_get lines index ≡ Some line → ((sum : ℕ) × (sum_of (weights_of line.0.items (map key_of lines)) ≡ Some sum))
key_sum [] index line at = cc
key_sum (l ∷ ls) zero line at =
    let own : is_line line.0.items l.0.items ≡ true = ap (λ (o : Line). is_line line.0.items o.0.items) (some_same l line at) ∙ is_own_line line.0.items in
    let rest = keys_with line.0.items ls in
    (sum_by (λ n. n) (map weight_added (key_of l ∷ rest)), ap (λ (b : Bool). sum_of (map weight_added (cond b (key_of l ∷ rest) rest))) own)
key_sum (l ∷ ls) (suc index) line at =
    let later = key_sum ls index line at in
    some_first (is_line line.0.items l.0.items) (key_of l) (keys_with line.0.items ls) later.0 later.1

abbrev Found : List ℕ → List Line → Type 0
Found line lines = (at : ℕ) × (own : Line) × (slice_get lines at ≡ Some own) × (line ≡ own.0.items)

key_found : (line : List ℕ) (lines : List Line) (sum : ℕ) → sum_of (weights_of line (map key_of lines)) ≡ Some sum → Found line lines
key_found line [] sum is = cc
key_found line (l ∷ ls) sum is = by (is_line line l.0.items) refl is (key_found line ls sum)
  where
    by : (b : Bool) → is_line line l.0.items ≡ b → sum_of (map weight_added (cond b (key_of l ∷ keys_with line ls) (keys_with line ls))) ≡ Some sum
        → (sum_of (weights_of line (map key_of ls)) ≡ Some sum → Found line ls) → Found line (l ∷ ls)
    by true own found rest = (0, l, refl, same_line line l.0.items own)
    by false other found rest =
        let later = rest found in
        (suc later.0, later.1, later.2, later.3)

module _ (old new : List Entry) (written : ℕ → ℕ) (olds both : LineCounts) (counts : Counts (map added_of old) olds) (lists_old : ListsLines (map added_of old) (counted_lines olds)) (lists : ListsLines (map added_of new ++ map key_of (counted_lines olds)) (counted_lines both)) where
  abbrev news : List ℕ → List ℕ
  news line = weights_of line (map added_of new)

  abbrev keys : List ℕ → List ℕ
  keys line = weights_of line (map key_of (counted_lines olds))

  abbrev all_of : List ℕ → List ℕ
  all_of line = weights_of line (map added_of new ++ map key_of (counted_lines olds))

  split : (line : List ℕ) → all_of line ≡ news line ++ keys line
  split line = weights_append line (map added_of new) (map key_of (counted_lines olds))

  -- Each line has its columns.
  abbrev columns : Vec ℕ Global → List ℕ
  columns line = line_text line.items (written (number_in old line.items)) (number_in new line.items)

  number_is : (index : ℕ) (line : Line) → slice_get (counted_lines both) index ≡ Some line → line.1 ≡ number_in new line.0.items
  number_is index line at =
      let own = line.0.items in
      let sum = sum_is (all_of own) line.1 (lists.each index line.0 line.1 at) in
      let parts = ap (sum_by (λ w. w)) (split own) ∙ sum_by-append (λ w. w) (news own) (keys own) in
      let none = no_weights own (counted_lines olds) in
      let weights = weights_sum own new in
      omega (arith, sum, parts, none, weights)

  text_of_line : (index : ℕ) (line : Line) → slice_get (counted_lines both) index ≡ Some line → columns_of olds written line ≡ columns line.0
  text_of_line index line at =
      let own = line.0.items in
      ap (λ (n : ℕ). line_text own (written n) line.1) (count_is old olds own counts)
      ∙ ap (λ (n : ℕ). line_text own (written (number_in old own)) n) (number_is index line at)

  -- Each line of a profile is there.
  abbrev There : List ℕ → Type 0
  There line = (at : ℕ) × (own : Vec ℕ Global) × (slice_get (keys_of (counted_lines both)) at ≡ Some own) × (own.items ≡ line)

  there : (line : List ℕ) (sum : ℕ) → sum_of (news line ++ keys line) ≡ Some sum → There line
  there line sum is =
      let place = lists.all line sum (ap sum_of (split line) ∙ is) in
      (place.0, place.1, at_map (λ (l : Line). l.0) (counted_lines both) place.0 (place.1, sum) place.2, place.3)

  new_there : (line : List ℕ) → HasLine new line → There line
  new_there line has =
      let own = own_sum new has.0 has.1 has.2 in
      let sum = left_sum (news (line_of has.1.0)) (keys (line_of has.1.0)) own.0 own.1 in
      subst There (sym has.3) (there (line_of has.1.0) sum.0 sum.1)

  old_there : (line : List ℕ) → HasLine old line → There line
  old_there line has =
      let own = own_sum old has.0 has.1 has.2 in
      let place = lists_old.all (line_of has.1.0) own.0 own.1 in
      let key = key_sum (counted_lines olds) place.0 (place.1, own.0) place.2 in
      let sum = right_sum (news place.1.items) (keys place.1.items) key.0 key.1 in
      subst There (place.3 ∙ sym has.3) (there place.1.items sum.0 sum.1)

  -- Each line is one of a profile.
  old_has : (line : List ℕ) → Found line (counted_lines olds) → HasLine old line
  old_has line found =
      let sum = lists_old.each found.0 found.1.0 found.1.1 found.2 in
      let has = entry_of found.1.0.items old found.1.1 sum in
      (has.0, has.1, has.2, found.3 ∙ has.3)

  has_line : (line : List ℕ) (sum : ℕ) → sum_of (news line ++ keys line) ≡ Some sum → HasLine old line ⊎ HasLine new line
  has_line line sum is = elim (either_sum (news line) (keys line) sum is) [
    | inl one ↦ inr (entry_of line new one.0 one.1)
    | inr one ↦ inl (old_has line (key_found line (counted_lines olds) one.0 one.1))
  ]

  only : (at : ℕ) (line : Vec ℕ Global) → slice_get (keys_of (counted_lines both)) at ≡ Some line → HasLine old line.items ⊎ HasLine new line.items
  only at line is =
      let found = map_at (λ (l : Line). l.0) (counted_lines both) at line is in
      let own = found.0 in
      let sum = lists.each at own.0 own.1 found.1 in
      let has = has_line own.0.items own.1 (sym (ap sum_of (split own.0.items)) ∙ sum) in
      subst (λ (v : Vec ℕ Global). HasLine old v.items ⊎ HasLine new v.items) found.2 has

  pub text_is : IsAscending both → (text : List ℕ) → text ≡ flat_map (columns_of olds written) (counted_lines both) → IsTextOfColumns old new written text
  text_is ascending text is = record {
    lines = keys_of (counted_lines both);
    are = record {
      all = λ line has. elim has [
        | inl was ↦ old_there line was
        | inr is ↦ new_there line is
      ];
      only = only;
      ascend = ascending;
    };
    is = is ∙ texts_same (columns_of olds written) (λ (line : Line). columns line.0) (counted_lines both) text_of_line ∙ sym (flat_map-map columns (λ (line : Line). line.0) (counted_lines both));
  }
