-- Counts as a weight is added to one of them.
use Rattle.std.proofs.Common.{◌≡◌, ◌∙◌, ◌≤◌, ℕ, ◌+◌, ap, sym, subst, arith, List, [], ◌∷◌, ◌++◌, Option, None, Some, refl, Bool, true, false, cond, Vec, Global, filter, map, Result, Ok, Err, OnOk}
use Rattle.std.specs.List.{sum_by}
use Rattle.std.specs.Option.{unwrap_or, option_map}
use Rattle.std.specs.Ordering.{is_eq, nat_cmp, eq_by_cmp}
use Rattle.std.specs.Map.{keys_of, values_of, lookup, KeepsOthers}
use Rattle.std.specs.BTreeMap.{insert_entry, is_at}
use Rattle.std.specs.Cmp.{IsTotalOrder}
use Rattle.std.specs.Cmp.Lexicographic.{slice_cmp}
use Rattle.std.specs.List.Sorted.{IsStrictlySortedBy}
use Rattle.std.specs.declared.cmp.Ordering.{Ordering}
use Rattle.std.specs.declared.cmp.Ordering.TheVariants.{Less, Equal, Greater}
use Rattle.std.proofs.lemmas.Cmp.{nat_list_cmp_total, on_total, eq_by_cmp_equiv}
use Rattle.std.proofs.lemmas.List.{append-nil, map-append}
use Rattle.std.proofs.lemmas.List.Elements.{filter-append}
use Rattle.std.proofs.lemmas.List.Sums.{sum_by-cons, sum_by_push}
use Rattle.std.proofs.lemmas.Map.Entries.{sum_by-insert_entry, btree_map_get_place, place_from_lookup}
use Rattle.std.proofs.lemmas.Map.Lookups.{exact_bytes}
use Rattle.perfdata_views.specs.Counts.{Added, AddsToLine, Counts, CountsLine, ListsLines, IsAscending, count_of, counted_lines, is_line, line_cmp, sum_of, weights_of}
use Rattle.perfdata_views.specs.declared.counts.LineCountError.{LineCountError}
use Rattle.perfdata_views.specs.declared.counts.LineCounts.{LineCounts}

unwrap_or_same : (old : Option ℕ) → unwrap_or (option_map (λ count. count) old) 0 ≡ unwrap_or old 0
unwrap_or_same None = refl
unwrap_or_same (Some n) = refl

pub sum_with : {K : Type 0} → (R : K → K → Ordering) → IsTotalOrder R → (es : List (K × ℕ)) (k : K) (count weight : ℕ) → IsStrictlySortedBy R (keys_of es) → count ≡ unwrap_or (lookup (is_at (R k)) es) 0 + weight → sum_by (λ n. n) (values_of (insert_entry R es k count)) ≡ sum_by (λ n. n) (values_of es) + weight
sum_with R order es k count weight sorted is =
    let added = sum_by-insert_entry (λ n. n) order es k count sorted in
    let same = unwrap_or_same (lookup (is_at (R k)) es) in
    omega (arith, added, same, is)

cond_at_most : (is : Bool) (n : ℕ) (rest : Option ℕ) (sum : ℕ) → unwrap_or rest 0 ≤ sum → unwrap_or (cond is (Some n) rest) 0 ≤ n + sum
cond_at_most true n rest sum h = omega arith
cond_at_most false n rest sum h = omega arith

-- A count is at most the sum of all counts.
pub count_at_most_sum : {K : Type 0} → (test : K → Bool) (es : List (K × ℕ)) → unwrap_or (lookup test es) 0 ≤ sum_by (λ n. n) (values_of es)
count_at_most_sum test [] = omega arith
count_at_most_sum test (e ∷ es) = rw (sum_by-cons (λ n. n) e.1 (values_of es)) (cond_at_most (test e.0) e.1 (lookup test es) (sum_by (λ n. n) (values_of es)) (count_at_most_sum test es))

equal_from_test : (order : Ordering) → is_eq order ≡ true → order ≡ Equal
equal_from_test Less is = cc
equal_from_test Equal is = refl
equal_from_test Greater is = cc

same_line : (line other : List ℕ) → is_line line other ≡ true → line ≡ other
same_line line other is = exact_bytes line other (equal_from_test (slice_cmp nat_cmp line other) is)

pub is_line_symm : (line other : List ℕ) → is_line line other ≡ is_line other line
is_line_symm line other = (eq_by_cmp_equiv nat_list_cmp_total).symm line other

-- An insert at one line leaves the others.
pub others_kept : (old new : List (Vec ℕ Global × ℕ)) (line : Vec ℕ Global) (other : List ℕ) → KeepsOthers (eq_by_cmp line_cmp) (is_at (line_cmp line)) old new → is_line line.items other ≡ false → lookup (λ counted. is_line other counted.items) new ≡ lookup (λ counted. is_line other counted.items) old
unfolding KeepsOthers
others_kept old new line other keeps apart = keeps (λ counted. is_line other counted.items)
    (λ first second is. ap (λ bytes. is_line bytes second.items) (same_line other first.items is))
    (λ counted is. ap (λ bytes. is_line other bytes) (sym (same_line line.items counted.items is)) ∙ is_line_symm other line.items ∙ apart)

sum_of_push : (weights : List ℕ) (weight : ℕ) → sum_of (weights ++ weight ∷ []) ≡ Some (unwrap_or (sum_of weights) 0 + weight)
sum_of_push [] weight = ap (λ n. Some n) (sum_by_push (λ w. w) [] weight)
sum_of_push (first ∷ weights) weight = ap (λ n. Some n) (sum_by_push (λ w. w) (first ∷ weights) weight)

weights_push : (line : List ℕ) (added : List Added) (one : Added) → weights_of line (added ++ one ∷ []) ≡ weights_of line added ++ map (λ (a : Added). a.weight) (cond (is_line line one.line) (one ∷ []) [])
weights_push line added one =
    ap (map (λ (a : Added). a.weight)) (filter-append (λ (a : Added). is_line line a.line) added (one ∷ [])) ∙ map-append (λ (a : Added). a.weight) (filter (λ (a : Added). is_line line a.line) added) (cond (is_line line one.line) (one ∷ []) [])

module _ (old new : LineCounts) (line : List ℕ) (weight : ℕ) (added : List Added) (counts : Counts added old) (counted : CountsLine old line weight new) where
  line_counted : (other : List ℕ) (same : Bool) → is_line other line ≡ same → count_of new other ≡ sum_of (weights_of other (added ++ record { line = line; weight = weight } ∷ []))
  line_counted other true is =
      let Counted : List ℕ → Type 0 = λ l. count_of new l ≡ Some (unwrap_or (count_of old l) 0 + weight) in
      let left = subst Counted (sym (same_line other line is)) counted.counted in
      let pushed = weights_push other added (record { line = line; weight = weight }) ∙ ap (λ same. weights_of other added ++ map (λ (a : Added). a.weight) (cond same (record { line = line; weight = weight } ∷ []) [])) is in
      let right = ap sum_of pushed ∙ sum_of_push (weights_of other added) weight ∙ ap (λ s. Some (unwrap_or s 0 + weight)) (sym (counts.lines other)) in
      left ∙ sym right
  line_counted other false is =
      let pushed = weights_push other added (record { line = line; weight = weight }) ∙ ap (λ same. weights_of other added ++ map (λ (a : Added). a.weight) (cond same (record { line = line; weight = weight } ∷ []) [])) is ∙ append-nil (weights_of other added) in
      counted.others other (is_line_symm line other ∙ is) ∙ counts.lines other ∙ sym (ap sum_of pushed)

  pub counts_more : Counts (added ++ record { line = line; weight = weight } ∷ []) new
  counts_more = record {
    lines = λ other. line_counted other (is_line other line) refl;
    sum = counted.sum ∙ ap (λ n. n + weight) counts.sum ∙ sym (sum_by_push (λ a. a.weight) added (record { line = line; weight = weight }));
  }

pub lists_lines : (counts : LineCounts) (added : List Added) → IsAscending counts → Counts added counts → ListsLines added (counted_lines counts)
lists_lines counts added ascending is = record {
  each = λ index line count at. sym (is.lines line.items) ∙ btree_map_get_place (on_total (λ (v : Vec ℕ Global). v.items) nat_list_cmp_total) counts.counts index line count ascending at;
  all = λ line count sum.
      let place = place_from_lookup (λ (counted : Vec ℕ Global). is_line line counted.items) (counted_lines counts) count (is.lines line ∙ sum) in
      (place.0, place.1, place.2, sym (same_line line place.1.items place.3));
}

pub counts_after : (old new : LineCounts) (line : List ℕ) (weight : ℕ) (result : Result (Unit {0}) LineCountError) → AddsToLine old line weight result new → OnOk result ((added : List Added) → Counts added old → Counts (added ++ record { line = line; weight = weight } ∷ []) new)
counts_after old new line weight (Ok done) adds = λ added counts. counts_more old new line weight added counts adds
counts_after old new line weight (Err error) adds = tt
