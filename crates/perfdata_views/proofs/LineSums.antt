-- The numbers of lines as sums over entries.
use Rattle.std.proofs.Common.{◌≡◌, ◌∙◌, ◌+◌, ◌-◌, ◌<◌, ◌≤◌, ap, refl, sym, subst, arith, ℕ, zero, suc, Bool, true, false, cond, List, [], ◌∷◌, ◌++◌, append_assoc, drop, filter, get_or, length, map, Option, None, Some, reverse, slice_get, take, Vec, Global}
use Rattle.std.proofs.lemmas.Cmp.{nat_list_cmp_total, tied_itself}
use Rattle.std.proofs.lemmas.List.{append-nil, drop_all, drop_more, get_or-map, length-map, map_more, reverse-append, take_all}
use Rattle.std.proofs.lemmas.List.Concat.{flat_map-append}
use Rattle.std.proofs.lemmas.List.Sums.{sum_by-cons, sum_by_more_le}
use Rattle.std.proofs.lemmas.Map.Lookups.{exact_bytes}
use Rattle.std.proofs.lemmas.Option.{get_or_from_slice_get, slice_get-map, slice_get_within, unwrap_or-slice_get}
use Rattle.std.specs.Cmp.Lexicographic.{slice_cmp}
use Rattle.std.specs.List.{flat_map, sum_by}
use Rattle.std.specs.Option.{option_map, unwrap_or}
use Rattle.std.specs.Ordering.{is_eq, nat_cmp}
use Rattle.std.specs.declared.cmp.Ordering.{Ordering}
use Rattle.std.specs.declared.cmp.Ordering.TheVariants.{Less, Equal, Greater}
use Rattle.perfdata_profile.proofs.Elements.{some_same}
use Rattle.perfdata_profile.proofs.Searching.{at_map}
use Rattle.perfdata_profile.proofs.Valuing.{sum_by_map}
use Rattle.perfdata_profile.specs.Profiles.{valued_entry}
use Rattle.perfdata_profile.specs.Values.{Lists, name_at, sample_value}
use Rattle.perfdata_profile.specs.Sums.{entry_weight}
use Rattle.perfdata_profile.specs.declared.names.NameId.{NameId}
use Rattle.perfdata_profile.specs.declared.sums.SampleKey.{SampleKey}
use Rattle.perfdata_profile.specs.declared.sums.Sums.{Sums}
use Rattle.perfdata_views.specs.Counts.{Added, Counts, IsAscending, ListsLines, count_of, counted_lines, is_line, sum_of, sum_of_counts, weights_of}
use Rattle.perfdata_views.specs.declared.counts.LineCounts.{LineCounts}
use Rattle.perfdata_views.specs.Entries.{Entry, weight_of, weight_where}
use Rattle.perfdata_views.specs.Lines.{AreLinesOf, line_of, names_text, next_name}
use Rattle.perfdata_views.specs.steps.Lines.{added_of}

-- What a number that no entry of a table has stands for.
pub missing : {A B : Type 0} → (f : A → B) (items : List A) (number : ℕ) (default : B) → None ≡ slice_get items number → default ≡ get_or (map f items) number default
missing {A} {B} f items number default none =
    ap (λ (o : Option A). unwrap_or (option_map f o) default) none ∙ ap (λ (o : Option B). unwrap_or o default) (sym (slice_get-map f items number)) ∙ unwrap_or-slice_get (map f items) number default

-- One more name, towards the leaf.
pub text_more : (name : List ℕ) (names : List (List ℕ)) → names_text (name ∷ names) ≡ names_text names ++ next_name name
text_more name names =
    ap (flat_map next_name) (reverse-append (name ∷ []) names) ∙ flat_map-append next_name (reverse names) (name ∷ []) ∙ ap (λ (t : List ℕ). names_text names ++ t) (append-nil (next_name name))

abbrev named : Lists → List NameId → List (List ℕ)
named lists ids = map (name_at lists) ids

-- The line after one more name.
pub line_more : (lists : Lists) (ids : List NameId) (d : NameId) (index : ℕ) (before line pushed more : List ℕ) → 0 < index → index ≤ length ids
    → line ≡ before ++ names_text (drop index (named lists ids)) → pushed ≡ line ++ 59 ∷ [] → more ≡ pushed ++ name_at lists (get_or ids (index - 1) d)
    → more ≡ before ++ names_text (drop (index - 1) (named lists ids))
line_more lists ids d index before line pushed more positive within line_is pushed_is more_is =
    let place = index - 1 in
    let below : place < length ids = omega arith in
    let count = length-map ids (name_at lists) in
    let back : place + 1 ≡ index = omega arith in
    let own = get_or (named lists ids) place (name_at lists d) in
    let is : own ≡ name_at lists (get_or ids place d) = get_or-map (name_at lists) ids place d (name_at lists d) below in
    let dropped : drop place (named lists ids) ≡ own ∷ drop index (named lists ids) = drop_more (named lists ids) place (name_at lists d) (omega (arith, count)) ∙ ap (λ (n : ℕ). own ∷ drop n (named lists ids)) back in
    let texts : names_text (drop place (named lists ids)) ≡ names_text (drop index (named lists ids)) ++ next_name own = ap names_text dropped ∙ text_more own (drop index (named lists ids)) in
    let name : List ℕ = name_at lists (get_or ids place d) in
    let all : more ≡ (before ++ names_text (drop index (named lists ids))) ++ next_name name =
    more_is ∙ ap (λ (l : List ℕ). l ++ name) pushed_is ∙ append_assoc line (59 ∷ []) name ∙ ap (λ (l : List ℕ). l ++ next_name name) line_is in
    all ∙ append_assoc before (names_text (drop index (named lists ids))) (next_name name)
    ∙ ap (λ (n : List ℕ). before ++ (names_text (drop index (named lists ids)) ++ next_name n)) (sym is) ∙ ap (λ (t : List ℕ). before ++ t) (sym texts)

pub line_none : (lists : Lists) (ids : List NameId) (before : List ℕ) → before ≡ before ++ names_text (drop (length ids) (named lists ids))
line_none lists ids before =
    let count = length-map ids (name_at lists) in
    sym (ap (λ (l : List (List ℕ)). before ++ names_text l) (drop_all (length ids) (named lists ids) (omega (arith, count))) ∙ append-nil before)

-- Lines as they are added.
equal_from_test : (order : Ordering) → is_eq order ≡ true → order ≡ Equal
equal_from_test Less is = cc
equal_from_test Equal is = refl
equal_from_test Greater is = cc

pub same_line : (line other : List ℕ) → is_line line other ≡ true → line ≡ other
same_line line other is = exact_bytes line other (equal_from_test (slice_cmp nat_cmp line other) is)

pub is_own_line : (line : List ℕ) → is_line line line ≡ true
is_own_line line = ap is_eq (tied_itself nat_list_cmp_total line)

abbrev weight_added : Added → ℕ
weight_added added = added.weight

abbrev is_in : List ℕ → Entry → Bool
is_in line entry = is_line line (line_of entry.0)

pub weights_sum : (line : List ℕ) (entries : List Entry) → sum_by (λ w. w) (weights_of line (map added_of entries)) ≡ weight_where (is_in line) entries
weights_sum line [] = refl
weights_sum line (e ∷ es) = by (is_in line e) refl (weights_sum line es)
  where
    by : (b : Bool) → is_in line e ≡ b → sum_by (λ w. w) (weights_of line (map added_of es)) ≡ weight_where (is_in line) es → sum_by (λ w. w) (weights_of line (map added_of (e ∷ es))) ≡ weight_where (is_in line) (e ∷ es)
    by true is rest =
        let weights : weights_of line (map added_of (e ∷ es)) ≡ weight_of e ∷ weights_of line (map added_of es) = ap (λ (b : Bool). map weight_added (cond b (added_of e ∷ filter (λ (a : Added). is_line line a.line) (map added_of es)) (filter (λ (a : Added). is_line line a.line) (map added_of es)))) is in
        let left = ap (sum_by (λ w. w)) weights ∙ sum_by-cons (λ w. w) (weight_of e) (weights_of line (map added_of es)) in
        let right = sum_by-cons (λ (entry : Entry). cond (is_in line entry) (weight_of entry) 0) e es ∙ ap (λ (b : Bool). cond b (weight_of e) 0 + weight_where (is_in line) es) is in
        left ∙ ap (λ n. weight_of e + n) rest ∙ sym right
    by false is rest =
        let weights : weights_of line (map added_of (e ∷ es)) ≡ weights_of line (map added_of es) = ap (λ (b : Bool). map weight_added (cond b (added_of e ∷ filter (λ (a : Added). is_line line a.line) (map added_of es)) (filter (λ (a : Added). is_line line a.line) (map added_of es)))) is in
        let right = sum_by-cons (λ (entry : Entry). cond (is_in line entry) (weight_of entry) 0) e es ∙ ap (λ (b : Bool). cond b (weight_of e) 0 + weight_where (is_in line) es) is in
        ap (sum_by (λ w. w)) weights ∙ rest ∙ sym (right ∙ omega arith)

pub sum_is : (weights : List ℕ) (sum : ℕ) → sum_of weights ≡ Some sum → sum ≡ sum_by (λ w. w) weights
sum_is [] sum is = cc
sum_is (w ∷ ws) sum is = sym (some_same (sum_by (λ n. n) (w ∷ ws)) sum is)

-- The sum of the weights of a line's entries is its count.
sum_or_none : (weights : List ℕ) → unwrap_or (sum_of weights) 0 ≡ sum_by (λ w. w) weights
sum_or_none [] = refl
sum_or_none (w ∷ ws) = refl

pub count_is : (entries : List Entry) (counts : LineCounts) (line : List ℕ) → Counts (map added_of entries) counts → unwrap_or (count_of counts line) 0 ≡ weight_where (is_in line) entries
count_is entries counts line is =
    ap (λ (o : Option ℕ). unwrap_or o 0) (is.lines line) ∙ sum_or_none (weights_of line (map added_of entries)) ∙ weights_sum line entries

-- The line of an entry has a sum, and a line with a sum is that of an entry.
abbrev matching : List ℕ → List Entry → List Added
matching line entries = filter (λ (a : Added). is_line line a.line) (map added_of entries)

pub some_first : (b : Bool) (a : Added) (rest : List Added) (sum : ℕ) → sum_of (map weight_added rest) ≡ Some sum → ((n : ℕ) × (sum_of (map weight_added (cond b (a ∷ rest) rest)) ≡ Some n))
some_first true a rest sum is = (sum_by (λ n. n) (map weight_added (a ∷ rest)), refl)
some_first false a rest sum is = (sum, is)

pub own_sum : (entries : List Entry) (index : ℕ) (entry : Entry) → slice_get entries index ≡ Some entry → ((sum : ℕ) × (sum_of (weights_of (line_of entry.0) (map added_of entries)) ≡ Some sum))
own_sum [] index entry at = cc
own_sum (e ∷ es) zero entry at =
    let same : e ≡ entry = some_same e entry at in
    let is : is_line (line_of entry.0) (line_of e.0) ≡ true = ap (λ (x : Entry). is_line (line_of entry.0) (line_of x.0)) same ∙ is_own_line (line_of entry.0) in
    let rest = matching (line_of entry.0) es in
    (sum_by (λ n. n) (map weight_added (added_of e ∷ rest)), ap (λ (b : Bool). sum_of (map weight_added (cond b (added_of e ∷ rest) rest))) is)
own_sum (e ∷ es) (suc index) entry at =
    let later = own_sum es index entry at in
    some_first (is_line (line_of entry.0) (line_of e.0)) (added_of e) (matching (line_of entry.0) es) later.0 later.1

pub entry_of : (line : List ℕ) (entries : List Entry) (sum : ℕ) → sum_of (weights_of line (map added_of entries)) ≡ Some sum → ((at : ℕ) × (entry : Entry) × (slice_get entries at ≡ Some entry) × (line ≡ line_of entry.0))
entry_of line [] sum is = cc
entry_of line (e ∷ es) sum is = by (is_in line e) refl is (entry_of line es sum)
  where
    by : (b : Bool) → is_in line e ≡ b → sum_of (map weight_added (cond b (added_of e ∷ matching line es) (matching line es))) ≡ Some sum
        → (sum_of (weights_of line (map added_of es)) ≡ Some sum → ((at : ℕ) × (entry : Entry) × (slice_get es at ≡ Some entry) × (line ≡ line_of entry.0))) → ((at : ℕ) × (entry : Entry) × (slice_get (e ∷ es) at ≡ Some entry) × (line ≡ line_of entry.0))
    by true own found rest = (0, e, refl, same_line line (line_of e.0) own)
    by false other found rest =
        let later = rest found in
        (suc later.0, later.1, later.2, later.3)

pub lines_are : (entries : List Entry) (counts : LineCounts) → Counts (map added_of entries) counts → IsAscending counts → ListsLines (map added_of entries) (counted_lines counts) → AreLinesOf entries (counted_lines counts)
lines_are entries counts is ascend lists = record {
  each = λ index line number at. sum_is (weights_of line.items (map added_of entries)) number (lists.each index line number at) ∙ weights_sum line.items entries;
  all = λ index entry at.
      let own = own_sum entries index entry at in
      let there = lists.all (line_of entry.0) own.0 own.1 in
      (there.0, there.1, own.0, there.2, there.3);
  only = λ index line number at. entry_of line.items entries number (lists.each index line number at);
  ascend = ascend;
  sum = sym (sum_by_map (λ (line : Vec ℕ Global × ℕ). line.1) (λ (line : Vec ℕ Global × ℕ). line.1) (λ count. count) (counted_lines counts) (λ line. refl)) ∙ is.sum ∙ sum_by_map added_of weight_of weight_added entries (λ e. refl);
}

-- Entries by values have the weights of those by ids.
pub valued_weights : (lists : Lists) (entries : List (SampleKey × Sums)) → sum_by weight_of (map (valued_entry lists) entries) ≡ sum_by entry_weight entries
valued_weights lists entries = sum_by_map (valued_entry lists) entry_weight weight_of entries (λ e. refl)

-- One more entry.
module _ (lists : Lists) (keys : List (SampleKey × Sums)) (index : ℕ) (entry : SampleKey × Sums) (at : slice_get keys index ≡ Some entry) where
  abbrev entries : List Entry
  entries = map (valued_entry lists) keys

  pub value_at : get_or entries index (valued_entry lists entry) ≡ valued_entry lists entry
  value_at = get_or_from_slice_get entries index (valued_entry lists entry) (valued_entry lists entry) (at_map (valued_entry lists) keys index entry at)

  pub inside : index < length entries
  inside = slice_get_within entries index (valued_entry lists entry) (at_map (valued_entry lists) keys index entry at)

  pub added_more : (line : List ℕ) → line ≡ line_of (sample_value lists entry.0) → map added_of (take index entries) ++ record { line = line; weight = entry.1.weight } ∷ [] ≡ map added_of (take (index + 1) entries)
  added_more line is =
      let same : get_or entries index (valued_entry lists entry) ≡ valued_entry lists entry = value_at in
      ap (λ (l : List ℕ). map added_of (take index entries) ++ record { line = l; weight = entry.1.weight } ∷ []) is
      ∙ ap (λ (e : Entry). map added_of (take index entries) ++ added_of e ∷ []) (sym same)
      ∙ sym (map_more added_of entries index (valued_entry lists entry) inside)

  pub sum_within : (counts : LineCounts) → Counts (map added_of (take index entries)) counts → sum_of_counts counts + entry.1.weight ≤ sum_by entry_weight keys
  sum_within counts is =
      let all = valued_weights lists keys in
      let before = sum_by_map added_of weight_of weight_added (take index entries) (λ e. refl) in
      let more = sum_by_more_le weight_of entries index (valued_entry lists entry) inside in
      let last : weight_of (get_or entries index (valued_entry lists entry)) ≡ entry.1.weight = ap weight_of value_at in
      omega (arith, is.sum, before, more, all, last)

pub all_lines : (lists : Lists) (keys : List (SampleKey × Sums)) (index : ℕ) (counts : LineCounts) → length keys ≤ index → Counts (map added_of (take index (map (valued_entry lists) keys))) counts → Counts (map added_of (map (valued_entry lists) keys)) counts
all_lines lists keys index counts past is =
    let count = length-map keys (valued_entry lists) in
    subst (λ (es : List Entry). Counts (map added_of es) counts) (take_all index (map (valued_entry lists) keys) (omega (arith, count))) is

pub sum_of_lines : (lists : Lists) (keys : List (SampleKey × Sums)) (counts : LineCounts) → Counts (map added_of (map (valued_entry lists) keys)) counts → sum_of_counts counts ≡ sum_by entry_weight keys
sum_of_lines lists keys counts is = is.sum ∙ sum_by_map added_of weight_of weight_added (map (valued_entry lists) keys) (λ e. refl) ∙ valued_weights lists keys
