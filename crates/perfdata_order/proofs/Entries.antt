-- The entries of a sorter, as keys with slots and as keys with values.
use Rattle.std.proofs.Common.{◌≡◌, ℕ, suc, ◌+◌, ◌*◌, ◌≤◌, Bool, true, false, cond, ltb, List, [], ◌∷◌, ◌++◌, length, take, drop, map, All, Option, None, Some, refl, sym, ap, ◌∙◌, subst, inl, inr, arith}
use Rattle.std.specs.Prelude.{◌≢◌, ◌⊎◌, ◌==◌, if◌then◌else◌, unwrap_or}
use Rattle.std.specs.List.{filter, cons_option}
use Rattle.std.specs.declared.cmp.Ordering.{Ordering}
use Rattle.std.specs.Ordering.{is_lt}
use Rattle.std.specs.List.Sorted.{IsPermutation, ties}
use Rattle.std.proofs.lemmas.Bool.Decides.{nat_tests, Decides-eqb}
use Rattle.std.proofs.lemmas.List.{take-append-drop, take-append-le, drop-append-le, length-take-le, length-drop}
use Rattle.std.proofs.lemmas.List.Elements.{All-nil, All-cons, All-head, All-tail, filter_map-append}
use Rattle.std.proofs.lemmas.List.Sums.{sum_by-cons, sum_by_push, sum_by-take-le, sum_by-take-drop}
use Rattle.std.proofs.lemmas.List.Sorted.{IsPermutation-refl, IsPermutation-map, length_permutation, sum_by-IsPermutation}
use Rattle.perfdata_order.specs.Order.{IsAtMost, Ascends, greatest_with, SortsEntries}
use Rattle.perfdata_order.specs.Slots.{value_at}
use Rattle.perfdata_order.specs.declared.sorter.Sorter.{Sorter}
use Rattle.perfdata_order.specs.Sorter.{available_of, AddsFewSlots, slots_in, Inserted, TakesNext, TestsAvailable, TestsEmpty}
use Rattle.perfdata_order.specs.Entries.{with_value, entries_by, uses_of, values_in, IsPlaced, HaveKeys}

-- ---- slots

abbrev use_of : {K : Type 0} → ℕ → K × ℕ → ℕ
use_of slot e = if e.1 == slot then 1 else 0

abbrev pub bit : Bool → ℕ
bit b = if b then 1 else 0

pub use_same : (a b : ℕ) → a ≡ b → bit (a == b) ≡ 1
use_same a b same = grind (arith, nat_tests)

pub use_other : (a b : ℕ) → a ≢ b → bit (a == b) ≡ 0
use_other a b other = grind (arith, nat_tests)

decided : (a b : ℕ) (r : Bool) → (a == b) ≡ r → (a ≡ b) ⊎ (a ≢ b)
decided a b true is = inl ((Decides-eqb a b).0 is)
decided a b false is = inr (λ same. let is' = (Decides-eqb a b).1 same in cc)

pub same_or_other : (a b : ℕ) → (a ≡ b) ⊎ (a ≢ b)
same_or_other a b = decided a b (a == b) refl

none_left : {K : Type 0} (fs : List (K × ℕ)) → length fs ≡ 0 → fs ≡ []
none_left [] same = refl
none_left (f ∷ fs) same = absurd (omega (arith, same))

uses_more : {K : Type 0} (slot : ℕ) (e : K × ℕ) (es : List (K × ℕ)) → uses_of slot (e ∷ es) ≡ use_of slot e + uses_of slot es
uses_more slot e es = sum_by-cons (λ x. use_of slot x) e es

uses_first : {K : Type 0} (e : K × ℕ) (es : List (K × ℕ)) → uses_of e.1 (e ∷ es) ≡ 1 + uses_of e.1 es
uses_first e es = uses_more e.1 e es ∙ ap (λ n. n + uses_of e.1 es) (use_same e.1 e.1 refl)

unused_take : {K : Type 0} (slot n : ℕ) (es : List (K × ℕ)) → uses_of slot es ≡ 0 → uses_of slot (take n es) ≡ 0
unused_take slot n es none = let le = sum_by-take-le (λ x. use_of slot x) es n in omega (arith, none, le)

unused_drop : {K : Type 0} (slot n : ℕ) (es : List (K × ℕ)) → uses_of slot es ≡ 0 → uses_of slot (drop n es) ≡ 0
unused_drop slot n es none = let sum = sum_by-take-drop (λ x. use_of slot x) es n in omega (arith, none, sum)

pub at_most_one : {V : Type 0} (o : Option V) → values_in o ≤ 1
at_most_one None = omega arith
at_most_one (Some v) = omega arith

module _ {K V : Type 0} where
  pub placed_rest : (values : ℕ → Option V) (e : K × ℕ) (es : List (K × ℕ)) → IsPlaced values (e ∷ es) → IsPlaced values es
  placed_rest values e es placed slot = let whole = placed slot in let more = uses_more slot e es in omega (arith, whole, more)

  pub first_has_value : (values : ℕ → Option V) (e : K × ℕ) (es : List (K × ℕ)) → IsPlaced values (e ∷ es) → 1 ≤ values_in (values e.1)
  first_has_value values e es placed = let whole = placed e.1 in let first = uses_first e es in omega (arith, whole, first)

  -- The slot of the first entry is that of no other.
  pub first_apart : (values : ℕ → Option V) (e : K × ℕ) (es : List (K × ℕ)) → IsPlaced values (e ∷ es) → uses_of e.1 es ≡ 0
  first_apart values e es placed =
      let whole = placed e.1 in let first = uses_first e es in let one = at_most_one (values e.1) in omega (arith, whole, first, one)

  pub placed_permutation : (values : ℕ → Option V) (es fs : List (K × ℕ)) → IsPermutation es fs → IsPlaced values es → IsPlaced values fs
  placed_permutation values es fs same placed slot =
      subst (λ n. n ≤ values_in (values slot)) (sym (sum_by-IsPermutation (λ x. use_of slot x) es fs same)) (placed slot)

  pub have_permutation : (values : ℕ → Option V) (es fs : List (K × ℕ)) → IsPermutation es fs → HaveKeys values es → HaveKeys values fs
  have_permutation values es fs same keys slot = subst (λ n. values_in (values slot) ≤ n) (sym (sum_by-IsPermutation (λ x. use_of slot x) es fs same)) (keys slot)

  -- What is in a slot that none of the entries has makes no difference.
  pub same_entries : (values values' : ℕ → Option V) (slot : ℕ) (es : List (K × ℕ)) → ((other : ℕ) → other ≢ slot → values' other ≡ values other) → uses_of slot es ≡ 0
      → entries_by values' es ≡ entries_by values es
  same_entries values values' slot [] others none = refl
  same_entries values values' slot (e ∷ es) others none =
      let more = uses_more slot e es in
      let apart : e.1 ≢ slot = λ same. let one = use_same e.1 slot same in absurd (omega (arith, more, none, one)) in
      ap (λ o. cons_option (with_value e.0 o) (entries_by values' es)) (others e.1 apart)
      ∙ ap (λ xs. cons_option (with_value e.0 (values e.1)) xs) (same_entries values values' slot es others (omega (arith, more, none)))

  -- ---- entries

  pub entries_split : (values : ℕ → Option V) (n : ℕ) (es : List (K × ℕ)) → entries_by values (take n es) ++ entries_by values (drop n es) ≡ entries_by values es
  entries_split values n es = sym (filter_map-append (λ e. with_value e.0 (values e.1)) (take n es) (drop n es)) ∙ ap (λ xs. entries_by values xs) (take-append-drop n es)

  pub all_entries : (values : ℕ → Option V) (P : K × ℕ → Type 0) (Q : K × V → Type 0) → ((k : K) (slot : ℕ) (v : V) → P (k, slot) → Q (k, v)) → (es : List (K × ℕ)) → All P es → All Q (entries_by values es)
  all_entries values P Q same [] all = All-nil Q
  all_entries values P Q same (e ∷ es) all =
      let rest = all_entries values P Q same es (All-tail P e es all) in
      let first = All-head P e es all in
      elim (values e.1) as (λ o. All Q (cons_option (with_value e.0 o) (entries_by values es))) [
        | None ↦ rest
        | Some v ↦ All-cons Q (e.0, v) (entries_by values es) (same e.0 e.1 v first) rest
      ]

  one_more : (k : K) (o : Option V) (xs : List (K × V)) → 1 ≤ values_in o → length (cons_option (with_value k o) xs) ≡ suc (length xs)
  one_more k None xs one = absurd (omega (arith, one))
  one_more k (Some v) xs one = refl

  pub entries_length : (values : ℕ → Option V) (es : List (K × ℕ)) → IsPlaced values es → length (entries_by values es) ≡ length es
  entries_length values [] placed = refl
  entries_length values (e ∷ es) placed =
      one_more e.0 (values e.1) (entries_by values es) (first_has_value values e es placed) ∙ ap suc (entries_length values es (placed_rest values e es placed))

  -- ---- sorting

  mapped_more : (k : K) (o : Option V) (d : V) (xs : List (K × V)) → 1 ≤ values_in o → cons_option (with_value k o) xs ≡ (k, unwrap_or o d) ∷ xs
  mapped_more k None d xs one = absurd (omega (arith, one))
  mapped_more k (Some v) d xs one = refl

  as_mapped : (values : ℕ → Option V) (d : V) (es : List (K × ℕ)) → IsPlaced values es → entries_by values es ≡ map (λ e. (e.0, unwrap_or (values e.1) d)) es
  as_mapped values d [] placed = refl
  as_mapped values d (e ∷ es) placed =
      mapped_more e.0 (values e.1) d (entries_by values es) (first_has_value values e es placed)
      ∙ ap (λ xs. (e.0, unwrap_or (values e.1) d) ∷ xs) (as_mapped values d es (placed_rest values e es placed))

  mapped_permutation : (values : ℕ → Option V) (o : Option V) (es fs : List (K × ℕ)) → 1 ≤ values_in o → IsPlaced values es → IsPermutation es fs
      → IsPermutation (entries_by values es) (entries_by values fs)
  mapped_permutation values None es fs one placed same = absurd (omega (arith, one))
  mapped_permutation values (Some d) es fs one placed same =
      subst (λ xs. IsPermutation xs (entries_by values fs)) (sym (as_mapped values d es placed))
      (subst (λ ys. IsPermutation (map (λ e. (e.0, unwrap_or (values e.1) d)) es) ys) (sym (as_mapped values d fs (placed_permutation values es fs same placed)))
      (IsPermutation-map (λ e. (e.0, unwrap_or (values e.1) d)) es fs same))

  entries_permutation : (values : ℕ → Option V) (es fs : List (K × ℕ)) → IsPlaced values es → IsPermutation es fs → IsPermutation (entries_by values es) (entries_by values fs)
  entries_permutation values [] fs placed same =
      subst (λ xs. IsPermutation [] (entries_by values xs)) (sym (none_left fs (length_permutation [] fs same))) (IsPermutation-refl [])
  entries_permutation values (e ∷ es) fs placed same = mapped_permutation values (values e.1) (e ∷ es) fs (first_has_value values e es placed) placed same

  filter_one : (p : K → Bool) (k : K) (o : Option V) (b : Bool) (xs ys : List (K × V)) (es : List (K × ℕ)) (i : ℕ) (values : ℕ → Option V) → p k ≡ b → values i ≡ o → filter (λ e. p e.0) xs ≡ ys → ys ≡ entries_by values (filter (λ e. p e.0) es)
      → filter (λ e. p e.0) (cons_option (with_value k o) xs) ≡ entries_by values (cond b ((k, i) ∷ filter (λ e. p e.0) es) (filter (λ e. p e.0) es))
  filter_one p k None true xs ys es i values test value same is = same ∙ is ∙ sym (ap (λ o. cons_option (with_value k o) (entries_by values (filter (λ e. p e.0) es))) value)
  filter_one p k None false xs ys es i values test value same is = same ∙ is
  filter_one p k (Some v) true xs ys es i values test value same is =
      ap (λ b. cond b ((k, v) ∷ filter (λ e. p e.0) xs) (filter (λ e. p e.0) xs)) test ∙ ap (λ zs. (k, v) ∷ zs) (same ∙ is)
      ∙ sym (ap (λ o. cons_option (with_value k o) (entries_by values (filter (λ e. p e.0) es))) value)
  filter_one p k (Some v) false xs ys es i values test value same is =
      ap (λ b. cond b ((k, v) ∷ filter (λ e. p e.0) xs) (filter (λ e. p e.0) xs)) test ∙ same ∙ is

  filter_entries : (values : ℕ → Option V) (p : K → Bool) (es : List (K × ℕ)) → filter (λ e. p e.0) (entries_by values es) ≡ entries_by values (filter (λ e. p e.0) es)
  filter_entries values p [] = refl
  filter_entries values p (e ∷ es) =
      filter_one p e.0 (values e.1) (p e.0) (entries_by values es) (entries_by values (filter (λ e. p e.0) es)) es e.1 values refl refl (filter_entries values p es) refl

  module _ (cmp : K → K → Ordering) where
    entries_ascend : (values : ℕ → Option V) (es : List (K × ℕ)) → Ascends cmp es → Ascends cmp (entries_by values es)
    entries_ascend values [] up = tt
    entries_ascend values (e ∷ es) up =
        let rest = entries_ascend values es up.1 in
        elim (values e.1) as (λ o. Ascends cmp (cons_option (with_value e.0 o) (entries_by values es))) [
          | None ↦ rest
          | Some v ↦ (all_entries values (λ f. IsAtMost cmp e f) (λ f. IsAtMost cmp (e.0, v) f) (λ k slot w le. le) es up.0, rest)
        ]

    -- What a sort of the keys with their slots does to the keys with their values.
    pub sorts_entries : (values : ℕ → Option V) (es fs : List (K × ℕ)) → IsPlaced values es → SortsEntries cmp es fs → SortsEntries cmp (entries_by values es) (entries_by values fs)
    sorts_entries values es fs placed sorts = record {
      each_once = entries_permutation values es fs placed sorts.each_once;
      ascends = entries_ascend values fs sorts.ascends;
      stable = λ x.
          let p : K → Bool = λ k. ties (λ (a b : K). is_lt (cmp a b)) x.0 k in
          filter_entries values p fs ∙ ap (λ zs. entries_by values zs) (sorts.stable (x.0, 0)) ∙ sym (filter_entries values p es);
    }

  -- ---- inserting and removing

  vacant_unused : (values : ℕ → Option V) (slot : ℕ) (es : List (K × ℕ)) → IsPlaced values es → values slot ≡ None → uses_of slot es ≡ 0
  vacant_unused values slot es placed vacant = let le = subst (λ o. uses_of slot es ≤ values_in o) vacant (placed slot) in omega (arith, le)

  placed_take : (values : ℕ → Option V) (n : ℕ) (es : List (K × ℕ)) → IsPlaced values es → IsPlaced values (take n es)
  placed_take values n es placed slot =
      let sum = sum_by-take-drop (λ x. use_of slot x) es n in let whole = placed slot in omega (arith, whole, sum)

  placed_drop : (values : ℕ → Option V) (n : ℕ) (es : List (K × ℕ)) → IsPlaced values es → IsPlaced values (drop n es)
  placed_drop values n es placed slot =
      let sum = sum_by-take-drop (λ x. use_of slot x) es n in let whole = placed slot in omega (arith, whole, sum)

  entries_inserted : (values values' : ℕ → Option V) (key : K) (slot : ℕ) (value : V) (es : List (K × ℕ)) → uses_of slot es ≡ 0
      → values' slot ≡ Some value → ((other : ℕ) → other ≢ slot → values' other ≡ values other)
      → entries_by values' (es ++ (key, slot) ∷ []) ≡ entries_by values es ++ (key, value) ∷ []
  entries_inserted values values' key slot value es unused is others =
      filter_map-append (λ e. with_value e.0 (values' e.1)) es ((key, slot) ∷ [])
      ∙ ap (λ xs. xs ++ entries_by values' ((key, slot) ∷ [])) (same_entries values values' slot es others unused)
      ∙ ap (λ o. entries_by values es ++ cons_option (with_value key o) []) is

  placed_at : (values values' : ℕ → Option V) (key : K) (slot : ℕ) (value : V) (es : List (K × ℕ)) (at : ℕ) → (slot ≡ at) ⊎ (slot ≢ at) → IsPlaced values es → values slot ≡ None
      → values' slot ≡ Some value → ((other : ℕ) → other ≢ slot → values' other ≡ values other) → uses_of at (es ++ (key, slot) ∷ []) ≤ values_in (values' at)
  placed_at values values' key slot value es at (inl same) placed vacant is others =
      let more = sum_by_push (λ x. use_of at x) es (key, slot) in
      let none = subst (λ o. uses_of slot es ≤ values_in o) vacant (placed slot) in
      let none' = subst (λ n. uses_of n es ≤ 0) same none in
      let one = use_same slot at same in
      let has : values_in (values' at) ≡ 1 = ap values_in (subst (λ n. values' n ≡ Some value) same is) in
      omega (arith, more, none', one, has)
  placed_at values values' key slot value es at (inr other) placed vacant is others =
      let more = sum_by_push (λ x. use_of at x) es (key, slot) in
      let none = use_other slot at other in
      let kept = ap values_in (others at (λ same. other (sym same))) in
      let before = placed at in
      omega (arith, more, none, kept, before)

  pub placed_inserted : (values values' : ℕ → Option V) (key : K) (slot : ℕ) (value : V) (es : List (K × ℕ)) → IsPlaced values es → values slot ≡ None
      → values' slot ≡ Some value → ((other : ℕ) → other ≢ slot → values' other ≡ values other) → IsPlaced values' (es ++ (key, slot) ∷ [])
  placed_inserted values values' key slot value es placed vacant is others at =
      placed_at values values' key slot value es at (same_or_other slot at) placed vacant is others

  -- ---- each value has a key

  have_at : (values values' : ℕ → Option V) (key : K) (slot : ℕ) (es : List (K × ℕ)) (at : ℕ) → (slot ≡ at) ⊎ (slot ≢ at) → HaveKeys values es
      → ((other : ℕ) → other ≢ slot → values' other ≡ values other) → values_in (values' at) ≤ uses_of at (es ++ (key, slot) ∷ [])
  have_at values values' key slot es at (inl same) keys others =
      let more = sum_by_push (λ x. use_of at x) es (key, slot) in let one = use_same slot at same in let small = at_most_one (values' at) in omega (arith, more, one, small)
  have_at values values' key slot es at (inr other) keys others =
      let more = sum_by_push (λ x. use_of at x) es (key, slot) in let kept = ap values_in (others at (λ same. other (sym same))) in let before = keys at in omega (arith, more, kept, before)

  pub have_inserted : (values values' : ℕ → Option V) (key : K) (slot : ℕ) (es : List (K × ℕ)) → HaveKeys values es → ((other : ℕ) → other ≢ slot → values' other ≡ values other) → HaveKeys values' (es ++ (key, slot) ∷ [])
  have_inserted values values' key slot es keys others at = have_at values values' key slot es at (same_or_other slot at) keys others

  -- ---- the calls of a sorter

  module _ (cmp : K → K → Ordering) where
    pub inserted_slot : (old new : Sorter K V) (key : K) (slot : ℕ) (value : V) → new.order.items ≡ old.order.items ++ (key, slot) ∷ [] → value_at old.values slot ≡ None → value_at new.values slot ≡ Some value
        → ((other : ℕ) → other ≢ slot → value_at new.values other ≡ value_at old.values other) → new.available ≡ old.available → old.available ≤ length old.order.items
        → new.limit ≡ old.limit → new.greatest ≡ Some (greatest_with cmp old.greatest key) → AddsFewSlots old new → Inserted cmp old key value new
    inserted_slot old new key slot value more vacant is others same in_range limit greatest few =
        let es = old.order.items in
        let unused = vacant_unused (value_at old.values) slot es old.placed vacant in
        record {
          available = ap (λ n. entries_by (value_at new.values) (take n new.order.items)) same ∙ ap (λ xs. entries_by (value_at new.values) (take old.available xs)) more
              ∙ ap (λ xs. entries_by (value_at new.values) xs) (take-append-le old.available es ((key, slot) ∷ []) in_range)
              ∙ same_entries (value_at old.values) (value_at new.values) slot (take old.available es) others (unused_take slot old.available es unused);
          pending = ap (λ n. entries_by (value_at new.values) (drop n new.order.items)) same ∙ ap (λ xs. entries_by (value_at new.values) (drop old.available xs)) more
              ∙ ap (λ xs. entries_by (value_at new.values) xs) (drop-append-le old.available es ((key, slot) ∷ []) in_range)
              ∙ entries_inserted (value_at old.values) (value_at new.values) key slot value (drop old.available es) (unused_drop slot old.available es unused) is others;
          limit = limit;
          greatest = greatest;
          slots = few;
        }

  first_value : (key : K) (o : Option V) (value : V) (xs ys : List (K × V)) → o ≡ Some value → xs ≡ ys → cons_option (with_value key o) xs ≡ (key, value) ∷ ys
  first_value key o value xs ys is same = ap (λ o. cons_option (with_value key o) xs) is ∙ ap (λ zs. (key, value) ∷ zs) same

  taken : (old new : Sorter K V) (key : K) (slot n : ℕ) (o : Option V) (rest : List (K × ℕ)) → 1 ≤ values_in o → old.order.items ≡ (key, slot) ∷ rest → new.order.items ≡ rest
      → old.available ≡ suc n → new.available ≡ n → uses_of slot rest ≡ 0 → value_at old.values slot ≡ o → ((other : ℕ) → other ≢ slot → value_at new.values other ≡ value_at old.values other)
      → new.limit ≡ old.limit → new.greatest ≡ old.greatest → slots_in new ≡ slots_in old → TakesNext old o new
  taken old new key slot n None rest one first left more less unused is others limit greatest slots = absurd (omega (arith, one))
  taken old new key slot n (Some value) rest one first left more less unused is others limit greatest slots = (
    key,
    record {
      available = ap (λ m. entries_by (value_at old.values) (take m old.order.items)) more ∙ ap (λ xs. entries_by (value_at old.values) (take (suc n) xs)) first
          ∙ first_value key (value_at old.values slot) value (entries_by (value_at old.values) (take n rest)) (available_of new) is
          (sym (ap (λ m. entries_by (value_at new.values) (take m new.order.items)) less ∙ ap (λ xs. entries_by (value_at new.values) (take n xs)) left
          ∙ same_entries (value_at old.values) (value_at new.values) slot (take n rest) others (unused_take slot n rest unused)));
      pending = ap (λ m. entries_by (value_at new.values) (drop m new.order.items)) less ∙ ap (λ xs. entries_by (value_at new.values) (drop n xs)) left
          ∙ same_entries (value_at old.values) (value_at new.values) slot (drop n rest) others (unused_drop slot n rest unused)
          ∙ sym (ap (λ m. entries_by (value_at old.values) (drop m old.order.items)) more ∙ ap (λ xs. entries_by (value_at old.values) (drop (suc n) xs)) first);
      limit = limit;
      greatest = greatest;
      slots = slots;
    },
  )

  pub takes_slot : (old new : Sorter K V) (key : K) (slot n : ℕ) (o : Option V) (rest : List (K × ℕ)) → old.order.items ≡ (key, slot) ∷ rest → new.order.items ≡ rest
      → old.available ≡ suc n → new.available ≡ n → o ≡ value_at old.values slot → ((other : ℕ) → other ≢ slot → value_at new.values other ≡ value_at old.values other)
      → new.limit ≡ old.limit → new.greatest ≡ old.greatest → slots_in new ≡ slots_in old → TakesNext old o new
  takes_slot old new key slot n o rest first left more less is others limit greatest slots =
      let placed = subst (λ xs. IsPlaced (value_at old.values) xs) first old.placed in
      taken old new key slot n o rest (subst (λ o. 1 ≤ values_in o) (sym is) (first_has_value (value_at old.values) (key, slot) rest placed)) first left more less
      (first_apart (value_at old.values) (key, slot) rest placed) (sym is) others limit greatest slots

  -- All but half of the entries are left, if so many are skipped.
  pub half_left : (values : ℕ → Option V) (es : List (K × ℕ)) (n : ℕ) (old : List (K × V)) → IsPlaced values es → length (entries_by values es) ≡ length old
      → (length es ≤ 2 * n) × (2 * n ≤ length es + 1)
      → (length (entries_by values (drop n es)) + length (entries_by values (drop n es)) ≤ length old) × (length old ≤ length (entries_by values (drop n es)) + length (entries_by values (drop n es)) + 1)
  half_left values es n old placed same half =
      let all = entries_length values es placed in
      let rest = entries_length values (drop n es) (placed_drop values n es placed) in
      let dropped = length-drop n es in
      (omega (arith, same, half.0, half.1, all, rest, dropped), omega (arith, same, half.0, half.1, all, rest, dropped))

  available_length : (s : Sorter K V) → length (available_of s) ≡ s.available
  available_length s =
      entries_length (value_at s.values) (take s.available s.order.items) (placed_take (value_at s.values) s.available s.order.items s.placed)
      ∙ length-take-le s.available s.order.items (subst (λ n. s.available ≤ n) s.order.ok.0 s.in_range)

  pub tests_available : (s : Sorter K V) (b : Bool) → ltb 0 s.available ≡ b → TestsAvailable s b
  tests_available s true test = let all = available_length s in grind (arith, nat_tests, all, test)
  tests_available s false test =
      let none : s.available ≡ 0 = grind (arith, nat_tests, test) in
      ap (λ n. entries_by (value_at s.values) (take n s.order.items)) none

  pub tests_empty : (s : Sorter K V) (b : Bool) → (s.order.len == 0) ≡ b → TestsEmpty s b
  tests_empty s true test =
      let none : s.order.len ≡ 0 = (Decides-eqb s.order.len 0).0 test in
      ap (λ es. entries_by (value_at s.values) es) (none_left s.order.items (sym s.order.ok.0 ∙ none))
  tests_empty s false test =
      let all = entries_length (value_at s.values) s.order.items s.placed in
      let len = s.order.ok.0 in
      let some : s.order.len ≢ 0 = λ none. let is = (Decides-eqb s.order.len 0).1 none in cc in
      omega (arith, all, len, some)
