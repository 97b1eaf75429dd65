-- Each list of bytes has exactly one outcome in each format.
use Rattle.std.proofs.Common.{◌≡◌, ℕ, ◌*◌, ◌<◌, ◌≤◌, ◌++◌, inl, inr, Bool, true, false, List, [], ◌∷◌, length, take, drop, refl, sym, ap, subst, ◌∙◌, arith, length-drop}
use Rattle.std.specs.Prelude.{Option, None, Some}
use Rattle.std.specs.declared.io.ErrorKind.{ErrorKind}
use Rattle.std.specs.declared.io.ErrorKind.TheVariants.{UnexpectedEof, InvalidData}
use Rattle.std.proofs.lemmas.Bool.{cases_eq, cases_lt}
use Rattle.std.proofs.lemmas.List.Elements.{All-cons, All-tail}
use Rattle.perfdata_sources.specs.Raw.{HasNoNul, SplitsAtNul}
use Rattle.perfdata_events.specs.Format.{Outcome, encodes, fails, IsTruncated, IsUnterminated, block, text, fixed, fixed_and_text, fixed_and_block, both, led, optional}
use Rattle.perfdata_events.specs.Words.{u64s_of, word, word_size, word_if, fixed_and_u64s}
use Rattle.perfdata_events.specs.OneOutcome.{HasOneOutcome}

module _ {V : Type 0} (format : List ℕ → Outcome V → Type 0) (size : List ℕ → ℕ) (value : List ℕ → V) (rest : List ℕ → List ℕ) where
  -- A format whose outcome depends on whether there are enough bytes.
  pub record BySize : Type 0 where
    pub there : (xs : List ℕ) → size xs ≤ length xs → format xs (encodes (value xs) (rest xs))
    pub enough : (xs : List ℕ) (v : V) (r : List ℕ) → format xs (encodes v r) → size xs ≤ length xs
    pub value_is : (xs : List ℕ) (v : V) (r : List ℕ) → format xs (encodes v r) → v ≡ value xs
    pub rest_is : (xs : List ℕ) (v : V) (r : List ℕ) → format xs (encodes v r) → r ≡ rest xs
    pub short : (xs : List ℕ) (kind : ErrorKind) → format xs (fails kind) → IsTruncated (size xs) xs kind
    pub truncated : (xs : List ℕ) (kind : ErrorKind) → IsTruncated (size xs) xs kind → format xs (fails kind)

  fails_only : BySize → (xs : List ℕ) → length xs < size xs → (other : Outcome V) → format xs other → other ≡ fails UnexpectedEof
  fails_only by xs fewer (encodes v r) q = let enough : size xs ≤ length xs = by.enough xs v r q in absurd (omega arith)
  fails_only by xs fewer (fails kind) q = ap (λ k. fails k) (by.short xs kind q).kind_is

  encodes_only : BySize → (xs : List ℕ) → size xs ≤ length xs → (other : Outcome V) → format xs other → other ≡ encodes (value xs) (rest xs)
  encodes_only by xs all (encodes v r) q = λ i. encodes (by.value_is xs v r q i) (by.rest_is xs v r q i)
  encodes_only by xs all (fails kind) q = let fewer : length xs < size xs = (by.short xs kind q).too_few in absurd (omega arith)

  pub one_by_size : BySize → HasOneOutcome format
  one_by_size by xs = elim (cases_lt (length xs) (size xs)) [
    | inl fewer ↦ (fails UnexpectedEof, by.truncated xs UnexpectedEof (record { too_few = fewer; kind_is = refl }), fails_only by xs fewer)
    | inr all ↦ (encodes (value xs) (rest xs), by.there xs all, encodes_only by xs all)
  ]

pub one_fixed : {V : Type 0} (n : ℕ) (value_of : List ℕ → V) → HasOneOutcome (fixed n value_of)
one_fixed n value_of = one_by_size (fixed n value_of) (λ _. n) (λ xs. value_of (take n xs)) (λ xs. drop n xs) (record {
  there = λ xs all. record { enough = all; value_is = refl; rest_is = refl };
  enough = λ xs v r q. q.enough;
  value_is = λ xs v r q. q.value_is;
  rest_is = λ xs v r q. q.rest_is;
  short = λ xs kind q. q;
  truncated = λ xs kind q. q;
})

pub one_block : (n : ℕ) → HasOneOutcome (block n)
one_block n = one_by_size (block n) (λ _. n) (λ xs. take n xs) (λ xs. drop n xs) (record {
  there = λ xs all. record { enough = all; block_is = refl; rest_is = refl };
  enough = λ xs v r q. q.enough;
  value_is = λ xs v r q. q.block_is;
  rest_is = λ xs v r q. q.rest_is;
  short = λ xs kind q. q;
  truncated = λ xs kind q. q;
})

pub one_word : {V : Type 0} (present : Bool) (value_of : List ℕ → V) → HasOneOutcome (word present value_of)
one_word present value_of = one_by_size (word present value_of) (λ _. word_size present) (λ xs. word_if present value_of xs) (λ xs. drop (word_size present) xs) (record {
  there = λ xs all. record { all_bytes = omega (arith, length-drop (word_size present) xs); value_is = refl; rest_is = refl };
  enough = λ xs v r q. omega (arith, q.all_bytes);
  value_is = λ xs v r q. q.value_is;
  rest_is = λ xs v r q. q.rest_is;
  short = λ xs kind q. q;
  truncated = λ xs kind q. q;
})

module _ {A B : Type 0} (first : List ℕ → Outcome A → Type 0) (second : A → List ℕ → Outcome B → Type 0) (one : HasOneOutcome first) (other : (a : A) → HasOneOutcome (second a)) where
  -- What is asked of the second value after an outcome of the first one.
  abbrev After : Outcome A → Outcome B → Type 0
  After (encodes a ys) o = second a ys o
  After (fails kind) o = ⊥

  abbrev outcome_after : Outcome A → Outcome B
  outcome_after (encodes a ys) = (other a ys).0
  outcome_after (fails kind) = fails kind

  after_only : (o : Outcome A) (p : Outcome B) → After o p → p ≡ outcome_after o
  after_only (encodes a ys) p t = (other a ys).2 p t
  after_only (fails kind) p t = absurd t

  abbrev pair_up : Outcome A → Outcome B → Outcome (A × B)
  pair_up (encodes a ys) (encodes b zs) = encodes (a, b) zs
  pair_up (encodes a ys) (fails kind) = fails kind
  pair_up (fails kind) p = fails kind

  both_after : (xs : List ℕ) (a : A) (ys : List ℕ) → first xs (encodes a ys) → (p : Outcome B) → second a ys p → both first second xs (pair_up (encodes a ys) p)
  both_after xs a ys s (encodes b zs) t = record { middle = ys; starts = s; goes_on = t }
  both_after xs a ys s (fails kind) t = inr record { value = a; middle = ys; starts = s; error = t }

  both_there : (xs : List ℕ) (o : Outcome A) → first xs o → both first second xs (pair_up o (outcome_after o))
  both_there xs (encodes a ys) s = both_after xs a ys s (other a ys).0 (other a ys).1
  both_there xs (fails kind) s = inl s

  both_only : (xs : List ℕ) (o : Outcome A) → ((p : Outcome A) → first xs p → p ≡ o) → (p : Outcome (A × B)) → both first second xs p → p ≡ pair_up o (outcome_after o)
  both_only xs o only (encodes v r) q =
      let e = only (encodes v.0 q.middle) q.starts in
      let t : After o (encodes v.1 r) = subst (λ (w : Outcome A). After w (encodes v.1 r)) e q.goes_on in
      let d = after_only o (encodes v.1 r) t in
      λ i. pair_up (e i) (d i)
  both_only xs o only (fails kind) (inl s) = let e = only (fails kind) s in λ i. pair_up (e i) (outcome_after o)
  both_only xs o only (fails kind) (inr q) =
      let e = only (encodes q.value q.middle) q.starts in
      let t : After o (fails kind) = subst (λ (w : Outcome A). After w (fails kind)) e q.error in
      let d = after_only o (fails kind) t in
      λ i. pair_up (e i) (d i)

  pub one_both : HasOneOutcome (both first second)
  one_both xs = let o = one xs in (pair_up o.0 (outcome_after o.0), both_there xs o.0 o.1, both_only xs o.0 o.2)

  abbrev led_to : Outcome A → Outcome B → Outcome B
  led_to (encodes a ys) p = p
  led_to (fails kind) p = fails kind

  led_after : (xs : List ℕ) (a : A) (ys : List ℕ) → first xs (encodes a ys) → (p : Outcome B) → second a ys p → led first second xs p
  led_after xs a ys s (encodes b zs) t = record { lead = a; middle = ys; starts = s; goes_on = t }
  led_after xs a ys s (fails kind) t = inr record { value = a; middle = ys; starts = s; error = t }

  led_there : (xs : List ℕ) (o : Outcome A) → first xs o → led first second xs (led_to o (outcome_after o))
  led_there xs (encodes a ys) s = led_after xs a ys s (other a ys).0 (other a ys).1
  led_there xs (fails kind) s = inl s

  led_only : (xs : List ℕ) (o : Outcome A) → ((p : Outcome A) → first xs p → p ≡ o) → (p : Outcome B) → led first second xs p → p ≡ led_to o (outcome_after o)
  led_only xs o only (encodes v r) q =
      let e = only (encodes q.lead q.middle) q.starts in
      let t : After o (encodes v r) = subst (λ (w : Outcome A). After w (encodes v r)) e q.goes_on in
      let d = after_only o (encodes v r) t in
      λ i. led_to (e i) (d i)
  led_only xs o only (fails kind) (inl s) = let e = only (fails kind) s in λ i. led_to (e i) (outcome_after o)
  led_only xs o only (fails kind) (inr q) =
      let e = only (encodes q.value q.middle) q.starts in
      let t : After o (fails kind) = subst (λ (w : Outcome A). After w (fails kind)) e q.error in
      let d = after_only o (fails kind) t in
      λ i. led_to (e i) (d i)

  pub one_led : HasOneOutcome (led first second)
  one_led xs = let o = one xs in (led_to o.0 (outcome_after o.0), led_there xs o.0 o.1, led_only xs o.0 o.2)

-- Two formats with the same outcomes.
pub one_same : {V : Type 0} (f g : List ℕ → Outcome V → Type 0) → ((xs : List ℕ) (o : Outcome V) → f xs o → g xs o) → ((xs : List ℕ) (o : Outcome V) → g xs o → f xs o)
    → HasOneOutcome f → HasOneOutcome g
one_same f g to from one xs = let o = one xs in (o.0, to xs o.0 o.1, λ p q. o.2 p (from xs p q))

module _ {V : Type 0} (format : List ℕ → Outcome V → Type 0) (one : HasOneOutcome format) where
  abbrev some_of : Outcome V → Outcome (Option V)
  some_of (encodes v r) = encodes (Some v) r
  some_of (fails kind) = fails kind

  some_there : (xs : List ℕ) (o : Outcome V) → format xs o → optional true format xs (some_of o)
  some_there xs (encodes v r) q = (refl, q)
  some_there xs (fails kind) q = (refl, q)

  some_only : (xs : List ℕ) (o : Outcome V) → ((p : Outcome V) → format xs p → p ≡ o) → (p : Outcome (Option V)) → optional true format xs p → p ≡ some_of o
  some_only xs o only (encodes (Some v) r) q = let e = only (encodes v r) q.1 in λ i. some_of (e i)
  some_only xs o only (encodes None r) q = let e : true ≡ false = q.0 in absurd cc
  some_only xs o only (fails kind) q = let e = only (fails kind) q.1 in λ i. some_of (e i)

  none_only : (xs : List ℕ) (p : Outcome (Option V)) → optional false format xs p → p ≡ encodes None xs
  none_only xs (encodes (Some v) r) q = let e : false ≡ true = q.0 in absurd cc
  none_only xs (encodes None r) q = λ i. encodes None (q.1 i)
  none_only xs (fails kind) q = let e : false ≡ true = q.0 in absurd cc

  pub one_optional : (present : Bool) → HasOneOutcome (optional present format)
  one_optional true xs = let o = one xs in (some_of o.0, some_there xs o.0 o.1, some_only xs o.0 o.2)
  one_optional false xs = (encodes None xs, (refl, refl), none_only xs)

abbrev more : ℕ → Outcome (List ℕ) → Outcome (List ℕ)
more x (encodes t r) = encodes (x ∷ t) r
more x (fails kind) = fails kind

header_same : (a b : ℕ) (xs ys : List ℕ) → a ∷ xs ≡ b ∷ ys → a ≡ b
header_same a b xs ys e = cc

tail_same : (a b : ℕ) (xs ys : List ℕ) → a ∷ xs ≡ b ∷ ys → xs ≡ ys
tail_same a b xs ys e = cc

none_in_empty : HasNoNul []
none_in_empty = λ k d lt. absurd (omega arith)

first_of_text : (x : ℕ) (xs : List ℕ) → HasNoNul (x ∷ xs) → x ≡ 0 → ⊥
first_of_text x xs none = none 0 0 (omega arith)

text_end_only : (x : ℕ) (xs : List ℕ) → x ≡ 0 → (p : Outcome (List ℕ)) → text (x ∷ xs) p → p ≡ encodes [] xs
text_end_only x xs e (encodes [] r) q = λ i. encodes [] (sym (tail_same x 0 xs r q.split) i)
text_end_only x xs e (encodes (y ∷ t) r) q = absurd (first_of_text y t q.no_nul (sym (header_same x y xs (t ++ (0 ∷ r)) q.split) ∙ e))
text_end_only x xs e (fails kind) q = absurd (first_of_text x xs q.no_nul e)

text_more_there : (x : ℕ) (xs : List ℕ) → (x ≡ 0 → ⊥) → (o : Outcome (List ℕ)) → text xs o → text (x ∷ xs) (more x o)
text_more_there x xs h (encodes t r) q = record { split = λ i. x ∷ q.split i; no_nul = All-cons (λ b. b ≡ 0 → ⊥) x t h q.no_nul }
text_more_there x xs h (fails kind) q = record { no_nul = All-cons (λ b. b ≡ 0 → ⊥) x xs h q.no_nul; kind_is = q.kind_is }

text_more_only : (x : ℕ) (xs : List ℕ) → (x ≡ 0 → ⊥) → (o : Outcome (List ℕ)) → ((p : Outcome (List ℕ)) → text xs p → p ≡ o) → (p : Outcome (List ℕ)) → text (x ∷ xs) p → p ≡ more x o
text_more_only x xs h o only (encodes [] r) q = absurd (h (header_same x 0 xs r q.split))
text_more_only x xs h o only (encodes (y ∷ t) r) q =
    let same = sym (header_same x y xs (t ++ (0 ∷ r)) q.split) in
    let e = only (encodes t r) (record { split = tail_same x y xs (t ++ (0 ∷ r)) q.split; no_nul = All-tail (λ b. b ≡ 0 → ⊥) y t q.no_nul }) in
    λ i. more (same i) (e i)
text_more_only x xs h o only (fails kind) q =
    let e = only (fails kind) (record { no_nul = All-tail (λ b. b ≡ 0 → ⊥) x xs q.no_nul; kind_is = q.kind_is }) in
    λ i. more x (e i)

no_text_only : (p : Outcome (List ℕ)) → text [] p → p ≡ fails InvalidData
no_text_only (encodes [] r) q = let e : [] ≡ 0 ∷ r = q.split in absurd cc
no_text_only (encodes (y ∷ t) r) q = let e : [] ≡ y ∷ (t ++ (0 ∷ r)) = q.split in absurd cc
no_text_only (fails kind) q = ap (λ k. fails k) q.kind_is

pub one_text : HasOneOutcome text
one_text [] = (fails InvalidData, record { no_nul = none_in_empty; kind_is = refl }, no_text_only)
one_text (x ∷ xs) = elim (cases_eq x 0) [
  | inl e ↦ (encodes [] xs, record { split = λ i. e i ∷ xs; no_nul = none_in_empty }, text_end_only x xs e)
  | inr h ↦ let o = one_text xs in (more x o.0, text_more_there x xs h o.0 o.1, text_more_only x xs h o.0 o.2)
]

module _ {V : Type 0} (n : ℕ) (value_of : List ℕ → V) where
  to_text : (xs : List ℕ) (o : Outcome (V × List ℕ)) → both (fixed n value_of) (λ _. text) xs o → fixed_and_text n value_of xs o
  to_text xs (encodes v r) q = record { enough = q.starts.enough; value_is = q.starts.value_is; string_is = subst (λ (l : List ℕ). SplitsAtNul l v.1 r) q.starts.rest_is q.goes_on }
  to_text xs (fails kind) (inl q) = inl q
  to_text xs (fails kind) (inr q) = inr record { enough = q.starts.enough; unterminated = subst (λ (l : List ℕ). IsUnterminated l kind) q.starts.rest_is q.error }

  from_text : (xs : List ℕ) (o : Outcome (V × List ℕ)) → fixed_and_text n value_of xs o → both (fixed n value_of) (λ _. text) xs o
  from_text xs (encodes v r) q = record { middle = drop n xs; starts = record { enough = q.enough; value_is = q.value_is; rest_is = refl }; goes_on = q.string_is }
  from_text xs (fails kind) (inl q) = inl q
  from_text xs (fails kind) (inr q) = inr record { value = value_of (take n xs); middle = drop n xs; starts = record { enough = q.enough; value_is = refl; rest_is = refl }; error = q.unterminated }

  pub one_fixed_and_text : HasOneOutcome (fixed_and_text n value_of)
  one_fixed_and_text = one_same (both (fixed n value_of) (λ _. text)) (fixed_and_text n value_of) to_text from_text (one_both (fixed n value_of) (λ _. text) (one_fixed n value_of) (λ _. one_text))

module _ {V : Type 0} (n : ℕ) (value_of : List ℕ → V) (size_of : List ℕ → ℕ) where
  block_too_few : (xs : List ℕ) → length xs < n → (p : Outcome (V × List ℕ)) → fixed_and_block n value_of size_of xs p → p ≡ fails UnexpectedEof
  block_too_few xs fewer (encodes v r) q = let enough : n ≤ length xs = q.enough in absurd (omega arith)
  block_too_few xs fewer (fails kind) (inl q) = ap (λ k. fails k) q.kind_is
  block_too_few xs fewer (fails kind) (inr q) = ap (λ k. fails k) q.truncated.kind_is

  block_short : (xs : List ℕ) → length (drop n xs) < size_of (take n xs) → (p : Outcome (V × List ℕ)) → fixed_and_block n value_of size_of xs p → p ≡ fails UnexpectedEof
  block_short xs fewer (encodes v r) q = let enough : size_of (take n xs) ≤ length (drop n xs) = q.block_is.enough in absurd (omega arith)
  block_short xs fewer (fails kind) (inl q) = ap (λ k. fails k) q.kind_is
  block_short xs fewer (fails kind) (inr q) = ap (λ k. fails k) q.truncated.kind_is

  block_full : (xs : List ℕ) → n ≤ length xs → size_of (take n xs) ≤ length (drop n xs) → (p : Outcome (V × List ℕ)) → fixed_and_block n value_of size_of xs p
      → p ≡ encodes (value_of (take n xs), take (size_of (take n xs)) (drop n xs)) (drop (size_of (take n xs)) (drop n xs))
  block_full xs all more (encodes v r) q = λ i. encodes (q.value_is i, q.block_is.block_is i) (q.block_is.rest_is i)
  block_full xs all more (fails kind) (inl q) = let fewer : length xs < n = q.too_few in absurd (omega arith)
  block_full xs all more (fails kind) (inr q) = let fewer : length (drop n xs) < size_of (take n xs) = q.truncated.too_few in absurd (omega arith)

  pub one_fixed_and_block : HasOneOutcome (fixed_and_block n value_of size_of)
  one_fixed_and_block xs = elim (cases_lt (length xs) n) [
    | inl fewer ↦ (fails UnexpectedEof, inl record { too_few = fewer; kind_is = refl }, block_too_few xs fewer)
    | inr all ↦ elim (cases_lt (length (drop n xs)) (size_of (take n xs))) [
      | inl fewer ↦ (fails UnexpectedEof, inr record { enough = all; truncated = record { too_few = fewer; kind_is = refl } }, block_short xs fewer)
      | inr more ↦ (
        encodes (value_of (take n xs), take (size_of (take n xs)) (drop n xs)) (drop (size_of (take n xs)) (drop n xs)),
        record { enough = all; value_is = refl; block_is = record { enough = more; block_is = refl; rest_is = refl } },
        block_full xs all more,
      )
    ]
  ]

module _ {V : Type 0} (number : ℕ → List ℕ → ℕ) (n : ℕ) (value_of : List ℕ → V) (size_of : List ℕ → ℕ) where
  numbers_too_few : (xs : List ℕ) → length xs < n → (p : Outcome (V × List ℕ)) → fixed_and_u64s number n value_of size_of xs p → p ≡ fails UnexpectedEof
  numbers_too_few xs fewer (encodes v r) q = let enough : n ≤ length xs = q.enough in absurd (omega arith)
  numbers_too_few xs fewer (fails kind) (inl q) = ap (λ k. fails k) q.kind_is
  numbers_too_few xs fewer (fails kind) (inr q) = ap (λ k. fails k) q.truncated.kind_is

  numbers_short : (xs : List ℕ) → length (drop n xs) < 8 * size_of (take n xs) → (p : Outcome (V × List ℕ)) → fixed_and_u64s number n value_of size_of xs p → p ≡ fails UnexpectedEof
  numbers_short xs fewer (encodes v r) q = let enough : 8 * size_of (take n xs) ≤ length (drop n xs) = q.numbers_are.enough in absurd (omega arith)
  numbers_short xs fewer (fails kind) (inl q) = ap (λ k. fails k) q.kind_is
  numbers_short xs fewer (fails kind) (inr q) = ap (λ k. fails k) q.truncated.kind_is

  numbers_full : (xs : List ℕ) → n ≤ length xs → 8 * size_of (take n xs) ≤ length (drop n xs) → (p : Outcome (V × List ℕ)) → fixed_and_u64s number n value_of size_of xs p
      → p ≡ encodes (value_of (take n xs), u64s_of number (size_of (take n xs)) (drop n xs)) (drop (8 * size_of (take n xs)) (drop n xs))
  numbers_full xs all more (encodes v r) q = λ i. encodes (q.value_is i, q.numbers_are.values_are i) (q.numbers_are.rest_is i)
  numbers_full xs all more (fails kind) (inl q) = let fewer : length xs < n = q.too_few in absurd (omega arith)
  numbers_full xs all more (fails kind) (inr q) = let fewer : length (drop n xs) < 8 * size_of (take n xs) = q.truncated.too_few in absurd (omega arith)

  pub one_fixed_and_u64s : HasOneOutcome (fixed_and_u64s number n value_of size_of)
  one_fixed_and_u64s xs = elim (cases_lt (length xs) n) [
    | inl fewer ↦ (fails UnexpectedEof, inl record { too_few = fewer; kind_is = refl }, numbers_too_few xs fewer)
    | inr all ↦ elim (cases_lt (length (drop n xs)) (8 * size_of (take n xs))) [
      | inl fewer ↦ (fails UnexpectedEof, inr record { enough = all; truncated = record { too_few = fewer; kind_is = refl } }, numbers_short xs fewer)
      | inr more ↦ (
        encodes (value_of (take n xs), u64s_of number (size_of (take n xs)) (drop n xs)) (drop (8 * size_of (take n xs)) (drop n xs)),
        record { enough = all; value_is = refl; numbers_are = record { enough = more; values_are = refl; rest_is = refl } },
        numbers_full xs all more,
      )
    ]
  ]
