-- A symbol over all others, whose two boundaries are the last ones.
use Rattle.std.proofs.Common.{◌≡◌, ℕ, ◌+◌, ◌-◌, ◌<◌, ◌≤◌, inl, inr, List, [], ◌∷◌, ◌++◌, length, take, get_or, refl, sym, ap, ◌∙◌, arith, Bool, true, false, Option, Some, None}
use Rattle.std.specs.Prelude.{if◌then◌else◌, nat_le, nat_lt, ◌&&◌, is_some}
use Rattle.std.specs.List.Sorted.{IsNonDecreasingBy}
use Rattle.std.proofs.lemmas.Bool.{cases_lt, le-leb, lt-leb, lt-ltb, le-ltb, cond-true, cond-false, true≢false, false≢true}
use Rattle.std.proofs.lemmas.List.{take_all, get_or_default, get_or-take, length-append, length-take-le}
use Rattle.std.proofs.Math.Seq.{get_or-append_seam}
use Rattle.std.proofs.lemmas.List.Sorted.{IsNonDecreasingBy-push, IsNonDecreasingBy-take}
use Rattle.code_symbols.specs.Boundaries.{covers, later_of, symbol_from}
use Rattle.code_symbols.specs.steps.Boundaries.{IsAppendPoint}
use Rattle.code_symbols.specs.declared.boundary.Boundary.{Boundary}
use Rattle.code_symbols.proofs.BoundaryLemmas.{symbol_from-push}
use Rattle.code_symbols.proofs.MergeLemmas.{symbol-more}

-- the symbol of boundaries by their last one
last_boundary : (cs : List Boundary) (c : Boundary) (x : ℕ) → 0 < length cs → c ≡ get_or cs (length cs - 1) c
    → symbol_from None cs x ≡ (if nat_le c.start x then c.symbol else symbol_from None (take (length cs - 1) cs) x)
last_boundary cs c x some is =
    let lt : length cs - 1 < length cs = omega (arith, some) in
    let all : length cs ≤ length cs - 1 + 1 = omega arith in
    sym (ap (λ ks. symbol_from None ks x) (take_all (length cs - 1 + 1) cs all)) ∙ symbol-more cs (length cs - 1) c x lt is

-- where the two boundaries of a symbol can come, by the last boundary
module _ (cs : List Boundary) (start stop : ℕ) (c : Boundary) (some : 0 < length cs) (is : c ≡ get_or cs (length cs - 1) c) (none : c.symbol ≡ None) (ends : c.start ≤ stop) where
  after_last : (x : ℕ) → stop ≤ x → symbol_from None cs x ≡ None
  after_last x le =
      last_boundary cs c x some is
      ∙ cond-true (nat_le c.start x) c.symbol (symbol_from None (take (length cs - 1) cs) x) (le-leb c.start x (omega (arith, ends, le)))
      ∙ none

  -- after all boundaries
  pub append_after : c.start ≤ start → IsAppendPoint cs start stop (length cs)
  append_after low = record {
    within = omega arith;
    last = λ d lt. omega (arith, low, ap (λ e. e.start) is, ap (λ e. e.start) (get_or_default cs (length cs - 1) d c (omega (arith, some))));
    before = λ x lt. ap (λ ks. symbol_from None ks x) (take_all (length cs) cs (omega arith));
    after = after_last;
  }

  -- in place of the last boundary
  pub append_before : start < c.start → ((d : Boundary) → 1 < length cs → (get_or cs (length cs - 2) d).start ≤ start) → IsAppendPoint cs start stop (length cs - 1)
  append_before high second = record {
    within = omega arith;
    last = λ d more. let same : length cs - 1 - 1 ≡ length cs - 2 = omega arith in omega (arith, second d (omega (arith, more)), ap (λ k. (get_or cs k d).start) same);
    before = λ x low. sym (last_boundary cs c x some is
        ∙ cond-false (nat_le c.start x) c.symbol (symbol_from None (take (length cs - 1) cs) x) (lt-leb c.start x (omega (arith, low, high))));
    after = after_last;
  }

-- addresses before the symbol, in it and after it, by the tests of its end, its start and both
below : (a b c : Bool) (i : ℕ) (k old : Option ℕ) → a ≡ false → b ≡ false → k ≡ old
    → (if a then None else (if b then Some i else k)) ≡ later_of old (if b && c then Some i else None)
below true b c i k old h g e = absurd (true≢false h)
below false true c i k old h g e = absurd (true≢false g)
below false false c i k old h g e = e

inside : (a b c : Bool) (i : ℕ) (k old : Option ℕ) → a ≡ false → b ≡ true → c ≡ true
    → (if a then None else (if b then Some i else k)) ≡ later_of old (if b && c then Some i else None)
inside true b c i k old h g e = absurd (true≢false h)
inside false false c i k old h g e = absurd (false≢true g)
inside false true false i k old h g e = absurd (false≢true e)
inside false true true i k old h g e = refl

above : (a b c : Bool) (i : ℕ) (k old : Option ℕ) → a ≡ true → c ≡ false → old ≡ None
    → (if a then None else (if b then Some i else k)) ≡ later_of old (if b && c then Some i else None)
above false b c i k old h g e = absurd (false≢true h)
above true b true i k old h g e = absurd (true≢false g)
above true true false i k old h g e = sym e
above true false false i k old h g e = sym e

-- boundaries with the two boundaries of one more symbol
module _ (cs : List Boundary) (start size stop kept i : ℕ) (some : 0 < size) (at : stop ≡ start + size) (p : IsAppendPoint cs start stop kept) where
  -- the symbols after the two boundaries
  pub appended-same : (x : ℕ) → symbol_from None ((take kept cs ++ record { start = start; symbol = Some i } ∷ []) ++ record { start = stop; symbol = None } ∷ []) x
      ≡ later_of (symbol_from None cs x) (if covers start size x then Some i else None)
  appended-same x =
      let first : Boundary = record { start = start; symbol = Some i } in
      let second : Boundary = record { start = stop; symbol = None } in
      let k : Option ℕ = symbol_from None (take kept cs) x in
      let old : Option ℕ = symbol_from None cs x in
      symbol_from-push None (take kept cs ++ first ∷ []) second x
      ∙ ap (λ s. if nat_le stop x then None else s) (symbol_from-push None (take kept cs) first x)
      ∙ elim (cases_lt x start) [
        | inl low ↦ below (nat_le stop x) (nat_le start x) (nat_lt x (start + size)) i k old (lt-leb stop x (omega (arith, at, low))) (lt-leb start x low) (p.before x low)
        | inr high ↦ elim (cases_lt x stop) [
          | inl within ↦ inside (nat_le stop x) (nat_le start x) (nat_lt x (start + size)) i k old (lt-leb stop x within) (le-leb start x high) (lt-ltb x (start + size) (omega (arith, at, within)))
          | inr after ↦ above (nat_le stop x) (nat_le start x) (nat_lt x (start + size)) i k old (le-leb stop x after) (le-ltb x (start + size) (omega (arith, at, after))) (p.after x after)
        ]
      ]

  -- the first of the two boundaries keeps the order
  pub sorted-first : IsNonDecreasingBy (λ c. c.start) cs → IsNonDecreasingBy (λ c. c.start) (take kept cs ++ record { start = start; symbol = Some i } ∷ [])
  sorted-first up =
      let count : length (take kept cs) ≡ kept = length-take-le kept cs p.within in
      IsNonDecreasingBy-push (λ c. c.start) (take kept cs) (record { start = start; symbol = Some i }) (IsNonDecreasingBy-take (λ c. c.start) kept cs up) (λ d more.
      let some_kept : 0 < kept = omega (arith, count, more) in
      let same : length (take kept cs) - 1 ≡ kept - 1 = omega (arith, count) in
      omega (arith, p.last d some_kept, ap (λ k. (get_or (take kept cs) k d).start) same, ap (λ e. e.start) (get_or-take kept cs (kept - 1) d (omega (arith, some_kept)))))

  -- the second of the two boundaries keeps the order
  pub sorted-second : (pushed : Bool) → IsNonDecreasingBy (λ c. c.start) cs
      → IsNonDecreasingBy (λ c. c.start) (if pushed then (take kept cs ++ record { start = start; symbol = Some i } ∷ []) ++ record { start = stop; symbol = None } ∷ []
      else take kept cs ++ record { start = start; symbol = Some i } ∷ [])
  sorted-second false up = sorted-first up
  sorted-second true up =
      let first : Boundary = record { start = start; symbol = Some i } in
      let count : length (take kept cs ++ first ∷ []) - 1 ≡ length (take kept cs) = omega (arith, length-append (take kept cs) (first ∷ [])) in
      IsNonDecreasingBy-push (λ c. c.start) (take kept cs ++ first ∷ []) (record { start = stop; symbol = None }) (sorted-first up) (λ d more.
      omega (arith, at, ap (λ k. (get_or (take kept cs ++ first ∷ []) k d).start) count, ap (λ e. e.start) (get_or-append_seam (take kept cs) first [] d)))

-- no symbol, by the test
pub none_of : (o : Option ℕ) → is_some o ≡ false → o ≡ None
none_of None h = refl
none_of (Some i) h = absurd (true≢false h)

-- the boundary that stands for one outside a list
abbrev pub none_boundary : Boundary
none_boundary = record { start = 0; symbol = None }
