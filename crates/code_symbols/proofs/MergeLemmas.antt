-- Boundaries over other boundaries, up to a state.
use Rattle.std.proofs.Common.{◌≡◌, ℕ, ◌+◌, ◌-◌, ◌<◌, ◌≤◌, List, [], ◌∷◌, ◌++◌, length, take, get_or, refl, sym, subst, ap, ◌∙◌, arith, Bool, true, false, Option, None}
use Rattle.std.specs.Prelude.{if◌then◌else◌, nat_le, All}
use Rattle.std.specs.List.Sorted.{IsNonDecreasingBy}
use Rattle.std.proofs.lemmas.Bool.{leb-true, le-leb, cond-true}
use Rattle.std.proofs.lemmas.List.{take_more, get_or_default}
use Rattle.std.proofs.lemmas.List.Elements.{All-push}
use Rattle.std.proofs.lemmas.List.Sorted.{IsNonDecreasingBy-push}
use Rattle.code_symbols.specs.Boundaries.{later_of, symbol_from}
use Rattle.code_symbols.specs.steps.Merge.{TakesLower, TakesUpper}
use Rattle.code_symbols.specs.declared.boundary.Boundary.{Boundary}
use Rattle.code_symbols.specs.declared.merge.MergeState.{MergeState}
use Rattle.code_symbols.proofs.BoundaryLemmas.{symbol_from-push}

-- the boundaries so far, of the boundaries of two lists up to a state
pub record Merges (lower upper : List Boundary) (f : MergeState) (out : List Boundary) : Type 0 where
  pub in_lower : f.lower_count ≤ length lower
  pub in_upper : f.upper_count ≤ length upper
  pub next_lower : (j : ℕ) (d : Boundary) → f.lower_count ≤ j → j < length lower → f.start ≤ (get_or lower j d).start
  pub next_upper : (j : ℕ) (d : Boundary) → f.upper_count ≤ j → j < length upper → f.start ≤ (get_or upper j d).start
  pub below_is : (x : ℕ) → f.start ≤ x → symbol_from None (take f.lower_count lower) x ≡ f.below
  pub above_is : (x : ℕ) → f.start ≤ x → symbol_from None (take f.upper_count upper) x ≡ f.above
  pub sorted : IsNonDecreasingBy (λ c. c.start) out
  pub bounded : All (λ c. c.start ≤ f.start) out
  pub same : (x : ℕ) → symbol_from None out x ≡ later_of (symbol_from None (take f.lower_count lower) x) (symbol_from None (take f.upper_count upper) x)

-- the symbol of one more boundary of a list
pub symbol-more : (cs : List Boundary) (i : ℕ) (c : Boundary) (x : ℕ) → i < length cs → c ≡ get_or cs i c
    → symbol_from None (take (i + 1) cs) x ≡ (if nat_le c.start x then c.symbol else symbol_from None (take i cs) x)
symbol-more cs i c x lt is =
    ap (λ ls. symbol_from None ls x) (take_more cs i c lt)
    ∙ symbol_from-push None (take i cs) (get_or cs i c) x
    ∙ ap (λ d. if nat_le d.start x then d.symbol else symbol_from None (take i cs) x) (sym is)

-- the choice after one more boundary of the lower list
chosen_lower : (b : Bool) (s out low up above out' low' : Option ℕ) → out' ≡ (if b then later_of s above else out) → low' ≡ (if b then s else low)
    → out ≡ later_of low up → (b ≡ true → up ≡ above) → out' ≡ later_of low' up
chosen_lower true s out low up above out' low' e1 e2 e3 h = e1 ∙ sym (ap (λ u. later_of s u) (h refl)) ∙ sym (ap (λ l. later_of l up) e2)
chosen_lower false s out low up above out' low' e1 e2 e3 h = e1 ∙ e3 ∙ sym (ap (λ l. later_of l up) e2)

-- the choice after one more boundary of the upper list
chosen_upper : (b : Bool) (s out low up below out' up' : Option ℕ) → out' ≡ (if b then later_of below s else out) → up' ≡ (if b then s else up)
    → out ≡ later_of low up → (b ≡ true → low ≡ below) → out' ≡ later_of low up'
chosen_upper true s out low up below out' up' e1 e2 e3 h = e1 ∙ sym (ap (λ l. later_of l s) (h refl)) ∙ sym (ap (λ u. later_of low u) e2)
chosen_upper false s out low up below out' up' e1 e2 e3 h = e1 ∙ e3 ∙ sym (ap (λ u. later_of low u) e2)

module _ (lower upper : List Boundary) (f : MergeState) (out : List Boundary) (up_lower : IsNonDecreasingBy (λ c. c.start) lower) (up_upper : IsNonDecreasingBy (λ c. c.start) upper) (o : Merges lower upper f out) where
  -- one more boundary of the lower list
  lower_at : (c : Boundary) → f.lower_count < length lower → c ≡ get_or lower f.lower_count c
      → ((d : Boundary) → f.upper_count < length upper → c.start ≤ (get_or upper f.upper_count d).start)
      → Merges lower upper (record f { lower_count = f.lower_count + 1; start = c.start; below = c.symbol })
      (out ++ record { start = c.start; symbol = later_of c.symbol f.above } ∷ [])
  lower_at c some is least =
      let start_is : c.start ≡ (get_or lower f.lower_count c).start = ap (λ d. d.start) is in
      let later : f.start ≤ c.start = omega (arith, start_is, o.next_lower f.lower_count c (omega arith) some) in
      let y : Boundary = record { start = c.start; symbol = later_of c.symbol f.above } in
      let old : All (λ d. d.start ≤ c.start) out = λ j d lt. omega (arith, later, o.bounded j d lt) in
      record {
        in_lower = omega (arith, some);
        in_upper = o.in_upper;
        next_lower = λ j d le lt. omega (arith, start_is, up_lower f.lower_count j c (omega (arith, le)) lt, ap (λ e. e.start) (get_or_default lower j d c lt));
        next_upper = λ j d le lt. omega (arith, least d (omega (arith, le, lt)), up_upper f.upper_count j d le lt);
        below_is = λ x le. symbol-more lower f.lower_count c x some is ∙ cond-true (nat_le c.start x) c.symbol (symbol_from None (take f.lower_count lower) x) (le-leb c.start x le);
        above_is = λ x le. o.above_is x (omega (arith, later, le));
        sorted = IsNonDecreasingBy-push (λ d. d.start) out y o.sorted (λ d some_out. old (length out - 1) d (omega (arith, some_out)));
        bounded = All-push (λ d. d.start ≤ c.start) out y old (omega arith);
        same = λ x. chosen_lower (nat_le c.start x) c.symbol (symbol_from None out x) (symbol_from None (take f.lower_count lower) x) (symbol_from None (take f.upper_count upper) x) f.above
            (symbol_from None (out ++ y ∷ []) x) (symbol_from None (take (f.lower_count + 1) lower) x)
            (symbol_from-push None out y x) (symbol-more lower f.lower_count c x some is) (o.same x)
            (λ yes. o.above_is x (omega (arith, later, leb-true c.start x yes)));
      }

  -- one more boundary of the upper list
  upper_at : (c : Boundary) → f.upper_count < length upper → c ≡ get_or upper f.upper_count c
      → ((d : Boundary) → f.lower_count < length lower → c.start ≤ (get_or lower f.lower_count d).start)
      → Merges lower upper (record f { upper_count = f.upper_count + 1; start = c.start; above = c.symbol })
      (out ++ record { start = c.start; symbol = later_of f.below c.symbol } ∷ [])
  upper_at c some is least =
      let start_is : c.start ≡ (get_or upper f.upper_count c).start = ap (λ d. d.start) is in
      let later : f.start ≤ c.start = omega (arith, start_is, o.next_upper f.upper_count c (omega arith) some) in
      let y : Boundary = record { start = c.start; symbol = later_of f.below c.symbol } in
      let old : All (λ d. d.start ≤ c.start) out = λ j d lt. omega (arith, later, o.bounded j d lt) in
      record {
        in_lower = o.in_lower;
        in_upper = omega (arith, some);
        next_lower = λ j d le lt. omega (arith, least d (omega (arith, le, lt)), up_lower f.lower_count j d le lt);
        next_upper = λ j d le lt. omega (arith, start_is, up_upper f.upper_count j c (omega (arith, le)) lt, ap (λ e. e.start) (get_or_default upper j d c lt));
        below_is = λ x le. o.below_is x (omega (arith, later, le));
        above_is = λ x le. symbol-more upper f.upper_count c x some is ∙ cond-true (nat_le c.start x) c.symbol (symbol_from None (take f.upper_count upper) x) (le-leb c.start x le);
        sorted = IsNonDecreasingBy-push (λ d. d.start) out y o.sorted (λ d some_out. old (length out - 1) d (omega (arith, some_out)));
        bounded = All-push (λ d. d.start ≤ c.start) out y old (omega arith);
        same = λ x. chosen_upper (nat_le c.start x) c.symbol (symbol_from None out x) (symbol_from None (take f.lower_count lower) x) (symbol_from None (take f.upper_count upper) x) f.below
            (symbol_from None (out ++ y ∷ []) x) (symbol_from None (take (f.upper_count + 1) upper) x)
            (symbol_from-push None out y x) (symbol-more upper f.upper_count c x some is) (o.same x)
            (λ yes. o.below_is x (omega (arith, later, leb-true c.start x yes)));
      }

  -- one more boundary, and the state after it
  pub merges_lower : (new : MergeState) → TakesLower lower upper f new → Merges lower upper new (out ++ record { start = new.start; symbol = later_of new.below new.above } ∷ [])
  merges_lower new t =
      subst (λ g. Merges lower upper g (out ++ record { start = g.start; symbol = later_of g.below g.above } ∷ [])) (sym t.state) (lower_at t.boundary t.some t.is_boundary t.least)

  pub merges_upper : (new : MergeState) → TakesUpper lower upper f new → Merges lower upper new (out ++ record { start = new.start; symbol = later_of new.below new.above } ∷ [])
  merges_upper new t =
      subst (λ g. Merges lower upper g (out ++ record { start = g.start; symbol = later_of g.below g.above } ∷ [])) (sym t.state) (upper_at t.boundary t.some t.is_boundary t.least)
