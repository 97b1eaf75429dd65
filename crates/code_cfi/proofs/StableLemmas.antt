-- The FDE at an address is the same in the order of the section as in that of the first addresses.
use Rattle.std.proofs.Common.{◌≡◌, ℕ, ◌<◌, ◌≤◌, List, [], ◌∷◌, length, get_or, suc, zero, refl, sym, ap, ◌∙◌, subst, arith, Bool, true, false, cond, not, ltb}
use Rattle.std.specs.List.{filter}
use Rattle.std.specs.List.Sorted.{ties, IsStableByKey}
use Rattle.std.specs.Ordering.{nat_cmp, is_lt}
use Rattle.std.specs.Prelude.{nat_lt, ◌==◌}
use Rattle.std.specs.declared.cmp.Ordering.TheVariants.{Less, Equal, Greater}
use Rattle.std.proofs.lemmas.Bool.{true≢false, le-ltb, ltb-false, and_from, and_parts}
use Rattle.code_cfi.specs.Tables.{IsNearest}
use Rattle.code_cfi.specs.declared.fde.Fde.{Fde}

-- the test of a stable sort: neither first address is below the other
less_by : (b c : Bool) → is_lt (cond b Less (cond c Equal Greater)) ≡ b
less_by true c = refl
less_by false true = refl
less_by false false = refl

less_is : (m n : ℕ) → is_lt (nat_cmp m n) ≡ ltb m n
less_is m n = less_by (nat_lt m n) (m == n)

not_both : (b : Bool) → not b ≡ true → b ≡ false
not_both true e = sym e
not_both false e = refl

abbrev same_start : Fde → Fde → Bool
same_start = ties (λ (x : Fde) (y : Fde). is_lt (nat_cmp x.start y.start))

not_less : (m n : ℕ) → m ≡ n → not (is_lt (nat_cmp m n)) ≡ true
not_less m n e = ap not (less_is m n ∙ le-ltb m n (omega (arith, e)))

starts_tie : (f g : Fde) → f.start ≡ g.start → same_start f g ≡ true
starts_tie f g e = and_from (not (is_lt (nat_cmp f.start g.start))) (not (is_lt (nat_cmp g.start f.start))) (not_less f.start g.start e) (not_less g.start f.start (sym e))

tied_starts : (f g : Fde) → same_start f g ≡ true → f.start ≡ g.start
tied_starts f g tie =
    let parts = and_parts (not (is_lt (nat_cmp f.start g.start))) (not (is_lt (nat_cmp g.start f.start))) tie in
    let one = ltb-false f.start g.start (sym (less_is f.start g.start) ∙ not_both (is_lt (nat_cmp f.start g.start)) parts.0) in
    let two = ltb-false g.start f.start (sym (less_is g.start f.start) ∙ not_both (is_lt (nat_cmp g.start f.start)) parts.1) in
    omega (arith, one, two)

-- the first element that passes a test
record First (t : Fde → Bool) (xs : List Fde) (x : Fde) : Type 0 where
  index : ℕ
  within : index < length xs
  is : (d : Fde) → get_or xs index d ≡ x
  passes : t x ≡ true
  least : (j : ℕ) (d : Fde) → j < length xs → t (get_or xs j d) ≡ true → index ≤ j

module _ (t : Fde → Bool) where
  first_later : (y : Fde) (ys : List Fde) (x : Fde) → t y ≡ false → First t ys x → First t (y ∷ ys) x
  first_later y ys x fails first = record {
    index = suc first.index;
    within = (let h = first.within in omega (arith, h));
    is = λ d. first.is d;
    passes = first.passes;
    least = least_later;
  }
    where
      least_later : (j : ℕ) (d : Fde) → j < length (y ∷ ys) → t (get_or (y ∷ ys) j d) ≡ true → suc first.index ≤ j
      least_later zero d within passes = absurd (true≢false (sym passes ∙ fails))
      least_later (suc j) d within passes = let h = first.least j d (omega (arith, within)) passes in omega (arith, h)

  first_now : (y : Fde) (ys : List Fde) → t y ≡ true → First t (y ∷ ys) y
  first_now y ys passes = record { index = 0; within = omega arith; is = λ d. refl; passes = passes; least = λ j d within p. omega arith }

  not_nil : (x : Fde) (xs : List Fde) → [] ≡ x ∷ xs → ⊥
  not_nil x xs e = let sizes = ap (λ (l : List Fde). length l) e in omega (arith, sizes)

  -- it is the head of those that pass
  head_step : (y : Fde) (ys : List Fde) (x : Fde) (xs : List Fde) (b : Bool) → t y ≡ b → (filter t ys ≡ x ∷ xs → First t ys x) → filter t (y ∷ ys) ≡ x ∷ xs → First t (y ∷ ys) x
  head_step y ys x xs true is more e =
      let kept : y ∷ filter t ys ≡ x ∷ xs = ap (λ (b : Bool). cond b (y ∷ filter t ys) (filter t ys)) (sym is) ∙ e in
      let same : y ≡ x = ap (λ (l : List Fde). get_or l 0 y) kept in
      subst (λ (z : Fde). First t (y ∷ ys) z) same (first_now y ys is)
  head_step y ys x xs false is more e =
      let dropped : filter t ys ≡ x ∷ xs = ap (λ (b : Bool). cond b (y ∷ filter t ys) (filter t ys)) (sym is) ∙ e in
      first_later y ys x is (more dropped)

  head_first : (ys : List Fde) (x : Fde) (xs : List Fde) → filter t ys ≡ x ∷ xs → First t ys x
  head_first [] x xs e = absurd (not_nil x xs e)
  head_first (y ∷ ys) x xs e = head_step y ys x xs (t y) refl (head_first ys x xs) e

  -- there is one if an element passes
  abbrev HasHead : List Fde → Type 0
  HasHead ys = (x : Fde) × (xs : List Fde) × (filter t ys ≡ x ∷ xs)

  head_later : (y : Fde) (ys : List Fde) (b : Bool) → t y ≡ b → HasHead ys → HasHead (y ∷ ys)
  head_later y ys true is more = (y, filter t ys, ap (λ (b : Bool). cond b (y ∷ filter t ys) (filter t ys)) is)
  head_later y ys false is more = (more.0, more.1, ap (λ (b : Bool). cond b (y ∷ filter t ys) (filter t ys)) is ∙ more.2)

  some_head : (ys : List Fde) (j : ℕ) (d : Fde) → j < length ys → t (get_or ys j d) ≡ true → HasHead ys
  some_head [] j d within passes = absurd (omega (arith, within))
  some_head (y ∷ ys) zero d within passes = (y, filter t ys, ap (λ (b : Bool). cond b (y ∷ filter t ys) (filter t ys)) passes)
  some_head (y ∷ ys) (suc j) d within passes = head_later y ys (t y) refl (some_head ys j d (omega (arith, within)) passes)

-- the nearest FDE of one list is that of the other
pub nearest_moves : (xs ys : List Fde) (at i : ℕ) (f : Fde) → IsStableByKey (λ (h : Fde). h.start) nat_cmp xs ys → IsNearest xs at i f → (k : ℕ) × IsNearest ys at k f
nearest_moves xs ys at i f stable near =
    let own = starts_tie f (get_or xs i f) (ap (λ (h : Fde). h.start) near.fde_is) in
    let some = some_head (same_start f) xs i f near.within own in
    let here = head_first (same_start f) xs some.0 some.1 some.2 in
    let there = head_first (same_start f) ys some.0 some.1 (stable f ∙ some.2) in
    let before = here.least i f near.within own in
    let start : (get_or xs here.index f).start ≡ f.start = ap (λ (h : Fde). h.start) (here.is f) ∙ sym (tied_starts f some.0 here.passes) in
    let after = near.first here.index here.within start in
    let index : here.index ≡ i = omega (arith, before, after) in
    let same : some.0 ≡ f = sym (here.is f) ∙ ap (λ k. get_or xs k f) index ∙ sym near.fde_is in (
      there.index,
      record {
        within = there.within;
        fde_is = sym (there.is f ∙ same);
        starts = near.starts;
        greatest = λ j d within small.
            let g = get_or ys j d in
            let other = some_head (same_start g) ys j d within (starts_tie g g refl) in
            let found = head_first (same_start g) xs other.0 other.1 (sym (stable g) ∙ other.2) in
            let equal : (get_or xs found.index d).start ≡ g.start = ap (λ (h : Fde). h.start) (found.is d) ∙ sym (tied_starts g other.0 found.passes) in
            let most = near.greatest found.index d found.within (omega (arith, equal, small)) in
            omega (arith, most, equal);
        first = λ j within equal. there.least j f within (starts_tie f (get_or ys j f) (sym equal));
      },
    )

pub stable_back : (xs ys : List Fde) → IsStableByKey (λ (h : Fde). h.start) nat_cmp xs ys → IsStableByKey (λ (h : Fde). h.start) nat_cmp ys xs
stable_back xs ys stable x = sym (stable x)
