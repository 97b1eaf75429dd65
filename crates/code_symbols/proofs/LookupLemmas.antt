-- The symbol of boundaries at an address: of one symbol, and by a search.
use Rattle.std.proofs.Common.{◌≡◌, ℕ, ◌+◌, ◌-◌, ◌<◌, ◌≤◌, suc, zero, List, length, take, get_or, sym, ap, ◌∙◌, arith, leb, true, false, None}
use Rattle.std.specs.Prelude.{nat_le}
use Rattle.std.specs.List.Sorted.{IsPartitionPoint}
use Rattle.std.proofs.lemmas.Bool.{cond-true, cond-false}
use Rattle.std.proofs.lemmas.List.{take_all, get_or_default}
use Rattle.code_symbols.specs.Boundaries.{symbol_from}
use Rattle.code_symbols.specs.declared.boundary.Boundary.{Boundary}
use Rattle.code_symbols.proofs.MergeLemmas.{symbol-more}

none_boundary : Boundary
none_boundary = record { start = 0; symbol = None }

-- boundaries after the address don't change its symbol
later_boundaries : (cs : List Boundary) (x p n : ℕ) → ((k : ℕ) (d : Boundary) → p ≤ k → k < length cs → leb (get_or cs k d).start x ≡ false) → p + n ≤ length cs
    → symbol_from None (take (p + n) cs) x ≡ symbol_from None (take p cs) x
later_boundaries cs x p zero later le =
    let same : p + 0 ≡ p = omega arith in
    ap (λ k. symbol_from None (take k cs) x) same
later_boundaries cs x p (suc n) later le =
    let lt : p + n < length cs = omega (arith, le) in
    let next : p + suc n ≡ p + n + 1 = omega arith in
    let c : Boundary = get_or cs (p + n) none_boundary in
    ap (λ k. symbol_from None (take k cs) x) next
    ∙ symbol-more cs (p + n) c x lt (get_or_default cs (p + n) none_boundary c lt)
    ∙ cond-false (nat_le c.start x) c.symbol (symbol_from None (take (p + n) cs) x) (later (p + n) none_boundary (omega arith) lt)
    ∙ later_boundaries cs x p n later (omega (arith, le))

module _ (cs : List Boundary) (x above : ℕ) (point : IsPartitionPoint (λ c. leb c.start x ≡ true) (λ c. leb c.start x ≡ false) cs above) where
  after_point : above ≤ length cs → symbol_from None cs x ≡ symbol_from None (take above cs) x
  after_point within =
      let all : length cs ≤ above + (length cs - above) = omega arith in
      sym (ap (λ ks. symbol_from None ks x) (take_all (above + (length cs - above)) cs all))
      ∙ later_boundaries cs x above (length cs - above) (λ k d le lt. point.1 k d le lt) (omega (arith, within))

  -- all boundaries are after the address
  pub point_none : above ≡ 0 → None ≡ symbol_from None cs x
  point_none none = sym (after_point (omega (arith, none)) ∙ ap (λ k. symbol_from None (take k cs) x) none)

  -- the last boundary up to the address
  pub point_some : (c : Boundary) → 0 < above → above ≤ length cs → c ≡ get_or cs (above - 1) c → c.symbol ≡ symbol_from None cs x
  point_some c some within is =
      let last : above - 1 < above = omega (arith, some) in
      let lt : above - 1 < length cs = omega (arith, some, within) in
      let next : above ≡ above - 1 + 1 = omega (arith, some) in
      let low : leb c.start x ≡ true = ap (λ d. leb d.start x) is ∙ point.0 (above - 1) c (omega arith) last in
      sym (after_point within
      ∙ ap (λ k. symbol_from None (take k cs) x) next
      ∙ symbol-more cs (above - 1) c x lt is
      ∙ cond-true (nat_le c.start x) c.symbol (symbol_from None (take (above - 1) cs) x) low)
