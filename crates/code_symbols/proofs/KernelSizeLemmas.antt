-- Symbols that are extended to the next greater start, from the last one on.
use Rattle.std.proofs.Common.{◌≡◌, ℕ, ◌+◌, ◌-◌, ◌^◌, ◌<◌, ◌≤◌, ◌⊎◌, inl, inr, List, [], ◌∷◌, length, drop, map, set, get_or, refl, sym, subst, ap, ◌∙◌, arith}
use Rattle.std.specs.Prelude.{nat_lt}
use Rattle.std.specs.List.Sorted.{IsNonDecreasingBy}
use Rattle.std.proofs.lemmas.Bool.{cases_lt, cond-true, cond-false, lt-ltb, le-ltb}
use Rattle.std.proofs.lemmas.List.{drop_all, drop_more, drop-set, get_or-map, get_or-set_same, length-map, length-set, map-set, set-get_or}
use Rattle.code_symbols.specs.declared.symbol.Symbol.{Symbol}
use Rattle.code_symbols.specs.Kernel.{ReachNext, next_start, without_size}

-- the symbols from an index on are extended; `next` is the start of the first of them, and `end` the next greater start
pub record Extends (first now : List Symbol) (at end next : ℕ) : Type 0 where
  pub within : at ≤ length now
  pub same : map without_size now ≡ map without_size first
  pub last : length now ≤ at → next ≡ 2 ^ 64 - 1
  pub head : (d : Symbol) → at < length now → next ≡ (get_or now at d).start
  pub ends : end ≡ next_start next (drop at now)
  pub reach : ReachNext (drop at now)

pub extends_none : (first : List Symbol) → Extends first first (length first) (2 ^ 64 - 1) (2 ^ 64 - 1)
extends_none first =
    let none : drop (length first) first ≡ [] = drop_all (length first) first (omega arith) in
    record {
      within = omega arith;
      same = refl;
      last = λ le. refl;
      head = λ d lt. absurd (omega (arith, lt));
      ends = sym (ap (next_start (2 ^ 64 - 1)) none);
      reach = subst ReachNext (sym none) tt;
    }

-- the next greater start is no smaller
start_le_next : (x : ℕ) (ss : List Symbol) → x ≤ 2 ^ 64 - 1 → x ≤ next_start x ss
start_le_next x [] le = le
start_le_next x (s ∷ ss) le = elim (cases_lt x s.start) [
  | inl lt ↦ subst (λ n. x ≤ n) (sym (cond-true (nat_lt x s.start) s.start (next_start x ss) (lt-ltb x s.start lt))) (omega (arith, lt))
  | inr ge ↦ subst (λ n. x ≤ n) (sym (cond-false (nat_lt x s.start) s.start (next_start x ss) (le-ltb x s.start ge))) (start_le_next x ss le)
]

-- symbols that differ in sizes have the same starts
same_start : (xs ys : List Symbol) (i : ℕ) (d : Symbol) → map without_size xs ≡ map without_size ys → i < length xs → (get_or xs i d).start ≡ (get_or ys i d).start
same_start xs ys i d e lt =
    let long : length xs ≡ length ys = sym (length-map xs without_size) ∙ ap length e ∙ length-map ys without_size in
    let within : i < length ys = omega (arith, long, lt) in
    ap (λ s. s.start) (sym (get_or-map without_size xs i d d lt) ∙ ap (λ ss. get_or ss i d) e ∙ get_or-map without_size ys i d d within)

module _ (first now : List Symbol) (at end next end' : ℕ) (d : Symbol) (ascends : IsNonDecreasingBy (λ s. s.start) first) (o : Extends first now at end next) (some : 0 < at) where
  before : at - 1 < length now
  before = omega (arith, some, o.within)

  -- the symbol before is no greater
  no_greater : (get_or now (at - 1) d).start ≤ 2 ^ 64 - 1 → (get_or now (at - 1) d).start ≤ next
  no_greater fits = elim (cases_lt at (length now)) [
    | inl inside ↦
        let long : length now ≡ length first = sym (length-map now without_size) ∙ ap length o.same ∙ length-map first without_size in
        omega (arith, same_start now first (at - 1) d o.same before, same_start now first at d o.same inside, o.head d inside, ascends (at - 1) at d (omega arith) (omega (arith, inside, long)))
    | inr past ↦ omega (arith, o.last past, fits)
  ]

  -- what follows the symbol before
  pub next_end : (get_or now (at - 1) d).start ≤ 2 ^ 64 - 1
      → (((get_or now (at - 1) d).start < next) × (end' ≡ next)) ⊎ ((next ≤ (get_or now (at - 1) d).start) × (end' ≡ end))
      → end' ≡ next_start (get_or now (at - 1) d).start (drop at now)
  next_end fits (inl (less, is)) = elim (cases_lt at (length now)) [
    | inl inside ↦
        let x = (get_or now (at - 1) d).start in
        let t = get_or now at d in
        let below : x < t.start = omega (arith, less, o.head d inside) in
        is ∙ o.head d inside ∙ sym (ap (next_start x) (drop_more now at d inside) ∙ cond-true (nat_lt x t.start) t.start (next_start x (drop (at + 1) now)) (lt-ltb x t.start below))
    | inr past ↦ is ∙ o.last past ∙ sym (ap (next_start (get_or now (at - 1) d).start) (drop_all at now past))
  ]
  next_end fits (inr (more, is)) =
      let same : next ≡ (get_or now (at - 1) d).start = omega (arith, more, no_greater fits) in
      is ∙ o.ends ∙ ap (λ x. next_start x (drop at now)) same

  -- the end of the symbol before isn't less than its start
  pub end_after : (get_or now (at - 1) d).start ≤ 2 ^ 64 - 1 → end' ≡ next_start (get_or now (at - 1) d).start (drop at now) → (get_or now (at - 1) d).start ≤ end'
  end_after fits is = omega (arith, is, start_le_next (get_or now (at - 1) d).start (drop at now) fits)

  -- the symbol before is extended
  pub extends_more : (get_or now (at - 1) d).start ≤ 2 ^ 64 - 1 → end' ≡ next_start (get_or now (at - 1) d).start (drop at now)
      → Extends first (set now (at - 1) (record (get_or now (at - 1) d) { size = end' - (get_or now (at - 1) d).start })) (at - 1) end' (get_or now (at - 1) d).start
  extends_more fits is =
      let s : Symbol = get_or now (at - 1) d in
      let x : ℕ = s.start in
      let longer : Symbol = record s { size = end' - x } in
      let after : List Symbol = set now (at - 1) longer in
      let long : length after ≡ length now = length-set now (at - 1) longer in
      let back : at - 1 + 1 ≡ at = omega (arith, some) in
      let rest : drop (at - 1) after ≡ longer ∷ drop at now = drop-set now (at - 1) longer before ∙ ap (λ i. longer ∷ drop i now) back in
      let sum : x + (end' - x) ≡ end' = omega (arith, end_after fits is) in
      record {
        within = omega (arith, long, before);
        same = map-set without_size now (at - 1) longer ∙ sym (map-set without_size now (at - 1) s) ∙ ap (map without_size) (set-get_or now (at - 1) d) ∙ o.same;
        last = λ le. absurd (omega (arith, long, before, le));
        head = λ e lt. sym (ap (λ t. t.start) (get_or-set_same now (at - 1) longer e before));
        ends = is ∙ sym (ap (next_start x) rest ∙ cond-false (nat_lt x x) x (next_start x (drop at now)) (le-ltb x x (omega arith)));
        reach = subst ReachNext (sym rest) (sum ∙ is, o.reach);
      }
