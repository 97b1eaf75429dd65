-- The last symbol of a list that contains an address.
use Rattle.std.proofs.Common.{◌≡◌, ℕ, ◌+◌, ◌⊎◌, inl, inr, List, [], ◌∷◌, ◌++◌, length, refl, sym, subst, ap, ◌∙◌, arith, Option, Some, None, true, false}
use Rattle.std.specs.Prelude.{Bool, if◌then◌else◌, All}
use Rattle.std.proofs.lemmas.Bool.{and_parts, and_from, leb-true, ltb-true, le-leb, lt-ltb, false≢true}
use Rattle.std.proofs.lemmas.List.Elements.{All-nil, All-cons}
use Rattle.code_symbols.specs.Boundaries.{covers, later_of}
use Rattle.code_symbols.specs.Symbols.{Covers, IsLastCovering, IsLastIndex, last_from}
use Rattle.code_symbols.specs.declared.symbol.Symbol.{Symbol}

-- the test agrees with the definition
pub covers-true : (s : Symbol) (x : ℕ) → covers s.start s.size x ≡ true → Covers s x
covers-true s x h = record {
  starts = leb-true _ _ (and_parts _ _ h).0;
  ends = ltb-true _ _ (and_parts _ _ h).1;
}

pub covers-false : (s : Symbol) (x : ℕ) → covers s.start s.size x ≡ false → ¬ Covers s x
covers-false s x h c = false≢true (sym h ∙ and_from _ _ (le-leb _ _ c.starts) (lt-ltb _ _ c.ends))

-- the index after one more symbol
pub last_from-push : (i k : ℕ) (b : Option ℕ) (ss : List Symbol) (s : Symbol) (x : ℕ) → k ≡ i + length ss
    → last_from i b (ss ++ s ∷ []) x ≡ (if covers s.start s.size x then Some k else last_from i b ss x)
last_from-push i k b [] s x at =
    let same : k ≡ i = omega (arith, at) in
    subst (λ n. last_from i b (s ∷ []) x ≡ (if covers s.start s.size x then Some n else b)) (sym same) refl
last_from-push i k b (t ∷ ss) s x at = last_from-push (i + 1) k (if covers t.start t.size x then Some i else b) ss s x (omega (arith, at))

-- what the index is: that before the list, and no symbol contains the address, or that of the last one that does
abbrev pub FindsFrom : ℕ → Option ℕ → List Symbol → ℕ → Option ℕ → Type 0
FindsFrom i b ss x r = ((r ≡ b) × All (λ s. ¬ Covers s x) ss) ⊎ ((k : ℕ) × (s : Symbol) × (r ≡ Some (i + k)) × IsLastCovering ss x k s)

finds_one : (i : ℕ) (b : Option ℕ) (s : Symbol) (ss : List Symbol) (x : ℕ) (r : Option ℕ) (test : Bool) → covers s.start s.size x ≡ test
    → r ≡ (if test then Some i else b) → All (λ t. ¬ Covers t x) ss → FindsFrom i b (s ∷ ss) x r
finds_one i b s ss x r true hit is none =
    let same : i ≡ i + 0 = omega arith in
    inr (0, s, is ∙ ap (λ n. Some n) same, record { before = []; after = ss; list = refl; index = refl; covers_address = covers-true s x hit; last = none })
finds_one i b s ss x r false miss is none = inl (is, All-cons (λ t. ¬ Covers t x) s ss (covers-false s x miss) none)

finds_later : (i k : ℕ) (b : Option ℕ) (t s : Symbol) (ss : List Symbol) (x : ℕ) (r : Option ℕ) → r ≡ Some (i + 1 + k) → IsLastCovering ss x k s
    → FindsFrom i b (t ∷ ss) x r
finds_later i k b t s ss x r is l =
    let same : i + 1 + k ≡ i + (k + 1) = omega arith in
    let next : k + 1 ≡ length (t ∷ l.before) = omega (arith, l.index) in
    inr (k + 1, s, is ∙ ap (λ n. Some n) same, record { before = t ∷ l.before; after = l.after; list = ap (λ ls. t ∷ ls) l.list; index = next; covers_address = l.covers_address; last = l.last })

pub finds_from : (i : ℕ) (b : Option ℕ) (ss : List Symbol) (x : ℕ) → FindsFrom i b ss x (last_from i b ss x)
finds_from i b [] x = inl (refl, All-nil (λ t. ¬ Covers t x))
finds_from i b (s ∷ ss) x = elim (finds_from (i + 1) (if covers s.start s.size x then Some i else b) ss x) [
  | inl none ↦ finds_one i b s ss x _ (covers s.start s.size x) refl none.0 none.1
  | inr last ↦ finds_later i last.0 b s last.1 ss x _ last.2 last.3
]

from_zero : (k : ℕ) → k ≡ 0 + k
from_zero k = omega arith

-- the index that the search gives is the last one
pub is_last_index : (ss : List Symbol) (x : ℕ) (r : Option ℕ) → r ≡ last_from 0 None ss x → IsLastIndex ss x r
is_last_index ss x r is = subst (λ q. IsLastIndex ss x q) (sym is) (elim (finds_from 0 None ss x) [
  | inl none ↦ subst (λ q. IsLastIndex ss x q) (sym none.0) none.1
  | inr last ↦ subst (λ q. IsLastIndex ss x q) (sym last.2) (last.1, subst (λ n. IsLastCovering ss x n last.1) (from_zero last.0) last.3)
])

-- a layer of one more symbol
pub later_of-one : (b : Bool) (i : ℕ) (s : Option ℕ) → later_of s (if b then Some i else None) ≡ (if b then Some i else s)
later_of-one true i s = refl
later_of-one false i s = refl

-- one more symbol
pub found-push : (ss : List Symbol) (s : Symbol) (x : ℕ) (symbol_before symbol_after one : Option ℕ) → symbol_before ≡ last_from 0 None ss x
    → one ≡ (if covers s.start s.size x then Some (length ss) else None) → symbol_after ≡ later_of symbol_before one
    → symbol_after ≡ last_from 0 None (ss ++ s ∷ []) x
found-push ss s x symbol_before symbol_after one old is_one is_after =
    let at : length ss ≡ 0 + length ss = omega arith in
    is_after
    ∙ ap (λ o. later_of symbol_before o) is_one
    ∙ later_of-one (covers s.start s.size x) (length ss) symbol_before
    ∙ ap (λ o. if covers s.start s.size x then Some (length ss) else o) old
    ∙ sym (last_from-push 0 (length ss) None ss s x at)
