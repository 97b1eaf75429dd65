-- The code of a jitdump up to a time.
use Rattle.std.proofs.Common.{◌≡◌, ℕ, suc, ◌+◌, ◌<◌, ◌≤◌, inl, inr, true, false, List, [], ◌∷◌, ◌++◌, length, get_or, take, drop, refl, sym, ap, subst, ◌∙◌, arith, append-nil}
use Rattle.std.specs.Prelude.{cond, nat_le}
use Rattle.std.specs.List.Sorted.{IsNonDecreasingBy}
use Rattle.std.proofs.lemmas.Bool.{cases_lt, false_from_ne_true, le-leb, leb-true}
use Rattle.std.proofs.lemmas.List.{get_or-drop, get_or-take, length-drop, length-take, take-append-drop, take-take}
use Rattle.std.proofs.lemmas.List.Elements.{filter-append}
use Rattle.code_symbols.specs.Loads.{AreUntil, ShowsMore, loaded_until}
use Rattle.code_symbols.specs.declared.jit.Load.{Load}

-- the loads with indices from one up to another are loaded up to this time
abbrev pub AreFrom : ℕ → ℕ → ℕ → List Load → Type 0
AreFrom time low high loads = (k : ℕ) (d : Load) → low ≤ k → k < high → (get_or loads k d).time ≤ time

all_until : (time : ℕ) (loads : List Load) → ((k : ℕ) (d : Load) → k < length loads → (get_or loads k d).time ≤ time) → loaded_until time loads ≡ loads
all_until time [] are = refl
all_until time (x ∷ xs) are =
    let test : nat_le x.time time ≡ true = le-leb x.time time (are 0 x (omega arith)) in
    ap (λ b. cond b (x ∷ loaded_until time xs) (loaded_until time xs)) test
    ∙ ap (λ rest. x ∷ rest) (all_until time xs (λ k d less. are (suc k) d (omega (arith, less))))

none_until : (time : ℕ) (loads : List Load) → ((k : ℕ) (d : Load) → k < length loads → time < (get_or loads k d).time) → loaded_until time loads ≡ []
none_until time [] are = refl
none_until time (x ∷ xs) are =
    let later : time < x.time = are 0 x (omega arith) in
    let test : nat_le x.time time ≡ false = false_from_ne_true (nat_le x.time time) (λ passes. absurd (omega (arith, later, leb-true x.time time passes))) in
    ap (λ b. cond b (x ∷ loaded_until time xs) (loaded_until time xs)) test ∙ none_until time xs (λ k d less. are (suc k) d (omega (arith, less)))

-- the first loads are those up to a time, and the others aren't
pub first_until : (time low n : ℕ) (loads : List Load) → IsNonDecreasingBy (λ l. l.time) loads → low ≤ n → n ≤ length loads → AreFrom time low n loads
    → (n < length loads → (d : Load) → time < (get_or loads n d).time) → AreUntil time (take low loads) → take n loads ≡ loaded_until time loads
first_until time low n loads sorted least within are next old =
    let first : (k : ℕ) (d : Load) → k < length (take n loads) → (get_or (take n loads) k d).time ≤ time = λ k d less.
    let here : k < n = omega (arith, less, length-take n loads) in
    let is : get_or (take n loads) k d ≡ get_or loads k d = get_or-take n loads k d here in
    let holds : (get_or loads k d).time ≤ time = elim (cases_lt k low) [
      | inl before ↦
          let short : k < length (take low loads) = omega (arith, before, length-take low loads, least, within) in
          subst (λ l. l.time ≤ time) (get_or-take low loads k d before) (old k d short)
      | inr after ↦ are k d after here
    ] in
    subst (λ l. l.time ≤ time) (sym is) holds
    in
    let rest : (k : ℕ) (d : Load) → k < length (drop n loads) → time < (get_or (drop n loads) k d).time = λ k d less.
    let inside : n + k < length loads = omega (arith, less, length-drop n loads) in
    let is : get_or (drop n loads) k d ≡ get_or loads (n + k) d = get_or-drop n loads k d in
    let later : time < (get_or loads n d).time = next (omega (arith, inside)) d in
    let order : (get_or loads n d).time ≤ (get_or loads (n + k) d).time = sorted n (n + k) d (omega arith) inside in
    subst (λ l. time < l.time) (sym is) (omega (arith, later, order))
    in
    sym (ap (loaded_until time) (sym (take-append-drop n loads)) ∙ filter-append (λ l. nat_le l.time time) (take n loads) (drop n loads)
    ∙ ap (λ xs. xs ++ loaded_until time (drop n loads)) (all_until time (take n loads) first)
    ∙ ap (λ xs. take n loads ++ xs) (none_until time (drop n loads) rest) ∙ append-nil (take n loads))

-- more loads are shown
pub shows_more : (low n : ℕ) (loads : List Load) → low ≤ n → ShowsMore (take low loads) (take n loads)
shows_more low n loads least = record {
  more = drop low (take n loads);
  is = sym (take-append-drop low (take n loads)) ∙ ap (λ xs. xs ++ drop low (take n loads)) (take-take low n loads least);
}
