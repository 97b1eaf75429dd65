-- Numbering of rows.
use Rattle.std.proofs.Common.{◌≡◌, ◌∙◌, ◌+◌, ℕ, suc, List, [], ◌∷◌, ◌++◌, length, map, refl, ap, sym, arith}
use Rattle.std.proofs.lemmas.List.{map-append}
use Rattle.pprof.specs.Rows.{numbered}

pub numbered_length : {A B : Type 0} → (with_id : ℕ → A → B) (id : ℕ) (rows : List A) → length (numbered with_id id rows) ≡ length rows
numbered_length with_id id [] = refl
numbered_length with_id id (row ∷ rows) = ap (λ (n : ℕ). suc n) (numbered_length with_id (id + 1) rows)

numbered_more : {A B : Type 0} → (with_id : ℕ → A → B) (id : ℕ) (rows : List A) (row : A)
    → numbered with_id id (rows ++ row ∷ []) ≡ numbered with_id id rows ++ with_id (id + length rows) row ∷ []
numbered_more {A} {B} with_id id [] row =
    let same : id ≡ id + 0 = omega arith in
    let one : ℕ → List B = λ n. with_id n row ∷ [] in
    ap one same
numbered_more {A} {B} with_id id (first ∷ rows) row =
    let next : id + 1 + length rows ≡ id + length (first ∷ rows) = omega arith in
    ap (λ (more : List B). with_id id first ∷ more) (numbered_more with_id (id + 1) rows row
    ∙ ap (λ (n : ℕ). numbered with_id (id + 1) rows ++ with_id n row ∷ []) next)

-- One more row, with the next id.
pub rows_more : {A B S : Type 0} → (with_id : ℕ → A → B) (shows : S → A) (yielded : List S) (shown : S) (old new : List B) (len : ℕ)
    → old ≡ numbered with_id 1 (map shows yielded) → len ≡ length old → new ≡ old ++ with_id (len + 1) (shows shown) ∷ []
    → new ≡ numbered with_id 1 (map shows (yielded ++ shown ∷ []))
rows_more {A} {B} {S} with_id shows yielded shown old new len are counted longer =
    let rows = map shows yielded in
    let count : len + 1 ≡ 1 + length rows = omega (arith, counted, ap (λ (bs : List B). length bs) are, numbered_length with_id 1 rows) in
    longer ∙ (ap (λ (bs : List B). bs ++ with_id (len + 1) (shows shown) ∷ []) are
    ∙ (ap (λ (n : ℕ). numbered with_id 1 rows ++ with_id n (shows shown) ∷ []) count
    ∙ (sym (numbered_more with_id 1 rows (shows shown)) ∙ ap (λ (all : List A). numbered with_id 1 all) (sym (map-append shows yielded (shown ∷ []))))))

pub map_twice : {A B C : Type 0} → (f : A → B) (g : B → C) (xs : List A) → map (λ (x : A). g (f x)) xs ≡ map g (map f xs)
map_twice f g [] = refl
map_twice {A} {B} {C} f g (x ∷ xs) = ap (λ (ys : List C). g (f x) ∷ ys) (map_twice f g xs)
