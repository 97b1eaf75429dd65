-- Equality of bytes in slices.
use Rattle.std.proofs.Common.{◌≡◌, ℕ, ◌≤◌, List, [], ◌∷◌, ◌++◌, Bool, true, false, ◌&&◌, length, take, drop, refl, sym, ap, ◌∙◌, arith, append_assoc}
use Rattle.std.proofs.lemmas.List.{length-take-le, take-append-drop}
use Rattle.std.specs.Bool.{nat_eq}
use Rattle.std.specs.Str.{bytes_eq}

and_assoc : (x y z : Bool) → (x && (y && z)) ≡ ((x && y) && z)
and_assoc true y z = refl
and_assoc false y z = refl

-- two lists that split at the same index are equal exactly if both parts are
pub bytes_eq_append : (xs bs cs ds : List ℕ) → length xs ≡ length cs
    → bytes_eq (xs ++ bs) (cs ++ ds) ≡ (bytes_eq xs cs && bytes_eq bs ds)
bytes_eq_append [] bs [] ds h = refl
bytes_eq_append [] bs (c ∷ cs) ds h = absurd (omega arith)
bytes_eq_append (a ∷ xs) bs [] ds h = absurd (omega arith)
bytes_eq_append (a ∷ xs) bs (c ∷ cs) ds h =
    ap (λ t. nat_eq a c && t) (bytes_eq_append xs bs cs ds (omega arith)) ∙ and_assoc (nat_eq a c) (bytes_eq xs cs) (bytes_eq bs ds)

-- Two lists in two parts each, where the first splits no later than the second: they are equal exactly if their prefixes, the
-- parts between the splits, and their suffixes are.
pub bytes_eq_seams : (xs bs cs ds header between middle tail : List ℕ)
    → header ≡ take (length xs) cs → between ≡ drop (length xs) cs
    → middle ≡ take (length between) bs → tail ≡ drop (length between) bs
    → length xs ≤ length cs → length between ≤ length bs
    → bytes_eq (xs ++ bs) (cs ++ ds) ≡ (bytes_eq xs header && (bytes_eq middle between && bytes_eq tail ds))
bytes_eq_seams xs bs cs ds header between middle tail is_header is_between is_middle is_tail prefix long_enough =
    let left : bs ≡ middle ++ tail =
    sym (take-append-drop (length between) bs) ∙ ap (λ t. t ++ drop (length between) bs) (sym is_middle)
    ∙ ap (λ t. middle ++ t) (sym is_tail) in
    let right : cs ++ ds ≡ header ++ (between ++ ds) =
    ap (λ t. t ++ ds) (sym (take-append-drop (length xs) cs) ∙ ap (λ t. t ++ drop (length xs) cs) (sym is_header)
    ∙ ap (λ t. header ++ t) (sym is_between)) ∙ append_assoc header between ds in
    let long_header : length xs ≡ length header = sym (ap length is_header ∙ length-take-le (length xs) cs prefix) in
    let long_middle : length middle ≡ length between = ap length is_middle ∙ length-take-le (length between) bs long_enough in
    ap (λ t. bytes_eq (xs ++ t) (cs ++ ds)) left
    ∙ ap (bytes_eq (xs ++ (middle ++ tail))) right
    ∙ bytes_eq_append xs (middle ++ tail) header (between ++ ds) long_header
    ∙ ap (λ t. bytes_eq xs header && t) (bytes_eq_append middle tail between ds long_middle)

-- the last test decides if the others are true
pub and_last : (x y z : Bool) → x ≡ true → y ≡ true → (x && (y && z)) ≡ z
and_last x y z p q = ap (λ t. t && (y && z)) p ∙ ap (λ t. t && z) q

-- the second test is false
pub and_second : (x y z : Bool) → x ≡ true → y ≡ false → (x && (y && z)) ≡ false
and_second x y z p q = ap (λ t. t && (y && z)) p ∙ ap (λ t. t && z) q

-- the first test is false
pub and_first : (x y z : Bool) → x ≡ false → (x && (y && z)) ≡ false
and_first x y z p = ap (λ t. t && (y && z)) p
