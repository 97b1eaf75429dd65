-- Lists of layers that grow at their ends.
use Rattle.std.proofs.Common.{◌≡◌, ℕ, ◌+◌, ◌-◌, ◌<◌, ◌≤◌, List, [], ◌∷◌, ◌++◌, length, take, get_or, set, refl, sym, ◌∙◌, ap, arith, Option, None}
use Rattle.std.proofs.lemmas.List.{take_more, take_more_set, take_all, length-set}
use Rattle.code_symbols.specs.Boundaries.{later_of}
use Rattle.code_symbols.specs.Layer.{symbol_in, symbol_in_layers, symbol_in_layers_from}
use Rattle.code_symbols.specs.declared.layer.Layer.{Layer}
use Rattle.code_symbols.proofs.BoundaryLemmas.{later_of-assoc}

-- the symbol after one more layer
pub layers_from-push : (b : Option ℕ) (ls : List Layer) (l : Layer) (x : ℕ) → symbol_in_layers_from b (ls ++ l ∷ []) x ≡ later_of (symbol_in_layers_from b ls x) (symbol_in l x)
layers_from-push b [] l x = refl
layers_from-push b (k ∷ ls) l x = layers_from-push (later_of b (symbol_in k x)) ls l x

-- the symbol after one more layer
pub layers-push : (ls : List Layer) (l : Layer) (x : ℕ) → symbol_in_layers (ls ++ l ∷ []) x ≡ later_of (symbol_in_layers ls x) (symbol_in l x)
layers-push ls l x = layers_from-push None ls l x

-- two last layers and one that is the second over the first give the same symbols
pub layers-merged : (ls : List Layer) (a b m : Layer) (x : ℕ) → symbol_in m x ≡ later_of (symbol_in a x) (symbol_in b x)
    → symbol_in_layers (ls ++ m ∷ []) x ≡ symbol_in_layers ((ls ++ a ∷ []) ++ b ∷ []) x
layers-merged ls a b m x same =
    layers-push ls m x
    ∙ ap (λ s. later_of (symbol_in_layers ls x) s) same
    ∙ sym (later_of-assoc (symbol_in_layers ls x) (symbol_in a x) (symbol_in b x))
    ∙ ap (λ s. later_of s (symbol_in b x)) (sym (layers-push ls a x))
    ∙ sym (layers-push (ls ++ a ∷ []) b x)

-- the symbol in the first layers and one more
pub layers-more : (ls : List Layer) (i : ℕ) (l : Layer) (x : ℕ) → i < length ls → l ≡ get_or ls i l
    → symbol_in_layers (take (i + 1) ls) x ≡ later_of (symbol_in_layers (take i ls) x) (symbol_in l x)
layers-more ls i l x lt is =
    ap (λ ks. symbol_in_layers ks x) (take_more ls i l lt)
    ∙ layers-push (take i ls) (get_or ls i l) x
    ∙ ap (λ k. later_of (symbol_in_layers (take i ls) x) (symbol_in k x)) (sym is)

-- the last two layers replaced by one that is the second over the first
pub layers-merge_last : (ls : List Layer) (n : ℕ) (a b m : Layer) (x : ℕ) → 2 ≤ n → n ≡ length ls → a ≡ get_or ls (n - 2) a → b ≡ get_or ls (n - 1) b
    → symbol_in m x ≡ later_of (symbol_in a x) (symbol_in b x) → symbol_in_layers (take (n - 1) (set ls (n - 2) m)) x ≡ symbol_in_layers ls x
layers-merge_last ls n a b m x two all is_a is_b same =
    let first : n - 2 < length ls = omega (arith, two, all) in
    let second : n - 1 < length ls = omega (arith, two, all) in
    let one : n - 1 ≡ n - 2 + 1 = omega (arith, two) in
    let both : n ≡ n - 1 + 1 = omega (arith, two) in
    let whole : take n ls ≡ ls = take_all n ls (omega (arith, all)) in
    ap (λ k. symbol_in_layers (take k (set ls (n - 2) m)) x) one
    ∙ ap (λ ks. symbol_in_layers ks x) (take_more_set ls (n - 2) m first)
    ∙ layers-merged (take (n - 2) ls) a b m x same
    ∙ layers-push (take (n - 2) ls ++ a ∷ []) b x
    ∙ ap (λ s. later_of s (symbol_in b x)) (layers-push (take (n - 2) ls) a x ∙ sym (layers-more ls (n - 2) a x first is_a))
    ∙ ap (λ k. later_of (symbol_in_layers (take k ls) x) (symbol_in b x)) (sym one)
    ∙ sym (layers-more ls (n - 1) b x second is_b)
    ∙ ap (λ k. symbol_in_layers (take k ls) x) (sym both)
    ∙ ap (λ ks. symbol_in_layers ks x) whole

-- the last layer replaced by one with one more symbol
pub layers-replace_last : (ls : List Layer) (n : ℕ) (a m : Layer) (o : Option ℕ) (x : ℕ) → 0 < length ls → n ≡ length ls - 1 → a ≡ get_or ls n a
    → symbol_in m x ≡ later_of (symbol_in a x) o → symbol_in_layers (set ls n m) x ≡ later_of (symbol_in_layers ls x) o
layers-replace_last ls n a m o x some at is same =
    let lt : n < length ls = omega (arith, some, at) in
    let whole : take (n + 1) ls ≡ ls = take_all (n + 1) ls (omega (arith, at)) in
    let whole_set : take (n + 1) (set ls n m) ≡ set ls n m = take_all (n + 1) (set ls n m) (omega (arith, at, length-set ls n m)) in
    ap (λ ks. symbol_in_layers ks x) (sym whole_set ∙ take_more_set ls n m lt)
    ∙ layers-push (take n ls) m x
    ∙ ap (λ s. later_of (symbol_in_layers (take n ls) x) s) same
    ∙ sym (later_of-assoc (symbol_in_layers (take n ls) x) (symbol_in a x) o)
    ∙ ap (λ s. later_of s o) (sym (layers-more ls n a x lt is) ∙ ap (λ ks. symbol_in_layers ks x) whole)
