-- Interning of texts.
use Rattle.std.proofs.Common.{◌≡◌, ◌∙◌, ◌||◌, inl, inr, ap, refl, sym, subst, arith, cond, true≢false, ◌≤◌, ℕ, zero, suc, Bool, true, false, List, [], ◌∷◌, ◌++◌, ◌⊎◌, length, map, position, slice_get, Some, Option, Result, Ok, Err, IfOk, OnErr, String, Global}
use Rattle.std.proofs.lemmas.List.{map-append}
use Rattle.std.proofs.lemmas.List.Quantifiers.{position-Some}
use Rattle.std.proofs.lemmas.Option.{slice_get_cases}
use Rattle.std.proofs.lemmas.Slice.Eq.{bytes_eq-Decides}
use Rattle.std.specs.List.{list_any}
use Rattle.std.specs.Option.{unwrap_or}
use Rattle.std.specs.Str.{bytes_eq}
use Rattle.std.specs.String.{string_bytes, string_eq}
use Rattle.indexmap.specs.IndexSet.{insert_key}
use Rattle.pprof.specs.Rows.{Interns, IsAbsent}
use Rattle.pprof.specs.Texts.{AreStrings}

pub some_same : {A : Type 0} (x y : A) → Some x ≡ Some y → x ≡ y
some_same {A} x y is = ap (λ (o : Option A). unwrap_or o x) is

pub at_map : {A B : Type 0} → (f : A → B) (xs : List A) (index : ℕ) (x : A) → slice_get xs index ≡ Some x → slice_get (map f xs) index ≡ Some (f x)
at_map f [] index x is = cc
at_map {A} {B} f (y ∷ xs) zero x is = ap (λ (v : A). Some (f v)) (some_same y x is)
at_map f (y ∷ xs) (suc index) x is = at_map f xs index x is

pub at_more : {A : Type 0} → (xs ys : List A) (index : ℕ) (x : A) → slice_get xs index ≡ Some x → slice_get (xs ++ ys) index ≡ Some x
at_more [] ys index x is = cc
at_more (y ∷ xs) ys zero x is = is
at_more (y ∷ xs) ys (suc index) x is = at_more xs ys index x is

-- An element of a list with one more element is one of the list, or the last one.
old_or_last : {A : Type 0} → (xs : List A) (y : A) (index : ℕ) (x : A) → slice_get (xs ++ y ∷ []) index ≡ Some x → (slice_get xs index ≡ Some x) ⊎ ((index ≡ length xs) × (x ≡ y))
old_or_last [] y zero x is = inr (refl, sym (some_same y x is))
old_or_last [] y (suc index) x is = cc
old_or_last (z ∷ xs) y zero x is = inl is
old_or_last (z ∷ xs) y (suc index) x is = elim (old_or_last xs y index x is) [
  | inl old ↦ inl old
  | inr last ↦ inr (omega (arith, last.0), last.1)
]

pub or_none : (a b : Bool) → (a || b) ≡ false → (a ≡ false) × (b ≡ false)
or_none true b is = absurd (true≢false is)
or_none false b is = (refl, is)

-- A text that no key equals isn't among the texts.
none_there : (key : String Global) (keys : List (String Global)) (index : ℕ) → list_any (string_eq key) keys ≡ false → slice_get (map string_bytes keys) index ≡ Some (string_bytes key) → ⊥
none_there key [] index none is = cc
none_there key (k ∷ keys) zero none is =
    let same = (bytes_eq-Decides (string_bytes key) (string_bytes k)).1 (sym (some_same (string_bytes k) (string_bytes key) is)) in
    true≢false (sym same ∙ (or_none (string_eq key k) (list_any (string_eq key) keys) none).0)
none_there key (k ∷ keys) (suc index) none is = none_there key keys index (or_none (string_eq key k) (list_any (string_eq key) keys) none).1 is

-- A text that no key has isn't among the texts.
pub absent_text : (text : List ℕ) (keys : List (String Global)) → list_any (λ (k : String Global). bytes_eq text (string_bytes k)) keys ≡ false → IsAbsent (map string_bytes keys) text
absent_text text [] none index is = cc
absent_text text (k ∷ keys) none zero is =
    let same = (bytes_eq-Decides text (string_bytes k)).1 (sym (some_same (string_bytes k) text is)) in
    true≢false (sym same ∙ (or_none (bytes_eq text (string_bytes k)) (list_any (λ (k : String Global). bytes_eq text (string_bytes k)) keys) none).0)
absent_text text (k ∷ keys) none (suc index) is = absent_text text keys (or_none (bytes_eq text (string_bytes k)) (list_any (λ (k : String Global). bytes_eq text (string_bytes k)) keys) none).1 index is

one_more : (texts : List (List ℕ)) (text : List ℕ) → AreStrings texts → ((index : ℕ) → slice_get texts index ≡ Some text → ⊥) → AreStrings (texts ++ text ∷ [])
one_more texts text are new = record {
  first = at_more texts (text ∷ []) 0 [] are.first;
  once = λ first second x at also. elim (old_or_last texts text first x at) [
    | inl was ↦ elim (old_or_last texts text second x also) [
      | inl too ↦ are.once first second x was too
      | inr last ↦ absurd (new first (was ∙ ap (λ (y : List ℕ). Some y) last.1))
    ]
    | inr last ↦ elim (old_or_last texts text second x also) [
      | inl too ↦ absurd (new second (too ∙ ap (λ (y : List ℕ). Some y) last.1))
      | inr both ↦ last.0 ∙ sym both.0
    ]
  ];
}

inserted : (old new : List (String Global)) (key : String Global) → AreStrings (map string_bytes old) → new ≡ insert_key string_eq old key → AreStrings (map string_bytes new)
inserted old new key are is = by (list_any (string_eq key) old) refl is
  where
    by : (b : Bool) → list_any (string_eq key) old ≡ b → new ≡ cond b old (old ++ key ∷ []) → AreStrings (map string_bytes new)
    by true found same = subst (λ (keys : List (String Global)). AreStrings (map string_bytes keys)) (sym same) are
    by false none longer =
        let longer_texts : map string_bytes new ≡ map string_bytes old ++ string_bytes key ∷ [] = ap (λ (keys : List (String Global)). map string_bytes keys) longer ∙ map-append string_bytes old (key ∷ []) in
        subst AreStrings (sym longer_texts) (one_more (map string_bytes old) (string_bytes key) are (λ index at. none_there key old index none at))

-- A table stays one when a text is interned, and when that fails.
pub insertion : {R E : Type 0} → (result : Result R E) (old new : List (String Global)) (key : String Global) → AreStrings (map string_bytes old)
    → IfOk result (λ r. new ≡ insert_key string_eq old key) → OnErr result (new ≡ old) → AreStrings (map string_bytes new)
insertion (Ok r) old new key are adds same = inserted old new key are adds
insertion (Err e) old new key are adds same = subst (λ (keys : List (String Global)). AreStrings (map string_bytes keys)) (sym same) are

adds_text : (old new : List (String Global)) (key : String Global) → new ≡ insert_key string_eq old key → (map string_bytes new ≡ map string_bytes old) ⊎ (map string_bytes new ≡ map string_bytes old ++ string_bytes key ∷ [])
adds_text old new key is = by (list_any (string_eq key) old) is
  where
    by : (b : Bool) → new ≡ cond b old (old ++ key ∷ []) → (map string_bytes new ≡ map string_bytes old) ⊎ (map string_bytes new ≡ map string_bytes old ++ string_bytes key ∷ [])
    by true same = inl (ap (λ (keys : List (String Global)). map string_bytes keys) same)
    by false longer = inr (ap (λ (keys : List (String Global)). map string_bytes keys) longer ∙ map-append string_bytes old (key ∷ []))

pub interned : (old new : List (String Global)) (key k : String Global) (index : ℕ) (text : List ℕ) → string_bytes key ≡ text → slice_get new index ≡ Some k
    → string_eq key k ≡ true → new ≡ insert_key string_eq old key → Interns (map string_bytes old) text index (map string_bytes new)
interned old new key k index text is at same adds =
    let bytes : string_bytes k ≡ string_bytes key = sym ((bytes_eq-Decides (string_bytes key) (string_bytes k)).0 same) in
    let P : List ℕ → Type 0 = λ t. Interns (map string_bytes old) t index (map string_bytes new) in
    subst P is record {
      is_at = at_map string_bytes new index k at ∙ ap (λ (t : List ℕ). Some t) bytes;
      adds = adds_text old new key adds;
    }

pub found_past : {K : Type 0} → (test : K → Bool) (ks : List K) (index : ℕ) → position test ks ≡ Some index → length ks ≤ index → ⊥
found_past test [] index is past = cc
found_past test (k ∷ ks) index is past = omega (arith, (position-Some test (k ∷ ks) index k is).0, past)

pub found_at : {K : Type 0} → (test : K → Bool) (ks : List K) (index : ℕ) → position test ks ≡ Some index → ((k : K) × (slice_get ks index ≡ Some k) × (test k ≡ true))
found_at test ks index is = elim (slice_get_cases ks index).1 [
  | inl there ↦ (there.0, there.2, ap test (sym there.3) ∙ (position-Some test ks index there.0 is).1)
  | inr past ↦ absurd (found_past test ks index is past.0)
]

-- The index of a key with a text is that of the text.
pub found_text : (keys : List (String Global)) (index : ℕ) (text : List ℕ) → position (λ (k : String Global). bytes_eq text (string_bytes k)) keys ≡ Some index
    → Interns (map string_bytes keys) text index (map string_bytes keys)
found_text keys index text is =
    let k = found_at (λ (k : String Global). bytes_eq text (string_bytes k)) keys index is in
    record {
      is_at = at_map string_bytes keys index k.0 k.1 ∙ ap (λ (t : List ℕ). Some t) (sym ((bytes_eq-Decides text (string_bytes k.0)).0 k.2));
      adds = inl refl;
    }
