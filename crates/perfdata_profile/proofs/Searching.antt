-- What is found in tables.
use Rattle.std.proofs.Common.{◌≡◌, ◌∙◌, ◌≤◌, ◌||◌, inl, inr, ap, refl, sym, subst, arith, cond, true≢false, ℕ, zero, suc, Bool, true, false, List, [], ◌∷◌, ◌++◌, ◌⊎◌, length, map, slice_get, position, Option, None, Some, Result, Ok, Err, IfOk, OnErr, Vec, Global}
use Rattle.std.proofs.lemmas.List.{length-map, map-append}
use Rattle.std.proofs.lemmas.List.Quantifiers.{position-Some}
use Rattle.std.proofs.lemmas.Option.{slice_get_cases}
use Rattle.std.specs.Bool.{Decides}
use Rattle.std.specs.Cmp.Lexicographic.{pointwise}
use Rattle.std.specs.List.{list_any}
use Rattle.indexmap.specs.IndexMap.{insert_entry}
use Rattle.indexmap.specs.IndexSet.{insert_key}
use Rattle.std.specs.Map.{lookup}
use Rattle.perfdata_profile.specs.Interning.{Interns, IsOnce}
use Rattle.perfdata_profile.proofs.Elements.{old_or_last, slice_get_last, some_same}

or_none : (a b : Bool) → (a || b) ≡ false → (a ≡ false) × (b ≡ false)
or_none true b is = absurd (true≢false is)
or_none false b is = (refl, is)

pub none_any : {K : Type 0} → (test : K → Bool) (ks : List K) (index : ℕ) (k : K) → list_any test ks ≡ false → slice_get ks index ≡ Some k → test k ≡ false
none_any test [] index k none is = cc
none_any test (x ∷ ks) zero k none is = ap test (sym (some_same x k is)) ∙ (or_none (test x) (list_any test ks) none).0
none_any test (x ∷ ks) (suc index) k none is = none_any test ks index k (or_none (test x) (list_any test ks) none).1 is

cond_none : {X : Type 0} → (b : Bool) (x : X) (rest : Option X) → cond b (Some x) rest ≡ None → (b ≡ false) × (rest ≡ None)
cond_none true x rest is = cc
cond_none false x rest is = (refl, is)

pub none_found : {K X : Type 0} → (test : K → Bool) (es : List (K × X)) (index : ℕ) (k : K) (x : X) → lookup test es ≡ None → slice_get es index ≡ Some (k, x) → test k ≡ false
none_found test [] index k x none is = cc
none_found {K} {X} test (e ∷ es) zero k x none is = ap (λ (p : K × X). test p.0) (sym (some_same e (k, x) is)) ∙ (cond_none (test e.0) e.1 (lookup test es) none).0
none_found test (e ∷ es) (suc index) k x none is = none_found test es index k x (cond_none (test e.0) e.1 (lookup test es) none).1 is

-- A value that is found has a key that the test accepts.
pub some_found : {K X : Type 0} → (test : K → Bool) (es : List (K × X)) (x : X) → lookup test es ≡ Some x → ((index : ℕ) × (k : K) × (slice_get es index ≡ Some (k, x)) × (test k ≡ true))
some_found test [] x is = cc
some_found {K} {X} test (e ∷ es) x is = by (test e.0) refl is (some_found test es x)
  where
    by : (b : Bool) → test e.0 ≡ b → cond b (Some e.1) (lookup test es) ≡ Some x → (lookup test es ≡ Some x → ((index : ℕ) × (k : K) × (slice_get es index ≡ Some (k, x)) × (test k ≡ true))) → ((index : ℕ) × (k : K) × (slice_get (e ∷ es) index ≡ Some (k, x)) × (test k ≡ true))
    by true t found later = (0, e.0, ap (λ (v : X). Some (e.0, v)) (some_same e.1 x found), t)
    by false t found later =
        let rest = later found in
        (suc rest.0, rest.1, rest.2, rest.3)

-- An entry after an insertion was there, or has the new value and a key that is equal to the new one.
pub inserted_entry : {K X : Type 0} → (eq : K → K → Bool) (reflexive : (k : K) → eq k k ≡ true) (es : List (K × X)) (k : K) (v : X) (index : ℕ) (key : K) (x : X) → slice_get (insert_entry eq es k v) index ≡ Some (key, x) → (slice_get es index ≡ Some (key, x)) ⊎ ((eq k key ≡ true) × (x ≡ v))
inserted_entry {K} {X} eq reflexive [] k v zero key x is =
    let pair = some_same (k, v) (key, x) is in
    inr (ap (λ (p : K × X). eq k p.0) (sym pair) ∙ reflexive k, sym (ap (λ (p : K × X). p.1) pair))
inserted_entry eq reflexive [] k v (suc index) key x is = cc
inserted_entry {K} {X} eq reflexive (e ∷ es) k v index key x is = by (eq k e.0) refl index is (λ n. inserted_entry eq reflexive es k v n key x)
  where
    by : (b : Bool) → eq k e.0 ≡ b → (n : ℕ) → slice_get (cond b ((e.0, v) ∷ es) (e ∷ insert_entry eq es k v)) n ≡ Some (key, x) → ((m : ℕ) → slice_get (insert_entry eq es k v) m ≡ Some (key, x) → (slice_get es m ≡ Some (key, x)) ⊎ ((eq k key ≡ true) × (x ≡ v))) → (slice_get (e ∷ es) n ≡ Some (key, x)) ⊎ ((eq k key ≡ true) × (x ≡ v))
    by true t zero at later =
        let pair = some_same (e.0, v) (key, x) at in
        inr (ap (λ (p : K × X). eq k p.0) (sym pair) ∙ t, sym (ap (λ (p : K × X). p.1) pair))
    by true t (suc n) at later = inl at
    by false t zero at later = inl at
    by false t (suc n) at later = later n at

found_past : {K : Type 0} → (test : K → Bool) (ks : List K) (index : ℕ) → position test ks ≡ Some index → length ks ≤ index → ⊥
found_past test [] index is past = cc
found_past test (k ∷ ks) index is past = omega (arith, (position-Some test (k ∷ ks) index k is).0, past)

pub found_at : {K : Type 0} → (test : K → Bool) (ks : List K) (index : ℕ) → position test ks ≡ Some index → ((k : K) × (slice_get ks index ≡ Some k) × (test k ≡ true))
found_at test ks index is = elim (slice_get_cases ks index).1 [
  | inl there ↦ (there.0, there.2, ap test (sym there.3) ∙ (position-Some test ks index there.0 is).1)
  | inr past ↦ absurd (found_past test ks index is past.0)
]

pub map_at : {A B : Type 0} → (f : A → B) (xs : List A) (index : ℕ) (y : B) → slice_get (map f xs) index ≡ Some y → ((x : A) × (slice_get xs index ≡ Some x) × (f x ≡ y))
map_at f [] index y is = cc
map_at f (x ∷ xs) zero y is = (x, refl, some_same (f x) y is)
map_at f (x ∷ xs) (suc index) y is = map_at f xs index y is

pub at_map : {A B : Type 0} → (f : A → B) (xs : List A) (index : ℕ) (x : A) → slice_get xs index ≡ Some x → slice_get (map f xs) index ≡ Some (f x)
at_map f [] index x is = cc
at_map {A} {B} f (y ∷ xs) zero x is = ap (λ (v : A). Some (f v)) (some_same y x is)
at_map f (y ∷ xs) (suc index) x is = at_map f xs index x is

pub once_more : {A : Type 0} → (items : List A) (item : A) → IsOnce items → ((index : ℕ) → slice_get items index ≡ Some item → ⊥) → IsOnce (items ++ item ∷ [])
once_more {A} items item once new = λ first second x at also. elim (old_or_last items item first x at) [
  | inl was ↦ elim (old_or_last items item second x also) [
    | inl too ↦ once first second x was too
    | inr last ↦ absurd (new first (was ∙ ap (λ (y : A). Some y) last.1))
  ]
  | inr last ↦ elim (old_or_last items item second x also) [
    | inl too ↦ absurd (new second (too ∙ ap (λ (y : A). Some y) last.1))
    | inr both ↦ last.0 ∙ sym both.0
  ]
]

-- A table of values, in which an equality decides which are the same.
module _ {A : Type 0} (eq : A → A → Bool) (same : (a b : A) → Decides (eq a b) (a ≡ b)) where
  pub inserted_once : (old new : List A) (item : A) → IsOnce old → new ≡ insert_key eq old item → IsOnce new
  inserted_once old new item once is = by (list_any (eq item) old) refl is
    where
      by : (b : Bool) → list_any (eq item) old ≡ b → new ≡ cond b old (old ++ item ∷ []) → IsOnce new
      by true found same_as = subst IsOnce (sym same_as) once
      by false none longer = subst IsOnce (sym longer) (once_more old item once (λ index at. true≢false (sym ((same item item).1 refl) ∙ none_any (eq item) old index item none at)))

  pub insertion_once : {R E : Type 0} → (result : Result R E) (old new : List A) (item : A) → IsOnce old → IfOk result (λ r. new ≡ insert_key eq old item) → OnErr result (new ≡ old) → IsOnce new
  insertion_once (Ok r) old new item once adds same_as = inserted_once old new item once adds
  insertion_once (Err e) old new item once adds same_as = subst IsOnce (sym same_as) once

-- A table of lists, in which an equality of elements decides which are the same.
module _ {X : Type 0} (E : X → X → Bool) (same : (xs ys : List X) → Decides (pointwise E xs ys) (xs ≡ ys)) where
  abbrev items_of : List (Vec X Global) → List (List X)
  items_of keys = map (λ (key : Vec X Global). key.items) keys

  abbrev is_key : List X → Vec X Global → Bool
  is_key item key = pointwise E item key.items

  pub interned_old : (keys : List (Vec X Global)) (item : List X) (index : ℕ) → position (is_key item) keys ≡ Some index → Interns (items_of keys) item index (items_of keys)
  interned_old keys item index is =
      let found = found_at (is_key item) keys index is in
      record {
        is_at = at_map (λ (key : Vec X Global). key.items) keys index found.0 found.1 ∙ ap (λ (n : List X). Some n) (sym ((same item found.0.items).0 found.2));
        adds = inl refl;
      }

  -- The lists after one that is new.
  pub items_push : (keys new : List (Vec X Global)) (key : Vec X Global) (item : List X) → key.items ≡ item → list_any (is_key item) keys ≡ false → new ≡ insert_key (λ (a b : Vec X Global). pointwise E a.items b.items) keys key → items_of new ≡ items_of keys ++ item ∷ []
  items_push keys new key item is none adds =
      let absent : list_any (is_key key.items) keys ≡ false = ap (λ n. list_any (is_key n) keys) is ∙ none in
      let longer : new ≡ keys ++ key ∷ [] = adds ∙ ap (λ (b : Bool). cond b keys (keys ++ key ∷ [])) absent in
      ap items_of longer ∙ map-append (λ (k : Vec X Global). k.items) keys (key ∷ []) ∙ ap (λ (n : List X). items_of keys ++ n ∷ []) is

  pub interned_new : (keys new : List (Vec X Global)) (item : List X) → items_of new ≡ items_of keys ++ item ∷ [] → Interns (items_of keys) item (length keys) (items_of new)
  interned_new keys new item is = record {
    is_at = ap (λ (l : List (List X)). slice_get l (length keys)) is ∙ ap (slice_get (items_of keys ++ item ∷ [])) (sym (length-map keys (λ (k : Vec X Global). k.items))) ∙ slice_get_last (items_of keys) item;
    adds = inr is;
  }

  items_once : (keys new : List (Vec X Global)) (item : List X) → IsOnce (items_of keys) → list_any (is_key item) keys ≡ false → items_of new ≡ items_of keys ++ item ∷ [] → IsOnce (items_of new)
  items_once keys new item once none is =
      let absent : (index : ℕ) → slice_get (items_of keys) index ≡ Some item → ⊥ = λ index at.
      let key = map_at (λ (k : Vec X Global). k.items) keys index item at in
      true≢false (sym ((same item key.0.items).1 (sym key.2)) ∙ none_any (is_key item) keys index key.0 none key.1) in
      subst IsOnce (sym is) (once_more (items_of keys) item once absent)

  pub list_once : {F : Type 0} → (result : Result Bool F) (keys new : List (Vec X Global)) (key : Vec X Global) (item : List X) → key.items ≡ item → IsOnce (items_of keys) → list_any (is_key item) keys ≡ false → IfOk result (λ r. new ≡ insert_key (λ (a b : Vec X Global). pointwise E a.items b.items) keys key) → OnErr result (new ≡ keys) → IsOnce (items_of new)
  list_once (Ok r) keys new key item is once none adds same_as = items_once keys new item once none (items_push keys new key item is none adds)
  list_once (Err e) keys new key item is once none adds same_as = subst (λ (l : List (Vec X Global)). IsOnce (items_of l)) (sym same_as) once
