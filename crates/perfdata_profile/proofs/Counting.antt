-- Samples as they are counted.
use Rattle.std.proofs.Common.{◌≡◌, ◌∙◌, inl, inr, ap, sym, subst, arith, ℕ, List, [], ◌∷◌, ◌++◌, length, length-append, filter, cond, map, slice_get, Some, Result, Ok, Err, OnOk}
use Rattle.std.proofs.lemmas.List.{append-nil, map-append}
use Rattle.std.proofs.lemmas.List.Elements.{filter-append}
use Rattle.perfdata_events.specs.declared.event.EventRecord.TheVariants.{Sample}
use Rattle.perfdata_events.specs.declared.sample.SampleRecord.{SampleRecord}
use Rattle.perfdata_profile.specs.Samples.{AreCounted, none, passed, sample, AreRelated, Given, applied_in, is_selected}
use Rattle.perfdata_profile.specs.Tallies.{Counted}
use Rattle.perfdata_profile.proofs.Elements.{old_or_last}
use Rattle.perfdata_spaces.specs.Effects.{Applied}

pub related_push : {A B : Type 0} → (relation : A → B → Type 0) (xs : List A) (ys : List B) (x : A) (y : B) → AreRelated relation xs ys → relation x y → AreRelated relation (xs ++ x ∷ []) (ys ++ y ∷ [])
related_push relation [] [] x y are is = (is, tt)
related_push relation [] (z ∷ ys) x y are is = absurd are
related_push relation (z ∷ xs) [] x y are is = absurd are
related_push relation (z ∷ xs) (w ∷ ys) x y are is = (are.0, related_push relation xs ys x y are.1 is)

-- The keys of what is counted, as others.
module _ {K L : Type 0} (f : K → L) (first : List Applied → ℕ → SampleRecord → ℕ → K → Type 0) (second : List Applied → ℕ → SampleRecord → ℕ → L → Type 0) (weaker : (before : List Applied) (misc : ℕ) (s : SampleRecord) (column : ℕ) (key : K) → first before misc s column key → second before misc s column (f key)) where
  abbrev as_other : Counted K → Counted L
  as_other counted = record { key = f counted.key; weight = counted.weight }

  pub counted_map : (given : List Given) (all : List (Counted K)) → AreCounted first given all → AreCounted second given (map as_other all)
  counted_map given all (none _ _ no_records no_samples) = none given (map as_other all) no_records (ap (map as_other) no_samples)
  counted_map given all (passed _ earlier _ last is not are) = passed given earlier (map as_other all) last is not (counted_map earlier all are)
  counted_map given all (sample _ earlier _ counted misc s weight key is all_is is_key are) = sample given earlier (map as_other all) (map as_other counted) misc s weight (f key) is (ap (map as_other) all_is ∙ map-append as_other counted (record { key = key; weight = weight.weight } ∷ [])) (weaker (applied_in earlier) misc s weight.column key is_key) (counted_map earlier counted are)

-- The same keys by another rule.
module _ {K : Type 0} (first second : List Applied → ℕ → SampleRecord → ℕ → K → Type 0) (weaker : (before : List Applied) (misc : ℕ) (s : SampleRecord) (column : ℕ) (key : K) → first before misc s column key → second before misc s column key) where
  pub counted_weaker : (given : List Given) (all : List (Counted K)) → AreCounted first given all → AreCounted second given all
  counted_weaker given all (none _ _ no_records no_samples) = none given all no_records no_samples
  counted_weaker given all (passed _ earlier _ last is not are) = passed given earlier all last is not (counted_weaker earlier all are)
  counted_weaker given all (sample _ earlier _ counted misc s weight key is all_is is_key are) = sample given earlier all counted misc s weight key is all_is (weaker (applied_in earlier) misc s weight.column key is_key) (counted_weaker earlier counted are)

-- What holds of the keys of samples holds of all keys.
pub counted_keys : {K : Type 0} → (is_key : List Applied → ℕ → SampleRecord → ℕ → K → Type 0) (holds : K → Type 0) → ((before : List Applied) (misc : ℕ) (s : SampleRecord) (column : ℕ) (key : K) → is_key before misc s column key → holds key) → (given : List Given) (all : List (Counted K)) → AreCounted is_key given all → (index : ℕ) (one : Counted K) → slice_get all index ≡ Some one → holds one.key
counted_keys is_key holds each given all (none _ _ no_records no_samples) index one at = cc
counted_keys is_key holds each given all (passed _ earlier _ last is not are) index one at = counted_keys is_key holds each earlier all are index one at
counted_keys is_key holds each given all (sample _ earlier _ counted misc s weight key is all_is is_one are) index one at =
    elim (old_or_last counted (record { key = key; weight = weight.weight }) index one (ap (λ l. slice_get l index) (sym all_is) ∙ at)) [
      | inl was ↦ counted_keys is_key holds each earlier counted are index one was
      | inr last ↦ subst holds (sym (ap (λ (c : Counted _). c.key) last.1)) (each (applied_in earlier) misc s weight.column key is_one)
    ]

-- Each selected sample is counted once.
pub counted_number : {K : Type 0} → (is_key : List Applied → ℕ → SampleRecord → ℕ → K → Type 0) (given : List Given) (all : List (Counted K)) → AreCounted is_key given all → length all ≡ length (filter is_selected given)
counted_number is_key given all (none _ _ no_records no_samples) = ap length no_samples ∙ ap (λ g. length (filter is_selected g)) (sym no_records)
counted_number is_key given all (passed _ earlier _ last is not are) =
    let pushed = ap (filter is_selected) is ∙ filter-append is_selected earlier (last ∷ []) ∙ ap (λ b. filter is_selected earlier ++ cond b (last ∷ []) []) not ∙ append-nil (filter is_selected earlier) in
    counted_number is_key earlier all are ∙ ap length (sym pushed)
counted_number is_key given all (sample _ earlier _ counted misc s weight key is all_is is_one are) =
    let last : Given = record { misc = misc; event = Sample s; weight = Some weight } in
    let pushed = ap (filter is_selected) is ∙ filter-append is_selected earlier (last ∷ []) in
    let more = ap length all_is ∙ length-append counted (record { key = key; weight = weight.weight } ∷ []) in
    let records = ap length pushed ∙ length-append (filter is_selected earlier) (last ∷ []) in
    omega (arith, counted_number is_key earlier counted are, more, records)

pub on_ok : {T E : Type 0} {A : Type 0} → (result : Result T E) → A → OnOk result A
on_ok (Ok x) a = a
on_ok (Err e) a = tt

pub on_ok_map : {T E : Type 0} {A B : Type 0} → (result : Result T E) → OnOk result A → (A → B) → OnOk result B
on_ok_map (Ok x) a f = f a
on_ok_map (Err e) a f = tt
