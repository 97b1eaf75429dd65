-- The list of samples as one more is counted.
use Rattle.std.proofs.Common.{◌≡◌, ◌∙◌, ◌-◌, ap, refl, sym, subst, arith, ℕ, false, List, [], ◌∷◌, ◌++◌, length, map, slice_get, take, Option, None, Some, Result, Ok, Err, OnOk}
use Rattle.std.proofs.lemmas.List.{append-nil, length_push, map_push, take_at}
use Rattle.std.proofs.lemmas.List.Concat.{flat_map-append}
use Rattle.perfdata_events.specs.declared.event.EventRecord.{EventRecord}
use Rattle.perfdata_events.specs.declared.event.EventRecord.TheVariants.{Sample}
use Rattle.perfdata_profile.specs.SampleLists.{IsEntryOf, ListsCounted, listed_in, selected_times, selected_times_as, selected_times_of}
use Rattle.perfdata_profile.specs.SampleSums.{KeepsKeys, then_counted}
use Rattle.perfdata_profile.specs.Samples.{AreRelated, Given, is_selected, is_selected_as}
use Rattle.perfdata_profile.specs.Tallies.{Counted}
use Rattle.perfdata_profile.specs.declared.sample_list.ListedSample.{ListedSample}
use Rattle.perfdata_profile.specs.declared.sample_list.SampleList.{SampleList}
use Rattle.perfdata_profile.specs.declared.sums.SampleKey.{SampleKey}
use Rattle.perfdata_profile.specs.declared.sums.SampleWeight.{SampleWeight}
use Rattle.perfdata_profile.specs.declared.sums.Sums.{Sums}
use Rattle.perfdata_profile.proofs.Counting.{related_push}

pub related_map : {A B C : Type 0} → (relation : A → B → Type 0) (other : A → C → Type 0) (f : B → C) → ((x : A) (y : B) → relation x y → other x (f y)) → (xs : List A) (ys : List B) → AreRelated relation xs ys → AreRelated other xs (map f ys)
related_map relation other f weaker [] [] are = tt
related_map relation other f weaker [] (y ∷ ys) are = absurd are
related_map relation other f weaker (x ∷ xs) [] are = absurd are
related_map relation other f weaker (x ∷ xs) (y ∷ ys) are = (weaker x y are.0, related_map relation other f weaker xs ys are.1)

pub related_weaker : {A B : Type 0} → (relation other : A → B → Type 0) → ((x : A) (y : B) → relation x y → other x y) → (xs : List A) (ys : List B) → AreRelated relation xs ys → AreRelated other xs ys
related_weaker relation other weaker [] [] are = tt
related_weaker relation other weaker [] (y ∷ ys) are = absurd are
related_weaker relation other weaker (x ∷ xs) [] are = absurd are
related_weaker relation other weaker (x ∷ xs) (y ∷ ys) are = (weaker x y are.0, related_weaker relation other weaker xs ys are.1)

-- The times of records after one more.
pub times_push : (given : List Given) (last : Given) → selected_times (given ++ last ∷ []) ≡ selected_times given ++ selected_times_of last
times_push given last = flat_map-append selected_times_of given (last ∷ []) ∙ ap (λ l. selected_times given ++ l) (append-nil (selected_times_of last))

no_times : (event : EventRecord) (weight : Option SampleWeight) → is_selected_as event weight ≡ false → selected_times_as event weight ≡ []
no_times (Sample s) (Some w) not = cc
no_times (Sample s) None not = refl
no_times event weight not = refl

pub times_stay : (given : List Given) (last : Given) → is_selected last ≡ false → selected_times (given ++ last ∷ []) ≡ selected_times given
times_stay given last not = times_push given last ∙ ap (λ l. selected_times given ++ l) (no_times last.event last.weight not) ∙ append-nil (selected_times given)

-- One more sample is counted and listed.
pub lists_more : (old new : List (SampleKey × Sums)) (list longer : SampleList) (key : SampleKey) (time : Option ℕ) (weight entry : ℕ) (sums : Sums) → KeepsKeys old new → slice_get new entry ≡ Some (key, sums) → listed_in longer ≡ listed_in list ++ record { time = time; entry = entry; weight = weight } ∷ [] → (times : List (Option ℕ)) (counted : List (Counted SampleKey)) → ListsCounted times counted old list → ListsCounted (times ++ time ∷ []) (then_counted counted key weight) new longer
lists_more old new list longer key time weight entry sums keeps at longer_is times counted lists =
    let last : ListedSample = record { time = time; entry = entry; weight = weight } in
    let one : Counted SampleKey = record { key = key; weight = weight } in
    let kept = related_weaker (IsEntryOf old) (IsEntryOf new) (λ listed c is.
    let now = keeps listed.entry c.key is.sums is.entry in
    record { sums = now.0; entry = now.1; weight = is.weight }) (listed_in list) counted lists.listed in
    record {
      times = ap (map (λ (l : ListedSample). l.time)) longer_is ∙ map_push (λ (l : ListedSample). l.time) (listed_in list) last ∙ ap (λ (ts : List (Option ℕ)). ts ++ time ∷ []) lists.times;
      listed = subst (λ (l : List ListedSample). AreRelated (IsEntryOf new) l (then_counted counted key weight)) (sym longer_is) (related_push (IsEntryOf new) (listed_in list) counted last one kept (record { sums = sums; entry = at; weight = refl }));
    }

-- What is removed after it was appended.
pub take_pushed : {A : Type 0} → (xs : List A) (x : A) (longer : List A) → longer ≡ xs ++ x ∷ [] → take (length longer - 1) longer ≡ xs
take_pushed xs x longer is =
    let size : length xs ≡ length (xs ++ x ∷ []) - 1 = omega (arith, length_push xs x) in
    ap (λ l. take (length l - 1) l) is ∙ take_at xs (x ∷ []) (length (xs ++ x ∷ []) - 1) size

pub on_ok_both : {T E : Type 0} {A B C : Type 0} → (result : Result T E) → OnOk result A → OnOk result B → (A → B → C) → OnOk result C
on_ok_both (Ok x) a b f = f a b
on_ok_both (Err e) a b f = tt
