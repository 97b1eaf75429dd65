-- The parts of a file record of the older format follow one another.
use Rattle.std.proofs.Common.{◌≡◌, ℕ, ◌+◌, ◌<◌, ◌⊎◌, inl, inr, List, [], ◌∷◌, ◌++◌, length, map, refl, sym, ap, ◌∙◌, subst, arith}
use Rattle.std.proofs.lemmas.List.{length_push, map_push}
use Rattle.std.specs.declared.io.ErrorKind.{ErrorKind}
use Rattle.std.specs.declared.io.ErrorKind.TheVariants.{OutOfMemory}
use Rattle.perfdata_simpleperf.specs.FileV1.{RepeatedAt, BoundedAt, CountedAt, CountedError}

-- a list with one more item
pub length_more : {X : Type 0} (items new : List X) (x : X) (n : ℕ) → new ≡ items ++ x ∷ [] → length items ≡ n → length new ≡ n + 1
length_more items new x n pushed long = omega (arith, ap length pushed, length_push items x)

module _ {A : Type 0} (ItemAt : List ℕ → A → List ℕ → Type 0) where
  -- one more part
  pub many_push : (bs : List ℕ) (ds : List A) (mid : List ℕ) (d : A) (rest : List ℕ) → RepeatedAt ItemAt bs ds mid → ItemAt mid d rest → RepeatedAt ItemAt bs (ds ++ d ∷ []) rest
  many_push bs [] mid d rest are one = (rest, subst (λ (l : List ℕ). ItemAt l d rest) are one, refl)
  many_push bs (x ∷ ds) mid d rest are one = (are.0, are.1, many_push are.0 ds mid d rest are.2 one)

  -- the same for the views of a list's items
  pub many_more : {X : Type 0} (view : X → A) (bs : List ℕ) (items new : List X) (x : X) (mid rest : List ℕ) → RepeatedAt ItemAt bs (map view items) mid → ItemAt mid (view x) rest → new ≡ items ++ x ∷ []
      → RepeatedAt ItemAt bs (map view new) rest
  many_more view bs items new x mid rest are one pushed =
      subst (λ (l : List A). RepeatedAt ItemAt bs l rest) (sym (ap (map view) pushed ∙ map_push view items x)) (many_push bs (map view items) mid (view x) rest are one)

  module _ (number : ℕ → List ℕ → ℕ) where
    -- as many parts as the count says
    pub counted : (bs mid rest : List ℕ) (n : ℕ) (ds : List A) → BoundedAt number length bs n mid → length ds ≡ n → RepeatedAt ItemAt mid ds rest → CountedAt number ItemAt bs ds rest
    counted bs mid rest n ds count long are = (mid, subst (λ (m : ℕ). BoundedAt number length bs m mid) (sym long) count, (refl, are))

    -- the next part has an error
    pub counted_stop : (ItemError : List ℕ → ErrorKind → Type 0) (bs mid here : List ℕ) (n : ℕ) (ds : List A) (kind : ErrorKind) → BoundedAt number length bs n mid → length ds < n → RepeatedAt ItemAt mid ds here
        → (kind ≡ OutOfMemory) ⊎ ItemError here kind → (kind ≡ OutOfMemory) ⊎ CountedError number ItemAt ItemError bs kind
    counted_stop ItemError bs mid here n ds kind count fewer are (inl memory) = inl memory
    counted_stop ItemError bs mid here n ds kind count fewer are (inr error) = inr (inr (n, mid, count, record { earlier = ds; mid = here; too_few = fewer; elements = are; error_here = error }))
