-- Elements that are written over the start of an array.
use Rattle.std.proofs.Common.{◌≡◌, ℕ, zero, suc, ◌<◌, ◌++◌, List, [], ◌∷◌, length, refl, ap, ◌∙◌, arith}
use Rattle.std.specs.Prelude.{slice_set}
use Rattle.linux_perf_data.specs.RecordEntries.{with_prefix}
use Rattle.perfdata_arrays.proofs.OverwriteLemmas.{with_entries_at-with_prefix}
use Rattle.perfdata_arrays.specs.Overwrites.{with_entries_at}

-- one element is set
pub set_as_entries : {T : Type 0} (at : ℕ) (e : T) (old : List T) → at < length old → slice_set old at e ≡ with_entries_at at (e ∷ []) old
set_as_entries at e [] within = absurd (omega (arith, within))
set_as_entries zero e (o ∷ os) within = refl
set_as_entries (suc at) e (o ∷ os) within = ap (λ l. o ∷ l) (set_as_entries at e os (omega (arith, within)))

-- no elements are written
pub no_entries : {T : Type 0} (at : ℕ) (old : List T) → old ≡ with_entries_at at [] old
no_entries zero [] = refl
no_entries (suc at) [] = refl
no_entries zero (o ∷ os) = refl
no_entries (suc at) (o ∷ os) = ap (λ l. o ∷ l) (no_entries at os)

-- elements after those that are written
pub more_entries : {T : Type 0} (count : ℕ) (own more array now after : List T) → count ≡ length own → now ≡ with_prefix own array → after ≡ with_entries_at count more now → after ≡ with_prefix (own ++ more) array
more_entries count own more array now after counted written more_written =
    more_written ∙ ap (λ l. with_entries_at count more l) written ∙ ap (λ n. with_entries_at n more (with_prefix own array)) counted ∙ with_entries_at-with_prefix own more array
