-- What the locations in mappings have, as locations are added.
use Rattle.std.proofs.Common.{◌≡◌, ◌∙◌, ◌+◌, ◌-◌, ◌<◌, ◌≤◌, ap, arith, refl, subst, ℕ, suc, List, [], ◌∷◌, length, replicate, slice_index_or}
use Rattle.std.proofs.lemmas.List.{get_or-replicate, length-replicate}
use Rattle.pprof.specs.Rows.{numbered}
use Rattle.pprof.specs.Tables.{Place, mapping_row}
use Rattle.pprof.specs.steps.Flags.{AreFlags, flagged_row, flags_of, no_flags, row_with}
use Rattle.pprof.specs.declared.builder.FunctionNames.{FunctionNames}
use Rattle.pprof.specs.declared.builder.MappedFile.{MappedFile}
use Rattle.pprof.specs.declared.builder.SourceFlags.{SourceFlags}

-- Mappings without locations.
pub no_places : (functions : List FunctionNames) (count : ℕ) (flags : List SourceFlags) → flags ≡ replicate count no_flags → AreFlags functions [] flags
no_places functions count flags is = λ index inside.
    let size : length flags ≡ count = ap (λ (fs : List SourceFlags). length fs) is ∙ length-replicate count no_flags in
    ap (λ (fs : List SourceFlags). slice_index_or fs index no_flags) is ∙ get_or-replicate count index no_flags no_flags (omega (arith, inside, size))

numbered_same : {A B : Type 0} → (f g : ℕ → A → B) (id : ℕ) (rows : List A) → ((n : ℕ) (row : A) → n < length rows → f (id + n) row ≡ g (id + n) row) → numbered f id rows ≡ numbered g id rows
numbered_same f g id [] same = refl
numbered_same {A} {B} f g id (row ∷ rows) same =
    let here : id + 0 ≡ id = omega arith in
    let first : f id row ≡ g id row = subst (λ (n : ℕ). f n row ≡ g n row) here (same 0 row (omega arith)) in
    let rest = numbered_same f g (id + 1) rows (λ n r inside.
    let moved : id + suc n ≡ id + 1 + n = omega arith in
    subst (λ (m : ℕ). f m r ≡ g m r) moved (same (suc n) r (omega (arith, inside)))) in
    ap (λ (b : B). b ∷ numbered f (id + 1) rows) first ∙ ap (λ (bs : List B). g id row ∷ bs) rest

-- The messages of mappings with the flags of their locations.
pub mappings_are : (functions : List FunctionNames) (places : List Place) (flags : List SourceFlags) (files : List MappedFile) → length files ≤ length flags → AreFlags functions places flags
    → numbered (flagged_row flags) 1 files ≡ numbered (mapping_row functions places) 1 files
mappings_are functions places flags files many are = numbered_same (flagged_row flags) (mapping_row functions places) 1 files (λ n file inside.
    let index : 1 + n - 1 ≡ n = omega arith in
    let id : n + 1 ≡ 1 + n = omega arith in
    ap (λ (m : ℕ). row_with (slice_index_or flags m no_flags) (1 + n) file) index
    ∙ ap (λ (f : SourceFlags). row_with f (1 + n) file) (are n (omega (arith, inside, many)) ∙ ap (λ (m : ℕ). flags_of functions places m) id))
