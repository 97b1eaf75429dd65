-- Notes one after the other.
use Rattle.std.proofs.Common.{◌≡◌, ℕ, suc, ◌+◌, ◌-◌, ◌^◌, ◌<◌, inl, inr, List, [], ◌∷◌, drop, length, Some, sym, ap, subst, ◌∙◌, arith}
use Rattle.std.specs.Prelude.{min, slice_range}
use Rattle.std.proofs.lemmas.Bool.{cases_lt}
use Rattle.std.proofs.lemmas.List.{drop-drop, drop_all}
use Rattle.code_symbols.specs.ElfImages.{number_at}
use Rattle.code_symbols.specs.Notes.{HasBuildId, IsBuildIdNote, IsFirstBuildId, IsOtherNote, after_notes, description_start, next_note, round_up}
use Rattle.code_symbols.specs.steps.Notes.{FollowOthers, IsLayout}
use Rattle.code_symbols.specs.declared.elf.input.Encoding.{Encoding}
use Rattle.code_symbols.specs.declared.elf.notes.NoteLayout.{NoteLayout}

module _ (e : Encoding) (alignment : ℕ) (bytes : List ℕ) where
  -- one more note
  pub follow_more : (rest next : List ℕ) → FollowOthers e alignment bytes rest → IsOtherNote e alignment rest → next ≡ drop (next_note e alignment rest) rest → FollowOthers e alignment bytes next
  follow_more rest next f other is = record {
    count = suc f.count;
    before = λ k lt. elim (cases_lt k f.count) [
      | inl less ↦ f.before k less
      | inr more ↦
          let same : f.count ≡ k = omega (arith, lt, more) in
          subst (λ n. IsOtherNote e alignment (after_notes e alignment bytes n)) same (subst (IsOtherNote e alignment) f.is other)
    ];
    is = is ∙ ap (λ r. drop (next_note e alignment r) r) f.is;
  }

  -- the build id is in the next note
  pub found_after : (rest id : List ℕ) → FollowOthers e alignment bytes rest → HasBuildId e alignment rest id → IsFirstBuildId e alignment bytes (Some id)
  found_after rest id f has = record { count = f.count; before = f.before; found = subst (λ r. HasBuildId e alignment r id) f.is has }

  -- the note at the start of the rest is one with a build id
  pub is_build_id : (rest : List ℕ) (layout : NoteLayout) → IsLayout e alignment rest layout → number_at e rest 8 4 ≡ 3
      → slice_range rest 12 layout.owner_end ≡ 71 ∷ 78 ∷ 85 ∷ 0 ∷ [] → IsBuildIdNote e alignment rest
  is_build_id rest layout is kind owner = record {
    note_type = kind;
    owner = subst (λ k. slice_range rest 12 k ≡ 71 ∷ 78 ∷ 85 ∷ 0 ∷ []) is.owner_end_is owner;
  }

  -- its description is the build id
  pub has_id : (rest : List ℕ) (layout : NoteLayout) → 0 < length rest → IsLayout e alignment rest layout → IsBuildIdNote e alignment rest
      → HasBuildId e alignment rest (slice_range rest layout.description layout.description_end)
  has_id rest layout some is build_id = record {
    some = some;
    complete = is.complete;
    is_build_id = build_id;
    id_is = ap (λ k. slice_range rest k layout.description_end) is.description_is ∙ ap (λ k. slice_range rest (description_start e alignment rest) k) is.description_end_is;
  }

  -- the next note, which isn't beyond the greatest index
  pub next_rest : (rest : List ℕ) (layout : NoteLayout) (at size next : ℕ) → rest ≡ drop at bytes → length bytes < 2 ^ 63 → IsLayout e alignment rest layout
      → size ≡ round_up layout.description_end alignment → next ≡ min (at + size) (2 ^ 64 - 1) → drop next bytes ≡ drop (next_note e alignment rest) rest
  next_rest rest layout at size next same small is size_is next_is =
      let all : drop (at + size) bytes ≡ drop size rest = sym (ap (λ r. drop size r) same ∙ drop-drop size at bytes) in
      let step : size ≡ next_note e alignment rest = size_is ∙ ap (λ k. round_up k alignment) is.description_end_is in
      let reached : drop next bytes ≡ drop (at + size) bytes = elim (cases_lt (at + size) (2 ^ 64)) [
        | inl less ↦ let equal : next ≡ at + size = omega (arith, next_is, less) in ap (λ k. drop k bytes) equal
        | inr more ↦ drop_all next bytes (omega (arith, next_is, more, small)) ∙ sym (drop_all (at + size) bytes (omega (arith, more, small)))
      ] in
      reached ∙ all ∙ ap (λ k. drop k rest) step
