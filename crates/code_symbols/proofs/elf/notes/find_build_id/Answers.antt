use Rattle.std.proofs.Common.{◌≡◌, ℕ, ◌-◌, ◌^◌, ◌<◌, List, [], ◌∷◌, length, take, drop, sym, ap, subst, ◌∙◌, arith, rules}
use Rattle.std.specs.Prelude.{slice_range}
use Rattle.std.proofs.lemmas.Bool.{false≢true}
use Rattle.std.proofs.lemmas.Bool.Decides.{Decides-eqb}
use Rattle.std.proofs.lemmas.List.{take_all, length-drop}
use Rattle.std.proofs.lemmas.Slice.Eq.{slice_eq-Decides}
use Rattle.code_symbols.specs.Notes.{IsBuildIdNote, note_alignment}
use Rattle.code_symbols.specs.steps.Notes.{FollowOthers}
use Rattle.code_symbols.proofs.NoteLemmas.{follow_more, found_after, has_id, is_build_id, next_rest}
use Rattle.code_symbols.proofs.elf.notes.find_build_id.Goals as goal
use Rattle.code_symbols.proofs.elf.notes.find_build_id.Goals.{else-read_u32-eq-BUILD_ID-via-then-read_u32-eq-BUILD_ID+else-eq, else-read_u32-eq-BUILD_ID-via-else-read_u32-eq-BUILD_ID}

pub returns-then-eq : goal.returns-then-eq
returns-then-eq c =
    let e = c.args.encoding in
    let alignment = note_alignment c.args.has_align_8 in
    let notes : List ℕ = c.args.notes.now in
    let at : ℕ = c.notes.at in
    let rest : List ℕ = take (length notes - at) (drop at notes) in
    let same : rest ≡ drop at notes = take_all (length notes - at) (drop at notes) (omega (arith, length-drop at notes)) in
    let some : 0 < length rest = omega (arith, ap length same, length-drop at notes, c.notes-test.true) in
    let layout = c.in_ok-layout.layout in
    let is = c.in_ok-layout.ensures.is in
    let owner : slice_range rest 12 layout.owner_end ≡ 71 ∷ 78 ∷ 85 ∷ 0 ∷ [] =
    (slice_eq-Decides Decides-eqb (slice_range rest 12 layout.owner_end) c.as_slice.result.now c.eq.result c.eq.ensures).0 c.if-eq.true ∙ c.as_slice.ensures in
    found_after e alignment notes rest _ (subst (FollowOthers e alignment notes) (sym same) c.notes.invariant)
    (has_id e alignment notes rest layout some is (is_build_id e alignment notes rest layout is (sym c.read_u32.ensures ∙ c.if-read_u32-eq-BUILD_ID.true) owner))

pub notes-preserved : goal.notes-preserved
notes-preserved c =
    let e = c.args.encoding in
    let alignment = note_alignment c.args.has_align_8 in
    let notes : List ℕ = c.args.notes.now in
    let at : ℕ = c.notes.at in
    let rest : List ℕ = take (length notes - at) (drop at notes) in
    let same : rest ≡ drop at notes = take_all (length notes - at) (drop at notes) (omega (arith, length-drop at notes)) in
    let some : 0 < length rest = omega (arith, ap length same, length-drop at notes, c.notes-test.true) in
    let small : length notes < 2 ^ 63 = search rules in
    let layout = c.in_ok-layout.layout in
    let is = c.in_ok-layout.ensures.is in
    let other : ¬ IsBuildIdNote e alignment rest = elim c.else-read_u32-eq-BUILD_ID.branch [
      | else-read_u32-eq-BUILD_ID-via-then-read_u32-eq-BUILD_ID+else-eq w ↦ λ b.
          let owner = subst (λ k. slice_range rest 12 k ≡ 71 ∷ 78 ∷ 85 ∷ 0 ∷ []) (sym is.owner_end_is) b.owner in
          let equal = (slice_eq-Decides Decides-eqb (slice_range rest 12 layout.owner_end) w.as_slice.result.now w.eq.result w.eq.ensures).1 (owner ∙ sym w.as_slice.ensures) in
          absurd (false≢true (sym w.if-eq.false ∙ equal))
      | else-read_u32-eq-BUILD_ID-via-else-read_u32-eq-BUILD_ID w ↦ λ b. absurd (w.if-read_u32-eq-BUILD_ID.false (c.read_u32.ensures ∙ b.note_type))
    ] in
    follow_more e alignment notes rest _ (subst (FollowOthers e alignment notes) (sym same) c.notes.invariant)
    (record { some = some; complete = is.complete; other = other })
    (next_rest e alignment notes rest layout at c.aligned.result c.saturating_add-at.result same small is c.aligned.ensures.is c.saturating_add-at.ensures)
