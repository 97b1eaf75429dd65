use Rattle.std.proofs.Common.{◌∙◌, ◌∷◌, [], ◌++◌, ap, arith, sym, subst, append_assoc, List, ℤ, w32}
use Rattle.std.proofs.lemmas.Int.{to_z-of_z}
use Rattle.std.proofs.lemmas.List.{append-nil}
use Rattle.perfdata_stacks.specs.Frames.{remaining_frames, sample_frames}
use Rattle.perfdata_stacks.specs.declared.frames.SampleFrame.{SampleFrame}
use Rattle.perfdata_stack_arrays.proofs.Finding.{writes_more, writes_none}
use Rattle.perfdata_stack_arrays.specs.steps.Frames.{WritesFrames}
use Rattle.perfdata_stack_arrays.proofs.frame.write_frames.Goals as goal

pub frames-init : goal.frames-init
frames-init c = λ before follows. ([], sym (c.new-rest.ensures ∙ ap (sample_frames c.args.sample.now) c.context_of_mode.ensures), writes_none before _ _ _)

pub frames-preserved : goal.frames-preserved
frames-preserved c = λ before follows.
    let old = c.frames.invariant before follows in
    let frame = c.in-Some.frame in
    let pid = to_z-of_z w32 c.args.pid c.ranges.pid in
    let steps = ap (λ (l : List SampleFrame). old.0 ++ l) c.in-Some.ensures.steps in
    let is = rw pid at (c.frame_entry-entry.ensures before follows) in
    let more = writes_more before c.args.pid old.0 frame c.args.used c.args.frames.now _ c.write_entry.new.array _ _ c.add_counts-count.result _ (rw pid at old.2) is (omega arith) c.add_counts.ensures c.write_entry.ensures.written c.add_counts-count.ensures in (
      old.0 ++ frame ∷ [],
      old.1 ∙ steps ∙ sym (append_assoc old.0 (frame ∷ []) (remaining_frames c.next.new.self)),
      subst (λ (p : ℤ). WritesFrames before p (old.0 ++ frame ∷ []) c.args.used c.args.frames.now c.add_counts-count.result c.write_entry.new.array) (sym pid) more,
    )

pub returns : goal.returns
returns c = λ before follows.
    let old = c.frames.invariant before follows in
    let all = old.1 ∙ ap (λ (l : List SampleFrame). old.0 ++ l) c.in_default.ensures.steps.0 ∙ append-nil old.0 in
    subst (λ (frames : List SampleFrame). WritesFrames before c.args.pid frames c.args.used c.args.frames.now c.frames.count c.frames.frames) (sym all) (rw (to_z-of_z w32 c.args.pid c.ranges.pid) at old.2)
