use Rattle.std.proofs.Common.{rules, ◌≡◌, ◌∙◌, ◌∷◌, [], ◌++◌, ap, sym, append_assoc, List}
use Rattle.std.proofs.lemmas.List.{append-nil}
use Rattle.perfdata_stacks.specs.Frames.{remaining_frames, sample_frames}
use Rattle.perfdata_stacks.specs.declared.frames.SampleFrame.{SampleFrame}
use Rattle.perfdata_profile.proofs.resolver.resolve_frames.Goals as goal

pub frames-init : goal.frames-init
frames-init c =
    let empty : c.clear.new.self.items ≡ [] = search rules in
    sym (c.new-rest.ensures ∙ ap (sample_frames c.args.sample.now) c.context_of_mode.ensures) ∙ ap (λ (l : List SampleFrame). l ++ remaining_frames c.new-rest.result) (sym empty)

pub frames-preserved : goal.frames-preserved
frames-preserved c =
    let steps = ap (λ (l : List SampleFrame). c.frames.frames.items ++ l) c.in-Some.ensures.steps in
    c.frames.invariant ∙ steps ∙ sym (append_assoc c.frames.frames.items (c.in-Some.frame ∷ []) (remaining_frames c.next.new.self)) ∙ ap (λ (l : List SampleFrame). l ++ remaining_frames c.next.new.self) (sym c.in_ok-push.ensures.items)

pub returns : goal.returns
returns c = sym (c.frames.invariant ∙ ap (λ (l : List SampleFrame). c.frames.frames.items ++ l) c.in_default.ensures.steps.0 ∙ append-nil c.frames.frames.items)
