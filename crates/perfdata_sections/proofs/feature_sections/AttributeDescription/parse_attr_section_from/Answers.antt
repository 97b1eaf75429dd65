use Rattle.std.proofs.Common.{rules, arith, ◌≡◌, ◌+◌, ◌-◌, ◌<◌, ◌≤◌, ◌^◌, ◌∷◌, [], ◌++◌, length-append, refl, inr, ◌∙◌, None}
use Rattle.std.proofs.lemmas.Result.{err_from_is_err_and}
use Rattle.perfdata_sections.specs.Items.{ReadOrSeekErrorAt}
use Rattle.perfdata_sections.specs.AttrFrames.{IsFrameReadError, ConsumesFrameError, IsPlainDescription}
use Rattle.perfdata_sections.specs.declared.feature_sections.AttributeDescription.{AttributeDescription}
use Rattle.perfdata_sections.proofs.ItemRuns.{items_complete, items_more, items_some, items_error, error_later}
use Rattle.perfdata_sections.proofs.Frames.{described, attr_section_valid, frame_carries}
use Rattle.perfdata_sections.proofs.feature_sections.AttributeDescription.parse_attr_section_from.Goals as goal

pub returns-in_err-attr-clause-reads : goal.returns-in_err-attr-clause-reads
returns-in_err-attr-clause-reads g c =
    let some : 0 < c.args.attr_size = omega arith in
    let sum : c.in-Some.end ≡ c.args.section.now.offset + c.args.section.now.size = search rules in
    let low : c.args.section.now.offset + c.args.section.now.size < 2 ^ 64 = omega arith in
    let more : c.args.attr_size ≤ c.args.section.now.offset + c.args.section.now.size - c.frames.at = omega arith in
    let p = err_from_is_err_and c.from_residual.result c.from_residual.ensures.1 in
    rw (p.1, p.2) (inr (
      attr_section_valid g.T.ByteOrder.number_of c.args.attr_size c.args.section.now some low,
      items_error (IsPlainDescription g.T.ByteOrder.number_of c.args.attr_size) c.args.attr_size c.args.section.now.offset c.args.section.now.size _ _ c.frames.at _ some c.frames.invariant.so_far
          (ReadOrSeekErrorAt (ConsumesFrameError g.T.ByteOrder.number_of c.args.attr_size) (IsFrameReadError g.T.ByteOrder.number_of c.args.attr_size)) (g.C.Source.state c.seek_and_read_attr_frame.new.source) _
          (λ k. error_later (ConsumesFrameError g.T.ByteOrder.number_of c.args.attr_size) (IsFrameReadError g.T.ByteOrder.number_of c.args.attr_size) (frame_carries g.T.ByteOrder.number_of g.met.T.ByteOrder.reads_first c.args.attr_size) _ _ _ k _ c.frames.invariant.so_far.after_seek)
          more c.in_err-attr.ensures.reads,
    ))

pub frames-preserved : goal.frames-preserved
frames-preserved g c =
    let some : 0 < c.args.attr_size = omega arith in
    let sum : c.in-Some.end ≡ c.args.section.now.offset + c.args.section.now.size = search rules in
    let more : c.args.attr_size ≤ c.args.section.now.offset + c.args.section.now.size - c.frames.at = omega arith in
    let d : AttributeDescription = record { attr = c.in_ok-attr.attr; name = None; event_ids = c.new.result } in
    record {
      so_far = items_more (IsPlainDescription g.T.ByteOrder.number_of c.args.attr_size) c.args.attr_size c.args.section.now.offset c.args.section.now.size _ _ c.frames.at _ some c.frames.invariant.so_far
          (g.C.Source.state c.seek_and_read_attr_frame.new.source) d c.push.new.self.items more c.in_ok-push.ensures.items
          (described g.T.ByteOrder.number_of g.met.T.ByteOrder.reads_first c.args.attr_size _ _ c.frames.at c.in_ok-attr.attr d refl refl c.new.ensures.items c.in_ok-attr.ensures.reads);
      pauses = c.in_ok-attr.ensures.pauses ∙ c.frames.invariant.pauses;
      same_loan = c.in_ok-attr.ensures.same_loan ∙ c.frames.invariant.same_loan;
    }

pub returns-clause-reads : goal.returns-clause-reads
returns-clause-reads g c =
    let some : 0 < c.args.attr_size = omega arith in
    let sum : c.in-Some.end ≡ c.args.section.now.offset + c.args.section.now.size = search rules in
    let low : c.args.section.now.offset + c.args.section.now.size < 2 ^ 64 = omega arith in
    let less : c.args.section.now.offset + c.args.section.now.size - c.frames.at < c.args.attr_size = omega arith in (
      attr_section_valid g.T.ByteOrder.number_of c.args.attr_size c.args.section.now some low,
      items_complete (IsPlainDescription g.T.ByteOrder.number_of c.args.attr_size) c.args.attr_size c.args.section.now.offset c.args.section.now.size _ _ c.frames.at _ some c.frames.invariant.so_far less,
    )

pub returns-in_err-attr-clause-memory : goal.returns-in_err-attr-clause-memory
returns-in_err-attr-clause-memory g c =
    let p = err_from_is_err_and c.from_residual.result c.from_residual.ensures.1 in
    rw (p.1, p.2) (λ memory. absurd (c.in_err-attr.ensures.no_memory memory))

pub returns-in_err-push-clause-memory : goal.returns-in_err-push-clause-memory
returns-in_err-push-clause-memory g c =
    let some : 0 < c.args.attr_size = omega arith in
    let sum : c.in-Some.end ≡ c.args.section.now.offset + c.args.section.now.size = search rules in
    let low : c.args.section.now.offset + c.args.section.now.size < 2 ^ 64 = omega arith in
    let more : c.args.attr_size ≤ c.args.section.now.offset + c.args.section.now.size - c.frames.at = omega arith in
    let d : AttributeDescription = record { attr = c.in_ok-attr.attr; name = None; event_ids = c.new.result } in
    let read = items_more (IsPlainDescription g.T.ByteOrder.number_of c.args.attr_size) c.args.attr_size c.args.section.now.offset c.args.section.now.size _ _ c.frames.at _ some c.frames.invariant.so_far
    (g.C.Source.state c.seek_and_read_attr_frame.new.source) d (c.frames.all.items ++ d ∷ []) more refl
    (described g.T.ByteOrder.number_of g.met.T.ByteOrder.reads_first c.args.attr_size _ _ c.frames.at c.in_ok-attr.attr d refl refl c.new.ensures.items c.in_ok-attr.ensures.reads) in
    let p = err_from_is_err_and c.from_residual-in_err-push.result c.from_residual-in_err-push.ensures.1 in
    rw (p.1, p.2) (λ _. (
      attr_section_valid g.T.ByteOrder.number_of c.args.attr_size c.args.section.now some low,
      items_some (IsPlainDescription g.T.ByteOrder.number_of c.args.attr_size) c.args.attr_size c.args.section.now.offset c.args.section.now.size _ _ (c.frames.at + c.args.attr_size) _ some read
          (let long = length-append c.frames.all.items (d ∷ []) in omega (arith, long)),
    ))
