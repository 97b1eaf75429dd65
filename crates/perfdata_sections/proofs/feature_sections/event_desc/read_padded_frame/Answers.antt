use Rattle.std.proofs.Common.{arith, refl, ◌<◌, ◌^◌, ◌-◌, w64}
use Rattle.std.proofs.lemmas.Int.{to_z_pos}
use Rattle.std.proofs.lemmas.Result.{err_from_is_err_and}
use Rattle.perfdata_sections.proofs.Events.{frame_full, frame_padded, frame_end_seek_failed}
use Rattle.perfdata_sections.proofs.feature_sections.event_desc.read_padded_frame.Goals as goal

pub returns-then-padding-eq0-clause-reads : goal.returns-then-padding-eq0-clause-reads
returns-then-padding-eq0-clause-reads g c = frame_full g.T.ByteOrder.number_of g.met.T.ByteOrder.reads_first c.args.attr_size _ _ c.in_ok-attr.attr (g.met.C.PlacedSource.remaining_from_position _) c.in_ok-attr.ensures.reads (omega arith)

pub returns-clause-reads : goal.returns-clause-reads
returns-clause-reads g c =
    let low : c.args.attr_size - c.in_ok-attr.attr.size < 2 ^ 63 = omega arith in
    let seek = rw (to_z_pos w64 (c.args.attr_size - c.in_ok-attr.attr.size) low) at c.in_ok-seek_to.ensures.seeks in
    frame_padded g.T.ByteOrder.number_of g.met.T.ByteOrder.reads_first c.args.attr_size _ (g.C.Source.state c.read_attr_frame.new.source) _ c.in_ok-attr.attr (c.args.attr_size - c.in_ok-attr.attr.size) _ (g.met.C.PlacedSource.remaining_from_position _) c.in_ok-attr.ensures.reads refl seek

pub returns-in_err-seek_to-clause-reads : goal.returns-in_err-seek_to-clause-reads
returns-in_err-seek_to-clause-reads g c =
    let p = err_from_is_err_and c.from_residual-in_err-seek_to.result c.from_residual-in_err-seek_to.ensures.1 in
    let low : c.args.attr_size - c.in_ok-attr.attr.size < 2 ^ 32 = omega arith in
    let fits : c.args.attr_size - c.in_ok-attr.attr.size < 2 ^ 63 = omega arith in
    let seek = rw (to_z_pos w64 (c.args.attr_size - c.in_ok-attr.attr.size) fits) at c.in_err-seek_to.ensures.seeks in
    rw (p.1, p.2) (frame_end_seek_failed g.T.ByteOrder.number_of g.met.T.ByteOrder.reads_first c.args.attr_size _ (g.C.Source.state c.read_attr_frame.new.source) _ c.in_ok-attr.attr (c.args.attr_size - c.in_ok-attr.attr.size) _ (g.met.C.PlacedSource.remaining_from_position _) c.in_err-seek_to.ensures.size_fits c.in_ok-attr.ensures.reads low seek)
