use Rattle.std.proofs.Common.{rules, arith, ◌≡◌, length}
use Rattle.perfdata_sources.proofs.Attrs.{first_eight_front}
use Rattle.perfdata_sections.proofs.Frames.{frame_header_error, frame_too_long, frame_whole, frame_rest_error}
use Rattle.perfdata_sections.proofs.feature_sections.read_attr_frame.Goals as goal

pub returns-in-Err-clause-reads : goal.returns-in-Err-clause-reads
returns-in-Err-clause-reads g c =
    frame_header_error g.T.ByteOrder.number_of g.met.T.ByteOrder.reads_first c.args.attr_size _ _ _ c.in-Err.ensures.reads

pub returns-then-own_size-attr_size-clause-reads : goal.returns-then-own_size-attr_size-clause-reads
returns-then-own_size-attr_size-clause-reads g c =
    let long : length c.read_own_size.new.bytes ≡ 8 = search rules in
    frame_too_long g.T.ByteOrder.number_of g.met.T.ByteOrder.reads_first c.args.attr_size _ _ c.read_own_size.new.bytes c.in-Ok.own_size long c.in-Ok.ensures.reads (omega arith)

pub returns-in-Ok-read_after_own_size-clause-reads : goal.returns-in-Ok-read_after_own_size-clause-reads
returns-in-Ok-read_after_own_size-clause-reads g c =
    let long : length c.read_own_size.new.bytes ≡ 8 = search rules in
    let more = c.in-Ok-read_after_own_size.ensures.reads in
    frame_whole g.T.ByteOrder.number_of g.met.T.ByteOrder.reads_first c.args.attr_size _ (g.R.Source.state c.read_own_size.new.source) _ c.read_own_size.new.bytes c.in-Ok.own_size _ long c.in-Ok.ensures.reads (omega arith) (rw first_eight_front at more)

pub returns-in-Err-read_after_own_size-clause-reads : goal.returns-in-Err-read_after_own_size-clause-reads
returns-in-Err-read_after_own_size-clause-reads g c =
    let long : length c.read_own_size.new.bytes ≡ 8 = search rules in
    frame_rest_error g.T.ByteOrder.number_of g.met.T.ByteOrder.reads_first c.args.attr_size _ (g.R.Source.state c.read_own_size.new.source) _ c.read_own_size.new.bytes c.in-Ok.own_size _ long c.in-Ok.ensures.reads (omega arith) c.in-Err-read_after_own_size.ensures.reads
