use Rattle.perfdata_sections.proofs.Frames.{frame_result}
use Rattle.perfdata_sections.proofs.feature_sections.seek_and_read_attr_frame.Goals as goal

pub returns-clause-reads : goal.returns-clause-reads
returns-clause-reads g c =
    frame_result g.T.ByteOrder.number_of g.met.T.ByteOrder.reads_first c.args.attr_size _ _ _ _ _ c.read_attr_frame.result c.in_ok-seek_to.ensures.seeks c.read_attr_frame.ensures.reads
