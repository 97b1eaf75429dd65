use Rattle.std.proofs.lemmas.Result.{err_from_is_err_and}
use Rattle.perfdata_sections.proofs.ItemRuns.{truncated_next}
use Rattle.perfdata_sections.proofs.Entries.{section_there, section_position, truncated_there}
use Rattle.perfdata_sections.proofs.feature_sections.event_types.read_section_entry.Goals as goal

pub returns-clause-reads : goal.returns-clause-reads
returns-clause-reads g c =
    section_there g.T.ByteOrder.number_of g.met.T.ByteOrder.reads_first _ _ _ c.args.at _ _ c.in_ok-seek_to.ensures.seeks c.in_ok-parse_from.ensures.parses

pub returns-in_err-parse_from-clause-reads : goal.returns-in_err-parse_from-clause-reads
returns-in_err-parse_from-clause-reads g c =
    let p = err_from_is_err_and c.from_residual-in_err-parse_from.result c.from_residual-in_err-parse_from.ensures.1 in
    rw (p.1, p.2) (truncated_there _ _ _ c.args.at _ 16 _ c.in_ok-seek_to.ensures.seeks (truncated_next _ _ 16 _ c.in_err-parse_from.ensures.parses))

pub returns-clause-position : goal.returns-clause-position
returns-clause-position g c =
    section_position g.T.ByteOrder.number_of g.met.T.ByteOrder.reads_first _ _ _ c.args.at _ _ c.in_ok-seek_to.ensures.seeks c.in_ok-parse_from.ensures.parses
