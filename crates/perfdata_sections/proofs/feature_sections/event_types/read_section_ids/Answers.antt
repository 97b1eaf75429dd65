use Rattle.std.proofs.Common.{rules, arith, ◌<◌, ◌^◌}
use Rattle.std.proofs.lemmas.Result.{err_from_is_err_and}
use Rattle.perfdata_base.specs.Section.{EndFitsU64, EndOverflowsU64}
use Rattle.perfdata_sections.proofs.Entries.{ids_there, ids_position, ids_error, ids_end_overflows}
use Rattle.perfdata_sections.proofs.feature_sections.event_types.read_section_ids.Goals as goal

pub returns-clause-reads : goal.returns-clause-reads
returns-clause-reads g c =
    let fits : c.args.section.now.size < 2 ^ 64 = search rules in
    let end_fits : EndFitsU64 c.args.section.now = omega arith in
    ids_there g.T.ByteOrder.number_of g.met.T.ByteOrder.reads_first _ _ _ c.args.section.now _ _ end_fits c.in_ok-seek_to.ensures.seeks c.in_ok-read_ids.ensures.reads

pub returns-in_err-read_ids-clause-reads : goal.returns-in_err-read_ids-clause-reads
returns-in_err-read_ids-clause-reads g c =
    let p = err_from_is_err_and c.from_residual-in_err-read_ids.result c.from_residual-in_err-read_ids.ensures.1 in
    let fits : c.args.section.now.size < 2 ^ 64 = search rules in
    let end_fits : EndFitsU64 c.args.section.now = omega arith in
    rw p.1 (ids_error g.T.ByteOrder.number_of g.met.T.ByteOrder.reads_first _ _ _ c.args.section.now _ _ p.0 end_fits c.in_ok-seek_to.ensures.seeks c.in_err-read_ids.ensures.reads p.2)

pub returns-clause-position : goal.returns-clause-position
returns-clause-position g c = ids_position g.T.ByteOrder.number_of g.met.T.ByteOrder.reads_first _ _ _ c.args.section.now _ _ c.in_ok-seek_to.ensures.seeks c.in_ok-read_ids.ensures.reads

pub returns-then-section-clause-reads : goal.returns-then-section-clause-reads
returns-then-section-clause-reads g c =
    let fits : c.args.section.now.size < 2 ^ 64 = search rules in
    let overflows : EndOverflowsU64 c.args.section.now = omega arith in
    ids_end_overflows g.T.ByteOrder.number_of g.met.T.ByteOrder.reads_first _ c.args.section.now (g.met.C.PlacedSource.remaining_from_position _) overflows
