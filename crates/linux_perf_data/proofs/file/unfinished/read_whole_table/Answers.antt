use Rattle.std.proofs.Common.{◌∙◌, sym}
use Rattle.std.proofs.lemmas.Result.{err_from_is_err_and}
use Rattle.linux_perf_data.proofs.UnfinishedSections.{no_table, table_ends, table_unreached}
use Rattle.linux_perf_data.proofs.file.unfinished.read_whole_table.Goals as goal

pub returns-then-not-has_whole_data-clause-reads : goal.returns-then-not-has_whole_data-clause-reads
returns-then-not-has_whole_data-clause-reads g c =
    no_table c.args.endian c.args.header.now c.args.length _ c.new.result (sym c.has_whole_data.ensures ∙ c.if-not-has_whole_data.true) (g.met.C.PlacedSource.remaining_from_position _) c.new.ensures.items

pub returns-in_err-seek_to_offset-clause-reads : goal.returns-in_err-seek_to_offset-clause-reads
returns-in_err-seek_to_offset-clause-reads g c =
    let p = err_from_is_err_and c.from_residual.result c.from_residual.ensures.1 in
    rw (p.1, p.2) (table_unreached c.args.endian c.args.header.now c.args.length (sym c.has_whole_data.ensures ∙ c.if-not-has_whole_data.false) _ _ _ c.requires c.in_err-seek_to_offset.ensures.seeks)

pub returns-clause-reads : goal.returns-clause-reads
returns-clause-reads g c =
    let seeks = c.in_ok-seek_to_offset.ensures.seeks in
    table_ends c.args.endian c.args.header.now c.args.length (sym c.has_whole_data.ensures ∙ c.if-not-has_whole_data.false) _ _ _ c.read_whole_entries.result c.requires seeks.0 seeks.1 c.read_whole_entries.ensures.reads
