use Rattle.std.proofs.Common.{◌∙◌, sym}
use Rattle.std.proofs.lemmas.Bool.{true≢false}
use Rattle.linux_perf_data.proofs.UnfinishedRecords.{whole_data_size, counted_data_size}
use Rattle.linux_perf_data.proofs.file.unfinished.data_size.Goals as goal

pub returns-then-has_whole_data-clause-reads : goal.returns-then-has_whole_data-clause-reads
returns-then-has_whole_data-clause-reads g c = whole_data_size c.args.endian c.args.header.now c.args.length _ (g.met.C.PlacedSource.remaining_from_position _) (sym c.has_whole_data.ensures ∙ c.if-has_whole_data.true)

pub returns-clause-reads : goal.returns-clause-reads
returns-clause-reads g c =
    counted_data_size c.args.endian c.args.header.now c.args.length _ _ c.records_size.result (λ whole. true≢false (sym whole ∙ sym c.has_whole_data.ensures ∙ c.if-has_whole_data.false)) c.records_size.ensures.reads
