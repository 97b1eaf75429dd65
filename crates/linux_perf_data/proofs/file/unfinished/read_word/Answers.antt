use Rattle.std.proofs.Common.{◌≡◌, length, rules}
use Rattle.std.proofs.lemmas.Result.{err_from_is_err_and}
use Rattle.perfdata_sources.proofs.ReadErrors.{after_seek_more, consumed-after_seek}
use Rattle.linux_perf_data.proofs.UnfinishedRecords.{word_read, word_error}
use Rattle.linux_perf_data.proofs.file.unfinished.read_word.Goals as goal

pub returns-clause-reads : goal.returns-clause-reads
returns-clause-reads g c =
    let seek = c.in_ok-seek_to_offset.ensures.seeks in
    let read = c.in_ok-read_exact.ensures.reads in
    let eight : length c.read_exact.new.buf ≡ 8 = search rules in
    (after_seek_more _ _ _ seek.0 (consumed-after_seek _ _ c.read_exact.new.buf seek.0.from_position read), eight, word_read _ _ _ c.args.offset c.read_exact.new.buf seek.0 seek.1 eight read)

pub returns-in_err-read_exact-clause-reads : goal.returns-in_err-read_exact-clause-reads
returns-in_err-read_exact-clause-reads g c =
    let p = err_from_is_err_and c.from_residual-in_err-read_exact.result c.from_residual-in_err-read_exact.ensures.1 in
    let seek = c.in_ok-seek_to_offset.ensures.seeks in
    let eight : length c.read_exact.new.buf ≡ 8 = search rules in
    rw (p.1, p.2) (word_error _ _ _ c.args.offset _ c.in_err-read_exact.field-0.0 eight seek.0 seek.1 c.in_err-read_exact.ensures.reads)
