use Rattle.std.proofs.lemmas.Result.{err_from_is_err_and}
use Rattle.perfdata_sources.proofs.ReadErrors.{after_seek_more}
use Rattle.linux_perf_data.proofs.UnfinishedRecords.{has_length, length_later}
use Rattle.linux_perf_data.proofs.UnfinishedFiles.{header_error, magic_error, length_error, header_unknown, size_unknown, table_unknown, parts_found}
use Rattle.linux_perf_data.proofs.file.unfinished.find_whole_parts.Goals as goal

pub returns-in_err-header-clause-finds : goal.returns-in_err-header-clause-finds
returns-in_err-header-clause-finds g c =
    let p = err_from_is_err_and c.from_residual.result c.from_residual.ensures.1 in
    rw (p.1, p.2) (header_unknown _ _ _ (header_error _ _ _ (g.met.C.PlacedSource.remaining_from_position _) c.in_err-header.ensures.parses))

pub returns-in_err-endian-clause-finds : goal.returns-in_err-endian-clause-finds
returns-in_err-endian-clause-finds g c =
    let p = err_from_is_err_and c.from_residual-in_err-endian.result c.from_residual-in_err-endian.ensures.1 in
    rw (p.1, p.2) (header_unknown _ _ _ (magic_error _ _ c.in_ok-header.header _ (g.met.C.PlacedSource.remaining_from_position _) c.in_ok-header.ensures.parses c.in_err-endian.ensures))

pub returns-in_err-length-clause-finds : goal.returns-in_err-length-clause-finds
returns-in_err-length-clause-finds g c =
    let p = err_from_is_err_and c.from_residual-in_err-length.result c.from_residual-in_err-length.ensures.1 in
    rw (p.1, p.2) (header_unknown _ _ _ (length_error _ _ _ c.in_ok-header.header _ c.in_ok-header.ensures.parses c.in_err-length.ensures.reads))

pub data_size-requires : goal.data_size-requires
data_size-requires g c = has_length _ _ c.in_ok-length.length c.in_ok-length.ensures.reads

pub read_whole_table-requires : goal.read_whole_table-requires
read_whole_table-requires g c = length_later c.in_ok-length.length _ _ c.in_ok-data_size.ensures.reads.0 (has_length _ _ c.in_ok-length.length c.in_ok-length.ensures.reads)

pub returns-in_err-data_size-clause-finds : goal.returns-in_err-data_size-clause-finds
returns-in_err-data_size-clause-finds g c =
    let p = err_from_is_err_and c.from_residual-in_err-data_size.result c.from_residual-in_err-data_size.ensures.1 in
    rw (p.1, p.2) (size_unknown _ _ _ _ (after_seek_more _ _ _ c.in_ok-header.ensures.parses.after_seek c.in_ok-length.ensures.reads.0) c.in_err-data_size.ensures.reads)

pub returns-in_err-sections-clause-finds : goal.returns-in_err-sections-clause-finds
returns-in_err-sections-clause-finds g c =
    let p = err_from_is_err_and c.from_residual-in_err-sections.result c.from_residual-in_err-sections.ensures.1 in
    let before = after_seek_more _ _ _ c.in_ok-header.ensures.parses.after_seek c.in_ok-length.ensures.reads.0 in
    rw (p.1, p.2) (table_unknown c.in_ok-endian.endian c.in_ok-header.header c.in_ok-length.length _ _ _ _ (after_seek_more _ _ _ before c.in_ok-data_size.ensures.reads.0) c.in_err-sections.ensures.reads)

pub returns-clause-finds : goal.returns-clause-finds
returns-clause-finds g c =
    parts_found _ _ _ _ _ _ (g.met.C.PlacedSource.remaining_from_position _) c.in_ok-header.ensures.parses c.in_ok-endian.ensures c.in_ok-length.ensures.reads c.in_ok-data_size.ensures.reads c.in_ok-sections.ensures.reads
