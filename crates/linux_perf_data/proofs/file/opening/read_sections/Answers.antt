use Rattle.std.proofs.Common.{◌≡◌, rules}
use Rattle.perfdata_base.specs.Section.{EndFitsU64}
use Rattle.linux_perf_data.specs.FileOpening.{table_offset}
use Rattle.linux_perf_data.proofs.FileOpenings.{sections_read}
use Rattle.linux_perf_data.proofs.file.opening.read_sections.Goals as goal

pub returns-in-Some-clause-reads : goal.returns-in-Some-clause-reads
returns-in-Some-clause-reads g c =
    let h = c.args.header.now in
    let at : c.in-Some.table ≡ table_offset h = search rules in
    let end_fits_u64 : EndFitsU64 h.data_section = search rules in
    sections_read c.args.endian h _ _ _ _ _ (at, end_fits_u64) c.read_features.ensures.reads
