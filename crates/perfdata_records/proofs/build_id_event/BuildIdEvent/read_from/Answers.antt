use Rattle.std.proofs.Common.{rules, arith, ◌≡◌, ◌-◌, ◌∙◌, length, drop, ap, sym, length-drop, w32}
use Rattle.std.specs.Int.{cast_signed}
use Rattle.std.proofs.lemmas.Int.{to_z-of_z}
use Rattle.std.proofs.lemmas.Result.{err_from_is_err_and}
use Rattle.perfdata_sources.specs.Endian.{number_in}
use Rattle.perfdata_sources.specs.RecordHeader.{record_header_of}
use Rattle.perfdata_sources.proofs.Numbers.{first_take}
use Rattle.perfdata_records.proofs.BuildIds.{entry_read, entry_path_error, header_peeked, id_copied}
use Rattle.perfdata_records.proofs.build_id_event.BuildIdEvent.read_from.Goals as goal

pub returns-clause-reads : goal.returns-clause-reads
returns-clause-reads g c =
    let number = g.T.ByteOrder.number_of in
    let fixed = c.read_exact.new.buf in
    let header_is : c.unwrap-header.result ≡ record_header_of number fixed =
    header_peeked number c.ENDIAN.result (λ n xs. g.met.T.FileOrder.reads_by n xs ∙ ap (λ o. number_in o n xs) (sym c.ENDIAN.ensures)) fixed _ c.unwrap-header.result c.peek.ensures c.unwrap-header.ensures in
    let first = g.met.T.ByteOrder.reads_first in
    let long : length fixed ≡ 36 = search rules in
    let pid_is = c.read_i32.ensures ∙ ap (cast_signed w32) (first_take number first 4 28 (drop 8 fixed) (omega arith) (omega (arith, long, length-drop 8 fixed))) in
    entry_read number first _ _ _ fixed c.in_ok-path.path.items c.saturating_sub-path_size.result _ long (c.saturating_sub-path_size.ensures ∙ ap (λ h. h.size - 36) header_is) c.in_ok-path.ensures.reads.0 c.in_ok-read_exact.ensures.reads c.in_ok-path.ensures.reads.1
    header_is (to_z-of_z w32 c.read_i32.result (search rules) ∙ pid_is) (id_copied c.unwrap-header.result.misc _ fixed c.build_id_bytes.result.now c.in_ok-build_id.build_id.items long (ap (λ h. h.misc) header_is) (search rules) c.build_id_bytes.ensures) c.truncate_at_nul.ensures

pub returns-in_err-path-clause-reads : goal.returns-in_err-path-clause-reads
returns-in_err-path-clause-reads g c =
    let number = g.T.ByteOrder.number_of in
    let fixed = c.read_exact.new.buf in
    let header_is : c.unwrap-header.result ≡ record_header_of number fixed =
    header_peeked number c.ENDIAN.result (λ n xs. g.met.T.FileOrder.reads_by n xs ∙ ap (λ o. number_in o n xs) (sym c.ENDIAN.ensures)) fixed _ c.unwrap-header.result c.peek.ensures c.unwrap-header.ensures in
    let p = err_from_is_err_and c.from_residual-in_err-path.result c.from_residual-in_err-path.ensures.1 in
    rw (p.1, p.2) (entry_path_error number g.met.T.ByteOrder.reads_first _ _ _ fixed c.saturating_sub-path_size.result _ (search rules) (c.saturating_sub-path_size.ensures ∙ ap (λ h. h.size - 36) header_is) c.in_ok-read_exact.ensures.reads c.in_err-path.ensures.reads)
