use Rattle.std.proofs.Common.{rules, arith, ◌≡◌, ℕ, ◌+◌, ◌-◌, ◌∙◌, ◌++◌, List, length, vec_len, drop, refl, sym, ap, subst, inl, inr, Err, w32, length-append, length-drop}
use Rattle.std.proofs.lemmas.Int.{to_z-of_z}
use Rattle.perfdata_sources.specs.Endian.{number_in}
use Rattle.perfdata_records.specs.BuildIdEvent.{IsTruncatedBuildIdEntry, build_id_entry_of}
use Rattle.perfdata_records.specs.DsoKey.{key_of}
use Rattle.linux_perf_data.proofs.BuildIdUniqueness.{not_truncated}
use Rattle.perfdata_arrays.specs.BuildIds.{dso_kind_number}
use Rattle.perfdata_arrays.proofs.BuildIdsLemmas.{has_build_id_at}
use Rattle.perfdata_arrays.proofs.OverwriteLemmas.{take-drop-length}
use Rattle.perfdata_arrays.proofs.build_ids.read_build_id.Goals as goal

pub returns : goal.returns
returns c =
    let section = c.args.section.now in
    let at = c.args.offset in
    let parsed = c.in-Ok.ensures in
    let entry_bytes : List ℕ = parsed.0 in
    let rest = c.read_with_endian.new.bytes.now in
    let split : drop at section ≡ entry_bytes ++ rest = sym (take-drop-length at section) ∙ parsed.1 in
    let within = c.if-offset-byte_count.false in
    let all = c.byte_count.ensures.value in
    let next : length section - length rest ≡ at + length entry_bytes = omega (arith, ap length split, length-append entry_bytes rest, length-drop at section, within, all) in
    let key = c.dso_kind.ensures ∙ ap dso_kind_number (c.in-Ok-detect.ensures ∙ (λ i. key_of (c.as_slice.ensures.value i) (c.from_misc-mode.ensures i))) in
    let process = to_z-of_z w32 c.in-Ok.entry._pid (search rules) in
    let id_len : vec_len c.in-Ok.entry.build_id ≡ length c.in-Ok.entry.build_id.items = search rules in
    let path_len : vec_len c.in-Ok.entry.file_path ≡ length c.in-Ok.entry.file_path.items = search rules in
    inl (
      refl,
      has_build_id_at c.args.endian section at entry_bytes rest (build_id_entry_of c.in-Ok.entry) _ split parsed.2 (λ i. record {
        id_offset = at + 12;
        id_size = (c.len.ensures ∙ id_len) i;
        path_offset = at + 36;
        path_size = (c.len-2.ensures ∙ path_len) i;
        next_offset = next i;
        pid = process i;
        dso_kind = key i;
        misc = c.in-Ok.entry.header.misc;
        reserved = 0;
        reserved_2 = 0;
      }),
    )

-- the entry itself has no memory
pub returns-in-Err-Memory : goal.returns-in-Err-Memory
returns-in-Err-Memory c =
    let failed = rw (c.in-Err-Memory.is ∙ ap Err c.in-Err-Memory.field-0-is) at c.read_with_endian.ensures in
    inr (inr (refl, subst (λ l. ¬ IsTruncatedBuildIdEntry (number_in c.args.endian) l) (take-drop-length c.args.offset c.args.section.now) failed.0, refl))

-- the strings of its key have no memory
pub returns-in-Err : goal.returns-in-Err
returns-in-Err c =
    let parsed = c.in-Ok.ensures in
    let split = sym (take-drop-length c.args.offset c.args.section.now) ∙ parsed.1 in
    inr (inr (refl, not_truncated c.args.endian (drop c.args.offset c.args.section.now) parsed.0 c.read_with_endian.new.bytes.now (build_id_entry_of c.in-Ok.entry) split parsed.2, refl))
