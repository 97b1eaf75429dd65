use Rattle.std.proofs.Common.{arith, ◌≡◌, ◌+◌, ◌∙◌, ap, sym, subst, refl, inr, length, ℕ, List}
use Rattle.perfdata_sources.specs.Endian.{number_in}
use Rattle.perfdata_jit.specs.JitRecords.{IsLoad, IsLoadError}
use Rattle.perfdata_arrays.proofs.JitLemmas.{body_bytes, is_load_at, name_in_bounds}
use Rattle.perfdata_arrays.proofs.jit.parse_load.Goals as goal

pub overflow_add-result-in-Ok-2 : goal.overflow_add-result-in-Ok-2
overflow_add-result-in-Ok-2 c =
    let endian = c.args.endian in
    let found = c.requires.found_at in
    let raw : List ℕ = found.0 in
    let size : c.args.entry.now.size ≡ length raw = ap (λ e. e.size) found.2 ∙ found.1.record_valid.size in
    let body = body_bytes endian c.args.bytes.now c.args.entry.now.offset c.args.entry.now.size raw found.1 size in
    let load = subst (λ l. IsLoad (number_in endian) l c.in-Ok.load) body c.in-Ok.ensures.value in
    let reach = name_in_bounds endian c.args.bytes.now c.args.entry.now.offset raw c.in-Ok.load found.1 load in
    let long = c.len-name_size.ensures in
    let within = c.requires.in_bounds in
    let fits = c.requires.fits in
    omega (arith, reach, long, within, fits, size)

pub returns-in-Ok : goal.returns-in-Ok
returns-in-Ok c =
    let endian = c.args.endian in
    let at = c.args.entry.now.offset in
    let found = c.requires.found_at in
    let raw : List ℕ = found.0 in
    let size : c.args.entry.now.size ≡ length raw = ap (λ e. e.size) found.2 ∙ found.1.record_valid.size in
    let body = body_bytes endian c.args.bytes.now at c.args.entry.now.size raw found.1 size in
    let load = subst (λ l. IsLoad (number_in endian) l c.in-Ok.load) body c.in-Ok.ensures.value in
    let type_is = sym (ap (λ e. e.record_type) found.2) ∙ c.if-entry-ne0.false in (
      c.in-Ok.load,
      is_load_at endian c.args.bytes.now at raw c.in-Ok.load found.1 type_is load,
      λ i. record {
        vma = c.in-Ok.load.vma;
        code_address = c.in-Ok.load.code_addr;
        code_index = c.in-Ok.load.code_index;
        name_offset = at + 56;
        name_size = c.len-name_size.ensures i;
        code_offset = at + 57 + c.len-name_size.ensures i;
        code_size = c.len.ensures i;
        pid = c.in-Ok.load.pid;
        tid = c.in-Ok.load.tid;
      },
    )

pub returns-in-Err : goal.returns-in-Err
returns-in-Err c =
    let endian = c.args.endian in
    let found = c.requires.found_at in
    let raw : List ℕ = found.0 in
    let size : c.args.entry.now.size ≡ length raw = ap (λ e. e.size) found.2 ∙ found.1.record_valid.size in
    let body = body_bytes endian c.args.bytes.now c.args.entry.now.offset c.args.entry.now.size raw found.1 size in
    inr (refl, (raw, found.1, (c.in-Err.field-0, subst (λ l. IsLoadError (number_in endian) l c.in-Err.field-0) body c.in-Err.ensures.error)))
