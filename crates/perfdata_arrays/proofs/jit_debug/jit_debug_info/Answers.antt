use Rattle.std.proofs.Common.{arith, ◌+◌, ◌^◌, ◌<◌, ◌∙◌, ap, refl, subst, sym, inl, length-drop}
use Rattle.perfdata_sources.specs.Endian.{number_in}
use Rattle.perfdata_arrays.specs.JitDebug.{debug_entries_at}
use Rattle.perfdata_arrays.specs.steps.JitDebug.{debug_end}
use Rattle.linux_perf_data.specs.RecordEntries.{with_prefix}
use Rattle.perfdata_arrays.proofs.JitDebugLemmas.{debug_end-within, paths_of_body}
use Rattle.perfdata_arrays.proofs.jit_debug.jit_debug_info.Goals as goal

pub write_entries-requires : goal.write_entries-requires
write_entries-requires c =
    let endian = c.in-Ok.found.0 in
    let is = c.in-Ok-parse.ensures.value in
    let least = is.min_len in
    let within = c.in-Ok.ensures.in_bounds in
    let fits = c.in-Ok.ensures.fits in
    let end = debug_end-within (number_in endian) (c.args.offset + 32) _ c.in-Ok-parse.info.entries.items is.after_body is.elements in
    subst (λ l. debug_end (c.args.offset + 32) l < 2 ^ 64) (sym c.as_slice.ensures.value) (omega (arith, end, least, within, fits, length-drop 16 c.in-Ok.found.1.now))

pub returns-in-Ok-parse : goal.returns-in-Ok-parse
returns-in-Ok-parse c =
    let endian = c.in-Ok.found.0 in
    let body = c.in-Ok.found.1.now in
    let info = c.in-Ok-parse.info in
    let count = c.len.ensures in
    inl (
      endian,
      (
        body,
        c.in-Ok.ensures.body,
        inl (
          refl,
          record {
            info = info;
            is = c.in-Ok-parse.ensures.value;
            address = refl;
            count = omega (arith, count, info.entries.ok.0);
            written = c.write_entries.ensures ∙ ap (λ l. with_prefix (debug_entries_at (c.args.offset + 32) l) c.args.entries.now) c.as_slice.ensures.value;
            paths_at = paths_of_body endian c.args.bytes.now c.args.offset 2 body info c.in-Ok.ensures.body c.in-Ok-parse.ensures.value;
          },
        ),
      ),
    )
