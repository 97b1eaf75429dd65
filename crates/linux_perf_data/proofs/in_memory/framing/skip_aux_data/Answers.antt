use Rattle.std.proofs.Common.{rules, arith, refl, ◌∙◌, ◌++◌, length-append}
use Rattle.linux_perf_data.specs.InMemory.{memory_state}
use Rattle.linux_perf_data.proofs.SourceViews.{pass_true}
use Rattle.linux_perf_data.proofs.in_memory.framing.skip_aux_data.Goals as goal

pub returns : goal.returns
returns c =
    let skipped = pass_true (memory_state c.args.source.now) (memory_state c.skip_bytes.new.source) _ _ c.if-not-skip_bytes.false c.skip_bytes.ensures in
    let long = skipped.exact_len in
    let enough = c.if-body-lt-FIXED_SIZE.false in (
      c.args.body.now ++ skipped.bytes,
      omega (arith, length-append c.args.body.now skipped.bytes, long),
      record {
        min_size = omega (arith, enough);
        end_offset = search rules;
        end_fits = search rules;
        appended = record { bytes = skipped.bytes; exact_len = long ∙ c.read_u64-aux_size.ensures; buffer_content = refl; consumes = skipped.consumes };
      },
    )
