use Rattle.std.proofs.Common.{length, map}
use Rattle.pprof.specs.Builders.{rows_of}
use Rattle.pprof.specs.Messages.{sample_value}
use Rattle.pprof.proofs.Sampling.{counted_samples}
use Rattle.pprof.proofs.builder.take_sample_parts.Goals as goal

pub returns-clause-samples : goal.returns-clause-samples
returns-clause-samples c =
    counted_samples (map sample_value c.in_ok-samples.samples.items) (rows_of c.args.rows.entries) c.len.result (length c.args.sample_types.keys) c.len.ensures.len c.in_ok-samples.ensures
