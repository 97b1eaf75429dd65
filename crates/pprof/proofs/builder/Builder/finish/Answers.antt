use Rattle.std.proofs.Common.{refl}
use Rattle.pprof.proofs.builder.Builder.finish.Goals as goal

pub returns : goal.returns
returns c =
    let samples = c.in_ok-sample_types.ensures in
    let code = c.in_ok-mappings.ensures in
    record {
      sample_types = samples.sample_types;
      mappings = code.mappings;
      functions = code.functions;
      locations = code.locations;
      samples = samples.samples;
      strings = samples.texts;
      once = samples.once;
      duration = refl;
      period_type = refl;
      period = refl;
      comment = refl;
      default_sample_type = refl;
    }
