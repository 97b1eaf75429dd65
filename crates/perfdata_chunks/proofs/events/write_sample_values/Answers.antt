use Rattle.std.proofs.Common.{rules, [], refl, inr}
use Rattle.std.specs.IoError.{error_kind}
use Rattle.perfdata_chunks.proofs.events.write_sample_values.Goals as goal

pub returns-in-Err : goal.returns-in-Err
returns-in-Err c = record {
  values = [];
  are = inr (inr (search rules, (error_kind c.in-Err.field-0, c.in-Err.ensures.error), refl));
  written = refl;
  count_is = refl;
}
