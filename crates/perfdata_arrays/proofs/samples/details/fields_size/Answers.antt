use Rattle.std.proofs.Common.{◌-◌, length, subst, ap, ◌∙◌}
use Rattle.perfdata_sources.specs.Endian.{number_in}
use Rattle.perfdata_sources.specs.Raw.{bytes_of}
use Rattle.perfdata_events.specs.Format.{encodes}
use Rattle.perfdata_events.specs.Sample.{sample, sample_of}
use Rattle.perfdata_arrays.proofs.samples.details.fields_size.Goals as goal

pub returns-in-Ok-clause-some : goal.returns-in-Ok-clause-some
returns-in-Ok-clause-some c = record {
  value = sample_of c.in-Ok._sample;
  rest = bytes_of c.parse.new.fields;
  fields_are = subst (λ f. sample (number_in f.endian) f c.args.body.now (encodes (sample_of c.in-Ok._sample) (bytes_of c.parse.new.fields))) c.with_fields.ensures c.in-Ok.ensures.decodes;
  size_is = c.saturating_sub.ensures ∙ ap (λ n. length c.args.body.now - n) c.len.ensures;
}
