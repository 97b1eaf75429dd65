use Rattle.std.proofs.Common.{sym, ◌∙◌}
use Rattle.perfdata_sources.specs.Raw.{bytes_of}
use Rattle.perfdata_arrays.proofs.samples.body.SampleBody.parse.Goals as goal

pub returns-in-Ok-parse_chain : goal.returns-in-Ok-parse_chain
returns-in-Ok-parse_chain c =
    let words = c.in-Ok.ensures in
    let chain = c.in-Ok-parse_chain.ensures in
    record {
      known = sym c.has_known_fields.ensures ∙ c.if-not-has_known_fields.false;
      values = chain.lead;
      rest = bytes_of c.parse_chain.new.fields;
      start_is = record {
        middle = words.middle;
        starts = words.starts;
        goes_on = record {
          middle = words.goes_on.middle;
          starts = words.goes_on.starts;
          goes_on = record {
            middle = bytes_of c.parse_words.new.fields;
            starts = words.goes_on.goes_on;
            goes_on = record { middle = chain.middle; starts = chain.starts; goes_on = chain.goes_on };
          };
        };
      };
    }
