use Rattle.std.specs.Option.{option_map}
use Rattle.perfdata_identifiers.specs.ParseInfo.{is_set}
use Rattle.perfdata_sources.specs.Raw.{bytes_of}
use Rattle.perfdata_events.specs.CallChain.{chain, chain_values_of}
use Rattle.perfdata_events.specs.Format.{optional}
use Rattle.perfdata_events.specs.ReadValues.{read_values, values_of}
use Rattle.perfdata_events.specs.SampleFormat.{READ, CALLCHAIN}
use Rattle.perfdata_arrays.specs.Bodies.{bits, number}
use Rattle.perfdata_arrays.proofs.LedFormats.{led_goes_on}
use Rattle.perfdata_arrays.proofs.samples.body.parse_chain.Goals as goal

pub returns : goal.returns
returns c =
    let format = c.args.format.now in
    led_goes_on (optional (is_set (bits format) READ) (read_values (number format) format.read_format.0)) (λ _. optional (is_set (bits format) CALLCHAIN) (chain (number format))) (option_map chain_values_of)
    (bytes_of c.args.fields.now) (bytes_of c.parse_if.new.fields) (bytes_of c.parse_if-2.new.fields) (option_map values_of c.in_ok-parse_if.field-0) c.parse_if-2.result
    c.in_ok-parse_if.ensures.decodes c.parse_if-2.ensures.decodes
