use Rattle.std.proofs.Common.{rules, arith, ◌≡◌, true, false, sym, ◌∙◌}
use Rattle.perfdata_sources.specs.Raw.{bytes_of}
use Rattle.perfdata_events.proofs.Events.{known_values, parsed_fields, failed_fields, parsed_sample, failed_sample}
use Rattle.perfdata_events.proofs.Single.{single_sample}
use Rattle.perfdata_events.proofs.format.EventFormat.parse.Goals as goal

pub returns-then-record_type-clause-value : goal.returns-then-record_type-clause-value
returns-then-record_type-clause-value c =
    let known : c.has_known_fields.result ≡ true = search rules in
    parsed_sample c.args.self.now c.args.raw.now (omega arith) (sym c.has_known_fields.ensures ∙ known) (bytes_of c.parse.new.fields) c.parse.result c.map.result c.parse.ensures.decodes c.map.ensures.cases

pub returns-then-record_type-clause-error : goal.returns-then-record_type-clause-error
returns-then-record_type-clause-error c =
    let known : c.has_known_fields.result ≡ true = search rules in
    failed_sample c.args.self.now c.args.raw.now (omega arith) (sym c.has_known_fields.ensures ∙ known) (bytes_of c.parse.new.fields) c.parse.result c.map.result c.parse.ensures.decodes c.map.ensures.cases

pub returns-clause-value : goal.returns-clause-value
returns-clause-value c =
    let known : c.has_unknown_values.result ≡ false = search rules in
    parsed_fields c.args.self.now c.args.raw.now c.in_ok-fields.ensures.splits.enough (known_values c.args.self.now c.args.raw.now.record_type.0 (sym c.has_unknown_values.ensures ∙ known)) (bytes_of c.in_ok-fields.fields) (bytes_of c.parse_fields.new.fields) c.in_ok-fields.ensures.splits.fields_are c.parse_fields.result c.parse_fields.ensures.decodes

pub returns-clause-error : goal.returns-clause-error
returns-clause-error c =
    let known : c.has_unknown_values.result ≡ false = search rules in
    failed_fields c.args.self.now c.args.raw.now c.in_ok-fields.ensures.splits.enough (known_values c.args.self.now c.args.raw.now.record_type.0 (sym c.has_unknown_values.ensures ∙ known)) (bytes_of c.in_ok-fields.fields) (bytes_of c.parse_fields.new.fields) c.in_ok-fields.ensures.splits.fields_are c.parse_fields.result (omega arith) (omega arith) (search rules) c.parse_fields.ensures.decodes

pub returns-then-record_type-clause-single : goal.returns-then-record_type-clause-single
returns-then-record_type-clause-single c = single_sample c.args.raw.now.body c.parse.new.fields c.parse.result c.map.result c.parse.ensures.single c.map.ensures.cases
