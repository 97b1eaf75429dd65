use Rattle.std.proofs.Common.{◌∷◌, [], ◌++◌, ap, ◌∙◌}
use Rattle.std.proofs.lemmas.Result.{err_from_is_err_and}
use Rattle.perfdata_simpleperf.specs.declared.protobuf.field.Message.TheVariants as messages
use Rattle.perfdata_simpleperf.specs.Protobuf.Fields.{field_value}
use Rattle.perfdata_simpleperf.specs.Protobuf.Messages.{NoNestedMessage, NoNestedMessageError, NoNestedNeeds}
use Rattle.perfdata_simpleperf.specs.Protobuf.Values.{symbol_from, no_symbol}
use Rattle.perfdata_simpleperf.proofs.Decoding.MessageSteps.{fields_then, field_shorter, symbol_more, contents_error}
use Rattle.perfdata_simpleperf.proofs.protobuf.messages.decode_symbol.Goals as goal

pub returns-in_err-merge_symbol_field-clause-on_error : goal.returns-in_err-merge_symbol_field-clause-on_error
returns-in_err-merge_symbol_field-clause-on_error c =
    let r = c.from_residual-in_err-merge_symbol_field in
    let p = err_from_is_err_and r.result r.ensures.1 in
    let i = c.fields.invariant in
    rw (p.1, p.2) (contents_error NoNestedMessage NoNestedMessageError NoNestedNeeds messages.Symbol _ i.0 _ (field_value c.in_ok-field.field) _ _ i.1 c.in_ok-field.ensures.on_ok c.in_err-merge_symbol_field.ensures.on_error)

pub fields-smaller : goal.fields-smaller
fields-smaller c = field_shorter messages.Symbol _ _ _ c.in_ok-field.ensures.on_ok

pub fields-preserved : goal.fields-preserved
fields-preserved c =
    let i = c.fields.invariant in
    let p = field_value c.in_ok-field.field in (
      i.0 ++ p ∷ [],
      fields_then NoNestedMessage messages.Symbol _ i.0 _ p _ i.1 c.in_ok-field.ensures.on_ok c.in_ok-merge_symbol_field.ensures.valid_contents,
      c.in_ok-merge_symbol_field.ensures.value ∙ ap (λ s. symbol_from s (p ∷ [])) i.2 ∙ symbol_more no_symbol i.0 (p ∷ []),
    )
