use Rattle.std.proofs.Common.{◌∷◌, [], ◌++◌, List, ℕ, ◌∙◌, ap, append_assoc}
use Rattle.std.proofs.lemmas.Result.{err_from_is_err_and}
use Rattle.perfdata_simpleperf.specs.declared.protobuf.field.Message.TheVariants as messages
use Rattle.perfdata_simpleperf.specs.Protobuf.Fields.{field_value}
use Rattle.perfdata_simpleperf.specs.Protobuf.Messages.{NoNestedMessage, NoNestedMessageError, NoNestedNeeds}
use Rattle.perfdata_simpleperf.proofs.Decoding.MessageSteps.{fields_then, field_shorter, offsets_more, contents_error}
use Rattle.perfdata_simpleperf.proofs.protobuf.messages.merge_dex.Goals as goal

pub returns-in_err-merge_dex_field-clause-on_error : goal.returns-in_err-merge_dex_field-clause-on_error
returns-in_err-merge_dex_field-clause-on_error c =
    let r = c.from_residual-in_err-merge_dex_field in
    let p = err_from_is_err_and r.result r.ensures.1 in
    let i = c.fields.invariant in
    rw (p.1, p.2) (contents_error NoNestedMessage NoNestedMessageError NoNestedNeeds messages.Dex _ i.0 _ (field_value c.in_ok-field.field) _ _ i.1 c.in_ok-field.ensures.on_ok c.in_err-merge_dex_field.ensures.on_error)

pub fields-smaller : goal.fields-smaller
fields-smaller c = field_shorter messages.Dex _ _ _ c.in_ok-field.ensures.on_ok

pub fields-preserved : goal.fields-preserved
fields-preserved c =
    let i = c.fields.invariant in
    let p = field_value c.in_ok-field.field in
    let v = c.in_ok-merge_dex_field.ensures.value in (
      i.0 ++ p ∷ [],
      fields_then NoNestedMessage messages.Dex _ i.0 _ p _ i.1 c.in_ok-field.ensures.on_ok c.in_ok-merge_dex_field.ensures.valid_contents,
      i.2 ++ v.0,
      offsets_more 1 i.0 (p ∷ []) i.2 v.0 i.3 v.1,
      v.2 ∙ ap (λ (x : List ℕ). x ++ v.0) i.4 ∙ append_assoc _ i.2 v.0,
    )
