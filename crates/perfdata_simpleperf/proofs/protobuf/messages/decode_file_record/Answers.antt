use Rattle.std.proofs.Common.{◌∷◌, [], ◌++◌}
use Rattle.std.proofs.lemmas.Result.{err_from_is_err_and}
use Rattle.perfdata_simpleperf.specs.declared.protobuf.field.Message.TheVariants as messages
use Rattle.perfdata_simpleperf.specs.Protobuf.Fields.{field_value}
use Rattle.perfdata_simpleperf.specs.Protobuf.Messages.{IsAnyLeaf, LeafError, SubmessageNeedsMemory}
use Rattle.perfdata_simpleperf.proofs.Decoding.MessageSteps.{fields_then, field_shorter, contents_error}
use Rattle.perfdata_simpleperf.proofs.Decoding.Infos.{value_more}
use Rattle.perfdata_simpleperf.proofs.protobuf.messages.decode_file_record.Goals as goal

pub returns-in_err-merge_record_field-clause-on_error : goal.returns-in_err-merge_record_field-clause-on_error
returns-in_err-merge_record_field-clause-on_error c =
    let r = c.from_residual-in_err-merge_record_field in
    let p = err_from_is_err_and r.result r.ensures.1 in
    let i = c.fields.invariant in
    rw (p.1, p.2) (contents_error IsAnyLeaf LeafError SubmessageNeedsMemory messages.File _ i.0 _ (field_value c.in_ok-field.field) _ _ i.1 c.in_ok-field.ensures.on_ok c.in_err-merge_record_field.ensures.on_error)

pub fields-smaller : goal.fields-smaller
fields-smaller c = field_shorter messages.File _ _ _ c.in_ok-field.ensures.on_ok

pub fields-preserved : goal.fields-preserved
fields-preserved c =
    let i = c.fields.invariant in
    let p = field_value c.in_ok-field.field in
    let e = c.in_ok-merge_record_field.ensures in (
      i.0 ++ p ∷ [],
      fields_then IsAnyLeaf messages.File _ i.0 _ p _ i.1 c.in_ok-field.ensures.on_ok e.valid_contents,
      value_more i.0 p _ _ e.symbol.0 i.2 e.path e.type_ e.min_vaddr e.symbol.1 e.symbol.2 e.info,
    )
