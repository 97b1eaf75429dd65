use Rattle.std.proofs.Common.{◌∷◌, [], ◌++◌, ℕ, ◌∙◌, ap}
use Rattle.perfdata_simpleperf.specs.declared.protobuf.field.Message.TheVariants as messages
use Rattle.perfdata_simpleperf.specs.Protobuf.Fields.{field_value}
use Rattle.perfdata_simpleperf.specs.Protobuf.Messages.{NoNestedMessage}
use Rattle.perfdata_simpleperf.specs.Protobuf.Values.{last_or, numbers_of}
use Rattle.perfdata_simpleperf.proofs.Decoding.MessageSteps.{fields_then, field_shorter, last_number, address_valid}
use Rattle.perfdata_simpleperf.proofs.protobuf.messages.decode_address.Goals as goal

pub fields-smaller : goal.fields-smaller
fields-smaller c = field_shorter messages.Address _ _ _ c.in_ok-field.ensures.on_ok

pub fields-preserved : goal.fields-preserved
fields-preserved c =
    let i = c.fields.invariant in
    let p = field_value c.in_ok-field.field in (
      i.0 ++ p ∷ [],
      fields_then NoNestedMessage messages.Address _ i.0 _ p _ i.1 c.in_ok-field.ensures.on_ok (address_valid _ _),
      c.merge_address_field-address.ensures ∙ ap (λ (s : ℕ). last_or s (numbers_of 1 (p ∷ []))) i.2 ∙ last_number _ 1 i.0 (p ∷ []),
    )
