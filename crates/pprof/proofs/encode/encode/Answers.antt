use Rattle.std.proofs.Common.{◌∙◌, map}
use Rattle.std.proofs.lemmas.Result.{err_from_is_err_and}
use Rattle.std.specs.String.{string_bytes}
use Rattle.pprof.specs.Messages.{function_fields, location_fields, location_value, mapping_fields, sample_fields, sample_value, text_fields, value_type_fields}
use Rattle.pprof.specs.Wire.{message_fields}
use Rattle.pprof.specs.steps.Wire.{Appends}
use Rattle.pprof.proofs.Writing.{nothing_mapped, locations_of, more, samples_of, started}
use Rattle.pprof.proofs.encode.encode.Goals as goal

pub returns-clause-bytes : goal.returns-clause-bytes
returns-clause-bytes c =
    let p = c.args.profile.now in
    let types : Appends c.new-bytes.result.items (message_fields 1 value_type_fields p.sample_types.items) c.push_messages.new.bytes.items =
    rw (← c.as_slice.ensures.value) c.in_ok-push_messages.ensures.fields in
    let samples : Appends c.push_messages.new.bytes.items (message_fields 2 sample_fields (map sample_value p.samples.items)) c.push_messages-2.new.bytes.items =
    rw (← samples_of 2 p.samples.items, ← c.as_slice-2.ensures.value) c.in_ok-push_messages-2.ensures.fields in
    let mappings : Appends c.push_messages-2.new.bytes.items (message_fields 3 mapping_fields p.mappings.items) c.push_messages-3.new.bytes.items =
    rw (← c.as_slice-3.ensures.value) c.in_ok-push_messages-3.ensures.fields in
    let locations : Appends c.push_messages-3.new.bytes.items (message_fields 4 location_fields (map location_value p.locations.items)) c.push_messages-4.new.bytes.items =
    rw (← locations_of 4 p.locations.items, ← c.as_slice-4.ensures.value) c.in_ok-push_messages-4.ensures.fields in
    let functions : Appends c.push_messages-4.new.bytes.items (message_fields 5 function_fields p.functions.items) c.push_messages-5.new.bytes.items =
    rw (← c.as_slice-5.ensures.value) c.in_ok-push_messages-5.ensures.fields in
    let strings : Appends c.push_messages-5.new.bytes.items (text_fields 6 (map string_bytes p.strings.items)) c.push_texts.new.bytes.items =
    rw (← c.as_slice-6.ensures.value) c.in_ok-push_texts.ensures.fields in
    let tables = more (more (more (more (more types samples) mappings) locations) functions) strings in
    let summary = more (more (more tables c.in_ok-push_number.ensures.fields) c.in_ok-push_period_type.ensures.fields) c.in_ok-push_number-2.ensures.fields in
    started c.new-bytes.ensures.items (more (more summary c.in_ok-push_number-3.ensures.fields) c.in_ok-push_number-4.ensures.fields)

pub returns-in_err-push_messages-clause-memory : goal.returns-in_err-push_messages-clause-memory
returns-in_err-push_messages-clause-memory c =
    let p = err_from_is_err_and c.from_residual.result c.from_residual.ensures.1 in
    rw p.1 (λ empty. c.in_err-push_messages.ensures.memory (c.as_slice.ensures.value ∙ empty.sample_types))

pub returns-in_err-push_messages-2-clause-memory : goal.returns-in_err-push_messages-2-clause-memory
returns-in_err-push_messages-2-clause-memory c =
    let p = err_from_is_err_and c.from_residual-in_err-push_messages-2.result c.from_residual-in_err-push_messages-2.ensures.1 in
    rw p.1 (λ empty. c.in_err-push_messages-2.ensures.memory (c.as_slice-2.ensures.value ∙ nothing_mapped sample_value c.args.profile.now.samples.items empty.samples))

pub returns-in_err-push_messages-3-clause-memory : goal.returns-in_err-push_messages-3-clause-memory
returns-in_err-push_messages-3-clause-memory c =
    let p = err_from_is_err_and c.from_residual-in_err-push_messages-3.result c.from_residual-in_err-push_messages-3.ensures.1 in
    rw p.1 (λ empty. c.in_err-push_messages-3.ensures.memory (c.as_slice-3.ensures.value ∙ empty.mappings))

pub returns-in_err-push_messages-4-clause-memory : goal.returns-in_err-push_messages-4-clause-memory
returns-in_err-push_messages-4-clause-memory c =
    let p = err_from_is_err_and c.from_residual-in_err-push_messages-4.result c.from_residual-in_err-push_messages-4.ensures.1 in
    rw p.1 (λ empty. c.in_err-push_messages-4.ensures.memory (c.as_slice-4.ensures.value ∙ nothing_mapped location_value c.args.profile.now.locations.items empty.locations))

pub returns-in_err-push_messages-5-clause-memory : goal.returns-in_err-push_messages-5-clause-memory
returns-in_err-push_messages-5-clause-memory c =
    let p = err_from_is_err_and c.from_residual-in_err-push_messages-5.result c.from_residual-in_err-push_messages-5.ensures.1 in
    rw p.1 (λ empty. c.in_err-push_messages-5.ensures.memory (c.as_slice-5.ensures.value ∙ empty.functions))

pub returns-in_err-push_texts-clause-memory : goal.returns-in_err-push_texts-clause-memory
returns-in_err-push_texts-clause-memory c =
    let p = err_from_is_err_and c.from_residual-in_err-push_texts.result c.from_residual-in_err-push_texts.ensures.1 in
    rw p.1 (λ empty. c.in_err-push_texts.ensures.memory (c.as_slice-6.ensures.value ∙ nothing_mapped string_bytes c.args.profile.now.strings.items empty.strings))

pub returns-in_err-push_number-clause-memory : goal.returns-in_err-push_number-clause-memory
returns-in_err-push_number-clause-memory c =
    let p = err_from_is_err_and c.from_residual-in_err-push_number.result c.from_residual-in_err-push_number.ensures.1 in
    rw p.1 (λ empty. c.in_err-push_number.ensures.memory empty.duration)

pub returns-in_err-push_period_type-clause-memory : goal.returns-in_err-push_period_type-clause-memory
returns-in_err-push_period_type-clause-memory c =
    let p = err_from_is_err_and c.from_residual-in_err-push_period_type.result c.from_residual-in_err-push_period_type.ensures.1 in
    rw p.1 (λ empty. c.in_err-push_period_type.ensures.memory empty.period_type)

pub returns-in_err-push_number-2-clause-memory : goal.returns-in_err-push_number-2-clause-memory
returns-in_err-push_number-2-clause-memory c =
    let p = err_from_is_err_and c.from_residual-in_err-push_number-2.result c.from_residual-in_err-push_number-2.ensures.1 in
    rw p.1 (λ empty. c.in_err-push_number-2.ensures.memory empty.period)

pub returns-in_err-push_number-3-clause-memory : goal.returns-in_err-push_number-3-clause-memory
returns-in_err-push_number-3-clause-memory c =
    let p = err_from_is_err_and c.from_residual-in_err-push_number-3.result c.from_residual-in_err-push_number-3.ensures.1 in
    rw p.1 (λ empty. c.in_err-push_number-3.ensures.memory empty.comment)

pub returns-in_err-push_number-4-clause-memory : goal.returns-in_err-push_number-4-clause-memory
returns-in_err-push_number-4-clause-memory c =
    let p = err_from_is_err_and c.from_residual-in_err-push_number-4.result c.from_residual-in_err-push_number-4.ensures.1 in
    rw p.1 (λ empty. c.in_err-push_number-4.ensures.memory empty.default_sample_type)
