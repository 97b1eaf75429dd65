use Rattle.std.proofs.Common.{◌∷◌, [], ◌∙◌, ap, refl, map}
use Rattle.std.proofs.lemmas.List.{map-append}
use Rattle.perfdata_simpleperf.specs.FileRecord.{symbol_value}
use Rattle.perfdata_simpleperf.proofs.protobuf.messages.merge_record_field.Goals as goal

pub returns-in_ok-push-in-4-Bytes-clause-symbol : goal.returns-in_ok-push-in-4-Bytes-clause-symbol
returns-in_ok-push-in-4-Bytes-clause-symbol c =
    let s = c.in_ok-symbol-in-4-Bytes.symbol in
    rw (c.in-4-Bytes.is-0, c.in-4-Bytes.is-1)
    (symbol_value s ∷ [], (symbol_value s, [], c.in_ok-symbol-in-4-Bytes.ensures.on_ok, refl, refl), ap (λ xs. map symbol_value xs) c.in_ok-push-in-4-Bytes.ensures.items ∙ map-append symbol_value _ (s ∷ []))
