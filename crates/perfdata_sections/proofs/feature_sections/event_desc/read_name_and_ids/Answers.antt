use Rattle.std.proofs.Common.{rules, refl}
use Rattle.std.specs.Prelude.{string_bytes}
use Rattle.std.specs.Option.{option_map}
use Rattle.std.proofs.lemmas.Result.{err_from_is_err_and}
use Rattle.perfdata_sections.specs.declared.feature_sections.event_desc.NameAndIds.{NameAndIds}
use Rattle.perfdata_sections.proofs.Events.{name_and_ids_name_error, name_and_ids_ids_error, name_and_ids_read}
use Rattle.perfdata_sections.proofs.feature_sections.event_desc.read_name_and_ids.Goals as goal

pub returns-in_err-name-clause-reads : goal.returns-in_err-name-clause-reads
returns-in_err-name-clause-reads g c =
    let p = err_from_is_err_and c.from_residual-in_err-name.result c.from_residual-in_err-name.ensures.1 in
    rw (p.1, p.2) (name_and_ids_name_error g.T.ByteOrder.number_of g.met.T.ByteOrder.reads_first _ _ _ c.read_exact.new.buf _ (search rules) c.in_ok-read_exact.ensures.reads c.in_err-name.ensures.reads)

pub returns-clause-reads : goal.returns-clause-reads
returns-clause-reads g c =
    let t : NameAndIds = record { name = c.in_ok-name.name; event_ids = c.in_ok-event_ids.event_ids } in
    name_and_ids_read g.T.ByteOrder.number_of g.met.T.ByteOrder.reads_first _ _ _ _ c.read_exact.new.buf c.read_u32.result (option_map string_bytes c.in_ok-name.name) t (search rules) (search rules) c.in_ok-read_exact.ensures.reads c.in_ok-name.ensures.reads refl c.in_ok-event_ids.ensures.reads

pub returns-in_err-event_ids-clause-reads : goal.returns-in_err-event_ids-clause-reads
returns-in_err-event_ids-clause-reads g c =
    let p = err_from_is_err_and c.from_residual-in_err-event_ids.result c.from_residual-in_err-event_ids.ensures.1 in
    rw (p.1, p.2) (name_and_ids_ids_error g.T.ByteOrder.number_of g.met.T.ByteOrder.reads_first _ _ _ _ c.read_exact.new.buf (option_map string_bytes c.in_ok-name.name) c.read_u32.result _ (search rules) (search rules) c.in_ok-read_exact.ensures.reads c.in_ok-name.ensures.reads c.in_err-event_ids.ensures.reads)
