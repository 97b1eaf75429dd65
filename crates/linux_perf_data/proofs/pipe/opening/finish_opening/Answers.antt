use Rattle.std.proofs.Common.{◌∙◌, Err, length, refl, sym, ap, subst, arith}
use Rattle.std.specs.Option.{option_map}
use Rattle.std.proofs.lemmas.Result.{err_from_is_err_and}
use Rattle.std.proofs.lemmas.List.{with_items_is}
use Rattle.linux_perf_data.specs.steps.NameTable.{IsTableOf}
use Rattle.linux_perf_data.specs.Attribute.{AreConsistent}
use Rattle.linux_perf_data.specs.Descriptions.{described_attributes}
use Rattle.linux_perf_data.specs.Names.{NamedBy}
use Rattle.linux_perf_data.specs.steps.PipeSteps.{NamesConsistentAttributes}
use Rattle.linux_perf_data.specs.FeatureData.{feature_data_of}
use Rattle.linux_perf_data.proofs.NameTables.{table_events, table_names, table_none, table_some}
use Rattle.linux_perf_data.proofs.PipeFinish.{names_kept, finish_error}
use Rattle.linux_perf_data.proofs.pipe.opening.finish_opening.Goals as goal

pub invariant_of-perf_file-clause-names_match_table : goal.invariant_of-perf_file-clause-names_match_table
invariant_of-perf_file-clause-names_match_table c =
    let items = with_items_is c.args.metadata.attributes c.name_consistent_attributes.new.attributes (c.name_consistent_attributes.auto.attributes ∙ c.deref_mut.ensures.len) in
    table_names c.in_ok-name_table.name_table _ (subst (NamedBy c.in_ok-name_table.name_table.events.items) (sym items) c.in_ok-name_table.ensures.2.4)

pub invariant_of-perf_file-clause-empty_without_event_desc : goal.invariant_of-perf_file-clause-empty_without_event_desc
invariant_of-perf_file-clause-empty_without_event_desc c = table_none c.in_ok-name_table.name_table (feature_data_of c.args.metadata.sections 12) (subst (IsTableOf c.in_ok-name_table.name_table) c.feature_bytes-event_desc.ensures c.in_ok-name_table.ensures.2.3)

pub invariant_of-perf_file-clause-table_readable : goal.invariant_of-perf_file-clause-table_readable
invariant_of-perf_file-clause-table_readable c = table_some c.in_ok-name_table.name_table (feature_data_of c.args.metadata.sections 12) (subst (IsTableOf c.in_ok-name_table.name_table) c.feature_bytes-event_desc.ensures c.in_ok-name_table.ensures.2.3)

pub invariant_of-perf_file-clause-table_events_match : goal.invariant_of-perf_file-clause-table_events_match
invariant_of-perf_file-clause-table_events_match c = table_events c.in_ok-name_table.name_table (feature_data_of c.args.metadata.sections 12) (subst (IsTableOf c.in_ok-name_table.name_table) c.feature_bytes-event_desc.ensures c.in_ok-name_table.ensures.2.3)

pub invariant_of-perf_file-clause-first_ids_indexed : goal.invariant_of-perf_file-clause-first_ids_indexed
invariant_of-perf_file-clause-first_ids_indexed c = c.new.ensures _

pub invariant_of-perf_file-clause-nonempty : goal.invariant_of-perf_file-clause-nonempty
invariant_of-perf_file-clause-nonempty c =
    let some = c.in_ok-name_table.ensures.0 in
    let long = c.name_consistent_attributes.auto.attributes ∙ c.deref_mut.ensures.len in
    omega (arith, some, long)

pub returns-in_err-name_table : goal.returns-in_err-name_table
returns-in_err-name_table c =
    let p = err_from_is_err_and c.from_residual.result c.from_residual.ensures.1 in
    let order = c.args.endian in
    let e = c.in_err-name_table.field-0.0 in
    let desc = option_map (λ s. s.now) c.feature_bytes-event_desc.result in
    let new = c.name_consistent_attributes.new.attributes in
    rw (p.1, p.2) (λ other. finish_error order c.args.metadata desc new e c.feature_bytes-event_desc.ensures (subst (λ l. NamesConsistentAttributes order desc l (Err e) new) c.deref_mut.ensures.value c.in_err-name_table.ensures) other)

pub returns : goal.returns
returns c =
    let m = c.args.metadata in
    let new = c.name_consistent_attributes.new.attributes in
    let items = with_items_is m.attributes new (c.name_consistent_attributes.auto.attributes ∙ c.deref_mut.ensures.len) in
    let named = c.in_ok-name_table.ensures in
    let some = named.0 in
    record {
      endian = refl;
      pending_header = refl;
      attributes = ap described_attributes items ∙ named.2.1 ∙ ap described_attributes c.deref_mut.ensures.value;
      sections = λ n. refl;
      features = refl;
      names_match = names_kept c.args.endian _ _ _ new c.feature_bytes-event_desc.ensures items named.2.0;
      nonempty = omega (arith, some, ap length items);
      consistent = subst AreConsistent (named.2.1 ∙ ap described_attributes c.deref_mut.ensures.value) named.1;
    }
