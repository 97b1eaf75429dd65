use Rattle.std.proofs.Common.{◌≡◌, ◌∙◌, ap, sym, subst, Some}
use Rattle.std.proofs.lemmas.List.{with_items_is}
use Rattle.linux_perf_data.specs.Descriptions.{described_attributes}
use Rattle.linux_perf_data.specs.steps.NameTable.{IsTableOf}
use Rattle.linux_perf_data.specs.FeatureNumbers.{event_desc}
use Rattle.linux_perf_data.specs.FirstIdIndex.{IndexesAttributes, id_lists_of}
use Rattle.linux_perf_data.specs.Names.{NamedBy}
use Rattle.linux_perf_data.specs.PerfFile.{feature_data_in_file, descriptions_of_file}
use Rattle.linux_perf_data.specs.steps.Renames.{AreRenamesFor}
use Rattle.linux_perf_data.proofs.FirstIdIndexes.{index_renamed}
use Rattle.linux_perf_data.proofs.LateMetadataLemmas.{replaced_after}
use Rattle.linux_perf_data.proofs.NameTables.{named_by_table, no_events, no_names, no_none, no_some, table_events, table_names, table_none, table_some}
use Rattle.linux_perf_data.proofs.RenameLemmas.{renames_in_bounds}
use Rattle.linux_perf_data.proofs.perf_file.PerfFile.replace_event_desc.Goals as goal

pub invariant_of-self : goal.invariant_of-self
invariant_of-self c =
    let file = c.index_attributes.new.self in
    let desc = feature_data_in_file file event_desc in
    record {
      nonempty = file.nonempty;
      names_match_table = no_names (descriptions_of_file file);
      empty_without_event_desc = no_none desc;
      table_readable = no_some desc;
      table_events_match = no_events desc;
      first_ids_indexed = file.first_ids_indexed;
    }

pub apply_renames-requires : goal.apply_renames-requires
apply_renames-requires c =
    let ds = descriptions_of_file c.index_attributes.new.self in
    let before : c.deref_mut.result.now ≡ ds = c.deref_mut.ensures.value ∙ c.in_ok-replace_feature.ensures.1 in
    renames_in_bounds c.deref_mut.result.now c.in_ok-table.table c.in_ok-renames.renames.items (subst (λ l. AreRenamesFor l c.in_ok-table.table c.in_ok-renames.renames.items) (sym before) c.in_ok-renames.ensures)

pub invariant_of-self-2-clause-names_match_table : goal.invariant_of-self-2-clause-names_match_table
invariant_of-self-2-clause-names_match_table c =
    let put = c.replace_feature.new.self in
    let table = c.in_ok-table.table in
    let ds = descriptions_of_file c.index_attributes.new.self in
    let new = c.apply_renames.new.attributes in
    let before : c.deref_mut.result.now ≡ ds = c.deref_mut.ensures.value ∙ c.in_ok-replace_feature.ensures.1 in
    let named = c.apply_renames.ensures.names table (subst (λ l. AreRenamesFor l table c.in_ok-renames.renames.items) (sym before) c.in_ok-renames.ensures) in
    let items = with_items_is put.attributes new (c.apply_renames.auto.attributes ∙ c.deref_mut.ensures.len) in
    table_names table _ (subst (NamedBy table.events.items) (sym items) named)

pub invariant_of-self-2-clause-empty_without_event_desc : goal.invariant_of-self-2-clause-empty_without_event_desc
invariant_of-self-2-clause-empty_without_event_desc c =
    let put = c.replace_feature.new.self in
    let own = subst (λ xs. IsTableOf c.in_ok-table.table (Some xs)) c.as_slice.ensures.value c.in_ok-table.ensures.1 in
    table_none c.in_ok-table.table (feature_data_in_file put event_desc) (subst (IsTableOf c.in_ok-table.table) (sym (c.in_ok-replace_feature.ensures.0.feature_data event_desc)) own)

pub invariant_of-self-2-clause-table_readable : goal.invariant_of-self-2-clause-table_readable
invariant_of-self-2-clause-table_readable c =
    let put = c.replace_feature.new.self in
    let own = subst (λ xs. IsTableOf c.in_ok-table.table (Some xs)) c.as_slice.ensures.value c.in_ok-table.ensures.1 in
    table_some c.in_ok-table.table (feature_data_in_file put event_desc) (subst (IsTableOf c.in_ok-table.table) (sym (c.in_ok-replace_feature.ensures.0.feature_data event_desc)) own)

pub invariant_of-self-2-clause-table_events_match : goal.invariant_of-self-2-clause-table_events_match
invariant_of-self-2-clause-table_events_match c =
    let put = c.replace_feature.new.self in
    let own = subst (λ xs. IsTableOf c.in_ok-table.table (Some xs)) c.as_slice.ensures.value c.in_ok-table.ensures.1 in
    table_events c.in_ok-table.table (feature_data_in_file put event_desc) (subst (IsTableOf c.in_ok-table.table) (sym (c.in_ok-replace_feature.ensures.0.feature_data event_desc)) own)

pub invariant_of-self-2-clause-first_ids_indexed : goal.invariant_of-self-2-clause-first_ids_indexed
invariant_of-self-2-clause-first_ids_indexed c =
    let put = c.replace_feature.new.self in
    let new = c.apply_renames.new.attributes in
    let before = c.deref_mut.ensures.value in
    let same : described_attributes new ≡ described_attributes put.attributes.items = c.apply_renames.ensures.same ∙ ap described_attributes before in
    let items = with_items_is put.attributes new (c.apply_renames.auto.attributes ∙ c.deref_mut.ensures.len) in
    subst (λ l. IndexesAttributes put.first_id_index (id_lists_of l)) (sym items) (index_renamed put.first_id_index put.attributes.items new same put.first_ids_indexed)

pub returns : goal.returns
returns c =
    let put = c.replace_feature.new.self in
    let table = c.in_ok-table.table in
    let indexed = c.in_ok-index_attributes.ensures.0 in
    let ds = descriptions_of_file c.index_attributes.new.self in
    let new = c.apply_renames.new.attributes in
    let before : c.deref_mut.result.now ≡ ds = c.deref_mut.ensures.value ∙ c.in_ok-replace_feature.ensures.1 in
    let same : described_attributes new ≡ described_attributes ds = c.apply_renames.ensures.same ∙ ap described_attributes before in
    let named = c.apply_renames.ensures.names table (subst (λ l. AreRenamesFor l table c.in_ok-renames.renames.items) (sym before) c.in_ok-renames.ensures) in
    let items = with_items_is put.attributes new (c.apply_renames.auto.attributes ∙ c.deref_mut.ensures.len) in
    let p = c.in_ok-replace_feature.ensures.0 in
    let own = subst (λ xs. IsTableOf table (Some xs)) c.as_slice.ensures.value c.in_ok-table.ensures.1 in
    let made = replaced_after c.args.self.now c.index_attributes.new.self put c.args.bytes.items indexed (record { same_endian = p.same_endian; feature_data = p.feature_data; features = p.features }) in (
      record { same_endian = made.same_endian; feature_data = made.feature_data; features = made.features },
      ap described_attributes items ∙ same ∙ ap described_attributes indexed.descriptions,
      named_by_table c.args.endian table (Some c.args.bytes.items) _ c.in_ok-table.ensures.0 own (subst (NamedBy table.events.items) (sym items) named),
    )
