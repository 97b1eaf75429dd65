use Rattle.std.proofs.Common.{◌≡◌, ◌∙◌, ap, subst, sym}
use Rattle.std.proofs.lemmas.List.{with_items_is}
use Rattle.perfdata_sections.specs.AttributeDescription.{ids_in, name_in}
use Rattle.linux_perf_data.specs.Descriptions.{described_attributes}
use Rattle.linux_perf_data.specs.steps.NameTable.{name_from_table}
use Rattle.linux_perf_data.specs.FeatureNumbers.{event_desc}
use Rattle.linux_perf_data.specs.FirstIdIndex.{IndexesAttributes, id_lists_of}
use Rattle.linux_perf_data.specs.Names.{NamedBy}
use Rattle.linux_perf_data.specs.PerfFile.{feature_data_in_file, descriptions_of_file}
use Rattle.linux_perf_data.proofs.FirstIdIndexes.{index_pushed, index_renamed}
use Rattle.linux_perf_data.proofs.NameTables.{pushed_named, table_events, table_names, table_none, table_some}
use Rattle.linux_perf_data.proofs.Naming.{named_by}
use Rattle.linux_perf_data.proofs.perf_file.PerfFile.push_and_rename.Goals as goal

pub invariant_of-self-clause-names_match_table : goal.invariant_of-self-clause-names_match_table
invariant_of-self-clause-names_match_table c =
    let file = c.args.self.now in
    let table = c.args.table in
    let ds = descriptions_of_file file in
    let new = c.set_names.new.attributes in
    let own = c.set_name.new.self in
    let items = with_items_is file.attributes new (c.set_names.auto.attributes ∙ c.deref_mut.ensures.len) in
    let same : described_attributes new ≡ described_attributes ds = c.set_names.ensures.same ∙ ap described_attributes c.deref_mut.ensures.value in
    let named : NamedBy table.events.items new = named_by (name_from_table table) ds new (c.set_names.ensures.names ∙ c.requires.fits.other_names) same in
    let its : name_in own ≡ name_from_table table (ids_in own) = c.set_name.ensures.name ∙ c.requires.fits.own_name ∙ ap (name_from_table table) (sym c.set_name.ensures.ids) in
    table_names table c.push.new.self.items (pushed_named table.events.items _ _ c.push.new.self.items new own c.push.ensures.items items named its)

pub invariant_of-self-clause-empty_without_event_desc : goal.invariant_of-self-clause-empty_without_event_desc
invariant_of-self-clause-empty_without_event_desc c = table_none c.args.table (feature_data_in_file c.args.self.now event_desc) c.requires.fits.matches

pub invariant_of-self-clause-table_readable : goal.invariant_of-self-clause-table_readable
invariant_of-self-clause-table_readable c = table_some c.args.table (feature_data_in_file c.args.self.now event_desc) c.requires.fits.matches

pub invariant_of-self-clause-table_events_match : goal.invariant_of-self-clause-table_events_match
invariant_of-self-clause-table_events_match c = table_events c.args.table (feature_data_in_file c.args.self.now event_desc) c.requires.fits.matches

pub invariant_of-self-clause-first_ids_indexed : goal.invariant_of-self-clause-first_ids_indexed
invariant_of-self-clause-first_ids_indexed c =
    let file = c.args.self.now in
    let ds = descriptions_of_file file in
    let new = c.set_names.new.attributes in
    let items = with_items_is file.attributes new (c.set_names.auto.attributes ∙ c.deref_mut.ensures.len) in
    let same : described_attributes new ≡ described_attributes ds = c.set_names.ensures.same ∙ ap described_attributes c.deref_mut.ensures.value in
    let before = subst (λ l. IndexesAttributes file.first_id_index (id_lists_of l)) (sym items) (index_renamed file.first_id_index ds new same file.first_ids_indexed) in
    index_pushed file.first_id_index _ _ c.push.new.self.items c.set_name.new.self c.push.ensures.items before
