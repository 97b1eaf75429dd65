use Rattle.std.proofs.Common.{◌≡◌, refl, Some}
use Rattle.linux_perf_data.specs.FeatureData.{feature_data_of}
use Rattle.linux_perf_data.specs.FeatureNumbers.{event_desc}
use Rattle.linux_perf_data.specs.declared.attributes.names.NameTable.{NameTable}
use Rattle.linux_perf_data.proofs.NameTables.{put_remains, remains_none, remains_some, remains_events}
use Rattle.linux_perf_data.proofs.FeatureTables.{data_put, data_unchanged}
use Rattle.linux_perf_data.proofs.perf_file.PerfFile.replace_feature.Goals as goal

pub invariant_of-self : goal.invariant_of-self
invariant_of-self c =
    let file = c.args.self.now in
    let remains = λ (t : NameTable) (same : file.name_table ≡ Some t). data_unchanged file.sections c.insert.new.self c.in_err-insert.ensures.err event_desc in record {
      nonempty = file.nonempty;
      names_match_table = file.names_match_table;
      empty_without_event_desc = remains_none file.name_table (feature_data_of file.sections event_desc) (feature_data_of c.insert.new.self event_desc) remains file.empty_without_event_desc;
      table_readable = remains_some file.name_table (feature_data_of file.sections event_desc) (feature_data_of c.insert.new.self event_desc) remains file.table_readable;
      table_events_match = remains_events file.name_table (feature_data_of file.sections event_desc) (feature_data_of c.insert.new.self event_desc) remains file.table_events_match;
      first_ids_indexed = file.first_ids_indexed;
    }

pub invariant_of-self-2 : goal.invariant_of-self-2
invariant_of-self-2 c =
    let file = c.args.self.now in
    let remains = put_remains file.name_table file.sections c.insert.new.self c.args.feature c.args.bytes c.requires c.in_ok-insert.ensures.updates.0 in record {
      nonempty = file.nonempty;
      names_match_table = file.names_match_table;
      empty_without_event_desc = remains_none file.name_table (feature_data_of file.sections event_desc) (feature_data_of c.insert.new.self event_desc) remains file.empty_without_event_desc;
      table_readable = remains_some file.name_table (feature_data_of file.sections event_desc) (feature_data_of c.insert.new.self event_desc) remains file.table_readable;
      table_events_match = remains_events file.name_table (feature_data_of file.sections event_desc) (feature_data_of c.insert.new.self event_desc) remains file.table_events_match;
      first_ids_indexed = file.first_ids_indexed;
    }

pub returns : goal.returns
returns c = (
  record {
    same_endian = refl;
    feature_data = data_put c.args.self.now.sections c.insert.new.self c.args.feature c.args.bytes c.in_ok-insert.ensures.updates.0;
    features = c.insert-2.ensures;
  },
  refl,
)
