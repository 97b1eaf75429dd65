use Rattle.std.proofs.Common.{refl, arith}
use Rattle.std.proofs.lemmas.Result.{err_from_is_err_and}
use Rattle.linux_perf_data.specs.FeatureData.{feature_data_of}
use Rattle.linux_perf_data.specs.FeatureNumbers.{event_desc}
use Rattle.linux_perf_data.specs.FirstIdIndex.{id_lists_of}
use Rattle.linux_perf_data.proofs.NameTables.{no_events, no_names, no_none, no_some}
use Rattle.linux_perf_data.proofs.FileOpenings.{attributes_error, has_read, records_error, after_read}
use Rattle.linux_perf_data.proofs.file.opening.open_after_header.Goals as goal

pub invariant_of-perf_file : goal.invariant_of-perf_file
invariant_of-perf_file g c =
    let attributes = c.in_ok-attributes.attributes in
    let desc = feature_data_of c.in_ok-sections.sections event_desc in
    record {
      nonempty = (let some = c.in_ok-attributes.ensures.reads.2 in let long = attributes.ok in omega (arith, some, long));
      names_match_table = no_names attributes.items;
      empty_without_event_desc = no_none desc;
      table_readable = no_some desc;
      table_events_match = no_events desc;
      first_ids_indexed = c.new.ensures (id_lists_of attributes.items);
    }

pub returns-in_err-attributes-clause-reads : goal.returns-in_err-attributes-clause-reads
returns-in_err-attributes-clause-reads g c =
    let p = err_from_is_err_and c.from_residual-in_err-attributes.result c.from_residual-in_err-attributes.ensures.1 in
    let h = c.args.header.now in
    rw (p.1, p.2) (attributes_error c.args.endian h _ _ _ _ _ (has_read c.args.endian h _ _ c.in_ok-sections.sections _ refl c.in_ok-sections.ensures.reads) c.in_err-attributes.ensures.reads)

pub returns-in_err-seek_to_offset-clause-reads : goal.returns-in_err-seek_to_offset-clause-reads
returns-in_err-seek_to_offset-clause-reads g c =
    let p = err_from_is_err_and c.from_residual-in_err-seek_to_offset.result c.from_residual-in_err-seek_to_offset.ensures.1 in
    let h = c.args.header.now in
    rw (p.1, p.2) (records_error c.args.endian h _ _ _ _ _ c.in_ok-attributes.attributes c.in_err-seek_to_offset.field-0.0 (has_read c.args.endian h _ _ c.in_ok-sections.sections _ refl c.in_ok-sections.ensures.reads) c.in_ok-attributes.ensures.reads c.in_err-seek_to_offset.ensures.seeks)

pub returns-clause-reads : goal.returns-clause-reads
returns-clause-reads g c =
    let h = c.args.header.now in
    let sections = c.in_ok-sections.ensures.reads in
    after_read c.args.endian h _ _ _ _ _ _ refl refl refl (has_read c.args.endian h _ _ c.in_ok-sections.sections _ refl sections) sections c.in_ok-attributes.ensures.reads c.in_ok-seek_to_offset.ensures.seeks
