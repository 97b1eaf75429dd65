use Rattle.std.proofs.Common.{◌∙◌, ap, arith, refl, subst}
use Rattle.std.specs.Prelude.{Ok, Err}
use Rattle.std.proofs.lemmas.Result.{err_from_is_err_and}
use Rattle.linux_perf_data.specs.AttributeSources.{known_sections}
use Rattle.linux_perf_data.specs.FeatureData.{feature_data_of}
use Rattle.linux_perf_data.specs.FeatureNumbers.{event_desc, simpleperf_meta_info}
use Rattle.linux_perf_data.specs.FirstIdIndex.{id_lists_of}
use Rattle.linux_perf_data.specs.UnfinishedFile.{header_with_ids}
use Rattle.linux_perf_data.specs.steps.FileOpening.{ReadsConsistentAttributes}
use Rattle.linux_perf_data.proofs.NameTables.{no_events, no_names, no_none, no_some}
use Rattle.linux_perf_data.proofs.UnfinishedRecords.{length_later}
use Rattle.linux_perf_data.proofs.UnfinishedFiles.{size_error, sections_error, has_read_sections, attributes_error, records_error, opened}
use Rattle.linux_perf_data.proofs.file.unfinished.open_unfinished_after_header.Goals as goal

pub invariant_of-perf_file : goal.invariant_of-perf_file
invariant_of-perf_file g c =
    let attributes = c.in_ok-attributes.attributes in
    record {
      nonempty = (let some = c.in_ok-attributes.ensures.reads.2 in let long = attributes.ok in omega (arith, some, long));
      names_match_table = no_names attributes.items;
      empty_without_event_desc = no_none _;
      table_readable = no_some _;
      table_events_match = no_events _;
      first_ids_indexed = c.new.ensures (id_lists_of attributes.items);
    }

pub read_whole_sections-requires : goal.read_whole_sections-requires
read_whole_sections-requires g c = length_later c.args.length _ _ c.in_ok-data_size.ensures.reads.0 c.requires

pub returns-in_err-data_size-clause-reads : goal.returns-in_err-data_size-clause-reads
returns-in_err-data_size-clause-reads g c =
    let p = err_from_is_err_and c.from_residual.result c.from_residual.ensures.1 in
    rw (p.1, p.2) (size_error c.args.endian c.args.header.now c.args.length _ _ _ c.in_err-data_size.ensures.reads)

pub returns-in_err-whole-clause-reads : goal.returns-in_err-whole-clause-reads
returns-in_err-whole-clause-reads g c =
    let p = err_from_is_err_and c.from_residual-in_err-whole.result c.from_residual-in_err-whole.ensures.1 in
    rw (p.1, p.2) (sections_error c.args.endian c.args.header.now c.args.length c.in_ok-data_size.data_size (Unit {0}) _ _ _ _ c.in_ok-data_size.ensures.reads c.in_err-whole.ensures.reads)

pub returns-in_err-attributes-clause-reads : goal.returns-in_err-attributes-clause-reads
returns-in_err-attributes-clause-reads g c =
    let p = err_from_is_err_and c.from_residual-in_err-attributes.result c.from_residual-in_err-attributes.ensures.1 in
    let state = g.C.Source.state in
    let h = c.args.header.now in
    let whole = c.in_ok-whole.whole in
    let e = c.in_err-attributes.field-0.0 in
    let read = has_read_sections c.args.endian h c.args.length c.in_ok-data_size.data_size whole.0 whole.1 _ _ _ c.in_ok-data_size.ensures.reads c.in_ok-whole.ensures.reads in
    let named = c.header_with_ids-named.ensures ∙ ap (header_with_ids h) c.has_meta_info.ensures in
    let attributes = subst (λ n. ReadsConsistentAttributes c.args.endian n (known_sections (feature_data_of whole.1 event_desc) (feature_data_of whole.1 simpleperf_meta_info)) (state c.read_whole_sections.new.source) (Err e) (state c.read_consistent_attributes.new.source)) named c.in_err-attributes.ensures.reads in
    rw (p.1, p.2) (attributes_error c.args.endian h c.args.length _ _ _ _ _ _ (state c.read_consistent_attributes.new.source) read e attributes)

pub returns-in_err-seek_to_offset-clause-reads : goal.returns-in_err-seek_to_offset-clause-reads
returns-in_err-seek_to_offset-clause-reads g c =
    let p = err_from_is_err_and c.from_residual-in_err-seek_to_offset.result c.from_residual-in_err-seek_to_offset.ensures.1 in
    let state = g.C.Source.state in
    let h = c.args.header.now in
    let whole = c.in_ok-whole.whole in
    let v = c.in_ok-attributes.attributes in
    let read = has_read_sections c.args.endian h c.args.length c.in_ok-data_size.data_size whole.0 whole.1 _ _ _ c.in_ok-data_size.ensures.reads c.in_ok-whole.ensures.reads in
    let named = c.header_with_ids-named.ensures ∙ ap (header_with_ids h) c.has_meta_info.ensures in
    let attributes = subst (λ n. ReadsConsistentAttributes c.args.endian n (known_sections (feature_data_of whole.1 event_desc) (feature_data_of whole.1 simpleperf_meta_info)) (state c.read_whole_sections.new.source) (Ok v) (state c.read_consistent_attributes.new.source)) named c.in_ok-attributes.ensures.reads in
    rw (p.1, p.2) (records_error c.args.endian h c.args.length _ _ _ _ _ _ _ read v _ attributes c.in_err-seek_to_offset.ensures.seeks)

pub returns-clause-reads : goal.returns-clause-reads
returns-clause-reads g c =
    let state = g.C.Source.state in
    let h = c.args.header.now in
    let whole = c.in_ok-whole.whole in
    let v = c.in_ok-attributes.attributes in
    let read = has_read_sections c.args.endian h c.args.length c.in_ok-data_size.data_size whole.0 whole.1 _ _ _ c.in_ok-data_size.ensures.reads c.in_ok-whole.ensures.reads in
    let named = c.header_with_ids-named.ensures ∙ ap (header_with_ids h) c.has_meta_info.ensures in
    let attributes = subst (λ n. ReadsConsistentAttributes c.args.endian n (known_sections (feature_data_of whole.1 event_desc) (feature_data_of whole.1 simpleperf_meta_info)) (state c.read_whole_sections.new.source) (Ok v) (state c.read_consistent_attributes.new.source)) named c.in_ok-attributes.ensures.reads in
    opened c.args.endian h c.args.length _ _ _ _ _ read refl attributes c.in_ok-seek_to_offset.ensures.seeks
