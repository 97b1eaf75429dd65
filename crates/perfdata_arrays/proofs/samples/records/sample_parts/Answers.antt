use Rattle.std.proofs.Common.{refl, sym, subst, None, Some}
use Rattle.linux_perf_data.specs.PerfFile.{attributes_of_file, endian_of_file}
use Rattle.linux_perf_data.specs.RecordViews.{record_view_of}
use Rattle.perfdata_arrays.proofs.RecordLemmas.{format_found}
use Rattle.perfdata_arrays.specs.SampleRecords.{ArePartsOf}
use Rattle.perfdata_arrays.proofs.samples.records.sample_parts.Goals as goal

pub returns : goal.returns
returns c = λ place. rw c.in-EventRecord.is (record {
  format_is = format_found (endian_of_file c.args.perf_file.now) (attributes_of_file c.args.perf_file.now) c.in-EventRecord.event.record_type.0 c.in-EventRecord.attr_index c.in-EventRecord.event.parse_info (Some c.in_ok-format.format) c.if-event.false c.in_ok-format.ensures;
  body_is = refl;
  attr_index_is = c.saturate.ensures;
  misc_is = refl;
})

pub returns-in_err-format : goal.returns-in_err-format
returns-in_err-format c = λ place. subst (ArePartsOf (endian_of_file c.args.perf_file.now) (attributes_of_file c.args.perf_file.now) (record_view_of place c.args.record.now)) (sym c.from_residual.ensures)
    (rw c.in-EventRecord.is (format_found (endian_of_file c.args.perf_file.now) (attributes_of_file c.args.perf_file.now) c.in-EventRecord.event.record_type.0 c.in-EventRecord.attr_index c.in-EventRecord.event.parse_info None c.if-event.false c.in_err-format.ensures))
