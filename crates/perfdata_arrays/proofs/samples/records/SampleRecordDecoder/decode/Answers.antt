use Rattle.std.proofs.Common.{refl, length}
use Rattle.linux_perf_data.specs.PerfFile.{attributes_of_file, endian_of_file}
use Rattle.linux_perf_data.specs.RecordViews.{record_view_of}
use Rattle.perfdata_arrays.proofs.RecordLemmas.{adds_nothing, exceeds_frames, writes_sample}
use Rattle.perfdata_arrays.specs.steps.Decoding.{wants}
use Rattle.perfdata_arrays.specs.SampleRecords.{sample_kind}
use Rattle.perfdata_arrays.proofs.samples.records.SampleRecordDecoder.decode.Goals as goal

pub returns-in_default : goal.returns-in_default
returns-in_default c =
    adds_nothing sample_kind c.args.counts_all (endian_of_file c.args.perf_file.now) (attributes_of_file c.args.perf_file.now) c.args._base (record_view_of c.args.place c.args.record.now) c.args.count c.args.used c.args.samples.now c.args.frames.now c.requires.free c.requires.within (c.in_default.ensures c.args.place, refl)

pub returns-in-Ok : goal.returns-in-Ok
returns-in-Ok c =
    writes_sample (endian_of_file c.args.perf_file.now) (attributes_of_file c.args.perf_file.now) c.args.place c.args.record.now c.in-Some.parts (c.in-Some.ensures c.args.place) c.parse-body.result c.parse-body.ensures (wants c.args.counts_all (length c.args.frames.now)) c.args.used
    c.args.counts_all c.args._base c.args.count c.in-Ok.frames_count c.saturate.result c.args.samples.now c.write_entry.new.array c.args.frames.now c.add_frames.new.frames c.new.result refl c.requires.free c.in-Ok.ensures c.saturate.ensures c.new.ensures c.write_entry.ensures.written

pub returns-in-Err : goal.returns-in-Err
returns-in-Err c =
    exceeds_frames (endian_of_file c.args.perf_file.now) (attributes_of_file c.args.perf_file.now) c.args.place c.args.record.now c.in-Some.parts (c.in-Some.ensures c.args.place) c.parse-body.result c.parse-body.ensures (wants c.args.counts_all (length c.args.frames.now)) c.args.used
    c.args.counts_all c.args._base c.args.count c.in-Err.needed c.args.samples.now c.args.frames.now c.add_frames.new.frames refl c.in-Err.ensures
