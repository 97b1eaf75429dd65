use Rattle.std.proofs.Common.{rules, refl, inl, inr}
use Rattle.std.specs.Prelude.{false}
use Rattle.linux_perf_data.specs.Layout.{MayStartAt}
use Rattle.linux_perf_data.specs.Iter.{section_size_of}
use Rattle.linux_perf_data.specs.steps.Iter.{TestsMayStart}
use Rattle.linux_perf_data.proofs.TruncatedRecords.{some_record, no_record}
use Rattle.linux_perf_data.proofs.records.iter.PerfRecordIter.step.Goals as goal

pub returns-then-not-may_start_record-clause-steps : goal.returns-then-not-may_start_record-clause-steps
returns-then-not-may_start_record-clause-steps g c =
    let it = c.args.self.now in
    let ends : TestsMayStart (section_size_of g.R.Source.state it) it.offset false = search rules in
    record {
      stage_ended = refl;
      cause = inl (record { ends = ends; stopped = record { source = refl; input = refl; body = refl; round = refl }; offset = refl });
      file_unchanged = refl;
    }

pub returns-then-header-eq-PERF_RECORD_FINISHED_ROUND-clause-steps : goal.returns-then-header-eq-PERF_RECORD_FINISHED_ROUND-clause-steps
returns-then-header-eq-PERF_RECORD_FINISHED_ROUND-clause-steps g c =
    let state = g.R.Source.state in
    let it = c.args.self.now in
    let starts : MayStartAt (section_size_of state it) it.offset = search rules in
    record {
      may_start = starts;
      header = c.in-Ok-Some.header;
      raw_record = some_record state it c.next_raw_record.new.self _ c.in-Ok-Some.header c.in-Ok-Some.field-0-is c.in-Ok-Some.ensures.raw_record;
      marker = c.if-header-eq-PERF_RECORD_FINISHED_ROUND.true;
      ended_round = refl;
      capacity = c.in-Ok-Some.ensures.capacity;
      file_unchanged = refl;
    }

pub returns-in-Ok-clause-steps : goal.returns-in-Ok-clause-steps
returns-in-Ok-clause-steps g c =
    let state = g.R.Source.state in
    let it = c.args.self.now in
    let starts : MayStartAt (section_size_of state it) it.offset = search rules in
    record {
      may_start = starts;
      header = c.in-Ok-Some.header;
      piece = c.next_raw_record.new.self;
      raw_record = some_record state it c.next_raw_record.new.self _ c.in-Ok-Some.header c.in-Ok-Some.field-0-is c.in-Ok-Some.ensures.raw_record;
      no_marker = c.if-header-eq-PERF_RECORD_FINISHED_ROUND.false;
      processed = c.in-Ok.ensures.processes;
    }

pub returns-in-Err-process_record-clause-steps : goal.returns-in-Err-process_record-clause-steps
returns-in-Err-process_record-clause-steps g c =
    let state = g.R.Source.state in
    let it = c.args.self.now in
    let starts : MayStartAt (section_size_of state it) it.offset = search rules in
    record {
      stage_failed = refl;
      may_start = starts;
      cause = inr (record {
        header = c.in-Ok-Some.header;
        piece = c.next_raw_record.new.self;
        raw_record = some_record state it c.next_raw_record.new.self _ c.in-Ok-Some.header c.in-Ok-Some.field-0-is c.in-Ok-Some.ensures.raw_record;
        no_marker = c.if-header-eq-PERF_RECORD_FINISHED_ROUND.false;
        rejecting = c.process_record.new.self;
        rejected = c.in-Err-process_record.ensures.processes;
        stopped = record { source = refl; input = refl; body = refl; round = refl };
        offset = refl;
      });
    }

pub returns-in-Ok-None-clause-steps : goal.returns-in-Ok-None-clause-steps
returns-in-Ok-None-clause-steps g c = record {
  stage_ended = refl;
  cause = inr (record {
    piece = c.next_raw_record.new.self;
    truncated = no_record g.R.Source.state c.args.self.now c.next_raw_record.new.self _ c.in-Ok-None.field-0-is c.in-Ok-None.ensures.raw_record;
    stopped = record { source = refl; input = refl; body = refl; round = refl };
    offset = refl;
  });
  file_unchanged = refl;
}

pub returns-in-Err-clause-steps : goal.returns-in-Err-clause-steps
returns-in-Err-clause-steps g c =
    let state = g.R.Source.state in
    let it = c.args.self.now in
    let starts : MayStartAt (section_size_of state it) it.offset = search rules in
    record {
      stage_failed = refl;
      may_start = starts;
      cause = inl (record {
        piece = c.next_raw_record.new.self;
        read_error = c.in-Err.ensures.raw_record;
        only_to_grow = c.in-Err.ensures.memory_only_to_grow;
        stopped = record { source = refl; input = refl; body = refl; round = refl };
        offset = refl;
        file_unchanged = refl;
      });
    }
