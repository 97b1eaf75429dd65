use Rattle.std.proofs.Common.{rules}
use Rattle.linux_perf_data.specs.RecordInput.{HasNoPendingHeader}
use Rattle.linux_perf_data.specs.Iter.{section_size_of}
use Rattle.linux_perf_data.specs.steps.Iter.{TestsMayStart}
use Rattle.linux_perf_data.proofs.BufferedRecords.{exact_finished, section_over, visible_in, tests_finished}
use Rattle.std.specs.Prelude.{false}
use Rattle.linux_perf_data.proofs.records.iter.PerfRecordIter.is_next_buffered.Goals as goal

pub returns-then-not-may_start_record-clause-prefix_of_remaining : goal.returns-then-not-may_start_record-clause-prefix_of_remaining
returns-then-not-may_start_record-clause-prefix_of_remaining g c =
    let state = g.R.Source.state in
    let it = c.args.self.now in
    let ends : TestsMayStart (section_size_of state it) it.offset false = search rules in
    tests_finished state it c.buffer-buffered.result.now c.buffer-buffered.ensures.prefix (section_over state it ends)

pub returns-then-not-may_start_record-clause-contains_next : goal.returns-then-not-may_start_record-clause-contains_next
returns-then-not-may_start_record-clause-contains_next g c = λ _ runs.
    let state = g.R.Source.state in
    let it = c.args.self.now in
    let ends : TestsMayStart (section_size_of state it) it.offset false = search rules in
    absurd (runs (section_over state it ends))

pub returns-clause-contains_next : goal.returns-clause-contains_next
returns-clause-contains_next g c = λ is runs.
    let state = g.R.Source.state in
    let it = c.args.self.now in
    let none : HasNoPendingHeader it.input = search rules in
    visible_in it.endian it.input it.offset (state it.source) c.buffer-buffered.result.now none c.buffer-buffered.ensures.prefix (c.contains_next_record.ensures.0 is)

pub returns-then-not-may_start_record-clause-exact : goal.returns-then-not-may_start_record-clause-exact
returns-then-not-may_start_record-clause-exact g c =
    let state = g.R.Source.state in
    let it = c.args.self.now in
    let ends : TestsMayStart (section_size_of state it) it.offset false = search rules in
    exact_finished state it g.R.Source.buffered (section_over state it ends)
