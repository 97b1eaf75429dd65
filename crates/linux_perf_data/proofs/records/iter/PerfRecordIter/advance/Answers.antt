use Rattle.std.proofs.Common.{rules, arith, refl, ap, subst, Some, [], ◌∙◌}
use Rattle.std.proofs.lemmas.Result.{err_from_is_err_and}
use Rattle.perfdata_sources.proofs.ConsumedLemmas.{consumed_none}
use Rattle.linux_perf_data.specs.Iter.{iter_source_state}
use Rattle.linux_perf_data.specs.steps.ItemSteps.{StepsToRecord, StepsToEnd, StepsToError}
use Rattle.linux_perf_data.proofs.ItemCalls.{step_record, step_marker, step_end, step_error, step_memory, step_advances, steps_by, item_no_pause}
use Rattle.linux_perf_data.proofs.records.iter.PerfRecordIter.advance.Goals as goal

pub raw_records-init : goal.raw_records-init
raw_records-init g c = record {
  idles = record {
    ran = c.in-Running.is;
    runs = c.in-Running.is;
    same = record { same_endian = refl; section_size = refl };
    known = refl;
    empty = c.clear.ensures.items;
    fits = omega arith;
    markers = [];
    offset = omega arith;
    skipped_markers = record { raw_records = []; split = refl; elements = _ };
    round = omega arith;
    consumption = consumed_none (iter_source_state g.R.Source.state c.args.self.now);
    before = λ rest attrs rs e come. come;
  };
  pauses = refl;
  same_loan = refl;
  file = refl;
  capacity = (let same = c.clear.ensures.capacity in omega (arith, same));
}

pub raw_records-preserved : goal.raw_records-preserved
raw_records-preserved g c =
    let state = g.R.Source.state in
    let i = c.raw_records.invariant in
    let is = c.in-Some-RoundEnd.is ∙ ap Some c.in-Some-RoundEnd.field-0-is in
    let s = steps_by state c.raw_records.self c.step.new.self c.raw_records.perf_file c.step.new.perf_file _ _ is c.in_ok-identified.ensures.steps in
    record {
      idles = step_marker state _ c.raw_records.self c.step.new.self c.raw_records.perf_file c.step.new.perf_file _ i.idles s;
      pauses = item_no_pause (state c.raw_records.self.source) (state c.step.new.self.source) _ _ is c.in_ok-identified.ensures.pauses ∙ i.pauses;
      same_loan = c.in_ok-identified.ensures.same_loan ∙ i.same_loan;
      file = s.file_unchanged ∙ i.file;
      capacity = (let before = i.capacity in let kept = s.capacity in omega (arith, before, kept));
    }

pub raw_records-smaller : goal.raw_records-smaller
raw_records-smaller g c =
    let state = g.R.Source.state in
    let is = c.in-Some-RoundEnd.is ∙ ap Some c.in-Some-RoundEnd.field-0-is in
    step_advances state c.raw_records.self c.step.new.self c.raw_records.perf_file c.step.new.perf_file _
    (steps_by state c.raw_records.self c.step.new.self c.raw_records.perf_file c.step.new.perf_file _ _ is c.in_ok-identified.ensures.steps)

pub returns-in-Some-Record-clause-advances : goal.returns-in-Some-Record-clause-advances
returns-in-Some-Record-clause-advances g c =
    let state = g.R.Source.state in
    let i = c.raw_records.invariant in
    let found = c.in-Some-Record.identified in
    let is = c.in-Some-Record.is ∙ ap Some c.in-Some-Record.field-0-is in
    let s = steps_by state c.raw_records.self c.step.new.self c.raw_records.perf_file c.step.new.perf_file _ _ is c.in_ok-identified.ensures.steps in
    step_record state c.args.self.now c.raw_records.self c.step.new.self c.args.perf_file.now c.step.new.perf_file found i.idles
    (subst (λ f. StepsToRecord state c.raw_records.self f found c.step.new.self c.step.new.perf_file) i.file s)

pub returns-in-None-clause-advances : goal.returns-in-None-clause-advances
returns-in-None-clause-advances g c =
    let state = g.R.Source.state in
    let i = c.raw_records.invariant in
    let s = steps_by state c.raw_records.self c.step.new.self c.raw_records.perf_file c.step.new.perf_file _ _ c.in-None.is c.in_ok-identified.ensures.steps in
    step_end state c.args.self.now c.raw_records.self c.step.new.self c.args.perf_file.now c.step.new.perf_file i.idles
    (subst (λ f. StepsToEnd state c.raw_records.self f c.step.new.self c.step.new.perf_file) i.file s)

pub returns-in_err-identified-clause-advances : goal.returns-in_err-identified-clause-advances
returns-in_err-identified-clause-advances g c =
    let state = g.R.Source.state in
    let i = c.raw_records.invariant in
    let e = c.in_err-identified.field-0.0 in
    let p = err_from_is_err_and c.from_residual.result c.from_residual.ensures.1 in
    rw (p.1, p.2) (step_error state c.args.self.now c.raw_records.self c.step.new.self c.args.perf_file.now c.step.new.perf_file e i.idles
    (subst (λ f. StepsToError state c.raw_records.self f e c.step.new.self c.step.new.perf_file) i.file c.in_err-identified.ensures.steps))

pub returns-in_err-identified-clause-memory_only_to_grow : goal.returns-in_err-identified-clause-memory_only_to_grow
returns-in_err-identified-clause-memory_only_to_grow g c =
    let i = c.raw_records.invariant in
    let p = err_from_is_err_and c.from_residual.result c.from_residual.ensures.1 in
    rw (p.1, p.2) (λ m. step_memory g.R.Source.state c.args.self.now c.raw_records.self c.step.new.self c.raw_records.perf_file c.step.new.perf_file c.in_err-identified.field-0.0 i.idles i.capacity c.in_err-identified.ensures.steps m)

pub returns-in-Failed-clause-advances : goal.returns-in-Failed-clause-advances
returns-in-Failed-clause-advances g c = search rules
