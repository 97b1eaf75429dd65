use Rattle.std.proofs.Common.{◌≡◌, ◌∙◌, ℕ, ℤ, Option, ap, of_z, rules, subst, sym, to_z, w32}
use Rattle.std.proofs.lemmas.Int.{to_z-of_z}
use Rattle.perfdata_events.specs.declared.fields.task.Task.{Task}
use Rattle.perfdata_stack_arrays.specs.Frames.{frames_in}
use Rattle.perfdata_stack_arrays.specs.steps.Frames.{WritesFrames}
use Rattle.perfdata_stack_arrays.specs.Names.{IsNameAt}
use Rattle.perfdata_stack_arrays.specs.steps.Names.{range_of}
use Rattle.perfdata_stack_arrays.specs.Stacks.{stack_entry_of, task_of}
use Rattle.perfdata_stack_arrays.specs.declared.names.TextRange.{TextRange}
use Rattle.perfdata_stack_arrays.proofs.stack.write_stack.Goals as goal

pub returns : goal.returns
returns c = λ before follows names.
    let sample = c.args.sample.now in
    let pid : to_z w32 (of_z w32 c.sample_task-task.result.pid) ≡ (task_of sample).pid = to_z-of_z w32 c.sample_task-task.result.pid (search rules) ∙ ap (λ (t : Task). t.pid) c.sample_task-task.ensures in
    let tid : to_z w32 (of_z w32 c.sample_task-task.result.tid) ≡ (task_of sample).tid = to_z-of_z w32 c.sample_task-task.result.tid (search rules) ∙ ap (λ (t : Task). t.tid) c.sample_task-task.ensures in
    let frames = subst (λ (p : ℤ). WritesFrames before p (frames_in c.args.envelope.misc sample) c.args.used c.args.frames.now c.write_frames-frames_count.result c.write_frames-frames_count.new.frames) pid (c.write_frames-frames_count.ensures before follows) in
    record {
      stack = c.stack_entry-entry.result;
      own_frames = frames.own;
      is = record {
        are_frames = frames.are;
        name = c.get.result;
        is_name = λ short. subst (λ (r : Option TextRange). IsNameAt before (task_of sample).tid r) (sym (c.get.ensures ∙ ap (range_of c.args.names.now) tid)) (names short (task_of sample).tid);
        stack_is = c.stack_entry-entry.ensures ∙ ap (λ (n : ℕ). stack_entry_of c.args.envelope sample (record { start = c.args.used; count = n }) c.get.result) frames.count_is;
      };
      added_is = frames.count_is;
      written = c.write_entry.ensures.written;
      frames_written = frames.written;
    }
