use Rattle.std.proofs.Common.{◌-◌, ◌^◌, ◌<◌}
use Rattle.perfdata_stack_arrays.proofs.Walks.{SoFar}
use Rattle.perfdata_stack_arrays.proofs.stacks.walk_stacks.Given as goal

abbrev pub invariant-records : goal.invariant-records
invariant-records l = record {
  so_far : SoFar l.initial.records l.initial.perf_file (record { stacks = l.initial.stacks; frames = l.initial.frames; mappings = l.initial.mappings; text = l.initial.text }) l.returned l.counts l.state l.records l.perf_file (record { stacks = l.stacks; frames = l.frames; mappings = l.mappings; text = l.text });
  returned_fits : l.returned < 2 ^ 64;
}

abbrev pub decreases-records : goal.decreases-records
decreases-records l = 2 ^ 64 - l.returned
