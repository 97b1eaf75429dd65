use Rattle.std.proofs.Common.{◌≡◌, ◌++◌, length, List}
use Rattle.perfdata_spaces.specs.AddressSpaces.{Follows}
use Rattle.perfdata_spaces.specs.Effects.{Applied}
use Rattle.perfdata_stacks.specs.Frames.{remaining_frames}
use Rattle.perfdata_stacks.specs.declared.frames.SampleFrame.{SampleFrame}
use Rattle.perfdata_stack_arrays.specs.Frames.{frames_in}
use Rattle.perfdata_stack_arrays.specs.steps.Frames.{WritesFrames}
use Rattle.perfdata_stack_arrays.proofs.frame.write_frames.Given as goal

abbrev pub invariant-frames : goal.invariant-frames
invariant-frames l = (before : List Applied) → Follows before l.fn.spaces → ((done : List SampleFrame) × (frames_in l.fn.misc l.fn.sample ≡ done ++ remaining_frames l.rest)
    × WritesFrames before l.fn.pid done l.fn.used l.initial.frames l.count l.frames)

abbrev pub decreases-frames : goal.decreases-frames
decreases-frames l = length (remaining_frames l.rest)
