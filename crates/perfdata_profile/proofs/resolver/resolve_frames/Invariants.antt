use Rattle.std.proofs.Common.{◌≡◌, ◌++◌, length}
use Rattle.perfdata_profile.specs.Samples.{frames_in}
use Rattle.perfdata_stacks.specs.Frames.{remaining_frames}
use Rattle.perfdata_profile.proofs.resolver.resolve_frames.Given as goal

abbrev pub invariant-frames : goal.invariant-frames
invariant-frames l = frames_in l.fn.misc l.fn.sample ≡ l.frames.items ++ remaining_frames l.rest

abbrev pub decreases-frames : goal.decreases-frames
decreases-frames l = length (remaining_frames l.rest)
