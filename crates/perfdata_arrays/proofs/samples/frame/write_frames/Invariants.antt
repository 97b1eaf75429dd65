use Rattle.std.proofs.Common.{◌≡◌, ◌++◌, List, length}
use Rattle.std.specs.Prelude.{map}
use Rattle.linux_perf_data.specs.RecordEntries.{with_prefix}
use Rattle.perfdata_events.specs.CallChain.{chain_values_of, frames_of, remaining_frames}
use Rattle.perfdata_events.specs.declared.fields.call_chain.CallContext.TheVariants.{User}
use Rattle.perfdata_events.specs.declared.fields.call_chain.ChainFrame.{ChainFrame}
use Rattle.perfdata_arrays.specs.Samples.{frame_entry_of}
use Rattle.perfdata_arrays.proofs.samples.frame.write_frames.Given as goal

abbrev pub invariant-frames : goal.invariant-frames
invariant-frames l = record {
  done : List ChainFrame;
  split : frames_of User (chain_values_of l.fn.chain) ≡ done ++ remaining_frames l.rest;
  count_is : l.count ≡ length done;
  written : l.entries ≡ with_prefix (map frame_entry_of done) l.initial.entries;
}

abbrev pub decreases-frames : goal.decreases-frames
decreases-frames l = length (remaining_frames l.rest)
