use Rattle.std.proofs.Common.{◌≡◌, length}
use Rattle.perfdata_sources.specs.Raw.{bytes_of}
use Rattle.perfdata_events.specs.CallChain.{frames_of}
use Rattle.perfdata_events.specs.Words.{u64s_in}
use Rattle.perfdata_events.proofs.fields.call_chain.split_first_frame.Given as goal

abbrev pub invariant-values : goal.invariant-values
invariant-values l = frames_of l.current (u64s_in l.rest) ≡ frames_of l.fn.context (u64s_in l.fn.values)

abbrev pub decreases-values : goal.decreases-values
decreases-values l = length (bytes_of l.rest.bytes)
