use Rattle.std.proofs.Common.{arith}
use Rattle.std.proofs.lemmas.List.{length-map}
use Rattle.perfdata_events.specs.CallChain.{chain_values_of, frames_of}
use Rattle.perfdata_events.specs.declared.fields.call_chain.CallContext.TheVariants.{User}
use Rattle.perfdata_arrays.proofs.FrameLemmas.{frames_within}
use Rattle.perfdata_arrays.specs.Samples.{frame_entry_of}
use Rattle.perfdata_arrays.proofs.samples.frame.frames_above.Goals as goal

pub returns-then-len-capacity-clause-none : goal.returns-then-len-capacity-clause-none
returns-then-len-capacity-clause-none c =
    let values = chain_values_of c.args.chain.now in
    let within = frames_within User values in
    let count = c.len.ensures in
    let fits = c.if-len-capacity.true in
    omega (arith, within, count, fits, length-map (frames_of User values) frame_entry_of)
