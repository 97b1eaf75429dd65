use Rattle.perfdata_stacks.proofs.Chains.{are_chain_frames}
use Rattle.perfdata_stacks.proofs.laws.frames.Goals as goal

pub returns : goal.returns
returns c = are_chain_frames
