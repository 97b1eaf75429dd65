use Rattle.perfdata_events.proofs.Frames.{frame_addresses, frames_append}
use Rattle.perfdata_events.proofs.laws.frames_are_values_in_context.Goals as goal

pub returns-clause-addresses : goal.returns-clause-addresses
returns-clause-addresses c = frame_addresses

pub returns-clause-contexts : goal.returns-clause-contexts
returns-clause-contexts c = frames_append
