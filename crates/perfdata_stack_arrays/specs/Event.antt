-- A parsed record of an event.
use Rattle.perfdata_events.specs.declared.event.EventRecord.{EventRecord}
use Rattle.perfdata_stack_arrays.specs.declared.stack.StackEnvelope.{StackEnvelope}

pub record Event : Type 0 where
  pub envelope : StackEnvelope
  pub parsed : EventRecord
