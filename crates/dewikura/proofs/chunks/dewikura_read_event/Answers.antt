use Rattle.std.proofs.Common.{subst}
use Rattle.perfdata_chunks.specs.Events.{EventArrays, ReadsEvent}
use Rattle.dewikura.proofs.chunks.dewikura_read_event.Goals as goal

pub returns : goal.returns
returns c =
    let outcome = c.read_event-outcome.result in
    let old : EventArrays = record {
      sample = c.args.sample.now;
      frames = c.args.frames.now;
      task = c.args.task.now;
      mapping = c.args.mapping.now;
      counters = c.args.counters.now;
    } in
    let new : EventArrays = record {
      sample = c.read_event-outcome.new.sample;
      frames = c.read_event-outcome.new.frames;
      task = c.read_event-outcome.new.task;
      mapping = c.read_event-outcome.new.mapping;
      counters = c.read_event-outcome.new.counters;
    } in (
      outcome.status,
      c.code.ensures,
      subst (λ e. ReadsEvent e c.args.chunk.now c.args.attrs.now c.args.entry.now old outcome new) c.endian_from_flag-endian.ensures c.read_event-outcome.ensures,
    )
