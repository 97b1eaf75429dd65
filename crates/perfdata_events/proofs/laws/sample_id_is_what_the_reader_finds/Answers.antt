use Rattle.perfdata_events.proofs.SampleIdOffsets.{time_agrees, identifier_agrees}
use Rattle.perfdata_events.proofs.laws.sample_id_is_what_the_reader_finds.Goals as goal

pub returns-clause-timestamp : goal.returns-clause-timestamp
returns-clause-timestamp c = time_agrees

pub returns-clause-identifier : goal.returns-clause-identifier
returns-clause-identifier c = identifier_agrees
