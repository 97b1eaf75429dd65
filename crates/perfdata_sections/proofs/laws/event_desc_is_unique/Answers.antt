use Rattle.perfdata_sources.specs.Endian.{number_in}
use Rattle.perfdata_sources.proofs.Numbers.{in_reads_first}
use Rattle.perfdata_sections.proofs.EventPrefixes.{event_desc_is_unique, event_desc_or_error}
use Rattle.perfdata_sections.proofs.EventErrors.{desc_error}
use Rattle.perfdata_sections.proofs.laws.event_desc_is_unique.Goals as goal

pub returns-clause-value : goal.returns-clause-value
returns-clause-value c = λ order. event_desc_is_unique (number_in order) (in_reads_first order)

pub returns-clause-whole : goal.returns-clause-whole
returns-clause-whole c = λ order. event_desc_or_error (number_in order) (in_reads_first order)

pub returns-clause-same_cause : goal.returns-clause-same_cause
returns-clause-same_cause c = λ order. desc_error (number_in order) (in_reads_first order)
