use Rattle.perfdata_sources.specs.Endian.{number_in}
use Rattle.perfdata_sources.proofs.Numbers.{in_reads_first}
use Rattle.perfdata_sections.proofs.EventPrefixes.{event_desc_or_not, event_desc_or_some_error}
use Rattle.perfdata_sections.proofs.laws.event_desc_is_decidable.Goals as goal

pub returns : goal.returns
returns c = record {
  if_error = λ order short xs is. event_desc_or_some_error (number_in order) (in_reads_first order) short xs is;
  decided = λ order xs. event_desc_or_not (number_in order) (in_reads_first order) xs;
}
