use Rattle.std.proofs.Common.{rules}
use Rattle.perfdata_sections.proofs.feature_sections.AttributeDescription.new.Goals as goal

pub returns-clause-name : goal.returns-clause-name
returns-clause-name c = search rules
