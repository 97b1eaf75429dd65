use Rattle.perfdata_stack_arrays.proofs.NameSteps.{names_text_of}
use Rattle.perfdata_stack_arrays.proofs.laws.text.Goals as goal

pub returns : goal.returns
returns c = names_text_of
