use Rattle.code_cfi.proofs.SectionLemmas.{cies_are_one, fdes_are_one}
use Rattle.code_cfi.proofs.laws.entries_are_determined.Goals as goal

pub returns-clause-cies : goal.returns-clause-cies
returns-clause-cies c = cies_are_one

pub returns-clause-fdes : goal.returns-clause-fdes
returns-clause-fdes c = fdes_are_one
