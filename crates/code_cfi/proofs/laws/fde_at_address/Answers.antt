use Rattle.code_cfi.proofs.SectionLemmas.{finds_fde, fde_at_is_one, finds_each}
use Rattle.code_cfi.proofs.laws.fde_at_address.Goals as goal

pub returns-clause-found : goal.returns-clause-found
returns-clause-found c = finds_fde

pub returns-clause-one : goal.returns-clause-one
returns-clause-one c = fde_at_is_one

pub returns-clause-covers : goal.returns-clause-covers
returns-clause-covers c = finds_each
