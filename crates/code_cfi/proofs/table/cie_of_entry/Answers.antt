use Rattle.code_cfi.proofs.table.cie_of_entry.Goals as goal

pub returns-in-Err-clause-none : goal.returns-in-Err-clause-none
returns-in-Err-clause-none c = λ d is. c.in-Err.ensures.none d is.1
