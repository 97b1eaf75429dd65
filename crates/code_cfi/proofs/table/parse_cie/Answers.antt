use Rattle.std.proofs.Common.{Option, subst, sym}
use Rattle.std.specs.Prelude.{IfNone}
use Rattle.code_cfi.specs.Tables.{NoCieIn}
use Rattle.code_cfi.specs.declared.entry.CfiEntry.{CfiEntry}
use Rattle.code_cfi.proofs.table.parse_cie.Goals as goal

pub returns-in-Some-clause-none : goal.returns-in-Some-clause-none
returns-in-Some-clause-none c = subst (λ (p : Option CfiEntry). IfNone c.cie_of_entry.result (NoCieIn p)) (sym c.in-Some.is) c.cie_of_entry.ensures.none
