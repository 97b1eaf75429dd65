use Rattle.std.proofs.Common.{ℕ, List, subst, sym}
use Rattle.std.specs.Prelude.{All}
use Rattle.code_cfi.specs.Tables.{IsFdeOf, SortedFdesOf}
use Rattle.code_cfi.specs.steps.Tables.{AreRising}
use Rattle.code_cfi.specs.declared.cie.Cie.{Cie}
use Rattle.code_cfi.proofs.table.EntryTable.new.Goals as goal

pub read_sorted_fdes-requires : goal.read_sorted_fdes-requires
read_sorted_fdes-requires c = subst AreRising (sym c.deref-3.ensures.value) c.in_ok-cies.ensures.rising

pub returns-clause-fdes : goal.returns-clause-fdes
returns-clause-fdes c =
    let fdes = c.in_ok-fdes.fdes.items in
    let one = subst (λ (bs : List ℕ). All (IsFdeOf c.args.section c.args.address bs c.deref-3.result.now) fdes) c.deref-2.ensures.value c.in_ok-fdes.ensures.all in
    subst (λ (cs : List Cie). All (IsFdeOf c.args.section c.args.address c.args.bytes.items cs) fdes) c.deref-3.ensures.value one

pub returns-clause-in_order : goal.returns-clause-in_order
returns-clause-in_order c =
    let fdes = c.in_ok-fdes.fdes.items in
    let one = subst (λ (bs : List ℕ). SortedFdesOf c.args.section c.args.address bs c.deref-3.result.now fdes) c.deref-2.ensures.value c.in_ok-fdes.ensures.in_order in
    subst (λ (cs : List Cie). SortedFdesOf c.args.section c.args.address c.args.bytes.items cs fdes) c.deref-3.ensures.value one
