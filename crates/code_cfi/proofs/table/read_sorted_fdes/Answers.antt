use Rattle.std.proofs.Common.{rules}
use Rattle.std.proofs.lemmas.List.Sorted.{All-permutation}
use Rattle.std.specs.List.Sorted.{IsNonDecreasingBy}
use Rattle.code_cfi.specs.Tables.{IsFdeOf}
use Rattle.code_cfi.specs.declared.fde.Fde.{Fde}
use Rattle.code_cfi.proofs.table.read_sorted_fdes.Goals as goal

pub returns-clause-all : goal.returns-clause-all
returns-clause-all c =
    All-permutation (IsFdeOf c.args.section c.args.address c.args.bytes.now c.args.cies.now) c.in_ok-fdes.fdes.items c.sort_fdes.new.fdes.items c.sort_fdes.ensures.permutation c.in_ok-fdes.ensures.all

pub returns-clause-in_order : goal.returns-clause-in_order
returns-clause-in_order c =
    let up : IsNonDecreasingBy (λ (f : Fde). f.start) c.sort_fdes.new.fdes.items = search rules in
    (c.in_ok-fdes.fdes.items, c.in_ok-fdes.ensures.in_order, up, c.sort_fdes.ensures.stable, c.sort_fdes.ensures.permutation)
