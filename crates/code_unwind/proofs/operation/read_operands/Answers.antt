use Rattle.std.proofs.lemmas.Result.{err_from_is_err_and}
use Rattle.code_unwind.proofs.operation.read_operands.Goals as goal

pub returns-in_err-offset-in-Offset-clause-none : goal.returns-in_err-offset-in-Offset-clause-none
returns-in_err-offset-in-Offset-clause-none c =
    let p = err_from_is_err_and c.from_residual-in_err-offset-in-Offset.result c.from_residual-in_err-offset-in-Offset.ensures.1 in
    rw (p.1, p.2, c.in-Offset.is) (c.in_err-offset-in-Offset.ensures.none.0, λ op rest at. c.in_err-offset-in-Offset.ensures.none.1 at.0 rest at.1)

pub returns-in_err-constant-in-AddConstant-clause-none : goal.returns-in_err-constant-in-AddConstant-clause-none
returns-in_err-constant-in-AddConstant-clause-none c =
    let p = err_from_is_err_and c.from_residual-in_err-constant-in-AddConstant.result c.from_residual-in_err-constant-in-AddConstant.ensures.1 in
    rw (p.1, p.2, c.in-AddConstant.is) (c.in_err-constant-in-AddConstant.ensures.none.0, λ op rest at. c.in_err-constant-in-AddConstant.ensures.none.1 at.0 rest at.1)

pub returns-in_err-distance-in-Branch-clause-none : goal.returns-in_err-distance-in-Branch-clause-none
returns-in_err-distance-in-Branch-clause-none c =
    let p = err_from_is_err_and c.from_residual-in_err-distance-in-Branch.result c.from_residual-in_err-distance-in-Branch.ensures.1 in
    rw (p.1, p.2, c.in-Branch.is) (c.in_err-distance-in-Branch.ensures.none.0, λ op rest at. c.in_err-distance-in-Branch.ensures.none.1 at.0 rest at.1)

pub returns-in_err-distance-in-Skip-clause-none : goal.returns-in_err-distance-in-Skip-clause-none
returns-in_err-distance-in-Skip-clause-none c =
    let p = err_from_is_err_and c.from_residual-in_err-distance-in-Skip.result c.from_residual-in_err-distance-in-Skip.ensures.1 in
    rw (p.1, p.2, c.in-Skip.is) (c.in_err-distance-in-Skip.ensures.none.0, λ op rest at. c.in_err-distance-in-Skip.ensures.none.1 at.0 rest at.1)

pub returns-in-RegisterOffset-clause-none : goal.returns-in-RegisterOffset-clause-none
returns-in-RegisterOffset-clause-none c = rw c.in-RegisterOffset.is c.read_register.ensures.none
