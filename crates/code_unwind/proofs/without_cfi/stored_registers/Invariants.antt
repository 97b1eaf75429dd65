use Rattle.std.proofs.Common.{◌≡◌}
use Rattle.code_unwind.specs.WithoutCfi.{stored_word}
use Rattle.code_unwind.specs.FrameRegisters.{registers_below}
use Rattle.code_unwind.proofs.without_cfi.stored_registers.Given as goal

abbrev pub invariant-stored : goal.invariant-stored
invariant-stored l = l.caller ≡ registers_below (stored_word l.machine l.copy l.top) l.number
