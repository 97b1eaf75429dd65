use Rattle.code_unwind.specs.WithoutCfi.{stored_word}
use Rattle.code_unwind.proofs.RegisterLemmas.{registers_set}
use Rattle.code_unwind.proofs.without_cfi.stored_registers.Goals as goal

pub stored-preserved : goal.stored-preserved
stored-preserved c =
    registers_set (stored_word c.args.machine c.args.copy.now c.args.top) c.stored.number c.stored.caller c.set.new.self c.stored_word.result c.stored.invariant c.stored_word.ensures c.set.ensures
