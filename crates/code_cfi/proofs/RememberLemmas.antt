-- Programs that remember a row.
use Rattle.std.proofs.Common.{◌≡◌, ℕ, List, [], ◌∷◌, Option, Some, None, refl, subst, sym}
use Rattle.code_cfi.specs.Instructions.{InstructionAt}
use Rattle.code_cfi.specs.Remembering.{Remembers, RemembersAfter, RunRemembers}
use Rattle.code_cfi.specs.declared.instruction.Encoding.{Encoding}
use Rattle.code_cfi.specs.declared.instruction.Instruction.{Instruction}
use Rattle.code_cfi.specs.declared.instruction.Instruction.TheVariants as instructions
use Rattle.code_cfi.specs.declared.row.Row.{Row}

-- An instruction before those that remember the row.
pub remembers_more : (e : Encoding) (bytes : List ℕ) (i : Instruction) (after : List ℕ) → InstructionAt e bytes i after → Remembers e after → Remembers e bytes
remembers_more e bytes i after at r = record {
  before = i ∷ r.before;
  rest = r.rest;
  next = r.next;
  reads = (after, at, r.reads);
  remembers = r.remembers;
}

-- The program remembers the row that its instruction remembers.
pub run_remembers : (initial : Option Row) (e : Encoding) (program rest : List ℕ) (i : Instruction) (after : List ℕ) → InstructionAt e rest i after
    → (Remembers e rest → Remembers e program) → RemembersAfter initial i → RunRemembers initial e program
run_remembers None e program rest i after at leads is = is
run_remembers (Some row) e program rest i after at leads is = leads (record {
  before = [];
  rest = rest;
  next = after;
  reads = refl;
  remembers = subst (λ (j : Instruction). InstructionAt e rest j after) is at;
})

pub remembers_after : (initial : Option Row) (row : Row) (i : Instruction) → initial ≡ Some row → i ≡ instructions.RememberState → RemembersAfter initial i
remembers_after initial row i there is = subst (λ (o : Option Row). RemembersAfter o i) (sym there) is
