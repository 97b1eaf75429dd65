-- Programs that remember a row.
use Rattle.std.specs.Prelude.{◌≡◌, ◌<◌, ℕ, List, [], ◌∷◌, Option, Some, None, length, slice_index_or}
use Rattle.code_cfi.specs.Instructions.{InstructionAt}
use Rattle.code_cfi.specs.TableRows.{encoding_in, program_in}
use Rattle.code_cfi.specs.declared.cie.Cie.{Cie}
use Rattle.code_cfi.specs.declared.fde.Fde.{Fde}
use Rattle.code_cfi.specs.declared.instruction.Encoding.{Encoding}
use Rattle.code_cfi.specs.declared.instruction.Instruction.{Instruction}
use Rattle.code_cfi.specs.declared.instruction.Instruction.TheVariants as instructions
use Rattle.code_cfi.specs.declared.frame_table.FrameTable.{FrameTable}
use Rattle.code_cfi.specs.declared.row.Row.{Row}
use Rattle.code_cfi.specs.declared.table.EntryTable.{EntryTable}

-- bytes start with instructions, and these bytes follow
abbrev pub ReadsTo : Encoding → List ℕ → List Instruction → List ℕ → Type 0
ReadsTo e bytes [] rest = rest ≡ bytes
ReadsTo e bytes (i ∷ is) rest = (next : List ℕ) × InstructionAt e bytes i next × ReadsTo e next is rest

-- one of the instructions of bytes remembers the row (DW_CFA_remember_state)
pub record Remembers (e : Encoding) (bytes : List ℕ) : Type 0 where
  pub before : List Instruction
  pub rest : List ℕ
  pub next : List ℕ
  pub reads : ReadsTo e bytes before rest
  pub remembers : InstructionAt e rest instructions.RememberState next

-- the row is remembered, which only an instruction of an FDE may do. `initial` is None for those of a CIE
abbrev pub RemembersAfter : Option Row → Instruction → Type 0
RemembersAfter None i = ⊥
RemembersAfter (Some initial) i = i ≡ instructions.RememberState

abbrev pub RunRemembers : Option Row → Encoding → List ℕ → Type 0
RunRemembers None e bytes = ⊥
RunRemembers (Some initial) e bytes = Remembers e bytes

-- one of the instructions of the FDE with an index remembers the row
pub record RemembersIn (t : EntryTable) (index : ℕ) : Type 0 where
  pub fde : Fde
  pub cie : Cie
  pub index_within : index < length t.fdes.items
  pub fde_is : fde ≡ slice_index_or t.fdes.items index fde
  pub cie_within : fde.cie < length t.cies.items
  pub cie_is : cie ≡ slice_index_or t.cies.items fde.cie cie
  pub remembers : Remembers (encoding_in t cie fde.instructions) (program_in t fde.instructions)

abbrev pub RemembersAt : FrameTable → ℕ → Type 0
RemembersAt t index = RemembersIn t.table index
