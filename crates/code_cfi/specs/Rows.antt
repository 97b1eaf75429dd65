-- Rows: what the instructions do to them (DWARF 5, section 6.4.2), and the row at an address (section 6.4.3).
use Rattle.std.specs.Prelude.{◌≡◌, ◌⊎◌, ℕ, ◌+◌, ◌-◌, ◌*◌, ◌%◌, ◌^◌, ◌<◌, ◌≤◌, List, [], ◌∷◌, ◌++◌, length, ℤ, Option, Some, None, if◌then◌else◌, nat_lt, slice_set, slice_index_or, replicate}
use Rattle.std.specs.Int.{cast_unsigned, w64}
use Rattle.code_cfi.specs.Instructions.{InstructionAt}
use Rattle.code_cfi.specs.declared.instruction.Encoding.{Encoding}
use Rattle.code_cfi.specs.declared.instruction.Instruction.{Instruction}
use Rattle.code_cfi.specs.declared.instruction.Instruction.TheVariants as instructions
use Rattle.code_cfi.specs.declared.row.Row.{Row}
use Rattle.code_cfi.specs.declared.row.Cfa.{Cfa}
use Rattle.code_cfi.specs.declared.row.Cfa.TheVariants as cfas
use Rattle.code_cfi.specs.declared.row.Rule.{Rule}
use Rattle.code_cfi.specs.declared.row.Rule.TheVariants as rules
use Rattle.code_cfi.specs.declared.cie.Cie.{Cie}

-- the row without rules
abbrev pub empty_row : Row
empty_row = record { cfa = cfas.Undefined; rules = replicate 33 rules.SameValue }

-- the rule of a register; registers from 33 on have none
abbrev pub rule_at : Row → ℕ → Rule
rule_at row register = (if nat_lt register 33 then slice_index_or row.rules register rules.SameValue else rules.SameValue)

-- the row with one rule changed
abbrev pub with_rule : Row → ℕ → Rule → Row
with_rule row register rule = record row { rules = (if nat_lt register 33 then slice_set row.rules register rule else row.rules) }

-- the row with another CFA
abbrev pub with_cfa : Row → Cfa → Row
with_cfa row cfa = record row { cfa = cfa }

-- the location, the row and the remembered rows between two instructions
pub record Moment : Type 0 where
  pub location : ℕ
  pub row : Row
  pub remembered : List Row

abbrev pub IsMoment : Moment → ℕ → Row → List Row → Type 0
IsMoment m location row remembered = (m.location ≡ location) × (m.row ≡ row) × (m.remembered ≡ remembered)

-- the location or the row changes, and nothing else
abbrev pub Moves : Moment → ℕ → Moment → Type 0
Moves m location n = IsMoment n location m.row m.remembered

abbrev pub Rewrites : Moment → Row → Moment → Type 0
Rewrites m row n = IsMoment n m.location row m.remembered

-- an operand with the factor of offsets, which the CIE has
abbrev pub factored : Cie → ℕ → ℕ
factored f n = n * cast_unsigned w64 f.data_factor % 2 ^ 64

abbrev pub signed_factored : Cie → ℤ → ℕ
signed_factored f n = factored f (cast_unsigned w64 n)

-- the CFA with another register or another offset, if it has them
abbrev pub CfaRegister : Cfa → ℕ → Cfa → Type 0
CfaRegister (cfas.Register r n) register cfa = cfa ≡ cfas.Register register n
CfaRegister _ register cfa = ⊥

abbrev pub CfaOffset : Cfa → ℕ → Cfa → Type 0
CfaOffset (cfas.Register r n) offset cfa = cfa ≡ cfas.Register r offset
CfaOffset _ offset cfa = ⊥

-- the CFA that an instruction defines, where there was one before
abbrev pub DefinesCfa : Cie → Instruction → Cfa → Cfa → Type 0
DefinesCfa f (instructions.DefineCfa r n) before cfa = cfa ≡ cfas.Register r n
DefinesCfa f (instructions.DefineCfaSigned r n) before cfa = cfa ≡ cfas.Register r (signed_factored f n)
DefinesCfa f (instructions.DefineCfaExpression s) before cfa = cfa ≡ cfas.Expression s
DefinesCfa f (instructions.DefineCfaRegister r) before cfa = CfaRegister before r cfa
DefinesCfa f (instructions.DefineCfaOffset n) before cfa = CfaOffset before n cfa
DefinesCfa f (instructions.DefineCfaOffsetSigned n) before cfa = CfaOffset before (signed_factored f n) cfa
DefinesCfa f _ before cfa = ⊥

-- the register and the rule that an instruction sets
abbrev pub rule_of : Cie → Instruction → Option (ℕ × Rule)
rule_of f (instructions.Undefined r) = Some (r, rules.Undefined)
rule_of f (instructions.SameValue r) = Some (r, rules.SameValue)
rule_of f (instructions.Offset r n) = Some (r, rules.Offset (factored f n))
rule_of f (instructions.OffsetSigned r n) = Some (r, rules.Offset (signed_factored f n))
rule_of f (instructions.OffsetNegative r n) = Some (r, rules.Offset ((2 ^ 64 - factored f n) % 2 ^ 64))
rule_of f (instructions.ValueOffset r n) = Some (r, rules.ValueOffset (factored f n))
rule_of f (instructions.ValueOffsetSigned r n) = Some (r, rules.ValueOffset (signed_factored f n))
rule_of f (instructions.Register r s) = Some (r, rules.Register s)
rule_of f (instructions.Expression r s) = Some (r, rules.Expression s)
rule_of f (instructions.ValueExpression r s) = Some (r, rules.ValueExpression s)
rule_of f _ = None

abbrev pub SetsRule : Option (ℕ × Rule) → Moment → Moment → Type 0
SetsRule None m n = ⊥
SetsRule (Some p) m n = Rewrites m (with_rule m.row p.0 p.1) n

-- what only the instructions of an FDE may do. `initial` is the row that the CIE's instructions made
abbrev pub StepsInFde : Row → Instruction → Moment → Moment → Type 0
StepsInFde initial (instructions.SetLocation a) m n = Moves m a n
StepsInFde initial (instructions.Restore r) m n = Rewrites m (with_rule m.row r (rule_at initial r)) n
StepsInFde initial instructions.RememberState m n = (length m.remembered < 8) × IsMoment n m.location m.row (m.remembered ++ m.row ∷ [])
StepsInFde initial instructions.RestoreState m n = (n.location ≡ m.location) × (m.remembered ≡ n.remembered ++ n.row ∷ [])
StepsInFde initial _ m n = ⊥

abbrev pub StepsAfter : Option Row → Instruction → Moment → Moment → Type 0
StepsAfter None i m n = ⊥
StepsAfter (Some initial) i m n = StepsInFde initial i m n

-- what an instruction does, where `initial` is None for the instructions of a CIE
abbrev pub Steps : Cie → Option Row → Instruction → Moment → Moment → Type 0
Steps f initial instructions.Nop m n = Moves m m.location n
Steps f initial (instructions.Advance d) m n = Moves m ((m.location + d * f.code_factor % 2 ^ 64) % 2 ^ 64) n
Steps f initial (instructions.SetLocation a) m n = StepsAfter initial (instructions.SetLocation a) m n
Steps f initial (instructions.Restore r) m n = StepsAfter initial (instructions.Restore r) m n
Steps f initial instructions.RememberState m n = StepsAfter initial instructions.RememberState m n
Steps f initial instructions.RestoreState m n = StepsAfter initial instructions.RestoreState m n
Steps f initial (instructions.DefineCfa r k) m n = (cfa : Cfa) × DefinesCfa f (instructions.DefineCfa r k) m.row.cfa cfa × Rewrites m (with_cfa m.row cfa) n
Steps f initial (instructions.DefineCfaSigned r k) m n =
    (cfa : Cfa) × DefinesCfa f (instructions.DefineCfaSigned r k) m.row.cfa cfa × Rewrites m (with_cfa m.row cfa) n
Steps f initial (instructions.DefineCfaRegister r) m n =
    (cfa : Cfa) × DefinesCfa f (instructions.DefineCfaRegister r) m.row.cfa cfa × Rewrites m (with_cfa m.row cfa) n
Steps f initial (instructions.DefineCfaOffset k) m n =
    (cfa : Cfa) × DefinesCfa f (instructions.DefineCfaOffset k) m.row.cfa cfa × Rewrites m (with_cfa m.row cfa) n
Steps f initial (instructions.DefineCfaOffsetSigned k) m n =
    (cfa : Cfa) × DefinesCfa f (instructions.DefineCfaOffsetSigned k) m.row.cfa cfa × Rewrites m (with_cfa m.row cfa) n
Steps f initial (instructions.DefineCfaExpression s) m n =
    (cfa : Cfa) × DefinesCfa f (instructions.DefineCfaExpression s) m.row.cfa cfa × Rewrites m (with_cfa m.row cfa) n
Steps f initial i m n = SetsRule (rule_of f i) m n

-- the instructions that the bytes start with lead from one moment to another: each is carried out at a location up to the
-- address, and after them the bytes are at their end or the location is after the address
abbrev pub RunsTo : Encoding → Cie → Option Row → ℕ → List ℕ → Moment → List Instruction → Moment → Type 0
RunsTo e f initial address bytes m [] n = (n ≡ m) × ((bytes ≡ []) ⊎ (address < m.location))
RunsTo e f initial address bytes m (i ∷ is) n =
    (m.location ≤ address) × ((rest : List ℕ) × (k : Moment) × InstructionAt e bytes i rest × Steps f initial i m k × RunsTo e f initial address rest k is n)

abbrev pub Runs : Encoding → Cie → Option Row → ℕ → List ℕ → Moment → Moment → Type 0
Runs e f initial address bytes m n = (is : List Instruction) × RunsTo e f initial address bytes m is n
