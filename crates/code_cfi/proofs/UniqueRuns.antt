-- What instructions lead to is unique.
use Rattle.std.proofs.Common.{◌≡◌, ℕ, ℤ, ◌<◌, ◌≤◌, List, [], ◌∷◌, ◌++◌, ◌⊎◌, length, subst, refl, sym, ap, ◌∙◌, inl, inr, arith, Option, Some, None}
use Rattle.code_cfi.specs.Instructions.{InstructionAt}
use Rattle.code_cfi.specs.steps.Instructions.{NoInstruction}
use Rattle.code_cfi.specs.Rows.{Moment, IsMoment, Rewrites, CfaRegister, CfaOffset, DefinesCfa, rule_of, SetsRule, StepsInFde, StepsAfter, Steps, RunsTo, Runs, with_cfa, with_rule}
use Rattle.code_cfi.specs.steps.Rows.{NoStep, NoRun}
use Rattle.code_cfi.specs.declared.instruction.Encoding.{Encoding}
use Rattle.code_cfi.specs.declared.instruction.Instruction.{Instruction}
use Rattle.code_cfi.specs.declared.instruction.Instruction.TheVariants as instructions
use Rattle.code_cfi.specs.declared.row.Row.{Row}
use Rattle.code_cfi.specs.declared.row.Cfa.{Cfa}
use Rattle.code_cfi.specs.declared.row.Cfa.TheVariants as cfas
use Rattle.code_cfi.specs.declared.row.Rule.{Rule}
use Rattle.code_cfi.specs.declared.cie.Cie.{Cie}
use Rattle.code_cfi.specs.declared.byte_range.ByteRange.{ByteRange}
use Rattle.code_cfi.proofs.UniqueInstructions.{instruction_same}

pub moment_is : (n : Moment) (location : ℕ) (row : Row) (remembered : List Row) → IsMoment n location row remembered → n ≡ record { location = location; row = row; remembered = remembered }
moment_is n location row remembered h =
    let At : ℕ → Row → List Row → Moment = λ l r m. record { location = l; row = r; remembered = m } in
    ap (λ k. At k n.row n.remembered) h.0 ∙ ap (λ k. At location k n.remembered) h.1 ∙ ap (λ k. At location row k) h.2

pub moment_same : (n k : Moment) (location : ℕ) (row : Row) (remembered : List Row) → IsMoment n location row remembered → IsMoment k location row remembered → n ≡ k
moment_same n k location row remembered p q = moment_is n location row remembered p ∙ sym (moment_is k location row remembered q)

-- the last row, and those before it
last_same : (xs ys : List Row) (a b : Row) → xs ++ a ∷ [] ≡ ys ++ b ∷ [] → (xs ≡ ys) × (a ≡ b)
last_same [] [] a b e = (refl, cc)
last_same [] (y ∷ []) a b e = absurd (omega (arith, ap length e))
last_same [] (y ∷ z ∷ ys) a b e = absurd (omega (arith, ap length e))
last_same (x ∷ []) [] a b e = absurd (omega (arith, ap length e))
last_same (x ∷ z ∷ xs) [] a b e = absurd (omega (arith, ap length e))
last_same (x ∷ xs) (y ∷ ys) a b e =
    let first : x ≡ y = cc in
    let others : xs ++ a ∷ [] ≡ ys ++ b ∷ [] = cc in
    let t = last_same xs ys a b others in
    (ap (λ z. z ∷ xs) first ∙ ap (λ zs. y ∷ zs) t.0, t.1)

cfa_register_same : (before : Cfa) (r : ℕ) (a b : Cfa) → CfaRegister before r a → CfaRegister before r b → a ≡ b
cfa_register_same (cfas.Register s n) r a b p q = p ∙ sym q
cfa_register_same _ r a b p q = absurd p

cfa_offset_same : (before : Cfa) (n : ℕ) (a b : Cfa) → CfaOffset before n a → CfaOffset before n b → a ≡ b
cfa_offset_same (cfas.Register s m) n a b p q = p ∙ sym q
cfa_offset_same _ n a b p q = absurd p

defines_same : (f : Cie) (i : Instruction) (before a b : Cfa) → DefinesCfa f i before a → DefinesCfa f i before b → a ≡ b
defines_same f (instructions.DefineCfa r n) before a b p q = p ∙ sym q
defines_same f (instructions.DefineCfaSigned r n) before a b p q = p ∙ sym q
defines_same f (instructions.DefineCfaExpression s) before a b p q = p ∙ sym q
defines_same f (instructions.DefineCfaRegister r) before a b p q = cfa_register_same before r a b p q
defines_same f (instructions.DefineCfaOffset n) before a b p q = cfa_offset_same before n a b p q
defines_same f (instructions.DefineCfaOffsetSigned n) before a b p q = cfa_offset_same before _ a b p q
defines_same f _ before a b p q = absurd p

abbrev DefinesIn : Cie → Instruction → Moment → Moment → Type 0
DefinesIn f i m n = (cfa : Cfa) × DefinesCfa f i m.row.cfa cfa × Rewrites m (with_cfa m.row cfa) n

cfa_same : (f : Cie) (i : Instruction) (m n k : Moment) → DefinesIn f i m n → DefinesIn f i m k → n ≡ k
cfa_same f i m n k p q =
    let e = defines_same f i m.row.cfa p.0 q.0 p.1 q.1 in
    let After : Cfa → Type 0 = λ cfa. Rewrites m (with_cfa m.row cfa) n in
    moment_same n k m.location (with_cfa m.row q.0) m.remembered (subst After e p.2) q.2

rule_same : (rule : Option (ℕ × Rule)) (m n k : Moment) → SetsRule rule m n → SetsRule rule m k → n ≡ k
rule_same None m n k p q = absurd p
rule_same (Some r) m n k p q = moment_same n k m.location (with_rule m.row r.0 r.1) m.remembered p q

in_fde_same : (initial : Row) (i : Instruction) (m n k : Moment) → StepsInFde initial i m n → StepsInFde initial i m k → n ≡ k
in_fde_same initial (instructions.SetLocation a) m n k p q = moment_same n k a m.row m.remembered p q
in_fde_same initial (instructions.Restore r) m n k p q = moment_same n k m.location _ m.remembered p q
in_fde_same initial instructions.RememberState m n k p q = moment_same n k m.location m.row (m.remembered ++ m.row ∷ []) p.1 q.1
in_fde_same initial instructions.RestoreState m n k p q =
    let e = last_same n.remembered k.remembered n.row k.row (sym p.1 ∙ q.1) in
    moment_same n k k.location k.row k.remembered (p.0 ∙ sym q.0, e.1, e.0) (refl, refl, refl)
in_fde_same initial _ m n k p q = absurd p

after_same : (initial : Option Row) (i : Instruction) (m n k : Moment) → StepsAfter initial i m n → StepsAfter initial i m k → n ≡ k
after_same None i m n k p q = absurd p
after_same (Some row) i m n k p q = in_fde_same row i m n k p q

pub step_same : (f : Cie) (initial : Option Row) (i : Instruction) (m n k : Moment) → Steps f initial i m n → Steps f initial i m k → n ≡ k
step_same f initial instructions.Nop m n k p q = moment_same n k m.location m.row m.remembered p q
step_same f initial (instructions.Advance d) m n k p q = moment_same n k _ m.row m.remembered p q
step_same f initial (instructions.SetLocation a) m n k p q = after_same initial (instructions.SetLocation a) m n k p q
step_same f initial (instructions.Restore r) m n k p q = after_same initial (instructions.Restore r) m n k p q
step_same f initial instructions.RememberState m n k p q = after_same initial instructions.RememberState m n k p q
step_same f initial instructions.RestoreState m n k p q = after_same initial instructions.RestoreState m n k p q
step_same f initial (instructions.DefineCfa r d) m n k p q = cfa_same f (instructions.DefineCfa r d) m n k p q
step_same f initial (instructions.DefineCfaSigned r d) m n k p q = cfa_same f (instructions.DefineCfaSigned r d) m n k p q
step_same f initial (instructions.DefineCfaRegister r) m n k p q = cfa_same f (instructions.DefineCfaRegister r) m n k p q
step_same f initial (instructions.DefineCfaOffset d) m n k p q = cfa_same f (instructions.DefineCfaOffset d) m n k p q
step_same f initial (instructions.DefineCfaOffsetSigned d) m n k p q = cfa_same f (instructions.DefineCfaOffsetSigned d) m n k p q
step_same f initial (instructions.DefineCfaExpression s) m n k p q = cfa_same f (instructions.DefineCfaExpression s) m n k p q
step_same f initial (instructions.Undefined r) m n k p q = rule_same (rule_of f (instructions.Undefined r)) m n k p q
step_same f initial (instructions.SameValue r) m n k p q = rule_same (rule_of f (instructions.SameValue r)) m n k p q
step_same f initial (instructions.Offset r d) m n k p q = rule_same (rule_of f (instructions.Offset r d)) m n k p q
step_same f initial (instructions.OffsetSigned r d) m n k p q = rule_same (rule_of f (instructions.OffsetSigned r d)) m n k p q
step_same f initial (instructions.OffsetNegative r d) m n k p q = rule_same (rule_of f (instructions.OffsetNegative r d)) m n k p q
step_same f initial (instructions.ValueOffset r d) m n k p q = rule_same (rule_of f (instructions.ValueOffset r d)) m n k p q
step_same f initial (instructions.ValueOffsetSigned r d) m n k p q = rule_same (rule_of f (instructions.ValueOffsetSigned r d)) m n k p q
step_same f initial (instructions.Register r s) m n k p q = rule_same (rule_of f (instructions.Register r s)) m n k p q
step_same f initial (instructions.Expression r s) m n k p q = rule_same (rule_of f (instructions.Expression r s)) m n k p q
step_same f initial (instructions.ValueExpression r s) m n k p q = rule_same (rule_of f (instructions.ValueExpression r s)) m n k p q

-- where an instruction does nothing
module _ (f : Cie) (initial : Option Row) (i : Instruction) (m : Moment) where
  in_fde : (row : Row) (j : Instruction) → initial ≡ Some row → i ≡ j → ((n : Moment) → Steps f initial j m n → StepsAfter initial j m n) → ((n : Moment) → StepsInFde row i m n → ⊥) → NoStep f initial i m
  in_fde row j is same after none n h =
      let moved : Steps f initial j m n = subst (λ (x : Instruction). Steps f initial x m n) same h in
      let inside : StepsAfter (Some row) j m n = subst (λ (o : Option Row). StepsAfter o j m n) is (after n moved) in
      none n (subst (λ (x : Instruction). StepsInFde row x m n) (sym same) inside)

  pub no_step_in_fde : (row : Row) → initial ≡ Some row
      → ((a : ℕ) × (i ≡ instructions.SetLocation a)) ⊎ (((r : ℕ) × (i ≡ instructions.Restore r)) ⊎ ((i ≡ instructions.RememberState) ⊎ (i ≡ instructions.RestoreState)))
      → ((n : Moment) → StepsInFde row i m n → ⊥) → NoStep f initial i m
  no_step_in_fde row is (inl h) none = in_fde row (instructions.SetLocation h.0) is h.1 (λ n x. x) none
  no_step_in_fde row is (inr (inl h)) none = in_fde row (instructions.Restore h.0) is h.1 (λ n x. x) none
  no_step_in_fde row is (inr (inr (inl h))) none = in_fde row instructions.RememberState is h (λ n x. x) none
  no_step_in_fde row is (inr (inr (inr h))) none = in_fde row instructions.RestoreState is h (λ n x. x) none

  of_cfa : (j : Instruction) → i ≡ j → ((n : Moment) → Steps f initial j m n → DefinesIn f j m n) → ((cfa : Cfa) → DefinesCfa f i m.row.cfa cfa → ⊥) → NoStep f initial i m
  of_cfa j same defines none n h =
      let d = defines n (subst (λ (x : Instruction). Steps f initial x m n) same h) in
      none d.0 (subst (λ (x : Instruction). DefinesCfa f x m.row.cfa d.0) (sym same) d.1)

  pub no_step_of_cfa : ((r n : ℕ) × (i ≡ instructions.DefineCfa r n)) ⊎ (((r : ℕ) × (n : ℤ) × (i ≡ instructions.DefineCfaSigned r n)) ⊎ (((r : ℕ) × (i ≡ instructions.DefineCfaRegister r))
      ⊎ (((n : ℕ) × (i ≡ instructions.DefineCfaOffset n)) ⊎ (((n : ℤ) × (i ≡ instructions.DefineCfaOffsetSigned n)) ⊎ ((s : ByteRange) × (i ≡ instructions.DefineCfaExpression s))))))
      → ((cfa : Cfa) → DefinesCfa f i m.row.cfa cfa → ⊥) → NoStep f initial i m
  no_step_of_cfa (inl h) none = of_cfa (instructions.DefineCfa h.0 h.1) h.2 (λ n x. x) none
  no_step_of_cfa (inr (inl h)) none = of_cfa (instructions.DefineCfaSigned h.0 h.1) h.2 (λ n x. x) none
  no_step_of_cfa (inr (inr (inl h))) none = of_cfa (instructions.DefineCfaRegister h.0) h.1 (λ n x. x) none
  no_step_of_cfa (inr (inr (inr (inl h)))) none = of_cfa (instructions.DefineCfaOffset h.0) h.1 (λ n x. x) none
  no_step_of_cfa (inr (inr (inr (inr (inl h))))) none = of_cfa (instructions.DefineCfaOffsetSigned h.0) h.1 (λ n x. x) none
  no_step_of_cfa (inr (inr (inr (inr (inr h))))) none = of_cfa (instructions.DefineCfaExpression h.0) h.1 (λ n x. x) none

module _ (e : Encoding) (f : Cie) (initial : Option Row) (address : ℕ) where
  -- instructions that run from here on begin with the one at the start, if the location is not after the address
  pub run_first : (bytes : List ℕ) (m n : Moment) (i : Instruction) (rest : List ℕ) (k : Moment) → 0 < length bytes → m.location ≤ address → InstructionAt e bytes i rest → Steps f initial i m k → Runs e f initial address bytes m n → Runs e f initial address rest k n
  run_first bytes m n i rest k some low at steps ([], (same, inl none)) = absurd (omega (arith, ap length none, some))
  run_first bytes m n i rest k some low at steps ([], (same, inr high)) = absurd (omega (arith, low, high))
  run_first bytes m n i rest k some low at steps (j ∷ js, (early, (after, next, found, moves, runs))) =
      let e' = instruction_same e bytes j i after rest found at in
      let moved : Steps f initial i m next = subst (λ (x : Instruction). Steps f initial x m next) e'.0 moves in
      let there = step_same f initial i m next k moved steps in
      (js, subst (λ (x : Moment). RunsTo e f initial address rest x js n) there (subst (λ (bs : List ℕ). RunsTo e f initial address bs next js n) e'.1 runs))

  pub no_run_read : (bytes : List ℕ) (m : Moment) → 0 < length bytes → m.location ≤ address → NoInstruction e bytes → NoRun e f initial address bytes m
  no_run_read bytes m some low none n ([], (same, inl empty)) = omega (arith, ap length empty, some)
  no_run_read bytes m some low none n ([], (same, inr high)) = omega (arith, low, high)
  no_run_read bytes m some low none n (j ∷ js, (early, (after, next, found, moves, runs))) = none j after found

  pub no_run_step : (bytes : List ℕ) (m : Moment) (i : Instruction) (rest : List ℕ) → 0 < length bytes → m.location ≤ address → InstructionAt e bytes i rest → NoStep f initial i m → NoRun e f initial address bytes m
  no_run_step bytes m i rest some low at none n ([], (same, inl empty)) = omega (arith, ap length empty, some)
  no_run_step bytes m i rest some low at none n ([], (same, inr high)) = omega (arith, low, high)
  no_run_step bytes m i rest some low at none n (j ∷ js, (early, (after, next, found, moves, runs))) =
      none next (subst (λ (x : Instruction). Steps f initial x m next) (instruction_same e bytes j i after rest found at).0 moves)

  pub runs_end : (bytes : List ℕ) (m n : Moment) (is : List Instruction) → (bytes ≡ []) ⊎ (address < m.location) → RunsTo e f initial address bytes m is n → n ≡ m
  runs_end bytes m n [] over h = h.0
  runs_end bytes m n (i ∷ is) (inr late) h = absurd (omega (arith, late, h.0))
  runs_end bytes m n (i ∷ is) (inl empty) h = absurd (omega (arith, ap length empty, ap length (h.1.2.split)))

  runs_to_same : (is js : List Instruction) (bytes : List ℕ) (m n k : Moment) → RunsTo e f initial address bytes m is n → RunsTo e f initial address bytes m js k → n ≡ k
  runs_to_same [] js bytes m n k p q = p.0 ∙ sym (runs_end bytes m k js p.1 q)
  runs_to_same (i ∷ is) [] bytes m n k p q = runs_end bytes m n (i ∷ is) q.1 p ∙ sym q.0
  runs_to_same (i ∷ is) (j ∷ js) bytes m n k (early, (after, next, found, moves, runs)) (early', (after', next', found', moves', runs')) =
      let read = instruction_same e bytes i j after after' found found' in
      let moved : Steps f initial j m next = subst (λ (x : Instruction). Steps f initial x m next) read.0 moves in
      let there = step_same f initial j m next next' moved moves' in
      runs_to_same is js after' next' n k (subst (λ (x : Moment). RunsTo e f initial address after' x is n) there (subst (λ (bs : List ℕ). RunsTo e f initial address bs next is n) read.1 runs)) runs'

  pub runs_same : (bytes : List ℕ) (m n k : Moment) → Runs e f initial address bytes m n → Runs e f initial address bytes m k → n ≡ k
  runs_same bytes m n k p q = runs_to_same p.0 q.0 bytes m n k p.1 q.1
