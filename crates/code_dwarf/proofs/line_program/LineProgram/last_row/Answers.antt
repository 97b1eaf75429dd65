use Rattle.std.proofs.Common.{◌≡◌, ◌-◌, ◌<◌, List, ℕ, length, drop, sym, ap, ◌∙◌, subst, arith, rules}
use Rattle.std.proofs.lemmas.Grind.{common_steps}
use Rattle.code_dwarf.specs.steps.LineInstructions.{NoInstruction}
use Rattle.code_dwarf.specs.steps.LineMachine.{after, effect_of}
use Rattle.code_dwarf.specs.steps.LineReaders.{IsBefore, bytes_from}
use Rattle.code_dwarf.specs.declared.line_instruction.Registers.{Registers}
use Rattle.code_dwarf.specs.declared.line_instruction.RowEffect.TheVariants as effects
use Rattle.code_dwarf.proofs.LineRowLemmas.{before_none, before_row, last_before_end, last_before_row, before_some}
use Rattle.code_dwarf.proofs.line_program.LineProgram.last_row.Goals as goal

pub instructions-init : goal.instructions-init
instructions-init c code s counts_is of low =
    let h = c.args.self.now.header in
    let state = c.args.checkpoint.now in
    let bytes = c.instruction_bytes-bytes.result.now in
    let is : c.split_at.result.1.now ≡ bytes_from c.args.section.now h state =
    c.split_at.ensures.back ∙ ap (λ (n : ℕ). drop n bytes) c.saturating_sub-start.ensures ∙ ap (λ (l : List ℕ). drop (length l - state.left) l) c.instruction_bytes-bytes.ensures in
    (subst (λ (l : List ℕ). IsBefore c.args.section.now h s l state.registers state.row) (sym is) of, low)

pub instructions-preserved : goal.instructions-preserved
instructions-preserved c code s counts_is of low =
    let section = c.args.section.now in
    let h = c.args.self.now.header in
    let i = c.in-Ok.instruction in
    let rest = c.in-Ok.after.now in
    let b = c.instructions.invariant code s counts_is of low in
    let is_row : effect_of i ≡ effects.Row = sym c.step.ensures.effect ∙ c.in-Row.is in
    let new : c.step.new.self ≡ after h i c.instructions.registers = c.step.ensures.registers in (
      subst (λ (r : Registers). IsBefore section h s rest r r) (sym new) (before_row section h s c.instructions.rest.now c.instructions.registers c.instructions.row i rest c.in-Ok.ensures.found is_row b.0),
      c.if-registers-address.false,
    )

pub instructions-preserved-in-None : goal.instructions-preserved-in-None
instructions-preserved-in-None c code s counts_is of low =
    let section = c.args.section.now in
    let h = c.args.self.now.header in
    let i = c.in-Ok.instruction in
    let rest = c.in-Ok.after.now in
    let b = c.instructions.invariant code s counts_is of low in
    let none : effect_of i ≡ effects.None = sym c.step.ensures.effect ∙ c.in-None.is in
    let new : c.step.new.self ≡ after h i c.instructions.registers = c.step.ensures.registers in (
      subst (λ (r : Registers). IsBefore section h s rest r c.instructions.row) (sym new)
          (before_none section h s c.instructions.rest.now c.instructions.registers c.instructions.row i rest c.in-Ok.ensures.found none b.0),
      b.1,
    )

pub returns-in_default : goal.returns-in_default
returns-in_default c code s counts_is of low =
    let b = c.instructions.invariant code s counts_is of low in
    let none : NoInstruction c.args.section.now c.args.self.now.header c.instructions.rest.now = first_of (search rules, grind (arith, common_steps)) in
    absurd (before_some c.args.section.now c.args.self.now.header s c.instructions.rest.now c.instructions.registers c.instructions.row none b.0)

pub returns-then-registers-address : goal.returns-then-registers-address
returns-then-registers-address c code s counts_is of low =
    let h = c.args.self.now.header in
    let i = c.in-Ok.instruction in
    let b = c.instructions.invariant code s counts_is of low in
    let is_row : effect_of i ≡ effects.Row = sym c.step.ensures.effect ∙ c.in-Row.is in
    let new : c.step.new.self.address ≡ (after h i c.instructions.registers).address = ap (λ (r : Registers). r.address) c.step.ensures.registers in
    let past = c.if-registers-address.true in
    let high : c.args.address < (after h i c.instructions.registers).address = omega (arith, past, new) in
    last_before_row c.args.section.now h s c.instructions.rest.now c.instructions.registers c.instructions.row i c.in-Ok.after.now c.in-Ok.ensures.found code c.args.address counts_is b.1 is_row high b.0

pub returns-in-End : goal.returns-in-End
returns-in-End c code s counts_is of low =
    let h = c.args.self.now.header in
    let i = c.in-Ok.instruction in
    let b = c.instructions.invariant code s counts_is of low in
    let ends : effect_of i ≡ effects.End = sym c.step.ensures.effect ∙ c.in-End.is in
    last_before_end c.args.section.now h s c.instructions.rest.now c.instructions.registers c.instructions.row i c.in-Ok.after.now c.in-Ok.ensures.found c.args.address b.1 ends b.0

pub returns : goal.returns
returns c code s counts_is of low =
    let b = c.instructions.invariant code s counts_is of low in
    let none : NoInstruction c.args.section.now c.args.self.now.header c.instructions.rest.now = first_of (search rules, grind (arith, common_steps)) in
    absurd (before_some c.args.section.now c.args.self.now.header s c.instructions.rest.now c.instructions.registers c.instructions.row none b.0)
