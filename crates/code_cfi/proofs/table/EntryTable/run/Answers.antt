use Rattle.std.proofs.Common.{◌≡◌, ◌≤◌, ℕ, List, length, rules, subst, sym}
use Rattle.std.proofs.lemmas.Result.{IfErr-weaker}
use Rattle.code_cfi.specs.Remembering.{RunRemembers}
use Rattle.code_cfi.specs.steps.Rows.{moment_of, NoRun}
use Rattle.code_cfi.specs.TableRows.{encoding_in, program_in}
use Rattle.code_cfi.proofs.table.EntryTable.run.Goals as goal

pub returns-clause-none : goal.returns-clause-none
returns-clause-none c =
    let t = c.args.self.now in
    let span = c.args.span in
    let same : c.in_ok-program.program.now ≡ program_in t span = search rules in
    let NoRunOf : List ℕ → Type 0 = λ program. NoRun (encoding_in t c.args.cie.now span) c.args.cie.now c.args.initial.now c.args.address program (moment_of c.args.state.now) in
    IfErr-weaker c.run.result _ _ (λ e none other small. subst NoRunOf same (none other (subst (λ (bs : List ℕ). length bs ≤ 65536) (sym same) small.1))) c.run.ensures.none

pub returns-clause-memory : goal.returns-clause-memory
returns-clause-memory c =
    let t = c.args.self.now in
    let span = c.args.span in
    let same : c.in_ok-program.program.now ≡ program_in t span = search rules in
    let RemembersOf : List ℕ → Type 0 = λ program. RunRemembers c.args.initial.now (encoding_in t c.args.cie.now span) program in
    IfErr-weaker c.run.result _ _ (λ e memory is. subst RemembersOf same (memory is)) c.run.ensures.memory
