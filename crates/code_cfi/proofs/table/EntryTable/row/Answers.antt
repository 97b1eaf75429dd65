use Rattle.std.proofs.Common.{◌<◌, length, refl, rules}
use Rattle.std.proofs.lemmas.Result.{err_from_is_err_and}
use Rattle.std.proofs.lemmas.Grind.{merely}
use Rattle.code_cfi.specs.Rows.{Moment}
use Rattle.code_cfi.specs.steps.Rows.{moment_of}
use Rattle.code_cfi.proofs.UniqueRows.{no_cie_run, no_fde_run}
use Rattle.code_cfi.proofs.table.EntryTable.row.Goals as goal

pub returns-clause-found : goal.returns-clause-found
returns-clause-found c = merely (record {
  fde = c.index-fde.result.now;
  cie = c.index-cie.result.now;
  first = record { location = 0; row = c.new.result; remembered = c.new-2.result.items };
  middle = moment_of c.run.new.state;
  second = record { location = c.index-fde.result.now.start; row = c.run.new.state.row; remembered = c.run.new.state.remembered.items };
  last = moment_of c.run-2.new.state;
  index_within = search rules;
  fde_is = c.index-fde.ensures;
  cie_within = search rules;
  cie_is = c.index-cie.ensures;
  first_is = (refl, c.new.ensures, c.new-2.ensures.items);
  cie_program = c.in_ok-run.ensures.program;
  cie_runs = c.in_ok-run.ensures.done;
  second_is = (refl, refl, refl);
  fde_program = c.in_ok-run-2.ensures.program;
  fde_runs = c.in_ok-run-2.ensures.done;
  row_is = refl;
  register_is = refl;
  signal_is = refl;
})

pub returns-in_err-run-clause-none : goal.returns-in_err-run-clause-none
returns-in_err-run-clause-none c =
    let p = err_from_is_err_and c.from_residual.result c.from_residual.ensures.1 in
    let first : Moment = record { location = 0; row = c.new.result; remembered = c.new-2.result.items } in
    let within : c.args.index < length c.args.self.now.fdes.items = search rules in
    let cie_within : c.index-fde.result.now.cie < length c.args.self.now.cies.items = search rules in
    rw (p.1, p.2) (λ other.
    no_cie_run c.args.self.now c.args.index c.args.address c.index-fde.result.now within c.index-fde.ensures c.index-cie.result.now cie_within c.index-cie.ensures first (refl, c.new.ensures, c.new-2.ensures.items)
    (c.in_err-run.ensures.none other))

pub returns-in_err-run-2-clause-none : goal.returns-in_err-run-2-clause-none
returns-in_err-run-2-clause-none c =
    let p = err_from_is_err_and c.from_residual-in_err-run-2.result c.from_residual-in_err-run-2.ensures.1 in
    let first : Moment = record { location = 0; row = c.new.result; remembered = c.new-2.result.items } in
    let middle = moment_of c.run.new.state in
    let second : Moment = record { location = c.index-fde.result.now.start; row = c.run.new.state.row; remembered = c.run.new.state.remembered.items } in
    let within : c.args.index < length c.args.self.now.fdes.items = search rules in
    let cie_within : c.index-fde.result.now.cie < length c.args.self.now.cies.items = search rules in
    rw (p.1, p.2) (λ other.
    no_fde_run c.args.self.now c.args.index c.args.address c.index-fde.result.now within c.index-fde.ensures c.index-cie.result.now cie_within c.index-cie.ensures first (refl, c.new.ensures, c.new-2.ensures.items)
    middle second c.in_ok-run.ensures.done (refl, refl, refl) (c.in_err-run-2.ensures.none other))

pub returns-in_err-run-clause-memory : goal.returns-in_err-run-clause-memory
returns-in_err-run-clause-memory c =
    let p = err_from_is_err_and c.from_residual.result c.from_residual.ensures.1 in
    rw (p.1, p.2) (λ memory. absurd (c.in_err-run.ensures.memory memory))

pub returns-in_err-run-2-clause-memory : goal.returns-in_err-run-2-clause-memory
returns-in_err-run-2-clause-memory c =
    let p = err_from_is_err_and c.from_residual-in_err-run-2.result c.from_residual-in_err-run-2.ensures.1 in
    let within : c.args.index < length c.args.self.now.fdes.items = search rules in
    let cie_within : c.index-fde.result.now.cie < length c.args.self.now.cies.items = search rules in
    rw (p.1, p.2) (λ memory. record {
      fde = c.index-fde.result.now;
      cie = c.index-cie.result.now;
      index_within = within;
      fde_is = c.index-fde.ensures;
      cie_within = cie_within;
      cie_is = c.index-cie.ensures;
      remembers = c.in_err-run-2.ensures.memory memory;
    })
