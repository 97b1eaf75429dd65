-- Where there is no row.
use Rattle.std.proofs.Common.{◌≡◌, ℕ, ◌-◌, ◌^◌, ◌<◌, ◌≤◌, [], length, get_or, subst, sym, ap, ◌∙◌, arith, Some, None}
use Rattle.std.proofs.Math.Logic.{∥∥₁_elim}
use Rattle.std.proofs.lemmas.List.{get_or_default}
use Rattle.code_cfi.specs.Rows.{Moment, IsMoment, Runs, empty_row}
use Rattle.code_cfi.specs.steps.Rows.{NoRun}
use Rattle.code_cfi.specs.TableRows.{RowIn, NoRowIn, IsProgram, encoding_in, program_in}
use Rattle.code_cfi.specs.declared.cie.Cie.{Cie}
use Rattle.code_cfi.specs.declared.fde.Fde.{Fde}
use Rattle.code_cfi.specs.declared.table.EntryTable.{EntryTable}
use Rattle.code_cfi.specs.declared.table.RowAtAddress.{RowAtAddress}
use Rattle.code_cfi.proofs.UniqueRuns.{moment_same, runs_same}

module _ (t : EntryTable) (index address : ℕ) where
  no_row : ((found : RowAtAddress) → RowIn t index address found → ⊥) → NoRowIn t index address
  no_row reason found h = ∥∥₁_elim h (λ a b. absurd a) (reason found)

  module _ (fde : Fde) (within : index < length t.fdes.items) (fde_is : fde ≡ get_or t.fdes.items index fde) where
    same_fde : (other : Fde) → other ≡ get_or t.fdes.items index other → other ≡ fde
    same_fde other is = is ∙ get_or_default t.fdes.items index other fde within ∙ sym fde_is

    pub no_cie : length t.cies.items ≤ fde.cie → NoRowIn t index address
    no_cie high = no_row (λ found r. let w = r.cie_within in let e = ap (λ (f : Fde). f.cie) (same_fde r.fde r.fde_is) in omega (arith, w, high, e))

    module _ (cie : Cie) (cie_within : fde.cie < length t.cies.items) (cie_is : cie ≡ get_or t.cies.items fde.cie cie) where
      same_cie : (f : Fde) (other : Cie) → f ≡ fde → other ≡ get_or t.cies.items f.cie other → other ≡ cie
      same_cie f other same is =
          is ∙ ap (λ (g : Fde). get_or t.cies.items g.cie other) same ∙ get_or_default t.cies.items fde.cie other cie cie_within ∙ sym cie_is

      abbrev CieRuns : Cie → Moment → Moment → Type 0
      CieRuns c m n = Runs (encoding_in t c c.instructions) c None (2 ^ 64 - 1) (program_in t c.instructions) m n

      module _ (first : Moment) (first_is : IsMoment first 0 empty_row []) where
        initial_runs : (found : RowAtAddress) (r : RowIn t index address found) → CieRuns cie first r.middle
        initial_runs found r =
            let start = moment_same r.first first 0 empty_row [] r.first_is first_is in
            subst (λ (m : Moment). CieRuns cie m r.middle) start (subst (λ (c : Cie). CieRuns c r.first r.middle) (same_cie r.fde r.cie (same_fde r.fde r.fde_is) r.cie_is) r.cie_runs)

        pub no_cie_run : (IsProgram t cie.instructions → NoRun (encoding_in t cie cie.instructions) cie None (2 ^ 64 - 1) (program_in t cie.instructions) first) → NoRowIn t index address
        no_cie_run none = no_row (λ found r.
            none (subst (λ (c : Cie). IsProgram t c.instructions) (same_cie r.fde r.cie (same_fde r.fde r.fde_is) r.cie_is) r.cie_program) r.middle (initial_runs found r))

        abbrev FdeRuns : Cie → Fde → Moment → Moment → Moment → Type 0
        FdeRuns c f k m n = Runs (encoding_in t c f.instructions) c (Some k.row) address (program_in t f.instructions) m n

        pub no_fde_run : (middle second : Moment) → CieRuns cie first middle → IsMoment second fde.start middle.row middle.remembered
            → (IsProgram t fde.instructions → NoRun (encoding_in t cie fde.instructions) cie (Some middle.row) address (program_in t fde.instructions) second) → NoRowIn t index address
        no_fde_run middle second runs second_is none = no_row (λ found r.
            let the_fde = same_fde r.fde r.fde_is in
            let the_cie = same_cie r.fde r.cie the_fde r.cie_is in
            let mid = runs_same (encoding_in t cie cie.instructions) cie None (2 ^ 64 - 1) (program_in t cie.instructions) first r.middle middle (initial_runs found r) runs in
            let starts : IsMoment r.second fde.start middle.row middle.remembered =
            (r.second_is.0 ∙ ap (λ (f : Fde). f.start) the_fde, r.second_is.1 ∙ ap (λ (m : Moment). m.row) mid, r.second_is.2 ∙ ap (λ (m : Moment). m.remembered) mid) in
            let begin = moment_same r.second second fde.start middle.row middle.remembered starts second_is in
            let one = subst (λ (c : Cie). FdeRuns c r.fde r.middle r.second r.last) the_cie r.fde_runs in
            let two = subst (λ (f : Fde). FdeRuns cie f r.middle r.second r.last) the_fde one in
            let three = subst (λ (m : Moment). FdeRuns cie fde m r.second r.last) mid two in
            let four = subst (λ (m : Moment). FdeRuns cie fde middle m r.last) begin three in
            none (subst (λ (f : Fde). IsProgram t f.instructions) the_fde r.fde_program) r.last four)
