use Rattle.std.proofs.Common.{◌++◌, ◌∷◌, [], List, length, arith, subst, sym}
use Rattle.std.specs.Prelude.{All}
use Rattle.std.proofs.lemmas.List.Elements.{All-push}
use Rattle.code_cfi.specs.Tables.{CiesOf, IsCieOf}
use Rattle.code_cfi.specs.steps.Tables.{AreRising}
use Rattle.code_cfi.specs.declared.cie.Cie.{Cie}
use Rattle.code_cfi.proofs.UniqueFdes.{AreBefore, offset_of_piece, before_push, before_less, below_next, rising_push}
use Rattle.code_cfi.proofs.TableLemmas.{cie_of_piece, pieces_push, cies_push, cies_skip}
use Rattle.code_cfi.proofs.table.read_cies.Goals as goal

pub entries-preserved-in_ok-push-in-Some : goal.entries-preserved-in_ok-push-in-Some
entries-preserved-in_ok-push-in-Some c =
    let section = c.args.section in
    let bytes = c.args.bytes.now in
    let p = c.in-Ok.read.0 in
    let run = c.entries.invariant.run in
    let shorter = c.in-Ok.ensures.shorter in
    let at = offset_of_piece section (length bytes) c.entries.rest.now c.in-Ok.read.1.now p c.in-Some.cie c.in-Ok.ensures.found c.in-Some.ensures.found in
    record {
      within = omega (arith, shorter, c.entries.invariant.within);
      run = (
        run.0 ++ p ∷ [],
        pieces_push section (length bytes) bytes c.entries.rest.now c.in-Ok.read.1.now run.0 p run.1 c.in-Ok.ensures.found,
        subst (λ (cs : List Cie). CiesOf (run.0 ++ p ∷ []) cs) (sym c.in_ok-push-in-Some.ensures.items) (cies_push run.0 p c.entries.cies.items c.in-Some.cie run.2 c.in-Some.ensures.found),
      );
      all = subst (All (IsCieOf section bytes)) (sym c.in_ok-push-in-Some.ensures.items) (All-push (IsCieOf section bytes) c.entries.cies.items c.in-Some.cie c.entries.invariant.all
          (cie_of_piece section bytes c.entries.rest.now c.in-Ok.read.1.now p c.in-Some.cie (run.0, run.1) c.in-Ok.ensures.found c.in-Some.ensures.found));
      before = subst (λ (cies : List Cie). AreBefore cies (length c.in-Ok.read.1.now) (length bytes)) (sym c.in_ok-push-in-Some.ensures.items)
          (before_push c.entries.cies.items c.in-Some.cie (length c.entries.rest.now) (length c.in-Ok.read.1.now) (length bytes) shorter at c.entries.invariant.before);
      rising = subst AreRising (sym c.in_ok-push-in-Some.ensures.items)
          (rising_push c.entries.cies.items c.in-Some.cie c.entries.invariant.rising (below_next c.entries.cies.items c.in-Some.cie (length c.entries.rest.now) (length bytes) at c.entries.invariant.before));
    }

pub entries-preserved : goal.entries-preserved
entries-preserved c =
    let bytes = c.args.bytes.now in
    let p = c.in-Ok.read.0 in
    let run = c.entries.invariant.run in
    let shorter = c.in-Ok.ensures.shorter in
    record {
      within = omega (arith, shorter, c.entries.invariant.within);
      run = (
        run.0 ++ p ∷ [],
        pieces_push c.args.section (length bytes) bytes c.entries.rest.now c.in-Ok.read.1.now run.0 p run.1 c.in-Ok.ensures.found,
        cies_skip run.0 p c.entries.cies.items run.2 c.in-None.ensures.none,
      );
      all = c.entries.invariant.all;
      before = before_less c.entries.cies.items (length c.entries.rest.now) (length c.in-Ok.read.1.now) (length bytes) (omega (arith, shorter)) c.entries.invariant.before;
      rising = c.entries.invariant.rising;
    }
