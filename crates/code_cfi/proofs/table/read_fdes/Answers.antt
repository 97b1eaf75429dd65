use Rattle.std.proofs.Common.{◌++◌, ◌∷◌, [], List, arith, length, subst, sym}
use Rattle.std.specs.Prelude.{All}
use Rattle.std.proofs.lemmas.List.Elements.{All-push}
use Rattle.code_cfi.specs.Tables.{FdesOf, IsFdeOf}
use Rattle.code_cfi.specs.declared.fde.Fde.{Fde}
use Rattle.code_cfi.proofs.TableLemmas.{fde_of_piece, pieces_push, fdes_push, fdes_skip}
use Rattle.code_cfi.proofs.table.read_fdes.Goals as goal

pub entries-preserved-in_ok-push-in-Some : goal.entries-preserved-in_ok-push-in-Some
entries-preserved-in_ok-push-in-Some c =
    let section = c.args.section in
    let address = c.args.address in
    let bytes = c.args.bytes.now in
    let cies = c.args.cies.now in
    let p = c.in-Ok.read.0 in
    let run = c.entries.invariant.run in
    let shorter = c.in-Ok.ensures.shorter in
    record {
      within = omega (arith, shorter, c.entries.invariant.within);
      run = (
        run.0 ++ p ∷ [],
        pieces_push section (length bytes) bytes c.entries.rest.now c.in-Ok.read.1.now run.0 p run.1 c.in-Ok.ensures.found,
        subst (λ (fs : List Fde). FdesOf address cies (run.0 ++ p ∷ []) fs) (sym c.in_ok-push-in-Some.ensures.items) (fdes_push address cies run.0 p c.entries.fdes.items c.in-Some.fde run.2 c.in-Some.ensures.found),
      );
      all = subst (All (IsFdeOf section address bytes cies)) (sym c.in_ok-push-in-Some.ensures.items) (All-push (IsFdeOf section address bytes cies) c.entries.fdes.items c.in-Some.fde c.entries.invariant.all
          (fde_of_piece section address bytes c.entries.rest.now c.in-Ok.read.1.now cies p c.in-Some.fde (run.0, run.1) c.in-Ok.ensures.found c.in-Some.ensures.found));
    }

pub entries-preserved : goal.entries-preserved
entries-preserved c =
    let bytes = c.args.bytes.now in
    let p = c.in-Ok.read.0 in
    let run = c.entries.invariant.run in
    let shorter = c.in-Ok.ensures.shorter in
    record {
      within = omega (arith, shorter, c.entries.invariant.within);
      run = (
        run.0 ++ p ∷ [],
        pieces_push c.args.section (length bytes) bytes c.entries.rest.now c.in-Ok.read.1.now run.0 p run.1 c.in-Ok.ensures.found,
        fdes_skip c.args.address c.args.cies.now run.0 p c.entries.fdes.items run.2 c.in-None.ensures.none,
      );
      all = c.entries.invariant.all;
    }
