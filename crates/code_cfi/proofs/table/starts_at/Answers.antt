use Rattle.std.proofs.Common.{◌≡◌, ◌<◌, length, get_or, ap, sym, arith}
use Rattle.code_cfi.specs.declared.fde.Fde.{Fde}
use Rattle.code_cfi.proofs.TableLemmas.{nearest_between}
use Rattle.code_cfi.proofs.table.starts_at.Goals as goal

pub returns-then-is_first : goal.returns-then-is_first
returns-then-is_first c = λ last.
    let fdes = c.args.fdes.now in
    let index = c.args.index in
    let f = c.fde-start.result in
    let is = c.fde-start.ensures in
    let within : index < length fdes = omega (arith, c.if-index-fdes.false) in
    let range = c.describes.ensures c.if-not-describes.false f in
    let starts : (get_or fdes index f).start ≡ f.start = ap (λ (h : Fde). h.start) (sym is) in
    let sizes : (get_or fdes index f).size ≡ f.size = ap (λ (h : Fde). h.size) (sym is) in
    let low = range.0 in
    let high = range.1 in (
      f,
      nearest_between fdes c.args.address index f c.requires within is (omega (arith, low, starts)) (c.is_first.ensures c.if-is_first.true) (c.is_last.ensures last),
      omega (arith, high, starts, sizes),
    )
