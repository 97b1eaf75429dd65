use Rattle.std.proofs.Common.{◌≡◌, ◌<◌, ap, arith}
use Rattle.code_cfi.specs.declared.fde.Fde.{Fde}
use Rattle.code_cfi.proofs.TableLemmas.{start_low, index_within, nearest, nearest_start, nearest_unique}
use Rattle.code_cfi.proofs.table.find_entry.Goals as goal

pub fde-fde-requires : goal.fde-fde-requires
fde-fde-requires c =
    let f = c.fde-last.result in
    let some : 0 < c.count_up_to-above.result = omega (arith, c.if-above-eq0.false) in
    index_within c.args.fdes.now c.args.address c.count_up_to-above.result c.count_below-index.result f f c.requires c.count_up_to-above.ensures.point
    c.count_below-index.ensures.point some c.count_up_to-above.ensures.bound c.fde-last.ensures

pub overflow_sub-distance : goal.overflow_sub-distance
overflow_sub-distance c =
    let f = c.fde-last.result in
    let some : 0 < c.count_up_to-above.result = omega (arith, c.if-above-eq0.false) in
    start_low c.args.fdes.now c.args.address c.count_up_to-above.result c.count_below-index.result f f c.requires c.count_up_to-above.ensures.point
    c.count_below-index.ensures.point some c.count_up_to-above.ensures.bound c.fde-last.ensures

pub returns-then-distance-fde : goal.returns-then-distance-fde
returns-then-distance-fde c =
    let f = c.fde-last.result in
    let g = c.fde-fde.result in
    let some : 0 < c.count_up_to-above.result = omega (arith, c.if-above-eq0.false) in
    let low = start_low c.args.fdes.now c.args.address c.count_up_to-above.result c.count_below-index.result f g c.requires c.count_up_to-above.ensures.point
    c.count_below-index.ensures.point some c.count_up_to-above.ensures.bound c.fde-last.ensures in
    let start = nearest_start c.args.fdes.now c.args.address c.count_up_to-above.result c.count_below-index.result f g c.requires c.count_up_to-above.ensures.point
    c.count_below-index.ensures.point some c.count_up_to-above.ensures.bound c.fde-last.ensures c.fde-fde.ensures in (
      g,
      nearest c.args.fdes.now c.args.address c.count_up_to-above.result c.count_below-index.result f g c.requires c.count_up_to-above.ensures.point
          c.count_below-index.ensures.point some c.count_up_to-above.ensures.bound c.fde-last.ensures c.fde-fde.ensures,
      omega (arith, low, start, c.if-distance-fde.true),
    )

pub returns-else-distance-fde : goal.returns-else-distance-fde
returns-else-distance-fde c = λ i h near.
    let f = c.fde-last.result in
    let g = c.fde-fde.result in
    let some : 0 < c.count_up_to-above.result = omega (arith, c.if-above-eq0.false) in
    let low = start_low c.args.fdes.now c.args.address c.count_up_to-above.result c.count_below-index.result f g c.requires c.count_up_to-above.ensures.point
    c.count_below-index.ensures.point some c.count_up_to-above.ensures.bound c.fde-last.ensures in
    let start = nearest_start c.args.fdes.now c.args.address c.count_up_to-above.result c.count_below-index.result f g c.requires c.count_up_to-above.ensures.point
    c.count_below-index.ensures.point some c.count_up_to-above.ensures.bound c.fde-last.ensures c.fde-fde.ensures in
    let mine = nearest c.args.fdes.now c.args.address c.count_up_to-above.result c.count_below-index.result f g c.requires c.count_up_to-above.ensures.point
    c.count_below-index.ensures.point some c.count_up_to-above.ensures.bound c.fde-last.ensures c.fde-fde.ensures in
    let same = nearest_unique c.args.fdes.now c.args.address i c.count_below-index.result h g near mine in
    let starts : h.start ≡ g.start = ap (λ (k : Fde). k.start) same in
    let sizes : h.size ≡ g.size = ap (λ (k : Fde). k.size) same in
    omega (arith, starts, sizes, start, low, c.if-distance-fde.false)
