use Rattle.std.proofs.Common.{◌≡◌, ◌≤◌, leb, true, false, length, arith, rules, sym, subst}
use Rattle.std.specs.List.Sorted.{IsNonDecreasingBy, IsPartitionPoint}
use Rattle.std.proofs.lemmas.List.Sorted.{IsPartitionPoint-from_clause, IsPartitionedBy-leb}
use Rattle.code_symbols.proofs.LookupLemmas.{point_none, point_some}
use Rattle.code_symbols.proofs.layer.Layer.find.Goals as goal

pub returns-then-above-eq0 : goal.returns-then-above-eq0
returns-then-above-eq0 c =
    let address = c.args.address in
    let above = c.partition_point-above.result in
    let same = c.deref.ensures.value in
    let parted = IsPartitionedBy-leb (λ e. e.start) c.deref.result.now address (subst (IsNonDecreasingBy (λ e. e.start)) (sym same) c.args.self.now.sorted) in
    let point = IsPartitionPoint-from_clause (λ e. leb e.start address) c.deref.result.now above c.partition_point-above.ensures.partitioned parted (λ a r q k. search rules) in
    point_none c.args.self.now.boundaries.items address above (subst (λ l. IsPartitionPoint (λ e. leb e.start address ≡ true) (λ e. leb e.start address ≡ false) l above) same point) c.if-above-eq0.true

pub returns : goal.returns
returns c =
    let address = c.args.address in
    let above = c.partition_point-above.result in
    let same = c.deref.ensures.value in
    let parted = IsPartitionedBy-leb (λ e. e.start) c.deref.result.now address (subst (IsNonDecreasingBy (λ e. e.start)) (sym same) c.args.self.now.sorted) in
    let point = IsPartitionPoint-from_clause (λ e. leb e.start address) c.deref.result.now above c.partition_point-above.ensures.partitioned parted (λ a r q k. search rules) in
    point_some c.args.self.now.boundaries.items address above (subst (λ l. IsPartitionPoint (λ e. leb e.start address ≡ true) (λ e. leb e.start address ≡ false) l above) same point)
    c.index.result.now (omega (arith, c.if-above-eq0.false)) (subst (λ l. above ≤ length l) same c.partition_point-above.ensures.bound) c.index.ensures
