use Rattle.std.proofs.Common.{◌≡◌, ◌≤◌, leb, true, false, length, arith, rules, sym, subst}
use Rattle.std.specs.List.Sorted.{IsNonDecreasingBy, IsPartitionPoint}
use Rattle.std.proofs.lemmas.List.Sorted.{IsPartitionPoint-from_clause, IsPartitionedBy-leb}
use Rattle.perfdata_jit.proofs.Lookups.{all_above, greatest_below}
use Rattle.perfdata_jit.proofs.records.JitCodeDebugInfoRecord.lookup.Goals as goal

pub returns-then-above-eq0 : goal.returns-then-above-eq0
returns-then-above-eq0 c =
    λ up.
    let address = c.args.addr in
    let above = c.partition_point-above.result in
    let same = c.deref.ensures.value in
    let parted = IsPartitionedBy-leb (λ e. e.code_addr) c.deref.result.now address (subst (IsNonDecreasingBy (λ e. e.code_addr)) (sym same) up) in
    let point = IsPartitionPoint-from_clause (λ e. leb e.code_addr address) c.deref.result.now above c.partition_point-above.ensures.partitioned parted (λ a r q k. search rules) in
    all_above c.args.self.now.entries.items address above (subst (λ l. IsPartitionPoint (λ e. leb e.code_addr address ≡ true) (λ e. leb e.code_addr address ≡ false) l above) same point) c.if-above-eq0.true

pub returns : goal.returns
returns c =
    λ up.
    let address = c.args.addr in
    let above = c.partition_point-above.result in
    let same = c.deref.ensures.value in
    let parted = IsPartitionedBy-leb (λ e. e.code_addr) c.deref.result.now address (subst (IsNonDecreasingBy (λ e. e.code_addr)) (sym same) up) in
    let point = IsPartitionPoint-from_clause (λ e. leb e.code_addr address) c.deref.result.now above c.partition_point-above.ensures.partitioned parted (λ a r q k. search rules) in
    greatest_below c.args.self.now.entries.items address above (subst (λ l. IsPartitionPoint (λ e. leb e.code_addr address ≡ true) (λ e. leb e.code_addr address ≡ false) l above) same point)
    up (omega (arith, c.if-above-eq0.false)) (subst (λ l. above ≤ length l) same c.partition_point-above.ensures.bound) c.index.result.now c.index.ensures
