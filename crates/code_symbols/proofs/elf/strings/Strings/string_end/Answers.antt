use Rattle.std.proofs.Common.{◌≡◌, ℕ, ◌<◌, ◌≤◌, List, length, ltb, true, false, arith, rules, sym, subst}
use Rattle.std.specs.List.Sorted.{IsNonDecreasingBy, IsPartitionPoint}
use Rattle.std.proofs.lemmas.List.{get_or_read}
use Rattle.std.proofs.lemmas.List.Sorted.{IsPartitionPoint-from_clause, IsPartitionedBy-ltb}
use Rattle.code_symbols.specs.StringTable.{bytes_of}
use Rattle.code_symbols.specs.Strings.{IsStringEnd}
use Rattle.code_symbols.proofs.StringLemmas.{end_at_nul, end_of_bytes}
use Rattle.code_symbols.proofs.elf.strings.Strings.string_end.Goals as goal

pub returns-then-index-len-clause-end : goal.returns-then-index-len-clause-end
returns-then-index-len-clause-end c = λ within.
    let nuls : List ℕ = c.args.self.now.nuls.items in
    let start : ℕ = c.args.start in
    let p : ℕ = c.partition_point-index.result in
    let same = c.deref.ensures.value in
    let parted = IsPartitionedBy-ltb (λ n. n) c.deref.result.now start (subst (IsNonDecreasingBy (λ n. n)) (sym same) c.args.self.now.listed.ascends) in
    let point = IsPartitionPoint-from_clause (λ n. ltb n start) c.deref.result.now p c.partition_point-index.ensures.partitioned parted (λ a r q k. search rules) in
    let at_point = subst (λ l. IsPartitionPoint (λ n. ltb n start ≡ true) (λ n. ltb n start ≡ false) l p) same point in
    let all = c.args.self.now.nuls.ok in
    let inside : p < length nuls = omega (arith, c.if-index-len.true, c.len.ensures, all.0) in
    subst (IsStringEnd (bytes_of c.args.self.now) start) (sym (get_or_read nuls p c.index.result.now inside c.index.ensures 0))
    (end_at_nul (bytes_of c.args.self.now) nuls start p c.args.self.now.listed at_point inside)

pub returns-else-index-len-clause-end : goal.returns-else-index-len-clause-end
returns-else-index-len-clause-end c = λ within.
    let nuls : List ℕ = c.args.self.now.nuls.items in
    let start : ℕ = c.args.start in
    let p : ℕ = c.partition_point-index.result in
    let same = c.deref.ensures.value in
    let parted = IsPartitionedBy-ltb (λ n. n) c.deref.result.now start (subst (IsNonDecreasingBy (λ n. n)) (sym same) c.args.self.now.listed.ascends) in
    let point = IsPartitionPoint-from_clause (λ n. ltb n start) c.deref.result.now p c.partition_point-index.ensures.partitioned parted (λ a r q k. search rules) in
    let at_point = subst (λ l. IsPartitionPoint (λ n. ltb n start ≡ true) (λ n. ltb n start ≡ false) l p) same point in
    let all = c.args.self.now.nuls.ok in
    let bytes_all = c.args.self.now.bytes.ok in
    let none : length nuls ≤ p = omega (arith, c.if-index-len.false, c.len.ensures, all.0) in
    let end : length (bytes_of c.args.self.now) ≡ c.len-else-index-len.result = omega (arith, c.len-else-index-len.ensures, bytes_all.0) in
    subst (IsStringEnd (bytes_of c.args.self.now) start) end (end_of_bytes (bytes_of c.args.self.now) nuls start p c.args.self.now.listed at_point none within)
