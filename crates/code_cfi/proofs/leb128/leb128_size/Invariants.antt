use Rattle.std.proofs.Common.{ℕ, ◌≤◌, ◌<◌, get_or}
use Rattle.code_cfi.proofs.leb128.leb128_size.Given as goal

abbrev pub invariant-bytes : goal.invariant-bytes
invariant-bytes l = record {
  most : l.index ≤ 10;
  continues : (k : ℕ) → k < l.index → 128 ≤ get_or l.bytes k 0;
}
