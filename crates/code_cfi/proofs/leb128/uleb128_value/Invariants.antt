use Rattle.std.proofs.Common.{◌≡◌, ◌<◌, ◌≤◌, ◌^◌, length, drop}
use Rattle.code_cfi.specs.Numbers.{uleb128_value}
use Rattle.code_cfi.proofs.leb128.uleb128_value.Given as goal

abbrev pub invariant-bytes : goal.invariant-bytes
invariant-bytes l = record {
  within : l.left ≤ length l.bytes;
  value : l.value ≡ uleb128_value (drop l.left l.bytes);
  fits : l.value < 2 ^ 64;
}

abbrev pub decreases-bytes : goal.decreases-bytes
decreases-bytes l = l.left
