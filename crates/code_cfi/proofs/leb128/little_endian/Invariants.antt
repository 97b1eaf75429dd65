use Rattle.std.proofs.Common.{◌≡◌, ◌<◌, ◌≤◌, ◌-◌, ◌^◌, length, drop}
use Rattle.code_cfi.specs.Numbers.{fixed_value}
use Rattle.code_cfi.proofs.leb128.little_endian.Given as goal

abbrev pub invariant-bytes : goal.invariant-bytes
invariant-bytes l = record {
  within : l.left ≤ length l.bytes;
  value : l.value ≡ fixed_value (drop l.left l.bytes);
  fits : l.value < 256 ^ (length l.bytes - l.left);
}

abbrev pub decreases-bytes : goal.decreases-bytes
decreases-bytes l = l.left
