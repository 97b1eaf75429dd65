use Rattle.std.proofs.Common.{◌≡◌, ◌<◌, ◌^◌, take}
use Rattle.std.specs.Prelude.{reverse}
use Rattle.code_cfi.specs.Numbers.{fixed_value}
use Rattle.code_dwarf.proofs.fixed.big_endian.Given as goal

abbrev pub invariant-bytes : goal.invariant-bytes
invariant-bytes l = record {
  value : l.value ≡ fixed_value (reverse (take l.byte-index l.bytes));
  fits : l.value < 256 ^ l.byte-index;
}
