use Rattle.std.proofs.Common.{◌≡◌, ◌≤◌, ◌<◌, ◌-◌, length, get_or}
use Rattle.code_symbols.specs.Strings.{AreNuls}
use Rattle.code_symbols.proofs.elf.strings.find_nuls.Given as goal

abbrev pub invariant-nuls : goal.invariant-nuls
invariant-nuls l = record {
  within : l.at ≤ length l.bytes;
  here : l.at < length l.bytes → get_or l.bytes l.at 0 ≡ 0;
  before : AreNuls l.bytes l.nuls.items l.at;
}

abbrev pub decreases-nuls : goal.decreases-nuls
decreases-nuls l = length l.bytes - l.at
