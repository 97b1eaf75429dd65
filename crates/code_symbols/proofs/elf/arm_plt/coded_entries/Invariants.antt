use Rattle.std.proofs.Common.{◌≤◌, ◌-◌, length}
use Rattle.code_symbols.specs.ArmPlt.{FollowEachOther, coded_size, start_size}
use Rattle.code_symbols.proofs.elf.arm_plt.coded_entries.Given as goal

abbrev pub invariant-entries : goal.invariant-entries
invariant-entries l = record {
  within : l.end ≤ length l.code.bytes.now;
  follow : FollowEachOther (coded_size l.code.encoding l.code.bytes.now) (start_size l.code.encoding l.code.bytes.now) l.entries.items l.end;
}

abbrev pub decreases-entries : goal.decreases-entries
decreases-entries l = length l.code.bytes.now - l.end
