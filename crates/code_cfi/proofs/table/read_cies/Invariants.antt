use Rattle.std.proofs.Common.{◌≤◌, List, Option, length}
use Rattle.std.specs.Prelude.{All}
use Rattle.code_cfi.specs.Tables.{Pieces, CiesOf, IsCieOf}
use Rattle.code_cfi.specs.steps.Tables.{AreRising}
use Rattle.code_cfi.specs.declared.entry.CfiEntry.{CfiEntry}
use Rattle.code_cfi.proofs.UniqueFdes.{AreBefore}
use Rattle.code_cfi.proofs.table.read_cies.Given as goal

abbrev pub invariant-entries : goal.invariant-entries
invariant-entries l = record {
  within : length l.rest ≤ length l.bytes;
  run : (ps : List (Option CfiEntry)) × Pieces l.section (length l.bytes) l.bytes ps l.rest × CiesOf ps l.cies.items;
  all : All (IsCieOf l.section l.bytes) l.cies.items;
  before : AreBefore l.cies.items (length l.rest) (length l.bytes);
  rising : AreRising l.cies.items;
}

abbrev pub decreases-entries : goal.decreases-entries
decreases-entries l = length l.rest
