use Rattle.std.proofs.Common.{◌≤◌, List, Option, length}
use Rattle.std.specs.Prelude.{All}
use Rattle.code_cfi.specs.Tables.{Pieces, FdesOf, IsFdeOf}
use Rattle.code_cfi.specs.declared.entry.CfiEntry.{CfiEntry}
use Rattle.code_cfi.proofs.table.read_fdes.Given as goal

abbrev pub invariant-entries : goal.invariant-entries
invariant-entries l = record {
  within : length l.rest ≤ length l.bytes;
  run : (ps : List (Option CfiEntry)) × Pieces l.section (length l.bytes) l.bytes ps l.rest × FdesOf l.address l.cies ps l.fdes.items;
  all : All (IsFdeOf l.section l.address l.bytes l.cies) l.fdes.items;
}

abbrev pub decreases-entries : goal.decreases-entries
decreases-entries l = length l.rest
