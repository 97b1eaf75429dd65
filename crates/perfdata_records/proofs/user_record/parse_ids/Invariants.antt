use Rattle.std.proofs.Common.{◌≤◌, length}
use Rattle.std.specs.Prelude.{◌≡◌, ◌%◌}
use Rattle.perfdata_sources.specs.Raw.{bytes_of}
use Rattle.perfdata_records.proofs.Ids.{AreSoFar}
use Rattle.perfdata_records.proofs.user_record.parse_ids.Given as goal

abbrev pub invariant-ids : goal.invariant-ids
invariant-ids g l = AreSoFar g.T.ByteOrder.number_of (bytes_of l.fn.bytes) l.ids.items (bytes_of l.rest) × (length (bytes_of l.fn.bytes) % 8 ≡ 0) × (length (bytes_of l.rest) ≤ length (bytes_of l.fn.bytes))

abbrev pub decreases-ids : goal.decreases-ids
decreases-ids g l = length (bytes_of l.rest)
