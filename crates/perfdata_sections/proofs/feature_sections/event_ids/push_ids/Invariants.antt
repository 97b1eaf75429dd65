use Rattle.std.proofs.Common.{◌≡◌, ◌≤◌, ◌++◌, ◌/◌, length}
use Rattle.perfdata_sections.specs.EventIds.{u64s_of}
use Rattle.perfdata_sections.proofs.feature_sections.event_ids.push_ids.Given as goal

abbrev pub invariant-ids : goal.invariant-ids
invariant-ids g l = record {
  within : length l.rest ≤ length l.fn.bytes;
  ids : l.initial.ids.items ++ u64s_of g.T.ByteOrder.number_of (length l.fn.bytes / 8) l.fn.bytes ≡ l.ids.items ++ u64s_of g.T.ByteOrder.number_of (length l.rest / 8) l.rest;
}

abbrev pub decreases-ids : goal.decreases-ids
decreases-ids g l = length l.rest
