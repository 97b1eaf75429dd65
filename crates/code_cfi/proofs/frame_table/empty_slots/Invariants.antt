use Rattle.std.proofs.Common.{◌≡◌, ◌-◌, length, None}
use Rattle.std.specs.Prelude.{All}
use Rattle.code_cfi.proofs.frame_table.empty_slots.Given as goal

abbrev pub invariant-slots : goal.invariant-slots
invariant-slots l = All (λ slot. slot ≡ None) l.slots.items

abbrev pub decreases-slots : goal.decreases-slots
decreases-slots l = 2048 - length l.slots.items
