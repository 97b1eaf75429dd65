use Rattle.std.proofs.Common.{◌-◌, drop, length}
use Rattle.code_symbols.specs.Notes.{note_alignment}
use Rattle.code_symbols.specs.steps.Notes.{FollowOthers}
use Rattle.code_symbols.proofs.elf.notes.find_build_id.Given as goal

abbrev pub invariant-notes : goal.invariant-notes
invariant-notes l = FollowOthers l.encoding (note_alignment l.has_align_8) l.notes (drop l.at l.notes)

abbrev pub decreases-notes : goal.decreases-notes
decreases-notes l = length l.notes - l.at
