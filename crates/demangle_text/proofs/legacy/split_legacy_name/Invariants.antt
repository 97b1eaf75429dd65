use Rattle.std.proofs.Common.{◌≡◌, ◌-◌, length}
use Rattle.demangle_text.specs.Cursor.{bytes_of, position_of}
use Rattle.demangle_text.proofs.NameLemmas.{HasRead}
use Rattle.demangle_text.proofs.legacy.split_legacy_name.Given as goal

abbrev pub invariant-parts : goal.invariant-parts
invariant-parts l = (bytes_of l.cursor ≡ l.name) × HasRead l.name (position_of l.cursor) l.start l.last

abbrev pub decreases-parts : goal.decreases-parts
decreases-parts l = length l.name - position_of l.cursor
