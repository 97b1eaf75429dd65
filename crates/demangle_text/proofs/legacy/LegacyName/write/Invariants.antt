use Rattle.std.proofs.Common.{◌≡◌, ◌-◌, length}
use Rattle.demangle_text.specs.Cursor.{bytes_of, position_of}
use Rattle.demangle_text.specs.Text.{limit_of}
use Rattle.demangle_text.proofs.NameLemmas.{HasWritten}
use Rattle.demangle_text.proofs.legacy.LegacyName.write.Given as goal

abbrev pub invariant-parts : goal.invariant-parts
invariant-parts l =
    (limit_of l.text ≡ limit_of l.fn.text)
    × (bytes_of l.cursor ≡ l.self.parts.now)
    × HasWritten l.self.parts.now (position_of l.cursor) l.fn.text l.text

abbrev pub decreases-parts : goal.decreases-parts
decreases-parts l = length l.self.parts.now - position_of l.cursor
