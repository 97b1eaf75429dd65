use Rattle.std.proofs.Common.{◌≡◌, ◌++◌, length}
use Rattle.demangle_text.specs.Legacy.{text_of_escapes, text_of_part}
use Rattle.demangle_text.specs.Text.{limit_of, text_of}
use Rattle.demangle_text.proofs.legacy.write_part.Given as goal

abbrev pub invariant-escapes : goal.invariant-escapes
invariant-escapes l =
    (limit_of l.text ≡ limit_of l.fn.text)
    × (text_of l.text ++ text_of_escapes l.rest ≡ text_of l.fn.text ++ text_of_part l.part)

abbrev pub decreases-escapes : goal.decreases-escapes
decreases-escapes l = length l.rest
