use Rattle.std.proofs.Common.{◌≡◌, ◌++◌, length}
use Rattle.demangle_text.specs.Legacy.{with_colons}
use Rattle.demangle_text.specs.Text.{limit_of, text_of}
use Rattle.demangle_text.proofs.legacy.write_plain.Given as goal

abbrev pub invariant-dots : goal.invariant-dots
invariant-dots l =
    (limit_of l.text ≡ limit_of l.fn.text)
    × (text_of l.text ++ with_colons l.rest ≡ text_of l.fn.text ++ with_colons l.bytes)

abbrev pub decreases-dots : goal.decreases-dots
decreases-dots l = length l.rest
