use Rattle.std.proofs.Common.{◌≡◌}
use Rattle.demangle_text.specs.Text.{limit_of}
use Rattle.demangle_text.proofs.v0.put_characters.Given as goal

abbrev pub invariant-characters : goal.invariant-characters
invariant-characters l = limit_of l.text ≡ limit_of l.fn.text
