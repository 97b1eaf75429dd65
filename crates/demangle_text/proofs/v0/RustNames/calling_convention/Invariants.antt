use Rattle.std.proofs.Common.{◌≡◌}
use Rattle.demangle_text.specs.Text.{limit_of}
use Rattle.demangle_text.proofs.v0.RustNames.calling_convention.Given as goal

abbrev pub invariant-bytes : goal.invariant-bytes
invariant-bytes l = limit_of l.text ≡ limit_of l.fn.text
