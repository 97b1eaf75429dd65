use Rattle.std.proofs.Common.{◌≡◌}
use Rattle.demangle_text.specs.Text.{limit_of}
use Rattle.demangle_text.proofs.v0.RustNames.bind.Given as goal

abbrev pub invariant-bound : goal.invariant-bound
invariant-bound l = limit_of l.text ≡ limit_of l.fn.text
