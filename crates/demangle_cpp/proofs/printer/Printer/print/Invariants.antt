use Rattle.std.proofs.Common.{◌≡◌}
use Rattle.demangle_text.specs.Text.{limit_of}
use Rattle.demangle_cpp.proofs.printer.Printer.print.Given as goal

abbrev pub invariant-tasks : goal.invariant-tasks
invariant-tasks l = limit_of l.text ≡ limit_of l.fn.text
