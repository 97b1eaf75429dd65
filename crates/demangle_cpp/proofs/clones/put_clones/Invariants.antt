use Rattle.std.proofs.Common.{◌≡◌}
use Rattle.demangle_text.specs.Text.{limit_of}
use Rattle.demangle_cpp.proofs.clones.put_clones.Given as goal

abbrev pub invariant-suffixes : goal.invariant-suffixes
invariant-suffixes l = limit_of l.text ≡ limit_of l.fn.text
