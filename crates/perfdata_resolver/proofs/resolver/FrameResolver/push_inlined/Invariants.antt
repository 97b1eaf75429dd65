use Rattle.perfdata_profile.specs.Interning.{Grows}
use Rattle.perfdata_profile.specs.Names.{names_of}
use Rattle.perfdata_profile.specs.Values.{AreNamedIn}
use Rattle.perfdata_resolver.proofs.resolver.FrameResolver.push_inlined.Given as goal

abbrev pub invariant-inlined : goal.invariant-inlined
invariant-inlined l = Grows (names_of l.initial.names) (names_of l.names) × (AreNamedIn (names_of l.initial.names) l.initial.lines.items → AreNamedIn (names_of l.names) l.lines.items)
