use Rattle.std.proofs.Common.{take}
use Rattle.perfdata_profile.specs.Profiles.{lists_of}
use Rattle.perfdata_views.specs.steps.PprofSamples.{AddsLines}
use Rattle.pprof.specs.Builders.{tables_of}
use Rattle.perfdata_views.proofs.pprof_profile.add_lines.Given as goal

abbrev pub invariant-lines : goal.invariant-lines
invariant-lines l = AddsLines (lists_of l.tables) (tables_of l.initial.builder) (take l.line-index l.lines) l.added.items (tables_of l.builder)
