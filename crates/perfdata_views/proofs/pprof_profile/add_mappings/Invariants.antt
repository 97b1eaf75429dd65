use Rattle.perfdata_views.specs.steps.PprofSamples.{Extends}
use Rattle.pprof.specs.Builders.{tables_of}
use Rattle.perfdata_views.proofs.pprof_profile.add_mappings.Given as goal

abbrev pub invariant-mappings : goal.invariant-mappings
invariant-mappings l = Extends (tables_of l.initial.builder) (tables_of l.builder)
