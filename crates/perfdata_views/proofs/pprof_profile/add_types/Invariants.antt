use Rattle.std.proofs.Common.{take}
use Rattle.perfdata_views.specs.steps.PprofSamples.{AreTypes, ExtendsTypes}
use Rattle.pprof.specs.Builders.{tables_of}
use Rattle.perfdata_views.proofs.pprof_profile.add_types.Given as goal

abbrev pub invariant-columns : goal.invariant-columns
invariant-columns l = record {
  are : AreTypes (tables_of l.builder) (take l.index l.columns) l.used l.values.items;
  extends : ExtendsTypes (tables_of l.initial.builder) (tables_of l.builder);
}
