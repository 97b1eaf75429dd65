use Rattle.perfdata_views.proofs.PprofTables.{extends_same, extends_trans}
use Rattle.pprof.specs.Builders.{tables_of}
use Rattle.perfdata_views.proofs.pprof_profile.add_mappings.Goals as goal

pub mappings-init : goal.mappings-init
mappings-init c = extends_same (tables_of c.args.builder.now)

pub mappings-preserved : goal.mappings-preserved
mappings-preserved c = extends_trans (tables_of c.args.builder.now) (tables_of c.mappings.builder) (tables_of c.add_mapping.new.builder) c.mappings.invariant c.in_ok-add_mapping.ensures.extends
