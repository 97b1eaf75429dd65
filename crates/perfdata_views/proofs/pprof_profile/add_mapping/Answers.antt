use Rattle.std.proofs.Common.{subst, sym}
use Rattle.perfdata_profile.specs.Interned.{mapping_number, ranges_of}
use Rattle.perfdata_profile.specs.Profiles.{lists_of}
use Rattle.perfdata_profile.specs.Values.{RangeValue}
use Rattle.perfdata_views.specs.PprofSamples.{IsFile, shown_range}
use Rattle.perfdata_views.proofs.PprofConverting.{found_range, is_there}
use Rattle.perfdata_views.proofs.PprofTables.{extends_same, ok_of}
use Rattle.pprof.specs.Builders.{tables_of}
use Rattle.perfdata_views.proofs.pprof_profile.add_mapping.Goals as goal

pub returns-in-Some-clause-ok : goal.returns-in-Some-clause-ok
returns-in-Some-clause-ok c =
    let same = found_range (lists_of c.args.tables.now) c.args.id c.in-Some.range (sym c.in-Some.ensures) in
    ok_of c.add_range.result (λ file is within. subst (λ (range : RangeValue). IsFile (tables_of c.add_range.new.builder) file (shown_range range)) (sym same) is) c.add_range.ensures.ok

pub returns-in-None-clause-ok : goal.returns-in-None-clause-ok
returns-in-None-clause-ok c = λ within. absurd (is_there (ranges_of c.args.tables.now.mappings) (mapping_number c.args.id) within c.in-None.ensures)

pub returns-in-None-clause-extends : goal.returns-in-None-clause-extends
returns-in-None-clause-extends c = extends_same (tables_of c.args.builder.now)
