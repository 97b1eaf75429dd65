use Rattle.std.proofs.Common.{refl, sym}
use Rattle.perfdata_profile.specs.Interned.{location_number}
use Rattle.perfdata_views.specs.declared.pprof_profile.Converter.{Converter}
use Rattle.perfdata_views.specs.steps.PprofSamples.{lists_in}
use Rattle.perfdata_views.proofs.PprofConverting.{extends_converts, is_there}
use Rattle.perfdata_views.proofs.PprofTables.{ok_of, on_ok_of}
use Rattle.perfdata_views.proofs.pprof_profile.Converter.new_location.Goals as goal

pub store_location-requires : goal.store_location-requires
store_location-requires c = sym c.in-Some.ensures

pub returns-in-Some-clause-ok : goal.returns-in-Some-clause-ok
returns-in-Some-clause-ok c = ok_of c.store_location.result (λ row is within. is) c.store_location.ensures.ok

pub returns-in-None-clause-ok : goal.returns-in-None-clause-ok
returns-in-None-clause-ok c = ok_of c.add_no_frames.result (λ row is within. absurd (is_there (lists_in c.args.self.now).locations (location_number c.args.id) within c.in-None.ensures)) c.add_no_frames.ensures.ok

pub returns-in-None-clause-converts : goal.returns-in-None-clause-converts
returns-in-None-clause-converts c =
    let old : Converter = c.args.self.now in
    let new : Converter = record { alloc = old.alloc; tables = old.tables; builder = c.add_no_frames.new.builder; location_ids = old.location_ids } in
    on_ok_of c.add_no_frames.result (λ row extends. extends_converts old new refl refl extends) c.add_no_frames.ensures.extends
