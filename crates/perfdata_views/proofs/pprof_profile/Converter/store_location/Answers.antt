use Rattle.std.proofs.Common.{◌≡◌, ◌⊎◌, ℕ, Some, refl, slice_get, subst, sym}
use Rattle.perfdata_profile.specs.Interned.{location_number}
use Rattle.perfdata_profile.specs.Values.{LocationValue}
use Rattle.perfdata_views.specs.PprofSamples.{IsLocation, shown_location}
use Rattle.perfdata_views.specs.declared.pprof_profile.Converter.{Converter}
use Rattle.perfdata_views.specs.steps.PprofSamples.{lists_in}
use Rattle.perfdata_views.proofs.PprofConverting.{found_location, stored_converts}
use Rattle.pprof.specs.Builders.{tables_of}
use Rattle.perfdata_views.proofs.pprof_profile.Converter.store_location.Goals as goal

pub returns-clause-ok : goal.returns-clause-ok
returns-clause-ok c =
    let lists = lists_in c.args.self.now in
    let same = found_location lists c.args.id c.args.location c.requires in
    let is = c.in_ok-location_id.ensures.ok (c.args.self.now.tables.now.within.locations (location_number c.args.id) c.args.location c.requires) in
    subst (λ (value : LocationValue). IsLocation (tables_of c.add_location.new.builder) c.in_ok-location_id.location_id (shown_location value)) (sym same) is

pub returns-clause-converts : goal.returns-clause-converts
returns-clause-converts c =
    let old : Converter = c.args.self.now in
    let new : Converter = record { alloc = old.alloc; tables = old.tables; builder = c.add_location.new.builder; location_ids = c.store_id.new.ids } in
    let stored = subst (λ (n : ℕ). (at other : ℕ) → slice_get c.store_id.new.ids.items at ≡ Some other
    → (slice_get old.location_ids.items at ≡ Some other) ⊎ ((at ≡ n) × (other ≡ c.in_ok-location_id.location_id))) c.number.ensures c.store_id.ensures in
    stored_converts old new (location_number c.args.id) c.in_ok-location_id.location_id refl c.in_ok-location_id.ensures.extends stored (returns-clause-ok c)
