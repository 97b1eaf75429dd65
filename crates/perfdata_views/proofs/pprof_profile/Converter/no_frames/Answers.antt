use Rattle.std.proofs.Common.{◌≡◌, ◌∷◌, [], ℕ, List, refl, rules, subst, sym}
use Rattle.perfdata_profile.specs.Samples.{AreRelated}
use Rattle.perfdata_views.specs.PprofSamples.{IsLocation, no_frames}
use Rattle.perfdata_views.specs.declared.pprof_profile.Converter.{Converter}
use Rattle.perfdata_views.proofs.PprofConverting.{extends_converts}
use Rattle.pprof.specs.Builders.{tables_of}
use Rattle.perfdata_views.proofs.pprof_profile.Converter.no_frames.Goals as goal

pub returns-clause-ok : goal.returns-clause-ok
returns-clause-ok c =
    let items : c.push.new.self.items ≡ c.in_ok-id.id ∷ [] = search rules in
    subst (λ (ids : List ℕ). AreRelated (IsLocation (tables_of c.add_no_frames.new.builder)) ids (no_frames ∷ [])) (sym items) (c.in_ok-id.ensures.ok, tt)

pub returns-clause-converts : goal.returns-clause-converts
returns-clause-converts c =
    let old : Converter = c.args.self.now in
    let new : Converter = record { alloc = old.alloc; tables = old.tables; builder = c.add_no_frames.new.builder; location_ids = old.location_ids } in
    extends_converts old new refl refl c.in_ok-id.ensures.extends
