use Rattle.std.proofs.Common.{refl}
use Rattle.std.proofs.lemmas.Result.{on_ok_weaker}
use Rattle.perfdata_views.specs.declared.pprof_profile.Converter.{Converter}
use Rattle.perfdata_views.proofs.PprofConverting.{extends_converts, key_added}
use Rattle.perfdata_views.proofs.pprof_profile.Converter.add.Goals as goal

pub returns : goal.returns
returns c =
    let old : Converter = c.args.self.now in
    let between : Converter = record { alloc = old.alloc; tables = old.tables; builder = c.add_labels.new.builder; location_ids = old.location_ids } in
    let middle : Converter = c.stack.new.self in
    let new : Converter = record { alloc = middle.alloc; tables = middle.tables; builder = c.add.new.self; location_ids = middle.location_ids } in
    on_ok_weaker c.add.result (λ adds. key_added old between middle new c.args.key c.args.sums c.args.column c.in_ok-labels.labels.items c.in_ok-location_ids.location_ids.items
    (extends_converts old between refl refl c.in_ok-labels.ensures.extends) c.in_ok-labels.ensures.ok c.in_ok-location_ids.ensures.converts c.in_ok-location_ids.ensures.ok
    adds c.add.ensures.rest refl refl) c.add.ensures.ok
