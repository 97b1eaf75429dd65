use Rattle.std.proofs.Common.{◌<◌, List, arith, get_or, length, rules, subst, sym, take}
use Rattle.std.proofs.lemmas.List.{take_all, take_more}
use Rattle.perfdata_profile.specs.declared.locations.LocationId.{LocationId}
use Rattle.perfdata_views.specs.steps.PprofSamples.{FindsLocations}
use Rattle.perfdata_views.proofs.PprofConverting.{finds_more, finds_none}
use Rattle.perfdata_views.proofs.pprof_profile.Converter.locations.Goals as goal

pub frames-init : goal.frames-init
frames-init c = finds_none c.args.self.now c.new-ids.result.items (search rules)

pub frames-preserved : goal.frames-preserved
frames-preserved c =
    let stack = c.args.stack.now in
    let first : LocationId = record { 0 = 0 } in
    let below : c.frames.id-index < length stack = omega arith in
    let next = finds_more c.args.self.now c.frames.self c.location.new.self (take c.frames.id-index stack) (get_or stack c.frames.id-index first) c.frames.ids.items c.push.new.self.items
    c.in_ok-location.field-0 c.frames.invariant c.in_ok-location.ensures.converts c.in_ok-location.ensures.ok c.in_ok-push.ensures.items in
    subst (λ (s : List LocationId). FindsLocations c.args.self.now s c.push.new.self.items c.location.new.self) (sym (take_more stack c.frames.id-index first below)) next

pub returns : goal.returns
returns c = subst (λ (s : List LocationId). FindsLocations c.args.self.now s c.frames.ids.items c.frames.self) (take_all c.frames.id-index c.args.stack.now (omega arith)) c.frames.invariant
