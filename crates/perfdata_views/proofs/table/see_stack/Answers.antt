use Rattle.std.proofs.Common.{◌≡◌, ◌∙◌, ◌<◌, ◌≤◌, ℕ, List, sym, arith, length, map, get_or}
use Rattle.std.proofs.lemmas.List.{get_or-map, length-map}
use Rattle.perfdata_profile.specs.Names.{number_of}
use Rattle.perfdata_profile.specs.declared.names.NameId.{NameId}
use Rattle.perfdata_views.proofs.Tallying.{sees_none, sees_next, sees_all}
use Rattle.perfdata_views.proofs.table.see_stack.Goals as goal

pub frames-init : goal.frames-init
frames-init c = sees_none c.args.count c.args.weight c.args.tallies.now

pub frames-preserved : goal.frames-preserved
frames-preserved c =
    let numbers : List ℕ = map number_of c.args.functions.now in
    let first : NameId = record { 0 = 0 } in
    let below : c.frames.id-index < length c.args.functions.now = omega arith in
    let count = length-map c.args.functions.now number_of in
    let number : c.number.result ≡ number_of (get_or c.args.functions.now c.frames.id-index first) = c.number.ensures in
    let is = number ∙ sym (get_or-map number_of c.args.functions.now c.frames.id-index first c.number.result below) in
    sees_next c.args.count c.args.weight c.args.tallies.now c.frames.tallies c.see.new.tallies numbers c.frames.id-index c.number.result (omega (arith, count)) is c.frames.invariant c.see.ensures

pub returns : goal.returns
returns c =
    let count = length-map c.args.functions.now number_of in
    let past : length (map number_of c.args.functions.now) ≤ c.frames.id-index = omega (arith, count) in
    sees_all c.args.count c.args.weight c.args.tallies.now c.frames.tallies (map number_of c.args.functions.now) c.frames.id-index past c.frames.invariant
