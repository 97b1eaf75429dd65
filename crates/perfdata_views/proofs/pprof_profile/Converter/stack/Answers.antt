use Rattle.std.proofs.Common.{◌≡◌, ◌∙◌, ◌<◌, List, ap, arith, length, map, sym, subst}
use Rattle.std.proofs.lemmas.Bool.Decides.{Decides-eqb}
use Rattle.std.proofs.lemmas.List.{length-map}
use Rattle.perfdata_profile.specs.Samples.{AreRelated}
use Rattle.perfdata_profile.specs.Values.{LocationValue, location_at, stack_at}
use Rattle.perfdata_views.specs.PprofSamples.{IsLocation, shown_location}
use Rattle.perfdata_views.specs.steps.PprofSamples.{lists_in, tables_in}
use Rattle.perfdata_views.proofs.PprofConverting.{empty_shown, some_length, stack_shown}
use Rattle.perfdata_views.proofs.PprofTables.{ok_of, on_ok_of}
use Rattle.perfdata_views.proofs.pprof_profile.Converter.stack.Goals as goal

pub returns-then-is_empty-clause-ok : goal.returns-then-is_empty-clause-ok
returns-then-is_empty-clause-ok c =
    let lists = lists_in c.args.self.now in
    let stack = c.find_stack-stack.result.now in
    let none = (Decides-eqb (length stack) 0).0 (sym c.is_empty.ensures ∙ c.if-is_empty.true) in
    let count = length-map stack (location_at lists) in
    let same = ap (λ (s : List LocationValue). length s) c.find_stack-stack.ensures.stack in
    let empty : length (stack_at lists c.args.id) ≡ 0 = omega (arith, none, count, same) in
    ok_of c.no_frames.result (λ ids is cached. subst (AreRelated (IsLocation (tables_in c.no_frames.new.self)) ids.items) (empty_shown (stack_at lists c.args.id) empty) is) c.no_frames.ensures.ok

pub returns-else-is_empty-clause-ok : goal.returns-else-is_empty-clause-ok
returns-else-is_empty-clause-ok c =
    let lists = lists_in c.args.self.now in
    let stack = c.find_stack-stack.result.now in
    let some = some_length (length stack) (sym c.is_empty.ensures ∙ c.if-is_empty.false) in
    let count = length-map stack (location_at lists) in
    let same = ap (λ (s : List LocationValue). length s) c.find_stack-stack.ensures.stack in
    let has : 0 < length (stack_at lists c.args.id) = omega (arith, some, count, same) in
    let shown = ap (map shown_location) c.find_stack-stack.ensures.stack ∙ stack_shown (stack_at lists c.args.id) has in
    ok_of c.locations.result (λ ids finds cached. subst (AreRelated (IsLocation (tables_in c.locations.new.self)) ids.items) shown (finds.are cached c.find_stack-stack.ensures.within)) c.locations.ensures

pub returns-else-is_empty-clause-converts : goal.returns-else-is_empty-clause-converts
returns-else-is_empty-clause-converts c = on_ok_of c.locations.result (λ ids finds. finds.converts) c.locations.ensures
