use Rattle.std.proofs.Common.{◌∙◌, w32, int_cmp}
use Rattle.std.proofs.lemmas.Int.{to_z-of_z}
use Rattle.std.specs.BTreeMap.{get}
use Rattle.perfdata_spaces.specs.steps.Ranges.{covers}
use Rattle.perfdata_spaces.specs.Processes.{is_same, value_in}
use Rattle.perfdata_spaces.proofs.Values.{value_after_insert, value_after_set}
use Rattle.perfdata_spaces.proofs.processes.Processes.set.Goals as goal

pub returns-clause-ok : goal.returns-clause-ok
returns-clause-ok c = λ other address fits.
    let with = rw (to_z-of_z w32 c.args.pid c.ranges.pid) at (c.in_ok-space.ensures address fits) in
    let updates = rw (to_z-of_z w32 c.args.pid c.ranges.pid) at (c.in_ok-insert.ensures.updates.0 other) in
    value_after_insert (is_same c.args.pid other) _ (get int_cmp c.args.self.now.spaces other) c.in_ok-space.space address _ updates with
    ∙ value_after_set (λ pid. value_in c.args.self.now pid address) c.args.pid other c.args.value (covers c.args.range address)
