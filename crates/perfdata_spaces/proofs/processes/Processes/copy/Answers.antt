use Rattle.std.proofs.Common.{◌∙◌, ap, w32, cond, int_cmp}
use Rattle.std.proofs.lemmas.Int.{to_z-of_z}
use Rattle.std.specs.BTreeMap.{get}
use Rattle.perfdata_spaces.specs.Processes.{is_same, value_in, value_in_space}
use Rattle.perfdata_spaces.proofs.Values.{value_after_insert}
use Rattle.perfdata_spaces.proofs.processes.Processes.copy.Goals as goal

pub returns-in_ok-insert-in-Some-clause-ok : goal.returns-in_ok-insert-in-Some-clause-ok
returns-in_ok-insert-in-Some-clause-ok c = λ other address.
    let found = rw (to_z-of_z w32 c.args.source c.ranges.source) at c.in-Some.ensures in
    let updates = rw (to_z-of_z w32 c.args.pid c.ranges.pid) at (c.in_ok-insert-in-Some.ensures.updates.0 other) in
    let same = c.in_ok-space-in-Some.ensures address ∙ ap (λ space. value_in_space space address) found in
    value_after_insert (is_same c.args.pid other) _ (get int_cmp c.args.self.now.spaces other) c.in_ok-space-in-Some.space address _ updates same

pub returns-in-None-clause-ok : goal.returns-in-None-clause-ok
returns-in-None-clause-ok c = λ other address.
    let found = rw (to_z-of_z w32 c.args.source c.ranges.source) at c.in-None.ensures in
    let cleared = rw (to_z-of_z w32 c.args.pid c.ranges.pid) at (c.clear.ensures other address) in
    cleared ∙ ap (λ value. cond (is_same c.args.pid other) value (value_in c.args.self.now other address)) (ap (λ space. value_in_space space address) found)
