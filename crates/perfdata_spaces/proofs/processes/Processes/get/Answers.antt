use Rattle.std.proofs.Common.{◌∙◌, ap, w32}
use Rattle.std.proofs.lemmas.Int.{to_z-of_z}
use Rattle.perfdata_spaces.specs.Processes.{value_in_space}
use Rattle.perfdata_spaces.proofs.processes.Processes.get.Goals as goal

pub returns-in-Some : goal.returns-in-Some
returns-in-Some c =
    let found = rw (to_z-of_z w32 c.args.pid c.ranges.pid) at c.in-Some.ensures in
    c.get.ensures ∙ ap (λ space. value_in_space space c.args.address) found

pub returns-in-None : goal.returns-in-None
returns-in-None c =
    let found = rw (to_z-of_z w32 c.args.pid c.ranges.pid) at c.in-None.ensures in
    ap (λ space. value_in_space space c.args.address) found
