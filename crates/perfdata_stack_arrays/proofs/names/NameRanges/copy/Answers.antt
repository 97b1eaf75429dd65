use Rattle.std.proofs.Common.{◌∙◌, ap, cond, sym, w32}
use Rattle.std.proofs.lemmas.Int.{to_z-of_z}
use Rattle.perfdata_spaces.specs.Processes.{is_same}
use Rattle.perfdata_stack_arrays.specs.steps.Names.{range_of}
use Rattle.perfdata_stack_arrays.proofs.names.NameRanges.copy.Goals as goal

pub returns-in-Some-clause-ok : goal.returns-in-Some-clause-ok
returns-in-Some-clause-ok c =
    let found = rw (to_z-of_z w32 c.args.source c.ranges.source) at (sym c.in-Some.is ∙ c.get.ensures) in
    rw found at (rw (to_z-of_z w32 c.args.tid c.ranges.tid) at c.set.ensures.ok)

pub returns-in-None-clause-ok : goal.returns-in-None-clause-ok
returns-in-None-clause-ok c = λ other.
    let none = rw (to_z-of_z w32 c.args.source c.ranges.source) at (sym c.in-None.is ∙ c.get.ensures) in
    let removed = rw (to_z-of_z w32 c.args.tid c.ranges.tid) at (c.remove.ensures.updates.0 other) in
    removed ∙ ap (λ range. cond (is_same c.args.tid other) range (range_of c.args.self.now other)) none
