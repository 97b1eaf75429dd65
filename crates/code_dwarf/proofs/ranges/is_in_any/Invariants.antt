use Rattle.std.proofs.Common.{◌≡◌, drop}
use Rattle.std.specs.List.{list_any}
use Rattle.code_dwarf.specs.steps.LineRows.{contains}
use Rattle.code_dwarf.proofs.ranges.is_in_any.Given as goal

abbrev pub invariant-parts : goal.invariant-parts
invariant-parts l = list_any (λ part. contains part l.address) l.ranges ≡ list_any (λ part. contains part l.address) (drop l.part-index l.ranges)
