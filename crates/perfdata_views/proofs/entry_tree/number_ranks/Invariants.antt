use Rattle.std.proofs.Common.{◌≡◌, take}
use Rattle.perfdata_views.specs.steps.Numbering.{ranked_numbers}
use Rattle.perfdata_views.proofs.entry_tree.number_ranks.Given as goal

abbrev pub invariant-numbers : goal.invariant-numbers
invariant-numbers l = l.ranked.items ≡ ranked_numbers l.ranks (take l.number-index l.numbers)
