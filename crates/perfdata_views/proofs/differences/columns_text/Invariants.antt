use Rattle.std.proofs.Common.{◌≡◌, ◌++◌}
use Rattle.std.specs.List.{flat_map}
use Rattle.perfdata_views.specs.Counts.{counted_lines}
use Rattle.perfdata_views.specs.Differences.{written_count}
use Rattle.perfdata_views.specs.steps.Differences.{columns_of}
use Rattle.perfdata_views.proofs.differences.columns_text.Given as goal

abbrev pub invariant-lines : goal.invariant-lines
invariant-lines l = l.text.items ++ flat_map (columns_of l.old (written_count l.written l.totals)) l.line-iterator ≡ flat_map (columns_of l.old (written_count l.written l.totals)) (counted_lines l.new)
