use Rattle.std.proofs.Common.{◌+◌, ◌*◌}
use Rattle.test_rows.proofs.values.Reader.+evaluate.Given as goal

abbrev pub decreases-value : goal.decreases-value
decreases-value l = 4 * l.depth + 1

abbrev pub decreases-values : goal.decreases-values
decreases-values l = 4 * l.depth + 2

abbrev pub decreases-term : goal.decreases-term
decreases-term l = 4 * l.depth

abbrev pub decreases-expand : goal.decreases-expand
decreases-expand l = 4 * l.depth + 2
