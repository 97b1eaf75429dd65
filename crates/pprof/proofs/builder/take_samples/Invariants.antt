use Rattle.std.proofs.Common.{◌≡◌, ◌++◌, map}
use Rattle.pprof.specs.Builders.{rows_of}
use Rattle.pprof.specs.Messages.{sample_value}
use Rattle.pprof.specs.Samples.{sample_row}
use Rattle.pprof.proofs.builder.take_samples.Given as goal

abbrev pub invariant-rows : goal.invariant-rows
invariant-rows l = map sample_value l.samples.items ++ map (sample_row l.type_count) (rows_of l.key-iterator) ≡ map (sample_row l.type_count) (rows_of l.fn.rows.entries)
