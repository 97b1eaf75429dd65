use Rattle.std.proofs.Common.{◌≡◌, map}
use Rattle.std.specs.Map.Iter.{deref}
use Rattle.pprof.specs.Builders.{place_of}
use Rattle.pprof.specs.Messages.{location_value}
use Rattle.pprof.specs.Rows.{numbered}
use Rattle.pprof.specs.Tables.{location_row}
use Rattle.pprof.proofs.builder.take_locations.Given as goal

abbrev pub invariant-rows : goal.invariant-rows
invariant-rows l = map location_value l.locations.items ≡ numbered (location_row l.mapping_count l.function_count) 1 (map (λ p. place_of (deref p)) l.yielded)
