use Rattle.std.proofs.Common.{◌≡◌, length, map}
use Rattle.std.specs.Map.Iter.{deref}
use Rattle.pprof.specs.Builders.{place_of}
use Rattle.pprof.specs.steps.Flags.{AreFlags}
use Rattle.pprof.proofs.builder.source_flags.Given as goal

abbrev pub invariant-places : goal.invariant-places
invariant-places l = (length l.flags.items ≡ l.mapping_count) × AreFlags l.functions.keys (map (λ p. place_of (deref p)) l.yielded) l.flags.items
