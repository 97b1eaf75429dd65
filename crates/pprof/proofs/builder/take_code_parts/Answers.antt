use Rattle.std.proofs.Common.{length, map}
use Rattle.pprof.specs.Builders.{place_of}
use Rattle.pprof.specs.Messages.{location_value}
use Rattle.pprof.proofs.Building.{located}
use Rattle.pprof.proofs.builder.take_code_parts.Goals as goal

pub returns-clause-locations : goal.returns-clause-locations
returns-clause-locations c =
    located (map place_of c.args.places.now.keys) (map location_value c.in_ok-take_locations.field-0.items) c.len.result c.len-2.result
    (length c.args.files.now.keys) (length c.args.names.now.keys) c.in_ok-take_locations.ensures c.len.ensures.len c.len-2.ensures.len
