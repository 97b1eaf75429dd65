use Rattle.std.proofs.Common.{w32}
use Rattle.std.proofs.lemmas.Int.{to_z-of_z}
use Rattle.perfdata_spaces.specs.AddressSpaces.{mapping_values}
use Rattle.perfdata_spaces.specs.Spaces.{indexed_at}
use Rattle.perfdata_stack_arrays.proofs.frame.find_file_offset.Goals as goal

pub returns : goal.returns
returns c = λ before follows.
    let finds = rw (to_z-of_z w32 c.args.pid c.ranges.pid) at (c.find_index-index.ensures before follows) in
    (indexed_at (mapping_values c.args.spaces.now) c.find_index-index.result, finds.found, c.mapping_offset.ensures)
