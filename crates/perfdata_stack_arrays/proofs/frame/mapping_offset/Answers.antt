use Rattle.std.proofs.Common.{◌∙◌, None, Some}
use Rattle.perfdata_spaces.specs.AddressSpaces.{mapping_values}
use Rattle.perfdata_spaces.specs.Mappings.{mapping_value}
use Rattle.perfdata_stack_arrays.proofs.Finding.{place_with}
use Rattle.perfdata_stack_arrays.proofs.frame.mapping_offset.Goals as goal

pub returns-in-Some-mapping : goal.returns-in-Some-mapping
returns-in-Some-mapping c =
    let found = rw c.in-Some-mapping.is at c.mapping.ensures in
    (λ i. record { mapping = c.in-Some.index; file_offset = c.file_offset.ensures i }) ∙ place_with (mapping_values c.args.spaces.now) c.args.index c.in-Some.index c.args.address (Some (mapping_value c.in-Some-mapping.mapping.now)) c.in-Some.is found

pub returns-in-None : goal.returns-in-None
returns-in-None c =
    let found = rw c.in-None.is at c.mapping.ensures in
    place_with (mapping_values c.args.spaces.now) c.args.index c.in-Some.index c.args.address None c.in-Some.is found
