use Rattle.std.proofs.Common.{refl, subst}
use Rattle.perfdata_arrays.specs.Attrs.{WritesAttrsOrPrefix}
use Rattle.perfdata_arrays.proofs.attrs.attrs_result.Goals as goal

pub returns-in-Ok : goal.returns-in-Ok
returns-in-Ok c =
    rw c.in-Ok.is (subst (λ l. WritesAttrsOrPrefix l c.in-Ok.metadata.status c.args.entries.now c.args.names.now c.args.ids.now c.write_attrs.result c.write_attrs.new.entries c.write_attrs.new.names c.write_attrs.new.ids) c.event_attributes.ensures.are c.write_attrs.ensures)

pub returns-in-Err : goal.returns-in-Err
returns-in-Err c = rw c.in-Err.is (c.no_attrs.ensures, refl, refl, refl)
