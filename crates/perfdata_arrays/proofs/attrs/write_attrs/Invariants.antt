use Rattle.std.proofs.Common.{◌≡◌, ◌-◌, ◌≤◌, length, take}
use Rattle.perfdata_arrays.specs.Attrs.{WritesAttrs, all_ids, all_names}
use Rattle.perfdata_arrays.proofs.attrs.write_attrs.Given as goal

abbrev pub invariant-attributes : goal.invariant-attributes
invariant-attributes l = record {
  within : l.index ≤ length l.all;
  names_count : l.name_offset ≡ length (all_names (take l.index l.all));
  ids_count : l.ids_start ≡ length (all_ids (take l.index l.all));
  writes : WritesAttrs (take l.index l.all) l.initial.entries l.initial.names l.initial.ids l.entries l.names l.ids;
}

abbrev pub decreases-attributes : goal.decreases-attributes
decreases-attributes l = length l.all - l.index
