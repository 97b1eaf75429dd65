use Rattle.std.proofs.Common.{◌≡◌, take}
use Rattle.linux_perf_data.specs.steps.NameTable.{names_from_table}
use Rattle.linux_perf_data.specs.steps.Names.{name_bytes_of}
use Rattle.linux_perf_data.proofs.attributes.names.NameTable.clone_names.Given as goal

abbrev pub invariant-attributes : goal.invariant-attributes
invariant-attributes l = name_bytes_of l.names.items ≡ names_from_table l.self (take l.attribute-index l.attributes)
