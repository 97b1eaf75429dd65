-- Steps of private functions: the key of a mapped object, which the paths of its mappings and of its build id have in common (perf's `dso` kinds).
use Rattle.std.specs.Prelude.{◌≡◌, ℕ, ◌-◌, false, List, Option, None, Some, Result, Ok, Err, IsSome, String, string_bytes}
use Rattle.std.specs.Option.{option_map}
use Rattle.std.specs.declared.alloc.AllocError.{AllocError}
use Rattle.std.specs.declared.alloc.Global.{Global}
use Rattle.perfdata_sources.specs.declared.event.cpu_mode.CpuMode.{CpuMode}
use Rattle.perfdata_records.specs.declared.dso_key.DsoKey.{DsoKey}
use Rattle.perfdata_records.specs.DsoKey.{key_in, is_unmapped, module_name_of, key_of_file, key_of}

-- What matching the special names does: it returns the key of the name, or `None` if `key_of_file` decides.
abbrev pub FindsSpecialName : List ℕ → CpuMode → Option DsoKey → Type 0
FindsSpecialName path mode (Some key) = is_unmapped path ≡ false → key_of path mode ≡ Some (key_in key)
FindsSpecialName path mode None = is_unmapped path ≡ false → key_of path mode ≡ key_of_file path mode

-- What finding a module's name does: it returns the name if the path is that of a module, or fails to allocate it.
abbrev pub FindsModuleName : List ℕ → Result (Option (String Global)) AllocError → Type 0
FindsModuleName path (Ok name) = option_map string_bytes name ≡ module_name_of path
FindsModuleName path (Err e) = IsSome (module_name_of path)
