-- Steps of private functions: the results for the debug info records of a jitdump in memory.
use Rattle.std.specs.Prelude.{ℕ, List, [], ◌∷◌}
use Rattle.perfdata_jit.specs.declared.records.JitCodeDebugInfoEntry.{JitCodeDebugInfoEntry}
use Rattle.perfdata_arrays.specs.JitDebug.{after_debug_entry}

-- the offset after consecutive source locations
abbrev pub debug_end : ℕ → List JitCodeDebugInfoEntry → ℕ
debug_end offset [] = offset
debug_end offset (e ∷ es) = debug_end (after_debug_entry offset e) es
