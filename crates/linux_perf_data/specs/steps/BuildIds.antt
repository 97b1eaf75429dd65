-- Steps of private functions: the build ids in the section BUILD_ID: for each key the last entry with that key.
use Rattle.std.specs.Prelude.{◌≡◌, ◌++◌, List, [], ◌∷◌, Result, Ok, Err}
use Rattle.std.specs.HashMap.{HashMap}
use Rattle.perfdata_records.specs.BuildIdEvent.{BuildIdEntry}
use Rattle.perfdata_records.specs.declared.dso_info.DsoInfo.{DsoInfo}
use Rattle.perfdata_records.specs.declared.dso_key.DsoKey.{DsoKey}
use Rattle.perfdata_sections.specs.declared.error.Error.{Error}
use Rattle.perfdata_sections.specs.declared.error.Error.TheVariants.{Memory}
use Rattle.linux_perf_data.specs.BuildIds.{MapsLastEntries}

-- Inserts an entry. If the map contained the last entry of each key, it still does with the new entry. The error is `Memory`.
abbrev pub InsertsEntry : {S A : Type 0} → HashMap DsoKey DsoInfo S → BuildIdEntry → Result A Error → HashMap DsoKey DsoInfo S → Type 0
InsertsEntry old e (Ok _) new = (es : List BuildIdEntry) → MapsLastEntries old es → MapsLastEntries new (es ++ e ∷ [])
InsertsEntry old e (Err error) new = error ≡ Memory
