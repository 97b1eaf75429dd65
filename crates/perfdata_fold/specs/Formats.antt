-- What the formats of a profile have.
use Rattle.std.specs.Prelude.{◌≡◌, ◌⊎◌}
use Rattle.perfdata_fold.specs.declared.format.OutputFormat.{OutputFormat}
use Rattle.perfdata_fold.specs.declared.format.OutputFormat.TheVariants as formats

-- the format has the tables of a profile: both the number of samples and their weights
abbrev pub HasTables : OutputFormat → Type 0
HasTables format = (format ≡ formats.Pprof) ⊎ ((format ≡ formats.Html) ⊎ (format ≡ formats.Json))

-- the format has the names of functions alone, to which source lines may be added
abbrev pub HasNamesAlone : OutputFormat → Type 0
HasNamesAlone format = (format ≡ formats.Lines) ⊎ (format ≡ formats.Top)
