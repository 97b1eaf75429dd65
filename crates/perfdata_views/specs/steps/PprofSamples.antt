-- Steps of private functions: the tables of a profile for pprof as samples are added.
use Rattle.std.specs.Prelude.{◌≡◌, ℕ, ◌<◌, ◌^◌, [], Bool, true, List, length, map, slice_get, Option, None, Some}
use Rattle.std.specs.List.{sum_by}
use Rattle.perfdata_profile.specs.Profiles.{lists_of}
use Rattle.perfdata_profile.specs.Samples.{AreRelated}
use Rattle.perfdata_profile.specs.Values.{AreLocations, Lists, lines_value, location_at, sample_value}
use Rattle.perfdata_profile.specs.declared.lines.Line.{Line as ProfileLine}
use Rattle.perfdata_profile.specs.declared.locations.LocationId.{LocationId}
use Rattle.perfdata_profile.specs.declared.sums.SampleKey.{SampleKey}
use Rattle.perfdata_profile.specs.declared.sums.Sums.{Sums}
use Rattle.perfdata_profile.specs.Sums.{entry_samples, entry_weight}
use Rattle.perfdata_views.specs.Entries.{Entry, entry_key}
use Rattle.perfdata_views.specs.PprofSamples.{AreColumns, IsLine, IsLocation, IsSampleOf, IsShown, IsType, ShownSample, added_by, shown_line, shown_location, shown_sample}
use Rattle.perfdata_views.specs.declared.pprof_profile.Column.{Column}
use Rattle.perfdata_views.specs.declared.pprof_profile.Converter.{Converter}
use Rattle.pprof.specs.Builders.{tables_of}
use Rattle.pprof.specs.Rows.{AreDistinct, Grows}
use Rattle.pprof.specs.Samples.{AddsSamples, Row}
use Rattle.pprof.specs.Tables.{Tables}
use Rattle.pprof.specs.Texts.{AreStrings}
use Rattle.pprof.specs.declared.profile.Label.{Label}
use Rattle.pprof.specs.declared.profile.Line.{Line}

-- No text, file, function or location is in the tables twice.
pub record AreOnce (tables : Tables) : Type 0 where
  pub strings : AreStrings tables.strings
  pub mappings : AreDistinct tables.mappings
  pub functions : AreDistinct tables.functions
  pub locations : AreDistinct tables.locations

-- Texts, files, functions and locations may have been appended, but no sample types.
pub record Keeps (old new : Tables) : Type 0 where
  pub strings : Grows old.strings new.strings
  pub mappings : Grows old.mappings new.mappings
  pub functions : Grows old.functions new.functions
  pub locations : Grows old.locations new.locations
  pub types : new.types ≡ old.types
  pub once : AreOnce old → AreOnce new

-- The same, and no samples.
pub record Extends (old new : Tables) : Type 0 where
  pub keeps : Keeps old new
  pub samples : new.samples ≡ old.samples

-- Texts and sample types may have been appended, and nothing else.
pub record ExtendsTypes (old new : Tables) : Type 0 where
  pub strings : Grows old.strings new.strings
  pub types : Grows old.types new.types
  pub samples : new.samples ≡ old.samples
  pub once : AreOnce old → AreOnce new

-- The functions of lines are added, and each line has the id of its own, in order.
pub record AddsLines (lists : Lists) (old : Tables) (lines : List ProfileLine) (added : List Line) (new : Tables) : Type 0 where
  pub extends : Extends old new
  pub are : AreRelated (IsLine new) added (map shown_line (lines_value lists lines))

-- The columns of entries are marked.
pub record AreUsed (entries : List (SampleKey × Sums)) (count : ℕ) (used : List Bool) : Type 0 where
  pub number : length used ≡ count
  pub each : (index : ℕ) (key : SampleKey) (sums : Sums) → slice_get entries index ≡ Some (key, sums) → key.column < count
      → slice_get used key.column ≡ Some true

-- The columns that are used have the indices of their values.
pub record AreTypes (tables : Tables) (described : List Column) (used : List Bool) (columns : List ℕ) : Type 0 where
  pub number : length columns ≡ length described
  pub each : (index : ℕ) (column : Column) → slice_get described index ≡ Some column → slice_get used index ≡ Some true
      → ((at : ℕ) × (slice_get columns index ≡ Some at) × IsType tables at column.name.items column.unit.now)

-- The tables of the profile that is converted, and those of the profile for pprof.
abbrev pub lists_in : Converter → Lists
lists_in converter = lists_of converter.tables.now

abbrev pub tables_in : Converter → Tables
tables_in converter = tables_of converter.builder

-- The ids that are known are those of the locations.
abbrev pub AreKnown : Lists → Tables → List ℕ → Type 0
AreKnown lists tables ids = (number id : ℕ) → slice_get ids number ≡ Some id → 0 < id
    → IsLocation tables id (shown_location (location_at lists (record { 0 = number })))

abbrev pub IsCached : Converter → Type 0
IsCached converter = AreKnown (lists_in converter) (tables_in converter) converter.location_ids.items

-- Rows may have been appended, whose ids are known.
pub record Converts (old new : Converter) : Type 0 where
  pub lists : lists_in new ≡ lists_in old
  pub extends : Extends (tables_in old) (tables_in new)
  pub cached : IsCached old → IsCached new

-- The locations of a stack have ids, in order.
pub record FindsLocations (old : Converter) (stack : List LocationId) (ids : List ℕ) (new : Converter) : Type 0 where
  pub converts : Converts old new
  pub are : IsCached old → AreLocations (lists_in old) stack
      → AreRelated (IsLocation (tables_in new)) ids (map shown_location (map (location_at (lists_in old)) stack))

-- The samples of an entry are added to the row with its locations and labels.
pub record AddsShown (old : Tables) (shown : ShownSample) (sums : Sums) (column : ℕ) (new : Tables) : Type 0 where
  pub between : Tables
  pub extends : Extends old between
  pub location_ids : List ℕ
  pub labels : List Label
  pub is_shown : IsShown between location_ids labels shown
  pub adds : AddsSamples (length between.types) between.samples labels location_ids
      (record { samples = sums.samples; column = column; weight = sums.weight }) new.samples
  pub new_is : new ≡ record between { samples = new.samples }

-- Entries of columns that aren't described aren't added.
abbrev pub AddsEntry : Tables → ShownSample → Sums → Option ℕ → Tables → Type 0
AddsEntry old shown sums None new = new ≡ old
AddsEntry old shown sums (Some column) new = AddsShown old shown sums column new

-- The samples with a key are added.
pub record AddsKey (old : Converter) (key : SampleKey) (sums : Sums) (column : Option ℕ) (new : Converter) : Type 0 where
  pub lists : lists_in new ≡ lists_in old
  pub cached : IsCached old → IsCached new
  pub adds : IsCached old → AddsEntry (tables_in old) (shown_sample (sample_value (lists_in old) key)) sums column (tables_in new)

-- The tables have the sample types of the columns, and no samples.
pub record HasHeading (described : List Column) (entries : List Entry) (columns : List ℕ) (tables : Tables) : Type 0 where
  pub are_columns : AreColumns entry_key entry_samples entry_weight tables described entries columns
  pub none : tables.samples ≡ []
  pub once : AreOnce tables

-- The rows are the samples of the first entries.
pub record AreRows (tables : Tables) (columns : List ℕ) (entries : List Entry) : Type 0 where
  pub each : (at : ℕ) (row : Row) → slice_get tables.samples at ≡ Some row
      → IsSampleOf entry_key entry_samples entry_weight columns tables entries row.location_ids row.labels row.values
  pub all : (index : ℕ) (entry : Entry) → slice_get entries index ≡ Some entry → entry.0.column < length columns
      → ((at : ℕ) × (row : Row) × (slice_get tables.samples at ≡ Some row)
      × IsShown tables row.location_ids row.labels (shown_sample entry.0))
  pub once : (first second : ℕ) (row other : Row) → slice_get tables.samples first ≡ Some row → slice_get tables.samples second ≡ Some other
      → row.labels ≡ other.labels → row.location_ids ≡ other.location_ids → first ≡ second

-- No sum of entries is 2^64 or more.
abbrev pub Fit : List ℕ → List Entry → Type 0
Fit columns entries = (index : ℕ) → sum_by (added_by entry_key entry_samples entry_weight columns index) entries < 2 ^ 64

-- All entries are added to tables without samples.
pub record AddsEntries (old : Converter) (columns : List ℕ) (entries : List Entry) (new : Converter) : Type 0 where
  pub lists : lists_in new ≡ lists_in old
  pub cached : IsCached old → IsCached new
  pub keeps : IsCached old → Keeps (tables_in old) (tables_in new)
  pub rows : IsCached old → AreOnce (tables_in old) → (tables_in old).samples ≡ [] → Fit columns entries
      → AreRows (tables_in new) columns entries
