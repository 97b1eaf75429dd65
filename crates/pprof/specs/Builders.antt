-- The rows of a builder.
use Rattle.std.specs.Prelude.{ℕ, List, Vec, map}
use Rattle.std.specs.declared.alloc.Global.{Global}
use Rattle.indexmap.specs.IndexSet.{spare}
use Rattle.pprof.specs.Samples.{Row}
use Rattle.pprof.specs.Strings.{texts_of}
use Rattle.pprof.specs.Tables.{Place, Tables}
use Rattle.pprof.specs.declared.builder.Builder.{Builder}
use Rattle.pprof.specs.declared.builder.LocationRow.{LocationRow}
use Rattle.pprof.specs.declared.builder.RowKey.{RowKey}

abbrev pub row_of : RowKey × Vec ℕ Global → Row
row_of entry = record { location_ids = entry.0.location_ids.items; labels = entry.0.labels.items; values = entry.1.items }

abbrev pub rows_of : List (RowKey × Vec ℕ Global) → List Row
rows_of entries = map row_of entries

-- Where a frame is, apart from its vector's memory.
abbrev pub place_of : LocationRow → Place
place_of row = record { mapping_id = row.mapping_id; address = row.address; lines = row.lines.items }

abbrev pub tables_of : Builder → Tables
tables_of builder = record {
  strings = texts_of builder.strings;
  types = builder.sample_types.keys;
  mappings = builder.mappings.keys;
  functions = builder.functions.keys;
  locations = map place_of builder.places.keys;
  samples = rows_of builder.rows.entries;
}

-- How many rows fit into the memory that tables have.
pub record Room : Type 0 where
  pub types : ℕ
  pub mappings : ℕ
  pub functions : ℕ
  pub locations : ℕ

abbrev pub room_of : Builder → Room
room_of builder = record {
  types = spare builder.sample_types;
  mappings = spare builder.mappings;
  functions = spare builder.functions;
  locations = spare builder.places;
}
