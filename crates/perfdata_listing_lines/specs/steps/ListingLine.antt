-- Steps of private functions: the line of a record's fields.
use Rattle.std.specs.Prelude.{ℕ, List}
use Rattle.perfdata_listing_lines.specs.ListingLine.{record_text}
use Rattle.perfdata_listing_lines.specs.declared.line.RecordFields.{RecordFields}

-- the line of these fields
abbrev pub fields_text : RecordFields → List ℕ
fields_text f = record_text f.offset f.round f.timestamp f.attr_index f.record_type f.misc f.body_length
