-- The text that a line contains.
use Rattle.std.specs.Prelude.{ℕ, List, drop}
use Rattle.perfdata_listing_lines.specs.declared.line.ListingLine.{ListingLine}

-- the bytes after its start index
abbrev pub text_of : ListingLine → List ℕ
text_of line = drop line.start line.bytes
