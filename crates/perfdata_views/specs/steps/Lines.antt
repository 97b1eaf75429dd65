-- Steps of private functions: the folded lines of a profile.
use Rattle.perfdata_views.specs.Counts.{Added}
use Rattle.perfdata_views.specs.Entries.{Entry, weight_of}
use Rattle.perfdata_views.specs.Lines.{line_of}

-- An entry as a line with its weight.
abbrev pub added_of : Entry → Added
added_of entry = record { line = line_of entry.0; weight = weight_of entry }
