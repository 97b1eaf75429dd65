-- The table of strings of a profile.
use Rattle.std.specs.Prelude.{ℕ, List, map}
use Rattle.std.specs.String.{string_bytes}
use Rattle.pprof.specs.declared.strings.StringTable.{StringTable}

-- The texts, in the order in which they were added.
abbrev pub texts_of : StringTable → List (List ℕ)
texts_of table = map string_bytes table.texts.keys
