-- The formats of a recording's attributes.
use Rattle.std.specs.Prelude.{List}
use Rattle.perfdata_events.specs.declared.format.EventFormat.{EventFormat}
use Rattle.perfdata_events.specs.declared.formats.EventFormats.{EventFormats}

-- The formats, in the order of the attributes.
abbrev pub formats_in : EventFormats → List EventFormat
formats_in f = f.formats.items
