-- The samples of a recording's events.
use Rattle.std.specs.Prelude.{ℕ}
use Rattle.perfdata_overview.specs.declared.events.EventSelection.{EventSelection}
use Rattle.perfdata_overview.specs.declared.events.EventTable.{EventTable}

-- Which events are selected.
abbrev pub selection_of : EventTable → EventSelection
selection_of table = table.selection

-- The number of all samples.
abbrev pub samples_of : EventTable → ℕ
samples_of table = table.samples
