-- Tables of the names in EVENT_DESC.
use Rattle.std.specs.Prelude.{◌≡◌, ℕ, List, length, Option, None, Some}
use Rattle.perfdata_sources.specs.Endian.{number_in}
use Rattle.perfdata_sections.specs.AttributeDescription.{DescribedEvent, events_in}
use Rattle.perfdata_sections.specs.EventDesc.{BeginsWithEventDesc}
use Rattle.perfdata_sections.specs.declared.feature_sections.AttributeDescription.{AttributeDescription}
use Rattle.linux_perf_data.specs.Names.{NamedBy, IsReadableEventDesc}
use Rattle.linux_perf_data.specs.declared.attributes.names.NameTable.{NameTable}

-- ---- what a `PerfFile` guarantees about its name table

-- The names of all attributes are those in the table.
abbrev pub TableNamesAll : Option NameTable → List AttributeDescription → Type 0
TableNamesAll table ds = (t : NameTable) → table ≡ Some t → NamedBy t.events.items ds

-- The table matches EVENT_DESC. If the section is absent, the table has no events. If it is present, it can be read, and the
-- table has its events.
abbrev pub TableEmptyWithoutEventDesc : Option NameTable → Option (List ℕ) → Type 0
TableEmptyWithoutEventDesc table desc = (t : NameTable) → table ≡ Some t → desc ≡ None → length t.events.items ≡ 0

abbrev pub TableIsReadable : Option NameTable → Option (List ℕ) → Type 0
TableIsReadable table desc = (t : NameTable) (bytes : List ℕ) → table ≡ Some t → desc ≡ Some bytes → ¬ ¬ IsReadableEventDesc t.endian bytes

abbrev pub TableHasEvents : Option NameTable → Option (List ℕ) → Type 0
TableHasEvents table desc = (t : NameTable) (bytes : List ℕ) (es : List DescribedEvent) → table ≡ Some t → desc ≡ Some bytes
    → BeginsWithEventDesc (number_in t.endian) bytes es → events_in t.events.items ≡ es
