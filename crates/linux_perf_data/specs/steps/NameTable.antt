-- Steps of private functions: tables of the names in EVENT_DESC.
use Rattle.std.specs.Prelude.{◌≡◌, ◌≢◌, ℕ, Bool, true, false, List, [], map, Option, None, Some, Result, Ok, Err, Vec, String}
use Rattle.std.specs.declared.alloc.Global.{Global}
use Rattle.perfdata_sources.specs.Endian.{number_in}
use Rattle.perfdata_sources.specs.declared.endian.Endianness.{Endianness}
use Rattle.perfdata_sections.specs.AttributeDescription.{ids_in}
use Rattle.perfdata_sections.specs.EventDesc.{DescribesByEventDesc, IsEventDescError}
use Rattle.perfdata_sections.specs.declared.error.Error.{Error}
use Rattle.perfdata_sections.specs.declared.error.Error.TheVariants.{Memory}
use Rattle.perfdata_sections.specs.declared.feature_sections.AttributeDescription.{AttributeDescription}
use Rattle.linux_perf_data.specs.Descriptions.{described_attributes}
use Rattle.linux_perf_data.specs.Names.{NamedByEventDesc, NamedBy, name_by_first_id}
use Rattle.linux_perf_data.specs.steps.Names.{name_bytes_of}
use Rattle.linux_perf_data.specs.declared.attributes.names.NameTable.{NameTable}

-- The name that a table gives an attribute with these ids, and the names that it gives attributes.
abbrev pub name_from_table : NameTable → List ℕ → Option (List ℕ)
name_from_table t ids = name_by_first_id t.events.items ids

abbrev pub names_from_table : NameTable → List AttributeDescription → List (Option (List ℕ))
names_from_table t ds = map (λ d. name_from_table t (ids_in d)) ds

-- The descriptions in an EVENT_DESC; none if the section is absent.
abbrev pub IsEventDescList : Endianness → Option (List ℕ) → List AttributeDescription → Type 0
IsEventDescList order None events = events ≡ []
IsEventDescList order (Some bytes) events = DescribesByEventDesc (number_in order) bytes events

-- The table was parsed from this EVENT_DESC, in the table's byte order.
abbrev pub IsTableOf : NameTable → Option (List ℕ) → Type 0
IsTableOf t desc = IsEventDescList t.endian desc t.events.items

-- ---- operations on a table

-- There is a table, and it has this byte order.
abbrev pub HasTableWithEndian : Endianness → Option NameTable → Type 0
HasTableWithEndian order None = ⊥
HasTableWithEndian order (Some t) = t.endian ≡ order

-- Whether a table has this byte order.
abbrev pub TestsEndian : NameTable → Endianness → Bool → Type 0
TestsEndian t order true = t.endian ≡ order
TestsEndian t order false = t.endian ≢ order

-- The error in reading names is `Memory`, or the EVENT_DESC can't be read.
abbrev pub IsNamesError : Endianness → Option (List ℕ) → Error → Type 0
IsNamesError order None e = e ≡ Memory
IsNamesError order (Some bytes) e = e ≢ Memory → IsEventDescError (number_in order) e bytes

-- Parses EVENT_DESC into a table of this byte order.
abbrev pub ReadsNameTable : Endianness → Option (List ℕ) → Result NameTable Error → Type 0
ReadsNameTable order desc (Ok t) = (t.endian ≡ order) × IsTableOf t desc
ReadsNameTable order desc (Err e) = IsNamesError order desc e

-- Copies the names of attributes. The error is `Memory`.
abbrev pub ClonesNames : NameTable → List AttributeDescription → Result (Vec (Option (String Global)) Global) Error → Type 0
ClonesNames t ds (Ok names) = name_bytes_of names.items ≡ names_from_table t ds
ClonesNames t ds (Err e) = e ≡ Memory

-- Sets the name of each attribute to the one in EVENT_DESC, or to none if the section is absent, and returns the table. On error,
-- no attribute changes.
abbrev pub NamesAttributes : Endianness → Option (List ℕ) → List AttributeDescription → Result NameTable Error → List AttributeDescription → Type 0
NamesAttributes order desc old (Ok t) new =
    NamedByEventDesc order desc new × (described_attributes new ≡ described_attributes old) × (t.endian ≡ order) × IsTableOf t desc × NamedBy t.events.items new
NamesAttributes order desc old (Err e) new = (new ≡ old) × IsNamesError order desc e
