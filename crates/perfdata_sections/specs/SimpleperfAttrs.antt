-- The attribute section of a simpleperf file. Its entries are those of the event types section, with frames that are 16 bytes
-- smaller than the attribute size in the file header. The names of the events are in the file's meta info.
use Rattle.std.specs.Prelude.{◌≡◌, ℕ, ◌-◌, ◌<◌, ◌≤◌, ◌⊎◌, List, Result, Ok, Err, Vec}
use Rattle.std.specs.declared.alloc.Global.{Global}
use Rattle.perfdata_sources.specs.Source.{State}
use Rattle.perfdata_base.specs.declared.section.PerfFileSection.{PerfFileSection}
use Rattle.perfdata_sections.specs.EventTypes.{type_name_at, DescribesByEntries, IsEntriesError, ReadsDescriptions}
use Rattle.perfdata_sections.specs.declared.feature_sections.AttributeDescription.{AttributeDescription}
use Rattle.perfdata_sections.specs.declared.event_type.SimplePerfEventType.{SimplePerfEventType}
use Rattle.perfdata_sections.specs.declared.error.Error.{Error}
use Rattle.perfdata_sections.specs.declared.error.Error.TheVariants.{Read}
use Rattle.perfdata_sections.specs.declared.error.ReadError.TheVariants.{PerfEventAttr as OfAttr}

module _ (number : ℕ → List ℕ → ℕ) (attr_size : ℕ) (section : PerfFileSection) (types : List SimplePerfEventType) where
  -- The section contains exactly these attributes, each with the name of the event type of its index, if there is one.
  abbrev pub DescribesBySimpleperf : List ℕ → List AttributeDescription → Type 0
  DescribesBySimpleperf all ds = DescribesByEntries number (attr_size - 16) (type_name_at types) section all ds

  -- The first error in the section.
  abbrev pub IsSimpleperfAttrsError : Error → List ℕ → Type 0
  IsSimpleperfAttrsError e all = IsEntriesError number (attr_size - 16) (type_name_at types) section e all

  -- What reading the section does. An attribute size below 16 leaves the source unchanged.
  abbrev pub ReadsSimpleperfAttrs : State → Result (Vec AttributeDescription Global) Error → State → Type 0
  ReadsSimpleperfAttrs old (Ok v) new = (16 ≤ attr_size) × ReadsDescriptions number (attr_size - 16) (type_name_at types) section old (Ok v) new
  ReadsSimpleperfAttrs old (Err e) new =
      ((attr_size < 16) × (e ≡ Read OfAttr) × (new ≡ old))
      ⊎ ((16 ≤ attr_size) × ReadsDescriptions number (attr_size - 16) (type_name_at types) section old (Err e) new)
