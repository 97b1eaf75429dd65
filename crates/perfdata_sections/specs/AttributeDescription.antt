-- The contents of an `AttributeDescription`.
use Rattle.std.specs.Prelude.{ℕ, List, map, Option, string_bytes}
use Rattle.std.specs.Option.{option_map}
use Rattle.perfdata_sources.specs.declared.attr.PerfEventAttr.{PerfEventAttr}
use Rattle.perfdata_sections.specs.declared.feature_sections.AttributeDescription.{AttributeDescription}

-- The attribute.
abbrev pub attr_in : AttributeDescription → PerfEventAttr
attr_in d = d.attr

-- The bytes of the event's name.
abbrev pub name_in : AttributeDescription → Option (List ℕ)
name_in d = option_map string_bytes d.name

-- The ids of the event's records.
abbrev pub ids_in : AttributeDescription → List ℕ
ids_in d = d.event_ids.items

-- An attribute, the bytes of its name, and its ids, as plain values.
pub record DescribedEvent : Type 0 where
  pub attr : PerfEventAttr
  pub name : Option (List ℕ)
  pub ids : List ℕ

-- The contents of a description as plain values.
abbrev pub event_in : AttributeDescription → DescribedEvent
event_in d = record { attr = attr_in d; name = name_in d; ids = ids_in d }

abbrev pub events_in : List AttributeDescription → List DescribedEvent
events_in ds = map event_in ds
