-- Steps of private functions: the attribute lookup of an iterator.
use Rattle.std.specs.Prelude.{◌≡◌, ◌⊎◌, ℕ, ◌<◌, List, [], ◌∷◌, ◌++◌, Some, Result, Ok, Err}
use Rattle.perfdata_sources.specs.declared.attr.PerfEventAttr.{PerfEventAttr}
use Rattle.perfdata_identifiers.specs.declared.place.parse_info.RecordParseInfo.{RecordParseInfo}
use Rattle.perfdata_sources.specs.declared.endian.Endianness.{Endianness}
use Rattle.perfdata_sections.specs.declared.error.Error.{Error}
use Rattle.perfdata_sections.specs.declared.error.Error.TheVariants.{Memory}
use Rattle.linux_perf_data.specs.declared.attributes.lookup.AttributeLookup.{AttributeLookup}
use Rattle.linux_perf_data.specs.Attribute.{Attribute, Inconsistency, AreInconsistent, EventRef, AreConsistent, last_index_listing, event_of}
use Rattle.linux_perf_data.specs.Consistency.{error_of_inconsistency}
use Rattle.linux_perf_data.specs.AttributeLookup.{Represents, parse_info_at}

-- Building a lookup succeeds with one that represents the attributes, or fails with `Memory`.
abbrev pub BuildsLookup : Endianness → List Attribute → Result AttributeLookup Error → Type 0
BuildsLookup order attrs (Ok k) = Represents order k attrs
BuildsLookup order attrs (Err e) = e ≡ Memory

abbrev pub event_at : AttributeLookup → ℕ → EventRef
event_at k index = record { index = index; parse_info = parse_info_at k index }

-- `index` is the attribute index that the represented attributes give for `id`.
abbrev pub ResolvesId : AttributeLookup → ℕ → ℕ → Type 0
ResolvesId k id index = (order : Endianness) (attrs : List Attribute) → Represents order k attrs → index ≡ last_index_listing id 0 0 attrs

-- `index` is the attribute index that the represented attributes give for a kernel record. The new lookup contains the parse info
-- of that attribute.
abbrev pub ResolvesEvent : AttributeLookup → ℕ → List ℕ → ℕ → AttributeLookup → Type 0
ResolvesEvent old record_type body index new = (order : Endianness) (attrs : List Attribute) → Represents order old attrs → record_type < 64
    → event_of order attrs record_type body ≡ Some (event_at new index)

-- There is one attribute, and its records have this parse info.
abbrev pub HasOnly : AttributeLookup → RecordParseInfo → Type 0
HasOnly k parse_info = k.parse_infos.items ≡ parse_info ∷ []

-- The new lookup represents all attributes that the old one represents.
abbrev pub KeepsAttributes : AttributeLookup → AttributeLookup → Type 0
KeepsAttributes old new = (order : Endianness) (attrs : List Attribute) → Represents order old attrs → Represents order new attrs

-- Checks whether the attributes stay consistent with one more, whatever identifiers it lists. The error reports the
-- inconsistency.
abbrev pub ChecksNextAttribute : {A : Type 0} → AttributeLookup → PerfEventAttr → Result A Error → Type 0
ChecksNextAttribute k a (Ok _) =
    (order : Endianness) (ids : List ℕ) (attrs : List Attribute) → Represents order k attrs → AreConsistent (attrs ++ record { attr = a; ids = ids } ∷ [])
ChecksNextAttribute k a (Err e) = (b : Inconsistency) × (e ≡ error_of_inconsistency b)
    × ((order : Endianness) (ids : List ℕ) (attrs : List Attribute) → Represents order k attrs
    → AreInconsistent (attrs ++ record { attr = a; ids = ids } ∷ []) b)

-- Adds one attribute to the lookup. The error is `Memory`, or it reports the inconsistency.
abbrev pub AddsAttribute : {A : Type 0} → Endianness → AttributeLookup → Attribute → Result A Error → AttributeLookup → Type 0
AddsAttribute order old a (Ok _) new = (attrs : List Attribute) → Represents order old attrs → Represents order new (attrs ++ a ∷ [])
AddsAttribute order old a (Err e) new = (e ≡ Memory)
    ⊎ ((b : Inconsistency) × (e ≡ error_of_inconsistency b) × ((attrs : List Attribute) → Represents order old attrs → AreInconsistent (attrs ++ a ∷ []) b))
