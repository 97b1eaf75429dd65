-- Steps of private functions: a record as the caller sees it, and how an iterator identifies a record.
use Rattle.std.specs.Prelude.{◌≡◌, ℕ, ◌<◌, List}
use Rattle.perfdata_sources.specs.declared.endian.Endianness.{Endianness}
use Rattle.perfdata_sources.specs.declared.event.record_header.PerfEventHeader.{PerfEventHeader}
use Rattle.linux_perf_data.specs.declared.records.iter.IdentifiedRecord.{IdentifiedRecord}
use Rattle.linux_perf_data.specs.declared.records.iter.RecordOrigin.TheVariants.{Kernel}
use Rattle.linux_perf_data.specs.declared.attributes.lookup.AttributeLookup.{AttributeLookup}
use Rattle.linux_perf_data.specs.Attribute.{Attribute}
use Rattle.linux_perf_data.specs.AttributeLookup.{Represents}
use Rattle.linux_perf_data.specs.Layout.{record_view}
use Rattle.linux_perf_data.specs.RecordViews.{record_type_by_origin, record_view_with}

-- The record with this header, which isn't a marker's, is identified as the represented attributes require. The view uses the
-- parse infos of the new lookup.
pub record IdentifiesRecord (old : AttributeLookup) (offset round : ℕ) (header : PerfEventHeader) (body : List ℕ) (found : IdentifiedRecord)
    (new : AttributeLookup) : Type 0 where
  pub offset_matches : found.place.offset ≡ offset
  pub round_matches : found.place.round ≡ round
  pub record_type : record_type_by_origin found.origin found.record_type.0 ≡ header.type_
  pub kernel_type : (index : ℕ) → found.origin ≡ Kernel index → header.type_ < 64
  pub matches : (order : Endianness) (attrs : List Attribute) → Represents order old attrs
      → record_view_with new found order body ≡ record_view order offset round attrs header.type_ header.misc body
