-- Records that are the first of a layout.
use Rattle.std.specs.Prelude.{ℕ, List}
use Rattle.perfdata_sources.specs.declared.endian.Endianness.{Endianness}
use Rattle.linux_perf_data.specs.Attribute.{Attribute}
use Rattle.linux_perf_data.specs.Layout.{SectionSize, RecordView, RemainingRecords}
use Rattle.linux_perf_data.specs.Reading.{AreFirstRecords}

-- The records are the first of the layout of some bytes, as those are that the iterators over a source return.
pub record AreLayoutRecords (records : List RecordView) : Type 0 where
  pub order : Endianness
  pub bytes : List ℕ
  pub bound : SectionSize
  pub offset : ℕ
  pub round : ℕ
  pub attrs : List Attribute
  pub first : AreFirstRecords (RemainingRecords order bytes bound offset round attrs) records
