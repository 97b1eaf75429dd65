-- Record headers as their bytes describe them.
use Rattle.std.specs.Prelude.{◌≡◌, ℕ, ◌<◌, ◌≤◌, List, length, drop, Option, None, Some, Result, Ok, Err}
use Rattle.std.specs.declared.io.Error.{Error}
use Rattle.perfdata_sources.specs.Source.{State, Consumed, ReadExactError}
use Rattle.perfdata_sources.specs.declared.event.record_header.PerfEventHeader.{PerfEventHeader}

module _ (number : ℕ → List ℕ → ℕ) where
  -- the record header in eight bytes
  abbrev pub record_header_of : List ℕ → PerfEventHeader
  record_header_of xs = record { type_ = number 4 xs; misc = number 2 (drop 4 xs); size = number 2 (drop 6 xs) }

  -- the record header at the start of the bytes, or none if they are fewer than eight
  abbrev pub PeeksRecordHeader : List ℕ → Option PerfEventHeader → Type 0
  PeeksRecordHeader xs (Some header) = (8 ≤ length xs) × (header ≡ record_header_of xs)
  PeeksRecordHeader xs None = length xs < 8

  -- eight bytes were consumed, and they contain this record header
  pub record RecordHeaderParsed (old : State) (header : PerfEventHeader) (new : State) : Type 0 where
    pub bytes : List ℕ
    pub exact_len : length bytes ≡ 8
    pub consumes : Consumed old bytes new
    pub matches : header ≡ record_header_of bytes

  -- the effect of parsing a record header on the source
  abbrev pub ParsesRecordHeader : State → Result PerfEventHeader Error → State → Type 0
  ParsesRecordHeader old (Ok header) new = RecordHeaderParsed old header new
  ParsesRecordHeader old (Err e) new = ReadExactError old 8 e new
