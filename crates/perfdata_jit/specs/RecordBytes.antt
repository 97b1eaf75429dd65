-- The records at the start of bytes of a jitdump. A record starts with a record header of sixteen bytes, which contains the
-- record's size (Linux's jitdump specification).
use Rattle.std.specs.Prelude.{◌≡◌, ℕ, ◌+◌, ◌^◌, ◌<◌, ◌≤◌, ◌⊎◌, List, [], ◌∷◌, length, drop, ⊤}
use Rattle.perfdata_sources.specs.Endian.{number_in}
use Rattle.perfdata_sources.specs.Raw.{bytes_of}
use Rattle.perfdata_sources.specs.declared.endian.Endianness.{Endianness}
use Rattle.perfdata_jit.specs.JitRecord.{jit_record_header_of}
use Rattle.perfdata_jit.specs.declared.record.JitDumpRecordHeader.{JitDumpRecordHeader}
use Rattle.perfdata_jit.specs.declared.record.JitDumpRawRecord.{JitDumpRawRecord}

module _ (order : Endianness) where
  -- the record header at the start of the bytes
  abbrev pub record_header_at : List ℕ → JitDumpRecordHeader
  record_header_at bytes = jit_record_header_of (number_in order) bytes

  -- the record's size by its header, which includes the header
  abbrev pub record_size_at : List ℕ → ℕ
  record_size_at bytes = (record_header_at bytes).total_size

  -- The record header is complete, and its size is invalid at this offset: it is less than the header's own, or the
  -- record's end exceeds 2^64 - 1.
  pub record HasInvalidSize (offset : ℕ) (bytes : List ℕ) : Type 0 where
    pub has_header : 16 ≤ length bytes
    pub cause : (record_size_at bytes < 16) ⊎ (2 ^ 64 ≤ offset + record_size_at bytes)

  -- the record header is complete, and the record isn't
  pub record IsTruncatedRecord (offset : ℕ) (bytes : List ℕ) : Type 0 where
    pub has_header : 16 ≤ length bytes
    pub min_size : 16 ≤ record_size_at bytes
    pub end_fits : offset + record_size_at bytes < 2 ^ 64
    pub too_few : length bytes < record_size_at bytes

  -- the record or its header is incomplete
  abbrev pub HasNoWholeRecord : ℕ → List ℕ → Type 0
  HasNoWholeRecord offset bytes = (length bytes < 16) ⊎ IsTruncatedRecord offset bytes

  -- the record is complete
  pub record HasWholeRecord (offset : ℕ) (bytes : List ℕ) : Type 0 where
    pub min_size : 16 ≤ record_size_at bytes
    pub end_fits : offset + record_size_at bytes < 2 ^ 64
    pub complete : record_size_at bytes ≤ length bytes

  -- the bytes are exactly one record
  pub record IsOneRecord (offset : ℕ) (bytes : List ℕ) : Type 0 where
    pub min_size : 16 ≤ length bytes
    pub size : record_size_at bytes ≡ length bytes
    pub end_fits : offset + length bytes < 2 ^ 64

  -- the bytes are this record, which starts at the offset
  pub record IsRecordOf (offset : ℕ) (bytes : List ℕ) (r : JitDumpRawRecord) : Type 0 where
    pub record_bytes_valid : IsOneRecord offset bytes
    pub endian : r.endian ≡ order
    pub record_type : r.record_type ≡ (record_header_at bytes).record_type
    pub timestamp : r.timestamp ≡ (record_header_at bytes).timestamp
    pub record_size : r.record_size ≡ length bytes
    pub start_offset : r.start_offset ≡ offset
    pub body : bytes_of r.body ≡ drop 16 bytes

  -- each list is a record; the first starts at the offset, and each other one at the end of the one before it
  abbrev pub AreRecords : ℕ → List (List ℕ) → Type 0
  AreRecords offset [] = ⊤
  AreRecords offset (p ∷ ps) = IsOneRecord offset p × AreRecords (offset + length p) ps
