-- The effect of any list of calls of a jitdump reader on its unread bytes.
use Rattle.std.specs.Prelude.{◌≡◌, ℕ, ◌+◌, ◌⊎◌, true, false, List, [], ◌∷◌, length, Option, None, Some, Result, Ok, Err, ⊤}
use Rattle.std.specs.List.{concat}
use Rattle.std.specs.declared.io.Error.{Error}
use Rattle.perfdata_sources.specs.Source.{State, prepend}
use Rattle.perfdata_sources.specs.declared.endian.Endianness.{Endianness}
use Rattle.perfdata_jit.specs.RecordBytes.{AreRecords, IsRecordOf}
use Rattle.perfdata_jit.specs.JitDumpReader.{jit_unread_bytes, jit_seek_failed, jit_offset, jit_endian, ReturnsHeader, NextJitRecord, SkipsRecord}
use Rattle.perfdata_jit.specs.declared.record.JitDumpRawRecord.{JitDumpRawRecord}
use Rattle.perfdata_jit.specs.declared.record.JitDumpRecordHeader.{JitDumpRecordHeader}
use Rattle.perfdata_jit.specs.declared.jitdump_reader.JitDumpReader.{JitDumpReader}

-- the effect of one call: none, a record's bytes that are skipped, or those of a record that is returned
pub data ReaderStep : Type 0 where
  no_progress : ReaderStep
  skipped_record : List ℕ → ReaderStep
  returned_record : List ℕ → JitDumpRawRecord → ReaderStep

-- the bytes of the skipped and returned records
abbrev pub consumed_records : List ReaderStep → List (List ℕ)
consumed_records [] = []
consumed_records (no_progress ∷ more) = consumed_records more
consumed_records (skipped_record bytes ∷ more) = bytes ∷ consumed_records more
consumed_records (returned_record bytes r ∷ more) = bytes ∷ consumed_records more

-- Each returned record is the one of its bytes, at the offset after all records before it.
abbrev pub AreReturned : Endianness → ℕ → List ReaderStep → Type 0
AreReturned endian offset [] = ⊤
AreReturned endian offset (no_progress ∷ more) = AreReturned endian offset more
AreReturned endian offset (skipped_record bytes ∷ more) = AreReturned endian (offset + length bytes) more
AreReturned endian offset (returned_record bytes r ∷ more) = IsRecordOf endian offset bytes r × AreReturned endian (offset + length bytes) more

module _ {R : Type 0} (state : R → State) where
  -- a call that consumes nothing: one for the next record header, or one that neither returns nor skips the next record
  abbrev pub MakesNoProgress : JitDumpReader R → JitDumpReader R → Type 0
  MakesNoProgress old new =
      ((result : Result (Option JitDumpRecordHeader) Error) × ReturnsHeader state (λ header. header) old result new)
      ⊎ (NextJitRecord state old (Ok None) new ⊎ (((e : Error) × NextJitRecord state old (Err e) new)
      ⊎ (SkipsRecord state old (Ok false) new ⊎ ((e : Error) × SkipsRecord state old (Err e) new))))

  -- what one call does
  abbrev pub PerformsStep : JitDumpReader R → ReaderStep → JitDumpReader R → Type 0
  PerformsStep old no_progress new = MakesNoProgress old new
  PerformsStep old (skipped_record bytes) new = (p : SkipsRecord state old (Ok true) new) × (p.bytes ≡ bytes)
  PerformsStep old (returned_record bytes r) new = (h : NextJitRecord state old (Ok (Some r)) new) × (h.bytes ≡ bytes)

  -- consecutive calls
  abbrev pub Trace : JitDumpReader R → List ReaderStep → JitDumpReader R → Type 0
  Trace old [] new = new ≡ old
  Trace old (step ∷ steps) new = (mid : JitDumpReader R) × PerformsStep old step mid × Trace mid steps new

  -- The effect of calls in any order, if no seek fails: the consumed bytes are consecutive records at the start of the
  -- unread bytes, and the rest is still unread. Each returned record is the one of its bytes at its offset.
  pub record InOrder (old : JitDumpReader R) (steps : List ReaderStep) (new : JitDumpReader R) : Type 0 where
    pub unread_bytes : jit_unread_bytes state old ≡ prepend (concat (consumed_records steps)) (jit_unread_bytes state new)
    pub elements : AreRecords (jit_endian old) (jit_offset old) (consumed_records steps)
    pub returned_in_order : AreReturned (jit_endian old) (jit_offset old) steps
    pub offset : jit_offset new ≡ jit_offset old + length (concat (consumed_records steps))
    pub same_endian : jit_endian new ≡ jit_endian old

  abbrev pub NothingIsLost : Type 0
  NothingIsLost =
      (old : JitDumpReader R) (steps : List ReaderStep) (new : JitDumpReader R) → Trace old steps new → jit_seek_failed new ≡ false → InOrder old steps new
