-- Steps of private functions: what a listing of a jitdump's records writes, and the causes of its errors.
use Rattle.std.specs.Prelude.{◌≡◌, ℕ, ◌+◌, ◌⊎◌, false, List, [], ◌∷◌, ◌++◌, length, Option, Result, Ok, Err}
use Rattle.std.specs.List.{concat}
use Rattle.std.specs.Io.KnownBytes.{Appends}
use Rattle.std.specs.declared.io.Error.{Error}
use Rattle.perfdata_sources.specs.Source.{State, prepend, Consumed, EndedOrPaused}
use Rattle.perfdata_jit.specs.RecordBytes.{HasNoWholeRecord, AreRecords}
use Rattle.perfdata_jit.specs.JitDumpReader.{jit_unread_bytes, jit_buffered, jit_seek_failed, jit_offset, jit_endian, jit_ring_capacity, jit_source_state}
use Rattle.perfdata_jit.specs.declared.jitdump_reader.JitDumpReader.{JitDumpReader}
use Rattle.perfdata_listing.specs.Listing.{IsWrite}
use Rattle.perfdata_listing.specs.declared.list.ListFault.{ListFault}
use Rattle.perfdata_listing.specs.declared.list.ListCause.{ListCause}
use Rattle.perfdata_listing.specs.declared.list.ListCause.TheVariants.{Read, Write}
use Rattle.perfdata_listing.specs.JitListing.{jit_lines, WroteJitPrefix, JitReadError}

module _ {R : Type 0} (state : R → State) where
  -- A reader returned these records, which led from the old state to the new one. No seek failed.
  pub record ReturnedJitRecords (old : JitDumpReader R) (raw_records : List (List ℕ)) (new : JitDumpReader R) : Type 0 where
    pub elements : AreRecords (jit_endian old) (jit_offset old) raw_records
    pub unread_bytes : jit_unread_bytes state old ≡ prepend (concat raw_records) (jit_unread_bytes state new)
    pub offset : jit_offset new ≡ jit_offset old + length (concat raw_records)
    pub same_endian : jit_endian new ≡ jit_endian old
    pub same_capacity : jit_ring_capacity new ≡ jit_ring_capacity old
    pub consumed_bytes : List ℕ
    pub consumes : Consumed (jit_source_state state old) consumed_bytes (jit_source_state state new)
    pub seek_ok : jit_seek_failed new ≡ false

  -- the lines of a reader's records
  abbrev pub jit_lines_from : JitDumpReader R → List (List ℕ) → List ℕ
  jit_lines_from old raw_records = jit_lines (jit_endian old) (jit_offset old) raw_records

  -- all complete records are listed, and a read was empty
  pub record ListedJitRecords (old : JitDumpReader R) (before after : Option (List ℕ)) (lines : ℕ) (new : JitDumpReader R) : Type 0 where
    pub raw_records : List (List ℕ)
    pub count : lines ≡ length raw_records
    pub appends : Appends before after (jit_lines_from old raw_records)
    pub returned : ReturnedJitRecords old raw_records new
    pub no_whole_record : HasNoWholeRecord (jit_endian new) (jit_offset new) (jit_buffered new)
    pub ended_or_paused : EndedOrPaused (jit_source_state state old) (jit_source_state state new)

  -- the first records are listed, and the read of the next one fails
  pub record ListedJitRecordsUntilError (old : JitDumpReader R) (before after : Option (List ℕ)) (lines : ℕ) (e : Error) (new : JitDumpReader R) : Type 0 where
    pub raw_records : List (List ℕ)
    pub count : lines ≡ length raw_records
    pub appends : Appends before after (jit_lines_from old raw_records)
    pub returned : ReturnedJitRecords old raw_records new
    pub cause : JitReadError (jit_source_state state old) (jit_ring_capacity old) (jit_endian new) (jit_offset new) (jit_buffered new) e
        (jit_source_state state new)

  -- the first records are listed, and a proper prefix of the next record's line is written
  pub record ListedJitRecordsPartOfNext (old : JitDumpReader R) (before after : Option (List ℕ)) (lines : ℕ) (new : JitDumpReader R) : Type 0 where
    pub raw_records : List (List ℕ)
    pub next : List ℕ
    pub count : lines ≡ length raw_records
    pub wrote : WroteJitPrefix (jit_endian old) (jit_offset old) before after raw_records next
    pub returned : ReturnedJitRecords old (raw_records ++ next ∷ []) new

  -- the first records are listed, and then the flush of their lines fails
  pub record ListedJitRecordsUntilFlushError (old : JitDumpReader R) (before after : Option (List ℕ)) (lines : ℕ) (new : JitDumpReader R) : Type 0 where
    pub raw_records : List (List ℕ)
    pub count : lines ≡ length raw_records
    pub appends : Appends before after (jit_lines_from old raw_records)
    pub returned : ReturnedJitRecords old raw_records new

  abbrev pub JitRecordListingFails : JitDumpReader R → Option (List ℕ) → Option (List ℕ) → ℕ → ListCause → JitDumpReader R → Type 0
  JitRecordListingFails old before after lines (Read e) new = ListedJitRecordsUntilError old before after lines e new
  JitRecordListingFails old before after lines (Write e) new = ListedJitRecordsPartOfNext old before after lines new
  JitRecordListingFails old before after lines _ new = ⊥

  -- what a listing of a reader's records does
  abbrev pub ListsJitRecords : JitDumpReader R → Option (List ℕ) → Result ℕ ListFault → Option (List ℕ) → JitDumpReader R → Type 0
  ListsJitRecords old before (Ok lines) after new = ListedJitRecords old before after lines new
  ListsJitRecords old before (Err error) after new = JitRecordListingFails old before after error.lines error.cause new

  -- the same for a live input, except that the flush of its lines may also fail
  abbrev pub ListsLiveJitRecords : JitDumpReader R → Option (List ℕ) → Result ℕ ListFault → Option (List ℕ) → JitDumpReader R → Type 0
  ListsLiveJitRecords old before (Ok lines) after new = ListedJitRecords old before after lines new
  ListsLiveJitRecords old before (Err error) after new = JitRecordListingFails old before after error.lines error.cause new
      ⊎ (IsWrite error.cause × ListedJitRecordsUntilFlushError old before after error.lines new)
