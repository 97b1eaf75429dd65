-- Lemmas on the end of all records of an input.
use Rattle.std.proofs.Common.{◌≡◌, ◌⊎◌, ℕ, suc, List, length, sym, subst, arith, inl, Result, Ok, Err}
use Rattle.perfdata_sections.specs.declared.error.Error.{Error}
use Rattle.linux_perf_data.specs.declared.in_memory.InMemoryReader.{InMemoryReader}
use Rattle.linux_perf_data.specs.declared.in_memory.InMemoryRecords.{InMemoryRecords}
use Rattle.linux_perf_data.specs.declared.in_memory.entries.RecordEntry.{RecordEntry}
use Rattle.linux_perf_data.specs.declared.in_memory.position.RecordPosition.{RecordPosition}
use Rattle.linux_perf_data.specs.declared.perf_file.PerfFile.{PerfFile}
use Rattle.linux_perf_data.specs.InMemoryPositions.{ParsesFileAt, position_of}
use Rattle.linux_perf_data.specs.InMemoryReading.{NeedsMemoryForMetadataOnly, NeedsMemoryInPipeOnly}
use Rattle.perfdata_arrays.specs.Decompressing.{FileEnds, MayBeCompressed, WritesInput}
use Rattle.perfdata_arrays.specs.declared.decompressing.DecompressResult.{DecompressResult}
use Rattle.perfdata_arrays.specs.Opening.{Opens}
use Rattle.perfdata_arrays.specs.Status.{walk_status}
use Rattle.perfdata_arrays.specs.steps.Decompressing.{ReadsToEnd, WritesPlainRecording}
use Rattle.perfdata_arrays.specs.steps.Walk.{WalksRecords}
use Rattle.perfdata_arrays.specs.declared.opening.Recording.{Recording}
use Rattle.perfdata_arrays.specs.declared.opening.Recording.TheVariants.{File, Pipe}
use Rattle.perfdata_arrays.specs.declared.records.WalkResult.{WalkResult}
use Rattle.perfdata_arrays.specs.declared.status.Status.{Status}
use Rattle.perfdata_arrays.proofs.PageLemmas.{PageEnds, header_of, page_of, page_to_end}
use Rattle.perfdata_arrays.proofs.PipeRecordsLemmas.{is_pipe_with_records}

-- memory for metadata is needed in a pipe alone
in_pipe_only : {A : Type 0} (old new : InMemoryRecords) (r : Result A Error) → NeedsMemoryForMetadataOnly old r new → NeedsMemoryInPipeOnly old r
in_pipe_only old new (Ok x) needs = tt
in_pipe_only old new (Err e) needs = λ is. (needs is).in_pipe

module _ (bytes : List ℕ) (reader : InMemoryReader) (start : ℕ) (before after : List RecordEntry) (walked : WalkResult) (new : InMemoryRecords) (file' : PerfFile) (w : WalksRecords reader.records reader.perf_file start before walked new file' after) (status : Status) (is : status ≡ walk_status walked.end) where
  file_ends : (from : RecordPosition) → ParsesFileAt bytes from (Ok reader) → FileEnds bytes from status
  file_ends from parsed =
      let ends = page_to_end bytes from reader parsed w.records w.input_at_end w.file_at_end w.returned (suc (length w.records)) (omega arith) new file' walked.end w.ends (in_pipe_only w.input_at_end new walked.end w.memory) in
      record {
        base = (header_of bytes from reader parsed).data_section.offset;
        capacity = suc (length w.records);
        records = w.records;
        next = position_of w.input_at_end;
        has_all = omega arith;
        is_page = page_of bytes from reader parsed w.records w.input_at_end w.file_at_end w.returned (suc (length w.records)) status
            (subst (PageEnds bytes from reader parsed w.records w.input_at_end w.file_at_end w.returned (suc (length w.records))) (sym is) ends);
      }

  -- the end of a walk over all records
  pub ends_with : (recording : Recording) → Opens bytes recording (Ok reader) → ReadsToEnd bytes recording (Ok status)
  ends_with (File from) parsed = file_ends from parsed
  ends_with Pipe parsed = (file', (w.records, is_pipe_with_records bytes reader parsed start before after walked new file' w status is))

-- ---- what is written by the end of the records

module _ (bytes old : List ℕ) (result : DecompressResult) (new : List ℕ) (status : Status) where
  pub plain_by_end : (recording : Recording) → ReadsToEnd bytes recording (Ok status) → MayBeCompressed status ⊎ WritesInput bytes status old result new → WritesPlainRecording bytes recording old result new
  plain_by_end (File from) ends written = inl (status, ends, written)
  plain_by_end Pipe ends written = inl (status, ends, written)
