-- A reading in memory returns what a streaming reading of the same bytes returns.
use Rattle.std.proofs.Common.{◌≡◌, ℕ, ◌+◌, ◌^◌, ◌<◌, ◌≤◌, List, [], ◌∷◌, length, refl, sym, ap, subst, inl, inr, arith}
use Rattle.std.specs.Prelude.{Vec}
use Rattle.std.specs.declared.alloc.Global.{Global}
use Rattle.perfdata_sections.specs.declared.error.Error.{Error}
use Rattle.linux_perf_data.specs.declared.records.iter.Stage.TheVariants.{Failed, Ended}
use Rattle.linux_perf_data.specs.declared.perf_file.PerfFile.{PerfFile}
use Rattle.linux_perf_data.specs.declared.in_memory.InMemoryRecords.{InMemoryRecords}
use Rattle.linux_perf_data.specs.Layout.{RecordView}
use Rattle.linux_perf_data.specs.RecordViews.{record_view_of}
use Rattle.linux_perf_data.specs.Iter.{ReturnsRecord, ReachesEnd, StopsAtError, IsMismatchedPerfFile, IsErrorCause}
use Rattle.linux_perf_data.specs.Reading.{ReturnsRecords}
use Rattle.linux_perf_data.specs.InMemory.{memory_state, MemoryIter, with_buffer}
use Rattle.linux_perf_data.specs.InMemoryReading.{ReturnsRecordInMemory, ReturnsRecordsInMemory, OneCallMoreInMemory, ReturnsSameRecords, ReturnsSameEnd, ReturnsSameError}

-- ---- a call doesn't depend on the buffer before it

returns_from : (old new : MemoryIter) (file file' : PerfFile) (h : RecordView) (buffer : Vec ℕ Global) → ReturnsRecord memory_state old file h new file' → ReturnsRecord memory_state (with_buffer old buffer) file h new file'
returns_from old new file file' h buffer r = record {
  was_running = r.was_running;
  stage_running = r.stage_running;
  same_input = record { same_endian = r.same_input.same_endian; section_size = r.same_input.section_size };
  represents = r.represents;
  extends_remaining = r.extends_remaining;
  same_attribute_count = r.same_attribute_count;
  file_updates = r.file_updates;
  file_unchanged_otherwise = r.file_unchanged_otherwise;
  buffered_body = r.buffered_body;
  markers = r.markers;
  valid_markers = r.valid_markers;
  header_bytes = r.header_bytes;
  header_len = r.header_len;
  record_offset = r.record_offset;
  record_round = r.record_round;
  round = r.round;
  may_start = r.may_start;
  consumes = r.consumes;
  no_pending_header = r.no_pending_header;
  offset = r.offset;
  offset_fits = r.offset_fits;
}

reaches_from : (old new : MemoryIter) (buffer : Vec ℕ Global) → ReachesEnd memory_state old new → ReachesEnd memory_state (with_buffer old buffer) new
reaches_from old new buffer r = record {
  no_records_left = r.no_records_left;
  markers = r.markers;
  valid_markers = r.valid_markers;
  consumed_bytes = r.consumed_bytes;
  offset = r.offset;
  round = r.round;
  consumes = r.consumes;
  section_end = r.section_end;
  pipe_exhausted = r.pipe_exhausted;
  buffer_bound = r.buffer_bound;
  at_end = r.at_end;
  section_size = r.section_size;
  no_pending_header = r.no_pending_header;
}

mismatch_from : (old : MemoryIter) (file : PerfFile) (bytes : List ℕ) (e : Error) (buffer : Vec ℕ Global) → IsMismatchedPerfFile memory_state old file bytes e → IsMismatchedPerfFile memory_state (with_buffer old buffer) file bytes e
mismatch_from old file bytes e buffer m = record { in_pipe = m.in_pipe; is_record = m.is_record; metadata_type = m.metadata_type; cause = m.cause }

cause_from : (old new : MemoryIter) (file : PerfFile) (markers bytes : List ℕ) (e : Error) (buffer : Vec ℕ Global) → IsErrorCause memory_state old file markers bytes e new → IsErrorCause memory_state (with_buffer old buffer) file markers bytes e new
cause_from old new file markers bytes e buffer (inl layout) = inl layout
cause_from old new file markers bytes e buffer (inr (inl source)) = inr (inl source)
cause_from old new file markers bytes e buffer (inr (inr (mismatch, fits))) = inr (inr (mismatch_from old file bytes e buffer mismatch, fits))

stops_from : (old new : MemoryIter) (file : PerfFile) (e : Error) (buffer : Vec ℕ Global) → StopsAtError memory_state old file e new → StopsAtError memory_state (with_buffer old buffer) file e new
stops_from old new file e buffer s = record {
  markers = s.markers;
  valid_markers = s.valid_markers;
  consumed_bytes = s.consumed_bytes;
  offset = s.offset;
  round = s.round;
  may_start = s.may_start;
  consumes = s.consumes;
  no_pending_header = s.no_pending_header;
  within_record = s.within_record;
  buffer_bound = s.buffer_bound;
  if_out_of_memory = s.if_out_of_memory;
  cause = λ m. cause_from old new file s.markers s.consumed_bytes e buffer (s.cause m);
}

-- ---- consecutive calls

pub one_call_more : OneCallMoreInMemory
one_call_more old now new file now_file file' [] place r (same, same_file) step =
    (new, (file', (place, (r, subst (λ f. ReturnsRecordInMemory old f place r new file') same_file (subst (λ i. ReturnsRecordInMemory i now_file place r new file') same step), refl)), (refl, refl)))
one_call_more old now new file now_file file' (h ∷ hs) place r (next, (next_file, first, more)) step =
    (next, (next_file, first, one_call_more next now new next_file now_file file' hs place r more step))

records_from : (old now : InMemoryRecords) (file file' : PerfFile) (records : List RecordView) (before : Vec ℕ Global) → ReturnsRecordsInMemory old file records now file'
    → (buffer : Vec ℕ Global) × ReturnsRecords memory_state (with_buffer old.records before) file records (with_buffer now.records buffer) file'
records_from old now file file' [] before (same, same_file) = (before, (ap (λ r. with_buffer r.records before) same, same_file))
records_from old now file file' (h ∷ hs) before (next, (next_file, (place, (r, step, is)), more)) =
    let rest = records_from next now next_file file' hs step.buffer more in
    let first = subst (λ v. ReturnsRecord memory_state (with_buffer old.records before) file v (with_buffer next.records step.buffer) next_file) (sym is) (returns_from old.records (with_buffer next.records step.buffer) file next_file (record_view_of place r) before step.returns) in
    (rest.0, (with_buffer next.records step.buffer, (next_file, first, rest.1)))

-- the iterator with its own buffer
same_buffer : (it : MemoryIter) → with_buffer it it.body ≡ it
same_buffer it = refl

pub same_records : ReturnsSameRecords
same_records old now file file' records all =
    let from = records_from old now file file' records old.records.body all in
    (from.0, subst (λ it. ReturnsRecords memory_state it file records (with_buffer now.records from.0) file') (same_buffer old.records) from.1)

pub same_end : ReturnsSameEnd
same_end now new file file' buffer runs ended = record {
  stage_ended = ended.stage_ended;
  not_failed = ended.not_failed;
  if_ended = λ stage. let same : now.records.stage ≡ Ended = stage in absurd cc;
  if_running = λ _. reaches_from now.records new.records buffer (ended.if_running runs);
  file_unchanged = ended.file_unchanged;
}

pub same_error : ReturnsSameError
same_error now new file file' e buffer runs failed = record {
  stage_failed = failed.stage_failed;
  not_ended = failed.not_ended;
  if_failed = λ stage. let same : now.records.stage ≡ Failed = stage in absurd cc;
  only_if_failed = failed.only_if_failed;
  if_running = λ _. stops_from now.records new.records file e buffer (failed.if_running runs);
  same_file = failed.same_file;
}

-- ---- each record has an offset of its own

pub offset_after : (old now : InMemoryRecords) (file file' : PerfFile) (records : List RecordView) → ReturnsRecordsInMemory old file records now file' → old.records.offset + length records ≤ now.records.offset
offset_after old now file file' [] (same, same_file) = (let e = ap (λ i. i.records.offset) same in omega (arith, e))
offset_after old now file file' (h ∷ hs) (next, (next_file, (place, (r, step, is)), more)) =
    let rest = offset_after next now next_file file' hs more in
    let moved = step.returns.offset in
    let start = step.returns.record_offset in
    omega (arith, rest, moved, start)

pub count_fits : (old now : InMemoryRecords) (file file' : PerfFile) (records : List RecordView) → ReturnsRecordsInMemory old file records now file' → length records < 2 ^ 64
count_fits old now file file' [] returned = omega arith
count_fits old now file file' (h ∷ []) returned = omega arith
count_fits old now file file' (h ∷ k ∷ ks) (next, (next_file, (place, (r, step, is)), more)) =
    let fits = last_fits next now next_file file' k ks more in
    let rest = offset_after next now next_file file' (k ∷ ks) more in
    let moved = step.returns.offset in
    let start = step.returns.record_offset in
    omega (arith, fits, rest, moved, start)
  where
    last_fits : (old now : InMemoryRecords) (file file' : PerfFile) (h : RecordView) (hs : List RecordView) → ReturnsRecordsInMemory old file (h ∷ hs) now file' → now.records.offset < 2 ^ 64
    last_fits old now file file' h [] (next, (next_file, (place, (r, step, is)), (same, same_file))) = (let at = ap (λ i. i.records.offset) same in let fits = step.returns.offset_fits in omega (arith, at, fits))
    last_fits old now file file' h (k ∷ ks) (next, (next_file, one, more)) = last_fits next now next_file file' k ks more
