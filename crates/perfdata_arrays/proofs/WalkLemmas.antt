-- A walk over records in memory, as the walk of a streaming iterator over the same bytes.
use Rattle.std.proofs.Common.{◌≡◌, ℕ, ◌+◌, ◌^◌, ◌<◌, ◌≤◌, ◌++◌, ◌⊎◌, List, [], ◌∷◌, length, refl, sym, ap, ◌∙◌, subst, arith, inl, inr, length-append, Option, None, Some, Result, Ok, Err}
use Rattle.std.specs.Prelude.{Vec}
use Rattle.std.proofs.lemmas.List.{length-map, map-append, map_push}
use Rattle.std.proofs.Math.Seq.{drop-nil}
use Rattle.std.specs.declared.alloc.Global.{Global}
use Rattle.perfdata_sources.specs.Source.{prepend}
use Rattle.perfdata_sections.specs.declared.error.Error.{Error}
use Rattle.perfdata_sections.specs.declared.error.Error.TheVariants.{Memory}
use Rattle.perfdata_records.specs.declared.record.PerfFileRecord.{PerfFileRecord}
use Rattle.linux_perf_data.specs.declared.in_memory.InMemoryRecords.{InMemoryRecords}
use Rattle.linux_perf_data.specs.declared.in_memory.position.RecordPosition.{RecordPosition}
use Rattle.linux_perf_data.specs.InMemoryPositions.{position_of}
use Rattle.perfdata_arrays.specs.steps.Pages.{WalksPage}
use Rattle.linux_perf_data.specs.declared.perf_file.PerfFile.{PerfFile}
use Rattle.linux_perf_data.specs.declared.records.iter.RecordPlace.{RecordPlace}
use Rattle.linux_perf_data.specs.declared.records.iter.Stage.TheVariants.{Running}
use Rattle.linux_perf_data.specs.RecordViews.{record_view_of}
use Rattle.linux_perf_data.specs.Iter.{ConsumesMetadata}
use Rattle.linux_perf_data.specs.Reading.{ReturnsRecords}
use Rattle.linux_perf_data.specs.InMemory.{memory_state, MemoryIter, with_buffer}
use Rattle.linux_perf_data.specs.InMemoryReading.{KeepsInput, NeedsMemoryForMetadataOnly, ReturnsRecordInMemory, ReturnsRecordsInMemory, input_of, first_record_offset_of}
use Rattle.linux_perf_data.specs.Layout.{RecordView}
use Rattle.linux_perf_data.proofs.EntryLemmas.{body-returned, has_bodies-snoc}
use Rattle.linux_perf_data.proofs.InMemoryReadings.{one_call_more, same_records, same_end, same_error, offset_after}
use Rattle.perfdata_arrays.specs.Overwrites.{with_prefix_from}
use Rattle.linux_perf_data.specs.RecordEntries.{HasBodiesAt, HasBytesAt, record_entries_at, record_entry_at, with_prefix}
use Rattle.perfdata_arrays.specs.Records.{WritesRecords}
use Rattle.perfdata_arrays.specs.steps.Walk.{ReadsMoreEntries, WalkEnds}
use Rattle.linux_perf_data.specs.declared.in_memory.entries.RecordEntry.{RecordEntry}
use Rattle.perfdata_arrays.specs.declared.records.RecordsResult.{RecordsResult}

-- the consumed bytes are a prefix
pub prefix-split : (o : Option (List ℕ)) (all prefix : List ℕ) → Some all ≡ prepend prefix o → (rest : List ℕ) × (all ≡ prefix ++ rest)
prefix-split None all prefix consumed = cc
prefix-split (Some rest) all prefix consumed = (rest, cc)

pub length-prefix : (o : Option (List ℕ)) (all prefix : List ℕ) → Some all ≡ prepend prefix o → length prefix ≤ length all
length-prefix o all prefix consumed = (let split = prefix-split o all prefix consumed in omega (arith, ap length split.1, length-append prefix split.0))

-- ---- the bodies

-- the records of one list and then those of another
pub has_bodies-append : (bytes : List ℕ) (base : ℕ) (first later : List RecordView) → HasBodiesAt bytes base first → HasBodiesAt bytes base later → HasBodiesAt bytes base (first ++ later)
has_bodies-append bytes base [] later before after = after
has_bodies-append bytes base (h ∷ hs) later (one, more) after = (one, has_bodies-append bytes base hs later more after)

-- the entries and the bodies at another offset of the first record, which matters only if there are records
pub writes_at : (bytes : List ℕ) (first base start : ℕ) (records : List RecordView) (before after : List RecordEntry) (total : RecordsResult) → (records ≡ []) ⊎ (first ≡ base) → total.count ≡ length records
    → after ≡ with_prefix_from start (record_entries_at first records) before → HasBodiesAt bytes first records → WritesRecords bytes base start records before total after
writes_at bytes first base start records before after total (inl none) count written bodies = record {
  count = count;
  written = written ∙ ap (λ l. with_prefix_from start l before) (let same : record_entries_at first records ≡ record_entries_at base records = subst (λ l. record_entries_at first l ≡ record_entries_at base l) (sym none) refl in same);
  body_bytes_at = subst (HasBodiesAt bytes base) (sym none) tt;
}
writes_at bytes first base start records before after total (inr same) count written bodies = record {
  count = count;
  written = written ∙ ap (λ n. with_prefix_from start (record_entries_at n records) before) same;
  body_bytes_at = subst (λ n. HasBodiesAt bytes n records) same bodies;
}

-- ---- consecutive calls

-- some calls and then others
pub calls-append : (old now new : InMemoryRecords) (file now_file file' : PerfFile) (first later : List RecordView) → ReturnsRecordsInMemory old file first now now_file → ReturnsRecordsInMemory now now_file later new file' → ReturnsRecordsInMemory old file (first ++ later) new file'
calls-append old now new file now_file file' [] later (same, same_file) more = subst (λ f. ReturnsRecordsInMemory old f later new file') same_file (subst (λ i. ReturnsRecordsInMemory i now_file later new file') same more)
calls-append old now new file now_file file' (h ∷ hs) later (next, (next_file, one, rest)) more = (next, (next_file, one, calls-append next now new next_file now_file file' hs later rest more))

offset-fits : (old now : InMemoryRecords) (file file' : PerfFile) (h : RecordView) (hs : List RecordView) → ReturnsRecordsInMemory old file (h ∷ hs) now file' → now.records.offset < 2 ^ 64
offset-fits old now file file' h [] (next, (next_file, (place, (r, step, is)), (same, same_file))) = (let at = ap (λ i. i.records.offset) same in let fits = step.returns.offset_fits in omega (arith, at, fits))
offset-fits old now file file' h (k ∷ ks) (next, (next_file, one, more)) = offset-fits next now next_file file' k ks more

-- a count of records fits in 64 bits, as their offsets do
pub count-fits : (old now : InMemoryRecords) (file file' : PerfFile) (records : List RecordView) (count : ℕ) → ReturnsRecordsInMemory old file records now file' → count < 2 ^ 64 → count + length records ≤ now.records.offset → count + length records < 2 ^ 64
count-fits old now file file' [] count returned fits below = omega (arith, fits)
count-fits old now file file' (h ∷ hs) count returned fits below = (let end = offset-fits old now file file' h hs returned in omega (arith, end, below))

-- ---- the state of a walk

-- The records that a walk returned so far are counted, and their entries are written over `array`.
pub record ReadSoFar (old : InMemoryRecords) (file : PerfFile) (start : ℕ) (array : List RecordEntry) (count : ℕ) (now : InMemoryRecords) (now_file : PerfFile) (entries : List RecordEntry) : Type 0 where
  pub count_below_offset : count ≤ now.records.offset
  pub same_input : KeepsInput old now
  pub records : List RecordView
  pub count_is : count ≡ length records
  pub written : entries ≡ with_prefix_from start (record_entries_at (first_record_offset_of old) records) array
  pub returned : ReturnsRecordsInMemory old file records now now_file
  pub body_bytes_at : HasBodiesAt (input_of old) (first_record_offset_of old) records

pub read_none : (old : InMemoryRecords) (file : PerfFile) (start : ℕ) (array : List RecordEntry) → ReadSoFar old file start array 0 old file array
read_none old file start array = record {
  count_below_offset = omega arith;
  same_input = record { input = refl; first_record_offset = refl };
  records = [];
  count_is = refl;
  written = ap (λ l. with_prefix l array) (sym (drop-nil start));
  returned = (refl, refl);
  body_bytes_at = tt;
}

-- more whole records
pub read_more : (old now new : InMemoryRecords) (file now_file : PerfFile) (start count more : ℕ) (array entries after : List RecordEntry) → ReadSoFar old file start array count now now_file entries → ReadsMoreEntries start count now entries more new after → ReadSoFar old file start array (count + more) new now_file after
read_more old now new file now_file start count more array entries after so_far step =
    let base = first_record_offset_of old in
    let first = so_far.records in
    let same = so_far.same_input in
    let counted = so_far.count_is in
    let added = step.more_is in
    let below = so_far.count_below_offset in
    let moved = offset_after now new now_file now_file step.records (step.returned now_file) in
    let both = map-append (record_entry_at base) first step.records in
    record {
      count_below_offset = omega (arith, below, added, moved);
      same_input = record { input = step.same_input.input ∙ same.input; first_record_offset = step.same_input.first_record_offset ∙ same.first_record_offset };
      records = first ++ step.records;
      count_is = omega (arith, counted, added, length-append first step.records);
      written = step.written (record_entries_at base first) array (counted ∙ sym (length-map first (record_entry_at base))) so_far.written
          ∙ ap (λ n. with_prefix_from start (record_entries_at base first ++ record_entries_at n step.records) array) same.first_record_offset
          ∙ ap (λ l. with_prefix_from start l array) (sym both);
      returned = calls-append old now new file now_file now_file first step.records so_far.returned (step.returned now_file);
      body_bytes_at = has_bodies-append (input_of old) base first step.records so_far.body_bytes_at
          (subst (λ n. HasBodiesAt (input_of old) n step.records) same.first_record_offset (subst (λ l. HasBodiesAt l (first_record_offset_of now) step.records) same.input step.body_bytes_at));
    }

-- one record more
pub read_next : (old now new : InMemoryRecords) (file now_file new_file : PerfFile) (start count : ℕ) (array entries after : List RecordEntry) (place : RecordPlace) (r : PerfFileRecord) → (so_far : ReadSoFar old file start array count now now_file entries)
    → ReturnsRecordInMemory now now_file place r new new_file → KeepsInput now new → after ≡ with_prefix_from start (record_entries_at (first_record_offset_of old) so_far.records ++ record_entry_at (first_record_offset_of old) (record_view_of place r) ∷ []) array
    → ReadSoFar old file start array (count + 1) new new_file after
read_next old now new file now_file new_file start count array entries after place r so_far step kept written =
    let base = first_record_offset_of old in
    let h = record_view_of place r in
    let first = so_far.records in
    let same = so_far.same_input in
    let counted = so_far.count_is in
    let below = so_far.count_below_offset in
    let moved = step.returns.offset in
    let start_of = step.returns.record_offset in
    record {
      count_below_offset = omega (arith, below, moved, start_of);
      same_input = record { input = kept.input ∙ same.input; first_record_offset = kept.first_record_offset ∙ same.first_record_offset };
      records = first ++ h ∷ [];
      count_is = omega (arith, counted, length-append first (h ∷ []));
      written = written ∙ ap (λ l. with_prefix_from start l array) (sym (map_push (record_entry_at base) first h));
      returned = one_call_more old now new file now_file new_file first place r so_far.returned step;
      body_bytes_at = has_bodies-snoc (input_of old) base first h so_far.body_bytes_at
          (subst (λ l. HasBytesAt l (base + h.offset + 8) h.body) same.input (subst (λ n. HasBytesAt (input_of now) (n + h.offset + 8) h.body) same.first_record_offset (body-returned now place r step.in_input)));
    }

-- the walk over a page that is full
pub full_page : (old now : InMemoryRecords) (file now_file : PerfFile) (array entries : List RecordEntry) (count : ℕ) (next : RecordPosition) → ReadSoFar old file 0 array count now now_file entries → next ≡ position_of now → count ≡ length array
    → WalksPage old file array (record { count = count; next = next; end = Ok tt }) now now_file entries
full_page old now file now_file array entries count next so_far position full =
    let counted = so_far.count_is in
    record {
      records = so_far.records;
      input_at_end = now;
      file_at_end = now_file;
      returned = so_far.returned;
      next = position;
      count = counted;
      fits = omega (arith, counted, full);
      written = so_far.written;
      body_bytes_at = so_far.body_bytes_at;
      ends = inl (refl, omega (arith, counted, full));
    }

-- ---- the streaming iterator

-- memory runs out only for a whole metadata record of a pipe
abbrev pub NeedsMetadata : {A : Type 0} → MemoryIter → Result A Error → MemoryIter → Type 0
NeedsMetadata now (Ok _) new = Unit {0}
NeedsMetadata now (Err e) new = e ≡ Memory → ConsumesMetadata memory_state now new

-- a streaming iterator returns the same records, and then the same end
pub record StreamsRecords {A : Type 0} (it : MemoryIter) (file : PerfFile) (records : List RecordView) (end : Result A Error) (new : MemoryIter) (file' : PerfFile) : Type 0 where
  pub iter_at_end : MemoryIter
  pub file_at_end : PerfFile
  pub returned : ReturnsRecords memory_state it file records iter_at_end file_at_end
  pub ends : WalkEnds iter_at_end file_at_end end new file'
  pub memory : NeedsMetadata iter_at_end end new

runs_after : (old now : InMemoryRecords) (file file' : PerfFile) (h : RecordView) (hs : List RecordView) → ReturnsRecordsInMemory old file (h ∷ hs) now file' → now.records.stage ≡ Running
runs_after old now file file' h [] (next, (next_file, (place, (r, step, is)), (same, same_file))) = ap (λ i. i.records.stage) same ∙ step.returns.stage_running
runs_after old now file file' h (k ∷ ks) (next, (next_file, one, more)) = runs_after next now next_file file' k ks more

ends_with_buffer : {A : Type 0} (now new : InMemoryRecords) (file file' : PerfFile) (buffer : Vec ℕ Global) (end : Result A Error) → now.records.stage ≡ Running → WalkEnds now.records file end new.records file' → WalkEnds (with_buffer now.records buffer) file end new.records file'
ends_with_buffer now new file file' buffer (Ok _) runs ended = same_end now new file file' buffer runs ended
ends_with_buffer now new file file' buffer (Err e) runs failed = same_error now new file file' e buffer runs failed

metadata_with_buffer : {A : Type 0} (now new : InMemoryRecords) (buffer : Vec ℕ Global) (end : Result A Error) → NeedsMemoryForMetadataOnly now end new → NeedsMetadata (with_buffer now.records buffer) end new.records
metadata_with_buffer now new buffer (Ok _) memory = tt
metadata_with_buffer now new buffer (Err e) memory = λ is.
    (let m = memory is in
    record { in_pipe = m.in_pipe; markers = m.markers; valid_markers = m.valid_markers; raw_record = m.raw_record; is_record = m.is_record; metadata_type = m.metadata_type; consumes = m.consumes })

metadata_of_iter : {A : Type 0} (now new : InMemoryRecords) (end : Result A Error) → NeedsMemoryForMetadataOnly now end new → NeedsMetadata now.records end new.records
metadata_of_iter now new (Ok _) memory = tt
metadata_of_iter now new (Err e) memory = memory

pub streams_records : {A : Type 0} (old now new : InMemoryRecords) (file now_file file' : PerfFile) (records : List RecordView) (end : Result A Error) → ReturnsRecordsInMemory old file records now now_file → WalkEnds now.records now_file end new.records file' → NeedsMemoryForMetadataOnly now end new → StreamsRecords old.records file records end new.records file'
streams_records old now new file now_file file' [] end (same, same_file) ends memory =
    record { iter_at_end = now.records; file_at_end = now_file; returned = (ap (λ i. i.records) same, same_file); ends = ends; memory = metadata_of_iter now new end memory }
streams_records old now new file now_file file' (h ∷ hs) end all ends memory =
    let from = same_records old now file now_file (h ∷ hs) all in
    record {
      iter_at_end = with_buffer now.records from.0;
      file_at_end = now_file;
      returned = from.1;
      ends = ends_with_buffer now new now_file file' from.0 end (runs_after old now file now_file h hs all) ends;
      memory = metadata_with_buffer now new from.0 end memory;
    }
