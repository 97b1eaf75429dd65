-- Lemmas on a walk over a pipe's records.
use Rattle.std.proofs.Common.{◌≡◌, ◌≢◌, ◌⊎◌, ℕ, ◌+◌, ◌-◌, ◌^◌, ◌<◌, ◌++◌, List, [], length, drop, refl, sym, ap, ◌∙◌, subst, arith, inl, inr, append_assoc, length-append, length-drop, None, Some, Result, Ok, Err}
use Rattle.std.specs.List.{concat}
use Rattle.std.proofs.Math.Seq.{drop-append_seam, drop-nil}
use Rattle.perfdata_identifiers.specs.Features.{HasFeature}
use Rattle.perfdata_sources.specs.Endian.{number_in}
use Rattle.perfdata_sources.specs.declared.endian.Endianness.{Endianness}
use Rattle.perfdata_sources.proofs.Numbers.{number_drop_prefix}
use Rattle.perfdata_sources.specs.Source.{State, memory_source_at}
use Rattle.perfdata_sources.proofs.ReadErrors.{none_or_paused, all_read}
use Rattle.perfdata_sections.specs.declared.error.Error.{Error}
use Rattle.perfdata_sections.specs.declared.error.Error.TheVariants.{Memory}
use Rattle.linux_perf_data.specs.declared.in_memory.InMemoryReader.{InMemoryReader}
use Rattle.linux_perf_data.specs.declared.in_memory.InMemoryRecords.{InMemoryRecords}
use Rattle.linux_perf_data.specs.declared.perf_file.PerfFile.{PerfFile}
use Rattle.linux_perf_data.specs.Iter.{ConsumesMetadata, HasRemainingRecords, ReturnsError, iter_source_state, section_size_of}
use Rattle.linux_perf_data.specs.Descriptions.{described_attributes}
use Rattle.linux_perf_data.specs.InMemory.{memory_state, MemoryIter}
use Rattle.linux_perf_data.specs.InMemoryReading.{ParsesPipeInMemory, first_record_offset_of, input_of}
use Rattle.linux_perf_data.specs.LateMetadata.{AccumulatesMetadata, HasValidMetadata, SamePerfFile}
use Rattle.linux_perf_data.specs.FeatureNumbers.{event_desc}
use Rattle.linux_perf_data.specs.Names.{NamedByEventDesc}
use Rattle.linux_perf_data.specs.PerfFile.{attributes_of_file, feature_data_in_file, descriptions_of_file}
use Rattle.linux_perf_data.specs.Layout.{RecordView, LayoutEnd, ends_complete, ends_with_error, LayoutError, RemainingRecords, ConsistsOfMarkers, IsRecord, attributes_in_records, record_type_of}
use Rattle.linux_perf_data.specs.OpenedPipe.{KeepsPendingHeader, PipeParsed, PipeParseError}
use Rattle.linux_perf_data.specs.RecordFraming.{IsErrorFor}
use Rattle.linux_perf_data.specs.PipeOpening.{EndsMetadata, IsPipeError}
use Rattle.linux_perf_data.specs.PipeReading.{BeginsPipe, HoldsAllMetadata, IsCompletePipe, HoldsForPipe}
use Rattle.linux_perf_data.specs.Reading.{AreFirstRecords, ReturnsRecords, end_after}
use Rattle.linux_perf_data.proofs.PipeReadings.{begins, ends_there, error_there, first_there, holds_all, opening_prefix, own_pipe, pipe_up_to_end, whole_there}
use Rattle.linux_perf_data.proofs.FileReadings.{after_prefix_is, consumed_of, first_of, holds_of, none_of, offset_of, read_so_far_of, runs_of, source_error_none, stops_of, whole_of}
use Rattle.perfdata_arrays.specs.Overwrites.{with_prefix_from}
use Rattle.perfdata_arrays.specs.Status.{error_status, walk_status}
use Rattle.linux_perf_data.specs.RecordEntries.{HasBodiesAt}
use Rattle.perfdata_arrays.specs.Records.{FailsWithStatus, EndsWithStatus, FollowedByMetadata, IsPipeWithRecords, ReadsPipeRecords}
use Rattle.perfdata_arrays.specs.steps.Walk.{WalkEnds, WalksRecords}
use Rattle.perfdata_arrays.specs.declared.status.Status.{Status}
use Rattle.perfdata_arrays.specs.declared.status.Status.TheVariants.{Success}
use Rattle.linux_perf_data.specs.declared.in_memory.entries.RecordEntry.{RecordEntry}
use Rattle.perfdata_arrays.specs.declared.records.RecordsResult.{RecordsResult}
use Rattle.perfdata_arrays.specs.declared.records.WalkResult.{WalkResult}
use Rattle.perfdata_arrays.proofs.MetadataLemmas.{complete_metadata}
use Rattle.perfdata_arrays.proofs.WalkLemmas.{NeedsMetadata, length-prefix, prefix-split, streams_records, writes_at}

module _ (bytes : List ℕ) where
  -- an error in opening a pipe is an error of its bytes
  pub pipe_open_error : (e : Error) → PipeParseError memory_state (memory_source_at bytes 0) e → e ≢ Memory → IsPipeError bytes e
  pipe_open_error e r other =
      let old = memory_source_at bytes 0 in
      let failed_opening = r.error in
      let split = prefix-split r.final_state.bytes bytes failed_opening.consumed_bytes failed_opening.consumes.bytes in
      elim (failed_opening.cause other) [
        | inl any ↦ subst (λ l. IsPipeError l e) (sym split.1) (any split.0)
        | inr cause ↦ elim cause [
          | inl none ↦ elim (none_or_paused old r.final_state none.0) [
            | inl end ↦
                let all : Some bytes ≡ Some failed_opening.consumed_bytes = all_read old r.final_state failed_opening.consumed_bytes failed_opening.consumes end in
                let same : bytes ≡ failed_opening.consumed_bytes = cc in
                subst (λ l. IsPipeError l e) (sym same) none.1
            | inr paused ↦ absurd (paused.not_steady refl)
          ]
          | inr failed ↦ absurd (failed.1.not_steady refl)
        ]
      ]

  pub no_records_written : (start : ℕ) (entries : List RecordEntry) (total : RecordsResult) → total.count ≡ 0 → FailsWithStatus total.status (IsPipeError bytes) → ReadsPipeRecords bytes start entries total entries
  no_records_written start entries total none failed = record {
    records = [];
    base = 0;
    writes = record { count = none; written = ap (λ l. with_prefix_from 0 l entries) (sym (drop-nil start)); body_bytes_at = tt };
    ends = inl (refl, failed);
  }

-- The rest after the same metadata records is the same, because the bytes of a pipe header determine its size.
opening_is_unique : (endian : Endianness) (metadata_records : List (List ℕ)) (bytes rest rest' : List ℕ) → BeginsPipe endian metadata_records bytes rest → BeginsPipe endian metadata_records bytes rest' → rest ≡ rest'
opening_is_unique endian metadata_records bytes rest rest' a b =
    let m : List ℕ = concat metadata_records in
    let long_a = a.matches.exact_len in
    let long_b = b.matches.exact_len in
    let size_a : number_in endian 8 (drop 8 bytes) ≡ number_in endian 8 (drop 8 a.header) = ap (λ l. number_in endian 8 (drop 8 l)) a.split ∙ number_drop_prefix endian 8 8 a.header (m ++ rest) (omega (arith, long_a)) in
    let size_b : number_in endian 8 (drop 8 bytes) ≡ number_in endian 8 (drop 8 b.header) = ap (λ l. number_in endian 8 (drop 8 l)) b.split ∙ number_drop_prefix endian 8 8 b.header (m ++ rest') (omega (arith, long_b)) in
    let long : length (a.header ++ m) ≡ length (b.header ++ m) = omega (arith, long_a, long_b, size_a, size_b, length-append a.header m, length-append b.header m) in
    sym (drop-append_seam (a.header ++ m) rest) ∙ ap (drop (length (a.header ++ m))) (append_assoc a.header m rest ∙ sym a.split ∙ b.split ∙ sym (append_assoc b.header m rest'))
    ∙ ap (λ n. drop n ((b.header ++ m) ++ rest')) long ∙ drop-append_seam (b.header ++ m) rest'

-- equal `PerfFile`s hold the same metadata
file_matches-same : (endian : Endianness) (metadata_records : List (List ℕ)) (records : List RecordView) (file file' : PerfFile) → HoldsAllMetadata endian metadata_records records file → SamePerfFile file file' → HoldsAllMetadata endian metadata_records records file'
file_matches-same endian metadata_records records file file' h same = record {
  file_endian = same.same_endian ∙ h.file_endian;
  attributes = ap described_attributes same.descriptions ∙ h.attributes;
  feature_data = λ n. same.feature_data n ∙ h.feature_data n;
  features = λ n. (λ is. (h.features n).0 (subst (λ s. HasFeature s n) same.features is), λ is. subst (λ s. HasFeature s n) (sym same.features) ((h.features n).1 is));
  names_match = subst (λ d. NamedByEventDesc endian d (descriptions_of_file file')) (sym (same.feature_data event_desc)) (subst (λ ds. NamedByEventDesc endian (feature_data_in_file file event_desc) ds) (sym same.descriptions) h.names_match);
}

-- ---- a pipe in memory

module _ (bytes : List ℕ) (reader : InMemoryReader) (parsed : ParsesPipeInMemory bytes (Ok reader)) where
  abbrev file : PerfFile
  file = reader.perf_file

  abbrev it : MemoryIter
  it = reader.records.records

  abbrev old : State
  old = memory_source_at bytes 0

  abbrev o : PipeParsed memory_state old file it
  o = parsed.0

  -- The result for the records that follow these metadata records. If there are records, the first starts at the offset of
  -- `rest`.
  pub record PipeEnds (records : List RecordView) (status : Status) (file' : PerfFile) : Type 0 where
    pub metadata_records : List (List ℕ)
    pub rest : List ℕ
    pub opening : BeginsPipe it.endian metadata_records bytes rest
    pub after_opening : EndsMetadata it.endian rest
    pub end_is : EndsWithStatus (RemainingRecords it.endian rest None 0 0 (attributes_in_records it.endian None metadata_records)) (FollowedByMetadata it.endian rest) records status
    pub first_record_at : (records ≡ []) ⊎ (first_record_offset_of reader.records ≡ length bytes - length rest)
    pub holds : HoldsAllMetadata it.endian metadata_records records file'

  -- ---- if the opening kept the header of the first record

  module _ (k : KeepsPendingHeader memory_state old (opening_prefix memory_state old file it o) it) where
    abbrev before : List ℕ
    before = opening_prefix memory_state old file it o

    abbrev rest_after : List ℕ
    rest_after = drop (length before) bytes

    rest_remains : (iter_source_state memory_state it).bytes ≡ Some rest_after
    rest_remains = after_prefix_is old.bytes (iter_source_state memory_state it).bytes before bytes k.consumes.bytes refl

    pipe_begins : BeginsPipe it.endian o.raw_records bytes rest_after
    pipe_begins =
        let split = prefix-split (iter_source_state memory_state it).bytes bytes before k.consumes.bytes in
        let tail : rest_after ≡ split.0 = ap (drop (length before)) split.1 ∙ drop-append_seam before split.0 in
        let all : bytes ≡ before ++ rest_after = split.1 ∙ ap (λ l. before ++ l) (sym tail) in
        subst (λ l. BeginsPipe it.endian o.raw_records l rest_after) (sym all) (begins memory_state old file it o rest_after)

    -- what holds after some opening with these metadata records holds after this one
    at_rest : (P : (List RecordView → LayoutEnd → Type 0) → Type 0) → HoldsForPipe it.endian o.raw_records bytes P → P (RemainingRecords it.endian rest_after None 0 0 (attributes_in_records it.endian None o.raw_records))
    at_rest P (rest, opening, ends, holds) =
        subst (λ l. P (RemainingRecords it.endian l None 0 0 (attributes_in_records it.endian None o.raw_records))) (opening_is_unique it.endian o.raw_records bytes rest rest_after opening pipe_begins) holds

    -- the first record starts after the opening
    first_is_after : first_record_offset_of reader.records ≡ length bytes - length rest_after
    first_is_after =
        let first = first_record_offset_of reader.records in
        let start = o.offset in
        let placed : (iter_source_state memory_state it).bytes ≡ Some (drop (first + it.offset) (input_of reader.records)) = reader.records.in_place k.stage_running in
        let same : rest_after ≡ drop (first + it.offset) (input_of reader.records) = (let e : Some rest_after ≡ Some (drop (first + it.offset) (input_of reader.records)) = sym rest_remains ∙ placed in cc) in
        let long = length-prefix (memory_state it.source).bytes rest_after k.header_bytes (sym rest_remains ∙ k.consumes_header.bytes) in
        let eight = k.exact_len in
        omega (arith, ap length same, length-drop (first + it.offset) (input_of reader.records), ap length parsed.1, start, long, eight)

    -- the metadata record for which memory ran out
    metadata_follows : (now new : MemoryIter) (now_file file' : PerfFile) (records : List RecordView) (e : Error) → ReturnsRecords memory_state it file records now now_file → ReturnsError memory_state now now_file e new file' → e ≡ Memory → ConsumesMetadata memory_state now new
        → FollowedByMetadata it.endian rest_after records
    metadata_follows now new now_file file' records e all failed is m =
        let before_it = consumed_of memory_state it now file now_file records all in
        let same_endian = (read_so_far_of memory_state it now file now_file records all).same_input.same_endian in
        let at : now.offset ≡ end_after 0 records = offset_of memory_state it now file now_file records all ∙ ap (λ n. end_after n records) o.offset in
        let long : length before_it.prefix ≡ end_after 0 records = (let all_bytes = before_it.long in let start = o.offset in omega (arith, all_bytes, start, at)) in
        let remains : (iter_source_state memory_state now).bytes ≡ Some (drop (end_after 0 records) rest_after) =
        after_prefix_is (iter_source_state memory_state it).bytes (iter_source_state memory_state now).bytes before_it.prefix rest_after before_it.consumed.bytes rest_remains ∙ ap (λ n. Some (drop n rest_after)) long in
        let unread = prefix-split (iter_source_state memory_state new).bytes (drop (end_after 0 records) rest_after) (m.markers ++ m.raw_record) (sym remains ∙ m.consumes.bytes) in
        record {
          markers = m.markers;
          valid_markers = subst (λ n. ConsistsOfMarkers it.endian None n m.markers) at
              (subst (λ b. ConsistsOfMarkers it.endian b now.offset m.markers) m.in_pipe (subst (λ order. ConsistsOfMarkers order (section_size_of memory_state now) now.offset m.markers) same_endian m.valid_markers));
          raw_record = m.raw_record;
          is_record = subst (λ order. IsRecord order m.raw_record) same_endian m.is_record;
          valid_metadata = subst (λ order. HasValidMetadata order (record_type_of order m.raw_record) (drop 8 m.raw_record)) same_endian
              (complete_metadata now new now_file (drop (end_after 0 records) rest_after) e remains (failed.if_running (runs_of memory_state it now file now_file records k.stage_running all)) is m);
          rest = unread.0;
          split = unread.1 ∙ append_assoc m.markers m.raw_record unread.0;
        }

    pipe_ends_after : (records : List RecordView) (status : Status) (file' : PerfFile) → EndsWithStatus (RemainingRecords it.endian rest_after None 0 0 (attributes_in_records it.endian None o.raw_records)) (FollowedByMetadata it.endian rest_after) records status
        → HoldsAllMetadata it.endian o.raw_records records file' → PipeEnds records status file'
    pipe_ends_after records status file' ends holds = record {
      metadata_records = o.raw_records;
      rest = rest_after;
      opening = pipe_begins;
      after_opening = ends_there memory_state old file it o k rest_after rest_remains;
      end_is = ends;
      first_record_at = inr first_is_after;
      holds = holds;
    }

  -- ---- any opening

  -- the pipe without a record after its opening
  no_record_ends : (records : List RecordView) (file' : PerfFile) (metadata_records : List (List ℕ)) → records ≡ [] → IsCompletePipe it.endian metadata_records records bytes → HoldsAllMetadata it.endian metadata_records records file' → PipeEnds records Success file'
  no_record_ends records file' metadata_records none (rest, opening, ends, remaining) holds =
      record { metadata_records = metadata_records; rest = rest; opening = opening; after_opening = ends; end_is = inl (refl, remaining); first_record_at = inl none; holds = holds }

  module _ (now new : MemoryIter) (now_file file' : PerfFile) (records : List RecordView) (all : ReturnsRecords memory_state it file records now now_file) where
    pub pipe_ends : {A : Type 0} (end : Result A Error) → WalkEnds now now_file end new file' → NeedsMetadata now end new → PipeEnds records (walk_status end) file'
    pipe_ends (Ok _) at memory = elim (pipe_up_to_end memory_state old bytes file now_file file' it now new records refl o all at) [
      | inl end ↦ elim o.end_of_opening [
        | inl k ↦
            let whole : HasRemainingRecords memory_state it (attributes_of_file file) records ends_complete =
            elim (whole_of memory_state it now new file now_file file' records k.stage_running all at) [
              | inl is ↦ is (attributes_of_file file) o.represents
              | inr paused ↦ (let p = paused.1 in absurd (p.not_steady (k.consumes.steady refl).steady))
            ] in
            pipe_ends_after k records Success file' (inl (refl, at_rest k (λ C. C records ends_complete) (whole_there memory_state old file it o k records whole)))
            (holds_all memory_state old file it o records file' (subst (AccumulatesMetadata it.endian (section_size_of memory_state it) records file) (sym at.file_unchanged) (holds_of memory_state it now file now_file records all)))
        | inr e ↦ no_record_ends records file' end.raw_records (none_of memory_state it now file now_file records e.stage_ended all).0 end.all_records end.all_metadata
      ]
      | inr paused ↦ absurd (paused.1.not_steady refl)
    ]
    pipe_ends (Err e) failed_opening memory = elim o.end_of_opening [
      | inl k ↦
          let start : it.offset < 2 ^ 64 = (let z = o.offset in omega (arith, z)) in
          let remaining = first_there memory_state old file it o k records (first_of memory_state it now file now_file records start all) in
          let cause : e ≢ Memory → HoldsForPipe it.endian o.raw_records bytes (λ C. (f : LayoutError) × C records (ends_with_error f) × IsErrorFor f e) = λ other. elim (stops_of memory_state it now new file now_file file' records e k.stage_running (own_pipe memory_state old file it o) all failed_opening other) [
            | inl ends ↦ error_there memory_state old file it o k records e ends
            | inr owes ↦ absurd (source_error_none it.endian (section_size_of memory_state it) (iter_source_state memory_state it) (iter_source_state memory_state new) e (k.consumes.steady refl).steady owes)
          ] in
          let first_records = at_rest k (λ C. AreFirstRecords C records) remaining in
          pipe_ends_after k records (error_status e) file'
          (inr (first_records, (e, refl, λ is. metadata_follows k now new now_file file' records e all failed_opening is (memory is), λ other. at_rest k (λ C. (f : LayoutError) × C records (ends_with_error f) × IsErrorFor f e) (cause other))))
          (file_matches-same it.endian o.raw_records records now_file file' (holds_all memory_state old file it o records now_file (holds_of memory_state it now file now_file records all)) failed_opening.same_file)
      | inr ends ↦ (let none = none_of memory_state it now file now_file records ends.stage_ended all in absurd (failed_opening.not_ended (ap (λ i. i.stage) none.1 ∙ ends.stage_ended)))
    ]

  -- ---- a walk

  module _ (start : ℕ) (entries entries' : List RecordEntry) (walked : WalkResult) (new : InMemoryRecords) (file' : PerfFile) (w : WalksRecords reader.records file start entries walked new file' entries') where
    pub walk_ends : PipeEnds w.records (walk_status walked.end) file'
    walk_ends =
        let s = streams_records reader.records w.input_at_end new file w.file_at_end file' w.records walked.end w.returned w.ends w.memory in
        pipe_ends s.iter_at_end new.records s.file_at_end file' w.records s.returned walked.end s.ends s.memory

    -- the bytes are that pipe
    abbrev pub is_pipe_with_records : (status : Status) → status ≡ walk_status walked.end → IsPipeWithRecords bytes w.records file' status
    is_pipe_with_records status is = record {
      endian = it.endian;
      metadata_records = walk_ends.metadata_records;
      rest = walk_ends.rest;
      has_opening = walk_ends.opening;
      after_opening = walk_ends.after_opening;
      ends = subst (EndsWithStatus (RemainingRecords it.endian walk_ends.rest None 0 0 (attributes_in_records it.endian None walk_ends.metadata_records)) (FollowedByMetadata it.endian walk_ends.rest) w.records) (sym is) walk_ends.end_is;
      file_matches = walk_ends.holds;
    }

    pub reads_pipe_records : (total : RecordsResult) → total.count ≡ walked.count → total.status ≡ walk_status walked.end → ReadsPipeRecords bytes start entries total entries'
    reads_pipe_records total count status =
        let end = walk_ends in
        let base = length bytes - length end.rest in
        let first = first_record_offset_of reader.records in
        let opening = end.opening in
        record {
          records = w.records;
          base = base;
          writes = writes_at bytes first base start w.records entries entries' total end.first_record_at (count ∙ w.count) w.written (subst (λ l. HasBodiesAt l first w.records) parsed.1 w.body_bytes_at);
          ends = inr (record {
            file = file';
            is = is_pipe_with_records total.status status;
            first_record_at = omega (arith, ap length opening.split, length-append opening.header (concat end.metadata_records ++ end.rest), length-append (concat end.metadata_records) end.rest);
          });
        }
