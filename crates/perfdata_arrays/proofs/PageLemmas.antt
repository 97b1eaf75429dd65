-- Lemmas on a page of a file's records.
use Rattle.std.proofs.Common.{◌≡◌, ◌≢◌, ◌⊎◌, ℕ, ◌+◌, ◌<◌, ◌++◌, List, [], ◌∷◌, length, drop, refl, sym, ap, ◌∙◌, subst, arith, inl, inr, length-append, length-drop, Some, Result, Ok, Err}
use Rattle.std.specs.Prelude.{IfSome, IsTrue, Vec}
use Rattle.std.specs.declared.alloc.Global.{Global}
use Rattle.std.specs.List.{concat}
use Rattle.std.proofs.lemmas.List.{append-nil, drop-drop}
use Rattle.perfdata_sources.specs.Source.{at_start}
use Rattle.perfdata_sources.specs.declared.endian.Endianness.{Endianness}
use Rattle.perfdata_base.specs.declared.header.PerfHeader.{PerfHeader}
use Rattle.perfdata_sections.specs.Error.{IsUnexpectedEof, IsUnsupported}
use Rattle.perfdata_sections.specs.declared.error.Error.{Error}
use Rattle.perfdata_sections.specs.declared.error.Error.TheVariants.{IoError, Memory}
use Rattle.linux_perf_data.specs.declared.in_memory.InMemoryReader.{InMemoryReader}
use Rattle.linux_perf_data.specs.declared.in_memory.InMemoryRecords.{InMemoryRecords}
use Rattle.linux_perf_data.specs.declared.in_memory.position.RecordPosition.{RecordPosition}
use Rattle.linux_perf_data.specs.declared.perf_file.PerfFile.{PerfFile}
use Rattle.linux_perf_data.specs.declared.records.iter.Stage.TheVariants.{Running}
use Rattle.linux_perf_data.specs.Attribute.{Attribute}
use Rattle.linux_perf_data.specs.AttributeLookup.{Represents}
use Rattle.linux_perf_data.specs.Reading.{ReturnsRecords, end_after}
use Rattle.linux_perf_data.specs.steps.Reading.{HasMatchingFile}
use Rattle.linux_perf_data.specs.InMemory.{memory_state, MemoryIter, with_buffer}
use Rattle.linux_perf_data.specs.InMemoryPositions.{FileRecordsFrom, IsAtPosition, ParsesFileAt, position_of, round_at}
use Rattle.linux_perf_data.specs.InMemoryReading.{NeedsMemoryInPipeOnly, ReturnsRecordsInMemory, first_record_offset_of, input_of}
use Rattle.linux_perf_data.specs.Iter.{HasRemainingRecords, iter_source_state, section_size_of}
use Rattle.linux_perf_data.specs.Layout.{ErrorAt, LayoutEnd, LayoutError, RecordView, RemainingRecords, SectionSize, attributes_in_records, attributes_in_views, ends_complete, ends_with_error, truncated_header, size_below_header, end_overflows, truncated_body, compressed_record, aux_body_too_short, aux_end_overflows, truncated_aux_data, invalid_metadata, invalid_event_desc, inconsistent_attributes}
use Rattle.linux_perf_data.specs.FileOpening.{IsFileError}
use Rattle.linux_perf_data.specs.PerfFile.{attributes_of_file, endian_of_file}
use Rattle.linux_perf_data.specs.RecordFraming.{IsErrorFor}
use Rattle.linux_perf_data.proofs.FileReadings.{after_prefix_is, consumed_of, fits_of, offset_of, own_of, read_so_far_of, runs_of, source_error_none, stops_of, whole_of}
use Rattle.linux_perf_data.proofs.InMemoryPlaces.{section_view}
use Rattle.linux_perf_data.proofs.InMemoryReadings.{same_end, same_error, same_records}
use Rattle.linux_perf_data.specs.RecordEntries.{HasBodiesAt}
use Rattle.perfdata_arrays.specs.Pages.{IsPage, ReadsFilePage, layout_end_status, layout_error_status, position_after, round_after}
use Rattle.perfdata_arrays.specs.steps.Pages.{WalksPage}
use Rattle.perfdata_arrays.specs.Records.{FailsWithStatus}
use Rattle.perfdata_arrays.specs.Status.{error_status, io_kind_status, walk_status}
use Rattle.perfdata_arrays.specs.steps.Walk.{WalkEnds}
use Rattle.linux_perf_data.specs.declared.in_memory.entries.RecordEntry.{RecordEntry}
use Rattle.perfdata_arrays.specs.declared.records.PageWalk.{PageWalk}
use Rattle.perfdata_arrays.specs.declared.records.RecordsResult.{RecordsResult}
use Rattle.perfdata_arrays.specs.declared.status.Status.{Status}
use Rattle.perfdata_arrays.specs.declared.status.Status.TheVariants.{Compressed, Success, Truncated}
use Rattle.perfdata_arrays.proofs.WalkLemmas.{length-prefix, writes_at}

-- ---- the status of an error

pub eof_status : (e : Error) → IsUnexpectedEof e → error_status e ≡ Truncated
eof_status (IoError e) is = ap io_kind_status is
eof_status _ is = absurd is

unsupported_status : (e : Error) → IsUnsupported e → error_status e ≡ Compressed
unsupported_status (IoError e) is = ap io_kind_status is
unsupported_status _ is = absurd is

-- the status of an error in a file's section
error_status-file : (order : Endianness) (size offset : ℕ) (attrs : List Attribute) (rest : List ℕ) (f : LayoutError) (e : Error) → ErrorAt order (Some size) offset attrs rest f → IsErrorFor f e → error_status e ≡ layout_error_status f
error_status-file order size offset attrs rest truncated_header e at is = eof_status e is
error_status-file order size offset attrs rest size_below_header e at is = ap error_status is
error_status-file order size offset attrs rest end_overflows e at is = ap error_status is
error_status-file order size offset attrs rest truncated_body e at is = ap error_status is
error_status-file order size offset attrs rest compressed_record e at is = unsupported_status e is
error_status-file order size offset attrs rest aux_body_too_short e at is = eof_status e is
error_status-file order size offset attrs rest aux_end_overflows e at is = ap error_status is
error_status-file order size offset attrs rest truncated_aux_data e at is = ap error_status is
error_status-file order size offset attrs rest (invalid_metadata cause) e at is = (let none = at.0 in absurd cc)
error_status-file order size offset attrs rest (invalid_event_desc o bytes) e at is = (let none = at.0 in absurd cc)
error_status-file order size offset attrs rest (inconsistent_attributes b) e at is = (let none = at.0 in absurd cc)

-- records of a file contain no attributes
no_attributes : (order : Endianness) (bound : SectionSize) (size : ℕ) (records : List RecordView) → bound ≡ Some size → attributes_in_views order bound records ≡ []
no_attributes order bound size records is = ap (λ b. attributes_in_views order b records) is ∙ go records
  where
    go : (rs : List RecordView) → attributes_in_views order (Some size) rs ≡ []
    go [] = refl
    go (h ∷ hs) = go hs

-- memory doesn't run out in a file
never_memory : {A : Type 0} (input : InMemoryRecords) (size : ℕ) (r : Result A Error) → section_size_of memory_state input.records ≡ Some size → NeedsMemoryInPipeOnly input r → (e : Error) → r ≡ Err e → e ≢ Memory
never_memory input size (Ok x) section needs e is memory = absurd cc
never_memory input size (Err x) section needs e is memory =
    let same : x ≡ e = cc in
    let pipe = needs (same ∙ memory) in
    absurd cc

-- the round after some records is that of the last
round_of : (it now : MemoryIter) (file file' : PerfFile) (records : List RecordView) → ReturnsRecords memory_state it file records now file' → now.round ≡ round_after it.round records
round_of it now file file' [] (same, _) = ap (λ i. i.round) same
round_of it now file file' (h ∷ hs) (next, (next_file, step, more)) = round_of next now next_file file' hs more ∙ ap (λ n. round_after n hs) step.round

-- ---- an iterator at a position

module _ (bytes : List ℕ) (header : PerfHeader) (file : PerfFile) where
  abbrev attrs : List Attribute
  attrs = attributes_of_file file

  abbrev Remain : RecordPosition → List RecordView → LayoutEnd → Type 0
  Remain q = FileRecordsFrom bytes (endian_of_file file) header q attrs

  module _ (q : RecordPosition) (it : MemoryIter) (at : IsAtPosition bytes q header file it) where
    abbrev rest_at : List ℕ
    rest_at = drop (header.data_section.offset + q.offset) bytes

    abbrev RemainIn : List RecordView → LayoutEnd → Type 0
    RemainIn = RemainingRecords it.endian rest_at (section_size_of memory_state it) it.offset it.round attrs

    same_remaining : RemainIn ≡ Remain q
    same_remaining = λ i. RemainingRecords (at.same_endian i) rest_at (at.section_size i) (at.offset i) (at.round i) attrs

    remain_of_iter : (rs : List RecordView) (end : LayoutEnd) → HasRemainingRecords memory_state it attrs rs end → Remain q rs end
    remain_of_iter rs end remain =
        subst (λ C. C rs end) same_remaining (subst (λ b. IfSome b (λ l. RemainingRecords it.endian l (section_size_of memory_state it) it.offset it.round attrs rs end)) at.bytes_known remain)

    pub remain_in_iter : (rs : List RecordView) (end : LayoutEnd) → Remain q rs end → HasRemainingRecords memory_state it attrs rs end
    remain_in_iter rs end remain =
        subst (λ b. IfSome b (λ l. RemainingRecords it.endian l (section_size_of memory_state it) it.offset it.round attrs rs end)) (sym at.bytes_known) (subst (λ C. C rs end) (sym same_remaining) remain)

    at_steady : IsTrue (iter_source_state memory_state it).steady
    at_steady = subst (λ s. IsTrue s.steady) (sym (section_view it.input header.data_section.size (memory_state it.source) at.section_size)) refl

    own_at : HasMatchingFile memory_state it file
    own_at = record { represents = at.represents; event_desc_readable = λ pipe. (let section = at.section_size in absurd cc) }

    -- the end at the position
    ends_at : {A : Type 0} (new : MemoryIter) (now_file file' : PerfFile) (r : Result A Error) → HasMatchingFile memory_state it now_file → WalkEnds it now_file r new file' → ((e : Error) → r ≡ Err e → e ≢ Memory)
        → (end : LayoutEnd) × Remain q [] end × (walk_status r ≡ layout_end_status end)
    ends_at new now_file file' (Ok _) own ended other = elim (whole_of memory_state it it new now_file now_file file' [] at.stage_running (refl, refl) ended) [
      | inl is ↦ (ends_complete, remain_of_iter [] ends_complete (is attrs at.represents), refl)
      | inr paused ↦ (let pipe = paused.0 in let section = at.section_size in absurd cc)
    ]
    ends_at new now_file file' (Err e) own failed other = elim (stops_of memory_state it it new now_file now_file file' [] e at.stage_running own (refl, refl) failed (other e refl)) [
      | inl ends ↦
          let found = subst (λ b. IfSome b (λ l. (f : LayoutError) × ((known : List Attribute) → Represents it.endian it.attribute_lookup known → RemainingRecords it.endian l (section_size_of memory_state it) it.offset it.round known [] (ends_with_error f)) × IsErrorFor f e)) at.bytes_known ends in
          let remain = subst (λ C. C [] (ends_with_error found.0)) same_remaining (found.1 attrs at.represents) in
          let layout = remain.layout in
          (ends_with_error found.0, remain, error_status-file (endian_of_file file) header.data_section.size (q.offset + length (concat remain.raw_records)) (attrs ++ attributes_in_records (endian_of_file file) (Some header.data_section.size) remain.raw_records) layout.rest found.0 e layout.end_matches.1 found.2)
      | inr owes ↦ absurd (source_error_none it.endian (section_size_of memory_state it) (iter_source_state memory_state it) (iter_source_state memory_state new) e at_steady owes)
    ]

    -- ---- after some records

    module _ (now : MemoryIter) (now_file : PerfFile) (records : List RecordView) (all : ReturnsRecords memory_state it file records now now_file) where
      abbrev next : RecordPosition
      next = record { offset = now.offset; round = now.round }

      unchanged : attrs ++ attributes_in_views it.endian (section_size_of memory_state it) records ≡ attrs
      unchanged = ap (λ l. attrs ++ l) (no_attributes it.endian (section_size_of memory_state it) header.data_section.size records at.section_size) ∙ append-nil attrs

      pub at_next : IsAtPosition bytes next header file now
      at_next =
          let h = read_so_far_of memory_state it now file now_file records all in
          let consumed = consumed_of memory_state it now file now_file records all in
          let long = consumed.long in
          let start = at.offset in
          let fits = now.rounds_fit in
          record {
            stage_running = runs_of memory_state it now file now_file records at.stage_running all;
            offset = refl;
            offset_fits = fits_of memory_state it now file now_file records at.offset_fits all;
            round = omega arith;
            same_endian = h.same_input.same_endian ∙ at.same_endian;
            represents = subst (Represents now.endian now.attribute_lookup) unchanged (h.represents attrs at.represents);
            bytes_known = after_prefix_is (iter_source_state memory_state it).bytes (iter_source_state memory_state now).bytes consumed.prefix rest_at consumed.consumed.bytes at.bytes_known
                ∙ ap (λ l. Some l) (drop-drop (length consumed.prefix) (header.data_section.offset + q.offset) bytes ∙ ap (λ n. drop n bytes) (let e : header.data_section.offset + q.offset + length consumed.prefix ≡ header.data_section.offset + now.offset = omega (arith, long, start) in e));
            section_size = h.same_input.section_size ∙ at.section_size;
          }

      pub next_position : next ≡ position_after q records
      next_position =
          let offset : now.offset ≡ end_after q.offset records = offset_of memory_state it now file now_file records all ∙ ap (λ n. end_after n records) at.offset in
          let round : now.round ≡ round_after (round_at q) records = round_of it now file now_file records all ∙ ap (λ n. round_after n records) at.round in
          λ i. record { offset = offset i; round = round i }

      pub own_next : HasMatchingFile memory_state now now_file
      own_next = own_of memory_state it now file now_file records own_at all

  module _ (q : RecordPosition) (it : MemoryIter) (at : IsAtPosition bytes q header file it) (now : MemoryIter) (now_file : PerfFile) (records : List RecordView) (all : ReturnsRecords memory_state it file records now now_file) where
    pub extends : (rest : List RecordView) (end : LayoutEnd) → Remain (next q it at now now_file records all) rest end → Remain q (records ++ rest) end
    extends rest end remain =
        let h = read_so_far_of memory_state it now file now_file records all in
        remain_of_iter q it at (records ++ rest) end
        (h.extends_remaining attrs at.represents rest end (subst (λ l. HasRemainingRecords memory_state now l rest end) (sym (unchanged q it at now now_file records all)) (remain_in_iter (next q it at now now_file records all) now (at_next q it at now now_file records all) rest end remain)))

-- ---- the page

module _ (bytes : List ℕ) (from : RecordPosition) where
  -- the position is unchanged if the file doesn't open
  pub no_page : (entries : List RecordEntry) (result : RecordsResult) → result.count ≡ 0 → FailsWithStatus result.status (IsFileError (at_start bytes)) → ReadsFilePage bytes from entries result from entries
  no_page entries result none failed = record {
    records = [];
    base = 0;
    writes = record { count = none; written = refl; body_bytes_at = tt };
    fits = omega arith;
    ends = inl (refl, refl, failed);
  }

  module _ (reader : InMemoryReader) (parsed : ParsesFileAt bytes from (Ok reader)) where
    abbrev it : MemoryIter
    it = reader.records.records

    abbrev file : PerfFile
    file = reader.perf_file

    abbrev pub header_of : PerfHeader
    header_of = parsed.0.header

    pub at : IsAtPosition bytes from header_of file it
    at = parsed.0.at_position

    abbrev base : ℕ
    base = header_of.data_section.offset

    -- the first record starts at the start of the data section
    first_is_base : (records : List RecordView) (now : MemoryIter) (file' : PerfFile) → ReturnsRecords memory_state it file records now file' → (records ≡ []) ⊎ (first_record_offset_of reader.records ≡ base)
    first_is_base [] now file' all = inl refl
    first_is_base (h ∷ hs) now file' (next, (next_file, step, more)) =
        let first = first_record_offset_of reader.records in
        let start = at.offset in
        let placed : (iter_source_state memory_state it).bytes ≡ Some (drop (first + it.offset) (input_of reader.records)) = reader.records.in_place at.stage_running in
        let same : drop (first + it.offset) (input_of reader.records) ≡ drop (base + from.offset) bytes = (let e : Some (drop (first + it.offset) (input_of reader.records)) ≡ Some (drop (base + from.offset) bytes) = sym placed ∙ at.bytes_known in cc) in
        let one = step.header_bytes ++ h.body in
        let long = length-prefix (iter_source_state memory_state next).bytes (drop (base + from.offset) bytes) (step.markers ++ one) (sym at.bytes_known ∙ step.consumes.bytes) in
        let eight = step.header_len in
        inr (omega (arith, ap length same, length-drop (first + it.offset) (input_of reader.records), length-drop (base + from.offset) bytes, ap length parsed.1, start, long, length-append step.markers one, length-append step.header_bytes h.body, eight))

    -- late metadata don't add attributes in a file
    pub same_attributes : (records : List RecordView) → attributes_of_file file ++ attributes_in_views it.endian (section_size_of memory_state it) records ≡ attributes_of_file file
    same_attributes records = ap (λ l. attributes_of_file file ++ l) (no_attributes it.endian (section_size_of memory_state it) header_of.data_section.size records at.section_size) ∙ append-nil (attributes_of_file file)

    module _ (records : List RecordView) (now : InMemoryRecords) (now_file : PerfFile) (all : ReturnsRecordsInMemory reader.records file records now now_file) where
      pub streamed : (buffer : Vec ℕ Global) × ReturnsRecords memory_state it file records (with_buffer now.records buffer) now_file
      streamed = same_records reader.records now file now_file records all

      abbrev streaming : MemoryIter
      streaming = with_buffer now.records streamed.0

      pub first_at : (records ≡ []) ⊎ (first_record_offset_of reader.records ≡ base)
      first_at = first_is_base records streaming now_file streamed.1

      abbrev pub PageEnds : ℕ → Status → Type 0
      PageEnds capacity status = ((status ≡ Success) × (length records ≡ capacity)) ⊎ ((length records < capacity) × ((end : LayoutEnd) × FileRecordsFrom bytes (endian_of_file file) header_of (position_of now) (attributes_of_file file) [] end × (status ≡ layout_end_status end)))

      abbrev pub page_of : (capacity : ℕ) (status : Status) → PageEnds capacity status → IsPage bytes base from capacity records status (position_of now)
      page_of capacity status ends = record {
        file = file;
        header = header_of;
        describes = parsed.0.describes;
        first_record_at = refl;
        extends_remaining = λ rest end remain. extends bytes header_of file from it at streaming now_file records streamed.1 rest end remain;
        ends = ends;
        next_position = next_position bytes header_of file from it at streaming now_file records streamed.1;
        next_fits = fits_of memory_state it streaming file now_file records at.offset_fits streamed.1;
        next_round_fits = streaming.rounds_fit;
      }

      with_own_buffer : {A : Type 0} (new : InMemoryRecords) (file' : PerfFile) (r : Result A Error) → now.records.stage ≡ Running → WalkEnds now.records now_file r new.records file' → WalkEnds streaming now_file r new.records file'
      with_own_buffer new file' (Ok _) runs ended = same_end now new now_file file' streamed.0 runs ended
      with_own_buffer new file' (Err e) runs failed = same_error now new now_file file' e streamed.0 runs failed

      -- a page whose records end
      pub page_to_end : {A : Type 0} (capacity : ℕ) → length records < capacity → (new : InMemoryRecords) (file' : PerfFile) (r : Result A Error) → WalkEnds now.records now_file r new.records file' → NeedsMemoryInPipeOnly now r
          → PageEnds capacity (walk_status r)
      page_to_end capacity fewer new file' r ended needs =
          let here = at_next bytes header_of file from it at streaming now_file records streamed.1 in
          let found = ends_at bytes header_of file (position_of now) streaming here new.records now_file file' r (own_next bytes header_of file from it at streaming now_file records streamed.1)
          (with_own_buffer new file' r here.stage_running ended) (never_memory now header_of.data_section.size r here.section_size needs) in
          inr (fewer, (found.0, found.1, found.2))

    pub reads_file_page : (before after : List RecordEntry) (walked : PageWalk) (new : InMemoryRecords) (file' : PerfFile) → WalksPage reader.records file before walked new file' after
        → (result : RecordsResult) → result.count ≡ walked.count → result.status ≡ walk_status walked.end → ReadsFilePage bytes from before result walked.next after
    reads_file_page before after walked new file' w result count status =
        let first = first_record_offset_of reader.records in
        let ends : PageEnds w.records w.input_at_end w.file_at_end w.returned (length before) (walk_status walked.end) = elim w.ends [
          | inl full ↦ inl ((let e : walk_status walked.end ≡ Success = ap (λ r. walk_status r) full.0 in e), full.1)
          | inr ended ↦ page_to_end w.records w.input_at_end w.file_at_end w.returned (length before) ended.0 new file' walked.end ended.1 ended.2
        ] in
        let page = page_of w.records w.input_at_end w.file_at_end w.returned (length before) result.status (subst (PageEnds w.records w.input_at_end w.file_at_end w.returned (length before)) (sym status) ends) in
        record {
          records = w.records;
          base = base;
          writes = writes_at bytes first base 0 w.records before after result (first_at w.records w.input_at_end w.file_at_end w.returned) (count ∙ w.count) w.written
              (subst (λ l. HasBodiesAt l first w.records) parsed.1 w.body_bytes_at);
          fits = w.fits;
          ends = inr (subst (IsPage bytes base from (length before) w.records result.status) (sym w.next) page);
        }
