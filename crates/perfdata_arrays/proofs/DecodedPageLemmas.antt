-- A page of entries and frames, and those of a pipe.
use Rattle.std.proofs.Common.{◌≡◌, ◌⊎◌, ℕ, zero, suc, ◌+◌, ◌++◌, true, false, List, [], ◌∷◌, length, refl, sym, ap, ◌∙◌, subst, inl, inr, arith, length-append, None, Result, Ok, Err}
use Rattle.std.proofs.lemmas.Bool.Decides.{nat_tests}
use Rattle.std.specs.Prelude.{◌==◌, ◌-◌, if◌then◌else◌}
use Rattle.std.specs.List.{concat}
use Rattle.std.proofs.lemmas.List.{append_cancel_right}
use Rattle.perfdata_sources.specs.Source.{at_start}
use Rattle.perfdata_sections.specs.declared.error.Error.{Error}
use Rattle.linux_perf_data.specs.FileOpening.{IsFileError}
use Rattle.linux_perf_data.specs.InMemory.{MemoryIter}
use Rattle.linux_perf_data.specs.InMemoryPositions.{ParsesFileAt, position_of}
use Rattle.linux_perf_data.specs.InMemoryReading.{ParsesPipeInMemory, ReturnsRecordsInMemory, first_record_offset_of}
use Rattle.linux_perf_data.specs.Layout.{RecordView, attributes_in_records, attributes_in_views}
use Rattle.linux_perf_data.specs.PerfFile.{attributes_of_file, endian_of_file}
use Rattle.linux_perf_data.specs.PipeOpening.{IsPipeError}
use Rattle.linux_perf_data.specs.declared.in_memory.InMemoryReader.{InMemoryReader}
use Rattle.linux_perf_data.specs.declared.in_memory.InMemoryRecords.{InMemoryRecords}
use Rattle.linux_perf_data.specs.declared.in_memory.position.RecordPosition.{RecordPosition}
use Rattle.linux_perf_data.specs.declared.perf_file.PerfFile.{PerfFile}
use Rattle.perfdata_arrays.proofs.PageLemmas.{first_at, header_of, page_of, page_to_end, same_attributes}
use Rattle.perfdata_arrays.proofs.PipeRecordsLemmas.{PipeEnds, pipe_ends}
use Rattle.perfdata_arrays.proofs.WalkLemmas.{streams_records}
use Rattle.perfdata_arrays.specs.DecodedPages.{IsDecodedPage, IsDecodedPipe, ReadsDecodedPage, ReadsDecodedPipe, ReportsNoSpace, page_result}
use Rattle.perfdata_arrays.specs.steps.DecodedPages.{DecodesRecords, EndsWalk, RecordsEnd, attributes_after, result_of_end}
use Rattle.perfdata_arrays.specs.Decoding.{AreEntriesOf, EntryKind, wants_frames}
use Rattle.perfdata_arrays.specs.Records.{FailsWithStatus, IsPipeWithRecords}
use Rattle.perfdata_arrays.specs.Status.{error_status, walk_status}
use Rattle.perfdata_arrays.specs.declared.decoder.EntryCounts.{EntryCounts}
use Rattle.perfdata_arrays.specs.declared.pages.DecodingWalk.{DecodingWalk}
use Rattle.perfdata_arrays.specs.declared.pages.WalkEnd.{WalkEnd}
use Rattle.perfdata_arrays.specs.declared.pages.WalkEnd.TheVariants.{Full, Exceeded, Records}
use Rattle.perfdata_arrays.specs.declared.pages.PageResult.{PageResult}
use Rattle.perfdata_arrays.specs.declared.status.Status.{Status}
use Rattle.perfdata_arrays.specs.declared.status.Status.TheVariants.{NoSpace, Success}

module _ {A B : Type 0} (kind : EntryKind A B) where
  -- ---- a page

  -- the position is unchanged if the file doesn't open
  pub nothing_read : (bytes : List ℕ) (from : RecordPosition) (entries : List A) (frames : List B) (status : Status) (result : PageResult) → result ≡ page_result 0 0 status → FailsWithStatus status (IsFileError (at_start bytes))
      → ReadsDecodedPage kind bytes from entries frames result from entries frames
  nothing_read bytes from entries frames status result is failed = subst (λ r. ReadsDecodedPage kind bytes from entries frames r from entries frames) (sym is) record {
    own = [];
    own_frames = [];
    fits = omega arith;
    written = refl;
    frames_fit = omega arith;
    frames_written = refl;
    ends = inl (refl, refl, refl, refl, failed);
  }

  -- what a page without space reports
  reports : (count used : ℕ) (needed : EntryCounts) → ReportsNoSpace kind count used needed (result_of_end (Exceeded needed) count used)
  reports zero used needed = inl (refl, refl)
  reports (suc n) used needed =
      let other : (suc n == 0) ≡ false = grind (arith, nat_tests) in
      inr (omega arith, ap (λ b. if b then page_result needed.entries needed.frames NoSpace else page_result (suc n) used Success) other)

  module _ (bytes : List ℕ) (from : RecordPosition) (reader : InMemoryReader) (parsed : ParsesFileAt bytes from (Ok reader)) where
    abbrev file : PerfFile
    file = reader.perf_file

    abbrev base : ℕ
    base = (header_of bytes from reader parsed).data_section.offset

    abbrev first : ℕ
    first = first_record_offset_of reader.records

    module _ (capacity frames_capacity : ℕ) (records : List RecordView) (now : InMemoryRecords) (now_file : PerfFile) (all : ReturnsRecordsInMemory reader.records file records now now_file) (own : List A) (own_frames : List B)
        (are : AreEntriesOf (kind.Adds (wants_frames frames_capacity)) (endian_of_file file) (attributes_after reader.records file) first records own own_frames) (new : InMemoryRecords) (file' : PerfFile) where
      here : AreEntriesOf (kind.Adds (wants_frames frames_capacity)) (endian_of_file file) (λ _. attributes_of_file file) first records own own_frames
      here = subst (λ f. AreEntriesOf (kind.Adds (wants_frames frames_capacity)) (endian_of_file file) f first records own own_frames) (λ i. λ before. same_attributes bytes from reader parsed before i) are

      -- where another record follows, the first one is at the start of the data section
      next_at_base : (next : RecordView) → ReturnsRecordsInMemory reader.records file (records ++ next ∷ []) new file' → first ≡ base
      next_at_base next returned = elim (first_at bytes from reader parsed (records ++ next ∷ []) new file' returned) [
        | inl none ↦ absurd (omega (arith, ap length none, length-append records (next ∷ [])))
        | inr same ↦ same
      ]

      page_is : (end : WalkEnd) → EndsWalk kind false reader.records file records capacity frames_capacity (length own) (length own_frames) now now_file end new file'
          → IsDecodedPage kind bytes from capacity frames_capacity own own_frames (result_of_end end (length own) (length own_frames)) (position_of now)
      page_is Full (page, full) = record {
        records = records;
        base = base;
        first_record_offset = first;
        first_is_base = first_at bytes from reader parsed records now now_file all;
        records_capacity = length records;
        end = Success;
        page = page_of bytes from reader parsed records now now_file all (length records) Success (inl (refl, refl));
        are_entries = here;
        ends = inl (full, refl);
      }
      page_is (Exceeded needed) (page, fewer, f) = record {
        records = records;
        base = base;
        first_record_offset = first;
        first_is_base = first_at bytes from reader parsed records now now_file all;
        records_capacity = length records;
        end = Success;
        page = page_of bytes from reader parsed records now now_file all (length records) Success (inl (refl, refl));
        are_entries = here;
        ends = inr (inl (
          fewer,
          needed,
          record {
            next = f.next;
            own = f.own;
            own_frames = f.own_frames;
            adds = subst (λ n. kind.Adds (wants_frames frames_capacity) (endian_of_file file) (attributes_of_file file) n (length own_frames) f.next f.own f.own_frames) (next_at_base f.next f.returned)
                (subst (λ l. kind.Adds (wants_frames frames_capacity) (endian_of_file file) l first (length own_frames) f.next f.own f.own_frames) (same_attributes bytes from reader parsed (records ++ f.next ∷ [])) f.adds);
            exceeds = f.exceeds;
            after = position_of new;
            follows = page_of bytes from reader parsed (records ++ f.next ∷ []) new file' f.returned (length records + 1) Success (inl (refl, length-append records (f.next ∷ [])));
          },
          reports (length own) (length own_frames) needed,
        ));
      }
      page_is (Records (Ok x)) e = record {
        records = records;
        base = base;
        first_record_offset = first;
        first_is_base = first_at bytes from reader parsed records now now_file all;
        records_capacity = length records + 1;
        end = Success;
        page = page_of bytes from reader parsed records now now_file all (length records + 1) Success (page_to_end bytes from reader parsed records now now_file all (length records + 1) (omega arith) new file' (Ok x) e.ends e.in_pipe_only);
        are_entries = here;
        ends = inr (inr (e.fewer refl, omega arith, refl));
      }
      page_is (Records (Err error)) e = record {
        records = records;
        base = base;
        first_record_offset = first;
        first_is_base = first_at bytes from reader parsed records now now_file all;
        records_capacity = length records + 1;
        end = error_status error;
        page = page_of bytes from reader parsed records now now_file all (length records + 1) (error_status error) (page_to_end bytes from reader parsed records now now_file all {A = Unit {0}} (length records + 1) (omega arith) new file' (Err error) e.ends e.in_pipe_only);
        are_entries = here;
        ends = inr (inr (e.fewer refl, omega arith, refl));
      }

    pub page_read : (entries : List A) (frames : List B) (walk : DecodingWalk) (new : InMemoryRecords) (file' : PerfFile) (entries' : List A) (frames' : List B) (result : PageResult) → DecodesRecords kind false reader.records file entries frames walk new file' entries' frames'
        → result ≡ result_of_end walk.end walk.count walk.frames_count → ReadsDecodedPage kind bytes from entries frames result walk.next entries' frames'
    page_read entries frames walk new file' entries' frames' result w is =
        let fits = w.fits refl in
        record {
          own = w.own;
          own_frames = w.own_frames;
          fits = fits.0;
          written = w.written;
          frames_fit = fits.1;
          frames_written = w.frames_written;
          ends = inr (subst (λ r. IsDecodedPage kind bytes from (length entries) (length frames) w.own w.own_frames r walk.next) (sym (is ∙ (λ i. result_of_end walk.end (w.count_is i) (w.frames_count_is i))))
              (subst (IsDecodedPage kind bytes from (length entries) (length frames) w.own w.own_frames (result_of_end walk.end (length w.own) (length w.own_frames))) (sym w.next)
              (page_is (length entries) (length frames) w.records w.input_at_end w.file_at_end w.returned w.own w.own_frames w.are_entries new file' walk.end w.ends)));
        }

  -- ---- a pipe

  pub nothing_in_pipe : (bytes : List ℕ) (entries : List A) (frames : List B) (status : Status) (result : PageResult) → result ≡ page_result 0 0 status → FailsWithStatus status (IsPipeError bytes) → ReadsDecodedPipe kind bytes entries frames result entries frames
  nothing_in_pipe bytes entries frames status result is failed = subst (λ r. ReadsDecodedPipe kind bytes entries frames r entries frames) (sym is) record {
    own = [];
    own_frames = [];
    count_is = refl;
    frames_count_is = refl;
    written = refl;
    frames_written = refl;
    ends = inl (refl, refl, failed);
  }

  module _ (bytes : List ℕ) (reader : InMemoryReader) (parsed : ParsesPipeInMemory bytes (Ok reader)) where
    abbrev pipe_file : PerfFile
    pipe_file = reader.perf_file

    abbrev it : MemoryIter
    it = reader.records.records

    module _ (entries : List A) (frames : List B) (walk : DecodingWalk) (new : InMemoryRecords) (file' : PerfFile) (entries' : List A) (frames' : List B) (w : DecodesRecords kind true reader.records pipe_file entries frames walk new file' entries' frames') where
      -- the walk ends with the records
      abbrev EndsWith : Result (Unit {0}) Error → Type 0
      EndsWith r = RecordsEnd kind true reader.records pipe_file w.records (length entries) (length w.own) w.input_at_end w.file_at_end r new file'

      ends_with : (end : WalkEnd) → EndsWalk kind true reader.records pipe_file w.records (length entries) (length frames) (length w.own) (length w.own_frames) w.input_at_end w.file_at_end end new file' → (r : Result (Unit {0}) Error) × (end ≡ Records r) × EndsWith r
      ends_with Full (page, _) = absurd cc
      ends_with (Exceeded needed) (page, _, _) = absurd cc
      ends_with (Records r) e = (r, refl, e)

      module _ (r : Result (Unit {0}) Error) (e : EndsWith r) where
        pipe_ends_there : PipeEnds bytes reader parsed w.records (walk_status r) file'
        pipe_ends_there =
            let s = streams_records reader.records w.input_at_end new pipe_file w.file_at_end file' w.records r w.returned e.ends e.for_metadata_only in
            pipe_ends bytes reader parsed s.iter_at_end new.records s.file_at_end file' w.records s.returned r s.ends s.memory

        abbrev is_pipe : IsPipeWithRecords bytes w.records file' (walk_status r)
        is_pipe = record {
          endian = it.endian;
          metadata_records = pipe_ends_there.metadata_records;
          rest = pipe_ends_there.rest;
          has_opening = pipe_ends_there.opening;
          after_opening = pipe_ends_there.after_opening;
          ends = pipe_ends_there.end_is;
          file_matches = pipe_ends_there.holds;
        }

        -- the attributes of the opening
        of_opening : attributes_of_file pipe_file ≡ attributes_in_records it.endian None is_pipe.metadata_records
        of_opening =
            let views = attributes_in_views it.endian None w.records in
            append_cancel_right (attributes_of_file pipe_file) (attributes_in_records it.endian None is_pipe.metadata_records) views
            (sym (e.attributes_are ∙ (λ i. attributes_of_file pipe_file ++ attributes_in_views it.endian (parsed.0.section_size i) w.records)) ∙ is_pipe.file_matches.attributes)

        attributes_are : (before : List RecordView) → attributes_after reader.records pipe_file before ≡ attributes_in_records it.endian None is_pipe.metadata_records ++ attributes_in_views it.endian None before
        attributes_are before = λ i. of_opening i ++ attributes_in_views it.endian (parsed.0.section_size i) before

        -- the first record is after the opening
        first_after_opening : (records : List RecordView) → (records ≡ []) ⊎ (first_record_offset_of reader.records ≡ length bytes - length pipe_ends_there.rest)
            → (records ≡ []) ⊎ (first_record_offset_of reader.records + length pipe_ends_there.rest ≡ length bytes)
        first_after_opening records (inl none) = inl none
        first_after_opening records (inr is) =
            let opening = pipe_ends_there.opening in
            let metadata = concat pipe_ends_there.metadata_records in
            inr (omega (arith, is, ap length opening.split, length-append opening.header (metadata ++ pipe_ends_there.rest), length-append metadata pipe_ends_there.rest))

        is_decoded_pipe : IsDecodedPipe kind bytes w.own w.own_frames (walk_status r)
        is_decoded_pipe = record {
          records = w.records;
          file = file';
          is_pipe = is_pipe;
          first_record_offset = first_record_offset_of reader.records;
          first_record_at = first_after_opening w.records pipe_ends_there.first_record_at;
          are_entries = subst (λ o. AreEntriesOf (kind.Adds true) o (λ before. attributes_in_records it.endian None is_pipe.metadata_records ++ attributes_in_views it.endian None before) (first_record_offset_of reader.records) w.records w.own w.own_frames) (sym parsed.0.same_endian)
              (subst (λ f. AreEntriesOf (kind.Adds true) (endian_of_file pipe_file) f (first_record_offset_of reader.records) w.records w.own w.own_frames) (λ i. λ before. attributes_are before i) w.are_entries);
        }

      pub pipe_read : (result : PageResult) → result ≡ result_of_end walk.end walk.count walk.frames_count → ReadsDecodedPipe kind bytes entries frames result entries' frames'
      pipe_read result is =
          let found = ends_with walk.end w.ends in
          subst (λ x. ReadsDecodedPipe kind bytes entries frames x entries' frames') (sym (is ∙ ap (λ end. result_of_end end walk.count walk.frames_count) found.1)) record {
            own = w.own;
            own_frames = w.own_frames;
            count_is = w.count_is;
            frames_count_is = w.frames_count_is;
            written = w.written;
            frames_written = w.frames_written;
            ends = inr (is_decoded_pipe found.0 found.2);
          }
