-- The result of a listing of records.
use Rattle.std.proofs.Common.{◌≡◌, ◌≢◌, ℕ, ◌+◌, ◌++◌, List, [], ◌∷◌, length, length-append, refl, ap, ◌∙◌, sym, subst, arith, Option}
use Rattle.perfdata_sources.specs.Source.{State}
use Rattle.linux_perf_data.specs.declared.records.iter.PerfRecordIter.{PerfRecordIter}
use Rattle.linux_perf_data.specs.declared.records.iter.Stage.TheVariants.{Running, Ended}
use Rattle.linux_perf_data.specs.Layout.{RecordView}
use Rattle.linux_perf_data.specs.BufferedRecord.{IsFinished}
use Rattle.linux_perf_data.specs.Iter.{iter_source_state, section_size_of, ReturnsEnd, ReturnsRecord, ReturnsError}
use Rattle.linux_perf_data.specs.LateMetadata.{AccumulatesMetadata}
use Rattle.perfdata_sections.specs.declared.error.Error.TheVariants.{Memory}
use Rattle.perfdata_sections.specs.declared.error.Error.{Error}
use Rattle.std.specs.Prelude.{Bool, Result, Ok, Err, IsTrue, true, suc}
use Rattle.std.proofs.Common.{inl, inr}
use Rattle.std.specs.Io.KnownBytes.{Appends, Keeps}
use Rattle.std.proofs.KnownBytes.{Appends-trans, Appends-nil, Appends-kept}
use Rattle.perfdata_listing_lines.specs.Output.{AppendsPrefix}
use Rattle.perfdata_listing.specs.declared.list.ListFault.{ListFault}
use Rattle.perfdata_listing.specs.declared.list.ListCause.{ListCause}
use Rattle.perfdata_listing.specs.declared.list.ListCause.TheVariants.{Perf, Jit, Read, Write}
use Rattle.linux_perf_data.specs.Layout.{ends_complete, ends_with_error, LayoutError}
use Rattle.linux_perf_data.specs.RecordFraming.{IsErrorFor}
use Rattle.linux_perf_data.specs.OpenedFile.{FileParsed, FileOpensAt, FileParseError}
use Rattle.linux_perf_data.specs.PerfFile.{attributes_of_file}
use Rattle.linux_perf_data.specs.declared.perf_file.PerfFile.{PerfFile}
use Rattle.linux_perf_data.specs.Reading.{AreFirstRecords, ReturnsRecords}
use Rattle.linux_perf_data.specs.steps.Reading.{HasMatchingFile, HasNotFailed}
use Rattle.linux_perf_data.specs.FileReading.{HoldsForFile}
use Rattle.linux_perf_data.proofs.FileReadings.{error_in_file, file_source_error, first_in_file, first_of, returns_records_more, holds_of, if_some_each, none_of, stops_of, whole_in_file, whole_of}
use Rattle.perfdata_listing.specs.Listing.{AreLines, no_lines, CalledFlushed, CallsFlushed, next_line, WritesLines, WritesRecord, WrotePrefix, ListsNext, ListedFileUntilError, ListsFile, FileListingFails}
use Rattle.perfdata_listing_lines.specs.ListingLine.{IsPlainLine}
use Rattle.perfdata_listing.specs.steps.Listing.{record_lines, ListedAll, ListedUntilError, ListedPartOfNext, ListedUntilFlushError, ListsRecords, ListingFails}
use Rattle.std.proofs.lemmas.List.{flat_map_more}
use Rattle.perfdata_listing_lines.specs.ListingLine.{record_line}

module _ (IsLine : RecordView → List ℕ → Type 0) (allocates : Bool) where
  -- no lines, the same lines, and one more line
  pub lines_none : (out : Option (List ℕ)) → WritesLines IsLine allocates out out []
  lines_none out = record { text = []; lines = no_lines; appends = Appends-nil out }

  pub lines_kept : (a b c : Option (List ℕ)) (records : List RecordView) → WritesLines IsLine allocates a b records → Keeps b c → WritesLines IsLine allocates a c records
  lines_kept a b c records lines kept = record { text = lines.text; lines = lines.lines; appends = Appends-kept a b c lines.text lines.appends kept }

  pub lines_more : (a b c : Option (List ℕ)) (records : List RecordView) (h : RecordView) → WritesLines IsLine allocates a b records → (line : List ℕ) × IsLine h line × Appends b c line → WritesLines IsLine allocates a c (records ++ h ∷ [])
  lines_more a b c records h lines more = record {
    text = lines.text ++ more.0;
    lines = next_line records lines.text h more.0 lines.lines more.1;
    appends = Appends-trans a b c lines.text more.0 lines.appends more.2;
  }

  -- lines are written, and a proper prefix of the next line
  pub wrote_prefix : (a b c : Option (List ℕ)) (records : List RecordView) (h : RecordView) → WritesLines IsLine allocates a b records → (line : List ℕ) × IsLine h line × AppendsPrefix b c line → WrotePrefix IsLine allocates a c records h
  wrote_prefix a b c records h lines next = record {
    text = lines.text;
    lines = lines.lines;
    line = next.0;
    is_line = next.1;
    count = next.2.count;
    is_partial = next.2.is_partial;
    appends = Appends-trans a b c lines.text _ lines.appends next.2.appends;
  }

  module _ {R : Type 0} (state : R → State) where
    -- an iterator that hasn't ended after returning records was running before them
    pub was_running : (it now : PerfRecordIter R) (file file' : PerfFile) (records : List RecordView) → HasNotFailed it → ReturnsRecords state it file records now file' → (now.stage ≢ Ended) → it.stage ≡ Running
    was_running it now file file' records not_failed all runs = elim not_failed.stage [
      | inl running ↦ running
      | inr ended ↦ absurd (runs (ap (λ i. i.stage) (none_of state it now file file' records ended all).1 ∙ ended))
    ]

    -- the listing so far
    abbrev pub SoFar : PerfRecordIter R → PerfFile → Option (List ℕ) → ℕ → Option (List ℕ) → PerfRecordIter R → PerfFile → Type 0
    SoFar old file before lines after now file' = (records : List RecordView) × (lines ≡ length records) × WritesLines IsLine allocates before after records × ReturnsRecords state old file records now file'

    pub so_far_none : (it : PerfRecordIter R) (file : PerfFile) (out : Option (List ℕ)) → SoFar it file out 0 out it file
    so_far_none it file out = ([], refl, lines_none out, (refl, refl))

    pub so_far_kept : {old now : PerfRecordIter R} {file file' : PerfFile} {lines : ℕ} → (before mid after : Option (List ℕ)) → SoFar old file before lines mid now file' → Keeps mid after → SoFar old file before lines after now file'
    so_far_kept before mid after all kept = (all.0, all.1, lines_kept before mid after all.0 all.2 kept, all.3)

    pub so_far_more : {old now new : PerfRecordIter R} {file now_file file' : PerfFile} {lines : ℕ} → (before mid after : Option (List ℕ)) → SoFar old file before lines mid now now_file
        → (step : (h : RecordView) × ReturnsRecord state now now_file h new file' × WritesRecord IsLine allocates h mid (Ok tt) after) → SoFar old file before (lines + 1) after new file'
    so_far_more {old} {now} {new} {file} {now_file} {file'} {lines} before mid after all step =
        let h : RecordView = step.0 in
        let records : List RecordView = all.0 in (
          records ++ h ∷ [],
          (let n = all.1 in omega (arith, n, length-append records (h ∷ []))),
          lines_more before mid after records h all.2 step.2,
          returns_records_more state old now new file now_file file' records h all.3 step.1,
        )

    pub listed_part_of_next : {old now new : PerfRecordIter R} {file now_file file' : PerfFile} {lines : ℕ} → (before mid after : Option (List ℕ)) → HasNotFailed old → SoFar old file before lines mid now now_file
        → (step : (h : RecordView) × ReturnsRecord state now now_file h new file' × ((line : List ℕ) × IsLine h line × AppendsPrefix mid after line)) → ListedPartOfNext IsLine allocates state old before after lines
    listed_part_of_next {old} {now} {new} {file} {now_file} {file'} {lines} before mid after not_failed all step =
        let h : RecordView = step.0 in
        let records : List RecordView = all.0 in
        let returned : ReturnsRecord state now now_file h new file' = step.1 in
        record {
          was_running = was_running old now file now_file records not_failed all.3 (λ ended. let r = returned.was_running in absurd cc);
          records = records;
          next = h;
          count = all.1;
          wrote = wrote_prefix before mid after records h all.2 step.2;
          prefix = first_of state old new file file' (records ++ h ∷ []) not_failed.offset_fits (returns_records_more state old now new file now_file file' records h all.3 returned);
        }

    pub listed_all : {old now new : PerfRecordIter R} {file now_file file' : PerfFile} {lines : ℕ} → (before mid after : Option (List ℕ)) → HasNotFailed old → SoFar old file before lines mid now now_file
        → ReturnsEnd state now now_file new file' × Keeps mid after → ListedAll IsLine allocates state old file before after lines new file'
    listed_all {old} {now} {new} {file} {now_file} {file'} {lines} before mid after not_failed all (ended, kept) =
        let records : List RecordView = all.0 in
        record {
          records = records;
          count = all.1;
          appends = lines_kept before mid after records all.2 kept;
          prefix = first_of state old now file now_file records not_failed.offset_fits all.3;
          complete = λ running. whole_of state old now new file now_file file' records running all.3 ended;
          none_if_ended = λ ended. (none_of state old now file now_file records ended all.3).0;
          file_updated = subst (λ f. AccumulatesMetadata old.endian (section_size_of state old) records file f) (sym ended.file_unchanged) (holds_of state old now file now_file records all.3);
        }

    pub listed_until_error : {old now new : PerfRecordIter R} {file now_file file' : PerfFile} {lines : ℕ} {e : Error} → (before mid after : Option (List ℕ)) → HasNotFailed old → HasMatchingFile state old file → SoFar old file before lines mid now now_file
        → ReturnsError state now now_file e new file' × Keeps mid after → ListedUntilError IsLine allocates state old before after lines e new
    listed_until_error {old} {now} {new} {file} {now_file} {file'} {lines} {e} before mid after not_failed matching_file all (failed, kept) =
        let records : List RecordView = all.0 in
        let running = was_running old now file now_file records not_failed all.3 failed.not_ended in
        record {
          was_running = running;
          records = records;
          count = all.1;
          appends = lines_kept before mid after records all.2 kept;
          prefix = first_of state old now file now_file records not_failed.offset_fits all.3;
          cause = λ other. stops_of state old now new file now_file file' records e running matching_file all.3 failed other;
        }

    pub listed_until_memory : {old now new : PerfRecordIter R} {file now_file file' : PerfFile} {lines : ℕ} {e : Error} → (before mid after : Option (List ℕ)) → HasNotFailed old → SoFar old file before lines mid now now_file
        → (step : (h : RecordView) × ReturnsRecord state now now_file h new file' × (IsTrue allocates × (e ≡ Memory) × Keeps mid after)) → ListedUntilError IsLine allocates state old before after lines e new
    listed_until_memory {old} {now} {new} {file} {now_file} {file'} {lines} {e} before mid after not_failed all step =
        let records : List RecordView = all.0 in
        let returned : ReturnsRecord state now now_file step.0 new file' = step.1 in
        record {
          was_running = was_running old now file now_file records not_failed all.3 (λ ended. let r = returned.was_running in absurd cc);
          records = records;
          count = all.1;
          appends = lines_kept before mid after records all.2 step.2.2;
          prefix = first_of state old now file now_file records not_failed.offset_fits all.3;
          cause = λ other. absurd (other step.2.1);
        }

    pub listed_until_flush_error : {old now : PerfRecordIter R} {file now_file : PerfFile} {lines : ℕ} → (before mid after : Option (List ℕ)) → HasNotFailed old → SoFar old file before lines mid now now_file
        → ¬ IsFinished state now → Keeps mid after → ListedUntilFlushError IsLine allocates state old before after lines
    listed_until_flush_error {old} {now} {file} {now_file} {lines} before mid after not_failed all running kept =
        let records : List RecordView = all.0 in
        record {
          was_running = was_running old now file now_file records not_failed all.3 (λ ended. running (inl (λ runs. absurd cc)));
          records = records;
          count = all.1;
          appends = lines_kept before mid after records all.2 kept;
          prefix = first_of state old now file now_file records not_failed.offset_fits all.3;
        }

    pub records_listing_fails : {old now : PerfRecordIter R} {file now_file : PerfFile} {lines : ℕ} → (before mid after : Option (List ℕ)) (new : PerfRecordIter R) (file' : PerfFile) (cause : ListCause) → HasNotFailed old → HasMatchingFile state old file → SoFar old file before lines mid now now_file
        → ListsNext IsLine allocates state now now_file mid (Err cause) after new file' → ListingFails IsLine allocates state old before after lines cause new
    records_listing_fails before mid after new file' (Perf e) not_failed matching_file all (inl step) = listed_until_error before mid after not_failed matching_file all step
    records_listing_fails before mid after new file' (Perf e) not_failed matching_file all (inr step) = listed_until_memory before mid after not_failed all step
    records_listing_fails before mid after new file' (Write e) not_failed matching_file all (inl step) = elim step [ ]
    records_listing_fails before mid after new file' (Write e) not_failed matching_file all (inr step) = listed_part_of_next before mid after not_failed all step
    records_listing_fails before mid after new file' (Jit e) not_failed matching_file all (inl step) = elim step [ ]
    records_listing_fails before mid after new file' (Jit e) not_failed matching_file all (inr step) = elim step.2 [ ]
    records_listing_fails before mid after new file' (Read e) not_failed matching_file all (inl step) = elim step [ ]
    records_listing_fails before mid after new file' (Read e) not_failed matching_file all (inr step) = elim step.2 [ ]

    listing_fails : (old : State) (file : PerfFile) (it new : PerfRecordIter R) (before after : Option (List ℕ)) (lines : ℕ) (cause : ListCause) → FileParsed state old file it → ListingFails IsLine allocates state it before after lines cause new → FileListingFails IsLine allocates old before after lines cause
    listing_fails old file it new before after lines (Perf e) o listed = record {
      records = listed.records;
      count = listed.count;
      appends = listed.appends;
      source_after = iter_source_state state new;
      cause = inr (
        if_some_each old.position (λ p. FileOpensAt state p file it) (λ p. HoldsForFile p (λ Remaining. AreFirstRecords Remaining listed.records)) (λ p opened. first_in_file state p file it opened o.at_first_record.represents listed.records listed.prefix) o.file_opened,
        λ other. elim (listed.cause other) [
          | inl ends ↦ inl (if_some_each old.position (λ p. FileOpensAt state p file it) (λ p. HoldsForFile p (λ Remaining. (f : LayoutError) × Remaining listed.records (ends_with_error f) × IsErrorFor f e)) (λ p opened. error_in_file state p file it opened o.at_first_record.represents listed.records e ends) o.file_opened)
          | inr owes ↦ inr (file_source_error state old file it new e o owes)
        ],
      );
    }
    listing_fails old file it new before after lines (Write e) o listed = record {
      records = listed.records;
      next = listed.next;
      count = listed.count;
      wrote = listed.wrote;
      prefix = if_some_each old.position (λ p. FileOpensAt state p file it) (λ p. HoldsForFile p (λ Remaining. AreFirstRecords Remaining (listed.records ++ listed.next ∷ []))) (λ p opened. first_in_file state p file it opened o.at_first_record.represents (listed.records ++ listed.next ∷ []) listed.prefix) o.file_opened;
    }
    listing_fails old file it new before after lines (Jit e) o listed = elim listed [ ]
    listing_fails old file it new before after lines (Read e) o listed = elim listed [ ]

    -- a file is opened, and its records are listed
    pub lists_file : (old : State) (file file' : PerfFile) (it new : PerfRecordIter R) (before after : Option (List ℕ)) (r : Result ℕ ListFault) → FileParsed state old file it → ListsRecords IsLine allocates state it file before r after new file' → ListsFile IsLine allocates old before r after
    lists_file old file file' it new before after (Ok lines) o listed = record {
      records = listed.records;
      count = listed.count;
      appends = listed.appends;
      complete = if_some_each old.position (λ p. FileOpensAt state p file it) (λ p. HoldsForFile p (λ Remaining. Remaining listed.records ends_complete))
          (λ p opened. (file, (opened.header, opened.describes, opened.iter_to_file listed.records ends_complete (whole_in_file state old file it new listed.records o (listed.complete o.at_first_record.stage_running) (attributes_of_file file) o.at_first_record.represents)))) o.file_opened;
    }
    lists_file old file file' it new before after (Err error) o listed = listing_fails old file it new before after error.lines error.cause o listed

  -- one more call for a record, with no byte pending if it may block
  module _ {R W : Type 0} (state : R → State) (pending : W → List ℕ) (contents : W → Option (List ℕ)) where
    pub more_flushed : (count : ℕ) (old : PerfRecordIter R) (file : PerfFile) (before : W) {last new : PerfRecordIter R} {last_file file' : PerfFile} {last_out after : W} → CallsFlushed IsLine allocates state pending contents count old file before last_out last last_file
        → CalledFlushed IsLine allocates state pending contents last last_file last_out (Ok true) after new file' → CallsFlushed IsLine allocates state pending contents (count + 1) old file before after new file'
    more_flushed count old file before {last} {new} {last_file} {file'} {last_out} {after} calls call =
        let next : suc count ≡ count + 1 = omega arith in
        subst (λ n. CallsFlushed IsLine allocates state pending contents n old file before after new file') next (last, last_file, last_out, calls, call)

  -- opening a file fails
  pub file_open_error : (old : State) (e : Error) (out : Option (List ℕ)) → FileParseError old e → ListedFileUntilError IsLine allocates old out out 0 e
  file_open_error old e out failed = record { records = []; count = refl; appends = lines_none out; source_after = failed.final_state; cause = inl (refl, failed.cause) }

-- plain lines are the text of the records
pub plain_lines_are_record_lines : {records : List RecordView} {text : List ℕ} → AreLines IsPlainLine records text → text ≡ record_lines records
plain_lines_are_record_lines no_lines = refl
plain_lines_are_record_lines (next_line records text h line lines is) = (λ i. plain_lines_are_record_lines lines i ++ is i) ∙ flat_map_more record_line [] records h
