-- The result of a listing of a pipe's records.
use Rattle.std.proofs.Common.{ℕ, ◌++◌, List, [], ◌∷◌, refl, sym, subst, Option, None, Some, Result, Ok, Err, inl, inr}
use Rattle.std.specs.Prelude.{IfSome}
use Rattle.perfdata_listing.proofs.ListingLemmas.{lines_none}
use Rattle.perfdata_sources.specs.Source.{State}
use Rattle.perfdata_sources.proofs.ReadErrors.{none_or_paused}
use Rattle.perfdata_sections.specs.declared.error.Error.{Error}
use Rattle.linux_perf_data.specs.declared.records.iter.PerfRecordIter.{PerfRecordIter}
use Rattle.linux_perf_data.specs.declared.perf_file.PerfFile.{PerfFile}
use Rattle.linux_perf_data.specs.Iter.{iter_source_state}
use Rattle.linux_perf_data.specs.OpenedPipe.{EndsInOpening, KeepsPendingHeader, PipeParsed, PipeParseError}
use Rattle.linux_perf_data.specs.PerfFile.{attributes_of_file}
use Rattle.linux_perf_data.specs.PipeReading.{HoldsForPipeRest, IsCompletePipe}
use Rattle.linux_perf_data.specs.Reading.{AreFirstRecords}
use Rattle.linux_perf_data.proofs.PipeReadings.{error_there, first_after, first_none, first_there, opening_prefix, holds_all, parsed_none, parsed_there, source_error_there, pauses, whole_none, whole_there}
use Rattle.perfdata_listing.specs.steps.Listing.{ListedAll, ListedUntilFlushError, ListsRecords, ListsLiveRecords, ListingFails}
use Rattle.perfdata_listing.specs.PipeListing.{ListedPipeUntilFlushError, ListedPipe, ListsPipe, ListsLivePipe, ListedPipeUntilError, PipeListingFails}
use Rattle.perfdata_listing.specs.declared.list.ListFault.{ListFault}
use Rattle.perfdata_listing.specs.declared.list.ListCause.{ListCause}
use Rattle.perfdata_listing.specs.declared.list.ListCause.TheVariants.{Perf, Jit, Read, Write}
use Rattle.linux_perf_data.specs.Layout.{RecordView}
use Rattle.std.specs.Prelude.{Bool}

module _ (IsLine : RecordView → List ℕ → Type 0) (allocates : Bool) where
  module _ {R : Type 0} (state : R → State) (old : State) (file : PerfFile) (it : PerfRecordIter R) (o : PipeParsed state old file it) where
    abbrev before_first : List ℕ
    before_first = opening_prefix state old file it o

    module _ (k : KeepsPendingHeader state old before_first it) where
      listed_after_header : (new : PerfRecordIter R) (file' : PerfFile) (before after : Option (List ℕ)) (lines : ℕ) → ListedAll IsLine allocates state it file before after lines new file' → ListedPipe IsLine allocates old before after lines file'
      listed_after_header new file' before after lines l = record {
        endian = it.endian;
        metadata_records = o.raw_records;
        pending_header = Some k.header_bytes;
        opening = parsed_there state old file it o k;
        records = l.records;
        none_without_header = λ none. absurd cc;
        count = l.count;
        appends = l.appends;
        file_updated = holds_all state old file it o l.records file' l.file_updated;
        first = first_after state old file it o k l.records l.prefix;
        source_after = iter_source_state state new;
        complete = elim (l.complete k.stage_running) [
          | inl complete ↦ inl (whole_there state old file it o k l.records (complete (attributes_of_file file) o.represents))
          | inr paused ↦ inr (pauses state old file it o k (iter_source_state state new) paused.1)
        ];
      }

    module _ (e : EndsInOpening state old before_first it) where
      listed_none : (new : PerfRecordIter R) (file' : PerfFile) (before after : Option (List ℕ)) (lines : ℕ) → ListedAll IsLine allocates state it file before after lines new file' → ListedPipe IsLine allocates old before after lines file'
      listed_none new file' before after lines l =
          let none = l.none_if_ended e.stage_ended in record {
            endian = it.endian;
            metadata_records = o.raw_records;
            pending_header = None;
            opening = parsed_none state old file it o e;
            records = l.records;
            none_without_header = λ same. none;
            count = l.count;
            appends = l.appends;
            file_updated = holds_all state old file it o l.records file' l.file_updated;
            first = subst (λ rs. IfSome old.bytes (λ bytes. HoldsForPipeRest it.endian o.raw_records bytes (λ C. AreFirstRecords C rs))) (sym none) (first_none state old file it o e);
            source_after = state it.source;
            complete = elim (none_or_paused old (state it.source) e.ended_or_paused) [
              | inl is ↦ inl (subst (λ rs. IfSome old.bytes (IsCompletePipe it.endian o.raw_records rs)) (sym none) (whole_none state old file it o e is))
              | inr paused ↦ inr paused
            ];
          }

    pipe_listing_fails : (new : PerfRecordIter R) (before after : Option (List ℕ)) (lines : ℕ) (cause : ListCause) → KeepsPendingHeader state old before_first it → ListingFails IsLine allocates state it before after lines cause new → PipeListingFails IsLine allocates old before after lines cause
    pipe_listing_fails new before after lines (Perf e) k l = record {
      records = l.records;
      count = l.count;
      appends = l.appends;
      cause = inr (record {
        endian = it.endian;
        metadata_records = o.raw_records;
        pending_header = k.header_bytes;
        opening = parsed_there state old file it o k;
        source_after = iter_source_state state new;
        first = first_there state old file it o k l.records l.prefix;
        cause = λ other. elim (l.cause other) [ inl ends ↦ inl (error_there state old file it o k l.records e ends) | inr owes ↦ inr (source_error_there state old file it o k (iter_source_state state new) e owes) ];
      });
    }
    pipe_listing_fails new before after lines (Write e) k l = record {
      endian = it.endian;
      metadata_records = o.raw_records;
      pending_header = k.header_bytes;
      opening = parsed_there state old file it o k;
      records = l.records;
      next = l.next;
      count = l.count;
      wrote = l.wrote;
      first = first_there state old file it o k (l.records ++ l.next ∷ []) l.prefix;
    }
    pipe_listing_fails new before after lines (Jit e) k l = elim l [ ]
    pipe_listing_fails new before after lines (Read e) k l = elim l [ ]

    -- an iterator that has ended returns no error
    running_or_ended : (new : PerfRecordIter R) (before after : Option (List ℕ)) (lines : ℕ) (cause : ListCause) → EndsInOpening state old before_first it → ListingFails IsLine allocates state it before after lines cause new → ⊥
    running_or_ended new before after lines (Perf e) ended l = (let r = l.was_running in let s = ended.stage_ended in absurd cc)
    running_or_ended new before after lines (Write e) ended l = (let r = l.was_running in let s = ended.stage_ended in absurd cc)
    running_or_ended new before after lines (Jit e) ended l = elim l [ ]
    running_or_ended new before after lines (Read e) ended l = elim l [ ]

    -- a pipe is opened, and its records are listed
    pub lists_pipe : (new : PerfRecordIter R) (file' : PerfFile) (before after : Option (List ℕ)) (lines : ℕ) → ListedAll IsLine allocates state it file before after lines new file' → ListedPipe IsLine allocates old before after lines file'
    lists_pipe new file' before after lines l = elim o.end_of_opening [ inl k ↦ listed_after_header k new file' before after lines l | inr e ↦ listed_none e new file' before after lines l ]

    pub lists_pipe_until_error : (new : PerfRecordIter R) (before after : Option (List ℕ)) (lines : ℕ) (cause : ListCause) → ListingFails IsLine allocates state it before after lines cause new → PipeListingFails IsLine allocates old before after lines cause
    lists_pipe_until_error new before after lines cause l = elim o.end_of_opening [ inl k ↦ pipe_listing_fails new before after lines cause k l | inr e ↦ absurd (running_or_ended new before after lines cause e l) ]

    pub whole_pipe : (new : PerfRecordIter R) (file' : PerfFile) (before after : Option (List ℕ)) (r : Result ℕ ListFault) → ListsRecords IsLine allocates state it file before r after new file' → ListsPipe IsLine allocates old before r after
    whole_pipe new file' before after (Ok lines) l = (file', lists_pipe new file' before after lines l)
    whole_pipe new file' before after (Err error) l = lists_pipe_until_error new before after error.lines error.cause l

    -- the records are listed live, and then the flush of their lines fails
    pipe_until_flush_error : (before after : Option (List ℕ)) (lines : ℕ) → KeepsPendingHeader state old before_first it → ListedUntilFlushError IsLine allocates state it before after lines → ListedPipeUntilFlushError IsLine allocates old before after lines
    pipe_until_flush_error before after lines k listed = record {
      endian = it.endian;
      metadata_records = o.raw_records;
      pending_header = k.header_bytes;
      opening = parsed_there state old file it o k;
      records = listed.records;
      count = listed.count;
      appends = listed.appends;
      first = first_there state old file it o k listed.records listed.prefix;
    }

    pub live_pipe : (new : PerfRecordIter R) (file' : PerfFile) (before after : Option (List ℕ)) (r : Result ℕ ListFault) → ListsLiveRecords IsLine allocates state it file before r after new file' → ListsLivePipe IsLine allocates old before r after
    live_pipe new file' before after (Ok lines) l = (file', lists_pipe new file' before after lines l)
    live_pipe new file' before after (Err error) (inl failed) = inl (lists_pipe_until_error new before after error.lines error.cause failed)
    live_pipe new file' before after (Err error) (inr listed) = inr (
      listed.0,
      elim o.end_of_opening [
        | inl k ↦ pipe_until_flush_error before after error.lines k listed.1
        | inr ended ↦ (let r = listed.1.was_running in let s = ended.stage_ended in absurd cc)
      ],
    )

  -- opening a pipe fails
  pub pipe_open_error : {R : Type 0} (state : R → State) (old : State) (e : Error) (out : Option (List ℕ)) → PipeParseError state old e → ListedPipeUntilError IsLine allocates old out out 0 e
  pipe_open_error state old e out failed = record { records = []; count = refl; appends = lines_none IsLine allocates out; cause = inl (refl, (failed.final_state, failed.error)) }
