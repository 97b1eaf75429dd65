-- Lemmas on a step of a `PerfRecordIter`, after the markers before it.
use Rattle.std.proofs.Common.{◌≡◌, ℕ, ◌+◌, ◌-◌, ◌^◌, ◌<◌, ◌≤◌, [], Option, None, Some, Result, Ok, Err, refl, sym, ap, ◌∙◌, subst, inl, inr, arith, eq-eqb, vec_capacity}
use Rattle.std.specs.Prelude.{◌⊎◌, if◌then◌else◌, Vec}
use Rattle.std.specs.declared.alloc.Global.{Global}
use Rattle.perfdata_sources.specs.Source.{State}
use Rattle.perfdata_sources.proofs.ConsumedLemmas.{consumed_none}
use Rattle.perfdata_sections.specs.declared.error.Error.{Error}
use Rattle.perfdata_sections.specs.declared.error.Error.TheVariants as error
use Rattle.linux_perf_data.specs.declared.records.iter.PerfRecordIter.{PerfRecordIter}
use Rattle.linux_perf_data.specs.declared.records.iter.IdentifiedRecord.{IdentifiedRecord}
use Rattle.linux_perf_data.specs.declared.records.iter.IdentifiedItem.{IdentifiedItem}
use Rattle.linux_perf_data.specs.declared.records.iter.IdentifiedItem.TheVariants.{Record, RoundEnd}
use Rattle.linux_perf_data.specs.declared.records.iter.Stage.TheVariants.{Running}
use Rattle.linux_perf_data.specs.declared.perf_file.PerfFile.{PerfFile}
use Rattle.linux_perf_data.specs.RecordViews.{record_view_with}
use Rattle.linux_perf_data.specs.Iter.{iter_source_state, ReturnsRecord, ReturnsEnd, ReturnsError, NeedsLargerBuffer, BuffersMetadata, MemoryOnlyToGrow}
use Rattle.linux_perf_data.specs.Items.{ReturnsRoundEnd}
use Rattle.linux_perf_data.specs.Pauses.{PausesOnlyAtEndOrError}
use Rattle.linux_perf_data.specs.steps.ItemSteps.{StepsToRecord, StepsOverMarker, StepsToEnd, StepsToError, Steps, AdvancesItem}
use Rattle.linux_perf_data.proofs.RecordHeaders.{record_least}
use Rattle.linux_perf_data.proofs.IterCalls.{Idles, running_not_ended, running_not_failed, idles_on, returns_record, marker_next, stops, late_stops, larger_buffer, buffers_metadata, section_ends, pipe_ends, same_later}

module _ {R : Type 0} (state : R → State) where
  -- the buffer is emptied, and nothing is read
  pub idles_none : (old : PerfRecordIter R) (body : Vec ℕ Global) (fit : old.round ≤ old.offset) → old.stage ≡ Running → old.offset < 2 ^ 64 → body.items ≡ [] → Idles state old (record old { body = body; rounds_fit = fit })
  idles_none old body fit ran fits empty = record {
    ran = ran;
    runs = ran;
    same = record { same_endian = refl; section_size = refl };
    known = refl;
    empty = empty;
    fits = fits;
    markers = [];
    offset = omega arith;
    skipped_markers = record { raw_records = []; split = refl; elements = _ };
    round = omega arith;
    consumption = consumed_none (iter_source_state state old);
    before = λ rest attrs rs e come. come;
  }

  pub step_record : (old now new : PerfRecordIter R) (file file' : PerfFile) (found : IdentifiedRecord) → Idles state old now → StepsToRecord state now file found new file'
      → ReturnsRecord state old file (record_view_with new.attribute_lookup found new.endian new.body.items) new file'
  step_record old now new file file' found i s = returns_record state old now s.piece new file file' s.header found i s.raw_record s.no_marker s.may_start s.processed

  pub step_marker : (old now new : PerfRecordIter R) (file file' : PerfFile) (ended : ℕ) → Idles state old now → StepsOverMarker state now file ended new file' → Idles state old new
  step_marker old now new file file' ended i s = idles_on state old now new s.header i s.raw_record s.marker s.may_start

  pub step_end : (old now new : PerfRecordIter R) (file file' : PerfFile) → Idles state old now → StepsToEnd state now file new file' → ReturnsEnd state old file new file'
  step_end old now new file file' i s = record {
    stage_ended = s.stage_ended;
    not_failed = running_not_failed old.stage i.ran;
    if_ended = λ ended. absurd (running_not_ended old.stage i.ran ended);
    if_running = λ _. elim s.cause [
      | inl section ↦ section_ends state old now new i section.ends section.stopped section.offset
      | inr pipe ↦ pipe_ends state old now pipe.piece new i pipe.truncated pipe.stopped pipe.offset
    ];
    file_unchanged = s.file_unchanged;
  }

  pub step_error : (old now new : PerfRecordIter R) (file file' : PerfFile) (e : Error) → Idles state old now → StepsToError state now file e new file' → ReturnsError state old file e new file'
  step_error old now new file file' e i s = record {
    stage_failed = s.stage_failed;
    not_ended = running_not_ended old.stage i.ran;
    if_failed = λ failed. absurd (running_not_failed old.stage i.ran failed);
    only_if_failed = λ is. elim s.cause [
      | inl reading ↦ absurd (reading.read_error.error.not_failed is)
      | inr processing ↦ absurd (processing.rejected.not_failed is)
    ];
    if_running = λ _. elim s.cause [
      | inl reading ↦ stops state old now reading.piece new file e i s.may_start reading.read_error reading.stopped reading.offset
      | inr processing ↦ late_stops state old now processing.piece processing.rejecting new file file' processing.header e i processing.raw_record processing.no_marker s.may_start processing.rejected processing.stopped processing.offset
    ];
    same_file = elim s.cause [
      | inl reading ↦ same_later file' file reading.file_unchanged
      | inr processing ↦ processing.rejected.same_file
    ];
  }

  -- the end doesn't move the iterator
  pub step_end_offset : (old new : PerfRecordIter R) (file file' : PerfFile) → StepsToEnd state old file new file' → new.offset ≡ old.offset
  step_end_offset old new file file' s = elim s.cause [
    | inl section ↦ section.offset
    | inr pipe ↦ pipe.offset ∙ pipe.truncated.offset
  ]

  -- an error doesn't move it
  pub step_error_offset : (old new : PerfRecordIter R) (file file' : PerfFile) (e : Error) → StepsToError state old file e new file' → new.offset ≡ old.offset
  step_error_offset old new file file' e s = elim s.cause [
    | inl reading ↦ reading.offset ∙ reading.read_error.offset
    | inr processing ↦ processing.offset
  ]

  -- memory runs out for a larger buffer or for metadata
  pub step_memory : (old now new : PerfRecordIter R) (file file' : PerfFile) (e : Error) → Idles state old now → vec_capacity old.body ≤ vec_capacity now.body → StepsToError state now file e new file' → e ≡ error.Memory
      → NeedsLargerBuffer state old new ⊎ BuffersMetadata state old new
  step_memory old now new file file' e i kept s m = elim s.cause [
    | inl reading ↦ inl (larger_buffer state old now reading.piece new i kept (reading.only_to_grow m) reading.stopped)
    | inr processing ↦
        let buffers = buffers_metadata state old now processing.piece processing.rejecting file file' processing.header e i processing.raw_record processing.no_marker processing.rejected in
        inr (buffers.0, (buffers.1.0, buffers.1.1, buffers.1.2, ap (λ v. v.items) processing.stopped.body ∙ buffers.1.3))
  ]

  -- the next raw record is a marker
  pub step_round_end : (old : PerfRecordIter R) (body : Vec ℕ Global) (fit : old.round ≤ old.offset) (new : PerfRecordIter R) (file file' : PerfFile) (ended : ℕ) → old.stage ≡ Running → StepsOverMarker state (record old { body = body; rounds_fit = fit }) file ended new file'
      → ReturnsRoundEnd state old file ended new file'
  step_round_end old body fit new file file' ended ran s =
      let t = s.raw_record in
      record {
        was_running = ran;
        stage_running = t.stage ∙ ran;
        same_input = record { same_endian = t.same_input.same_endian; section_size = t.same_input.section_size };
        same_attributes = t.attribute_lookup;
        ended_round = s.ended_round;
        round = t.round ∙ ap (λ b. if b then old.round + 1 else old.round) (eq-eqb s.header.type_ 68 s.marker);
        marker = t.raw_record;
        may_start = s.may_start;
        is_record = t.is_record;
        is_marker = t.record_type ∙ s.marker;
        consumes = t.consumes;
        no_pending_header = t.no_pending_header;
        offset = t.offset;
        offset_fits = t.offset_fits;
        same_remaining = λ rest attrs rs e come. marker_next state (record old { body = body; rounds_fit = fit }) new s.header t s.marker s.may_start rest attrs rs e come;
        empty_buffer = t.empty_if_marker s.marker;
        file_unchanged = s.file_unchanged;
      }

  -- a marker moves the iterator on
  pub step_advances : (old new : PerfRecordIter R) (file file' : PerfFile) (ended : ℕ) → StepsOverMarker state old file ended new file' → 2 ^ 64 - new.offset < 2 ^ 64 - old.offset
  step_advances old new file file' ended s =
      let t = s.raw_record in
      let least = record_least old.endian t.raw_record t.is_record in
      let moved = t.offset in
      let fits = t.offset_fits in
      omega (arith, least, moved, fits)

  -- one item is returned, the end or an error
  pub advanced : (old : PerfRecordIter R) (body : Vec ℕ Global) (fit : old.round ≤ old.offset) (new : PerfRecordIter R) (file file' : PerfFile) (r : Result (Option IdentifiedItem) Error) → old.stage ≡ Running → old.offset < 2 ^ 64 → body.items ≡ []
      → Steps state (record old { body = body; rounds_fit = fit }) file r new file' → AdvancesItem state old file r new file'
  advanced old body fit new file file' (Ok (Some (Record identified))) ran fits empty s =
      let finds = s.processed.record_identified in
      record {
        returned = step_record old (record old { body = body; rounds_fit = fit }) new file file' identified (idles_none old body fit ran fits empty) s;
        starts_here = finds.offset_matches;
        no_marker = λ is. s.no_marker (sym finds.record_type ∙ is);
      }
  advanced old body fit new file file' (Ok (Some (RoundEnd ended))) ran fits empty s = step_round_end old body fit new file file' ended ran s
  advanced old body fit new file file' (Ok None) ran fits empty s =
      (step_end old (record old { body = body; rounds_fit = fit }) new file file' (idles_none old body fit ran fits empty) s, step_end_offset (record old { body = body; rounds_fit = fit }) new file file' s)
  advanced old body fit new file file' (Err e) ran fits empty s =
      (step_error old (record old { body = body; rounds_fit = fit }) new file file' e (idles_none old body fit ran fits empty) s, step_error_offset (record old { body = body; rounds_fit = fit }) new file file' e s)

  -- memory runs out only for a larger buffer or for metadata
  pub item_memory : (old : PerfRecordIter R) (body : Vec ℕ Global) (fit : old.round ≤ old.offset) (new : PerfRecordIter R) (file file' : PerfFile) (r : Result (Option IdentifiedItem) Error) → old.stage ≡ Running → old.offset < 2 ^ 64 → body.items ≡ [] → vec_capacity old.body ≤ vec_capacity body
      → Steps state (record old { body = body; rounds_fit = fit }) file r new file' → MemoryOnlyToGrow state old r new
  item_memory old body fit new file file' (Ok found) ran fits empty kept s = tt
  item_memory old body fit new file file' (Err e) ran fits empty kept s = λ m. step_memory old (record old { body = body; rounds_fit = fit }) new file file' e (idles_none old body fit ran fits empty) kept s m

  -- the result of a step, if it is known
  pub steps_by : (old new : PerfRecordIter R) (file file' : PerfFile) (r s : Option IdentifiedItem) → r ≡ s → Steps state old file (Ok r) new file' → Steps state old file (Ok s) new file'
  steps_by old new file file' r s is steps = subst (λ o. Steps state old file (Ok o) new file') is steps

-- a call that returns an item counts no pause
pub item_no_pause : {A : Type 0} (a b : State) (r : Option A) (x : A) → r ≡ Some x → PausesOnlyAtEndOrError {E = Error} a (Ok r) b → b.pauses ≡ a.pauses
item_no_pause a b r x is found = subst (λ o. PausesOnlyAtEndOrError {E = Error} a (Ok o) b) is found
