-- The records that a walk returned so far, and the stacks of these.
use Rattle.std.proofs.Common.{◌≡◌, ◌∙◌, ap, refl, sym, subst, arith, inl, inr, ℕ, ◌+◌, ◌^◌, ◌<◌, List, [], ◌∷◌, ◌++◌, length, length-append, Some, Result, Ok}
use Rattle.std.specs.Prelude.{◌⊎◌}
use Rattle.std.proofs.lemmas.List.{append-nil}
use Rattle.linux_perf_data.specs.PerfFile.{attributes_of_file, endian_of_file}
use Rattle.linux_perf_data.specs.RecordEntries.{with_prefix}
use Rattle.linux_perf_data.specs.RecordViews.{record_view_of}
use Rattle.linux_perf_data.specs.declared.perf_file.PerfFile.{PerfFile}
use Rattle.perfdata_arrays.specs.Overwrites.{with_entries_at}
use Rattle.perfdata_events.specs.declared.event.EventRecord.{EventRecord}
use Rattle.perfdata_events.specs.declared.event.EventRecord.TheVariants.{Sample}
use Rattle.perfdata_events.specs.declared.sample.SampleRecord.{SampleRecord}
use Rattle.perfdata_order.specs.InMemoryOrder.{Entry}
use Rattle.perfdata_sections.specs.declared.error.Error.{Error}
use Rattle.perfdata_sections.specs.declared.error.Error.TheVariants.{Memory}
use Rattle.perfdata_spaces.proofs.Lists.{flat_map_push}
use Rattle.perfdata_spaces.specs.Effects.{Applied}
use Rattle.perfdata_stack_arrays.proofs.ArrayWrites.{count_append, more_after}
use Rattle.perfdata_stack_arrays.proofs.NameSteps.{text_push}
use Rattle.perfdata_stack_arrays.proofs.StateSteps.{mappings_push}
use Rattle.perfdata_stack_arrays.specs.steps.Adding.{AddsApplied, AddsEvent, AddsRecord, AddsSample, FailsToAdd, PassesRecord, totals_so_far}
use Rattle.perfdata_stack_arrays.specs.Arrays.{count_of, saturated}
use Rattle.perfdata_stack_arrays.specs.Mappings.{mappings_in, mappings_of, text_in, text_of}
use Rattle.perfdata_stack_arrays.specs.Reading.{EndsWalk, ReadsEvents, RunsOut, event_returned, no_calls, other_returned}
use Rattle.perfdata_stack_arrays.specs.steps.Reading.{WalksStacks}
use Rattle.perfdata_stack_arrays.specs.Records.{ReturnsNext}
use Rattle.perfdata_stack_arrays.specs.Stacks.{AreStacksOf, IsStackOf, applied_as, applied_by, applied_in, none, passed, sampled}
use Rattle.perfdata_stack_arrays.specs.steps.ProcessState.{FollowsState}
use Rattle.perfdata_stack_arrays.specs.Written.{WritesAll, Written}
use Rattle.perfdata_stack_arrays.specs.Event.{Event}
use Rattle.perfdata_stack_arrays.specs.declared.frame.StackFrame.{StackFrame}
use Rattle.perfdata_stack_arrays.specs.declared.records.Records.{Records}
use Rattle.perfdata_stack_arrays.specs.declared.stack.Stack.{Stack}
use Rattle.perfdata_stack_arrays.specs.declared.stacks.StackArraySizes.{StackArraySizes}
use Rattle.perfdata_stack_arrays.specs.declared.state.ProcessState.{ProcessState}
use Rattle.perfdata_stack_arrays.specs.declared.state.TextCounts.{TextCounts}
use Rattle.perfdata_stack_arrays.specs.declared.totals.StackTotals.{StackTotals}

-- A record that isn't a sample is applied.
pub applied_other : (misc : ℕ) (event : EventRecord) → ((s : SampleRecord) → event ≡ Sample s → ⊥) → applied_as misc event ≡ record { misc = misc; event = event } ∷ []
applied_other misc (Sample s) not = absurd (not s refl)
applied_other misc event not = refl

applied_push : (events : List Event) (event : Event) → applied_in (events ++ event ∷ []) ≡ applied_in events ++ applied_by event
applied_push events event = flat_map_push applied_by events event

applied_sample : (events : List Event) (event : Event) (s : SampleRecord) → event.parsed ≡ Sample s → applied_in (events ++ event ∷ []) ≡ applied_in events
applied_sample events event s is = applied_push events event ∙ ap (λ r. applied_in events ++ applied_as event.envelope.misc r) is ∙ append-nil (applied_in events)

-- What was written for events.
abbrev pub written_for : List Event → List Stack → List StackFrame → Written
written_for events stacks frames = record { stacks = stacks; frames = frames; mappings = mappings_in (applied_in events); text = text_in (applied_in events) }

pub record SoFar (start : Records) (file : PerfFile) (before : Written) (returned : ℕ) (counts : StackArraySizes) (state : ProcessState) (now : Records) (now_file : PerfFile) (arrays : Written) : Type 0 where
  pub entries : List Entry
  pub events : List Event
  pub read : ReadsEvents start file entries events now now_file
  pub returned_is : returned ≡ length entries
  pub stacks : List Stack
  pub frames : List StackFrame
  pub are : AreStacksOf events stacks frames
  pub follows : FollowsState (applied_in events) state
  pub stacks_is : counts.stacks ≡ count_of stacks
  pub frames_is : counts.frames ≡ count_of frames
  pub writes : WritesAll (written_for events stacks frames) before arrays

pub nothing_so_far : (start : Records) (file : PerfFile) (before : Written) (state : ProcessState) → FollowsState [] state → SoFar start file before 0 (record { stacks = 0; frames = 0 }) state start file before
nothing_so_far start file before state follows = record {
  entries = [];
  events = [];
  read = no_calls;
  returned_is = refl;
  stacks = [];
  frames = [];
  are = none;
  follows = follows;
  stacks_is = refl;
  frames_is = refl;
  writes = record { stacks = refl; frames = refl; mappings = refl; text = refl };
}

-- Arrays are shorter than 2^63.
pub record AreShort (arrays : Written) : Type 0 where
  pub stacks : length arrays.stacks < 2 ^ 63
  pub frames : length arrays.frames < 2 ^ 63
  pub mappings : length arrays.mappings < 2 ^ 63
  pub text : length arrays.text < 2 ^ 63

module _ (start : Records) (file : PerfFile) (before : Written) (returned : ℕ) (counts : StackArraySizes) (state : ProcessState) (now : Records) (now_file : PerfFile) (arrays : Written) (so_far : SoFar start file before returned counts state now now_file arrays)
    (entry : Entry) (new : Records) (new_file : PerfFile) (step : ReturnsNext now now_file (Ok (Some entry)) new new_file) (short : AreShort before) where
  more_returned : returned + 1 ≡ length (so_far.entries ++ entry ∷ [])
  more_returned = (let is = so_far.returned_is in omega (arith, is, length-append so_far.entries (entry ∷ [])))

  passed_one : (more : StackArraySizes) (state' : ProcessState) (arrays' : Written) → PassesRecord (endian_of_file new_file) (attributes_of_file new_file) (record_view_of entry.0 entry.1) state counts arrays more state' arrays'
      → SoFar start file before (returned + 1) more state' new new_file arrays'
  passed_one more state' arrays' passes = record {
    entries = so_far.entries ++ entry ∷ [];
    events = so_far.events;
    read = other_returned so_far.entries so_far.events now new now_file new_file entry so_far.read step passes.is_none;
    returned_is = more_returned;
    stacks = so_far.stacks;
    frames = so_far.frames;
    are = so_far.are;
    follows = subst (FollowsState (applied_in so_far.events)) (sym passes.same_state) so_far.follows;
    stacks_is = ap (λ (c : StackArraySizes). c.stacks) passes.same_counts ∙ so_far.stacks_is;
    frames_is = ap (λ (c : StackArraySizes). c.frames) passes.same_counts ∙ so_far.frames_is;
    writes = subst (WritesAll (written_for so_far.events so_far.stacks so_far.frames) before) (sym passes.same_arrays) so_far.writes;
  }

  sampled_one : (event : Event) (more : StackArraySizes) (state' : ProcessState) (arrays' : Written) → ReadsEvents start file (so_far.entries ++ entry ∷ []) (so_far.events ++ event ∷ []) new new_file → AddsSample event state counts arrays more state' arrays'
      → SoFar start file before (returned + 1) more state' new new_file arrays'
  sampled_one event more state' arrays' read adds =
      let earlier = applied_in so_far.events in
      let w = adds.writes earlier so_far.follows in
      let same = applied_sample so_far.events event adds.sample adds.is_sample in
      let was = so_far.writes in
      record {
        entries = so_far.entries ++ entry ∷ [];
        events = so_far.events ++ event ∷ [];
        read = read;
        returned_is = more_returned;
        stacks = so_far.stacks ++ w.stack ∷ [];
        frames = so_far.frames ++ w.own_frames;
        are = sampled so_far.events so_far.stacks so_far.frames event adds.sample w.stack w.own_frames so_far.are adds.is_sample (subst (λ (n : ℕ). IsStackOf earlier event.envelope adds.sample n w.stack w.own_frames) so_far.frames_is w.is);
        follows = subst (λ (b : List Applied). FollowsState b state') (sym same) (subst (FollowsState earlier) (sym adds.same_state) so_far.follows);
        stacks_is = adds.stacks_more ∙ ap (λ n. saturated (n + 1)) so_far.stacks_is ∙ count_append so_far.stacks (w.stack ∷ []);
        frames_is = adds.frames_more ∙ (λ i. saturated (so_far.frames_is i + w.added_is i)) ∙ count_append so_far.frames w.own_frames;
        writes = record {
          stacks = more_after so_far.stacks (w.stack ∷ []) before.stacks arrays.stacks arrays'.stacks was.stacks short.stacks (w.written ∙ ap (λ n. with_entries_at n (w.stack ∷ []) arrays.stacks) so_far.stacks_is);
          frames = more_after so_far.frames w.own_frames before.frames arrays.frames arrays'.frames was.frames short.frames (w.frames_written ∙ ap (λ n. with_entries_at n w.own_frames arrays.frames) so_far.frames_is);
          mappings = adds.same_mappings ∙ was.mappings ∙ ap (λ b. with_prefix (mappings_in b) before.mappings) (sym same);
          text = adds.same_text ∙ was.text ∙ ap (λ b. with_prefix (text_in b) before.text) (sym same);
        };
      }

  applied_one : (event : Event) (more : StackArraySizes) (state' : ProcessState) (arrays' : Written) → ReadsEvents start file (so_far.entries ++ entry ∷ []) (so_far.events ++ event ∷ []) new new_file → AddsApplied event state counts arrays more state' arrays'
      → SoFar start file before (returned + 1) more state' new new_file arrays'
  applied_one event more state' arrays' read adds =
      let earlier = applied_in so_far.events in
      let w = adds.applies earlier so_far.follows in
      let next = applied_push so_far.events event ∙ ap (λ l. earlier ++ l) adds.applied_is in
      let was = so_far.writes in
      record {
        entries = so_far.entries ++ entry ∷ [];
        events = so_far.events ++ event ∷ [];
        read = read;
        returned_is = more_returned;
        stacks = so_far.stacks;
        frames = so_far.frames;
        are = passed so_far.events so_far.stacks so_far.frames event adds.applied so_far.are adds.applied_is;
        follows = subst (λ (b : List Applied). FollowsState b state') (sym next) w.follows;
        stacks_is = ap (λ (c : StackArraySizes). c.stacks) adds.same_counts ∙ so_far.stacks_is;
        frames_is = ap (λ (c : StackArraySizes). c.frames) adds.same_counts ∙ so_far.frames_is;
        writes = record {
          stacks = adds.same_stacks ∙ was.stacks;
          frames = adds.same_frames ∙ was.frames;
          mappings = more_after (mappings_in earlier) (mappings_of (length (text_in earlier)) adds.applied) before.mappings arrays.mappings arrays'.mappings was.mappings short.mappings w.mappings_written
              ∙ ap (λ l. with_prefix l before.mappings) (sym (mappings_push earlier adds.applied)) ∙ ap (λ b. with_prefix (mappings_in b) before.mappings) (sym next);
          text = more_after (text_in earlier) (text_of adds.applied) before.text arrays.text arrays'.text was.text short.text w.text_written
              ∙ ap (λ l. with_prefix l before.text) (sym (text_push earlier adds.applied)) ∙ ap (λ b. with_prefix (text_in b) before.text) (sym next);
        };
      }

  event_one : (more : StackArraySizes) (state' : ProcessState) (arrays' : Written) → AddsEvent (endian_of_file new_file) (attributes_of_file new_file) (record_view_of entry.0 entry.1) state counts arrays more state' arrays'
      → SoFar start file before (returned + 1) more state' new new_file arrays'
  event_one more state' arrays' adds = by_kind adds.adds
    where
      read : ReadsEvents start file (so_far.entries ++ entry ∷ []) (so_far.events ++ adds.event ∷ []) new new_file
      read = event_returned so_far.entries so_far.events now new now_file new_file entry adds.event so_far.read step adds.is_event

      by_kind : AddsSample adds.event state counts arrays more state' arrays' ⊎ AddsApplied adds.event state counts arrays more state' arrays' → SoFar start file before (returned + 1) more state' new new_file arrays'
      by_kind (inl sample) = sampled_one adds.event more state' arrays' read sample
      by_kind (inr applied) = applied_one adds.event more state' arrays' read applied

  pub one_more : (more : StackArraySizes) (state' : ProcessState) (arrays' : Written) → AddsRecord (endian_of_file new_file) (attributes_of_file new_file) (record_view_of entry.0 entry.1) state counts arrays (Ok more) state' arrays'
      → SoFar start file before (returned + 1) more state' new new_file arrays'
  one_more more state' arrays' (inl passes) = passed_one more state' arrays' passes
  one_more more state' arrays' (inr adds) = event_one more state' arrays' adds

  -- Memory ran out for the record.
  pub runs_out : (e : Error) (state' : ProcessState) (arrays' : Written) → e ≡ Memory → FailsToAdd (endian_of_file new_file) (attributes_of_file new_file) (record_view_of entry.0 entry.1) state counts arrays state' arrays' → RunsOut now now_file e new new_file
  runs_out e state' arrays' memory fails = record {
    memory = memory;
    entry = entry;
    returned = step;
    event = fails.event;
    is_event = fails.is_event;
    applied = fails.applied;
    applied_is = fails.applied_is;
  }

-- ---- the end of a walk

pub walk_ends : (start : Records) (file : PerfFile) (before : Written) (returned : ℕ) (counts : StackArraySizes) (state : ProcessState) (texts : TextCounts) (now : Records) (now_file : PerfFile) (arrays arrays' : Written) (totals : StackTotals) (end : Result (Unit {0}) Error) (new : Records) (file' : PerfFile)
    → totals ≡ totals_so_far texts counts → SoFar start file before returned counts state now now_file arrays → texts ≡ state.counts → arrays' ≡ arrays → EndsWalk now now_file end new file'
    → WalksStacks start file before (record { totals = totals; end = end }) new file' arrays'
walk_ends start file before returned counts state texts now now_file arrays arrays' totals end new file' is so_far same_counts same ends = record {
  entries = so_far.entries;
  events = so_far.events;
  at_end = now;
  file_at_end = now_file;
  read = so_far.read;
  own = written_for so_far.events so_far.stacks so_far.frames;
  has = record { are_stacks = so_far.are; mappings_are = refl; text_is = refl };
  totals_are = is ∙ ap (λ t. totals_so_far t counts) same_counts
      ∙ (λ i. record { stack_count = so_far.stacks_is i; frame_count = so_far.frames_is i; mapping_count = so_far.follows.mappings i; text_size = so_far.follows.text i });
  writes = subst (WritesAll (written_for so_far.events so_far.stacks so_far.frames) before) (sym same) so_far.writes;
  ends = ends;
}
