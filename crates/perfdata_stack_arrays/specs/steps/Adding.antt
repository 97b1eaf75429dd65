-- What a record adds to arrays.
use Rattle.std.specs.Prelude.{◌≡◌, ◌⊎◌, ℕ, ◌+◌, List, [], ◌∷◌, None, Result, Ok, Err}
use Rattle.std.specs.declared.alloc.AllocError.{AllocError}
use Rattle.perfdata_sources.specs.declared.endian.Endianness.{Endianness}
use Rattle.linux_perf_data.specs.Attribute.{Attribute}
use Rattle.linux_perf_data.specs.Layout.{RecordView}
use Rattle.perfdata_events.specs.declared.event.EventRecord.TheVariants.{Sample}
use Rattle.perfdata_events.specs.declared.sample.SampleRecord.{SampleRecord}
use Rattle.perfdata_spaces.specs.Effects.{Applied}
use Rattle.perfdata_stack_arrays.specs.Arrays.{saturated}
use Rattle.perfdata_stack_arrays.specs.Events.{IsEventOf, ParsesEvent}
use Rattle.perfdata_stack_arrays.specs.Stacks.{applied_by}
use Rattle.perfdata_stack_arrays.specs.steps.Stacks.{WritesStack}
use Rattle.perfdata_stack_arrays.specs.steps.ProcessState.{AppliesRecord, FollowsState, KeepsTotals}
use Rattle.perfdata_stack_arrays.specs.Written.{Written}
use Rattle.perfdata_stack_arrays.specs.Event.{Event}
use Rattle.perfdata_stack_arrays.specs.declared.stacks.StackArraySizes.{StackArraySizes}
use Rattle.perfdata_stack_arrays.specs.declared.state.ProcessState.{ProcessState}
use Rattle.perfdata_stack_arrays.specs.declared.state.TextCounts.{TextCounts}
use Rattle.perfdata_stack_arrays.specs.declared.totals.StackTotals.{StackTotals}

-- The numbers so far.
abbrev pub totals_so_far : TextCounts → StackArraySizes → StackTotals
totals_so_far text counts = record { stack_count = counts.stacks; frame_count = counts.frames; mapping_count = text.mappings; text_size = text.text }

-- The record is a sample, which was added.
pub record AddsSample (event : Event) (state : ProcessState) (counts : StackArraySizes) (arrays : Written) (more : StackArraySizes) (state' : ProcessState)
    (arrays' : Written) : Type 0 where
  pub sample : SampleRecord
  pub is_sample : event.parsed ≡ Sample sample
  pub added : ℕ
  pub writes : (before : List Applied) → FollowsState before state
      → WritesStack before event.envelope sample counts.stacks counts.frames arrays.stacks arrays.frames added arrays'.stacks arrays'.frames
  pub stacks_more : more.stacks ≡ saturated (counts.stacks + 1)
  pub frames_more : more.frames ≡ saturated (counts.frames + added)
  pub same_state : state' ≡ state
  pub same_mappings : arrays'.mappings ≡ arrays.mappings
  pub same_text : arrays'.text ≡ arrays.text

-- The record isn't a sample, and was applied.
pub record AddsApplied (event : Event) (state : ProcessState) (counts : StackArraySizes) (arrays : Written) (more : StackArraySizes) (state' : ProcessState)
    (arrays' : Written) : Type 0 where
  pub applied : Applied
  pub applied_is : applied_by event ≡ applied ∷ []
  pub applies : (before : List Applied) → FollowsState before state
      → AppliesRecord before applied arrays.mappings arrays.text state' arrays'.mappings arrays'.text
  pub same_counts : more ≡ counts
  pub same_stacks : arrays'.stacks ≡ arrays.stacks
  pub same_frames : arrays'.frames ≡ arrays.frames

-- Nothing was counted or written.
pub record KeepsAll (state : ProcessState) (arrays : Written) (state' : ProcessState) (arrays' : Written) : Type 0 where
  pub totals : KeepsTotals state arrays.mappings arrays.text state' arrays'.mappings arrays'.text
  pub same_stacks : arrays'.stacks ≡ arrays.stacks
  pub same_frames : arrays'.frames ≡ arrays.frames

module _ (event : Event) (state : ProcessState) (counts : StackArraySizes) (arrays : Written) where
  -- Memory ran out for an event that isn't a sample.
  pub record FailsToApply (state' : ProcessState) (arrays' : Written) : Type 0 where
    pub applied : Applied
    pub applied_is : applied_by event ≡ applied ∷ []
    pub keeps : KeepsAll state arrays state' arrays'

  abbrev pub AddsParsed : Result StackArraySizes AllocError → ProcessState → Written → Type 0
  AddsParsed (Ok more) state' arrays' = AddsSample event state counts arrays more state' arrays' ⊎ AddsApplied event state counts arrays more state' arrays'
  AddsParsed (Err error) state' arrays' = FailsToApply state' arrays'

module _ (order : Endianness) (attrs : List Attribute) (h : RecordView) (state : ProcessState) (counts : StackArraySizes) (arrays : Written) where
  -- The record is no event that can be parsed, and changes nothing.
  pub record PassesRecord (more : StackArraySizes) (state' : ProcessState) (arrays' : Written) : Type 0 where
    pub is_none : IsEventOf order attrs h None
    pub same_counts : more ≡ counts
    pub same_state : state' ≡ state
    pub same_arrays : arrays' ≡ arrays

  pub record AddsEvent (more : StackArraySizes) (state' : ProcessState) (arrays' : Written) : Type 0 where
    pub event : Event
    pub is_event : ParsesEvent order attrs h event
    pub adds : AddsSample event state counts arrays more state' arrays' ⊎ AddsApplied event state counts arrays more state' arrays'

  -- Memory ran out for a record that isn't a sample.
  pub record FailsToAdd (state' : ProcessState) (arrays' : Written) : Type 0 where
    pub event : Event
    pub is_event : ParsesEvent order attrs h event
    pub applied : Applied
    pub applied_is : applied_by event ≡ applied ∷ []
    pub keeps : KeepsAll state arrays state' arrays'

  abbrev pub AddsRecord : Result StackArraySizes AllocError → ProcessState → Written → Type 0
  AddsRecord (Ok more) state' arrays' = PassesRecord more state' arrays' ⊎ AddsEvent more state' arrays'
  AddsRecord (Err error) state' arrays' = FailsToAdd state' arrays'
