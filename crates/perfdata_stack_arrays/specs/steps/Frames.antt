-- Steps of private functions: the entries of the frames of samples.
use Rattle.std.specs.Prelude.{◌≡◌, ℕ, ℤ, List, Option}
use Rattle.perfdata_arrays.specs.Overwrites.{with_entries_at}
use Rattle.perfdata_events.specs.declared.fields.call_chain.CallContext.{CallContext}
use Rattle.perfdata_spaces.specs.AddressSpaces.{space_effects}
use Rattle.perfdata_spaces.specs.Effects.{Applied}
use Rattle.perfdata_spaces.specs.Histories.{IndexedMapping, IsFound}
use Rattle.perfdata_spaces.specs.Mappings.{MappingValue}
use Rattle.perfdata_spaces.specs.Spaces.{indexed_at}
use Rattle.perfdata_stacks.specs.declared.frames.SampleFrame.{SampleFrame}
use Rattle.perfdata_stack_arrays.specs.Arrays.{AreRelated, count_of}
use Rattle.perfdata_stack_arrays.specs.declared.frame.FileOffset.{FileOffset}
use Rattle.perfdata_stack_arrays.specs.declared.frame.StackFrame.{StackFrame}
use Rattle.perfdata_stack_arrays.specs.Frames.{place_of, IsFrameOf}

-- The file offset of an address in the mapping with an index, if there is an index.
abbrev pub mapping_offset : List MappingValue → Option ℕ → ℕ → FileOffset
mapping_offset mappings index address = place_of (indexed_at mappings index) address

-- The file offset of an address of a process or of the kernel after records.
abbrev pub FindsFileOffset : List Applied → ℤ → ℕ → CallContext → FileOffset → Type 0
FindsFileOffset before pid address context place =
    ((found : Option IndexedMapping) × IsFound (space_effects before) pid address context found × (place ≡ place_of found address))

-- The entries of frames after records are written after the first elements, up to the capacity, and counted.
pub record WritesFrames (before : List Applied) (pid : ℤ) (frames : List SampleFrame) (used : ℕ) (old : List StackFrame) (count : ℕ)
    (new : List StackFrame) : Type 0 where
  pub own : List StackFrame
  pub are : AreRelated (IsFrameOf before pid) frames own
  pub count_is : count ≡ count_of own
  pub written : new ≡ with_entries_at used own old
