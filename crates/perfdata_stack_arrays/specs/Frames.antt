-- The entries of the frames of samples.
use Rattle.std.specs.Prelude.{◌≡◌, ℕ, ℤ, ◌%◌, List, Option, None, Some}
use Rattle.perfdata_sources.specs.CpuMode.{cpu_mode_of}
use Rattle.perfdata_events.specs.declared.sample.SampleRecord.{SampleRecord}
use Rattle.perfdata_arrays.specs.Tasks.{one_if_true}
use Rattle.perfdata_arrays.specs.Samples.{context_code}
use Rattle.perfdata_spaces.specs.AddressSpaces.{space_effects}
use Rattle.perfdata_spaces.specs.Effects.{Applied}
use Rattle.perfdata_spaces.specs.Histories.{IndexedMapping, IsFound, context_in}
use Rattle.perfdata_spaces.specs.Mappings.{file_offset}
use Rattle.perfdata_stacks.specs.Frames.{lookup_address, sample_frames}
use Rattle.perfdata_stacks.specs.declared.frames.SampleFrame.{SampleFrame}
use Rattle.perfdata_stack_arrays.specs.declared.frame.FileOffset.{FileOffset}
use Rattle.perfdata_stack_arrays.specs.declared.frame.StackFrame.{StackFrame}

-- The index of the mapping of a frame that has none: 2^64 - 1.
abbrev pub no_mapping : ℕ
no_mapping = 18446744073709551615

-- Where an address is: in the file of what was found there, or nowhere.
abbrev pub place_of : Option IndexedMapping → ℕ → FileOffset
place_of None address = record { mapping = no_mapping; file_offset = 0 }
place_of (Some found) address = record { mapping = found.index; file_offset = file_offset found.mapping address }

-- The entry of a frame that is looked up at a place.
abbrev pub frame_entry_at : SampleFrame → FileOffset → StackFrame
frame_entry_at frame place = record {
  address = frame.frame.address;
  file_offset = place.file_offset;
  mapping = place.mapping;
  context = context_code frame.frame.context;
  is_caller = one_if_true frame.is_caller;
}

-- The entry of a frame of a process after records.
pub record IsFrameOf (before : List Applied) (pid : ℤ) (frame : SampleFrame) (entry : StackFrame) : Type 0 where
  pub found : Option IndexedMapping
  pub is_found : IsFound (space_effects before) pid (lookup_address frame) frame.frame.context found
  pub entry_is : entry ≡ frame_entry_at frame (place_of found (lookup_address frame))

-- The frames of a sample, the leaf first. `misc` is that of its header.
abbrev pub frames_in : ℕ → SampleRecord → List SampleFrame
frames_in misc sample = sample_frames sample (context_in (cpu_mode_of (misc % 8)))
