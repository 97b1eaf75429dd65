-- What records do to address spaces and to the names of threads.
use Rattle.std.specs.Prelude.{ℕ, ℤ, ◌+◌, ◌%◌, List, [], ◌∷◌, length, if◌then◌else◌}
use Rattle.perfdata_identifiers.specs.ParseInfo.{is_set}
use Rattle.perfdata_sources.specs.Raw.{bytes_of}
use Rattle.perfdata_sources.specs.CpuMode.{cpu_mode_of}
use Rattle.perfdata_sources.specs.declared.event.cpu_mode.CpuMode.{CpuMode}
use Rattle.perfdata_sources.specs.declared.event.cpu_mode.CpuMode.TheVariants.{Unknown, Kernel, User, Hypervisor, GuestKernel, GuestUser}
use Rattle.perfdata_events.specs.declared.event.EventRecord.{EventRecord}
use Rattle.perfdata_events.specs.declared.event.EventRecord.TheVariants.{Mmap, Comm, Fork, Mmap2, Ksymbol}
use Rattle.perfdata_events.specs.declared.kernel.KsymbolRecord.{KsymbolRecord}
use Rattle.perfdata_events.specs.declared.task.ForkOrExitRecord.{ForkOrExitRecord}
use Rattle.perfdata_spaces.specs.Mappings.{MappingValue, mapping_of_mmap, mapping_of_mmap2, mapping_of_ksymbol}
use Rattle.perfdata_spaces.specs.Processes.{is_same}

-- A record, with the `misc` of its header.
pub record Applied : Type 0 where
  pub misc : ℕ
  pub event : EventRecord

pub data SpaceEffect : Type 0 where
  -- A mapping is added to the space of a process.
  Maps : ℤ → MappingValue → SpaceEffect
  -- A mapping is added to the space of the kernel.
  MapsKernel : MappingValue → SpaceEffect
  -- A symbol of the kernel is registered.
  Registers : MappingValue → SpaceEffect
  -- The symbols of the kernel are removed from the addresses of a start and a length.
  Removes : ℕ → ℕ → SpaceEffect
  -- A process has the mappings of another.
  Copies : ℤ → ℤ → SpaceEffect
  -- A process has no mappings.
  Clears : ℤ → SpaceEffect
  -- Nothing changes.
  Leaves : SpaceEffect

pub data NameEffect : Type 0 where
  -- A thread has a name.
  Names : ℤ → List ℕ → NameEffect
  -- A thread has the name of another.
  Inherits : ℤ → ℤ → NameEffect
  -- Nothing changes.
  KeepsAll : NameEffect

-- An effect needs memory: it doesn't only remove all mappings of a process.
abbrev pub NeedsMemory : SpaceEffect → Type 0
NeedsMemory (Clears pid) = ⊥
NeedsMemory Leaves = ⊥
NeedsMemory _ = Unit {0}

-- A thread gets a name.
abbrev pub NamesThread : NameEffect → Type 0
NamesThread KeepsAll = ⊥
NamesThread _ = Unit {0}

-- The mapping that an effect adds.
abbrev pub added : SpaceEffect → List MappingValue
added (Maps pid mapping) = mapping ∷ []
added (MapsKernel mapping) = mapping ∷ []
added (Registers mapping) = mapping ∷ []
added _ = []

-- An effect, with the number of mappings that were added before it. The mapping that it adds has this number as its index.
pub record Numbered : Type 0 where
  pub index : ℕ
  pub effect : SpaceEffect

-- Effects, with the number of mappings that were added before each of them. `first` of them were added before all.
abbrev pub numbered_from : ℕ → List SpaceEffect → List Numbered
numbered_from first [] = []
numbered_from first (effect ∷ effects) = record { index = first; effect = effect } ∷ numbered_from (first + length (added effect)) effects

abbrev pub numbered : List SpaceEffect → List Numbered
numbered effects = numbered_from 0 effects

-- The bit of a record header's `misc` that marks a FORK of a process that began for an exec of perf
-- (PERF_RECORD_MISC_FORK_EXEC of Linux's `perf_event.h`). Those are the ones that perf synthesizes.
abbrev pub FORK_EXEC_BIT : ℕ
FORK_EXEC_BIT = 13

-- The bit of the flags of a KSYMBOL record that a removed symbol has (PERF_RECORD_KSYMBOL_FLAGS_UNREGISTER).
abbrev pub UNREGISTER_BIT : ℕ
UNREGISTER_BIT = 0

-- A mapping of a CPU mode that isn't known is one of the process, as perf has it.
abbrev pub mapped_in : CpuMode → ℤ → MappingValue → SpaceEffect
mapped_in User pid mapping = Maps pid mapping
mapped_in Kernel pid mapping = MapsKernel mapping
mapped_in Unknown pid mapping = Maps pid mapping
mapped_in Hypervisor pid mapping = Leaves
mapped_in GuestKernel pid mapping = Leaves
mapped_in GuestUser pid mapping = Leaves

abbrev pub forked : ℕ → ForkOrExitRecord → SpaceEffect
forked misc fork = if is_same fork.pid fork.ppid then Leaves
    else if is_set misc FORK_EXEC_BIT then Clears fork.pid
    else Copies fork.pid fork.ppid

abbrev pub symbol_effect : KsymbolRecord → SpaceEffect
symbol_effect symbol = if is_set symbol.flags UNREGISTER_BIT then Removes symbol.address symbol.length
    else Registers (mapping_of_ksymbol symbol)

-- What a record does to address spaces.
abbrev pub effect_of : ℕ → EventRecord → SpaceEffect
effect_of misc (Mmap mmap) = mapped_in (cpu_mode_of (misc % 8)) mmap.pid (mapping_of_mmap mmap)
effect_of misc (Mmap2 mmap) = mapped_in (cpu_mode_of (misc % 8)) mmap.pid (mapping_of_mmap2 mmap)
effect_of misc (Ksymbol symbol) = symbol_effect symbol
effect_of misc (Comm comm) = if comm.is_execve then Clears comm.pid else Leaves
effect_of misc (Fork fork) = forked misc fork
effect_of misc _ = Leaves

abbrev pub space_effect : Applied → SpaceEffect
space_effect applied = effect_of applied.misc applied.event

-- What a record does to the names of threads.
abbrev pub naming_of : EventRecord → NameEffect
naming_of (Comm comm) = Names comm.tid (bytes_of comm.name)
naming_of (Fork fork) = Inherits fork.tid fork.ptid
naming_of _ = KeepsAll

abbrev pub name_effect : Applied → NameEffect
name_effect applied = naming_of applied.event
