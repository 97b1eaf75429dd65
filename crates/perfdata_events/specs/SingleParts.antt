-- The parts of each value are in one slice each.
use Rattle.std.specs.Prelude.{⊤, IfSome}
use Rattle.perfdata_sources.specs.Raw.{IsSingle}
use Rattle.perfdata_events.specs.declared.fields.u64s.RawDataU64.{RawDataU64}
use Rattle.perfdata_events.specs.declared.fields.call_chain.CallChain.{CallChain}
use Rattle.perfdata_events.specs.declared.fields.file_id.Mmap2FileId.{Mmap2FileId}
use Rattle.perfdata_events.specs.declared.fields.file_id.Mmap2FileId.TheVariants.{InodeAndVersion, BuildId}
use Rattle.perfdata_events.specs.declared.fields.read_values.GroupValues.{GroupValues}
use Rattle.perfdata_events.specs.declared.fields.read_values.ReadValues.{ReadValues}
use Rattle.perfdata_events.specs.declared.fields.read_values.ReadValues.TheVariants.{Single, Group}
use Rattle.perfdata_events.specs.declared.fields.registers.SampleRegisters.{SampleRegisters}
use Rattle.perfdata_events.specs.declared.sample.end.SampleEnd.{SampleEnd}
use Rattle.perfdata_events.specs.declared.sample.parts.BranchStack.{BranchStack}
use Rattle.perfdata_events.specs.declared.sample.parts.UserStack.{UserStack}
use Rattle.perfdata_events.specs.declared.sample.SampleRecord.{SampleRecord}
use Rattle.perfdata_events.specs.declared.mmap2.Mmap2Record.{Mmap2Record}
use Rattle.perfdata_events.specs.declared.event.EventRecord.{EventRecord}
use Rattle.perfdata_events.specs.declared.event.EventRecord.TheVariants.{Mmap, Lost, Comm, Exit, Throttle, Unthrottle, Fork, Read, Mmap2, Aux, ItraceStart, LostSamples, ContextSwitch, Namespaces, Ksymbol, BpfEvent, Cgroup, TextPoke, AuxOutputHwId, Sample, Raw}

abbrev pub SingleNumbers : RawDataU64 → Type 0
SingleNumbers v = IsSingle v.bytes

abbrev pub SingleGroup : GroupValues → Type 0
SingleGroup v = SingleNumbers v.numbers

abbrev pub SingleValuesOf : ReadValues → Type 0
SingleValuesOf (Single v) = ⊤
SingleValuesOf (Group v) = SingleGroup v

abbrev pub SingleChain : CallChain → Type 0
SingleChain v = SingleNumbers v.values

abbrev pub SingleRegisters : SampleRegisters → Type 0
SingleRegisters v = SingleNumbers v.values

abbrev pub SingleFileId : Mmap2FileId → Type 0
SingleFileId (InodeAndVersion v) = ⊤
SingleFileId (BuildId bytes) = IsSingle bytes

abbrev pub SingleBranches : BranchStack → Type 0
SingleBranches v = SingleNumbers v.entries × IfSome v.counters SingleNumbers

abbrev pub SingleStack : UserStack → Type 0
SingleStack v = IsSingle v.bytes

abbrev pub SingleEnd : SampleEnd → Type 0
SingleEnd v = IfSome v.interrupt_registers SingleRegisters × IfSome v.aux_data IsSingle

pub record SingleSample (v : SampleRecord) : Type 0 where
  pub values_are : IfSome v.values SingleValuesOf
  pub call_chain_is : IfSome v.call_chain SingleChain
  pub raw_is : IfSome v.raw IsSingle
  pub branch_stack_is : IfSome v.branch_stack SingleBranches
  pub user_registers_are : IfSome v.user_registers SingleRegisters
  pub user_stack_is : IfSome v.user_stack SingleStack
  pub interrupt_registers_are : IfSome v.interrupt_registers SingleRegisters
  pub aux_data_is : IfSome v.aux_data IsSingle

abbrev pub SingleMapping2 : Mmap2Record → Type 0
SingleMapping2 v = SingleFileId v.file_id × IsSingle v.path

-- Each part of an event that consists of bytes is in one slice.
abbrev pub HasSingleParts : EventRecord → Type 0
HasSingleParts (Mmap v) = IsSingle v.path
HasSingleParts (Lost v) = ⊤
HasSingleParts (Comm v) = IsSingle v.name
HasSingleParts (Exit v) = ⊤
HasSingleParts (Throttle v) = ⊤
HasSingleParts (Unthrottle v) = ⊤
HasSingleParts (Fork v) = ⊤
HasSingleParts (Read v) = SingleValuesOf v.values
HasSingleParts (Mmap2 v) = SingleMapping2 v
HasSingleParts (Aux v) = ⊤
HasSingleParts (ItraceStart v) = ⊤
HasSingleParts (LostSamples v) = ⊤
HasSingleParts (ContextSwitch v) = ⊤
HasSingleParts (Namespaces v) = SingleNumbers v.namespaces
HasSingleParts (Ksymbol v) = IsSingle v.name
HasSingleParts (BpfEvent v) = IsSingle v.tag
HasSingleParts (Cgroup v) = IsSingle v.path
HasSingleParts (TextPoke v) = IsSingle v.old_bytes × IsSingle v.new_bytes
HasSingleParts (AuxOutputHwId v) = ⊤
HasSingleParts (Sample v) = SingleSample v
HasSingleParts (Raw v) = IsSingle v.body
