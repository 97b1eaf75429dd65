-- The values of a parsed record, wherever its bytes are.
use Rattle.std.specs.Prelude.{ℕ, List}
use Rattle.perfdata_base.specs.declared.event.raw_event_record.RawEventRecord.{RawEventRecord}
use Rattle.perfdata_events.specs.Mmap.{Mapping, mapping_of}
use Rattle.perfdata_events.specs.Comm.{NamedTask, named_task_of}
use Rattle.perfdata_events.specs.ReadValues.{Values}
use Rattle.perfdata_events.specs.Read.{task_values_of}
use Rattle.perfdata_events.specs.FileId.{FileId}
use Rattle.perfdata_events.specs.Mmap2.{Protection, mapping2_of}
use Rattle.perfdata_events.specs.Namespaces.{TaskIds, namespaces_of}
use Rattle.perfdata_events.specs.Ksymbol.{Symbol, symbol_of}
use Rattle.perfdata_events.specs.BpfEvent.{BpfEvent as BpfProgram, bpf_event_of}
use Rattle.perfdata_events.specs.Cgroup.{cgroup_of}
use Rattle.perfdata_events.specs.TextPoke.{Poke, poke_of}
use Rattle.perfdata_events.specs.Sample.{Start, Middle, sample_of}
use Rattle.perfdata_events.specs.SampleEnd.{End}
use Rattle.perfdata_events.specs.declared.fields.task.Task.{Task}
use Rattle.perfdata_events.specs.declared.lost.LostRecord.{LostRecord}
use Rattle.perfdata_events.specs.declared.lost.LostSamplesRecord.{LostSamplesRecord}
use Rattle.perfdata_events.specs.declared.lost.ThrottleRecord.{ThrottleRecord}
use Rattle.perfdata_events.specs.declared.task.ForkOrExitRecord.{ForkOrExitRecord}
use Rattle.perfdata_events.specs.declared.aux_area.AuxRecord.{AuxRecord}
use Rattle.perfdata_events.specs.declared.aux_area.ItraceStartRecord.{ItraceStartRecord}
use Rattle.perfdata_events.specs.declared.aux_area.AuxOutputHwIdRecord.{AuxOutputHwIdRecord}
use Rattle.perfdata_events.specs.declared.context_switch.ContextSwitchRecord.{ContextSwitchRecord}
use Rattle.perfdata_events.specs.declared.event.EventRecord.{EventRecord}
use Rattle.perfdata_events.specs.declared.event.EventRecord.TheVariants.{Mmap, Lost, Comm, Exit, Throttle, Unthrottle, Fork, Read, Mmap2, Aux, ItraceStart, LostSamples, ContextSwitch, Namespaces, Ksymbol, BpfEvent, Cgroup, TextPoke, AuxOutputHwId, Sample, Raw}

pub data EventView : Type 0 where
  mmap_view : Mapping × List ℕ → EventView
  lost_view : LostRecord → EventView
  comm_view : NamedTask × List ℕ → EventView
  exit_view : ForkOrExitRecord → EventView
  throttle_view : ThrottleRecord → EventView
  unthrottle_view : ThrottleRecord → EventView
  fork_view : ForkOrExitRecord → EventView
  read_view : Task × Values → EventView
  mmap2_view : Mapping × (FileId × (Protection × List ℕ)) → EventView
  aux_view : AuxRecord → EventView
  itrace_start_view : ItraceStartRecord → EventView
  lost_samples_view : LostSamplesRecord → EventView
  context_switch_view : ContextSwitchRecord → EventView
  namespaces_view : TaskIds × List ℕ → EventView
  ksymbol_view : Symbol × List ℕ → EventView
  bpf_event_view : BpfProgram × List ℕ → EventView
  cgroup_view : ℕ × List ℕ → EventView
  text_poke_view : Poke × List ℕ → EventView
  aux_output_hw_id_view : AuxOutputHwIdRecord → EventView
  sample_view : Start × (Middle × End) → EventView
  raw_view : RawEventRecord → EventView

abbrev pub event_view : EventRecord → EventView
event_view (Mmap v) = mmap_view (mapping_of v)
event_view (Lost v) = lost_view v
event_view (Comm v) = comm_view (named_task_of v)
event_view (Exit v) = exit_view v
event_view (Throttle v) = throttle_view v
event_view (Unthrottle v) = unthrottle_view v
event_view (Fork v) = fork_view v
event_view (Read v) = read_view (task_values_of v)
event_view (Mmap2 v) = mmap2_view (mapping2_of v)
event_view (Aux v) = aux_view v
event_view (ItraceStart v) = itrace_start_view v
event_view (LostSamples v) = lost_samples_view v
event_view (ContextSwitch v) = context_switch_view v
event_view (Namespaces v) = namespaces_view (namespaces_of v)
event_view (Ksymbol v) = ksymbol_view (symbol_of v)
event_view (BpfEvent v) = bpf_event_view (bpf_event_of v)
event_view (Cgroup v) = cgroup_view (cgroup_of v)
event_view (TextPoke v) = text_poke_view (poke_of v)
event_view (AuxOutputHwId v) = aux_output_hw_id_view v
event_view (Sample v) = sample_view (sample_of v)
event_view (Raw v) = raw_view v
