-- PERF_RECORD_BPF_EVENT of Linux's `perf_event.h`: { u16 type; u16 flags; u32 id; u8 tag[8]; }
use Rattle.std.specs.Prelude.{ℕ, List}
use Rattle.perfdata_sources.specs.Raw.{bytes_of}
use Rattle.perfdata_events.specs.Format.{Outcome, fixed_and_block}
use Rattle.perfdata_events.specs.Fields.{u16_at, u32_at}
use Rattle.perfdata_events.specs.declared.kernel.BpfEventRecord.{BpfEventRecord}

-- An event of a BPF program without the program's tag.
pub record BpfEvent : Type 0 where
  pub event_type : ℕ
  pub flags : ℕ
  pub id : ℕ

-- The event of a record, and the bytes of the tag.
abbrev pub bpf_event_of : BpfEventRecord → BpfEvent × List ℕ
bpf_event_of v = (record { event_type = v.event_type; flags = v.flags; id = v.id }, bytes_of v.tag)

module _ (number : ℕ → List ℕ → ℕ) where
  abbrev pub bpf_event_at : List ℕ → BpfEvent
  bpf_event_at bytes = record { event_type = u16_at number 0 bytes; flags = u16_at number 2 bytes; id = u32_at number 4 bytes }

  abbrev pub bpf_event : List ℕ → Outcome (BpfEvent × List ℕ) → Type 0
  bpf_event = fixed_and_block 8 bpf_event_at (λ _. 8)
