-- Taking records from bytes in memory. A call does what a `PerfRecordIter` over a cursor does, but it returns the body as a slice of
-- the bytes in place of a copy in the buffer.
use Rattle.std.specs.Prelude.{◌≡◌, ℕ, ◌+◌, List, drop, Vec, Some}
use Rattle.std.specs.Borrow.{Bor}
use Rattle.std.specs.declared.alloc.Global.{Global}
use Rattle.std.specs.Io.Cursor.{cursor_inner, cursor_position}
use Rattle.std.specs.declared.io.impls.Cursor.{Cursor}
use Rattle.perfdata_sources.specs.Source.{State, memory_source_at}
use Rattle.linux_perf_data.specs.declared.records.iter.PerfRecordIter.{PerfRecordIter}
use Rattle.linux_perf_data.specs.declared.records.iter.Stage.TheVariants.{Running}
use Rattle.linux_perf_data.specs.Iter.{iter_source_state}

-- A cursor over bytes in memory, as a source.
abbrev pub memory_state : Cursor (Bor (List ℕ)) → State
memory_state c = memory_source_at (cursor_inner c).now (cursor_position c)

-- The iterator of a streaming reader over bytes in memory.
abbrev pub MemoryIter : Type 0
MemoryIter = PerfRecordIter (Cursor (Bor (List ℕ)))

-- The iterator with another body buffer.
abbrev pub with_buffer : MemoryIter → Vec ℕ Global → MemoryIter
with_buffer it buffer = record it { body = buffer }

-- The remaining bytes of a running iterator are the bytes of the input from its offset on.
abbrev pub IsInPlace : MemoryIter → List ℕ → ℕ → Type 0
IsInPlace it input first_record_offset = it.stage ≡ Running → (iter_source_state memory_state it).bytes ≡ Some (drop (first_record_offset + it.offset) input)
