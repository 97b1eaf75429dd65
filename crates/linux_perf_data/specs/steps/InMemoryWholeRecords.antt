-- Taking a whole raw record at once.
use Rattle.std.specs.Prelude.{◌≡◌, Option, None, Some, Ok}
use Rattle.linux_perf_data.specs.declared.in_memory.raw_record.RawRecord.{RawRecord}
use Rattle.linux_perf_data.specs.InMemory.{MemoryIter}
use Rattle.linux_perf_data.specs.steps.InMemory.{TakesRawRecord}

-- A raw record is taken, or nothing is.
abbrev pub TakesWholeRecord : MemoryIter → Option RawRecord → MemoryIter → Type 0
TakesWholeRecord old None new = new ≡ old
TakesWholeRecord old (Some record_consumed) new = TakesRawRecord old (Ok record_consumed) new
