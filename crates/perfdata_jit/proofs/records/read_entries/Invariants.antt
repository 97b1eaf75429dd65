use Rattle.perfdata_sources.specs.Endian.{number_in}
use Rattle.perfdata_sources.specs.Raw.{bytes_of}
use Rattle.perfdata_jit.specs.JitRecords.{ReadsDebugEntries}
use Rattle.perfdata_jit.proofs.records.read_entries.Given as goal

abbrev pub invariant-entries : goal.invariant-entries
invariant-entries l = ReadsDebugEntries (number_in l.initial.endian) l._index (bytes_of l.initial.bytes) l.entries.items (bytes_of l.bytes)
