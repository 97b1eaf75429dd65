use Rattle.std.proofs.Common.{List, length}
use Rattle.perfdata_records.specs.BuildIdEvent.{BuildIdEntry}
use Rattle.linux_perf_data.specs.BuildIds.{BeginsWithEntries, MapsLastEntries}
use Rattle.linux_perf_data.proofs.perf_file.build_ids.parse_build_ids.Given as goal

abbrev pub invariant-entries : goal.invariant-entries
invariant-entries l = (es : List BuildIdEntry) × BeginsWithEntries l.fn.endian l.fn.bytes es l.rest × MapsLastEntries l.ids es

abbrev pub decreases-entries : goal.decreases-entries
decreases-entries l = length l.rest
