-- Steps of private functions: the number of pauses that a call counts. No call reads on after an empty read.
use Rattle.std.specs.Prelude.{Bool, true, false, Option, Result, Ok, Err}
use Rattle.perfdata_sources.specs.Source.{State}
use Rattle.linux_perf_data.specs.declared.pipe.opening.NextInOpening.{NextInOpening}
use Rattle.linux_perf_data.specs.declared.pipe.opening.NextInOpening.TheVariants.{Record, End}
use Rattle.linux_perf_data.specs.declared.pipe.opening.PipeOpening.{PipeOpening}
use Rattle.linux_perf_data.specs.Pauses.{NoPause, AtMostOnePause, PausesOnlyAtEnd}

-- No pause if all bytes were read, at most one otherwise.
abbrev pub PausesOnlyIfTruncated : {E : Type 0} → State → Result Bool E → State → Type 0
PausesOnlyIfTruncated old (Ok true) new = NoPause old new
PausesOnlyIfTruncated old (Ok false) new = AtMostOnePause old new
PausesOnlyIfTruncated old (Err e) new = AtMostOnePause old new

-- No pause if the call read a metadata record or a whole record header.
abbrev pub PausesOnlyWithoutHeader : {E : Type 0} → State → Result NextInOpening E → State → Type 0
PausesOnlyWithoutHeader old (Ok (Record end)) new = NoPause old new
PausesOnlyWithoutHeader old (Ok (End header)) new = PausesOnlyAtEnd old header new
PausesOnlyWithoutHeader old (Err e) new = AtMostOnePause old new

-- No pause if a record header ends the metadata.
abbrev pub PausesOnlyWithoutPendingHeader : {A B E : Type 0} → State → Result (A × Option B) E → State → Type 0
PausesOnlyWithoutPendingHeader old (Ok r) new = PausesOnlyAtEnd old r.1 new
PausesOnlyWithoutPendingHeader old (Err e) new = AtMostOnePause old new

abbrev pub PausesOnlyInEndedOpening : {E : Type 0} → State → Result PipeOpening E → State → Type 0
PausesOnlyInEndedOpening old (Ok opening) new = PausesOnlyAtEnd old opening.pending_header new
PausesOnlyInEndedOpening old (Err e) new = AtMostOnePause old new
