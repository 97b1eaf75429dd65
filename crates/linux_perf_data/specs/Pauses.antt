-- The number of pauses that a call counts. No call reads on after an empty read.
use Rattle.std.specs.Prelude.{◌≡◌, ◌+◌, ◌≤◌, Option, None, Some, Result, Ok, Err}
use Rattle.perfdata_sources.specs.Source.{State}

abbrev pub NoPause : State → State → Type 0
NoPause old new = new.pauses ≡ old.pauses

abbrev pub AtMostOnePause : State → State → Type 0
AtMostOnePause old new = new.pauses ≤ old.pauses + 1

-- No pause if the call returns an item, at most one if it returns none.
abbrev pub PausesOnlyAtEnd : {A : Type 0} → State → Option A → State → Type 0
PausesOnlyAtEnd old (Some _) new = NoPause old new
PausesOnlyAtEnd old None new = AtMostOnePause old new

-- The same for a call that can fail, which counts at most one pause on error.
abbrev pub PausesOnlyAtEndOrError : {A E : Type 0} → State → Result (Option A) E → State → Type 0
PausesOnlyAtEndOrError old (Ok next) new = PausesOnlyAtEnd old next new
PausesOnlyAtEndOrError old (Err e) new = AtMostOnePause old new
