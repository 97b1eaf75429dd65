-- Steps of private functions: the state of a byte source as contracts see it, and the effect of calls on it.
use Rattle.std.specs.Prelude.{ℕ, ◌-◌, List, ◌⊎◌, IfSome}
use Rattle.perfdata_sources.specs.Source.{State, SourceFailed, SourcePaused}

-- the cause of a failed call: the remaining bytes, if they are known, satisfy `Stops`, or the source failed or paused
abbrev pub BytesOrSourceExplain : State → (List ℕ → Type 0) → State → Type 0
BytesOrSourceExplain old Stops new = IfSome old.bytes Stops ⊎ (SourceFailed old new ⊎ SourcePaused old new)
