-- Filling a buffer by reads that aren't repeated.
use Rattle.std.specs.Prelude.{◌≡◌, ℕ, ◌+◌, ◌<◌, ◌≤◌, List, length, take, Result, Ok, Err}
use Rattle.perfdata_sources.specs.Source.{State, Consumed, SourceFailed, BufferFilled}

-- the source failed, and the buffer starts with the bytes that were read before
pub record FillUntilEofError (old : State) (buf : List ℕ) (new : State) : Type 0 where
  pub count : ℕ
  pub too_few : count < length buf
  pub consumes : Consumed old (take count buf) new
  pub source_failed : SourceFailed old new

-- what filling a buffer does: it is full, or a read was empty or failed
abbrev pub FillsUntilEof : {E : Type 0} → State → List ℕ → Result ℕ E → State → Type 0
FillsUntilEof old buf (Ok n) new = BufferFilled old buf n new
FillsUntilEof old buf (Err e) new = FillUntilEofError old buf new

-- How filling a buffer changes the counts. It ends at the first error, and thus counts no error on success. It ends at the
-- first empty read, and thus counts none if the buffer is full or a read failed, otherwise at most one.
abbrev pub CountsFill : {E : Type 0} → State → List ℕ → Result ℕ E → State → Type 0
CountsFill old buf (Ok n) new = (new.errors ≡ old.errors) × (n ≡ length buf → new.pauses ≡ old.pauses) × (new.pauses ≤ old.pauses + 1)
CountsFill old buf (Err e) new = new.pauses ≡ old.pauses
