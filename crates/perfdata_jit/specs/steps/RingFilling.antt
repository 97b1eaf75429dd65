-- What a read into a buffer adds to the buffered bytes.
use Rattle.std.specs.Prelude.{◌≡◌, ℕ, List, [], ◌++◌, length, Result, Ok, Err}
use Rattle.perfdata_sources.specs.Source.{State, Consumed, EndedOrPaused, SourceFailed}

-- n bytes are read and buffered after the earlier ones; n is 0 only after an empty read
pub record RingFilled (old : State) (before : List ℕ) (n : ℕ) (after : List ℕ) (new : State) : Type 0 where
  pub consumed_bytes : List ℕ
  pub exact_len : length consumed_bytes ≡ n
  pub consumes : Consumed old consumed_bytes new
  pub buffer_content : after ≡ before ++ consumed_bytes
  pub if_empty : n ≡ 0 → EndedOrPaused old new

-- the source failed, and the buffered bytes are unchanged
pub record RingFillError (old : State) (before after : List ℕ) (new : State) : Type 0 where
  pub consumes : Consumed old [] new
  pub buffer_content : after ≡ before
  pub source_failed : SourceFailed old new

-- what one read does to the buffered bytes
abbrev pub FillsRing : {E : Type 0} → State → List ℕ → Result ℕ E → List ℕ → State → Type 0
FillsRing old before (Ok n) after new = RingFilled old before n after new
FillsRing old before (Err e) after new = RingFillError old before after new
