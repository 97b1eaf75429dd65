-- The buffered bytes of a source, a prefix of its remaining bytes.
use Rattle.std.specs.Prelude.{◌≡◌, ℕ, List, ◌++◌, length, Bool, true, false, Result, Ok, Err, IfSome}
use Rattle.std.specs.Io.{StartsWith}
use Rattle.perfdata_sources.specs.Source.{State, Consumed}

-- the remaining bytes, if they are known, start with these
abbrev pub IsPrefixOfRemaining : State → List ℕ → Type 0
IsPrefixOfRemaining s prefix = IfSome s.bytes (λ bytes. StartsWith bytes prefix)

-- exactly these bytes were consumed, and the counts are unchanged
pub record ConsumedBuffered (old : State) (bytes : List ℕ) (new : State) : Type 0 where
  pub consumes : Consumed old bytes new
  pub errors : new.errors ≡ old.errors
  pub pauses : new.pauses ≡ old.pauses

-- a buffer was filled, or nothing changed
abbrev pub ReadsBuffered : State → List ℕ → Bool → List ℕ → State → Type 0
ReadsBuffered old before true now new = ConsumedBuffered old now new
ReadsBuffered old before false now new = (now ≡ before) × (new ≡ old)

-- the next count bytes were appended to a buffer
pub record AppendedBuffered (old : State) (before : List ℕ) (count : ℕ) (now : List ℕ) (new : State) : Type 0 where
  pub bytes : List ℕ
  pub exact_len : length bytes ≡ count
  pub buffer_content : now ≡ before ++ bytes
  pub consumes_buffered : ConsumedBuffered old bytes new

-- the bytes were appended, or nothing changed
abbrev pub AppendsBuffered : {E : Type 0} → State → List ℕ → ℕ → Result Bool E → List ℕ → State → Type 0
AppendsBuffered old before count (Ok true) now new = AppendedBuffered old before count now new
AppendsBuffered old before count (Ok false) now new = (now ≡ before) × (new ≡ old)
AppendsBuffered old before count (Err _) now new = (now ≡ before) × (new ≡ old)
