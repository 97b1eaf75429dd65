-- Seeks of a reader whose position is known.
use Rattle.std.specs.Prelude.{◌≡◌, ℕ, ◌+◌, ◌^◌, ◌<◌, Option, None, Some, Result, Ok, Err, SomeIff, IfSome}

-- a known position is the reader's own, if contracts know the reader's
abbrev pub AgreesWithPosition : Option ℕ → Option ℕ → Type 0
AgreesWithPosition known described = IfSome known (λ p. IfSome described (λ q. q ≡ p))

-- the position count bytes after a known one, if it fits in 64 bits
abbrev pub IsPositionAfter : Option ℕ → ℕ → Option ℕ → Type 0
IsPositionAfter None count after = after ≡ None
IsPositionAfter (Some at) count after = SomeIff after (at + count < 2 ^ 64) (at + count)

-- the effect of a read on a known position: it advances by the bytes read, and is unknown after an error
abbrev pub ReadUpdatesPosition : {E : Type 0} → Option ℕ → Result ℕ E → Option ℕ → Type 0
ReadUpdatesPosition old (Ok n) new = IsPositionAfter old n new
ReadUpdatesPosition old (Err e) new = new ≡ None

-- the effect of a seek on it: it is the reported position, and is unknown after an error
abbrev pub SeekUpdatesPosition : {E : Type 0} → Result ℕ E → Option ℕ → Type 0
SeekUpdatesPosition (Ok at) buf = buf ≡ Some at
SeekUpdatesPosition (Err e) buf = buf ≡ None
