-- A buffered reader of std as a source.
use Rattle.std.specs.Prelude.{◌≡◌, ℕ, ◌<◌, List, ◌++◌, length, Bool, true, false, Result, Ok, Err}
use Rattle.std.specs.Io.Buffered.{reader_buffer}
use Rattle.perfdata_sources.specs.RelativeSeek.{IsPositionAfter}
use Rattle.perfdata_sources.specs.Source.{State, opaque_source}
use Rattle.perfdata_sources.specs.declared.source.counted_buffer.CountedBuffer.{CountedBuffer}

abbrev pub buffered_state : {R : Type 0} → CountedBuffer R → State
buffered_state c = opaque_source c.errors c.pauses

-- the bytes in the reader's buffer
abbrev pub counted_buffer_bytes : {R : Type 0} → CountedBuffer R → List ℕ
counted_buffer_bytes c = reader_buffer c.reader

-- The bytes read are a prefix of the reader's buffer, which contains the rest afterwards, and the position advances by their
-- number. Or the buffer contains fewer bytes, and nothing changes.
abbrev pub TakesFromBuffer : {R : Type 0} → CountedBuffer R → List ℕ → Bool → CountedBuffer R → Type 0
TakesFromBuffer old offset true new =
    (counted_buffer_bytes old ≡ offset ++ counted_buffer_bytes new) × IsPositionAfter old.position (length offset) new.position
TakesFromBuffer old offset false new = (length (counted_buffer_bytes old) < length offset) × (new ≡ old)

-- The bytes appended to the `Vec` are a prefix of the reader's buffer, which contains the rest afterwards, and the position
-- advances by their number. Or the buffer contains fewer bytes or memory runs out, and the source doesn't change.
abbrev pub AppendsFromBuffer : {R E : Type 0} → CountedBuffer R → List ℕ → ℕ → Result Bool E → List ℕ → CountedBuffer R → Type 0
AppendsFromBuffer old before count (Ok true) now new = (bytes : List ℕ) × (now ≡ before ++ bytes)
    × (counted_buffer_bytes old ≡ bytes ++ counted_buffer_bytes new) × IsPositionAfter old.position count new.position
AppendsFromBuffer old before count (Ok false) now new = (length (counted_buffer_bytes old) < count) × (new ≡ old)
AppendsFromBuffer old before count (Err _) now new = new ≡ old
