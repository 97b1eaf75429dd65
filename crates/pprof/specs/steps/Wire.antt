-- Steps of private functions: the wire format of protocol buffers: numbers, keys, and the fields of a message.
use Rattle.std.specs.Prelude.{◌≡◌, ℕ, ◌+◌, List, ◌++◌}
use Rattle.pprof.specs.Wire.{Field, message_bytes}

-- The fields are appended to bytes.
pub record Appends (old : List ℕ) (fields : List Field) (new : List ℕ) : Type 0 where
  pub is : new ≡ old ++ message_bytes fields
