-- The wire format of protocol buffers: numbers, keys, and the fields of a message.
use Rattle.std.specs.Prelude.{ℕ, zero, suc, ◌+◌, ◌*◌, ◌/◌, ◌%◌, ◌==◌, nat_lt, if◌then◌else◌, List, [], ◌∷◌, ◌++◌, length}
use Rattle.std.specs.List.{flat_map}

-- The bytes of a number: seven bits in each, the lowest first, and 128 added to each but the last. At most `most` bytes are
-- before the last.
abbrev pub varint_within : ℕ → ℕ → List ℕ
varint_within zero n = n ∷ []
varint_within (suc most) n = if nat_lt n 128 then n ∷ [] else ((n % 128 + 128) ∷ varint_within most (n / 128))

unfoldable pub varint : ℕ → List ℕ
varint n = varint_within n n

-- What a field contains: a number, or bytes with their length.
pub data Contents : Type 0 where
  number : ℕ → Contents
  bytes : List ℕ → Contents

pub record Field : Type 0 where
  pub field_number : ℕ
  pub contents : Contents

-- The bytes of a field: its key, which has its number and its wire type, then its contents.
abbrev pub contents_bytes : ℕ → Contents → List ℕ
contents_bytes k (number n) = varint (k * 8) ++ varint n
contents_bytes k (bytes b) = varint (k * 8 + 2) ++ (varint (length b) ++ b)

-- The bytes of a message: those of its fields.
unfoldable pub message_bytes : List Field → List ℕ
message_bytes [] = []
message_bytes (field ∷ fields) = contents_bytes field.field_number field.contents ++ message_bytes fields

-- A field with bytes.
abbrev pub bytes_field : ℕ → List ℕ → List Field
bytes_field k b = record { field_number = k; contents = bytes b } ∷ []

-- A field with a number. It is absent if the number is 0.
abbrev pub number_field : ℕ → ℕ → List Field
number_field k n = if n == 0 then [] else record { field_number = k; contents = number n } ∷ []

-- A field with numbers one after the other. It is absent if there are none.
abbrev pub packed_field : ℕ → List ℕ → List Field
packed_field k [] = []
packed_field k (n ∷ ns) = bytes_field k (flat_map varint (n ∷ ns))

-- A field with a message.
abbrev pub message_field : ℕ → List Field → List Field
message_field k fields = bytes_field k (message_bytes fields)

-- A field for each message.
abbrev pub message_fields : {A : Type 0} → ℕ → (A → List Field) → List A → List Field
message_fields k fields_of messages = flat_map (λ message. message_field k (fields_of message)) messages
