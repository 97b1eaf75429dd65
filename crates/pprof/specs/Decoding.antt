-- A decoder of the bytes of a profile.
use Rattle.std.specs.Prelude.{◌≡◌, ℕ, zero, suc, ◌+◌, ◌-◌, ◌*◌, ◌/◌, ◌%◌, ◌==◌, nat_lt, if◌then◌else◌, Bool, true, not, List, [], ◌∷◌, ◌++◌, length, map, take, drop, Option, None, Some}
use Rattle.std.specs.List.{flat_map}
use Rattle.pprof.specs.Messages.{LocationValue, ProfileValue, SampleValue, encode}
use Rattle.pprof.specs.Wire.{Contents, Field, bytes, number}
use Rattle.pprof.specs.declared.profile.Function.{Function}
use Rattle.pprof.specs.declared.profile.Label.{Label}
use Rattle.pprof.specs.declared.profile.Line.{Line}
use Rattle.pprof.specs.declared.profile.Mapping.{Mapping}
use Rattle.pprof.specs.declared.profile.ValueType.{ValueType}

-- The number at the start of bytes, and the bytes after it.
unfoldable pub number_of : List ℕ → ℕ
number_of [] = 0
number_of (b ∷ bs) = if nat_lt b 128 then b else (b - 128 + 128 * number_of bs)

unfoldable pub after_number : List ℕ → List ℕ
after_number [] = []
after_number (b ∷ bs) = if nat_lt b 128 then bs else after_number bs

-- All numbers in bytes, of which there are at most as many as bytes.
unfoldable pub numbers_within : ℕ → List ℕ → List ℕ
numbers_within zero bs = []
numbers_within (suc most) [] = []
numbers_within (suc most) (b ∷ bs) = number_of (b ∷ bs) ∷ numbers_within most (after_number (b ∷ bs))

abbrev pub numbers_of : List ℕ → List ℕ
numbers_of bs = numbers_within (length bs) bs

-- The field after a key, and the bytes after it.
abbrev pub field_after : ℕ → List ℕ → Field
field_after key bs = record {
  field_number = key / 8;
  contents = if key % 8 == 0 then number (number_of bs) else bytes (take (number_of bs) (after_number bs));
}

abbrev pub after_field : ℕ → List ℕ → List ℕ
after_field key bs = if key % 8 == 0 then after_number bs else drop (number_of bs) (after_number bs)

-- All fields in bytes, of which there are at most as many as bytes.
unfoldable pub fields_within : ℕ → List ℕ → List Field
fields_within zero bs = []
fields_within (suc most) [] = []
fields_within (suc most) (b ∷ bs) = field_after (number_of (b ∷ bs)) (after_number (b ∷ bs))
    ∷ fields_within most (after_field (number_of (b ∷ bs)) (after_number (b ∷ bs)))

abbrev pub fields_of : List ℕ → List Field
fields_of bs = fields_within (length bs) bs

-- The numbers of the fields with a field number, and the bytes of such fields.
abbrev pub number_if : Bool → Contents → List ℕ
number_if true (number n) = n ∷ []
number_if _ _ = []

abbrev pub bytes_if : Bool → Contents → List (List ℕ)
bytes_if true (bytes b) = b ∷ []
bytes_if _ _ = []

unfoldable pub numbers_in : ℕ → List Field → List ℕ
numbers_in k [] = []
numbers_in k (field ∷ fields) = number_if (field.field_number == k) field.contents ++ numbers_in k fields

unfoldable pub bytes_in : ℕ → List Field → List (List ℕ)
bytes_in k [] = []
bytes_in k (field ∷ fields) = bytes_if (field.field_number == k) field.contents ++ bytes_in k fields

-- The first number, or 0.
abbrev pub first_number : List ℕ → ℕ
first_number [] = 0
first_number (n ∷ ns) = n

abbrev pub first_of : {A : Type 0} → List A → Option A
first_of [] = None
first_of (x ∷ xs) = Some x

-- The number of a field, which is 0 if the field is absent.
abbrev pub number_in : ℕ → List Field → ℕ
number_in k fields = first_number (numbers_in k fields)

abbrev pub packed_in : ℕ → List Field → List ℕ
packed_in k fields = flat_map numbers_of (bytes_in k fields)

abbrev pub messages_in : {A : Type 0} → ℕ → (List Field → A) → List Field → List A
messages_in k value_of fields = map (λ b. value_of (fields_of b)) (bytes_in k fields)

-- The values of messages with these fields.
abbrev pub value_type_of : List Field → ValueType
value_type_of fields = record { kind = number_in 1 fields; unit = number_in 2 fields }

abbrev pub label_of : List Field → Label
label_of fields = record { key = number_in 1 fields; text = number_in 2 fields; number = number_in 3 fields }

abbrev pub sample_of : List Field → SampleValue
sample_of fields = record {
  location_ids = packed_in 1 fields;
  values = packed_in 2 fields;
  labels = messages_in 3 label_of fields;
}

abbrev pub mapping_of : List Field → Mapping
mapping_of fields = record {
  id = number_in 1 fields;
  memory_start = number_in 2 fields;
  memory_limit = number_in 3 fields;
  file_offset = number_in 4 fields;
  filename = number_in 5 fields;
  build_id = number_in 6 fields;
  has_functions = not (number_in 7 fields == 0);
  has_filenames = not (number_in 8 fields == 0);
  has_line_numbers = not (number_in 9 fields == 0);
  has_inline_frames = not (number_in 10 fields == 0);
}

abbrev pub line_of : List Field → Line
line_of fields = record { function_id = number_in 1 fields; line = number_in 2 fields }

abbrev pub location_of : List Field → LocationValue
location_of fields = record {
  id = number_in 1 fields;
  mapping_id = number_in 2 fields;
  address = number_in 3 fields;
  lines = messages_in 4 line_of fields;
}

abbrev pub function_of : List Field → Function
function_of fields = record {
  id = number_in 1 fields;
  name = number_in 2 fields;
  system_name = number_in 3 fields;
  filename = number_in 4 fields;
}

abbrev pub profile_of : List Field → ProfileValue
profile_of fields = record {
  sample_types = messages_in 1 value_type_of fields;
  samples = messages_in 2 sample_of fields;
  mappings = messages_in 3 mapping_of fields;
  locations = messages_in 4 location_of fields;
  functions = messages_in 5 function_of fields;
  strings = bytes_in 6 fields;
  duration = number_in 10 fields;
  period_type = first_of (messages_in 11 value_type_of fields);
  period = number_in 12 fields;
  comment = number_in 13 fields;
  default_sample_type = number_in 14 fields;
}

-- The profile whose bytes these are.
abbrev pub decode : List ℕ → ProfileValue
decode bs = profile_of (fields_of bs)

-- A profile can be decoded from its bytes.
abbrev pub DecodesEncoded : Type 0
DecodesEncoded = (p : ProfileValue) → decode (encode p) ≡ p
