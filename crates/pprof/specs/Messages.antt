-- The messages of profile.proto: the fields of each, ascending by number.
use Rattle.std.specs.Prelude.{◌≡◌, ℕ, List, [], ◌++◌, map, Option, None, Some}
use Rattle.std.specs.Int.{from_bool}
use Rattle.std.specs.List.{flat_map}
use Rattle.std.specs.String.{string_bytes}
use Rattle.pprof.specs.Wire.{Field, bytes_field, message_bytes, message_field, message_fields, number_field, packed_field}
use Rattle.pprof.specs.declared.profile.Function.{Function}
use Rattle.pprof.specs.declared.profile.Label.{Label}
use Rattle.pprof.specs.declared.profile.Line.{Line}
use Rattle.pprof.specs.declared.profile.Location.{Location}
use Rattle.pprof.specs.declared.profile.Mapping.{Mapping}
use Rattle.pprof.specs.declared.profile.Profile.{Profile}
use Rattle.pprof.specs.declared.profile.Sample.{Sample}
use Rattle.pprof.specs.declared.profile.ValueType.{ValueType}

-- A sample, apart from its vectors' memory.
pub record SampleValue : Type 0 where
  pub location_ids : List ℕ
  pub values : List ℕ
  pub labels : List Label

abbrev pub sample_value : Sample → SampleValue
sample_value s = record { location_ids = s.location_ids.items; values = s.values.items; labels = s.labels.items }

-- A location, apart from its vector's memory.
pub record LocationValue : Type 0 where
  pub id : ℕ
  pub mapping_id : ℕ
  pub address : ℕ
  pub lines : List Line

abbrev pub location_value : Location → LocationValue
location_value l = record { id = l.id; mapping_id = l.mapping_id; address = l.address; lines = l.lines.items }

-- A profile, apart from its vectors' memory.
pub record ProfileValue : Type 0 where
  pub sample_types : List ValueType
  pub samples : List SampleValue
  pub mappings : List Mapping
  pub locations : List LocationValue
  pub functions : List Function
  pub strings : List (List ℕ)
  pub duration : ℕ
  pub period_type : Option ValueType
  pub period : ℕ
  pub comment : ℕ
  pub default_sample_type : ℕ

abbrev pub profile_value : Profile → ProfileValue
profile_value p = record {
  sample_types = p.sample_types.items;
  samples = map sample_value p.samples.items;
  mappings = p.mappings.items;
  locations = map location_value p.locations.items;
  functions = p.functions.items;
  strings = map string_bytes p.strings.items;
  duration = p.duration;
  period_type = p.period_type;
  period = p.period;
  comment = p.comment;
  default_sample_type = p.default_sample_type;
}

abbrev pub value_type_fields : ValueType → List Field
value_type_fields t = number_field 1 t.kind ++ number_field 2 t.unit

abbrev pub label_fields : Label → List Field
label_fields l = number_field 1 l.key ++ number_field 2 l.text ++ number_field 3 l.number

abbrev pub sample_fields : SampleValue → List Field
sample_fields s = packed_field 1 s.location_ids ++ packed_field 2 s.values ++ message_fields 3 label_fields s.labels

abbrev pub mapping_fields : Mapping → List Field
mapping_fields m = number_field 1 m.id ++ number_field 2 m.memory_start ++ number_field 3 m.memory_limit ++ number_field 4 m.file_offset
    ++ number_field 5 m.filename ++ number_field 6 m.build_id ++ number_field 7 (from_bool m.has_functions)
    ++ number_field 8 (from_bool m.has_filenames) ++ number_field 9 (from_bool m.has_line_numbers)
    ++ number_field 10 (from_bool m.has_inline_frames)

abbrev pub line_fields : Line → List Field
line_fields l = number_field 1 l.function_id ++ number_field 2 l.line

abbrev pub location_fields : LocationValue → List Field
location_fields l = number_field 1 l.id ++ number_field 2 l.mapping_id ++ number_field 3 l.address ++ message_fields 4 line_fields l.lines

abbrev pub function_fields : Function → List Field
function_fields f = number_field 1 f.id ++ number_field 2 f.name ++ number_field 3 f.system_name ++ number_field 4 f.filename

abbrev pub period_type_fields : Option ValueType → List Field
period_type_fields None = []
period_type_fields (Some t) = message_field 11 (value_type_fields t)

abbrev pub text_fields : ℕ → List (List ℕ) → List Field
text_fields k texts = flat_map (bytes_field k) texts

abbrev pub profile_fields : ProfileValue → List Field
profile_fields p = message_fields 1 value_type_fields p.sample_types ++ message_fields 2 sample_fields p.samples
    ++ message_fields 3 mapping_fields p.mappings ++ message_fields 4 location_fields p.locations
    ++ message_fields 5 function_fields p.functions ++ text_fields 6 p.strings ++ number_field 10 p.duration
    ++ period_type_fields p.period_type ++ number_field 12 p.period ++ number_field 13 p.comment ++ number_field 14 p.default_sample_type

-- A profile that has no bytes: no rows and no texts, and all numbers are 0.
pub record IsEmpty (p : ProfileValue) : Type 0 where
  pub sample_types : p.sample_types ≡ []
  pub samples : p.samples ≡ []
  pub mappings : p.mappings ≡ []
  pub locations : p.locations ≡ []
  pub functions : p.functions ≡ []
  pub strings : p.strings ≡ []
  pub duration : p.duration ≡ 0
  pub period_type : p.period_type ≡ None
  pub period : p.period ≡ 0
  pub comment : p.comment ≡ 0
  pub default_sample_type : p.default_sample_type ≡ 0

-- The bytes of a profile.
abbrev pub encode : ProfileValue → List ℕ
encode p = message_bytes (profile_fields p)
