-- Each message is decoded from its fields.
use Rattle.std.proofs.Common.{◌≡◌, ◌==◌, ℕ, Bool, true, false, not, List, [], ◌∷◌, map, refl, ap, ◌∙◌, Option, None, Some}
use Rattle.std.proofs.lemmas.List.{append-nil}
use Rattle.std.specs.Int.{from_bool}
use Rattle.pprof.specs.Decoding.{DecodesEncoded, bytes_in, fields_of, first_of, function_of, label_of, line_of, location_of, mapping_of, messages_in, number_in, profile_of, sample_of, value_type_of}
use Rattle.pprof.specs.Messages.{LocationValue, ProfileValue, SampleValue, function_fields, label_fields, line_fields, location_fields, mapping_fields, profile_fields, sample_fields, value_type_fields}
use Rattle.pprof.specs.Wire.{Field, message_bytes}
use Rattle.pprof.specs.declared.profile.Function.{Function}
use Rattle.pprof.specs.declared.profile.Label.{Label}
use Rattle.pprof.specs.declared.profile.Line.{Line}
use Rattle.pprof.specs.declared.profile.Mapping.{Mapping}
use Rattle.pprof.specs.declared.profile.ValueType.{ValueType}
use Rattle.pprof.proofs.Reading.{fields_of-message}
use Rattle.pprof.proofs.Selecting.{bytes_in-append, bytes_in-bytes, numbers_in-bytes, bytes_in-messages, bytes_in-number, bytes_in-packed, bytes_in-period_type, bytes_in-texts, first_of_list, numbers_in-append, numbers_in-messages, numbers_in-number, numbers_in-period_type, numbers_in-texts, period_type_list, unpacked}

pub value_type : (t : ValueType) → value_type_of (value_type_fields t) ≡ t
value_type t = simp (numbers_in-append, numbers_in-number, append-nil, first_of_list)

pub label : (l : Label) → label_of (label_fields l) ≡ l
label l = simp (numbers_in-append, numbers_in-number, append-nil, first_of_list)

pub function : (f : Function) → function_of (function_fields f) ≡ f
function f = simp (numbers_in-append, numbers_in-number, append-nil, first_of_list)

pub flag_back : (b : Bool) → not (from_bool b == 0) ≡ b
flag_back true = refl
flag_back false = refl

pub line : (l : Line) → line_of (line_fields l) ≡ l
line l = simp (numbers_in-append, numbers_in-number, append-nil, first_of_list)

pub mapping : (m : Mapping) → mapping_of (mapping_fields m) ≡ m
mapping m = simp (numbers_in-append, numbers_in-number, append-nil, first_of_list, flag_back)

-- Messages are decoded from their bytes.
pub decoded : {A : Type 0} → (value_of : List Field → A) (fields_of_one : A → List Field) → ((x : A) → value_of (fields_of_one x) ≡ x) → (xs : List A)
    → map (λ (b : List ℕ). value_of (fields_of b)) (map (λ (x : A). message_bytes (fields_of_one x)) xs) ≡ xs
decoded value_of fields_of_one back [] = refl
decoded {A} value_of fields_of_one back (x ∷ xs) =
    let first = ap value_of (fields_of-message (fields_of_one x)) ∙ back x in
    ap (λ (y : A). y ∷ map (λ (b : List ℕ). value_of (fields_of b)) (map (λ (x : A). message_bytes (fields_of_one x)) xs)) first
    ∙ ap (λ (ys : List A). x ∷ ys) (decoded value_of fields_of_one back xs)

pub location : (l : LocationValue) → location_of (location_fields l) ≡ l
location l = simp (numbers_in-append, bytes_in-append, numbers_in-number, numbers_in-messages, bytes_in-number, bytes_in-messages, append-nil, first_of_list, decoded line_of line_fields line)

pub sample : (s : SampleValue) → sample_of (sample_fields s) ≡ s
sample s = simp (bytes_in-append, bytes_in-packed, bytes_in-messages, append-nil, unpacked, decoded label_of label_fields label)

pub period_type_back : (t : Option ValueType) → first_of (map (λ (b : List ℕ). value_type_of (fields_of b)) (period_type_list t)) ≡ t
period_type_back None = refl
period_type_back (Some t) = ap (λ (t : ValueType). Some t) (ap value_type_of (fields_of-message (value_type_fields t)) ∙ value_type t)

sample_types_in : (p : ProfileValue) → bytes_in 1 (profile_fields p) ≡ map (λ (t : ValueType). message_bytes (value_type_fields t)) p.sample_types
sample_types_in p = simp (bytes_in-append, bytes_in-messages, bytes_in-texts, bytes_in-number, bytes_in-period_type, append-nil)

samples_in : (p : ProfileValue) → bytes_in 2 (profile_fields p) ≡ map (λ (s : SampleValue). message_bytes (sample_fields s)) p.samples
samples_in p = simp (bytes_in-append, bytes_in-messages, bytes_in-texts, bytes_in-number, bytes_in-period_type, append-nil)

mappings_in : (p : ProfileValue) → bytes_in 3 (profile_fields p) ≡ map (λ (m : Mapping). message_bytes (mapping_fields m)) p.mappings
mappings_in p = simp (bytes_in-append, bytes_in-messages, bytes_in-texts, bytes_in-number, bytes_in-period_type, append-nil)

locations_in : (p : ProfileValue) → bytes_in 4 (profile_fields p) ≡ map (λ (l : LocationValue). message_bytes (location_fields l)) p.locations
locations_in p = simp (bytes_in-append, bytes_in-messages, bytes_in-texts, bytes_in-number, bytes_in-period_type, append-nil)

functions_in : (p : ProfileValue) → bytes_in 5 (profile_fields p) ≡ map (λ (f : Function). message_bytes (function_fields f)) p.functions
functions_in p = simp (bytes_in-append, bytes_in-messages, bytes_in-texts, bytes_in-number, bytes_in-period_type, append-nil)

strings_in : (p : ProfileValue) → bytes_in 6 (profile_fields p) ≡ p.strings
strings_in p = simp (bytes_in-append, bytes_in-messages, bytes_in-texts, bytes_in-number, bytes_in-period_type, append-nil)

period_type_in : (p : ProfileValue) → bytes_in 11 (profile_fields p) ≡ period_type_list p.period_type
period_type_in p = simp (bytes_in-append, bytes_in-messages, bytes_in-texts, bytes_in-number, bytes_in-period_type, append-nil)

duration_in : (p : ProfileValue) → number_in 10 (profile_fields p) ≡ p.duration
duration_in p = simp (numbers_in-append, numbers_in-messages, numbers_in-texts, numbers_in-number, numbers_in-period_type, append-nil, first_of_list)

period_in : (p : ProfileValue) → number_in 12 (profile_fields p) ≡ p.period
period_in p = simp (numbers_in-append, numbers_in-messages, numbers_in-texts, numbers_in-number, numbers_in-period_type, append-nil, first_of_list)

comment_in : (p : ProfileValue) → number_in 13 (profile_fields p) ≡ p.comment
comment_in p = simp (numbers_in-append, numbers_in-messages, numbers_in-texts, numbers_in-number, numbers_in-period_type, append-nil, first_of_list)

default_in : (p : ProfileValue) → number_in 14 (profile_fields p) ≡ p.default_sample_type
default_in p = simp (numbers_in-append, numbers_in-messages, numbers_in-texts, numbers_in-number, numbers_in-period_type, append-nil, first_of_list)

-- Messages of one kind, decoded from the fields that have them.
decoded_in : {A : Type 0} → (k : ℕ) (fields : List Field) (value_of : List Field → A) (fields_of_one : A → List Field) (xs : List A)
    → ((x : A) → value_of (fields_of_one x) ≡ x) → bytes_in k fields ≡ map (λ (x : A). message_bytes (fields_of_one x)) xs → messages_in k value_of fields ≡ xs
decoded_in {A} k fields value_of fields_of_one xs back found =
    ap (λ (bs : List (List ℕ)). map (λ (b : List ℕ). value_of (fields_of b)) bs) found ∙ decoded value_of fields_of_one back xs

-- Profiles with the same parts are the same.
same_profile : (p q : ProfileValue) → p.sample_types ≡ q.sample_types → p.samples ≡ q.samples → p.mappings ≡ q.mappings → p.locations ≡ q.locations
    → p.functions ≡ q.functions → p.strings ≡ q.strings → p.duration ≡ q.duration → p.period_type ≡ q.period_type → p.period ≡ q.period → p.comment ≡ q.comment
    → p.default_sample_type ≡ q.default_sample_type → p ≡ q
same_profile p q sample_types samples mappings locations functions strings duration period_type period comment default_sample_type =
    let with_types = λ (x : List ValueType). record p { sample_types = x } in
    let with_samples = λ (x : List SampleValue). record p { sample_types = q.sample_types; samples = x } in
    let with_mappings = λ (x : List Mapping). record p { sample_types = q.sample_types; samples = q.samples; mappings = x } in
    let with_locations = λ (x : List LocationValue). record p { sample_types = q.sample_types; samples = q.samples; mappings = q.mappings; locations = x } in
    let with_functions = λ (x : List Function). record q { functions = x; strings = p.strings; duration = p.duration; period_type = p.period_type; period = p.period; comment = p.comment; default_sample_type = p.default_sample_type } in
    let with_strings = λ (x : List (List ℕ)). record q { strings = x; duration = p.duration; period_type = p.period_type; period = p.period; comment = p.comment; default_sample_type = p.default_sample_type } in
    let with_duration = λ (x : ℕ). record q { duration = x; period_type = p.period_type; period = p.period; comment = p.comment; default_sample_type = p.default_sample_type } in
    let with_period_type = λ (x : Option ValueType). record q { period_type = x; period = p.period; comment = p.comment; default_sample_type = p.default_sample_type } in
    let with_period = λ (x : ℕ). record q { period = x; comment = p.comment; default_sample_type = p.default_sample_type } in
    let with_comment = λ (x : ℕ). record q { comment = x; default_sample_type = p.default_sample_type } in
    let with_default = λ (x : ℕ). record q { default_sample_type = x } in
    ap with_types sample_types ∙ (ap with_samples samples ∙ (ap with_mappings mappings ∙ (ap with_locations locations ∙ (ap with_functions functions
    ∙ (ap with_strings strings ∙ (ap with_duration duration ∙ (ap with_period_type period_type ∙ (ap with_period period ∙ (ap with_comment comment
    ∙ ap with_default default_sample_type)))))))))

pub profile : (p : ProfileValue) → profile_of (profile_fields p) ≡ p
profile p =
    let fields = profile_fields p in
    let sample_types = decoded_in 1 fields value_type_of value_type_fields p.sample_types value_type (sample_types_in p) in
    let samples = decoded_in 2 fields sample_of sample_fields p.samples sample (samples_in p) in
    let mappings = decoded_in 3 fields mapping_of mapping_fields p.mappings mapping (mappings_in p) in
    let locations = decoded_in 4 fields location_of location_fields p.locations location (locations_in p) in
    let functions = decoded_in 5 fields function_of function_fields p.functions function (functions_in p) in
    let period_type = ap (λ (bs : List (List ℕ)). first_of (map (λ (b : List ℕ). value_type_of (fields_of b)) bs)) (period_type_in p) ∙ period_type_back p.period_type in
    same_profile (profile_of fields) p sample_types samples mappings locations functions (strings_in p) (duration_in p) period_type (period_in p) (comment_in p)
    (default_in p)

pub decoding : DecodesEncoded
decoding p = ap profile_of (fields_of-message (profile_fields p)) ∙ profile p
