-- The fields with a number among those of a message.
use Rattle.std.proofs.Common.{◌≡◌, ◌==◌, ℕ, Bool, true, false, cond, List, [], ◌∷◌, ◌++◌, inl, inr, map, refl, ap, sym, ◌∙◌, append_assoc, Option, None, Some}
use Rattle.std.proofs.lemmas.Bool.{cases_eq, eq-eqb, ne_eqb}
use Rattle.std.proofs.lemmas.List.{append-nil}
use Rattle.std.specs.List.{flat_map}
use Rattle.pprof.specs.Decoding.{bytes_if, bytes_in, first_number, number_if, numbers_in, numbers_of}
use Rattle.pprof.specs.Messages.{period_type_fields, text_fields, value_type_fields}
use Rattle.pprof.specs.Wire.{Field, bytes, bytes_field, message_bytes, message_fields, number, number_field, packed_field, varint}
use Rattle.pprof.specs.declared.profile.ValueType.{ValueType}
use Rattle.pprof.proofs.Reading.{numbers_of-packed}

pub numbers_in-append : (k : ℕ) (fields more : List Field) → numbers_in k (fields ++ more) ≡ numbers_in k fields ++ numbers_in k more
unfolding numbers_in
numbers_in-append k [] more = refl
numbers_in-append k (field ∷ fields) more =
    let first = number_if (field.field_number == k) field.contents in
    ap (λ (ns : List ℕ). first ++ ns) (numbers_in-append k fields more) ∙ sym (append_assoc first (numbers_in k fields) (numbers_in k more))

pub bytes_in-append : (k : ℕ) (fields more : List Field) → bytes_in k (fields ++ more) ≡ bytes_in k fields ++ bytes_in k more
unfolding bytes_in
bytes_in-append k [] more = refl
bytes_in-append k (field ∷ fields) more =
    let first = bytes_if (field.field_number == k) field.contents in
    ap (λ (bs : List (List ℕ)). first ++ bs) (bytes_in-append k fields more) ∙ sym (append_assoc first (bytes_in k fields) (bytes_in k more))

-- What a field with a number has: no number if it is 0, which is what an absent field has.
abbrev pub number_list : ℕ → List ℕ
number_list n = cond (n == 0) [] (n ∷ [])

nothing : {A : Type 0} → (here : Bool) → ◌≡◌ {A = List A} [] (cond here [] [])
nothing true = refl
nothing false = refl

number_here : (here : Bool) (n : ℕ) → number_if here (number n) ++ [] ≡ cond here (n ∷ []) []
number_here true n = refl
number_here false n = refl

bytes_here : (here : Bool) (b : List ℕ) (bs : List (List ℕ)) → bytes_if here (bytes b) ++ cond here bs [] ≡ cond here (b ∷ bs) []
bytes_here true b bs = refl
bytes_here false b bs = refl

one_here : (here : Bool) (b : List ℕ) → bytes_if here (bytes b) ++ [] ≡ cond here (b ∷ []) []
one_here true b = refl
one_here false b = refl

no_number_here : (here : Bool) (b : List ℕ) → number_if here (bytes b) ++ [] ≡ []
no_number_here true b = refl
no_number_here false b = refl

no_bytes_here : (here : Bool) (n : ℕ) → bytes_if here (number n) ++ [] ≡ []
no_bytes_here true n = refl
no_bytes_here false n = refl

pub numbers_in-number : (k j n : ℕ) → numbers_in k (number_field j n) ≡ cond (j == k) (number_list n) []
unfolding numbers_in
numbers_in-number k j n = elim (n == 0) as (λ (absent : Bool). numbers_in k (cond absent [] (record { field_number = j; contents = number n } ∷ [])) ≡ cond (j == k) (cond absent [] (n ∷ [])) []) [
  | true ↦ nothing (j == k)
  | false ↦ number_here (j == k) n
]

pub bytes_in-number : (k j n : ℕ) → bytes_in k (number_field j n) ≡ []
unfolding bytes_in
bytes_in-number k j n = elim (n == 0) as (λ (absent : Bool). bytes_in k (cond absent [] (record { field_number = j; contents = number n } ∷ [])) ≡ []) [
  | true ↦ refl
  | false ↦ no_bytes_here (j == k) n
]

pub first_of_list : (n : ℕ) → first_number (number_list n) ≡ n
first_of_list n = elim (cases_eq n 0) [
  | inl none ↦ rw (eq-eqb n 0 none) (sym none)
  | inr some ↦ rw (ne_eqb n 0 some) refl
]

pub bytes_in-bytes : (k j : ℕ) (b : List ℕ) → bytes_in k (bytes_field j b) ≡ cond (j == k) (b ∷ []) []
unfolding bytes_in
bytes_in-bytes k j b = one_here (j == k) b

pub numbers_in-bytes : (k j : ℕ) (b : List ℕ) → numbers_in k (bytes_field j b) ≡ []
unfolding numbers_in
numbers_in-bytes k j b = no_number_here (j == k) b

pub bytes_in-texts : (k j : ℕ) (texts : List (List ℕ)) → bytes_in k (text_fields j texts) ≡ cond (j == k) texts []
unfolding bytes_in
bytes_in-texts k j [] = nothing (j == k)
bytes_in-texts k j (text ∷ texts) = rw (bytes_in-texts k j texts)
    (bytes_here (j == k) text texts)

pub numbers_in-texts : (k j : ℕ) (texts : List (List ℕ)) → numbers_in k (text_fields j texts) ≡ []
unfolding numbers_in
numbers_in-texts k j [] = refl
numbers_in-texts k j (text ∷ texts) = rw (numbers_in-texts k j texts)
    (no_number_here (j == k) text)

pub bytes_in-messages : {A : Type 0} → (k j : ℕ) (fields_of : A → List Field) (messages : List A)
    → bytes_in k (message_fields j fields_of messages) ≡ cond (j == k) (map (λ m. message_bytes (fields_of m)) messages) []
unfolding bytes_in
bytes_in-messages k j fields_of [] = nothing (j == k)
bytes_in-messages {A} k j fields_of (m ∷ ms) = rw (bytes_in-messages k j fields_of ms)
    (bytes_here (j == k) (message_bytes (fields_of m)) (map (λ (m : A). message_bytes (fields_of m)) ms))

pub numbers_in-messages : {A : Type 0} → (k j : ℕ) (fields_of : A → List Field) (messages : List A) → numbers_in k (message_fields j fields_of messages) ≡ []
unfolding numbers_in
numbers_in-messages k j fields_of [] = refl
numbers_in-messages k j fields_of (m ∷ ms) = rw (numbers_in-messages k j fields_of ms)
    (no_number_here (j == k) (message_bytes (fields_of m)))

-- The bytes of numbers one after the other, if there are any.
abbrev pub packed_list : List ℕ → List (List ℕ)
packed_list [] = []
packed_list (n ∷ ns) = flat_map varint (n ∷ ns) ∷ []

pub bytes_in-packed : (k j : ℕ) (ns : List ℕ) → bytes_in k (packed_field j ns) ≡ cond (j == k) (packed_list ns) []
unfolding bytes_in
bytes_in-packed k j [] = nothing (j == k)
bytes_in-packed k j (n ∷ ns) = one_here (j == k) (flat_map varint (n ∷ ns))

pub unpacked : (ns : List ℕ) → flat_map numbers_of (packed_list ns) ≡ ns
unpacked [] = refl
unpacked (n ∷ ns) = rw (numbers_of-packed (n ∷ ns)) (append-nil (n ∷ ns))

-- The bytes of the type of the period, if there is one.
abbrev pub period_type_list : Option ValueType → List (List ℕ)
period_type_list None = []
period_type_list (Some t) = message_bytes (value_type_fields t) ∷ []

pub bytes_in-period_type : (k : ℕ) (t : Option ValueType) → bytes_in k (period_type_fields t) ≡ cond (11 == k) (period_type_list t) []
unfolding bytes_in
bytes_in-period_type k None = nothing (11 == k)
bytes_in-period_type k (Some t) = one_here (11 == k) (message_bytes (value_type_fields t))

pub numbers_in-period_type : (k : ℕ) (t : Option ValueType) → numbers_in k (period_type_fields t) ≡ []
unfolding numbers_in
numbers_in-period_type k None = refl
numbers_in-period_type k (Some t) = no_number_here (11 == k) (message_bytes (value_type_fields t))
