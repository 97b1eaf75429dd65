-- Fields that are written are read.
use Rattle.std.proofs.Common.{◌≡◌, ◌+◌, ◌*◌, ◌/◌, ◌%◌, ◌≤◌, ◌<◌, ℕ, zero, suc, List, [], ◌∷◌, ◌++◌, length, refl, ap, ◌∙◌, arith, append_assoc}
use Rattle.std.proofs.Math.Seq.{take-append_seam, drop-append_seam}
use Rattle.std.proofs.lemmas.List.{length-append}
use Rattle.std.specs.List.{flat_map}
use Rattle.pprof.specs.Decoding.{after_field, after_number, field_after, fields_of, fields_within, number_of, numbers_of, numbers_within}
use Rattle.pprof.specs.Wire.{Contents, Field, bytes, contents_bytes, message_bytes, number, varint}
use Rattle.pprof.proofs.Numbers.{after_number-varint, number_of-varint, varint_starts}

-- The parts of a key.
pub number_of_key : (k : ℕ) → k * 8 / 8 ≡ k
number_of_key k = omega arith

pub wire_type_of_key : (k : ℕ) → k * 8 % 8 ≡ 0
wire_type_of_key k = omega arith

pub number_of_bytes_key : (k : ℕ) → (k * 8 + 2) / 8 ≡ k
number_of_bytes_key k = omega arith

pub wire_type_of_bytes_key : (k : ℕ) → (k * 8 + 2) % 8 ≡ 2
wire_type_of_bytes_key k = omega arith

pub read_number_field : (k n : ℕ) (rest : List ℕ) → field_after (k * 8) (varint n ++ rest) ≡ record { field_number = k; contents = number n }
read_number_field k n rest = rw (number_of_key k, wire_type_of_key k, number_of-varint n rest) refl

pub after_number_field : (k n : ℕ) (rest : List ℕ) → after_field (k * 8) (varint n ++ rest) ≡ rest
after_number_field k n rest = rw (wire_type_of_key k, after_number-varint n rest) refl

pub read_bytes_field : (k : ℕ) (b rest : List ℕ) → field_after (k * 8 + 2) (varint (length b) ++ (b ++ rest)) ≡ record { field_number = k; contents = bytes b }
read_bytes_field k b rest = rw (number_of_bytes_key k, wire_type_of_bytes_key k, number_of-varint (length b) (b ++ rest), after_number-varint (length b) (b ++ rest), take-append_seam b rest) refl

pub after_bytes_field : (k : ℕ) (b rest : List ℕ) → after_field (k * 8 + 2) (varint (length b) ++ (b ++ rest)) ≡ rest
after_bytes_field k b rest = rw (wire_type_of_bytes_key k, number_of-varint (length b) (b ++ rest), after_number-varint (length b) (b ++ rest), drop-append_seam b rest) refl

-- The first field of bytes, by their first byte.
pub first_field : (most first : ℕ) (more bs : List ℕ) → bs ≡ first ∷ more
    → fields_within (suc most) bs ≡ field_after (number_of bs) (after_number bs) ∷ fields_within most (after_field (number_of bs) (after_number bs))
unfolding fields_within
first_field most first more bs is = rw is refl

pub first_number_read : (most first : ℕ) (more bs : List ℕ) → bs ≡ first ∷ more → numbers_within (suc most) bs ≡ number_of bs ∷ numbers_within most (after_number bs)
unfolding numbers_within
first_number_read most first more bs is = rw is refl

-- A field in front of other bytes is read.
pub read_number_first : (most k n : ℕ) (rest : List ℕ) → fields_within (suc most) (varint (k * 8) ++ (varint n ++ rest)) ≡ record { field_number = k; contents = number n } ∷ fields_within most rest
read_number_first most k n rest =
    let starts = varint_starts (k * 8) in
    let bs = varint (k * 8) ++ (varint n ++ rest) in
    let begins : bs ≡ starts.0 ∷ (starts.1 ++ (varint n ++ rest)) = ap (λ (front : List ℕ). front ++ (varint n ++ rest)) starts.2 in
    first_field most starts.0 (starts.1 ++ (varint n ++ rest)) bs begins
    ∙ rw (number_of-varint (k * 8) (varint n ++ rest), after_number-varint (k * 8) (varint n ++ rest), read_number_field k n rest, after_number_field k n rest) refl

pub read_bytes_first : (most k : ℕ) (b rest : List ℕ) → fields_within (suc most) (varint (k * 8 + 2) ++ (varint (length b) ++ (b ++ rest))) ≡ record { field_number = k; contents = bytes b } ∷ fields_within most rest
read_bytes_first most k b rest =
    let starts = varint_starts (k * 8 + 2) in
    let after = varint (length b) ++ (b ++ rest) in
    let bs = varint (k * 8 + 2) ++ after in
    let begins : bs ≡ starts.0 ∷ (starts.1 ++ after) = ap (λ (front : List ℕ). front ++ after) starts.2 in
    first_field most starts.0 (starts.1 ++ after) bs begins
    ∙ rw (number_of-varint (k * 8 + 2) after, after_number-varint (k * 8 + 2) after, read_bytes_field k b rest, after_bytes_field k b rest) refl

pub read_first : (most k : ℕ) (contents : Contents) (rest : List ℕ) → fields_within (suc most) (contents_bytes k contents ++ rest) ≡ record { field_number = k; contents = contents } ∷ fields_within most rest
read_first most k (number n) rest = rw (append_assoc (varint (k * 8)) (varint n) rest) (read_number_first most k n rest)
read_first most k (bytes b) rest =
    rw (append_assoc (varint (k * 8 + 2)) (varint (length b) ++ b) rest, append_assoc (varint (length b)) b rest) (read_bytes_first most k b rest)

-- A field has at least one byte.
pub starts_contents : (k : ℕ) (contents : Contents) → 0 < length (contents_bytes k contents)
starts_contents k (number n) =
    let starts = varint_starts (k * 8) in
    omega (arith, length-append (varint (k * 8)) (varint n), ap length starts.2)
starts_contents k (bytes b) =
    let starts = varint_starts (k * 8 + 2) in
    omega (arith, length-append (varint (k * 8 + 2)) (varint (length b) ++ b), ap length starts.2)

pub read_fields : (fields : List Field) (most : ℕ) → length (message_bytes fields) ≤ most → fields_within most (message_bytes fields) ≡ fields
unfolding message_bytes fields_within
read_fields [] zero fits = refl
read_fields [] (suc most) fits = refl
read_fields (field ∷ fields) zero fits =
    let first = contents_bytes field.field_number field.contents in
    absurd (omega (arith, length-append first (message_bytes fields), starts_contents field.field_number field.contents))
read_fields (field ∷ fields) (suc most) fits =
    let first = contents_bytes field.field_number field.contents in
    let fewer : length (message_bytes fields) ≤ most = omega (arith, length-append first (message_bytes fields), starts_contents field.field_number field.contents) in
    read_first most field.field_number field.contents (message_bytes fields) ∙ ap (λ (more : List Field). field ∷ more) (read_fields fields most fewer)

pub fields_of-message : (fields : List Field) → fields_of (message_bytes fields) ≡ fields
fields_of-message fields = read_fields fields (length (message_bytes fields)) (omega arith)

pub read_numbers : (ns : List ℕ) (most : ℕ) → length (flat_map varint ns) ≤ most → numbers_within most (flat_map varint ns) ≡ ns
unfolding numbers_within
read_numbers [] zero fits = refl
read_numbers [] (suc most) fits = refl
read_numbers (n ∷ ns) zero fits =
    let starts = varint_starts n in
    absurd (omega (arith, length-append (varint n) (flat_map varint ns), ap length starts.2))
read_numbers (n ∷ ns) (suc most) fits =
    let starts = varint_starts n in
    let rest = flat_map varint ns in
    let fewer : length rest ≤ most = omega (arith, length-append (varint n) rest, ap length starts.2) in
    let begins : varint n ++ rest ≡ starts.0 ∷ (starts.1 ++ rest) = ap (λ (front : List ℕ). front ++ rest) starts.2 in
    first_number_read most starts.0 (starts.1 ++ rest) (varint n ++ rest) begins
    ∙ rw (number_of-varint n rest, after_number-varint n rest) (ap (λ (more : List ℕ). n ∷ more) (read_numbers ns most fewer))

pub numbers_of-packed : (ns : List ℕ) → numbers_of (flat_map varint ns) ≡ ns
numbers_of-packed ns = read_numbers ns (length (flat_map varint ns)) (omega arith)
