-- Writing fields one after the other.
use Rattle.std.proofs.Common.{◌≡◌, ◌==◌, ◌+◌, ◌*◌, ◌<◌, ℕ, true, List, [], ◌∷◌, ◌++◌, ◌≤◌, length, take, get_or, subst, String, Global, refl, ap, sym, ◌∙◌, append_assoc, arith, Result, Ok, Err, OnOk, map}
use Rattle.std.proofs.lemmas.Bool.{eq-eqb, eqb-true, ne_eqb}
use Rattle.std.proofs.lemmas.Grind.{flat_map-append}
use Rattle.std.proofs.lemmas.List.{append-nil, take_all, take_more}
use Rattle.std.proofs.lemmas.List.Folds.{flat_map-map}
use Rattle.std.specs.List.{flat_map}
use Rattle.std.specs.String.{string_bytes}
use Rattle.pprof.specs.Messages.{LocationValue, SampleValue, location_fields, location_value, sample_fields, sample_value, text_fields}
use Rattle.pprof.specs.Wire.{Field, bytes_field, contents_bytes, message_bytes, message_field, message_fields, number_field, packed_field, varint}
use Rattle.pprof.specs.steps.Wire.{Appends}
use Rattle.pprof.specs.declared.profile.Location.{Location}
use Rattle.pprof.specs.declared.profile.Sample.{Sample}

pub message_bytes-append : (fields more : List Field) → message_bytes (fields ++ more) ≡ message_bytes fields ++ message_bytes more
unfolding message_bytes
message_bytes-append [] more = refl
message_bytes-append (field ∷ fields) more =
    let first = contents_bytes field.field_number field.contents in
    ap (λ (bs : List ℕ). first ++ bs) (message_bytes-append fields more) ∙ sym (append_assoc first (message_bytes fields) (message_bytes more))

pub none : (old : List ℕ) → Appends old [] old
unfolding message_bytes
none old = record { is = sym (append-nil old) }

-- Fields, then more fields.
pub more : {old mid new : List ℕ} {fields others : List Field} → Appends old fields mid → Appends mid others new → Appends old (fields ++ others) new
more {old} {mid} {new} {fields} {others} first second = record {
  is = second.is ∙ (ap (λ (bs : List ℕ). bs ++ message_bytes others) first.is
      ∙ (append_assoc old (message_bytes fields) (message_bytes others) ∙ ap (λ (bs : List ℕ). old ++ bs) (sym (message_bytes-append fields others))));
}

-- The same, if the last fields are written.
pub last : {E : Type 0} {old mid : List ℕ} {fields : List Field} → (others : List Field) (new : List ℕ) (result : Result (Unit {0}) E)
    → Appends old fields mid → OnOk result (Appends mid others new) → OnOk result (Appends old (fields ++ others) new)
last others new (Ok done) first second = more first second
last others new (Err error) first second = tt

-- The fields of one more element of a list.
pub fields_more : {A : Type 0} → (xs : List A) (i : ℕ) (x : A) (fields_of : A → List Field) → i < length xs → x ≡ get_or xs i x
    → flat_map fields_of (take (i + 1) xs) ≡ flat_map fields_of (take i xs) ++ fields_of x
fields_more {A} xs i x fields_of below is =
    let before = flat_map fields_of (take i xs) in
    ap (λ (ys : List A). flat_map fields_of ys) (take_more xs i x below)
    ∙ (flat_map-append fields_of (take i xs) (get_or xs i x ∷ [])
    ∙ (ap (λ (more : List Field). before ++ more) (append-nil (fields_of (get_or xs i x)))
    ∙ ap (λ (y : A). before ++ fields_of y) (sym is)))

pub then_fields : {A : Type 0} {old mid new : List ℕ} → (xs : List A) (i : ℕ) (x : A) (fields_of : A → List Field) → i < length xs → x ≡ get_or xs i x
    → Appends old (flat_map fields_of (take i xs)) mid → Appends mid (fields_of x) new → Appends old (flat_map fields_of (take (i + 1) xs)) new
then_fields xs i x fields_of below is first second = rw (fields_more xs i x fields_of below is) (more first second)

-- A field with a number.
pub absent_number : (k n : ℕ) (old : List ℕ) → n ≡ 0 → Appends old (number_field k n) old
absent_number k n old zero = rw (eq-eqb n 0 zero) (none old)

pub written_number : (k n : ℕ) (old mid new : List ℕ) → (n ≡ 0 → ⊥) → mid ≡ old ++ varint (k * 8) → new ≡ mid ++ varint n → Appends old (number_field k n) new
unfolding message_bytes
written_number k n old mid new positive key value =
    let all : new ≡ old ++ ((varint (k * 8) ++ varint n) ++ []) =
    value ∙ (ap (λ (bs : List ℕ). bs ++ varint n) key ∙ (append_assoc old (varint (k * 8)) (varint n)
    ∙ ap (λ (bs : List ℕ). old ++ bs) (sym (append-nil (varint (k * 8) ++ varint n))))) in
    rw (ne_eqb n 0 positive) record { is = all }

pub last_number : {E : Type 0} (result : Result (Unit {0}) E) (k n : ℕ) (old mid new : List ℕ) → (n ≡ 0 → ⊥) → mid ≡ old ++ varint (k * 8)
    → OnOk result (new ≡ mid ++ varint n) → OnOk result (Appends old (number_field k n) new)
last_number (Ok done) k n old mid new positive key value = written_number k n old mid new positive key value
last_number (Err error) k n old mid new positive key value = tt

-- A field with bytes.
pub written_bytes : (k : ℕ) (b old mid size new : List ℕ) → mid ≡ old ++ varint (k * 8 + 2) → size ≡ mid ++ varint (length b) → new ≡ size ++ b
    → Appends old (bytes_field k b) new
unfolding message_bytes
written_bytes k b old mid size new key len contents =
    let front = varint (k * 8 + 2) in
    let count = varint (length b) in
    let all : new ≡ old ++ ((front ++ (count ++ b)) ++ []) =
    contents ∙ (ap (λ (bs : List ℕ). bs ++ b) (len ∙ ap (λ (bs : List ℕ). bs ++ count) key)
    ∙ (append_assoc (old ++ front) count b ∙ (append_assoc old front (count ++ b)
    ∙ ap (λ (bs : List ℕ). old ++ bs) (sym (append-nil (front ++ (count ++ b))))))) in
    record { is = all }

-- A field without numbers is absent.
pub absent_packed : (k : ℕ) (ns old : List ℕ) → (length ns == 0) ≡ true → Appends old (packed_field k ns) old
absent_packed k [] old empty = none old
absent_packed k (n ∷ ns) old empty = absurd (omega (arith, eqb-true (length (n ∷ ns)) 0 empty))

-- The fields of all strings.
pub all_texts : {old new : List ℕ} → (k : ℕ) (texts : List (String Global)) (i : ℕ) → length texts ≤ i
    → Appends old (flat_map (λ (text : String Global). bytes_field k (string_bytes text)) (take i texts)) new
    → Appends old (text_fields k (map string_bytes texts)) new
all_texts {old} {new} k texts i enough written =
    let fields_of = λ (text : String Global). bytes_field k (string_bytes text) in
    let all = ap (λ (some : List (String Global)). flat_map fields_of some) (take_all i texts enough) in
    let P : List Field → Type 0 = λ fields. Appends old fields new in
    subst P (all ∙ sym (flat_map-map (bytes_field k) string_bytes texts)) written

-- The fields of samples, apart from their vectors' memory.
pub samples_of : (k : ℕ) (samples : List Sample)
    → message_fields k (λ (sample : Sample). sample_fields (sample_value sample)) samples ≡ message_fields k sample_fields (map sample_value samples)
samples_of k samples = sym (flat_map-map (λ (sample : SampleValue). message_field k (sample_fields sample)) sample_value samples)

-- The fields of locations, apart from their vectors' memory.
pub locations_of : (k : ℕ) (locations : List Location)
    → message_fields k (λ (location : Location). location_fields (location_value location)) locations ≡ message_fields k location_fields (map location_value locations)
locations_of k locations = sym (flat_map-map (λ (location : LocationValue). message_field k (location_fields location)) location_value locations)

-- What is appended to no bytes is all there is.
pub started : {old new : List ℕ} {fields : List Field} → old ≡ [] → Appends old fields new → new ≡ message_bytes fields
started {old} {new} {fields} empty written = written.is ∙ ap (λ (bs : List ℕ). bs ++ message_bytes fields) empty

pub nothing_mapped : {A B : Type 0} → (f : A → B) (xs : List A) → map f xs ≡ [] → xs ≡ []
nothing_mapped f [] is = refl
nothing_mapped f (x ∷ xs) is = cc
