-- The u64 fields of a record, by their format bits and by the numbers of these bits.
use Rattle.std.specs.Prelude.{◌≡◌, ℕ, suc, ◌*◌, ◌-◌, ◌^◌, ◌==◌, Bool, true, false, cond, List, [], ◌∷◌, length, map, filter, position, Option, refl}
use Rattle.std.specs.List.{position_or_len}
use Rattle.std.specs.Option.{option_map}
use Rattle.std.specs.Int.RustNames.{bit_and}
use Rattle.std.proofs.Common.{ap, sym, ◌∙◌, arith, inl, inr, eq-eqb}
use Rattle.std.proofs.lemmas.Bool.{cases_order}
use Rattle.std.proofs.lemmas.Bool.Decides.{nat_tests}
use Rattle.std.proofs.Math.Pow.{pow-lt}
use Rattle.perfdata_identifiers.specs.ParseInfo.{is_set, trailing_words, offset_from_start, offset_from_end}
use Rattle.perfdata_sources.specs.declared.attr.SampleFormat.{SampleFormat}

-- the format with bit k alone
abbrev pub only : ℕ → SampleFormat
only k = record { 0 = 2 ^ k }

-- whether a format selects a field
abbrev pub requested_for : ℕ → SampleFormat → Bool
requested_for format word = bit_and format word.0 == word.0

-- powers of two are equal exactly if their exponents are
pub same_bit : (j k : ℕ) → (2 ^ j == 2 ^ k) ≡ (j == k)
same_bit j k = elim (cases_order j k) [
  | inl e ↦ eq-eqb (2 ^ j) (2 ^ k) (ap (λ n. 2 ^ n) e) ∙ sym (eq-eqb j k e)
  | inr h ↦ elim h [
    | inl lt ↦ let p = pow-lt lt in grind (arith, nat_tests)
    | inr gt ↦ let p = pow-lt gt in grind (arith, nat_tests)
  ]
]

-- a format selects as many fields by their bits as by the numbers of the bits
pub length-asked : (format : ℕ) (ks : List ℕ) → length (filter (requested_for format) (map only ks)) ≡ length (filter (is_set format) ks)
length-asked format [] = refl
length-asked format (k ∷ ks) =
    elim (is_set format k) as (λ b. length (cond b (only k ∷ filter (requested_for format) (map only ks)) (filter (requested_for format) (map only ks)))
    ≡ length (cond b (k ∷ filter (is_set format) ks) (filter (is_set format) ks)))
    [ true ↦ ap suc (length-asked format ks) | false ↦ length-asked format ks ]

-- as many selected fields are before a field by its bit as by the number of the bit
pub passed-asked : (format k : ℕ) (ks : List ℕ) → position_or_len (λ w. w.0 == 2 ^ k) (filter (requested_for format) (map only ks)) ≡ position_or_len (λ w. w == k) (filter (is_set format) ks)
passed-asked format k [] = refl
passed-asked format k (j ∷ ks) =
    elim (is_set format j) as (λ b. position_or_len (λ w. w.0 == 2 ^ k) (cond b (only j ∷ filter (requested_for format) (map only ks)) (filter (requested_for format) (map only ks)))
    ≡ position_or_len (λ w. w == k) (cond b (j ∷ filter (is_set format) ks) (filter (is_set format) ks)))
    [ true ↦ rw (same_bit j k, passed-asked format k ks) refl | false ↦ passed-asked format k ks ]

-- a field has the same index by its bit and by the number of the bit
pub position-asked : (format k : ℕ) (ks : List ℕ) → position (λ w. w.0 == 2 ^ k) (filter (requested_for format) (map only ks)) ≡ position (λ w. w == k) (filter (is_set format) ks)
position-asked format k ks = rw (length-asked format ks, passed-asked format k ks) refl

-- the index of a field by its bit determines its offset in a sample
pub from_start-asked : (format word k : ℕ) (ks : List ℕ) (index : Option ℕ) → word ≡ 2 ^ k
    → index ≡ position (λ w. w.0 == word) (filter (requested_for format) (map only ks))
    → option_map (λ i. 8 * i) index ≡ offset_from_start (filter (is_set format) ks) k
from_start-asked format word k ks index e found = rw (found, e, position-asked format k ks) refl

-- it determines its offset in the trailing fields too
pub from_end-asked : (format word k : ℕ) (ks : List ℕ) (index : Option ℕ) (count : ℕ) → word ≡ 2 ^ k
    → index ≡ position (λ w. w.0 == word) (filter (requested_for format) (map only ks))
    → count ≡ length (filter (requested_for format) (map only ks))
    → option_map (λ i. 8 * (count - i)) index ≡ offset_from_end (filter (is_set format) ks) k
from_end-asked format word k ks index count e found counted =
    rw (found, e, position-asked format k ks, counted, length-asked format ks) refl

-- the trailing fields if the flag SAMPLE_ID_ALL is set
pub trailing_words-asked : (format flags : ℕ) → is_set flags 18 ≡ true
    → trailing_words format flags ≡ filter (is_set format) (1 ∷ 2 ∷ 6 ∷ 9 ∷ 7 ∷ 16 ∷ [])
trailing_words-asked format flags set = rw set refl
