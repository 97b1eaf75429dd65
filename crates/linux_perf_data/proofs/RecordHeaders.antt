-- The fields of a record header, read from the first bytes of a record.
use Rattle.std.proofs.Common.{◌≡◌, ◌≢◌, ◌==◌, ℕ, ◌+◌, ◌≤◌, List, ◌++◌, length, take, drop, sym, ap, ◌∙◌, arith, inl, inr}
use Rattle.std.proofs.Math.Seq.{drop-append_seam, take-append_seam}
use Rattle.std.proofs.lemmas.Bool.{cases_eq, cond-true, cond-false, eq-eqb, ne_eqb}
use Rattle.perfdata_sources.specs.declared.endian.Endianness.{Endianness}
use Rattle.perfdata_sources.proofs.Numbers.{number_prefix, number_drop_prefix}
use Rattle.linux_perf_data.specs.Layout.{IsRecord, record_type_of, misc_of, record_size_of, aux_size_of, total_size_of}

-- bytes after the record header don't change its fields
pub record_type_prefix : (order : Endianness) (p r : List ℕ) → 8 ≤ length p → record_type_of order (p ++ r) ≡ record_type_of order p
record_type_prefix order p r long = number_prefix order 4 p r (omega (arith, long))

pub misc_prefix : (order : Endianness) (p r : List ℕ) → 8 ≤ length p → misc_of order (p ++ r) ≡ misc_of order p
misc_prefix order p r long = number_drop_prefix order 2 4 p r (omega (arith, long))

pub size_first_part : (order : Endianness) (p r : List ℕ) → 8 ≤ length p → record_size_of order (p ++ r) ≡ record_size_of order p
size_first_part order p r long = number_drop_prefix order 2 6 p r (omega (arith, long))

pub aux_size_prefix : (order : Endianness) (p r : List ℕ) → 16 ≤ length p → aux_size_of order (p ++ r) ≡ aux_size_of order p
aux_size_prefix order p r long = number_drop_prefix order 8 8 p r (omega (arith, long))

-- the total size, by record type
pub total_size_auxtrace : (order : Endianness) (p : List ℕ) → record_type_of order p ≡ 71 → total_size_of order p ≡ record_size_of order p + aux_size_of order p
total_size_auxtrace order p is = cond-true (record_type_of order p == 71) (record_size_of order p + aux_size_of order p) (record_size_of order p) (eq-eqb (record_type_of order p) 71 is)

pub total_size_plain : (order : Endianness) (p : List ℕ) → record_type_of order p ≢ 71 → total_size_of order p ≡ record_size_of order p
total_size_plain order p isnt = cond-false (record_type_of order p == 71) (record_size_of order p + aux_size_of order p) (record_size_of order p) (ne_eqb (record_type_of order p) 71 isnt)

pub size_in_total_size : (order : Endianness) (p : List ℕ) → record_size_of order p ≤ total_size_of order p
size_in_total_size order p = elim (cases_eq (record_type_of order p) 71) [
  | inl is ↦ (let e = total_size_auxtrace order p is in omega (arith, e))
  | inr isnt ↦ (let e = total_size_plain order p isnt in omega (arith, e))
]

pub total_size_front : (order : Endianness) (p r : List ℕ) → 8 ≤ length p → (record_type_of order p ≡ 71 → 16 ≤ length p) → total_size_of order (p ++ r) ≡ total_size_of order p
total_size_front order p r long longer = elim (cases_eq (record_type_of order p) 71) [
  | inl is ↦
      let left = total_size_auxtrace order (p ++ r) (record_type_prefix order p r long ∙ is) in
      let right = total_size_auxtrace order p is in
      let size = size_first_part order p r long in
      let aux = aux_size_prefix order p r (longer is) in
      omega (arith, left, right, size, aux)
  | inr isnt ↦
      let left = total_size_plain order (p ++ r) (λ e. isnt (sym (record_type_prefix order p r long) ∙ e)) in
      let right = total_size_plain order p isnt in
      let size = size_first_part order p r long in
      omega (arith, left, right, size)
]

-- a record is as long as its total size, and contains its record header
pub record_least : (order : Endianness) (p : List ℕ) → IsRecord order p → 8 ≤ length p
record_least order p is = let least = is.min_size in let long = is.exact_len in let inside = size_in_total_size order p in omega (arith, least, long, inside)

pub record_aux_size : (order : Endianness) (p : List ℕ) → IsRecord order p → record_type_of order p ≡ 71 → 48 ≤ length p
record_aux_size order p is traced = let least = is.aux_min_size traced in let long = is.exact_len in let inside = size_in_total_size order p in omega (arith, least, long, inside)

pub record_length : (order : Endianness) (p r : List ℕ) → IsRecord order p → total_size_of order (p ++ r) ≡ length p
record_length order p r is = total_size_front order p r (record_least order p is) (λ traced. omega (arith, record_aux_size order p is traced)) ∙ sym is.exact_len

-- no record is a proper prefix of another
pub same_prefix : (order : Endianness) (p q a b : List ℕ) → IsRecord order p → IsRecord order q → p ++ a ≡ q ++ b → (p ≡ q) × (a ≡ b)
same_prefix order p q a b is is' e =
    let long : length p ≡ length q = sym (record_length order p a is) ∙ ap (total_size_of order) e ∙ record_length order q b is' in (
      sym (take-append_seam p a) ∙ ap (take (length p)) e ∙ ap (λ n. take n (q ++ b)) long ∙ take-append_seam q b,
      sym (drop-append_seam p a) ∙ ap (drop (length p)) e ∙ ap (λ n. drop n (q ++ b)) long ∙ drop-append_seam q b,
    )
