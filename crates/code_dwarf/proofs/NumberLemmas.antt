-- Numbers and lengths: those that some bytes start with are unique.
use Rattle.std.proofs.Common.{◌≡◌, ℕ, ◌+◌, ◌-◌, ◌*◌, ◌^◌, ◌<◌, List, [], ◌∷◌, length, take, get_or, Bool, true, false, refl, sym, ap, ◌∙◌, arith}
use Rattle.std.specs.Prelude.{reverse, if◌then◌else◌}
use Rattle.std.proofs.lemmas.List.{reverse-append, take_more}
use Rattle.code_cfi.specs.Numbers.{fixed_value}
use Rattle.code_dwarf.specs.steps.Numbers.{NumberAt, OffsetAt, LengthAt}
use Rattle.code_dwarf.specs.declared.fixed.Endianness.{Endianness}

pub number_same : (endian : Endianness) (size : ℕ) (bytes : List ℕ) (m n : ℕ) (r s : List ℕ) → NumberAt endian size bytes m r → NumberAt endian size bytes n s → (m ≡ n) × (r ≡ s)
number_same endian size bytes m n r s p q = (p.value ∙ sym q.value, p.after ∙ sym q.after)

pub offset_same : (endian : Endianness) (is_64 : Bool) (bytes : List ℕ) (m n : ℕ) (r s : List ℕ) → OffsetAt endian is_64 bytes m r → OffsetAt endian is_64 bytes n s → (m ≡ n) × (r ≡ s)
offset_same endian true bytes m n r s p q = number_same endian 8 bytes m n r s p q
offset_same endian false bytes m n r s p q = number_same endian 4 bytes m n r s p q

-- a length of one format is none of the other one
apart : (endian : Endianness) (bytes : List ℕ) (m n : ℕ) (r s : List ℕ) → LengthAt endian false bytes m r → LengthAt endian true bytes n s → ⊥
apart endian bytes m n r s p q =
    let same = (number_same endian 4 bytes m (2 ^ 32 - 1) r q.0 p.0 q.1).0 in
    let small = p.1 in
    absurd (omega (arith, same, small))

pub length_same : (endian : Endianness) (a b : Bool) (bytes : List ℕ) (m n : ℕ) (r s : List ℕ) → LengthAt endian a bytes m r → LengthAt endian b bytes n s → (a ≡ b) × (m ≡ n) × (r ≡ s)
length_same endian false false bytes m n r s p q = let e = number_same endian 4 bytes m n r s p.0 q.0 in (refl, e.0, e.1)
length_same endian true true bytes m n r s p q =
    let mids = (number_same endian 4 bytes (2 ^ 32 - 1) (2 ^ 32 - 1) p.0 q.0 p.1 q.1).1 in
    let second = rw mids at p.2 in
    let e = number_same endian 8 q.0 m n r s second q.2 in
    (refl, e.0, e.1)
length_same endian false true bytes m n r s p q = absurd (apart endian bytes m n r s p q)
length_same endian true false bytes m n r s p q = absurd (apart endian bytes n m s r q p)

-- one more byte of a big-endian number
pub number_push : (bs : List ℕ) (k v : ℕ) → k < length bs → v ≡ fixed_value (reverse (take k bs)) → v * 256 + get_or bs k 0 ≡ fixed_value (reverse (take (k + 1) bs))
number_push bs k v within e =
    let up : fixed_value (reverse (take (k + 1) bs)) ≡ get_or bs k 0 + 256 * fixed_value (reverse (take k bs)) = ap (λ xs. fixed_value (reverse xs)) (take_more bs k 0 within) ∙ ap fixed_value (reverse-append (take k bs) (get_or bs k 0 ∷ [])) in
    omega (arith, up, e)

-- the bytes start with no offset
pub no_offset : (endian : Endianness) (is_64 : Bool) (bytes : List ℕ) (n : ℕ) (rest : List ℕ) → length bytes < (if is_64 then 8 else 4) → OffsetAt endian is_64 bytes n rest → ⊥
no_offset endian true bytes n rest less at = let within = at.within in omega (arith, less, within)
no_offset endian false bytes n rest less at = let within = at.within in omega (arith, less, within)
