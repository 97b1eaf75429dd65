-- The remainder of a division by the polynomial of CRC-32.
use Rattle.std.proofs.Common.{◌≡◌, ℕ, zero, suc, ◌+◌, ◌*◌, ◌/◌, ◌%◌, ◌^◌, ◌<◌, ◌==◌, List, [], ◌∷◌, ◌++◌, if◌then◌else◌, refl, sym, ap, ◌∙◌, arith}
use Rattle.std.specs.Prelude.{bit_xor, slice_index_or}
use Rattle.std.specs.Int.Bits.{xor_assoc, xor_zero_r, xor_zero_l}
use Rattle.std.proofs.lemmas.Nat.{xor_comm, xor_shr, xor_mod, xor_block}
use Rattle.code_symbols.specs.Crc.{crc_after, crc_bit, crc_bits}

-- the polynomial if the lowest bit is set
abbrev polynomial_if : ℕ → ℕ
polynomial_if bit = if bit == 1 then 0xedb88320 else 0

xor_swap : (a b c : ℕ) → bit_xor (bit_xor a b) c ≡ bit_xor (bit_xor a c) b
xor_swap a b c = xor_assoc a b c ∙ ap (bit_xor a) (xor_comm b c) ∙ sym (xor_assoc a c b)

double_half : (y : ℕ) → y * 2 / 2 ≡ y
double_half y = omega arith

double_even : (y : ℕ) → y * 2 % 2 ≡ 0
double_even y = omega arith

-- higher bits stay as they are, one place lower
bit_high : (x y : ℕ) → crc_bit (bit_xor x (y * 2)) ≡ bit_xor (crc_bit x) y
bit_high x y =
    let half : bit_xor x (y * 2) / 2 ≡ bit_xor (x / 2) y = xor_shr x (y * 2) 1 ∙ ap (bit_xor (x / 2)) (double_half y) in
    let low : bit_xor x (y * 2) % 2 ≡ x % 2 = xor_mod x (y * 2) 1 ∙ ap (bit_xor (x % 2)) (double_even y) ∙ xor_zero_r (x % 2) in
    ap (λ h. bit_xor h (polynomial_if (bit_xor x (y * 2) % 2))) half
    ∙ ap (λ l. bit_xor (bit_xor (x / 2) y) (polynomial_if l)) low
    ∙ xor_swap (x / 2) y (polynomial_if (x % 2))

pow_more : (y n : ℕ) → y * 2 ^ suc n ≡ y * 2 ^ n * 2
pow_more y n = grind arith

pub bits_high : (n x y : ℕ) → crc_bits n (bit_xor x (y * 2 ^ n)) ≡ bit_xor (crc_bits n x) y
bits_high zero x y = ap (bit_xor x) (omega arith)
bits_high (suc n) x y =
    ap (λ z. crc_bits n (crc_bit (bit_xor x z))) (pow_more y n) ∙ ap (crc_bits n) (bit_high x (y * 2 ^ n)) ∙ bits_high n (crc_bit x) y

-- a number by its lowest four bits and the others
pub nibbles : (x : ℕ) → bit_xor (x % 16) (x / 16 * 16) ≡ x
nibbles x =
    let low : x % 16 ≡ 0 * 2 ^ 4 + x % 16 = omega arith in
    let high : x / 16 * 16 ≡ x / 16 * 2 ^ 4 + 0 = omega arith in
    let sum : x / 16 * 2 ^ 4 + x % 16 ≡ x = omega arith in
    ap (λ l. bit_xor l (x / 16 * 16)) low ∙ ap (bit_xor (0 * 2 ^ 4 + x % 16)) high ∙ xor_block 4 0 (x / 16) (x % 16) 0 (omega arith) (omega arith)
    ∙ ap (λ h. h * 2 ^ 4 + bit_xor (x % 16) 0) (xor_zero_l (x / 16)) ∙ ap (λ l. x / 16 * 2 ^ 4 + l) (xor_zero_r (x % 16)) ∙ sum

-- four bits more, by the lowest four
pub four_bits : (x : ℕ) → crc_bits 4 x ≡ bit_xor (crc_bits 4 (x % 16)) (x / 16)
four_bits x = ap (crc_bits 4) (sym (nibbles x)) ∙ bits_high 4 (x % 16) (x / 16)

pub after_append : (c : ℕ) (xs ys : List ℕ) → crc_after c (xs ++ ys) ≡ crc_after (crc_after c xs) ys
after_append c [] ys = refl
after_append c (x ∷ xs) ys = after_append (crc_bits 8 (bit_xor c x)) xs ys

-- four bits more of which the other number has the lowest ones
pub nibble_step : (s b : ℕ) → bit_xor (crc_bits 4 (bit_xor s b % 16)) (s / 16) ≡ crc_bits 4 (bit_xor s (b % 16))
nibble_step s b =
    let same : b % 16 % 16 ≡ b % 16 = omega arith in
    let none : b % 16 / 16 ≡ 0 = omega arith in
    let low : bit_xor s (b % 16) % 16 ≡ bit_xor s b % 16 = xor_mod s (b % 16) 4 ∙ ap (bit_xor (s % 16)) same ∙ sym (xor_mod s b 4) in
    let high : bit_xor s (b % 16) / 16 ≡ s / 16 = xor_shr s (b % 16) 4 ∙ ap (bit_xor (s / 16)) none ∙ xor_zero_r (s / 16) in
    sym (four_bits (bit_xor s (b % 16)) ∙ ap (λ l. bit_xor (crc_bits 4 l) (bit_xor s (b % 16) / 16)) low ∙ ap (bit_xor (crc_bits 4 (bit_xor s b % 16))) high)

-- a byte more, by its lowest four bits and the others
pub two_nibbles : (s b : ℕ) → b < 256 → crc_bits 4 (bit_xor (crc_bits 4 (bit_xor s (b % 16))) (b / 16 % 16)) ≡ crc_bits 8 (bit_xor s b)
two_nibbles s b fits =
    let same : b / 16 % 16 ≡ b / 16 = omega (arith, fits) in
    let both : bit_xor s b ≡ bit_xor (bit_xor s (b % 16)) (b / 16 * 16) = ap (bit_xor s) (sym (nibbles b)) ∙ sym (xor_assoc s (b % 16) (b / 16 * 16)) in
    ap (λ h. crc_bits 4 (bit_xor (crc_bits 4 (bit_xor s (b % 16))) h)) same
    ∙ ap (crc_bits 4) (sym (bits_high 4 (bit_xor s (b % 16)) (b / 16)))
    ∙ ap (crc_bits 8) (sym both)

-- the table of the remainders of four bits
pub table_at : (i : ℕ) → i < 16 → slice_index_or {A = ℕ} (0 ∷ 498536548 ∷ 997073096 ∷ 651767980 ∷ 1994146192 ∷ 1802195444 ∷ 1303535960 ∷ 1342533948 ∷ 3988292384 ∷ 4027552580 ∷ 3604390888 ∷ 3412177804 ∷ 2607071920 ∷ 2262029012 ∷ 2685067896 ∷ 3183342108 ∷ []) i 0 ≡ crc_bits 4 i
table_at zero within = refl
table_at (suc zero) within = refl
table_at (suc (suc zero)) within = refl
table_at (suc (suc (suc zero))) within = refl
table_at (suc (suc (suc (suc zero)))) within = refl
table_at (suc (suc (suc (suc (suc zero))))) within = refl
table_at (suc (suc (suc (suc (suc (suc zero)))))) within = refl
table_at (suc (suc (suc (suc (suc (suc (suc zero))))))) within = refl
table_at (suc (suc (suc (suc (suc (suc (suc (suc zero)))))))) within = refl
table_at (suc (suc (suc (suc (suc (suc (suc (suc (suc zero))))))))) within = refl
table_at (suc (suc (suc (suc (suc (suc (suc (suc (suc (suc zero)))))))))) within = refl
table_at (suc (suc (suc (suc (suc (suc (suc (suc (suc (suc (suc zero))))))))))) within = refl
table_at (suc (suc (suc (suc (suc (suc (suc (suc (suc (suc (suc (suc zero)))))))))))) within = refl
table_at (suc (suc (suc (suc (suc (suc (suc (suc (suc (suc (suc (suc (suc zero))))))))))))) within = refl
table_at (suc (suc (suc (suc (suc (suc (suc (suc (suc (suc (suc (suc (suc (suc zero)))))))))))))) within = refl
table_at (suc (suc (suc (suc (suc (suc (suc (suc (suc (suc (suc (suc (suc (suc (suc zero))))))))))))))) within = refl
table_at (suc (suc (suc (suc (suc (suc (suc (suc (suc (suc (suc (suc (suc (suc (suc (suc i)))))))))))))))) within = absurd (omega (arith, within))
