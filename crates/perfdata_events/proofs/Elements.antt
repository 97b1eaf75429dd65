-- Numbers of eight bytes each.
use Rattle.perfdata_events.specs.Fields.{u64_at}
use Rattle.std.proofs.Common.{◌≡◌, ℕ, zero, suc, ◌+◌, ◌*◌, ◌/◌, List, ◌∷◌, length, take, drop, refl, sym, ap, ◌∙◌, arith, length-drop, ◌<◌, ◌≤◌}
use Rattle.std.proofs.Math.Nat.{mul_assoc, mul_comm, mul-add-div}
use Rattle.std.specs.Prelude.{◌-◌, slice_index, slice_range}
use Rattle.std.proofs.lemmas.Nat.{div-mul-add}
use Rattle.std.proofs.lemmas.List.{drop-take, drop-drop, length-take-le}
use Rattle.perfdata_sources.proofs.Numbers.{number_take}
use Rattle.perfdata_sources.specs.Endian.{number_in}
use Rattle.perfdata_sources.specs.declared.endian.Endianness.{Endianness}
use Rattle.perfdata_events.specs.Format.{IsBlock, IsFixed}
use Rattle.perfdata_events.specs.Words.{u64s_of, AreU64s}

-- Numbers don't depend on the bytes after them.
pub u64s_take : (order : Endianness) (n : ℕ) (xs : List ℕ) → u64s_of (number_in order) n (take (8 * n) xs) ≡ u64s_of (number_in order) n xs
u64s_take order zero xs = refl
u64s_take order (suc n) xs =
    let more : 8 * suc n ≡ 8 + 8 * n = omega arith in
    rw more (λ i. number_take order 8 (8 + 8 * n) xs (omega arith) i ∷ (ap (u64s_of (number_in order) n) (drop-take 8 (8 * n) xs) ∙ u64s_take order n (drop 8 xs)) i)

-- A block of eight bytes for each number contains the numbers.
pub u64s_block : (order : Endianness) (n m : ℕ) (xs bs rest : List ℕ) → m ≡ n * 8 → IsBlock m xs bs rest
    → AreU64s (number_in order) n xs (u64s_of (number_in order) (length bs / 8) bs) rest
u64s_block order n m xs bs rest e b =
    let size : m ≡ 8 * n = omega arith in
    let long : length bs ≡ n * 8 + 0 = ap length b.block_is ∙ length-take-le m xs b.enough ∙ omega arith in
    let count : length bs / 8 ≡ n = ap (λ l. l / 8) long ∙ div-mul-add n 8 0 (omega arith) in
    record {
      enough = omega (arith, b.enough);
      values_are = ap (λ k. u64s_of (number_in order) k bs) count ∙ ap (u64s_of (number_in order) n) (b.block_is ∙ ap (λ k. take k xs) size) ∙ u64s_take order n xs;
      rest_is = b.rest_is ∙ ap (λ k. drop k xs) size;
    }

pub element_size : (count width : ℕ) → count * (8 * width) ≡ width * count * 8
element_size c w = mul_comm c (8 * w) ∙ mul_assoc 8 w c ∙ mul_comm 8 (w * c)

-- The first number of at least eight bytes, and the others.
pub u64s_step : (order : Endianness) (xs : List ℕ) → 8 ≤ length xs
    → u64s_of (number_in order) (length xs / 8) xs ≡ number_in order 8 xs ∷ u64s_of (number_in order) (length (drop 8 xs) / 8) (drop 8 xs)
u64s_step order xs enough =
    let long : length xs ≡ 8 * 1 + length (drop 8 xs) = omega (arith, length-drop 8 xs) in
    let one : length xs / 8 ≡ suc (length (drop 8 xs) / 8) =
    ap (λ n. n / 8) long ∙ mul-add-div {m = 8} (omega arith) 1 (length (drop 8 xs)) ∙ omega arith
    in
    ap (λ n. u64s_of (number_in order) n xs) one

-- A number and the bytes after it are the first number and the others.
pub split_first : (order : Endianness) (xs rest : List ℕ) (value : ℕ) → IsFixed 8 (u64_at (number_in order) 0) xs value rest
    → u64s_of (number_in order) (length xs / 8) xs ≡ value ∷ u64s_of (number_in order) (length rest / 8) rest
split_first order xs rest value is =
    let same : value ≡ number_in order 8 xs = is.value_is ∙ number_take order 8 8 xs (omega arith) in
    u64s_step order xs is.enough ∙ (λ i. sym same i ∷ ap (λ l. u64s_of (number_in order) (length l / 8) l) (sym is.rest_is) i)

-- As many numbers as are counted.
pub u64s_length : (number : ℕ → List ℕ → ℕ) (n : ℕ) (xs : List ℕ) → length (u64s_of number n xs) ≡ n
u64s_length number zero xs = refl
u64s_length number (suc n) xs = ap suc (u64s_length number n (drop 8 xs))

-- The number at an index is in the eight bytes at eight times this offset.
pub u64_at_index : (number : ℕ → List ℕ → ℕ) (n i : ℕ) (xs : List ℕ) → i < n → slice_index (u64s_of number n xs) i ≡ number 8 (drop (8 * i) xs)
u64_at_index number zero i xs lt = absurd (omega (arith, lt))
u64_at_index number (suc n) zero xs lt = refl
u64_at_index number (suc n) (suc i) xs lt =
    u64_at_index number n i (drop 8 xs) (omega (arith, lt)) ∙ ap (number 8) (drop-drop (8 * i) 8 xs ∙ ap (λ k. drop k xs) (omega arith))

-- The eight bytes of the number at an index.
pub eight_bytes : (i : ℕ) (xs part : List ℕ) → part ≡ slice_range xs (8 * i) (8 * i + 8) → part ≡ take 8 (drop (8 * i) xs)
eight_bytes i xs part is = let size : (8 * i + 8) - 8 * i ≡ 8 = omega arith in is ∙ ap (λ n. take n (drop (8 * i) xs)) size

-- The number in these bytes is the one at the index.
pub u64_of_slice : (order : Endianness) (i : ℕ) (xs part rest : List ℕ) (value : ℕ) → i < length xs / 8 → part ≡ slice_range xs (8 * i) (8 * i + 8)
    → IsFixed 8 (u64_at (number_in order) 0) part value rest → value ≡ slice_index (u64s_of (number_in order) (length xs / 8) xs) i
u64_of_slice order i xs part rest value lt is read =
    read.value_is ∙ number_take order 8 8 part (omega arith) ∙ ap (number_in order 8) (eight_bytes i xs part is)
    ∙ number_take order 8 8 (drop (8 * i) xs) (omega arith) ∙ sym (u64_at_index (number_in order) (length xs / 8) i xs lt)
