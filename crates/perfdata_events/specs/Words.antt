-- Numbers of eight bytes each, one after another, and optional words of eight bytes each.
use Rattle.std.specs.Prelude.{◌≡◌, Bool, ℕ, zero, suc, ◌+◌, ◌*◌, ◌/◌, ◌≤◌, ◌⊎◌, List, [], ◌∷◌, length, take, drop, Option, None, Some, if◌then◌else◌}
use Rattle.perfdata_sources.specs.Raw.{bytes_of}
use Rattle.perfdata_sources.specs.Endian.{number_in}
use Rattle.perfdata_identifiers.specs.ParseInfo.{is_set}
use Rattle.perfdata_events.specs.Format.{Outcome, encodes, fails, IsTruncated, IsTruncatedAfter}
use Rattle.perfdata_events.specs.declared.fields.u64s.RawDataU64.{RawDataU64}
use Rattle.perfdata_events.specs.declared.fields.u64s.RawDataU64Iter.{RawDataU64Iter}

module _ (number : ℕ → List ℕ → ℕ) where
  -- The first n numbers.
  abbrev pub u64s_of : ℕ → List ℕ → List ℕ
  u64s_of zero bytes = []
  u64s_of (suc n) bytes = number 8 bytes ∷ u64s_of n (drop 8 bytes)

  -- The bytes start with these n numbers, followed by `rest`.
  pub record AreU64s (n : ℕ) (xs values rest : List ℕ) : Type 0 where
    pub enough : 8 * n ≤ length xs
    pub values_are : values ≡ u64s_of n xs
    pub rest_is : rest ≡ drop (8 * n) xs

  abbrev pub u64s : ℕ → List ℕ → Outcome (List ℕ) → Type 0
  u64s n xs (encodes values rest) = AreU64s n xs values rest
  u64s n xs (fails kind) = IsTruncated (8 * n) xs kind

  -- A part of n bytes, whose value is a function of them, and numbers whose count is also a function of them.
  pub record IsFixedAndU64s {V : Type 0} (n : ℕ) (value_of : List ℕ → V) (count_of : List ℕ → ℕ) (xs : List ℕ) (value : V × List ℕ)
      (rest : List ℕ) : Type 0 where
    pub enough : n ≤ length xs
    pub value_is : value.0 ≡ value_of (take n xs)
    pub numbers_are : AreU64s (count_of (take n xs)) (drop n xs) value.1 rest

  abbrev pub fixed_and_u64s : {V : Type 0} → ℕ → (List ℕ → V) → (List ℕ → ℕ) → List ℕ → Outcome (V × List ℕ) → Type 0
  fixed_and_u64s n value_of count_of xs (encodes value rest) = IsFixedAndU64s n value_of count_of xs value rest
  fixed_and_u64s n value_of count_of xs (fails kind) = IsTruncated n xs kind ⊎ IsTruncatedAfter n (λ bytes. 8 * count_of bytes) xs kind

-- The numbers of a value.
abbrev pub u64s_in : RawDataU64 → List ℕ
u64s_in v = u64s_of (number_in v.endian) (length (bytes_of v.bytes) / 8) (bytes_of v.bytes)

-- The numbers that an iterator still returns.
abbrev pub remaining_u64s : RawDataU64Iter → List ℕ
remaining_u64s it = u64s_in it.rest

-- Optional words of eight bytes each.

abbrev pub word_size : Bool → ℕ
word_size present = if present then 8 else 0

-- The value of a word that is there.
abbrev pub word_if : {V : Type 0} → Bool → (List ℕ → V) → List ℕ → Option V
word_if present value_of xs = if present then Some (value_of (take 8 xs)) else None

pub record IsWord {V : Type 0} (present : Bool) (value_of : List ℕ → V) (xs : List ℕ) (value : Option V) (rest : List ℕ) : Type 0 where
  pub all_bytes : length xs ≡ word_size present + length rest
  pub value_is : value ≡ word_if present value_of xs
  pub rest_is : rest ≡ drop (word_size present) xs

abbrev pub word : {V : Type 0} → Bool → (List ℕ → V) → List ℕ → Outcome (Option V) → Type 0
word present value_of xs (encodes value rest) = IsWord present value_of xs value rest
word present value_of xs (fails kind) = IsTruncated (word_size present) xs kind

-- A word is there if its bit of the format is set. Words are given by their bits, in order.
module _ (format : ℕ) where
  abbrev pub words_size : List ℕ → ℕ
  words_size [] = 0
  words_size (bit ∷ bits) = word_size (is_set format bit) + words_size bits

  -- The bytes after these words.
  abbrev pub after : List ℕ → List ℕ → List ℕ
  after [] xs = xs
  after (bit ∷ bits) xs = after bits (drop (word_size (is_set format bit)) xs)

  -- The value of the word with a bit, which is after the words with other bits.
  abbrev pub word_after : {V : Type 0} → List ℕ → ℕ → (List ℕ → V) → List ℕ → Option V
  word_after before bit value_of xs = word_if (is_set format bit) value_of (after before xs)
