-- The first of some bytes.
use Rattle.std.proofs.Common.{◌≡◌, ℕ, ◌<◌, List, length, get_or, true, ap, arith}
use Rattle.std.specs.Prelude.{◌==◌, not}
use Rattle.std.specs.List.{position_or_len}
use Rattle.std.proofs.lemmas.Bool.{false_from_ne_true}
use Rattle.std.proofs.lemmas.List.Sums.{prefix_len_is}
use Rattle.memchr.specs.Find.{NoneBefore, Nowhere, Passes, is_byte}

module _ (byte : ℕ) (bytes : List ℕ) where
  others : (n : ℕ) → Nowhere (Passes (is_byte byte) bytes) 0 n → (k : ℕ) → k < n → not (get_or bytes k 0 == byte) ≡ true
  others n none k lt = ap not (false_from_ne_true (get_or bytes k 0 == byte) (none k (omega arith) lt))

  -- the byte is at the first offset that the search found
  pub found_byte : (at : ℕ) → NoneBefore (Passes (is_byte byte) bytes) 0 (length bytes) at → Passes (is_byte byte) bytes at → position_or_len (λ b. b == byte) bytes ≡ at
  found_byte at first is = prefix_len_is (λ b. not (b == byte)) bytes at 0 (omega (arith, first.high)) (others at first.before) (λ _. ap not is)

  -- the search found none
  pub missing_byte : Nowhere (Passes (is_byte byte) bytes) 0 (length bytes) → position_or_len (λ b. b == byte) bytes ≡ length bytes
  missing_byte none = prefix_len_is (λ b. not (b == byte)) bytes (length bytes) 0 (omega arith) (others (length bytes) none) (λ lt. absurd (omega (arith, lt)))
