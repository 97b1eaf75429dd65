-- Versions in the names of symbols: `NAME@VERSION`, and `NAME@@VERSION` for the default version of a name.
use Rattle.std.specs.Prelude.{◌≡◌, ℕ, ◌+◌, ◌==◌, ◌&&◌, Bool, false, List, Option, None, Some, if◌then◌else◌, length, not, nat_lt, slice_index}
use Rattle.std.specs.List.{position_or_len}
use Rattle.memchr.specs.Find.{IsFirstByte, is_byte}

-- one `@` is at this offset, after a name
abbrev pub is_single : List ℕ → Option ℕ → Bool
is_single name None = false
is_single name (Some at) = nat_lt 0 at && not (slice_index name (at + 1) == 64)

-- the name has a version that isn't its default one: no other `@` follows the first one
pub record IsOtherVersion (name : List ℕ) (is_other : Bool) : Type 0 where
  pub mark : Option ℕ
  pub first : IsFirstByte (is_byte 64) name mark
  pub is : is_other ≡ is_single name mark

-- the first `@` follows a name, and is followed by another one
abbrev pub has_default_version : List ℕ → ℕ → Bool
has_default_version name at = nat_lt 0 at && slice_index name (at + 1) == 64

-- the length of a name without its default version
abbrev pub printed_len : List ℕ → ℕ
printed_len name =
    let at = position_or_len (λ b. b == 64) name in
    if has_default_version name at then at else length name
