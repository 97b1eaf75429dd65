-- Steps of private functions: values by address.
use Rattle.std.specs.Prelude.{◌≡◌, ℕ, ◌^◌, ◌<◌, ◌≤◌, Bool, false, nat_le, nat_lt, ◌&&◌, if◌then◌else◌, Option, None, Some}
use Rattle.perfdata_spaces.specs.declared.ranges.AddressRange.{AddressRange}
use Rattle.perfdata_spaces.specs.declared.ranges.Tree.{Tree, Empty, Whole, Split'}
use Rattle.perfdata_spaces.specs.Ranges.{contains, value_at}

abbrev pub is_within : AddressRange → ℕ → Bool
is_within range address = nat_le range.first address && nat_le address range.last

-- Whether a range contains an address. `None` is the range without addresses.
abbrev pub covers : Option AddressRange → ℕ → Bool
covers None address = false
covers (Some range) address = is_within range address

-- The height in the root of a tree. A leaf has none.
abbrev pub height_of : Tree → ℕ
height_of Empty = 0
height_of (Whole value) = 0
height_of (Split' p boundary height below above) = height

-- All addresses have the same values.
abbrev pub KeepsValues : Tree → Tree → Type 0
KeepsValues old new = (address : ℕ) → value_at new address ≡ value_at old address

-- The addresses below a boundary have the same values.
abbrev pub KeepsBelow : Tree → ℕ → Tree → Type 0
KeepsBelow old boundary new = (address : ℕ) → address < boundary → value_at new address ≡ value_at old address

-- The addresses from a boundary on have the same values.
abbrev pub KeepsAbove : Tree → ℕ → Tree → Type 0
KeepsAbove old boundary new = (address : ℕ) → boundary ≤ address → value_at new address ≡ value_at old address

-- The addresses below a boundary have the values of one tree, those from it on those of another.
abbrev pub Joins : Tree → ℕ → Tree → Tree → Type 0
Joins below boundary above joined = (address : ℕ) → value_at joined address ≡
    (if nat_lt address boundary then value_at below address else value_at above address)

-- The addresses of a range have a value, the others have the same values.
abbrev pub SetsRange : AddressRange → Option ℕ → Tree → Tree → Type 0
SetsRange range value old new = (address : ℕ) → address < 2 ^ 64 → value_at new address ≡
    (if is_within range address then value else value_at old address)
