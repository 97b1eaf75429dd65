-- Values by address.
use Rattle.std.specs.Prelude.{ℕ, ◌+◌, ◌^◌, Bool, nat_le, nat_lt, ◌&&◌, if◌then◌else◌, Option, None, Some}
use Rattle.perfdata_spaces.specs.declared.ranges.RangeMap.{RangeMap}
use Rattle.perfdata_spaces.specs.declared.ranges.Tree.{Tree, Empty, Whole, Split'}

-- Whether `size` addresses from `start` on contain an address. They end before 2^64: there is no address from there on.
abbrev pub contains : ℕ → ℕ → ℕ → Bool
contains start size address = nat_le start address && nat_lt address (start + size) && nat_lt address (2 ^ 64)

-- The value of an address in a tree.
abbrev pub value_at : Tree → ℕ → Option ℕ
value_at Empty address = None
value_at (Whole value) address = Some value
value_at (Split' p boundary height below above) address =
    if nat_lt address boundary then value_at below address else value_at above address

-- The value of an address.
abbrev pub value_of : RangeMap → ℕ → Option ℕ
value_of map address = value_at map.tree address
