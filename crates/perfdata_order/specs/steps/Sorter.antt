-- Steps of private functions: a sorter: the entries that are available, those that are not yet, and the greatest keys. What each call does to them.
use Rattle.std.specs.Prelude.{◌≡◌, Result, Ok, Err}
use Rattle.std.specs.declared.cmp.Ordering.{Ordering}
use Rattle.std.specs.declared.alloc.AllocError.{AllocError}
use Rattle.perfdata_order.specs.declared.sorter.Sorter.{Sorter}
use Rattle.perfdata_order.specs.Order.{Ascends, SortsEntries}
use Rattle.perfdata_order.specs.Sorter.{held_of, limit_of, greatest_of, slots_in, IsUnchanged}

module _ {K V : Type 0} where
  module _ (cmp : K → K → Ordering) where
    -- The entries that the sorter contains were sorted, and the rest is unchanged.
    pub record HeldSorted (old new : Sorter K V) : Type 0 where
      pub sorts : SortsEntries cmp (held_of old) (held_of new)
      pub ascends : Ascends cmp new.order.items
      pub limit : limit_of new ≡ limit_of old
      pub greatest : greatest_of new ≡ greatest_of old
      pub slots : slots_in new ≡ slots_in old

    abbrev pub SortsHeld : Sorter K V → Result (Unit {0}) AllocError → Sorter K V → Type 0
    SortsHeld old (Ok done) new = HeldSorted old new
    SortsHeld old (Err e) new = IsUnchanged old new
