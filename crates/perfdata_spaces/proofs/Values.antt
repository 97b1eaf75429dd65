-- Values by process.
use Rattle.std.proofs.Common.{◌≡◌, ◌∙◌, ◌&&◌, ap, refl, ℕ, ℤ, Bool, true, false, cond, Option, Some, int_cmp}
use Rattle.std.proofs.lemmas.Map.Lookups.{exact_signed}
use Rattle.std.specs.declared.cmp.Ordering.{Ordering}
use Rattle.std.specs.declared.cmp.Ordering.TheVariants.{Less, Equal, Greater}
use Rattle.std.specs.Ordering.{is_eq}
use Rattle.perfdata_spaces.specs.Ranges.{value_of}
use Rattle.perfdata_spaces.specs.Processes.{is_same, value_in_space}
use Rattle.perfdata_spaces.specs.declared.ranges.RangeMap.{RangeMap}

equal_from_test : (order : Ordering) → is_eq order ≡ true → order ≡ Equal
equal_from_test Less is = cc
equal_from_test Equal is = refl
equal_from_test Greater is = cc

pub same_ids : (pid other : ℤ) → is_same pid other ≡ true → pid ≡ other
same_ids pid other is = exact_signed pid other (equal_from_test (int_cmp pid other) is)

-- The values of a process after one of the processes is given the values of `space`.
pub value_after_insert : (is_it : Bool) (new old : Option RangeMap) (space : RangeMap) (address : ℕ) (value : Option ℕ) → new ≡ cond is_it (Some space) old → value_of space address ≡ value → value_in_space new address ≡ cond is_it value (value_in_space old address)
value_after_insert true new old space address value is same = ap (λ s. value_in_space s address) is ∙ same
value_after_insert false new old space address value is same = ap (λ s. value_in_space s address) is

-- The values of a process are changed in a range alone.
within_process : (value : ℤ → Option ℕ) (pid other : ℤ) (set : Option ℕ) (covered same : Bool) → is_same pid other ≡ same → cond same (cond covered set (value pid)) (value other) ≡ cond (same && covered) set (value other)
within_process value pid other set true true is = refl
within_process value pid other set false true is = ap value (same_ids pid other is)
within_process value pid other set covered false is = refl

pub value_after_set : (value : ℤ → Option ℕ) (pid other : ℤ) (set : Option ℕ) (covered : Bool) → cond (is_same pid other) (cond covered set (value pid)) (value other) ≡ cond (is_same pid other && covered) set (value other)
value_after_set value pid other set covered = within_process value pid other set covered (is_same pid other) refl
