-- A vacant slot, found or added.
use Rattle.std.proofs.Common.{◌≡◌, ℕ, zero, suc, ◌+◌, ◌-◌, ◌<◌, ◌≤◌, List, [], ◌∷◌, ◌++◌, length, take, drop, get_or, Option, None, Some, refl, sym, ap, ◌∙◌, inl, inr, arith}
use Rattle.std.specs.Prelude.{◌≢◌, ◌⊎◌, ◌/◌}
use Rattle.std.proofs.lemmas.List.{length_push, get_or_past}
use Rattle.std.proofs.lemmas.Bool.{cases_lt}
use Rattle.perfdata_order.specs.declared.slots.Slots.{Slots}
use Rattle.perfdata_order.specs.declared.sorter.Sorter.{Sorter}
use Rattle.perfdata_order.specs.Slots.{slots_of, slot_count, value_at}
use Rattle.perfdata_order.specs.steps.Slots.{KeepsValues, IsVacant, AreFilled, SlotReused, SlotAdded}
use Rattle.perfdata_order.specs.Sorter.{held_of, slots_in, slots_for, AddsFewSlots, IsUnchanged}
use Rattle.perfdata_order.specs.Entries.{entries_by, values_in, HaveKeys}
use Rattle.perfdata_order.proofs.Counting.{all_counted, few_counted}
use Rattle.perfdata_order.proofs.Entries.{entries_length, at_most_one}

pub slots_more : (few many : ℕ) → few ≤ many → slots_for few ≤ slots_for many
slots_more few many le = omega arith

enough : (slots used : ℕ) → (slots - slots / 4 < used) ⊎ (slots ≤ used) → slots + 1 ≤ slots_for used
enough slots used (inl few) = omega arith
enough slots used (inr all) = omega arith

at_new : {V : Type 0} (xs : List (Option V)) (slot : ℕ) → get_or (xs ++ None ∷ []) slot None ≡ get_or xs slot None
at_new [] zero = refl
at_new [] (suc slot) = refl
at_new (x ∷ xs) zero = refl
at_new (x ∷ xs) (suc slot) = at_new xs slot

last_none : {V : Type 0} (xs : List (Option V)) → get_or (xs ++ None ∷ []) (length xs) None ≡ None
last_none [] = refl
last_none (x ∷ xs) = last_none xs

one_value : {V : Type 0} (o : Option V) → o ≢ None → 1 ≤ values_in o
one_value None some = absurd (some refl)
one_value (Some v) some = omega arith

module _ {V : Type 0} (old new : Slots V) (used slot : ℕ) where
  pub found_kept : SlotReused old used slot new ⊎ SlotAdded old used slot new → KeepsValues old new
  found_kept (inl reused) at = ap (λ xs. get_or xs at None) reused.slots
  found_kept (inr added) at = ap (λ xs. get_or xs at None) added.slots ∙ at_new (slots_of old) at

  pub found_vacant : SlotReused old used slot new ⊎ SlotAdded old used slot new → IsVacant new slot
  found_vacant (inl reused) =
      let count = ap length reused.slots in
      let in_range = reused.is_vacant.in_range in
      record { in_range = omega (arith, count, in_range); vacant = ap (λ xs. get_or xs slot None) reused.slots ∙ reused.is_vacant.vacant }
  found_vacant (inr added) =
      let count = ap length added.slots ∙ length_push (slots_of old) None in
      let last = added.is_last in
      record { in_range = omega (arith, count, last); vacant = ap (λ xs. get_or xs slot None) added.slots ∙ ap (λ n. get_or (slots_of old ++ None ∷ []) n None) added.is_last ∙ last_none (slots_of old) }

slot_within : {V : Type 0} (s : Slots V) (slot : ℕ) → (slot < slot_count s) ⊎ (slot_count s ≤ slot) → 1 ≤ values_in (value_at s slot) → slot < slot_count s
slot_within s slot (inl below) some = below
slot_within s slot (inr past) some = let none = ap (λ o. values_in o) (get_or_past (slots_of s) slot None past) in absurd (omega (arith, some, none))

module _ {K V : Type 0} where
  all_filled : (s : Slots V) (es : List (K × ℕ)) → HaveKeys (value_at s) es → AreFilled s 0 (slot_count s) → slot_count s ≤ length es
  all_filled s es keys filled =
      all_counted (λ e. e.1) es (slot_count s) (λ slot below. let le = keys slot in let some = one_value (value_at s slot) (filled slot (omega arith) below) in omega (arith, le, some))

  needed_for : (s : Slots V) (es : List (K × ℕ)) (used : ℕ) → used ≡ length es → HaveKeys (value_at s) es → (slot_count s - slot_count s / 4 < used) ⊎ AreFilled s 0 (slot_count s)
      → (slot_count s - slot_count s / 4 < used) ⊎ (slot_count s ≤ used)
  needed_for s es used is keys (inl few) = inl few
  needed_for s es used is keys (inr filled) = let all = all_filled s es keys filled in inr (omega (arith, all, is))

  -- As many slots as are needed for the values that are held.
  pub few_slots : (old new : Sorter K V) (middle : Slots V) (used slot : ℕ) → used ≡ length old.order.items → slots_in new ≡ slot_count middle → SlotReused old.values used slot middle ⊎ SlotAdded old.values used slot middle
      → AddsFewSlots old new
  few_slots old new middle used slot is same (inl reused) = let count = ap length reused.slots in record { kept = omega (arith, count, same); few = omega (arith, count, same) }
  few_slots old new middle used slot is same (inr added) =
      let count = ap length added.slots ∙ length_push (slots_of old.values) None in
      let held = entries_length (value_at old.values) old.order.items old.placed in
      let few = enough (slot_count old.values) used (needed_for old.values old.order.items used is old.have_keys added.needed) in
      let for_held : slots_for used ≡ slots_for (length (held_of old)) = ap (λ n. slots_for n) (is ∙ sym held) in
      record { kept = omega (arith, count, same); few = omega (arith, count, same, few, for_held) }

  -- Each value that is held has a slot of its own.
  pub held_in_slots : (s : Sorter K V) → length (held_of s) ≤ slots_in s
  held_in_slots s =
      let held = entries_length (value_at s.values) s.order.items s.placed in
      let all = few_counted (λ e. e.1) s.order.items (slot_count s.values)
      (λ slot some. let le = s.placed slot in slot_within s.values slot (cases_lt slot (slot_count s.values)) (omega (arith, some, le)))
      (λ slot. let le = s.placed slot in let one = at_most_one (value_at s.values slot) in omega (arith, le, one)) in
      omega (arith, held, all)

  same_values : (old new : Slots V) → KeepsValues old new → (es : List (K × ℕ)) → entries_by (value_at new) es ≡ entries_by (value_at old) es
  same_values old new kept es = λ i. entries_by (λ slot. kept slot i) es

  pub unchanged_entries : (old new : Sorter K V) → KeepsValues old.values new.values → new.order.items ≡ old.order.items → new.available ≡ old.available → new.limit ≡ old.limit → new.greatest ≡ old.greatest → AddsFewSlots old new → IsUnchanged old new
  unchanged_entries old new kept order same limit greatest few = record {
    available = same_values old.values new.values kept (take new.available new.order.items) ∙ ap (λ n. entries_by (value_at old.values) (take n new.order.items)) same ∙ ap (λ xs. entries_by (value_at old.values) (take old.available xs)) order;
    pending = same_values old.values new.values kept (drop new.available new.order.items) ∙ ap (λ n. entries_by (value_at old.values) (drop n new.order.items)) same ∙ ap (λ xs. entries_by (value_at old.values) (drop old.available xs)) order;
    held = same_values old.values new.values kept new.order.items ∙ ap (λ xs. entries_by (value_at old.values) xs) order;
    limit = limit;
    greatest = greatest;
    slots = few;
  }
