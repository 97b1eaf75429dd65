-- Sums over entries as sums over what is counted under their keys.
use Rattle.std.proofs.Common.{◌≡◌, ◌∙◌, ◌+◌, inl, inr, ap, refl, sym, subst, arith, ℕ, zero, suc, Bool, true, false, cond, List, [], ◌∷◌, ◌⊎◌, map, Some, slice_get}
use Rattle.std.specs.List.{sum_by}
use Rattle.std.proofs.lemmas.List.Sums.{sum_by-cons}
use Rattle.std.proofs.lemmas.Option.{some_pair_parts}
use Rattle.perfdata_profile.proofs.Searching.{at_map, map_at}
use Rattle.perfdata_profile.proofs.Valuing.{sum_by_map}
use Rattle.perfdata_profile.specs.Tallies.{Counted, IsSumOf, IsUnder, Tallies, one_sample, weight_of}
use Rattle.perfdata_profile.specs.declared.sums.Sums.{Sums}

module _ {K : Type 0} (test : K → Bool) where
  abbrev entry_part : K × ℕ → ℕ
  entry_part entry = cond (test entry.0) entry.1 0

  abbrev counted_part : Counted K → ℕ
  counted_part one = cond (test one.key) one.weight 0

  -- Keys with the sums of what is counted under them.
  abbrev AreSums : List (Counted K) → List (K × ℕ) → Type 0
  AreSums counted entries = (index : ℕ) (key : K) (sum : ℕ) → slice_get entries index ≡ Some (key, sum) → IsSumOf (IsUnder key) weight_of counted sum

  abbrev IsAt : List (K × ℕ) → K → ℕ → Type 0
  IsAt entries key index = ((sum : ℕ) × (slice_get entries index ≡ Some (key, sum)))

  -- A key has one entry.
  abbrev HasOne : List (K × ℕ) → K → Type 0
  HasOne entries key = (((index : ℕ) × IsAt entries key index) × ((first second : ℕ) → IsAt entries key first → IsAt entries key second → first ≡ second))

  no_sums : (entries : List (K × ℕ)) → AreSums [] entries → sum_by entry_part entries ≡ 0
  no_sums [] are = refl
  no_sums (e ∷ es) are = sum_by-cons entry_part e es ∙ by (test e.0) (are 0 e.0 e.1 refl) (no_sums es (λ index key sum at. are (suc index) key sum at))
    where
      by : (b : Bool) → e.1 ≡ 0 → sum_by entry_part es ≡ 0 → cond b e.1 0 + sum_by entry_part es ≡ 0
      by true here rest = omega (arith, here, rest)
      by false here rest = omega (arith, rest)

  module _ (one : Counted K) (counted : List (Counted K)) where
    -- The entries without one that is counted.
    abbrev rest_of : (entries : List (K × ℕ)) → AreSums (one ∷ counted) entries → List (K × ℕ)
    rest_of [] are = []
    rest_of (e ∷ es) are = (e.0, (are 0 e.0 e.1 refl).0) ∷ rest_of es (λ index key sum at. are (suc index) key sum at)

    abbrev Choice : K → ℕ → ℕ → Type 0
    Choice key sum rest = ((one.key ≡ key) × (sum ≡ rest + one.weight)) ⊎ (((one.key ≡ key) → ⊥) × (sum ≡ rest))

    abbrev hit : (key : K) (sum rest : ℕ) → Choice key sum rest → ℕ
    hit key sum rest (inl here) = cond (test key) one.weight 0
    hit key sum rest (inr apart) = 0

    abbrev hits : (entries : List (K × ℕ)) → AreSums (one ∷ counted) entries → ℕ
    hits [] are = 0
    hits (e ∷ es) are = hit e.0 e.1 (are 0 e.0 e.1 refl).0 (are 0 e.0 e.1 refl).2 + hits es (λ index key sum at. are (suc index) key sum at)

    part_is : (key : K) (sum rest : ℕ) (choice : Choice key sum rest) → cond (test key) sum 0 ≡ cond (test key) rest 0 + hit key sum rest choice
    part_is key sum rest (inl here) = by (test key)
      where
        by : (b : Bool) → cond b sum 0 ≡ cond b rest 0 + cond b one.weight 0
        by true = here.1
        by false = omega arith
    part_is key sum rest (inr apart) = by (test key)
      where
        by : (b : Bool) → cond b sum 0 ≡ cond b rest 0 + 0
        by true = omega (arith, apart.1)
        by false = omega arith

    sum_split : (entries : List (K × ℕ)) (are : AreSums (one ∷ counted) entries) → sum_by entry_part entries ≡ sum_by entry_part (rest_of entries are) + hits entries are
    sum_split [] are = refl
    sum_split (e ∷ es) are =
        let later : AreSums (one ∷ counted) es = λ index key sum at. are (suc index) key sum at in
        let rest = sum_split es later in
        let here = part_is e.0 e.1 (are 0 e.0 e.1 refl).0 (are 0 e.0 e.1 refl).2 in
        let left = sum_by-cons entry_part e es in
        let right = sum_by-cons entry_part (e.0, (are 0 e.0 e.1 refl).0) (rest_of es later) in
        omega (arith, rest, here, left, right)

    rest_at : (entries : List (K × ℕ)) (are : AreSums (one ∷ counted) entries) (index : ℕ) (key : K) (sum : ℕ) → slice_get (rest_of entries are) index ≡ Some (key, sum) → IsAt entries key index × IsSumOf (IsUnder key) weight_of counted sum
    rest_at [] are index key sum at = cc
    rest_at (e ∷ es) are zero key sum at =
        let parts = some_pair_parts e.0 key (are 0 e.0 e.1 refl).0 sum at in
        let is : IsSumOf (IsUnder e.0) weight_of counted (are 0 e.0 e.1 refl).0 = (are 0 e.0 e.1 refl).1 in
        let summed : IsSumOf (IsUnder e.0) weight_of counted sum = subst (IsSumOf (IsUnder e.0) weight_of counted) parts.1 is in
        ((e.1, ap (λ (k : K). Some (k, e.1)) parts.0), subst (λ (k : K). IsSumOf (IsUnder k) weight_of counted sum) parts.0 summed)
    rest_at (e ∷ es) are (suc index) key sum at = rest_at es (λ n k s found. are (suc n) k s found) index key sum at

    at_rest : (entries : List (K × ℕ)) (are : AreSums (one ∷ counted) entries) (index : ℕ) (key : K) → IsAt entries key index → IsAt (rest_of entries are) key index
    at_rest [] are index key at = absurd (none index key at.0 at.1)
      where
        none : (n : ℕ) (k : K) (s : ℕ) → slice_get {X = K × ℕ} [] n ≡ Some (k, s) → ⊥
        none n k s is = cc
    at_rest (e ∷ es) are zero key at =
        let parts = some_pair_parts e.0 key e.1 at.0 at.1 in
        ((are 0 e.0 e.1 refl).0, ap (λ (k : K). Some (k, (are 0 e.0 e.1 refl).0)) parts.0)
    at_rest (e ∷ es) are (suc index) key at = at_rest es (λ n k s found. are (suc n) k s found) index key at

    no_hits : (entries : List (K × ℕ)) (are : AreSums (one ∷ counted) entries) → ((index : ℕ) → IsAt entries one.key index → ⊥) → hits entries are ≡ 0
    no_hits [] are none = refl
    no_hits (e ∷ es) are none = by (are 0 e.0 e.1 refl).2 ∙ no_hits es (λ index key sum at. are (suc index) key sum at) (λ index at. none (suc index) at)
      where
        by : (choice : Choice e.0 e.1 (are 0 e.0 e.1 refl).0) → hit e.0 e.1 (are 0 e.0 e.1 refl).0 choice + hits es (λ index key sum at. are (suc index) key sum at) ≡ hits es (λ index key sum at. are (suc index) key sum at)
        by (inl here) = absurd (none 0 (e.1, ap (λ (k : K). Some (k, e.1)) (sym here.0)))
        by (inr apart) = omega arith

    one_hit : (entries : List (K × ℕ)) (are : AreSums (one ∷ counted) entries) (index : ℕ) → IsAt entries one.key index → ((first second : ℕ) → IsAt entries one.key first → IsAt entries one.key second → first ≡ second) → hits entries are ≡ counted_part one
    one_hit [] are index at once = absurd (none index one.key at.0 at.1)
      where
        none : (n : ℕ) (k : K) (s : ℕ) → slice_get {X = K × ℕ} [] n ≡ Some (k, s) → ⊥
        none n k s is = cc
    one_hit (e ∷ es) are zero at once = by (are 0 e.0 e.1 refl).2
      where
        differ : (n : ℕ) → 0 ≡ suc n → ⊥
        differ n same = omega (arith, same)

        key_is : e.0 ≡ one.key
        key_is = (some_pair_parts e.0 one.key e.1 at.0 at.1).0

        rest : hits es (λ index key sum at. are (suc index) key sum at) ≡ 0
        rest = no_hits es (λ index key sum found. are (suc index) key sum found) (λ index found. differ index (once 0 (suc index) at found))

        by : (choice : Choice e.0 e.1 (are 0 e.0 e.1 refl).0) → hit e.0 e.1 (are 0 e.0 e.1 refl).0 choice + hits es (λ index key sum at. are (suc index) key sum at) ≡ counted_part one
        by (inl here) = ap (λ (n : ℕ). cond (test e.0) one.weight 0 + n) rest ∙ omega arith ∙ ap (λ (k : K). cond (test k) one.weight 0) key_is
        by (inr apart) = absurd (apart.0 (sym key_is))
    one_hit (e ∷ es) are (suc index) at once = by (are 0 e.0 e.1 refl).2 (one_hit es (λ n key sum found. are (suc n) key sum found) index at (λ first second found also. less first second (once (suc first) (suc second) found also)))
      where
        less : (n m : ℕ) → suc n ≡ suc m → n ≡ m
        less n m same = omega (arith, same)

        differ : (n : ℕ) → 0 ≡ suc n → ⊥
        differ n same = omega (arith, same)

        by : (choice : Choice e.0 e.1 (are 0 e.0 e.1 refl).0) → hits es (λ index key sum at. are (suc index) key sum at) ≡ counted_part one → hit e.0 e.1 (are 0 e.0 e.1 refl).0 choice + hits es (λ index key sum at. are (suc index) key sum at) ≡ counted_part one
        by (inl here) rest = absurd (differ index (once 0 (suc index) (e.1, ap (λ (k : K). Some (k, e.1)) (sym here.0)) at))
        by (inr apart) rest = omega (arith, rest)

  pub regroup : (counted : List (Counted K)) (entries : List (K × ℕ)) → AreSums counted entries → ((index : ℕ) (one : Counted K) → slice_get counted index ≡ Some one → HasOne entries one.key) → sum_by entry_part entries ≡ sum_by counted_part counted
  regroup [] entries are each = no_sums entries are
  regroup (c ∷ cs) entries are each =
      let own = each 0 c refl in
      let split = sum_split c cs entries are in
      let here = one_hit c cs entries are own.0.0 own.0.1 own.1 in
      let rest = regroup cs (rest_of c cs entries are) (λ index key sum at. (rest_at c cs entries are index key sum at).1) (λ index one at.
      let has = each (suc index) one at in (
        (has.0.0, at_rest c cs entries are has.0.0 one.key has.0.1),
        (λ first second found also. has.1 first second (rest_at c cs entries are first one.key found.0 found.1).0 (rest_at c cs entries are second one.key also.0 also.1).0),
      )) in
      let right = sum_by-cons counted_part c cs in
      omega (arith, split, here, rest, right)

  abbrev weighed : K × Sums → K × ℕ
  weighed entry = (entry.0, entry.1.weight)

  -- What entries add up to whose keys pass a test is what is counted under such keys.
  pub entries_regroup : (counted : List (Counted K)) (entries : List (K × Sums)) → Tallies counted entries → sum_by (λ (entry : K × Sums). cond (test entry.0) entry.1.weight 0) entries ≡ sum_by counted_part counted
  entries_regroup counted entries tallies =
      sym (sum_by_map weighed (λ (entry : K × Sums). cond (test entry.0) entry.1.weight 0) entry_part entries (λ e. refl))
      ∙ regroup counted (map weighed entries)
      (λ index key sum at.
      let e = map_at weighed entries index (key, sum) at in
      let parts : (e.0.0 ≡ key) × (e.0.1.weight ≡ sum) = (ap (λ (p : K × ℕ). p.0) e.2, ap (λ (p : K × ℕ). p.1) e.2) in
      subst (IsSumOf (IsUnder key) weight_of counted) parts.1 (tallies.weights index key e.0.1 (e.1 ∙ ap (λ (k : K). Some (k, e.0.1)) parts.0)))
      (λ index one at.
      let there = tallies.all index one at in (
        (there.0, (there.1.weight, at_map weighed entries there.0 (one.key, there.1) there.2)),
        (λ first second found also.
            let f = map_at weighed entries first (one.key, found.0) found.1 in
            let s = map_at weighed entries second (one.key, also.0) also.1 in
            tallies.once first second one.key f.0.1 s.0.1 (f.1 ∙ ap (λ (k : K). Some (k, f.0.1)) (ap (λ (p : K × ℕ). p.0) f.2)) (s.1 ∙ ap (λ (k : K). Some (k, s.0.1)) (ap (λ (p : K × ℕ). p.0) s.2))),
      ))

  abbrev sampled : K × Sums → K × ℕ
  sampled entry = (entry.0, entry.1.samples)

  -- The same with a weight of 1.
  abbrev unit : Counted K → Counted K
  unit one = record { key = one.key; weight = 1 }

  unit_sums : (key : K) (counted : List (Counted K)) (sum : ℕ) → IsSumOf (IsUnder key) one_sample counted sum → IsSumOf (IsUnder key) weight_of (map unit counted) sum
  unit_sums key [] sum is = is
  unit_sums key (c ∷ cs) sum is = (is.0, unit_sums key cs is.0 is.1, is.2)

  -- The same of the numbers of samples.
  pub samples_regroup : (counted : List (Counted K)) (entries : List (K × Sums)) → Tallies counted entries → sum_by (λ (entry : K × Sums). cond (test entry.0) entry.1.samples 0) entries ≡ sum_by (λ (one : Counted K). cond (test one.key) (one_sample one) 0) counted
  samples_regroup counted entries tallies =
      sym (sum_by_map sampled (λ (entry : K × Sums). cond (test entry.0) entry.1.samples 0) entry_part entries (λ e. refl))
      ∙ regroup (map unit counted) (map sampled entries)
      (λ index key sum at.
      let e = map_at sampled entries index (key, sum) at in
      let parts : (e.0.0 ≡ key) × (e.0.1.samples ≡ sum) = (ap (λ (p : K × ℕ). p.0) e.2, ap (λ (p : K × ℕ). p.1) e.2) in
      unit_sums key counted sum (subst (IsSumOf (IsUnder key) one_sample counted) parts.1 (tallies.samples index key e.0.1 (e.1 ∙ ap (λ (k : K). Some (k, e.0.1)) parts.0))))
      (λ index one at.
      let c = map_at unit counted index one at in
      let key : c.0.key ≡ one.key = ap (λ (o : Counted K). o.key) c.2 in
      let there = tallies.all index c.0 c.1 in (
        (there.0, (there.1.samples, at_map sampled entries there.0 (one.key, there.1) (there.2 ∙ ap (λ (k : K). Some (k, there.1)) key))),
        (λ first second found also.
            let f = map_at sampled entries first (one.key, found.0) found.1 in
            let s = map_at sampled entries second (one.key, also.0) also.1 in
            tallies.once first second one.key f.0.1 s.0.1 (f.1 ∙ ap (λ (k : K). Some (k, f.0.1)) (ap (λ (p : K × ℕ). p.0) f.2)) (s.1 ∙ ap (λ (k : K). Some (k, s.0.1)) (ap (λ (p : K × ℕ). p.0) s.2))),
      ))
      ∙ sum_by_map unit (λ (one : Counted K). cond (test one.key) (one_sample one) 0) counted_part counted (λ c. refl)
