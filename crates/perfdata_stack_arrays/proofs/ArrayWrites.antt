-- Counts, and elements that are written over arrays after others.
use Rattle.std.proofs.Common.{◌≡◌, ℕ, zero, suc, ◌+◌, ◌-◌, ◌^◌, ◌<◌, ◌≤◌, List, [], ◌∷◌, ◌++◌, length, take, drop, refl, sym, ap, ◌∙◌, arith, inl, inr, length-append, length-drop}
use Rattle.std.proofs.lemmas.Bool.{cases_lt}
use Rattle.linux_perf_data.proofs.EntryLemmas.{length-with_prefix}
use Rattle.linux_perf_data.specs.RecordEntries.{with_prefix}
use Rattle.perfdata_arrays.proofs.OverwriteLemmas.{with_entries_at-more, with_entries_at-past_end, with_entries_at-with_prefix, with_prefix-nil}
use Rattle.perfdata_arrays.specs.Overwrites.{with_entries_at}
use Rattle.perfdata_stack_arrays.specs.Arrays.{AreRelated, count_of, saturated}

-- The sum of two counts.
pub saturated_sum : (a b : ℕ) → saturated (saturated a + saturated b) ≡ saturated (a + b)
saturated_sum a b = omega arith

pub count_append : {T : Type 0} (xs ys : List T) → saturated (count_of xs + count_of ys) ≡ count_of (xs ++ ys)
count_append xs ys = saturated_sum (length xs) (length ys) ∙ ap saturated (sym (length-append xs ys))

-- Elements that don't fit.
prefix_full : {T : Type 0} (done more rest : List T) → length rest ≤ length done → with_prefix (done ++ more) rest ≡ with_prefix done rest
prefix_full [] more [] full = with_prefix-nil more
prefix_full [] more (o ∷ os) full = absurd (omega (arith, full))
prefix_full (x ∷ done) more [] full = refl
prefix_full (x ∷ done) more (o ∷ os) full = ap (λ l. x ∷ l) (prefix_full done more os (omega (arith, full)))

entries_full : {T : Type 0} (at : ℕ) (done more old : List T) → length old ≤ at + length done → with_entries_at at (done ++ more) old ≡ with_entries_at at done old
entries_full at done more old full = ap (λ l. take at old ++ l) (prefix_full done more (drop at old) (omega (arith, full, length-drop at old)))

pub length-entries : {T : Type 0} (at : ℕ) (es old : List T) → length (with_entries_at at es old) ≡ length old
length-entries zero es [] = length-with_prefix es []
length-entries zero es (o ∷ os) = length-with_prefix es (o ∷ os)
length-entries (suc at) es [] = ap length (with_prefix-nil es)
length-entries (suc at) es (o ∷ os) = ap (λ n. suc n) (length-entries at es os)

-- More elements at the count of all before them.
pub more_at : {T : Type 0} (at index : ℕ) (done more old : List T) → index ≡ saturated (at + length done) → length old < 2 ^ 63 → with_entries_at index more (with_entries_at at done old) ≡ with_entries_at at (done ++ more) old
more_at at index done more old is short = elim (cases_lt (at + length done) (2 ^ 64 - 1)) [
  | inl fits ↦ with_entries_at-more at index done more old (omega (arith, is, fits))
  | inr full ↦
      sym (with_entries_at-past_end index more (with_entries_at at done old) (omega (arith, is, full, short, length-entries at done old)))
      ∙ sym (entries_full at done more old (omega (arith, full, short)))
]

-- More elements after those that an array contains.
pub more_after : {T : Type 0} (own more old now new : List T) → now ≡ with_prefix own old → length old < 2 ^ 63 → new ≡ with_entries_at (count_of own) more now → new ≡ with_prefix (own ++ more) old
more_after own more old now new was short written =
    written ∙ ap (λ l. with_entries_at (count_of own) more l) was ∙ after own more old short
  where
    after : {T : Type 0} (own more old : List T) → length old < 2 ^ 63 → with_entries_at (count_of own) more (with_prefix own old) ≡ with_prefix (own ++ more) old
    after own more old short = elim (cases_lt (length own) (2 ^ 64 - 1)) [
      | inl fits ↦ (let same : count_of own ≡ length own = omega (arith, fits) in ap (λ n. with_entries_at n more (with_prefix own old)) same ∙ with_entries_at-with_prefix own more old)
      | inr full ↦
          sym (with_entries_at-past_end (count_of own) more (with_prefix own old) (omega (arith, full, short, length-with_prefix own old)))
          ∙ sym (prefix_full own more old (omega (arith, full, short)))
    ]

-- ---- related lists

pub related_push : {A B : Type 0} → (relation : A → B → Type 0) (xs : List A) (ys : List B) (x : A) (y : B) → AreRelated relation xs ys → relation x y → AreRelated relation (xs ++ x ∷ []) (ys ++ y ∷ [])
related_push relation [] [] x y are is = (is, tt)
related_push relation [] (z ∷ ys) x y are is = absurd are
related_push relation (z ∷ xs) [] x y are is = absurd are
related_push relation (z ∷ xs) (w ∷ ys) x y are is = (are.0, related_push relation xs ys x y are.1 is)
