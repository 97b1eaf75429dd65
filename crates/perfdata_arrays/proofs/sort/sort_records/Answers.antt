use Rattle.std.proofs.Common.{rules, ◌≡◌, ◌<◌, length, refl, inl, inr}
use Rattle.std.proofs.lemmas.Bool.{cases_lt}
use Rattle.std.proofs.lemmas.List.Sorted.{IsNonDecreasingBy-from_sort_by_key}
use Rattle.std.proofs.lemmas.Fn.{always_returns_same}
use Rattle.perfdata_arrays.specs.Sorting.{time_or_zero}
use Rattle.perfdata_arrays.proofs.sort.sort_records.Goals as goal

pub returns-in-Ok : goal.returns-in-Ok
returns-in-Ok c = inl (
  refl,
  record {
    permutation = c.sort_by_key.ensures.permutation;
    ascending = IsNonDecreasingBy-from_sort_by_key time_or_zero _ c.in-Ok.ensures.sorted (λ a r q k. search rules);
    stable = c.sort_by_key.ensures.stable time_or_zero (always_returns_same _ (λ a r. r ≡ time_or_zero a.0.now) _ (λ a r q k. search rules));
  },
)

pub returns-in-Err : goal.returns-in-Err
returns-in-Err c =
    let many : 20 < length c.args.entries.now = elim (cases_lt 20 (length c.args.entries.now)) [ inl many ↦ many | inr few ↦ (let succeeds = c.in-Err.ensures.succeeds few in absurd cc) ] in
    inr (refl, many, c.in-Err.ensures.err)
