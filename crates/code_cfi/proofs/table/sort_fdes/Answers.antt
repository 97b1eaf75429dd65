use Rattle.std.proofs.Common.{rules, ◌≡◌}
use Rattle.std.proofs.lemmas.Result.{on_ok_weaker}
use Rattle.std.proofs.lemmas.List.Sorted.{IsNonDecreasingBy-from_sort_by_key}
use Rattle.std.proofs.lemmas.Fn.{always_returns_same}
use Rattle.code_cfi.specs.declared.fde.Fde.{Fde}
use Rattle.code_cfi.proofs.table.sort_fdes.Goals as goal

pub returns-clause-sorted : goal.returns-clause-sorted
returns-clause-sorted c =
    on_ok_weaker c.sort_by_key.result (λ h. IsNonDecreasingBy-from_sort_by_key (λ (f : Fde). f.start) c.sort_by_key.new.self.items h (λ a r q k. search rules)) c.sort_by_key.ensures.sorted

pub returns-clause-stable : goal.returns-clause-stable
returns-clause-stable c = c.sort_by_key.ensures.stable (λ (f : Fde). f.start) (always_returns_same _ (λ a r. r ≡ a.0.now.start) _ (λ a r q k. search rules))
