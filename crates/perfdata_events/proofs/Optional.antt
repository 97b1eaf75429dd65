-- A value that is there, decoded and put into `Some`.
use Rattle.std.proofs.Common.{◌≡◌, Bool, true, List, ℕ, sym, subst}
use Rattle.std.specs.Prelude.{Option, Some, Result, Ok, Err}
use Rattle.std.specs.Option.{option_map}
use Rattle.std.specs.Result.{MatchResult, IsOkAnd}
use Rattle.std.specs.declared.io.Error.{Error}
use Rattle.perfdata_events.specs.Format.{Outcome, Decodes, optional}

module _ {V R : Type 0} (format : List ℕ → Outcome V → Type 0) (view : R → V) (present : Bool) (old new : List ℕ) (is_present : present ≡ true) where
  pub decodes_some : (decoded : Result R Error) (result : Result (Option R) Error) → Decodes format view old decoded new
      → MatchResult decoded (λ value. IsOkAnd result (λ (o : Option R). o ≡ Some value)) (λ e. result ≡ Err e)
      → Decodes (optional present format) (option_map view) old result new
  decodes_some (Ok value) (Ok o) is same = subst (λ (o : Option R). Decodes (optional present format) (option_map view) old (Ok o) new) (sym same) (is_present, is)
  decodes_some (Ok value) (Err e) is same = absurd same
  decodes_some (Err e) result is same = subst (λ (r : Result (Option R) Error). Decodes (optional present format) (option_map view) old r new) (sym same) (is_present, is)
