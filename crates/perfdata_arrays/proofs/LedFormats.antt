-- Formats in which a value determines the format of the next one.
use Rattle.std.proofs.Common.{ℕ, List, inr}
use Rattle.std.specs.Prelude.{Result, Ok, Err}
use Rattle.std.specs.declared.io.Error.{Error}
use Rattle.perfdata_events.specs.Format.{Outcome, encodes, led, Decodes}

-- a value that determines the format of the next one, and that one's result
pub led_goes_on : {A B R : Type 0} (first : List ℕ → Outcome A → Type 0) (second : A → List ℕ → Outcome B → Type 0) (view : R → B) (xs middle new : List ℕ) (lead : A) (r : Result R Error)
    → first xs (encodes lead middle) → Decodes (second lead) view middle r new → Decodes (led first second) view xs r new
led_goes_on first second view xs middle new lead (Ok v) starts goes_on = record { lead = lead; middle = middle; starts = starts; goes_on = goes_on }
led_goes_on first second view xs middle new lead (Err e) starts failed = inr record { value = lead; middle = middle; starts = starts; error = failed }
