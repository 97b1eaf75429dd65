-- What a profile has when it is built.
use Rattle.std.proofs.Common.{◌≡◌, ◌∙◌, ℕ, List, ap}
use Rattle.pprof.specs.Messages.{LocationValue}
use Rattle.pprof.specs.Rows.{numbered}
use Rattle.pprof.specs.Tables.{Place, location_row}

-- Locations for counts of rows are those for the same numbers.
pub located : (places : List Place) (locations : List LocationValue) (mapping_count function_count mappings functions : ℕ)
    → locations ≡ numbered (location_row mapping_count function_count) 1 places → mapping_count ≡ mappings → function_count ≡ functions
    → locations ≡ numbered (location_row mappings functions) 1 places
located places locations mapping_count function_count mappings functions are counted also =
    are ∙ (ap (λ (n : ℕ). numbered (location_row n function_count) 1 places) counted
    ∙ ap (λ (n : ℕ). numbered (location_row mappings n) 1 places) also)
