-- Steps of private functions: frame description entries (DWARF 5, section 6.4.1).
use Rattle.std.specs.Prelude.{ℕ, ◌-◌, List, Bool}
use Rattle.code_cfi.specs.declared.entry.CfiEntry.{CfiEntry}
use Rattle.code_cfi.specs.declared.cie.Cie.{Cie}
use Rattle.code_cfi.specs.declared.fde.Fde.{Fde}
use Rattle.code_cfi.specs.Fdes.{DataAt, FdeAt}

-- the augmentation data aren't complete, and the entry with this CIE is no FDE
abbrev pub NoData : Bool → List ℕ → Type 0
NoData has_data bytes = (rest : List ℕ) → DataAt has_data bytes rest → ⊥

abbrev pub NoFde : ℕ → CfiEntry → Cie → Type 0
NoFde address e c = (f : Fde) → FdeAt address e c f → ⊥
