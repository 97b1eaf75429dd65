-- Steps of private functions: the entries of a section, and the FDE at an address.
use Rattle.std.specs.Prelude.{ℕ, ◌<◌, List, length, slice_index_or}
use Rattle.code_cfi.specs.declared.cie.Cie.{Cie}

-- the offset of each CIE is below those of the later ones
abbrev pub AreRising : List Cie → Type 0
AreRising cies = (i j : ℕ) (d : Cie) → i < j → j < length cies → (slice_index_or cies i d).offset < (slice_index_or cies j d).offset
