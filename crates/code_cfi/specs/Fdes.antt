-- Frame description entries (DWARF 5, section 6.4.1).
use Rattle.std.specs.Prelude.{◌≡◌, ℕ, ◌+◌, ◌-◌, ◌%◌, ◌^◌, ◌<◌, List, length, Bool, true, false, Some, slice_index_or}
use Rattle.code_cfi.specs.Numbers.{BlockAt}
use Rattle.code_cfi.specs.Pointers.{EncodedAt, PointerAt}
use Rattle.code_cfi.specs.declared.entry.CfiEntry.{CfiEntry}
use Rattle.code_cfi.specs.declared.cie.Cie.{Cie}
use Rattle.code_cfi.specs.declared.fde.Fde.{Fde}

-- the augmentation data, if the CIE says that there are any
abbrev pub DataAt : Bool → List ℕ → List ℕ → Type 0
DataAt false bytes rest = rest ≡ bytes
DataAt true bytes rest = (block : List ℕ) × BlockAt bytes block rest

-- the FDE that an entry with this CIE is: its first address, its size in the same format, and the augmentation data
pub record FdeAt (address : ℕ) (e : CfiEntry) (c : Cie) (f : Fde) : Type 0 where
  pub after_start : List ℕ
  pub after_size : List ℕ
  pub rest : List ℕ
  pub start_at : PointerAt c.augmentation.pointer_encoding ((address + (e.end - length e.body.now)) % 2 ^ 64) e.body.now f.start after_start
  pub size_at : EncodedAt c.augmentation.pointer_encoding after_start f.size after_size
  pub data_at : DataAt c.augmentation.has_data after_size rest
  pub starts : f.instructions.start + length rest ≡ e.end
  pub ends : f.instructions.end ≡ e.end

-- the entry is this FDE, which can be used: its CIE is one of these, at the offset that the entry says, and its size is not 0
pub record IsFde (address : ℕ) (cies : List Cie) (e : CfiEntry) (f : Fde) : Type 0 where
  pub cie : Cie
  pub within : f.cie < length cies
  pub cie_is : cie ≡ slice_index_or cies f.cie cie
  pub offset_is : e.cie_offset ≡ Some cie.offset
  pub fde_at : FdeAt address e cie f
  pub positive : 0 < f.size
