-- The row at an address.
use Rattle.std.specs.Prelude.{◌≡◌, ℕ, ◌-◌, ◌^◌, ◌<◌, ◌≤◌, List, [], length, Option, Some, None, slice_index_or, slice_range}
use Rattle.code_cfi.specs.Rows.{Moment, IsMoment, Runs, empty_row}
use Rattle.std.specs.Option.{ForSome}
use Rattle.code_cfi.specs.declared.byte_range.ByteRange.{ByteRange}
use Rattle.code_cfi.specs.declared.instruction.Encoding.{Encoding}
use Rattle.code_cfi.specs.declared.cie.Cie.{Cie}
use Rattle.code_cfi.specs.declared.fde.Fde.{Fde}
use Rattle.code_cfi.specs.declared.frame_table.CachedRow.{CachedRow}
use Rattle.code_cfi.specs.declared.table.EntryTable.{EntryTable}
use Rattle.code_cfi.specs.declared.table.RowAtAddress.{RowAtAddress}

-- the instructions of an entry: where they are, and what they are read for
abbrev pub program_in : EntryTable → ByteRange → List ℕ
program_in t span = slice_range t.bytes.items span.start span.end

abbrev pub encoding_in : EntryTable → Cie → ByteRange → Encoding
encoding_in t c span = record { machine = t.machine; pointers = c.augmentation.pointer_encoding; address = t.address; end = span.end }

-- the bytes at a span are within the section
abbrev pub IsWithin : List ℕ → ByteRange → Type 0
IsWithin bytes span = (span.start ≤ span.end) × (span.end ≤ length bytes)

-- the instructions are within the section and have at most 65,536 bytes
abbrev pub IsProgram : EntryTable → ByteRange → Type 0
IsProgram t span = IsWithin t.bytes.items span × (length (program_in t span) ≤ 65536)

-- the row at an address that the FDE at the index describes: the CIE's instructions run first, then the FDE's from its first
-- address on
pub record RowIn (t : EntryTable) (index address : ℕ) (found : RowAtAddress) : Type 0 where
  pub fde : Fde
  pub cie : Cie
  pub first : Moment
  pub middle : Moment
  pub second : Moment
  pub last : Moment
  pub index_within : index < length t.fdes.items
  pub fde_is : fde ≡ slice_index_or t.fdes.items index fde
  pub cie_within : fde.cie < length t.cies.items
  pub cie_is : cie ≡ slice_index_or t.cies.items fde.cie cie
  pub cie_program : IsProgram t cie.instructions
  pub first_is : IsMoment first 0 empty_row []
  pub cie_runs : Runs (encoding_in t cie cie.instructions) cie None (2 ^ 64 - 1) (program_in t cie.instructions) first middle
  pub fde_program : IsProgram t fde.instructions
  pub second_is : IsMoment second fde.start middle.row middle.remembered
  pub fde_runs : Runs (encoding_in t cie fde.instructions) cie (Some middle.row) address (program_in t fde.instructions) second last
  pub row_is : found.row ≡ last.row
  pub register_is : found.return_address ≡ cie.return_address
  pub signal_is : found.is_signal ≡ cie.augmentation.is_signal

-- there is such a row
abbrev pub IsRowIn : EntryTable → ℕ → ℕ → RowAtAddress → Type 0
IsRowIn t index address found = ∥ RowIn t index address found ∥₁

-- there is none: no FDE has the index, it has no CIE, or the instructions of one of them can't be carried out up to the address
abbrev pub NoRowIn : EntryTable → ℕ → ℕ → Type 0
NoRowIn t index address = (found : RowAtAddress) → IsRowIn t index address found → ⊥

-- a row that is kept is one that its FDE describes
abbrev pub IsCached : EntryTable → Option CachedRow → Type 0
IsCached t kept = ForSome kept (λ row. IsRowIn t row.index row.address row.found)
