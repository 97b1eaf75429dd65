-- What a table has, and the row at an address.
use Rattle.std.specs.Prelude.{ℕ, List}
use Rattle.code_cfi.specs.TableRows.{IsRowIn, NoRowIn}
use Rattle.code_cfi.specs.declared.cie.Cie.{Cie}
use Rattle.code_cfi.specs.declared.fde.Fde.{Fde}
use Rattle.code_cfi.specs.declared.frame_table.FrameTable.{FrameTable}
use Rattle.code_cfi.specs.declared.table.EntryTable.{EntryTable}
use Rattle.code_cfi.specs.declared.table.RowAtAddress.{RowAtAddress}

-- the entries of a table, which are all that its answers depend on
abbrev pub table_of : FrameTable → EntryTable
table_of t = t.table

-- the FDEs of a table, the CIEs, and the bytes of the section
abbrev pub fdes_of : FrameTable → List Fde
fdes_of t = t.table.fdes.items

abbrev pub cies_of : FrameTable → List Cie
cies_of t = t.table.cies.items

abbrev pub bytes_of : FrameTable → List ℕ
bytes_of t = t.table.bytes.items

-- the row at an address that the FDE at the index describes
abbrev pub IsRowAt : FrameTable → ℕ → ℕ → RowAtAddress → Type 0
IsRowAt t index address found = IsRowIn t.table index address found

-- there is no such row
abbrev pub NoRowAt : FrameTable → ℕ → ℕ → Type 0
NoRowAt t index address = NoRowIn t.table index address
