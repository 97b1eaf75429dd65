-- The units of `.debug_info` (DWARF 5, section 7.5.1; DWARF 4, section 7.5.1).
use Rattle.std.specs.Prelude.{◌≡◌, ◌⊎◌, ℕ, ◌+◌, ◌≤◌, List, [], ◌∷◌, length, Bool, true, false, Option, Some, None, Result, Ok, Err}
use Rattle.code_dwarf.specs.steps.Numbers.{NumberAt, OffsetAt, LengthAt, SplitAt, SkippedAt}
use Rattle.code_dwarf.specs.declared.error.DwarfError.{DwarfError}
use Rattle.code_dwarf.specs.declared.fixed.Endianness.{Endianness}
use Rattle.code_dwarf.specs.declared.units.UnitHeader.{UnitHeader}
use Rattle.code_dwarf.specs.declared.units.UnitFields.{UnitFields}

-- the fields after the version: before version 5 the offset of the abbreviations and the size of addresses
pub record OldFieldsAt (endian : Endianness) (is_64 : Bool) (bytes : List ℕ) (f : UnitFields) (rest : List ℕ) : Type 0 where
  pub mid : List ℕ
  pub abbreviations_at : OffsetAt endian is_64 bytes f.abbreviations mid
  pub size_at : mid ≡ f.address_size ∷ rest
  pub kind : f.kind ≡ 1

-- the units of version 5 that have an identifier of 8 bytes after the fields: skeleton units and split units
abbrev pub AfterFields : ℕ → List ℕ → List ℕ → Type 0
AfterFields kind bytes rest = (((kind ≡ 4) ⊎ (kind ≡ 5)) × SkippedAt 8 bytes rest) ⊎ (((kind ≡ 4) ⊎ (kind ≡ 5) → ⊥) × (rest ≡ bytes))

abbrev pub NoAfterFields : ℕ → List ℕ → Type 0
NoAfterFields kind bytes = (rest : List ℕ) → AfterFields kind bytes rest → ⊥

-- in version 5 the type of the unit, the size of addresses and the offset of the abbreviations
pub record NewFieldsAt (endian : Endianness) (is_64 : Bool) (bytes : List ℕ) (f : UnitFields) (rest : List ℕ) : Type 0 where
  pub mid : List ℕ
  pub after : List ℕ
  pub bytes_at : bytes ≡ f.kind ∷ f.address_size ∷ mid
  pub abbreviations_at : OffsetAt endian is_64 mid f.abbreviations after
  pub rest_at : AfterFields f.kind after rest

-- the fields by the version, which is 2 to 5
abbrev pub FieldsAt : Endianness → ℕ → Bool → List ℕ → UnitFields → List ℕ → Type 0
FieldsAt endian version is_64 bytes f rest =
    ((2 ≤ version) × (version ≤ 4) × OldFieldsAt endian is_64 bytes f rest) ⊎ ((version ≡ 5) × NewFieldsAt endian is_64 bytes f rest)

-- a unit with entries: its type is that of a compilation unit, a partial unit, a skeleton or a split compilation unit
abbrev pub HasEntries : ℕ → Type 0
HasEntries kind = (kind ≡ 1) ⊎ (kind ≡ 3) ⊎ (kind ≡ 4) ⊎ (kind ≡ 5)

-- addresses have 8 bytes or 4
abbrev pub IsAddressSize : Bool → ℕ → Type 0
IsAddressSize true size = size ≡ 8
IsAddressSize false size = size ≡ 4

-- a unit with these fields is read: it has entries, and this is the size of its addresses
abbrev pub CanBeUsed : UnitFields → Bool → Type 0
CanBeUsed f wide = HasEntries f.kind × IsAddressSize wide f.address_size

abbrev pub CannotBeUsed : UnitFields → Type 0
CannotBeUsed f = (wide : Bool) → CanBeUsed f wide → ⊥

-- the bytes of a unit after its length, which end where the unit ends, start with this header
pub record HeaderAt (endian : Endianness) (is_64 : Bool) (contents : List ℕ) (u : UnitHeader) : Type 0 where
  pub fields : UnitFields
  pub mid : List ℕ
  pub entries : List ℕ
  pub version_at : NumberAt endian 2 contents u.version mid
  pub fields_at : FieldsAt endian u.version is_64 mid fields entries
  pub can_be_used : CanBeUsed fields u.has_64_bit_addresses
  pub format : u.is_64_bit ≡ is_64
  pub abbreviations : u.abbreviations ≡ fields.abbreviations
  pub entries_start : u.entries + length entries ≡ u.end

-- they start with no header of a unit that is read: the version or the type of the unit is another one, or the header isn't complete
abbrev pub NoHeader : Endianness → Bool → List ℕ → Type 0
NoHeader endian is_64 contents = (u : UnitHeader) → HeaderAt endian is_64 contents u → ⊥

-- the header that was read
abbrev pub header_in : Result (Option UnitHeader) DwarfError → Option UnitHeader
header_in (Ok header) = header
header_in (Err _) = None

-- the bytes, the end of a section of `size` bytes, start with this unit
pub record UnitAt (endian : Endianness) (size : ℕ) (bytes : List ℕ) (u : UnitHeader) (rest : List ℕ) : Type 0 where
  pub is_64 : Bool
  pub len : ℕ
  pub mid : List ℕ
  pub contents : List ℕ
  pub length_at : LengthAt endian is_64 bytes len mid
  pub contents_at : SplitAt len mid contents rest
  pub header_at : HeaderAt endian is_64 contents u
  pub starts : u.offset + length bytes ≡ size
  pub ends : u.end + length rest ≡ size

-- they start with a unit that isn't read
pub record OtherUnitAt (endian : Endianness) (bytes rest : List ℕ) : Type 0 where
  pub is_64 : Bool
  pub len : ℕ
  pub mid : List ℕ
  pub contents : List ℕ
  pub length_at : LengthAt endian is_64 bytes len mid
  pub contents_at : SplitAt len mid contents rest
  pub no_header : NoHeader endian is_64 contents

-- they start with one of both
abbrev pub PieceAt : Endianness → ℕ → List ℕ → Option UnitHeader → List ℕ → Type 0
PieceAt endian size bytes (Some u) rest = UnitAt endian size bytes u rest
PieceAt endian size bytes None rest = OtherUnitAt endian bytes rest

-- they start with no unit: they end in it, or its length is a reserved one
abbrev pub NoPiece : Endianness → ℕ → List ℕ → Type 0
NoPiece endian size bytes = (p : Option UnitHeader) (rest : List ℕ) → PieceAt endian size bytes p rest → ⊥

-- the bytes, the end of a section of `size` bytes, start with these units, and `rest` follows
abbrev pub Pieces : Endianness → ℕ → List ℕ → List (Option UnitHeader) → List ℕ → Type 0
Pieces endian size bytes [] rest = rest ≡ bytes
Pieces endian size bytes (p ∷ ps) rest = (mid : List ℕ) × PieceAt endian size bytes p mid × Pieces endian size mid ps rest

-- the units that are read, in order
abbrev pub units_of : List (Option UnitHeader) → List UnitHeader
units_of [] = []
units_of (None ∷ ps) = units_of ps
units_of (Some u ∷ ps) = u ∷ units_of ps

-- the units of a section, in its order: those of all its pieces, after which the section ends or there is no piece
pub record UnitsOf (endian : Endianness) (bytes : List ℕ) (units : List UnitHeader) : Type 0 where
  pub pieces : List (Option UnitHeader)
  pub rest : List ℕ
  pub are : Pieces endian (length bytes) bytes pieces rest
  pub ends : (rest ≡ []) ⊎ NoPiece endian (length bytes) rest
  pub units_are : units ≡ units_of pieces

-- there are no such fields
abbrev pub NoOldFields : Endianness → Bool → List ℕ → Type 0
NoOldFields endian is_64 bytes = (f : UnitFields) (rest : List ℕ) → OldFieldsAt endian is_64 bytes f rest → ⊥

abbrev pub NoNewFields : Endianness → Bool → List ℕ → Type 0
NoNewFields endian is_64 bytes = (f : UnitFields) (rest : List ℕ) → NewFieldsAt endian is_64 bytes f rest → ⊥

abbrev pub NoFields : Endianness → ℕ → Bool → List ℕ → Type 0
NoFields endian version is_64 bytes = (f : UnitFields) (rest : List ℕ) → FieldsAt endian version is_64 bytes f rest → ⊥
