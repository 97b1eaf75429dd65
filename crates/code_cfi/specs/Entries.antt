-- The entries of a section (DWARF 5, section 6.4.1; Linux Standard Base, section 10.6).
use Rattle.std.specs.Prelude.{◌≡◌, ◌≢◌, ℕ, ◌+◌, ◌-◌, ◌^◌, ◌<◌, ◌≤◌, ◌==◌, List, [], length, take, drop, Bool, true, false, Option, Some, None, if◌then◌else◌, nat_le}
use Rattle.code_cfi.specs.Numbers.{FixedAt}
use Rattle.code_cfi.specs.declared.entry.FrameSection.{FrameSection}
use Rattle.code_cfi.specs.declared.entry.FrameSection.TheVariants as sections
use Rattle.code_cfi.specs.declared.entry.CfiEntry.{CfiEntry}

-- the bytes start with an initial length: 4 bytes, or 4 bytes that are all ones and 8 more
abbrev pub LengthAt : List ℕ → Bool → ℕ → List ℕ → Type 0
LengthAt bytes false n rest = FixedAt 4 bytes n rest × (n ≢ 2 ^ 32 - 1)
LengthAt bytes true n rest = (mid : List ℕ) × FixedAt 4 bytes (2 ^ 32 - 1) mid × FixedAt 8 mid n rest

-- the size of an identifier
abbrev pub id_size : FrameSection → Bool → ℕ
id_size sections.EhFrame is_64 = 4
id_size sections.DebugFrame false = 4
id_size sections.DebugFrame true = 8

-- the identifier of a CIE
abbrev pub cie_id : FrameSection → Bool → ℕ
cie_id sections.EhFrame is_64 = 0
cie_id sections.DebugFrame false = 2 ^ 32 - 1
cie_id sections.DebugFrame true = 2 ^ 64 - 1

-- the offset of the CIE of an FDE: in `.eh_frame` the identifier is the distance from itself back to the CIE
abbrev pub cie_offset : FrameSection → ℕ → ℕ → Option ℕ
cie_offset sections.EhFrame id_offset id = (if nat_le id id_offset then Some (id_offset - id) else None)
cie_offset sections.DebugFrame id_offset id = Some id

-- the bytes, the end of a section of `size` bytes, start with the entry: a length that is not 0, and that number of bytes, the first of
-- which are the identifier
pub record EntryAt (section : FrameSection) (size : ℕ) (bytes : List ℕ) (e : CfiEntry) (rest : List ℕ) : Type 0 where
  pub is_64 : Bool
  pub len : ℕ
  pub mid : List ℕ
  pub id : ℕ
  pub length_at : LengthAt bytes is_64 len mid
  pub positive : 0 < len
  pub within : len ≤ length mid
  pub id_at : FixedAt (id_size section is_64) (take len mid) id e.body.now
  pub after : rest ≡ drop len mid
  pub starts : e.offset + length bytes ≡ size
  pub ends : e.end + length rest ≡ size
  pub kind : e.is_cie ≡ (id == cie_id section is_64)
  pub cie : e.cie_offset ≡ (if id == cie_id section is_64 then None else cie_offset section (size - length mid) id)

-- a length of 0 ends `.eh_frame`, and is skipped in `.debug_frame`
abbrev pub AfterZero : FrameSection → List ℕ → List ℕ → Type 0
AfterZero sections.EhFrame mid rest = rest ≡ []
AfterZero sections.DebugFrame mid rest = rest ≡ mid

pub record ZeroAt (section : FrameSection) (bytes rest : List ℕ) : Type 0 where
  pub is_64 : Bool
  pub mid : List ℕ
  pub length_at : LengthAt bytes is_64 0 mid
  pub after : AfterZero section mid rest

-- the bytes start with an entry, or with a length of 0
abbrev pub PieceAt : FrameSection → ℕ → List ℕ → Option CfiEntry → List ℕ → Type 0
PieceAt section size bytes (Some e) rest = EntryAt section size bytes e rest
PieceAt section size bytes None rest = ZeroAt section bytes rest

-- the bytes start with neither
abbrev pub NoPiece : FrameSection → ℕ → List ℕ → Type 0
NoPiece section size bytes = (p : Option CfiEntry) (rest : List ℕ) → PieceAt section size bytes p rest → ⊥
