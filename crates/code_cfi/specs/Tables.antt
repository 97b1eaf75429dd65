-- The entries of a section, and the FDE at an address.
use Rattle.std.specs.Prelude.{◌≡◌, ◌⊎◌, ℕ, ◌+◌, ◌<◌, ◌≤◌, List, [], ◌∷◌, length, Option, Some, None, true, slice_index_or, All}
use Rattle.std.specs.List.Sorted.{IsNonDecreasingBy, IsPermutation, IsStableByKey}
use Rattle.std.specs.Ordering.{nat_cmp}
use Rattle.code_cfi.specs.Entries.{EntryAt, PieceAt, NoPiece}
use Rattle.code_cfi.specs.Cies.{CieAt}
use Rattle.code_cfi.specs.Fdes.{IsFde}
use Rattle.code_cfi.specs.declared.entry.FrameSection.{FrameSection}
use Rattle.code_cfi.specs.declared.entry.CfiEntry.{CfiEntry}
use Rattle.code_cfi.specs.declared.cie.Cie.{Cie}
use Rattle.code_cfi.specs.declared.fde.Fde.{Fde}

-- the bytes, the end of a section of `size` bytes, start with these pieces, and `rest` follows
abbrev pub Pieces : FrameSection → ℕ → List ℕ → List (Option CfiEntry) → List ℕ → Type 0
Pieces section size bytes [] rest = rest ≡ bytes
Pieces section size bytes (p ∷ ps) rest = (mid : List ℕ) × PieceAt section size bytes p mid × Pieces section size mid ps rest

-- pieces of the section lead from its start to these bytes
abbrev pub Reaches : FrameSection → List ℕ → List ℕ → Type 0
Reaches section bytes rest = (ps : List (Option CfiEntry)) × Pieces section (length bytes) bytes ps rest

-- an entry of the section: all pieces before it can be read
pub record IsEntryOf (section : FrameSection) (bytes : List ℕ) (e : CfiEntry) : Type 0 where
  pub at : List ℕ
  pub rest : List ℕ
  pub reached : Reaches section bytes at
  pub entry_at : EntryAt section (length bytes) at e rest

-- a CIE of the section
pub record IsCieOf (section : FrameSection) (bytes : List ℕ) (c : Cie) : Type 0 where
  pub entry : CfiEntry
  pub is_entry : IsEntryOf section bytes entry
  pub kind : entry.is_cie ≡ true
  pub cie_at : CieAt entry c

-- a piece is this CIE, or this FDE with a CIE of these
abbrev pub IsCieIn : Option CfiEntry → Cie → Type 0
IsCieIn None c = ⊥
IsCieIn (Some e) c = (e.is_cie ≡ true) × CieAt e c

abbrev pub IsFdeIn : ℕ → List Cie → Option CfiEntry → Fde → Type 0
IsFdeIn address cies None f = ⊥
IsFdeIn address cies (Some e) f = IsFde address cies e f

-- a piece is no FDE that can be used with a CIE of these
abbrev pub NoFdeIn : ℕ → List Cie → Option CfiEntry → Type 0
NoFdeIn address cies p = (f : Fde) → IsFdeIn address cies p f → ⊥

-- a piece is no CIE that can be used
abbrev pub NoCieIn : Option CfiEntry → Type 0
NoCieIn p = (c : Cie) → IsCieIn p c → ⊥

-- the CIEs of pieces, in their order: the pieces that are left out are no CIEs that can be used
abbrev pub CiesOf : List (Option CfiEntry) → List Cie → Type 0
CiesOf [] cies = cies ≡ []
CiesOf (p ∷ ps) cies = (NoCieIn p × CiesOf ps cies) ⊎ ((c : Cie) × (cs : List Cie) × (cies ≡ c ∷ cs) × IsCieIn p c × CiesOf ps cs)

-- the CIEs of a section, in its order: those of all its pieces, after which the section ends or there is no piece
pub record CiesOfSection (section : FrameSection) (bytes : List ℕ) (cies : List Cie) : Type 0 where
  pub pieces : List (Option CfiEntry)
  pub rest : List ℕ
  pub are : Pieces section (length bytes) bytes pieces rest
  pub ends : (rest ≡ []) ⊎ NoPiece section (length bytes) rest
  pub cies_are : CiesOf pieces cies

-- an FDE of the section that can be used, with a CIE of these
pub record IsFdeOf (section : FrameSection) (address : ℕ) (bytes : List ℕ) (cies : List Cie) (f : Fde) : Type 0 where
  pub entry : CfiEntry
  pub is_entry : IsEntryOf section bytes entry
  pub is_fde : IsFde address cies entry f

-- the FDEs of pieces, in their order: the pieces that are left out are no FDEs that can be used
abbrev pub FdesOf : ℕ → List Cie → List (Option CfiEntry) → List Fde → Type 0
FdesOf address cies [] fdes = fdes ≡ []
FdesOf address cies (p ∷ ps) fdes = (NoFdeIn address cies p × FdesOf address cies ps fdes)
    ⊎ ((f : Fde) × (fs : List Fde) × (fdes ≡ f ∷ fs) × IsFdeIn address cies p f × FdesOf address cies ps fs)

-- the FDEs of a section, in its order: those of all its pieces, after which the section ends or there is no piece
pub record FdesOfSection (section : FrameSection) (address : ℕ) (bytes : List ℕ) (cies : List Cie) (fdes : List Fde) : Type 0 where
  pub pieces : List (Option CfiEntry)
  pub rest : List ℕ
  pub are : Pieces section (length bytes) bytes pieces rest
  pub ends : (rest ≡ []) ⊎ NoPiece section (length bytes) rest
  pub fdes_are : FdesOf address cies pieces fdes

-- the same, sorted by their first addresses; those with one first address keep their order
abbrev pub SortedFdesOf : FrameSection → ℕ → List ℕ → List Cie → List Fde → Type 0
SortedFdesOf section address bytes cies fdes = (fs : List Fde) × FdesOfSection section address bytes cies fs × IsNonDecreasingBy (λ (f : Fde). f.start) fdes
    × IsStableByKey (λ (f : Fde). f.start) nat_cmp fs fdes × IsPermutation fs fdes

-- the FDE at the index is the first of those with the greatest first address up to the address
pub record IsNearest (fdes : List Fde) (address index : ℕ) (f : Fde) : Type 0 where
  pub within : index < length fdes
  pub fde_is : f ≡ slice_index_or fdes index f
  pub starts : f.start ≤ address
  pub greatest : All (λ g. g.start ≤ address → g.start ≤ f.start) fdes
  pub first : (k : ℕ) → k < length fdes → (slice_index_or fdes k f).start ≡ f.start → index ≤ k

-- the index of the FDE at an address: the nearest one, if it describes the address
abbrev pub IsFdeAt : List Fde → ℕ → Option ℕ → Type 0
IsFdeAt fdes address (Some index) = (f : Fde) × IsNearest fdes address index f × (address < f.start + f.size)
IsFdeAt fdes address None = (index : ℕ) (f : Fde) → IsNearest fdes address index f → f.start + f.size ≤ address
