-- What a section determines: its CIEs, its FDEs, and the FDE at an address.
use Rattle.std.specs.Prelude.{◌≡◌, ℕ, ◌+◌, ◌*◌, ◌<◌, ◌≤◌, List, length, Option, Some, None, slice_index_or, All}
use Rattle.code_cfi.specs.Tables.{CiesOfSection, FdesOfSection, SortedFdesOf, IsNearest, IsFdeAt}
use Rattle.code_cfi.specs.declared.entry.FrameSection.{FrameSection}
use Rattle.code_cfi.specs.declared.cie.Cie.{Cie}
use Rattle.code_cfi.specs.declared.fde.Fde.{Fde}

-- the CIEs of a section, and its FDEs that can be used with these, in its order
pub record HasEntries (section : FrameSection) (address : ℕ) (bytes : List ℕ) (cies : List Cie) (fdes : List Fde) : Type 0 where
  pub cies_are : CiesOfSection section bytes cies
  pub fdes_are : FdesOfSection section address bytes cies fdes

-- the FDE at an address of code: of the section's FDEs that can be used, in its order, the first of those with the greatest first address up to
-- this address, if it describes the address
pub record FdeOfSectionAt (section : FrameSection) (address : ℕ) (bytes : List ℕ) (at : ℕ) (f : Fde) : Type 0 where
  pub cies : List Cie
  pub fdes : List Fde
  pub index : ℕ
  pub entries_are : HasEntries section address bytes cies fdes
  pub nearest : IsNearest fdes at index f
  pub describes : at < f.start + f.size

-- an index in the order of the first addresses is that of this FDE, and there is none where the section has no such FDE
abbrev pub IsFoundIn : FrameSection → ℕ → List ℕ → ℕ → List Fde → Option ℕ → Type 0
IsFoundIn section address bytes at fdes (Some index) =
    (f : Fde) × (index < length fdes) × (f ≡ slice_index_or fdes index f) × FdeOfSectionAt section address bytes at f
IsFoundIn section address bytes at fdes None = (f : Fde) → FdeOfSectionAt section address bytes at f → ⊥

-- a table of all entries of a section finds the FDE of the section at an address, both ways
abbrev pub FindsFdeOfSection : Type 0
FindsFdeOfSection = (section : FrameSection) (address : ℕ) (bytes : List ℕ) (cies : List Cie) (fdes : List Fde) (at : ℕ) (found : Option ℕ)
    → CiesOfSection section bytes cies → SortedFdesOf section address bytes cies fdes
    → IsFdeAt fdes at found → IsFoundIn section address bytes at fdes found

-- a section has one list of CIEs and one of FDEs, and one FDE at an address
abbrev pub HasOneListOfCies : Type 0
HasOneListOfCies =
    (section : FrameSection) (bytes : List ℕ) (cies others : List Cie) → CiesOfSection section bytes cies → CiesOfSection section bytes others → cies ≡ others

abbrev pub HasOneListOfFdes : Type 0
HasOneListOfFdes = (section : FrameSection) (address : ℕ) (bytes : List ℕ) (cies others : List Cie) (fs gs : List Fde)
    → HasEntries section address bytes cies fs → HasEntries section address bytes others gs → fs ≡ gs

abbrev pub HasOneFdeAt : Type 0
HasOneFdeAt = (section : FrameSection) (address : ℕ) (bytes : List ℕ) (at : ℕ) (f g : Fde) → FdeOfSectionAt section address bytes at f
    → FdeOfSectionAt section address bytes at g → f ≡ g

-- each CIE and each FDE has at least 8 bytes of the section
abbrev pub AreFew : List ℕ → List Cie → List Fde → Type 0
AreFew bytes cies fdes = (8 * length cies ≤ length bytes) × (8 * length fdes ≤ length bytes)

-- the address is one of those that the FDE describes
abbrev pub Covers : Fde → ℕ → Type 0
Covers f at = (f.start ≤ at) × (at < f.start + f.size)

-- no FDE starts at an address that another one describes
abbrev pub AreApart : List Fde → Type 0
AreApart fdes = (i j : ℕ) (d : Fde) → i < length fdes → j < length fdes → Covers (slice_index_or fdes i d) (slice_index_or fdes j d).start → i ≡ j

-- where the FDEs are apart, the FDE at an address is each one that describes it
abbrev pub FindsEachThatCovers : Type 0
FindsEachThatCovers =
    (section : FrameSection) (address : ℕ) (bytes : List ℕ) (cies : List Cie) (fdes : List Fde) → HasEntries section address bytes cies fdes → AreApart fdes
    → (at : ℕ) → All (λ f. Covers f at → FdeOfSectionAt section address bytes at f) fdes
