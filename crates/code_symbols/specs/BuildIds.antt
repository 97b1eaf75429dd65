-- The build ids of ELF files.
use Rattle.std.specs.Prelude.{◌≡◌, ℕ, ◌+◌, List, ◌∷◌, ◌++◌, Option, None, Some, All, min, slice_range}
use Rattle.code_symbols.specs.ElfFiles.{header_of, notes_of}
use Rattle.code_symbols.specs.Notes.{IsFirstBuildId, note_alignment}
use Rattle.code_symbols.specs.declared.elf.ElfFile.{ElfFile}
use Rattle.code_symbols.specs.declared.elf.input.Encoding.{Encoding}
use Rattle.code_symbols.specs.declared.elf.notes.NoteRange.{NoteRange}

module _ (e : Encoding) (all : List ℕ) where
  -- the build id in the first bytes, 65,536 at most, of a range of notes, or none
  abbrev pub IsIdInRange : NoteRange → Option (List ℕ) → Type 0
  IsIdInRange r id = IsFirstBuildId e (note_alignment r.has_align_8) (slice_range all r.offset (r.offset + min r.size 65536)) id

  -- this is the build id in the first range that has one
  pub record IsFirstId (ranges : List NoteRange) (id : List ℕ) : Type 0 where
    pub before : List NoteRange
    pub range : NoteRange
    pub after : List NoteRange
    pub list : ranges ≡ before ++ range ∷ after
    pub none : All (λ r. IsIdInRange r None) before
    pub found : IsIdInRange range (Some id)

  -- the build id in the first range that has one, or `None` if none has one
  abbrev pub IsIdInRanges : List NoteRange → Option (List ℕ) → Type 0
  IsIdInRanges ranges None = All (λ r. IsIdInRange r None) ranges
  IsIdInRanges ranges (Some id) = IsFirstId ranges id

-- the build id of a file with these bytes, or none
abbrev pub IsBuildIdOfFile : {R : Type 0} → List ℕ → ElfFile R → Option (List ℕ) → Type 0
IsBuildIdOfFile all f id = IsIdInRanges (header_of f).encoding all (notes_of f) id
