-- Notes of ELF files (System V ABI, "Note Section"): the size of the owner, that of the description, the type, and both texts.
use Rattle.std.specs.Prelude.{◌≡◌, ℕ, zero, suc, ◌+◌, ◌-◌, ◌*◌, ◌/◌, ◌<◌, ◌≤◌, Bool, List, [], ◌∷◌, Option, drop, MatchOption, if◌then◌else◌, length, slice_range, true}
use Rattle.perfdata_sources.specs.declared.endian.Endianness.{Endianness}
use Rattle.code_symbols.specs.ElfImages.{number_at}
use Rattle.code_symbols.specs.declared.elf.input.Encoding.{Encoding}

-- the least multiple of the alignment that is at least `n`
abbrev pub round_up : ℕ → ℕ → ℕ
round_up n alignment = (n + (alignment - 1)) / alignment * alignment

-- the alignment of notes in bytes
abbrev pub note_alignment : Bool → ℕ
note_alignment has_align_8 = if has_align_8 then 8 else 4

-- where the owner of the note at the start of these bytes ends
abbrev pub owner_end : Encoding → List ℕ → ℕ
owner_end e bytes = 12 + number_at e bytes 0 4

module _ (e : Encoding) (alignment : ℕ) (bytes : List ℕ) where
  -- where its description starts
  abbrev pub description_start : ℕ
  description_start = round_up (owner_end e bytes) alignment

  -- where its description ends
  abbrev pub description_end : ℕ
  description_end = description_start + number_at e bytes 4 4

  -- where the next note starts
  abbrev pub next_note : ℕ
  next_note = round_up description_end alignment

  -- the note is completely in these bytes
  abbrev pub IsComplete : Type 0
  IsComplete = description_end ≤ length bytes

  -- the note has the type `NT_GNU_BUILD_ID`, and the owner is `GNU`
  pub record IsBuildIdNote : Type 0 where
    pub note_type : number_at e bytes 8 4 ≡ 3
    pub owner : slice_range bytes 12 (owner_end e bytes) ≡ 71 ∷ 78 ∷ 85 ∷ 0 ∷ []

  -- the note is a complete one without the build id
  pub record IsOtherNote : Type 0 where
    pub some : 0 < length bytes
    pub complete : IsComplete
    pub other : ¬ IsBuildIdNote

  -- the note is a complete one with this build id
  pub record HasBuildId (id : List ℕ) : Type 0 where
    pub some : 0 < length bytes
    pub complete : IsComplete
    pub is_build_id : IsBuildIdNote
    pub id_is : id ≡ slice_range bytes description_start description_end

-- the bytes after the first `n` notes
abbrev pub after_notes : Encoding → ℕ → List ℕ → ℕ → List ℕ
after_notes e alignment bytes zero = bytes
after_notes e alignment bytes (suc n) =
    let rest = after_notes e alignment bytes n in
    drop (next_note e alignment rest) rest

-- no note follows in these bytes: there are none, or the note is truncated
abbrev pub EndNotes : Encoding → ℕ → List ℕ → Type 0
EndNotes e alignment bytes = 0 < length bytes → ¬ IsComplete e alignment bytes

-- the description of the first note with a build id, if the notes before it are complete, or none
pub record IsFirstBuildId (e : Encoding) (alignment : ℕ) (bytes : List ℕ) (id : Option (List ℕ)) : Type 0 where
  pub count : ℕ
  pub before : (k : ℕ) → k < count → IsOtherNote e alignment (after_notes e alignment bytes k)
  pub found : MatchOption id (EndNotes e alignment (after_notes e alignment bytes count)) (HasBuildId e alignment (after_notes e alignment bytes count))

-- the same for notes of a 64-bit kernel, aligned to 4 bytes
abbrev pub IsKernelBuildId : Endianness → List ℕ → Option (List ℕ) → Type 0
IsKernelBuildId endian bytes id = IsFirstBuildId (record { endian = endian; is_64_bit = true }) 4 bytes id
