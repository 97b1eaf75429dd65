-- A section of chunks: each is a length of 4 bytes in the byte order of the file, and that many bytes.
use Rattle.std.specs.Prelude.{◌≡◌, ℕ, ◌+◌, ◌<◌, ◌≤◌, ◌⊎◌, List, [], ◌∷◌, ◌++◌, length, drop}
use Rattle.perfdata_sources.specs.Endian.{number_in}
use Rattle.perfdata_sources.specs.declared.endian.Endianness.{Endianness}
use Rattle.perfdata_sections.specs.Error.{IsUnexpectedEof}
use Rattle.perfdata_sections.specs.declared.error.Error.{Error}
use Rattle.perfdata_sections.specs.declared.error.Error.TheVariants.{FeatureSectionTooSmall}

-- the error of a chunk: its length is truncated, it exceeds the section, or its bytes are invalid
pub data ChunkError (F : Type 0) : Type 0 where
  truncated_length : ChunkError F
  exceeds_section : ChunkError F
  invalid_record : F → ChunkError F

-- an error reports that of a chunk; `Tells f e` says that `e` reports the error `f` in the bytes of a chunk
abbrev pub ReportsChunkError : {F : Type 0} → (F → Error → Type 0) → ChunkError F → Error → Type 0
ReportsChunkError Reports truncated_length e = IsUnexpectedEof e
ReportsChunkError Reports exceeds_section e = e ≡ FeatureSectionTooSmall
ReportsChunkError Reports (invalid_record f) e = Reports f e

-- the bytes are too few for a length
abbrev pub IsTruncatedLength : List ℕ → Type 0
IsTruncatedLength bs = length bs < 4

module _ (endian : Endianness) where
  -- the bytes begin with a length and a chunk of that length, followed by `rest`
  pub record ChunkAt (bs chunk rest : List ℕ) : Type 0 where
    pub enough : 4 ≤ length bs
    pub exact_len : length chunk ≡ number_in endian 4 bs
    pub split : drop 4 bs ≡ chunk ++ rest

  -- the length is complete, but the bytes after it are fewer
  abbrev pub IsTruncatedChunk : List ℕ → Type 0
  IsTruncatedChunk bs = (4 ≤ length bs) × (length bs < 4 + number_in endian 4 bs)

  -- the bytes begin with no complete chunk, and the error reports the cause
  abbrev pub IsChunkReadError : List ℕ → Error → Type 0
  IsChunkReadError bs e = (IsUnexpectedEof e × IsTruncatedLength bs) ⊎ ((e ≡ FeatureSectionTooSmall) × IsTruncatedChunk bs)

  -- `Is chunk d` says that the bytes of a chunk encode `d`
  module _ {D : Type 0} (Is : List ℕ → D → Type 0) where
    -- the bytes begin with consecutive chunks that encode these values, followed by `rest`
    abbrev pub ChunksAt : List ℕ → List D → List ℕ → Type 0
    ChunksAt bs [] rest = bs ≡ rest
    ChunksAt bs (d ∷ ds) rest = (chunk : List ℕ) × (mid : List ℕ) × ChunkAt bs chunk mid × Is chunk d × ChunksAt mid ds rest

    -- the bytes are chunks that encode these values
    abbrev pub AreChunks : List ℕ → List D → Type 0
    AreChunks bs ds = ChunksAt bs ds []

    -- valid chunks, followed by a complete chunk that `Needs` memory, or that encodes a value
    pub record ChunkNeedsMemory (Needs : List ℕ → Type 0) (bs : List ℕ) : Type 0 where
      pub earlier : List D
      pub mid : List ℕ
      pub elements : ChunksAt bs earlier mid
      pub chunk : List ℕ
      pub rest : List ℕ
      pub reads : ChunkAt mid chunk rest
      pub needs : Needs chunk ⊎ ((d : D) × Is chunk d)

    -- `IsNot chunk f` says that the bytes of a chunk have the error `f`
    module _ {F : Type 0} (IsNot : List ℕ → F → Type 0) where
      -- the bytes begin with a complete chunk that has the error `f`
      pub record InvalidChunk (bs : List ℕ) (f : F) : Type 0 where
        pub chunk : List ℕ
        pub rest : List ℕ
        pub reads : ChunkAt bs chunk rest
        pub error : IsNot chunk f

      abbrev pub ChunkErrorAt : List ℕ → ChunkError F → Type 0
      ChunkErrorAt bs truncated_length = (0 < length bs) × IsTruncatedLength bs
      ChunkErrorAt bs exceeds_section = IsTruncatedChunk bs
      ChunkErrorAt bs (invalid_record f) = InvalidChunk bs f

      -- valid chunks, followed by the first error from left to right
      pub record FirstChunkError (bs : List ℕ) (error : ChunkError F) : Type 0 where
        pub earlier : List D
        pub mid : List ℕ
        pub elements : ChunksAt bs earlier mid
        pub error_here : ChunkErrorAt mid error
