-- The parsed form of a jitdump's file header (Linux's jitdump specification): a magic of four bytes, which determines the
-- byte order; version, size of the whole header, machine, padding and pid of four bytes each; timestamp and flags of eight
-- bytes each. Bytes of a longer header after these forty have no defined meaning.
use Rattle.std.specs.Prelude.{◌≡◌, ◌≢◌, ℕ, ◌+◌, ◌<◌, ◌≤◌, ◌⊎◌, List, [], ◌∷◌, length, take, drop, slice_index}
use Rattle.std.specs.IoError.{error_kind}
use Rattle.std.specs.declared.io.Error.{Error}
use Rattle.std.specs.declared.io.ErrorKind.TheVariants.{UnexpectedEof}
use Rattle.perfdata_sources.specs.Endian.{number_in}
use Rattle.perfdata_sources.specs.declared.endian.Endianness.{Endianness}
use Rattle.perfdata_sources.specs.declared.endian.Endianness.TheVariants.{LittleEndian, BigEndian}
use Rattle.perfdata_jit.specs.declared.header.JitDumpHeader.{JitDumpHeader}
use Rattle.perfdata_jit.specs.declared.error.JitDumpError.{JitDumpError}
use Rattle.perfdata_jit.specs.declared.error.JitDumpError.TheVariants.{NotEnoughBytesForHeader, InvalidHeaderSize, InvalidMagicBytes}

-- the magic of a file in this byte order: `DTiJ`, or `JiTD`
abbrev pub jit_magic_of : Endianness → List ℕ
jit_magic_of LittleEndian = 68 ∷ 84 ∷ 105 ∷ 74 ∷ []
jit_magic_of BigEndian = 74 ∷ 105 ∷ 84 ∷ 68 ∷ []

-- the magic of no byte order
abbrev pub IsUnknownMagic : List ℕ → Type 0
IsUnknownMagic bytes = (endian : Endianness) → bytes ≢ jit_magic_of endian

-- the byte order by the first byte of a magic, which is that of a valid magic; a first byte other than `D` (68) is that of a
-- big-endian file
pub record IsEndianOfMagic (bytes : List ℕ) (endian : Endianness) : Type 0 where
  pub of_magic : (order : Endianness) → bytes ≡ jit_magic_of order → endian ≡ order
  pub little_endian : slice_index bytes 0 ≡ 68 → endian ≡ LittleEndian
  pub big_endian : slice_index bytes 0 ≢ 68 → endian ≡ BigEndian

module _ (number : ℕ → List ℕ → ℕ) where
  -- the size of the whole header, from the bytes after the magic
  abbrev pub size_after_magic : List ℕ → ℕ
  size_after_magic xs = number 4 (drop 4 xs)

  -- the header, from its magic and the bytes after it
  abbrev pub header_after_magic : List ℕ → List ℕ → JitDumpHeader
  header_after_magic magic xs = record {
    magic = magic;
    version = number 4 xs;
    total_size = size_after_magic xs;
    elf_machine_arch = number 4 (drop 8 xs);
    pid = number 4 (drop 16 xs);
    timestamp = number 8 (drop 20 xs);
    flags = number 8 (drop 28 xs);
  }

  -- the header after the magic is complete; its size includes the four bytes of the magic
  pub record IsHeaderAfterMagic (magic xs : List ℕ) (header : JitDumpHeader) : Type 0 where
    pub min_len : 36 ≤ length xs
    pub complete : size_after_magic xs ≤ 4 + length xs
    pub matches : header ≡ header_after_magic magic xs

  -- the header is truncated: its fixed part, or the bytes up to its declared size
  pub record IsTruncatedAfterMagic (xs : List ℕ) (e : Error) : Type 0 where
    pub cause : (length xs < 36) ⊎ ((36 ≤ length xs) × (4 + length xs < size_after_magic xs))
    pub kind : error_kind e ≡ UnexpectedEof

-- the bytes start with this header, in this byte order, and are at least as many as its size
pub record IsJitHeader (endian : Endianness) (bytes : List ℕ) (header : JitDumpHeader) : Type 0 where
  pub magic : header.magic ≡ jit_magic_of endian
  pub min_len : 40 ≤ length bytes
  pub matches : header ≡ header_after_magic (number_in endian) (take 4 bytes) (drop 4 bytes)
  pub min_size : 40 ≤ header.total_size
  pub complete : header.total_size ≤ length bytes

-- the bytes start with this header, whose magic determines the byte order
pub record BeginsWithJitHeader (bytes : List ℕ) (header : JitDumpHeader) : Type 0 where
  pub endian : Endianness
  pub matches : IsJitHeader endian bytes header

-- the magic is valid, and the forty bytes are complete and declare this size of the whole header
pub record DeclaresSize (bytes : List ℕ) (size : ℕ) : Type 0 where
  pub endian : Endianness
  pub magic : take 4 bytes ≡ jit_magic_of endian
  pub min_len : 40 ≤ length bytes
  pub matches : size ≡ size_after_magic (number_in endian) (drop 4 bytes)

-- the magic is valid, and there are fewer than forty bytes
pub record HasTruncatedFixedPart (bytes : List ℕ) : Type 0 where
  pub endian : Endianness
  pub magic : take 4 bytes ≡ jit_magic_of endian
  pub too_few : length bytes < 40

-- the declared size of the header is greater than the number of bytes
pub record HasTruncatedHeader (bytes : List ℕ) : Type 0 where
  pub size : ℕ
  pub declares_size : DeclaresSize bytes size
  pub min_size : 40 ≤ size
  pub too_few : length bytes < size

-- The bytes start with no header, and this is the first cause: the magic is truncated or invalid, the forty bytes are
-- truncated, or the declared size is less than forty or greater than the number of bytes.
abbrev pub IsJitHeaderError : List ℕ → JitDumpError → Type 0
IsJitHeaderError bytes NotEnoughBytesForHeader = (length bytes < 4) ⊎ (HasTruncatedFixedPart bytes ⊎ HasTruncatedHeader bytes)
IsJitHeaderError bytes (InvalidMagicBytes magic) = (4 ≤ length bytes) × (magic ≡ take 4 bytes) × IsUnknownMagic magic
IsJitHeaderError bytes (InvalidHeaderSize size) = DeclaresSize bytes size × (size < 40)
IsJitHeaderError bytes _ = ⊥
