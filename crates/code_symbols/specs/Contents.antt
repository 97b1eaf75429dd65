-- The bytes of sections in a file.
use Rattle.std.specs.Prelude.{◌≡◌, ℕ, ◌+◌, ◌==◌, List, [], Option, None, Some, if◌then◌else◌, length, slice_range}
use Rattle.code_symbols.specs.declared.elf.header.Section.{Section}

-- these are the `size` bytes from an offset on
pub record IsRange (all : List ℕ) (offset size : ℕ) (bytes : List ℕ) : Type 0 where
  pub complete : length bytes ≡ size
  pub is : bytes ≡ slice_range all offset (offset + size)

-- the contents of a section in the file: none for `SHT_NOBITS`, otherwise the `sh_size` bytes from `sh_offset` on
abbrev pub contents_of : List ℕ → Section → List ℕ
contents_of all s = if s.section_type == 8 then [] else slice_range all s.offset (s.offset + s.size)

-- the contents of a section, if there is one
abbrev pub contents_of_some : List ℕ → Option Section → List ℕ
contents_of_some all None = []
contents_of_some all (Some s) = contents_of all s
