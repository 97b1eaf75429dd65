-- The names of files with debug information, in the bytes of the sections `.gnu_debuglink` and `.gnu_debugaltlink`.
use Rattle.std.specs.Prelude.{◌≡◌, ℕ, ◌+◌, ◌<◌, ◌≤◌, ◌==◌, List, Option, drop, length, take, MatchOption}
use Rattle.std.specs.List.{position_or_len}
use Rattle.code_symbols.specs.ElfImages.{number_at}
use Rattle.code_symbols.specs.Notes.{round_up}
use Rattle.code_symbols.specs.declared.elf.AlternateLink.{AlternateLink}
use Rattle.code_symbols.specs.declared.elf.DebugLink.{DebugLink}
use Rattle.code_symbols.specs.declared.elf.input.Encoding.{Encoding}

-- the length of the name at the start of the bytes
abbrev pub name_length : List ℕ → ℕ
name_length bytes = position_or_len (λ b. b == 0) bytes

-- the name, without its NUL
abbrev pub linked_name : List ℕ → List ℕ
linked_name bytes = take (name_length bytes) bytes

-- where the CRC is: at the first multiple of 4 after the NUL of the name
abbrev pub crc_offset : List ℕ → ℕ
crc_offset bytes = round_up (name_length bytes + 1) 4

-- the bytes have a name, its NUL and a CRC
pub record HasDebugLink (bytes : List ℕ) : Type 0 where
  pub some_name : 0 < name_length bytes
  pub complete : crc_offset bytes + 4 ≤ length bytes

-- the debug link in the bytes
pub record IsDebugLink (e : Encoding) (bytes : List ℕ) (link : DebugLink) : Type 0 where
  pub has : HasDebugLink bytes
  pub name : link.file_name.items ≡ linked_name bytes
  pub crc : link.crc ≡ number_at e bytes (crc_offset bytes) 4

-- the debug link in the bytes, or none if they don't have one
abbrev pub IsDebugLinkOf : Encoding → List ℕ → Option DebugLink → Type 0
IsDebugLinkOf e bytes link = MatchOption link (¬ HasDebugLink bytes) (IsDebugLink e bytes)

-- the bytes have a path, its NUL and a build id
pub record HasAlternateLink (bytes : List ℕ) : Type 0 where
  pub some_path : 0 < name_length bytes
  pub some_id : name_length bytes + 1 < length bytes

-- the link to the alternate file in the bytes
pub record IsAlternateLink (bytes : List ℕ) (link : AlternateLink) : Type 0 where
  pub has : HasAlternateLink bytes
  pub path_is : link.path.items ≡ linked_name bytes
  pub build_id_is : link.build_id.items ≡ drop (name_length bytes + 1) bytes

-- the link to the alternate file in the bytes, or none if they don't have one
abbrev pub IsAlternateLinkOf : List ℕ → Option AlternateLink → Type 0
IsAlternateLinkOf bytes link = MatchOption link (¬ HasAlternateLink bytes) (IsAlternateLink bytes)
