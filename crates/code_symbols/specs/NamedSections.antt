-- The sections of ELF files that have contents in the file, by their names.
use Rattle.std.specs.Prelude.{◌≡◌, ◌≢◌, ℕ, List, [], ◌∷◌, ◌++◌, Option, None, Some, All, min}
use Rattle.code_symbols.specs.Contents.{contents_of}
use Rattle.code_symbols.specs.Strings.{string_in}
use Rattle.code_symbols.specs.declared.elf.header.Section.{Section}

-- the section has contents in the file (it isn't `SHT_NOBITS`), and this name
pub record IsNamed (names name : List ℕ) (s : Section) : Type 0 where
  pub has_contents : s.section_type ≢ 8
  pub name_is : string_in names s.name ≡ name

-- this is the first such section
pub record IsFirstOfName (names : List ℕ) (sections : List Section) (name : List ℕ) (s : Section) : Type 0 where
  pub before : List Section
  pub after : List Section
  pub list : sections ≡ before ++ s ∷ after
  pub named : IsNamed names name s
  pub first : All (λ t. ¬ IsNamed names name t) before

-- the first such section, or `None` exactly if there is none
abbrev pub IsSectionOfName : List ℕ → List Section → List ℕ → Option Section → Type 0
IsSectionOfName names sections name None = All (λ s. ¬ IsNamed names name s) sections
IsSectionOfName names sections name (Some s) = IsFirstOfName names sections name s

-- the first bytes, 65,536 at most, of the contents of a section, if there is one
abbrev pub start_of_some : List ℕ → Option Section → List ℕ
start_of_some all None = []
start_of_some all (Some s) = contents_of all (record s { size = min s.size 65536 })
