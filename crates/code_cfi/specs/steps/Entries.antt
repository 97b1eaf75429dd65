-- Steps of private functions: the entries of a section (DWARF 5, section 6.4.1; Linux Standard Base, section 10.6).
use Rattle.std.specs.Prelude.{ℕ, ◌-◌, List, length, Bool}
use Rattle.code_cfi.specs.declared.entry.FrameSection.{FrameSection}
use Rattle.code_cfi.specs.declared.entry.CfiEntry.{CfiEntry}
use Rattle.code_cfi.specs.Entries.{LengthAt, EntryAt}

-- the bytes start with no initial length
abbrev pub NoLength : List ℕ → Type 0
NoLength bytes = (is_64 : Bool) (n : ℕ) (rest : List ℕ) → LengthAt bytes is_64 n rest → ⊥

abbrev pub NoEntry : FrameSection → ℕ → List ℕ → Type 0
NoEntry section size bytes = (e : CfiEntry) (rest : List ℕ) → EntryAt section size bytes e rest → ⊥
