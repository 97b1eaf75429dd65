-- The entry of a section: its offset and its size.
use Rattle.std.specs.Prelude.{◌≡◌, ℕ, ◌+◌, ◌^◌, ◌<◌, ◌≤◌, List, length, drop, Result, Ok, Err}
use Rattle.std.specs.declared.io.Error.{Error}
use Rattle.perfdata_sources.specs.Source.{State, Consumed, ReadExactError}
use Rattle.perfdata_base.specs.declared.section.PerfFileSection.{PerfFileSection}

-- the end offset of the section fits in 64 bits
abbrev pub EndFitsU64 : PerfFileSection → Type 0
EndFitsU64 s = s.offset + s.size < 2 ^ 64

-- the end offset of the section is 2^64 or above
abbrev pub EndOverflowsU64 : PerfFileSection → Type 0
EndOverflowsU64 s = 2 ^ 64 ≤ s.offset + s.size

module _ (number : ℕ → List ℕ → ℕ) where
  -- the entry in sixteen bytes
  abbrev pub section_entry_of : List ℕ → PerfFileSection
  section_entry_of xs = record { offset = number 8 xs; size = number 8 (drop 8 xs) }

  -- these bytes start with this entry
  abbrev pub IsSectionEntry : List ℕ → PerfFileSection → Type 0
  IsSectionEntry xs s = s ≡ section_entry_of xs

  -- sixteen bytes were consumed, and they contain this entry
  pub record SectionEntryParsed (old : State) (s : PerfFileSection) (new : State) : Type 0 where
    pub bytes : List ℕ
    pub exact_len : length bytes ≡ 16
    pub consumes : Consumed old bytes new
    pub matches : IsSectionEntry bytes s

  -- the effect of parsing an entry on the source
  abbrev pub ParsesSectionEntry : State → Result PerfFileSection Error → State → Type 0
  ParsesSectionEntry old (Ok s) new = SectionEntryParsed old s new
  ParsesSectionEntry old (Err e) new = ReadExactError old 16 e new
