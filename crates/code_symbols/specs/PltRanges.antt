-- The addresses of procedure linkage tables.
use Rattle.std.specs.Prelude.{◌≡◌, ℕ, ◌++◌, Bool, false, true, List, [], ◌∷◌, Option, None, Some, codes}
use Rattle.code_symbols.specs.PltSymbols.{IsCodeOfName}
use Rattle.code_symbols.specs.declared.elf.header.Section.{Section}
use Rattle.code_symbols.specs.declared.elf.plt_ranges.PltRange.{PltRange}

-- the addresses of a section
abbrev pub range_of : Bool → Section → PltRange
range_of is_plt s = record { address = s.address; size = s.size; is_plt = is_plt }

-- the addresses of a section, if there is one
abbrev pub range_of_some : Bool → Option Section → List PltRange
range_of_some is_plt None = []
range_of_some is_plt (Some s) = range_of is_plt s ∷ []

module _ (names : List ℕ) (sections : List Section) where
  -- the addresses of the code of a name are appended, if there is such code
  pub record AddsRange (name : List ℕ) (is_plt : Bool) (old new : List PltRange) : Type 0 where
    pub code : Option Section
    pub is_code : IsCodeOfName names sections name code
    pub appended : new ≡ old ++ range_of_some is_plt code

  -- the addresses of the code in `.plt`, `.plt.sec`, `.plt.got` and `.iplt`, in this order
  pub record ArePltRanges (ranges : List PltRange) : Type 0 where
    pub after_plt : List PltRange
    pub after_second : List PltRange
    pub after_got : List PltRange
    pub plt : AddsRange (codes ".plt") true [] after_plt
    pub second : AddsRange (codes ".plt.sec") false after_plt after_second
    pub got : AddsRange (codes ".plt.got") false after_second after_got
    pub indirect : AddsRange (codes ".iplt") false after_got ranges
