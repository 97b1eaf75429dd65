-- Where the names of threads are in the text.
use Rattle.std.specs.Prelude.{◌≡◌, ℕ, ℤ, ◌+◌, ◌≤◌, List, length, take, drop, Option, None, Some}
use Rattle.perfdata_spaces.specs.AddressSpaces.{name_effects}
use Rattle.perfdata_spaces.specs.Effects.{Applied}
use Rattle.perfdata_spaces.specs.NameHistories.{IsName}
use Rattle.perfdata_stack_arrays.specs.Mappings.{text_in}
use Rattle.perfdata_stack_arrays.specs.declared.names.TextRange.{TextRange}

-- A part of a text is a name, or there is none.
abbrev pub IsRangeOf : List ℕ → Option TextRange → Option (List ℕ) → Type 0
IsRangeOf text None name = name ≡ None
IsRangeOf text (Some range) name = (name ≡ Some (take range.size (drop range.offset text))) × (range.offset + range.size ≤ length text)

-- A part of a text is the name of a thread after records, or the thread has none.
pub record IsNameAt (before : List Applied) (tid : ℤ) (range : Option TextRange) : Type 0 where
  pub name : Option (List ℕ)
  pub is_name : IsName tid (name_effects before) name
  pub is_at : IsRangeOf (text_in before) range name
