-- The PMU mappings: a count of four bytes, and for each unit a number of four bytes and a string, the unit's name.
use Rattle.std.specs.BTreeMap.{BTreeMap, get as get_kept}
use Rattle.std.specs.Prelude.{◌≡◌, ℕ, ◌+◌, ◌<◌, ◌≤◌, ◌++◌, ◌⊎◌, List, [], ◌∷◌, length, drop, filter_map, nat_eq, Option, None, Result, Ok, Err, String, string_bytes}
use Rattle.std.specs.IoError.{error_kind}
use Rattle.std.specs.List.Sorted.{IsStrictlyIncreasing}
use Rattle.std.specs.Map.{update_all}
use Rattle.std.specs.Option.{option_map}
use Rattle.std.specs.Ordering.{nat_cmp}
use Rattle.std.specs.declared.alloc.Global.{Global}
use Rattle.std.specs.declared.io.Error.{Error}
use Rattle.std.specs.declared.io.ErrorKind.TheVariants.{OutOfMemory}
use Rattle.indexmap.specs.IndexMap.{IndexMap, get, keys}
use Rattle.perfdata_sources.specs.Source.{State, Consumed}
use Rattle.perfdata_sources.specs.declared.source.append.AppendError.{AppendError}
use Rattle.perfdata_sources.specs.declared.source.append.AppendError.TheVariants.{Memory, Source}
use Rattle.perfdata_sections.specs.ParsedPart.{PartRead, PartPartlyRead, PartReadError}
use Rattle.perfdata_sections.specs.HeaderString.{IsHeaderStringOf, IsTruncatedString, IsTruncatedText}
use Rattle.perfdata_sections.specs.declared.feature_sections.pmu_mappings.PmuMappings.{PmuMappings}

-- A unit's number, and its name if it is UTF-8.
abbrev pub PmuUnit : Type 0
PmuUnit = ℕ × Option (List ℕ)

-- The units with a name, as pairs of number and name.
abbrev pub named_units : List PmuUnit → List (ℕ × List ℕ)
named_units us = filter_map (λ u. option_map (λ name. (u.0, name)) u.1) us

-- The last name of a number.
abbrev pub last_name : List PmuUnit → ℕ → Option (List ℕ)
last_name us = update_all nat_eq (λ _. None) (named_units us)

-- The name of a number in an index map.
abbrev pub unit_name : {S : Type 0} → IndexMap ℕ (String Global) S → ℕ → Option (List ℕ)
unit_name m k = option_map string_bytes (get nat_eq m k)

-- The name of a number in the map that is built while the units are read.
abbrev pub collected_name : BTreeMap ℕ (String Global) → ℕ → Option (List ℕ)
collected_name m k = option_map string_bytes (get_kept nat_cmp m k)

-- `m` has the last name of each unit number, each number once, in ascending order.
pub record MapsUnits {S : Type 0} (m : IndexMap ℕ (String Global) S) (us : List PmuUnit) : Type 0 where
  pub is_ascending : IsStrictlyIncreasing (keys m)
  pub names : (k : ℕ) → unit_name m k ≡ last_name us k

module _ (number : ℕ → List ℕ → ℕ) where
  -- `xs` is exactly one unit.
  abbrev pub IsPmuUnit : List ℕ → PmuUnit → Type 0
  IsPmuUnit xs u = (4 ≤ length xs) × (u.0 ≡ number 4 xs) × IsHeaderStringOf number (drop 4 xs) u.1

  -- `xs` is a truncated unit.
  abbrev pub IsTruncatedUnit : List ℕ → Type 0
  IsTruncatedUnit xs = 4 ≤ length xs → IsTruncatedString number (drop 4 xs)

  -- `xs` is a unit that is truncated after the length of its name.
  abbrev pub IsTruncatedName : List ℕ → Type 0
  IsTruncatedName xs = (4 ≤ length xs) × IsTruncatedText number (drop 4 xs)

  -- `xs` consists of these units, one after another.
  abbrev pub ArePmuUnits : List ℕ → List PmuUnit → Type 0
  ArePmuUnits xs [] = xs ≡ []
  ArePmuUnits xs (u ∷ us) = (first : List ℕ) × (rest : List ℕ) × (xs ≡ first ++ rest) × IsPmuUnit first u × ArePmuUnits rest us

  -- `xs` consists of fewer than `count` units and a truncated unit.
  pub record TruncatedUnits (count : ℕ) (xs : List ℕ) : Type 0 where
    pub units : List PmuUnit
    pub unit_bytes : List ℕ
    pub rest : List ℕ
    pub too_few : length units < count
    pub matches : xs ≡ unit_bytes ++ rest
    pub elements : ArePmuUnits unit_bytes units
    pub is_truncated : IsTruncatedUnit rest

  -- `xs` consists of units, at most `count`, and maybe a unit that is truncated in its name. There is at least one of them.
  pub record UnitsOutOfMemory (count : ℕ) (xs : List ℕ) : Type 0 where
    pub units : List PmuUnit
    pub unit_bytes : List ℕ
    pub rest : List ℕ
    pub matches : xs ≡ unit_bytes ++ rest
    pub elements : ArePmuUnits unit_bytes units
    pub cause : ((length units < count) × IsTruncatedName rest) ⊎ ((0 < length units) × (length units ≤ count) × (rest ≡ []))

  -- `xs` is a PMU section of these units.
  pub record IsPmuSection (xs : List ℕ) (us : List PmuUnit) : Type 0 where
    pub has_count : 4 ≤ length xs
    pub count : number 4 xs ≡ length us
    pub elements : ArePmuUnits (drop 4 xs) us

  -- `xs` is a PMU section, and `m` is its map.
  abbrev pub IsPmuSectionOf : List ℕ → PmuMappings → Type 0
  IsPmuSectionOf xs m = (us : List PmuUnit) × IsPmuSection xs us × MapsUnits m.0 us

  -- `xs` is a truncated section: it ends in the count, or before the end of the counted units.
  abbrev pub IsTruncatedPmuSection : List ℕ → Type 0
  IsTruncatedPmuSection xs = 4 ≤ length xs → TruncatedUnits (number 4 xs) (drop 4 xs)

  -- `xs` is a prefix of a section, or a whole section, and asks for memory: it contains the count, and a unit or the length of
  -- a name.
  abbrev pub IsPrefixOfPmuSection : List ℕ → Type 0
  IsPrefixOfPmuSection xs = (4 ≤ length xs) × UnitsOutOfMemory (number 4 xs) (drop 4 xs)

  -- What reading a unit does. `Memory` reports an allocation failure, which follows the length of the name.
  abbrev pub ReadsPmuUnit : State → Result (ℕ × Option (String Global)) AppendError → State → Type 0
  ReadsPmuUnit old (Ok u) new = PartRead IsPmuUnit old (u.0, option_map string_bytes u.1) new
  ReadsPmuUnit old (Err Memory) new = PartPartlyRead IsTruncatedName old new
  ReadsPmuUnit old (Err (Source e)) new = PartReadError IsTruncatedUnit old e new

  -- `count` units are read, and the map has the last name of each number.
  pub record PmuUnitsRead (count : ℕ) (old : State) (m : BTreeMap ℕ (String Global)) (new : State) : Type 0 where
    pub units : List PmuUnit
    pub bytes : List ℕ
    pub exact_len : length units ≡ count
    pub consumes : Consumed old bytes new
    pub elements : ArePmuUnits bytes units
    pub names : (k : ℕ) → collected_name m k ≡ last_name units k

  -- What reading `count` units does.
  abbrev pub ReadsPmuUnits : ℕ → State → Result (BTreeMap ℕ (String Global)) AppendError → State → Type 0
  ReadsPmuUnits count old (Ok m) new = PmuUnitsRead count old m new
  ReadsPmuUnits count old (Err Memory) new = PartPartlyRead (UnitsOutOfMemory count) old new
  ReadsPmuUnits count old (Err (Source e)) new = PartReadError (TruncatedUnits count) old e new

  -- What reading the section does. `Memory` reports an allocation failure.
  abbrev pub ReadsPmus : State → Result PmuMappings AppendError → State → Type 0
  ReadsPmus old (Ok m) new = PartRead IsPmuSectionOf old m new
  ReadsPmus old (Err Memory) new = PartPartlyRead IsPrefixOfPmuSection old new
  ReadsPmus old (Err (Source e)) new = PartReadError IsTruncatedPmuSection old e new

  -- Like `ReadsPmus`, but an allocation failure is an I/O error of kind `OutOfMemory`.
  abbrev pub ParsesPmus : State → Result PmuMappings Error → State → Type 0
  ParsesPmus old (Ok m) new = PartRead IsPmuSectionOf old m new
  ParsesPmus old (Err e) new = ((error_kind e ≡ OutOfMemory) × PartPartlyRead IsPrefixOfPmuSection old new) ⊎ PartReadError IsTruncatedPmuSection old e new
