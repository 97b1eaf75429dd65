-- The values in feature sections.
use Rattle.std.specs.Prelude.{◌≡◌, ◌≢◌, ℕ, ◌+◌, ◌<◌, ◌≤◌, ◌++◌, ◌⊎◌, List, [], ◌∷◌, length, take, drop, map, Option, None, Some, Result, Ok, Err, Vec, ⊤}
use Rattle.std.specs.Borrow.{Bor}
use Rattle.std.specs.Str.{IsUtf8}
use Rattle.std.specs.declared.alloc.Global.{Global}
use Rattle.perfdata_sources.specs.Endian.{number_in}
use Rattle.perfdata_sources.specs.declared.endian.Endianness.{Endianness}
use Rattle.perfdata_sections.specs.Error.{IsInvalidData, IsUnexpectedEof}
use Rattle.perfdata_sections.specs.HeaderString.{before_nul}
use Rattle.perfdata_sections.specs.NumberSections.{nr_cpus_of, sample_times_of, compression_of, clock_of, IsTruncatedClock}
use Rattle.perfdata_sections.specs.PmuMappings.{IsPmuSectionOf, IsPrefixOfPmuSection, IsTruncatedPmuSection}
use Rattle.perfdata_sections.specs.declared.error.Error.{Error}
use Rattle.perfdata_sections.specs.declared.error.Error.TheVariants.{NotEnoughSpaceForStringLen, NotEnoughSpaceForStringListLen, StringLengthTooLong, StringUtf8, FeatureSectionTooSmall, Memory}
use Rattle.perfdata_sections.specs.declared.feature_sections.number_sections.NrCpus.{NrCpus}
use Rattle.perfdata_sections.specs.declared.feature_sections.number_sections.SampleTimeRange.{SampleTimeRange}
use Rattle.perfdata_sections.specs.declared.feature_sections.number_sections.CompressionInfo.{CompressionInfo}
use Rattle.perfdata_sections.specs.declared.feature_sections.number_sections.ClockData.{ClockData}
use Rattle.perfdata_sections.specs.declared.feature_sections.pmu_mappings.PmuMappings.{PmuMappings}

-- The result of an accessor: `None` if the section is absent, else the value parsed from its bytes.
abbrev pub AnswersOf : {A : Type 0} → (List ℕ → Result A Error → Type 0) → Option (List ℕ) → Result (Option A) Error → Type 0
AnswersOf Parses None (Ok None) = ⊤
AnswersOf Parses (Some xs) (Ok (Some a)) = Parses xs (Ok a)
AnswersOf Parses (Some xs) (Err e) = Parses xs (Err e)
AnswersOf Parses _ _ = ⊥

module _ (order : Endianness) where
  -- The bytes start with a whole string: a length of four bytes, and that many bytes.
  abbrev pub BeginsWithString : List ℕ → Type 0
  BeginsWithString xs = (4 ≤ length xs) × (4 + number_in order 4 xs ≤ length xs)

  -- The bytes of the string before the first NUL.
  abbrev pub string_text : List ℕ → List ℕ
  string_text xs = before_nul (take (number_in order 4 xs) (drop 4 xs))

  -- The bytes after the string.
  abbrev pub after_string : List ℕ → List ℕ
  after_string xs = drop (4 + number_in order 4 xs) xs

  -- The bytes don't start with a whole UTF-8 string, as this error reports.
  abbrev pub IsStringError : List ℕ → Error → Type 0
  IsStringError xs NotEnoughSpaceForStringLen = length xs < 4
  IsStringError xs StringLengthTooLong = (4 ≤ length xs) × (length xs < 4 + number_in order 4 xs)
  IsStringError xs StringUtf8 = BeginsWithString xs × (¬ IsUtf8 (string_text xs))
  IsStringError xs _ = ⊥

  -- Parses a string section.
  abbrev pub ParsesStringSection : List ℕ → Result (Bor (List ℕ)) Error → Type 0
  ParsesStringSection xs (Ok s) = BeginsWithString xs × (s.now ≡ string_text xs)
  ParsesStringSection xs (Err e) = IsStringError xs e

  -- The bytes start with these UTF-8 strings, in order.
  abbrev pub BeginsWithStrings : List ℕ → List (List ℕ) → Type 0
  BeginsWithStrings xs [] = ⊤
  BeginsWithStrings xs (t ∷ ts) = BeginsWithString xs × (t ≡ string_text xs) × IsUtf8 t × BeginsWithStrings (after_string xs) ts

  -- The bytes after the strings.
  abbrev pub after_strings : List ℕ → List (List ℕ) → List ℕ
  after_strings xs [] = xs
  after_strings xs (t ∷ ts) = after_strings (after_string xs) ts

  -- A list of these UTF-8 strings: their count of four bytes, and the strings.
  abbrev pub IsStringList : List ℕ → List (List ℕ) → Type 0
  IsStringList xs ts = (4 ≤ length xs) × (number_in order 4 xs ≡ length ts) × BeginsWithStrings (drop 4 xs) ts

  -- The string after `before` in the list is invalid, and `e` is its error.
  pub record StringListError (xs : List ℕ) (e : Error) : Type 0 where
    pub has_count : 4 ≤ length xs
    pub before : List (List ℕ)
    pub too_few : length before < number_in order 4 xs
    pub elements : BeginsWithStrings (drop 4 xs) before
    pub error_here : IsStringError (after_strings (drop 4 xs) before) e

  -- The list starts with UTF-8 strings, at least one. Memory runs out for the last of them.
  pub record StringListNeedsMemory (xs : List ℕ) : Type 0 where
    pub has_count : 4 ≤ length xs
    pub first_strings : List (List ℕ)
    pub at_least_one : 1 ≤ length first_strings
    pub within : length first_strings ≤ number_in order 4 xs
    pub elements : BeginsWithStrings (drop 4 xs) first_strings

  -- The bytes aren't a list of UTF-8 strings, as this error reports; or memory ran out.
  abbrev pub IsStringListError : List ℕ → Error → Type 0
  IsStringListError xs NotEnoughSpaceForStringListLen = length xs < 4
  IsStringListError xs Memory = StringListNeedsMemory xs
  IsStringListError xs e = StringListError xs e

  -- Parses a section with a list of strings.
  abbrev pub ParsesStringList : List ℕ → Result (Vec (Bor (List ℕ)) Global) Error → Type 0
  ParsesStringList xs (Ok v) = IsStringList xs (map (λ s. s.now) v.items)
  ParsesStringList xs (Err e) = IsStringListError xs e

  -- Parses a section with a u64.
  abbrev pub ParsesU64 : List ℕ → Result ℕ Error → Type 0
  ParsesU64 xs (Ok n) = (8 ≤ length xs) × (n ≡ number_in order 8 xs)
  ParsesU64 xs (Err e) = (e ≡ FeatureSectionTooSmall) × (length xs < 8)

  -- Parses a section with a value of `size` bytes.
  abbrev pub ParsesFixedPart : {D : Type 0} → ℕ → (List ℕ → D) → List ℕ → Result D Error → Type 0
  ParsesFixedPart size of xs (Ok d) = (size ≤ length xs) × (d ≡ of xs)
  ParsesFixedPart size of xs (Err e) = IsUnexpectedEof e × (length xs < size)

  abbrev pub ParsesNrCpus : List ℕ → Result NrCpus Error → Type 0
  ParsesNrCpus = ParsesFixedPart 8 (nr_cpus_of (number_in order))

  abbrev pub ParsesSampleTimes : List ℕ → Result SampleTimeRange Error → Type 0
  ParsesSampleTimes = ParsesFixedPart 16 (sample_times_of (number_in order))

  abbrev pub ParsesCompression : List ℕ → Result CompressionInfo Error → Type 0
  ParsesCompression = ParsesFixedPart 20 (compression_of (number_in order))

  -- Parses a clock section. A version other than 1 is reported before the rest is checked.
  abbrev pub ParsesClockData : List ℕ → Result ClockData Error → Type 0
  ParsesClockData xs (Ok d) = (24 ≤ length xs) × (number_in order 4 xs ≡ 1) × (d ≡ clock_of (number_in order) xs)
  ParsesClockData xs (Err e) = (IsInvalidData e × (4 ≤ length xs) × (number_in order 4 xs ≢ 1)) ⊎ (IsUnexpectedEof e × IsTruncatedClock (number_in order) xs)

  -- The bytes start with a section of PMUs, and `m` is its map.
  abbrev pub BeginsWithPmuSection : List ℕ → PmuMappings → Type 0
  BeginsWithPmuSection xs m = (section : List ℕ) × (rest : List ℕ) × (xs ≡ section ++ rest) × IsPmuSectionOf (number_in order) section m

  -- The bytes start with a part of a section of PMUs that needs memory: the count, and a unit or the length of a name.
  abbrev pub NeedsMemoryForPmus : List ℕ → Type 0
  NeedsMemoryForPmus xs = (part : List ℕ) × (rest : List ℕ) × (xs ≡ part ++ rest) × IsPrefixOfPmuSection (number_in order) part

  -- Parses a section of PMUs. Memory runs out only after the count.
  abbrev pub ParsesPmuMappings : List ℕ → Result PmuMappings Error → Type 0
  ParsesPmuMappings xs (Ok m) = BeginsWithPmuSection xs m
  ParsesPmuMappings xs (Err Memory) = NeedsMemoryForPmus xs
  ParsesPmuMappings xs (Err e) = IsUnexpectedEof e × IsTruncatedPmuSection (number_in order) xs

  -- Splits the bytes into the text of the first string and the bytes after the string.
  abbrev pub SplitsString : List ℕ → Result (Bor (List ℕ) × Bor (List ℕ)) Error → Type 0
  SplitsString xs (Ok (s, rest)) = BeginsWithString xs × (s.now ≡ string_text xs) × (rest.now ≡ after_string xs) × IsUtf8 s.now
  SplitsString xs (Err e) = IsStringError xs e
