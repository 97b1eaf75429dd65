-- The sections that consist of numbers.
use Rattle.std.specs.Prelude.{◌≡◌, ◌≢◌, ℕ, ◌<◌, ◌≤◌, ◌⊎◌, List, length, drop, Result, Ok, Err}
use Rattle.std.specs.IoError.{error_kind}
use Rattle.std.specs.declared.io.Error.{Error}
use Rattle.std.specs.declared.io.ErrorKind.TheVariants.{InvalidData}
use Rattle.perfdata_sources.specs.Source.{State, Consumed}
use Rattle.perfdata_sections.specs.ParsedPart.{PartRead, PartReadError}
use Rattle.perfdata_sections.specs.declared.feature_sections.number_sections.NrCpus.{NrCpus}
use Rattle.perfdata_sections.specs.declared.feature_sections.number_sections.SampleTimeRange.{SampleTimeRange}
use Rattle.perfdata_sections.specs.declared.feature_sections.number_sections.CompressionInfo.{CompressionInfo}
use Rattle.perfdata_sections.specs.declared.feature_sections.number_sections.ClockData.{ClockData}

module _ (number : ℕ → List ℕ → ℕ) where
  abbrev pub nr_cpus_of : List ℕ → NrCpus
  nr_cpus_of xs = record { nr_cpus_available = number 4 xs; nr_cpus_online = number 4 (drop 4 xs) }

  abbrev pub sample_times_of : List ℕ → SampleTimeRange
  sample_times_of xs = record { first_sample_time = number 8 xs; last_sample_time = number 8 (drop 8 xs) }

  abbrev pub compression_of : List ℕ → CompressionInfo
  compression_of xs = record {
    version = number 4 xs;
    type_ = number 4 (drop 4 xs);
    level = number 4 (drop 8 xs);
    ratio = number 4 (drop 12 xs);
    mmap_len = number 4 (drop 16 xs);
  }

  -- The clock data after the version.
  abbrev pub clock_of : List ℕ → ClockData
  clock_of xs = record { clockid = number 4 (drop 4 xs); wall_clock_ns = number 8 (drop 8 xs); clockid_time_ns = number 8 (drop 16 xs) }

  -- `xs` is a clock section of version 1.
  abbrev pub IsClockSection : List ℕ → ClockData → Type 0
  IsClockSection xs d = (length xs ≡ 24) × (number 4 xs ≡ 1) × (d ≡ clock_of xs)

  -- `xs` is a truncated clock section. Its version is 1 if it contains the version.
  abbrev pub IsTruncatedClock : List ℕ → Type 0
  IsTruncatedClock xs = (length xs < 24) × (4 ≤ length xs → number 4 xs ≡ 1)

  -- The version isn't 1, and only the version is consumed.
  pub record ClockVersionError (old : State) (e : Error) (new : State) : Type 0 where
    pub bytes : List ℕ
    pub consumes : Consumed old bytes new
    pub exact_len : length bytes ≡ 4
    pub version_differs : number 4 bytes ≢ 1
    pub kind : error_kind e ≡ InvalidData

  -- What reading a clock section does.
  abbrev pub ParsesClock : State → Result ClockData Error → State → Type 0
  ParsesClock old (Ok d) new = PartRead IsClockSection old d new
  ParsesClock old (Err e) new = ClockVersionError old e new ⊎ PartReadError IsTruncatedClock old e new
