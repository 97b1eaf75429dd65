-- Reading a slice as a source.
use Rattle.std.proofs.Common.{◌≡◌, ◌<◌, ℕ, List, ◌++◌, length, Some, None, refl, sym, ap, ◌∙◌, subst, arith, inl, inr, length-append}
use Rattle.std.specs.Prelude.{Option, Result, Ok, Err}
use Rattle.std.specs.IoError.{error_kind}
use Rattle.std.specs.declared.io.Error.{Error as IoErrorValue}
use Rattle.std.specs.declared.io.ErrorKind.TheVariants.{UnexpectedEof}
use Rattle.perfdata_sources.specs.Source.{State, Consumed, ReadExactError, prepend, memory_source}
use Rattle.perfdata_sources.proofs.ReadErrors.{none_or_paused, all_read}
use Rattle.perfdata_sources.proofs.Numbers.{number_prefix, number_drop_prefix}
use Rattle.perfdata_sources.specs.Endian.{number_in}
use Rattle.perfdata_sources.specs.declared.endian.Endianness.{Endianness}
use Rattle.perfdata_sources.specs.declared.source.append.AppendError.{AppendError}
use Rattle.perfdata_sources.specs.declared.source.append.AppendError.TheVariants.{Memory, Source}
use Rattle.perfdata_sections.specs.ParsedPart.{IsPart, PartRead, PartReadError, file_error_of}
use Rattle.perfdata_sections.specs.NumberSections.{sample_times_of, compression_of, clock_of, IsClockSection, IsTruncatedClock, ParsesClock}
use Rattle.perfdata_sections.specs.PmuMappings.{IsPmuSectionOf, IsTruncatedPmuSection, ReadsPmus}
use Rattle.perfdata_sections.specs.declared.feature_sections.number_sections.SampleTimeRange.{SampleTimeRange}
use Rattle.perfdata_sections.specs.declared.feature_sections.number_sections.CompressionInfo.{CompressionInfo}
use Rattle.perfdata_sections.specs.declared.feature_sections.number_sections.ClockData.{ClockData}
use Rattle.perfdata_sections.specs.declared.feature_sections.pmu_mappings.PmuMappings.{PmuMappings}
use Rattle.perfdata_sections.specs.declared.error.Error.{Error}
use Rattle.perfdata_sections.specs.declared.error.Error.TheVariants.{IoError}
use Rattle.linux_perf_data.specs.Values.{ParsesSampleTimes, ParsesCompression, ParsesClockData, ParsesPmuMappings, BeginsWithPmuSection}

-- the bytes read are a prefix of the slice
first_part_of : (o : Option (List ℕ)) (xs first_part : List ℕ) → Some xs ≡ prepend first_part o → (rest : List ℕ) × (xs ≡ first_part ++ rest)
first_part_of None xs first_part part_read = cc
first_part_of (Some rest) xs first_part part_read = (rest, cc)

pub slice_prefix : (xs first_part : List ℕ) (left : State) → Consumed (memory_source xs) first_part left → (rest : List ℕ) × (xs ≡ first_part ++ rest)
slice_prefix xs first_part left consumption = first_part_of left.bytes xs first_part consumption.bytes

-- a read that ends early has read the whole slice
pub slice_stopped : (IsTruncated : List ℕ → Type 0) (xs : List ℕ) (left : State) (e : IoErrorValue) → PartReadError IsTruncated (memory_source xs) e left → (error_kind e ≡ UnexpectedEof) × IsTruncated xs
slice_stopped IsTruncated xs left e stopped = elim stopped.cause [
  | inl (kind, none) ↦ elim (none_or_paused (memory_source xs) left none) [
    | inl all ↦ (let same : Some xs ≡ Some stopped.bytes = all_read (memory_source xs) left stopped.bytes stopped.consumes all in (kind, subst IsTruncated (sym cc) stopped.is_truncated))
    | inr paused ↦ absurd (paused.not_steady refl)
  ]
  | inr failed ↦ absurd (failed.not_steady refl)
]

-- a slice is shorter than a part of `size` bytes
pub fixed_error : (size : ℕ) (xs : List ℕ) (left : State) (e : IoErrorValue) → ReadExactError (memory_source xs) size e left → (error_kind e ≡ UnexpectedEof) × (length xs < size)
fixed_error size xs left e stopped = elim stopped.cause [
  | inl (kind, none) ↦ elim (none_or_paused (memory_source xs) left none) [
    | inl all ↦ (
        let same : Some xs ≡ Some stopped.consumed_bytes = all_read (memory_source xs) left stopped.consumed_bytes stopped.consumes all in
        let whole : xs ≡ stopped.consumed_bytes = cc in
        let less = stopped.too_few in
        (kind, omega (arith, ap length whole, less)))
    | inr paused ↦ absurd (paused.not_steady refl)
  ]
  | inr failed ↦ absurd (failed.not_steady refl)
]

module _ (o endian : Endianness) (same : endian ≡ o) (xs : List ℕ) (left : State) where
  -- a property of one byte order holds for the file's
  in_order : (P : Endianness → Type 0) → P o → P endian
  in_order P = subst P (sym same)

  pub clock_value : (d : ClockData) → PartRead (IsClockSection (number_in o)) (memory_source xs) d left → ParsesClockData o xs (Ok d)
  clock_value d step =
      let cut = slice_prefix xs step.bytes left step.consumes in
      let long : length step.bytes ≡ 24 = step.matches.0 in
      let all : xs ≡ step.bytes ++ cut.0 = cut.1 in (
        omega (arith, ap length all, length-append step.bytes cut.0),
        ap (number_in o 4) all ∙ number_prefix o 4 step.bytes cut.0 (omega arith) ∙ step.matches.1,
        step.matches.2 ∙ sym (ap (clock_of (number_in o)) all ∙ rw (number_drop_prefix o 4 4 step.bytes cut.0 (omega arith), number_drop_prefix o 8 8 step.bytes cut.0 (omega arith), number_drop_prefix o 8 16 step.bytes cut.0 (omega arith)) refl),
      )

  pub sample_times_value : (d : SampleTimeRange) → PartRead (IsPart 16 (sample_times_of (number_in o))) (memory_source xs) d left → ParsesSampleTimes o xs (Ok d)
  sample_times_value d step =
      let cut = slice_prefix xs step.bytes left step.consumes in
      let long : length step.bytes ≡ 16 = step.matches.0 in
      let all : xs ≡ step.bytes ++ cut.0 = cut.1 in (
        omega (arith, ap length all, length-append step.bytes cut.0),
        step.matches.1 ∙ sym (ap (sample_times_of (number_in o)) all ∙ rw (number_prefix o 8 step.bytes cut.0 (omega arith), number_drop_prefix o 8 8 step.bytes cut.0 (omega arith)) refl),
      )

  pub compression_value : (d : CompressionInfo) → PartRead (IsPart 20 (compression_of (number_in o))) (memory_source xs) d left → ParsesCompression o xs (Ok d)
  compression_value d step =
      let cut = slice_prefix xs step.bytes left step.consumes in
      let long : length step.bytes ≡ 20 = step.matches.0 in
      let all : xs ≡ step.bytes ++ cut.0 = cut.1 in (
        omega (arith, ap length all, length-append step.bytes cut.0),
        step.matches.1
            ∙ sym (ap (compression_of (number_in o)) all ∙ rw (number_prefix o 4 step.bytes cut.0 (omega arith), number_drop_prefix o 4 4 step.bytes cut.0 (omega arith), number_drop_prefix o 4 8 step.bytes cut.0 (omega arith), number_drop_prefix o 4 12 step.bytes cut.0 (omega arith), number_drop_prefix o 4 16 step.bytes cut.0 (omega arith)) refl),
      )

  pub clock_error : (e : IoErrorValue) → ParsesClock (number_in o) (memory_source xs) (Err e) left → ParsesClockData o xs (Err (IoError e))
  clock_error e cause_of = elim cause_of [
    | inl other ↦
        let cut = slice_prefix xs other.bytes left other.consumes in
        let long = other.exact_len in
        inl (
          other.kind,
          omega (arith, ap length cut.1, length-append other.bytes cut.0),
          λ one. other.version_differs (sym (number_prefix o 4 other.bytes cut.0 (omega arith)) ∙ sym (ap (number_in o 4) cut.1) ∙ one),
        )
    | inr stopped ↦ inr (slice_stopped (IsTruncatedClock (number_in o)) xs left e stopped)
  ]

  pub units_ok : (r read : Result PmuMappings AppendError) (m : PmuMappings) → read ≡ r → read ≡ Ok m → ReadsPmus (number_in o) (memory_source xs) r left → BeginsWithPmuSection endian xs m
  units_ok r read m is ok reads =
      let step : PartRead (IsPmuSectionOf (number_in o)) (memory_source xs) m left = subst (λ t. ReadsPmus (number_in o) (memory_source xs) t left) (sym is ∙ ok) reads in
      let cut = slice_prefix xs step.bytes left step.consumes in
      in_order (λ e. BeginsWithPmuSection e xs m) (step.bytes, cut.0, cut.1, step.matches)

  units_failure : (fault : AppendError) → ReadsPmus (number_in o) (memory_source xs) (Err fault) left → ParsesPmuMappings o xs (Err (file_error_of fault))
  units_failure Memory part = let start = slice_prefix xs part.bytes left part.consumes in (part.bytes, start.0, start.1, part.is_truncated)
  units_failure (Source e) stopped = slice_stopped (IsTruncatedPmuSection (number_in o)) xs left e stopped

  pub units_err : (r read : Result PmuMappings AppendError) (fault : AppendError) (e : Error) → read ≡ r → read ≡ Err fault → e ≡ file_error_of fault → ReadsPmus (number_in o) (memory_source xs) r left
      → ParsesPmuMappings endian xs (Err e)
  units_err r read fault e is err states reads =
      in_order (λ o'. ParsesPmuMappings o' xs (Err e))
      (subst (λ f. ParsesPmuMappings o xs (Err f)) (sym states) (units_failure fault (subst (λ t. ReadsPmus (number_in o) (memory_source xs) t left) (sym is ∙ err) reads)))
