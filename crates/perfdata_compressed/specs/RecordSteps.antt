-- What the bytes of a recording begin with, by the header of a record.
use Rattle.std.specs.Prelude.{◌≡◌, ◌≢◌, ℕ, zero, suc, ◌+◌, ◌<◌, ◌≤◌, List, length, drop, true, false}
use Rattle.perfdata_sources.specs.Endian.{number_in}
use Rattle.perfdata_sources.specs.declared.endian.Endianness.{Endianness}
use Rattle.perfdata_compressed.specs.declared.record_step.RecordStep.{RecordStep}
use Rattle.perfdata_compressed.specs.declared.record_step.RecordStep.TheVariants.{Partial, Invalid, Plain, Algorithm, TracingData, Compressed}

module _ (order : Endianness) where
  -- The type of the record at the start of the bytes, and its size without aux data.
  abbrev pub type_at_start : List ℕ → ℕ
  type_at_start xs = number_in order 4 xs

  abbrev pub size_at_start : List ℕ → ℕ
  size_at_start xs = number_in order 2 (drop 6 xs)

  -- The bytes begin with a record header with this type, in which the size is this one.
  pub record BeginsWith (xs : List ℕ) (type size : ℕ) : Type 0 where
    pub whole_header : 8 ≤ length xs
    pub matches_type : type_at_start xs ≡ type
    pub matches_size : size_at_start xs ≡ size
    pub min_size : 8 ≤ size

  -- What the bytes begin with. Fewer than 24 bytes may not show it. A record of size 8 or more is too small only if it is an AUXTRACE record.
  abbrev pub StepMatches : List ℕ → RecordStep → Type 0
  StepMatches xs Partial = length xs < 24
  StepMatches xs Invalid = (8 ≤ length xs) × (size_at_start xs < 48)
  StepMatches xs (Plain size) = (8 ≤ length xs) × (type_at_start xs ≢ 81) × (type_at_start xs ≢ 83) × (size_at_start xs ≤ size) × (8 ≤ size_at_start xs)
  StepMatches xs (Algorithm size algorithm) = BeginsWith xs 80 size
  StepMatches xs (TracingData size) = BeginsWith xs 66 size
  StepMatches xs (Compressed size false) = BeginsWith xs 81 size
  StepMatches xs (Compressed size true) = BeginsWith xs 83 size

-- An AUXTRACE record of this size: its aux data follow it, and 16 bytes show their size.
abbrev pub AuxtraceMatches : List ℕ → ℕ → RecordStep → Type 0
AuxtraceMatches xs size Partial = length xs < 16
AuxtraceMatches xs size Invalid = size < 48
AuxtraceMatches xs size (Plain whole) = size ≤ whole
AuxtraceMatches xs size (Algorithm _ _) = ⊥
AuxtraceMatches xs size (TracingData _) = ⊥
AuxtraceMatches xs size (Compressed _ _) = ⊥

-- The record of a feature of this size: 24 bytes show its number and an algorithm.
abbrev pub FeatureMatches : List ℕ → ℕ → RecordStep → Type 0
FeatureMatches xs size Partial = length xs < 24
FeatureMatches xs size Invalid = ⊥
FeatureMatches xs size (Plain whole) = size ≡ whole
FeatureMatches xs size (Algorithm whole _) = size ≡ whole
FeatureMatches xs size (TracingData _) = ⊥
FeatureMatches xs size (Compressed _ _) = ⊥

module _ (order : Endianness) where
  -- The bytes begin with this number of records that aren't compressed, of this size with their aux data. The last one may be longer than the bytes.
  abbrev pub PlainRecords : ℕ → List ℕ → ℕ → Type 0
  PlainRecords zero xs size = size ≡ 0
  PlainRecords (suc count) xs size = (first : ℕ) × ((rest : ℕ) × (StepMatches order xs (Plain first)
      × (PlainRecords count (drop first xs) rest × (size ≡ first + rest))))

  -- Some number of records has this size, unless their size is 2^64 - 1 or more.
  abbrev pub PlainSize : List ℕ → ℕ → Type 0
  PlainSize xs size = size < 18446744073709551615 → (count : ℕ) × PlainRecords count xs size
