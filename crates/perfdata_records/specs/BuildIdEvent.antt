-- Build id entries (perf's `build_id_event`): a record header, a process id, a field of 24 bytes with a build id, and a path.
use Rattle.std.specs.Prelude.{◌≡◌, ℕ, zero, suc, ℤ, ◌+◌, ◌-◌, ◌<◌, ◌≤◌, ◌⊎◌, IsTrue, min, List, [], ◌∷◌, ◌++◌, length, take, drop, slice_index, nat_eq, Result, Ok, Err}
use Rattle.std.specs.Int.{cast_signed, w32}
use Rattle.std.specs.List.{ends_with}
use Rattle.std.specs.IoError.{error_kind}
use Rattle.std.specs.declared.io.Error.{Error}
use Rattle.std.specs.declared.io.ErrorKind.TheVariants.{UnexpectedEof, OutOfMemory}
use Rattle.perfdata_sources.specs.Endian.{number_in}
use Rattle.perfdata_sources.specs.RecordHeader.{record_header_of}
use Rattle.perfdata_identifiers.specs.ParseInfo.{is_set}
use Rattle.perfdata_sources.specs.Source.{State}
use Rattle.perfdata_sources.specs.declared.event.record_header.PerfEventHeader.{PerfEventHeader}
use Rattle.perfdata_sources.specs.declared.endian.Endianness.{Endianness}
use Rattle.perfdata_sources.specs.declared.source.append.AppendError.{AppendError}
use Rattle.perfdata_sources.specs.declared.source.append.AppendError.TheVariants.{Memory, Source}
use Rattle.perfdata_sections.specs.ParsedPart.{PartRead, PartPartlyRead, PartReadError}
use Rattle.perfdata_sections.specs.HeaderString.{before_nul}
use Rattle.perfdata_records.specs.declared.build_id_event.BuildIdEvent.{BuildIdEvent}

-- The contents of an entry as plain values.
pub record BuildIdEntry : Type 0 where
  pub header : PerfEventHeader
  pub pid : ℤ
  pub build_id : List ℕ
  pub path : List ℕ

abbrev pub build_id_entry_of : BuildIdEvent → BuildIdEntry
build_id_entry_of e = record { header = e.header; pid = e._pid; build_id = e.build_id.items; path = e.file_path.items }

-- Four zero bytes.
abbrev pub zero_group : List ℕ
zero_group = 0 ∷ 0 ∷ 0 ∷ 0 ∷ []

-- `n` groups of four zero bytes.
abbrev pub zero_groups : ℕ → List ℕ
zero_groups zero = []
zero_groups (suc n) = zero_group ++ zero_groups n

-- `id` is `xs` without its trailing groups of four zero bytes.
pub record IsWithoutZeroGroups (xs id : List ℕ) : Type 0 where
  pub groups : ℕ
  pub split : xs ≡ id ++ zero_groups groups
  pub fully_trimmed : ¬ IsTrue (ends_with nat_eq id zero_group)

-- `id` is the build id in a field of 24 bytes. If bit 15 of `misc` is set, byte 20 is its length, limited to 20. Otherwise it is
-- the first 20 bytes without trailing groups of four zero bytes.
pub record IsBuildIdIn (misc : ℕ) (xs id : List ℕ) : Type 0 where
  pub explicit_length : IsTrue (is_set misc 15) → id ≡ take (min (slice_index xs 20) 20) xs
  pub zeros_trimmed : (¬ IsTrue (is_set misc 15)) → IsWithoutZeroGroups (take 20 xs) id

module _ (number : ℕ → List ℕ → ℕ) where
  -- The size of the entry at the start of `xs`: the size in the record header, but at least 36.
  abbrev pub entry_size : List ℕ → ℕ
  entry_size xs = 36 + (number 2 (drop 6 xs) - 36)

  -- `xs` is exactly one entry.
  pub record IsBuildIdEntry (xs : List ℕ) (e : BuildIdEntry) : Type 0 where
    pub has_fixed_part : 36 ≤ length xs
    pub exact_len : length xs ≡ entry_size xs
    pub header : e.header ≡ record_header_of number xs
    pub pid : e.pid ≡ cast_signed w32 (number 4 (drop 8 xs))
    pub build_id : IsBuildIdIn (number 2 (drop 4 xs)) (take 24 (drop 12 xs)) e.build_id
    pub path : e.path ≡ before_nul (drop 36 xs)

  abbrev pub IsBuildIdEvent : List ℕ → BuildIdEvent → Type 0
  IsBuildIdEvent xs e = IsBuildIdEntry xs (build_id_entry_of e)

  -- `xs` is a truncated entry.
  abbrev pub IsTruncatedBuildIdEntry : List ℕ → Type 0
  IsTruncatedBuildIdEntry xs = 36 ≤ length xs → length xs < entry_size xs

  -- `xs` is a prefix of an entry that contains the part before the path, or a whole entry.
  abbrev pub IsPrefixOfBuildIdEntry : List ℕ → Type 0
  IsPrefixOfBuildIdEntry xs = (36 ≤ length xs) × (length xs ≤ entry_size xs)

  -- What reading an entry does. `Memory` reports an allocation failure, which follows the part before the path.
  abbrev pub ReadsBuildIdEvent : State → Result BuildIdEvent AppendError → State → Type 0
  ReadsBuildIdEvent old (Ok e) new = PartRead IsBuildIdEvent old e new
  ReadsBuildIdEvent old (Err Memory) new = PartPartlyRead IsPrefixOfBuildIdEntry old new
  ReadsBuildIdEvent old (Err (Source e)) new = PartReadError IsTruncatedBuildIdEntry old e new

  -- Like `ReadsBuildIdEvent`, but an allocation failure is an I/O error of kind `OutOfMemory`.
  abbrev pub ParsesBuildIdEvent : State → Result BuildIdEvent Error → State → Type 0
  ParsesBuildIdEvent old (Ok e) new = PartRead IsBuildIdEvent old e new
  ParsesBuildIdEvent old (Err e) new =
      ((error_kind e ≡ OutOfMemory) × PartPartlyRead IsPrefixOfBuildIdEntry old new) ⊎ PartReadError IsTruncatedBuildIdEntry old e new

-- What reading the entry at the start of `bytes` does: it leaves `rest`, the bytes after the entry. A truncated entry is an
-- unexpected end of file. `Memory` reports an allocation failure, for an entry that isn't truncated.
abbrev pub ReadsFirstEntry : Endianness → List ℕ → Result BuildIdEvent AppendError → List ℕ → Type 0
ReadsFirstEntry endian bytes (Ok e) rest = (first : List ℕ) × (bytes ≡ first ++ rest) × IsBuildIdEvent (number_in endian) first e
ReadsFirstEntry endian bytes (Err Memory) rest =
    (¬ IsTruncatedBuildIdEntry (number_in endian) bytes) × (first : List ℕ) × (bytes ≡ first ++ rest) × IsPrefixOfBuildIdEntry (number_in endian) first
ReadsFirstEntry endian bytes (Err (Source e)) rest = IsTruncatedBuildIdEntry (number_in endian) bytes × (error_kind e ≡ UnexpectedEof)
