-- The parsed form of a kernel record, by its type (`enum perf_event_type` of Linux's `perf_event.h`).
use Rattle.std.specs.Prelude.{◌≡◌, ◌≢◌, ℕ, ◌^◌, ◌<◌, ◌≤◌, ◌⊎◌, ◌&&◌, ◌||◌, not, nat_lt, Bool, true, false, List, [], ◌∷◌, length, Result, Ok, Err}
use Rattle.std.specs.IoError.{error_kind}
use Rattle.std.specs.declared.io.Error.{Error}
use Rattle.std.specs.declared.io.ErrorKind.{ErrorKind}
use Rattle.perfdata_sources.specs.Raw.{bytes_of}
use Rattle.perfdata_sources.specs.Endian.{number_in}
use Rattle.perfdata_identifiers.specs.ParseInfo.{is_set}
use Rattle.perfdata_base.specs.declared.event.raw_event_record.RawEventRecord.{RawEventRecord}
use Rattle.perfdata_events.specs.Format.{encodes, fails, IsTruncated}
use Rattle.perfdata_events.specs.TypeRow.{TypeRow, row, empty_row, row_in, FailsIn}
use Rattle.perfdata_events.specs.SampleFormat.{READ, BRANCH_STACK}
use Rattle.perfdata_events.specs.EventFormat.{trailing_size, before_trailing}
use Rattle.perfdata_events.specs.Mmap.{mmap, mapping_of}
use Rattle.perfdata_events.specs.Lost.{lost}
use Rattle.perfdata_events.specs.Comm.{comm, named_task_of}
use Rattle.perfdata_events.specs.ForkOrExit.{fork_or_exit}
use Rattle.perfdata_events.specs.Throttle.{throttle}
use Rattle.perfdata_events.specs.Read.{read, task_values_of}
use Rattle.perfdata_events.specs.Mmap2.{mmap2, mapping2_of}
use Rattle.perfdata_events.specs.Aux.{aux}
use Rattle.perfdata_events.specs.ItraceStart.{itrace_start}
use Rattle.perfdata_events.specs.LostSamples.{lost_samples}
use Rattle.perfdata_events.specs.ContextSwitch.{switch, switch_cpu_wide}
use Rattle.perfdata_events.specs.Namespaces.{namespaces, namespaces_of}
use Rattle.perfdata_events.specs.Ksymbol.{ksymbol, symbol_of}
use Rattle.perfdata_events.specs.BpfEvent.{bpf_event, bpf_event_of}
use Rattle.perfdata_events.specs.Cgroup.{cgroup, cgroup_of}
use Rattle.perfdata_events.specs.TextPoke.{text_poke, poke_of}
use Rattle.perfdata_events.specs.AuxOutputHwId.{aux_output_hw_id}
use Rattle.perfdata_events.specs.Sample.{sample, sample_of}
use Rattle.perfdata_events.specs.declared.format.EventFormat.{EventFormat}
use Rattle.perfdata_events.specs.declared.event.EventRecord.{EventRecord}
use Rattle.perfdata_events.specs.declared.event.EventRecord.TheVariants.{Mmap, Lost, Comm, Exit, Throttle, Unthrottle, Fork, Read, Mmap2, Aux, ItraceStart, LostSamples, ContextSwitch, Namespaces, Ksymbol, BpfEvent, Cgroup, TextPoke, AuxOutputHwId, Sample, Raw}

-- The offset of each counter value is known: no bit of the read format from 5 on is set.
abbrev pub has_known_values : EventFormat → Bool
has_known_values format = nat_lt format.read_format.0 (2 ^ 5)

-- The offset of each field of a sample is known: no bit of the sample format from 25 on is set, each counter value is known
-- where they are selected (bit 4), and no bit of the branch sample type from 20 on is set where a branch stack is selected (bit 11).
abbrev pub has_known_fields : EventFormat → Bool
has_known_fields format = nat_lt format.sample_format.0 (2 ^ 25)
    && ((not (is_set format.sample_format.0 READ) || has_known_values format)
    && (not (is_set format.sample_format.0 BRANCH_STACK) || nat_lt format.branch_sample_type.0 (2 ^ 20)))

module _ (format : EventFormat) (raw : RawEventRecord) where
  abbrev pub number : ℕ → List ℕ → ℕ
  number = number_in format.endian

  abbrev pub kind_of : ℕ
  kind_of = raw.record_type.0

  -- The types 1 to 7.
  abbrev pub types_to_7 : List TypeRow
  types_to_7 =
      row 1 (mmap number raw.misc)
      ∷ row 2 (lost number)
      ∷ row 3 (comm number raw.misc)
      ∷ row 4 (fork_or_exit number)
      ∷ row 5 (throttle number)
      ∷ row 6 (throttle number)
      ∷ row 7 (fork_or_exit number)
      ∷ []

  -- The types 8 and 10 to 15.
  abbrev pub types_to_15 : List TypeRow
  types_to_15 =
      row 8 (read number format.read_format.0)
      ∷ row 10 (mmap2 number raw.misc)
      ∷ row 11 (aux number)
      ∷ row 12 (itrace_start number)
      ∷ row 13 (lost_samples number)
      ∷ row 14 (switch raw.misc)
      ∷ row 15 (switch_cpu_wide raw.misc number)
      ∷ []

  -- The types 16 to 21.
  abbrev pub types_to_21 : List TypeRow
  types_to_21 =
      row 16 (namespaces number)
      ∷ row 17 (ksymbol number)
      ∷ row 18 (bpf_event number)
      ∷ row 19 (cgroup number)
      ∷ row 20 (text_poke number)
      ∷ row 21 (aux_output_hw_id number)
      ∷ []

  -- The row of a type from 1 to 21 that isn't that of samples.
  abbrev pub row_of : ℕ → TypeRow
  row_of type_number = row_in types_to_7 (row_in types_to_15 (row_in types_to_21 empty_row type_number) type_number) type_number

  -- The record has this type. The bytes start with the fields of this value, and the rest follows.
  abbrev pub HasFields : (type_number : ℕ) → List ℕ → (row_of type_number).Value → List ℕ → Type 0
  HasFields type_number xs value rest = (kind_of ≡ type_number) × (row_of type_number).fields xs (encodes value rest)

  -- The bytes before the sample_id fields start with the fields of an event that isn't a sample, and these bytes follow.
  abbrev pub IsEvent : List ℕ → EventRecord → List ℕ → Type 0
  IsEvent xs (Mmap v) rest = HasFields 1 xs (mapping_of v) rest
  IsEvent xs (Lost v) rest = HasFields 2 xs v rest
  IsEvent xs (Comm v) rest = HasFields 3 xs (named_task_of v) rest
  IsEvent xs (Exit v) rest = HasFields 4 xs v rest
  IsEvent xs (Throttle v) rest = HasFields 5 xs v rest
  IsEvent xs (Unthrottle v) rest = HasFields 6 xs v rest
  IsEvent xs (Fork v) rest = HasFields 7 xs v rest
  IsEvent xs (Read v) rest = HasFields 8 xs (task_values_of v) rest
  IsEvent xs (Mmap2 v) rest = HasFields 10 xs (mapping2_of v) rest
  IsEvent xs (Aux v) rest = HasFields 11 xs v rest
  IsEvent xs (ItraceStart v) rest = HasFields 12 xs v rest
  IsEvent xs (LostSamples v) rest = HasFields 13 xs v rest
  IsEvent xs (ContextSwitch v) rest = HasFields 14 xs v rest ⊎ HasFields 15 xs v rest
  IsEvent xs (Namespaces v) rest = HasFields 16 xs (namespaces_of v) rest
  IsEvent xs (Ksymbol v) rest = HasFields 17 xs (symbol_of v) rest
  IsEvent xs (BpfEvent v) rest = HasFields 18 xs (bpf_event_of v) rest
  IsEvent xs (Cgroup v) rest = HasFields 19 xs (cgroup_of v) rest
  IsEvent xs (TextPoke v) rest = HasFields 20 xs (poke_of v) rest
  IsEvent xs (AuxOutputHwId v) rest = HasFields 21 xs v rest
  IsEvent xs (Sample v) rest = ⊥
  IsEvent xs (Raw v) rest = ⊥

  -- The first error of the fields of a record that isn't a sample.
  abbrev pub EventFails : List ℕ → ErrorKind → Type 0
  EventFails xs kind = FailsIn types_to_7 kind_of xs kind ⊎ (FailsIn types_to_15 kind_of xs kind ⊎ FailsIn types_to_21 kind_of xs kind)

  abbrev pub DecodesEvent : List ℕ → Result EventRecord Error → List ℕ → Type 0
  DecodesEvent xs (Ok event) rest = IsEvent xs event rest
  DecodesEvent xs (Err e) rest = EventFails xs (error_kind e)

  -- The sample_id fields are complete, and the bytes before them are the fields of the event and some padding.
  pub record IsSplit (event : EventRecord) : Type 0 where
    pub enough : trailing_size format ≤ length (bytes_of raw.body)
    pub padding : List ℕ
    pub event_is : IsEvent (before_trailing format (bytes_of raw.body)) event padding

  -- The body is the fields of the sample and some padding.
  pub record IsSample (event : List ℕ → Type 0) : Type 0 where
    pub is_type : kind_of ≡ 9
    pub known : has_known_fields format ≡ true
    pub padding : List ℕ
    pub event_is : event padding

  -- The type isn't parsed, or it is that of samples or of counter values and the offset of a field isn't known.
  abbrev pub IsUnparsed : Type 0
  IsUnparsed = (kind_of ≡ 0) ⊎ ((21 < kind_of) ⊎ (((kind_of ≡ 9) × (has_known_fields format ≡ false)) ⊎ ((kind_of ≡ 8) × (has_known_values format ≡ false))))

  -- The parsed form of the record.
  abbrev pub IsParsed : EventRecord → Type 0
  IsParsed (Sample v) = IsSample (λ padding. sample number format (bytes_of raw.body) (encodes (sample_of v) padding))
  IsParsed (Raw v) = (v ≡ raw) × IsUnparsed
  IsParsed (Read v) = (has_known_values format ≡ true) × IsSplit (Read v)
  IsParsed event = IsSplit event

  -- The sample_id fields are truncated, or they are complete and there is an error before them.
  abbrev pub SplitFails : ErrorKind → Type 0
  SplitFails kind = IsTruncated (trailing_size format) (bytes_of raw.body) kind
      ⊎ ((trailing_size format ≤ length (bytes_of raw.body)) × EventFails (before_trailing format (bytes_of raw.body)) kind)

  -- The first error of the record.
  abbrev pub ParseFails : ErrorKind → Type 0
  ParseFails kind =
      ((kind_of ≡ 9) × (has_known_fields format ≡ true) × sample number format (bytes_of raw.body) (fails kind))
      ⊎ ((1 ≤ kind_of) × (kind_of ≤ 21) × (kind_of ≢ 9) × (kind_of ≡ 8 → has_known_values format ≡ true) × SplitFails kind)
