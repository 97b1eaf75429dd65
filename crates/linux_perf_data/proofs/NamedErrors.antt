-- Each error is one of those that its call names.
use Rattle.std.proofs.Common.{◌≡◌, ◌≢◌, ℕ, ◌-◌, List, [], sym, subst, refl, inl, inr}
use Rattle.std.specs.Prelude.{◌⊎◌, Result, Ok, Err, IfErr, Option, Vec}
use Rattle.std.specs.declared.alloc.Global.{Global}
use Rattle.std.specs.declared.io.Error.{Error as IoErrorValue}
use Rattle.perfdata_sources.specs.Source.{State}
use Rattle.perfdata_sources.specs.Endian.{number_in}
use Rattle.perfdata_sources.specs.declared.endian.Endianness.{Endianness}
use Rattle.perfdata_base.specs.declared.section.PerfFileSection.{PerfFileSection}
use Rattle.perfdata_sections.specs.AttrFrames.{IsFrameError, ConsumesFrameError, IsFrameReadError}
use Rattle.perfdata_sections.specs.EventDesc.{IsEventError, IsEventDescError}
use Rattle.perfdata_sections.specs.EventTypes.{EntriesReadError, EventTypeEntryReadError, ReadsDescriptions, type_name_at}
use Rattle.perfdata_sections.specs.Items.{ReadOrSeekErrorAt, IsTruncationOf, IsReadErrorOf}
use Rattle.perfdata_sections.specs.Error.{IsUnexpectedEof, IsUnsupported, IsInvalidData, IsInvalidInput, IsIoError}
use Rattle.perfdata_sections.specs.declared.event_type.SimplePerfEventType.{SimplePerfEventType}
use Rattle.perfdata_sections.specs.declared.feature_sections.AttributeDescription.{AttributeDescription}
use Rattle.perfdata_sections.specs.declared.error.Error.{Error}
use Rattle.perfdata_sections.specs.declared.error.Error.TheVariants.{IoError, Read, InconsistentAttributeSizes, NoIdentifierDespiteMultiEvent, InconsistentSampleIdAllWithMultiEvent, NoEventTypesInSimpleperfMetaInfo, StringUtf8, Memory}
use Rattle.perfdata_sections.specs.declared.error.ReadError.TheVariants.{PerfEventAttr}
use Rattle.linux_perf_data.specs.declared.file_reader.PerfFileReader.{PerfFileReader}
use Rattle.linux_perf_data.specs.declared.file.opening.FileOpening.{FileOpening}
use Rattle.linux_perf_data.specs.declared.records.iter.PerfRecordIter.{PerfRecordIter}
use Rattle.linux_perf_data.specs.declared.records.iter.Stage.{Stage}
use Rattle.linux_perf_data.specs.declared.records.iter.Stage.TheVariants.{Running, Failed, Ended}
use Rattle.linux_perf_data.specs.declared.perf_file.PerfFile.{PerfFile}
use Rattle.linux_perf_data.specs.Attribute.{Inconsistency, missing_identifier, sample_id_all_differs}
use Rattle.linux_perf_data.specs.AttributeSources.{IsMetaInfoError}
use Rattle.linux_perf_data.specs.steps.AttributeSources.{ParsesMetaEventTypes, ParsesEventDesc, ReadsTypesSection, ReadsAttrsSection, ReadsSimpleperfSection}
use Rattle.linux_perf_data.specs.Consistency.{error_of_inconsistency}
use Rattle.linux_perf_data.specs.steps.FeatureData.{SourceErrorInBytes}
use Rattle.linux_perf_data.specs.LateMetadata.{IsMetadataError}
use Rattle.linux_perf_data.specs.Layout.{SectionSize, LayoutError, truncated_header, size_below_header, end_overflows, truncated_body, compressed_record, aux_body_too_short, aux_end_overflows, truncated_aux_data, invalid_metadata, truncated_metadata, attr_size_too_small, invalid_event_desc, inconsistent_attributes}
use Rattle.linux_perf_data.specs.Iter.{iter_source_state, section_size_of, IsMismatchedPerfFile, IsErrorCause, ReturnsError}
use Rattle.linux_perf_data.specs.NamedErrors.{IsFileOpeningError, IsPipeOpeningError, IsRecordError}
use Rattle.linux_perf_data.specs.OpenedFile.{BuildsReader}
use Rattle.linux_perf_data.specs.PipeOpening.{FailsBy, IsPipeError, IsMetadataRecordError, IsMetadataListError}
use Rattle.linux_perf_data.specs.RecordFraming.{IsErrorFor, SourceErrorInRecord}

-- a set that contains `Memory` contains an error whose cause is known unless it is `Memory`
abbrev IsOther : Error → Type 0
IsOther Memory = ⊥
IsOther _ = Unit {0}

pub unless_memory : (P : Error → Type 0) → P Memory → (e : Error) → (e ≢ Memory → P e) → P e
unless_memory P memory Memory other = memory
unless_memory P memory _ other = other (λ is. subst IsOther is tt)

-- ---- sets that contain all I/O errors

module _ (P : Error → Type 0) (io : (x : IoErrorValue) → P (IoError x)) where
  pub io_in : (e : Error) → IsIoError e → P e
  io_in (IoError x) is = io x
  io_in _ is = absurd is

  pub eof_in : (e : Error) → IsUnexpectedEof e → P e
  eof_in (IoError x) is = io x
  eof_in _ is = absurd is

  pub unsupported_in : (e : Error) → IsUnsupported e → P e
  unsupported_in (IoError x) is = io x
  unsupported_in _ is = absurd is

  pub invalid_data_in : (e : Error) → IsInvalidData e → P e
  invalid_data_in (IoError x) is = io x
  invalid_data_in _ is = absurd is

  pub invalid_input_in : (e : Error) → IsInvalidInput e → P e
  invalid_input_in (IoError x) is = io x
  invalid_input_in _ is = absurd is

  pub bytes_in : (old new : State) (e : Error) → SourceErrorInBytes old e new → P e
  bytes_in old new e (inl (is, failed)) = io_in e is
  bytes_in old new e (inr (is, paused)) = eof_in e is

  -- an error of an item, of a read of it, or of the seek to it
  item_in : (IsNot : Error → List ℕ → List ℕ → Type 0) (IsOfRead : Error → List ℕ → State → State → Type 0) (old : State) (at : ℕ) (e : Error) (new : State)
      → ((prefix xs : List ℕ) → IsNot e prefix xs → P e) → ((prefix : List ℕ) → IsOfRead e prefix old new → P e) → ReadOrSeekErrorAt IsNot IsOfRead old at e new → P e
  item_in IsNot IsOfRead old at e new is_not is_of_read (inl r) = elim r.cause [
    | inl here ↦ is_not r.consumed_bytes here.0.0 here.0.1
    | inr of ↦ is_of_read r.consumed_bytes of
  ]
  item_in IsNot IsOfRead old at e new is_not is_of_read (inr (is, failed)) = io_in e is

  truncation_in : (IsTruncated : List ℕ → Type 0) (old : State) (at : ℕ) (e : Error) (new : State) → ReadOrSeekErrorAt (IsTruncationOf IsTruncated) (IsReadErrorOf IsTruncated) old at e new → P e
  truncation_in IsTruncated old at e new error = item_in (IsTruncationOf IsTruncated) (IsReadErrorOf IsTruncated) old at e new (λ prefix xs is. eof_in e is.0) (λ prefix of. elim of.1 [ inl failed ↦ io_in e failed.0 | inr paused ↦ eof_in e paused.0 ]) error

  -- ---- which also contain the errors of attributes

  module _ (attr : P (Read PerfEventAttr)) (sizes : (own size : ℕ) → P (InconsistentAttributeSizes own size)) where
    frame_in : (number : ℕ → List ℕ → ℕ) (attr_size : ℕ) (e : Error) (xs : List ℕ) → IsFrameError number attr_size e xs → P e
    frame_in number attr_size (Read PerfEventAttr) xs is = attr
    frame_in number attr_size (InconsistentAttributeSizes own size) xs is = sizes own size
    frame_in number attr_size _ xs is = absurd is

    event_in : (number : ℕ → List ℕ → ℕ) (attr_size : ℕ) (e : Error) (xs : List ℕ) → IsEventError number attr_size e xs → P e
    event_in number attr_size e xs (inl frame) = frame_in number attr_size e xs frame
    event_in number attr_size e xs (inr after) = eof_in e after.1

    pub event_desc_in : (number : ℕ → List ℕ → ℕ) (e : Error) (xs : List ℕ) → IsEventDescError number e xs → P e
    event_desc_in number e xs (inl too_few) = eof_in e too_few.0
    event_desc_in number e xs (inr at) = event_in number _ e at.rest at.error_here

    attr_in : (e : Error) → e ≡ Read PerfEventAttr → P e
    attr_in e is = subst P (sym is) attr

    frame_read_in : (number : ℕ → List ℕ → ℕ) (attr_size : ℕ) (old : State) (at : ℕ) (e : Error) (new : State) → ReadOrSeekErrorAt (ConsumesFrameError number attr_size) (IsFrameReadError number attr_size) old at e new → P e
    frame_read_in number attr_size old at e new error = item_in (ConsumesFrameError number attr_size) (IsFrameReadError number attr_size) old at e new (λ prefix xs is. frame_in number attr_size e xs is.0) (λ prefix of. attr_in e of.0.0) error

    entry_in : (number : ℕ → List ℕ → ℕ) (attr_size : ℕ) (old : State) (at : ℕ) (e : Error) (new : State) → EventTypeEntryReadError number attr_size old at e new → P e
    entry_in number attr_size old at e new (inl frame) = frame_read_in number attr_size old at e new frame
    entry_in number attr_size old at e new (inr ids) = truncation_in _ old _ e new ids.error

    entries_in : (number : ℕ → List ℕ → ℕ) (attr_size : ℕ) (names : ℕ → Option (List ℕ)) (section : PerfFileSection) (old : State) (e : Error) (new : State) → EntriesReadError number attr_size names section old e new → P e
    entries_in number attr_size names section old e new (inl items) = entry_in number attr_size old _ e new items.error
    entries_in number attr_size names section old e new (inr ids) = elim ids.error.error_here [ inl far ↦ attr_in e far.1 | inr end_fits_u64 ↦ truncation_in _ old _ e new end_fits_u64.1 ]

    pub descriptions_in : P Memory → (number : ℕ → List ℕ → ℕ) (attr_size : ℕ) (names : ℕ → Option (List ℕ)) (section : PerfFileSection) (old : State) (e : Error) (new : State) → ReadsDescriptions number attr_size names section old (Err e) new → P e
    descriptions_in memory number attr_size names section old e new (inl (far, is, same)) = attr_in e is
    descriptions_in memory number attr_size names section old e new (inr (can, error)) = unless_memory P memory e (λ other. entries_in number attr_size names section old e new (error.1 other))

-- ---- sets that contain the errors of inconsistent attributes

module _ (P : Error → Type 0) (missing : (i : ℕ) → P (NoIdentifierDespiteMultiEvent i)) (differs : (i : ℕ) → P (InconsistentSampleIdAllWithMultiEvent i)) where
  inconsistency_is_in : (b : Inconsistency) → P (error_of_inconsistency b)
  inconsistency_is_in (missing_identifier i) = missing i
  inconsistency_is_in (sample_id_all_differs i) = differs i

  pub inconsistency_in : (e : Error) (b : Inconsistency) → e ≡ error_of_inconsistency b → P e
  inconsistency_in e b is = subst P (sym is) (inconsistency_is_in b)

-- ---- opening a file

pub file_io : (e : Error) → IsIoError e → IsFileOpeningError e
file_io = io_in IsFileOpeningError (λ _. tt)

pub file_bytes : (old new : State) (e : Error) → (e ≢ Memory → (IsUnexpectedEof e ⊎ SourceErrorInBytes old e new)) → IsFileOpeningError e
file_bytes old new e cause = unless_memory IsFileOpeningError tt e (λ other. elim (cause other) [ inl is ↦ eof_in IsFileOpeningError (λ _. tt) e is | inr source ↦ bytes_in IsFileOpeningError (λ _. tt) old new e source ])

pub file_inconsistency : (e : Error) (b : Inconsistency) → e ≡ error_of_inconsistency b → IsFileOpeningError e
file_inconsistency = inconsistency_in IsFileOpeningError (λ _. tt) (λ _. tt)

pub file_memory : (e : Error) → e ≡ Memory → IsFileOpeningError e
file_memory e is = subst IsFileOpeningError (sym is) tt

pub file_event_desc : (order : Endianness) (desc : List ℕ) (r : Result (Vec AttributeDescription Global) Error) → ParsesEventDesc order desc r → IfErr r IsFileOpeningError
file_event_desc order desc (Ok v) parses = tt
file_event_desc order desc (Err e) parses = unless_memory IsFileOpeningError tt e (λ other. event_desc_in IsFileOpeningError (λ _. tt) (inr refl) (λ _ _. tt) (number_in order) e desc (parses other))

file_descriptions : (number : ℕ → List ℕ → ℕ) (attr_size : ℕ) (names : ℕ → Option (List ℕ)) (section : PerfFileSection) (old : State) (e : Error) (new : State) → ReadsDescriptions number attr_size names section old (Err e) new → IsFileOpeningError e
file_descriptions = descriptions_in IsFileOpeningError (λ _. tt) (inr refl) (λ _ _. tt) tt

pub file_types : (order : Endianness) (attr_size : ℕ) (section : PerfFileSection) (old : State) (r : Result (Vec AttributeDescription Global) Error) (new : State) → ReadsTypesSection order attr_size section old r new → IfErr r IsFileOpeningError
file_types order attr_size section old (Ok v) new reads = tt
file_types order attr_size section old (Err e) new reads = file_descriptions (number_in order) attr_size (type_name_at []) section old e new reads

pub file_simpleperf : (order : Endianness) (attr_size : ℕ) (section : PerfFileSection) (types : List SimplePerfEventType) (old : State) (r : Result (Vec AttributeDescription Global) Error) (new : State) → ReadsSimpleperfSection order attr_size section types old r new → IfErr r IsFileOpeningError
file_simpleperf order attr_size section types old (Ok v) new reads = tt
file_simpleperf order attr_size section types old (Err e) new (inl (small, is, same)) = subst IsFileOpeningError (sym is) (inr refl)
file_simpleperf order attr_size section types old (Err e) new (inr (fits, reads)) = file_descriptions (number_in order) (attr_size - 16) (type_name_at types) section old e new reads

pub file_attrs : (order : Endianness) (attr_size : ℕ) (section : PerfFileSection) (old : State) (r : Result (Vec AttributeDescription Global) Error) (new : State) → ReadsAttrsSection order attr_size section old r new → IfErr r IsFileOpeningError
file_attrs order attr_size section old (Ok v) new reads = tt
file_attrs order attr_size section old (Err e) new (inl (invalid, is, same)) = subst IsFileOpeningError (sym is) (inr refl)
file_attrs order attr_size section old (Err e) new (inr (valid, reads)) =
    unless_memory IsFileOpeningError tt e (λ other. frame_read_in IsFileOpeningError (λ _. tt) (inr refl) (λ _ _. tt) (number_in order) attr_size old _ e new (reads.1 other).error)

meta_info_error : (info : List ℕ) (e : Error) → IsMetaInfoError info e → IsFileOpeningError e
meta_info_error info StringUtf8 is = tt
meta_info_error info NoEventTypesInSimpleperfMetaInfo is = tt
meta_info_error info _ is = absurd is

pub file_meta_info : (info : List ℕ) (e : Error) → ParsesMetaEventTypes info (Err e) → IsFileOpeningError e
file_meta_info info e parses = unless_memory IsFileOpeningError tt e (λ other. meta_info_error info e (parses other))

pub file_reader : {R : Type 0} (state : R → State) (source : R) (opening : FileOpening) (r : Result (PerfFileReader R) Error) → BuildsReader state source opening r → IfErr r IsFileOpeningError
file_reader state source opening (Ok r) builds = tt
file_reader state source opening (Err e) is = file_memory e is

-- ---- opening a pipe

pipe_metadata : (order : Endianness) (kind : ℕ) (body : List ℕ) (e : Error) → IsMetadataError order kind body e → IsPipeOpeningError e
pipe_metadata order kind body e (inl truncated) = eof_in IsPipeOpeningError (λ _. tt) e truncated.0
pipe_metadata order kind body e (inr small) = invalid_data_in IsPipeOpeningError (λ _. tt) e small.0

pipe_record : (order : Endianness) (offset : ℕ) (rest : List ℕ) (e : Error) → IsMetadataRecordError order offset rest e → IsPipeOpeningError e
pipe_record order offset rest e (inl small) = subst IsPipeOpeningError (sym small.0) tt
pipe_record order offset rest e (inr (inl far)) = subst IsPipeOpeningError (sym far.0) (inl refl)
pipe_record order offset rest e (inr (inr (inl truncated))) = eof_in IsPipeOpeningError (λ _. tt) e truncated.0
pipe_record order offset rest e (inr (inr (inr (p, starts, error)))) = pipe_metadata order _ _ e error

pipe_list : (order : Endianness) (pieces : List (List ℕ)) (e : Error) → IsMetadataListError order pieces e → IsPipeOpeningError e
pipe_list order pieces e (inl none) = subst IsPipeOpeningError (sym none.0) tt
pipe_list order pieces e (inr (inl (bytes, some, there, error))) = event_desc_in IsPipeOpeningError (λ _. tt) (inr refl) (λ _ _. tt) (number_in order) e bytes error
pipe_list order pieces e (inr (inr (b, readable, breaks, is))) = inconsistency_in IsPipeOpeningError (λ _. tt) (λ _. tt) e b is

pipe_bytes : (bytes : List ℕ) (e : Error) → IsPipeError bytes e → IsPipeOpeningError e
pipe_bytes bytes e (inl too_few) = eof_in IsPipeOpeningError (λ _. tt) e too_few.0
pipe_bytes bytes e (inr (inl unknown)) = subst IsPipeOpeningError (sym unknown.0) tt
pipe_bytes bytes e (inr (inr (inl truncated))) = subst IsPipeOpeningError (sym truncated.1) tt
pipe_bytes bytes e (inr (inr (inr after))) = elim after.metadata_error.cause [
  | inl error ↦ pipe_record after.endian _ _ e error
  | inr listed ↦ pipe_list after.endian _ e listed.1
]

pub pipe_opening : (old new : State) (e : Error) → FailsBy IsPipeError old e new → IsPipeOpeningError e
pipe_opening old new e fails = unless_memory IsPipeOpeningError tt e (λ other. elim (fails.cause other) [
  | inl each ↦ pipe_bytes _ e (each [])
  | inr rest ↦ elim rest [ inl ended ↦ pipe_bytes _ e ended.1 | inr failed ↦ io_in IsPipeOpeningError (λ _. tt) e failed.0 ]
])

-- ---- reading a record

record_event_desc : (order : Endianness) (e : Error) (bytes : List ℕ) → IsEventDescError (number_in order) e bytes → IsRecordError e
record_event_desc order e bytes error = event_desc_in IsRecordError (λ _. tt) (inr refl) (λ _ _. tt) (number_in order) e bytes error

layout_error : (f : LayoutError) (e : Error) → IsErrorFor f e → IsRecordError e
layout_error truncated_header e is = eof_in IsRecordError (λ _. tt) e is
layout_error size_below_header e is = subst IsRecordError (sym is) tt
layout_error end_overflows e is = subst IsRecordError (sym is) (inl refl)
layout_error truncated_body e is = subst IsRecordError (sym is) (inl refl)
layout_error compressed_record e is = unsupported_in IsRecordError (λ _. tt) e is
layout_error aux_body_too_short e is = eof_in IsRecordError (λ _. tt) e is
layout_error aux_end_overflows e is = subst IsRecordError (sym is) (inl refl)
layout_error truncated_aux_data e is = subst IsRecordError (sym is) (inl refl)
layout_error (invalid_metadata truncated_metadata) e is = eof_in IsRecordError (λ _. tt) e is
layout_error (invalid_metadata attr_size_too_small) e is = invalid_data_in IsRecordError (λ _. tt) e is
layout_error (invalid_event_desc order bytes) e is = record_event_desc order e bytes is
layout_error (inconsistent_attributes b) e is = inconsistency_in IsRecordError (λ _. tt) (λ _. tt) e b is

source_error : (order : Endianness) (bound : SectionSize) (old : State) (consumed : List ℕ) (e : Error) (new : State) → SourceErrorInRecord order bound old consumed e new → IsRecordError e
source_error order bound old consumed e new (inl (too_few, inl (is, failed))) = io_in IsRecordError (λ _. tt) e is
source_error order bound old consumed e new (inl (too_few, inr (is, file, paused))) = eof_in IsRecordError (λ _. tt) e is
source_error order bound old consumed e new (inr (truncated, is, source)) = subst IsRecordError (sym is) (inl refl)

module _ {R : Type 0} (state : R → State) (old new : PerfRecordIter R) (file : PerfFile) (e : Error) where
  mismatch : (consumed : List ℕ) → IsMismatchedPerfFile state old file consumed e → IsRecordError e
  mismatch consumed m = elim m.cause [
    | inl counts ↦ invalid_input_in IsRecordError (λ _. tt) e counts.0
    | inr names ↦ record_event_desc old.endian e names.3.0 names.3.2
  ]

  cause_in : (markers consumed : List ℕ) → IsErrorCause state old file markers consumed e new → IsRecordError e
  cause_in markers consumed (inl seen_here) = elim seen_here [
    | inl each ↦ (let here = each [] in layout_error here.0 e here.3)
    | inr whole ↦ layout_error whole.1.0 e whole.1.3
  ]
  cause_in markers consumed (inr (inl source)) = source_error old.endian (section_size_of state old) (iter_source_state state old) consumed e (iter_source_state state new) source
  cause_in markers consumed (inr (inr other)) = mismatch consumed other.0

  pub record_error : (file' : PerfFile) → ReturnsError state old file e new file' → IsRecordError e
  record_error file' r = at old.stage refl
    where
      at : (s : Stage) → old.stage ≡ s → IsRecordError e
      at Running is = (let s = r.if_running is in unless_memory IsRecordError tt e (λ other. cause_in s.markers s.consumed_bytes (s.cause other)))
      at Failed is = subst IsRecordError (sym (r.if_failed is).0) tt
      at Ended is = absurd (r.not_ended is)
