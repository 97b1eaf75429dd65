-- Lemmas on several calls of an iterator, and on reading files.
use Rattle.std.proofs.Common.{◌≡◌, ◌≢◌, ℕ, ◌+◌, ◌^◌, ◌<◌, ◌≤◌, ◌++◌, List, [], ◌∷◌, length, drop, refl, sym, ap, ◌∙◌, subst, arith, inl, inr, append_assoc, append-nil, length-append, Option, None, Some}
use Rattle.std.specs.Prelude.{◌⊎◌, IfSome, IsTrue}
use Rattle.std.proofs.Math.Seq.{drop-append_seam}
use Rattle.std.proofs.lemmas.List.{length-map, drop-drop}
use Rattle.perfdata_sources.specs.Endian.{number_in}
use Rattle.perfdata_sources.specs.Source.{State, Position, Consumed, SourceFailed, SourcePaused, prepend}
use Rattle.perfdata_sources.specs.declared.endian.Endianness.{Endianness}
use Rattle.perfdata_sources.proofs.ReadErrors.{failed_after_seek, paused_after_seek}
use Rattle.perfdata_sources.proofs.ConsumedLemmas.{consumed_none, consumed_more, failed_later, paused_later}
use Rattle.perfdata_sources.proofs.Numbers.{in_reads_first}
use Rattle.perfdata_sections.specs.declared.error.Error.{Error}
use Rattle.perfdata_sections.specs.declared.error.Error.TheVariants.{Memory}
use Rattle.perfdata_sections.proofs.EventPrefixes.{event_desc_or_error}
use Rattle.linux_perf_data.specs.declared.records.iter.PerfRecordIter.{PerfRecordIter}
use Rattle.linux_perf_data.specs.declared.records.iter.Stage.TheVariants.{Running, Ended}
use Rattle.linux_perf_data.specs.declared.perf_file.PerfFile.{PerfFile}
use Rattle.linux_perf_data.specs.Attribute.{Attribute, AreConsistent}
use Rattle.linux_perf_data.specs.Descriptions.{described_attribute}
use Rattle.linux_perf_data.specs.AttributeLookup.{Represents}
use Rattle.linux_perf_data.specs.LateMetadata.{AccumulatesMetadata, UpdatesPerfFile, SamePerfFile}
use Rattle.linux_perf_data.specs.Layout.{ConsistsOfMarkers, IsEnd, SectionSize, RecordView, LayoutEnd, RemainingRecords, record_views, attributes_in_views, ends_complete, ends_with_error, LayoutError}
use Rattle.linux_perf_data.specs.FeatureNumbers.{event_desc}
use Rattle.linux_perf_data.specs.Names.{IsReadableOrAbsent}
use Rattle.linux_perf_data.specs.RecordFraming.{IsErrorFor}
use Rattle.linux_perf_data.specs.Iter.{iter_source_state, section_size_of, HasRemainingRecords, ReturnsRecord, ReturnsEnd, ReturnsError, IsMismatchedPerfFile}
use Rattle.linux_perf_data.specs.Reading.{AreFirstRecords, ReturnsRecords, SourceErrorInCall, SourceErrorInSomeRecord, end_after}
use Rattle.linux_perf_data.specs.steps.Reading.{ReadSoFar, AreFirstRemaining, EndsWithError, EndsComplete, HasMatchingFile}
use Rattle.linux_perf_data.specs.OpenedFile.{FileParsed, FileOpensAt, FileRecords}
use Rattle.linux_perf_data.specs.PerfFile.{endian_of_file, attributes_of_file, feature_data_in_file, descriptions_of_file}
use Rattle.linux_perf_data.specs.FileReading.{ReadingFilePartly, ReadingFileToError, ReadingFileToEnd, HoldsForFile, SourceErrorInFile}
use Rattle.linux_perf_data.proofs.IterCalls.{read_so_far_none, read_so_far_more, read_so_far_end, read_so_far_reason}
use Rattle.linux_perf_data.proofs.LayoutUniqueness.{layout_exists}
use Rattle.linux_perf_data.proofs.MetadataAccumulation.{holds_none, holds_more, event_desc_stays_valid}
use Rattle.linux_perf_data.proofs.InMemoryPlaces.{section_view}

-- the attributes that an iterator's lookup represents are consistent
represented_consistent : {R : Type 0} (it : PerfRecordIter R) (attrs : List Attribute) → Represents it.endian it.attribute_lookup attrs → AreConsistent attrs
represented_consistent it attrs k = k.consistent

pub if_some_each : {T : Type 0} (o : Option T) (P Q : T → Type 0) → ((x : T) → P x → Q x) → IfSome o P → IfSome o Q
if_some_each None P Q each p = tt
if_some_each (Some x) P Q each p = each x p

-- a source error is also one since an earlier state, if failures and pauses are
pub source_error_since : (order : Endianness) (bound : SectionSize) (a b c : State) (e : Error) → (SourceFailed b c → SourceFailed a c) → (SourcePaused b c → SourcePaused a c) → SourceErrorInSomeRecord order bound b e c → SourceErrorInSomeRecord order bound a e c
source_error_since order bound a b c e fails pauses (bytes_read, inl (too_few, inl (is, failed))) = (bytes_read, inl (too_few, inl (is, fails failed)))
source_error_since order bound a b c e fails pauses (bytes_read, inl (too_few, inr (is, file, paused))) = (bytes_read, inl (too_few, inr (is, file, pauses paused)))
source_error_since order bound a b c e fails pauses (bytes_read, inr (many, is, inl failed)) = (bytes_read, inr (many, is, inl (fails failed)))
source_error_since order bound a b c e fails pauses (bytes_read, inr (many, is, inr paused)) = (bytes_read, inr (many, is, inr (paused.0, pauses paused.1)))

-- an infallible source has no source error
pub source_error_none : (order : Endianness) (bound : SectionSize) (a c : State) (e : Error) → IsTrue a.steady → SourceErrorInSomeRecord order bound a e c → ⊥
source_error_none order bound a c e steady (bytes_read, inl (too_few, inl (is, failed))) = failed.not_steady steady
source_error_none order bound a c e steady (bytes_read, inl (too_few, inr (is, file, paused))) = paused.not_steady steady
source_error_none order bound a c e steady (bytes_read, inr (many, is, inl failed)) = failed.not_steady steady
source_error_none order bound a c e steady (bytes_read, inr (many, is, inr paused)) = paused.1.not_steady steady

-- the bytes after a prefix
pub after_prefix_is : (o unread : Option (List ℕ)) (prefix all : List ℕ) → o ≡ prepend prefix unread → o ≡ Some all → unread ≡ Some (drop (length prefix) all)
after_prefix_is o None prefix all is split = (let e : Some all ≡ None = sym split ∙ is in absurd cc)
after_prefix_is o (Some rest) prefix all is split =
    let e : Some all ≡ Some (prefix ++ rest) = sym split ∙ is in
    let same : all ≡ prefix ++ rest = ap (λ s. elim s [ None ↦ [] | Some x ↦ x ]) e in
    ap Some (sym (drop-append_seam prefix rest) ∙ ap (drop (length prefix)) (sym same))

module _ {R : Type 0} (state : R → State) where
  -- ---- several calls

  -- one more call
  pub returns_records_more : (old now new : PerfRecordIter R) (file now_file file' : PerfFile) (records : List RecordView) (h : RecordView) → ReturnsRecords state old file records now now_file → ReturnsRecord state now now_file h new file'
      → ReturnsRecords state old file (records ++ h ∷ []) new file'
  returns_records_more old now new file now_file file' [] h (same, same_file) step = (new, (file', subst (λ f. ReturnsRecord state old f h new file') same_file (subst (λ i. ReturnsRecord state i now_file h new file') same step), (refl, refl)))
  returns_records_more old now new file now_file file' (r ∷ rs) h (next, (next_file, first, more)) step = (next, (next_file, first, returns_records_more next now new next_file now_file file' rs h more step))

  handing_along : (old it now : PerfRecordIter R) (file file' : PerfFile) (before records : List RecordView) → ReadSoFar state old before it → ReturnsRecords state it file records now file' → ReadSoFar state old (before ++ records) now
  handing_along old it now file file' before [] h (same, same_file) = subst (λ l. ReadSoFar state old l now) (sym (append-nil before)) (subst (ReadSoFar state old before) (sym same) h)
  handing_along old it now file file' before (r ∷ rs) h (next, (next_file, step, more)) =
      subst (λ l. ReadSoFar state old l now) (append_assoc before (r ∷ []) rs) (handing_along old next now next_file file' (before ++ r ∷ []) rs (read_so_far_more state old it next file next_file before r h step) more)

  pub read_so_far_of : (it now : PerfRecordIter R) (file file' : PerfFile) (records : List RecordView) → ReturnsRecords state it file records now file' → ReadSoFar state it records now
  read_so_far_of it now file file' records all = handing_along it it now file file' [] records (read_so_far_none state it) all

  -- the accumulated metadata, with one more record
  holds_step : (old now new : PerfRecordIter R) (first file file' : PerfFile) (records : List RecordView) (h : RecordView) → ReadSoFar state old records now → AccumulatesMetadata old.endian (section_size_of state old) records first file
      → ReturnsRecord state now file h new file' → AccumulatesMetadata old.endian (section_size_of state old) (records ++ h ∷ []) first file'
  holds_step old now new first file file' records h handing holds step =
      holds_more old.endian (section_size_of state old) records h first file file' holds
      (subst (λ o. UpdatesPerfFile o (section_size_of state old) h.record_type h.body file file') handing.same_input.same_endian (subst (λ b. UpdatesPerfFile now.endian b h.record_type h.body file file') handing.same_input.section_size step.file_updates))

  holds_along : (old it now : PerfRecordIter R) (first file file' : PerfFile) (before records : List RecordView) → ReadSoFar state old before it → AccumulatesMetadata old.endian (section_size_of state old) before first file
      → ReturnsRecords state it file records now file' → AccumulatesMetadata old.endian (section_size_of state old) (before ++ records) first file'
  holds_along old it now first file file' before [] h holds (same, same_file) = subst (λ l. AccumulatesMetadata old.endian (section_size_of state old) l first file') (sym (append-nil before)) (subst (AccumulatesMetadata old.endian (section_size_of state old) before first) (sym same_file) holds)
  holds_along old it now first file file' before (r ∷ rs) h holds (next, (next_file, step, more)) =
      subst (λ l. AccumulatesMetadata old.endian (section_size_of state old) l first file') (append_assoc before (r ∷ []) rs)
      (holds_along old next now first next_file file' (before ++ r ∷ []) rs (read_so_far_more state old it next file next_file before r h step) (holds_step old it next first file next_file before r h holds step) more)

  pub holds_of : (it now : PerfRecordIter R) (file file' : PerfFile) (records : List RecordView) → ReturnsRecords state it file records now file' → AccumulatesMetadata it.endian (section_size_of state it) records file file'
  holds_of it now file file' records all = holds_along it it now file file file' [] records (read_so_far_none state it) (holds_none it.endian (section_size_of state it) file) all

  -- a `PerfFile` that matches its iterator still matches it after a record
  own_after : (it new : PerfRecordIter R) (file file' : PerfFile) (h : RecordView) → HasMatchingFile state it file → ReturnsRecord state it file h new file' → HasMatchingFile state new file'
  own_after it new file file' h own step = record {
    represents = subst (Represents new.endian new.attribute_lookup) (sym step.file_updates.attributes) (step.represents (attributes_of_file file) own.represents);
    event_desc_readable = λ pipe. subst (λ o. IsReadableOrAbsent o (feature_data_in_file file' event_desc)) (sym step.same_input.same_endian)
        (event_desc_stays_valid it.endian (section_size_of state it) h.record_type h.body file file' (own.event_desc_readable (sym step.same_input.section_size ∙ pipe)) step.file_updates);
  }

  pub own_of : (it now : PerfRecordIter R) (file file' : PerfFile) (records : List RecordView) → HasMatchingFile state it file → ReturnsRecords state it file records now file' → HasMatchingFile state now file'
  own_of it now file file' [] own (same, same_file) = subst (λ i. HasMatchingFile state i file') (sym same) (subst (HasMatchingFile state it) (sym same_file) own)
  own_of it now file file' (r ∷ rs) own (next, (next_file, step, more)) = own_of next now next_file file' rs (own_after it next file next_file r own step) more

  pub runs_of : (it now : PerfRecordIter R) (file file' : PerfFile) (records : List RecordView) → it.stage ≡ Running → ReturnsRecords state it file records now file' → now.stage ≡ Running
  runs_of it now file file' [] runs (same, _) = ap (λ i. i.stage) same ∙ runs
  runs_of it now file file' (r ∷ rs) runs (next, (next_file, step, more)) = runs_of next now next_file file' rs step.stage_running more

  pub fits_of : (it now : PerfRecordIter R) (file file' : PerfFile) (records : List RecordView) → it.offset < 2 ^ 64 → ReturnsRecords state it file records now file' → now.offset < 2 ^ 64
  fits_of it now file file' [] fits (same, _) = subst (λ i. i.offset < 2 ^ 64) (sym same) fits
  fits_of it now file file' (r ∷ rs) fits (next, (next_file, step, more)) = fits_of next now next_file file' rs step.offset_fits more

  -- an iterator that had ended returned no records
  pub none_of : (it now : PerfRecordIter R) (file file' : PerfFile) (records : List RecordView) → it.stage ≡ Ended → ReturnsRecords state it file records now file' → (records ≡ []) × (now ≡ it) × (file' ≡ file)
  none_of it now file file' [] ended (same, same_file) = (refl, same, same_file)
  none_of it now file file' (r ∷ rs) ended (next, (next_file, step, more)) = (let ran = step.was_running in absurd cc)

  -- the iterator's offset is after the last of them
  pub offset_of : (it now : PerfRecordIter R) (file file' : PerfFile) (records : List RecordView) → ReturnsRecords state it file records now file' → now.offset ≡ end_after it.offset records
  offset_of it now file file' [] (same, _) = ap (λ i. i.offset) same
  offset_of it now file file' (r ∷ rs) (next, (next_file, step, more)) = offset_of next now next_file file' rs more ∙ ap (λ n. end_after n rs) step.offset

  -- the number of consumed bytes is the difference of the offsets
  pub record ConsumedRecords (it now : PerfRecordIter R) : Type 0 where
    pub prefix : List ℕ
    pub consumed : Consumed (iter_source_state state it) prefix (iter_source_state state now)
    pub long : now.offset ≡ it.offset + length prefix

  pub consumed_of : (it now : PerfRecordIter R) (file file' : PerfFile) (records : List RecordView) → ReturnsRecords state it file records now file' → ConsumedRecords it now
  consumed_of it now file file' [] (same, _) = record {
    prefix = [];
    consumed = subst (λ i. Consumed (iter_source_state state it) [] (iter_source_state state i)) (sym same) (consumed_none (iter_source_state state it));
    long = (let e = ap (λ i. i.offset) same in omega (arith, e));
  }
  consumed_of it now file file' (r ∷ rs) (next, (next_file, step, more)) =
      let later = consumed_of next now next_file file' rs more in
      let one : List ℕ = step.markers ++ (step.header_bytes ++ r.body) in
      record {
        prefix = one ++ later.prefix;
        consumed = consumed_more _ _ _ one later.prefix step.consumes later.consumed;
        long =
            let a = later.long in let b = step.offset in let c = step.record_offset in let d = step.header_len in
            omega (arith, a, b, c, d, length-append one later.prefix, length-append step.markers (step.header_bytes ++ r.body), length-append step.header_bytes r.body);
      }

  -- the records of a file's section add no metadata
  untouched_of : (it now : PerfRecordIter R) (file file' : PerfFile) (records : List RecordView) → section_size_of state it ≢ None → ReturnsRecords state it file records now file' → file' ≡ file
  untouched_of it now file file' [] section (same, same_file) = same_file
  untouched_of it now file file' (r ∷ rs) section (next, (next_file, step, more)) = untouched_of next now next_file file' rs (λ none. section (sym step.same_input.section_size ∙ none)) more ∙ step.file_unchanged_otherwise (inl section)

  -- ---- the returned records among the remaining records

  -- the returned records are a prefix of the remaining records
  first_in : (old now : PerfRecordIter R) (records : List RecordView) → ReadSoFar state old records now → now.offset < 2 ^ 64 → AreFirstRemaining state old records
  first_in old now records h fits attrs k =
      let later = attrs ++ attributes_in_views old.endian (section_size_of state old) records in
      let knows = h.represents attrs k in
      let go : (n : Option (List ℕ)) → (iter_source_state state now).bytes ≡ n → IfSome (iter_source_state state old).bytes (λ bytes. AreFirstRecords (RemainingRecords old.endian bytes (section_size_of state old) old.offset old.round attrs) records) =
      λ n. elim n as (λ n. (iter_source_state state now).bytes ≡ n → IfSome (iter_source_state state old).bytes (λ bytes. AreFirstRecords (RemainingRecords old.endian bytes (section_size_of state old) old.offset old.round attrs) records)) [
        | None ↦ (λ is. subst (λ o. IfSome o (λ bytes. AreFirstRecords (RemainingRecords old.endian bytes (section_size_of state old) old.offset old.round attrs) records)) (sym (h.consumes.bytes ∙ ap (prepend h.consumed_bytes) is)) tt)
        | Some y ↦ (λ is.
            let layout = layout_exists now.endian y (section_size_of state now) now.offset later fits (represented_consistent now later knows) in
            let more = record_views now.endian (section_size_of state now) now.offset now.round later layout.0 in
            let remain : HasRemainingRecords state now later more layout.1.0 =
            subst (λ o. IfSome o (λ bytes. RemainingRecords now.endian bytes (section_size_of state now) now.offset now.round later more layout.1.0)) (sym is) (record { raw_records = layout.0; layout = layout.1.1; elements = refl }) in
            if_some_each (iter_source_state state old).bytes (λ bytes. RemainingRecords old.endian bytes (section_size_of state old) old.offset old.round attrs (records ++ more) layout.1.0)
            (λ bytes. AreFirstRecords (RemainingRecords old.endian bytes (section_size_of state old) old.offset old.round attrs) records) (λ bytes c. (more, (layout.1.0, c))) (h.extends_remaining attrs k more layout.1.0 remain))
      ] in
      go (iter_source_state state now).bytes refl

  pub first_of : (it now : PerfRecordIter R) (file file' : PerfFile) (records : List RecordView) → it.offset < 2 ^ 64 → ReturnsRecords state it file records now file' → AreFirstRemaining state it records
  first_of it now file file' records fits all = first_in it now records (read_so_far_of it now file file' records all) (fits_of it now file file' records fits all)

  -- they are all remaining records if the iterator reports the end
  pub whole_of : (it now new : PerfRecordIter R) (file now_file file' : PerfFile) (records : List RecordView) → it.stage ≡ Running → ReturnsRecords state it file records now now_file → ReturnsEnd state now now_file new file' → EndsComplete state it records new
  whole_of it now new file now_file file' records runs all ended = read_so_far_end state it now new now_file file' records (read_so_far_of it now file now_file records all) (runs_of it now file now_file records runs all) ended

  -- a matching `PerfFile` causes no mismatch error
  not_foreign : (it : PerfRecordIter R) (file : PerfFile) (bytes_read : List ℕ) (e : Error) → HasMatchingFile state it file → IsMismatchedPerfFile state it file bytes_read e → ⊥
  not_foreign it file bytes_read e own foreign = elim foreign.cause [
    | inl counts ↦ counts.1 (attributes_of_file file) own.represents (sym (length-map (descriptions_of_file file) described_attribute))
    | inr names ↦
        let can : IsReadableOrAbsent it.endian (Some names.3.0) = subst (IsReadableOrAbsent it.endian) names.3.1 (own.event_desc_readable foreign.in_pipe) in
        event_desc_or_error (number_in it.endian) (in_reads_first it.endian) e names.3.0 can.0 names.3.2 can.1
  ]

  -- a source error of a call
  abbrev ErrorInCall : PerfRecordIter R → Error → PerfRecordIter R → Type 0
  ErrorInCall it e new = SourceErrorInSomeRecord it.endian (section_size_of state it) (iter_source_state state it) e (iter_source_state state new)

  -- it is also one since the first of several calls
  error_since_start : (it now new : PerfRecordIter R) (records : List RecordView) (e : Error) → ReadSoFar state it records now → ErrorInCall now e new → ErrorInCall it e new
  error_since_start it now new records e h source_error =
      subst (λ o. SourceErrorInSomeRecord o (section_size_of state it) (iter_source_state state it) e (iter_source_state state new)) h.same_input.same_endian
      (subst (λ b. SourceErrorInSomeRecord now.endian b (iter_source_state state it) e (iter_source_state state new)) h.same_input.section_size
      (source_error_since now.endian (section_size_of state now) (iter_source_state state it) (iter_source_state state now) (iter_source_state state new) e (failed_later (iter_source_state state it) (iter_source_state state now) (iter_source_state state new) h.consumed_bytes h.consumes) (paused_later (iter_source_state state it) (iter_source_state state now) (iter_source_state state new) h.consumed_bytes h.consumes) source_error))

  -- after an error they are all records before a layout error, or the source has an error in that call
  pub stops_in_call : (it now new : PerfRecordIter R) (file now_file file' : PerfFile) (records : List RecordView) (e : Error) → it.stage ≡ Running → HasMatchingFile state it file → ReturnsRecords state it file records now now_file
      → ReturnsError state now now_file e new file' → e ≢ Memory → EndsWithError state it records e ⊎ ErrorInCall now e new
  stops_in_call it now new file now_file file' records e runs own all error other =
      elim (read_so_far_reason state it now new now_file file' records e (read_so_far_of it now file now_file records all) (runs_of it now file now_file records runs all) error other) [
        | inl layout_error ↦ inl layout_error
        | inr reason ↦ elim reason [ inl source_error ↦ inr source_error | inr foreign ↦ absurd (not_foreign now now_file foreign.0 e (own_of it now file now_file records own all) foreign.1) ]
      ]

  -- the same, with a source error since the first call
  pub stops_of : (it now new : PerfRecordIter R) (file now_file file' : PerfFile) (records : List RecordView) (e : Error) → it.stage ≡ Running → HasMatchingFile state it file → ReturnsRecords state it file records now now_file
      → ReturnsError state now now_file e new file' → e ≢ Memory → EndsWithError state it records e ⊎ SourceErrorInSomeRecord it.endian (section_size_of state it) (iter_source_state state it) e (iter_source_state state new)
  stops_of it now new file now_file file' records e runs own all error other = elim (stops_in_call it now new file now_file file' records e runs own all error other) [
    | inl ends ↦ inl ends
    | inr source_error ↦ inr (error_since_start it now new records e (read_so_far_of it now file now_file records all) source_error)
  ]

  -- a source error of a call shows that the source isn't infallible
  pub source_error_in_call : (old : State) (it now new : PerfRecordIter R) (file now_file : PerfFile) (records : List RecordView) (e : Error) → (IsTrue old.steady → IsTrue (iter_source_state state it).steady) → ReturnsRecords state it file records now now_file → ErrorInCall now e new → SourceErrorInCall state old now e new
  source_error_in_call old it now new file now_file records e steady all source_error = record {
    not_steady = λ is. source_error_none now.endian (section_size_of state now) (iter_source_state state now) (iter_source_state state new) e ((read_so_far_of it now file now_file records all).consumes.steady (steady is)).steady source_error;
    source_error = source_error;
  }

  -- ---- of a file

  abbrev RecordsIn : (p : Position) (file : PerfFile) (it : PerfRecordIter R) → FileOpensAt state p file it → List RecordView → LayoutEnd → Type 0
  RecordsIn p file it o = FileRecords p (endian_of_file file) o.header (attributes_of_file file)

  -- a property of all records that an iterator returns holds for a file's records
  pub of_file : (p : Position) (file : PerfFile) (it : PerfRecordIter R) (o : FileOpensAt state p file it) → Represents it.endian it.attribute_lookup (attributes_of_file file)
      → (P : (List RecordView → LayoutEnd → Type 0) → Type 0)
      → ((Remain Of : List RecordView → LayoutEnd → Type 0) → ((records : List RecordView) (end : LayoutEnd) → Remain records end → Of records end) → P Remain → P Of)
      → IfSome (iter_source_state state it).bytes (λ bytes. P (RemainingRecords it.endian bytes (section_size_of state it) it.offset it.round (attributes_of_file file))) → P (RecordsIn p file it o)
  of_file p file it o knows P more is =
      let here : P (RemainingRecords it.endian (drop o.header.data_section.offset p.all_bytes) (section_size_of state it) it.offset it.round (attributes_of_file file)) =
      subst (λ b. IfSome b (λ bytes. P (RemainingRecords it.endian bytes (section_size_of state it) it.offset it.round (attributes_of_file file)))) o.bytes is in
      more _ _ (λ records end remain.
      o.iter_to_file records end (subst (λ b. IfSome b (λ bytes. RemainingRecords it.endian bytes (section_size_of state it) it.offset it.round (attributes_of_file file) records end)) (sym o.bytes) remain)) here

  first_more : (records : List RecordView) (Remain Of : List RecordView → LayoutEnd → Type 0) → ((records : List RecordView) (end : LayoutEnd) → Remain records end → Of records end) → AreFirstRecords Remain records → AreFirstRecords Of records
  first_more records Remain Of more first = (first.0, (first.1.0, more (records ++ first.0) first.1.0 first.1.1))

  error_more : (records : List RecordView) (e : Error) (Remain Of : List RecordView → LayoutEnd → Type 0) → ((records : List RecordView) (end : LayoutEnd) → Remain records end → Of records end)
      → (f : LayoutError) × Remain records (ends_with_error f) × IsErrorFor f e → (f : LayoutError) × Of records (ends_with_error f) × IsErrorFor f e
  error_more records e Remain Of more (f, remain, answers) = (f, more records (ends_with_error f) remain, answers)

  first_there : (p : Position) (file : PerfFile) (it : PerfRecordIter R) (o : FileOpensAt state p file it) → Represents it.endian it.attribute_lookup (attributes_of_file file) → (records : List RecordView) → AreFirstRemaining state it records → AreFirstRecords (RecordsIn p file it o) records
  first_there p file it o knows records first = of_file p file it o knows (λ Remain. AreFirstRecords Remain records) (first_more records) (first (attributes_of_file file) knows)

  error_there : (p : Position) (file : PerfFile) (it : PerfRecordIter R) (o : FileOpensAt state p file it) → Represents it.endian it.attribute_lookup (attributes_of_file file) → (records : List RecordView) (e : Error) → EndsWithError state it records e
      → (f : LayoutError) × RecordsIn p file it o records (ends_with_error f) × IsErrorFor f e
  error_there p file it o knows records e ends =
      of_file p file it o knows (λ Remain. (f : LayoutError) × Remain records (ends_with_error f) × IsErrorFor f e) (error_more records e)
      (if_some_each (iter_source_state state it).bytes (λ bytes. (f : LayoutError) × ((attrs : List Attribute) → Represents it.endian it.attribute_lookup attrs → RemainingRecords it.endian bytes (section_size_of state it) it.offset it.round attrs records (ends_with_error f)) × IsErrorFor f e)
      (λ bytes. (f : LayoutError) × RemainingRecords it.endian bytes (section_size_of state it) it.offset it.round (attributes_of_file file) records (ends_with_error f) × IsErrorFor f e)
      (λ bytes f. (f.0, f.1 (attributes_of_file file) knows, f.2)) ends)

  pub first_in_file : (p : Position) (file : PerfFile) (it : PerfRecordIter R) → FileOpensAt state p file it → Represents it.endian it.attribute_lookup (attributes_of_file file) → (records : List RecordView) → AreFirstRemaining state it records → HoldsForFile p (λ Remain. AreFirstRecords Remain records)
  first_in_file p file it o knows records first = (file, (o.header, o.describes, first_there p file it o knows records first))

  pub error_in_file : (p : Position) (file : PerfFile) (it : PerfRecordIter R) → FileOpensAt state p file it → Represents it.endian it.attribute_lookup (attributes_of_file file) → (records : List RecordView) (e : Error) → EndsWithError state it records e
      → HoldsForFile p (λ Remain. (f : LayoutError) × Remain records (ends_with_error f) × IsErrorFor f e)
  error_in_file p file it o knows records e ends = (file, (o.header, o.describes, error_there p file it o knows records e ends))

  -- the source error is one of the file's source
  pub file_source_error : (old : State) (file : PerfFile) (it new : PerfRecordIter R) (e : Error) → FileParsed state old file it → SourceErrorInSomeRecord it.endian (section_size_of state it) (iter_source_state state it) e (iter_source_state state new) → SourceErrorInFile old e (iter_source_state state new)
  file_source_error old file it new e o source_error = (
    it.endian,
    (
      o.in_section.0,
      subst (λ b. SourceErrorInSomeRecord it.endian b old e (iter_source_state state new)) o.in_section.1
          (source_error_since it.endian (section_size_of state it) old (iter_source_state state it) (iter_source_state state new) e (failed_after_seek old (iter_source_state state it) (iter_source_state state new) o.after_seek) (paused_after_seek old (iter_source_state state it) (iter_source_state state new) o.after_seek) source_error),
    ),
  )

  -- a file doesn't pause at its end
  pub whole_in_file : (old : State) (file : PerfFile) (it new : PerfRecordIter R) (records : List RecordView) → FileParsed state old file it → EndsComplete state it records new
      → (attrs : List Attribute) → Represents it.endian it.attribute_lookup attrs → HasRemainingRecords state it attrs records ends_complete
  whole_in_file old file it new records o (inl is) = is
  whole_in_file old file it new records o (inr paused) = (let s = o.in_section.1 in let b = paused.0 in absurd cc)

  -- the `PerfFile` of a file matches its iterator
  pub own_file : (old : State) (file : PerfFile) (it : PerfRecordIter R) → FileParsed state old file it → HasMatchingFile state it file
  own_file old file it o = record { represents = o.at_first_record.represents; event_desc_readable = λ pipe. (let s = o.in_section.1 in absurd cc) }

  -- ---- the law

  opened_at : (p : Position) (old : State) (file : PerfFile) (it : PerfRecordIter R) → old.position ≡ Some p → FileParsed state old file it → FileOpensAt state p file it
  opened_at p old file it is o = subst (λ q. IfSome q (λ p. FileOpensAt state p file it)) is o.file_opened

  is_section : (old : State) (file : PerfFile) (it : PerfRecordIter R) → FileParsed state old file it → section_size_of state it ≢ None
  is_section old file it o none = (let s = o.in_section.1 in absurd cc)

  -- the bytes that remain after a prefix of a section
  unread_after : (p : Position) (file : PerfFile) (it now : PerfRecordIter R) (o : FileOpensAt state p file it) (prefix : List ℕ) (n : ℕ) → Consumed (iter_source_state state it) prefix (iter_source_state state now) → section_size_of state now ≡ section_size_of state it → length prefix ≡ n
      → (state now.source).bytes ≡ Some (drop (o.header.data_section.offset + n) p.all_bytes)
  unread_after p file it now o prefix n consumed same long =
      let at = o.header.data_section.offset in
      let plain : iter_source_state state now ≡ state now.source = section_view now.input o.header.data_section.size (state now.source) (same ∙ o.section_size) in
      sym (ap (λ s. s.bytes) plain) ∙ after_prefix_is (iter_source_state state it).bytes (iter_source_state state now).bytes prefix (drop at p.all_bytes) consumed.bytes o.bytes
      ∙ ap (λ l. Some l) (drop-drop (length prefix) at p.all_bytes ∙ ap (λ k. drop k p.all_bytes) (omega (arith, long)))

  pub file_so_far : ReadingFilePartly state
  file_so_far p old file file' it now records is opened all =
      let o = opened_at p old file it is opened in
      let first = opened.at_first_record in
      let bytes_read = consumed_of it now file file' records all in
      let h = read_so_far_of it now file file' records all in
      let start : it.offset ≡ 0 = first.offset in
      let offset_now : now.offset ≡ end_after 0 records = offset_of it now file file' records all ∙ ap (λ n. end_after n records) start in
      let fits : it.offset < 2 ^ 64 = omega (arith, start) in (
        record {
          header = o.header;
          describes = o.describes;
          first_records = first_there p file it o first.represents records (first_of it now file file' records fits all);
          remaining = unread_after p file it now o bytes_read.prefix (end_after 0 records) bytes_read.consumed h.same_input.section_size (let l = bytes_read.long in omega (arith, l, offset_now, start));
        },
        untouched_of it now file file' records (is_section old file it opened) all,
      )

  pub file_whole : ReadingFileToEnd state
  file_whole p old file now_file file' it now new records is opened all ended =
      let o = opened_at p old file it is opened in
      let first = opened.at_first_record in
      let bytes_read = consumed_of it now file now_file records all in
      let h = read_so_far_of it now file now_file records all in
      let start : it.offset ≡ 0 = first.offset in
      let offset_now : now.offset ≡ end_after 0 records = offset_of it now file now_file records all ∙ ap (λ n. end_after n records) start in
      let runs = runs_of it now file now_file records first.stage_running all in
      let out = ended.if_running runs in
      let bound : section_size_of state now ≡ Some o.header.data_section.size = h.same_input.section_size ∙ o.section_size in
      let order : now.endian ≡ endian_of_file file = h.same_input.same_endian ∙ first.same_endian in
      let none_read : out.consumed_bytes ≡ [] = (out.section_end (λ none. (let b = bound in absurd cc))).0 in
      let consumed : Consumed (iter_source_state state it) (bytes_read.prefix ++ out.markers) (iter_source_state state new) =
      consumed_more _ _ _ bytes_read.prefix out.markers bytes_read.consumed (subst (λ l. Consumed (iter_source_state state now) l (iter_source_state state new)) (ap (λ l. out.markers ++ l) none_read ∙ append-nil out.markers) out.consumes) in
      let past : o.header.data_section.size ≤ new.offset = subst (λ b. IsEnd now.endian b new.offset out.consumed_bytes) bound out.at_end in (
        record {
          header = o.header;
          describes = o.describes;
          all_records = o.iter_to_file records ends_complete (whole_in_file old file it new records opened (whole_of it now new file now_file file' records first.stage_running all ended) (attributes_of_file file) first.represents);
          markers = out.markers;
          valid_markers = subst (λ n. ConsistsOfMarkers (endian_of_file file) (Some o.header.data_section.size) n out.markers) offset_now
              (subst (λ b. ConsistsOfMarkers (endian_of_file file) b now.offset out.markers) bound (subst (λ e. ConsistsOfMarkers e (section_size_of state now) now.offset out.markers) order out.valid_markers));
          section_skipped = (let a = out.offset in omega (arith, past, a, offset_now));
          remaining = unread_after p file it new o (bytes_read.prefix ++ out.markers) (end_after 0 records + length out.markers) consumed (out.section_size ∙ h.same_input.section_size) (let l = bytes_read.long in omega (arith, l, offset_now, start, length-append bytes_read.prefix out.markers));
        },
        ended.file_unchanged ∙ untouched_of it now file now_file records (is_section old file it opened) all,
      )

  pub file_to_error : ReadingFileToError state
  file_to_error p old file now_file file' it now new records e is opened all error other =
      let o = opened_at p old file it is opened in
      let first = opened.at_first_record in (
        elim (stops_in_call it now new file now_file file' records e first.stage_running (own_file old file it opened) all error other) [
          | inl ends ↦
              let f = error_there p file it o first.represents records e ends in
              inl (record { header = o.header; describes = o.describes; layout_error = f.0; all_records = f.1; error_matches = f.2 })
          | inr source_error ↦ inr (source_error_in_call old it now new file now_file records e (λ steady. (opened.after_seek.steady steady).steady) all source_error)
        ],
        subst (λ g. SamePerfFile g file') (untouched_of it now file now_file records (is_section old file it opened) all) error.same_file,
      )
