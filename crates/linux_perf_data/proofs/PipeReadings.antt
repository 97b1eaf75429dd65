-- Lemmas on reading pipes.
use Rattle.std.proofs.Common.{◌≡◌, ◌≢◌, ℕ, ◌≤◌, ◌++◌, List, [], ◌∷◌, length, drop, refl, sym, ap, ◌∙◌, subst, Option, None, Some, inl, inr, arith, append_assoc, append-nil, nat_eq}
use Rattle.std.specs.Prelude.{IfSome}
use Rattle.std.specs.List.{concat}
use Rattle.std.specs.Map.{update_all}
use Rattle.std.proofs.Math.Seq.{drop-append_seam}
use Rattle.perfdata_sources.specs.Source.{State, prepend, Consumed, SourcePaused}
use Rattle.perfdata_sources.specs.declared.endian.Endianness.{Endianness}
use Rattle.perfdata_sources.proofs.ReadErrors.{none_or_paused}
use Rattle.perfdata_sources.proofs.ConsumedLemmas.{failed_later, paused_later}
use Rattle.perfdata_sections.specs.declared.error.Error.{Error}
use Rattle.linux_perf_data.specs.declared.records.input.RecordInput.{RecordInput}
use Rattle.linux_perf_data.specs.declared.records.input.RecordInput.TheVariants.{Section, Pipe}
use Rattle.linux_perf_data.specs.declared.records.iter.PerfRecordIter.{PerfRecordIter}
use Rattle.linux_perf_data.specs.declared.records.iter.Stage.TheVariants.{Running}
use Rattle.linux_perf_data.specs.declared.perf_file.PerfFile.{PerfFile}
use Rattle.linux_perf_data.specs.Attribute.{Attribute, AreConsistent}
use Rattle.linux_perf_data.specs.RecordInput.{HasNoPendingHeader, section_size_in, input_source_state}
use Rattle.linux_perf_data.specs.AttributeLookup.{Represents}
use Rattle.linux_perf_data.specs.LateMetadata.{AccumulatesMetadata, IsMetadataType, SomeProvideFeature, features_in_views}
use Rattle.linux_perf_data.specs.Layout.{RecordView, LayoutEnd, ends_complete, ends_with_error, LayoutError, RemainingRecords, attributes_in_records, attributes_in_views, record_views, record_type_of, record_size_of}
use Rattle.linux_perf_data.specs.FeatureNumbers.{event_desc}
use Rattle.linux_perf_data.specs.Names.{IsReadableOrAbsent, IsReadableEventDesc}
use Rattle.linux_perf_data.specs.Iter.{iter_source_state, section_size_of, HasRemainingRecords}
use Rattle.linux_perf_data.specs.OpenedPipe.{EndsInOpening, KeepsPendingHeader, PipeParsed, without_position}
use Rattle.linux_perf_data.specs.PerfFile.{attributes_of_file, feature_data_in_file, descriptions_of_file}
use Rattle.linux_perf_data.specs.RecordFraming.{IsErrorFor}
use Rattle.linux_perf_data.specs.PipeOpening.{AreMetadata, CanOpenPipe, EndsMetadata, IsPipeError, feature_data_in}
use Rattle.linux_perf_data.specs.PipeReading.{HoldsForPipeRest, BeginsPipe, HoldsAllMetadata, IsCompletePipe, HoldsForPipe, OpensWith, ReadingPipeToEnd, ReadingPipeToError, ReadingPipePartly}
use Rattle.linux_perf_data.specs.Reading.{AreFirstRecords, ReturnsRecords, SourceErrorInSomeRecord, end_after}
use Rattle.linux_perf_data.specs.steps.Reading.{AreFirstRemaining, EndsWithError, HasMatchingFile, HasNotFailed}
use Rattle.linux_perf_data.proofs.RecordHeaders.{record_type_prefix, size_first_part}
use Rattle.linux_perf_data.proofs.IterCalls.{none_left, read_so_far_whole}
use Rattle.linux_perf_data.proofs.LayoutSteps.{nothing_more}
use Rattle.linux_perf_data.proofs.LayoutUniqueness.{layout_exists}
use Rattle.linux_perf_data.proofs.PipeOpeningUniqueness.{pipe_opening_is_unique, described_pipe_opens}
use Rattle.linux_perf_data.proofs.FileReadings.{after_prefix_is, consumed_of, first_of, read_so_far_of, holds_of, if_some_each, none_of, source_error_in_call, source_error_since, offset_of, runs_of, stops_in_call}
use Rattle.linux_perf_data.proofs.MetadataAccumulation.{can_name}

-- a property of the bytes after a prefix gives one of all bytes
holds_after_prefix : (o unread : Option (List ℕ)) (opening_prefix : List ℕ) (P Q : List ℕ → Type 0) → o ≡ prepend opening_prefix unread → ((rest : List ℕ) → unread ≡ Some rest → P rest → Q (opening_prefix ++ rest)) → IfSome unread P → IfSome o Q
holds_after_prefix o unread opening_prefix P Q is each p = go unread refl p
  where
    go : (l : Option (List ℕ)) → unread ≡ l → IfSome l P → IfSome o Q
    go None none p = subst (λ x. IfSome x Q) (sym (is ∙ ap (prepend opening_prefix) none)) tt
    go (Some rest) some p = subst (λ x. IfSome x Q) (sym (is ∙ ap (prepend opening_prefix) some)) (each rest some p)

-- the metadata records end at the record header of another type
ends_at_header : (order : Endianness) (header_bytes more : List ℕ) → length header_bytes ≡ 8 → 8 ≤ record_size_of order header_bytes → ¬ IsMetadataType (record_type_of order header_bytes) → EndsMetadata order (header_bytes ++ more)
ends_at_header order header_bytes more long least other = λ there.
    let header_long : 8 ≤ length header_bytes = omega (arith, long) in (
      subst (λ n. 8 ≤ n) (sym (size_first_part order header_bytes more header_long)) least,
      λ metadata. other (subst IsMetadataType (record_type_prefix order header_bytes more header_long) metadata),
    )

module _ (order : Endianness) (metadata_records : List (List ℕ)) (header_bytes : List ℕ) (old : State) (o : OpensWith order metadata_records old (Some header_bytes)) where
  abbrev bytes_read : List ℕ
  bytes_read = o.opening_read.header ++ (concat metadata_records ++ o.opening_read.last_bytes)

  ends_with : (more : List ℕ) → EndsMetadata order (o.opening_read.last_bytes ++ more)
  ends_with more = subst (λ l. EndsMetadata order (l ++ more)) (sym o.opening_read.metadata_end.0) (ends_at_header order header_bytes more o.opening_read.metadata_end.1 o.opening_read.metadata_end.2 o.opening_read.metadata_end.3)

  bytes_read_more : (more : List ℕ) → bytes_read ++ more ≡ o.opening_read.header ++ (concat metadata_records ++ (o.opening_read.last_bytes ++ more))
  bytes_read_more more = append_assoc o.opening_read.header (concat metadata_records ++ o.opening_read.last_bytes) more ∙ ap (λ l. o.opening_read.header ++ l) (append_assoc (concat metadata_records) o.opening_read.last_bytes more)

  pub opening_has_no_error : IfSome old.bytes (λ bytes. (e : Error) → ¬ IsPipeError bytes e)
  opening_has_no_error = go o.final_state.bytes refl
    where
      go : (l : Option (List ℕ)) → o.final_state.bytes ≡ l → IfSome old.bytes (λ bytes. (e : Error) → ¬ IsPipeError bytes e)
      go None none = subst (λ x. IfSome x (λ bytes. (e : Error) → ¬ IsPipeError bytes e)) (sym (o.opening_read.consumes.bytes ∙ ap (prepend bytes_read) none)) tt
      go (Some more) some = subst (λ x. IfSome x (λ bytes. (e : Error) → ¬ IsPipeError bytes e)) (sym (o.opening_read.consumes.bytes ∙ ap (prepend bytes_read) some))
          (λ e stops. described_pipe_opens order o.opening_read.header metadata_records (o.opening_read.last_bytes ++ more) e o.opening_read.matches o.opening_read.elements (ends_with more) o.can_open (subst (λ l. IsPipeError l e) (bytes_read_more more) stops))

  pub longest_run : (longest : List (List ℕ)) (after_opening : List ℕ) → AreMetadata order longest → EndsMetadata order after_opening → old.bytes ≡ Some (o.opening_read.header ++ (concat longest ++ after_opening)) → metadata_records ≡ longest
  longest_run longest after_opening are ends is = go o.final_state.bytes refl
    where
      go : (l : Option (List ℕ)) → o.final_state.bytes ≡ l → metadata_records ≡ longest
      go None none = (let e : Some (o.opening_read.header ++ (concat longest ++ after_opening)) ≡ None = sym is ∙ o.opening_read.consumes.bytes ∙ ap (prepend bytes_read) none in absurd cc)
      go (Some more) some =
          let e : Some (bytes_read ++ more) ≡ Some (o.opening_read.header ++ (concat longest ++ after_opening)) = sym (ap (prepend bytes_read) some) ∙ sym o.opening_read.consumes.bytes ∙ is in
          let same : bytes_read ++ more ≡ o.opening_read.header ++ (concat longest ++ after_opening) = ap (λ s. elim s [ None ↦ [] | Some x ↦ x ]) e in
          let split : concat metadata_records ++ (o.opening_read.last_bytes ++ more) ≡ concat longest ++ after_opening =
          sym (drop-append_seam o.opening_read.header (concat metadata_records ++ (o.opening_read.last_bytes ++ more))) ∙ ap (drop (length o.opening_read.header)) (sym (bytes_read_more more) ∙ same) ∙ drop-append_seam o.opening_read.header (concat longest ++ after_opening) in
          (pipe_opening_is_unique order metadata_records longest (o.opening_read.last_bytes ++ more) after_opening o.opening_read.elements are (ends_with more) ends split).0

module _ {R : Type 0} (state : R → State) (old : State) (file : PerfFile) (it : PerfRecordIter R) (o : PipeParsed state old file it) where
  abbrev pub opening_prefix : List ℕ
  opening_prefix = o.header ++ concat o.raw_records

  pub begins : (rest : List ℕ) → BeginsPipe it.endian o.raw_records (opening_prefix ++ rest) rest
  begins rest = record { header = o.header; split = append_assoc o.header (concat o.raw_records) rest; matches = o.matches; elements = o.elements }

  is_consistent : AreConsistent (attributes_of_file file)
  is_consistent = o.represents.consistent

  opening_consistent : AreConsistent (attributes_in_records it.endian None o.raw_records)
  opening_consistent = subst AreConsistent o.metadata.contents.attributes is_consistent

  -- the pipe has an attribute, and its last EVENT_DESC is readable
  some_attribute : attributes_in_records it.endian None o.raw_records ≡ [] → ⊥
  some_attribute none = (let e : [] ≡ o.represents.first_attribute ∷ o.represents.other_attributes = sym none ∙ sym o.metadata.contents.attributes ∙ o.represents.elements in absurd cc)

  readable_desc : (bytes : List ℕ) → feature_data_in it.endian o.raw_records event_desc ≡ Some bytes → IsReadableEventDesc it.endian bytes
  readable_desc bytes bytes_are = subst (IsReadableOrAbsent it.endian) (o.metadata.contents.feature_data event_desc ∙ bytes_are) (can_name it.endian (feature_data_in_file file event_desc) (descriptions_of_file file) o.metadata.names_match)

  pub can_open : CanOpenPipe it.endian o.raw_records
  can_open = record { nonempty = some_attribute; event_desc_readable = readable_desc; consistent = opening_consistent }

  -- the remaining records of the iterator are those after the opening
  abbrev pub Come : List ℕ → List RecordView → LayoutEnd → Type 0
  Come rest = RemainingRecords it.endian rest (section_size_of state it) it.offset it.round (attributes_of_file file)

  abbrev pub RemainAfter : List ℕ → List RecordView → LayoutEnd → Type 0
  RemainAfter rest = RemainingRecords it.endian rest None 0 0 (attributes_in_records it.endian None o.raw_records)

  pub same_remaining : Come ≡ RemainAfter
  same_remaining = λ i rest. RemainingRecords it.endian rest (o.section_size i) (o.offset i) (o.round i) (o.metadata.contents.attributes i)

  -- the `PerfFile` holds all metadata
  pub holds_all : (records : List RecordView) (file' : PerfFile) → AccumulatesMetadata it.endian (section_size_of state it) records file file' → HoldsAllMetadata it.endian o.raw_records records file'
  holds_all records file' h = record {
    file_endian = h.same_endian ∙ o.metadata.file_endian;
    attributes = h.attributes ∙ (λ i. o.metadata.contents.attributes i ++ attributes_in_views it.endian (o.section_size i) records);
    feature_data = λ n. h.feature_data n ∙ (λ i. update_all nat_eq (λ m. o.metadata.contents.feature_data m i) (features_in_views it.endian (o.section_size i) records) n);
    features = λ n. (
      λ is. elim ((h.features n).0 is) [
        | inl first ↦ inl ((o.metadata.contents.features n).0 first)
        | inr later ↦ inr (later.0, subst (λ b. SomeProvideFeature it.endian b n records) o.section_size later.1)
      ],
      λ is. elim is [
        | inl first ↦ (h.features n).1 (inl ((o.metadata.contents.features n).1 first))
        | inr later ↦ (h.features n).1 (inr (later.0, subst (λ b. SomeProvideFeature it.endian b n records) (sym o.section_size) later.1))
      ],
    );
    names_match = h.names_match o.metadata.names_match;
  }

  -- its `PerfFile` matches the iterator
  pub own_pipe : HasMatchingFile state it file
  own_pipe = record { represents = o.represents; event_desc_readable = λ pipe. can_name it.endian (feature_data_in_file file event_desc) (descriptions_of_file file) o.metadata.names_match }

  pub pipe_has_not_failed : HasNotFailed it
  pipe_has_not_failed = record { stage = elim o.end_of_opening [ inl k ↦ inl k.stage_running | inr e ↦ inr e.stage_ended ]; offset_fits = (let z = o.offset in omega (arith, z)) }

  module _ (k : KeepsPendingHeader state old opening_prefix it) where
    all_bytes : old.bytes ≡ prepend opening_prefix (iter_source_state state it).bytes
    all_bytes = k.consumes.bytes

    -- no metadata record starts at the iterator's offset
    pub ends_there : (rest : List ℕ) → (iter_source_state state it).bytes ≡ Some rest → EndsMetadata it.endian rest
    ends_there rest is = go (state it.source).bytes refl
      where
        go : (s : Option (List ℕ)) → (state it.source).bytes ≡ s → EndsMetadata it.endian rest
        go None none = (let e : Some rest ≡ None = sym is ∙ k.consumes_header.bytes ∙ ap (prepend k.header_bytes) none in absurd cc)
        go (Some more) some =
            let e : Some rest ≡ Some (k.header_bytes ++ more) = sym is ∙ k.consumes_header.bytes ∙ ap (prepend k.header_bytes) some in
            let same : rest ≡ k.header_bytes ++ more = ap (λ s. elim s [ None ↦ rest | Some x ↦ x ]) e in
            subst (EndsMetadata it.endian) (sym same) (ends_at_header it.endian k.header_bytes more k.exact_len k.min_size k.not_metadata)

    pub parsed_there : OpensWith it.endian o.raw_records old (Some k.header_bytes)
    parsed_there = record {
      final_state = state it.source;
      opening_read = record {
        header = o.header;
        last_bytes = k.header_bytes;
        matches = o.matches;
        elements = o.elements;
        consumes = subst (λ l. Consumed old l (state it.source)) (append_assoc o.header (concat o.raw_records) k.header_bytes) k.consumes_all;
        metadata_end = (refl, k.exact_len, k.min_size, k.not_metadata);
      };
      can_open = can_open;
    }

    pub first_there : (records : List RecordView) → AreFirstRemaining state it records → IfSome old.bytes (λ bytes. HoldsForPipe it.endian o.raw_records bytes (λ C. AreFirstRecords C records))
    first_there records first = holds_after_prefix old.bytes (iter_source_state state it).bytes opening_prefix (λ rest. AreFirstRecords (RemainAfter rest) records) (λ bytes. HoldsForPipe it.endian o.raw_records bytes (λ C. AreFirstRecords C records))
        all_bytes (λ rest is comes. (rest, begins rest, ends_there rest is, comes))
        (subst (λ C. IfSome (iter_source_state state it).bytes (λ rest. AreFirstRecords (C rest) records)) same_remaining (first (attributes_of_file file) o.represents))

    pub whole_there : (records : List RecordView) → HasRemainingRecords state it (attributes_of_file file) records ends_complete → IfSome old.bytes (IsCompletePipe it.endian o.raw_records records)
    whole_there records remain = holds_after_prefix old.bytes (iter_source_state state it).bytes opening_prefix (λ rest. RemainAfter rest records ends_complete) (IsCompletePipe it.endian o.raw_records records)
        all_bytes (λ rest is comes. (rest, begins rest, ends_there rest is, comes))
        (subst (λ C. IfSome (iter_source_state state it).bytes (λ rest. C rest records ends_complete)) same_remaining remain)

    pub error_there : (records : List RecordView) (e : Error) → EndsWithError state it records e → IfSome old.bytes (λ bytes. HoldsForPipe it.endian o.raw_records bytes (λ C. (f : LayoutError) × C records (ends_with_error f) × IsErrorFor f e))
    error_there records e ends = holds_after_prefix old.bytes (iter_source_state state it).bytes opening_prefix (λ rest. (f : LayoutError) × RemainAfter rest records (ends_with_error f) × IsErrorFor f e)
        (λ bytes. HoldsForPipe it.endian o.raw_records bytes (λ C. (f : LayoutError) × C records (ends_with_error f) × IsErrorFor f e))
        all_bytes (λ rest is comes. (rest, begins rest, ends_there rest is, comes))
        (subst (λ C. IfSome (iter_source_state state it).bytes (λ rest. (f : LayoutError) × C rest records (ends_with_error f) × IsErrorFor f e)) same_remaining
        (if_some_each (iter_source_state state it).bytes (λ rest. (f : LayoutError) × ((attrs : List Attribute) → Represents it.endian it.attribute_lookup attrs → RemainingRecords it.endian rest (section_size_of state it) it.offset it.round attrs records (ends_with_error f)) × IsErrorFor f e)
        (λ rest. (f : LayoutError) × Come rest records (ends_with_error f) × IsErrorFor f e) (λ rest f. (f.0, f.1 (attributes_of_file file) o.represents, f.2)) ends))

    pub first_after : (records : List RecordView) → AreFirstRemaining state it records → IfSome old.bytes (λ bytes. HoldsForPipeRest it.endian o.raw_records bytes (λ C. AreFirstRecords C records))
    first_after records first = if_some_each old.bytes (λ bytes. HoldsForPipe it.endian o.raw_records bytes (λ C. AreFirstRecords C records)) (λ bytes. HoldsForPipeRest it.endian o.raw_records bytes (λ C. AreFirstRecords C records))
        (λ bytes all. (all.0, all.1, all.3)) (first_there records first)

    pub pauses : (new : State) → SourcePaused (iter_source_state state it) new → SourcePaused old new
    pauses new p = let q = paused_later (without_position old) (iter_source_state state it) new opening_prefix k.consumes p in record { count_increases = q.count_increases; not_steady = q.not_steady }

    pub source_error_there : (new : State) (e : Error) → SourceErrorInSomeRecord it.endian (section_size_of state it) (iter_source_state state it) e new → SourceErrorInSomeRecord it.endian None (without_position old) e new
    source_error_there new e source_error = subst (λ b. SourceErrorInSomeRecord it.endian b (without_position old) e new) o.section_size
        (source_error_since it.endian (section_size_of state it) (without_position old) (iter_source_state state it) new e (failed_later (without_position old) (iter_source_state state it) new opening_prefix k.consumes) (paused_later (without_position old) (iter_source_state state it) new opening_prefix k.consumes) source_error)

  module _ (e : EndsInOpening state old opening_prefix it) where
    abbrev unread : Option (List ℕ)
    unread = (state it.source).bytes

    all_bytes_are : old.bytes ≡ prepend (opening_prefix ++ e.last_bytes) unread
    all_bytes_are = e.consumes_all.bytes

    pub parsed_none : OpensWith it.endian o.raw_records old None
    parsed_none = record {
      final_state = state it.source;
      opening_read = record {
        header = o.header;
        last_bytes = e.last_bytes;
        matches = o.matches;
        elements = o.elements;
        consumes = subst (λ l. Consumed old l (state it.source)) (append_assoc o.header (concat o.raw_records) e.last_bytes) e.consumes_all;
        metadata_end = (e.too_few, e.ended_or_paused);
      };
      can_open = can_open;
    }

    none_first : (rest : List ℕ) → AreFirstRecords (RemainAfter rest) []
    none_first rest =
        let layout = layout_exists it.endian rest None 0 (attributes_in_records it.endian None o.raw_records) (omega arith) opening_consistent in
        (record_views it.endian None 0 0 (attributes_in_records it.endian None o.raw_records) layout.0, (layout.1.0, record { raw_records = layout.0; layout = layout.1.1; elements = refl }))

    pub first_none : IfSome old.bytes (λ bytes. HoldsForPipeRest it.endian o.raw_records bytes (λ C. AreFirstRecords C []))
    first_none = if_any old.bytes unread refl all_bytes_are
      where
        if_any : (b l : Option (List ℕ)) → unread ≡ l → b ≡ prepend (opening_prefix ++ e.last_bytes) unread → IfSome b (λ bytes. HoldsForPipeRest it.endian o.raw_records bytes (λ C. AreFirstRecords C []))
        if_any b None none is = subst (λ x. IfSome x (λ bytes. HoldsForPipeRest it.endian o.raw_records bytes (λ C. AreFirstRecords C []))) (sym (is ∙ ap (prepend (opening_prefix ++ e.last_bytes)) none)) tt
        if_any b (Some more) some is =
            let split : b ≡ Some (opening_prefix ++ (e.last_bytes ++ more)) = is ∙ ap (prepend (opening_prefix ++ e.last_bytes)) some ∙ ap Some (append_assoc opening_prefix e.last_bytes more) in
            subst (λ x. IfSome x (λ bytes. HoldsForPipeRest it.endian o.raw_records bytes (λ C. AreFirstRecords C []))) (sym split) (e.last_bytes ++ more, begins (e.last_bytes ++ more), none_first (e.last_bytes ++ more))

    pub whole_none : unread ≡ Some [] → IfSome old.bytes (IsCompletePipe it.endian o.raw_records [])
    whole_none is =
        let split : old.bytes ≡ Some (opening_prefix ++ e.last_bytes) = all_bytes_are ∙ ap (prepend (opening_prefix ++ e.last_bytes)) is ∙ ap Some (append-nil (opening_prefix ++ e.last_bytes)) in
        let fewer = e.too_few in
        subst (λ x. IfSome x (IsCompletePipe it.endian o.raw_records [])) (sym split) (
          e.last_bytes,
          begins e.last_bytes,
          (λ long. absurd (omega (arith, fewer, long))),
          nothing_more it.endian e.last_bytes None 0 0 (attributes_in_records it.endian None o.raw_records) (omega arith) opening_consistent (λ long. absurd (omega (arith, fewer, long))),
        )

-- without a pending header the view of a pipe's source is the source itself
pipe_bytes : (i : RecordInput) (s : State) → section_size_in i ≡ None → HasNoPendingHeader i → s.bytes ≡ (input_source_state i s).bytes
pipe_bytes (Section size) s pipe none = absurd cc
pipe_bytes (Pipe None) s pipe none = sym (prepend_none s.bytes)
  where
    prepend_none : (o : Option (List ℕ)) → prepend [] o ≡ o
    prepend_none None = refl
    prepend_none (Some xs) = refl
pipe_bytes (Pipe (Some header_bytes)) s pipe none = absurd cc

module _ {R : Type 0} (state : R → State) where
  -- the bytes after an opening
  module _ (old : State) (bytes : List ℕ) (file : PerfFile) (it : PerfRecordIter R) (bytes_are : old.bytes ≡ Some bytes) (o : PipeParsed state old file it) (k : KeepsPendingHeader state old (opening_prefix state old file it o) it) where
    abbrev rest : List ℕ
    rest = drop (length (opening_prefix state old file it o)) bytes

    rest_is : (iter_source_state state it).bytes ≡ Some rest
    rest_is = after_prefix_is old.bytes (iter_source_state state it).bytes (opening_prefix state old file it o) bytes k.consumes.bytes bytes_are

    begins_so : BeginsPipe it.endian o.raw_records bytes rest
    begins_so =
        let e : Some bytes ≡ Some (opening_prefix state old file it o ++ rest) = sym bytes_are ∙ k.consumes.bytes ∙ ap (prepend (opening_prefix state old file it o)) rest_is in
        let same : bytes ≡ opening_prefix state old file it o ++ rest = ap (λ s. elim s [ None ↦ [] | Some x ↦ x ]) e in
        subst (λ l. BeginsPipe it.endian o.raw_records l rest) (sym same) (begins state old file it o rest)

    header_before_rest : (state it.source).bytes ≡ Some (drop 8 rest)
    header_before_rest = after_prefix_is (iter_source_state state it).bytes (state it.source).bytes k.header_bytes rest k.consumes_header.bytes rest_is ∙ ap (λ n. Some (drop n rest)) k.exact_len

  running_keeps : (old : State) (file : PerfFile) (it : PerfRecordIter R) (o : PipeParsed state old file it) → it.stage ≡ Running → KeepsPendingHeader state old (opening_prefix state old file it o) it
  running_keeps old file it o runs = elim o.end_of_opening [ inl k ↦ k | inr e ↦ (let s = e.stage_ended in absurd cc) ]

  -- after a record no header is pending
  keeps_none_of : (it now : PerfRecordIter R) (file file' : PerfFile) (records : List RecordView) → records ≢ [] → ReturnsRecords state it file records now file' → HasNoPendingHeader now.input
  keeps_none_of it now file file' [] some all = absurd (some refl)
  keeps_none_of it now file file' (r ∷ []) some (next, (next_file, step, (same, _))) = subst (λ i. HasNoPendingHeader i.input) (sym same) step.no_pending_header
  keeps_none_of it now file file' (r ∷ s ∷ rs) some (next, (next_file, step, more)) = keeps_none_of next now next_file file' (s ∷ rs) (λ none. absurd cc) more

  pub pipe_up_to_record : ReadingPipePartly state
  pipe_up_to_record old bytes file file' it now records bytes_are o runs all =
      let k = running_keeps old file it o runs in
      let start : it.offset ≡ 0 = o.offset in
      let bytes_read = consumed_of state it now file file' records all in
      let h = read_so_far_of state it now file file' records all in
      let offset_now : now.offset ≡ end_after 0 records = offset_of state it now file file' records all ∙ ap (λ n. end_after n records) start in
      let after_opening = rest old bytes file it bytes_are o k in
      let is = rest_is old bytes file it bytes_are o k in
      let first = first_of state it now file file' records (omega (arith, start)) all in
      record {
        raw_records = o.raw_records;
        rest = after_opening;
        pipe_prefix = begins_so old bytes file it bytes_are o k;
        metadata_ends = ends_there state old file it o k after_opening is;
        first_records = subst (λ b. IfSome b (λ l. AreFirstRecords (RemainAfter state old file it o l) records)) is
            (subst (λ C. IfSome (iter_source_state state it).bytes (λ l. AreFirstRecords (C l) records)) (same_remaining state old file it o) (first (attributes_of_file file) o.represents));
        all_metadata = holds_all state old file it o records file' (holds_of state it now file file' records all);
        remaining_if_none = λ none. ap (λ i. (state i.source).bytes) (subst (λ l. ReturnsRecords state it file l now file') none all).0 ∙ header_before_rest old bytes file it bytes_are o k;
        remaining = λ some.
            pipe_bytes now.input (state now.source) (h.same_input.section_size ∙ o.section_size) (keeps_none_of it now file file' records some all)
            ∙ after_prefix_is (iter_source_state state it).bytes (iter_source_state state now).bytes bytes_read.prefix after_opening bytes_read.consumed.bytes is
            ∙ ap (λ n. Some (drop n after_opening)) (let l = bytes_read.long in omega (arith, l, offset_now, start));
      }

  pub pipe_up_to_end : ReadingPipeToEnd state
  pipe_up_to_end old bytes file now_file file' it now new records bytes_are o all ended = elim o.end_of_opening [
    | inl k ↦
        let runs = k.stage_running in
        let now_runs = runs_of state it now file now_file records runs all in
        let h = read_so_far_of state it now file now_file records all in
        let out = ended.if_running now_runs in
        let pipe : section_size_of state now ≡ None = h.same_input.section_size ∙ o.section_size in
        let unread_is = pipe_bytes new.input (state new.source) (out.section_size ∙ pipe) out.no_pending_header in
        elim (none_left (state new.source).bytes) [
          | inl none ↦
              let whole_is : HasRemainingRecords state it (attributes_of_file file) records ends_complete =
              elim out.no_records_left [
                | inl is ↦ read_so_far_whole state it now records h is (attributes_of_file file) o.represents
                | inr paused ↦ absurd (paused.2 (sym unread_is ∙ none))
              ] in
              inl (record {
                raw_records = o.raw_records;
                all_records = subst (λ b. IfSome b (IsCompletePipe it.endian o.raw_records records)) bytes_are (whole_there state old file it o k records whole_is);
                all_metadata = holds_all state old file it o records file' (subst (AccumulatesMetadata it.endian (section_size_of state it) records file) (sym ended.file_unchanged) (holds_of state it now file now_file records all));
                remaining = none;
              })
          | inr some ↦
              let paused : SourcePaused (iter_source_state state now) (iter_source_state state new) = elim (out.pipe_exhausted pipe) [ inl none ↦ absurd (some (unread_is ∙ none)) | inr paused ↦ paused ] in
              let partly = pipe_up_to_record old bytes file now_file it now records bytes_are o runs all in
              inr (
                record {
                  raw_records = partly.raw_records;
                  first_records = (partly.rest, partly.pipe_prefix, partly.first_records);
                  all_metadata = subst (HoldsAllMetadata it.endian partly.raw_records records) (sym ended.file_unchanged) partly.all_metadata;
                },
                record {
                  not_steady = λ steady. paused.not_steady (h.consumes.steady (k.consumes.steady steady).steady).steady;
                  bytes_remain = some;
                  paused = inr (runs, paused);
                },
              )
        ]
    | inr e ↦
        let none = none_of state it now file now_file records e.stage_ended all in
        let idle = ended.if_ended (ap (λ i. i.stage) none.1 ∙ e.stage_ended) in
        let unread_is : (state new.source).bytes ≡ (state it.source).bytes = ap (λ s. (state s).bytes) (idle.source ∙ ap (λ i. i.source) none.1) in
        let metadata = holds_all state old file it o records file' (subst (AccumulatesMetadata it.endian (section_size_of state it) records file) (sym ended.file_unchanged) (holds_of state it now file now_file records all)) in
        elim (none_left (state it.source).bytes) [
          | inl consumed_all ↦ inl (record {
            raw_records = o.raw_records;
            all_records = subst (λ b. IfSome b (IsCompletePipe it.endian o.raw_records records)) bytes_are (subst (λ rs. IfSome old.bytes (IsCompletePipe it.endian o.raw_records rs)) (sym none.0) (whole_none state old file it o e consumed_all));
            all_metadata = metadata;
            remaining = unread_is ∙ consumed_all;
          })
          | inr some ↦
              let paused : SourcePaused old (state it.source) = elim (none_or_paused old (state it.source) e.ended_or_paused) [ inl consumed_all ↦ absurd (some consumed_all) | inr paused ↦ paused ] in
              inr (
                record {
                  raw_records = o.raw_records;
                  first_records = subst (λ b. IfSome b (λ l. HoldsForPipeRest it.endian o.raw_records l (λ C. AreFirstRecords C records))) bytes_are
                      (subst (λ rs. IfSome old.bytes (λ l. HoldsForPipeRest it.endian o.raw_records l (λ C. AreFirstRecords C rs))) (sym none.0) (first_none state old file it o e));
                  all_metadata = metadata;
                },
                record { not_steady = paused.not_steady; bytes_remain = λ is. some (sym unread_is ∙ is); paused = inl (e.stage_ended, paused) },
              )
        ]
  ]

  pub pipe_up_to_error : ReadingPipeToError state
  pipe_up_to_error old bytes file now_file file' it now new records e bytes_are o all error other = elim o.end_of_opening [
    | inl k ↦ (
      elim (stops_in_call state it now new file now_file file' records e k.stage_running (own_pipe state old file it o) all error other) [
        | inl ends ↦ inl (record {
          raw_records = o.raw_records;
          all_records = subst (λ b. IfSome b (λ l. HoldsForPipe it.endian o.raw_records l (λ C. (f : LayoutError) × C records (ends_with_error f) × IsErrorFor f e))) bytes_are (error_there state old file it o k records e ends);
          all_metadata = holds_all state old file it o records now_file (holds_of state it now file now_file records all);
        })
        | inr source_error ↦ inr (
          pipe_up_to_record old bytes file now_file it now records bytes_are o k.stage_running all,
          source_error_in_call state old it now new file now_file records e (λ steady. (k.consumes.steady steady).steady) all source_error,
        )
      ],
      error.same_file,
    )
    | inr ends ↦ (let none = none_of state it now file now_file records ends.stage_ended all in absurd (error.not_ended (ap (λ i. i.stage) none.1 ∙ ends.stage_ended)))
  ]
