-- Lemmas on calls after markers: what `next_item` returns one by one is what `next_record` returns.
use Rattle.std.proofs.Common.{◌≡◌, ℕ, ◌+◌, List, [], ◌∷◌, ◌++◌, length, drop, Some, refl, sym, ap, ◌∙◌, subst, inl, inr, arith, append_assoc, length-append}
use Rattle.std.specs.List.{concat}
use Rattle.std.proofs.lemmas.List.{append-nil}
use Rattle.std.proofs.lemmas.List.Folds.{concat-append}
use Rattle.perfdata_sources.specs.Source.{State, Consumed, SourcePaused}
use Rattle.perfdata_sources.specs.Endian.{number_in}
use Rattle.perfdata_sources.proofs.ConsumedLemmas.{consumed_more, paused_later}
use Rattle.perfdata_sources.specs.declared.endian.Endianness.{Endianness}
use Rattle.perfdata_sections.specs.declared.error.Error.{Error}
use Rattle.perfdata_sections.specs.EventDesc.{IsEventDescError}
use Rattle.perfdata_sections.specs.RecordTypes.{header_attr}
use Rattle.linux_perf_data.specs.declared.records.iter.PerfRecordIter.{PerfRecordIter}
use Rattle.linux_perf_data.specs.declared.perf_file.PerfFile.{PerfFile}
use Rattle.linux_perf_data.specs.Attribute.{Attribute, HoldsAttribute}
use Rattle.linux_perf_data.specs.AttributeLookup.{Represents}
use Rattle.linux_perf_data.specs.FeatureNumbers.{event_desc}
use Rattle.linux_perf_data.specs.PerfFile.{feature_data_in_file}
use Rattle.linux_perf_data.specs.LateMetadata.{IsMetadataType, HasValidMetadata, PassesEarlierChecks, UpdatesPerfFile, SameAttributeCount}
use Rattle.linux_perf_data.specs.Layout.{SectionSize, MayStartAt, IsEnd, IsRecord, record_type_of, AreMarkerRecords, ConsistsOfMarkers, RecordView, LayoutError, RemainingRecords, ends_complete, ends_with_error, attributes_in_record}
use Rattle.linux_perf_data.specs.RecordFraming.{IsErrorFor, ShownBy, MayNeedMemory, IsTruncatedAfterHeader, StaysWithinRecord}
use Rattle.linux_perf_data.specs.Iter.{iter_source_state, section_size_of, HasRemainingRecords, ReturnsRecord, ReturnsEnd, ReturnsError, IsMismatchedPerfFile, IsErrorCause, NeedsMemoryFor}
use Rattle.linux_perf_data.specs.Items.{item_record, item_round_end, records_of_items, ReturnsRoundEnd, SameNext, ItemsAreRecords}
use Rattle.linux_perf_data.specs.Reading.{ReturnsRecords}
use Rattle.linux_perf_data.proofs.IterCalls.{Idles, running_not_ended, running_not_failed, lift_on, still_represents, source_error_later, source_error_same}

are_append : (order : Endianness) (bound : SectionSize) (offset : ℕ) (ps qs : List (List ℕ)) → AreMarkerRecords order bound offset ps → AreMarkerRecords order bound (offset + length (concat ps)) qs → AreMarkerRecords order bound offset (ps ++ qs)
are_append order bound offset [] qs are more =
    let z : offset + length (concat []) ≡ offset = omega arith in
    subst (λ o. AreMarkerRecords order bound o qs) z more
are_append order bound offset (p ∷ ps) qs are more =
    let z : offset + length (p ++ concat ps) ≡ offset + length p + length (concat ps) = omega (arith, length-append p (concat ps)) in
    (are.0, are.1, are.2, are_append order bound (offset + length p) ps qs are.3 (subst (λ o. AreMarkerRecords order bound o qs) z more))

-- markers, and then markers
pub markers_append : (order : Endianness) (bound : SectionSize) (offset : ℕ) (bytes more : List ℕ) → ConsistsOfMarkers order bound offset bytes → ConsistsOfMarkers order bound (offset + length bytes) more → ConsistsOfMarkers order bound offset (bytes ++ more)
markers_append order bound offset bytes more m n = record {
  raw_records = m.raw_records ++ n.raw_records;
  split = ap (λ l. l ++ more) m.split ∙ ap (λ l. concat m.raw_records ++ l) n.split ∙ sym (concat-append m.raw_records n.raw_records);
  elements = are_append order bound offset m.raw_records n.raw_records m.elements (subst (λ l. AreMarkerRecords order bound (offset + length l) n.raw_records) m.split n.elements);
}

module _ {R : Type 0} (state : R → State) where
  -- the markers of a later iterator, as an earlier one sees them
  markers_from : (a b : PerfRecordIter R) (i : Idles state a b) (bytes : List ℕ) → ConsistsOfMarkers b.endian (section_size_of state b) b.offset bytes → ConsistsOfMarkers a.endian (section_size_of state a) (a.offset + length i.markers) bytes
  markers_from a b i bytes later = record {
    raw_records = later.raw_records;
    split = later.split;
    elements = subst (λ o. AreMarkerRecords a.endian (section_size_of state a) o later.raw_records) i.offset
        (subst (λ s. AreMarkerRecords a.endian s b.offset later.raw_records) i.same.section_size
        (subst (λ o. AreMarkerRecords o (section_size_of state b) b.offset later.raw_records) i.same.same_endian later.elements));
  }

  -- markers up to a later iterator, and then markers
  markers_on : (a b : PerfRecordIter R) (i : Idles state a b) (bytes : List ℕ) → ConsistsOfMarkers b.endian (section_size_of state b) b.offset bytes → ConsistsOfMarkers a.endian (section_size_of state a) a.offset (i.markers ++ bytes)
  markers_on a b i bytes later = markers_append a.endian (section_size_of state a) a.offset i.markers bytes i.skipped_markers (markers_from a b i bytes later)

  -- the end of a round is a marker
  pub marker_skipped : (a b : PerfRecordIter R) (file file' : PerfFile) (ended : ℕ) → ReturnsRoundEnd state a file ended b file' → Idles state a b
  marker_skipped a b file file' ended r = record {
    ran = r.was_running;
    runs = r.stage_running;
    same = r.same_input;
    known = r.same_attributes;
    empty = r.empty_buffer;
    fits = r.offset_fits;
    markers = r.marker;
    offset = r.offset;
    skipped_markers = record { raw_records = r.marker ∷ []; split = sym (append-nil r.marker); elements = (r.may_start, r.is_record, r.is_marker, _) };
    round = (let more = r.round in let one : length (r.marker ∷ []) ≡ 1 = refl in omega (arith, more, one));
    consumption = r.consumes;
    before = r.same_remaining;
  }

  -- a record that is returned after markers is returned by a call before them
  pub record_after : (a b c : PerfRecordIter R) (file file' : PerfFile) (h : RecordView) → Idles state a b → ReturnsRecord state b file h c file' → ReturnsRecord state a file h c file'
  unfolding markers_append markers_from markers_on
  record_after a b c file file' h i r =
      let adds : attributes_in_record a.endian (section_size_of state a) h.record_type h.body ≡ attributes_in_record b.endian (section_size_of state b) h.record_type h.body =
      ap (λ o. attributes_in_record o (section_size_of state a) h.record_type h.body) (sym i.same.same_endian) ∙ ap (λ s. attributes_in_record b.endian s h.record_type h.body) (sym i.same.section_size) in
      let knows = λ (attrs : List Attribute) (k : Represents a.endian a.attribute_lookup attrs). still_represents state a b attrs i.same i.known k in
      let later = r.valid_markers in
      record {
        was_running = i.ran;
        stage_running = r.stage_running;
        same_input = record { same_endian = r.same_input.same_endian ∙ i.same.same_endian; section_size = r.same_input.section_size ∙ i.same.section_size };
        represents = λ attrs k. subst (λ l. Represents c.endian c.attribute_lookup (attrs ++ l)) (sym adds) (r.represents attrs (knows attrs k));
        extends_remaining = λ attrs k rs e come.
            lift_on (iter_source_state state a).bytes (iter_source_state state b).bytes i.markers _ _ i.consumption.bytes
            (λ rest x. i.before rest attrs (h ∷ rs) e x)
            (r.extends_remaining attrs (knows attrs k) rs e (subst (λ l. HasRemainingRecords state c (attrs ++ l) rs e) adds come));
        same_attribute_count = λ pipe metadata. subst (λ o. SameAttributeCount o a.attribute_lookup file) i.same.same_endian (subst (λ n. SameAttributeCount b.endian n file) i.known (r.same_attribute_count (i.same.section_size ∙ pipe) metadata));
        file_updates = subst (λ o. UpdatesPerfFile o (section_size_of state a) h.record_type h.body file file') i.same.same_endian (subst (λ s. UpdatesPerfFile b.endian s h.record_type h.body file file') i.same.section_size r.file_updates);
        file_unchanged_otherwise = λ cause_of. r.file_unchanged_otherwise (elim cause_of [ inl file ↦ inl (λ none. file (sym i.same.section_size ∙ none)) | inr isnt ↦ inr isnt ]);
        buffered_body = r.buffered_body;
        markers = i.markers ++ r.markers;
        valid_markers = markers_on a b i r.markers later;
        record_round = (let before = i.round in let after = r.record_round in omega (arith, length-append i.skipped_markers.raw_records later.raw_records, before, after));
        round = r.round;
        header_bytes = r.header_bytes;
        header_len = r.header_len;
        record_offset = (let o = i.offset in let at = r.record_offset in omega (arith, length-append i.markers r.markers, o, at));
        may_start = subst (λ s. MayStartAt s h.offset) i.same.section_size r.may_start;
        consumes = subst (λ l. Consumed (iter_source_state state a) l (iter_source_state state c)) (sym (append_assoc i.markers r.markers (r.header_bytes ++ h.body))) (consumed_more _ _ _ i.markers (r.markers ++ (r.header_bytes ++ h.body)) i.consumption r.consumes);
        no_pending_header = r.no_pending_header;
        offset = r.offset;
        offset_fits = r.offset_fits;
      }

  -- the end that is returned after markers is returned by a call before them
  pub end_after : (a b c : PerfRecordIter R) (file file' : PerfFile) → Idles state a b → ReturnsEnd state b file c file' → ReturnsEnd state a file c file'
  unfolding markers_append markers_from markers_on
  end_after a b c file file' i r =
      let e = r.if_running i.runs in
      let later = e.valid_markers in
      let pauses = λ (p : SourcePaused (iter_source_state state b) (iter_source_state state c)). paused_later (iter_source_state state a) (iter_source_state state b) (iter_source_state state c) i.markers i.consumption p in
      record {
        stage_ended = r.stage_ended;
        not_failed = running_not_failed a.stage i.ran;
        if_ended = λ ended. absurd (running_not_ended a.stage i.ran ended);
        if_running = λ _. record {
          no_records_left = elim e.no_records_left [
            | inl none ↦ inl (λ attrs k.
                lift_on (iter_source_state state a).bytes (iter_source_state state b).bytes i.markers
                (λ l. RemainingRecords a.endian l (section_size_of state a) a.offset a.round attrs [] ends_complete) (λ l. RemainingRecords b.endian l (section_size_of state b) b.offset b.round attrs [] ends_complete) i.consumption.bytes
                (λ rest x. i.before rest attrs [] ends_complete x) (none attrs (still_represents state a b attrs i.same i.known k)))
            | inr paused ↦ inr (sym i.same.section_size ∙ paused.0, pauses paused.1, paused.2)
          ];
          markers = i.markers ++ e.markers;
          valid_markers = markers_on a b i e.markers later;
          consumed_bytes = e.consumed_bytes;
          offset = (let o = i.offset in let at = e.offset in omega (arith, length-append i.markers e.markers, o, at));
          round = (let before = i.round in let after = e.round in omega (arith, length-append i.skipped_markers.raw_records later.raw_records, before, after));
          consumes = subst (λ l. Consumed (iter_source_state state a) l (iter_source_state state c)) (sym (append_assoc i.markers e.markers e.consumed_bytes)) (consumed_more _ _ _ i.markers (e.markers ++ e.consumed_bytes) i.consumption e.consumes);
          section_end = λ file. e.section_end (λ none. file (sym i.same.section_size ∙ none));
          pipe_exhausted = λ none. elim (e.pipe_exhausted (i.same.section_size ∙ none)) [
            | inl end ↦ inl end
            | inr paused ↦ inr (pauses paused)
          ];
          buffer_bound = e.buffer_bound;
          at_end = subst (λ s. IsEnd a.endian s c.offset e.consumed_bytes) i.same.section_size (subst (λ o. IsEnd o (section_size_of state b) c.offset e.consumed_bytes) i.same.same_endian e.at_end);
          section_size = e.section_size ∙ i.same.section_size;
          no_pending_header = e.no_pending_header;
        };
        file_unchanged = r.file_unchanged;
      }

  -- what bytes show after markers, the markers and these bytes show
  shown_after : (a b : PerfRecordIter R) (i : Idles state a b) (P Q : List ℕ → Type 0) (bytes : List ℕ) (last : State) → ((l : List ℕ) → Q l → P (i.markers ++ l)) → ShownBy Q bytes last → ShownBy P (i.markers ++ bytes) last
  shown_after a b i P Q bytes last more (inl each) = inl (λ rest. subst P (sym (append_assoc i.markers bytes rest)) (more (bytes ++ rest) (each rest)))
  shown_after a b i P Q bytes last more (inr (none, here)) = inr (none, more bytes here)

  -- the bytes of an iterator have a layout error that `e` reports, and the `PerfFile` passes the checks before it
  abbrev FailsAt : PerfRecordIter R → PerfFile → Error → List ℕ → Type 0
  FailsAt it file e bytes = (f : LayoutError) × ((attrs : List Attribute) → Represents it.endian it.attribute_lookup attrs → RemainingRecords it.endian bytes (section_size_of state it) it.offset it.round attrs [] (ends_with_error f))
      × PassesEarlierChecks it.endian it.attribute_lookup file f × IsErrorFor f e

  mismatch_after : (a b : PerfRecordIter R) (file : PerfFile) (consumed : List ℕ) (e : Error) → Idles state a b → IsMismatchedPerfFile state b file consumed e → IsMismatchedPerfFile state a file consumed e
  mismatch_after a b file consumed e i m =
      let order = i.same.same_endian in
      record {
        in_pipe = sym i.same.section_size ∙ m.in_pipe;
        is_record = subst (λ o. IsRecord o consumed) order m.is_record;
        metadata_type = subst (λ o. IsMetadataType (record_type_of o consumed)) order m.metadata_type;
        cause = elim m.cause [
          | inl other ↦ inl (other.0, λ attrs k. other.1 attrs (still_represents state a b attrs i.same i.known k))
          | inr unread ↦ inr (
            subst (λ o. SameAttributeCount o a.attribute_lookup file) order (subst (λ n. SameAttributeCount b.endian n file) i.known unread.0),
            subst (λ o. record_type_of o consumed ≡ header_attr) order unread.1,
            subst (λ o. HoldsAttribute o (drop 8 consumed)) order unread.2,
            subst (λ o. (bytes : List ℕ) × (feature_data_in_file file event_desc ≡ Some bytes) × IsEventDescError (number_in o) e bytes) order unread.3,
          )
        ];
      }

  cause_after : (a b c : PerfRecordIter R) (file : PerfFile) (markers consumed : List ℕ) (e : Error) (i : Idles state a b) → IsErrorCause state b file markers consumed e c → IsErrorCause state a file (i.markers ++ markers) consumed e c
  cause_after a b c file markers consumed e i (inl shown) =
      inl (subst (λ l. ShownBy (FailsAt a file e) l (iter_source_state state c)) (sym (append_assoc i.markers markers consumed))
      (shown_after a b i (FailsAt a file e) (FailsAt b file e) (markers ++ consumed) (iter_source_state state c)
      (λ l f. (
        f.0,
        (λ attrs k. i.before l attrs [] (ends_with_error f.0) (f.1 attrs (still_represents state a b attrs i.same i.known k))),
        subst (λ o. PassesEarlierChecks o a.attribute_lookup file f.0) i.same.same_endian (subst (λ n. PassesEarlierChecks b.endian n file f.0) i.known f.2),
        f.3,
      ))
      shown))
  cause_after a b c file markers consumed e i (inr (inl source)) =
      inr (inl (source_error_same state b.endian a.endian (section_size_of state b) (section_size_of state a) (iter_source_state state a) (iter_source_state state c) consumed e i.same.same_endian i.same.section_size
      (source_error_later state b.endian (section_size_of state b) (iter_source_state state a) (iter_source_state state b) (iter_source_state state c) i.markers consumed e i.consumption source)))
  cause_after a b c file markers consumed e i (inr (inr (mismatch, fits))) = inr (inr (mismatch_after a b file consumed e i mismatch, fits))

  memory_after : (a b : PerfRecordIter R) (file : PerfFile) (consumed : List ℕ) → Idles state a b → NeedsMemoryFor state b file consumed → NeedsMemoryFor state a file consumed
  memory_after a b file consumed i needs =
      let order = i.same.same_endian in (
        subst (λ o. MayNeedMemory o consumed) order needs.0,
        elim needs.1 [
          | inl truncated ↦ inl (subst (λ o. IsTruncatedAfterHeader o consumed) order truncated)
          | inr late ↦ inr (
            sym i.same.section_size ∙ late.0,
            subst (λ o. IsRecord o consumed) order late.1,
            subst (λ o. SameAttributeCount o a.attribute_lookup file) order (subst (λ n. SameAttributeCount b.endian n file) i.known late.2),
            subst (λ o. HasValidMetadata o (record_type_of o consumed) (drop 8 consumed)) order late.3,
          )
        ],
      )

  -- the error that is returned after markers is returned by a call before them
  pub error_after : (a b c : PerfRecordIter R) (file file' : PerfFile) (e : Error) → Idles state a b → ReturnsError state b file e c file' → ReturnsError state a file e c file'
  unfolding markers_append markers_from markers_on
  error_after a b c file file' e i r =
      let s = r.if_running i.runs in
      let later = s.valid_markers in
      record {
        stage_failed = r.stage_failed;
        not_ended = running_not_ended a.stage i.ran;
        if_failed = λ failed. absurd (running_not_failed a.stage i.ran failed);
        only_if_failed = λ is. absurd (running_not_failed b.stage i.runs (r.only_if_failed is));
        if_running = λ _. record {
          markers = i.markers ++ s.markers;
          valid_markers = markers_on a b i s.markers later;
          consumed_bytes = s.consumed_bytes;
          offset = (let o = i.offset in let at = s.offset in omega (arith, length-append i.markers s.markers, o, at));
          round = (let before = i.round in let after = s.round in omega (arith, length-append i.skipped_markers.raw_records later.raw_records, before, after));
          may_start = subst (λ x. MayStartAt x c.offset) i.same.section_size s.may_start;
          consumes = subst (λ l. Consumed (iter_source_state state a) l (iter_source_state state c)) (sym (append_assoc i.markers s.markers s.consumed_bytes)) (consumed_more _ _ _ i.markers (s.markers ++ s.consumed_bytes) i.consumption s.consumes);
          no_pending_header = s.no_pending_header;
          within_record = subst (λ o. StaysWithinRecord o s.consumed_bytes) i.same.same_endian s.within_record;
          buffer_bound = s.buffer_bound;
          if_out_of_memory = λ m. memory_after a b file s.consumed_bytes i (s.if_out_of_memory m);
          cause = λ m. cause_after a b c file s.markers s.consumed_bytes e i (s.cause m);
        };
        same_file = r.same_file;
      }

  -- the next call returns the same after markers as before them
  pub same_next : (a b : PerfRecordIter R) → Idles state a b → SameNext state a b
  same_next a b i = record {
    same_record = λ file h c file' r. record_after a b c file file' h i r;
    same_end = λ file c file' r. end_after a b c file file' i r;
    same_error = λ file e c file' r. error_after a b c file file' e i r;
  }

  pub same_next_none : (a : PerfRecordIter R) → SameNext state a a
  same_next_none a = record { same_record = λ file h c file' r. r; same_end = λ file c file' r. r; same_error = λ file e c file' r. r }

  pub same_next_more : (a b c : PerfRecordIter R) → SameNext state a b → SameNext state b c → SameNext state a c
  same_next_more a b c x y = record {
    same_record = λ file h d file' r. x.same_record file h d file' (y.same_record file h d file' r);
    same_end = λ file d file' r. x.same_end file d file' (y.same_end file d file' r);
    same_error = λ file e d file' r. x.same_error file e d file' (y.same_error file e d file' r);
  }

  -- records that are returned after markers are returned by calls before them
  returned_after : (a b last now : PerfRecordIter R) (file file' : PerfFile) (records : List RecordView) → SameNext state a b → ReturnsRecords state b file records last file' → SameNext state last now
      → (from : PerfRecordIter R) × (ReturnsRecords state a file records from file' × SameNext state from now)
  returned_after a b last now file file' [] same (none, same_file) next = (a, ((refl, same_file), same_next_more a b now same (subst (λ i. SameNext state i now) none next)))
  returned_after a b last now file file' (h ∷ hs) same (c, (c_file, first, more)) next = (last, ((c, (c_file, same.same_record file h c c_file first, more)), next))

  pub items_are_records : ItemsAreRecords state
  items_are_records old now file file' [] (none, same_file) = (old, ((refl, same_file), subst (SameNext state old) (sym none) (same_next_none old)))
  items_are_records old now file file' (item_record h ∷ items) (next, (next_file, first, more)) =
      let rest = items_are_records next now next_file file' items more in
      (rest.0, ((next, (next_file, first.returned, rest.1.0)), rest.1.1))
  items_are_records old now file file' (item_round_end ended ∷ items) (next, (next_file, first, more)) =
      let rest = items_are_records next now next_file file' items more in
      returned_after old next rest.0 now file file' (records_of_items items) (same_next old next (marker_skipped old next file next_file ended first))
      (subst (λ f. ReturnsRecords state next f (records_of_items items) rest.0 file') first.file_unchanged rest.1.0) rest.1.1
