-- Lemmas on the calls of a `PerfRecordIter`, one or several.
use Rattle.std.proofs.Common.{◌≡◌, ◌≢◌, ◌==◌, ℕ, ◌+◌, ◌^◌, ◌<◌, ◌≤◌, ◌++◌, List, [], ◌∷◌, false, length, take, drop, refl, sym, ap, ◌∙◌, subst, arith, inl, inr, append_assoc, length-append, eq-eqb, vec_capacity}
use Rattle.std.specs.Prelude.{◌⊎◌, if◌then◌else◌, Option, None, Some, IfSome}
use Rattle.std.specs.List.{concat}
use Rattle.std.proofs.lemmas.Bool.{cases_eq, ne_eqb}
use Rattle.std.proofs.lemmas.List.{append-nil, take-append-drop, length-take-le, length-drop}
use Rattle.std.proofs.lemmas.List.Folds.{concat-append}
use Rattle.perfdata_sources.specs.Source.{State, prepend, Consumed, SourcePaused}
use Rattle.perfdata_sources.proofs.ConsumedLemmas.{consumed_none, consumed_more, failed_later, paused_later}
use Rattle.perfdata_sources.proofs.ReadErrors.{none_or_paused, all_read}
use Rattle.perfdata_sources.specs.declared.endian.Endianness.{Endianness}
use Rattle.perfdata_sources.specs.declared.event.record_header.PerfEventHeader.{PerfEventHeader}
use Rattle.perfdata_sections.specs.declared.error.Error.{Error}
use Rattle.perfdata_sections.specs.declared.error.Error.TheVariants as error
use Rattle.linux_perf_data.specs.declared.records.input.RecordInput.{RecordInput}
use Rattle.linux_perf_data.specs.declared.records.input.RecordInput.TheVariants.{Section, Pipe}
use Rattle.linux_perf_data.specs.declared.records.iter.PerfRecordIter.{PerfRecordIter}
use Rattle.linux_perf_data.specs.declared.records.iter.IdentifiedRecord.{IdentifiedRecord}
use Rattle.linux_perf_data.specs.declared.records.iter.Stage.{Stage}
use Rattle.linux_perf_data.specs.declared.records.iter.Stage.TheVariants.{Running, Failed, Ended}
use Rattle.linux_perf_data.specs.declared.perf_file.PerfFile.{PerfFile}
use Rattle.linux_perf_data.specs.declared.attributes.lookup.AttributeLookup.{AttributeLookup}
use Rattle.linux_perf_data.specs.Attribute.{Attribute, AreConsistent}
use Rattle.linux_perf_data.specs.AttributeLookup.{Represents}
use Rattle.linux_perf_data.specs.RecordInput.{HasNoPendingHeader, section_size_in, input_source_state}
use Rattle.linux_perf_data.specs.LateMetadata.{IsMetadataType, UpdatesPerfFile, HasValidMetadata, PassesEarlierChecks, SameAttributeCount, SamePerfFile, RejectsMetadata}
use Rattle.linux_perf_data.specs.PerfFile.{endian_of_file, descriptions_of_file, features_of_file, feature_data_in_file}
use Rattle.linux_perf_data.specs.Layout.{SectionSize, MayStartAt, IsEnd, IsTruncated, IsRecord, AreMarkerRecords, ConsistsOfMarkers, IsValidRecord, record_type_of, misc_of, RecordView, LayoutEnd, ends_complete, ends_with_error, LayoutError, ConcernsMetadata, ErrorAt, RemainingRecords, record_view, record_view_in, attributes_in_record, attributes_in_views}
use Rattle.linux_perf_data.specs.RecordFraming.{ExceedsCapacity, IsErrorFor, ShownBy, StaysWithinRecord, IsTruncatedAfterHeader, SourceErrorInRecord, MayNeedMemory}
use Rattle.linux_perf_data.specs.RecordViews.{record_view_with}
use Rattle.linux_perf_data.specs.steps.RecordViews.{IdentifiesRecord}
use Rattle.linux_perf_data.specs.Iter.{iter_source_state, section_size_of, SameInput, HasRemainingRecords, ReturnsRecord, ReachesEnd, ReturnsEnd, IsMismatchedPerfFile, IsErrorCause, StopsAtError, ReturnsError, NeedsLargerBuffer, BuffersMetadata, ConsumesMetadata}
use Rattle.linux_perf_data.specs.steps.Iter.{TestsMayStart}
use Rattle.linux_perf_data.specs.steps.IterSteps.{RawRecordExceedsBuffer, RawRecordRead, RawRecordTruncated, RawRecordError, SameButLookup, RecordProcessed, RecordRejected}
use Rattle.linux_perf_data.specs.steps.ItemSteps.{IsStopped}
use Rattle.linux_perf_data.specs.steps.Reading.{ReadSoFar}
use Rattle.linux_perf_data.proofs.AddedAttributes.{adds_none, added_one}
use Rattle.linux_perf_data.proofs.RecordHeaders.{record_least, total_size_plain}
use Rattle.linux_perf_data.proofs.ProcessedRecords.{LateFault, Foreign, consumed_record, marker_record, late_cause, needs_memory}
use Rattle.linux_perf_data.proofs.LayoutSteps.{nothing_more, error_next, remaining_more}

-- a running iterator has neither ended nor failed
pub running_not_ended : (stage : Stage) → stage ≡ Running → stage ≢ Ended
running_not_ended stage ran ended = cc

pub running_not_failed : (stage : Stage) → stage ≡ Running → stage ≢ Failed
running_not_failed stage ran failed = cc

-- a property of the remaining bytes after a read gives one of the remaining bytes before it
lift : (a b : Option (List ℕ)) (first_part : List ℕ) (P Q : List ℕ → Type 0) → a ≡ prepend first_part b → ((x y : List ℕ) → a ≡ Some x → b ≡ Some y → Q y → P x) → IfSome b Q → IfSome a P
lift None b first_part P Q is more h = _
lift (Some x) None first_part P Q is more h = absurd cc
lift (Some x) (Some y) first_part P Q is more h = more x y refl refl h

pub lift_on : (a b : Option (List ℕ)) (first_part : List ℕ) (P Q : List ℕ → Type 0) → a ≡ prepend first_part b → ((rest : List ℕ) → Q rest → P (first_part ++ rest)) → IfSome b Q → IfSome a P
lift_on a b first_part P Q is more h = lift a b first_part P Q is (λ x y e f q. let same : x ≡ first_part ++ y = cc (is, e, ap (prepend first_part) f) in subst P (sym same) (more y q)) h

holds_in_all : (a b : Option (List ℕ)) (first_part : List ℕ) (P : List ℕ → Type 0) → a ≡ prepend first_part b → ((rest : List ℕ) → P (first_part ++ rest)) → IfSome a P
holds_in_all a None first_part P is more = subst (λ o. IfSome o P) (sym is) _
holds_in_all a (Some rest) first_part P is more = subst (λ o. IfSome o P) (sym is) (more rest)

-- what consumed bytes show holds for all bytes, if these are known
visible_in_all : (a b : State) (consumed : List ℕ) (P : List ℕ → Type 0) → Consumed a consumed b → ShownBy P consumed b → IfSome a.bytes P
visible_in_all a b consumed P consumption (inl each) = holds_in_all a.bytes b.bytes consumed P consumption.bytes each
visible_in_all a b consumed P consumption (inr (none, here)) = subst (λ o. IfSome o P) (sym (all_read a b consumed consumption none)) here

represented_consistent : (order : Endianness) (k : AttributeLookup) (attrs : List Attribute) → Represents order k attrs → AreConsistent attrs
represented_consistent order k attrs knows = knows.consistent

-- exactly one complete record is read
record_within : (order : Endianness) (p : List ℕ) → IsRecord order p → StaysWithinRecord order p
record_within order p is = elim (cases_eq (record_type_of order p) 71) [
  | inl aux ↦ inr (inr (aux, is.aux_min_size aux, (let long = is.exact_len in omega (arith, long))))
  | inr other ↦ inr (inl (let long = is.exact_len in let extent = total_size_plain order p other in omega (arith, long, extent)))
]

-- one more marker follows the markers
markers_on : (order : Endianness) (bound : SectionSize) (offset : ℕ) (ps : List (List ℕ)) (p : List ℕ) → AreMarkerRecords order bound offset ps → MayStartAt bound (offset + length (concat ps)) → IsRecord order p → record_type_of order p ≡ 68 → AreMarkerRecords order bound offset (ps ++ p ∷ [])
markers_on order bound offset [] p are begins is kind =
    let z : offset + length (concat []) ≡ offset = omega arith in
    (subst (MayStartAt bound) z begins, is, kind, _)
markers_on order bound offset (q ∷ qs) p are begins is kind =
    let z : offset + length (q ++ concat qs) ≡ offset + length q + length (concat qs) = omega (arith, length-append q (concat qs)) in
    (are.0, are.1, are.2, markers_on order bound (offset + length q) qs p are.3 (subst (MayStartAt bound) z begins) is kind)

pub markers_none : (order : Endianness) (bound : SectionSize) (offset : ℕ) → ConsistsOfMarkers order bound offset []
markers_none order bound offset = record { raw_records = []; split = refl; elements = _ }

pub markers_more : (order : Endianness) (bound : SectionSize) (offset : ℕ) (bytes p : List ℕ) → ConsistsOfMarkers order bound offset bytes → MayStartAt bound (offset + length bytes) → IsRecord order p → record_type_of order p ≡ 68 → ConsistsOfMarkers order bound offset (bytes ++ p)
markers_more order bound offset bytes p m begins is kind = record {
  raw_records = m.raw_records ++ p ∷ [];
  split = ap (λ l. l ++ p) m.split ∙ sym (concat-append m.raw_records (p ∷ []) ∙ ap (λ l. concat m.raw_records ++ l) (append-nil p));
  elements = markers_on order bound offset m.raw_records p m.elements (subst (λ l. MayStartAt bound (offset + length l)) m.split begins) is kind;
}

-- the remaining bytes are empty, or not
pub none_left : (bytes : Option (List ℕ)) → (bytes ≡ Some []) ⊎ (bytes ≢ Some [])
none_left None = inr (λ e. absurd cc)
none_left (Some []) = inl refl
none_left (Some (x ∷ xs)) = inr (λ e. absurd cc)

-- a section has no pending header
section_keeps_none : (i : RecordInput) → section_size_in i ≢ None → HasNoPendingHeader i
section_keeps_none (Section size) file = _
section_keeps_none (Pipe kept) file = absurd (file refl)

-- the same `PerfFile` holds the same metadata
pub same_later : (now old : PerfFile) → now ≡ old → SamePerfFile old now
same_later now old is = record { same_endian = ap endian_of_file is; descriptions = ap descriptions_of_file is; features = ap features_of_file is; feature_data = λ n. ap (λ f. feature_data_in_file f n) is }

module _ {R : Type 0} (state : R → State) where
  -- the remaining records of an iterator with these remaining bytes
  abbrev RemainingIn : PerfRecordIter R → List ℕ → List Attribute → List RecordView → LayoutEnd → Type 0
  RemainingIn it bytes attrs rs e = RemainingRecords it.endian bytes (section_size_of state it) it.offset it.round attrs rs e

  same_none : (it : PerfRecordIter R) → SameInput state it it
  same_none it = record { same_endian = refl; section_size = refl }

  same_more : (a b c : PerfRecordIter R) → SameInput state a b → SameInput state b c → SameInput state a c
  same_more a b c x y = record { same_endian = y.same_endian ∙ x.same_endian; section_size = y.section_size ∙ x.section_size }

  -- an iterator of the same input with the same lookup represents the same attributes
  pub still_represents : (old new : PerfRecordIter R) (attrs : List Attribute) → SameInput state old new → new.attribute_lookup ≡ old.attribute_lookup → Represents old.endian old.attribute_lookup attrs → Represents new.endian new.attribute_lookup attrs
  still_represents old new attrs same known k = subst (λ o. Represents o new.attribute_lookup attrs) (sym same.same_endian) (subst (λ n. Represents old.endian n attrs) (sym known) k)

  -- the attributes that a raw record adds
  abbrev added_by : (old new : PerfRecordIter R) (header : PerfEventHeader) → RawRecordRead state old header new → List Attribute
  added_by old new header t = attributes_in_record old.endian (section_size_of state old) (record_type_of old.endian t.raw_record) (drop 8 t.raw_record)

  piece_next : (old new : PerfRecordIter R) (header : PerfEventHeader) (t : RawRecordRead state old header new) → IsValidRecord old.endian (section_size_of state old) t.raw_record → MayStartAt (section_size_of state old) old.offset → (rest : List ℕ) (attrs : List Attribute) (rs : List RecordView) (e : LayoutEnd)
      → RemainingIn new rest (attrs ++ added_by old new header t) rs e → RemainingIn old (t.raw_record ++ rest) attrs (if header.type_ == 68 then rs else record_view_in old.endian old.offset old.round attrs t.raw_record ∷ rs) e
  piece_next old new header t is more rest attrs rs e come =
      let p = t.raw_record in
      let b = section_size_of state old in
      let all = attrs ++ added_by old new header t in
      let c1 : RemainingRecords new.endian rest (section_size_of state new) (old.offset + length p) new.round all rs e = subst (λ o. RemainingRecords new.endian rest (section_size_of state new) o new.round all rs e) t.offset come in
      let c2 : RemainingRecords new.endian rest b (old.offset + length p) new.round all rs e = subst (λ s. RemainingRecords new.endian rest s (old.offset + length p) new.round all rs e) t.same_input.section_size c1 in
      let c3 : RemainingRecords old.endian rest b (old.offset + length p) new.round all rs e = subst (λ o. RemainingRecords o rest b (old.offset + length p) new.round all rs e) t.same_input.same_endian c2 in
      let turn = t.round ∙ ap (λ k. if k == 68 then old.round + 1 else old.round) (sym t.record_type) in
      subst (λ k. RemainingIn old (p ++ rest) attrs (if k == 68 then rs else record_view_in old.endian old.offset old.round attrs p ∷ rs) e) t.record_type
      (remaining_more old.endian (p ++ rest) rest p b old.offset old.round new.round attrs rs e is refl more turn c3)

  pub marker_next : (old new : PerfRecordIter R) (header : PerfEventHeader) (t : RawRecordRead state old header new) → header.type_ ≡ 68 → MayStartAt (section_size_of state old) old.offset → (rest : List ℕ) (attrs : List Attribute) (rs : List RecordView) (e : LayoutEnd)
      → RemainingIn new rest attrs rs e → RemainingIn old (t.raw_record ++ rest) attrs rs e
  marker_next old new header t is more rest attrs rs e come =
      let kind = t.record_type ∙ is in
      let none : added_by old new header t ≡ [] = adds_none old.endian (section_size_of state old) (record_type_of old.endian t.raw_record) (drop 8 t.raw_record) (λ k. omega (arith, k, kind)) in
      let same : attrs ≡ attrs ++ added_by old new header t = sym (append-nil attrs) ∙ ap (λ l. attrs ++ l) (sym none) in
      subst (λ b. RemainingIn old (t.raw_record ++ rest) attrs (if b then rs else record_view_in old.endian old.offset old.round attrs t.raw_record ∷ rs) e) (eq-eqb header.type_ 68 is)
      (piece_next old new header t (marker_record old.endian (section_size_of state old) t.raw_record t.is_record kind) more rest attrs rs e (subst (λ a. RemainingIn new rest a rs e) same come))

  -- the record in the layout is the record in the code
  same_record : (old new : PerfRecordIter R) (header : PerfEventHeader) (found : IdentifiedRecord) (known : AttributeLookup) (t : RawRecordRead state old header new) → header.type_ ≢ 68 → IdentifiesRecord new.attribute_lookup old.offset old.round header new.body.items found known → (attrs : List Attribute)
      → Represents new.endian new.attribute_lookup attrs → record_view_in old.endian old.offset old.round attrs t.raw_record ≡ record_view_with known found new.endian new.body.items
  same_record old new header found known t other finds attrs k =
      let with' : Endianness → ℕ → ℕ → List ℕ → RecordView = λ o kind misc body. record_view o old.offset old.round attrs kind misc body in
      let p = t.raw_record in
      ap (λ n. with' old.endian n (misc_of old.endian p) (drop 8 p)) t.record_type ∙ ap (λ m. with' old.endian header.type_ m (drop 8 p)) t.misc ∙ ap (λ b. with' old.endian header.type_ header.misc b) (sym (t.buffered_body other))
      ∙ ap (λ o. with' o header.type_ header.misc new.body.items) (sym t.same_input.same_endian) ∙ sym (finds.matches new.endian attrs k)

  record_next : (old new : PerfRecordIter R) (header : PerfEventHeader) (found : IdentifiedRecord) (known : AttributeLookup) (t : RawRecordRead state old header new) → IsValidRecord old.endian (section_size_of state old) t.raw_record → header.type_ ≢ 68 → IdentifiesRecord new.attribute_lookup old.offset old.round header new.body.items found known
      → MayStartAt (section_size_of state old) old.offset → (rest : List ℕ) (attrs : List Attribute) → Represents new.endian new.attribute_lookup attrs → (rs : List RecordView) (e : LayoutEnd) → RemainingIn new rest (attrs ++ added_by old new header t) rs e
      → RemainingIn old (t.raw_record ++ rest) attrs (record_view_with known found new.endian new.body.items ∷ rs) e
  record_next old new header found known t is other finds more rest attrs k rs e come =
      subst (λ h. RemainingIn old (t.raw_record ++ rest) attrs (h ∷ rs) e) (same_record old new header found known t other finds attrs k)
      (subst (λ b. RemainingIn old (t.raw_record ++ rest) attrs (if b then rs else record_view_in old.endian old.offset old.round attrs t.raw_record ∷ rs) e) (ne_eqb header.type_ 68 other) (piece_next old new header t is more rest attrs rs e come))

  come_after : (piece new : PerfRecordIter R) → SameButLookup state piece new → (bytes : List ℕ) (attrs : List Attribute) (rs : List RecordView) (e : LayoutEnd) → RemainingIn new bytes attrs rs e → RemainingIn piece bytes attrs rs e
  come_after piece new after bytes attrs rs e come =
      let b = section_size_of state piece in
      subst (λ o. RemainingRecords o bytes b piece.offset piece.round attrs rs e) after.same_endian
      (subst (λ s. RemainingRecords new.endian bytes (section_size_in s) piece.offset piece.round attrs rs e) after.input
      (subst (λ f. RemainingRecords new.endian bytes (section_size_of state new) f piece.round attrs rs e) after.offset
      (subst (λ r. RemainingRecords new.endian bytes (section_size_of state new) new.offset r attrs rs e) after.round come)))

  view_after : (piece new : PerfRecordIter R) → SameButLookup state piece new → iter_source_state state new ≡ iter_source_state state piece
  view_after piece new after = ap (λ i. input_source_state i (state new.source)) after.input ∙ ap (λ s. input_source_state piece.input (state s)) after.source

  -- between the two iterators only markers are skipped
  pub record Idles (old now : PerfRecordIter R) : Type 0 where
    pub ran : old.stage ≡ Running
    pub runs : now.stage ≡ Running
    pub same : SameInput state old now
    pub known : now.attribute_lookup ≡ old.attribute_lookup
    pub empty : now.body.items ≡ []
    pub fits : now.offset < 2 ^ 64
    pub markers : List ℕ
    pub offset : now.offset ≡ old.offset + length markers
    pub skipped_markers : ConsistsOfMarkers old.endian (section_size_of state old) old.offset markers
    pub round : now.round ≡ old.round + length skipped_markers.raw_records
    pub consumption : Consumed (iter_source_state state old) markers (iter_source_state state now)
    pub before : (rest : List ℕ) (attrs : List Attribute) (rs : List RecordView) (e : LayoutEnd) → RemainingIn now rest attrs rs e → RemainingIn old (markers ++ rest) attrs rs e

  -- a record may start after the markers
  begun : (old now : PerfRecordIter R) → Idles old now → MayStartAt (section_size_of state now) now.offset → MayStartAt (section_size_of state old) now.offset
  begun old now i more = subst (λ b. MayStartAt b now.offset) i.same.section_size more

  pub idles_on : (old now new : PerfRecordIter R) (header : PerfEventHeader) → Idles old now → RawRecordRead state now header new → header.type_ ≡ 68 → MayStartAt (section_size_of state now) now.offset → Idles old new
  unfolding markers_more
  idles_on old now new header i t is more = record {
    ran = i.ran;
    runs = t.stage ∙ i.runs;
    same = same_more old now new i.same t.same_input;
    known = t.attribute_lookup ∙ i.known;
    empty = t.empty_if_marker is;
    fits = t.offset_fits;
    markers = i.markers ++ t.raw_record;
    offset = (let a = i.offset in let b = t.offset in omega (arith, length-append i.markers t.raw_record));
    skipped_markers = markers_more old.endian (section_size_of state old) old.offset i.markers t.raw_record i.skipped_markers (subst (MayStartAt (section_size_of state old)) i.offset (begun old now i more)) (subst (λ o. IsRecord o t.raw_record) i.same.same_endian t.is_record)
        (sym (ap (λ o. record_type_of o t.raw_record) i.same.same_endian) ∙ t.record_type ∙ is);
    round =
        let before = i.round in
        let more : new.round ≡ now.round + 1 = t.round ∙ ap (λ b. if b then now.round + 1 else now.round) (eq-eqb header.type_ 68 is) in
        let one : length (t.raw_record ∷ []) ≡ 1 = refl in
        let counted : new.round ≡ old.round + length (i.skipped_markers.raw_records ++ t.raw_record ∷ []) = omega (arith, before, more, one, length-append i.skipped_markers.raw_records (t.raw_record ∷ [])) in
        counted;
    consumption = consumed_more _ _ _ i.markers t.raw_record i.consumption t.consumes;
    before = λ rest attrs rs e come. subst (λ l. RemainingIn old l attrs rs e) (sym (append_assoc i.markers t.raw_record rest))
        (i.before (t.raw_record ++ rest) attrs rs e (marker_next now new header t is more rest attrs rs e come));
  }

  -- the attributes that a record adds are the same for the bytes read, the raw record and the returned record
  same_added : (old now piece : PerfRecordIter R) (header : PerfEventHeader) → Idles old now → (t : RawRecordRead state now header piece) → header.type_ ≢ 68 → (kind : ℕ) (body : List ℕ) → kind ≡ header.type_ → body ≡ piece.body.items
      → attributes_in_record old.endian (section_size_of state old) kind body ≡ added_by now piece header t
  same_added old now piece header i t other kind body is buffered =
      ap (λ o. attributes_in_record o (section_size_of state old) kind body) (sym i.same.same_endian) ∙ ap (λ b. attributes_in_record now.endian b kind body) (sym i.same.section_size)
      ∙ ap (λ k. attributes_in_record now.endian (section_size_of state now) k body) (is ∙ sym t.record_type) ∙ ap (λ l. attributes_in_record now.endian (section_size_of state now) (record_type_of now.endian t.raw_record) l) (buffered ∙ t.buffered_body other)

  same_consumed : (old piece : PerfRecordIter R) → SameInput state old piece → (kind kind' : ℕ) (body body' : List ℕ) → kind' ≡ kind → body' ≡ body
      → attributes_in_record old.endian (section_size_of state old) kind' body' ≡ attributes_in_record piece.endian (section_size_of state piece) kind body
  same_consumed old piece same kind kind' body body' is buffered =
      ap (λ o. attributes_in_record o (section_size_of state old) kind' body') (sym same.same_endian) ∙ ap (λ b. attributes_in_record piece.endian b kind' body') (sym same.section_size)
      ∙ ap (λ k. attributes_in_record piece.endian (section_size_of state piece) k body') is ∙ ap (λ l. attributes_in_record piece.endian (section_size_of state piece) kind l) buffered

  -- the record's raw record is valid in the layout
  record_piece : (now piece new : PerfRecordIter R) (file file' : PerfFile) (offset round : ℕ) (header : PerfEventHeader) (found : IdentifiedRecord) → (t : RawRecordRead state now header piece) → header.type_ ≢ 68 → RecordProcessed state piece file offset round header found new file'
      → IsValidRecord now.endian (section_size_of state now) t.raw_record
  record_piece now piece new file file' offset round header found t other processed =
      subst (λ o. IsValidRecord o (section_size_of state now) t.raw_record) t.same_input.same_endian
      (subst (λ b. IsValidRecord piece.endian b t.raw_record) t.same_input.section_size
      (consumed_record piece.endian (section_size_of state piece) header.type_ t.raw_record piece.body.items file file' (subst (λ o. IsRecord o t.raw_record) (sym t.same_input.same_endian) t.is_record) (ap (λ o. record_type_of o t.raw_record) t.same_input.same_endian ∙ t.record_type) (t.buffered_body other)
      processed.valid_attribute processed.valid_feature processed.file_updates))

  step_same : (o o' : Endianness) (b b' : SectionSize) (k k' : ℕ) (l l' : List ℕ) (file file' : PerfFile) → o ≡ o' → b ≡ b' → k ≡ k' → l ≡ l' → UpdatesPerfFile o b k l file file' → UpdatesPerfFile o' b' k' l' file file'
  step_same o o' b b' k k' l l' file file' po pb pk pl processed =
      subst (λ x. UpdatesPerfFile x b' k' l' file file') po (subst (λ x. UpdatesPerfFile o x k' l' file file') pb (subst (λ x. UpdatesPerfFile o b x l' file file') pk (subst (λ x. UpdatesPerfFile o b k x file file') pl processed)))

  -- a record that isn't a marker is in the same round
  read_round : (old new : PerfRecordIter R) (header : PerfEventHeader) → RawRecordRead state old header new → header.type_ ≢ 68 → new.round ≡ old.round
  read_round old new header t other = t.round ∙ ap (λ b. if b then old.round + 1 else old.round) (ne_eqb header.type_ 68 other)

  -- `piece` is the iterator after the raw record is read; `new` is the iterator after the record is identified and its metadata
  -- applied.
  pub returns_record : (old now piece new : PerfRecordIter R) (file file' : PerfFile) (header : PerfEventHeader) (found : IdentifiedRecord) → Idles old now → RawRecordRead state now header piece → header.type_ ≢ 68 → MayStartAt (section_size_of state now) now.offset
      → RecordProcessed state piece file now.offset now.round header found new file' → ReturnsRecord state old file (record_view_with new.attribute_lookup found new.endian new.body.items) new file'
  returns_record old now piece new file file' header found i t other more processed =
      let after = processed.same_but_lookup in
      let finds = processed.record_identified in
      let buffered = after.body ∙ t.buffered_body other in
      let same_piece : SameInput state old piece = same_more old now piece i.same t.same_input in
      let same : SameInput state old new = record { same_endian = after.same_endian ∙ same_piece.same_endian; section_size = ap section_size_in after.input ∙ same_piece.section_size } in
      let least = record_least now.endian t.raw_record t.is_record in
      let split : take 8 t.raw_record ++ new.body.items ≡ t.raw_record = ap (λ b. take 8 t.raw_record ++ b) buffered ∙ take-append-drop 8 t.raw_record in
      let h = record_view_with new.attribute_lookup found new.endian new.body.items in
      let adds : attributes_in_record old.endian (section_size_of state old) h.record_type h.body ≡ added_by now piece header t = same_added old now piece header i t other h.record_type h.body finds.record_type after.body in
      let knows_piece = λ (attrs : List Attribute) (k : Represents old.endian old.attribute_lookup attrs). still_represents old piece attrs same_piece (t.attribute_lookup ∙ i.known) k in
      let all : Consumed (iter_source_state state old) (i.markers ++ t.raw_record) (iter_source_state state new) = subst (λ s. Consumed (iter_source_state state old) (i.markers ++ t.raw_record) s) (sym (view_after piece new after)) (consumed_more _ _ _ i.markers t.raw_record i.consumption t.consumes) in
      let same_found : record_view_with new.attribute_lookup found piece.endian piece.body.items ≡ h = ap (λ o. record_view_with new.attribute_lookup found o piece.body.items) (sym after.same_endian) ∙ ap (record_view_with new.attribute_lookup found new.endian) (sym after.body) in
      record {
        was_running = i.ran;
        stage_running = processed.stage ∙ t.stage ∙ i.runs;
        same_input = same;
        represents = λ attrs k. subst (λ o. Represents o new.attribute_lookup (attrs ++ attributes_in_record old.endian (section_size_of state old) h.record_type h.body)) (sym after.same_endian)
            (subst (λ l. Represents piece.endian new.attribute_lookup (attrs ++ l)) (sym (same_consumed old piece same_piece header.type_ h.record_type piece.body.items h.body finds.record_type after.body)) (processed.represents attrs (knows_piece attrs k)));
        extends_remaining = λ attrs k rs e come.
            lift_on (iter_source_state state old).bytes (iter_source_state state new).bytes (i.markers ++ t.raw_record) (λ l. RemainingIn old l attrs (h ∷ rs) e) (λ l. RemainingIn new l (attrs ++ attributes_in_record old.endian (section_size_of state old) h.record_type h.body) rs e)
            all.bytes
            (λ rest c. subst (λ l. RemainingIn old l attrs (h ∷ rs) e) (sym (append_assoc i.markers t.raw_record rest))
            (i.before (t.raw_record ++ rest) attrs (h ∷ rs) e
            (subst (λ x. RemainingIn now (t.raw_record ++ rest) attrs (x ∷ rs) e) same_found
            (record_next now piece header found new.attribute_lookup t (record_piece now piece new file file' now.offset now.round header found t other processed) other finds more rest attrs (knows_piece attrs k) rs e
            (come_after piece new after rest (attrs ++ added_by now piece header t) rs e (subst (λ l. RemainingIn new rest (attrs ++ l) rs e) adds c))))))
            come;
        same_attribute_count = λ pipe metadata attrs k.
            processed.same_attribute_count (same_piece.section_size ∙ pipe) (subst IsMetadataType finds.record_type metadata) attrs
            (subst (λ e. Represents e piece.attribute_lookup attrs) (sym same_piece.same_endian) (subst (λ n. Represents old.endian n attrs) (sym (t.attribute_lookup ∙ i.known)) k));
        file_updates = step_same piece.endian old.endian (section_size_of state piece) (section_size_of state old) header.type_ h.record_type piece.body.items h.body file file' same_piece.same_endian same_piece.section_size (sym finds.record_type) (sym after.body) processed.file_updates;
        file_unchanged_otherwise = λ cause_of. processed.file_unchanged_otherwise (elim cause_of [ inl file ↦ inl (λ none. file (sym same_piece.section_size ∙ none)) | inr isnt ↦ inr (λ is. isnt (subst IsMetadataType (sym finds.record_type) is)) ]);
        buffered_body = refl;
        markers = i.markers;
        valid_markers = i.skipped_markers;
        may_start = subst (MayStartAt (section_size_of state old)) (sym finds.offset_matches) (begun old now i more);
        header_bytes = take 8 t.raw_record;
        header_len = length-take-le 8 t.raw_record least;
        record_offset = finds.offset_matches ∙ i.offset;
        record_round = finds.round_matches ∙ i.round;
        round = after.round ∙ read_round now piece header t other ∙ sym finds.round_matches;
        consumes = subst (λ p. Consumed (iter_source_state state old) (i.markers ++ p) (iter_source_state state new)) (sym split) all;
        no_pending_header = subst HasNoPendingHeader (sym after.input) t.no_pending_header;
        offset = (let o = t.offset in let a = after.offset in let l = ap length buffered in let at = finds.offset_matches in omega (arith, length-drop 8 t.raw_record, l, at, a, o, least));
        offset_fits = (let f = t.offset_fits in let a = after.offset in omega (arith, f, a));
      }

  pub source_error_later : (order : Endianness) (bound : SectionSize) (a b c : State) (first_part consumed_bytes : List ℕ) (e : Error) → Consumed a first_part b → SourceErrorInRecord order bound b consumed_bytes e c → SourceErrorInRecord order bound a consumed_bytes e c
  source_error_later order bound a b c first_part consumed_bytes e before (inl (short, inl (is, failed))) = inl (short, inl (is, failed_later a b c first_part before failed))
  source_error_later order bound a b c first_part consumed_bytes e before (inl (short, inr (is, file, paused))) = inl (short, inr (is, file, paused_later a b c first_part before paused))
  source_error_later order bound a b c first_part consumed_bytes e before (inr (long, is, inl failed)) = inr (long, is, inl (failed_later a b c first_part before failed))
  source_error_later order bound a b c first_part consumed_bytes e before (inr (long, is, inr (within, paused))) = inr (long, is, inr (within, paused_later a b c first_part before paused))

  pub source_error_same : (o o' : Endianness) (b b' : SectionSize) (a c : State) (consumed_bytes : List ℕ) (e : Error) → o ≡ o' → b ≡ b' → SourceErrorInRecord o b a consumed_bytes e c → SourceErrorInRecord o' b' a consumed_bytes e c
  source_error_same o o' b b' a c consumed_bytes e po pb source_error = subst (λ x. SourceErrorInRecord x b' a consumed_bytes e c) po (subst (λ x. SourceErrorInRecord o x a consumed_bytes e c) pb source_error)

  -- the bytes of an iterator have a layout error that `e` reports, and the `PerfFile` passes the checks before it
  abbrev FailsAt : PerfRecordIter R → PerfFile → Error → List ℕ → Type 0
  FailsAt it file e bytes = (f : LayoutError) × ((attrs : List Attribute) → Represents it.endian it.attribute_lookup attrs → RemainingIn it bytes attrs [] (ends_with_error f)) × PassesEarlierChecks it.endian it.attribute_lookup file f × IsErrorFor f e

  -- the bytes at the next record have a layout error that doesn't concern metadata
  abbrev HasErrorAt : PerfRecordIter R → Error → List ℕ → Type 0
  HasErrorAt it e bytes = (f : LayoutError) × ((attrs : List Attribute) → ErrorAt it.endian (section_size_of state it) it.offset attrs bytes f) × (¬ ConcernsMetadata f) × IsErrorFor f e

  fails_after : (old now : PerfRecordIter R) (file : PerfFile) (e : Error) (i : Idles old now) → MayStartAt (section_size_of state now) now.offset → (rest : List ℕ) → HasErrorAt now e rest → FailsAt old file e (i.markers ++ rest)
  fails_after old now file e i more rest f = (
    f.0,
    (λ attrs k. i.before rest attrs [] (ends_with_error f.0)
        (error_next now.endian rest (section_size_of state now) now.offset now.round attrs f.0 i.fits (represented_consistent old.endian old.attribute_lookup attrs k) more (f.1 attrs))),
    (λ late. absurd (f.2 late)),
    f.3,
  )

  error_cause : (old now new : PerfRecordIter R) (file : PerfFile) (consumed_bytes : List ℕ) (e : Error) (i : Idles old now) → MayStartAt (section_size_of state now) now.offset
      → ShownBy (HasErrorAt now e) consumed_bytes (iter_source_state state new) ⊎ SourceErrorInRecord now.endian (section_size_of state now) (iter_source_state state now) consumed_bytes e (iter_source_state state new)
      → IsErrorCause state old file i.markers consumed_bytes e new
  error_cause old now new file consumed_bytes e i more (inl (inl each)) = inl (inl (λ rest. subst (FailsAt old file e) (sym (append_assoc i.markers consumed_bytes rest)) (fails_after old now file e i more (consumed_bytes ++ rest) (each rest))))
  error_cause old now new file consumed_bytes e i more (inl (inr (none, here))) = inl (inr (none, fails_after old now file e i more consumed_bytes here))
  error_cause old now new file consumed_bytes e i more (inr source) =
      inr (inl (source_error_same now.endian old.endian (section_size_of state now) (section_size_of state old) (iter_source_state state old) (iter_source_state state new) consumed_bytes e i.same.same_endian i.same.section_size
      (source_error_later now.endian (section_size_of state now) (iter_source_state state old) (iter_source_state state now) (iter_source_state state new) i.markers consumed_bytes e i.consumption source)))

  same_view : (new new' : PerfRecordIter R) → new'.source ≡ new.source → new'.input ≡ new.input → iter_source_state state new' ≡ iter_source_state state new
  same_view new new' source input = ap (λ i. input_source_state i (state new'.source)) input ∙ ap (λ s. input_source_state new.input (state s)) source

  view_stopped : (new new' : PerfRecordIter R) → IsStopped new new' → iter_source_state state new' ≡ iter_source_state state new
  view_stopped new new' stopped = same_view new new' stopped.source stopped.input

  pub stops : (old now new new' : PerfRecordIter R) (file : PerfFile) (e : Error) → Idles old now → MayStartAt (section_size_of state now) now.offset → RawRecordError state now e new → IsStopped new new' → new'.offset ≡ new.offset → StopsAtError state old file e new'
  stops old now new new' file e i more r stopped offset =
      let error_there = r.error in
      let same = view_stopped new new' stopped in
      record {
        markers = i.markers;
        consumed_bytes = error_there.consumed_bytes;
        valid_markers = i.skipped_markers;
        offset = offset ∙ r.offset ∙ i.offset;
        round = stopped.round ∙ r.round ∙ i.round;
        may_start = subst (MayStartAt (section_size_of state old)) (sym (offset ∙ r.offset)) (begun old now i more);
        consumes = subst (λ s. Consumed (iter_source_state state old) (i.markers ++ error_there.consumed_bytes) s) (sym same) (consumed_more _ _ _ i.markers error_there.consumed_bytes i.consumption error_there.consumes);
        no_pending_header = subst HasNoPendingHeader (sym stopped.input) r.no_pending_header;
        within_record = subst (λ o. StaysWithinRecord o error_there.consumed_bytes) i.same.same_endian error_there.within_record;
        buffer_bound = (let too_few = error_there.buffer_bound in let b = ap (λ v. length v.items) stopped.body in omega (arith, too_few, b));
        if_out_of_memory = λ m. let needs = error_there.if_out_of_memory m in (subst (λ o. MayNeedMemory o error_there.consumed_bytes) i.same.same_endian needs.0, inl (subst (λ o. IsTruncatedAfterHeader o error_there.consumed_bytes) i.same.same_endian needs.1));
        cause = λ m. error_cause old now new' file error_there.consumed_bytes e i more (elim (error_there.cause m) [
          | inl seen_here ↦ inl (subst (ShownBy (HasErrorAt now e) error_there.consumed_bytes) (sym same) seen_here)
          | inr source_error ↦ inr (subst (λ s. SourceErrorInRecord now.endian (section_size_of state now) (iter_source_state state now) error_there.consumed_bytes e s) (sym same) source_error)
        ]);
      }

  -- a buffer with less capacity is too small as well
  smaller_exceeds : (order : Endianness) (less more : ℕ) (consumed_bytes : List ℕ) → less ≤ more → ExceedsCapacity order more consumed_bytes → ExceedsCapacity order less consumed_bytes
  smaller_exceeds order less more consumed_bytes within (inl exceeds) = inl (omega (arith, within, exceeds))
  smaller_exceeds order less more consumed_bytes within (inr (kind, there, exceeds)) = inr (kind, there, omega (arith, within, exceeds))

  -- memory runs out for the body of the record after the markers
  pub larger_buffer : (old now new new' : PerfRecordIter R) → Idles old now → vec_capacity old.body ≤ vec_capacity now.body → RawRecordExceedsBuffer state now new → IsStopped new new' → NeedsLargerBuffer state old new'
  larger_buffer old now new new' i kept x stopped = record {
    markers = i.markers;
    valid_markers = i.skipped_markers;
    consumed_bytes = x.consumed_bytes;
    consumes = subst (λ s. Consumed (iter_source_state state old) (i.markers ++ x.consumed_bytes) s) (sym (view_stopped new new' stopped)) (consumed_more _ _ _ i.markers x.consumed_bytes i.consumption x.consumes);
    exceeds = subst (λ o. ExceedsCapacity o (vec_capacity old.body) x.consumed_bytes) i.same.same_endian (smaller_exceeds now.endian (vec_capacity old.body) (vec_capacity now.body) x.consumed_bytes kept x.exceeds);
  }

  -- memory runs out for the metadata of the record in the buffer
  pub buffers_metadata : (old now piece new : PerfRecordIter R) (file file' : PerfFile) (header : PerfEventHeader) (e : Error) → Idles old now → RawRecordRead state now header piece → header.type_ ≢ 68
      → RecordRejected state piece file header e new file' → BuffersMetadata state old new
  buffers_metadata old now piece new file file' header e i t other d = (
    sym i.same.section_size ∙ sym t.same_input.section_size ∙ d.in_pipe,
    (
      t.raw_record,
      subst (λ o. IsRecord o t.raw_record) i.same.same_endian t.is_record,
      subst IsMetadataType (sym t.record_type ∙ ap (λ o. record_type_of o t.raw_record) i.same.same_endian) d.metadata_type,
      d.same_but_lookup.body ∙ t.buffered_body other,
    ),
  )

  -- the bytes of that record were consumed
  pub consumes_metadata : (old now piece new new' : PerfRecordIter R) (file file' : PerfFile) (header : PerfEventHeader) (e : Error) → Idles old now → RawRecordRead state now header piece
      → RecordRejected state piece file header e new file' → IsStopped new new' → ConsumesMetadata state old new'
  consumes_metadata old now piece new new' file file' header e i t d stopped = record {
    in_pipe = sym i.same.section_size ∙ sym t.same_input.section_size ∙ d.in_pipe;
    markers = i.markers;
    valid_markers = i.skipped_markers;
    raw_record = t.raw_record;
    is_record = subst (λ o. IsRecord o t.raw_record) i.same.same_endian t.is_record;
    metadata_type = subst IsMetadataType (sym t.record_type ∙ ap (λ o. record_type_of o t.raw_record) i.same.same_endian) d.metadata_type;
    consumes = subst (λ s. Consumed (iter_source_state state old) (i.markers ++ t.raw_record) s) (sym (view_stopped new new' stopped ∙ view_after piece new d.same_but_lookup))
        (consumed_more _ _ _ i.markers t.raw_record i.consumption t.consumes);
  }

  -- a layout error in a metadata record
  metadata_layout_error : (old now piece new : PerfRecordIter R) (file : PerfFile) (header : PerfEventHeader) (e : Error) (i : Idles old now) (t : RawRecordRead state now header piece) → MayStartAt (section_size_of state now) now.offset → section_size_of state now ≡ None → iter_source_state state new ≡ iter_source_state state piece
      → LateFault now.endian old.attribute_lookup file now.offset t.raw_record e → IsErrorCause state old file i.markers t.raw_record e new
  metadata_layout_error old now piece new file header e i t more pipe same (f, at, skipped_markers, answers) = inl (inl (λ rest. (
    f,
    (λ attrs k. subst (λ l. RemainingIn old l attrs [] (ends_with_error f)) (sym (append_assoc i.markers t.raw_record rest))
        (i.before (t.raw_record ++ rest) attrs [] (ends_with_error f)
        (error_next now.endian (t.raw_record ++ rest) (section_size_of state now) now.offset now.round attrs f i.fits (represented_consistent old.endian old.attribute_lookup attrs k) more
        (subst (λ b. ErrorAt now.endian b now.offset attrs (t.raw_record ++ rest) f) (sym pipe) (at rest attrs (subst (λ o. Represents o old.attribute_lookup attrs) (sym i.same.same_endian) k)))))),
    subst (λ o. PassesEarlierChecks o old.attribute_lookup file f) i.same.same_endian skipped_markers,
    answers,
  )))

  metadata_error_cause : (old now piece new : PerfRecordIter R) (file : PerfFile) (header : PerfEventHeader) (e : Error) (i : Idles old now) (t : RawRecordRead state now header piece) → MayStartAt (section_size_of state now) now.offset → section_size_of state now ≡ None
      → new.offset ≡ now.offset → IsMetadataType header.type_ → iter_source_state state new ≡ iter_source_state state piece → LateFault now.endian old.attribute_lookup file now.offset t.raw_record e ⊎ Foreign now.endian old.attribute_lookup file t.raw_record e → IsErrorCause state old file i.markers t.raw_record e new
  metadata_error_cause old now piece new file header e i t more pipe remains metadata same (inl seen_here) = metadata_layout_error old now piece new file header e i t more pipe same seen_here
  metadata_error_cause old now piece new file header e i t more pipe remains metadata same (inr mismatch) = inr (inr (
    record {
      in_pipe = sym i.same.section_size ∙ pipe;
      is_record = subst (λ o. IsRecord o t.raw_record) i.same.same_endian t.is_record;
      metadata_type = subst IsMetadataType (sym t.record_type ∙ ap (λ o. record_type_of o t.raw_record) i.same.same_endian) metadata;
      cause = subst (λ o. Foreign o old.attribute_lookup file t.raw_record e) i.same.same_endian mismatch;
    },
    (let o = t.offset in let f = t.offset_fits in omega (arith, o, f, remains)),
  ))

  -- the metadata of a complete record isn't applied
  pub late_stops : (old now piece new new' : PerfRecordIter R) (file file' : PerfFile) (header : PerfEventHeader) (e : Error) → Idles old now → RawRecordRead state now header piece → header.type_ ≢ 68 → MayStartAt (section_size_of state now) now.offset
      → RecordRejected state piece file header e new file' → IsStopped new new' → new'.offset ≡ now.offset → StopsAtError state old file e new'
  late_stops old now piece new new' file file' header e i t other more d stopped offset =
      let pipe : section_size_of state now ≡ None = sym t.same_input.section_size ∙ d.in_pipe in
      let same : iter_source_state state new' ≡ iter_source_state state piece = view_stopped new new' stopped ∙ view_after piece new d.same_but_lookup in
      let buffered = ap (λ v. length v.items) stopped.body ∙ ap length (d.same_but_lookup.body ∙ t.buffered_body other) in
      let order : piece.endian ≡ now.endian = t.same_input.same_endian in
      let fits : now.offset + length t.raw_record < 2 ^ 64 = (let o = t.offset in let f = t.offset_fits in omega (arith, o, f)) in
      record {
        markers = i.markers;
        valid_markers = i.skipped_markers;
        consumed_bytes = t.raw_record;
        offset = offset ∙ i.offset;
        round = stopped.round ∙ d.same_but_lookup.round ∙ read_round now piece header t other ∙ i.round;
        may_start = subst (MayStartAt (section_size_of state old)) (sym offset) (begun old now i more);
        consumes = subst (λ s. Consumed (iter_source_state state old) (i.markers ++ t.raw_record) s) (sym same) (consumed_more _ _ _ i.markers t.raw_record i.consumption t.consumes);
        no_pending_header = subst HasNoPendingHeader (sym (stopped.input ∙ d.same_but_lookup.input)) t.no_pending_header;
        within_record = subst (λ o. StaysWithinRecord o t.raw_record) i.same.same_endian (record_within now.endian t.raw_record t.is_record);
        buffer_bound = omega (arith, buffered);
        if_out_of_memory = λ m.
            let contents : HasValidMetadata now.endian header.type_ piece.body.items = subst (λ o. HasValidMetadata o header.type_ piece.body.items) order (d.if_out_of_memory m).1 in
            let buffered : HasValidMetadata now.endian header.type_ (drop 8 t.raw_record) = subst (HasValidMetadata now.endian header.type_) (t.buffered_body other) contents in
            let count : SameAttributeCount old.endian old.attribute_lookup file = subst (λ o. SameAttributeCount o old.attribute_lookup file) (order ∙ i.same.same_endian) (subst (λ k. SameAttributeCount piece.endian k file) (t.attribute_lookup ∙ i.known) (d.if_out_of_memory m).0) in (
              subst (λ o. MayNeedMemory o t.raw_record) i.same.same_endian (needs_memory now.endian header.type_ t.raw_record t.is_record t.record_type buffered),
              inr (
                sym i.same.section_size ∙ pipe,
                subst (λ o. IsRecord o t.raw_record) i.same.same_endian t.is_record,
                count,
                subst (λ o. HasValidMetadata o (record_type_of o t.raw_record) (drop 8 t.raw_record)) i.same.same_endian (subst (λ k. HasValidMetadata now.endian k (drop 8 t.raw_record)) (sym t.record_type) buffered),
              ),
            );
        cause = λ m. metadata_error_cause old now piece new' file header e i t more pipe offset d.metadata_type same
            (late_cause now.endian old.attribute_lookup file now.offset t.raw_record e t.is_record fits
            (subst (λ k. RejectsMetadata now.endian old.attribute_lookup file k (drop 8 t.raw_record) e) (sym t.record_type)
            (subst (λ b. RejectsMetadata now.endian old.attribute_lookup file header.type_ b e) (t.buffered_body other)
            (subst (λ n. RejectsMetadata now.endian n file header.type_ piece.body.items e) (t.attribute_lookup ∙ i.known)
            (subst (λ o. RejectsMetadata o piece.attribute_lookup file header.type_ piece.body.items e) order (d.cause m))))));
      }

  -- the section has ended
  pub at_end : (old now : PerfRecordIter R) → Idles old now → TestsMayStart (section_size_of state now) now.offset false → (attrs : List Attribute) → Represents old.endian old.attribute_lookup attrs → HasRemainingRecords state old attrs [] ends_complete
  at_end old now i done attrs k =
      holds_in_all (iter_source_state state old).bytes (iter_source_state state now).bytes i.markers (λ l. RemainingIn old l attrs [] ends_complete) i.consumption.bytes
      (λ rest. i.before rest attrs [] ends_complete (nothing_more now.endian rest (section_size_of state now) now.offset now.round attrs i.fits (represented_consistent old.endian old.attribute_lookup attrs k) (done.1 now.endian rest)))

  pub section_ends : (old now new : PerfRecordIter R) → Idles old now → TestsMayStart (section_size_of state now) now.offset false → IsStopped now new → new.offset ≡ now.offset → ReachesEnd state old new
  section_ends old now new i done stopped offset =
      let empty = ap (λ v. v.items) stopped.body ∙ i.empty in
      let too_few = ap length empty in
      let file : section_size_of state old ≢ None = λ none. done.0 (i.same.section_size ∙ none) in
      record {
        no_records_left = inl (λ attrs k. at_end old now i done attrs k);
        markers = i.markers;
        valid_markers = i.skipped_markers;
        consumed_bytes = [];
        offset = offset ∙ i.offset;
        round = stopped.round ∙ i.round;
        consumes = subst (λ l. Consumed (iter_source_state state old) l (iter_source_state state new)) (sym (append-nil i.markers)) (subst (λ s. Consumed (iter_source_state state old) i.markers s) (sym (view_stopped now new stopped)) i.consumption);
        section_end = λ _. (refl, empty);
        pipe_exhausted = λ none. absurd (file none);
        buffer_bound = omega (arith, too_few);
        at_end = subst (λ b. IsEnd old.endian b new.offset []) i.same.section_size (subst (λ o. IsEnd old.endian (section_size_of state now) o []) (sym offset) (done.1 old.endian []));
        section_size = ap section_size_in stopped.input ∙ i.same.section_size;
        no_pending_header = section_keeps_none new.input (λ none. file (sym i.same.section_size ∙ ap section_size_in (sym stopped.input) ∙ none));
      }

  -- all remaining bytes are known: markers and a truncated record
  all_truncated : (old now : PerfRecordIter R) (consumed_bytes : List ℕ) (i : Idles old now) → section_size_of state now ≡ None → IsTruncated now.endian now.offset consumed_bytes → (iter_source_state state old).bytes ≡ Some (i.markers ++ consumed_bytes)
      → (attrs : List Attribute) → Represents old.endian old.attribute_lookup attrs → HasRemainingRecords state old attrs [] ends_complete
  all_truncated old now consumed_bytes i pipe truncated is attrs k =
      subst (λ o. IfSome o (λ l. RemainingIn old l attrs [] ends_complete)) (sym is)
      (i.before consumed_bytes attrs [] ends_complete (nothing_more now.endian consumed_bytes (section_size_of state now) now.offset now.round attrs i.fits (represented_consistent old.endian old.attribute_lookup attrs k)
      (subst (λ b. IsEnd now.endian b now.offset consumed_bytes) (sym pipe) truncated)))

  -- the pipe has ended or paused
  pub pipe_ends : (old now new new' : PerfRecordIter R) → Idles old now → RawRecordTruncated state now new → IsStopped new new' → new'.offset ≡ new.offset → ReachesEnd state old new'
  pipe_ends old now new new' i c stopped offset =
      let truncation = c.is_truncated in
      let same = view_stopped new new' stopped in
      let all : Consumed (iter_source_state state old) (i.markers ++ truncation.consumed_bytes) (iter_source_state state new) = consumed_more _ _ _ i.markers truncation.consumed_bytes i.consumption truncation.consumes in
      let pipe : section_size_of state old ≡ None = sym i.same.section_size ∙ c.in_pipe in
      let too_few = truncation.buffer_bound in
      let body = ap (λ v. length v.items) stopped.body in
      record {
        no_records_left = elim (none_left (iter_source_state state new).bytes) [
          | inl end ↦ inl (λ attrs k. all_truncated old now truncation.consumed_bytes i c.in_pipe truncation.is_truncated (all_read (iter_source_state state old) (iter_source_state state new) (i.markers ++ truncation.consumed_bytes) all end) attrs k)
          | inr some ↦ elim (none_or_paused (iter_source_state state now) (iter_source_state state new) truncation.ended_or_paused) [
            | inl end ↦ absurd (some end)
            | inr paused ↦ inr (
              pipe,
              subst (SourcePaused (iter_source_state state old)) (sym same) (paused_later (iter_source_state state old) (iter_source_state state now) (iter_source_state state new) i.markers i.consumption paused),
              subst (λ s. s.bytes ≢ Some []) (sym same) some,
            )
          ]
        ];
        markers = i.markers;
        valid_markers = i.skipped_markers;
        consumed_bytes = truncation.consumed_bytes;
        offset = offset ∙ c.offset ∙ i.offset;
        round = stopped.round ∙ c.round ∙ i.round;
        consumes = subst (λ s. Consumed (iter_source_state state old) (i.markers ++ truncation.consumed_bytes) s) (sym same) all;
        section_end = λ file. absurd (file pipe);
        pipe_exhausted = λ _. elim (none_or_paused (iter_source_state state now) (iter_source_state state new) truncation.ended_or_paused) [
          | inl end ↦ inl (ap (λ s. s.bytes) same ∙ end)
          | inr paused ↦ inr (subst (SourcePaused (iter_source_state state old)) (sym same) (paused_later (iter_source_state state old) (iter_source_state state now) (iter_source_state state new) i.markers i.consumption paused))
        ];
        buffer_bound = omega (arith, too_few, body);
        at_end = subst (λ b. IsEnd old.endian b new'.offset truncation.consumed_bytes) (sym pipe)
            (subst (λ o. IsTruncated o new'.offset truncation.consumed_bytes) i.same.same_endian (subst (λ n. IsTruncated now.endian n truncation.consumed_bytes) (sym (offset ∙ c.offset)) truncation.is_truncated));
        section_size = ap section_size_in stopped.input ∙ c.same_input.section_size ∙ i.same.section_size;
        no_pending_header = subst HasNoPendingHeader (sym stopped.input) c.no_pending_header;
      }

  -- no record has been returned yet
  pub read_so_far_none : (it : PerfRecordIter R) → ReadSoFar state it [] it
  read_so_far_none it = record {
    same_input = same_none it;
    represents = λ attrs k. subst (Represents it.endian it.attribute_lookup) (sym (append-nil attrs)) k;
    extends_remaining = λ attrs k more e come. subst (λ a. HasRemainingRecords state it a more e) (append-nil attrs) come;
    consumed_bytes = [];
    consumes = consumed_none (iter_source_state state it);
  }

  -- one more record is returned
  pub read_so_far_more : (old now new : PerfRecordIter R) (file file' : PerfFile) (records : List RecordView) (h : RecordView) → ReadSoFar state old records now → ReturnsRecord state now file h new file' → ReadSoFar state old (records ++ h ∷ []) new
  read_so_far_more old now new file file' records h before step =
      let b = attributes_in_views old.endian (section_size_of state old) records in
      let one = attributes_in_record now.endian (section_size_of state now) h.record_type h.body in
      let same_one : attributes_in_record old.endian (section_size_of state old) h.record_type h.body ≡ one = same_consumed old now before.same_input h.record_type h.record_type h.body h.body refl refl in
      let all : attributes_in_views old.endian (section_size_of state old) (records ++ h ∷ []) ≡ b ++ one = added_one old.endian (section_size_of state old) records h ∙ ap (λ l. b ++ l) same_one in
      record {
        same_input = same_more old now new before.same_input step.same_input;
        represents = λ attrs k. subst (Represents new.endian new.attribute_lookup) (append_assoc attrs b one ∙ ap (λ l. attrs ++ l) (sym all)) (step.represents (attrs ++ b) (before.represents attrs k));
        extends_remaining = λ attrs k more e come.
            let same : attrs ++ attributes_in_views old.endian (section_size_of state old) (records ++ h ∷ []) ≡ (attrs ++ b) ++ one = ap (λ l. attrs ++ l) all ∙ sym (append_assoc attrs b one) in
            let come' = before.extends_remaining attrs k (h ∷ more) e (step.extends_remaining (attrs ++ b) (before.represents attrs k) more e (subst (λ a. HasRemainingRecords state new a more e) same come)) in
            subst (λ l. HasRemainingRecords state old attrs l e) (sym (append_assoc records (h ∷ []) more)) come';
        consumed_bytes = before.consumed_bytes ++ (step.markers ++ (step.header_bytes ++ h.body));
        consumes = consumed_more _ _ _ before.consumed_bytes _ before.consumes step.consumes;
      }

  -- if no records remain, these records were all that remained
  pub read_so_far_whole : (old now : PerfRecordIter R) (records : List RecordView) → ReadSoFar state old records now → ((attrs : List Attribute) → Represents now.endian now.attribute_lookup attrs → HasRemainingRecords state now attrs [] ends_complete)
      → (attrs : List Attribute) → Represents old.endian old.attribute_lookup attrs → HasRemainingRecords state old attrs records ends_complete
  read_so_far_whole old now records before none attrs k =
      subst (λ l. HasRemainingRecords state old attrs l ends_complete) (append-nil records)
      (before.extends_remaining attrs k [] ends_complete (none (attrs ++ attributes_in_views old.endian (section_size_of state old) records) (before.represents attrs k)))

  -- if the iterator then reports the end, these records were all that remained, or, in a pipe, the source paused
  pub read_so_far_end : (old now new : PerfRecordIter R) (file file' : PerfFile) (records : List RecordView) → ReadSoFar state old records now → now.stage ≡ Running → ReturnsEnd state now file new file'
      → ((attrs : List Attribute) → Represents old.endian old.attribute_lookup attrs → HasRemainingRecords state old attrs records ends_complete) ⊎ ((section_size_of state old ≡ None) × SourcePaused (iter_source_state state old) (iter_source_state state new))
  read_so_far_end old now new file file' records before runs ended = elim (ended.if_running runs).no_records_left [
    | inl is ↦ inl (read_so_far_whole old now records before is)
    | inr paused ↦ inr (sym before.same_input.section_size ∙ paused.0, paused_later (iter_source_state state old) (iter_source_state state now) (iter_source_state state new) before.consumed_bytes before.consumes paused.1)
  ]

  -- If the iterator then reports an error, these records were all before a layout error, or the source failed or paused in that
  -- call, or the `PerfFile` was that of another input.
  pub read_so_far_reason : (old now new : PerfRecordIter R) (file file' : PerfFile) (records : List RecordView) (e : Error) → ReadSoFar state old records now → now.stage ≡ Running → ReturnsError state now file e new file' → e ≢ error.Memory
      → IfSome (iter_source_state state old).bytes (λ bytes. (f : LayoutError) × ((attrs : List Attribute) → Represents old.endian old.attribute_lookup attrs → RemainingRecords old.endian bytes (section_size_of state old) old.offset old.round attrs records (ends_with_error f)) × IsErrorFor f e)
      ⊎ (((consumed_bytes : List ℕ) × SourceErrorInRecord now.endian (section_size_of state now) (iter_source_state state now) consumed_bytes e (iter_source_state state new))
      ⊎ ((consumed_bytes : List ℕ) × IsMismatchedPerfFile state now file consumed_bytes e))
  read_so_far_reason old now new file file' records e before runs error_there other =
      let s = error_there.if_running runs in
      elim (s.cause other) [
        | inl seen_here ↦ inl (
            lift (iter_source_state state old).bytes (iter_source_state state now).bytes before.consumed_bytes
            (λ bytes. (f : LayoutError) × ((attrs : List Attribute) → Represents old.endian old.attribute_lookup attrs → RemainingRecords old.endian bytes (section_size_of state old) old.offset old.round attrs records (ends_with_error f)) × IsErrorFor f e)
            (FailsAt now file e)
            before.consumes.bytes
            (λ x y is is' f. (
              f.0,
              (λ attrs k.
                  let b = attributes_in_views old.endian (section_size_of state old) records in
                  let now' : HasRemainingRecords state now (attrs ++ b) [] (ends_with_error f.0) = subst (λ o. IfSome o (λ l. RemainingIn now l (attrs ++ b) [] (ends_with_error f.0))) (sym is') (f.1 (attrs ++ b) (before.represents attrs k)) in
                  let old' : HasRemainingRecords state old attrs records (ends_with_error f.0) = subst (λ l. HasRemainingRecords state old attrs l (ends_with_error f.0)) (append-nil records) (before.extends_remaining attrs k [] (ends_with_error f.0) now') in
                  subst (λ o. IfSome o (λ l. RemainingIn old l attrs records (ends_with_error f.0))) is old'),
              f.3,
            ))
            (visible_in_all (iter_source_state state now) (iter_source_state state new) (s.markers ++ s.consumed_bytes) (FailsAt now file e) s.consumes seen_here))
        | inr cause_of ↦ elim cause_of [
          | inl source ↦ inr (inl (s.consumed_bytes, source))
          | inr mismatch ↦ inr (inr (s.consumed_bytes, mismatch.0))
        ]
      ]
