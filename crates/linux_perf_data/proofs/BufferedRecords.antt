-- What buffered bytes determine about the remaining records.
use Rattle.std.proofs.Common.{◌≡◌, ◌≢◌, ℕ, ◌+◌, ◌≤◌, ◌++◌, List, [], ◌∷◌, length, take, drop, refl, sym, ap, ◌∙◌, subst, arith, inl, inr, length-append, append_assoc, Option, None, Some}
use Rattle.std.proofs.lemmas.List.{take-append-drop, length-take-le}
use Rattle.std.proofs.lemmas.Bool.{cases_eq}
use Rattle.std.specs.List.{concat}
use Rattle.std.specs.Prelude.{◌↔◌, Bool, true, false, IsTrue, IfSome}
use Rattle.perfdata_sources.specs.Source.{State, prepend}
use Rattle.std.specs.Io.{StartsWith}
use Rattle.linux_perf_data.specs.RecordInput.{HasNoPendingHeader, section_size_in, input_source_state}
use Rattle.linux_perf_data.specs.declared.records.input.RecordInput.{RecordInput}
use Rattle.linux_perf_data.specs.declared.records.input.RecordInput.TheVariants.{Section, Pipe}
use Rattle.perfdata_sources.specs.Buffered.{IsPrefixOfRemaining}
use Rattle.perfdata_sources.specs.declared.endian.Endianness.{Endianness}
use Rattle.std.proofs.lemmas.Bool.{false≢true}
use Rattle.perfdata_sources.specs.declared.endian.Endianness.TheVariants.{LittleEndian}
use Rattle.linux_perf_data.specs.BufferedRecord.{IsFinished, IsNextBuffered, ContainsNextRecord, TestsNextBuffered}
use Rattle.linux_perf_data.specs.steps.BufferedRecord.{WholeRecordLength}
use Rattle.linux_perf_data.specs.Iter.{section_size_of}
use Rattle.linux_perf_data.specs.steps.Iter.{TestsMayStart}
use Rattle.linux_perf_data.specs.declared.records.iter.PerfRecordIter.{PerfRecordIter}
use Rattle.linux_perf_data.specs.Layout.{ConsistsOfMarkers, MayStartAt, SectionSize, IsCompressed, IsRecord, AreMarkerRecords, total_size_of, record_type_of, record_size_of, aux_size_of}
use Rattle.linux_perf_data.proofs.RecordHeaders.{total_size_plain, total_size_auxtrace, record_type_prefix, record_least, record_length, same_prefix, size_first_part, aux_size_prefix}

module _ (order : Endianness) where
  -- the facts about bytes that begin with a record
  pub record Says (bytes p : List ℕ) : Type 0 where
    pub least : 8 ≤ length p
    pub within : length p ≤ length bytes
    pub kind : record_type_of order bytes ≡ record_type_of order p
    pub size : record_size_of order bytes ≡ record_size_of order p
    pub extent : total_size_of order bytes ≡ length p

  pub says : (bytes p r : List ℕ) → IsRecord order p → bytes ≡ p ++ r → Says bytes p
  says bytes p r is cut = let least = record_least order p is in record {
    least = least;
    within = omega (arith, ap length cut, length-append p r);
    kind = ap (record_type_of order) cut ∙ record_type_prefix order p r least;
    size = ap (record_size_of order) cut ∙ size_first_part order p r least;
    extent = ap (total_size_of order) cut ∙ record_length order p r is;
  }

  -- a prefix whose length is the size in its record header is a record
  pub whole_first_part : (bytes : List ℕ) (n : ℕ) → 8 ≤ n → n ≤ length bytes → 8 ≤ record_size_of order bytes → ¬ IsCompressed (record_type_of order bytes)
      → (record_type_of order bytes ≡ 71 → 48 ≤ record_size_of order bytes) → (record_type_of order bytes ≡ 71 → 16 ≤ n) → n ≡ total_size_of order bytes → IsRecord order (take n bytes)
  whole_first_part bytes n least within sized plain traced longer is =
      let p = take n bytes in
      let r = drop n bytes in
      let cut : bytes ≡ p ++ r = sym (take-append-drop n bytes) in
      let long : length p ≡ n = length-take-le n bytes within in
      let long_enough : 8 ≤ length p = omega arith in
      let kind : record_type_of order bytes ≡ record_type_of order p = ap (record_type_of order) cut ∙ record_type_prefix order p r long_enough in
      let size : record_size_of order bytes ≡ record_size_of order p = ap (record_size_of order) cut ∙ size_first_part order p r long_enough in
      let extent : total_size_of order p ≡ n = elim (cases_eq (record_type_of order p) 71) [
        | inl t ↦
            let k = kind ∙ t in
            let more = longer k in
            let aux : aux_size_of order bytes ≡ aux_size_of order p = ap (aux_size_of order) cut ∙ aux_size_prefix order p r (omega arith) in
            omega (arith, total_size_auxtrace order p t, total_size_auxtrace order bytes k, size, aux, is)
        | inr other ↦ omega (arith, total_size_plain order p other, total_size_plain order bytes (λ e. other (sym kind ∙ e)), size, is)
      ] in
      record {
        min_size = omega (arith, size, sized);
        not_compressed = λ c. plain (subst IsCompressed (sym kind) c);
        aux_min_size = λ t. (let k = traced (kind ∙ t) in omega (arith, k, size));
        exact_len = omega (arith, long, extent);
      }

  -- the first record has the type in its record header
  pub front_record_type : (n : ℕ) (rest : List ℕ) → WholeRecordLength order rest (Some n) → record_type_of order rest ≡ record_type_of order (take n rest)
  front_record_type n rest w = ap (record_type_of order) (sym (take-append-drop n rest)) ∙ record_type_prefix order (take n rest) (drop n rest) (record_least order (take n rest) w.2)

  module _ (bound : SectionSize) where
    -- a complete record follows the markers
    pub shows_here : (offset at n : ℕ) (bytes : List ℕ) → ConsistsOfMarkers order bound offset (take at bytes) → at ≤ length bytes → MayStartAt bound (offset + at)
        → WholeRecordLength order (drop at bytes) (Some n) → record_type_of order (drop at bytes) ≢ 68 → ContainsNextRecord order bound offset bytes
    shows_here offset at n bytes m within begins w other =
        let rest = drop at bytes in
        let long : length (concat m.raw_records) ≡ at = ap length (sym m.split) ∙ length-take-le at bytes within in
        let kind = front_record_type n rest w in
        record {
          markers = m.raw_records;
          valid_markers = m.elements;
          may_start = subst (λ k. MayStartAt bound (offset + k)) (sym long) begins;
          raw_record = take n rest;
          is_record = w.2;
          not_marker = λ is. other (kind ∙ is);
          rest = drop n rest;
          split = sym (take-append-drop at bytes) ∙ ap (λ l. l ++ rest) m.split ∙ ap (λ l. concat m.raw_records ++ l) (sym (take-append-drop n rest));
        }

    -- the bytes begin with a record at an offset where a record may start
    pub record Starts (offset : ℕ) (bytes : List ℕ) : Type 0 where
      pub begins : MayStartAt bound offset
      pub first_part : List ℕ
      pub suffix : List ℕ
      pub is_record : IsRecord order first_part
      pub cut : bytes ≡ first_part ++ suffix

    starts_by : (offset : ℕ) (bytes : List ℕ) (ps : List (List ℕ)) (p r : List ℕ) → AreMarkerRecords order bound offset ps → MayStartAt bound (offset + length (concat ps)) → IsRecord order p → bytes ≡ concat ps ++ (p ++ r) → Starts offset bytes
    starts_by offset bytes [] p r are begins is cut =
        let z : offset + length (concat []) ≡ offset = omega arith in
        record { begins = subst (MayStartAt bound) z begins; first_part = p; suffix = r; is_record = is; cut = cut }
    starts_by offset bytes (q ∷ qs) p r are begins is cut =
        record { begins = are.0; first_part = q; suffix = concat qs ++ (p ++ r); is_record = are.1; cut = cut ∙ append_assoc q (concat qs) (p ++ r) }

    pub starts : (offset : ℕ) (bytes : List ℕ) → ContainsNextRecord order bound offset bytes → Starts offset bytes
    starts offset bytes s = starts_by offset bytes s.markers s.raw_record s.rest s.valid_markers s.may_start s.is_record s.split

    rest_by : (offset : ℕ) (bytes q b : List ℕ) (ps : List (List ℕ)) (p r : List ℕ) → AreMarkerRecords order bound offset ps → MayStartAt bound (offset + length (concat ps)) → IsRecord order p → record_type_of order p ≢ 68 → bytes ≡ concat ps ++ (p ++ r)
        → IsRecord order q → record_type_of order q ≡ 68 → bytes ≡ q ++ b → ContainsNextRecord order bound (offset + length q) b
    rest_by offset bytes q b [] p r are begins is other cut marker kind first_part =
        let same = same_prefix order q p b r marker is (sym first_part ∙ cut) in
        absurd (other (ap (record_type_of order) (sym same.0) ∙ kind))
    rest_by offset bytes q b (m ∷ ms) p r are begins is other cut marker kind first_part =
        let same = same_prefix order q m b (concat ms ++ (p ++ r)) marker are.1 (sym first_part ∙ cut ∙ append_assoc m (concat ms) (p ++ r)) in
        let long : length q ≡ length m = ap length same.0 in
        let z : offset + length (m ++ concat ms) ≡ offset + length q + length (concat ms) = omega (arith, long, length-append m (concat ms)) in
        record {
          markers = ms;
          valid_markers = subst (λ k. AreMarkerRecords order bound (offset + k) ms) (sym long) are.3;
          may_start = subst (MayStartAt bound) z begins;
          raw_record = p;
          is_record = is;
          not_marker = other;
          rest = r;
          split = same.1;
        }

    -- the bytes after a marker contain the same next record
    pub shows_after : (offset at n : ℕ) (bytes : List ℕ) → ContainsNextRecord order bound (offset + at) (drop at bytes) → WholeRecordLength order (drop at bytes) (Some n) → record_type_of order (drop at bytes) ≡ 68
        → drop n (drop at bytes) ≡ drop (at + n) bytes → ContainsNextRecord order bound (offset + (at + n)) (drop (at + n) bytes)
    shows_after offset at n bytes s w kind same =
        let rest = drop at bytes in
        let q = take n rest in
        let is : record_type_of order q ≡ 68 = sym (front_record_type n rest w) ∙ kind in
        let long : length q ≡ n = length-take-le n rest w.1 in
        let z : offset + at + length q ≡ offset + (at + n) = omega (arith, long) in
        subst (λ b. ContainsNextRecord order bound (offset + (at + n)) b) same (subst (λ k. ContainsNextRecord order bound k (drop n rest)) z
        (rest_by (offset + at) rest q (drop n rest) s.markers s.raw_record s.rest s.valid_markers s.may_start s.is_record s.not_marker s.split w.2 is (sym (take-append-drop n rest))))

    -- if more bytes follow, the next record is the same
    pub shows_more : (offset : ℕ) (bytes hand : List ℕ) → take (length hand) bytes ≡ hand → ContainsNextRecord order bound offset hand → ContainsNextRecord order bound offset bytes
    shows_more offset bytes hand first_part s =
        let all = concat s.markers in
        let more = drop (length hand) bytes in
        record {
          markers = s.markers;
          valid_markers = s.valid_markers;
          may_start = s.may_start;
          raw_record = s.raw_record;
          is_record = s.is_record;
          not_marker = s.not_marker;
          rest = s.rest ++ more;
          split = sym (take-append-drop (length hand) bytes) ∙ ap (λ l. l ++ more) (first_part ∙ s.split) ∙ append_assoc all (s.raw_record ++ s.rest) more ∙ ap (λ l. all ++ l) (append_assoc s.raw_record s.rest more);
        }

    visible_where : (offset : ℕ) (described : Option (List ℕ)) (hand : List ℕ) → IfSome described (λ bytes. StartsWith bytes hand) → ContainsNextRecord order bound offset hand → IfSome described (ContainsNextRecord order bound offset)
    visible_where offset None hand first_part s = _
    visible_where offset (Some bytes) hand first_part s = shows_more offset bytes hand first_part s

rest_none : (described : Option (List ℕ)) (P : List ℕ → Type 0) → IfSome described P → IfSome (prepend [] described) P
rest_none None P p = _
rest_none (Some bytes) P p = p

-- the source's buffered bytes are a prefix of the iterator's remaining bytes
pub visible_in : (order : Endianness) (input : RecordInput) (offset : ℕ) (s : State) (hand : List ℕ) → HasNoPendingHeader input → IsPrefixOfRemaining s hand → ContainsNextRecord order (section_size_in input) offset hand → IfSome (input_source_state input s).bytes (ContainsNextRecord order (section_size_in input) offset)
visible_in order (Section size) offset s hand none first_part shows = visible_where order (Some size) offset s.bytes hand first_part shows
visible_in order (Pipe None) offset s hand none first_part shows = rest_none s.bytes (ContainsNextRecord order None offset) (visible_where order None offset s.bytes hand first_part shows)
visible_in order (Pipe (Some header)) offset s hand none first_part shows = absurd cc

no_begin : (bound : SectionSize) (offset : ℕ) → TestsMayStart bound offset false → ¬ MayStartAt bound offset
no_begin None offset ends = λ _. ends.0 refl
no_begin (Some size) offset ends = λ begins. (let past : size ≤ offset = ends.1 LittleEndian [] in omega (arith, past, begins))

module _ {R : Type 0} (state : R → State) (it : PerfRecordIter R) where
  -- an iterator whose section has ended is finished
  pub section_over : TestsMayStart (section_size_of state it) it.offset false → IsFinished state it
  section_over ends = inr (no_begin (section_size_of state it) it.offset ends)

  module _ (hand : List ℕ) (first_part : IsPrefixOfRemaining (state it.source) hand) where
    pub tests_finished : IsFinished state it → TestsNextBuffered state it true
    tests_finished over = record { buffered_bytes = hand; is_prefix = first_part; if_finished = λ _. refl; if_not_finished = λ runs. absurd (runs over) }

    pub tests_pending : ¬ IsFinished state it → ¬ HasNoPendingHeader it.input → TestsNextBuffered state it false
    tests_pending runs kept = record { buffered_bytes = hand; is_prefix = first_part; if_finished = λ over. absurd (runs over); if_not_finished = λ _. (λ is. absurd (false≢true is), λ next. absurd (kept next.no_pending_header)) }

    pub tests_next : (answer : Bool) → ¬ IsFinished state it → HasNoPendingHeader it.input → IsTrue answer ↔ ContainsNextRecord it.endian (section_size_of state it) it.offset hand → TestsNextBuffered state it answer
    tests_next answer runs none shows = record {
      buffered_bytes = hand;
      is_prefix = first_part;
      if_finished = λ over. absurd (runs over);
      if_not_finished = λ _. (λ is. record { no_pending_header = none; contains_next = shows.0 is }, λ next. shows.1 next.contains_next);
    }

  module _ (buffered : R → List ℕ) where
    pub exact_finished : IsFinished state it → IsTrue true ↔ IsNextBuffered state buffered it
    exact_finished over = (λ _. inl over, λ _. refl)

    pub exact_pending : ¬ IsFinished state it → ¬ HasNoPendingHeader it.input → IsTrue false ↔ IsNextBuffered state buffered it
    exact_pending runs pending = (λ is. absurd (false≢true is), λ next. elim next [ inl over ↦ absurd (runs over) | inr shows ↦ absurd (pending shows.no_pending_header) ])

    pub exact_next : (answer : Bool) (bytes : List ℕ) → bytes ≡ buffered it.source → ¬ IsFinished state it → HasNoPendingHeader it.input → IsTrue answer ↔ ContainsNextRecord it.endian (section_size_of state it) it.offset bytes
        → IsTrue answer ↔ IsNextBuffered state buffered it
    exact_next answer bytes same runs none shows = (
      λ is. inr (record { no_pending_header = none; contains_next = subst (ContainsNextRecord it.endian (section_size_of state it) it.offset) same (shows.0 is) }),
      λ next. elim next [
        | inl over ↦ absurd (runs over)
        | inr found ↦ shows.1 (subst (ContainsNextRecord it.endian (section_size_of state it) it.offset) (sym same) found.contains_next)
      ],
    )
