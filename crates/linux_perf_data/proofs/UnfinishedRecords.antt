-- The visible length of a source, and the size of the whole records in its first bytes.
use Rattle.std.proofs.Common.{◌≡◌, ◌≢◌, ℕ, ◌+◌, ◌-◌, ◌<◌, ◌≤◌, ◌++◌, List, [], ◌∷◌, length, take, drop, refl, sym, ap, ◌∙◌, subst, arith, inl, inr, IsTrue, length-append, length-take-le, length-drop, take-append-drop, take-take, take-add, drop-drop, append-nil, Option, None, Some}
use Rattle.std.specs.Prelude.{Result, Ok, Err, IfSome, All}
use Rattle.std.specs.List.{concat}
use Rattle.std.specs.declared.io.Error.{Error as IoErrorValue}
use Rattle.std.proofs.Math.Seq.{take-append_seam}
use Rattle.std.proofs.lemmas.List.{drop-take}
use Rattle.std.proofs.lemmas.List.Elements.{All-nil, All-push}
use Rattle.std.proofs.lemmas.List.Folds.{concat-append}
use Rattle.perfdata_sources.specs.Source.{State, Position, RemainsFromPosition, AfterSeek, Consumed, ReadExactError, at_offset, all_bytes_of, remaining_from}
use Rattle.perfdata_sources.specs.Endian.{number_in}
use Rattle.perfdata_sources.specs.RecordHeader.{record_header_of}
use Rattle.perfdata_sources.specs.declared.endian.Endianness.{Endianness}
use Rattle.perfdata_sources.specs.declared.event.record_header.PerfEventHeader.{PerfEventHeader}
use Rattle.perfdata_base.specs.declared.header.PerfHeader.{PerfHeader}
use Rattle.perfdata_sources.proofs.Numbers.{number_take}
use Rattle.perfdata_sources.proofs.ReadErrors.{after_seek_more, after_seek_none, consumed-after_seek, failed_after_seek, paused_after_seek, none_or_paused, all_read}
use Rattle.perfdata_sections.specs.declared.error.Error.{Error}
use Rattle.perfdata_sections.specs.declared.error.Error.TheVariants.{IoError}
use Rattle.linux_perf_data.specs.Layout.{record_type_of, record_size_of, aux_size_of, total_size_of}
use Rattle.linux_perf_data.specs.UnfinishedFile.{IsVisibleLength, has_whole_data, IsWholeRecord, IsPartialRecord, HasInvalidSize, IsRecordsSize, IsDataSize}
use Rattle.linux_perf_data.specs.steps.FeatureData.{SourceErrorInBytes}
use Rattle.linux_perf_data.specs.steps.UnfinishedFile.{HasLength, ReadsLength, ReadsWord, IsRecordStep, ReadsStep, ReadsRecordsSize, ReadsDataSize}
use Rattle.linux_perf_data.specs.declared.file.unfinished.RecordStep.{RecordStep}
use Rattle.linux_perf_data.specs.declared.file.unfinished.RecordStep.TheVariants.{Partial, Invalid, Whole}
use Rattle.linux_perf_data.proofs.FeatureTables.{remaining_there, prefix_there, is_visible_before, earlier_source_error}
use Rattle.linux_perf_data.proofs.FileAttributes.{if_more, if_both}
use Rattle.linux_perf_data.proofs.RecordHeaders.{record_type_prefix, size_first_part, total_size_auxtrace, total_size_plain, total_size_front}

-- ---- the visible length

-- the bytes of a source stay the same
pub length_later : (len : ℕ) (a b : State) → AfterSeek a b → HasLength len a → HasLength len b
length_later len a b seek has = subst (λ o. IfSome o (λ all. len ≤ length all)) (sym seek.all_bytes) has

-- the source has the length that it shows
pub has_length : (a b : State) (len : ℕ) → ReadsLength a (Ok len) b → HasLength len b
has_length a b len (seek, is) = length_later len a b seek (if_more (all_bytes_of a.position) (λ all. IsVisibleLength a.steady all len) (λ all. len ≤ length all) (λ all shown. shown.0) is)

-- ---- eight bytes

pub word_read : (a b c : State) (at : ℕ) (bytes : List ℕ) → AfterSeek a b → b.position ≡ at_offset at a.position → length bytes ≡ 8 → Consumed b bytes c
    → IfSome (all_bytes_of a.position) (λ all. bytes ≡ take 8 (drop at all))
word_read a b c at bytes seek moved long consumption = remaining_there a.position b.position b.bytes at (λ all. bytes ≡ take 8 (drop at all)) moved seek.from_position (λ all is.
    let t = prefix_there c.bytes (drop at all) bytes (sym is ∙ consumption.bytes) in
    sym (take-append_seam bytes t.0) ∙ ap (λ n. take n (bytes ++ t.0)) long ∙ ap (take 8) (sym t.1))

-- a read of bytes that the source has doesn't end
pub not_all_read : (b : State) (o : Option Position) (at count : ℕ) (xs : List ℕ) → RemainsFromPosition b → b.position ≡ at_offset at o → IfSome (all_bytes_of o) (λ all. at + count ≤ length all) → b.bytes ≡ Some xs → length xs < count → ⊥
not_all_read b None at count xs placed moved has is few = let none : b.bytes ≡ None = placed ∙ ap remaining_from moved in absurd cc
not_all_read b (Some p) at count xs placed moved has is few =
    let there : Some (drop at p.all_bytes) ≡ Some xs = sym (placed ∙ ap remaining_from moved) ∙ is in
    let same : length (drop at p.all_bytes) ≡ length xs = cc in
    omega (arith, same, length-drop at p.all_bytes, has, few)

read_error_within : (a b c : State) (at count : ℕ) (e : IoErrorValue) → AfterSeek a b → b.position ≡ at_offset at a.position → ReadExactError b count e c → HasLength (at + count) a → SourceErrorInBytes a (IoError e) c
read_error_within a b c at count e seek moved error has = elim error.cause [
  | inl (eof, none) ↦ elim (none_or_paused b c none) [
    | inl all ↦ absurd (not_all_read b a.position at count error.consumed_bytes seek.from_position moved has (all_read b c error.consumed_bytes error.consumes all) error.too_few)
    | inr paused ↦ inr (eof, paused_after_seek a b c seek paused)
  ]
  | inr failed ↦ inl (tt, failed_after_seek a b c seek failed)
]

pub word_error : (a b c : State) (at n : ℕ) (e : IoErrorValue) → n ≡ 8 → AfterSeek a b → b.position ≡ at_offset at a.position → ReadExactError b n e c → AfterSeek a c × (HasLength (at + 8) a → SourceErrorInBytes a (IoError e) c)
word_error a b c at n e eight seek moved error = (
  after_seek_more a b c seek (consumed-after_seek b c error.consumed_bytes seek.from_position error.consumes),
  λ has. read_error_within a b c at 8 e seek moved (subst (λ k. ReadExactError b k e c) eight error) has,
)

-- ---- one record

-- the first `len` bytes from an offset on
visible_len : (at len : ℕ) (all : List ℕ) → len ≤ length all → length (drop at (take len all)) ≡ len - at
visible_len at len all has = length-drop at (take len all) ∙ ap (λ n. n - at) (length-take-le len all has)

-- eight bytes of them
visible_word : (from len : ℕ) (all : List ℕ) → from + 8 ≤ len → take 8 (drop from all) ≡ take 8 (drop from (take len all))
visible_word from len all fits =
    let whole : from + (len - from) ≡ len = omega (arith, fits) in
    let eight : 8 ≤ len - from = omega (arith, fits) in
    let seen : drop from (take len all) ≡ take (len - from) (drop from all) = ap (λ k. drop from (take k all)) (sym whole) ∙ drop-take from (len - from) all in
    sym (ap (take 8) seen ∙ take-take 8 (len - from) (drop from all) eight)

module _ (order : Endianness) where
  -- the first `len` bytes have this record header at an offset
  pub record HeaderAt (at len : ℕ) (header : PerfEventHeader) (all : List ℕ) : Type 0 where
    pub long : length (drop at (take len all)) ≡ len - at
    pub type_is : header.type_ ≡ record_type_of order (drop at (take len all))
    pub size_is : header.size ≡ record_size_of order (drop at (take len all))

  -- the record header of these bytes
  header_there : (rest bytes : List ℕ) (header : PerfEventHeader) → 8 ≤ length rest → bytes ≡ take 8 rest → header ≡ record_header_of (number_in order) bytes
      → (header.type_ ≡ record_type_of order rest) × (header.size ≡ record_size_of order rest)
  header_there rest bytes header long is matches =
      let eight : 8 ≤ length (take 8 rest) = omega (arith, length-take-le 8 rest long) in (
        ap (λ h. h.type_) matches ∙ ap (record_type_of order) is ∙ sym (record_type_prefix order (take 8 rest) (drop 8 rest) eight) ∙ ap (record_type_of order) (take-append-drop 8 rest),
        ap (λ h. h.size) matches ∙ ap (record_size_of order) is ∙ sym (size_first_part order (take 8 rest) (drop 8 rest) eight) ∙ ap (record_size_of order) (take-append-drop 8 rest),
      )

  pub header_at : (a b : State) (at len : ℕ) (bytes : List ℕ) (header : PerfEventHeader) → HasLength len a → 8 ≤ len - at → ReadsWord at a (Ok bytes) b → header ≡ record_header_of (number_in order) bytes → IfSome (all_bytes_of a.position) (HeaderAt at len header)
  header_at a b at len bytes header has fits read matches = if_both (all_bytes_of a.position) (λ all. len ≤ length all) (λ all. bytes ≡ take 8 (drop at all)) (HeaderAt at len header) (λ all inside is.
      let long = visible_len at len all inside in
      let eight : 8 ≤ length (drop at (take len all)) = omega (arith, long, fits) in
      let fields = header_there (drop at (take len all)) bytes header eight (is ∙ visible_word at len all (omega (arith, fits))) matches in
      record { long = long; type_is = fields.0; size_is = fields.1 }) has read.2

  -- the size of the aux data of the record at an offset
  pub aux_at : (a b c : State) (at len aux : ℕ) (bytes : List ℕ) → 16 ≤ len - at → AfterSeek a b → ReadsWord (at + 8) b (Ok bytes) c → aux ≡ number_in order 8 bytes → IfSome (all_bytes_of a.position) (λ all. aux ≡ aux_size_of order (drop at (take len all)))
  aux_at a b c at len aux bytes fits seek read matches = if_more (all_bytes_of a.position) (λ all. bytes ≡ take 8 (drop (at + 8) all)) (λ all. aux ≡ aux_size_of order (drop at (take len all)))
      (λ all is. matches ∙ ap (number_in order 8) (is ∙ visible_word (at + 8) len all (omega (arith, fits)) ∙ ap (take 8) (sym (drop-drop 8 at (take len all)))) ∙ number_take order 8 8 (drop 8 (drop at (take len all))) (omega arith))
      (is_visible_before a b (λ all. bytes ≡ take 8 (drop (at + 8) all)) seek read.2)

  -- a whole record at the start of these bytes
  whole_there : (rest : List ℕ) (n : ℕ) → 8 ≤ record_size_of order rest → (record_type_of order rest ≡ 71 → 48 ≤ record_size_of order rest) → n ≡ total_size_of order rest → record_size_of order rest ≤ n → n ≤ length rest
      → (n ≤ length rest) × IsWholeRecord order (take n rest) × (length (take n rest) ≡ n)
  whole_there rest n least traced total inside fits =
      let long = length-take-le n rest fits in
      let eight : 8 ≤ length (take n rest) = omega (arith, long, least, inside) in
      let split = take-append-drop n rest in
      let type : record_type_of order rest ≡ record_type_of order (take n rest) = ap (record_type_of order) (sym split) ∙ record_type_prefix order (take n rest) (drop n rest) eight in
      let size : record_size_of order rest ≡ record_size_of order (take n rest) = ap (record_size_of order) (sym split) ∙ size_first_part order (take n rest) (drop n rest) eight in
      let sixteen : record_type_of order (take n rest) ≡ 71 → 16 ≤ length (take n rest) = λ is. (let more = traced (type ∙ is) in omega (arith, long, more, inside)) in
      let sum : total_size_of order rest ≡ total_size_of order (take n rest) = ap (total_size_of order) (sym split) ∙ total_size_front order (take n rest) (drop n rest) eight sixteen in (
        fits,
        record {
          min_size = omega (arith, least, size);
          aux_min_size = λ is. (let more = traced (type ∙ is) in omega (arith, more, size));
          exact_len = long ∙ total ∙ sum;
        },
        long,
      )

  -- the step at an offset, by its record header
  step_at : (a b : State) (at len : ℕ) (header : PerfEventHeader) (step : RecordStep) → IfSome (all_bytes_of a.position) (HeaderAt at len header) → AfterSeek a b → ((all : List ℕ) → HeaderAt at len header all → IsRecordStep order (drop at (take len all)) step)
      → ((n : ℕ) → step ≡ Whole n → (8 ≤ n) × (at + n ≤ len)) → ReadsStep order at len a (Ok step) b
  step_at a b at len header step header_seen seek each whole = (seek, if_more (all_bytes_of a.position) (HeaderAt at len header) (λ all. IsRecordStep order (drop at (take len all)) step) each header_seen, whole)

  -- the size is too small for a record header
  pub step_below_header : (a b : State) (at len : ℕ) (header : PerfEventHeader) → IfSome (all_bytes_of a.position) (HeaderAt at len header) → AfterSeek a b → 8 ≤ len - at → header.size < 8 → ReadsStep order at len a (Ok Invalid) b
  step_below_header a b at len header header_seen seek fits small = step_at a b at len header Invalid header_seen seek (λ all h. (
      let long = h.long in let size = h.size_is in (omega (arith, long, fits), inl (omega (arith, size, small))))) (λ n is. absurd cc)

  -- the file ends in the body
  pub step_in_body : (a b : State) (at len : ℕ) (header : PerfEventHeader) → IfSome (all_bytes_of a.position) (HeaderAt at len header) → AfterSeek a b → 8 ≤ header.size → len - at < header.size → ReadsStep order at len a (Ok Partial) b
  step_in_body a b at len header header_seen seek least few = step_at a b at len header Partial header_seen seek (λ all h. (
      let long = h.long in let size = h.size_is in inr (omega (arith, size, least), inl (omega (arith, long, size, few))))) (λ n is. absurd cc)

  -- a record without aux data
  pub step_plain : (a b : State) (at len : ℕ) (header : PerfEventHeader) → IfSome (all_bytes_of a.position) (HeaderAt at len header) → AfterSeek a b → 8 ≤ header.size → header.size ≤ len - at → header.type_ ≢ 71 → ReadsStep order at len a (Ok (Whole header.size)) b
  step_plain a b at len header header_seen seek least inside plain = step_at a b at len header (Whole header.size) header_seen seek (λ all h. (
      let long = h.long in
      let size = h.size_is in
      let rest = drop at (take len all) in
      let other : record_type_of order rest ≢ 71 = λ is. plain (h.type_is ∙ is) in
      whole_there rest header.size (omega (arith, size, least)) (λ is. absurd (other is)) (size ∙ sym (total_size_plain order rest other)) (omega (arith, size)) (omega (arith, long, inside))))
      (λ n is. (let same : header.size ≡ n = cc in (omega (arith, same, least), omega (arith, same, inside, least))))

  -- the size is too small for an auxtrace record
  pub step_below_auxtrace : (a b : State) (at len : ℕ) (header : PerfEventHeader) → IfSome (all_bytes_of a.position) (HeaderAt at len header) → AfterSeek a b → 8 ≤ header.size → header.size ≤ len - at → header.type_ ≡ 71 → header.size < 48 → ReadsStep order at len a (Ok Invalid) b
  step_below_auxtrace a b at len header header_seen seek least inside traced small = step_at a b at len header Invalid header_seen seek (λ all h. (
      let long = h.long in
      let size = h.size_is in
      (omega (arith, long, least, inside), inr (omega (arith, long, size, inside), sym h.type_is ∙ traced, omega (arith, size, small))))) (λ n is. absurd cc)

  -- a whole auxtrace record without its aux data
  pub record TraceAt (at len : ℕ) (header : PerfEventHeader) (aux : ℕ) (all : List ℕ) : Type 0 where
    pub record_header : HeaderAt at len header all
    pub aux_is : aux ≡ aux_size_of order (drop at (take len all))

  trace_total : (at len : ℕ) (header : PerfEventHeader) (aux : ℕ) (all : List ℕ) → TraceAt at len header aux all → header.type_ ≡ 71 → total_size_of order (drop at (take len all)) ≡ header.size + aux
  trace_total at len header aux all t traced =
      let sum = total_size_auxtrace order (drop at (take len all)) (sym t.record_header.type_is ∙ traced) in
      let size = t.record_header.size_is in
      let more = t.aux_is in
      omega (arith, sum, size, more)

  trace_seen : (a : State) (at len : ℕ) (header : PerfEventHeader) (aux : ℕ) → IfSome (all_bytes_of a.position) (HeaderAt at len header) → IfSome (all_bytes_of a.position) (λ all. aux ≡ aux_size_of order (drop at (take len all))) → IfSome (all_bytes_of a.position) (TraceAt at len header aux)
  trace_seen a at len header aux header_seen aux_seen = if_both (all_bytes_of a.position) (HeaderAt at len header) (λ all. aux ≡ aux_size_of order (drop at (take len all))) (TraceAt at len header aux) (λ all h is. record { record_header = h; aux_is = is }) header_seen aux_seen

  -- the file ends in the aux data
  pub step_in_aux_data : (a b : State) (at len : ℕ) (header : PerfEventHeader) (aux : ℕ) → IfSome (all_bytes_of a.position) (HeaderAt at len header) → IfSome (all_bytes_of a.position) (λ all. aux ≡ aux_size_of order (drop at (take len all))) → AfterSeek a b
      → 48 ≤ header.size → header.size ≤ len - at → header.type_ ≡ 71 → len - at - header.size < aux → ReadsStep order at len a (Ok Partial) b
  step_in_aux_data a b at len header aux header_seen aux_seen seek least inside traced few = (
    seek,
    if_more (all_bytes_of a.position) (TraceAt at len header aux) (λ all. IsPartialRecord order (drop at (take len all))) (λ all t. (
        let long = t.record_header.long in
        let size = t.record_header.size_is in
        let total = trace_total at len header aux all t traced in
        inr (omega (arith, size, least), inr (sym t.record_header.type_is ∙ traced, omega (arith, size, least), omega (arith, long, total, few, inside))))) (trace_seen a at len header aux header_seen aux_seen),
    λ n is. absurd cc,
  )

  -- a record with its aux data
  pub step_traced : (a b : State) (at len : ℕ) (header : PerfEventHeader) (aux : ℕ) → IfSome (all_bytes_of a.position) (HeaderAt at len header) → IfSome (all_bytes_of a.position) (λ all. aux ≡ aux_size_of order (drop at (take len all))) → AfterSeek a b
      → 48 ≤ header.size → header.size ≤ len - at → header.type_ ≡ 71 → aux ≤ len - at - header.size → ReadsStep order at len a (Ok (Whole (header.size + aux))) b
  step_traced a b at len header aux header_seen aux_seen seek least inside traced fits = (
    seek,
    if_more (all_bytes_of a.position) (TraceAt at len header aux) (λ all. IsRecordStep order (drop at (take len all)) (Whole (header.size + aux))) (λ all t. (
        let long = t.record_header.long in
        let size = t.record_header.size_is in
        let total = trace_total at len header aux all t traced in
        whole_there (drop at (take len all)) (header.size + aux) (omega (arith, size, least)) (λ is. omega (arith, size, least)) (sym total) (omega (arith, size)) (omega (arith, long, inside, fits)))) (trace_seen a at len header aux header_seen aux_seen),
    λ n is. (let same : header.size + aux ≡ n = cc in (omega (arith, same, least), omega (arith, same, inside, fits, least))),
  )

  -- ---- all records

  -- the whole records at the start of these bytes that were counted
  pub record WholeSoFar (bytes : List ℕ) (n : ℕ) : Type 0 where
    pub raw_records : List (List ℕ)
    pub elements : All (IsWholeRecord order) raw_records
    pub split : take n bytes ≡ concat raw_records
    pub counted : n ≡ length (concat raw_records)

  whole_none : (bytes : List ℕ) (n : ℕ) → n ≡ 0 → WholeSoFar bytes n
  whole_none bytes n is = record { raw_records = []; elements = All-nil (IsWholeRecord order); split = ap (λ k. take k bytes) is; counted = is }

  whole_more : (bytes : List ℕ) (n m : ℕ) → WholeSoFar bytes n → (m ≤ length (drop n bytes)) × IsWholeRecord order (take m (drop n bytes)) × (length (take m (drop n bytes)) ≡ m) → WholeSoFar bytes (n + m)
  whole_more bytes n m so (fits, whole, long) =
      let p = take m (drop n bytes) in
      let all : concat (so.raw_records ++ p ∷ []) ≡ concat so.raw_records ++ p = concat-append so.raw_records (p ∷ []) ∙ ap (λ l. concat so.raw_records ++ l) (append-nil p) in
      let counted = so.counted in
      record {
        raw_records = so.raw_records ++ p ∷ [];
        elements = All-push (IsWholeRecord order) so.raw_records p so.elements whole;
        split = take-add n m bytes ∙ ap (λ l. l ++ p) so.split ∙ sym all;
        counted = omega (arith, ap length all, length-append (concat so.raw_records) p, counted, long);
      }

  size_partial : (bytes : List ℕ) (n : ℕ) → WholeSoFar bytes n → IsPartialRecord order (drop n bytes) → IsRecordsSize order bytes n
  size_partial bytes n so part = record {
    raw_records = so.raw_records;
    rest = drop n bytes;
    split = sym (take-append-drop n bytes) ∙ ap (λ l. l ++ drop n bytes) so.split;
    elements = so.elements;
    ends = inl (part, so.counted);
  }

  size_invalid : (bytes : List ℕ) (n m : ℕ) → WholeSoFar bytes n → HasInvalidSize order (drop n bytes) → m ≡ length bytes → IsRecordsSize order bytes m
  size_invalid bytes n m so invalid is = record {
    raw_records = so.raw_records;
    rest = drop n bytes;
    split = sym (take-append-drop n bytes) ∙ ap (λ l. l ++ drop n bytes) so.split;
    elements = so.elements;
    ends = inr (invalid, is);
  }

  -- the bytes at an offset follow those that were counted
  rest_there : (start at len : ℕ) (all : List ℕ) → start ≤ at → drop at (take len all) ≡ drop (at - start) (drop start (take len all))
  rest_there start at len all from = let sum : start + (at - start) ≡ at = omega (arith, from) in sym (drop-drop (at - start) start (take len all) ∙ ap (λ n. drop n (take len all)) sum)

  -- the whole records up to an offset
  abbrev pub CountsTo : ℕ → ℕ → ℕ → State → Type 0
  CountsTo start at len a = IfSome (all_bytes_of a.position) (λ all. WholeSoFar (drop start (take len all)) (at - start))

  pub counts_none : (start len : ℕ) (a : State) → CountsTo start start len a
  counts_none start len a = each (all_bytes_of a.position)
    where
      each : (o : Option (List ℕ)) → IfSome o (λ all. WholeSoFar (drop start (take len all)) (start - start))
      each None = tt
      each (Some all) = whole_none (drop start (take len all)) (start - start) (omega arith)

  -- one more record
  pub counts_more : (a b c : State) (start at later len n : ℕ) → start ≤ at → AfterSeek a b → CountsTo start at len a → ReadsStep order at len b (Ok (Whole n)) c → later ≡ at + n → CountsTo start later len a
  counts_more a b c start at later len n from seek so read sum = if_both (all_bytes_of a.position) (λ all. WholeSoFar (drop start (take len all)) (at - start)) (λ all. IsRecordStep order (drop at (take len all)) (Whole n)) (λ all. WholeSoFar (drop start (take len all)) (later - start))
      (λ all counted step. (
      let more : (at - start) + n ≡ later - start = omega (arith, from, sum) in
      subst (WholeSoFar (drop start (take len all))) more (whole_more (drop start (take len all)) (at - start) n counted (subst (λ rest. IsRecordStep order rest (Whole n)) (rest_there start at len all from) step))))
      so (is_visible_before a b (λ all. IsRecordStep order (drop at (take len all)) (Whole n)) seek read.1)

  -- the last record is partial
  pub counts_partial : (a b c : State) (start at len : ℕ) → start ≤ at → AfterSeek a b → CountsTo start at len a → ReadsStep order at len b (Ok Partial) c → ReadsRecordsSize order start len a (Ok (at - start)) c
  counts_partial a b c start at len from seek so read = (
    after_seek_more a b c seek read.0,
    if_both (all_bytes_of a.position) (λ all. WholeSoFar (drop start (take len all)) (at - start)) (λ all. IsPartialRecord order (drop at (take len all))) (λ all. IsRecordsSize order (drop start (take len all)) (at - start))
        (λ all counted part. size_partial (drop start (take len all)) (at - start) counted (subst (IsPartialRecord order) (rest_there start at len all from) part))
        so (is_visible_before a b (λ all. IsPartialRecord order (drop at (take len all))) seek read.1),
  )

  -- a record is invalid
  pub counts_invalid : (a b c : State) (start at len : ℕ) → HasLength len a → start ≤ at → AfterSeek a b → CountsTo start at len a → ReadsStep order at len b (Ok Invalid) c → ReadsRecordsSize order start len a (Ok (len - start)) c
  counts_invalid a b c start at len has from seek so read = (
    after_seek_more a b c seek read.0,
    if_both (all_bytes_of a.position) (λ all. WholeSoFar (drop start (take len all)) (at - start)) (λ all. (len ≤ length all) × HasInvalidSize order (drop at (take len all))) (λ all. IsRecordsSize order (drop start (take len all)) (len - start))
        (λ all counted both. size_invalid (drop start (take len all)) (at - start) (len - start) counted (subst (HasInvalidSize order) (rest_there start at len all from) both.1) (sym (visible_len start len all both.0)))
        so (if_both (all_bytes_of a.position) (λ all. len ≤ length all) (λ all. HasInvalidSize order (drop at (take len all))) (λ all. (len ≤ length all) × HasInvalidSize order (drop at (take len all))) (λ all inside invalid. (inside, invalid))
        has (is_visible_before a b (λ all. HasInvalidSize order (drop at (take len all))) seek read.1)),
  )

  -- no bytes follow
  pub counts_all : (a b : State) (start at len : ℕ) → HasLength len a → start ≤ at → len ≤ at → AfterSeek a b → CountsTo start at len a → ReadsRecordsSize order start len a (Ok (at - start)) b
  counts_all a b start at len has from past seek so = (
    seek,
    if_both (all_bytes_of a.position) (λ all. len ≤ length all) (λ all. WholeSoFar (drop start (take len all)) (at - start)) (λ all. IsRecordsSize order (drop start (take len all)) (at - start))
        (λ all inside counted. (
        let long = visible_len at len all inside in
        let few : length (drop at (take len all)) < 8 = omega (arith, long, past) in
        size_partial (drop start (take len all)) (at - start) counted (subst (IsPartialRecord order) (rest_there start at len all from) (inl few))))
        has so,
  )

  -- reading a record fails
  pub counts_error : (a b c : State) (start at len : ℕ) (e : Error) → AfterSeek a b → ReadsStep order at len b (Err e) c → ReadsRecordsSize order start len a (Err e) c
  counts_error a b c start at len e seek (later, source) = (after_seek_more a b c seek later, earlier_source_error a b c e seek source)

-- ---- the data size

-- the size of the data section
pub whole_data_size : (order : Endianness) (h : PerfHeader) (len : ℕ) (a : State) → RemainsFromPosition a → IsTrue (has_whole_data h len) → ReadsDataSize order h len a (Ok h.data_section.size) a
whole_data_size order h len a placed whole = (after_seek_none a placed, each (all_bytes_of a.position))
  where
    each : (o : Option (List ℕ)) → IfSome o (λ all. IsDataSize order h all len h.data_section.size)
    each None = tt
    each (Some all) = inl (whole, refl)

-- the size of the whole records
pub counted_data_size : (order : Endianness) (h : PerfHeader) (len : ℕ) (a b : State) (r : Result ℕ Error) → ¬ IsTrue (has_whole_data h len) → ReadsRecordsSize order h.data_section.offset len a r b → ReadsDataSize order h len a r b
counted_data_size order h len a b (Ok size) unfinished (seek, is) =
    (seek, if_more (all_bytes_of a.position) (λ all. IsRecordsSize order (drop h.data_section.offset (take len all)) size) (λ all. IsDataSize order h all len size) (λ all counted. inr (unfinished, counted)) is)
counted_data_size order h len a b (Err e) unfinished error = error
