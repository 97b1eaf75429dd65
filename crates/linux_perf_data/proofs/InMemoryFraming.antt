-- Taking the parts of a record from bytes in memory.
use Rattle.std.proofs.Common.{◌≡◌, ◌≢◌, inl, inr, ℕ, ◌+◌, ◌-◌, ◌^◌, ◌<◌, ◌≤◌, ◌++◌, List, [], length, take, drop, refl, sym, ap, ◌∙◌, subst, arith, length-append, Option, None, Some}
use Rattle.std.proofs.lemmas.List.{drop-drop, length-take-le}
use Rattle.std.proofs.Math.Seq.{drop-length, take-append_seam}
use Rattle.perfdata_sources.specs.Source.{State, memory_source_at, prepend, Consumed, SkippedExactly, AppendedExactly}
use Rattle.perfdata_sources.proofs.Seeks.{buffered_from_cursor}
use Rattle.perfdata_sources.specs.declared.endian.Endianness.{Endianness}
use Rattle.perfdata_sources.specs.declared.event.record_header.PerfEventHeader.{PerfEventHeader}
use Rattle.perfdata_sections.specs.Error.{IsUnsupported}
use Rattle.perfdata_sections.specs.declared.error.Error.{Error}
use Rattle.perfdata_sections.specs.declared.error.Error.TheVariants.{Memory}
use Rattle.linux_perf_data.specs.Layout.{IsCompressed}
use Rattle.linux_perf_data.specs.steps.RecordFraming.{BytesRead, EndedWithin, AuxDataRead, AuxDataError, BodyRead, BodyEnded, BodyPartlyRead, BodyErrorCause}
use Rattle.linux_perf_data.proofs.BodiesWithAux.{content_auxtrace, content_not_auxtrace}
use Rattle.linux_perf_data.proofs.RecordReads.{not_unsupported_memory}

-- enough bytes remain after a cursor's position
pub skipped_all : (all : List ℕ) (at count : ℕ) → count ≤ length (drop at all) → SkippedExactly (memory_source_at all at) count (memory_source_at all (at + count))
skipped_all all at count there =
    let bytes = take count (drop at all) in
    let long : length bytes ≡ count = length-take-le count (drop at all) there in
    record { bytes = bytes; exact_len = long; consumes = (buffered_from_cursor all bytes at count long refl).consumes }

-- too few bytes remain, and all of them are consumed
pub skipped_rest : (all : List ℕ) (at count n : ℕ) → n ≡ length (drop at all) → n < count → EndedWithin (memory_source_at all at) count (memory_source_at all (at + n))
skipped_rest all at count n is less =
    let bytes = take n (drop at all) in
    let long : length bytes ≡ n = length-take-le n (drop at all) (omega (arith, is)) in
    let none : drop (at + n) all ≡ [] = sym (drop-drop n at all) ∙ ap (λ k. drop k (drop at all)) is ∙ drop-length (drop at all) in (
      record { consumed_bytes = bytes; too_few = omega (arith, long, less); consumes = (buffered_from_cursor all bytes at n long refl).consumes },
      λ more. absurd (more (ap (λ l. Some l) none)),
    )

prefix_is : (bytes x : List ℕ) (o : Option (List ℕ)) → Some bytes ≡ prepend x o → (take (length x) bytes ≡ x) × (length x ≤ length bytes)
prefix_is bytes x None is = absurd cc
prefix_is bytes x (Some rest) is =
    let whole : bytes ≡ x ++ rest = cc in
    (ap (take (length x)) whole ∙ take-append_seam x rest, omega (arith, ap length whole, length-append x rest))

-- the consumed bytes are the first of the remaining bytes
pub consumed_prefix : (bytes x : List ℕ) (a b : State) → a.bytes ≡ Some bytes → Consumed a x b → (take (length x) bytes ≡ x) × (length x ≤ length bytes)
consumed_prefix bytes x a b known consumption = prefix_is bytes x b.bytes (sym known ∙ consumption.bytes)

-- the first bytes of the remaining bytes are read
pub prefix_read : (bytes : List ℕ) (a b : State) (count : ℕ) → a.bytes ≡ Some bytes → SkippedExactly a count b → BytesRead a count (take count bytes) b
prefix_read bytes a b count known skipped =
    let is = consumed_prefix bytes skipped.bytes a b known skipped.consumes in
    let same : take count bytes ≡ skipped.bytes = ap (λ n. take n bytes) (sym skipped.exact_len) ∙ is.0 in
    record { exact_len = ap length same ∙ skipped.exact_len; consumes = subst (λ l. Consumed a l b) (sym same) skipped.consumes }

appended : (bytes : List ℕ) (a b : State) (count : ℕ) → BytesRead a count bytes b → AppendedExactly a [] count bytes b
appended bytes a b count read = record { bytes = bytes; exact_len = read.exact_len; buffer_content = refl; consumes = read.consumes }

-- a truncated body
pub body_ended : (a b : State) (header : PerfEventHeader) (count : ℕ) → count ≡ header.size - 8 → EndedWithin a count b → BodyEnded a header [] b
body_ended a b header count is (part, none) =
    let less = part.too_few in
    record { consumed_bytes = part.consumed_bytes; too_few = omega (arith, is, less); consumes = part.consumes; ended_or_paused = none; buffer_bound = omega arith }

-- the body of a compressed record
pub body_compressed : (order : Endianness) (a b : State) (header : PerfEventHeader) (end count : ℕ) (e : Error) → count ≡ header.size - 8 → IsUnsupported e → IsCompressed header.type_ → SkippedExactly a count b → (e ≢ Memory) × BodyPartlyRead a e [] b (BodyErrorCause order a header end e b)
body_compressed order a b header end count e is unsupported compressed skipped = (
  not_unsupported_memory e unsupported,
  record { consumed_bytes = skipped.bytes; consumes = skipped.consumes; buffer_bound = omega arith; cause = inr (inr (inl (unsupported, skipped.exact_len ∙ is, compressed))) },
)

-- a body without aux data
pub body_consumed : (order : Endianness) (bytes : List ℕ) (a b : State) (header : PerfEventHeader) (end count : ℕ) → length bytes < 2 ^ 63 → a.bytes ≡ Some bytes → count ≡ header.size - 8 → ¬ IsCompressed header.type_ → header.type_ ≢ 71 → SkippedExactly a count b
    → (length (take count bytes) < 2 ^ 63) × BodyRead order a header end end (take count bytes) b
body_consumed order bytes a b header end count small known is plain other skipped =
    let read = prefix_read bytes a b count known skipped in
    let within = (consumed_prefix bytes skipped.bytes a b known skipped.consumes).1 in (
      omega (arith, read.exact_len, skipped.exact_len, within, small),
      record { consumes = read.consumes; not_compressed = plain; if_not_auxtrace = λ _. (read.exact_len ∙ is, refl); if_auxtrace = λ traced. absurd (other traced); end_fits = λ fits. fits },
    )

-- reading the aux data after a body fails
pub aux_data_error : (order : Endianness) (bytes : List ℕ) (a b c : State) (header : PerfEventHeader) (end count : ℕ) (e : Error) → a.bytes ≡ Some bytes → 8 ≤ header.size → count ≡ header.size - 8 → header.type_ ≡ 71 → SkippedExactly a count b → AuxDataError order b (take count bytes) end e (take count bytes) c
    → BodyPartlyRead a e [] c (BodyErrorCause order a header end e c)
aux_data_error order bytes a b c header end count e known least is traced skipped aux =
    let read = subst (λ n. BytesRead a n (take count bytes) b) is (prefix_read bytes a b count known skipped) in
    let stops = content_not_auxtrace order a b c header [] (take count bytes) (take count bytes) end e refl least traced (appended (take count bytes) a b (header.size - 8) read) aux in
    record { consumed_bytes = stops.consumed_bytes; consumes = stops.consumes; buffer_bound = omega arith; cause = stops.cause }

-- a body with aux data
pub body_with_aux_consumed : (order : Endianness) (bytes now : List ℕ) (a b c : State) (header : PerfEventHeader) (end record_end count size : ℕ) → length bytes < 2 ^ 63 → a.bytes ≡ Some bytes → 8 ≤ header.size → count ≡ header.size - 8 → ¬ IsCompressed header.type_ → header.type_ ≡ 71
    → SkippedExactly a count b → size ≡ length now → AuxDataRead order b (take count bytes) end record_end now c → (length (take size bytes) < 2 ^ 63) × BodyRead order a header end record_end (take size bytes) c
body_with_aux_consumed order bytes now a b c header end record_end count size small known least is plain traced skipped long aux =
    let read = subst (λ n. BytesRead a n (take count bytes) b) is (prefix_read bytes a b count known skipped) in
    let whole = content_auxtrace order a b c header [] (take count bytes) now end record_end refl least plain traced (appended (take count bytes) a b (header.size - 8) read) aux in
    let first_part = consumed_prefix bytes now a c known whole.consumes in
    let same : take size bytes ≡ now = ap (λ n. take n bytes) long ∙ first_part.0 in
    let within = first_part.1 in (
      omega (arith, ap length same, within, small),
      subst (λ l. BodyRead order a header end record_end l c) (sym same) whole,
    )
