-- A record header and the bytes after it are a record, or determine the error.
use Rattle.std.proofs.Common.{◌≡◌, ◌≢◌, ℕ, ◌+◌, ◌-◌, ◌^◌, ◌<◌, ◌≤◌, ◌++◌, List, length, drop, sym, ap, ◌∙◌, subst, arith, inl, inr, length-append, append_assoc}
use Rattle.std.proofs.lemmas.Bool.{cases_eq, cases_lt}
use Rattle.std.specs.Prelude.{◌⊎◌, None, Ok, Err}
use Rattle.std.proofs.Math.Seq.{drop-append_seam}
use Rattle.perfdata_sources.specs.Source.{State, Consumed, EndedOrPaused, SkippedExactly}
use Rattle.perfdata_sources.proofs.ConsumedLemmas.{consumed_more, consumed_none_later, failed_later, paused_later}
use Rattle.perfdata_sources.proofs.ReadErrors.{none_or_paused}
use Rattle.perfdata_sources.specs.Endian.{number_in}
use Rattle.perfdata_sources.specs.RecordHeader.{record_header_of, RecordHeaderParsed}
use Rattle.perfdata_sources.proofs.Numbers.{number_prefix}
use Rattle.perfdata_sources.specs.declared.endian.Endianness.{Endianness}
use Rattle.perfdata_sources.specs.declared.event.record_header.PerfEventHeader.{PerfEventHeader}
use Rattle.perfdata_sections.specs.declared.error.Error.{Error}
use Rattle.perfdata_sections.specs.declared.error.Error.TheVariants.{Read, Memory, Failed}
use Rattle.perfdata_sections.specs.declared.error.ReadError.TheVariants.{PerfEventData}
use Rattle.perfdata_sections.specs.Error.{IsUnexpectedEof, IsUnsupported, IsIoError}
use Rattle.linux_perf_data.specs.Attribute.{Attribute}
use Rattle.linux_perf_data.specs.Layout.{SectionSize, LayoutError, truncated_header, size_below_header, end_overflows, truncated_body, compressed_record, aux_body_too_short, aux_end_overflows, truncated_aux_data, ConcernsMetadata, ErrorAt, IsCompressed, IsTruncated, IsRecord, HasRecordHeader, HasCompleteBody, HasAuxSize, record_type_of, misc_of, record_size_of, aux_size_of, total_size_of}
use Rattle.linux_perf_data.specs.RecordFraming.{ShownBy, IsErrorFor, IsTruncatedAfterHeader, StaysWithinRecord, SourceErrorInRecord, ExceedsCapacity}
use Rattle.linux_perf_data.specs.steps.RecordFraming.{BytesRead, IsHeaderError, EndedWithin, FailedWithin, ChecksBodySize, ChecksRecordEnd, BodyRead, BodyEnded, BodyPartlyRead, IsTruncatedBody, BodyErrorCause, RecordErrorAt, RecordTruncatedAt, BodyExceedsCapacity}
use Rattle.linux_perf_data.proofs.RecordHeaders.{record_type_prefix, misc_prefix, size_first_part, total_size_auxtrace, total_size_plain}

-- the size in a record header is valid, and its record ends below 2^64
abbrev pub EndChecked : ℕ → ℕ → ℕ → Type 0
EndChecked offset size end = (8 ≤ size) × ChecksRecordEnd offset size (Ok end)

-- the fields of a record header that these bytes follow
record Head (order : Endianness) (header_bytes : PerfEventHeader) (all x : List ℕ) : Type 0 where
  pub kind : record_type_of order all ≡ header_bytes.type_
  pub misc : misc_of order all ≡ header_bytes.misc
  pub size : record_size_of order all ≡ header_bytes.size
  pub long : length all ≡ 8 + length x

headed : (order : Endianness) (a b : State) (header_bytes : PerfEventHeader) (t : RecordHeaderParsed (number_in order) a header_bytes b) (x : List ℕ) → Head order header_bytes (t.bytes ++ x) x
headed order a b header_bytes t x =
    let eight = t.exact_len in
    let long_enough : 8 ≤ length t.bytes = omega arith in
    let is = sym t.matches in
    record {
      kind = record_type_prefix order t.bytes x long_enough ∙ ap (λ h. h.type_) is;
      misc = misc_prefix order t.bytes x long_enough ∙ ap (λ h. h.misc) is;
      size = size_first_part order t.bytes x long_enough ∙ ap (λ h. h.size) is;
      long = omega (arith, length-append t.bytes x, eight);
    }

-- the first u64 field of the body is the size of its aux data
aux_is : (order : Endianness) (h x : List ℕ) → length h ≡ 8 → aux_size_of order (h ++ x) ≡ number_in order 8 x
aux_is order h x long = ap (number_in order 8) (ap (λ n. drop n (h ++ x)) (sym long) ∙ drop-append_seam h x)

pub after_header : (h x : List ℕ) → length h ≡ 8 → drop 8 (h ++ x) ≡ x
after_header h x long = ap (λ n. drop n (h ++ x)) (sym long) ∙ drop-append_seam h x

-- a layout error of these bytes that doesn't concern metadata, and its `Error`
abbrev Owes : Endianness → SectionSize → ℕ → Error → List ℕ → Type 0
Owes order bound offset e bytes = (f : LayoutError) × ((attrs : List Attribute) → ErrorAt order bound offset attrs bytes f) × (¬ ConcernsMetadata f) × IsErrorFor f e

pub not_io_memory : (e : Error) → IsIoError e → e ≡ Memory → ⊥
not_io_memory e io is = subst IsIoError is io

not_io_failed : (e : Error) → IsIoError e → e ≡ Failed → ⊥
not_io_failed e io is = subst IsIoError is io

pub not_short_memory : (e : Error) → IsUnexpectedEof e → e ≡ Memory → ⊥
not_short_memory e short is = subst IsUnexpectedEof is short

not_short_failed : (e : Error) → IsUnexpectedEof e → e ≡ Failed → ⊥
not_short_failed e short is = subst IsUnexpectedEof is short

not_unsupported_failed : (e : Error) → IsUnsupported e → e ≡ Failed → ⊥
not_unsupported_failed e unsupported is = subst IsUnsupported is unsupported

pub not_unsupported_memory : (e : Error) → IsUnsupported e → e ≡ Memory → ⊥
not_unsupported_memory e unsupported is = subst IsUnsupported is unsupported

-- The record header is truncated: in a pipe the records end, in a file it is an error.
pub header_truncated : (order : Endianness) (a b : State) (offset buffered : ℕ) → buffered ≡ 0 → EndedWithin a 8 b → RecordTruncatedAt order a offset buffered b
header_truncated order a b offset buffered empty ended =
    let less = ended.0.too_few in
    record { consumed_bytes = ended.0.consumed_bytes; consumes = ended.0.consumes; buffer_bound = omega arith; is_truncated = λ eight. absurd (omega (arith, eight, less)); ended_or_paused = ended.1 }

pub header_short : (order : Endianness) (a b : State) (bound : SectionSize) (offset buffered : ℕ) (e : Error) → bound ≢ None → buffered ≡ 0 → IsUnexpectedEof e → EndedWithin a 8 b → RecordErrorAt order a bound offset e buffered b
header_short order a b bound offset buffered e file empty short ended =
    let less = ended.0.too_few in
    record {
      consumed_bytes = ended.0.consumed_bytes;
      consumes = ended.0.consumes;
      buffer_bound = omega arith;
      within_record = inl (omega (arith, less));
      not_failed = not_short_failed e short;
      if_out_of_memory = λ is. absurd (not_short_memory e short is);
      cause = λ _. elim (none_or_paused a b ended.1) [
        | inl none ↦ inl (inr (none, (truncated_header, (λ _. (file, less)), (λ l. l), short)))
        | inr paused ↦ inr (inl (less, inr (short, file, paused)))
      ];
    }

header_failed : (order : Endianness) (a b : State) (bound : SectionSize) (offset buffered : ℕ) (e : Error) → buffered ≡ 0 → IsIoError e × FailedWithin a 8 b → RecordErrorAt order a bound offset e buffered b
header_failed order a b bound offset buffered e empty (io, failed) =
    let less = failed.0.too_few in
    record {
      consumed_bytes = failed.0.consumed_bytes;
      consumes = failed.0.consumes;
      buffer_bound = omega arith;
      within_record = inl (omega (arith, less));
      not_failed = not_io_failed e io;
      if_out_of_memory = λ is. absurd (not_io_memory e io is);
      cause = λ _. inr (inl (less, inl (io, failed.1)));
    }

-- the size in the record header is below 8
size_error : (order : Endianness) (a b : State) (bound : SectionSize) (offset buffered : ℕ) (header_bytes : PerfEventHeader) (e : Error) → buffered ≡ 0 → RecordHeaderParsed (number_in order) a header_bytes b → ChecksBodySize header_bytes.size (Err e) → RecordErrorAt order a bound offset e buffered b
size_error order a b bound offset buffered header_bytes e empty t (is, small) = record {
  consumed_bytes = t.bytes;
  consumes = t.consumes;
  buffer_bound = omega arith;
  within_record = inl (let long = t.exact_len in omega (arith, long));
  not_failed = λ f. cc;
  if_out_of_memory = λ m. absurd cc;
  cause = λ _. inl (inl
      (λ rest. let h = headed order a b header_bytes t rest in let size = h.size in let long = h.long in (size_below_header, (λ _. (omega (arith, long), omega (arith, size, small))), (λ l. l), is)));
}

-- the end of the record overflows
end_error : (order : Endianness) (a b : State) (bound : SectionSize) (offset buffered : ℕ) (header_bytes : PerfEventHeader) (e : Error) → buffered ≡ 0 → RecordHeaderParsed (number_in order) a header_bytes b → 8 ≤ header_bytes.size → ChecksRecordEnd offset header_bytes.size (Err e) → RecordErrorAt order a bound offset e buffered b
end_error order a b bound offset buffered header_bytes e empty t least (is, overflows) = record {
  consumed_bytes = t.bytes;
  consumes = t.consumes;
  buffer_bound = omega arith;
  within_record = inl (let long = t.exact_len in omega (arith, long));
  not_failed = λ f. cc;
  if_out_of_memory = λ m. absurd cc;
  cause = λ _. inl (inl
      (λ rest. let h = headed order a b header_bytes t rest in let size = h.size in let long = h.long in (end_overflows, (λ _. (omega (arith, long), omega (arith, size, least), omega (arith, size, overflows))), (λ l. l), is)));
}

-- reading the record header fails
pub header_error : (order : Endianness) (a b : State) (bound : SectionSize) (offset buffered : ℕ) (e : Error) → buffered ≡ 0 → IsHeaderError order offset a e b → RecordErrorAt order a bound offset e buffered b
header_error order a b bound offset buffered e empty (inl failed) = header_failed order a b bound offset buffered e empty failed
header_error order a b bound offset buffered e empty (inr (header_bytes, t, inl small)) = size_error order a b bound offset buffered header_bytes e empty t small
header_error order a b bound offset buffered e empty (inr (header_bytes, t, inr (least, overflows))) = end_error order a b bound offset buffered header_bytes e empty t least overflows

pub not_header_memory : (order : Endianness) (a b : State) (offset : ℕ) (e : Error) → IsHeaderError order offset a e b → e ≡ Memory → ⊥
not_header_memory order a b offset e (inl (io, failed)) m = not_io_memory e io m
not_header_memory order a b offset e (inr (header_bytes, t, inl (is, small))) m = cc
not_header_memory order a b offset e (inr (header_bytes, t, inr (least, (is, overflows)))) m = cc

-- these eight bytes are a record header
pub header_parsed : (order : Endianness) (a b : State) (bytes : List ℕ) (header_bytes : PerfEventHeader) → header_bytes ≡ record_header_of (number_in order) bytes → BytesRead a 8 bytes b → RecordHeaderParsed (number_in order) a header_bytes b
header_parsed order a b bytes header_bytes is read = record { bytes = bytes; exact_len = read.exact_len; consumes = read.consumes; matches = is }

has_header_bytes : (order : Endianness) (header_bytes : PerfEventHeader) (offset end : ℕ) (all x : List ℕ) → Head order header_bytes all x → EndChecked offset header_bytes.size end → HasRecordHeader order offset all
has_header_bytes order header_bytes offset end all x h (least, (ends, fits)) =
    let size = h.size in
    let long = h.long in
    record { complete_header = omega (arith, long); min_size = omega (arith, size, least); end_fits = omega (arith, size, ends, fits) }

has_body : (order : Endianness) (header_bytes : PerfEventHeader) (offset end : ℕ) (all x : List ℕ) → Head order header_bytes all x → EndChecked offset header_bytes.size end → header_bytes.size ≤ 8 + length x → HasCompleteBody order offset all
has_body order header_bytes offset end all x h checks there =
    let size = h.size in
    let long = h.long in
    record { header = has_header_bytes order header_bytes offset end all x h checks; complete = omega (arith, size, long, there) }

has_aux : (order : Endianness) (header_bytes : PerfEventHeader) (offset end : ℕ) (all x : List ℕ) → Head order header_bytes all x → EndChecked offset header_bytes.size end → header_bytes.size ≤ 8 + length x → header_bytes.type_ ≡ 71 → 48 ≤ header_bytes.size → HasAuxSize order offset all
has_aux order header_bytes offset end all x h checks there kind least =
    let size = h.size in
    record { complete_body = has_body order header_bytes offset end all x h checks there; record_type = h.kind ∙ kind; min_size = omega (arith, size, least) }

-- a record header is read, but not all bytes that it counts
part_truncated : (order : Endianness) (a b : State) (offset end : ℕ) (header_bytes : PerfEventHeader) (t : RecordHeaderParsed (number_in order) a header_bytes b) (x : List ℕ) → EndChecked offset header_bytes.size end → length x < header_bytes.size - 8 → IsTruncated order offset (t.bytes ++ x)
part_truncated order a b offset end header_bytes t x checks less =
    let h = headed order a b header_bytes t x in
    let size = h.size in
    let long = h.long in
    let least = checks.0 in
    λ _. (has_header_bytes order header_bytes offset end (t.bytes ++ x) x h checks, omega (arith, size, long, less, least))

-- The bytes that the record header counts are truncated: in a pipe the records end, in a file it is an error.
body_truncated : (order : Endianness) (a b c : State) (offset end buffered : ℕ) (header_bytes : PerfEventHeader) (t : RecordHeaderParsed (number_in order) a header_bytes b) (x : List ℕ) → EndChecked offset header_bytes.size end → length x < header_bytes.size - 8 → Consumed b x c → EndedOrPaused b c → buffered ≤ length x + 4096
    → RecordTruncatedAt order a offset buffered c
body_truncated order a b c offset end buffered header_bytes t x checks less consumption none fewer =
    let suffix = ap length (after_header t.bytes x t.exact_len) in
    record {
      consumed_bytes = t.bytes ++ x;
      consumes = consumed_more a b c t.bytes x t.consumes consumption;
      buffer_bound = omega (arith, fewer, suffix);
      is_truncated = part_truncated order a b offset end header_bytes t x checks less;
      ended_or_paused = consumed_none_later a b c t.bytes t.consumes none;
    }

body_short : (order : Endianness) (a b c : State) (bound : SectionSize) (offset end buffered : ℕ) (header_bytes : PerfEventHeader) (e : Error) (t : RecordHeaderParsed (number_in order) a header_bytes b) (x : List ℕ) → bound ≢ None → e ≡ Read PerfEventData → EndChecked offset header_bytes.size end
    → length x < header_bytes.size - 8 → Consumed b x c → EndedOrPaused b c → buffered ≤ length x + 4096 → RecordErrorAt order a bound offset e buffered c
body_short order a b c bound offset end buffered header_bytes e t x file is checks less consumption none fewer =
    let all = consumed_more a b c t.bytes x t.consumes consumption in
    let h = headed order a b header_bytes t x in
    let size = h.size in
    let long = h.long in
    let least = checks.0 in
    let suffix = ap length (after_header t.bytes x t.exact_len) in
    record {
      consumed_bytes = t.bytes ++ x;
      consumes = all;
      buffer_bound = omega (arith, fewer, suffix);
      within_record = inr (inl (omega (arith, size, long, less)));
      not_failed = λ f. cc;
      if_out_of_memory = λ m. absurd cc;
      cause = λ _. elim (none_or_paused b c none) [
        | inl none ↦ inl (inr (none, (truncated_body, (λ _. (file, has_header_bytes order header_bytes offset end (t.bytes ++ x) x h checks, omega (arith, size, long, less, least))), (λ l. l), is)))
        | inr paused ↦ inr (inr ((omega (arith, long), inl (omega (arith, size, long, less))), is, inr ((λ pipe. absurd (file pipe)), paused_later a b c t.bytes t.consumes paused)))
      ];
    }

-- the body of a marker is truncated
pub pass_truncated : (order : Endianness) (a b c : State) (offset end buffered : ℕ) (header_bytes : PerfEventHeader) → buffered ≡ 0 → RecordHeaderParsed (number_in order) a header_bytes b → EndChecked offset header_bytes.size end → EndedWithin b (header_bytes.size - 8) c → RecordTruncatedAt order a offset buffered c
pass_truncated order a b c offset end buffered header_bytes empty t checks ended = body_truncated order a b c offset end buffered header_bytes t ended.0.consumed_bytes checks ended.0.too_few ended.0.consumes ended.1 (omega arith)

pub pass_short : (order : Endianness) (a b c : State) (bound : SectionSize) (offset end buffered : ℕ) (header_bytes : PerfEventHeader) (e : Error) → bound ≢ None → buffered ≡ 0 → e ≡ Read PerfEventData → RecordHeaderParsed (number_in order) a header_bytes b → EndChecked offset header_bytes.size end
    → EndedWithin b (header_bytes.size - 8) c → RecordErrorAt order a bound offset e buffered c
pass_short order a b c bound offset end buffered header_bytes e file empty is t checks ended = body_short order a b c bound offset end buffered header_bytes e t ended.0.consumed_bytes file is checks ended.0.too_few ended.0.consumes ended.1 (omega arith)

-- the source fails in it
pub pass_failed : (order : Endianness) (a b c : State) (bound : SectionSize) (offset buffered : ℕ) (header_bytes : PerfEventHeader) (e : Error) → buffered ≡ 0 → RecordHeaderParsed (number_in order) a header_bytes b → (e ≡ Read PerfEventData) × FailedWithin b (header_bytes.size - 8) c → RecordErrorAt order a bound offset e buffered c
pass_failed order a b c bound offset buffered header_bytes e empty t (is, failed) =
    let h = headed order a b header_bytes t failed.0.consumed_bytes in
    let long = h.long in
    let size = h.size in
    let less = failed.0.too_few in
    record {
      consumed_bytes = t.bytes ++ failed.0.consumed_bytes;
      consumes = consumed_more a b c t.bytes failed.0.consumed_bytes t.consumes failed.0.consumes;
      buffer_bound = omega arith;
      within_record = inr (inl (omega (arith, size, long, less)));
      not_failed = λ f. cc;
      if_out_of_memory = λ m. absurd cc;
      cause = λ _. inr (inr ((omega (arith, long), inl (omega (arith, size, long, less))), is, inl (failed_later a b c t.bytes t.consumes failed.1)));
    }

-- the body of another record is truncated
pub content_truncated : (order : Endianness) (a b c : State) (offset end : ℕ) (header_bytes : PerfEventHeader) (now : List ℕ) → RecordHeaderParsed (number_in order) a header_bytes b → EndChecked offset header_bytes.size end → BodyEnded b header_bytes now c → RecordTruncatedAt order a offset (length now) c
content_truncated order a b c offset end header_bytes now t checks ended = body_truncated order a b c offset end (length now) header_bytes t ended.consumed_bytes checks ended.too_few ended.consumes ended.ended_or_paused ended.buffer_bound

pub content_short : (order : Endianness) (a b c : State) (bound : SectionSize) (offset end : ℕ) (header_bytes : PerfEventHeader) (e : Error) (now : List ℕ) → bound ≢ None → e ≡ Read PerfEventData → RecordHeaderParsed (number_in order) a header_bytes b → EndChecked offset header_bytes.size end → BodyEnded b header_bytes now c
    → RecordErrorAt order a bound offset e (length now) c
content_short order a b c bound offset end header_bytes e now file is t checks ended = body_short order a b c bound offset end (length now) header_bytes e t ended.consumed_bytes file is checks ended.too_few ended.consumes ended.ended_or_paused ended.buffer_bound

-- the fields of a record header, if more bytes follow the consumed ones
suffix : (order : Endianness) (a b : State) (header_bytes : PerfEventHeader) (t : RecordHeaderParsed (number_in order) a header_bytes b) (x rest : List ℕ) → Head order header_bytes ((t.bytes ++ x) ++ rest) (x ++ rest)
suffix order a b header_bytes t x rest = subst (λ l. Head order header_bytes l (x ++ rest)) (sym (append_assoc t.bytes x rest)) (headed order a b header_bytes t (x ++ rest))

extent_alone : (order : Endianness) (a b : State) (header_bytes : PerfEventHeader) (t : RecordHeaderParsed (number_in order) a header_bytes b) (x : List ℕ) → header_bytes.type_ ≡ 71 → 8 ≤ length x → total_size_of order (t.bytes ++ x) ≡ header_bytes.size + number_in order 8 x
extent_alone order a b header_bytes t x kind enough =
    let h = headed order a b header_bytes t x in
    let size = h.size in
    let extent = total_size_auxtrace order (t.bytes ++ x) (h.kind ∙ kind) in
    let number : aux_size_of order (t.bytes ++ x) ≡ number_in order 8 x = aux_is order t.bytes x t.exact_len in
    omega (arith, extent, size, number)

extent_is : (order : Endianness) (a b : State) (header_bytes : PerfEventHeader) (t : RecordHeaderParsed (number_in order) a header_bytes b) (x rest : List ℕ) → header_bytes.type_ ≡ 71 → 8 ≤ length x → total_size_of order ((t.bytes ++ x) ++ rest) ≡ header_bytes.size + number_in order 8 x
extent_is order a b header_bytes t x rest kind enough =
    let whole = extent_alone order a b header_bytes t (x ++ rest) kind (omega (arith, length-append x rest)) in
    let number = number_prefix order 8 x rest enough in
    ap (total_size_of order) (append_assoc t.bytes x rest) ∙ whole ∙ ap (λ n. header_bytes.size + n) number

-- a truncated body is truncated after its record header
truncated_rest : (order : Endianness) (a b : State) (header_bytes : PerfEventHeader) (t : RecordHeaderParsed (number_in order) a header_bytes b) (x : List ℕ) → IsTruncatedBody order header_bytes x → IsTruncatedAfterHeader order (t.bytes ++ x)
truncated_rest order a b header_bytes t x (inl less) =
    let h = headed order a b header_bytes t x in
    let size = h.size in
    let long = h.long in
    (omega (arith, long), inl (omega (arith, size, long, less)))
truncated_rest order a b header_bytes t x (inr (kind, enough, there, less)) =
    let h = headed order a b header_bytes t x in
    let size = h.size in
    let long = h.long in
    let extent = extent_alone order a b header_bytes t x kind (omega (arith, there, enough)) in
    (omega (arith, long), inr (h.kind ∙ kind, omega (arith, size, enough), omega (arith, size, long, there, enough), omega (arith, extent, long, less, enough)))

truncated_within : (order : Endianness) (a b : State) (header_bytes : PerfEventHeader) (t : RecordHeaderParsed (number_in order) a header_bytes b) (x : List ℕ) → IsTruncatedBody order header_bytes x → StaysWithinRecord order (t.bytes ++ x)
truncated_within order a b header_bytes t x (inl less) =
    let h = headed order a b header_bytes t x in
    let size = h.size in
    let long = h.long in
    inr (inl (omega (arith, size, long, less)))
truncated_within order a b header_bytes t x (inr (kind, enough, there, less)) =
    let h = headed order a b header_bytes t x in
    let size = h.size in
    let long = h.long in
    let extent = extent_alone order a b header_bytes t x kind (omega (arith, there, enough)) in
    inr (inr (h.kind ∙ kind, omega (arith, size, enough), omega (arith, extent, long, less, enough)))

-- If as many bytes are read as the record header's size counts, they stay within the record: the size exceeds 8, or no bytes
-- follow the record header.
all_within : (order : Endianness) (a b : State) (header_bytes : PerfEventHeader) (t : RecordHeaderParsed (number_in order) a header_bytes b) (x : List ℕ) → length x ≡ header_bytes.size - 8 → StaysWithinRecord order (t.bytes ++ x)
all_within order a b header_bytes t x all =
    let h = headed order a b header_bytes t x in
    let size = h.size in
    let long = h.long in
    elim (cases_lt 8 header_bytes.size) [
      | inl above ↦ inr (inl (omega (arith, size, long, all, above)))
      | inr below ↦ inl (omega (arith, long, all, below))
    ]

-- The causes for which the body isn't read.
content_cause : (order : Endianness) (a b c : State) (bound : SectionSize) (offset end : ℕ) (header_bytes : PerfEventHeader) (e : Error) (t : RecordHeaderParsed (number_in order) a header_bytes b) (part_read : List ℕ) → EndChecked offset header_bytes.size end
    → Consumed b part_read c → e ≢ Memory → BodyErrorCause order b header_bytes end e c part_read → ShownBy (Owes order bound offset e) (t.bytes ++ part_read) c ⊎ SourceErrorInRecord order bound a (t.bytes ++ part_read) e c
content_cause order a b c bound offset end header_bytes e t part_read checks consumption other (inl (is, some, cut)) = absurd (other is)
content_cause order a b c bound offset end header_bytes e t part_read checks consumption other (inr (inl (is, less, failed))) =
    inr (inr (truncated_rest order a b header_bytes t part_read (inl less), is, inl (failed_later a b c t.bytes t.consumes failed)))
content_cause order a b c bound offset end header_bytes e t part_read checks consumption other (inr (inr (inl (is, long', kind)))) =
    inl (inl
    (λ rest. let h = suffix order a b header_bytes t part_read rest in let least = checks.0 in
    (compressed_record, (λ _. (has_body order header_bytes offset end ((t.bytes ++ part_read) ++ rest) (part_read ++ rest) h checks (omega (arith, length-append part_read rest, long', least)), subst IsCompressed (sym h.kind) kind)), (λ l. l), is)))
content_cause order a b c bound offset end header_bytes e t part_read checks consumption other (inr (inr (inr (inl (is, long', kind, short))))) =
    inl (inl
    (λ rest. let h = suffix order a b header_bytes t part_read rest in let least = checks.0 in let size = h.size in
    (aux_body_too_short, (λ _. (has_body order header_bytes offset end ((t.bytes ++ part_read) ++ rest) (part_read ++ rest) h checks (omega (arith, length-append part_read rest, long', least)), h.kind ∙ kind, omega (arith, size, short))), (λ l. l), is)))
content_cause order a b c bound offset end header_bytes e t part_read checks consumption other (inr (inr (inr (inr (inl (is, long', kind, enough, far)))))) =
    inl (inl
    (λ rest. let h = suffix order a b header_bytes t part_read rest in let least = checks.0 in let ends = checks.1.0 in
    let extent = extent_is order a b header_bytes t part_read rest kind (omega (arith, long', enough)) in
    (aux_end_overflows, (λ _. (has_aux order header_bytes offset end ((t.bytes ++ part_read) ++ rest) (part_read ++ rest) h checks (omega (arith, length-append part_read rest, long', least)) kind enough, omega (arith, extent, ends, far))), (λ l. l), is)))
content_cause order a b c bound offset end header_bytes e t part_read checks consumption other (inr (inr (inr (inr (inr (is, there, kind, enough, fits, less, inl none)))))) =
    let h = headed order a b header_bytes t part_read in
    let size = h.size in
    let long = h.long in
    let least = checks.0 in
    let ends = checks.1.0 in
    elim (none_or_paused b c none) [
      | inl none' ↦
          let extent = extent_alone order a b header_bytes t part_read kind (omega (arith, there, enough)) in
          inl (inr (none', (truncated_aux_data, (λ _. (has_aux order header_bytes offset end (t.bytes ++ part_read) part_read h checks (omega (arith, there, least)) kind enough, omega (arith, extent, ends, fits), omega (arith, extent, long, less, least))), (λ l. l), is)))
      | inr paused ↦ inr (inr (truncated_rest order a b header_bytes t part_read (inr (kind, enough, there, less)), is, inr ((λ _. omega (arith, size, long, there, least)), paused_later a b c t.bytes t.consumes paused)))
    ]
content_cause order a b c bound offset end header_bytes e t part_read checks consumption other (inr (inr (inr (inr (inr (is, there, kind, enough, fits, less, inr failed)))))) =
    inr (inr (truncated_rest order a b header_bytes t part_read (inr (kind, enough, there, less)), is, inl (failed_later a b c t.bytes t.consumes failed)))

-- no bytes after the body are read
content_within : (order : Endianness) (a b c : State) (header_bytes : PerfEventHeader) (end : ℕ) (e : Error) (t : RecordHeaderParsed (number_in order) a header_bytes b) (part_read : List ℕ) → BodyErrorCause order b header_bytes end e c part_read → StaysWithinRecord order (t.bytes ++ part_read)
content_within order a b c header_bytes end e t part_read (inl (is, some, cut)) = truncated_within order a b header_bytes t part_read cut
content_within order a b c header_bytes end e t part_read (inr (inl (is, less, source))) = truncated_within order a b header_bytes t part_read (inl less)
content_within order a b c header_bytes end e t part_read (inr (inr (inl (is, long, kind)))) = all_within order a b header_bytes t part_read long
content_within order a b c header_bytes end e t part_read (inr (inr (inr (inl (is, long, kind, short))))) = all_within order a b header_bytes t part_read long
content_within order a b c header_bytes end e t part_read (inr (inr (inr (inr (inl (is, long, kind, enough, far)))))) = all_within order a b header_bytes t part_read long
content_within order a b c header_bytes end e t part_read (inr (inr (inr (inr (inr (is, there, kind, enough, fits, less, source)))))) = truncated_within order a b header_bytes t part_read (inr (kind, enough, there, less))

content_unfailed : (order : Endianness) (b c : State) (header_bytes : PerfEventHeader) (end : ℕ) (e : Error) (part_read : List ℕ) → BodyErrorCause order b header_bytes end e c part_read → e ≡ Failed → ⊥
content_unfailed order b c header_bytes end e part_read (inl (is, some, cut)) f = cc
content_unfailed order b c header_bytes end e part_read (inr (inl (is, less, source))) f = cc
content_unfailed order b c header_bytes end e part_read (inr (inr (inl (is, long, kind)))) f = not_unsupported_failed e is f
content_unfailed order b c header_bytes end e part_read (inr (inr (inr (inl (is, long, kind, short))))) f = not_short_failed e is f
content_unfailed order b c header_bytes end e part_read (inr (inr (inr (inr (inl (is, long, kind, enough, far)))))) f = cc
content_unfailed order b c header_bytes end e part_read (inr (inr (inr (inr (inr (is, there, kind, enough, fits, less, source)))))) f = cc

content_memory : (order : Endianness) (b c : State) (header_bytes : PerfEventHeader) (end : ℕ) (e : Error) (part_read : List ℕ) → BodyErrorCause order b header_bytes end e c part_read → e ≡ Memory → (8 < header_bytes.size) × IsTruncatedBody order header_bytes part_read
content_memory order b c header_bytes end e part_read (inl (is, some, cut)) m = (some, cut)
content_memory order b c header_bytes end e part_read (inr (inl (is, less, source))) m = absurd cc
content_memory order b c header_bytes end e part_read (inr (inr (inl (is, long, kind)))) m = absurd (not_unsupported_memory e is m)
content_memory order b c header_bytes end e part_read (inr (inr (inr (inl (is, long, kind, short))))) m = absurd (not_short_memory e is m)
content_memory order b c header_bytes end e part_read (inr (inr (inr (inr (inl (is, long, kind, enough, far)))))) m = absurd cc
content_memory order b c header_bytes end e part_read (inr (inr (inr (inr (inr (is, there, kind, enough, fits, less, source)))))) m = absurd cc

-- reading the body fails
pub content_error : (order : Endianness) (a b c : State) (bound : SectionSize) (offset end : ℕ) (header_bytes : PerfEventHeader) (e : Error) (now : List ℕ) → header_bytes.type_ ≢ 68 → RecordHeaderParsed (number_in order) a header_bytes b → EndChecked offset header_bytes.size end
    → BodyPartlyRead b e now c (BodyErrorCause order b header_bytes end e c) → RecordErrorAt order a bound offset e (length now) c
content_error order a b c bound offset end header_bytes e now other t checks n =
    let h = headed order a b header_bytes t n.consumed_bytes in
    let bound' = n.buffer_bound in
    record {
      consumed_bytes = t.bytes ++ n.consumed_bytes;
      consumes = consumed_more a b c t.bytes n.consumed_bytes t.consumes n.consumes;
      buffer_bound = omega (arith, bound', ap length (after_header t.bytes n.consumed_bytes t.exact_len));
      within_record = content_within order a b c header_bytes end e t n.consumed_bytes n.cause;
      not_failed = content_unfailed order b c header_bytes end e n.consumed_bytes n.cause;
      if_out_of_memory = λ m.
          let wanted = content_memory order b c header_bytes end e n.consumed_bytes n.cause m in
          let some = wanted.0 in
          let size = h.size in
          let long = h.long in
          (record { complete_header = omega (arith, long); record_type = λ k. other (sym h.kind ∙ k); has_body = omega (arith, size, some) }, truncated_rest order a b header_bytes t n.consumed_bytes wanted.1);
      cause = λ m. content_cause order a b c bound offset end header_bytes e t n.consumed_bytes checks n.consumes m n.cause;
    }

-- the body after a record header exceeds a capacity
pub exceeds_rest : (order : Endianness) (a b c : State) (header_bytes : PerfEventHeader) (capacity : ℕ) (t : RecordHeaderParsed (number_in order) a header_bytes b) (x : BodyExceedsCapacity order capacity b header_bytes c) → Consumed a (t.bytes ++ x.consumed_bytes) c × ExceedsCapacity order capacity (t.bytes ++ x.consumed_bytes)
exceeds_rest order a b c header_bytes capacity t x =
    let h = headed order a b header_bytes t x.consumed_bytes in
    let size = h.size in
    let long = h.long in (
      consumed_more a b c t.bytes x.consumed_bytes t.consumes x.consumes,
      elim x.exceeds [
        | inl small ↦ inl (omega (arith, size, small))
        | inr (kind, enough, there, small) ↦
            let extent = extent_alone order a b header_bytes t x.consumed_bytes kind (omega (arith, there, enough)) in
            inr (h.kind ∙ kind, omega (arith, size, long, there, enough), omega (arith, extent, small, enough))
      ],
    )

-- a record header and its body are a record
pub record Whole (order : Endianness) (a : State) (offset : ℕ) (header_bytes : PerfEventHeader) (end : ℕ) (piece : List ℕ) (c : State) : Type 0 where
  pub consumption : Consumed a piece c
  pub is_record : IsRecord order piece
  pub kind : record_type_of order piece ≡ header_bytes.type_
  pub misc : misc_of order piece ≡ header_bytes.misc
  pub ends : end ≡ offset + length piece
  pub fits : end < 2 ^ 64

not_compressed : (kind : ℕ) → kind ≡ 68 → ¬ IsCompressed kind
not_compressed kind is (inl e) = omega (arith, is, e)
not_compressed kind is (inr e) = omega (arith, is, e)

-- a marker
pub marker_whole : (order : Endianness) (a b c : State) (offset end : ℕ) (header_bytes : PerfEventHeader) → header_bytes.type_ ≡ 68 → (t : RecordHeaderParsed (number_in order) a header_bytes b) → EndChecked offset header_bytes.size end
    → (skipped : SkippedExactly b (header_bytes.size - 8) c) → Whole order a offset header_bytes end (t.bytes ++ skipped.bytes) c
marker_whole order a b c offset end header_bytes marker t checks step =
    let x = step.bytes in
    let h = headed order a b header_bytes t x in
    let size = h.size in
    let long = h.long in
    let body = step.exact_len in
    let least = checks.0 in
    let ends = checks.1.0 in
    let kind = h.kind ∙ marker in
    let plain = total_size_plain order (t.bytes ++ x) (λ e. omega (arith, kind, e)) in
    record {
      consumption = consumed_more a b c t.bytes x t.consumes step.consumes;
      is_record = record {
        min_size = omega (arith, size, least);
        not_compressed = not_compressed (record_type_of order (t.bytes ++ x)) kind;
        aux_min_size = λ e. absurd (omega (arith, kind, e));
        exact_len = omega (arith, long, body, plain, size, least);
      };
      kind = h.kind;
      misc = h.misc;
      ends = omega (arith, ends, long, body, least);
      fits = checks.1.1;
    }

-- another record, whose body is in the buffer
pub content_whole : (order : Endianness) (a b c : State) (offset end whole : ℕ) (header_bytes : PerfEventHeader) (now : List ℕ) → (t : RecordHeaderParsed (number_in order) a header_bytes b) → EndChecked offset header_bytes.size end → BodyRead order b header_bytes end whole now c
    → Whole order a offset header_bytes whole (t.bytes ++ now) c
content_whole order a b c offset end whole header_bytes now t checks n =
    let h = headed order a b header_bytes t now in
    let size = h.size in
    let long = h.long in
    let least = checks.0 in
    let ends = checks.1.0 in
    let all = t.bytes ++ now in
    let fits : whole < 2 ^ 64 = n.end_fits checks.1.1 in
    let consumption = consumed_more a b c t.bytes now t.consumes n.consumes in
    let plain = λ (k : IsCompressed (record_type_of order all)). n.not_compressed (subst IsCompressed h.kind k) in
    elim (cases_eq header_bytes.type_ 71) [
      | inl is ↦ (
          let aux = n.if_auxtrace is in
          let enough = aux.0 in
          let length' = aux.1 in
          let ends' = aux.2 in
          let number : aux_size_of order all ≡ number_in order 8 now = aux_is order t.bytes now t.exact_len in
          let extent = total_size_auxtrace order all (h.kind ∙ is) in
          record {
            consumption = consumption;
            is_record = record { min_size = omega (arith, size, least); not_compressed = plain; aux_min_size = λ _. omega (arith, size, enough); exact_len = omega (arith, long, length', extent, number, size, least) };
            kind = h.kind;
            misc = h.misc;
            ends = omega (arith, ends', ends, long, length', least);
            fits = fits;
          })
      | inr other ↦ (
          let short = n.if_not_auxtrace other in
          let length' = short.0 in
          let ends' = short.1 in
          let extent = total_size_plain order all (λ e. other (sym h.kind ∙ e)) in
          record {
            consumption = consumption;
            is_record = record { min_size = omega (arith, size, least); not_compressed = plain; aux_min_size = λ e. absurd (other (sym h.kind ∙ e)); exact_len = omega (arith, long, length', extent, size, least) };
            kind = h.kind;
            misc = h.misc;
            ends = omega (arith, ends', ends, long, length', least);
            fits = fits;
          })
    ]
