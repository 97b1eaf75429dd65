-- Reading the body of a record and its aux data.
use Rattle.std.proofs.Common.{◌≡◌, ℕ, ◌+◌, ◌-◌, ◌<◌, ◌≤◌, ◌++◌, List, [], length, sym, ap, ◌∙◌, subst, arith, inl, inr, length-append}
use Rattle.perfdata_sources.specs.Source.{State, Consumed, AppendedExactly, PartlyAppended}
use Rattle.perfdata_sources.proofs.ConsumedLemmas.{consumed_more, failed_later, consumed_none_later}
use Rattle.perfdata_sources.specs.Endian.{number_in}
use Rattle.perfdata_sources.proofs.Numbers.{number_prefix}
use Rattle.perfdata_sources.specs.declared.endian.Endianness.{Endianness}
use Rattle.perfdata_sources.specs.declared.event.record_header.PerfEventHeader.{PerfEventHeader}
use Rattle.perfdata_sections.specs.declared.error.Error.{Error}
use Rattle.perfdata_sections.specs.declared.error.Error.TheVariants.{Memory}
use Rattle.linux_perf_data.specs.Layout.{IsCompressed}
use Rattle.linux_perf_data.specs.steps.RecordFraming.{BytesRead, AuxDataRead, AuxDataError, BodyRead, BodyErrorCause, BodyPartlyRead, BodyExceedsCapacity}

-- a buffer that was empty contains exactly the bytes read
kept_alone : (a b : State) (buffered body : List ℕ) (count : ℕ) → buffered ≡ [] → AppendedExactly a buffered count body b → BytesRead a count body b
kept_alone a b buffered body count empty k =
    let is : body ≡ k.bytes = k.buffer_content ∙ ap (λ l. l ++ k.bytes) empty in
    record { exact_len = ap length is ∙ k.exact_len; consumes = subst (λ l. Consumed a l b) (sym is) k.consumes }

traced_whole : (order : Endianness) (a b c : State) (header : PerfEventHeader) (body now : List ℕ) (end whole : ℕ) → 8 ≤ header.size → ¬ IsCompressed header.type_ → header.type_ ≡ 71
    → BytesRead a (header.size - 8) body b → AuxDataRead order b body end whole now c → BodyRead order a header end whole now c
traced_whole order a b c header body now end whole least plain kind step t =
    let k = t.appended in
    let number : number_in order 8 now ≡ number_in order 8 body = ap (number_in order 8) k.buffer_content ∙ number_prefix order 8 body k.bytes (let l = t.min_size in omega arith) in
    let long : length now ≡ length body + length k.bytes = ap length k.buffer_content ∙ length-append body k.bytes in
    let body_long = step.exact_len in
    let aux_long = k.exact_len in
    let ends = t.end_offset in
    let enough = t.min_size in
    record {
      consumes = subst (λ l. Consumed a l c) (sym k.buffer_content) (consumed_more a b c body k.bytes step.consumes k.consumes);
      not_compressed = plain;
      if_not_auxtrace = λ other. absurd (other kind);
      if_auxtrace = λ _. (omega (arith, enough, body_long), omega (arith, long, body_long, aux_long, number), omega (arith, ends, number));
      end_fits = λ _. t.end_fits;
    }

traced_error : (order : Endianness) (a b c : State) (header : PerfEventHeader) (body now : List ℕ) (end : ℕ) (e : Error) → 8 ≤ header.size → header.type_ ≡ 71
    → BytesRead a (header.size - 8) body b → AuxDataError order b body end e now c → BodyPartlyRead a e now c (BodyErrorCause order a header end e c)
traced_error order a b c header body now end e least kind step (inl (short, fewer, holds, same)) =
    let long = step.exact_len in
    record {
      consumed_bytes = body;
      consumes = subst (λ s. Consumed a body s) (sym same) step.consumes;
      buffer_bound = omega (arith, ap length holds);
      cause = inr (inr (inr (inl (short, long, kind, omega (arith, long, fewer)))));
    }
traced_error order a b c header body now end e least kind step (inr (inl (is, enough, far, holds, same))) =
    let long = step.exact_len in
    record {
      consumed_bytes = body;
      consumes = subst (λ s. Consumed a body s) (sym same) step.consumes;
      buffer_bound = omega (arith, ap length holds);
      cause = inr (inr (inr (inr (inl (is, long, kind, omega (arith, long, enough), far)))));
    }
traced_error order a b c header body now end e least kind step (inr (inr (enough, fits, part, cause_of))) =
    let long = step.exact_len in
    let part_read = body ++ part.partial_read.consumed_bytes in
    let read_long : length part_read ≡ length body + length part.partial_read.consumed_bytes = length-append body part.partial_read.consumed_bytes in
    let number : number_in order 8 part_read ≡ number_in order 8 body = number_prefix order 8 body part.partial_read.consumed_bytes (omega (arith, enough)) in
    let less = part.partial_read.too_few in
    let bound = part.buffer_bound in
    record {
      consumed_bytes = part_read;
      consumes = consumed_more a b c body part.partial_read.consumed_bytes step.consumes part.partial_read.consumes;
      buffer_bound = omega (arith, read_long, bound);
      cause = elim cause_of [
        | inl memory ↦ inl (
          memory,
          omega (arith, long, enough),
          inr (kind, omega (arith, long, enough), omega (arith, read_long, long), omega (arith, read_long, long, number, less)),
        )
        | inr (is, source) ↦ inr (inr (inr (inr (inr (
          is,
          omega (arith, read_long, long),
          kind,
          omega (arith, long, enough),
          omega (arith, number, fits),
          omega (arith, read_long, long, number, less),
          elim source [
            | inl none ↦ inl (consumed_none_later a b c body step.consumes none)
            | inr failed ↦ inr (failed_later a b c body step.consumes failed)
          ],
        )))))
      ];
    }

-- the body of a record with aux data, and the aux data after it
pub content_auxtrace : (order : Endianness) (a b c : State) (header : PerfEventHeader) (buffered body now : List ℕ) (end whole : ℕ) → buffered ≡ [] → 8 ≤ header.size → ¬ IsCompressed header.type_ → header.type_ ≡ 71
    → AppendedExactly a buffered (header.size - 8) body b → AuxDataRead order b body end whole now c → BodyRead order a header end whole now c
content_auxtrace order a b c header buffered body now end whole empty least plain kind kept t = traced_whole order a b c header body now end whole least plain kind (kept_alone a b buffered body (header.size - 8) empty kept) t

-- the body is read, and reading its aux data fails
pub content_not_auxtrace : (order : Endianness) (a b c : State) (header : PerfEventHeader) (buffered body now : List ℕ) (end : ℕ) (e : Error) → buffered ≡ [] → 8 ≤ header.size → header.type_ ≡ 71
    → AppendedExactly a buffered (header.size - 8) body b → AuxDataError order b body end e now c → BodyPartlyRead a e now c (BodyErrorCause order a header end e c)
content_not_auxtrace order a b c header buffered body now end e empty least kind kept t = traced_error order a b c header body now end e least kind (kept_alone a b buffered body (header.size - 8) empty kept) t

-- memory runs out for the body
pub body_exceeds : (order : Endianness) (a b : State) (header : PerfEventHeader) (buffered : List ℕ) (now capacity : ℕ) → buffered ≡ [] → PartlyAppended a (length buffered) (header.size - 8) now b → capacity < length buffered + (header.size - 8) → BodyExceedsCapacity order capacity a header b
body_exceeds order a b header buffered now capacity empty part small = record { consumed_bytes = part.partial_read.consumed_bytes; consumes = part.partial_read.consumes; exceeds = inl (omega (arith, small, ap length empty)) }

-- memory runs out for the aux data
aux_exceeds_after : (order : Endianness) (a b c : State) (header : PerfEventHeader) (body now : List ℕ) (end capacity grown : ℕ) → header.type_ ≡ 71 → BytesRead a (header.size - 8) body b → AuxDataError order b body end Memory now c
    → capacity ≤ grown → grown < length body + number_in order 8 body → BodyExceedsCapacity order capacity a header c
aux_exceeds_after order a b c header body now end capacity grown kind step (inl (short, fewer, holds, same)) kept small = absurd short
aux_exceeds_after order a b c header body now end capacity grown kind step (inr (inl (is, enough, far, holds, same))) kept small = absurd cc
aux_exceeds_after order a b c header body now end capacity grown kind step (inr (inr (enough, fits, part, cause_of))) kept small =
    let long = step.exact_len in
    let part_read = body ++ part.partial_read.consumed_bytes in
    let read_long : length part_read ≡ length body + length part.partial_read.consumed_bytes = length-append body part.partial_read.consumed_bytes in
    let number : number_in order 8 part_read ≡ number_in order 8 body = number_prefix order 8 body part.partial_read.consumed_bytes (omega (arith, enough)) in
    record {
      consumed_bytes = part_read;
      consumes = consumed_more a b c body part.partial_read.consumed_bytes step.consumes part.partial_read.consumes;
      exceeds = inr (kind, omega (arith, long, enough), omega (arith, read_long, long), omega (arith, long, number, kept, small));
    }

pub aux_exceeds : (order : Endianness) (a b c : State) (header : PerfEventHeader) (buffered body now : List ℕ) (end capacity grown : ℕ) (e : Error) → buffered ≡ [] → header.type_ ≡ 71 → AppendedExactly a buffered (header.size - 8) body b → AuxDataError order b body end e now c
    → capacity ≤ grown → e ≡ Memory → grown < length body + number_in order 8 body → BodyExceedsCapacity order capacity a header c
aux_exceeds order a b c header buffered body now end capacity grown e empty kind appended stops kept is small =
    aux_exceeds_after order a b c header body now end capacity grown kind (kept_alone a b buffered body (header.size - 8) empty appended) (subst (λ x. AuxDataError order b body end x now c) is stops) kept small
