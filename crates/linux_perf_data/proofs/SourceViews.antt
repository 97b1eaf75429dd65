-- Without a pending header, the view of a reader is the state of its source.
use Rattle.std.proofs.Common.{◌≡◌, ◌≢◌, ℕ, List, [], refl, sym, ap, ◌∙◌, subst, inl, inr, Option, None, Some}
use Rattle.std.specs.Prelude.{Bool, true, false, Result, Ok, Err, IfErr}
use Rattle.perfdata_sources.specs.Source.{State, prepend, Consumed, EndedOrPaused, SourceFailed, SourcePaused, PartlyRead, SkippedExactly, AppendedExactly}
use Rattle.perfdata_sources.specs.Endian.{number_in}
use Rattle.perfdata_sources.specs.RecordHeader.{RecordHeaderParsed}
use Rattle.perfdata_sources.specs.declared.endian.Endianness.{Endianness}
use Rattle.perfdata_sources.specs.declared.event.record_header.PerfEventHeader.{PerfEventHeader}
use Rattle.perfdata_sections.specs.declared.error.Error.{Error}
use Rattle.perfdata_sections.specs.declared.error.Error.TheVariants.{Memory}
use Rattle.linux_perf_data.specs.declared.records.input.RecordInput.{RecordInput}
use Rattle.linux_perf_data.specs.declared.records.input.RecordInput.TheVariants.{Section, Pipe}
use Rattle.linux_perf_data.specs.RecordInput.{HasNoPendingHeader, with_leading_bytes, input_source_state, section_size_in}
use Rattle.linux_perf_data.specs.steps.RecordInput.{AnswersTruncation}
use Rattle.linux_perf_data.specs.steps.RecordFraming.{ReadsRecordHeader, SkipsBody, AppendsBody, ReadsRecordBody, EndedWithin, FailedWithin, BodyPartlyRead, BodyRead, BodyEnded, BodyErrorCause, BodyExceedsCapacity}
use Rattle.linux_perf_data.proofs.RecordReads.{EndChecked}

prepend_none : (o : Option (List ℕ)) → prepend [] o ≡ o
prepend_none None = refl
prepend_none (Some xs) = refl

-- an empty prefix changes nothing
consumed_plain : (a b : State) (x : List ℕ) → Consumed a x b → Consumed (with_leading_bytes [] a) x (with_leading_bytes [] b)
consumed_plain a b x g = record {
  bytes = prepend_none a.bytes ∙ g.bytes ∙ ap (prepend x) (sym (prepend_none b.bytes));
  position = refl;
  errors = g.errors;
  pauses = g.pauses;
  steady = λ h. let s = g.steady h in record { steady = s.steady; errors = s.errors; pauses = s.pauses };
}

paused_plain : (a b : State) → SourcePaused a b → SourcePaused (with_leading_bytes [] a) (with_leading_bytes [] b)
paused_plain a b p = record { count_increases = p.count_increases; not_steady = p.not_steady }

pub consumed_in : (i : RecordInput) → HasNoPendingHeader i → (a b : State) (x : List ℕ) → Consumed a x b → Consumed (input_source_state i a) x (input_source_state i b)
consumed_in (Section size) none a b x g = g
consumed_in (Pipe None) none a b x g = consumed_plain a b x g
consumed_in (Pipe (Some header)) none a b x g = absurd cc

pub failed_in : (i : RecordInput) → HasNoPendingHeader i → (a b : State) → SourceFailed a b → SourceFailed (input_source_state i a) (input_source_state i b)
failed_in (Section size) none a b f = f
failed_in (Pipe None) none a b f = record { count_increases = f.count_increases; not_steady = f.not_steady }
failed_in (Pipe (Some header)) none a b f = absurd cc

pub consumed_none_in : (i : RecordInput) → HasNoPendingHeader i → (a b : State) → EndedOrPaused a b → EndedOrPaused (input_source_state i a) (input_source_state i b)
consumed_none_in (Section size) none a b g = g
consumed_none_in (Pipe None) none a b g = λ more. paused_plain a b (g (λ e. more (ap (prepend []) e)))
consumed_none_in (Pipe (Some header)) none a b g = absurd cc

module _ (i : RecordInput) (none : HasNoPendingHeader i) (a b : State) where
  pub skipped_in : (count : ℕ) → SkippedExactly a count b → SkippedExactly (input_source_state i a) count (input_source_state i b)
  skipped_in count t = record { bytes = t.bytes; exact_len = t.exact_len; consumes = consumed_in i none a b t.bytes t.consumes }

  part_in : (count : ℕ) → PartlyRead a count b → PartlyRead (input_source_state i a) count (input_source_state i b)
  part_in count p = record { consumed_bytes = p.consumed_bytes; too_few = p.too_few; consumes = consumed_in i none a b p.consumed_bytes p.consumes }

  pub ended_in : (count : ℕ) → EndedWithin a count b → EndedWithin (input_source_state i a) count (input_source_state i b)
  ended_in count e = (part_in count e.0, consumed_none_in i none a b e.1)

  pub failed_part_in : (count : ℕ) → FailedWithin a count b → FailedWithin (input_source_state i a) count (input_source_state i b)
  failed_part_in count f = (part_in count f.0, failed_in i none a b f.1)

  pub content_in : (order : Endianness) (header : PerfEventHeader) (end whole : ℕ) (now : List ℕ) → BodyRead order a header end whole now b → BodyRead order (input_source_state i a) header end whole now (input_source_state i b)
  content_in order header end whole now t = record { consumes = consumed_in i none a b now t.consumes; not_compressed = t.not_compressed; if_not_auxtrace = t.if_not_auxtrace; if_auxtrace = t.if_auxtrace; end_fits = t.end_fits }

  pub ended_content_in : (header : PerfEventHeader) (now : List ℕ) → BodyEnded a header now b → BodyEnded (input_source_state i a) header now (input_source_state i b)
  ended_content_in header now e = record { consumed_bytes = e.consumed_bytes; too_few = e.too_few; consumes = consumed_in i none a b e.consumed_bytes e.consumes; ended_or_paused = consumed_none_in i none a b e.ended_or_paused; buffer_bound = e.buffer_bound }

  reason_in : (order : Endianness) (header : PerfEventHeader) (end : ℕ) (e : Error) (part_read : List ℕ) → BodyErrorCause order a header end e b part_read → BodyErrorCause order (input_source_state i a) header end e (input_source_state i b) part_read
  reason_in order header end e part_read (inl memory) = inl memory
  reason_in order header end e part_read (inr (inl (is, less, failed))) = inr (inl (is, less, failed_in i none a b failed))
  reason_in order header end e part_read (inr (inr (inl is))) = inr (inr (inl is))
  reason_in order header end e part_read (inr (inr (inr (inl is)))) = inr (inr (inr (inl is)))
  reason_in order header end e part_read (inr (inr (inr (inr (inl is))))) = inr (inr (inr (inr (inl is))))
  reason_in order header end e part_read (inr (inr (inr (inr (inr (is, there, kind, enough, fits, less, inl ended)))))) =
      inr (inr (inr (inr (inr (is, there, kind, enough, fits, less, inl (consumed_none_in i none a b ended))))))
  reason_in order header end e part_read (inr (inr (inr (inr (inr (is, there, kind, enough, fits, less, inr failed)))))) =
      inr (inr (inr (inr (inr (is, there, kind, enough, fits, less, inr (failed_in i none a b failed))))))

  pub no_content_in : (order : Endianness) (header : PerfEventHeader) (end : ℕ) (e : Error) (now : List ℕ) → BodyPartlyRead a e now b (BodyErrorCause order a header end e b)
      → BodyPartlyRead (input_source_state i a) e now (input_source_state i b) (BodyErrorCause order (input_source_state i a) header end e (input_source_state i b))
  no_content_in order header end e now c = record { consumed_bytes = c.consumed_bytes; consumes = consumed_in i none a b c.consumed_bytes c.consumes; buffer_bound = c.buffer_bound; cause = reason_in order header end e c.consumed_bytes c.cause }

  pub exceeds_in : (order : Endianness) (capacity : ℕ) (header : PerfEventHeader) → BodyExceedsCapacity order capacity a header b → BodyExceedsCapacity order capacity (input_source_state i a) header (input_source_state i b)
  exceeds_in order capacity header x = record { consumed_bytes = x.consumed_bytes; consumes = consumed_in i none a b x.consumed_bytes x.consumes; exceeds = x.exceeds }

-- a truncated record gives the end in a pipe and the error in a file
pub truncated_by : (i : RecordInput) (e : Error) (r : Result (Option PerfEventHeader) Error) (P : Result (Option PerfEventHeader) Error → Type 0) → AnswersTruncation i e r → (section_size_in i ≡ None → P (Ok None)) → (section_size_in i ≢ None → P (Err e)) → P r
truncated_by i e (Ok None) P answers pipe file = pipe answers
truncated_by i e (Ok (Some header)) P answers pipe file = absurd answers
truncated_by i e (Err e') P answers pipe file = subst (λ x. P (Err x)) (sym answers.1) (file answers.0)

-- a read that returns `true` reads all bytes
pub read_true : (a b : State) (buffered : List ℕ) (count : ℕ) (now : List ℕ) (r : Bool) → r ≡ true → AppendsBody a buffered count (Ok r) now b → AppendedExactly a buffered count now b
read_true a b buffered count now r is reads = subst (λ o. AppendsBody a buffered count (Ok o) now b) is reads

pub pass_true : (a b : State) (count : ℕ) (r : Bool) → r ≡ true → SkipsBody a count (Ok r) b → SkippedExactly a count b
pass_true a b count r is passes = subst (λ o. SkipsBody a count (Ok o) b) is passes

pub pass_false : (a b : State) (count : ℕ) (r : Bool) → r ≡ false → SkipsBody a count (Ok r) b → EndedWithin a count b
pass_false a b count r is passes = subst (λ o. SkipsBody a count (Ok o) b) is passes

pub header_some : (order : Endianness) (offset : ℕ) (a b : State) (r : Option (PerfEventHeader × ℕ)) (start : PerfEventHeader × ℕ) → r ≡ Some start → ReadsRecordHeader order offset a (Ok r) b → RecordHeaderParsed (number_in order) a start.0 b × EndChecked offset start.0.size start.1
header_some order offset a b r start is reads = let read = subst (λ o. ReadsRecordHeader order offset a (Ok o) b) is reads in (read.0, (read.1, read.2))

pub header_none : (order : Endianness) (offset : ℕ) (a b : State) (r : Option (PerfEventHeader × ℕ)) → r ≡ None → ReadsRecordHeader order offset a (Ok r) b → EndedWithin a 8 b
header_none order offset a b r is reads = subst (λ o. ReadsRecordHeader order offset a (Ok o) b) is reads

pub content_some : (order : Endianness) (a b : State) (header : PerfEventHeader) (end whole : ℕ) (now : List ℕ) (r : Option ℕ) → r ≡ Some whole → ReadsRecordBody order a header end (Ok r) now b → BodyRead order a header end whole now b
content_some order a b header end whole now r is reads = subst (λ o. ReadsRecordBody order a header end (Ok o) now b) is reads

pub content_none : (order : Endianness) (a b : State) (header : PerfEventHeader) (end : ℕ) (now : List ℕ) (r : Option ℕ) → r ≡ None → ReadsRecordBody order a header end (Ok r) now b → BodyEnded a header now b
content_none order a b header end now r is reads = subst (λ o. ReadsRecordBody order a header end (Ok o) now b) is reads

-- a truncated record isn't out of memory
pub truncation_memory : (i : RecordInput) (e : Error) (r : Result (Option PerfEventHeader) Error) (P : Type 0) → AnswersTruncation i e r → e ≢ Memory → IfErr r (λ e'. e' ≡ Memory → P)
truncation_memory i e (Ok None) P answers other = tt
truncation_memory i e (Ok (Some header)) P answers other = absurd answers
truncation_memory i e (Err e') P answers other = λ is. absurd (other (sym answers.1 ∙ is))
