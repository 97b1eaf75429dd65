-- A record header before the bytes of its body, and the steps of a jitdump reader.
use Rattle.std.proofs.Common.{◌≡◌, ℕ, ◌+◌, ◌-◌, ◌^◌, ◌<◌, ◌≤◌, inl, inr, List, [], ◌++◌, length, refl, sym, ap, ap₂, ◌∙◌, subst, arith, append_assoc, append-nil, length-append, Option, None, Some, false}
use Rattle.std.specs.Prelude.{IfSome}
use Rattle.std.specs.declared.io.Error.{Error}
use Rattle.perfdata_sources.proofs.ConsumedLemmas.{consumed_none, consumed_more, prepend_more, consumed_none_later, failed_later}
use Rattle.perfdata_sources.proofs.Numbers.{number_prefix, number_drop_prefix}
use Rattle.perfdata_sources.specs.Source.{State, prepend, Consumed}
use Rattle.perfdata_sources.specs.declared.endian.Endianness.{Endianness}
use Rattle.perfdata_jit.proofs.Contiguous.{contiguous_buffered}
use Rattle.perfdata_jit.proofs.KeptBytes.{unread_kept}
use Rattle.perfdata_jit.proofs.Seeks.{same_after}
use Rattle.perfdata_jit.specs.ReadBuffer.{IsContiguous}
use Rattle.perfdata_jit.specs.RecordBytes.{record_header_at, record_size_at, IsTruncatedRecord, HasNoWholeRecord}
use Rattle.perfdata_jit.specs.BufferedReader.{SameCounts, KeepsBytes, ReadsOnlyFor, BufferedEnough, BufferedTooFew, BufferingError, BytesNotSkipped, HeaderConsumed, buffered_in}
use Rattle.perfdata_jit.specs.JitDumpReader.{contiguous_after_header, pending_header_bytes, jit_endian, jit_offset, jit_buffered, jit_overflow, jit_ring_capacity, jit_seek_failed, jit_source_state, jit_unread_bytes, ReadsForHeaderAndBody, SameSetup, ReadsForRecord, KeepsPosition, RecordNotReady, RecordNotSkipped, NextJitRecordError}
use Rattle.perfdata_jit.specs.steps.HeaderSteps.{HeaderPeeked, ValidHeaderPeeked, RecordBuffered}
use Rattle.perfdata_jit.specs.declared.buffered_reader.BufferedReader.{BufferedReader}
use Rattle.perfdata_jit.specs.declared.jitdump_reader.JitDumpReader.{JitDumpReader}
use Rattle.perfdata_jit.specs.declared.record.JitDumpRecordHeader.{JitDumpRecordHeader}

-- a record header depends on the first 16 bytes only
pub header_front : (endian : Endianness) (header rest : List ℕ) → 16 ≤ length header → record_header_at endian (header ++ rest) ≡ record_header_at endian header
header_front endian header rest long =
    let record_type = number_prefix endian 4 header rest (omega arith) in
    let size = number_drop_prefix endian 4 4 header rest (omega arith) in
    let time = number_drop_prefix endian 8 8 header rest (omega arith) in
    cc (record_type, size, time)

pub size_prefix : (endian : Endianness) (header rest : List ℕ) → 16 ≤ length header → record_size_at endian (header ++ rest) ≡ record_size_at endian header
size_prefix endian header rest long = number_drop_prefix endian 4 4 header rest (omega arith)

module _ {R : Type 0} (state : R → State) where
  -- the unread bytes are those buffered, followed by the remaining bytes of the source
  pub unread_is : (j : JitDumpReader R) → jit_unread_bytes state j ≡ prepend (jit_buffered j) (jit_source_state state j).bytes
  unread_is j = prepend_more (pending_header_bytes j.pending_header) (buffered_in j.reader) (jit_source_state state j).bytes

  pub remains_by : (old new : JitDumpReader R) (read_bytes : List ℕ) → Consumed (jit_source_state state old) read_bytes (jit_source_state state new) → jit_buffered new ≡ jit_buffered old ++ read_bytes → jit_offset new ≡ jit_offset old → SameSetup old new → jit_seek_failed old ≡ false → jit_seek_failed new ≡ false → KeepsPosition state old new
  remains_by old new read_bytes consumed_by holds offset file found finds = record {
    unread_bytes = unread_is old ∙ unread_kept (jit_source_state state old) (jit_source_state state new) (jit_buffered old) (jit_buffered new) read_bytes consumed_by holds ∙ sym (unread_is new);
    offset = offset;
    consumed_bytes = read_bytes;
    consumes = consumed_by;
    buffer_content = holds;
    same_setup = file;
    seek_ok_before = found;
    seek_ok_after = finds;
  }

  same_file : (j : JitDumpReader R) → SameSetup j j
  same_file j = record { header = refl; same_endian = refl; ring_capacity = refl }

  pub file_on : (a b c : JitDumpReader R) → SameSetup a b → SameSetup b c → SameSetup a c
  file_on a b c x y = record { header = y.header ∙ x.header; same_endian = y.same_endian ∙ x.same_endian; ring_capacity = y.ring_capacity ∙ x.ring_capacity }

  pub counts_on : (a b c : State) → SameCounts a b → SameCounts b c → SameCounts a c
  counts_on a b c x y = record { errors = y.errors ∙ x.errors; pauses = y.pauses ∙ x.pauses }

  -- a pending header is peeked without a read
  pub read_kept : (j : JitDumpReader R) (bytes : List ℕ) → j.pending_header ≡ Some bytes → length bytes ≡ 16 → jit_seek_failed j ≡ false → HeaderPeeked state j bytes j
  read_kept j bytes is long found =
      let buffered : jit_buffered j ≡ bytes ++ buffered_in j.reader = ap (λ h. pending_header_bytes h ++ buffered_in j.reader) is in
      let all = ap length buffered ∙ length-append bytes (buffered_in j.reader) in
      record {
        keeps_position = remains_by j j [] (consumed_none (jit_source_state state j)) (sym (append-nil (jit_buffered j))) refl (same_file j) found found;
        reads_only_needed = record {
          reads_for = record { overflow_bound = λ less. absurd (omega (arith, all, long)); no_growth_if_buffered = λ _. omega arith; no_growth_if_fits = λ _. omega arith };
          source_unchanged = λ _. refl;
          buffer_unchanged = λ _. refl;
        };
        overflow_empty = λ less. absurd (omega (arith, less, all, long));
        exact_len = long;
        pending_header = is;
        keeps_contiguous = λ n le at. subst (λ h. contiguous_after_header h n j.reader.buffer) is at;
        same_counts = record { errors = refl; pauses = refl };
      }

  pub buffered_some : (j : JitDumpReader R) (bytes : List ℕ) → j.pending_header ≡ Some bytes → jit_buffered j ≡ bytes ++ buffered_in j.reader
  buffered_some j bytes is = ap (λ h. pending_header_bytes h ++ buffered_in j.reader) is

  -- a header that is consumed becomes the pending header
  pub header_peeked : (old new : JitDumpReader R) (bytes : List ℕ) → HeaderConsumed state old.reader bytes new.reader → old.pending_header ≡ None → new.pending_header ≡ Some bytes → jit_offset new ≡ jit_offset old → SameSetup old new → HeaderPeeked state old bytes new
  header_peeked old new bytes h none some offset setup =
      let p = h.consumes in
      let requested = p.reads_only_needed in
      let before : jit_buffered old ≡ buffered_in old.reader = ap (λ k. pending_header_bytes k ++ buffered_in old.reader) none in
      let after = buffered_some new bytes some in
      let len = ap length before in
      record {
        keeps_position = remains_by old new p.consumed_bytes p.consumes (after ∙ sym p.buffer_content ∙ ap (λ l. l ++ p.consumed_bytes) (sym before)) offset setup p.seek_ok_before p.seek_ok_after;
        reads_only_needed = record {
          reads_for = record {
            overflow_bound = λ less. requested.overflow_bound (omega (arith, less, len));
            no_growth_if_buffered = λ le. requested.no_growth_if_buffered (omega (arith, le, len));
            no_growth_if_fits = λ le. requested.no_growth_if_fits le;
          };
          source_unchanged = λ le. requested.source_unchanged (omega (arith, le, len));
          buffer_unchanged = λ le. after ∙ sym (p.if_buffered (omega (arith, le, len))) ∙ sym before;
        };
        overflow_empty = λ less. h.overflow_empty (omega (arith, less, len));
        exact_len = p.exact_len;
        pending_header = some;
        keeps_contiguous = λ n le at. p.keeps_contiguous n le (subst (λ k. contiguous_after_header k n old.reader.buffer) none at);
        same_counts = p.same_counts;
      }

  -- the pending header is the one at the start of the buffered bytes
  pub header_there : (old new : JitDumpReader R) (bytes : List ℕ) → HeaderPeeked state old bytes new → (16 ≤ length (jit_buffered new)) × (record_header_at (jit_endian old) bytes ≡ record_header_at (jit_endian old) (jit_buffered new))
  header_there old new bytes peeked =
      let is = buffered_some new bytes peeked.pending_header in (
        omega (arith, peeked.exact_len, ap length is, length-append bytes (buffered_in new.reader)),
        sym (ap (record_header_at (jit_endian old)) is ∙ header_front (jit_endian old) bytes (buffered_in new.reader) (omega (arith, peeked.exact_len))),
      )

  -- bytes that are read while a header is pending are appended to the buffered bytes
  buffered_more : (mid new : JitDumpReader R) → new.pending_header ≡ mid.pending_header → (k : KeepsBytes state mid.reader new.reader) → jit_buffered new ≡ jit_buffered mid ++ k.consumed_bytes
  buffered_more mid new still k = ap (λ h. pending_header_bytes h ++ buffered_in new.reader) still ∙ ap (λ l. pending_header_bytes mid.pending_header ++ l) k.buffer_content ∙ sym (append_assoc (pending_header_bytes mid.pending_header) (buffered_in mid.reader) k.consumed_bytes)

  -- reading the body after the pending header
  for_header_and_body : (old mid new : JitDumpReader R) (header : JitDumpRecordHeader) (c : ValidHeaderPeeked state old header mid) → new.pending_header ≡ mid.pending_header → KeepsBytes state mid.reader new.reader → ReadsOnlyFor state (header.total_size - 16) mid.reader new.reader
      → ReadsForHeaderAndBody (jit_ring_capacity old) (header.total_size - 16) (length (jit_buffered old)) (length (jit_buffered new)) (jit_overflow old) (jit_overflow new)
  for_header_and_body old mid new header c kept k requested =
      let s = c.header_peeked.keeps_position in
      let all = ap length (buffered_some mid c.bytes c.header_peeked.pending_header) ∙ length-append c.bytes (buffered_in mid.reader) in
      let long = c.header_peeked.exact_len in
      record {
        buffered_after_header = length (jit_buffered mid);
        buffer_unchanged = λ le. ap length (c.header_peeked.reads_only_needed.buffer_unchanged le);
        at_most_all = omega (arith, ap length (buffered_more mid new kept k), length-append (jit_buffered mid) k.consumed_bytes);
        not_fewer = omega (arith, ap length s.buffer_content, length-append (jit_buffered old) s.consumed_bytes);
        overflow_between = jit_overflow mid;
        header_read = c.header_peeked.reads_only_needed.reads_for;
        overflow_empty = c.header_peeked.overflow_empty;
        body_read = record {
          overflow_bound = λ less. requested.overflow_bound (omega (arith, all, long));
          no_growth_if_buffered = λ le. requested.no_growth_if_buffered (omega (arith, all, long));
          no_growth_if_fits = λ le. requested.no_growth_if_fits (omega (arith, le, s.same_setup.ring_capacity));
        };
      }

  -- the bytes of the body are buffered after the header
  keeps_after_header : (old mid new : JitDumpReader R) (bytes : List ℕ) → HeaderPeeked state old bytes mid → new.pending_header ≡ mid.pending_header → KeepsBytes state mid.reader new.reader → jit_offset new ≡ jit_offset mid → SameSetup mid new → KeepsPosition state old new
  keeps_after_header old mid new bytes peeked still k offset file =
      let s = peeked.keeps_position in
      remains_by old new (s.consumed_bytes ++ k.consumed_bytes) (consumed_more (jit_source_state state old) (jit_source_state state mid) (jit_source_state state new) s.consumed_bytes k.consumed_bytes s.consumes k.consumes)
      (buffered_more mid new still k ∙ ap (λ l. l ++ k.consumed_bytes) s.buffer_content ∙ append_assoc (jit_buffered old) s.consumed_bytes k.consumed_bytes) (offset ∙ s.offset) (file_on old mid new s.same_setup file) s.seek_ok_before (k.seek_state_kept ∙ s.seek_ok_after)

  pub holds_next : (old mid new : JitDumpReader R) (header : JitDumpRecordHeader) → ValidHeaderPeeked state old header mid → BufferedEnough state (header.total_size - 16) mid.reader new.reader → new.pending_header ≡ mid.pending_header → jit_offset new ≡ jit_offset mid → SameSetup mid new → RecordBuffered state old header new
  holds_next old mid new header c asked still offset file =
      let peeked = c.header_peeked in
      let s = peeked.keeps_position in
      let all = ap length (buffered_some mid c.bytes peeked.pending_header) ∙ length-append c.bytes (buffered_in mid.reader) in
      let more = ap length s.buffer_content ∙ length-append (jit_buffered old) s.consumed_bytes in
      let there = header_there old mid c.bytes peeked in
      let size : header.total_size ≡ record_size_at (jit_endian old) (jit_buffered old ++ s.consumed_bytes) = ap (λ (h : JitDumpRecordHeader). h.total_size) (c.matches ∙ there.1) ∙ ap (record_size_at (jit_endian old)) s.buffer_content in
      record {
        keeps_position = keeps_after_header old mid new c.bytes peeked still asked.keeps_bytes offset file;
        bytes = c.bytes;
        exact_len = peeked.exact_len;
        pending_header = still ∙ peeked.pending_header;
        matches = c.matches;
        min_size = c.min_size;
        end_fits = c.end_fits;
        body_buffered = asked.is_buffered;
        keeps_contiguous = λ at.
            let there = peeked.keeps_contiguous header.total_size c.min_size at in
            subst (λ (r : BufferedReader R). IsContiguous (header.total_size - 16) r.buffer) (sym (asked.unchanged (contiguous_buffered (header.total_size - 16) mid.reader.buffer there))) there;
        source_unchanged = λ buffered.
            let header_buffered : 16 ≤ length (jit_buffered old) = omega (arith, buffered.min_size, buffered.complete) in
            let same = size ∙ size_prefix (jit_endian old) (jit_buffered old) s.consumed_bytes header_buffered in
            asked.reads_only_needed.source_unchanged (omega (arith, buffered.complete, same, all, more, peeked.exact_len)) ∙ peeked.reads_only_needed.source_unchanged header_buffered;
        same_counts = counts_on (jit_source_state state old) (jit_source_state state mid) (jit_source_state state new) peeked.same_counts asked.same_counts;
        reads_for = for_header_and_body old mid new header c still asked.keeps_bytes asked.reads_only_needed;
      }

  -- if fewer bytes than the body has follow the pending header, there is no complete record
  pub truncated_body : (old mid new : JitDumpReader R) (header : JitDumpRecordHeader) → ValidHeaderPeeked state old header mid → new.pending_header ≡ mid.pending_header → length (buffered_in new.reader) < header.total_size - 16 → IsTruncatedRecord (jit_endian old) (jit_offset old) (jit_buffered new) × (record_size_at (jit_endian old) (jit_buffered new) ≡ header.total_size)
  truncated_body old mid new header c still fewer =
      let is = buffered_some new c.bytes (still ∙ c.header_peeked.pending_header) in
      let all = ap length is ∙ length-append c.bytes (buffered_in new.reader) in
      let long = c.header_peeked.exact_len in
      let size : record_size_at (jit_endian old) (jit_buffered new) ≡ header.total_size = ap (record_size_at (jit_endian old)) is ∙ size_prefix (jit_endian old) c.bytes (buffered_in new.reader) (omega (arith, long)) ∙ ap (λ (h : JitDumpRecordHeader). h.total_size) (sym c.matches) in (
        record {
          has_header = omega (arith, all, long);
          min_size = omega (arith, size, c.min_size);
          end_fits = omega (arith, size, c.end_fits);
          too_few = omega (arith, size, all, long, fewer, c.min_size);
        },
        size,
      )

  header_and_body_read_only : (old mid new : JitDumpReader R) (header : JitDumpRecordHeader) (c : ValidHeaderPeeked state old header mid) → new.pending_header ≡ mid.pending_header → KeepsBytes state mid.reader new.reader → ReadsOnlyFor state (header.total_size - 16) mid.reader new.reader → IsTruncatedRecord (jit_endian old) (jit_offset old) (jit_buffered new) × (record_size_at (jit_endian old) (jit_buffered new) ≡ header.total_size) → ReadsForRecord (record_size_at (jit_endian old) (jit_buffered new)) old new
  header_and_body_read_only old mid new header c still k requested truncated = record {
    header_read = λ fewer. absurd (omega (arith, truncated.0.has_header));
    header_and_body_read = λ _. subst (λ n. ReadsForHeaderAndBody (jit_ring_capacity old) (n - 16) (length (jit_buffered old)) (length (jit_buffered new)) (jit_overflow old) (jit_overflow new)) (sym truncated.1) (for_header_and_body old mid new header c still k requested);
  }

  pub not_ready_for_body : (old mid new : JitDumpReader R) (header : JitDumpRecordHeader) → ValidHeaderPeeked state old header mid → BufferedTooFew state (header.total_size - 16) mid.reader new.reader → new.pending_header ≡ mid.pending_header → jit_offset new ≡ jit_offset mid → SameSetup mid new → RecordNotReady state old new
  not_ready_for_body old mid new header c asked still offset file =
      let truncated = truncated_body old mid new header c still asked.too_few in
      record {
        keeps_position = keeps_after_header old mid new c.bytes c.header_peeked still asked.keeps_bytes offset file;
        no_whole_record = inr truncated.0;
        ended_or_paused = consumed_none_later _ _ _ c.header_peeked.keeps_position.consumed_bytes c.header_peeked.keeps_position.consumes asked.ended_or_paused;
        at_most_one_pause = let once = asked.at_most_one_pause in let before = c.header_peeked.same_counts.pauses in omega (arith, once, before);
        errors = asked.errors ∙ c.header_peeked.same_counts.errors;
        reads_only_needed = header_and_body_read_only old mid new header c still asked.keeps_bytes asked.reads_only_needed truncated;
      }

  pub body_error : (old mid new : JitDumpReader R) (header : JitDumpRecordHeader) (e : Error) → ValidHeaderPeeked state old header mid → BufferingError state (header.total_size - 16) mid.reader e new.reader → new.pending_header ≡ mid.pending_header → jit_offset new ≡ jit_offset mid → SameSetup mid new → NextJitRecordError state old e new
  body_error old mid new header e c asked still offset file =
      let truncated = truncated_body old mid new header c still asked.too_few in
      inr (inl (record {
        keeps_position = keeps_after_header old mid new c.bytes c.header_peeked still asked.keeps_bytes offset file;
        no_whole_record = inr truncated.0;
        cause = elim asked.cause [
          | inl failed ↦ inl (failed_later _ _ _ c.header_peeked.keeps_position.consumed_bytes c.header_peeked.keeps_position.consumes failed)
          | inr full ↦ inr (header.total_size - 16, inr (omega (arith, truncated.1, c.min_size), truncated.0.has_header), record { exceeds_ring = omega (arith, full.0.exceeds_ring, c.header_peeked.keeps_position.same_setup.ring_capacity); kind = full.0.kind }, counts_on _ _ _ c.header_peeked.same_counts full.1)
        ];
        pauses = asked.pauses ∙ c.header_peeked.same_counts.pauses;
        reads_only_needed = header_and_body_read_only old mid new header c still asked.keeps_bytes asked.reads_only_needed truncated;
      }))

-- a record of which fewer bytes remain than its size is truncated
remaining_truncated : (endian : Endianness) (offset size : ℕ) (header buffered : List ℕ) (rest : Option (List ℕ)) → length header ≡ 16 → record_size_at endian header ≡ size → 16 ≤ size → offset + size < 2 ^ 64 → IfSome rest (λ xs. length buffered + length xs < size - 16) → IfSome (prepend (header ++ buffered) rest) (HasNoWholeRecord endian offset)
remaining_truncated endian offset size header buffered None long is least end fewer = tt
remaining_truncated endian offset size header buffered (Some xs) long is least end fewer =
    let all : length ((header ++ buffered) ++ xs) ≡ (16 + length buffered) + length xs = omega (arith, length-append (header ++ buffered) xs, length-append header buffered, long) in
    let same : record_size_at endian ((header ++ buffered) ++ xs) ≡ size = ap (record_size_at endian) (append_assoc header buffered xs) ∙ size_prefix endian header (buffered ++ xs) (omega (arith, long)) ∙ is in
    inr (record { has_header = omega (arith, all); min_size = omega (arith, same, least); end_fits = omega (arith, same, end); too_few = omega (arith, same, all, fewer, least) })

module _ {R : Type 0} (state : R → State) where
  -- the body isn't skipped
  pub not_skipped : (old mid new : JitDumpReader R) (header : JitDumpRecordHeader) → ValidHeaderPeeked state old header mid → BytesNotSkipped state (header.total_size - 16) mid.reader new.reader → new.pending_header ≡ mid.pending_header → jit_offset new ≡ jit_offset mid → SameSetup mid new → RecordNotSkipped state old new
  not_skipped old mid new header c kept pending offset setup =
      let s = c.header_peeked.keeps_position in
      let reads = c.header_peeked.reads_only_needed.reads_for in
      let fewer = kept.too_few in
      let truncated = truncated_body state old mid new header c pending (omega (arith, fewer, ap length kept.buffer_content)) in
      let size : record_size_at (jit_endian old) c.bytes ≡ header.total_size = ap (λ (h : JitDumpRecordHeader). h.total_size) (sym c.matches) in
      record {
        unread_bytes = s.unread_bytes ∙ ap₂ (λ h u. prepend (pending_header_bytes h) u) (sym pending) kept.unread_bytes;
        offset = offset ∙ s.offset;
        is_truncated = truncated.0;
        no_whole_record = inr truncated.0;
        none_if_steady = λ steady.
            let rest = kept.too_few_in_source (s.consumes.steady steady).steady in
            let unread : jit_unread_bytes state old ≡ prepend (c.bytes ++ buffered_in mid.reader) (jit_source_state state mid).bytes = s.unread_bytes ∙ unread_is state mid ∙ ap (λ l. prepend l (jit_source_state state mid).bytes) (buffered_some state mid c.bytes c.header_peeked.pending_header) in
            subst (λ o. IfSome o (HasNoWholeRecord (jit_endian old) (jit_offset old))) (sym unread) (remaining_truncated (jit_endian old) (jit_offset old) header.total_size c.bytes (buffered_in mid.reader) (jit_source_state state mid).bytes c.header_peeked.exact_len size c.min_size c.end_fits rest);
        same_counts = counts_on state (jit_source_state state old) (jit_source_state state mid) (jit_source_state state new) c.header_peeked.same_counts kept.same_counts;
        same_source = same_after (jit_source_state state old) (jit_source_state state mid) (jit_source_state state new) s.consumed_bytes s.consumes kept.same_source;
        reads_for = record {
          overflow_bound = λ less. omega (arith, reads.overflow_bound less, kept.overflow_size);
          no_growth_if_buffered = λ le. omega (arith, reads.no_growth_if_buffered le, kept.overflow_size);
          no_growth_if_fits = λ le. omega (arith, reads.no_growth_if_fits le, kept.overflow_size);
        };
        overflow_empty = λ less. omega (arith, c.header_peeked.overflow_empty less, kept.overflow_size);
        same_setup = file_on state old mid new s.same_setup setup;
        seek_ok_before = s.seek_ok_before;
        seek_ok_after = kept.seek_ok_after;
      }
