-- What the calls of a jitdump reader consume from the start of the unread bytes.
use Rattle.std.proofs.Common.{◌≡◌, ℕ, ◌+◌, ◌-◌, ◌^◌, ◌<◌, ◌≤◌, inl, inr, List, ◌++◌, length, take, drop, slice_range, sym, ap, ap₂, ◌∙◌, subst, arith, append_assoc, length-append, None, Some, false}
use Rattle.std.proofs.lemmas.List.{length-take-le, take-append-drop, drop-take}
use Rattle.std.proofs.Math.Seq.{drop-append_seam}
use Rattle.std.specs.declared.io.Error.{Error}
use Rattle.perfdata_sources.proofs.ConsumedLemmas.{prepend_more}
use Rattle.perfdata_sources.specs.Raw.{IsSingle, bytes_of}
use Rattle.perfdata_sources.specs.Source.{State, prepend, Consumed, BufferFilled}
use Rattle.perfdata_sources.specs.declared.endian.Endianness.{Endianness}
use Rattle.perfdata_jit.proofs.Seeks.{same_after}
use Rattle.perfdata_jit.proofs.RecordHeaders.{size_prefix, header_front, header_there, buffered_some, counts_on, unread_is}
use Rattle.perfdata_jit.proofs.BufferRanges.{part_consumed, prepend-nil}
use Rattle.perfdata_jit.specs.RecordBytes.{record_header_at, record_size_at, HasWholeRecord, IsOneRecord}
use Rattle.perfdata_jit.specs.BufferedReader.{PartSkipped, buffered_in, unread_bytes}
use Rattle.perfdata_jit.specs.steps.BufferedReader.{ConsumesBuffered}
use Rattle.perfdata_jit.specs.JitDumpReader.{IsBodyContiguous, pending_header_bytes, jit_header, jit_endian, jit_offset, jit_buffered, jit_overflow, jit_ring_capacity, jit_seek_failed, jit_source_state, jit_unread_bytes, ReadsForHeaderAndBody, ReturnsJitRecord, RecordSkipped, ReadsPrefix, ReaderOpened, OpensReader}
use Rattle.perfdata_jit.specs.ReadBuffer.{IsContiguous}
use Rattle.perfdata_jit.specs.steps.HeaderSteps.{ValidHeaderPeeked, RecordBuffered, PeeksValidHeader}
use Rattle.perfdata_jit.specs.JitHeader.{IsEndianOfMagic, IsJitHeader, IsJitHeaderError}
use Rattle.perfdata_jit.specs.ReadUntilEof.{CountsFill}
use Rattle.perfdata_jit.specs.declared.error.JitDumpError.{JitDumpError}
use Rattle.perfdata_jit.specs.declared.error.JitDumpError.TheVariants.{NotEnoughBytesForHeader, InvalidHeaderSize, InvalidMagicBytes, UnrecognizedVersion, Io}
use Rattle.perfdata_jit.specs.declared.header.JitDumpHeader.{JitDumpHeader}
use Rattle.perfdata_jit.specs.declared.jitdump_reader.JitDumpReader.{JitDumpReader}
use Rattle.perfdata_jit.specs.declared.record.JitDumpRecordHeader.{JitDumpRecordHeader}
use Rattle.perfdata_jit.specs.declared.record.JitDumpRawRecord.{JitDumpRawRecord}
use Rattle.std.specs.Prelude.{Ok, Err}

-- a header and the body after it are one record
pub one_record : (endian : Endianness) (offset size : ℕ) (header body : List ℕ) → length header ≡ 16 → record_size_at endian header ≡ size → 16 ≤ size → offset + size < 2 ^ 64 → length body ≡ size - 16 → (length (header ++ body) ≡ size) × IsOneRecord endian offset (header ++ body)
one_record endian offset size header body long is least end rest =
    let all : length (header ++ body) ≡ size = omega (arith, length-append header body) in
    (all, record { min_size = omega arith; size = size_prefix endian header body (omega arith) ∙ is ∙ sym all; end_fits = omega arith })

module _ {R : Type 0} (state : R → State) where
  -- a pending header is the prefix of the unread bytes
  flat_some : (j : JitDumpReader R) (bytes : List ℕ) → j.pending_header ≡ Some bytes → jit_unread_bytes state j ≡ prepend bytes (unread_bytes state j.reader)
  flat_some j bytes is = ap (λ h. prepend (pending_header_bytes h) (unread_bytes state j.reader)) is

  flat_none : (j : JitDumpReader R) → j.pending_header ≡ None → jit_unread_bytes state j ≡ unread_bytes state j.reader
  flat_none j is = ap (λ h. prepend (pending_header_bytes h) (unread_bytes state j.reader)) is ∙ prepend-nil (unread_bytes state j.reader)

  pub buffered_after : (old mid : JitDumpReader R) (header : JitDumpRecordHeader) → ValidHeaderPeeked state old header mid → HasWholeRecord (jit_endian old) (jit_offset old) (jit_buffered old) → (header.total_size - 16 ≤ length (buffered_in mid.reader)) × (16 ≤ length (jit_buffered old))
  buffered_after old mid header c buffered =
      let s = c.header_peeked.keeps_position in
      let all = ap length (buffered_some state mid c.bytes c.header_peeked.pending_header) ∙ length-append c.bytes (buffered_in mid.reader) in
      let more = ap length s.buffer_content ∙ length-append (jit_buffered old) s.consumed_bytes in
      let there = header_there state old mid c.bytes c.header_peeked in
      let header_buffered : 16 ≤ length (jit_buffered old) = omega (arith, buffered.min_size, buffered.complete) in
      let size : header.total_size ≡ record_size_at (jit_endian old) (jit_buffered old) = ap (λ (h : JitDumpRecordHeader). h.total_size) (c.matches ∙ there.1) ∙ ap (record_size_at (jit_endian old)) s.buffer_content ∙ size_prefix (jit_endian old) (jit_buffered old) s.consumed_bytes header_buffered in
      (omega (arith, buffered.complete, size, all, more, c.header_peeked.exact_len), header_buffered)

  -- a call for a buffered record fails only if a seek has failed before
  pub buffered_checked : (old new : JitDumpReader R) (e : Error) → HasWholeRecord (jit_endian old) (jit_offset old) (jit_buffered old) → jit_seek_failed old ≡ false → PeeksValidHeader state old (Err e) new → ⊥
  buffered_checked old new e buffered found error =
      let header_buffered : 16 ≤ length (jit_buffered old) = omega (arith, buffered.min_size, buffered.complete) in
      elim error [
        | inl size ↦
            let s = size.keeps_position in
            let same : record_size_at (jit_endian old) (jit_buffered new) ≡ record_size_at (jit_endian old) (jit_buffered old) = ap (record_size_at (jit_endian old)) s.buffer_content ∙ size_prefix (jit_endian old) (jit_buffered old) s.consumed_bytes header_buffered in
            elim size.invalid_size.cause [ inl small ↦ omega (arith, small, same, buffered.min_size) | inr far ↦ omega (arith, far, same, buffered.end_fits) ]
        | inr other ↦ elim other [
          | inl header ↦ omega (arith, header.too_few, ap length header.keeps_position.buffer_content, length-append (jit_buffered old) header.keeps_position.consumed_bytes, header_buffered)
          | inr seek_lost ↦ let gone = seek_lost.seek_failed in cc
        ]
      ]

  pub returns_record : (old mid new : JitDumpReader R) (record_header : JitDumpRecordHeader) (r : JitDumpRawRecord) → RecordBuffered state old record_header mid → ConsumesBuffered state (record_header.total_size - 16) mid.reader new.reader → bytes_of r.body ≡ take (record_header.total_size - 16) (buffered_in mid.reader) → (IsContiguous (record_header.total_size - 16) mid.reader.buffer → IsSingle r.body)
      → new.pending_header ≡ None → jit_offset new ≡ jit_offset mid + record_header.total_size → jit_header new ≡ jit_header mid → jit_endian new ≡ jit_endian mid
      → r.endian ≡ jit_endian mid → r.record_type ≡ record_header.record_type → r.timestamp ≡ record_header.timestamp → r.record_size ≡ record_header.total_size → r.start_offset ≡ jit_offset mid → ReturnsJitRecord state old r new
  returns_record old mid new record_header r h after body single none offset same_header same_endian endian same_type time size start =
      let n = record_header.total_size - 16 in
      let s = h.keeps_position in
      let buffered = buffered_in mid.reader in
      let part = bytes_of r.body in
      let long = ap length body ∙ length-take-le n buffered h.body_buffered in
      let one = one_record (jit_endian old) (jit_offset old) record_header.total_size h.bytes part h.exact_len (ap (λ (x : JitDumpRecordHeader). x.total_size) (sym h.matches)) h.min_size h.end_fits long in
      let prefix : record_header_at (jit_endian old) (h.bytes ++ part) ≡ record_header = header_front (jit_endian old) h.bytes part (omega (arith, h.exact_len)) ∙ sym h.matches in
      let still : jit_source_state state new ≡ jit_source_state state mid = ap state after.source in
      let rest : jit_buffered new ≡ buffered_in new.reader = ap (λ k. pending_header_bytes k ++ buffered_in new.reader) none in
      let bytes = h.bytes ++ part in
      let split : jit_buffered mid ≡ bytes ++ jit_buffered new =
      buffered_some state mid h.bytes h.pending_header ∙ ap (λ l. h.bytes ++ l) (sym (take-append-drop n buffered) ∙ ap₂ (λ a b. a ++ b) (sym body) (sym after.buffered_bytes))
      ∙ sym (append_assoc h.bytes part (buffered_in new.reader)) ∙ ap (λ l. bytes ++ l) (sym rest) in
      let all : length (jit_buffered mid) ≡ length bytes + length (jit_buffered new) = ap length split ∙ length-append bytes (jit_buffered new) in
      record {
        bytes = bytes;
        matches = record {
          record_bytes_valid = one.1;
          endian = endian ∙ s.same_setup.same_endian;
          record_type = same_type ∙ ap (λ (x : JitDumpRecordHeader). x.record_type) (sym prefix);
          timestamp = time ∙ ap (λ (x : JitDumpRecordHeader). x.timestamp) (sym prefix);
          record_size = size ∙ sym one.0;
          start_offset = start ∙ s.offset;
          body = sym (ap (λ k. drop k (h.bytes ++ part)) (sym h.exact_len) ∙ drop-append_seam h.bytes part);
        };
        single = λ at. single (h.keeps_contiguous (subst (λ k. IsBodyContiguous k old) one.0 at));
        unread_bytes =
            s.unread_bytes ∙ flat_some mid h.bytes h.pending_header
            ∙ ap (prepend h.bytes) (part_consumed buffered part (buffered_in new.reader) (jit_source_state state mid).bytes n body after.buffered_bytes)
            ∙ prepend_more h.bytes part (prepend (buffered_in new.reader) (jit_source_state state mid).bytes)
            ∙ ap (λ (t : State). prepend (h.bytes ++ part) (prepend (buffered_in new.reader) t.bytes)) (sym still)
            ∙ ap (prepend (h.bytes ++ part)) (sym (flat_none new none));
        offset = omega (arith, offset, s.offset, one.0);
        consumed_bytes = s.consumed_bytes;
        consumes = rw still s.consumes;
        buffer_content = sym s.buffer_content ∙ split;
        source_unchanged = λ is. after.source ∙ h.source_unchanged is;
        same_counts = rw still h.same_counts;
        reads_for =
            let over : ReadsForHeaderAndBody (jit_ring_capacity old) n (length (jit_buffered old)) (length (jit_buffered mid)) (jit_overflow old) (jit_overflow new) =
            subst (λ k. ReadsForHeaderAndBody (jit_ring_capacity old) n (length (jit_buffered old)) (length (jit_buffered mid)) (jit_overflow old) k) (sym after.overflow_size) h.reads_for in
            let both : ReadsForHeaderAndBody (jit_ring_capacity old) n (length (jit_buffered old)) (length bytes + length (jit_buffered new)) (jit_overflow old) (jit_overflow new) =
            subst (λ k. ReadsForHeaderAndBody (jit_ring_capacity old) n (length (jit_buffered old)) k (jit_overflow old) (jit_overflow new)) all over in
            subst (λ k. ReadsForHeaderAndBody (jit_ring_capacity old) (k - 16) (length (jit_buffered old)) (length bytes + length (jit_buffered new)) (jit_overflow old) (jit_overflow new)) (sym one.0) both;
        same_setup = record { header = same_header ∙ s.same_setup.header; same_endian = same_endian ∙ s.same_setup.same_endian; ring_capacity = after.ring_capacity ∙ s.same_setup.ring_capacity };
        seek_ok_before = s.seek_ok_before;
        seek_ok_after = after.seek_state_kept ∙ s.seek_ok_after;
      }

  pub skips_over : (old mid new : JitDumpReader R) (record_header : JitDumpRecordHeader) → ValidHeaderPeeked state old record_header mid → PartSkipped state (record_header.total_size - 16) mid.reader new.reader → new.pending_header ≡ None → jit_offset new ≡ jit_offset mid + record_header.total_size → jit_header new ≡ jit_header mid → jit_endian new ≡ jit_endian mid
      → RecordSkipped state old new
  skips_over old mid new record_header c skipped none offset same_header same_endian =
      let s = c.header_peeked.keeps_position in
      let part = skipped.skipped_bytes in
      let one = one_record (jit_endian old) (jit_offset old) record_header.total_size c.bytes part c.header_peeked.exact_len (ap (λ (x : JitDumpRecordHeader). x.total_size) (sym c.matches)) c.min_size c.end_fits skipped.exact_len in
      record {
        bytes = c.bytes ++ part;
        record_bytes_valid = one.1;
        unread_bytes = s.unread_bytes ∙ flat_some mid c.bytes c.header_peeked.pending_header ∙ ap (prepend c.bytes) skipped.unread_bytes ∙ prepend_more c.bytes part (unread_bytes state new.reader) ∙ ap (prepend (c.bytes ++ part)) (sym (flat_none new none));
        offset = omega (arith, offset, s.offset, one.0);
        source_unchanged = λ buffered. let there = buffered_after old mid record_header c buffered in skipped.source_unchanged there.0 ∙ c.header_peeked.reads_only_needed.source_unchanged there.1;
        same_counts = counts_on state (jit_source_state state old) (jit_source_state state mid) (jit_source_state state new) c.header_peeked.same_counts skipped.same_counts;
        same_source = same_after (jit_source_state state old) (jit_source_state state mid) (jit_source_state state new) s.consumed_bytes s.consumes skipped.same_source;
        reads_for = record {
          overflow_bound = λ less. omega (arith, c.header_peeked.reads_only_needed.reads_for.overflow_bound less, skipped.overflow_size);
          no_growth_if_buffered = λ le. omega (arith, c.header_peeked.reads_only_needed.reads_for.no_growth_if_buffered le, skipped.overflow_size);
          no_growth_if_fits = λ le. omega (arith, c.header_peeked.reads_only_needed.reads_for.no_growth_if_fits le, skipped.overflow_size);
        };
        overflow_empty = λ less. omega (arith, c.header_peeked.overflow_empty less, skipped.overflow_size);
        same_setup = record { header = same_header ∙ s.same_setup.header; same_endian = same_endian ∙ s.same_setup.same_endian; ring_capacity = skipped.ring_capacity ∙ s.same_setup.ring_capacity };
        seek_ok_before = s.seek_ok_before;
        seek_ok_after = skipped.seek_ok_after;
      }

  -- the header is in the byte order of its magic
  pub header_in : (endian other : Endianness) (prefix : List ℕ) (header : JitDumpHeader) → IsJitHeader other prefix header → IsEndianOfMagic header.magic endian → IsJitHeader endian prefix header
  header_in endian other prefix header is by = subst (λ o. IsJitHeader o prefix header) (sym (by.of_magic other is.magic)) is

  -- the bytes in the buffer after the header are the reader's buffered bytes
  pub opened : (source : R) (buf : List ℕ) (n : ℕ) (j : JitDumpReader R) (after : State) → BufferFilled (state source) buf n after → CountsFill {E = Error} (state source) buf (Ok n) after → IsJitHeader (jit_endian j) (take n buf) (jit_header j) → j.pending_header ≡ None → buffered_in j.reader ≡ slice_range buf (jit_offset j) n → jit_source_state state j ≡ after
      → jit_offset j ≡ (jit_header j).total_size → jit_ring_capacity j ≡ length buf → jit_overflow j ≡ 0 → jit_seek_failed j ≡ false → ReaderOpened state source (length buf) j
  opened source buf n j after fills counts header none buffered view_is offset size overflow finds =
      let prefix = take n buf in
      let long : length prefix ≡ n = length-take-le n buf fills.within in
      let there : jit_offset j ≤ n = omega (arith, header.complete, offset, long) in
      let width : jit_offset j + (n - jit_offset j) ≡ n = omega arith in
      let rest : jit_buffered j ≡ drop (jit_offset j) prefix =
      ap (λ h. pending_header_bytes h ++ buffered_in j.reader) none ∙ buffered ∙ sym (drop-take (jit_offset j) (n - jit_offset j) buf) ∙ ap (λ k. drop (jit_offset j) (take k buf)) width in
      let consumed_by : Consumed (state source) prefix (jit_source_state state j) = rw view_is fills.consumes in
      record {
        prefix_bytes = prefix;
        reads = record {
          consumes = consumed_by;
          within = omega (arith, long, fills.within);
          if_incomplete = λ less. rw view_is (fills.if_incomplete (omega (arith, long, less)));
          errors = rw view_is counts.0;
          pauses = λ all. rw view_is (counts.1 (omega (arith, long, all)));
          at_most_one_pause = rw view_is counts.2;
        };
        header = header;
        unread_bytes =
            consumed_by.bytes ∙ ap (λ l. prepend l (jit_source_state state j).bytes) (sym (take-append-drop (jit_offset j) prefix))
            ∙ sym (prepend_more (take (jit_offset j) prefix) (drop (jit_offset j) prefix) (jit_source_state state j).bytes)
            ∙ ap (λ l. prepend (take (jit_offset j) prefix) (prepend l (jit_source_state state j).bytes)) (sym rest) ∙ ap (prepend (take (jit_offset j) prefix)) (sym (unread_is state j));
        buffered_bytes = rest;
        offset = offset;
        buffer = size;
        overflow_size = overflow;
        seek_ok_after = finds;
      }

  -- the bytes that were read contain no header
  pub not_opened : (source : R) (size : ℕ) (prefix : List ℕ) (rest : State) (e : JitDumpError) → ReadsPrefix state source size prefix rest → IsJitHeaderError prefix e → OpensReader state source size (Err e)
  not_opened source size prefix rest NotEnoughBytesForHeader reads none = (prefix, (rest, reads, none))
  not_opened source size prefix rest (InvalidHeaderSize n) reads none = (prefix, (rest, reads, none))
  not_opened source size prefix rest (InvalidMagicBytes magic) reads none = (prefix, (rest, reads, none))
  not_opened source size prefix rest (UnrecognizedVersion n) reads none = absurd none
  not_opened source size prefix rest (Io e) reads none = absurd none

  pub not_opened_in : (source : R) (size len : ℕ) (prefix : List ℕ) (rest : State) (e : JitDumpError) → len ≡ size → ReadsPrefix state source len prefix rest → IsJitHeaderError prefix e → OpensReader state source size (Err e)
  not_opened_in source size len prefix rest e same reads none = subst (λ k. OpensReader state source k (Err e)) same (not_opened source len prefix rest e reads none)

  -- filling the buffer reads a prefix
  pub reads_prefix : (source : R) (buf : List ℕ) (n : ℕ) (rest : State) → BufferFilled (state source) buf n rest → CountsFill {E = Error} (state source) buf (Ok n) rest → ReadsPrefix state source (length buf) (take n buf) rest
  reads_prefix source buf n rest fills counts =
      let long : length (take n buf) ≡ n = length-take-le n buf fills.within in
      record {
        consumes = fills.consumes;
        within = omega (arith, long, fills.within);
        if_incomplete = λ less. fills.if_incomplete (omega (arith, long, less));
        errors = counts.0;
        pauses = λ all. counts.1 (omega (arith, long, all));
        at_most_one_pause = counts.2;
      }
