-- A whole record at the start of the remaining bytes is the next raw record.
use Rattle.std.proofs.Common.{◌≡◌, ◌≢◌, ℕ, ◌+◌, ◌-◌, ◌^◌, ◌<◌, ◌≤◌, ◌==◌, List, [], length, take, drop, sym, subst, ap, ◌∙◌, arith, Some}
use Rattle.std.specs.Prelude.{if◌then◌else◌}
use Rattle.std.specs.List.{slice_range}
use Rattle.std.proofs.lemmas.List.{drop-take, length-take-le, take-append-drop}
use Rattle.perfdata_sources.proofs.Seeks.{buffered_from_cursor}
use Rattle.perfdata_sources.specs.Source.{Consumed, memory_source_at}
use Rattle.perfdata_sources.specs.Endian.{number_in}
use Rattle.perfdata_sources.specs.RecordHeader.{record_header_of}
use Rattle.perfdata_sources.specs.declared.event.record_header.PerfEventHeader.{PerfEventHeader}
use Rattle.perfdata_sections.specs.RecordTypes.{finished_round}
use Rattle.linux_perf_data.specs.steps.BufferedRecord.{WholeRecordLength}
use Rattle.linux_perf_data.specs.RecordInput.{HasNoPendingHeader, input_source_state, section_size_in}
use Rattle.linux_perf_data.specs.InMemory.{memory_state, MemoryIter}
use Rattle.linux_perf_data.specs.steps.IterSteps.{RawRecordRead}
use Rattle.linux_perf_data.specs.Layout.{misc_of}
use Rattle.linux_perf_data.proofs.BufferedRecords.{front_record_type}
use Rattle.linux_perf_data.proofs.RecordHeaders.{misc_prefix, record_least}
use Rattle.linux_perf_data.proofs.SourceViews.{consumed_in}

-- the body of the record at the start of the bytes
pub body_of_first : (bytes : List ℕ) (n : ℕ) → 8 ≤ n → slice_range bytes 8 n ≡ drop 8 (take n bytes)
body_of_first bytes n least = sym (ap (λ k. drop 8 (take k bytes)) (let e : n ≡ 8 + (n - 8) = omega (arith, least) in e) ∙ drop-take 8 (n - 8) bytes)

pub whole_record_read : (old new : MemoryIter) (header : PerfEventHeader) (bytes : List ℕ) (n : ℕ) → WholeRecordLength old.endian bytes (Some n) → header ≡ record_header_of (number_in old.endian) bytes → HasNoPendingHeader old.input → Consumed (memory_state old.source) (take n bytes) (memory_state new.source)
    → new.input ≡ old.input → new.endian ≡ old.endian → new.attribute_lookup ≡ old.attribute_lookup → new.stage ≡ old.stage → new.offset ≡ old.offset + n → new.offset < 2 ^ 64
    → new.round ≡ (if header.type_ == finished_round then old.round + 1 else old.round) → (header.type_ ≢ finished_round → new.body.items ≡ drop 8 (take n bytes)) → (header.type_ ≡ finished_round → new.body.items ≡ []) → RawRecordRead memory_state old header new
whole_record_read old new header bytes n whole is none consumes input endian lookup stage offset fits round body empty =
    let p = take n bytes in
    let long : length p ≡ n = length-take-le n bytes whole.1 in
    let least = record_least old.endian p whole.2 in
    record {
      raw_record = p;
      consumes = subst (λ i. Consumed (input_source_state old.input (memory_state old.source)) p (input_source_state i (memory_state new.source))) (sym input) (consumed_in old.input none (memory_state old.source) (memory_state new.source) p consumes);
      is_record = whole.2;
      record_type = sym (front_record_type old.endian n bytes whole) ∙ sym (ap (λ h. h.type_) is);
      misc = sym (ap (misc_of old.endian) (sym (take-append-drop n bytes)) ∙ misc_prefix old.endian p (drop n bytes) least) ∙ sym (ap (λ h. h.misc) is);
      offset = omega (arith, offset, long);
      offset_fits = fits;
      round = round;
      buffered_body = body;
      empty_if_marker = empty;
      same_input = record { same_endian = endian; section_size = ap section_size_in input };
      attribute_lookup = lookup;
      stage = stage;
      no_pending_header = subst HasNoPendingHeader (sym input) none;
    }

-- the bytes of the first record are consumed
pub first_consumed : (all bytes : List ℕ) (at n : ℕ) → bytes ≡ drop at all → n ≤ length bytes → Consumed (memory_source_at all at) (take n bytes) (memory_source_at all (at + n))
first_consumed all bytes at n is within = (buffered_from_cursor all (take n bytes) at n (length-take-le n bytes within) (ap (take n) is)).consumes
