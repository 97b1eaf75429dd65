-- The result of a listing of a jitdump's records.
use Rattle.std.proofs.Common.{◌≡◌, ℕ, ◌+◌, ◌<◌, ◌≤◌, ◌⊎◌, ◌++◌, false, List, [], ◌∷◌, length, take, drop, refl, sym, ap, ◌∙◌, subst, append_assoc, arith, inl, inr, Option, None, Some, Result, Ok, Err, length-append}
use Rattle.std.specs.Prelude.{IfSome, suc, true}
use Rattle.std.specs.Option.{option_map}
use Rattle.std.specs.List.{concat}
use Rattle.std.proofs.lemmas.List.{append-nil, length-take-le}
use Rattle.std.proofs.Math.Seq.{drop-append_seam}
use Rattle.std.specs.Io.KnownBytes.{Appends, Keeps}
use Rattle.std.proofs.KnownBytes.{Appends-trans, Appends-nil, Appends-kept}
use Rattle.perfdata_sources.specs.Source.{State, prepend, SourcePaused}
use Rattle.perfdata_sources.proofs.ConsumedLemmas.{consumed_none, consumed_more, consumed_none_later, failed_later, paused_later, prepend_more, prepend_none}
use Rattle.perfdata_sources.proofs.ReadErrors.{none_or_paused}
use Rattle.perfdata_sources.specs.declared.endian.Endianness.{Endianness}
use Rattle.perfdata_jit.specs.JitHeader.{IsJitHeader}
use Rattle.perfdata_jit.specs.RecordBytes.{record_header_at, record_size_at, AreRecords, HasInvalidSize, IsOneRecord, IsRecordOf, HasNoWholeRecord}
use Rattle.perfdata_jit.specs.BufferedReader.{IsOverflowAllocError}
use Rattle.perfdata_jit.specs.JitDumpReader.{jit_unread_bytes, jit_header, jit_buffered, jit_seek_failed, jit_offset, jit_endian, jit_ring_capacity, jit_source_state, ReturnsJitRecord, ReaderOpened, NextJitRecordError, KeepsPosition, RecordNotReady}
use Rattle.perfdata_jit.specs.declared.header.JitDumpHeader.{JitDumpHeader}
use Rattle.perfdata_jit.specs.declared.jitdump_reader.JitDumpReader.{JitDumpReader}
use Rattle.perfdata_jit.specs.declared.record.JitDumpRawRecord.{JitDumpRawRecord}
use Rattle.perfdata_jit.proofs.ConsecutiveRecords.{concat-snoc, records-snoc}
use Rattle.perfdata_jit.proofs.JitHeaders.{header_longer}
use Rattle.std.specs.declared.io.Error.{Error}
use Rattle.std.specs.IoError.{error_kind}
use Rattle.std.specs.declared.io.ErrorKind.TheVariants.{OutOfMemory}
use Rattle.std.proofs.lemmas.Bool.{false≢true}
use Rattle.perfdata_listing_lines.specs.ListingLine.{jit_record_text}
use Rattle.perfdata_listing_lines.specs.Output.{AppendsPrefix, newline_count}
use Rattle.perfdata_listing.proofs.NewlineCounts.{newline_count-append, newline_count-jit_record_text}
use Rattle.perfdata_listing.specs.declared.list.ListFault.{ListFault}
use Rattle.perfdata_listing.specs.declared.list.ListCause.{ListCause}
use Rattle.perfdata_listing.specs.declared.list.ListCause.TheVariants.{Perf, Jit, Read, Write}
use Rattle.perfdata_listing.specs.JitListing.{CalledFlushed, CallsFlushed, jit_line, jit_lines, EndsWithoutWholeRecord, WroteJitPrefix, BeginsWithJitRecords, JitReadError, ListsNextJit, ListsJit, ListsLiveJit, JitListingFails}
use Rattle.perfdata_listing_lines.specs.ListingLine.{raw_record_text}
use Rattle.perfdata_listing.specs.steps.JitListing.{ReturnedJitRecords, ListedJitRecordsUntilFlushError, ListedJitRecords, ListedJitRecordsUntilError, ListedJitRecordsPartOfNext, ListsJitRecords, ListsLiveJitRecords, JitRecordListingFails}

module _ (endian : Endianness) where
  -- one more line
  pub jit_lines-snoc : (offset : ℕ) (raw_records : List (List ℕ)) (next : List ℕ) → jit_lines endian offset (raw_records ++ next ∷ []) ≡ jit_lines endian offset raw_records ++ jit_line endian (offset + length (concat raw_records)) next
  jit_lines-snoc offset [] next = append-nil (jit_line endian offset next) ∙ ap (λ n. jit_line endian n next) (let e : offset ≡ offset + 0 = omega arith in e)
  jit_lines-snoc offset (raw ∷ raw_records) next =
      let sum : (offset + length raw) + length (concat raw_records) ≡ offset + length (raw ++ concat raw_records) = omega (arith, length-append raw (concat raw_records)) in
      ap (λ l. jit_line endian offset raw ++ l) (jit_lines-snoc (offset + length raw) raw_records next)
      ∙ sym (append_assoc (jit_line endian offset raw) (jit_lines endian (offset + length raw) raw_records) (jit_line endian ((offset + length raw) + length (concat raw_records)) next))
      ∙ ap (λ n. (jit_line endian offset raw ++ jit_lines endian (offset + length raw) raw_records) ++ jit_line endian n next) sum

  -- the line of a record is the line of its bytes
  pub raw_record_text-jit_line : (offset : ℕ) (raw : List ℕ) (r : JitDumpRawRecord) → IsRecordOf endian offset raw r → raw_record_text r ≡ jit_line endian offset raw
  raw_record_text-jit_line offset raw r is =
      let start = is.start_offset in
      let time_is = is.timestamp in
      let type_is = is.record_type in
      let size = is.record_size ∙ sym is.record_bytes_valid.size in
      ap (λ n. jit_record_text n r.timestamp r.record_type.0 r.record_size) start ∙ ap (λ n. jit_record_text offset n r.record_type.0 r.record_size) time_is
      ∙ ap (λ t. jit_record_text offset (record_header_at endian raw).timestamp t.0 r.record_size) type_is ∙ ap (λ n. jit_record_text offset (record_header_at endian raw).timestamp (record_header_at endian raw).record_type.0 n) size

-- the lines of jitdump records contain one newline for each record
pub newline_count-jit_lines : (endian : Endianness) (offset : ℕ) (raw_records : List (List ℕ)) → newline_count (jit_lines endian offset raw_records) ≡ length raw_records
newline_count-jit_lines endian offset [] = refl
newline_count-jit_lines endian offset (raw ∷ raw_records) =
    let one = newline_count-jit_record_text offset (record_header_at endian raw).timestamp (record_header_at endian raw).record_type.0 (record_header_at endian raw).total_size in
    newline_count-append (jit_line endian offset raw) (jit_lines endian (offset + length raw) raw_records) ∙ omega (arith, one, newline_count-jit_lines endian (offset + length raw) raw_records)

-- the bytes after a prefix
drop-prepend : (n : ℕ) (prefix : List ℕ) (rest : Option (List ℕ)) → n ≡ length prefix → option_map (λ all. drop n all) (prepend prefix rest) ≡ rest
drop-prepend n prefix None long = refl
drop-prepend n prefix (Some rest) long = ap (λ l. Some l) (ap (λ k. drop k (prefix ++ rest)) long ∙ drop-append_seam prefix rest)

has_header-prepend : (endian : Endianness) (prefix : List ℕ) (header : JitDumpHeader) (rest : Option (List ℕ)) → IsJitHeader endian prefix header → IfSome (prepend prefix rest) (λ all. IsJitHeader endian all header)
has_header-prepend endian prefix header None is = tt
has_header-prepend endian prefix header (Some rest) is = header_longer endian prefix rest header is

module _ {R : Type 0} (state : R → State) where
  -- the unread bytes are those buffered, followed by the remaining bytes of the source
  unread_bytes-split : (j : JitDumpReader R) → jit_unread_bytes state j ≡ prepend (jit_buffered j) (jit_source_state state j).bytes
  unread_bytes-split j = prepend_more _ _ _

  pub returned-none : (j : JitDumpReader R) → jit_seek_failed j ≡ false → ReturnedJitRecords state j [] j
  returned-none j seek_ok = record {
    elements = tt;
    unread_bytes = prepend_none (jit_unread_bytes state j);
    offset = omega arith;
    same_endian = refl;
    same_capacity = refl;
    consumed_bytes = [];
    consumes = consumed_none (jit_source_state state j);
    seek_ok = seek_ok;
  }

  -- one more record is returned
  pub returned-snoc : (old mid new : JitDumpReader R) (raw_records : List (List ℕ)) (r : JitDumpRawRecord) → ReturnedJitRecords state old raw_records mid → (h : ReturnsJitRecord state mid r new) → ReturnedJitRecords state old (raw_records ++ h.bytes ∷ []) new
  returned-snoc old mid new raw_records r had h =
      let all = concat-snoc raw_records h.bytes in
      let one : IsOneRecord (jit_endian old) (jit_offset old + length (concat raw_records)) h.bytes = subst (λ o. IsOneRecord o (jit_offset old + length (concat raw_records)) h.bytes) had.same_endian (subst (λ n. IsOneRecord (jit_endian mid) n h.bytes) had.offset h.matches.record_bytes_valid) in
      record {
        elements = records-snoc (jit_endian old) (jit_offset old) raw_records h.bytes had.elements one;
        unread_bytes = had.unread_bytes ∙ ap (prepend (concat raw_records)) h.unread_bytes ∙ prepend_more (concat raw_records) h.bytes (jit_unread_bytes state new) ∙ ap (λ l. prepend l (jit_unread_bytes state new)) (sym all);
        offset = let a = had.offset in let b = h.offset in omega (arith, a, b, ap length all, length-append (concat raw_records) h.bytes);
        same_endian = h.same_setup.same_endian ∙ had.same_endian;
        same_capacity = h.same_setup.ring_capacity ∙ had.same_capacity;
        consumed_bytes = had.consumed_bytes ++ h.consumed_bytes;
        consumes = consumed_more (jit_source_state state old) (jit_source_state state mid) (jit_source_state state new) had.consumed_bytes h.consumed_bytes had.consumes h.consumes;
        seek_ok = h.seek_ok_after;
      }

  -- the line of the additional record
  pub next_line_is : (old mid new : JitDumpReader R) (raw_records : List (List ℕ)) (r : JitDumpRawRecord) → ReturnedJitRecords state old raw_records mid → (h : ReturnsJitRecord state mid r new) → raw_record_text r ≡ jit_line (jit_endian old) (jit_offset old + length (concat raw_records)) h.bytes
  next_line_is old mid new raw_records r had h = raw_record_text-jit_line (jit_endian mid) (jit_offset mid) h.bytes r h.matches ∙ (λ i. jit_line (had.same_endian i) (had.offset i) h.bytes)

  -- no record is returned, and no byte is lost
  pub returned-unchanged : (old mid new : JitDumpReader R) (raw_records : List (List ℕ)) → ReturnedJitRecords state old raw_records mid → KeepsPosition state mid new → ReturnedJitRecords state old raw_records new
  returned-unchanged old mid new raw_records had keeps_position = record {
    elements = had.elements;
    unread_bytes = had.unread_bytes ∙ ap (prepend (concat raw_records)) keeps_position.unread_bytes;
    offset = keeps_position.offset ∙ had.offset;
    same_endian = keeps_position.same_setup.same_endian ∙ had.same_endian;
    same_capacity = keeps_position.same_setup.ring_capacity ∙ had.same_capacity;
    consumed_bytes = had.consumed_bytes ++ keeps_position.consumed_bytes;
    consumes = consumed_more (jit_source_state state old) (jit_source_state state mid) (jit_source_state state new) had.consumed_bytes keeps_position.consumed_bytes had.consumes keeps_position.consumes;
    seek_ok = keeps_position.seek_ok_after;
  }

  -- the read of the next record fails
  pub read_error_ends : (old mid new : JitDumpReader R) (raw_records : List (List ℕ)) (e : Error) → 16 ≤ jit_ring_capacity old → ReturnedJitRecords state old raw_records mid → NextJitRecordError state mid e new
      → ReturnedJitRecords state old raw_records new × JitReadError (jit_source_state state old) (jit_ring_capacity old) (jit_endian new) (jit_offset new) (jit_buffered new) e (jit_source_state state new)
  read_error_ends old mid new raw_records e ring_fits had (inl size) =
      let keeps_position = size.keeps_position in (
        returned-unchanged old mid new raw_records had keeps_position,
        inl (
          subst (λ o. HasInvalidSize o (jit_offset new) (jit_buffered new)) (sym keeps_position.same_setup.same_endian) (subst (λ n. HasInvalidSize (jit_endian mid) n (jit_buffered new)) (sym keeps_position.offset) size.invalid_size),
          size.kind,
        ),
      )
  read_error_ends old mid new raw_records e ring_fits had (inr (inl part)) =
      let keeps_position = part.keeps_position in (
        returned-unchanged old mid new raw_records had keeps_position,
        inr (
          subst (λ o. HasNoWholeRecord o (jit_offset new) (jit_buffered new)) (sym keeps_position.same_setup.same_endian) (subst (λ n. HasNoWholeRecord (jit_endian mid) n (jit_buffered new)) (sym keeps_position.offset) part.no_whole_record),
          elim part.cause [
            | inl failed ↦ inl (failed_later (jit_source_state state old) (jit_source_state state mid) (jit_source_state state new) had.consumed_bytes had.consumes failed)
            | inr memory ↦
                let count : ℕ = memory.0 in
                let full : IsOverflowAllocError (jit_ring_capacity mid) count e = memory.2 in
                let long = full.exceeds_ring in
                let same = had.same_capacity in
                elim memory.1 [
                  | inl header ↦ absurd (omega (arith, long, same, header.0, ring_fits))
                  | inr body ↦ inr (body.1, omega (arith, long, same, body.0, ap (λ o. record_size_at o (jit_buffered new)) keeps_position.same_setup.same_endian), full.kind)
                ]
          ],
        ),
      )
  read_error_ends old mid new raw_records e ring_fits had (inr (inr failed_seek)) = absurd (false≢true (sym had.seek_ok ∙ failed_seek.seek_failed))

  -- a proper prefix of the next record's line is written
  pub wrote_prefix : (endian : Endianness) (offset : ℕ) (a b c : Option (List ℕ)) (raw_records : List (List ℕ)) (next line : List ℕ) → line ≡ jit_line endian (offset + length (concat raw_records)) next
      → Appends a b (jit_lines endian offset raw_records) → AppendsPrefix b c line → WroteJitPrefix endian offset a c raw_records next
  wrote_prefix endian offset a b c raw_records next line is before prefix = record {
    count = prefix.count;
    is_partial = subst (λ l. prefix.count < length l) is prefix.is_partial;
    appends = subst (λ l. Appends a c (jit_lines endian offset raw_records ++ take prefix.count l)) is (Appends-trans a b c _ _ before prefix.appends);
  }

  -- the listing so far
  abbrev pub SoFar : JitDumpReader R → Option (List ℕ) → ℕ → Option (List ℕ) → JitDumpReader R → Type 0
  SoFar old before lines after now = (raw_records : List (List ℕ)) × (lines ≡ length raw_records) × Appends before after (jit_lines (jit_endian old) (jit_offset old) raw_records) × ReturnedJitRecords state old raw_records now

  pub so_far_none : (j : JitDumpReader R) (out : Option (List ℕ)) → jit_seek_failed j ≡ false → SoFar j out 0 out j
  so_far_none j out seek_ok = ([], refl, Appends-nil out, returned-none j seek_ok)

  pub so_far_kept : {old now new : JitDumpReader R} {lines : ℕ} → (before mid after : Option (List ℕ)) → SoFar old before lines mid now → KeepsPosition state now new → Keeps mid after → SoFar old before lines after new
  so_far_kept {old} {now} {new} before mid after all keeps_position kept = (all.0, all.1, Appends-kept before mid after _ all.2 kept, returned-unchanged old now new all.0 all.3 keeps_position)

  pub so_far_more : {old mid new : JitDumpReader R} {lines : ℕ} → (before out after : Option (List ℕ)) → SoFar old before lines out mid
      → (step : (r : JitDumpRawRecord) × ReturnsJitRecord state mid r new × Appends out after (raw_record_text r)) → SoFar old before (lines + 1) after new
  so_far_more {old} {mid} {new} {lines} before out after all (r, h, wrote) =
      let raw_records : List (List ℕ) = all.0 in (
        raw_records ++ h.bytes ∷ [],
        (let n = all.1 in omega (arith, n, length-append raw_records (h.bytes ∷ []))),
        subst (Appends before after) (ap (λ l. jit_lines (jit_endian old) (jit_offset old) raw_records ++ l) (next_line_is old mid new raw_records r all.3 h) ∙ sym (jit_lines-snoc (jit_endian old) (jit_offset old) raw_records h.bytes)) (Appends-trans before out after _ _ all.2 wrote),
        returned-snoc old mid new raw_records r all.3 h,
      )

  pub listed_part_of_next : {old mid new : JitDumpReader R} {lines : ℕ} → (before out after : Option (List ℕ)) → SoFar old before lines out mid
      → (step : (r : JitDumpRawRecord) × ReturnsJitRecord state mid r new × AppendsPrefix out after (raw_record_text r)) → ListedJitRecordsPartOfNext state old before after lines new
  listed_part_of_next {old} {mid} {new} {lines} before out after all (r, h, wrote) = record {
    raw_records = all.0;
    next = h.bytes;
    count = all.1;
    wrote = wrote_prefix (jit_endian old) (jit_offset old) before out after all.0 h.bytes (raw_record_text r) (next_line_is old mid new all.0 r all.3 h) all.2 wrote;
    returned = returned-snoc old mid new all.0 r all.3 h;
  }

  pub listed_all : {old mid new : JitDumpReader R} {lines : ℕ} → (before out after : Option (List ℕ)) → SoFar old before lines out mid → RecordNotReady state mid new × Keeps out after → ListedJitRecords state old before after lines new
  listed_all {old} {mid} {new} {lines} before out after all (not_ready, kept) =
      let keeps_position = not_ready.keeps_position in
      let had : ReturnedJitRecords state old all.0 mid = all.3 in
      record {
        raw_records = all.0;
        count = all.1;
        appends = Appends-kept before out after _ all.2 kept;
        returned = returned-unchanged old mid new all.0 had keeps_position;
        no_whole_record = subst (λ o. HasNoWholeRecord o (jit_offset new) (jit_buffered new)) (sym keeps_position.same_setup.same_endian) (subst (λ n. HasNoWholeRecord (jit_endian mid) n (jit_buffered new)) (sym keeps_position.offset) not_ready.no_whole_record);
        ended_or_paused = consumed_none_later (jit_source_state state old) (jit_source_state state mid) (jit_source_state state new) had.consumed_bytes had.consumes not_ready.ended_or_paused;
      }

  pub listed_until_error : {old mid new : JitDumpReader R} {lines : ℕ} {e : Error} → (before out after : Option (List ℕ)) → 16 ≤ jit_ring_capacity old → SoFar old before lines out mid → NextJitRecordError state mid e new × Keeps out after → ListedJitRecordsUntilError state old before after lines e new
  listed_until_error {old} {mid} {new} {lines} {e} before out after ring_fits all (failed, kept) =
      let both = read_error_ends old mid new all.0 e ring_fits all.3 failed in
      record {
        raw_records = all.0;
        count = all.1;
        appends = Appends-kept before out after _ all.2 kept;
        returned = both.0;
        cause = both.1;
      }

  pub listed_until_flush_error : {old now new : JitDumpReader R} {lines : ℕ} → (before mid after : Option (List ℕ)) → SoFar old before lines mid now → KeepsPosition state now new → Keeps mid after → ListedJitRecordsUntilFlushError state old before after lines new
  listed_until_flush_error {old} {now} {new} before mid after all keeps_position kept = record {
    raw_records = all.0;
    count = all.1;
    appends = Appends-kept before mid after _ all.2 kept;
    returned = returned-unchanged old now new all.0 all.3 keeps_position;
  }

  pub records_listing_fails : {old mid : JitDumpReader R} {lines : ℕ} → (before out after : Option (List ℕ)) (new : JitDumpReader R) (cause : ListCause) → 16 ≤ jit_ring_capacity old → SoFar old before lines out mid → ListsNextJit state mid out (Err cause) after new → JitRecordListingFails state old before after lines cause new
  records_listing_fails before out after new (Read e) ring_fits all step = listed_until_error before out after ring_fits all step
  records_listing_fails before out after new (Write e) ring_fits all step = listed_part_of_next before out after all step
  records_listing_fails before out after new (Perf e) ring_fits all step = elim step [ ]
  records_listing_fails before out after new (Jit e) ring_fits all step = elim step [ ]

  module _ (source : R) (size : ℕ) (j : JitDumpReader R) (o : ReaderOpened state source size j) where
    header_fits : jit_offset j ≤ length o.prefix_bytes
    header_fits = let there = o.header.complete in let is = o.offset in omega (arith, there, is)

    has_first : (new : JitDumpReader R) (raw_records : List (List ℕ)) → ReturnedJitRecords state j raw_records new → BeginsWithJitRecords (state source).bytes (jit_endian j) (jit_header j) raw_records (jit_unread_bytes state new)
    has_first new raw_records had = record {
      has_header = subst (λ b. IfSome b (λ all. IsJitHeader (jit_endian j) all (jit_header j))) (sym o.reads.consumes.bytes) (has_header-prepend (jit_endian j) o.prefix_bytes (jit_header j) (jit_source_state state j).bytes o.header);
      split = ap (λ b. option_map (λ all. drop (jit_header j).total_size all) b) o.unread_bytes
          ∙ drop-prepend (jit_header j).total_size (take (jit_offset j) o.prefix_bytes) (jit_unread_bytes state j) (sym o.offset ∙ sym (length-take-le (jit_offset j) o.prefix_bytes header_fits)) ∙ had.unread_bytes;
      elements = subst (λ n. AreRecords (jit_endian j) n raw_records) o.offset had.elements;
    }

    -- the offset of the next record
    next_offset : (new : JitDumpReader R) (raw_records : List (List ℕ)) → ReturnedJitRecords state j raw_records new → jit_offset new ≡ (jit_header j).total_size + length (concat raw_records)
    next_offset new raw_records had = had.offset ∙ ap (λ n. n + length (concat raw_records)) o.offset

    ends_without_record : (endian : Endianness) (offset : ℕ) (buffered : List ℕ) (new : State) → HasNoWholeRecord endian offset buffered → (new.bytes ≡ Some []) ⊎ SourcePaused (jit_source_state state j) new
        → EndsWithoutWholeRecord endian offset (prepend buffered new.bytes) ⊎ SourcePaused (state source) new
    ends_without_record endian offset buffered new nothing (inl none) = inl (record { rest = buffered ++ []; matches = ap (prepend buffered) none; no_whole_record = subst (HasNoWholeRecord endian offset) (sym (append-nil buffered)) nothing })
    ends_without_record endian offset buffered new nothing (inr paused) = inr (paused_later (state source) (jit_source_state state j) new o.prefix_bytes o.reads.consumes paused)

    source_error_later : (offset : ℕ) (endian : Endianness) (buffered : List ℕ) (e : Error) (last : State) → JitReadError (jit_source_state state j) (jit_ring_capacity j) endian offset buffered e last → JitReadError (state source) size endian offset buffered e last
    source_error_later offset endian buffered e last (inl invalid) = inl invalid
    source_error_later offset endian buffered e last (inr (nothing, inl failed)) = inr (nothing, inl (failed_later (state source) (jit_source_state state j) last o.prefix_bytes o.reads.consumes failed))
    source_error_later offset endian buffered e last (inr (nothing, inr memory)) = inr (nothing, inr (subst (λ n. (16 ≤ length buffered) × (n + 16 < record_size_at endian buffered) × (error_kind e ≡ OutOfMemory)) o.buffer memory))

    jit_listing_fails : (new : JitDumpReader R) (before after : Option (List ℕ)) (lines : ℕ) (cause : ListCause) → JitRecordListingFails state j before after lines cause new → JitListingFails state source size before after lines cause
    jit_listing_fails new before after lines (Read e) listed =
        let had = listed.returned in
        record {
          endian = jit_endian j;
          header = jit_header j;
          raw_records = listed.raw_records;
          buffered = jit_buffered new;
          source_after = jit_source_state state new;
          count = listed.count;
          appends = subst (λ n. Appends before after (jit_lines (jit_endian j) n listed.raw_records)) o.offset listed.appends;
          first = subst (BeginsWithJitRecords (state source).bytes (jit_endian j) (jit_header j) listed.raw_records) (unread_bytes-split new) (has_first new listed.raw_records had);
          cause = subst (λ n. JitReadError (state source) size (jit_endian j) n (jit_buffered new) e (jit_source_state state new)) (next_offset new listed.raw_records had)
              (subst (λ q. JitReadError (state source) size q (jit_offset new) (jit_buffered new) e (jit_source_state state new)) had.same_endian (source_error_later (jit_offset new) (jit_endian new) (jit_buffered new) e (jit_source_state state new) listed.cause));
        }
    jit_listing_fails new before after lines (Write e) listed = record {
      endian = jit_endian j;
      header = jit_header j;
      raw_records = listed.raw_records;
      next = listed.next;
      rest = jit_unread_bytes state new;
      count = listed.count;
      wrote = subst (λ n. WroteJitPrefix (jit_endian j) n before after listed.raw_records listed.next) o.offset listed.wrote;
      first = has_first new (listed.raw_records ++ listed.next ∷ []) listed.returned;
    }
    jit_listing_fails new before after lines (Perf e) listed = elim listed [ ]
    jit_listing_fails new before after lines (Jit e) listed = elim listed [ ]

    -- a file is opened, and its records are listed
    pub lists_jit : (new : JitDumpReader R) (before after : Option (List ℕ)) (r : Result ℕ ListFault) → ListsJitRecords state j before r after new → ListsJit state source size before r after
    lists_jit new before after (Ok lines) listed =
        let had = listed.returned in
        record {
          endian = jit_endian j;
          header = jit_header j;
          raw_records = listed.raw_records;
          rest = prepend (jit_buffered new) (jit_source_state state new).bytes;
          count = listed.count;
          appends = subst (λ n. Appends before after (jit_lines (jit_endian j) n listed.raw_records)) o.offset listed.appends;
          first = subst (BeginsWithJitRecords (state source).bytes (jit_endian j) (jit_header j) listed.raw_records) (unread_bytes-split new) (has_first new listed.raw_records had);
          source_after = jit_source_state state new;
          ends = ends_without_record (jit_endian j) ((jit_header j).total_size + length (concat listed.raw_records)) (jit_buffered new) (jit_source_state state new)
              (subst (λ n. HasNoWholeRecord (jit_endian j) n (jit_buffered new)) (next_offset new listed.raw_records had) (subst (λ q. HasNoWholeRecord q (jit_offset new) (jit_buffered new)) had.same_endian listed.no_whole_record))
              (none_or_paused (jit_source_state state j) (jit_source_state state new) listed.ended_or_paused);
        }
    lists_jit new before after (Err error) listed = jit_listing_fails new before after error.lines error.cause listed

    -- a file is opened, and its records are listed live
    pub live_jit : (new : JitDumpReader R) (before after : Option (List ℕ)) (r : Result ℕ ListFault) → ListsLiveJitRecords state j before r after new → ListsLiveJit state source size before r after
    live_jit new before after (Ok lines) listed = lists_jit new before after (Ok lines) listed
    live_jit new before after (Err error) (inl stops) = inl (jit_listing_fails new before after error.lines error.cause stops)
    live_jit new before after (Err error) (inr (failed, listed)) = inr (
      failed,
      record {
        endian = jit_endian j;
        header = jit_header j;
        raw_records = listed.raw_records;
        rest = jit_unread_bytes state new;
        count = listed.count;
        appends = subst (λ n. Appends before after (jit_lines (jit_endian j) n listed.raw_records)) o.offset listed.appends;
        first = has_first new listed.raw_records listed.returned;
      },
    )

-- one more call for a record, with no byte pending if it may block
module _ {R W : Type 0} (state : R → State) (pending : W → List ℕ) (contents : W → Option (List ℕ)) where
  pub more_flushed : (count : ℕ) (old : JitDumpReader R) (before : W) {last new : JitDumpReader R} {last_out after : W} → CallsFlushed state pending contents count old before last_out last
      → CalledFlushed state pending contents last last_out (Ok true) after new → CallsFlushed state pending contents (count + 1) old before after new
  more_flushed count old before {last} {new} {last_out} {after} calls call =
      let next : suc count ≡ count + 1 = omega arith in
      subst (λ n. CallsFlushed state pending contents n old before after new) next (last, last_out, calls, call)
