-- Lemmas on the header and the records of a jitdump.
use Rattle.std.proofs.Common.{◌≡◌, ℕ, zero, suc, ◌+◌, ◌-◌, ◌^◌, ◌<◌, ◌≤◌, ◌++◌, List, [], ◌∷◌, length, take, drop, refl, sym, ap, ◌∙◌, subst, arith, Ok, Some, append_assoc, length-append, length-drop}
use Rattle.std.specs.Prelude.{min, slice_set}
use Rattle.std.specs.List.{concat}
use Rattle.std.proofs.lemmas.List.{drop-append-le, drop-drop, take-append-drop, length-take-le, take_all}
use Rattle.std.proofs.Math.Seq.{drop-append-add, drop-append_seam, take-append_seam}
use Rattle.perfdata_sources.specs.Endian.{number_in}
use Rattle.perfdata_sources.specs.declared.endian.Endianness.{Endianness}
use Rattle.perfdata_jit.proofs.ConsecutiveRecords.{concat-snoc, records-snoc}
use Rattle.perfdata_jit.proofs.RecordHeaders.{header_front}
use Rattle.perfdata_jit.specs.RecordBytes.{record_header_at, IsOneRecord}
use Rattle.perfdata_sources.specs.Raw.{bytes_of}
use Rattle.perfdata_jit.specs.JitRecords.{IsLoad}
use Rattle.perfdata_jit.specs.declared.records.JitCodeLoadRecord.{JitCodeLoadRecord}
use Rattle.perfdata_jit.specs.JitHeader.{BeginsWithJitHeader, IsEndianOfMagic, IsJitHeader}
use Rattle.perfdata_jit.specs.declared.header.JitDumpHeader.{JitDumpHeader}
use Rattle.perfdata_jit.specs.declared.record.JitDumpRecordHeader.{JitDumpRecordHeader}
use Rattle.perfdata_arrays.specs.Jit.{FindsRecord, IsLoadAt, WritesJitRecords, HasWholeRecordAt, jit_entries, jit_entry}
use Rattle.linux_perf_data.specs.RecordEntries.{with_prefix}
use Rattle.perfdata_arrays.specs.declared.jit.JitRecord.{JitRecord}
use Rattle.linux_perf_data.proofs.EntryLemmas.{with_prefix-snoc}
use Rattle.perfdata_arrays.proofs.OverwriteLemmas.{take-drop-length}

take-prefix : (all prefix rest : List ℕ) (n : ℕ) → all ≡ prefix ++ rest → length prefix ≡ n → take n all ≡ prefix
take-prefix all prefix rest n is long = ap (take n) is ∙ ap (λ k. take k (prefix ++ rest)) (sym long) ∙ take-append_seam prefix rest

-- a prefix of a limited size is as long as the bytes allow
pub take-min : (n m : ℕ) (xs : List ℕ) → n ≡ min (length xs) m → take n xs ≡ take m xs
take-min n m [] is = (let none : n ≡ 0 = omega (arith, is) in ap (λ k. take k []) none ∙ sym (take_all m [] (omega arith)))
take-min zero zero (x ∷ xs) is = refl
take-min zero (suc m) (x ∷ xs) is = absurd (omega (arith, is))
take-min (suc n) zero (x ∷ xs) is = absurd (omega (arith, is))
take-min (suc n) (suc m) (x ∷ xs) is = ap (λ l. x ∷ l) (take-min n m xs (omega (arith, is)))

-- the byte order of a header's magic is that of the header
pub header_endian : (bytes : List ℕ) (h : JitDumpHeader) (endian : Endianness) → BeginsWithJitHeader bytes h → IsEndianOfMagic h.magic endian → IsJitHeader endian bytes h
header_endian bytes h endian b of_magic = subst (λ o. IsJitHeader o bytes h) (sym (of_magic.of_magic b.endian b.matches.magic)) b.matches

module _ (endian : Endianness) where
  -- the record header of a prefix is that of all bytes
  record_header-prefix : (xs : List ℕ) (size : ℕ) → 16 ≤ size → size ≤ length xs → record_header_at endian (take size xs) ≡ record_header_at endian xs
  record_header-prefix xs size least within = sym (header_front endian (take size xs) (drop size xs) (omega (arith, least, length-take-le size xs within))) ∙ ap (record_header_at endian) (take-append-drop size xs)

  -- ---- the record at an offset

  pub finds_whole : (bytes : List ℕ) (at : ℕ) (header : JitDumpRecordHeader) → header ≡ record_header_at endian (drop at bytes) → 16 ≤ header.total_size → header.total_size ≤ length (drop at bytes) → at ≤ length bytes → length bytes < 2 ^ 63
      → FindsRecord endian bytes at (Ok (Some (record { offset = at; timestamp = header.timestamp; record_type = header.record_type.0; size = header.total_size })))
  finds_whole bytes at header is least there within in_range =
      let xs : List ℕ = drop at bytes in
      let size : ℕ = header.total_size in
      let same : header ≡ record_header_at endian (take size xs) = is ∙ sym (record_header-prefix xs size least there) in
      let long : length (take size xs) ≡ size = length-take-le size xs there in (
        take size xs,
        record {
          rest = drop size xs;
          split = sym (take-append-drop size xs);
          record_valid = record {
            min_size = omega (arith, long, least);
            size = sym (ap (λ h. h.total_size) same) ∙ sym long;
            end_fits = omega (arith, long, there, within, in_range, length-drop at bytes);
          };
        },
        λ i. record {
          offset = at;
          timestamp = (ap (λ h. h.timestamp) same) i;
          record_type = (ap (λ h. h.record_type.0) same) i;
          size = (ap (λ h. h.total_size) same) i;
        },
      )

  -- ---- consecutive records

  jit_entries-snoc : (offset : ℕ) (raw_records : List (List ℕ)) (next : List ℕ) → jit_entries endian offset (raw_records ++ next ∷ []) ≡ jit_entries endian offset raw_records ++ jit_entry endian (offset + length (concat raw_records)) next ∷ []
  jit_entries-snoc offset [] next = ap (λ n. jit_entry endian n next ∷ []) (let e : offset ≡ offset + 0 = omega arith in e)
  jit_entries-snoc offset (raw ∷ raw_records) next =
      let sum : (offset + length raw) + length (concat raw_records) ≡ offset + length (raw ++ concat raw_records) = omega (arith, length-append raw (concat raw_records)) in
      ap (λ l. jit_entry endian offset raw ∷ l) (jit_entries-snoc (offset + length raw) raw_records next ∙ ap (λ n. jit_entries endian (offset + length raw) raw_records ++ jit_entry endian n next ∷ []) sum)

  length-jit_entries : (offset : ℕ) (raw_records : List (List ℕ)) → length (jit_entries endian offset raw_records) ≡ length raw_records
  length-jit_entries offset [] = refl
  length-jit_entries offset (raw ∷ raw_records) = ap (λ n. suc n) (length-jit_entries (offset + length raw) raw_records)

  pub writes_jit_records-snoc : (bytes : List ℕ) (from : ℕ) (raw_records : List (List ℕ)) (old : List JitRecord) (count next : ℕ) (new : List JitRecord) (raw : List ℕ) (r : JitRecord) → WritesJitRecords endian bytes from raw_records old count next new → count < length old
      → HasWholeRecordAt endian bytes next raw → r ≡ jit_entry endian next raw → WritesJitRecords endian bytes from (raw_records ++ raw ∷ []) old (count + 1) (next + r.size) (slice_set new count r)
  writes_jit_records-snoc bytes from raw_records old count next new raw r t fits found is =
      let all = concat-snoc raw_records raw in
      let size : r.size ≡ length raw = ap (λ e. e.size) is ∙ found.record_valid.size in
      let next_is = t.next_offset_is in
      let counted = t.counted in
      let rest_is : drop (next + r.size) bytes ≡ found.rest = ap (λ n. drop (next + n) bytes) size ∙ sym (drop-drop (length raw) next bytes) ∙ ap (drop (length raw)) found.split ∙ drop-append_seam raw found.rest in
      let entries : List JitRecord = jit_entries endian from raw_records in
      let long : length entries ≡ count = length-jit_entries from raw_records ∙ sym counted in
      record {
        counted = omega (arith, counted, length-append raw_records (raw ∷ []));
        next_offset_is = omega (arith, next_is, size, ap length all, length-append (concat raw_records) raw);
        split = t.split ∙ ap (λ l. concat raw_records ++ l) found.split ∙ sym (append_assoc (concat raw_records) raw found.rest) ∙ ap (λ l. l ++ found.rest) (sym all) ∙ ap (λ l. concat (raw_records ++ raw ∷ []) ++ l) (sym rest_is);
        elements = records-snoc endian from raw_records raw t.elements (subst (λ n. IsOneRecord endian n raw) next_is found.record_valid);
        within_capacity = omega (arith, counted, fits, length-append raw_records (raw ∷ []));
        written = ap (λ l. slice_set l count r) t.written ∙ ap (λ n. slice_set (with_prefix entries old) n r) (sym long) ∙ sym (with_prefix-snoc entries old r (omega (arith, long, fits)))
            ∙ ap (λ e. with_prefix (entries ++ e ∷ []) old) (is ∙ ap (λ n. jit_entry endian n raw) next_is) ∙ ap (λ l. with_prefix l old) (sym (jit_entries-snoc from raw_records raw));
      }

  -- ---- a load record

  -- its body is all that follows its record header
  pub body_bytes : (bytes : List ℕ) (at size : ℕ) (raw : List ℕ) → (s : HasWholeRecordAt endian bytes at raw) → size ≡ length raw
      → take (size - 16) (take (length bytes - (at + 16)) (drop (at + 16) bytes)) ≡ drop 16 raw
  body_bytes bytes at size raw s long =
      let least = s.record_valid.min_size in
      let rest_is : drop (at + 16) bytes ≡ drop 16 raw ++ s.rest = sym (drop-drop 16 at bytes) ∙ ap (drop 16) s.split ∙ drop-append-le 16 raw s.rest least in
      ap (take (size - 16)) (take-drop-length (at + 16) bytes ∙ rest_is) ∙ take-prefix (drop 16 raw ++ s.rest) (drop 16 raw) s.rest (size - 16) refl (omega (arith, long, length-drop 16 raw))

  pub is_load_at : (bytes : List ℕ) (at : ℕ) (raw : List ℕ) (load : JitCodeLoadRecord) → HasWholeRecordAt endian bytes at raw → (record_header_at endian raw).record_type.0 ≡ 0 → IsLoad (number_in endian) (drop 16 raw) load → IsLoadAt endian bytes at load
  is_load_at bytes at raw load s type_is is =
      let name : List ℕ = bytes_of load.function_name in
      let code : List ℕ = bytes_of load.code_bytes in
      let split : drop 40 (drop 16 raw) ≡ name ++ (0 ∷ (code ++ is.after_body)) = is.name_text.split in
      let long : 57 ≤ length raw = omega (arith, ap length split, length-append name (0 ∷ (code ++ is.after_body)), length-drop 40 (drop 16 raw), length-drop 16 raw) in
      let tail : drop (at + 56) bytes ≡ name ++ (0 ∷ ((code ++ is.after_body) ++ s.rest)) =
      sym (drop-drop 56 at bytes) ∙ ap (drop 56) s.split ∙ drop-append-le 56 raw s.rest (omega (arith, long))
      ∙ ap (λ l. l ++ s.rest) (sym (drop-drop 40 16 raw) ∙ split) ∙ append_assoc name (0 ∷ (code ++ is.after_body)) s.rest in
      let rest_is : drop (at + 57 + length name) bytes ≡ code ++ (is.after_body ++ s.rest) =
      ap (λ n. drop n bytes) (let e : at + 57 + length name ≡ (at + 56) + (length name + 1) = omega arith in e) ∙ sym (drop-drop (length name + 1) (at + 56) bytes)
      ∙ ap (drop (length name + 1)) tail ∙ drop-append-add name (0 ∷ ((code ++ is.after_body) ++ s.rest)) 1 ∙ append_assoc code is.after_body s.rest in
      record {
        raw = raw;
        whole_record = s;
        is_load = type_is;
        is = is;
        name_bytes_at = ap (take (length name)) tail ∙ take-append_seam name (0 ∷ ((code ++ is.after_body) ++ s.rest));
        code_bytes_at = ap (take (length code)) rest_is ∙ take-append_seam code (is.after_body ++ s.rest);
      }

  -- the end of its name is in bounds
  pub name_in_bounds : (bytes : List ℕ) (at : ℕ) (raw : List ℕ) (load : JitCodeLoadRecord) → HasWholeRecordAt endian bytes at raw → IsLoad (number_in endian) (drop 16 raw) load → at + 57 + length (bytes_of load.function_name) ≤ at + length raw
  name_in_bounds bytes at raw load s is =
      let name : List ℕ = bytes_of load.function_name in
      let rest : List ℕ = bytes_of load.code_bytes ++ is.after_body in
      omega (arith, ap length is.name_text.split, length-append name (0 ∷ rest), length-drop 40 (drop 16 raw), length-drop 16 raw)

  -- a record that was found lies within all bytes
  pub found_in_bounds : (bytes : List ℕ) (at : ℕ) (r : JitRecord) → FindsRecord endian bytes at (Ok (Some r)) → (r.offset ≡ at) × (16 ≤ r.size) × (at + r.size ≤ length bytes)
  found_in_bounds bytes at r (raw, s, is) =
      let size : r.size ≡ length raw = ap (λ e. e.size) is ∙ s.record_valid.size in
      let least = s.record_valid.min_size in (
        ap (λ e. e.offset) is,
        omega (arith, size, least),
        omega (arith, size, least, ap length s.split, length-append raw s.rest, length-drop at bytes),
      )
