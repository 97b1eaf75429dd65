-- Lemmas on the bodies of a jitdump's records.
use Rattle.std.proofs.Common.{◌≡◌, ℕ, ◌+◌, ◌-◌, ◌≤◌, ◌++◌, List, Ok, Some, length, take, drop, sym, ap, ◌∙◌, arith, append_assoc, length-drop}
use Rattle.std.proofs.lemmas.List.{drop-append-le, drop-drop, length-take}
use Rattle.std.proofs.Math.Seq.{drop-append_seam, take-append_seam}
use Rattle.perfdata_sources.specs.Endian.{number_in}
use Rattle.perfdata_sources.specs.Raw.{bytes_of}
use Rattle.perfdata_sources.specs.declared.endian.Endianness.{Endianness}
use Rattle.perfdata_jit.specs.JitRecords.{IsUnwinding}
use Rattle.perfdata_jit.specs.declared.records.JitCodeUnwindingInfoRecord.{JitCodeUnwindingInfoRecord}
use Rattle.perfdata_arrays.specs.Jit.{FindsRecord}
use Rattle.perfdata_arrays.specs.JitBodies.{IsBodyAt, IsUnwindingAt}
use Rattle.perfdata_arrays.specs.declared.jit.JitRecord.{JitRecord}
use Rattle.perfdata_arrays.proofs.JitLemmas.{body_bytes, found_in_bounds}
use Rattle.perfdata_arrays.proofs.OverwriteLemmas.{take-drop-length}

-- the bytes after the record header, up to the end of the record, are its body
pub body_is_after_header : (endian : Endianness) (bytes : List ℕ) (at : ℕ) (r : JitRecord) → (found : FindsRecord endian bytes at (Ok (Some r))) → take (r.size - 16) (drop (r.offset + 16) bytes) ≡ drop 16 found.0
body_is_after_header endian bytes at r (raw, s, is) =
    let size : r.size ≡ length raw = ap (λ e. e.size) is ∙ s.record_valid.size in
    ap (λ n. take (r.size - 16) (drop (n + 16) bytes)) (ap (λ e. e.offset) is) ∙ ap (take (r.size - 16)) (sym (take-drop-length (at + 16) bytes)) ∙ body_bytes endian bytes at r.size raw s size

-- the body ends within all bytes
pub body_in_bounds : (endian : Endianness) (bytes : List ℕ) (at : ℕ) (r : JitRecord) → FindsRecord endian bytes at (Ok (Some r)) → at + 16 + length (take (r.size - 16) (drop (r.offset + 16) bytes)) ≤ length bytes
body_in_bounds endian bytes at r found =
    let in_bounds = found_in_bounds endian bytes at r found in
    let offset_is = in_bounds.0 in
    let least = in_bounds.1 in
    let within = in_bounds.2 in
    omega (arith, offset_is, least, within, length-take (r.size - 16) (drop (r.offset + 16) bytes), length-drop (r.offset + 16) bytes)

-- the index and the data of unwinding info are at its offset
pub is_unwinding_at : (endian : Endianness) (bytes : List ℕ) (at record_type : ℕ) (body : List ℕ) (unwinding : JitCodeUnwindingInfoRecord) → IsBodyAt endian bytes at record_type body → IsUnwinding (number_in endian) body unwinding
    → IsUnwindingAt endian bytes at body unwinding
is_unwinding_at endian bytes at record_type body unwinding b is =
    let index : List ℕ = bytes_of unwinding.eh_frame_hdr in
    let frame : List ℕ = bytes_of unwinding.eh_frame in
    let raw : List ℕ = b.raw in
    let rest : List ℕ = b.whole_record.rest in
    let least = is.min_len in
    let least_raw = b.whole_record.record_valid.min_size in
    let long : 40 ≤ length raw = omega (arith, least, least_raw, ap length b.body_is, length-drop 16 raw) in
    let tail : drop (at + 40) bytes ≡ index ++ (frame ++ (is.after_body ++ rest)) =
    sym (drop-drop 40 at bytes) ∙ ap (drop 40) b.whole_record.split ∙ drop-append-le 40 raw rest long
    ∙ ap (λ l. l ++ rest) (sym (drop-drop 24 16 raw) ∙ ap (drop 24) (sym b.body_is) ∙ is.split) ∙ append_assoc index (frame ++ is.after_body) rest
    ∙ ap (λ l. index ++ l) (append_assoc frame is.after_body rest) in
    let rest_is : drop (at + 40 + length index) bytes ≡ frame ++ (is.after_body ++ rest) =
    sym (drop-drop (length index) (at + 40) bytes) ∙ ap (drop (length index)) tail ∙ drop-append_seam index (frame ++ (is.after_body ++ rest)) in
    record {
      is = is;
      eh_frame_hdr_at = ap (take (length index)) tail ∙ take-append_seam index (frame ++ (is.after_body ++ rest));
      eh_frame_at = ap (take (length frame)) rest_is ∙ take-append_seam frame (is.after_body ++ rest);
    }
