-- Lemmas on the source locations in a debug info record.
use Rattle.std.proofs.Common.{◌≡◌, ℕ, zero, suc, ◌+◌, ◌<◌, ◌≤◌, ◌++◌, List, [], ◌∷◌, length, take, drop, refl, sym, ap, ◌∙◌, arith, append_assoc, length-append, length-drop, get_or}
use Rattle.std.proofs.lemmas.List.{drop-append-le, drop-drop, length-take-le, take-append-drop}
use Rattle.std.proofs.lemmas.Grind.{take_at_read}
use Rattle.std.proofs.Math.Seq.{drop-append_seam, take-append_seam}
use Rattle.perfdata_sources.specs.Endian.{number_in}
use Rattle.perfdata_sources.specs.Raw.{bytes_of}
use Rattle.perfdata_sources.specs.declared.endian.Endianness.{Endianness}
use Rattle.perfdata_jit.specs.JitRecords.{AreDebugEntries, IsDebugEntry, IsDebugInfo}
use Rattle.perfdata_jit.specs.declared.records.JitCodeDebugInfoEntry.{JitCodeDebugInfoEntry}
use Rattle.perfdata_jit.specs.declared.records.JitCodeDebugInfoRecord.{JitCodeDebugInfoRecord}
use Rattle.perfdata_arrays.specs.JitBodies.{IsBodyAt}
use Rattle.perfdata_arrays.specs.JitDebug.{HasPathsAt, after_debug_entry, debug_entries_at, debug_entry_at}
use Rattle.perfdata_arrays.specs.steps.JitDebug.{debug_end}
use Rattle.linux_perf_data.specs.RecordEntries.{with_prefix}
use Rattle.perfdata_arrays.specs.Overwrites.{with_entries_at}
use Rattle.perfdata_arrays.specs.declared.jit_debug.JitDebugEntry.{JitDebugEntry}
use Rattle.perfdata_arrays.proofs.OverwriteLemmas.{with_entries_at-with_prefix}

-- ---- offsets

debug_end-append : (offset : ℕ) (es fs : List JitCodeDebugInfoEntry) → debug_end offset (es ++ fs) ≡ debug_end (debug_end offset es) fs
debug_end-append offset [] fs = refl
debug_end-append offset (e ∷ es) fs = debug_end-append (after_debug_entry offset e) es fs

debug_end-least : (offset : ℕ) (es : List JitCodeDebugInfoEntry) → offset ≤ debug_end offset es
debug_end-least offset [] = omega arith
debug_end-least offset (e ∷ es) = (let more = debug_end-least (after_debug_entry offset e) es in omega (arith, more))

-- the end of a prefix isn't after the end of all
pub debug_end-prefix : (offset : ℕ) (all : List JitCodeDebugInfoEntry) (index : ℕ) → debug_end offset (take index all) ≤ debug_end offset all
debug_end-prefix offset all index =
    let e : debug_end offset all ≡ debug_end (debug_end offset (take index all)) (drop index all) = ap (debug_end offset) (sym (take-append-drop index all)) ∙ debug_end-append offset (take index all) (drop index all) in
    let least = debug_end-least (debug_end offset (take index all)) (drop index all) in
    omega (arith, e, least)

-- the next entry has sixteen bytes and more
pub debug_end-fits : (offset : ℕ) (all : List JitCodeDebugInfoEntry) (index : ℕ) → index < length all → debug_end offset (take index all) + 16 ≤ debug_end offset all
debug_end-fits offset [] index inside = absurd (omega (arith, inside))
debug_end-fits offset (e ∷ all) zero inside = (let least = debug_end-least (after_debug_entry offset e) all in omega (arith, least))
debug_end-fits offset (e ∷ all) (suc index) inside = debug_end-fits (after_debug_entry offset e) all index (omega (arith, inside))

-- the end of a prefix, one longer
debug_end-next : (offset : ℕ) (all : List JitCodeDebugInfoEntry) (index : ℕ) (d : JitCodeDebugInfoEntry) → index < length all → debug_end offset (take (index + 1) all) ≡ after_debug_entry (debug_end offset (take index all)) (get_or all index d)
debug_end-next offset all index d inside = ap (debug_end offset) ((take_at_read all index d inside).1) ∙ debug_end-append offset (take index all) (get_or all index d ∷ [])

-- ---- entries

debug_entries_at-snoc : (offset : ℕ) (es : List JitCodeDebugInfoEntry) (e : JitCodeDebugInfoEntry) → debug_entries_at offset (es ++ e ∷ []) ≡ debug_entries_at offset es ++ debug_entry_at (debug_end offset es) e ∷ []
debug_entries_at-snoc offset [] e = refl
debug_entries_at-snoc offset (f ∷ es) e = ap (λ l. debug_entry_at offset f ∷ l) (debug_entries_at-snoc (after_debug_entry offset f) es e)

length-debug_entries_at : (offset : ℕ) (es : List JitCodeDebugInfoEntry) → length (debug_entries_at offset es) ≡ length es
length-debug_entries_at offset [] = refl
length-debug_entries_at offset (e ∷ es) = ap (λ n. suc n) (length-debug_entries_at (after_debug_entry offset e) es)

module _ (all : List JitCodeDebugInfoEntry) (index first offset : ℕ) (entry : JitDebugEntry) (d : JitCodeDebugInfoEntry) (inside : index < length all) (end : offset ≡ debug_end first (take index all)) (is : entry ≡ debug_entry_at offset (get_or all index d)) where
  -- the end of an entry
  pub entry_end : entry.path_offset + entry.path_size + 1 ≡ debug_end first (take (index + 1) all)
  entry_end = (λ i. (is i).path_offset + (is i).path_size + 1) ∙ ap (λ n. after_debug_entry n (get_or all index d)) end ∙ sym (debug_end-next first all index d inside)

  -- one more entry is written
  pub entries_written : (old now new : List JitDebugEntry) → now ≡ with_prefix (debug_entries_at first (take index all)) old → new ≡ with_entries_at index (entry ∷ []) now → new ≡ with_prefix (debug_entries_at first (take (index + 1) all)) old
  entries_written old now new written copied =
      let es : List JitCodeDebugInfoEntry = take index all in
      let e : JitCodeDebugInfoEntry = get_or all index d in
      let long : index ≡ length (debug_entries_at first es) = sym (length-take-le index all (omega (arith, inside))) ∙ sym (length-debug_entries_at first es) in
      copied ∙ (λ i. with_entries_at (long i) (is i ∷ []) (written i)) ∙ with_entries_at-with_prefix (debug_entries_at first es) (debug_entry_at offset e ∷ []) old
      ∙ ap (λ n. with_prefix (debug_entries_at first es ++ debug_entry_at n e ∷ []) old) end ∙ ap (λ l. with_prefix l old) (sym (debug_entries_at-snoc first es e) ∙ ap (debug_entries_at first) (sym (take_at_read all index d inside).1))

-- ---- paths

module _ (number : ℕ → List ℕ → ℕ) where
  -- the bytes of an entry
  entry_long : (xs : List ℕ) (e : JitCodeDebugInfoEntry) (rest : List ℕ) → IsDebugEntry number xs e rest → length xs ≡ 16 + length (bytes_of e.file_path) + 1 + length rest
  entry_long xs e rest is =
      let path : List ℕ = bytes_of e.file_path in
      omega (arith, ap length is.path_text.split, length-append path (0 ∷ rest), length-drop 16 xs)

  -- the entries end within their bytes
  pub debug_end-within : (offset : ℕ) (xs : List ℕ) (es : List JitCodeDebugInfoEntry) (rest : List ℕ) → AreDebugEntries number xs es rest → debug_end offset es ≤ offset + length xs
  debug_end-within offset xs [] rest are = omega arith
  debug_end-within offset xs (e ∷ es) rest (after, is, more) =
      let within = debug_end-within (after_debug_entry offset e) after es rest more in
      omega (arith, within, entry_long xs e after is)

  paths_at : (bytes : List ℕ) (offset : ℕ) (xs tail : List ℕ) (es : List JitCodeDebugInfoEntry) (rest : List ℕ) → drop offset bytes ≡ xs ++ tail → AreDebugEntries number xs es rest → HasPathsAt bytes offset es
  paths_at bytes offset xs tail [] rest split are = tt
  paths_at bytes offset xs tail (e ∷ es) rest split (after, is, more) =
      let path : List ℕ = bytes_of e.file_path in
      let n : ℕ = length path in
      let at_path : drop (offset + 16) bytes ≡ path ++ ((0 ∷ after) ++ tail) =
      sym (drop-drop 16 offset bytes) ∙ ap (drop 16) split ∙ drop-append-le 16 xs tail (omega (arith, entry_long xs e after is)) ∙ ap (λ l. l ++ tail) is.path_text.split ∙ append_assoc path (0 ∷ after) tail in
      let at_next : drop (after_debug_entry offset e) bytes ≡ after ++ tail =
      ap (λ k. drop k bytes) (let k : after_debug_entry offset e ≡ (offset + 16 + n) + 1 = omega arith in k) ∙ sym (drop-drop 1 (offset + 16 + n) bytes)
      ∙ ap (drop 1) (sym (drop-drop n (offset + 16) bytes) ∙ ap (drop n) at_path ∙ drop-append_seam path ((0 ∷ after) ++ tail)) in
      (ap (take n) at_path ∙ take-append_seam path ((0 ∷ after) ++ tail), paths_at bytes (after_debug_entry offset e) after tail es rest at_next more)

-- the paths of debug info are at its offset
pub paths_of_body : (endian : Endianness) (bytes : List ℕ) (at record_type : ℕ) (body : List ℕ) (info : JitCodeDebugInfoRecord) → IsBodyAt endian bytes at record_type body → IsDebugInfo (number_in endian) body info → HasPathsAt bytes (at + 32) info.entries.items
paths_of_body endian bytes at record_type body info b is =
    let raw : List ℕ = b.raw in
    let rest : List ℕ = b.whole_record.rest in
    let least = is.min_len in
    let least_raw = b.whole_record.record_valid.min_size in
    let long : 32 ≤ length raw = omega (arith, least, least_raw, ap length b.body_is, length-drop 16 raw) in
    let tail : drop (at + 32) bytes ≡ drop 16 body ++ rest =
    sym (drop-drop 32 at bytes) ∙ ap (drop 32) b.whole_record.split ∙ drop-append-le 32 raw rest long ∙ ap (λ l. l ++ rest) (sym (drop-drop 16 16 raw) ∙ ap (drop 16) (sym b.body_is)) in
    paths_at (number_in endian) bytes (at + 32) (drop 16 body) rest info.entries.items is.after_body tail is.elements
