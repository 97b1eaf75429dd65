-- A reader of a file in memory that is moved to a position.
use Rattle.std.proofs.Common.{◌≡◌, ℕ, ◌+◌, ◌-◌, ◌^◌, ◌<◌, List, drop, length, sym, ap, ◌∙◌, subst, arith, inl, inr, Some, Ok}
use Rattle.std.specs.Prelude.{min}
use Rattle.std.proofs.lemmas.Bool.{cases_eq}
use Rattle.std.proofs.lemmas.List.{drop-drop}
use Rattle.std.proofs.Math.ListN.{drop_of_length-le}
use Rattle.std.specs.Borrow.{Bor}
use Rattle.std.specs.Io.Cursor.{cursor_inner, cursor_position}
use Rattle.std.specs.declared.io.impls.Cursor.{Cursor}
use Rattle.perfdata_sources.specs.Source.{at_start}
use Rattle.linux_perf_data.specs.declared.in_memory.InMemoryReader.{InMemoryReader}
use Rattle.linux_perf_data.specs.declared.in_memory.position.RecordPosition.{RecordPosition}
use Rattle.linux_perf_data.specs.AttributeLookup.{Represents}
use Rattle.linux_perf_data.specs.InMemory.{memory_state, MemoryIter}
use Rattle.linux_perf_data.specs.RecordInput.{input_source_state, section_size_in}
use Rattle.linux_perf_data.specs.InMemoryPositions.{FileParsedAt, round_at}
use Rattle.linux_perf_data.specs.InMemoryReading.{ParsesFileInMemory, first_record_offset_of, input_of}
use Rattle.linux_perf_data.specs.Iter.{iter_source_state}
use Rattle.linux_perf_data.specs.OpenedFile.{FileOpensAt}
use Rattle.linux_perf_data.specs.PerfFile.{attributes_of_file}
use Rattle.linux_perf_data.proofs.InMemoryPlaces.{file_bytes, section_view}

-- the bytes from a position on, where the position of a cursor has a limit
saturated : (bytes : List ℕ) (sum at : ℕ) → length bytes < 2 ^ 63 → at ≡ min sum (2 ^ 64 - 1) → drop at bytes ≡ drop sum bytes
saturated bytes sum at small is = elim (cases_eq at sum) [
  | inl same ↦ ap (λ n. drop n bytes) same
  | inr other ↦ drop_of_length-le bytes {i = at} (omega (arith, small, is, other)) ∙ sym (drop_of_length-le bytes {i = sum} (omega (arith, small, is, other)))
]

module _ (bytes : List ℕ) (reader : InMemoryReader) (opened : ParsesFileInMemory bytes (Ok reader)) where
  abbrev opens : FileOpensAt memory_state (at_start bytes) reader.perf_file reader.records.records
  opens = opened.0.file_opened

  abbrev first : ℕ
  first = first_record_offset_of reader.records

  abbrev base : ℕ
  base = opens.header.data_section.offset

  -- the bytes from the first record on
  from_first : drop first bytes ≡ drop base bytes
  from_first =
      let it = reader.records.records in
      let start = opened.0.at_first_record.offset in
      let placed : (iter_source_state memory_state it).bytes ≡ Some (drop (first + it.offset) (input_of reader.records)) = reader.records.in_place opened.0.at_first_record.stage_running in
      let at : drop (first + it.offset) (input_of reader.records) ≡ drop first bytes = ap (λ n. drop n (input_of reader.records)) (let e : first + it.offset ≡ first = omega (arith, start) in e) ∙ ap (drop first) opened.1 in
      sym at ∙ (let e : Some (drop (first + it.offset) (input_of reader.records)) ≡ Some (drop base bytes) = sym placed ∙ opens.bytes in cc)

  -- the bytes from an offset on
  from_offset : (offset : ℕ) → drop (first + offset) bytes ≡ drop (base + offset) bytes
  from_offset offset = sym (drop-drop offset first bytes) ∙ ap (drop offset) from_first ∙ drop-drop offset base bytes

  -- the bytes from a position on, where the cursor is
  pub bytes_at : (position : RecordPosition) (source : Cursor (Bor (List ℕ))) → cursor_inner source ≡ cursor_inner reader.records.records.source → cursor_position source ≡ min (first + position.offset) (2 ^ 64 - 1) → length bytes < 2 ^ 63
      → (input_source_state reader.records.records.input (memory_state source)).bytes ≡ Some (drop (first + position.offset) bytes)
  bytes_at position source inner at small =
      let view = section_view reader.records.records.input opened.0.in_section.0 (memory_state source) opened.0.in_section.1 in
      let all : (cursor_inner source).now ≡ bytes = ap (λ i. i.now) inner ∙ file_bytes bytes reader.perf_file reader.records.records opened.0 in
      ap (λ s. s.bytes) view ∙ ap (λ l. Some (drop (cursor_position source) l)) all ∙ ap (λ l. Some l) (saturated bytes (first + position.offset) (cursor_position source) small at)

  -- an iterator like that of the reader, but at a position
  module _ (position : RecordPosition) (moved : MemoryIter) (input : moved.input ≡ reader.records.records.input) (offset : moved.offset ≡ position.offset) (known : (input_source_state reader.records.records.input (memory_state moved.source)).bytes ≡ Some (drop (first + position.offset) bytes)) where
    pub moved_parsed : moved.stage ≡ reader.records.records.stage → moved.endian ≡ reader.records.records.endian → moved.attribute_lookup ≡ reader.records.records.attribute_lookup → moved.round ≡ round_at position → moved.offset < 2 ^ 64 → FileParsedAt bytes position reader.perf_file moved
    moved_parsed stage endian lookup round fits = record {
      header = opens.header;
      describes = opens.describes;
      at_position = record {
        stage_running = stage ∙ opened.0.at_first_record.stage_running;
        offset = offset;
        offset_fits = fits;
        round = round;
        same_endian = endian ∙ opened.0.at_first_record.same_endian;
        represents = subst (λ l. Represents moved.endian l (attributes_of_file reader.perf_file)) (sym lookup) (subst (λ e. Represents e reader.records.records.attribute_lookup (attributes_of_file reader.perf_file)) (sym endian) opened.0.at_first_record.represents);
        bytes_known = ap (λ i. (input_source_state i (memory_state moved.source)).bytes) input ∙ known ∙ ap (λ l. Some l) (from_offset position.offset);
        section_size = ap section_size_in input ∙ opens.section_size;
      };
    }
