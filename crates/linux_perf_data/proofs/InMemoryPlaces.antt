-- The remaining bytes of an iterator are the bytes of the input from its offset on, and so are the bodies of its records.
use Rattle.std.proofs.Common.{◌≡◌, ℕ, ◌+◌, ◌-◌, ◌++◌, ◌≤◌, List, [], length, take, drop, refl, sym, ap, ◌∙◌, arith, append_assoc, length-append, length-drop, inl, inr, Option, None, Some}
use Rattle.std.proofs.lemmas.List.{drop-drop}
use Rattle.std.proofs.Math.Seq.{drop-append_seam, take-append_seam}
use Rattle.std.specs.Prelude.{Result, Ok, Err}
use Rattle.std.specs.Borrow.{Bor}
use Rattle.std.specs.List.{concat}
use Rattle.perfdata_sections.specs.declared.error.Error.{Error}
use Rattle.std.specs.Io.Cursor.{cursor_inner, cursor_position}
use Rattle.perfdata_sources.specs.Source.{State, Position, memory_source_at, prepend, all_bytes_of, Consumed}
use Rattle.linux_perf_data.specs.declared.records.input.RecordInput.{RecordInput}
use Rattle.linux_perf_data.specs.declared.records.input.RecordInput.TheVariants.{Section, Pipe}
use Rattle.linux_perf_data.specs.declared.records.iter.IdentifiedRecord.{IdentifiedRecord}
use Rattle.linux_perf_data.specs.declared.perf_file.PerfFile.{PerfFile}
use Rattle.linux_perf_data.specs.RecordInput.{section_size_in, input_source_state}
use Rattle.linux_perf_data.specs.Layout.{RecordView}
use Rattle.linux_perf_data.specs.OpenedFile.{FileParsed}
use Rattle.linux_perf_data.specs.OpenedPipe.{PipeParsed}
use Rattle.linux_perf_data.specs.Iter.{iter_source_state, ReturnsRecord}
use Rattle.linux_perf_data.specs.InMemory.{memory_state, MemoryIter, with_buffer, IsInPlace}
use Rattle.linux_perf_data.specs.steps.InMemory.{TakesRecord}

rest_is : (bytes x : List ℕ) (o : Option (List ℕ)) → Some bytes ≡ prepend x o → o ≡ Some (drop (length x) bytes)
rest_is bytes x None is = absurd cc
rest_is bytes x (Some rest) is = let whole : bytes ≡ x ++ rest = cc in ap (λ l. Some l) (sym (drop-append_seam x rest) ∙ ap (drop (length x)) (sym whole))

split_is : (bytes x : List ℕ) (o : Option (List ℕ)) → Some bytes ≡ prepend x o → (rest : List ℕ) × (bytes ≡ x ++ rest)
split_is bytes x None is = absurd cc
split_is bytes x (Some rest) is = (rest, cc)

-- the remaining bytes after these bytes of the input
pub rest_in_place : (old new : MemoryIter) (input x : List ℕ) (first : ℕ) → (iter_source_state memory_state old).bytes ≡ Some (drop (first + old.offset) input) → Consumed (iter_source_state memory_state old) x (iter_source_state memory_state new) → new.offset ≡ old.offset + length x
    → (iter_source_state memory_state new).bytes ≡ Some (drop (first + new.offset) input)
rest_in_place old new input x first known consumption offset =
    let total : first + old.offset + length x ≡ first + new.offset = omega (arith, offset) in
    rest_is (drop (first + old.offset) input) x (iter_source_state memory_state new).bytes (sym known ∙ consumption.bytes) ∙ ap (λ l. Some l) (drop-drop (length x) (first + old.offset) input ∙ ap (λ n. drop n input) total)

-- the body after markers and a record header
body_at : (input markers header body rest : List ℕ) (first offset at : ℕ) → drop (first + offset) input ≡ (markers ++ (header ++ body)) ++ rest → length header ≡ 8 → at ≡ offset + length markers
    → body ≡ take (length body) (drop (first + at + 8) input)
body_at input markers header body rest first offset at is eight place =
    let first_part = markers ++ header in
    let long : length first_part ≡ length markers + 8 = length-append markers header ∙ ap (λ n. length markers + n) eight in
    let split : drop (first + offset) input ≡ first_part ++ (body ++ rest) = is ∙ ap (λ l. l ++ rest) (sym (append_assoc markers header body)) ∙ append_assoc first_part body rest in
    let suffix : drop (length first_part) (drop (first + offset) input) ≡ body ++ rest = ap (drop (length first_part)) split ∙ drop-append_seam first_part (body ++ rest) in
    let total : first + offset + length first_part ≡ first + at + 8 = omega (arith, long, place) in
    let there : drop (first + at + 8) input ≡ body ++ rest = ap (λ n. drop n input) (sym total) ∙ sym (drop-drop (length first_part) (first + offset) input) ∙ suffix in
    sym (ap (take (length body)) there ∙ take-append_seam body rest)

-- the iterator after a returned record is in place
pub returned_in_place : (old new : MemoryIter) (file file' : PerfFile) (h : RecordView) (input : List ℕ) (first : ℕ) → IsInPlace old input first → ReturnsRecord memory_state old file h new file' → IsInPlace new input first
returned_in_place old new file file' h input first placed returned = λ runs.
    let x = returned.markers ++ (returned.header_bytes ++ h.body) in
    let eight = returned.header_len in
    let at = returned.record_offset in
    let end = returned.offset in
    rest_in_place old new input x first (placed returned.was_running) returned.consumes (omega (arith, length-append returned.markers (returned.header_bytes ++ h.body), length-append returned.header_bytes h.body, eight, at, end))

-- the body of a returned record lies in the input
pub body_in_place : (old new : MemoryIter) (file file' : PerfFile) (h : RecordView) (input : List ℕ) (first : ℕ) → IsInPlace old input first → ReturnsRecord memory_state old file h new file' → h.body ≡ take (length h.body) (drop (first + h.offset + 8) input)
body_in_place old new file file' h input first placed returned =
    let x = returned.markers ++ (returned.header_bytes ++ h.body) in
    let split = split_is (drop (first + old.offset) input) x (iter_source_state memory_state new).bytes (sym (placed returned.was_running) ∙ returned.consumes.bytes) in
    body_at input returned.markers returned.header_bytes h.body split.0 first old.offset h.offset split.1 returned.header_len returned.record_offset

-- the body of a returned record ends in the input
pub body_ends_in_place : (old new : MemoryIter) (file file' : PerfFile) (h : RecordView) (input : List ℕ) (first : ℕ) → IsInPlace old input first → ReturnsRecord memory_state old file h new file' → first + h.offset + 8 + length h.body ≤ length input
body_ends_in_place old new file file' h input first placed returned =
    let body = returned.header_bytes ++ h.body in
    let x = returned.markers ++ body in
    let split = split_is (drop (first + old.offset) input) x (iter_source_state memory_state new).bytes (sym (placed returned.was_running) ∙ returned.consumes.bytes) in
    let long = ap length split.1 in
    let eight = returned.header_len in
    let at = returned.record_offset in
    omega (arith, long, length-drop (first + old.offset) input, length-append x split.0, length-append returned.markers body, length-append returned.header_bytes h.body, eight, at)

-- the iterator after any call is in place
pub consumed_in_place : (old new : MemoryIter) (file file' : PerfFile) (r : Result (Option (IdentifiedRecord × Bor (List ℕ))) Error) (input : List ℕ) (first : ℕ) → IsInPlace old input first → TakesRecord old file r new file' → IsInPlace new input first
consumed_in_place old new file file' (Ok (Some found)) input first placed consumed_bytes = returned_in_place old (with_buffer new consumed_bytes.buffer) file file' _ input first placed consumed_bytes.returns
consumed_in_place old new file file' (Ok None) input first placed ended = λ runs. let stage = ended.stage_ended in absurd cc
consumed_in_place old new file file' (Err e) input first placed failed = λ runs. let stage = failed.0.stage_failed in absurd cc

-- in a section, the iterator reads the source itself
pub section_view : (i : RecordInput) (size : ℕ) (s : State) → section_size_in i ≡ Some size → input_source_state i s ≡ s
section_view (Section n) size s is = refl
section_view (Pipe kept) size s is = absurd cc

abbrev offset_in : Option Position → ℕ
offset_in None = 0
offset_in (Some p) = p.offset

abbrev bytes_in : Option (List ℕ) → List ℕ
bytes_in None = []
bytes_in (Some bytes) = bytes

-- the bytes of the cursor of an opened file
pub file_bytes : (bytes : List ℕ) (file : PerfFile) (it : MemoryIter) → FileParsed memory_state (memory_source_at bytes 0) file it → (cursor_inner it.source).now ≡ bytes
file_bytes bytes file it parsed =
    ap (λ s. bytes_in (all_bytes_of s.position)) (sym (section_view it.input parsed.in_section.0 (memory_state it.source) parsed.in_section.1)) ∙ ap bytes_in parsed.after_seek.all_bytes

-- the iterator of an opened file is in place
pub file_in_place : (bytes : List ℕ) (file : PerfFile) (it : MemoryIter) → FileParsed memory_state (memory_source_at bytes 0) file it → IsInPlace it bytes (cursor_position it.source)
file_in_place bytes file it parsed = λ runs.
    let view = section_view it.input parsed.in_section.0 (memory_state it.source) parsed.in_section.1 in
    let all = file_bytes bytes file it parsed in
    let start = parsed.at_first_record.offset in
    let at : cursor_position it.source ≡ cursor_position it.source + it.offset = omega (arith, start) in
    ap (λ s. s.bytes) view ∙ ap (λ l. Some (drop (cursor_position it.source) l)) all ∙ ap (λ n. Some (drop n bytes)) at

-- the iterator of an opened pipe is in place: the header of its first record was read ahead
pub pipe_in_place : (bytes : List ℕ) (file : PerfFile) (it : MemoryIter) → PipeParsed memory_state (memory_source_at bytes 0) file it → IsInPlace it bytes (cursor_position it.source - 8)
pipe_in_place bytes file it parsed = λ runs. elim parsed.end_of_opening [
  | inl kept ↦
      let x = parsed.header ++ concat parsed.raw_records in
      let moved : cursor_position it.source ≡ 0 + length (x ++ kept.header_bytes) = ap offset_in kept.consumes_all.position in
      let eight = kept.exact_len in
      let start = parsed.offset in
      let at : length x ≡ cursor_position it.source - 8 + it.offset = omega (arith, moved, length-append x kept.header_bytes, eight, start) in
      rest_is bytes x (iter_source_state memory_state it).bytes kept.consumes.bytes ∙ ap (λ n. Some (drop n bytes)) at
  | inr ended ↦ let stage = ended.stage_ended in absurd cc
]
