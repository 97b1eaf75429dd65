-- A whole record of a file that is taken at once is the next record.
use Rattle.std.proofs.Common.{◌≡◌, ◌≢◌, ℕ, ◌+◌, ◌^◌, ◌<◌, ◌≤◌, ◌++◌, List, [], length, take, refl, sym, ap, ◌∙◌, subst, arith, inl, inr, append-nil, None, Some}
use Rattle.std.specs.Prelude.{if◌then◌else◌, ◌==◌}
use Rattle.std.specs.List.{slice_range}
use Rattle.std.proofs.lemmas.List.{length-take}
use Rattle.perfdata_sources.proofs.ConsumedLemmas.{consumed_none}
use Rattle.perfdata_sources.specs.Endian.{number_in}
use Rattle.perfdata_sources.specs.RecordHeader.{record_header_of}
use Rattle.perfdata_sources.specs.Source.{Consumed}
use Rattle.perfdata_sources.specs.declared.event.record_header.PerfEventHeader.{PerfEventHeader}
use Rattle.perfdata_sources.specs.declared.endian.Endianness.{Endianness}
use Rattle.perfdata_sections.specs.RecordTypes.{finished_round}
use Rattle.linux_perf_data.specs.declared.perf_file.PerfFile.{PerfFile}
use Rattle.linux_perf_data.specs.declared.records.input.RecordInput.TheVariants.{Section}
use Rattle.linux_perf_data.specs.declared.records.iter.IdentifiedRecord.{IdentifiedRecord}
use Rattle.linux_perf_data.specs.declared.records.iter.Stage.TheVariants.{Running}
use Rattle.linux_perf_data.specs.AttributeLookup.{Represents}
use Rattle.linux_perf_data.specs.steps.AttributeLookup.{KeepsAttributes}
use Rattle.linux_perf_data.specs.steps.BufferedRecord.{WholeRecordLength}
use Rattle.linux_perf_data.specs.RecordInput.{HasNoPendingHeader, section_size_in}
use Rattle.linux_perf_data.specs.InMemory.{IsInPlace, MemoryIter, memory_state, with_buffer}
use Rattle.linux_perf_data.specs.steps.InMemory.{RecordTaken}
use Rattle.linux_perf_data.specs.Iter.{iter_source_state, section_size_of}
use Rattle.linux_perf_data.specs.steps.IterSteps.{RawRecordRead, RecordProcessed, SameButLookup}
use Rattle.linux_perf_data.specs.LateMetadata.{UpdatesPerfFile}
use Rattle.linux_perf_data.specs.Layout.{MayStartAt, attributes_in_record}
use Rattle.linux_perf_data.specs.PerfFile.{attributes_of_file}
use Rattle.linux_perf_data.specs.steps.RecordViews.{IdentifiesRecord}
use Rattle.linux_perf_data.proofs.InMemoryCalls.{buffer_of}
use Rattle.linux_perf_data.proofs.InMemoryPlaces.{rest_in_place, section_view}
use Rattle.linux_perf_data.proofs.IterCalls.{Idles, returns_record}
use Rattle.linux_perf_data.proofs.WholeRecordsTaken.{body_of_first, whole_record_read}

-- a record of a file changes no metadata
file_unchanged : (order : Endianness) (size kind : ℕ) (body : List ℕ) (file : PerfFile) → UpdatesPerfFile order (Some size) kind body file file
file_unchanged order size kind body file = record {
  same_endian = refl;
  attributes = sym (append-nil (attributes_of_file file));
  feature_data = λ n. refl;
  features = λ n. (λ has. inl has, λ either. elim either [ inl has ↦ has | inr added ↦ (let none = added.1.0 in absurd cc) ]);
  names_match = λ renames. absurd renames;
  if_not_renamed = λ _. refl;
}

-- an identified record of a file is processed
file_record_processed : (piece new : MemoryIter) (size : ℕ) (file : PerfFile) (offset round : ℕ) (header : PerfEventHeader) (found : IdentifiedRecord) → piece.input ≡ Section size → SameButLookup memory_state piece new → new.stage ≡ piece.stage
    → IdentifiesRecord piece.attribute_lookup offset round header piece.body.items found new.attribute_lookup → KeepsAttributes piece.attribute_lookup new.attribute_lookup → RecordProcessed memory_state piece file offset round header found new file
file_record_processed piece new size file offset round header found section same stage identifies keeps =
    let bound : section_size_of memory_state piece ≡ Some size = ap section_size_in section in
    let in_file : section_size_of memory_state piece ≢ None = λ pipe. (let is = sym bound ∙ pipe in absurd cc) in
    record {
      same_but_lookup = same;
      stage = stage;
      record_identified = identifies;
      represents = λ attrs k. subst (λ b. Represents piece.endian new.attribute_lookup (attrs ++ attributes_in_record piece.endian b header.type_ piece.body.items)) (sym bound) (subst (λ l. Represents piece.endian new.attribute_lookup l) (sym (append-nil attrs)) (keeps piece.endian attrs k));
      valid_attribute = λ pipe kind. absurd (in_file pipe);
      valid_feature = λ pipe kind. absurd (in_file pipe);
      same_attribute_count = λ pipe kind. absurd (in_file pipe);
      file_updates = subst (λ b. UpdatesPerfFile piece.endian b header.type_ piece.body.items file file) (sym bound) (file_unchanged piece.endian size header.type_ piece.body.items file);
      file_unchanged_otherwise = λ _. refl;
    }

-- the whole record at the start of the remaining bytes is taken
pub file_record_consumed : (old new : MemoryIter) (size : ℕ) (file : PerfFile) (header : PerfEventHeader) (found : IdentifiedRecord) (bytes : List ℕ) (n : ℕ) → old.stage ≡ Running → old.input ≡ Section size → old.offset < size → old.offset < 2 ^ 64 → length (slice_range bytes 8 n) < 2 ^ 63
    → WholeRecordLength old.endian bytes (Some n) → header ≡ record_header_of (number_in old.endian) bytes → header.type_ ≢ finished_round → HasNoPendingHeader old.input → Consumed (memory_state old.source) (take n bytes) (memory_state new.source)
    → new.input ≡ old.input → new.endian ≡ old.endian → new.stage ≡ old.stage → new.offset ≡ old.offset + n → new.offset < 2 ^ 64 → new.round ≡ old.round → old.round ≡ (if header.type_ == finished_round then old.round + 1 else old.round)
    → IdentifiesRecord old.attribute_lookup old.offset old.round header (slice_range bytes 8 n) found new.attribute_lookup → KeepsAttributes old.attribute_lookup new.attribute_lookup → RecordTaken old file found (slice_range bytes 8 n) new file
file_record_consumed old new size file header found bytes n running section more start_fits small whole is other none consumes input endian stage offset fits same_round round identifies keeps =
    let buffer = buffer_of old.body (slice_range bytes 8 n) small in
    let now = with_buffer old (buffer_of old.body [] (omega arith)) in
    let final = with_buffer new buffer in
    let piece : MemoryIter = record final { attribute_lookup = old.attribute_lookup } in
    let idles : Idles memory_state old now = record {
      ran = running;
      runs = running;
      same = record { same_endian = refl; section_size = refl };
      known = refl;
      empty = refl;
      fits = start_fits;
      markers = [];
      offset = omega arith;
      skipped_markers = record { raw_records = []; split = refl; elements = _ };
      round = omega arith;
      consumption = consumed_none (iter_source_state memory_state old);
      before = λ rest attrs rs e come. come;
    } in
    let read : RawRecordRead memory_state now header piece = whole_record_read now piece header bytes n whole is none consumes input endian refl stage offset fits (same_round ∙ round) (λ _. body_of_first bytes n whole.0) (λ marker. absurd (other marker)) in
    let starts : MayStartAt (section_size_of memory_state now) now.offset = subst (λ i. MayStartAt (section_size_in i) old.offset) (sym section) more in
    let same : SameButLookup memory_state piece final = record { source = refl; same_endian = refl; body = refl; offset = refl; round = refl; input = refl } in
    let processed : RecordProcessed memory_state piece file old.offset old.round header found final file = file_record_processed piece final size file old.offset old.round header found (input ∙ section) same refl identifies keeps in
    record { buffer = buffer; returns = returns_record memory_state old now piece final file file header found idles read other starts processed }

-- the record with an equal body
pub taken_with_body : (old new : MemoryIter) (file : PerfFile) (found : IdentifiedRecord) (body same_body : List ℕ) → same_body ≡ body → RecordTaken old file found body new file → RecordTaken old file found same_body new file
taken_with_body old new file found body same_body same taken = subst (λ b. RecordTaken old file found b new file) (sym same) taken

-- if the remaining bytes of the old iterator are those of an input from its offset on, so are those of the new one
abbrev pub MovesInPlace : MemoryIter → MemoryIter → Type 0
MovesInPlace old new = (input : List ℕ) (first_record_offset : ℕ) → IsInPlace old input first_record_offset → IsInPlace new input first_record_offset

-- the iterator after a whole record of a file is in place
pub moved_in_place : (old new : MemoryIter) (size : ℕ) (bytes : List ℕ) (n : ℕ) → old.input ≡ Section size → new.input ≡ old.input → old.stage ≡ Running → Consumed (memory_state old.source) (take n bytes) (memory_state new.source) → n ≤ length bytes → new.offset ≡ old.offset + n → MovesInPlace old new
moved_in_place old new size bytes n section input running consumes within offset = λ all first placed runs.
    let old_view = section_view old.input size (memory_state old.source) (ap section_size_in section) in
    let new_view = section_view new.input size (memory_state new.source) (ap section_size_in (input ∙ section)) in
    rest_in_place old new all (take n bytes) first (placed running)
    (subst (λ s. Consumed s (take n bytes) (iter_source_state memory_state new)) (sym old_view) (subst (λ s. Consumed (memory_state old.source) (take n bytes) s) (sym new_view) consumes))
    (omega (arith, offset, within, length-take n bytes))
