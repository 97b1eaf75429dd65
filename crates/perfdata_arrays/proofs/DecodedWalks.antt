-- The entries and frames that a walk over records has written so far.
use Rattle.std.proofs.Common.{Bool, false, not, ◌≡◌, ℕ, ◌+◌, ◌≤◌, ◌++◌, List, [], ◌∷◌, length, refl, sym, ap, ◌∙◌, subst, arith, length-append}
use Rattle.std.specs.Prelude.{◌==◌, ◌||◌}
use Rattle.std.proofs.lemmas.List.{append-nil, append_assoc}
use Rattle.perfdata_sources.specs.declared.endian.Endianness.{Endianness}
use Rattle.perfdata_records.specs.declared.record.PerfFileRecord.{PerfFileRecord}
use Rattle.linux_perf_data.proofs.EntryLemmas.{length-with_prefix}
use Rattle.linux_perf_data.proofs.InMemoryReadings.{one_call_more}
use Rattle.linux_perf_data.specs.InMemory.{memory_state}
use Rattle.linux_perf_data.specs.InMemoryPositions.{position_of}
use Rattle.linux_perf_data.specs.InMemoryReading.{KeepsInput, ReturnsRecordInMemory, ReturnsRecordsInMemory, first_record_offset_of}
use Rattle.linux_perf_data.specs.Iter.{section_size_of}
use Rattle.linux_perf_data.specs.Layout.{RecordView, SectionSize, attributes_in_record, attributes_in_views}
use Rattle.linux_perf_data.specs.PerfFile.{attributes_of_file, endian_of_file}
use Rattle.linux_perf_data.specs.RecordEntries.{with_prefix}
use Rattle.linux_perf_data.specs.RecordViews.{record_view_of}
use Rattle.linux_perf_data.specs.declared.in_memory.InMemoryRecords.{InMemoryRecords}
use Rattle.linux_perf_data.specs.declared.in_memory.position.RecordPosition.{RecordPosition}
use Rattle.linux_perf_data.specs.declared.perf_file.PerfFile.{PerfFile}
use Rattle.linux_perf_data.specs.declared.records.iter.RecordPlace.{RecordPlace}
use Rattle.perfdata_arrays.proofs.Arrays.{more_entries}
use Rattle.perfdata_arrays.specs.steps.DecodedPages.{DecodesRecords, EndsWalk, IsFollowedInWalk, attributes_after}
use Rattle.perfdata_arrays.specs.Decoding.{Adding, AreEntriesOf, EntryKind, of_no_records, of_one_more, wants_frames}
use Rattle.perfdata_arrays.specs.steps.Decoding.{ExceedsArrays, WritesRecord, wants}
use Rattle.perfdata_arrays.specs.declared.decoder.EntryCounts.{EntryCounts}
use Rattle.perfdata_arrays.specs.declared.pages.DecodingWalk.{DecodingWalk}
use Rattle.perfdata_arrays.specs.declared.pages.WalkEnd.{WalkEnd}

-- ---- attributes

one_more_attribute : (order : Endianness) (bound : SectionSize) (records : List RecordView) (h : RecordView)
    → attributes_in_views order bound (records ++ h ∷ []) ≡ attributes_in_views order bound records ++ attributes_in_record order bound h.record_type h.body
one_more_attribute order bound [] h = append-nil (attributes_in_record order bound h.record_type h.body)
one_more_attribute order bound (k ∷ ks) h =
    ap (λ l. attributes_in_record order bound k.record_type k.body ++ l) (one_more_attribute order bound ks h)
    ∙ sym (append_assoc (attributes_in_record order bound k.record_type k.body) (attributes_in_views order bound ks) (attributes_in_record order bound h.record_type h.body))

-- ---- the walk

module _ {A B : Type 0} (kind : EntryKind A B) (counts_all : Bool) (start : InMemoryRecords) (file : PerfFile) (entries : List A) (frames : List B) where
  -- The records that were returned so far, and what they add, which is written over two arrays up to their capacities.
  pub record SoFar (count used : ℕ) (now : InMemoryRecords) (now_file : PerfFile) (entries' : List A) (frames' : List B) : Type 0 where
    pub records : List RecordView
    pub returned : ReturnsRecordsInMemory start file records now now_file
    pub same_first : first_record_offset_of now ≡ first_record_offset_of start
    pub attributes_are : attributes_of_file now_file ≡ attributes_after start file records
    pub same_file_endian : endian_of_file now_file ≡ endian_of_file file
    pub same_endian : now.records.endian ≡ start.records.endian
    pub same_section : section_size_of memory_state now.records ≡ section_size_of memory_state start.records
    pub own : List A
    pub own_frames : List B
    pub are_entries : AreEntriesOf (kind.Adds (wants counts_all (length frames))) (endian_of_file file) (attributes_after start file) (first_record_offset_of start) records own own_frames
    pub count_is : count ≡ length own
    pub written : entries' ≡ with_prefix own entries
    pub used_is : used ≡ length own_frames
    pub frames_written : frames' ≡ with_prefix own_frames frames
    pub fits : counts_all ≡ false → (count ≤ length entries) × (used ≤ length frames)
    pub count_below : count ≤ now.records.offset
    pub used_below : used ≤ now.records.offset

  pub none_so_far : SoFar 0 0 start file entries frames
  none_so_far = record {
    records = [];
    returned = (refl, refl);
    same_first = refl;
    attributes_are = sym (append-nil (attributes_of_file file));
    same_file_endian = refl;
    same_endian = refl;
    same_section = refl;
    own = [];
    own_frames = [];
    are_entries = of_no_records;
    count_is = refl;
    written = refl;
    used_is = refl;
    frames_written = refl;
    fits = λ page. (omega arith, omega arith);
    count_below = omega arith;
    used_below = omega arith;
  }

  module _ (count used : ℕ) (now : InMemoryRecords) (now_file : PerfFile) (entries' : List A) (frames' : List B) (so_far : SoFar count used now now_file entries' frames') where
    -- the arrays keep their lengths
    pub same_length : length entries' ≡ length entries
    same_length = ap length so_far.written ∙ length-with_prefix so_far.own entries

    pub same_frames_length : length frames' ≡ length frames
    same_frames_length = ap length so_far.frames_written ∙ length-with_prefix so_far.own_frames frames

    same_wants : wants_frames (length frames') ≡ wants_frames (length frames)
    same_wants = ap (λ n. not (n == 0)) same_frames_length

    module _ (new : InMemoryRecords) (new_file : PerfFile) (place : RecordPlace) (r : PerfFileRecord) (step : ReturnsRecordInMemory now now_file place r new new_file) (kept : KeepsInput now new) (base : ℕ) (base_is : base ≡ first_record_offset_of start) where
      abbrev h : RecordView
      h = record_view_of place r

      -- the attributes with those of one more record
      attributes_next : attributes_of_file new_file ≡ attributes_after start file (so_far.records ++ h ∷ [])
      attributes_next =
          let records = so_far.records in
          let order = start.records.endian in
          let bound = section_size_of memory_state start.records in
          step.returns.file_updates.attributes
          ∙ ap (λ l. l ++ attributes_in_record now.records.endian (section_size_of memory_state now.records) h.record_type h.body) so_far.attributes_are
          ∙ (λ i. (attributes_of_file file ++ attributes_in_views order bound records) ++ attributes_in_record (so_far.same_endian i) (so_far.same_section i) h.record_type h.body)
          ∙ append_assoc (attributes_of_file file) (attributes_in_views order bound records) (attributes_in_record order bound h.record_type h.body)
          ∙ ap (λ l. attributes_of_file file ++ l) (sym (one_more_attribute order bound records h))

      endian_next : endian_of_file new_file ≡ endian_of_file file
      endian_next = step.returns.file_updates.same_endian ∙ so_far.same_file_endian

      returned_next : ReturnsRecordsInMemory start file (so_far.records ++ h ∷ []) new new_file
      returned_next = one_call_more start now new file now_file new_file so_far.records place r so_far.returned step

      -- what the record adds, by what is known at the start
      adds_next : (Adds : Adding A B) (own : List A) (own_frames : List B) → Adds (endian_of_file new_file) (attributes_of_file new_file) base used h own own_frames
          → Adds (endian_of_file file) (attributes_after start file (so_far.records ++ h ∷ [])) (first_record_offset_of start) (length so_far.own_frames) h own own_frames
      adds_next Adds own own_frames adds =
          subst (λ n. Adds (endian_of_file file) (attributes_after start file (so_far.records ++ h ∷ [])) (first_record_offset_of start) n h own own_frames) so_far.used_is
          (subst (λ n. Adds (endian_of_file file) (attributes_after start file (so_far.records ++ h ∷ [])) n used h own own_frames) base_is
          (subst (λ l. Adds (endian_of_file file) l base used h own own_frames) attributes_next
          (subst (λ o. Adds o (attributes_of_file new_file) base used h own own_frames) endian_next adds)))

      -- a record and what it adds
      pub one_more : (added : EntryCounts) (after : List A) (frames_after : List B)
          → WritesRecord kind counts_all (endian_of_file new_file) (attributes_of_file new_file) base h count used entries' frames' added after frames_after
          → SoFar (count + added.entries) (used + added.frames) new new_file after frames_after
      one_more added after frames_after w =
          let counted = so_far.count_is in
          let used_is = so_far.used_is in
          let added_is = w.count_is in
          let frames_added = w.frames_count_is in
          let few = w.few in
          let few_entries = few.0 in
          let few_frames = few.1 in
          let count_below = so_far.count_below in
          let used_below = so_far.used_below in
          let moved = step.returns.offset in
          let at = step.returns.record_offset in
          record {
            records = so_far.records ++ h ∷ [];
            returned = returned_next;
            same_first = kept.first_record_offset ∙ so_far.same_first;
            attributes_are = attributes_next;
            same_file_endian = endian_next;
            same_endian = step.returns.same_input.same_endian ∙ so_far.same_endian;
            same_section = step.returns.same_input.section_size ∙ so_far.same_section;
            own = so_far.own ++ w.own;
            own_frames = so_far.own_frames ++ w.own_frames;
            are_entries = of_one_more so_far.records so_far.own so_far.own_frames h w.own w.own_frames so_far.are_entries
                (adds_next (kind.Adds (wants counts_all (length frames))) w.own w.own_frames
                (subst (λ b. kind.Adds (counts_all || b) (endian_of_file new_file) (attributes_of_file new_file) base used h w.own w.own_frames) same_wants w.adds));
            count_is = omega (arith, counted, added_is, length-append so_far.own w.own);
            written = more_entries count so_far.own w.own entries entries' after counted so_far.written w.written;
            used_is = omega (arith, used_is, frames_added, length-append so_far.own_frames w.own_frames);
            frames_written = more_entries used so_far.own_frames w.own_frames frames frames' frames_after used_is so_far.frames_written w.frames_written;
            fits = λ page. (let fits = w.fits page in let entries_fit = fits.0 in let frames_fit = fits.1 in (omega (arith, entries_fit, added_is, same_length), omega (arith, frames_fit, frames_added, same_frames_length)));
            count_below = omega (arith, few_entries, added_is, count_below, moved, at);
            used_below = omega (arith, few_frames, frames_added, used_below, moved, at);
          }

      -- a record that adds more than fits
      pub exceeds_next : (needed : EntryCounts) (after : List A) (frames_after : List B)
          → ExceedsArrays kind counts_all (endian_of_file new_file) (attributes_of_file new_file) base h count used entries' frames' needed after frames_after
          → IsFollowedInWalk kind start file so_far.records (length entries) (length frames) (length so_far.own) (length so_far.own_frames) needed new new_file
      exceeds_next needed after frames_after e = record {
        next = h;
        own = e.own;
        own_frames = e.own_frames;
        adds = adds_next (kind.Adds (wants_frames (length frames))) e.own e.own_frames
            (subst (λ b. kind.Adds b (endian_of_file new_file) (attributes_of_file new_file) base used h e.own e.own_frames) same_wants e.adds);
        exceeds = subst (λ n. kind.Exceeds (length entries) (length frames) (length so_far.own) n e.own e.own_frames needed) so_far.used_is
            (subst (λ n. kind.Exceeds (length entries) (length frames) n used e.own e.own_frames needed) so_far.count_is
            (subst (λ n. kind.Exceeds (length entries) n count used e.own e.own_frames needed) same_frames_length
            (subst (λ n. kind.Exceeds n (length frames') count used e.own e.own_frames needed) same_length e.exceeds)));
        returned = returned_next;
      }

    -- the end of the walk
    pub decodes_records : (new : InMemoryRecords) (file' : PerfFile) (after : List A) (frames_after : List B) (next : RecordPosition) (end : WalkEnd) (walk : DecodingWalk) → walk ≡ record { count = count; frames_count = used; next = next; end = end } → next ≡ position_of now → after ≡ entries' → frames_after ≡ frames'
        → EndsWalk kind counts_all start file so_far.records (length entries) (length frames) (length so_far.own) (length so_far.own_frames) now now_file end new file'
        → DecodesRecords kind counts_all start file entries frames walk new file' after frames_after
    decodes_records new file' after frames_after next end walk is position same same_frames ends =
        let counted = so_far.count_is in
        let used_is = so_far.used_is in
        record {
          records = so_far.records;
          input_at_end = now;
          file_at_end = now_file;
          returned = so_far.returned;
          next = ap (λ w. w.next) is ∙ position;
          own = so_far.own;
          own_frames = so_far.own_frames;
          are_entries = so_far.are_entries;
          count_is = ap (λ w. w.count) is ∙ counted;
          frames_count_is = ap (λ w. w.frames_count) is ∙ used_is;
          written = same ∙ so_far.written;
          frames_written = same_frames ∙ so_far.frames_written;
          fits = λ page. (let fits = so_far.fits page in let entries_fit = fits.0 in let frames_fit = fits.1 in (omega (arith, entries_fit, counted), omega (arith, frames_fit, used_is)));
          ends = subst (λ e. EndsWalk kind counts_all start file so_far.records (length entries) (length frames) (length so_far.own) (length so_far.own_frames) now now_file e new file') (sym (ap (λ w. w.end) is)) ends;
        }
