-- Entries that are written one by one over the start of an array, and the bodies of their records.
use Rattle.std.proofs.Common.{◌≡◌, ℕ, suc, ◌+◌, ◌<◌, ◌++◌, List, [], ◌∷◌, length, length-append, refl, sym, ap, ◌∙◌, subst, arith}
use Rattle.std.specs.Prelude.{slice_set}
use Rattle.perfdata_records.specs.declared.record.PerfFileRecord.{PerfFileRecord}
use Rattle.perfdata_records.specs.declared.record.PerfFileRecord.TheVariants.{EventRecord, UserRecord}
use Rattle.linux_perf_data.specs.declared.in_memory.InMemoryRecords.{InMemoryRecords}
use Rattle.linux_perf_data.specs.declared.records.iter.RecordPlace.{RecordPlace}
use Rattle.linux_perf_data.specs.declared.in_memory.entries.RecordEntry.{RecordEntry}
use Rattle.linux_perf_data.specs.declared.perf_file.PerfFile.{PerfFile}
use Rattle.linux_perf_data.specs.InMemoryReading.{IsSliceOfInput, first_record_offset_of, input_of}
use Rattle.linux_perf_data.specs.Layout.{RecordView}
use Rattle.linux_perf_data.specs.RecordEntries.{HasBodiesAt, HasBytesAt, record_entries_at, record_entry_at, with_prefix}
use Rattle.linux_perf_data.specs.steps.RecordEntries.{TakesEntry}
use Rattle.linux_perf_data.specs.RecordViews.{record_view_of}
use Rattle.linux_perf_data.specs.steps.WalkEntries.{EntriesSoFar}
use Rattle.linux_perf_data.proofs.InMemoryReadings.{one_call_more}
use Rattle.std.proofs.lemmas.List.{length-map, map_push}

-- one more entry that fits in the array
pub with_prefix-snoc : {T : Type 0} (es old : List T) (e : T) → length es < length old → with_prefix (es ++ e ∷ []) old ≡ slice_set (with_prefix es old) (length es) e
with_prefix-snoc [] [] e fits = absurd (omega (arith, fits))
with_prefix-snoc [] (o ∷ os) e fits = refl
with_prefix-snoc (x ∷ es) [] e fits = absurd (omega (arith, fits))
with_prefix-snoc (x ∷ es) (o ∷ os) e fits = ap (λ l. x ∷ l) (with_prefix-snoc es os e (omega (arith, fits)))

pub length-with_prefix : {T : Type 0} (es old : List T) → length (with_prefix es old) ≡ length old
length-with_prefix [] old = refl
length-with_prefix (x ∷ es) [] = refl
length-with_prefix (x ∷ es) (o ∷ os) = ap (λ n. suc n) (length-with_prefix es os)

-- the body of a returned record is at the offset in its entry
pub body-returned : (input : InMemoryRecords) (p : RecordPlace) (r : PerfFileRecord) → IsSliceOfInput input p r → HasBytesAt (input_of input) (first_record_offset_of input + (record_view_of p r).offset + 8) (record_view_of p r).body
body-returned input p (EventRecord index r) slice = sym slice.bytes
body-returned input p (UserRecord r) slice = sym slice.bytes

-- one more record
pub has_bodies-snoc : (bytes : List ℕ) (base : ℕ) (records : List RecordView) (h : RecordView) → HasBodiesAt bytes base records → HasBytesAt bytes (base + h.offset + 8) h.body → HasBodiesAt bytes base (records ++ h ∷ [])
has_bodies-snoc bytes base [] h stand one = (one, tt)
has_bodies-snoc bytes base (k ∷ ks) h (first, more) one = (first, has_bodies-snoc bytes base ks h more one)

-- one more entry
pub one_entry_more : (start now new : InMemoryRecords) (file : PerfFile) (array entries : List RecordEntry) (count : ℕ) (entry : RecordEntry)
    → EntriesSoFar start array now entries count → TakesEntry now entry new → count < length entries → EntriesSoFar start array new (slice_set entries count entry) (count + 1)
one_entry_more start now new file array entries count entry before taken below =
    let h = record_view_of taken.place taken.found in
    let input = input_of start in
    let base = first_record_offset_of start in
    let kept = taken.same_input in
    let count_is = before.count_is in
    let some = record_entries_at base before.records in
    let long = length-map before.records (record_entry_at base) in
    let more = map_push (record_entry_at base) before.records h in
    let is_entry : entry ≡ record_entry_at base h = taken.is_entry ∙ ap (λ n. record_entry_at n h) before.same_input.first_record_offset in
    let fits : length some < length array = (let same = ap length before.written in omega (arith, long, count_is, length-with_prefix some array, same, below)) in
    record {
      records = before.records ++ h ∷ [];
      count_is = omega (arith, count_is, length-append before.records (h ∷ []));
      fits = omega (arith, long, fits, length-append before.records (h ∷ []));
      written = ap (λ l. slice_set l count entry) before.written ∙ ap (λ n. slice_set (with_prefix some array) n entry) (count_is ∙ sym long) ∙ ap (λ e. slice_set (with_prefix some array) (length some) e) is_entry ∙ sym (with_prefix-snoc some array (record_entry_at base h) fits) ∙ ap (λ l. with_prefix l array) (sym more);
      returned = λ file. one_call_more start now new file file file before.records taken.place taken.found (before.returned file) (taken.returned file);
      body_bytes_at = has_bodies-snoc input base before.records h before.body_bytes_at
          (subst (λ l. HasBytesAt l (base + h.offset + 8) h.body) before.same_input.input
          (subst (λ n. HasBytesAt (input_of now) (n + h.offset + 8) h.body) before.same_input.first_record_offset (body-returned now taken.place taken.found (taken.returned file).in_input)));
      same_input = record { input = kept.input ∙ before.same_input.input; first_record_offset = kept.first_record_offset ∙ before.same_input.first_record_offset };
    }
