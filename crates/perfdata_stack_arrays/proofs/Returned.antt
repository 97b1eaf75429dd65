-- The number of the records that are returned.
use Rattle.std.proofs.Common.{◌≡◌, ◌∙◌, ap, refl, sym, subst, arith, ◌+◌, ◌^◌, ◌<◌, true, false, List, [], ◌∷◌, ◌++◌, length, length-append, map, Some, Ok}
use Rattle.std.proofs.lemmas.List.{length-map, map_push}
use Rattle.std.proofs.lemmas.List.Sorted.{length_permutation}
use Rattle.std.specs.List.Sorted.{IsPermutation}
use Rattle.linux_perf_data.proofs.InMemoryReadings.{one_call_more, count_fits}
use Rattle.linux_perf_data.specs.InMemoryReading.{ReturnsRecordsInMemory}
use Rattle.linux_perf_data.specs.Layout.{RecordView}
use Rattle.linux_perf_data.specs.RecordViews.{record_view_of}
use Rattle.linux_perf_data.specs.declared.in_memory.InMemoryRecords.{InMemoryRecords}
use Rattle.linux_perf_data.specs.declared.perf_file.PerfFile.{PerfFile}
use Rattle.perfdata_order.proofs.InMemorySteps.{reads_records_of_input, returns_each_record_once}
use Rattle.perfdata_order.proofs.Steps.{steps_append, returned_append}
use Rattle.perfdata_order.specs.InMemoryLaws.{held_entries, read_in}
use Rattle.perfdata_order.specs.InMemoryOrder.{Entry, EntryReturned, IsNewOrder, Step, TakesSteps, returned_in}
use Rattle.perfdata_order.specs.declared.in_memory.InMemoryOrderedRecords.{InMemoryOrderedRecords}
use Rattle.perfdata_stack_arrays.specs.Laws.{AreReadOnce, ReturnsRecordsOnce}
use Rattle.perfdata_stack_arrays.specs.Reading.{ReadsEvents, event_returned, no_calls, other_returned}
use Rattle.perfdata_stack_arrays.specs.Records.{ReturnsNext}
use Rattle.perfdata_stack_arrays.specs.steps.Records.{IsStart}
use Rattle.perfdata_stack_arrays.specs.Event.{Event}
use Rattle.perfdata_stack_arrays.specs.declared.records.Records.{Records}
use Rattle.perfdata_stack_arrays.specs.declared.records.Records.TheVariants.{ByTime, InInputOrder}

abbrev pub view_of : Entry → RecordView
view_of entry = record_view_of entry.0 entry.1

-- ---- in order of time

-- Steps that returned these records.
abbrev pub StepsTo : List Entry → InMemoryOrderedRecords → PerfFile → InMemoryOrderedRecords → PerfFile → Type 0
StepsTo entries old file new file' = (steps : List Step) × (TakesSteps steps old file new file' × (returned_in steps ≡ entries))

steps_more : (old now new : InMemoryOrderedRecords) (file now_file file' : PerfFile) (entries : List Entry) (entry : Entry) → StepsTo entries old file now now_file → EntryReturned now now_file entry new file' → StepsTo (entries ++ entry ∷ []) old file new file'
steps_more old now new file now_file file' entries entry (steps, (taken, are)) returned =
    let before = returned.before in
    let own = before.steps ++ returned.step ∷ [] in
    let own_taken = steps_append before.steps (returned.step ∷ []) now returned.middle new now_file returned.middle_file file' before.taken (new, (file', returned.taken, (refl, refl))) in
    let own_are = returned_append before.steps (returned.step ∷ []) ∙ ap (λ es. es ++ returned_in (returned.step ∷ [])) before.none_returned ∙ returned.returns_entry in
    (steps ++ own, (steps_append steps own old now new file now_file file' taken own_taken, returned_append steps own ∙ (λ i. are i ++ own_are i)))

-- The records are still in order of time.
abbrev pub StepsByTime : InMemoryOrderedRecords → PerfFile → List Entry → Records → PerfFile → Type 0
StepsByTime first file entries (ByTime last) last_file = StepsTo entries first file last last_file
StepsByTime first file entries (InInputOrder last) last_file = ⊥

one_by_time : (first : InMemoryOrderedRecords) (file : PerfFile) (entries : List Entry) (now new : Records) (now_file new_file : PerfFile) (entry : Entry) → StepsByTime first file entries now now_file → ReturnsNext now now_file (Ok (Some entry)) new new_file → StepsByTime first file (entries ++ entry ∷ []) new new_file
one_by_time first file entries (ByTime now) (ByTime new) now_file new_file entry steps step = steps_more first now new file now_file new_file entries entry steps step
one_by_time first file entries (ByTime now) (InInputOrder new) now_file new_file entry steps step = absurd step
one_by_time first file entries (InInputOrder now) new now_file new_file entry steps step = absurd steps

pub steps_by_time : (first : InMemoryOrderedRecords) (file : PerfFile) (entries : List Entry) (events : List Event) (now : Records) (now_file : PerfFile) → ReadsEvents (ByTime first) file entries events now now_file → StepsByTime first file entries now now_file
steps_by_time first file entries events now now_file (no_calls) = ([], ((refl, refl), refl))
steps_by_time first file entries events now now_file (other_returned es vs last new last_file new_file entry read step is) = one_by_time first file es last new last_file new_file entry (steps_by_time first file es vs last last_file read) step
steps_by_time first file entries events now now_file (event_returned es vs last new last_file new_file entry event read step is) = one_by_time first file es last new last_file new_file entry (steps_by_time first file es vs last last_file read) step

-- ---- in the order of the input

abbrev pub RecordsInOrder : InMemoryRecords → PerfFile → List Entry → Records → PerfFile → Type 0
RecordsInOrder first file entries (ByTime last) last_file = ⊥
RecordsInOrder first file entries (InInputOrder last) last_file = ReturnsRecordsInMemory first file (map view_of entries) last last_file

one_in_order : (first : InMemoryRecords) (file : PerfFile) (entries : List Entry) (now new : Records) (now_file new_file : PerfFile) (entry : Entry) → RecordsInOrder first file entries now now_file → ReturnsNext now now_file (Ok (Some entry)) new new_file → RecordsInOrder first file (entries ++ entry ∷ []) new new_file
one_in_order first file entries (InInputOrder now) (InInputOrder new) now_file new_file entry records step =
    subst (λ (views : List RecordView). ReturnsRecordsInMemory first file views new new_file) (sym (map_push view_of entries entry)) (one_call_more first now new file now_file new_file (map view_of entries) entry.0 entry.1 records step)
one_in_order first file entries (InInputOrder now) (ByTime new) now_file new_file entry records step = absurd step
one_in_order first file entries (ByTime now) new now_file new_file entry records step = absurd records

pub records_in_order : (first : InMemoryRecords) (file : PerfFile) (entries : List Entry) (events : List Event) (now : Records) (now_file : PerfFile) → ReadsEvents (InInputOrder first) file entries events now now_file → RecordsInOrder first file entries now now_file
records_in_order first file entries events now now_file (no_calls) = (refl, refl)
records_in_order first file entries events now now_file (other_returned es vs last new last_file new_file entry read step is) = one_in_order first file es last new last_file new_file entry (records_in_order first file es vs last last_file read) step
records_in_order first file entries events now now_file (event_returned es vs last new last_file new_file entry event read step is) = one_in_order first file es last new last_file new_file entry (records_in_order first file es vs last last_file read) step

-- ---- fewer than 2^64 records are returned

steps_fit : (records : InMemoryRecords) (first : InMemoryOrderedRecords) (file : PerfFile) (entries : List Entry) (last : Records) (last_file : PerfFile) → IsNewOrder records first → StepsByTime first file entries last last_file → length entries < 2 ^ 64
steps_fit records first file entries (ByTime last) last_file is_new (steps, (taken, are)) =
    let (now, (now_file, returned)) = reads_records_of_input records first last file last_file steps is_new taken in
    let fits = count_fits records now file now_file (map view_of (read_in steps)) returned in
    let same = length_permutation (read_in steps) (returned_in steps ++ held_entries last) (returns_each_record_once records first last file last_file steps is_new taken) in
    let own = ap length are in
    omega (arith, fits, same, own, length-map (read_in steps) view_of, length-append (returned_in steps) (held_entries last))
steps_fit records first file entries (InInputOrder last) last_file is_new steps = absurd steps

order_fits : (first : InMemoryRecords) (file : PerfFile) (entries : List Entry) (last : Records) (last_file : PerfFile) → RecordsInOrder first file entries last last_file → length entries < 2 ^ 64
order_fits first file entries (InInputOrder last) last_file records = (let fits = count_fits first last file last_file (map view_of entries) records in omega (arith, fits, length-map entries view_of))
order_fits first file entries (ByTime last) last_file records = absurd records

pub entries_fit : (start : Records) (file : PerfFile) (entries : List Entry) (events : List Event) (now : Records) (now_file : PerfFile) → IsStart start → ReadsEvents start file entries events now now_file → length entries < 2 ^ 64
entries_fit (ByTime first) file entries events now now_file (true, (records, is_new)) read = steps_fit records first file entries now now_file is_new (steps_by_time first file entries events now now_file read)
entries_fit (ByTime first) file entries events now now_file (false, (records, starts)) read = absurd starts
entries_fit (InInputOrder first) file entries events now now_file (true, (records, starts)) read = absurd starts
entries_fit (InInputOrder first) file entries events now now_file (false, (records, starts)) read = order_fits first file entries now now_file (records_in_order first file entries events now now_file read)

-- ---- the law of order

pub returns_records_once : ReturnsRecordsOnce
returns_records_once records first file last_file entries events last is_new read = by_steps last (steps_by_time first file entries events last last_file read)
  where
    by_steps : (last : Records) → StepsByTime first file entries last last_file → AreReadOnce records file entries
    by_steps (InInputOrder other) steps = absurd steps
    by_steps (ByTime last) (steps, (taken, are)) =
        let (now, (now_file, returned)) = reads_records_of_input records first last file last_file steps is_new taken in
        record {
          read = read_in steps;
          held = held_entries last;
          now = now;
          now_file = now_file;
          of_input = returned;
          once = subst (λ (es : List Entry). IsPermutation (read_in steps) (es ++ held_entries last)) are (returns_each_record_once records first last file last_file steps is_new taken);
        }
