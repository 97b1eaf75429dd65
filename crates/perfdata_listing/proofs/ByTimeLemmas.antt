-- A listing in order of time, record by record.
use Rattle.std.proofs.Common.{append-nil, ◌≡◌, ℕ, ◌+◌, ◌^◌, ◌<◌, ◌++◌, List, [], ◌∷◌, length, map, refl, sym, ap, ◌∙◌, subst, arith, inl, inr, Option, Ok, Err}
use Rattle.std.specs.Prelude.{Bool, true, false}
use Rattle.std.specs.Io.KnownBytes.{Keeps}
use Rattle.std.proofs.lemmas.List.{length-append, length-map, map-append}
use Rattle.std.proofs.lemmas.List.Sorted.{length_permutation}
use Rattle.linux_perf_data.specs.Layout.{RecordView}
use Rattle.linux_perf_data.specs.declared.in_memory.InMemoryRecords.{InMemoryRecords}
use Rattle.linux_perf_data.specs.declared.perf_file.PerfFile.{PerfFile}
use Rattle.perfdata_listing.proofs.ListingLemmas.{lines_none, lines_kept, lines_more, wrote_prefix}
use Rattle.linux_perf_data.proofs.InMemoryReadings.{count_fits}
use Rattle.perfdata_order.proofs.Steps.{returned_append, steps_append}
use Rattle.perfdata_listing.specs.Listing.{WritesLines}
use Rattle.perfdata_listing.specs.declared.list.ListCause.{ListCause}
use Rattle.perfdata_listing.specs.declared.list.ListCause.TheVariants.{Perf, Jit, Read, Write}
use Rattle.perfdata_order.specs.InMemoryLaws.{read_in, held_entries, ReturnsEachRecordOnce, ReadsRecordsOfInput}
use Rattle.perfdata_order.specs.InMemoryOrder.{Entry, Step, TakesSteps, returned_in, IsNewOrder, EntryReturned}
use Rattle.perfdata_order.specs.declared.in_memory.InMemoryOrderedRecords.{InMemoryOrderedRecords}
use Rattle.perfdata_listing.specs.ByTime.{view_of, views_in, ListedSteps, ListedByTime, ListingByTimeFails}
use Rattle.perfdata_listing.specs.steps.ByTime.{ListsNextByTime}

-- ---- consecutive steps

-- the steps of a call that returned a record
abbrev StepsTo : List Entry → InMemoryOrderedRecords → PerfFile → InMemoryOrderedRecords → PerfFile → Type 0
StepsTo entries old file new file' = (steps : List Step) × (TakesSteps steps old file new file' × (returned_in steps ≡ entries))

steps_of_entry : (old new : InMemoryOrderedRecords) (file file' : PerfFile) (entry : Entry) → EntryReturned old file entry new file' → StepsTo (entry ∷ []) old file new file'
steps_of_entry old new file file' entry returned =
    let before = returned.before in (
      before.steps ++ returned.step ∷ [],
      (
        steps_append before.steps (returned.step ∷ []) old returned.middle new file returned.middle_file file' before.taken (new, (file', returned.taken, (refl, refl))),
        returned_append before.steps (returned.step ∷ []) ∙ ap (λ es. es ++ returned_in (returned.step ∷ [])) before.none_returned ∙ returned.returns_entry,
      ),
    )

-- ---- the count of the lines

-- fewer than 2^64 records are returned, since each is read at an offset of its own
pub returned_fits : ReturnsEachRecordOnce → ReadsRecordsOfInput → (records : InMemoryRecords) (first last : InMemoryOrderedRecords) (file file' : PerfFile) (steps : List Step)
    → IsNewOrder records first → TakesSteps steps first file last file' → length (returned_in steps) < 2 ^ 64
returned_fits each_once of_input records first last file file' steps is_new taken =
    let (now, (now_file, returned)) = of_input records first last file file' steps is_new taken in
    let fits = count_fits records now file now_file (map view_of (read_in steps)) returned in
    let same = length_permutation (read_in steps) (returned_in steps ++ held_entries last) (each_once records first last file file' steps is_new taken) in
    omega (arith, fits, same, length-map (read_in steps) view_of, length-append (returned_in steps) (held_entries last))

-- ---- the listing so far

module _ (IsLine : RecordView → List ℕ → Type 0) (allocates : Bool) where
  pub listed_none : (old : InMemoryOrderedRecords) (file : PerfFile) (out : Option (List ℕ)) → ListedSteps IsLine allocates old file out out 0 old file
  listed_none old file out = record { steps = []; taken = (refl, refl); count = refl; appends = lines_none IsLine allocates out }

  pub listed_more : (old now new : InMemoryOrderedRecords) (file now_file file' : PerfFile) (before mid after : Option (List ℕ)) (lines : ℕ) → ListedSteps IsLine allocates old file before mid lines now now_file
      → ListsNextByTime IsLine allocates now now_file mid (Ok true) after new file' → ListedSteps IsLine allocates old file before after (lines + 1) new file'
  listed_more old now new file now_file file' before mid after lines listed (entry, returned, written) =
      let (steps, (taken, is)) = steps_of_entry now new now_file file' entry returned in
      let all : returned_in (listed.steps ++ steps) ≡ returned_in listed.steps ++ entry ∷ [] = returned_append listed.steps steps ∙ ap (λ es. returned_in listed.steps ++ es) is in
      record {
        steps = listed.steps ++ steps;
        taken = steps_append listed.steps steps old now new file now_file file' listed.taken taken;
        count = (let n = listed.count in let m = ap length all in omega (arith, n, m, length-append (returned_in listed.steps) (entry ∷ [])));
        appends = subst (λ hs. WritesLines IsLine allocates before after hs) (sym (ap (λ es. map view_of es) all ∙ map-append view_of (returned_in listed.steps) (entry ∷ [])))
            (lines_more IsLine allocates before mid after (views_in listed.steps) (view_of entry) listed.appends written);
      }

  pub listed_to_end : (records : InMemoryRecords) (first now new : InMemoryOrderedRecords) (file now_file file' : PerfFile) (before mid after : Option (List ℕ)) (lines : ℕ) → IsNewOrder records first
      → ListedSteps IsLine allocates first file before mid lines now now_file → ListsNextByTime IsLine allocates now now_file mid (Ok false) after new file' → ListedByTime IsLine allocates records file before after lines
  listed_to_end records first now new file now_file file' before mid after lines is_new listed (ended, kept) =
      let progress = ended.before in
      let all : returned_in (listed.steps ++ progress.steps) ≡ returned_in listed.steps ++ [] = returned_append listed.steps progress.steps ∙ ap (λ es. returned_in listed.steps ++ es) progress.none_returned in
      let same : returned_in (listed.steps ++ progress.steps) ≡ returned_in listed.steps = all ∙ append-nil (returned_in listed.steps) in
      record {
        first = first;
        is_new = is_new;
        last = new;
        last_file = file';
        listed = record {
          steps = listed.steps ++ progress.steps;
          taken = steps_append listed.steps progress.steps first now new file now_file file' listed.taken progress.taken;
          count = listed.count ∙ ap length (sym same);
          appends = subst (λ es. WritesLines IsLine allocates before after (map view_of es)) (sym same) (lines_kept IsLine allocates before mid after (views_in listed.steps) listed.appends kept);
        };
        at_end = ended.at_end;
        all_returned = ended.all_returned;
      }

  -- the listed steps, after which nothing was written
  listed_kept : (old now : InMemoryOrderedRecords) (file now_file : PerfFile) (before mid after : Option (List ℕ)) (lines : ℕ) → ListedSteps IsLine allocates old file before mid lines now now_file → Keeps mid after → ListedSteps IsLine allocates old file before after lines now now_file
  listed_kept old now file now_file before mid after lines listed kept = record {
    steps = listed.steps;
    taken = listed.taken;
    count = listed.count;
    appends = lines_kept IsLine allocates before mid after (views_in listed.steps) listed.appends kept;
  }

  pub listing_fails : (records : InMemoryRecords) (first now new : InMemoryOrderedRecords) (file now_file file' : PerfFile) (before mid after : Option (List ℕ)) (lines : ℕ) (cause : ListCause) → IsNewOrder records first
      → ListedSteps IsLine allocates first file before mid lines now now_file → ListsNextByTime IsLine allocates now now_file mid (Err cause) after new file' → ListingByTimeFails IsLine allocates records file before after lines cause
  listing_fails records first now new file now_file file' before mid after lines (Perf e) is_new listed (inl (failed, kept)) = record {
    first = first;
    is_new = is_new;
    last = now;
    last_file = now_file;
    listed = listed_kept first now file now_file before mid after lines listed kept;
    new = new;
    new_file = file';
    cause = inl failed;
  }
  listing_fails records first now new file now_file file' before mid after lines (Perf e) is_new listed (inr (entry, returned, (needs, memory, kept))) = record {
    first = first;
    is_new = is_new;
    last = now;
    last_file = now_file;
    listed = listed_kept first now file now_file before mid after lines listed kept;
    new = new;
    new_file = file';
    cause = inr (memory, (entry, returned));
  }
  listing_fails records first now new file now_file file' before mid after lines (Write e) is_new listed (inl failed) = absurd failed
  listing_fails records first now new file now_file file' before mid after lines (Write e) is_new listed (inr (entry, returned, written)) = record {
    first = first;
    is_new = is_new;
    last = now;
    last_file = now_file;
    steps = listed.steps;
    taken = listed.taken;
    count = listed.count;
    next = entry;
    new = new;
    new_file = file';
    returned = returned;
    wrote = wrote_prefix IsLine allocates before mid after (views_in listed.steps) (view_of entry) listed.appends written;
  }
  listing_fails records first now new file now_file file' before mid after lines (Jit e) is_new listed (inl failed) = absurd failed
  listing_fails records first now new file now_file file' before mid after lines (Jit e) is_new listed (inr (entry, returned, written)) = absurd written
  listing_fails records first now new file now_file file' before mid after lines (Read e) is_new listed (inl failed) = absurd failed
  listing_fails records first now new file now_file file' before mid after lines (Read e) is_new listed (inr (entry, returned, written)) = absurd written
