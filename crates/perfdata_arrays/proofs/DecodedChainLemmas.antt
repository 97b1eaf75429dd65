-- A chain of calls writes what one call with capacity for all writes.
use Rattle.std.proofs.Common.{◌≡◌, ◌≢◌, ◌⊎◌, ℕ, ◌+◌, ◌<◌, ◌≤◌, ◌++◌, Bool, List, [], ◌∷◌, length, take, refl, sym, ap, ◌∙◌, subst, arith, inl, inr, length-append}
use Rattle.std.proofs.lemmas.Bool.{cases_lt}
use Rattle.std.proofs.lemmas.List.{append_cancel_left, nil_from_length}
use Rattle.linux_perf_data.specs.Layout.{LayoutEnd, LayoutError, ends_complete, ends_with_error, truncated_header, size_below_header, end_overflows, truncated_body, compressed_record, aux_body_too_short, aux_end_overflows, truncated_aux_data}
use Rattle.linux_perf_data.specs.PerfFile.{attributes_of_file, endian_of_file}
use Rattle.linux_perf_data.specs.declared.in_memory.position.RecordPosition.{RecordPosition}
use Rattle.perfdata_arrays.proofs.CounterItems.{counter_laws}
use Rattle.perfdata_arrays.proofs.EntryItems.{mapping_laws, task_laws}
use Rattle.perfdata_arrays.proofs.ItemChains.{ChainWrites, FailsToOpen, FindsAll, IsStopped, ItemPage, WritesItems, WritesNothing, at_most_page, call_before, chain_is_one_call, finds_all, never_fails, never_stopped, same_failure}
use Rattle.perfdata_arrays.proofs.KindLaws.{KindLaws, entries_of_items, items, items_at_base, items_of_entries}
use Rattle.perfdata_arrays.proofs.PageChainLemmas.{take-written}
use Rattle.perfdata_arrays.proofs.PageItems.{AllItems, ItemsUpTo, exact, in_file_of, items_join, of_fewer_records, same_end, same_items}
use Rattle.perfdata_arrays.proofs.RecordItems.{ItemKind, ItemsFrom, no_seconds_from, one_more_from}
use Rattle.perfdata_arrays.proofs.SampleItems.{sample_laws}
use Rattle.perfdata_arrays.specs.Counters.{counter_kind}
use Rattle.perfdata_arrays.specs.DecodedChains.{AreEntriesUpTo, ChainIsOneDecodedPage, DecodedCallIsUnique, EntriesAreUnique, EntriesJoin, FindsEnd, IsCallAt, IsChain, PageCall, entries_of_chain, frames_of_chain, written_count, written_entries, written_frames}
use Rattle.perfdata_arrays.specs.DecodedPages.{IsDecodedPage, IsFollowedByTooMany, ReportsNoSpace, page_result}
use Rattle.perfdata_arrays.specs.Decoding.{EntryKind, wants_frames}
use Rattle.perfdata_arrays.specs.Mappings.{mapping_kind}
use Rattle.perfdata_arrays.specs.Pages.{layout_end_status, layout_error_status}
use Rattle.perfdata_arrays.specs.SampleRecords.{sample_kind}
use Rattle.perfdata_arrays.specs.Tasks.{task_kind}
use Rattle.perfdata_arrays.specs.declared.decoder.EntryCounts.{EntryCounts}
use Rattle.perfdata_arrays.specs.declared.pages.PageResult.{PageResult}
use Rattle.perfdata_arrays.specs.declared.status.Status.{Status}
use Rattle.perfdata_arrays.specs.declared.status.Status.TheVariants.{NoSpace, Success}

-- ---- the numbers that a page writes

-- a call that reads nothing writes nothing
written_none : (s : Status) → written_count s 0 ≡ 0
written_none NoSpace = refl
written_none _ = refl

-- the end of a file's records isn't a lack of space
written_to_error : (f : LayoutError) (n : ℕ) → written_count (layout_error_status f) n ≡ n
written_to_error truncated_header n = refl
written_to_error size_below_header n = refl
written_to_error end_overflows n = refl
written_to_error truncated_body n = refl
written_to_error compressed_record n = refl
written_to_error aux_body_too_short n = refl
written_to_error aux_end_overflows n = refl
written_to_error truncated_aux_data n = refl
written_to_error _ n = refl

written_to_end : (end : LayoutEnd) (n : ℕ) → written_count (layout_end_status end) n ≡ n
written_to_end ends_complete n = refl
written_to_end (ends_with_error f) n = written_to_error f n

module _ {A B : Type 0} (kind : EntryKind A B) (laws : KindLaws kind) where
  -- ---- the entries between two positions

  module _ (bytes : List ℕ) {from next : RecordPosition} {wants : Bool} {s : List A} {f : List B} where
    items_up_to : AreEntriesUpTo kind bytes from wants s f next → ItemsUpTo (items kind laws wants) bytes from s f next
    items_up_to a = record { records = a.records; base = a.base; page = a.page; items = items_of_entries (items kind laws wants) (endian_of_file a.page.file) (attributes_of_file a.page.file) a.base a.records s f a.are_entries }

    entries_up_to : ItemsUpTo (items kind laws wants) bytes from s f next → AreEntriesUpTo kind bytes from wants s f next
    entries_up_to a = record { records = a.records; base = a.base; page = a.page; are_entries = entries_of_items (items kind laws wants) (endian_of_file a.page.file) (attributes_of_file a.page.file) a.base a.records s f a.items }

  pub entries_join : EntriesJoin kind
  entries_join bytes from middle next wants entries later frames later_frames a b = entries_up_to bytes (items_join (items kind laws wants) bytes (items_up_to bytes a) (items_up_to bytes b))

  pub entries_are_unique : EntriesAreUnique kind
  entries_are_unique bytes from next next' wants entries entries' frames frames' a b long = same_items (items kind laws wants) bytes (items_up_to bytes a) (items_up_to bytes b) long

  -- ---- a page

  module _ (bytes : List ℕ) (from : RecordPosition) (capacity frames_capacity : ℕ) (s : List A) (f : List B) (result : PageResult) (next : RecordPosition) (page : IsDecodedPage kind bytes from capacity frames_capacity s f result next) where
    abbrev of_page : ItemKind A B
    of_page = items kind laws (wants_frames frames_capacity)

    page_items : ItemsFrom of_page (endian_of_file page.page.file) (attributes_of_file page.page.file) page.base 0 page.records s f
    page_items =
        let order = endian_of_file page.page.file in
        let attrs = attributes_of_file page.page.file in
        items_at_base of_page order attrs page.first_record_offset page.base page.records s f page.first_is_base (items_of_entries of_page order attrs page.first_record_offset page.records s f page.are_entries)

    abbrev here : ItemsUpTo of_page bytes from s f next
    here = record { records = page.records; base = page.base; page = exact bytes page.page; items = page_items }

    abbrev Follows : EntryCounts → Type 0
    Follows needed = IsFollowedByTooMany kind bytes page.base from page.page.file page.records capacity frames_capacity (length s) (length f) needed

    -- with what the next record adds, which doesn't fit
    abbrev with_next : (needed : EntryCounts) (lacks : Follows needed) → ItemsUpTo of_page bytes from (s ++ lacks.own) (f ++ lacks.own_frames) lacks.after
    with_next needed lacks =
        let order = endian_of_file page.page.file in
        let attrs = attributes_of_file page.page.file in
        let start : length f ≡ 0 + length f = omega arith in
        let adds = subst (λ n. kind.Adds (wants_frames frames_capacity) order attrs page.base n lacks.next lacks.own lacks.own_frames) start lacks.adds in
        let more = one_more_from of_page order attrs page.base 0 page.records s f lacks.next lacks.own lacks.own_frames page_items adds in
        record {
          records = page.records ++ lacks.next ∷ [];
          base = page.base;
          page = exact bytes lacks.follows;
          items = in_file_of of_page bytes lacks.follows page.page 0 (page.records ++ lacks.next ∷ []) (s ++ lacks.own) (f ++ lacks.own_frames) more;
        }

    exceeds_capacity : (needed : EntryCounts) (lacks : Follows needed) → (capacity < length (s ++ lacks.own)) ⊎ (frames_capacity < length (f ++ lacks.own_frames))
    exceeds_capacity needed lacks = elim (laws.too_many capacity frames_capacity (length s) (length f) lacks.own lacks.own_frames needed lacks.exceeds) [
      | inl many ↦ inl (omega (arith, many, length-append s lacks.own))
      | inr many ↦ inr (omega (arith, many, length-append f lacks.own_frames))
    ]

    stops : (needed : EntryCounts) (lacks : Follows needed) → length s < capacity → ReportsNoSpace kind (length s) (length f) needed result → IsStopped of_page bytes from capacity frames_capacity s f (length page.records) result.status
    stops needed lacks fewer reports = record {
      more_firsts = s ++ lacks.own;
      more_seconds = f ++ lacks.own_frames;
      after = lacks.after;
      up_to = with_next needed lacks;
      one_more = length-append page.records (lacks.next ∷ []);
      exceeds = exceeds_capacity needed lacks;
      fewer = fewer;
      reports = elim reports [
        | inl first ↦ inl (first.0, ap (λ r. r.status) first.1)
        | inr later ↦ inr (later.0, ap (λ r. r.status) later.1)
      ];
    }

    all_of_page : length page.records < page.records_capacity → AllItems of_page bytes from s f page.end
    all_of_page fewer = record { records = page.records; base = page.base; capacity = page.records_capacity; next = next; page = page.page; fewer = fewer; items = page_items }

    item_page : length s ≤ capacity → length f ≤ frames_capacity → ItemPage of_page bytes from capacity frames_capacity s f next result.status
    item_page fits frames_fit = record {
      up_to = here;
      fits = fits;
      seconds_fit = frames_fit;
      ends = elim page.ends [
        | inl full ↦ inl (record { full = full.0; status_is = ap (λ r. r.status) full.1 })
        | inr other ↦ elim other [
          | inl stopped ↦ inr (inl (stops stopped.1 stopped.2 stopped.0 stopped.3))
          | inr last ↦ inr (inr (record { fewer = last.0; end = page.end; all = all_of_page last.1; status_is = ap (λ r. r.status) last.2 }))
        ]
      ];
    }

    -- unless the page stops before it has entries, it reports its numbers
    abbrev ReportsNumbers : Type 0
    ReportsNumbers = (result.count ≡ length s) × (result.frames_count ≡ length f)

    numbers_of : (x : Status) → result ≡ page_result (length s) (length f) x → ReportsNumbers
    numbers_of x is = (ap (λ r. r.count) is, ap (λ r. r.frames_count) is)

    numbers_reported : (IsStopped of_page bytes from capacity frames_capacity s f (length page.records) result.status → ⊥) → ReportsNumbers
    numbers_reported never = elim page.ends [
      | inl full ↦ numbers_of Success full.1
      | inr other ↦ elim other [
        | inl stopped ↦ absurd (never (stops stopped.1 stopped.2 stopped.0 stopped.3))
        | inr last ↦ numbers_of page.end last.2
      ]
    ]

    numbers_with_space : result.status ≢ NoSpace → ReportsNumbers
    numbers_with_space space = elim page.ends [
      | inl full ↦ numbers_of Success full.1
      | inr other ↦ elim other [
        | inl stopped ↦ elim stopped.3 [
          | inl first ↦ absurd (space (ap (λ r. r.status) first.1))
          | inr later ↦ numbers_of Success later.1
        ]
        | inr last ↦ numbers_of page.end last.2
      ]
    ]

    -- no frames without entries
    no_frames : length s ≡ 0 → length f ≡ 0
    no_frames none = ap length (no_seconds_from of_page (endian_of_file page.page.file) (attributes_of_file page.page.file) page.base 0 page.records f (subst (λ l. ItemsFrom of_page (endian_of_file page.page.file) (attributes_of_file page.page.file) page.base 0 page.records l f) (nil_from_length s none) page_items))

    -- the numbers that it writes, by its status
    abbrev WritesNumbers : Type 0
    WritesNumbers = (written_count result.status result.count ≡ length s) × (written_count result.status result.frames_count ≡ length f)

    written_of : (x : Status) → ((n : ℕ) → written_count x n ≡ n) → result ≡ page_result (length s) (length f) x → WritesNumbers
    written_of x writes is = (ap (λ r. written_count r.status r.count) is ∙ writes (length s), ap (λ r. written_count r.status r.frames_count) is ∙ writes (length f))

    written_at_end : (n : ℕ) → written_count page.end n ≡ n
    written_at_end n = elim page.page.ends [
      | inl full ↦ ap (λ x. written_count x n) full.0
      | inr ended ↦ ap (λ x. written_count x n) ended.1.2 ∙ written_to_end ended.1.0 n
    ]

    numbers_written : WritesNumbers
    numbers_written = elim page.ends [
      | inl full ↦ written_of Success (λ n. refl) full.1
      | inr other ↦ elim other [
        | inl stopped ↦ elim stopped.3 [
          | inl first ↦ (ap (λ r. written_count r.status r.count) first.1 ∙ sym first.0, ap (λ r. written_count r.status r.frames_count) first.1 ∙ sym (no_frames first.0))
          | inr later ↦ written_of Success (λ n. refl) later.1
        ]
        | inr last ↦ written_of page.end written_at_end last.2
      ]
    ]

  -- ---- a call

  module _ (bytes : List ℕ) (from : RecordPosition) (call : PageCall A B) (is : IsCallAt kind bytes from call) where
    abbrev of_call : ItemKind A B
    of_call = items kind laws (wants_frames (length call.frames_before))

    -- what the call writes
    abbrev OwnCall : Type 0
    OwnCall = WritesNothing bytes from is.own is.own_frames call.next call.result.status ⊎ IsDecodedPage kind bytes from (length call.entries_before) (length call.frames_before) is.own is.own_frames call.result call.next

    own_call : OwnCall
    own_call = elim is.ends [
      | inl failed ↦ inl (record {
        failed = record { error = failed.4.0; status_is = failed.4.1; cause = failed.4.2 };
        no_firsts = failed.0;
        no_seconds = failed.1;
        same_position = failed.2;
      })
      | inr page ↦ inr page
    ]

    own_written : (written_count call.result.status call.result.count ≡ length is.own) × (written_count call.result.status call.result.frames_count ≡ length is.own_frames)
    own_written = elim is.ends [
      | inl failed ↦ (
        ap (λ r. written_count call.result.status r.count) failed.3 ∙ written_none call.result.status ∙ sym (ap length failed.0),
        ap (λ r. written_count call.result.status r.frames_count) failed.3 ∙ written_none call.result.status ∙ sym (ap length failed.1),
      )
      | inr page ↦ numbers_written bytes from (length call.entries_before) (length call.frames_before) is.own is.own_frames call.result call.next page
    ]

    entries_are : written_entries call ≡ is.own
    entries_are = ap (λ n. take n call.entries_after) own_written.0 ∙ ap (take (length is.own)) is.written ∙ take-written is.own call.entries_before is.fits

    frames_are : written_frames call ≡ is.own_frames
    frames_are = ap (λ n. take n call.frames_after) own_written.1 ∙ ap (take (length is.own_frames)) is.frames_written ∙ take-written is.own_frames call.frames_before is.frames_fit

    own_writes : WritesItems of_call bytes from (length call.entries_before) (length call.frames_before) is.own is.own_frames call.next call.result.status
    own_writes = elim own_call [
      | inl nothing ↦ inl nothing
      | inr page ↦ inr (item_page bytes from (length call.entries_before) (length call.frames_before) is.own is.own_frames call.result call.next page is.fits is.frames_fit)
    ]

    call_writes : WritesItems of_call bytes from (length call.entries_before) (length call.frames_before) (written_entries call) (written_frames call) call.next call.result.status
    call_writes =
        subst (λ s. WritesItems of_call bytes from (length call.entries_before) (length call.frames_before) s (written_frames call) call.next call.result.status) (sym entries_are)
        (subst (λ f. WritesItems of_call bytes from (length call.entries_before) (length call.frames_before) is.own f call.next call.result.status) (sym frames_are) own_writes)

    -- unless the call stops, it reports its numbers
    own_reported : ((records_count : ℕ) → IsStopped of_call bytes from (length call.entries_before) (length call.frames_before) is.own is.own_frames records_count call.result.status → ⊥) → (call.result.count ≡ length is.own) × (call.result.frames_count ≡ length is.own_frames)
    own_reported never = elim is.ends [
      | inl failed ↦ (ap (λ r. r.count) failed.3 ∙ sym (ap length failed.0), ap (λ r. r.frames_count) failed.3 ∙ sym (ap length failed.1))
      | inr page ↦ numbers_reported bytes from (length call.entries_before) (length call.frames_before) is.own is.own_frames call.result call.next page (never (length page.records))
    ]

    -- a page in whose arrays every record fits ends where the records end
    finds_fitting : (page : IsDecodedPage kind bytes from (length call.entries_before) (length call.frames_before) is.own is.own_frames call.result call.next) → kind.AlwaysFits (length call.frames_before) → (call.result.status ≢ Success) ⊎ (call.result.count < length call.entries_before)
        → FindsAll of_call bytes from is.own is.own_frames call.result.status
    finds_fitting page always found = elim page.ends [
      | inl full ↦ elim found [
        | inl fails ↦ absurd (fails (ap (λ r. r.status) full.1))
        | inr fewer ↦ (let long = full.0 in let count = ap (λ r. r.count) full.1 in absurd (omega (arith, fewer, long, count)))
      ]
      | inr other ↦ elim other [
        | inl stopped ↦
            let lacks = stopped.2 in
            absurd (laws.fits (length call.frames_before) always (endian_of_file page.page.file) (attributes_of_file page.page.file) page.base (length call.entries_before) (length is.own) (length is.own_frames) lacks.next lacks.own lacks.own_frames stopped.1 lacks.adds stopped.0 is.frames_fit lacks.exceeds)
        | inr last ↦ (page.end, ap (λ r. r.status) last.2, all_of_page bytes from (length call.entries_before) (length call.frames_before) is.own is.own_frames call.result call.next page last.1)
      ]
    ]

    -- a call that finds the end writes all entries
    own_finds : IsDecodedPage kind bytes from (length call.entries_before) (length call.frames_before) is.own is.own_frames call.result call.next → FindsEnd kind call → FindsAll of_call bytes from is.own is.own_frames call.result.status
    own_finds page (inl (always, found)) = finds_fitting page always found
    own_finds page (inr (space, found)) =
        let items = item_page bytes from (length call.entries_before) (length call.frames_before) is.own is.own_frames call.result call.next page is.fits is.frames_fit in
        elim found [
          | inl fails ↦ finds_all of_call bytes items space (inl fails)
          | inr none ↦
              let zero = none.0 in
              let some = none.1 in
              let count = (numbers_with_space bytes from (length call.entries_before) (length call.frames_before) is.own is.own_frames call.result call.next page space).0 in
              finds_all of_call bytes items space (inr (omega (arith, zero, some, count), omega (arith, zero, count)))
        ]

    last_writes : ChainWrites of_call bytes from (written_entries call) (written_frames call) call.result.status (FindsEnd kind call)
    last_writes =
        subst (λ s. ChainWrites of_call bytes from s (written_frames call) call.result.status (FindsEnd kind call)) (sym entries_are)
        (subst (λ f. ChainWrites of_call bytes from is.own f call.result.status (FindsEnd kind call)) (sym frames_are)
        (elim own_call [
          | inl nothing ↦ inl (record { failed = nothing.failed; no_firsts = nothing.no_firsts; no_seconds = nothing.no_seconds })
          | inr page ↦
              let items = item_page bytes from (length call.entries_before) (length call.frames_before) is.own is.own_frames call.result call.next page is.fits is.frames_fit in
              inr (record { next = call.next; up_to = items.up_to; all = λ memory found. own_finds page found })
        ]))

  -- ---- two calls

  module _ (bytes : List ℕ) {from next next' : RecordPosition} {capacity frames_capacity : ℕ} {s t : List A} {f g : List B} {result other : PageResult}
      (a : IsDecodedPage kind bytes from capacity frames_capacity s f result next) (b : IsDecodedPage kind bytes from capacity frames_capacity t g other next')
      (fits : length s ≤ capacity) (fits' : length t ≤ capacity) (frames_fit : length f ≤ frames_capacity) (frames_fit' : length g ≤ frames_capacity) where
    abbrev of_both : ItemKind A B
    of_both = items kind laws (wants_frames frames_capacity)

    page_a : ItemPage of_both bytes from capacity frames_capacity s f next result.status
    page_a = item_page bytes from capacity frames_capacity s f result next a fits frames_fit

    page_b : ItemPage of_both bytes from capacity frames_capacity t g next' other.status
    page_b = item_page bytes from capacity frames_capacity t g other next' b fits' frames_fit'

    same_number : length s ≡ length t
    same_number =
        let first = at_most_page of_both bytes page_a page_b.up_to fits' frames_fit' in
        let second = at_most_page of_both bytes page_b page_a.up_to fits frames_fit in
        omega (arith, first, second)

    pub same_written : (s ≡ t) × (f ≡ g)
    same_written = same_items of_both bytes page_a.up_to page_b.up_to same_number

    -- both report what they wrote
    both_report : (x y : Status) → x ≡ y → result ≡ page_result (length s) (length f) x → other ≡ page_result (length t) (length g) y → result ≡ other
    both_report x y same p q = p ∙ (λ i. page_result (length (same_written.0 i)) (length (same_written.1 i)) (same i)) ∙ sym q

    module _ (needed needed' : EntryCounts) (x : IsFollowedByTooMany kind bytes a.base from a.page.file a.records capacity frames_capacity (length s) (length f) needed)
        (y : IsFollowedByTooMany kind bytes b.base from b.page.file b.records capacity frames_capacity (length t) (length g) needed') where
      abbrev to_x : ItemsUpTo of_both bytes from (s ++ x.own) (f ++ x.own_frames) x.after
      to_x = with_next bytes from capacity frames_capacity s f result next a needed x

      abbrev to_y : ItemsUpTo of_both bytes from (t ++ y.own) (g ++ y.own_frames) y.after
      to_y = with_next bytes from capacity frames_capacity t g other next' b needed' y

      -- neither page reads the record that stops the other
      no_more_in_b : length a.records < length b.records → ⊥
      no_more_in_b less =
          let more = of_fewer_records of_both bytes to_x (here bytes from capacity frames_capacity t g other next' b) (omega (arith, less, length-append a.records (x.next ∷ []))) in
          let entries = more.0 in
          let frames = more.1 in
          elim (exceeds_capacity bytes from capacity frames_capacity s f result next a needed x) [
            | inl many ↦ omega (arith, many, entries, fits')
            | inr many ↦ omega (arith, many, frames, frames_fit')
          ]

      no_more_in_a : length b.records < length a.records → ⊥
      no_more_in_a less =
          let more = of_fewer_records of_both bytes to_y (here bytes from capacity frames_capacity s f result next a) (omega (arith, less, length-append b.records (y.next ∷ []))) in
          let entries = more.0 in
          let frames = more.1 in
          elim (exceeds_capacity bytes from capacity frames_capacity t g other next' b needed' y) [
            | inl many ↦ omega (arith, many, entries, fits)
            | inr many ↦ omega (arith, many, frames, frames_fit)
          ]

      same_next : (s ++ x.own ≡ t ++ y.own) × (f ++ x.own_frames ≡ g ++ y.own_frames)
      same_next =
          let long : length a.records ≡ length b.records = elim (cases_lt (length a.records) (length b.records)) [
            | inl less ↦ absurd (no_more_in_b less)
            | inr least ↦ elim (cases_lt (length b.records) (length a.records)) [
              | inl less ↦ absurd (no_more_in_a less)
              | inr most ↦ omega (arith, least, most)
            ]
          ] in
          let long_x = length-append a.records (x.next ∷ []) in
          let long_y = length-append b.records (y.next ∷ []) in
          let most = (of_fewer_records of_both bytes to_x to_y (omega (arith, long, long_x, long_y))).0 in
          let least = (of_fewer_records of_both bytes to_y to_x (omega (arith, long, long_x, long_y))).0 in
          same_items of_both bytes to_x to_y (omega (arith, most, least))

      same_needed : needed ≡ needed'
      same_needed =
          let own : x.own ≡ y.own = append_cancel_left s x.own y.own (same_next.0 ∙ ap (λ l. l ++ y.own) (sym same_written.0)) in
          let own_frames : x.own_frames ≡ y.own_frames = append_cancel_left f x.own_frames y.own_frames (same_next.1 ∙ ap (λ l. l ++ y.own_frames) (sym same_written.1)) in
          laws.one_report capacity frames_capacity (length s) (length f) x.own x.own_frames needed needed' x.exceeds
          (subst (λ n. kind.Exceeds capacity frames_capacity n (length f) x.own x.own_frames needed') (sym same_number)
          (subst (λ n. kind.Exceeds capacity frames_capacity (length t) n x.own x.own_frames needed') (sym (ap length same_written.1))
          (subst (λ l. kind.Exceeds capacity frames_capacity (length t) (length g) l x.own_frames needed') (sym own)
          (subst (λ l. kind.Exceeds capacity frames_capacity (length t) (length g) y.own l needed') (sym own_frames) y.exceeds))))

    -- pages that stop report the same
    both_stop : (needed needed' : EntryCounts) → needed ≡ needed' → ReportsNoSpace kind (length s) (length f) needed result → ReportsNoSpace kind (length t) (length g) needed' other → result ≡ other
    both_stop needed needed' same p q =
        let number = same_number in
        elim p [
          | inl first ↦ elim q [
            | inl first' ↦ first.1 ∙ ap (λ n. page_result n.entries n.frames NoSpace) same ∙ sym first'.1
            | inr later' ↦ (let none = first.0 in let some = later'.0 in absurd (omega (arith, number, none, some)))
          ]
          | inr later ↦ elim q [
            | inl first' ↦ (let none = first'.0 in let some = later.0 in absurd (omega (arith, number, none, some)))
            | inr later' ↦ both_report Success Success refl later.1 later'.1
          ]
        ]

    pub same_report : result ≡ other
    same_report =
        let number = same_number in
        elim a.ends [
          | inl full ↦ (let long = full.0 in elim b.ends [
            | inl full' ↦ both_report Success Success refl full.1 full'.1
            | inr other' ↦ elim other' [
              | inl stopped' ↦ (let fewer = stopped'.0 in absurd (omega (arith, number, long, fewer)))
              | inr last' ↦ (let fewer = last'.0 in absurd (omega (arith, number, long, fewer)))
            ]
          ])
          | inr more ↦ elim more [
            | inl stopped ↦ (let fewer = stopped.0 in elim b.ends [
              | inl full' ↦ (let long = full'.0 in absurd (omega (arith, number, long, fewer)))
              | inr other' ↦ elim other' [
                | inl stopped' ↦ both_stop stopped.1 stopped'.1 (same_needed stopped.1 stopped'.1 stopped.2 stopped'.2) stopped.3 stopped'.3
                | inr last' ↦ absurd (never_stopped of_both bytes (stops bytes from capacity frames_capacity s f result next a stopped.1 stopped.2 fewer stopped.3) (all_of_page bytes from capacity frames_capacity t g other next' b last'.1) fits' frames_fit')
              ]
            ])
            | inr last ↦ (let fewer = last.0 in elim b.ends [
              | inl full' ↦ (let long = full'.0 in absurd (omega (arith, number, long, fewer)))
              | inr other' ↦ elim other' [
                | inl stopped' ↦ absurd (never_stopped of_both bytes (stops bytes from capacity frames_capacity t g other next' b stopped'.1 stopped'.2 stopped'.0 stopped'.3) (all_of_page bytes from capacity frames_capacity s f result next a last.1) fits frames_fit)
                | inr last' ↦ both_report a.end b.end (same_end of_both bytes (all_of_page bytes from capacity frames_capacity s f result next a last.1) (all_of_page bytes from capacity frames_capacity t g other next' b last'.1)) last.2 last'.2
              ]
            ])
          ]
        ]

  pub decoded_call_is_unique : DecodedCallIsUnique kind
  decoded_call_is_unique bytes from call other is is' long long' memory memory' =
      let s = entries_are bytes from call is in
      let t = entries_are bytes from other is' in
      let f = frames_are bytes from call is in
      let g = frames_are bytes from other is' in
      elim is.ends [
        | inl nothing ↦ elim is'.ends [
          | inl nothing' ↦
              let failed : FailsToOpen bytes call.result.status = record { error = nothing.4.0; status_is = nothing.4.1; cause = nothing.4.2 } in
              let failed' : FailsToOpen bytes other.result.status = record { error = nothing'.4.0; status_is = nothing'.4.1; cause = nothing'.4.2 } in (
                nothing.3 ∙ ap (page_result 0 0) (same_failure bytes call.result.status other.result.status failed failed' memory memory') ∙ sym nothing'.3,
                s ∙ nothing.0 ∙ sym nothing'.0 ∙ sym t,
                f ∙ nothing.1 ∙ sym nothing'.1 ∙ sym g,
              )
          | inr page' ↦ absurd (never_fails bytes page'.page (record { error = nothing.4.0; status_is = nothing.4.1; cause = nothing.4.2 }) memory)
        ]
        | inr page ↦ elim is'.ends [
          | inl nothing' ↦ absurd (never_fails bytes page.page (record { error = nothing'.4.0; status_is = nothing'.4.1; cause = nothing'.4.2 }) memory')
          | inr page' ↦
              let moved = subst (λ n. IsDecodedPage kind bytes from (length call.entries_before) n is'.own is'.own_frames other.result other.next) (sym long')
              (subst (λ n. IsDecodedPage kind bytes from n (length other.frames_before) is'.own is'.own_frames other.result other.next) (sym long) page') in
              let fits' = is'.fits in
              let frames_fit' = is'.frames_fit in
              let fits_too : length is'.own ≤ length call.entries_before = omega (arith, long, fits') in
              let frames_fit_too : length is'.own_frames ≤ length call.frames_before = omega (arith, long', frames_fit') in
              let same = same_written bytes page moved is.fits fits_too is.frames_fit frames_fit_too in (
                same_report bytes page moved is.fits fits_too is.frames_fit frames_fit_too,
                s ∙ same.0 ∙ sym t,
                f ∙ same.1 ∙ sym g,
              )
        ]
      ]

  -- ---- a chain

  chain_writes : (bytes : List ℕ) (from : RecordPosition) (wants : Bool) (calls : List (PageCall A B)) (last : PageCall A B) → IsChain kind bytes from wants calls last
      → ChainWrites (items kind laws wants) bytes from (entries_of_chain kind calls last) (frames_of_chain calls last) last.result.status (FindsEnd kind last)
  chain_writes bytes from wants [] last (is, same_wants) = subst (λ w. ChainWrites (items kind laws w) bytes from (written_entries last) (written_frames last) last.result.status (FindsEnd kind last)) same_wants (last_writes bytes from last is)
  chain_writes bytes from wants (call ∷ calls) last (is, same_wants, more) =
      let own = subst (λ w. WritesItems (items kind laws w) bytes from (length call.entries_before) (length call.frames_before) (written_entries call) (written_frames call) call.next call.result.status) same_wants (call_writes bytes from call is) in
      call_before (items kind laws wants) bytes (FindsEnd kind last) own (chain_writes bytes call.next wants calls last more)

  pub chain_is_one_page : ChainIsOneDecodedPage kind
  chain_is_one_page bytes from calls last whole chain is memory room =
      let wants = wants_frames (length whole.frames_before) in
      let same = chain_is_one_call (items kind laws wants) bytes (FindsEnd kind last) room.entries room.frames room.exact_or_end (call_writes bytes from whole is) memory (chain_writes bytes from wants calls last chain) in
      let never : (records_count : ℕ) → IsStopped (items kind laws wants) bytes from (length whole.entries_before) (length whole.frames_before) is.own is.own_frames records_count whole.result.status → ⊥ = λ count stopped. same.not_stopped count
      (subst (λ s. IsStopped (items kind laws wants) bytes from (length whole.entries_before) (length whole.frames_before) s (written_frames whole) count whole.result.status) (sym (entries_are bytes from whole is))
      (subst (λ f. IsStopped (items kind laws wants) bytes from (length whole.entries_before) (length whole.frames_before) is.own f count whole.result.status) (sym (frames_are bytes from whole is)) stopped)) in
      let reported = own_reported bytes from whole is never in
      record {
        same_entries = same.same_firsts;
        same_frames = same.same_seconds;
        count_is = reported.0 ∙ sym (ap length (entries_are bytes from whole is)) ∙ ap length same.same_firsts;
        frames_count_is = reported.1 ∙ sym (ap length (frames_are bytes from whole is)) ∙ ap length same.same_seconds;
        same_status = same.same_status;
      }

pub samples_join : EntriesJoin sample_kind
samples_join = entries_join sample_kind sample_laws

pub samples_are_unique : EntriesAreUnique sample_kind
samples_are_unique = entries_are_unique sample_kind sample_laws

pub sample_page_is_unique : DecodedCallIsUnique sample_kind
sample_page_is_unique = decoded_call_is_unique sample_kind sample_laws

pub chain_is_one_sample_page : ChainIsOneDecodedPage sample_kind
chain_is_one_sample_page = chain_is_one_page sample_kind sample_laws

pub chain_is_one_task_page : ChainIsOneDecodedPage task_kind
chain_is_one_task_page = chain_is_one_page task_kind task_laws

pub chain_is_one_mapping_page : ChainIsOneDecodedPage mapping_kind
chain_is_one_mapping_page = chain_is_one_page mapping_kind mapping_laws

pub chain_is_one_counter_page : ChainIsOneDecodedPage counter_kind
chain_is_one_counter_page = chain_is_one_page counter_kind counter_laws
