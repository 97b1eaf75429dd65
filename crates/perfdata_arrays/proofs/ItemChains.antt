-- Calls that write what records add to two lists: a chain of them writes what one call with arrays for all writes.
use Rattle.std.proofs.Common.{◌≡◌, ◌≢◌, ◌⊎◌, ℕ, ◌+◌, ◌<◌, ◌≤◌, ◌++◌, List, [], length, sym, ap, ◌∙◌, subst, arith, inl, inr, append-nil}
use Rattle.std.proofs.lemmas.Bool.{cases_lt}
use Rattle.std.proofs.lemmas.List.{nil_from_length}
use Rattle.perfdata_sources.specs.Source.{at_start}
use Rattle.perfdata_sections.specs.declared.error.Error.{Error}
use Rattle.perfdata_sections.specs.declared.error.Error.TheVariants.{Memory}
use Rattle.linux_perf_data.proofs.DescribedFiles.{described_file_opens}
use Rattle.linux_perf_data.proofs.FileErrorUniqueness.{opening_error_is_unique}
use Rattle.linux_perf_data.specs.FileOpening.{IsFileError}
use Rattle.linux_perf_data.specs.Layout.{RecordView}
use Rattle.linux_perf_data.specs.PerfFile.{attributes_of_file, endian_of_file}
use Rattle.linux_perf_data.specs.declared.in_memory.position.RecordPosition.{RecordPosition}
use Rattle.perfdata_arrays.proofs.PageChainLemmas.{same_status}
use Rattle.perfdata_arrays.specs.Pages.{IsPage}
use Rattle.perfdata_arrays.specs.Status.{error_status}
use Rattle.perfdata_arrays.specs.declared.status.Status.{Status}
use Rattle.perfdata_arrays.specs.declared.status.Status.TheVariants.{NoSpace, OutOfMemory, Success}
use Rattle.perfdata_arrays.proofs.PageItems.{AllItems, ItemsUpTo, all_items_join, at_most_all, items_join, of_fewer_records, same_end, same_items}
use Rattle.perfdata_arrays.proofs.RecordItems.{ItemKind, ItemsFrom, joined, no_seconds_from, unshifted_all}

-- ---- a file that doesn't open

pub record FailsToOpen (bytes : List ℕ) (reported : Status) : Type 0 where
  pub error : Error
  pub status_is : reported ≡ error_status error
  pub cause : error ≢ Memory → IsFileError (at_start bytes) error

-- memory doesn't run out
abbrev pub KeepsMemory : Status → Type 0
KeepsMemory reported = reported ≢ OutOfMemory

-- the cause, if memory didn't run out
cause_of : (bytes : List ℕ) (s : Status) (failed : FailsToOpen bytes s) → KeepsMemory s → IsFileError (at_start bytes) failed.error
cause_of bytes s failed memory = failed.cause (λ is. memory (failed.status_is ∙ ap error_status is))

-- a file that opens has no error
pub never_fails : (bytes : List ℕ) {base capacity : ℕ} {from next : RecordPosition} {records : List RecordView} {end : Status} {s : Status}
    → IsPage bytes base from capacity records end next → FailsToOpen bytes s → KeepsMemory s → ⊥
never_fails bytes {base} {capacity} {from} {next} {records} {end} {s} page failed memory =
    described_file_opens (at_start bytes) page.header page.file failed.error page.describes (cause_of bytes s failed memory)

-- the file fails with one status
pub same_failure : (bytes : List ℕ) (s t : Status) → FailsToOpen bytes s → FailsToOpen bytes t → KeepsMemory s → KeepsMemory t → s ≡ t
same_failure bytes s t a b memory memory' =
    a.status_is ∙ same_status a.error b.error (opening_error_is_unique (at_start bytes) a.error b.error (cause_of bytes s a memory) (cause_of bytes t b memory')) ∙ sym b.status_is

-- a call that writes nothing, as the file doesn't open
pub record WritesNothing {A B : Type 0} (bytes : List ℕ) (from : RecordPosition) (s : List A) (f : List B) (next : RecordPosition) (reported : Status) : Type 0 where
  pub failed : FailsToOpen bytes reported
  pub no_firsts : s ≡ []
  pub no_seconds : f ≡ []
  pub same_position : next ≡ from

-- the last call of a chain fails, and the chain writes nothing
pub record ReachesNothing {A B : Type 0} (bytes : List ℕ) (s : List A) (f : List B) (reported : Status) : Type 0 where
  pub failed : FailsToOpen bytes reported
  pub no_firsts : s ≡ []
  pub no_seconds : f ≡ []

module _ {A B : Type 0} (kind : ItemKind A B) where
  -- ---- a page

  -- the array is full
  pub record IsFull (capacity : ℕ) (s : List A) (reported : Status) : Type 0 where
    pub full : length s ≡ capacity
    pub status_is : reported ≡ Success

  -- The array isn't full. The records and the next one add more than fits, which is reported if they add nothing before it.
  pub record IsStopped (bytes : List ℕ) (from : RecordPosition) (capacity seconds_capacity : ℕ) (s : List A) (f : List B) (records_count : ℕ) (reported : Status) : Type 0 where
    pub more_firsts : List A
    pub more_seconds : List B
    pub after : RecordPosition
    pub up_to : ItemsUpTo kind bytes from more_firsts more_seconds after
    pub one_more : length up_to.records ≡ records_count + 1
    pub exceeds : (capacity < length more_firsts) ⊎ (seconds_capacity < length more_seconds)
    pub fewer : length s < capacity
    pub reports : ((length s ≡ 0) × (reported ≡ NoSpace)) ⊎ ((0 < length s) × (reported ≡ Success))

  -- the records end
  pub record IsLast (bytes : List ℕ) (from : RecordPosition) (capacity : ℕ) (s : List A) (f : List B) (reported : Status) : Type 0 where
    pub fewer : length s < capacity
    pub end : Status
    pub all : AllItems kind bytes from s f end
    pub status_is : reported ≡ end

  -- These are what records add to arrays with these capacities: the first array is full, or the next record adds more than fits, or the
  -- records end.
  pub record ItemPage (bytes : List ℕ) (from : RecordPosition) (capacity seconds_capacity : ℕ) (s : List A) (f : List B) (next : RecordPosition) (reported : Status) : Type 0 where
    pub up_to : ItemsUpTo kind bytes from s f next
    pub fits : length s ≤ capacity
    pub seconds_fit : length f ≤ seconds_capacity
    pub ends : IsFull capacity s reported ⊎ (IsStopped bytes from capacity seconds_capacity s f (length up_to.records) reported ⊎ IsLast bytes from capacity s f reported)

  -- no more fits in the arrays
  pub at_most_page : (bytes : List ℕ) {from next next' : RecordPosition} {capacity seconds_capacity : ℕ} {s t : List A} {f g : List B} {reported : Status}
      → ItemPage bytes from capacity seconds_capacity s f next reported → ItemsUpTo kind bytes from t g next' → length t ≤ capacity → length g ≤ seconds_capacity → length t ≤ length s
  at_most_page bytes {from} {next} {next'} {capacity} {seconds_capacity} {s} {t} {f} {g} {reported} page b fits seconds_fit = elim page.ends [
    | inl full ↦ (let long = full.full in omega (arith, long, fits))
    | inr other ↦ elim other [
      | inl stopped ↦ elim (cases_lt (length page.up_to.records) (length b.records)) [
        | inl less ↦
            let one_more = stopped.one_more in
            let more = of_fewer_records kind bytes stopped.up_to b (omega (arith, one_more, less)) in
            let more_firsts = more.0 in
            let more_seconds = more.1 in
            elim stopped.exceeds [
              | inl many ↦ absurd (omega (arith, many, more_firsts, fits))
              | inr many ↦ absurd (omega (arith, many, more_seconds, seconds_fit))
            ]
        | inr least ↦ (of_fewer_records kind bytes b page.up_to least).0
      ]
      | inr last ↦ (at_most_all kind bytes b last.all).0
    ]
  ]

  -- all that follows doesn't fit if the next record doesn't
  pub never_stopped : (bytes : List ℕ) {from : RecordPosition} {capacity seconds_capacity records_count : ℕ} {s t : List A} {f g : List B} {reported : Status} {end : Status}
      → IsStopped bytes from capacity seconds_capacity s f records_count reported → AllItems kind bytes from t g end → length t ≤ capacity → length g ≤ seconds_capacity → ⊥
  never_stopped bytes {from} {capacity} {seconds_capacity} {records_count} {s} {t} {f} {g} {reported} {end} stopped all fits seconds_fit =
      let within = at_most_all kind bytes stopped.up_to all in
      let firsts = within.0 in
      let seconds = within.1 in
      elim stopped.exceeds [
        | inl many ↦ omega (arith, many, firsts, fits)
        | inr many ↦ omega (arith, many, seconds, seconds_fit)
      ]

  -- ---- a chain

  -- all was written, and the status is that of the end
  abbrev pub FindsAll : List ℕ → RecordPosition → List A → List B → Status → Type 0
  FindsAll bytes from s f reported = (end : Status) × (reported ≡ end) × AllItems kind bytes from s f end

  -- a page that reports an error other than `NoSpace`, or nothing at all, ends where the records end
  pub finds_all : (bytes : List ℕ) {from next : RecordPosition} {capacity seconds_capacity : ℕ} {s : List A} {f : List B} {reported : Status} (page : ItemPage bytes from capacity seconds_capacity s f next reported) → reported ≢ NoSpace
      → (reported ≢ Success) ⊎ ((length s < capacity) × (length s ≡ 0)) → FindsAll bytes from s f reported
  finds_all bytes {from} {next} {capacity} {seconds_capacity} {s} {f} {reported} page other found = elim page.ends [
    | inl full ↦ elim found [
      | inl fails ↦ absurd (fails full.status_is)
      | inr fewer ↦ (let less = fewer.0 in let long = full.full in absurd (omega (arith, less, long)))
    ]
    | inr more ↦ elim more [
      | inl stopped ↦ elim stopped.reports [
        | inl first ↦ absurd (other first.1)
        | inr later ↦ elim found [
          | inl fails ↦ absurd (fails later.1)
          | inr fewer ↦ (let none = fewer.1 in let some = later.0 in absurd (omega (arith, none, some)))
        ]
      ]
      | inr last ↦ (last.end, last.status_is, last.all)
    ]
  ]

  -- the file doesn't open, or the call writes a page
  abbrev pub WritesItems : List ℕ → RecordPosition → ℕ → ℕ → List A → List B → RecordPosition → Status → Type 0
  WritesItems bytes from capacity seconds_capacity s f next reported = WritesNothing bytes from s f next reported ⊎ ItemPage bytes from capacity seconds_capacity s f next reported

  -- A chain has written what the records up to a position add, and all if its last call finds the end.
  pub record Reaches (bytes : List ℕ) (from : RecordPosition) (s : List A) (f : List B) (reported : Status) (Found : Type 0) : Type 0 where
    pub next : RecordPosition
    pub up_to : ItemsUpTo kind bytes from s f next
    pub all : KeepsMemory reported → Found → FindsAll bytes from s f reported

  abbrev pub ChainWrites : List ℕ → RecordPosition → List A → List B → Status → Type 0 → Type 0
  ChainWrites bytes from s f reported Found = ReachesNothing bytes s f reported ⊎ Reaches bytes from s f reported Found

  -- a call, and the chain from its end on
  pub call_before : (bytes : List ℕ) {from next : RecordPosition} {capacity seconds_capacity : ℕ} {s t : List A} {f g : List B} {own reported : Status} (Found : Type 0)
      → WritesItems bytes from capacity seconds_capacity s f next own → ChainWrites bytes next t g reported Found → ChainWrites bytes from (joined kind s f t) (f ++ g) reported Found
  call_before bytes {from} {next} {capacity} {seconds_capacity} {s} {t} {f} {g} {own} {reported} Found writes chain = elim writes [
    | inl nothing ↦ elim chain [
      | inl none ↦ inl (record {
        failed = none.failed;
        no_firsts = λ i. joined kind (nothing.no_firsts i) (nothing.no_seconds i) (none.no_firsts i);
        no_seconds = λ i. nothing.no_seconds i ++ none.no_seconds i;
      })
      | inr reached ↦
          let same_firsts : t ≡ joined kind s f t = sym (unshifted_all kind t) ∙ (λ i. joined kind (sym nothing.no_firsts i) (sym nothing.no_seconds i) t) in
          let same_seconds : g ≡ f ++ g = ap (λ l. l ++ g) (sym nothing.no_seconds) in
          inr (subst (λ l. Reaches bytes from l (f ++ g) reported Found) same_firsts
          (subst (λ l. Reaches bytes from t l reported Found) same_seconds
          (subst (λ p. Reaches bytes p t g reported Found) nothing.same_position reached)))
    ]
    | inr page ↦ elim chain [
      | inl none ↦
          let same_firsts : s ≡ joined kind s f t = sym (append-nil s) ∙ ap (joined kind s f) (sym none.no_firsts) in
          let same_seconds : f ≡ f ++ g = sym (append-nil f) ∙ ap (λ l. f ++ l) (sym none.no_seconds) in
          inr (record {
            next = next;
            up_to = subst (λ l. ItemsUpTo kind bytes from l (f ++ g) next) same_firsts (subst (λ l. ItemsUpTo kind bytes from s l next) same_seconds page.up_to);
            all = λ memory found. absurd (never_fails bytes page.up_to.page none.failed memory);
          })
      | inr reached ↦ inr (record {
        next = reached.next;
        up_to = items_join kind bytes page.up_to reached.up_to;
        all = λ memory found. let end = reached.all memory found in (end.0, end.1, all_items_join kind bytes page.up_to end.2);
      })
    ]
  ]

  -- ---- a chain and one call

  -- The call writes the same, and stops at no record. If its array isn't full, it reports the same.
  pub record WritesSameItems (bytes : List ℕ) (from : RecordPosition) (capacity seconds_capacity : ℕ) (s t : List A) (f g : List B) (reported chain_reported : Status) : Type 0 where
    pub same_firsts : s ≡ t
    pub same_seconds : f ≡ g
    pub same_status : length t < capacity → reported ≡ chain_reported
    pub not_stopped : (records_count : ℕ) → IsStopped bytes from capacity seconds_capacity s f records_count reported → ⊥

  module _ (bytes : List ℕ) {from next : RecordPosition} {capacity seconds_capacity : ℕ} {s t : List A} {f g : List B} {reported chain_reported : Status} (Found : Type 0)
      (fits : length t ≤ capacity) (seconds_fit : length g ≤ seconds_capacity) (exact_or_end : (length t ≡ capacity) ⊎ (KeepsMemory chain_reported × Found)) where
    page_of_nothing : ItemPage bytes from capacity seconds_capacity s f next reported → ReachesNothing bytes t g chain_reported → WritesSameItems bytes from capacity seconds_capacity s t f g reported chain_reported
    page_of_nothing page none = elim exact_or_end [
      | inl exact ↦
          let page_fits = page.fits in
          let empty = ap length none.no_firsts in
          let no_firsts : s ≡ [] = nil_from_length s (omega (arith, page_fits, empty, exact)) in
          let no_seconds = no_seconds_from kind (endian_of_file page.up_to.page.file) (attributes_of_file page.up_to.page.file) page.up_to.base 0 page.up_to.records f
          (subst (λ l. ItemsFrom kind (endian_of_file page.up_to.page.file) (attributes_of_file page.up_to.page.file) page.up_to.base 0 page.up_to.records l f) no_firsts page.up_to.items) in
          record {
            same_firsts = no_firsts ∙ sym none.no_firsts;
            same_seconds = no_seconds ∙ sym none.no_seconds;
            same_status = λ less. absurd (omega (arith, less, exact));
            not_stopped = λ count stopped. let fewer = stopped.fewer in omega (arith, fewer, empty, exact);
          }
      | inr end ↦ absurd (never_fails bytes page.up_to.page none.failed end.0)
    ]

    page_of_chain : ItemPage bytes from capacity seconds_capacity s f next reported → Reaches bytes from t g chain_reported Found → WritesSameItems bytes from capacity seconds_capacity s t f g reported chain_reported
    page_of_chain page reached =
        let most = at_most_page bytes page reached.up_to fits seconds_fit in
        let page_fits = page.fits in
        let least : length s ≤ length t = elim exact_or_end [
          | inl exact ↦ omega (arith, page_fits, exact)
          | inr end ↦ (at_most_all kind bytes page.up_to (reached.all end.0 end.1).2).0
        ] in
        let number : length s ≡ length t = omega (arith, most, least) in
        let same = same_items kind bytes page.up_to reached.up_to number in
        let never : (records_count : ℕ) → IsStopped bytes from capacity seconds_capacity s f records_count reported → ⊥ = λ count stopped. elim exact_or_end [
          | inl exact ↦ (let fewer = stopped.fewer in omega (arith, fewer, number, exact))
          | inr end ↦ never_stopped bytes stopped (reached.all end.0 end.1).2 fits seconds_fit
        ] in
        record {
          same_firsts = same.0;
          same_seconds = same.1;
          not_stopped = never;
          same_status = λ less. elim page.ends [
            | inl full ↦ (let long = full.full in absurd (omega (arith, less, long, number)))
            | inr other ↦ elim other [
              | inl stopped ↦ absurd (never (length page.up_to.records) stopped)
              | inr last ↦ elim exact_or_end [
                | inl exact ↦ absurd (omega (arith, less, exact))
                | inr end ↦ (let found = reached.all end.0 end.1 in last.status_is ∙ same_end kind bytes last.all found.2 ∙ sym found.1)
              ]
            ]
          ];
        }

    -- The call has capacity for what the chain writes, and for no more unless the chain finds the end.
    pub chain_is_one_call : WritesItems bytes from capacity seconds_capacity s f next reported → KeepsMemory reported → ChainWrites bytes from t g chain_reported Found → WritesSameItems bytes from capacity seconds_capacity s t f g reported chain_reported
    chain_is_one_call whole memory chain = elim whole [
      | inl nothing ↦ elim chain [
        | inl none ↦ record {
          same_firsts = nothing.no_firsts ∙ sym none.no_firsts;
          same_seconds = nothing.no_seconds ∙ sym none.no_seconds;
          same_status = λ less. elim exact_or_end [
            | inl exact ↦ absurd (omega (arith, less, exact))
            | inr end ↦ same_failure bytes reported chain_reported nothing.failed none.failed memory end.0
          ];
          not_stopped = λ count stopped. never_fails bytes stopped.up_to.page nothing.failed memory;
        }
        | inr reached ↦ absurd (never_fails bytes reached.up_to.page nothing.failed memory)
      ]
      | inr page ↦ elim chain [
        | inl none ↦ page_of_nothing page none
        | inr reached ↦ page_of_chain page reached
      ]
    ]
