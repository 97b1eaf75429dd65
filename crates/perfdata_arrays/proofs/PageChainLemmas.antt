-- A chain of calls on a file is one page.
use Rattle.std.proofs.Common.{◌≡◌, ◌≢◌, ◌⊎◌, ℕ, ◌+◌, ◌<◌, ◌≤◌, ◌++◌, List, [], ◌∷◌, length, take, refl, sym, ap, ◌∙◌, subst, arith, inl, inr, length-append}
use Rattle.std.specs.IoError.{error_kind}
use Rattle.std.specs.declared.io.ErrorKind.{ErrorKind}
use Rattle.std.specs.declared.io.ErrorKind.TheVariants as kind
use Rattle.std.proofs.lemmas.Bool.{cases_lt}
use Rattle.std.proofs.lemmas.List.{length-map, map-append}
use Rattle.perfdata_sources.specs.Source.{at_start}
use Rattle.perfdata_sections.specs.declared.error.Error.{Error}
use Rattle.perfdata_sections.specs.declared.error.Error.TheVariants.{IoError, Memory, Read}
use Rattle.perfdata_sections.specs.declared.error.ReadError.{ReadError}
use Rattle.perfdata_sections.specs.declared.error.ReadError.TheVariants as part
use Rattle.perfdata_sections.specs.Error.{IsInvalidData, IsInvalidInput}
use Rattle.linux_perf_data.specs.declared.in_memory.position.RecordPosition.{RecordPosition}
use Rattle.linux_perf_data.specs.FileOpening.{IsFileError}
use Rattle.linux_perf_data.specs.Laws.{SameCause}
use Rattle.linux_perf_data.specs.Layout.{RecordView}
use Rattle.linux_perf_data.proofs.DescribedFiles.{described_file_opens}
use Rattle.linux_perf_data.proofs.FileErrorUniqueness.{opening_error_is_unique}
use Rattle.linux_perf_data.proofs.LayoutUniqueness.{remaining_is_unique}
use Rattle.linux_perf_data.specs.RecordEntries.{with_prefix, record_entries_at, record_entry_at}
use Rattle.perfdata_arrays.specs.PageChains.{ChainIsOnePage, HasMemory, IsCallAt, IsChain, PageCall, chain_entries, written_entries}
use Rattle.perfdata_arrays.specs.Pages.{IsPage, position_after}
use Rattle.perfdata_arrays.specs.Status.{error_status, io_kind_status, read_error_status}
use Rattle.linux_perf_data.specs.declared.in_memory.entries.RecordEntry.{RecordEntry}
use Rattle.perfdata_arrays.specs.declared.status.Status.{Status}
use Rattle.perfdata_arrays.specs.declared.status.Status.TheVariants.{OutOfMemory, Success}
use Rattle.perfdata_arrays.proofs.PageLemmas.{eof_status}
use Rattle.perfdata_arrays.proofs.PageUniqueness.{first_equal, of_first, page_is_unique, pages_join, same_base, some_follow}

-- ---- statuses

io_kind-fails : (k : ErrorKind) → io_kind_status k ≢ Success
io_kind-fails kind.UnexpectedEof is = cc
io_kind-fails kind.InvalidData is = cc
io_kind-fails kind.InvalidInput is = cc
io_kind-fails kind.Unsupported is = cc
io_kind-fails _ is = cc

read-fails : (p : ReadError) → read_error_status p ≢ Success
read-fails part.FeatureSection is = cc
read-fails part.PerfEventAttr is = cc
read-fails part.PerfEventData is = cc
read-fails _ is = cc

-- an error isn't success
error-fails : (e : Error) → error_status e ≢ Success
error-fails (IoError e) is = io_kind-fails (error_kind e) is
error-fails (Read p) is = read-fails p is
error-fails _ is = cc

invalid_input_status : (e : Error) → IsInvalidInput e → error_status e ≡ io_kind_status kind.InvalidInput
invalid_input_status (IoError e) is = ap io_kind_status is
invalid_input_status _ is = absurd is

invalid_data_status : (e : Error) → IsInvalidData e → error_status e ≡ io_kind_status kind.InvalidData
invalid_data_status (IoError e) is = ap io_kind_status is
invalid_data_status _ is = absurd is

-- errors with one cause have one status
pub same_status : (e f : Error) → SameCause e f → error_status e ≡ error_status f
same_status e f same = elim same [
  | inl equal ↦ ap error_status equal
  | inr other ↦ elim other [
    | inl eof ↦ eof_status e eof.0 ∙ sym (eof_status f eof.1)
    | inr more ↦ elim more [
      | inl input ↦ invalid_input_status e input.0 ∙ sym (invalid_input_status f input.1)
      | inr invalid ↦ invalid_data_status e invalid.0 ∙ sym (invalid_data_status f invalid.1)
    ]
  ]
]

-- ---- the entries of a call

-- the entries that are written over the start of an array with capacity for them
pub take-written : {T : Type 0} (es old : List T) → length es ≤ length old → take (length es) (with_prefix es old) ≡ es
take-written [] old fits = refl
take-written (e ∷ es) [] fits = absurd (omega (arith, fits))
take-written (e ∷ es) (o ∷ os) fits = ap (λ l. e ∷ l) (take-written es os (omega (arith, fits)))

-- ---- a call

-- the file doesn't open, no entry is written, and the position is unchanged
record FailsToOpen (bytes : List ℕ) (from : RecordPosition) (status : Status) (next : RecordPosition) (entries : List RecordEntry) : Type 0 where
  error : Error
  status_is : status ≡ error_status error
  cause : error ≢ Memory → IsFileError (at_start bytes) error
  none : entries ≡ []
  unmoved : next ≡ from

-- the entries are those of a page
record WritesPage (bytes : List ℕ) (from : RecordPosition) (capacity : ℕ) (status : Status) (next : RecordPosition) (entries : List RecordEntry) : Type 0 where
  base : ℕ
  records : List RecordView
  page : IsPage bytes base from capacity records status next
  entries_are : entries ≡ record_entries_at base records

length-entries : (base : ℕ) (records : List RecordView) → length (record_entries_at base records) ≡ length records
length-entries base records = length-map records (record_entry_at base)

module _ (bytes : List ℕ) (from : RecordPosition) (call : PageCall) (is : IsCallAt bytes from call) where
  written_are : written_entries call ≡ record_entries_at is.base is.records
  written_are =
      let es : List RecordEntry = record_entries_at is.base is.records in
      let same : length es ≡ length is.records = length-entries is.base is.records in
      let fits = is.fits in
      ap (λ n. take n call.after) (is.writes.count ∙ sym same) ∙ ap (take (length es)) is.writes.written ∙ take-written es call.before (omega (arith, same, fits))

  written_count : length (written_entries call) ≡ call.result.count
  written_count = ap length written_are ∙ length-entries is.base is.records ∙ sym is.writes.count

  call_writes : FailsToOpen bytes from call.result.status call.next (written_entries call) ⊎ WritesPage bytes from (length call.before) call.result.status call.next (written_entries call)
  call_writes = elim is.ends [
    | inl failed ↦ inl (record { error = failed.2.0; status_is = failed.2.1; cause = failed.2.2; none = written_are ∙ ap (record_entries_at is.base) failed.0; unmoved = failed.1 })
    | inr page ↦ inr (record { base = is.base; records = is.records; page = page; entries_are = written_are })
  ]

-- ---- a chain

-- a page with fewer records than its capacity is one of any capacity above their number
with_capacity : (bytes : List ℕ) (base capacity capacity' : ℕ) (from next : RecordPosition) (records : List RecordView) (status : Status) → length records < capacity → length records < capacity'
    → IsPage bytes base from capacity records status next → IsPage bytes base from capacity' records status next
with_capacity bytes base capacity capacity' from next records status fewer fewer' page = record {
  file = page.file;
  header = page.header;
  describes = page.describes;
  first_record_at = page.first_record_at;
  extends_remaining = page.extends_remaining;
  ends = elim page.ends [
    | inl full ↦ (let long = full.1 in absurd (omega (arith, long, fewer)))
    | inr ended ↦ inr (fewer', ended.1)
  ];
  next_position = page.next_position;
  next_fits = page.next_fits;
  next_round_fits = page.next_round_fits;
}

-- a page with a capacity of exactly these records contains them
exact_page : (bytes : List ℕ) {base base' capacity capacity' : ℕ} {from next next' : RecordPosition} {records records' : List RecordView} {status status' : Status} (a : IsPage bytes base from capacity records status next) (b : IsPage bytes base' from capacity' records' status' next')
    → length records' < capacity' → capacity ≡ length records' → (records ≡ records') × (base ≡ base') × (next ≡ next')
exact_page bytes {base} {base'} {capacity} {capacity'} {from} {next} {next'} {records} {records'} {status} {status'} a b fewer is = elim a.ends [
  | inl full ↦ elim b.ends [
    | inl all ↦ (let long = all.1 in absurd (omega (arith, long, fewer)))
    | inr ended ↦
        let x = some_follow bytes a in
        let unique = remaining_is_unique _ _ _ _ _ _ _ _ _ _ x.1.1 (of_first bytes a b from (records' ++ []) ended.1.0 (b.extends_remaining [] ended.1.0 ended.1.1)) in
        let long = full.1 in
        let same = first_equal records records' x.0 [] unique.0 (omega (arith, long, is)) in
        (same, same_base bytes a b, a.next_position ∙ ap (position_after from) same ∙ sym b.next_position)
  ]
  | inr ended ↦
      let less = ended.0 in
      let unique = page_is_unique bytes base base' capacity capacity' from next next' records records' status status' (inr (less, fewer)) a b in
      absurd (omega (arith, less, is, ap length unique.0))
]

-- a file that opens has no error
never_fails : (bytes : List ℕ) {base capacity : ℕ} {from next from' next' : RecordPosition} {records : List RecordView} {status status' : Status} {entries : List RecordEntry}
    → IsPage bytes base from capacity records status next → FailsToOpen bytes from' status' next' entries → status' ≢ OutOfMemory → ⊥
never_fails bytes page failed memory =
    described_file_opens (at_start bytes) page.header page.file failed.error page.describes (failed.cause (λ is. memory (failed.status_is ∙ ap error_status is)))

-- the file doesn't open, or the chain writes a page with a capacity above the number of its records
abbrev ChainWrites : List ℕ → RecordPosition → List PageCall → PageCall → Type 0
ChainWrites bytes from calls last =
    FailsToOpen bytes from last.result.status last.next (chain_entries calls last)
    ⊎ ((capacity : ℕ) × WritesPage bytes from capacity last.result.status last.next (chain_entries calls last) × (length (chain_entries calls last) < capacity))

chain_writes : (bytes : List ℕ) (from : RecordPosition) (calls : List PageCall) (last : PageCall) → IsChain bytes from calls last → HasMemory last → ChainWrites bytes from calls last
chain_writes bytes from [] last (is, fewer) memory = elim (call_writes bytes from last is) [
  | inl failed ↦ inl failed
  | inr page ↦ inr (length last.before, page, omega (arith, fewer, written_count bytes from last is))
]
chain_writes bytes from (call ∷ calls) last (is, full, more) memory = elim (call_writes bytes from call is) [
  | inl failed ↦ absurd (error-fails failed.error (sym failed.status_is ∙ full.0))
  | inr first ↦ elim (chain_writes bytes call.next calls last more memory) [
    | inl failed ↦ absurd (never_fails bytes first.page failed memory)
    | inr later ↦
        let count = written_count bytes from call is in
        let whole = full.1 in
        let long : length first.records ≡ length call.before = sym (length-entries first.base first.records) ∙ sym (ap length first.entries_are) ∙ count ∙ whole in
        let rest = later.1 in
        let succeeds = subst (λ s. IsPage bytes first.base from (length call.before) first.records s call.next) full.0 first.page in
        let fewer = later.2 in
        inr (
          length call.before + later.0,
          record {
            base = first.base;
            records = first.records ++ rest.records;
            page = pages_join bytes first.base rest.base (length call.before) later.0 from call.next last.next first.records rest.records last.result.status succeeds long rest.page;
            entries_are = ap (λ l. l ++ chain_entries calls last) first.entries_are
                ∙ ap (λ l. record_entries_at first.base first.records ++ l) (rest.entries_are ∙ ap (λ n. record_entries_at n rest.records) (sym (same_base bytes first.page rest.page)))
                ∙ sym (map-append (record_entry_at first.base) first.records rest.records);
          },
          omega (arith, fewer, count, whole, length-append (written_entries call) (chain_entries calls last)),
        )
  ]
]

pub chain_is_one_page : ChainIsOnePage
chain_is_one_page bytes from calls last whole chain is larger memory memory' =
    let same_entries : written_entries whole ≡ chain_entries calls last → whole.result.count ≡ length (chain_entries calls last) = λ e. sym (written_count bytes from whole is) ∙ ap length e in
    elim (call_writes bytes from whole is) [
      | inl failed ↦ elim (chain_writes bytes from calls last chain memory) [
        | inl failed' ↦
            let none = failed.none ∙ sym failed'.none in
            let cause = failed.cause (λ e. memory' (failed.status_is ∙ ap error_status e)) in
            let cause' = failed'.cause (λ e. memory (failed'.status_is ∙ ap error_status e)) in
            (same_entries none, none, failed.unmoved ∙ sym failed'.unmoved, λ _. failed.status_is ∙ same_status failed.error failed'.error (opening_error_is_unique (at_start bytes) failed.error failed'.error cause cause') ∙ sym failed'.status_is)
        | inr page ↦ absurd (never_fails bytes page.1.page failed memory')
      ]
      | inr page ↦ elim (chain_writes bytes from calls last chain memory) [
        | inl failed ↦ absurd (never_fails bytes page.page failed memory)
        | inr found ↦
            let joined = found.1 in
            let fewer = found.2 in
            let long : length (chain_entries calls last) ≡ length joined.records = ap length joined.entries_are ∙ length-entries joined.base joined.records in
            let below : length joined.records < found.0 = omega (arith, long, fewer) in
            elim (cases_lt (length joined.records) (length whole.before)) [
              | inl less ↦
                  let raised = with_capacity bytes joined.base found.0 (length whole.before) from last.next joined.records last.result.status below less joined.page in
                  let unique = page_is_unique bytes page.base joined.base (length whole.before) (length whole.before) from whole.next last.next page.records joined.records whole.result.status last.result.status (inl refl) page.page raised in
                  let same : written_entries whole ≡ chain_entries calls last =
                  page.entries_are ∙ ap (record_entries_at page.base) unique.0 ∙ ap (λ n. record_entries_at n joined.records) unique.2 ∙ sym joined.entries_are in
                  (same_entries same, same, unique.3, λ _. unique.1)
              | inr exact ↦
                  let unique = exact_page bytes page.page joined.page below (omega (arith, long, larger, exact)) in
                  let same : written_entries whole ≡ chain_entries calls last =
                  page.entries_are ∙ ap (record_entries_at page.base) unique.0 ∙ ap (λ n. record_entries_at n joined.records) unique.1 ∙ sym joined.entries_are in
                  (same_entries same, same, unique.2, λ less. absurd (omega (arith, long, exact, less)))
            ]
      ]
    ]
