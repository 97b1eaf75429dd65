-- What a listing of an input in memory in order of time writes, and the causes of its errors.
use Rattle.std.specs.Prelude.{◌≡◌, ◌⊎◌, ℕ, Bool, List, [], length, map, Option, Result, Ok, Err}
use Rattle.linux_perf_data.specs.Layout.{RecordView}
use Rattle.linux_perf_data.specs.RecordViews.{record_view_of}
use Rattle.linux_perf_data.specs.declared.in_memory.InMemoryRecords.{InMemoryRecords}
use Rattle.linux_perf_data.specs.declared.perf_file.PerfFile.{PerfFile}
use Rattle.perfdata_listing.specs.Listing.{WritesLines, WrotePrefix}
use Rattle.perfdata_listing.specs.declared.list.ListCause.{ListCause}
use Rattle.perfdata_listing.specs.declared.list.ListCause.TheVariants.{Perf, Write}
use Rattle.perfdata_listing.specs.declared.list.ListFault.{ListFault}
use Rattle.perfdata_order.specs.InMemoryOrder.{Entry, Step, TakesSteps, returned_in, IsNewOrder, EntryReturned, ErrorReturned, Progress}
use Rattle.perfdata_order.specs.Sorter.{held_of}
use Rattle.perfdata_order.specs.declared.in_memory.InMemoryOrderedRecords.{InMemoryOrderedRecords}
use Rattle.perfdata_order.specs.declared.in_memory.PendingStep.TheVariants.{End}
use Rattle.perfdata_sections.specs.declared.error.Error.{Error}
use Rattle.perfdata_sections.specs.declared.error.Error.TheVariants.{Memory}

-- a returned record, as users see it
abbrev pub view_of : Entry → RecordView
view_of entry = record_view_of entry.0 entry.1

-- the records that the steps returned, in order
abbrev pub views_in : List Step → List RecordView
views_in steps = map view_of (returned_in steps)

-- the call for the next record returned this error; if memory ran out for the order, nothing was returned
abbrev pub CallFails : InMemoryOrderedRecords → PerfFile → Error → InMemoryOrderedRecords → PerfFile → Type 0
CallFails old file e new file' = ErrorReturned old file e new file' ⊎ ((e ≡ Memory) × Progress old file new file')

module _ (IsLine : RecordView → List ℕ → Type 0) (allocates : Bool) where
  -- the records that some steps returned are listed
  pub record ListedSteps (old : InMemoryOrderedRecords) (file : PerfFile) (before after : Option (List ℕ)) (lines : ℕ) (new : InMemoryOrderedRecords)
      (file' : PerfFile) : Type 0 where
    pub steps : List Step
    pub taken : TakesSteps steps old file new file'
    pub count : lines ≡ length (returned_in steps)
    pub appends : WritesLines IsLine allocates before after (views_in steps)

  -- all records are listed
  pub record ListedByTime (records : InMemoryRecords) (file : PerfFile) (before after : Option (List ℕ)) (lines : ℕ) : Type 0 where
    pub first : InMemoryOrderedRecords
    pub is_new : IsNewOrder records first
    pub last : InMemoryOrderedRecords
    pub last_file : PerfFile
    pub listed : ListedSteps first file before after lines last last_file
    pub at_end : last.pending ≡ End
    pub all_returned : held_of last.sorter ≡ []

  -- The first records are listed, and then the call for the next one fails, or memory runs out for its line.
  pub record ListedByTimeUntilError (records : InMemoryRecords) (file : PerfFile) (before after : Option (List ℕ)) (lines : ℕ) (e : Error) : Type 0 where
    pub first : InMemoryOrderedRecords
    pub is_new : IsNewOrder records first
    pub last : InMemoryOrderedRecords
    pub last_file : PerfFile
    pub listed : ListedSteps first file before after lines last last_file
    pub new : InMemoryOrderedRecords
    pub new_file : PerfFile
    pub cause : CallFails last last_file e new new_file ⊎ ((e ≡ Memory) × ((entry : Entry) × EntryReturned last last_file entry new new_file))

  -- the first records are listed, and a proper prefix of the next record's line is written
  pub record ListedByTimePartOfNext (records : InMemoryRecords) (file : PerfFile) (before after : Option (List ℕ)) (lines : ℕ) : Type 0 where
    pub first : InMemoryOrderedRecords
    pub is_new : IsNewOrder records first
    pub last : InMemoryOrderedRecords
    pub last_file : PerfFile
    pub steps : List Step
    pub taken : TakesSteps steps first file last last_file
    pub count : lines ≡ length (returned_in steps)
    pub next : Entry
    pub new : InMemoryOrderedRecords
    pub new_file : PerfFile
    pub returned : EntryReturned last last_file next new new_file
    pub wrote : WrotePrefix IsLine allocates before after (views_in steps) (view_of next)

  abbrev pub ListingByTimeFails : InMemoryRecords → PerfFile → Option (List ℕ) → Option (List ℕ) → ℕ → ListCause → Type 0
  ListingByTimeFails records file before after lines (Perf e) = ListedByTimeUntilError records file before after lines e
  ListingByTimeFails records file before after lines (Write e) = ListedByTimePartOfNext records file before after lines
  ListingByTimeFails records file before after lines _ = ⊥

  -- what a listing in order of time does
  abbrev pub ListsByTime : InMemoryRecords → PerfFile → Option (List ℕ) → Result ℕ ListFault → Option (List ℕ) → Type 0
  ListsByTime records file before (Ok lines) after = ListedByTime records file before after lines
  ListsByTime records file before (Err fault) after = ListingByTimeFails records file before after fault.lines fault.cause
