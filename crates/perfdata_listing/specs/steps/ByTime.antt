-- Steps of private functions: what a listing of an input in memory in order of time writes, and the causes of its errors.
use Rattle.std.specs.Prelude.{◌⊎◌, ℕ, Bool, true, false, List, Option, Result, Ok, Err}
use Rattle.std.specs.Io.KnownBytes.{Keeps}
use Rattle.linux_perf_data.specs.Layout.{RecordView}
use Rattle.linux_perf_data.specs.declared.perf_file.PerfFile.{PerfFile}
use Rattle.perfdata_listing.specs.Listing.{WritesRecord}
use Rattle.perfdata_listing.specs.declared.list.ListCause.{ListCause}
use Rattle.perfdata_listing.specs.declared.list.ListCause.TheVariants.{Perf}
use Rattle.perfdata_order.specs.InMemoryOrder.{Entry, EntryReturned, EndReturned}
use Rattle.perfdata_order.specs.declared.in_memory.InMemoryOrderedRecords.{InMemoryOrderedRecords}
use Rattle.perfdata_listing.specs.ByTime.{view_of, CallFails}

module _ (IsLine : RecordView → List ℕ → Type 0) (allocates : Bool) where
  -- reading the next record fails
  abbrev pub ReadingFails : InMemoryOrderedRecords → PerfFile → Option (List ℕ) → ListCause → Option (List ℕ) → InMemoryOrderedRecords → PerfFile → Type 0
  ReadingFails old file before (Perf e) after new file' = CallFails old file e new file' × Keeps before after
  ReadingFails old file before _ after new file' = ⊥

  -- what listing one record does: whether there is one, and its line is written
  abbrev pub ListsNextByTime : InMemoryOrderedRecords → PerfFile → Option (List ℕ) → Result Bool ListCause → Option (List ℕ) → InMemoryOrderedRecords
      → PerfFile → Type 0
  ListsNextByTime old file before (Ok true) after new file' =
      (entry : Entry) × EntryReturned old file entry new file' × WritesRecord IsLine allocates (view_of entry) before (Ok tt) after
  ListsNextByTime old file before (Ok false) after new file' = EndReturned old file new file' × Keeps before after
  ListsNextByTime old file before (Err cause) after new file' = ReadingFails old file before cause after new file'
      ⊎ ((entry : Entry) × EntryReturned old file entry new file' × WritesRecord IsLine allocates (view_of entry) before (Err cause) after)
