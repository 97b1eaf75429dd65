-- Entries of consecutive pages, and chains of calls that write the entries of a file in pages.
use Rattle.std.specs.Prelude.{◌≡◌, ◌≢◌, ◌⊎◌, ℕ, ◌<◌, ◌≤◌, ◌++◌, Bool, List, [], ◌∷◌, length, map, take}
use Rattle.linux_perf_data.specs.PerfFile.{attributes_of_file, endian_of_file}
use Rattle.linux_perf_data.specs.Layout.{RecordView}
use Rattle.linux_perf_data.specs.declared.in_memory.position.RecordPosition.{RecordPosition}
use Rattle.perfdata_arrays.specs.DecodedPages.{ReadsDecodedPage}
use Rattle.perfdata_arrays.specs.Decoding.{AreEntriesOf, EntryKind, wants_frames}
use Rattle.perfdata_arrays.specs.Pages.{IsPage}
use Rattle.perfdata_arrays.specs.declared.pages.PageResult.{PageResult}
use Rattle.perfdata_arrays.specs.declared.status.Status.{Status}
use Rattle.perfdata_arrays.specs.declared.status.Status.TheVariants.{NoSpace, OutOfMemory, Success}

-- A call that writes a page: its arrays before it, its result, and the position and the arrays after it.
pub record PageCall (A B : Type 0) : Type 0 where
  pub entries_before : List A
  pub frames_before : List B
  pub result : PageResult
  pub next : RecordPosition
  pub entries_after : List A
  pub frames_after : List B

-- The number of elements that a call with this status writes, which reports this number. With `NoSpace` it writes none.
abbrev pub written_count : Status → ℕ → ℕ
written_count NoSpace count = 0
written_count _ count = count

module _ {A B : Type 0} where
  -- the entries that a call writes
  abbrev pub written_entries : PageCall A B → List A
  written_entries call = take (written_count call.result.status call.result.count) call.entries_after

  -- the frames that a call writes
  abbrev pub written_frames : PageCall A B → List B
  written_frames call = take (written_count call.result.status call.result.frames_count) call.frames_after

  -- memory doesn't run out in the call
  abbrev pub HasMemory : PageCall A B → Type 0
  HasMemory call = call.result.status ≢ OutOfMemory

  -- the frames that a chain writes, in order
  abbrev pub frames_of_chain : List (PageCall A B) → PageCall A B → List B
  frames_of_chain [] last = written_frames last
  frames_of_chain (call ∷ calls) last = written_frames call ++ frames_of_chain calls last

module _ {A B : Type 0} (kind : EntryKind A B) where
  -- the entries of two pages, as those of one page whose first frames are those of the first page
  abbrev pub joined_entries : List A → List B → List A → List A
  joined_entries entries frames later = entries ++ map (kind.after_frames (length frames)) later

  -- ---- the entries between two positions

  -- These are the entries of the records of a file from a position on up to another position, and their frames.
  pub record AreEntriesUpTo (bytes : List ℕ) (from : RecordPosition) (wants : Bool) (entries : List A) (frames : List B) (next : RecordPosition) : Type 0 where
    pub records : List RecordView
    pub base : ℕ
    pub page : IsPage bytes base from (length records) records Success next
    pub are_entries : AreEntriesOf (kind.Adds wants) (endian_of_file page.file) (λ _. attributes_of_file page.file) base records entries frames

  -- The entries up to a position and those from there on are the entries of the records of both.
  abbrev pub EntriesJoin : Type 0
  EntriesJoin = (bytes : List ℕ) (from middle next : RecordPosition) (wants : Bool) (entries later : List A) (frames later_frames : List B) →
      AreEntriesUpTo bytes from wants entries frames middle → AreEntriesUpTo bytes middle wants later later_frames next
      → AreEntriesUpTo bytes from wants (joined_entries entries frames later) (frames ++ later_frames) next

  -- The entries from a position on and their frames are determined by the number of entries.
  abbrev pub EntriesAreUnique : Type 0
  EntriesAreUnique = (bytes : List ℕ) (from next next' : RecordPosition) (wants : Bool) (entries entries' : List A) (frames frames' : List B) →
      AreEntriesUpTo bytes from wants entries frames next → AreEntriesUpTo bytes from wants entries' frames' next' → length entries ≡ length entries'
      → (entries ≡ entries') × (frames ≡ frames')

  -- ---- calls

  -- the call on a file with this position has this result
  abbrev pub IsCallAt : List ℕ → RecordPosition → PageCall A B → Type 0
  IsCallAt bytes from call = ReadsDecodedPage kind bytes from call.entries_before call.frames_before call.result call.next call.entries_after call.frames_after

  -- A call is determined by its position and the capacities of its arrays, as far as it writes.
  abbrev pub DecodedCallIsUnique : Type 0
  DecodedCallIsUnique = (bytes : List ℕ) (from : RecordPosition) (call other : PageCall A B) → IsCallAt bytes from call → IsCallAt bytes from other →
      length call.entries_before ≡ length other.entries_before → length call.frames_before ≡ length other.frames_before → HasMemory call → HasMemory other →
      (call.result ≡ other.result) × (written_entries call ≡ written_entries other) × (written_frames call ≡ written_frames other)

  -- ---- chains

  -- Calls on a file, the first with position `from`, and each other with the position after the call before it. Frames are wanted in each,
  -- or in none.
  abbrev pub IsChain : List ℕ → RecordPosition → Bool → List (PageCall A B) → PageCall A B → Type 0
  IsChain bytes from wants [] last = IsCallAt bytes from last × (wants_frames (length last.frames_before) ≡ wants)
  IsChain bytes from wants (call ∷ calls) last =
      IsCallAt bytes from call × (wants_frames (length call.frames_before) ≡ wants) × IsChain bytes call.next wants calls last

  -- The entries that a chain writes, in order. The frames of each are after those of the calls before it.
  abbrev pub entries_of_chain : List (PageCall A B) → PageCall A B → List A
  entries_of_chain [] last = written_entries last
  entries_of_chain (call ∷ calls) last = joined_entries (written_entries call) (written_frames call) (entries_of_chain calls last)

  -- No entry follows the call. If every record fits in its arrays, it has the status of an error, or writes fewer entries than its array
  -- has elements. Otherwise it has the status of an error other than `NoSpace`, or succeeds and writes no entry although its array has
  -- elements.
  abbrev pub FindsEnd : PageCall A B → Type 0
  FindsEnd call =
      (kind.AlwaysFits (length call.frames_before) × ((call.result.status ≢ Success) ⊎ (call.result.count < length call.entries_before)))
      ⊎ ((call.result.status ≢ NoSpace) × ((call.result.status ≢ Success) ⊎ ((call.result.count ≡ 0) × (0 < length call.entries_before))))

  -- The arrays of one call have capacity for what a chain writes, and the array of entries for no more unless the chain finds the end.
  pub record HasCapacityFor (calls : List (PageCall A B)) (last whole : PageCall A B) : Type 0 where
    pub entries : length (entries_of_chain calls last) ≤ length whole.entries_before
    pub frames : length (frames_of_chain calls last) ≤ length whole.frames_before
    pub exact_or_end : (length (entries_of_chain calls last) ≡ length whole.entries_before) ⊎ (HasMemory last × FindsEnd last)

  -- One call writes and counts what a chain writes. If its array of entries isn't full, it has the status of the last call.
  pub record WritesSame (calls : List (PageCall A B)) (last whole : PageCall A B) : Type 0 where
    pub same_entries : written_entries whole ≡ entries_of_chain calls last
    pub same_frames : written_frames whole ≡ frames_of_chain calls last
    pub count_is : whole.result.count ≡ length (entries_of_chain calls last)
    pub frames_count_is : whole.result.frames_count ≡ length (frames_of_chain calls last)
    pub same_status : length (entries_of_chain calls last) < length whole.entries_before → whole.result.status ≡ last.result.status

  -- A chain of calls, whatever their capacities and statuses are, writes the entries and the frames that one call with capacity for all
  -- of them writes.
  abbrev pub ChainIsOneDecodedPage : Type 0
  ChainIsOneDecodedPage = (bytes : List ℕ) (from : RecordPosition) (calls : List (PageCall A B)) (last whole : PageCall A B) →
      IsChain bytes from (wants_frames (length whole.frames_before)) calls last → IsCallAt bytes from whole → HasMemory whole → HasCapacityFor calls last whole
      → WritesSame calls last whole
