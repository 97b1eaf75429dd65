-- Chains of calls that write the records of a file in pages, and the one call that writes them all.
use Rattle.std.specs.Prelude.{◌≡◌, ◌≢◌, ℕ, ◌<◌, ◌≤◌, List, [], ◌∷◌, ◌++◌, length, take}
use Rattle.linux_perf_data.specs.declared.in_memory.position.RecordPosition.{RecordPosition}
use Rattle.perfdata_arrays.specs.Pages.{ReadsFilePage}
use Rattle.linux_perf_data.specs.declared.in_memory.entries.RecordEntry.{RecordEntry}
use Rattle.perfdata_arrays.specs.declared.records.RecordsResult.{RecordsResult}
use Rattle.perfdata_arrays.specs.declared.status.Status.TheVariants.{OutOfMemory, Success}

-- A call of `file_records`: its array before it, its result, and the position and the array after it.
pub record PageCall : Type 0 where
  pub before : List RecordEntry
  pub result : RecordsResult
  pub next : RecordPosition
  pub after : List RecordEntry

-- the call on a file with this position has this result
abbrev pub IsCallAt : List ℕ → RecordPosition → PageCall → Type 0
IsCallAt bytes from call = ReadsFilePage bytes from call.before call.result call.next call.after

-- the entries that a call writes
abbrev pub written_entries : PageCall → List RecordEntry
written_entries call = take call.result.count call.after

-- the call succeeds and fills its array
abbrev pub IsFullPage : PageCall → Type 0
IsFullPage call = (call.result.status ≡ Success) × (call.result.count ≡ length call.before)

-- Calls on a file, the first with position `from`, and each other with the position that the call before it moved. All but the last fill
-- their arrays. The last writes fewer entries than its array has elements.
abbrev pub IsChain : List ℕ → RecordPosition → List PageCall → PageCall → Type 0
IsChain bytes from [] last = IsCallAt bytes from last × (last.result.count < length last.before)
IsChain bytes from (call ∷ calls) last = IsCallAt bytes from call × IsFullPage call × IsChain bytes call.next calls last

-- the entries that a chain writes, in order
abbrev pub chain_entries : List PageCall → PageCall → List RecordEntry
chain_entries [] last = written_entries last
chain_entries (call ∷ calls) last = written_entries call ++ chain_entries calls last

-- memory doesn't run out in the call
abbrev pub HasMemory : PageCall → Type 0
HasMemory call = call.result.status ≢ OutOfMemory

-- A chain writes the same entries as one call with capacity for them, and ends at the same position. If the call has capacity for
-- more, it ends with the same status.
abbrev pub ChainIsOnePage : Type 0
ChainIsOnePage =
    (bytes : List ℕ) (from : RecordPosition) (calls : List PageCall) (last whole : PageCall) → IsChain bytes from calls last → IsCallAt bytes from whole →
    length (chain_entries calls last) ≤ length whole.before → HasMemory last → HasMemory whole →
    (whole.result.count ≡ length (chain_entries calls last)) × (written_entries whole ≡ chain_entries calls last) × (whole.next ≡ last.next)
    × (length (chain_entries calls last) < length whole.before → whole.result.status ≡ last.result.status)
