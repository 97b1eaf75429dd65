-- The folded lines of a profile.
use Rattle.std.specs.Prelude.{◌≡◌, ℕ, ℤ, List, [], ◌∷◌, ◌++◌, map, Option, None, Some, reverse, slice_get, Vec}
use Rattle.std.specs.declared.alloc.Global.{Global}
use Rattle.std.specs.Fmt.{signed_decimal}
use Rattle.std.specs.List.{flat_map, sum_by}
use Rattle.std.specs.List.Sorted.{IsStrictlySortedBy}
use Rattle.std.specs.Map.{keys_of}
use Rattle.perfdata_profile.specs.Values.{LocationValue, SampleValue, ThreadKey}
use Rattle.perfdata_views.specs.Counts.{is_line, line_cmp}
use Rattle.perfdata_stacks.specs.Line.{comm_byte}
use Rattle.perfdata_views.specs.Entries.{Entry, stack_names, weight_of, weight_where}

-- A number after a byte, if there is one.
abbrev pub id_text : ℕ → Option ℤ → List ℕ
id_text before None = []
id_text before (Some number) = before ∷ signed_decimal number

-- A thread as it is written: its name, `-` and its process, `/` and its id. Ids that aren't distinguished are left out.
abbrev pub thread_text : ThreadKey → List ℕ
thread_text thread = map comm_byte thread.name ++ (id_text 45 thread.pid ++ id_text 47 thread.tid)

-- A name after a semicolon.
abbrev pub next_name : List ℕ → List ℕ
next_name name = 59 ∷ name

-- Names of which the last one is the first in a line, each after a semicolon.
abbrev pub names_text : List (List ℕ) → List ℕ
names_text names = flat_map next_name (reverse names)

-- The names of the functions of a stack, the root's first, each after a semicolon.
abbrev pub frames_text : List LocationValue → List ℕ
frames_text stack = names_text (stack_names stack)

-- The line of a thread and a stack: the thread, then the names of the functions.
abbrev pub line_of : SampleValue → List ℕ
line_of value = thread_text value.thread ++ frames_text value.stack

-- Lines with numbers.
abbrev pub Lines : Type 0
Lines = List (Vec ℕ Global × ℕ)

-- Each entry is in exactly one line, its own, and the number of a line is the sum of its entries.
pub record AreLinesOf (entries : List Entry) (lines : Lines) : Type 0 where
  pub each : (index : ℕ) (line : Vec ℕ Global) (number : ℕ) → slice_get lines index ≡ Some (line, number)
      → number ≡ weight_where (λ (entry : Entry). is_line line.items (line_of entry.0)) entries
  -- Each entry has its line.
  pub all : (index : ℕ) (entry : Entry) → slice_get entries index ≡ Some entry
      → ((at : ℕ) × (line : Vec ℕ Global) × (number : ℕ) × (slice_get lines at ≡ Some (line, number)) × (line.items ≡ line_of entry.0))
  -- Each line is one of an entry.
  pub only : (index : ℕ) (line : Vec ℕ Global) (number : ℕ) → slice_get lines index ≡ Some (line, number)
      → ((at : ℕ) × (entry : Entry) × (slice_get entries at ≡ Some entry) × (line.items ≡ line_of entry.0))
  -- The lines ascend by their bytes, so each is there once.
  pub ascend : IsStrictlySortedBy line_cmp (keys_of lines)
  -- The numbers add up to the sum of all entries.
  pub sum : sum_by (λ (line : Vec ℕ Global × ℕ). line.1) lines ≡ sum_by weight_of entries
