-- The results of demangling a name.
use Rattle.std.specs.Prelude.{◌≡◌, ◌*◌, ◌≤◌, ℕ, List, length}
use Rattle.linux_perf_data.specs.RecordEntries.{with_prefix}
use Rattle.perfdata_arrays.specs.declared.status.Status.{Status}
use Rattle.perfdata_arrays.specs.declared.status.Status.TheVariants.{Success, OutOfMemory}

-- A text is written over the start of an array, up to its capacity, and its size is reported. It is within the bounds of texts. A name
-- without a text has an empty one.
pub record WritesText (symbol old : List ℕ) (size : ℕ) (new : List ℕ) : Type 0 where
  pub text : List ℕ
  pub proportionate : length text ≤ 128 * length symbol
  pub most : length text ≤ 65536
  pub size_is : size ≡ length text
  pub written : new ≡ with_prefix text old

-- The result for a name: its text, or, if memory runs out, nothing.
abbrev pub Demangles : List ℕ → List ℕ → ℕ → Status → List ℕ → Type 0
Demangles symbol old size Success new = WritesText symbol old size new
Demangles symbol old size OutOfMemory new = (size ≡ 0) × (new ≡ old)
Demangles symbol old size _ new = ⊥
