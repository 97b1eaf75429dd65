-- The labels of samples of a thread.
use Rattle.std.specs.Prelude.{◌≡◌, ℕ, ℤ, List, [], ◌∷◌, ◌++◌, slice_get, Option, None, Some}
use Rattle.std.specs.Int.{cast_unsigned, w64}
use Rattle.pprof.specs.declared.builder.SampleThread.{SampleThread}
use Rattle.pprof.specs.declared.profile.Label.{Label}

-- The bytes of "comm", "pid" and "tid".
abbrev pub comm_key : List ℕ
comm_key = 99 ∷ 111 ∷ 109 ∷ 109 ∷ []

abbrev pub pid_key : List ℕ
pid_key = 112 ∷ 105 ∷ 100 ∷ []

abbrev pub tid_key : List ℕ
tid_key = 116 ∷ 105 ∷ 100 ∷ []

-- A number is the index of a key, if there is a number for it.
abbrev pub IsKeyOf : List (List ℕ) → List ℕ → Option ℤ → ℕ → Type 0
IsKeyOf texts key None index = Unit {0}
IsKeyOf texts key (Some number) index = slice_get texts index ≡ Some key

-- A label with a number in two's complement, if there is one.
abbrev pub number_labels : ℕ → Option ℤ → List Label
number_labels key None = []
number_labels key (Some number) = record { key = key; text = 0; number = cast_unsigned w64 number } ∷ []

-- The labels of a thread, for the indices of their keys.
abbrev pub thread_labels : (comm pid tid : ℕ) → SampleThread → List Label
thread_labels comm pid tid thread = record { key = comm; text = thread.name; number = 0 } ∷ (number_labels pid thread.pid ++ number_labels tid thread.tid)

-- Labels are those of a thread: its name, and the ids of its process and its own if they are distinguished.
pub record HasLabels (texts : List (List ℕ)) (thread : SampleThread) (labels : List Label) : Type 0 where
  pub comm : ℕ
  pub pid : ℕ
  pub tid : ℕ
  pub comm_is : slice_get texts comm ≡ Some comm_key
  pub pid_is : IsKeyOf texts pid_key thread.pid pid
  pub tid_is : IsKeyOf texts tid_key thread.tid tid
  pub labels_are : labels ≡ thread_labels comm pid tid thread
