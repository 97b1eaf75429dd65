-- The names of threads.
use Rattle.std.specs.Prelude.{◌≡◌, ℕ, ℤ, List, Option, Some, Vec, if◌then◌else◌}
use Rattle.std.specs.declared.alloc.Global.{Global}
use Rattle.std.specs.declared.rc.Rc.{Rc}
use Rattle.std.specs.Option.{option_map}
use Rattle.std.specs.Ordering.{int_cmp}
use Rattle.std.specs.BTreeMap.{get}
use Rattle.perfdata_spaces.specs.Effects.{NameEffect, Names, Inherits, KeepsAll}
use Rattle.perfdata_spaces.specs.NameHistories.{IsName}
use Rattle.perfdata_spaces.specs.Processes.{is_same}
use Rattle.perfdata_spaces.specs.declared.thread_names.ThreadNames.{ThreadNames}

abbrev pub shared_bytes : Rc (Vec ℕ Global) Global → List ℕ
shared_bytes name = name.value.items

-- The name of a thread.
abbrev pub name_of : ThreadNames → ℤ → Option (List ℕ)
name_of names tid = option_map shared_bytes (get int_cmp names.names tid)

-- All threads have the same names.
abbrev pub KeepsNames : ThreadNames → ThreadNames → Type 0
KeepsNames old new = (tid : ℤ) → name_of new tid ≡ name_of old tid

-- The name of a thread after an effect. `name` is the one of each thread before.
abbrev pub name_after : NameEffect → (ℤ → Option (List ℕ)) → ℤ → Option (List ℕ)
name_after (Names thread bytes) name tid = if is_same thread tid then Some bytes else name tid
name_after (Inherits thread parent) name tid = if is_same thread tid then name parent else name tid
name_after KeepsAll name tid = name tid

-- An effect was applied.
abbrev pub AppliesName : NameEffect → ThreadNames → ThreadNames → Type 0
AppliesName effect old new = (tid : ℤ) → name_of new tid ≡ name_after effect (name_of old) tid

-- The names are those after effects.
abbrev pub FollowsNames : List NameEffect → ThreadNames → Type 0
FollowsNames effects names = (tid : ℤ) → IsName tid effects (name_of names tid)
