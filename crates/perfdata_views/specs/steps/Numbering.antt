-- The names of entries as numbers of a table of texts, and as ranks of texts.
use Rattle.std.specs.Prelude.{◌≡◌, ℕ, List, map, slice_index_or}
use Rattle.perfdata_profile.specs.Interning.{Grows}
use Rattle.perfdata_views.specs.Entries.{Entry, weight_of}
use Rattle.perfdata_views.specs.EntryTrees.{AreNumbers, entry_names}
use Rattle.perfdata_views.specs.declared.tree.RankedStack.{RankedStack}

-- Names have numbers, and texts may have been added for them.
pub record HasNumbers (old new names : List (List ℕ)) (numbers : List ℕ) : Type 0 where
  pub grows : Grows old new
  pub are : AreNumbers new names numbers

-- A stack is that of an entry, by the numbers of its names.
pub record IsNumbered (texts : List (List ℕ)) (entry : Entry) (stack : RankedStack) : Type 0 where
  pub numbers : AreNumbers texts (entry_names entry.0) stack.ranks.items
  pub weight : stack.weight ≡ weight_of entry

abbrev pub ranked_numbers : (ranks numbers : List ℕ) → List ℕ
ranked_numbers ranks numbers = map (λ number. slice_index_or ranks number 0) numbers

-- A stack by the ranks of its names is one by their numbers.
pub record IsReranked (ranks : List ℕ) (stack new : RankedStack) : Type 0 where
  pub ranks_are : new.ranks.items ≡ ranked_numbers ranks stack.ranks.items
  pub weight : new.weight ≡ stack.weight
