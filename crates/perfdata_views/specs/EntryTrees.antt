-- The tree of the entries of a profile: its nodes, and the sums of the entries below them.
use Rattle.std.specs.Prelude.{◌≡◌, ℕ, ◌+◌, ◌<◌, All, Bool, Contains, List, [], ◌∷◌, length, map, slice_get, slice_index_or, Some, take}
use Rattle.std.specs.List.{starts_with, sum_by}
use Rattle.perfdata_profile.specs.Interning.{IsOnce}
use Rattle.perfdata_profile.specs.Samples.{AreRelated}
use Rattle.perfdata_profile.specs.Values.{SampleValue}
use Rattle.perfdata_views.specs.Boxes.{outermost_width}
use Rattle.perfdata_views.specs.Counts.{is_line}
use Rattle.perfdata_views.specs.Entries.{Entry, functions_of, weight_of, weight_where}
use Rattle.perfdata_views.specs.Lines.{thread_text}
use Rattle.perfdata_views.specs.StackTrees.{IsStackTree}
use Rattle.perfdata_views.specs.Trees.{names_of, path_of}
use Rattle.perfdata_views.specs.declared.tree.Node.{Node}
use Rattle.perfdata_views.specs.declared.tree.RankedStack.{RankedStack}
use Rattle.perfdata_views.specs.declared.tree.StackTree.{StackTree}

-- The names of an entry from the root: its thread, then its functions.
abbrev pub entry_names : SampleValue → List (List ℕ)
entry_names value = thread_text value.thread ∷ functions_of value.stack

abbrev pub text_at : List (List ℕ) → ℕ → List ℕ
text_at texts number = slice_index_or texts number []

-- Numbers are those of names in a table of texts.
pub record AreNumbers (texts : List (List ℕ)) (names : List (List ℕ)) (numbers : List ℕ) : Type 0 where
  pub within : All (λ number. number < length texts) numbers
  pub are : map (text_at texts) numbers ≡ names

-- Each text has a rank: `order` has the number of the text of each rank.
pub record IsRanking (count : ℕ) (order ranks : List ℕ) : Type 0 where
  pub each : (number : ℕ) → number < count → slice_index_or order (slice_index_or ranks number 0) 0 ≡ number

-- A stack is that of an entry, by the ranks of its names.
pub record IsRanked (texts : List (List ℕ)) (ranks : List ℕ) (entry : Entry) (stack : RankedStack) : Type 0 where
  pub numbers : List ℕ
  pub are : AreNumbers texts (entry_names entry.0) numbers
  pub ranks_are : stack.ranks.items ≡ map (λ number. slice_index_or ranks number 0) numbers
  pub weight : stack.weight ≡ weight_of entry

-- Whether the names of an entry start with those of a path.
abbrev pub is_below : List (List ℕ) → Entry → Bool
is_below path entry = starts_with is_line (entry_names entry.0) path

-- The names from the root to a node.
abbrev pub node_names : (texts : List (List ℕ)) (order : List ℕ) (stacks : List RankedStack) → Node → List (List ℕ)
node_names texts order stacks node = map (λ rank. text_at texts (slice_index_or order rank 0)) (path_of (names_of stacks) node)

-- The nodes are those of the names of entries, and the positions of a node are as far apart as the sum of the entries below it.
pub record IsEntryTree (texts : List (List ℕ)) (order : List ℕ) (stacks : List RankedStack) (positions : List ℕ) (nodes : List Node)
    (entries : List Entry) : Type 0 where
  pub weights : All (λ (node : Node). slice_index_or positions node.first 0 + weight_where (is_below (node_names texts order stacks node)) entries
      ≡ slice_index_or positions node.end 0) nodes
  -- The names with which an entry starts are those of a node.
  pub all : (index depth : ℕ) (entry : Entry) → slice_get entries index ≡ Some entry → depth < length (entry_names entry.0)
      → ((node : Node) × Contains nodes node × (node_names texts order stacks node ≡ take (depth + 1) (entry_names entry.0)))
  -- The names of a node are those with which an entry starts.
  pub only : (node : Node) → Contains nodes node
      → ((index : ℕ) × (entry : Entry) × (slice_get entries index ≡ Some entry)
      × (node_names texts order stacks node ≡ take (node.depth + 1) (entry_names entry.0)))
  -- All entries are before the last position.
  pub sum : slice_index_or positions (length stacks) 0 ≡ sum_by weight_of entries
  -- The outermost nodes, which are those of threads, add up to all entries.
  pub outermost : outermost_width positions nodes ≡ sum_by weight_of entries

-- If stacks are those of entries, by ranks of names, the tree of the stacks is that of the entries.
abbrev pub EntriesHaveTree : Type 0
EntriesHaveTree = (texts : List (List ℕ)) (order ranks : List ℕ) (entries : List Entry) (stacks : List RankedStack) (tree : StackTree)
    → IsOnce texts → IsRanking (length texts) order ranks → AreRelated (IsRanked texts ranks) entries stacks → IsStackTree stacks tree
    → IsEntryTree texts order tree.stacks.items tree.positions.items tree.nodes.items entries
