-- The selected samples of records in the views of their profile.
use Rattle.std.specs.Prelude.{◌≡◌, ℕ, ◌+◌, ◌<◌, All, Bool, true, false, Contains, List, [], ◌∷◌, count_by, filter, if◌then◌else◌, length, slice_get, slice_index_or, Some, take, Vec}
use Rattle.std.specs.declared.alloc.Global.{Global}
use Rattle.std.specs.List.{list_any, starts_with, sum_by}
use Rattle.perfdata_profile.specs.Building.{IsProfileOf}
use Rattle.perfdata_profile.specs.Names.{names_of}
use Rattle.perfdata_profile.specs.Profiles.{lists_of}
use Rattle.perfdata_profile.specs.Resolving.{Meaning}
use Rattle.perfdata_profile.specs.Samples.{AreCounted, Given, IsSample, is_selected}
use Rattle.perfdata_profile.specs.Sums.{entry_samples, entry_weight}
use Rattle.perfdata_profile.specs.Tallies.{Counted, one_sample, weight_of}
use Rattle.perfdata_profile.specs.Values.{Lists, SampleValue, name_at}
use Rattle.perfdata_profile.specs.declared.options.ProfileOptions.{ProfileOptions}
use Rattle.perfdata_profile.specs.declared.profile.Profile.{Profile}
use Rattle.perfdata_views.specs.Boxes.{outermost_width}
use Rattle.perfdata_views.specs.Counts.{is_line}
use Rattle.perfdata_views.specs.Entries.{entries_in, entry_key, stack_names}
use Rattle.perfdata_views.specs.EntryTrees.{IsEntryTree, entry_names, node_names}
use Rattle.perfdata_views.specs.FlameBoxes.{AreDrawn, box_of, box_width, boxes_of, is_narrow, outermost_box_width, total_of}
use Rattle.perfdata_views.specs.FunctionTables.{IsTableOf}
use Rattle.perfdata_views.specs.Lines.{AreLinesOf, Lines, line_of}
use Rattle.perfdata_views.specs.PprofSamples.{CountsSamples, counted_key}
use Rattle.perfdata_views.specs.declared.entry_tree.EntryTree.{EntryTree}
use Rattle.perfdata_views.specs.declared.flame.boxes.DrawnBoxes.{DrawnBoxes}
use Rattle.perfdata_views.specs.declared.pprof_profile.Column.{Column}
use Rattle.perfdata_views.specs.declared.table.FunctionRow.{FunctionRow}
use Rattle.perfdata_views.specs.declared.tree.Node.{Node}
use Rattle.pprof.specs.Messages.{ProfileValue}

-- The sum of the weights of the samples whose thread, stack and column pass a test.
abbrev pub samples_where : (SampleValue → Bool) → List (Counted SampleValue) → ℕ
samples_where test counted = sum_by (λ (one : Counted SampleValue). if test one.key then one.weight else 0) counted

abbrev pub sample_weight : Counted SampleValue → ℕ
sample_weight one = one.weight

-- Whether a function has the leaf of a stack, whether it occurs in it, and whether a stack has functions, as each has that has frames.
abbrev pub has_leaf : List ℕ → SampleValue → Bool
has_leaf name key = list_any (is_line name) (take 1 (stack_names key.stack))

abbrev pub has_function : List ℕ → SampleValue → Bool
has_function name key = list_any (is_line name) (stack_names key.stack)

abbrev pub any_name : List (List ℕ) → Bool
any_name [] = false
any_name (name ∷ names) = true

abbrev pub has_frames : SampleValue → Bool
has_frames key = any_name (stack_names key.stack)

-- The names of a node of the tree of a profile, from the root.
abbrev pub names_in : EntryTree → Node → List (List ℕ)
names_in tree node = node_names (names_of tree.texts) tree.order.items tree.tree.stacks.items node

-- Whether the thread and the functions of a sample start with the names of a node.
abbrev pub is_in_node : EntryTree → Node → SampleValue → Bool
is_in_node tree node key = starts_with is_line (entry_names key) (names_in tree node)

module _ (counted : List (Counted SampleValue)) where
  -- Each sample is in one line, its own, and the number of a line is the sum of its samples.
  pub record InLines (lines : Lines) : Type 0 where
    pub each : (index : ℕ) (line : Vec ℕ Global) (number : ℕ) → slice_get lines index ≡ Some (line, number)
        → number ≡ samples_where (λ key. is_line line.items (line_of key)) counted
    pub all : (index : ℕ) (one : Counted SampleValue) → slice_get counted index ≡ Some one
        → ((at : ℕ) × (line : Vec ℕ Global) × (number : ℕ) × (slice_get lines at ≡ Some (line, number)) × (line.items ≡ line_of one.key))
    pub sum : sum_by (λ (line : Vec ℕ Global × ℕ). line.1) lines ≡ sum_by sample_weight counted

  -- A row has the sum of the samples whose leaf is in its function, and that of the samples in whose stack it occurs.
  pub record InTable (lists : Lists) (rows : List FunctionRow) : Type 0 where
    pub own : All (λ (row : FunctionRow). row.own ≡ samples_where (has_leaf (name_at lists row.name)) counted) rows
    pub total : All (λ (row : FunctionRow). row.total ≡ samples_where (has_function (name_at lists row.name)) counted) rows
    -- A function of a sample has one row.
    pub once : (index : ℕ) (one : Counted SampleValue) (name : List ℕ) → slice_get counted index ≡ Some one → has_function name one.key ≡ true
        → count_by (λ (row : FunctionRow). is_line name (name_at lists row.name)) rows ≡ 1
    -- The samples with frames are in one own weight each.
    pub sum : sum_by (λ (row : FunctionRow). row.own) rows ≡ samples_where has_frames counted

  -- The positions of a node are as far apart as the sum of the samples whose thread and functions start with its names.
  pub record InTree (tree : EntryTree) : Type 0 where
    pub weights : All (λ (node : Node). slice_index_or tree.tree.positions.items node.first 0 + samples_where (is_in_node tree node) counted
        ≡ slice_index_or tree.tree.positions.items node.end 0) tree.tree.nodes.items
    -- The names with which a sample starts are those of a node.
    pub all : (index depth : ℕ) (one : Counted SampleValue) → slice_get counted index ≡ Some one → depth < length (entry_names one.key)
        → ((node : Node) × Contains tree.tree.nodes.items node × (names_in tree node ≡ take (depth + 1) (entry_names one.key)))
    pub sum : total_of tree ≡ sum_by sample_weight counted
    pub outermost : outermost_width tree.tree.positions.items tree.tree.nodes.items ≡ sum_by sample_weight counted

  -- The boxes that are drawn and those that are left out are the boxes of all nodes, each as wide as the sum of the samples in its node.
  pub record InBoxes (tree : EntryTree) (drawn : DrawnBoxes) : Type 0 where
    pub widths : All (λ (node : Node). box_width (box_of tree.order.items tree.tree.stacks.items tree.tree.positions.items node)
        ≡ samples_where (is_in_node tree node) counted) tree.tree.nodes.items
    pub are : AreDrawn (sum_by sample_weight counted) (boxes_of tree) drawn
    -- The outermost boxes that are drawn and those that are left out add up to all samples.
    pub sum : sum_by outermost_box_width drawn.boxes.items
        + sum_by outermost_box_width (filter (is_narrow (sum_by sample_weight counted)) (boxes_of tree)) ≡ sum_by sample_weight counted

  -- Each sample of a described column is in one sample for pprof, that of its locations and labels, whose values are the sums of its samples.
  abbrev pub InPprof : List Column → ProfileValue → Type 0
  InPprof columns pprof = CountsSamples counted_key one_sample weight_of columns counted pprof

-- What is shown of a profile. The columns are those that the profile for pprof describes.
pub record Views : Type 0 where
  pub lines : Lines
  pub rows : List FunctionRow
  pub tree : EntryTree
  pub drawn : DrawnBoxes
  pub columns : List Column
  pub pprof : ProfileValue

-- The views are those of a profile.
pub record AreViewsOf (profile : Profile) (views : Views) : Type 0 where
  pub lines : AreLinesOf (entries_in profile) views.lines
  pub rows : IsTableOf (lists_of profile.tables) (entries_in profile) views.rows
  pub tree : IsEntryTree (names_of views.tree.texts) views.tree.order.items views.tree.tree.stacks.items views.tree.tree.positions.items
      views.tree.tree.nodes.items (entries_in profile)
  pub drawn : AreDrawn (total_of views.tree) (boxes_of views.tree) views.drawn
  pub pprof : CountsSamples entry_key entry_samples entry_weight views.columns (entries_in profile) views.pprof

module _ (meaning : Meaning) (options : ProfileOptions) where
  -- Each selected sample is counted once in each view, under its own thread and stack.
  pub record CountsOnce (given : List Given) (profile : Profile) (views : Views) : Type 0 where
    pub counted : List (Counted SampleValue)
    pub are : AreCounted (IsSample meaning options) given counted
    pub number : length counted ≡ length (filter is_selected given)
    pub lines : InLines counted views.lines
    pub table : InTable counted (lists_of profile.tables) views.rows
    pub tree : InTree counted views.tree
    pub boxes : InBoxes counted views.tree views.drawn
    pub pprof : InPprof counted views.columns views.pprof

  -- The views of a profile of records count each selected sample of these once.
  abbrev pub ViewsCountOnce : Type 0
  ViewsCountOnce = (given : List Given) (profile : Profile) (views : Views) → IsProfileOf meaning options given profile
      → AreViewsOf profile views → CountsOnce given profile views
