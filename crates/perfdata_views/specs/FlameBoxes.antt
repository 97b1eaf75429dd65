-- The boxes of a flame graph: those of the nodes of a tree, and those of them that are drawn.
use Rattle.std.specs.Prelude.{◌≡◌, ℕ, ◌+◌, ◌-◌, ◌*◌, ◌==◌, ◌||◌, nat_lt, not, Bool, if◌then◌else◌, List, filter, length, map, slice_index_or}
use Rattle.perfdata_views.specs.Boxes.{left_of, right_of}
use Rattle.perfdata_views.specs.Trees.{names_at, names_of}
use Rattle.perfdata_views.specs.declared.entry_tree.EntryTree.{EntryTree}
use Rattle.perfdata_views.specs.declared.flame.boxes.DrawnBoxes.{DrawnBoxes}
use Rattle.perfdata_views.specs.declared.flame.boxes.FlameBox.{FlameBox}
use Rattle.perfdata_views.specs.declared.tree.Node.{Node}
use Rattle.perfdata_views.specs.declared.tree.RankedStack.{RankedStack}

-- The box of a node: the number of its name's text, and the samples from its first stack up to its end.
abbrev pub box_of : (order : List ℕ) (stacks : List RankedStack) (positions : List ℕ) → Node → FlameBox
box_of order stacks positions node = record {
  text = slice_index_or order (slice_index_or (names_at (names_of stacks) node.first) node.depth 0) 0;
  depth = node.depth;
  span = record { start = left_of positions node; end = right_of positions node };
}

-- The boxes of all nodes, in their order.
abbrev pub boxes_of : EntryTree → List FlameBox
boxes_of tree = map (box_of tree.order.items tree.tree.stacks.items tree.tree.positions.items) tree.tree.nodes.items

-- The sum of the weights of all stacks.
abbrev pub total_of : EntryTree → ℕ
total_of tree = slice_index_or tree.tree.positions.items (length tree.tree.stacks.items) 0

abbrev pub box_width : FlameBox → ℕ
box_width box = box.span.end - box.span.start

-- The width of a box that is in no other.
abbrev pub outermost_box_width : FlameBox → ℕ
outermost_box_width box = if box.depth == 0 then box_width box else 0

-- Whether a box is narrower than a tenth of a pixel, where all samples are 1,180 pixels wide.
abbrev pub is_narrow : ℕ → FlameBox → Bool
is_narrow total box = (total == 0) || nat_lt (box_width box * 11800) total

-- The boxes that aren't narrow are drawn, in order. The others are left out, and their number is stated.
pub record AreDrawn (total : ℕ) (boxes : List FlameBox) (drawn : DrawnBoxes) : Type 0 where
  pub boxes_are : drawn.boxes.items ≡ filter (λ b. not (is_narrow total b)) boxes
  pub omitted_is : drawn.omitted + length drawn.boxes.items ≡ length boxes
  pub total_is : drawn.total ≡ total
