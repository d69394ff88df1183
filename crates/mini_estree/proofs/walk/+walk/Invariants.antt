use Rattle.std.proofs.Common.{◌≡◌, ◌+◌, ◌*◌, drop, map}
use Rattle.serde_json.specs.View.{view, items_view}
use Rattle.mini_accept.specs.Accept.{reads, read_parts, read_children}
use Rattle.mini_accept.specs.Plans.{parts_from}
use Rattle.mini_plan.specs.Views.{item_of, child_of}
use Rattle.mini_estree.specs.Reads.{onto}
use Rattle.mini_estree.proofs.walk.+walk.Given as goal

abbrev pub decreases-node : goal.decreases-node
decreases-node a = 8 * a.depth

abbrev pub decreases-below : goal.decreases-below
decreases-below a = 8 * a.depth + 1

abbrev pub decreases-part : goal.decreases-part
decreases-part a = 8 * a.depth + 2

abbrev pub decreases-listed : goal.decreases-listed
decreases-listed a = 8 * a.depth + 3

abbrev pub decreases-child : goal.decreases-child
decreases-child a = 8 * a.depth + 4

abbrev pub decreases-children : goal.decreases-children
decreases-children a = 8 * a.depth + 5

abbrev pub invariant-children-loop-below : goal.invariant-children-loop-below
invariant-children-loop-below l =
    read_children (reads l.depth) l.strict (view l.value) l.n (map (child_of (view l.value)) l.all)
    ≡ onto l.out (read_children (reads l.depth) l.strict (view l.value) l.next (map (child_of (view l.value)) (drop l.below-index l.all)))

abbrev pub invariant-listed-loop-index : goal.invariant-listed-loop-index
invariant-listed-loop-index l =
    read_parts (reads l.depth) l.strict (view l.value) l.n (parts_from (item_of l.items) l.key 0 (items_view l.list))
    ≡ onto l.out (read_parts (reads l.depth) l.strict (view l.value) l.next (parts_from (item_of l.items) l.key l.index (items_view (drop l.index l.list))))
