-- Children that aren't there.
use Rattle.std.proofs.Common.{◌≡◌, ◌≤◌, true, false, nat_eq, ap}
use Rattle.std.specs.Prelude.{◌≡◌}
use Rattle.mini_model.specs.Tree.{Tree, children, count, shape_of}
use Rattle.mini_node.specs.Children.{part}
use Rattle.mini_node.specs.Walks.{no_child}
use Rattle.mini_log.specs.Terms.{is_zero_shape, items_by}

pub no_zero : (t : Tree) → count (children t) ≤ 0 → is_zero_shape (shape_of (part t 0)) ≡ false
no_zero t h = ap (λ u. is_zero_shape (shape_of u)) (no_child (children t) 0 h)

pub no_items : (t : Tree) → count (children t) ≤ 1 → nat_eq (items_by (shape_of (part t 1)) (children (part t 1))) 0 ≡ true
no_items t h = ap (λ u. nat_eq (items_by (shape_of u) (children u)) 0) (no_child (children t) 1 h)
