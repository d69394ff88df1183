-- What is made of a tree, where anything is, and the child of an index of ESTree.
use Rattle.std.specs.Prelude.{ℕ, ◌-◌, nat_lt, ◌≡◌, Bool, Option, Some, None, is_some, option_map, if◌then◌else◌}
use Rattle.mini_model.specs.Tree.{Tree, Trees, node, none, ◌▸◌, count}
use Rattle.mini_model.specs.Paths.{Path, width}
use Rattle.mini_model.specs.Position.{child_position}
use Rattle.mini_model.specs.declared.place.Position.{Position}
use Rattle.mini_log.specs.Walk.{step_in}

abbrev pub made_of : Option Tree → Tree → Tree
made_of (Some u) t = u
made_of None t = t

-- it was made, or there was nothing to make and the tree stayed
pub record Made (w : Option Tree) (old new : Tree) (done : Bool) : Type 0 where
  pub said : done ≡ is_some w
  pub tree : new ≡ made_of w old

-- the index past so many nodes; none where it is among them
abbrev pub beyond : ℕ → ℕ → Option ℕ
beyond w i = if nat_lt i w then None else Some (i - w)

-- the index, in the child at its spot, of the node of this index among some trees
abbrev pub index_in : Trees → ℕ → ℕ
index_in none i = i
index_in (t ▸ ts) i = if nat_lt i (width t) then i else index_in ts (i - width t)

-- what a step below a node makes of it, on a path that begins with this index
abbrev pub step_below : (Position → Tree → Path → Option Tree) → Position → Tree → ℕ → Path → Option Tree
step_below f p (node h xs n ts) i q = option_map (node h xs n) (step_in f (child_position h p (count ts)) ts i q)
