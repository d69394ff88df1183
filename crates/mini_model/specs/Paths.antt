-- Reading a tree by paths, as a user of ESTree does: by the nodes of ESTree below a node, from its
-- first field to its last.
use Rattle.std.specs.Prelude.{ℕ, zero, suc, ◌+◌, ◌-◌, nat_eq, nat_lt, Bool, true, false, ◌&&◌, if◌then◌else◌, List, [], ◌∷◌, ◌++◌, map, Option, Some, None, option_map, option_and_then}
use Rattle.mini_model.specs.declared.shape.Shape.{Shape}
use Rattle.mini_model.specs.declared.shape.Shape.TheVariants as shape
use Rattle.mini_model.specs.Tree.{Tree, Trees, node, none, ◌▸◌, count, Head}

-- what a tree is among the children of the node above it: a node of ESTree; what stands for those
-- that it holds, as a list field does; or nothing, as a part that is absent
pub data Standing : Type 0 where
  Node : Standing
  Holder : Standing
  Missing : Standing

abbrev pub standing : Shape → Standing
standing shape.Absent = Missing
standing shape.Listed = Holder
standing shape.InnerExpression = Holder
standing _ = Node

abbrev pub by_standing : {A : Type 0} → Standing → A → A → A → A
by_standing Node a b c = a
by_standing Holder a b c = b
by_standing Missing a b c = c

-- whether it is a node of ESTree
abbrev pub is_node : Tree → Bool
is_node (node h xs n ts) = by_standing (standing h) true false false

-- what a node is beside its children
abbrev pub head_of : Tree → Head
head_of (node h xs n ts) = (h, (xs, n))

-- ---- the children of a node

abbrev pub append : Trees → Trees → Trees
append none us = us
append (t ▸ ts) us = t ▸ append ts us

-- the nodes of ESTree that a tree is among the children of the node above it, and that some trees
-- are
abbrev mutual
  pub stands_for : Tree → Trees
  stands_for (node h xs n ts) = by_standing (standing h) (node h xs n ts ▸ none) (spread ts) none

  pub spread : Trees → Trees
  spread none = none
  spread (t ▸ ts) = append (stands_for t) (spread ts)

-- the nodes of ESTree directly below a node, in ESTree's order: the items of lists one after
-- another, and no part that is absent
abbrev pub children_of : Tree → Trees
children_of (node h xs n ts) = spread ts

abbrev pub child_at : Trees → ℕ → Option Tree
child_at none i = None
child_at (t ▸ ts) zero = Some t
child_at (t ▸ ts) (suc i) = child_at ts i

-- how many nodes of ESTree a tree is there
abbrev pub width : Tree → ℕ
width t = count (stands_for t)

-- this one in place of the child of this index
abbrev mutual
  pub put_inside : Tree → ℕ → Tree → Tree
  put_inside (node h xs n ts) i w = by_standing (standing h) w (node h xs n (put ts i w)) (node h xs n ts)

  pub put : Trees → ℕ → Tree → Trees
  put none i w = none
  put (t ▸ ts) i w = if nat_lt i (width t) then put_inside t i w ▸ ts else t ▸ put ts (i - width t) w

abbrev pub with_child : Tree → ℕ → Tree → Tree
with_child (node h xs n ts) i w = node h xs n (put ts i w)

-- ---- paths

-- the index of the child to go to, at each node from the root on; the root's own path is empty
abbrev pub Path : Type 0
Path = List ℕ

-- the node that a path leads to
abbrev pub node_at : Path → Tree → Option Tree
node_at [] t = Some t
node_at (i ∷ p) t = option_and_then (node_at p) (child_at (children_of t) i)

-- the whole with this tree in place of the node that the path leads to
abbrev pub replace_at : Path → Tree → Tree → Option Tree
replace_at [] w t = Some w
replace_at (i ∷ p) w t = option_and_then (λ c. option_map (with_child t i) (replace_at p w c)) (child_at (children_of t) i)

-- what the node that a path leads to is beside its children
abbrev pub head_at : Path → Tree → Option Head
head_at p t = option_map head_of (node_at p t)

-- whether a path leads to the node of another one, or below it
abbrev pub begins_with : Path → Path → Bool
begins_with q [] = true
begins_with [] (i ∷ p) = false
begins_with (j ∷ q) (i ∷ p) = nat_eq j i && begins_with q p

-- ---- all nodes

-- a node, and all nodes below it, in preorder
abbrev mutual
  pub nodes_inside : Tree → Trees
  nodes_inside (node h xs n ts) = by_standing (standing h) (node h xs n ts ▸ nodes_among ts) (nodes_among ts) none

  pub nodes_among : Trees → Trees
  nodes_among none = none
  nodes_among (t ▸ ts) = append (nodes_inside t) (nodes_among ts)

abbrev pub nodes_of : Tree → Trees
nodes_of (node h xs n ts) = node h xs n ts ▸ nodes_among ts

-- and their paths, where the first node that these are is the child of this index
abbrev mutual
  pub paths_inside : Tree → ℕ → List Path
  paths_inside (node h xs n ts) i = by_standing (standing h) (map (λ p. i ∷ p) ([] ∷ paths_among ts 0)) (paths_among ts i) []

  pub paths_among : Trees → ℕ → List Path
  paths_among none i = []
  paths_among (t ▸ ts) i = paths_inside t i ++ paths_among ts (i + width t)

abbrev pub paths_of : Tree → List Path
paths_of (node h xs n ts) = [] ∷ paths_among ts 0
