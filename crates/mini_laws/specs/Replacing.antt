-- What is found where a tree w was put at a path p of t, which gave u.
use Rattle.std.specs.Prelude.{◌≡◌, ℕ, ◌+◌, true, false, ◌∷◌, ◌++◌, Some, is_some, option_and_then}
use Rattle.mini_model.specs.Tree.{Tree, node_count}
use Rattle.mini_model.specs.Paths.{is_node, head_of, Path, node_at, replace_at, head_at, begins_with}

-- at the path, what was put there
abbrev pub PutFound : Type 0
PutFound = (p : Path) (w t u : Tree) → is_node w ≡ true → replace_at p w t ≡ Some u → node_at p u ≡ Some w

-- the tree comes back where what was there is put back
abbrev pub PutBack : Type 0
PutBack = (p : Path) (c w t u : Tree) → is_node w ≡ true → node_at p t ≡ Some c → replace_at p w t ≡ Some u → replace_at p c u ≡ Some t

-- of two replacements at one path the last counts
abbrev pub PutTwice : Type 0
PutTwice = (p : Path) (v w t u : Tree) → is_node w ≡ true → replace_at p w t ≡ Some u → replace_at p v u ≡ replace_at p v t

-- nothing changes where what is there is put
abbrev pub PutSame : Type 0
PutSame = (p : Path) (c t : Tree) → node_at p t ≡ Some c → replace_at p c t ≡ Some t

-- further on from the path, what was put there has
abbrev pub PutBelow : Type 0
PutBelow = (p q : Path) (w t u : Tree) → is_node w ≡ true → replace_at p w t ≡ Some u → node_at (p ++ q) u ≡ node_at q w

-- on the way to the path, the node that was there with its own part replaced
abbrev pub PutAbove : Type 0
PutAbove = (p q : Path) (w t u : Tree) → is_node w ≡ true → replace_at (p ++ q) w t ≡ Some u → node_at p u ≡ option_and_then (replace_at q w) (node_at p t)

-- where neither path begins with the other, the same as before
abbrev pub PutElsewhere : Type 0
PutElsewhere = (p q : Path) (w t u : Tree) → begins_with q p ≡ false → begins_with p q ≡ false → is_node w ≡ true → replace_at p w t ≡ Some u → node_at q u ≡ node_at q t

-- neither at the path nor below it: a node with the same shape, names and number as before, or
-- nothing as before
abbrev pub HeadKept : Type 0
HeadKept = (p q : Path) (w t u : Tree) → begins_with q p ≡ false → is_node w ≡ true → replace_at p w t ≡ Some u → head_at q u ≡ head_at q t

-- the root's, whatever is put below it
abbrev pub RootKept : Type 0
RootKept = (i : ℕ) (p : Path) (w t u : Tree) → replace_at (i ∷ p) w t ≡ Some u → head_of u ≡ head_of t

-- a path that doesn't lead there leads somewhere just where it did before
abbrev pub StillLeads : Type 0
StillLeads = (p q : Path) (w t u : Tree) → begins_with q p ≡ false → is_node w ≡ true → replace_at p w t ≡ Some u → is_some (node_at q u) ≡ is_some (node_at q t)

-- one path after another: the part is replaced in the node that the first leads to, and that in the
-- whole
abbrev pub PutFurther : Type 0
PutFurther = (p q : Path) (w t : Tree) → replace_at (p ++ q) w t ≡ option_and_then (λ c. option_and_then (λ d. replace_at p d t) (replace_at q w c)) (node_at p t)

-- how many nodes there are: what was there goes, and what was put comes
abbrev pub PutCounted : Type 0
PutCounted = (p : Path) (c w t u : Tree) → node_at p t ≡ Some c → replace_at p w t ≡ Some u → node_count u + node_count c ≡ node_count t + node_count w
