-- What a walk of a rule over a tree does to it.
use Rattle.std.specs.Prelude.{◌≡◌, Bool, true, false}
use Rattle.mini_model.specs.Tree.{Tree, count, children, shape_of}
use Rattle.mini_model.specs.declared.place.Position.{Position}
use Rattle.mini_model.specs.Position.{child_position}
use Rattle.mini_model.specs.Rewriting.{Everywhere, EverywhereIn}
use Rattle.mini_tree.specs.Rule.{Moves}

-- a walk: steps at places in the tree; or none, and then nowhere in it has the rule anything to do
abbrev pub Walked : (Position → Tree → Tree → Type 0) → (Position → Tree → Type 0) → Position → Tree → Tree → Bool → Type 0
Walked R D p t u true = Moves R p t u
Walked R D p t u false = (u ≡ t) × Everywhere D p t

-- the same of the children alone
abbrev pub WalkedBelow : (Position → Tree → Tree → Type 0) → (Position → Tree → Type 0) → Position → Tree → Tree → Bool → Type 0
WalkedBelow R D p t u true = Moves R p t u
WalkedBelow R D p t u false = (u ≡ t) × EverywhereIn D (child_position (shape_of t) p (count (children t))) (children t)
