-- What a rule does at a node in its place: what it may make of a tree there is a relation, that it
-- has nothing to do there a predicate. Both are of the options, and of the program at which the
-- context looked last.
use Rattle.std.specs.Prelude.{◌≡◌, ◌<◌, ◌⊎◌, Bool, true, false}
use Rattle.mini_model.specs.Tree.{Tree}
use Rattle.mini_model.specs.declared.place.Position.{Position}
use Rattle.mini_model.specs.Weight.{weight}
use Rattle.mini_model.specs.Rewriting.{Step, Reaches}
use Rattle.mini_tree.specs.declared.options.CompressOptions.{CompressOptions}

-- steps, and at least one
pub record Moves (R : Position → Tree → Tree → Type 0) (p : Position) (t u : Tree) : Type 0 where
  pub next : Tree
  pub step : Step R p t next
  pub others : Reaches R p next u

-- one call of a rule: steps at the node or below it; or none, and then it has nothing to do at the
-- node
abbrev pub Applied : (Position → Tree → Tree → Type 0) → (Position → Tree → Type 0) → Position → Tree → Tree → Bool → Type 0
Applied R D p t u true = Moves R p t u
Applied R D p t u false = (u ≡ t) × D p t

-- one step at any place in a tree makes the whole lighter
abbrev pub IsLighter : (Position → Tree → Tree → Type 0) → Type 0
IsLighter R = (p : Position) (t u : Tree) → Step R p t u → weight p u < weight p t

-- under any options, over any program
abbrev pub AreLighter : (CompressOptions → Tree → Position → Tree → Tree → Type 0) → Type 0
AreLighter G = (o : CompressOptions) (q : Tree) → IsLighter (G o q)

-- what one rule or the other makes
abbrev pub Either : (Position → Tree → Tree → Type 0) → (Position → Tree → Tree → Type 0) → Position → Tree → Tree → Type 0
Either R S p t u = R p t u ⊎ S p t u

-- neither rule has anything to do
abbrev pub Both : (Position → Tree → Type 0) → (Position → Tree → Type 0) → Position → Tree → Type 0
Both D E p t = D p t × E p t
