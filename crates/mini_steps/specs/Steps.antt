-- Rewrites by a list of steps, each at a path of the program as the steps before it left that.
use Rattle.std.specs.Prelude.{ℕ, suc, ◌≡◌, ◌<◌, ◌≤◌, Bool, true, false, List, [], ◌∷◌, ◌++◌}
use Rattle.mini_model.specs.declared.place.Position.{Position}
use Rattle.mini_model.specs.declared.place.Position.TheVariants.{Elsewhere}
use Rattle.mini_model.specs.Paths.{Path, standing, by_standing}
use Rattle.mini_model.specs.Position.{child_position}
use Rattle.mini_model.specs.Tree.{Tree, count, children, shape_of}
use Rattle.mini_node.specs.Children.{part, with_part}
use Rattle.mini_log.specs.Walk.{spot}
use Rattle.mini_checker.specs.Made.{index_in}
use Rattle.mini_steps.specs.declared.names.RuleName.{RuleName}
use Rattle.mini_steps.specs.declared.names.Step.{Step}
use Rattle.mini_steps.specs.Called.{Relation, Called}

-- where the child at an index stands
abbrev pub place_in : Position → Tree → ℕ → Position
place_in p t k = child_position (shape_of t) p (count (children t)) k

-- the rest of a path that goes on in a child, in which the index is this one: past a node of
-- ESTree, or inside a list or an inner expression, which is none
abbrev pub rest_in : Tree → ℕ → Path → Path
rest_in c j q = by_standing (standing (shape_of c)) q (j ∷ q) (j ∷ q)

-- one call at the node to which a path leads, in its place, and all else stays; where the path
-- leads nowhere, nothing is done
pub data AtPath (R : Relation) : Path → Position → Tree → Tree → Bool → Type 0 where
  here : (p : Position) (t u : Tree) (b : Bool) → Called R p t u b → AtPath R [] p t u b
  below : (i : ℕ) (q : Path) (p : Position) (t v : Tree) (k : ℕ) (b : Bool) → k ≡ spot (children t) i → k < count (children t) → AtPath R (rest_in (part t k) (index_in (children t) i) q) (place_in p t k) (part t k) v b → AtPath R (i ∷ q) p t (with_part t k v) b
  nowhere : (i : ℕ) (q : Path) (p : Position) (t : Tree) → count (children t) ≤ spot (children t) i → AtPath R (i ∷ q) p t t false

-- from one program to another by steps in order, of which so many changed something. G has the rows
-- of each call
pub data Followed (G : RuleName → Relation) : List Step → Tree → Tree → ℕ → Type 0 where
  no_step : (t : Tree) → Followed G [] t t 0
  changed : (ss : List Step) (s : Step) (t u v : Tree) (n : ℕ) → Followed G ss t u n → AtPath (G s.rule) s.at Elsewhere u v true → Followed G (ss ++ s ∷ []) t v (suc n)
  stayed : (ss : List Step) (s : Step) (t u v : Tree) (n : ℕ) → Followed G ss t u n → AtPath (G s.rule) s.at Elsewhere u v false → Followed G (ss ++ s ∷ []) t v n
