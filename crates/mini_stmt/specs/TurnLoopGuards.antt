-- 75 of loops, `turn_loop_guard`: `while (a) { if (b) continue; c(); }` becomes
-- `while (a) { if (!b) { c(); } }`, and `while (a) { if (b) { c(); continue; } d(); }` becomes
-- `while (a) { if (b) { c(); } else { d(); } }`; and `while (a) if (b) { c(); continue; }` becomes
-- `while (a) if (b) { c(); }`.
use Rattle.std.specs.Prelude.{◌≡◌, ℕ, Bool, true, false, Option, Some, None, if◌then◌else◌}
use Rattle.mini_model.specs.declared.place.Position.{Position}
use Rattle.mini_model.specs.declared.shape.Shape.{Shape}
use Rattle.mini_model.specs.declared.shape.Shape.TheVariants as shape
use Rattle.mini_model.specs.Tree.{Tree, Trees, none, shape_of, children}
use Rattle.mini_node.specs.Children.{part, is_bare, like, with_child}
use Rattle.mini_node.specs.Kinds.{block}
use Rattle.mini_tree.specs.declared.options.CompressOptions.{CompressOptions}
use Rattle.mini_rows.specs.LoopGuards.{TurnsRow, LoopGuardRow, LoopGuardContracts}
use Rattle.mini_stmt.specs.MinimizeBody.{Turned, TurnedAt}
use Rattle.mini_stmt.specs.MinimizeStatements.{switches_of}
use Rattle.mini_stmt.specs.SpreadBlock.{body_of}

abbrev pub some_if : Bool → ℕ → Option ℕ
some_if b i = if b then Some i else None

-- the place of the body of a loop
abbrev pub body_by : Shape → Tree → Option ℕ
body_by shape.WhileStatement t = some_if (is_bare t 2) 1
body_by shape.DoWhileStatement t = some_if (is_bare t 2) 0
body_by shape.ForStatement t = some_if (is_bare t 4) 3
body_by shape.ForInStatement t = some_if (is_bare t 3) 2
body_by shape.ForOfStatement t = some_if (is_bare t 3) 2
body_by h t = None

abbrev pub body_place : Tree → Option ℕ
body_place t = body_by (shape_of t) t

-- a guard of the block there takes in what follows
pub record TurnedIn (t : Tree) (i g : ℕ) (u : Tree) : Type 0 where
  pub list : Trees
  pub turned : TurnedAt true (body_of (part t i)) g list
  pub is : u ≡ like t (with_child (children t) i (block list))

-- a guard that is the body there by itself
pub record TurnedWhole (t : Tree) (i : ℕ) (u : Tree) : Type 0 where
  pub made : Tree
  pub turned : Turned true (part t i) none made
  pub is : u ≡ like t (with_child (children t) i made)

-- a row writes it, or reads nothing there
abbrev pub TurnsLoop : Tree → Tree → Bool → Type 0
TurnsLoop t u true = TurnsRow t u
TurnsLoop t u false = (u ≡ t) × ((w : Tree) → TurnsRow t w → ⊥)

-- what the rule makes
abbrev pub GivesLoops : CompressOptions → Tree → Position → Tree → Tree → Type 0
GivesLoops o q = LoopGuardContracts (switches_of o)

abbrev pub LoopsRest : CompressOptions → Tree → Position → Tree → Type 0
LoopsRest o q p t = (w : Tree) → LoopGuardRow (switches_of o) p t w → ⊥
