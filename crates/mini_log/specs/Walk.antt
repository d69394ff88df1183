-- A rewrite of the node that a path leads to.
use Rattle.std.specs.Prelude.{ℕ, zero, suc, ◌-◌, nat_lt, [], ◌∷◌, Option, Some, None, option_map, if◌then◌else◌}
use Rattle.mini_model.specs.Tree.{Tree, Trees, node, none, ◌▸◌, count, shape_of}
use Rattle.mini_model.specs.declared.place.Position.{Position}
use Rattle.mini_model.specs.Position.{child_position}
use Rattle.mini_model.specs.Paths.{Path, standing, by_standing, width}

-- the first of two that is there
abbrev pub or_else : {A : Type 0} → Option A → Option A → Option A
or_else (Some x) y = Some x
or_else None y = y

-- The tree in which f rewrites the first node on the path of which it makes something, told the
-- node's place and the rest of the path from there; nothing where it makes nothing of any. A row of
-- the node that the path leads to is told an empty rest, one of the statement at an index of a
-- list, or in a branch of another, that index
abbrev mutual
  pub step_at : (Position → Tree → Path → Option Tree) → Position → Tree → Path → Option Tree
  step_at f p (node h xs n ts) [] = f p (node h xs n ts) []
  step_at f p (node h xs n ts) (i ∷ q) = or_else (f p (node h xs n ts) (i ∷ q)) (option_map (node h xs n) (step_in f (child_position h p (count ts)) ts i q))

  -- a list, or an inner expression, is no node of ESTree: the index goes on inside it
  pub step_in : (Position → Tree → Path → Option Tree) → (ℕ → Position) → Trees → ℕ → Path → Option Trees
  step_in f π none i q = None
  step_in f π (t ▸ ts) i q = if nat_lt i (width t) then option_map (λ u. u ▸ ts) (step_at f (π zero) t (by_standing (standing (shape_of t)) q (i ∷ q) (i ∷ q))) else option_map (λ us. t ▸ us) (step_in f (λ j. π (suc j)) ts (i - width t) q)

-- the index, among some trees, of the one that stands for the node of ESTree of this index
abbrev pub spot : Trees → ℕ → ℕ
spot none i = 0
spot (t ▸ ts) i = if nat_lt i (width t) then 0 else suc (spot ts (i - width t))
