-- A look for a name in a tree that tells, where the name is mentioned, whether an initializer may
-- be put there.
use Rattle.std.specs.Prelude.{◌≡◌, ◌<◌, ℕ, Bool, true, false, Option, Some, None}
use Rattle.mini_model.specs.declared.name.Name.{Name}
use Rattle.mini_model.specs.declared.shape.Shape.{Shape}
use Rattle.mini_model.specs.Tree.{Tree, Trees, count, child_or_absent}
use Rattle.mini_node.specs.Children.{first_children}
use Rattle.mini_rows.specs.Past.{Kept, are_past_in}
use Rattle.mini_rows.specs.declared.gathered.Gathered.{Gathered}
use Rattle.mini_rows.specs.Unused.{names, any_names, gathered_below}

-- the part at the place is the first that mentions the name
pub record FirstAt (x : Name) (ts : Trees) (i : ℕ) : Type 0 where
  pub within : i < count ts
  pub before : any_names x (first_children i ts) ≡ false
  pub there : names x (child_or_absent ts i) ≡ true

-- of some parts of a node of such a shape
abbrev pub LookedAlong : Kept → Name → Gathered → Tree → Shape → Trees → Option (ℕ × Bool) → Type 0
LookedAlong H x m r s ts (Some (i, b)) = FirstAt x ts i × (b ≡ are_past_in H x (gathered_below m s i) r (child_or_absent ts i))
LookedAlong H x m r s ts None = any_names x ts ≡ false
