-- The trees no name of which has a symbol, and no declarator of which has a name: what is read,
-- before names are resolved.
use Rattle.std.specs.Prelude.{Bool, true, false, ◌&&◌, not, List, [], ◌∷◌, is_some}
use Rattle.mini_model.specs.declared.name.Name.{Name}
use Rattle.mini_model.specs.declared.shape.Shape.{Shape}
use Rattle.mini_model.specs.declared.shape.Shape.TheVariants as shape
use Rattle.mini_model.specs.Tree.{Tree, node, Trees, none, ◌▸◌}

abbrev pub are_unresolved : List Name → Bool
are_unresolved [] = true
are_unresolved (x ∷ xs) = not (is_some x.symbol) && are_unresolved xs

abbrev pub are_as_written : Shape → List Name → Bool
are_as_written h [] = true
are_as_written shape.VariableDeclarator (x ∷ xs) = false
are_as_written h (x ∷ xs) = are_unresolved (x ∷ xs)

abbrev mutual
  pub has_no_symbol : Tree → Bool
  has_no_symbol (node h xs n ts) = are_as_written h xs && have_no_symbol ts

  pub have_no_symbol : Trees → Bool
  have_no_symbol none = true
  have_no_symbol (t ▸ ts) = has_no_symbol t && have_no_symbol ts
