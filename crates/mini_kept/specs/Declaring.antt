-- The names that a tree declares: those of its binding identifiers (ECMA-262, "Static Semantics:
-- BoundNames").
use Rattle.std.specs.Prelude.{List, [], ◌++◌}
use Rattle.mini_model.specs.declared.name.Name.{Name}
use Rattle.mini_model.specs.declared.shape.Shape.{Shape}
use Rattle.mini_model.specs.declared.shape.Shape.TheVariants as shape
use Rattle.mini_model.specs.Tree.{Tree, Trees, node, none, ◌▸◌}

abbrev pub declared_by : Shape → List Name → List Name
declared_by shape.BindingIdentifier xs = xs
declared_by _ xs = []

abbrev mutual
  pub declared : Tree → List Name
  declared (node h xs n ts) = declared_by h xs ++ declared_all ts

  pub declared_all : Trees → List Name
  declared_all none = []
  declared_all (t ▸ ts) = declared t ++ declared_all ts
