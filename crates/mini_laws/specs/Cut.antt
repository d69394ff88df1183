-- A tree without the bodies that are nested in it: of a function its name and its number are left,
-- and of an inner expression of a carried node its number, and whether a chain may end in it.
use Rattle.std.specs.Prelude.{Bool, true, false, []}
use Rattle.mini_model.specs.declared.shape.Shape.{Shape}
use Rattle.mini_model.specs.declared.shape.Shape.TheVariants as shape
use Rattle.mini_model.specs.Tree.{Tree, Trees, node, none, ◌▸◌}
use Rattle.mini_laws.specs.Value.{choose}
use Rattle.mini_laws.specs.Naming.{first_facts, facts}

-- what the world evaluates by one event with the node's number, classes aside
abbrev pub is_carried : Shape → Bool
is_carried (shape.RegExpLiteral pattern flags) = true
is_carried shape.PrivateInExpression = true
is_carried shape.SuperCallExpression = true
is_carried shape.SuperStaticMemberExpression = true
is_carried shape.SuperComputedMemberExpression = true
is_carried (shape.PrivateFieldExpression is_optional) = true
is_carried shape.TaggedTemplateExpression = true
is_carried (shape.MetaProperty k) = true
is_carried shape.ImportExpression = true
is_carried shape.ObjectPattern = true
is_carried shape.ArrayPattern = true
is_carried shape.ObjectAssignmentTarget = true
is_carried shape.ArrayAssignmentTarget = true
is_carried h = false

abbrev pub first_child : Trees → Trees
first_child none = none
first_child (t ▸ ts) = t ▸ none

-- the first of some with the others of some
abbrev pub with_first : Trees → Trees → Trees
with_first (t ▸ ts) (u ▸ us) = t ▸ us
with_first ts us = us

-- an optional link, where a chain may end
abbrev pub link : Bool → Trees
link shortens = choose shortens (node (shape.StaticMemberExpression true) [] 0 none ▸ none) none

-- what is left of a node's children in a carried node
abbrev pub bare_by : Shape → Trees → Trees → Trees
bare_by shape.InnerExpression ts us = link (first_facts (facts ts)).shortens
bare_by (shape.Function is_declaration is_generator directives) ts us = first_child ts
bare_by (shape.ArrowFunctionExpression directives) ts us = none
bare_by shape.StaticBlock ts us = none
bare_by h ts us = us

-- a part of a carried node
abbrev mutual
  pub bare : Tree → Tree
  bare (node h xs n ts) = node h xs n (bare_by h ts (bare_all ts))

  pub bare_all : Trees → Trees
  bare_all none = none
  bare_all (t ▸ ts) = bare t ▸ bare_all ts

-- what is left of a node's children, which are these without the bodies in them; and these as parts
-- of a carried node
abbrev pub cut_by : Shape → Trees → Trees → Trees → Trees
cut_by (shape.Function is_declaration is_generator directives) ts us bares = first_child ts
cut_by (shape.ArrowFunctionExpression directives) ts us bares = none
cut_by (shape.Class is_declaration) ts us bares = with_first ts bares
cut_by h ts us bares = choose (is_carried h) bares us

-- a tree of a body
abbrev mutual
  pub cut : Tree → Tree
  cut (node h xs n ts) = node h xs n (cut_by h ts (cut_all ts) (bare_all ts))

  pub cut_all : Trees → Trees
  cut_all none = none
  cut_all (t ▸ ts) = cut t ▸ cut_all ts
