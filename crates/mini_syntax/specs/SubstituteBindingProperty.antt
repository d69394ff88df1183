-- 52 of brackets in a pattern that is declared, `substitute_binding_property`: a text or a whole
-- number in brackets loses them, one key of a pattern after another. It is read at what declares
-- the pattern, a declarator or a `catch`.
use Rattle.std.specs.Prelude.{Bool, true, false, not, ◌&&◌, ◌||◌, nat_eq, [], if◌then◌else◌}
use Rattle.mini_model.specs.declared.shape.Shape.{Shape}
use Rattle.mini_model.specs.declared.shape.Shape.TheVariants as shape
use Rattle.mini_model.specs.Tree.{Tree, Trees, node, none, ◌▸◌, shape_of}
use Rattle.mini_node.specs.Children.{part, number_of, is_bare}
use Rattle.mini_rows.specs.KeyHolders.{is_pattern_part}
use Rattle.mini_syntax.specs.Forms.{is_inner, bracketed_key}
use Rattle.mini_syntax.specs.SubstituteObjectProperty.{is_literal_key}

abbrev pub is_bracketed_shape : Shape → Bool
is_bracketed_shape (shape.BindingProperty false true) = true
is_bracketed_shape _ = false

-- `[k]: v`
abbrev pub is_bracketed : Tree → Bool
is_bracketed t = is_bracketed_shape (shape_of t) && is_bare t 2

-- it has a number
abbrev pub is_numbered : Tree → Bool
is_numbered t = not (nat_eq (number_of t) 0)

-- `["x"]: v` and `[1]: v`
abbrev pub drops_brackets : Tree → Bool
drops_brackets t = is_bracketed t && (is_inner (part t 0) && (is_numbered (part t 0) && is_literal_key false (bracketed_key t)))

abbrev pub bare : Tree → Tree
bare t = node (shape.BindingProperty false false) [] 0 (bracketed_key t ▸ part t 1 ▸ none)

-- a part of a pattern has such a property, and is without the brackets of the first one
abbrev mutual
  pub bares : Tree → Bool
  bares (node h xs n ts) = drops_brackets (node h xs n ts) || (is_pattern_part h && any_bares ts)

  pub any_bares : Trees → Bool
  any_bares none = false
  any_bares (t ▸ ts) = bares t || any_bares ts

abbrev mutual
  pub bared : Tree → Tree
  bared (node h xs n ts) = if drops_brackets (node h xs n ts) then bare (node h xs n ts) else (if is_pattern_part h then node h xs n (first_bared ts) else node h xs n ts)

  pub first_bared : Trees → Trees
  first_bared none = none
  first_bared (t ▸ ts) = if bares t then bared t ▸ ts else t ▸ first_bared ts

-- Of what declares a pattern

abbrev pub is_declaring_shape : Shape → Bool
is_declaring_shape shape.VariableDeclarator = true
is_declaring_shape shape.CatchClause = true
is_declaring_shape _ = false

abbrev pub is_declaring : Tree → Bool
is_declaring t = is_declaring_shape (shape_of t) && is_bare t 2

-- whether it changes, and what is made of it
abbrev pub declares_brackets : Tree → Bool
declares_brackets t = is_declaring t && bares (part t 0)

abbrev pub declared_bare : Tree → Tree
declared_bare t = if is_declaring t then node (shape_of t) [] 0 (bared (part t 0) ▸ part t 1 ▸ none) else t
