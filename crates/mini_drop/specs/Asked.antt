-- Which parts of lists go where the symbols of a set are to go, as the code asks it.
use Rattle.std.specs.Prelude.{ℕ, Bool, true, false, ◌&&◌, List, [], ◌∷◌, if◌then◌else◌}
use Rattle.mini_model.specs.declared.name.Name.{Name}
use Rattle.mini_model.specs.declared.shape.Shape.{Shape}
use Rattle.mini_model.specs.declared.shape.Shape.TheVariants as shape
use Rattle.mini_model.specs.Tree.{Tree, Trees, none, ◌▸◌, count, children, child_or_absent, shape_of}
use Rattle.mini_node.specs.Children.{names_of, has_count}
use Rattle.mini_node.specs.Kinds.{is_listed_shape}
use Rattle.mini_dead.specs.Pruned.{Spot, Elsewhere, Statements, AStatement, Declarators, CaseList, OneCase, Role, Plain, HasStatements, HasCases, StatementList, Declaration, DeclaratorList, CasesOf, CaseOf}
use Rattle.mini_dead.specs.Dead.{has_name, is_dispensable, is_function_value}
use Rattle.mini_drop.specs.declared.place.Spot as spot'
use Rattle.mini_drop.specs.declared.place.Spot.TheVariants as spot
use Rattle.mini_drop.specs.declared.place.Role as role'
use Rattle.mini_drop.specs.declared.place.Role.TheVariants as role

-- ---- places

abbrev pub spot_in : spot'.Spot → Spot
spot_in spot.Elsewhere = Elsewhere
spot_in spot.Statements = Statements
spot_in spot.AStatement = AStatement
spot_in (spot.Declarators lexical) = Declarators lexical
spot_in spot.CaseList = CaseList
spot_in spot.OneCase = OneCase

abbrev pub role_in : role'.Role → Role
role_in role.Plain = Plain
role_in role.HasStatements = HasStatements
role_in role.HasCases = HasCases
role_in role.StatementList = StatementList
role_in (role.Declaration lexical) = Declaration lexical
role_in (role.DeclaratorList lexical) = DeclaratorList lexical
role_in role.CasesOf = CasesOf
role_in role.CaseOf = CaseOf

-- ---- items

abbrev pub is_binding_shape : Shape → Bool
is_binding_shape shape.BindingIdentifier = true
is_binding_shape h = false

abbrev pub is_declarator_shape : Shape → Bool
is_declarator_shape shape.VariableDeclarator = true
is_declarator_shape h = false

abbrev pub has_no_name : List Name → Bool
has_no_name [] = true
has_no_name xs = false

abbrev pub is_one : List Name → Bool
is_one (x ∷ []) = true
is_one xs = false

abbrev pub is_declared_function : Shape → Bool
is_declared_function (shape.Function true is_generator directives) = true
is_declared_function h = false

-- a plain name that is declared
abbrev pub is_plain : Tree → Bool
is_plain t = is_binding_shape (shape_of t) && (has_count (children t) 0 && is_one (names_of t))

abbrev pub is_plain_declarator : Tree → Bool
is_plain_declarator t = is_declarator_shape (shape_of t) && (has_no_name (names_of t) && (has_count (children t) 2 && (is_plain (child_or_absent (children t) 0) && is_dispensable (child_or_absent (children t) 1))))

-- whether a part of a list is an item with a name, whatever symbol it has
abbrev pub is_item : Role → Tree → Bool
is_item StatementList t = is_declared_function (shape_of t) && is_plain (child_or_absent (children t) 0)
is_item (DeclaratorList lexical) t = is_plain_declarator t
is_item r t = false

abbrev pub one_if : Bool → ℕ
one_if true = 1
one_if false = 0

module _ (S : ℕ → Bool) where
  -- the one name has a symbol of the set
  abbrev pub one_in : List Name → Bool
  one_in (x ∷ []) = has_name S x
  one_in xs = false

  -- a plain name that is declared, and whose symbol is of the set
  abbrev pub binds : Tree → Bool
  binds t = is_binding_shape (shape_of t) && (has_count (children t) 0 && one_in (names_of t))

  abbrev pub declarator_goes : Tree → Bool
  declarator_goes t = is_declarator_shape (shape_of t) && (has_no_name (names_of t) && (has_count (children t) 2 && (binds (child_or_absent (children t) 0) && is_dispensable (child_or_absent (children t) 1))))

  abbrev pub all_go : Trees → Bool
  all_go none = true
  all_go (t ▸ ts) = declarator_goes t && all_go ts

  -- how many declarators go with their declaration
  abbrev pub declarators_of : Tree → ℕ
  declarators_of t = if is_listed_shape (shape_of t) && all_go (children t) then count (children t) else 0

  abbrev pub items_by : Shape → Trees → ℕ
  items_by (shape.Function true is_generator directives) ts = one_if (binds (child_or_absent ts 0))
  items_by shape.ExpressionStatement ts = one_if (has_count ts 1 && is_function_value (child_or_absent ts 0))
  items_by (shape.VariableDeclaration k) ts = if has_count ts 1 then declarators_of (child_or_absent ts 0) else 0
  items_by h ts = 0

  -- how many items a part of a list is, where it goes; 0 where it stays
  abbrev pub items_of : Role → Tree → ℕ
  items_of StatementList t = items_by (shape_of t) (children t)
  items_of (DeclaratorList lexical) t = one_if (declarator_goes t)
  items_of r t = 0
