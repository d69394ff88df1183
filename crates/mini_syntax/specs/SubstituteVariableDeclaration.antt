-- 61, `substitute_variable_declaration`: `let x = undefined` and `let x = void 0` become `let x`.
use Rattle.std.specs.Prelude.{◌≡◌, ℕ, Bool, true, false, ◌&&◌, ◌||◌}
use Rattle.mini_model.specs.declared.kind.VariableDeclarationKind.TheVariants.{Let}
use Rattle.mini_model.specs.declared.place.Position.{Position}
use Rattle.mini_model.specs.declared.shape.Shape.{Shape}
use Rattle.mini_model.specs.declared.shape.Shape.TheVariants as shape
use Rattle.mini_model.specs.Tree.{Tree, Trees, none, ◌▸◌, shape_of, absent, children}
use Rattle.mini_node.specs.Children.{part, with_part, is_bare}
use Rattle.mini_node.specs.Kinds.{is_named_leaf, is_listed}
use Rattle.mini_rows.specs.Declarations.{Row61, Item, held, DeclarationRow, DeclarationContracts}
use Rattle.mini_tree.specs.Rule as rule
use Rattle.mini_syntax.specs.Forms.{is_undefined}

-- shapes

abbrev pub is_binding_shape : Shape → Bool
is_binding_shape shape.BindingIdentifier = true
is_binding_shape _ = false

abbrev pub is_declarator_shape : Shape → Bool
is_declarator_shape shape.VariableDeclarator = true
is_declarator_shape _ = false

abbrev pub is_let_shape : Shape → Bool
is_let_shape (shape.VariableDeclaration Let) = true
is_let_shape _ = false

abbrev pub is_export_shape : Shape → Bool
is_export_shape shape.ExportNamedDeclaration = true
is_export_shape _ = false

abbrev pub is_for_shape : Shape → Bool
is_for_shape shape.ForStatement = true
is_for_shape _ = false

-- a name that is declared
abbrev pub is_binding : Tree → Bool
is_binding t = is_binding_shape (shape_of t) && is_named_leaf t

-- `x = undefined` and `x = void 0`
abbrev pub begins_undefined : Tree → Bool
begins_undefined d = is_declarator_shape (shape_of d) && (is_bare d 2 && (is_binding (part d 0) && is_undefined (part d 1)))

-- one of them does
abbrev pub any_of : (Tree → Bool) → Trees → Bool
any_of f none = false
any_of f (t ▸ ts) = f t || any_of f ts

-- a `let` with such a declarator
abbrev pub declares_undefined : Tree → Bool
declares_undefined t = is_let_shape (shape_of t) && (is_bare t 1 && (is_listed (part t 0) && any_of begins_undefined (children (part t 0))))

-- `export let x = undefined;`
abbrev pub exports_undefined : Tree → Bool
exports_undefined t = is_export_shape (shape_of t) && (is_bare t 3 && declares_undefined (part t 0))

-- a statement of a list that is one or the other
abbrev pub is_read : Tree → Bool
is_read t = declares_undefined t || exports_undefined t

-- `for (let x = undefined; b; c) d`
abbrev pub loops_undefined : Tree → Bool
loops_undefined t = is_for_shape (shape_of t) && (is_bare t 4 && declares_undefined (part t 0))

-- the declaration without the initializer at a place
abbrev pub dropped : Tree → ℕ → Tree
dropped ds i = with_part ds i (with_part (part ds i) 1 absent)

abbrev pub bared : Tree → ℕ → Tree
bared t i = with_part t 0 (dropped (part t 0) i)

-- a statement for another: the declaration in it loses an initializer
pub record Bared (t u : Tree) : Type 0 where
  pub item : Item
  pub declared : Tree
  pub bare : Tree
  pub row : Row61 declared bare
  pub shape : t ≡ held item declared
  pub written : u ≡ held item bare

-- no row reads it as anything
abbrev pub Rests : Position → Tree → Type 0
Rests p n = (w : Tree) → DeclarationRow p n w → ⊥

-- one call of the rule
abbrev pub Applied : Position → Tree → Tree → Bool → Type 0
Applied = rule.Applied DeclarationContracts Rests
