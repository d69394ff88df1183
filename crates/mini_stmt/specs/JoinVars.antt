-- 68: `var a; var b;` becomes `var a, b;`, and so with `let` and `const`; `var a; for (var b;;) c`
-- becomes `for (var a, b;;) c`.
use Rattle.std.specs.Prelude.{Bool, true, false, ◌&&◌, ◌||◌, Option, Some, None, if◌then◌else◌}
use Rattle.mini_model.specs.declared.kind.VariableDeclarationKind.{VariableDeclarationKind}
use Rattle.mini_model.specs.declared.kind.VariableDeclarationKind.TheVariants.{Var, Let, Const}
use Rattle.mini_model.specs.declared.shape.Shape.{Shape}
use Rattle.mini_model.specs.declared.shape.Shape.TheVariants as shape
use Rattle.mini_model.specs.Tree.{Tree, shape_of, children}
use Rattle.mini_model.specs.Paths.{append}
use Rattle.mini_node.specs.Children.{part, with_part, is_bare}
use Rattle.mini_node.specs.Kinds.{is_listed, carried}
use Rattle.mini_rows.specs.Lists.{declaration}
use Rattle.mini_stmt.specs.JoinHeads.{is_for, has_free_init}

abbrev pub same_kind : VariableDeclarationKind → VariableDeclarationKind → Bool
same_kind Var Var = true
same_kind Let Let = true
same_kind Const Const = true
same_kind _ _ = false

abbrev pub kind_in : Shape → Option VariableDeclarationKind
kind_in (shape.VariableDeclaration k) = Some k
kind_in _ = None

-- the kind of a declaration
abbrev pub declared_kind : Tree → Option VariableDeclarationKind
declared_kind t = carried (kind_in (shape_of t)) (is_bare t 1 && is_listed (part t 0))

abbrev pub is_kind : Option VariableDeclarationKind → VariableDeclarationKind → Bool
is_kind (Some l) k = same_kind l k
is_kind None k = false

-- a declaration of this kind
abbrev pub declares : VariableDeclarationKind → Tree → Bool
declares k t = is_kind (declared_kind t) k

-- `var a, b;`, of `var a;` and `var b;`
abbrev pub joined_declarations : VariableDeclarationKind → Tree → Tree → Tree
joined_declarations k t u = declaration k (append (children (part t 0)) (children (part u 0)))

abbrev pub is_var : VariableDeclarationKind → Bool
is_var Var = true
is_var _ = false

-- `for (var b; c; d) e`
abbrev pub has_var_init : Tree → Bool
has_var_init u = is_for u && declares Var (part u 0)

-- a `for` without an init, or with a `var`
abbrev pub takes_var : Tree → Bool
takes_var u = has_free_init u || has_var_init u

-- a declaration of this kind goes into it
abbrev pub takes_declaration : VariableDeclarationKind → Tree → Bool
takes_declaration k u = is_var k && takes_var u

-- `for (var a, b; c; d) e`, of `var a;` and `for (var b; c; d) e`
abbrev pub with_var : Tree → Tree → Tree
with_var t u = with_part u 0 (if has_free_init u then t else joined_declarations Var t (part u 0))

-- either of them
abbrev pub with_declaration : VariableDeclarationKind → Tree → Tree → Tree
with_declaration k t u = if declares k u then joined_declarations k t u else with_var t u
