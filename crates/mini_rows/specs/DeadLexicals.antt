-- The row of a class, a `let` or a `const` that never runs, as an equation: a shape and what is
-- written in its place, with the JavaScript before and after. Code before it may mention its names,
-- which nothing ever initializes, so they stay declared; what would initialize them goes.
use Rattle.std.specs.Prelude.{◌≡◌, nat_eq, nat_lt, Bool, true, false, ◌&&◌, List, [], ◌∷◌, pos}
use Rattle.mini_model.specs.declared.kind.VariableDeclarationKind.{VariableDeclarationKind}
use Rattle.mini_model.specs.declared.kind.VariableDeclarationKind.TheVariants.{Let, Const}
use Rattle.mini_model.specs.declared.name.Name.{Name}
use Rattle.mini_model.specs.declared.operator.UnaryOperator.TheVariants.{LogicalNot}
use Rattle.mini_model.specs.declared.place.Position.TheVariants.{Stmt, StatementList}
use Rattle.mini_model.specs.declared.seat.StmtSeat.TheVariants as stmt_seat
use Rattle.mini_model.specs.declared.shape.Shape.{Shape}
use Rattle.mini_model.specs.declared.shape.Shape.TheVariants as shape
use Rattle.mini_model.specs.Tree.{Tree, Trees, node, none, ◌▸◌, count, leaf, absent, listed, shape_of, children, child_or_absent}
use Rattle.mini_model.specs.Paths.{append}
use Rattle.mini_model.specs.Weight.{weight, capped}
use Rattle.mini_laws.specs.declared.names.Declared.TheVariants as declared
use Rattle.mini_laws.specs.DeclaredNames.{is_inner, names_of}
use Rattle.mini_rows.specs.Lists.{declaration, declarator, binding, is_terminated, encloses}

-- ---- what declares names in its list (ECMA-262, "LexicallyScopedDeclarations"), functions aside

abbrev pub is_lexical_shape : Shape → Bool
is_lexical_shape (shape.VariableDeclaration Let) = true
is_lexical_shape (shape.VariableDeclaration Const) = true
is_lexical_shape (shape.Class true) = true
is_lexical_shape _ = false

abbrev pub is_lexical : Tree → Bool
is_lexical t = is_lexical_shape (shape_of t)

-- ---- whether the names that a part of a declaration gives where its list is entered are those that it binds, in order (ECMA-262,
-- "BoundNames"), as they are in a program: a name is one, and a default binds nothing

pub data Giving : Type 0 where
  By_name : Giving
  By_all : Giving
  By_first : Giving
  By_default : Giving
  Never : Giving
  Nothing : Giving

abbrev pub giving_of : Shape → Giving
giving_of shape.BindingIdentifier = By_name
giving_of shape.Listed = By_all
giving_of shape.ObjectPattern = By_all
giving_of shape.ArrayPattern = By_all
giving_of (shape.BindingProperty is_shorthand is_computed) = By_all
giving_of shape.RestElement = By_all
giving_of shape.VariableDeclarator = By_first
giving_of shape.AssignmentPattern = By_default
giving_of (shape.UnaryExpression LogicalNot) = Never
giving_of (shape.VariableDeclaration k) = Never
giving_of (shape.Class true) = Never
giving_of shape.SwitchCase = Never
giving_of shape.ExportNamedDeclaration = Never
giving_of shape.ExportDefaultDeclaration = Never
giving_of shape.ImportSpecifier = Never
giving_of shape.ImportDefaultSpecifier = Never
giving_of shape.ImportNamespaceSpecifier = Never
giving_of _ = Nothing

abbrev pub is_single : List Name → Bool
is_single (x ∷ []) = true
is_single xs = false

-- a pattern and its default
abbrev pub has_default : Trees → Bool
has_default ts = nat_eq (count ts) 2 && is_inner (shape_of (child_or_absent ts 1))

abbrev pub gives_by : Giving → List Name → Trees → Bool → Bool → Bool
gives_by By_name xs ts all first = is_single xs
gives_by By_all xs ts all first = all
gives_by By_first xs ts all first = first
gives_by By_default xs ts all first = has_default ts && first
gives_by Never xs ts all first = false
gives_by Nothing xs ts all first = true

abbrev mutual
  pub gives : Tree → Bool
  gives (node h xs n ts) = gives_by (giving_of h) xs ts (all_give ts) (first_gives ts)

  pub all_give : Trees → Bool
  all_give none = true
  all_give (t ▸ ts) = gives t && all_give ts

  pub first_gives : Trees → Bool
  first_gives none = true
  first_gives (t ▸ ts) = gives t

-- ---- what goes

-- of a declaration its one list of declarators, of a class all of it
abbrev pub goes_whole : Tree → Bool
goes_whole (node (shape.VariableDeclaration k) xs n ts) = nat_eq (count ts) 1 && encloses false (child_or_absent ts 0)
goes_whole t = encloses false t

-- it gives the names that it declares, and takes along each other name in it that can't be written
abbrev pub may_fade : Tree → Bool
may_fade t = is_lexical t && (first_gives (children t) && goes_whole t)

-- ---- what is left

-- a write of a `const` raises (ECMA-262, "SetMutableBinding"), so that it stays one; a class is
-- declared like a `let`
abbrev pub kind_left : Shape → VariableDeclarationKind
kind_left (shape.VariableDeclaration Const) = Const
kind_left h = Let

-- a `const` has an initializer
abbrev pub initializer : VariableDeclarationKind → Tree
initializer Const = leaf (shape.NumericLiteral (pos 0))
initializer k = absent

abbrev pub declarators : VariableDeclarationKind → List Name → Trees
declarators k [] = none
declarators k (x ∷ xs) = declarator (binding x) (initializer k) ▸ declarators k xs

-- `let x, y;`, or nothing where there is no name
abbrev pub declared_with : VariableDeclarationKind → List Name → Trees
declared_with k [] = none
declared_with k (x ∷ xs) = declaration k (declarators k (x ∷ xs)) ▸ none

abbrev pub faded : Tree → Trees
faded t = declared_with (kind_left (shape_of t)) (names_of declared.Lexical t)

-- that is lighter
abbrev pub is_lighter_faded : Tree → Bool
is_lighter_faded t = nat_lt (capped (weight StatementList (listed (faded t)))) (capped (weight (Stmt stmt_seat.List) t))

-- 77: `return a; class C { .. }` becomes `return a; let C;`, `return a; let { x } = b();` becomes
-- `return a; let x;`, and `return a; const [x, y] = b();` becomes `return a; const x = 0, y = 0;`
pub record Row77Lexical (a b : Trees) : Type 0 where
  pub first : Tree
  pub between : Trees
  pub gone : Tree
  pub terminated : is_terminated first ≡ true
  pub fades : may_fade gone ≡ true
  pub lighter : is_lighter_faded gone ≡ true
  pub shape : a ≡ first ▸ append between (gone ▸ none)
  pub written : b ≡ first ▸ append between (faded gone)
