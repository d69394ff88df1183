-- Rows of `switch` and of `for` in which names are declared that no other body mentions, as
-- equations: each is a shape and what is written in its place, with the JavaScript before and
-- after. V has the variables that no event shows while the body runs in which the statement stands.
use Rattle.std.specs.Prelude.{◌≡◌, ◌⊎◌, ◌&&◌, ◌||◌, not, Bool, true, false, List, [], ◌∷◌, Option, None, Some}
use Rattle.mini_model.specs.declared.name.Name.{Name}
use Rattle.mini_model.specs.declared.name.SymbolId.{SymbolId}
use Rattle.mini_model.specs.declared.operator.UnaryOperator.TheVariants.{LogicalNot}
use Rattle.mini_model.specs.declared.kind.VariableDeclarationKind.TheVariants.{Let, Const}
use Rattle.mini_model.specs.declared.operator.BinaryOperator.TheVariants.{StrictEquality}
use Rattle.mini_model.specs.declared.place.Position.{Position}
use Rattle.mini_model.specs.declared.place.Position.TheVariants.{Stmt}
use Rattle.mini_model.specs.declared.shape.Shape.{Shape}
use Rattle.mini_model.specs.declared.shape.Shape.TheVariants as shape
use Rattle.mini_model.specs.Tree.{Tree, Trees, node, none, ◌▸◌, shape_of, if_alone, listed}
use Rattle.mini_laws.specs.Value.{Declared, VariableSet}
use Rattle.mini_laws.specs.State.{Environment}
use Rattle.mini_laws.specs.Demand.{Demand}
use Rattle.mini_laws.specs.Fits.{Fits}
use Rattle.mini_laws.specs.Congruence.{Apart}
use Rattle.mini_laws.specs.Weights.{Lightens}
use Rattle.mini_rows.specs.Fading.{Fading}
use Rattle.mini_rows.specs.Cases.{one_case, ended, breaks_out}
use Rattle.mini_rows.specs.Lists.{block, for_loop, is_unscoped, declares_nothing}
use Rattle.mini_rows.specs.Loops.{Tested, test_of, is_tested, also, Leaving, leaves_by, goes_by, runs_on, is_loose, is_test}
use Rattle.mini_rows.specs.Unused.{names}
use Rattle.mini_rows.specs.Spellings.{PlainForm, plain, binary}

-- ---- terms

-- a name of V that a scope declares
abbrev pub is_of_by : VariableSet → Option SymbolId → Bool
is_of_by V None = false
is_of_by V (Some s) = V (Declared s.0)

abbrev pub is_of : VariableSet → Name → Bool
is_of V x = is_of_by V x.symbol

abbrev pub all_pass : (Name → Bool) → List Name → Bool
all_pass P [] = true
all_pass P (x ∷ xs) = P x && all_pass P xs

-- where the names stand that a declaration binds (ECMA-262, "BoundNames", "LexicallyDeclaredNames")
pub data Binds : Type 0 where
  Itself : Binds
  Each : Binds
  First : Binds
  NoName : Binds

abbrev pub binds_at : Shape → Binds
binds_at shape.BindingIdentifier = Itself
binds_at shape.Listed = Each
binds_at shape.ObjectPattern = Each
binds_at shape.ArrayPattern = Each
binds_at (shape.BindingProperty is_shorthand is_computed) = Each
binds_at shape.RestElement = Each
binds_at shape.AssignmentPattern = Each
binds_at shape.ImportSpecifier = Each
binds_at shape.ImportDefaultSpecifier = Each
binds_at shape.ImportNamespaceSpecifier = Each
binds_at (shape.VariableDeclaration k) = Each
binds_at shape.SwitchCase = Each
binds_at shape.VariableDeclarator = First
binds_at (shape.Class true) = First
binds_at shape.ExportNamedDeclaration = First
binds_at shape.ExportDefaultDeclaration = First
binds_at (shape.UnaryExpression LogicalNot) = First
binds_at _ = NoName

abbrev pub passes_by : Binds → Bool → Bool → Bool → Bool
passes_by Itself own each first = own
passes_by Each own each first = each
passes_by First own each first = first
passes_by NoName own each first = true

-- each name that it binds passes
abbrev mutual
  pub binds_only : (Name → Bool) → Tree → Bool
  binds_only P (node h xs n ts) = passes_by (binds_at h) (all_pass P xs) (all_bind_only P ts) (first_binds_only P ts)

  pub all_bind_only : (Name → Bool) → Trees → Bool
  all_bind_only P none = true
  all_bind_only P (t ▸ ts) = binds_only P t && all_bind_only P ts

  pub first_binds_only : (Name → Bool) → Trees → Bool
  first_binds_only P none = true
  first_binds_only P (t ▸ ts) = binds_only P t

-- a `let`, a `const` or a class
abbrev pub is_lexical_shape : Shape → Bool
is_lexical_shape (shape.VariableDeclaration Let) = true
is_lexical_shape (shape.VariableDeclaration Const) = true
is_lexical_shape (shape.Class true) = true
is_lexical_shape _ = false

-- statements whose lexical names pass. No function is directly among them: that is created where
-- the block is entered (ECMA-262, "BlockDeclarationInstantiation")
abbrev pub is_held : (Name → Bool) → Tree → Bool
is_held P t = is_unscoped t || (is_lexical_shape (shape_of t) && binds_only P t)

abbrev pub are_held : (Name → Bool) → Trees → Bool
are_held P none = true
are_held P (t ▸ ts) = is_held P t && are_held P ts

-- ---- 80

-- `switch (a) { case 1: let x = b(); c(x); break; }` becomes `if (a === 1) { let x = b(); c(x); }`,
-- with and without the last `break;`: the test writes a value out, and no other `break` leaves the
-- case
pub record Row80Lexical (V : VariableSet) (n w : Tree) : Type 0 where
  pub discriminant : Tree
  pub test : PlainForm
  pub statements : Trees
  pub is_ended : Bool
  pub value : declares_nothing discriminant ≡ true
  pub held : are_held (is_of V) statements ≡ true
  pub stays : breaks_out (listed statements) ≡ false
  pub shape : n ≡ one_case discriminant (plain test) (ended is_ended statements)
  pub written : w ≡ if_alone (binary StrictEquality discriminant (plain test)) (block statements)

-- ---- 84

-- the name is of V, and stands nowhere in the test
abbrev pub is_of_outside : VariableSet → Tree → Name → Bool
is_of_outside V x y = is_of V y && not (names y x)

-- `for (i; t; u) { if (x) break; let y = a(); b(y); }` becomes
-- `for (i; t && !x; u) { let y = a(); b(y); }`, and so where the `if` has an `else`, and where that
-- leaves. No name of the block stands in x
pub record Row84Lexical (V : VariableSet) (n w : Tree) : Type 0 where
  pub init : Tree
  pub test : Tested
  pub update : Tree
  pub leaving : Leaving
  pub x : Tree
  pub others : Trees
  pub asked : is_test x ≡ true
  pub tested : is_tested test ≡ true
  pub loose : is_loose leaving ≡ true
  pub held : are_held (is_of_outside V x) others ≡ true
  pub shape : n ≡ for_loop init (test_of test) update (block (leaves_by leaving x ▸ others))
  pub written : w ≡ for_loop init (also test (goes_by leaving x)) update (block (runs_on leaving ▸ others))

-- ---- all

abbrev pub LexicalStatement : VariableSet → Tree → Tree → Type 0
LexicalStatement V n w = Row80Lexical V n w ⊎ Row84Lexical V n w

-- a row reads n as w at this place
abbrev pub LexicalRow : VariableSet → Position → Tree → Tree → Type 0
LexicalRow V (Stmt q) n w = LexicalStatement V n w
LexicalRow V _ n w = ⊥

-- ---- the laws

-- what a row writes does from a state what it reads does from the one that is it but for those
-- names
abbrev pub LexicalMeansSame : Type 0
LexicalMeansSame = (V : VariableSet) (p : Position) (n w : Tree) → LexicalRow V p n w → (e : Environment) → Apart e V → (q : Demand) → Fits p q → Fading V e q n w

-- what is written makes the whole lighter, wherever the statement stands
abbrev pub LexicalLightens : Type 0
LexicalLightens = (V : VariableSet) → Lightens (LexicalRow V)
