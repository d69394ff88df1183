-- What a tree keeps that stands for another, where what it hoists may be declared in another order,
-- or once in place of twice.
use Rattle.std.specs.Prelude.{ℕ, ◌≡◌, ◌⊎◌, ◌≤◌, ◌&&◌, ◌||◌, not, Bool, true, false}
use Rattle.mini_model.specs.declared.shape.Shape.{Shape}
use Rattle.mini_model.specs.declared.shape.Shape.TheVariants as shape
use Rattle.mini_model.specs.declared.place.Position.{Position}
use Rattle.mini_model.specs.Tree.{Tree, Trees, node, none, ◌▸◌, shape_of}
use Rattle.mini_laws.specs.declared.names.Use.{Use}
use Rattle.mini_laws.specs.declared.names.Declared.TheVariants.{Bound, Lexical, Hoisted}
use Rattle.mini_laws.specs.declared.names.Targets.{Targets}
use Rattle.mini_laws.specs.DeclaredNames.{names_of, body_names, is_inner, has_inner}
use Rattle.mini_laws.specs.Resolved.{Environment}
use Rattle.mini_laws.specs.Scoped.{Scoped}
use Rattle.mini_laws.specs.Symbols.{declared as declared_in, Within}
use Rattle.mini_laws.specs.Early.{Path, body_declarations, in_body, children_of_node, is_loop}
use Rattle.mini_kept.specs.Carried.{numbers as numbers_of}
use Rattle.mini_kept.specs.Frames.{unbracketed}
use Rattle.mini_kept.specs.KeepsNames.{Stands, is_rewritten_place, NamesOnce, HasTargets, count_of}
use Rattle.mini_kept.specs.SameNames.{SameNames, SameScope, NoMoreClash}

-- a statement (ECMA-262, "Statement"), an expression that holds others, a member of a class, a
-- property that is assigned to, or what declares names, which stands outside inner expressions.
-- Among parameters there is none (ECMA-262, "FormalParameters"), where expressions stand in
-- defaults and in brackets alone, so what inner expressions stand in such a tree decides nothing
-- about a function
abbrev pub is_member : Shape → Bool
is_member shape.ExpressionStatement = true
is_member shape.EmptyStatement = true
is_member shape.DebuggerStatement = true
is_member shape.BlockStatement = true
is_member shape.LabeledStatement = true
is_member shape.BreakStatement = true
is_member shape.ContinueStatement = true
is_member shape.ReturnStatement = true
is_member shape.ThrowStatement = true
is_member shape.IfStatement = true
is_member shape.SwitchStatement = true
is_member shape.TryStatement = true
is_member shape.WhileStatement = true
is_member shape.DoWhileStatement = true
is_member shape.ForStatement = true
is_member shape.ForInStatement = true
is_member shape.ForOfStatement = true
is_member (shape.VariableDeclaration k) = true
is_member shape.ArrayExpression = true
is_member shape.ObjectExpression = true
is_member (shape.UnaryExpression o) = true
is_member (shape.UpdateExpression o is_prefix) = true
is_member (shape.BinaryExpression o) = true
is_member shape.PrivateInExpression = true
is_member (shape.LogicalExpression o) = true
is_member (shape.AssignmentExpression o) = true
is_member shape.ConditionalExpression = true
is_member shape.SequenceExpression = true
is_member (shape.CallExpression is_optional) = true
is_member shape.SuperCallExpression = true
is_member shape.NewExpression = true
is_member (shape.StaticMemberExpression is_optional) = true
is_member (shape.ComputedMemberExpression is_optional) = true
is_member (shape.PrivateFieldExpression is_optional) = true
is_member shape.SuperStaticMemberExpression = true
is_member shape.SuperComputedMemberExpression = true
is_member shape.ChainExpression = true
is_member (shape.YieldExpression is_delegate) = true
is_member shape.TemplateLiteral = true
is_member shape.TaggedTemplateExpression = true
is_member shape.ImportExpression = true
is_member (shape.MethodDefinition k is_computed is_static) = true
is_member (shape.PropertyDefinition is_computed is_static) = true
is_member (shape.AssignmentTargetPropertyProperty is_computed) = true
is_member shape.VariableDeclarator = true
is_member shape.CatchClause = true
is_member h = false

abbrev mutual
  pub has_member : Tree → Bool
  has_member (node h xs n ts) = not (is_inner h) && (is_member h || any_member ts)

  pub any_member : Trees → Bool
  any_member none = false
  any_member (t ▸ ts) = has_member t || any_member ts

abbrev pub InnerKept : Tree → Tree → Type 0
InnerKept t u = (has_inner u ≡ has_inner t) ⊎ (has_member t ≡ true)

pub record KeepsLoosely (p : Position) (t u : Tree) : Type 0 where
  -- the names that it binds, and those that it declares directly, in order
  pub bound : names_of Bound u ≡ names_of Bound t
  pub lexical : names_of Lexical u ≡ names_of Lexical t
  -- those that it hoists, and of a body a scope of the same names, if each name in it has the
  -- symbol that the scopes around give
  pub hoisted : SameNames (names_of Hoisted u) (names_of Hoisted t)
  pub body : (v : Use) (env : Environment) → Stands p v t → Scoped v env t → SameScope (body_names u) (body_names t)
  -- as a parameter, whether an inner expression stands in it
  pub inner : InnerKept t u
  -- then each still has it, and no symbol is declared more often
  pub scoped : (v : Use) (env : Environment) → Stands p v t → Scoped v env t → Scoped v env u
  pub symbols : (v : Use) (env : Environment) → Stands p v t → Scoped v env t → Within (declared_in v u) (declared_in v t)
  -- no number stands in it more often
  pub numbers : (k : ℕ) → count_of k (numbers_of u) ≤ count_of k (numbers_of t)
  -- what it declares as a body, or as a statement in one, as early errors see it
  pub declared_as_body : (b : Bool) (q : Path) → NoMoreClash (body_declarations b q u) (body_declarations b q t)
  -- no early errors
  pub once : (q : Path) → NamesOnce q t → NamesOnce q u
  pub targets : (a : Targets) (q : Path) → HasTargets a q t → HasTargets a q u
  pub loop : is_loop u ≡ is_loop t
  -- its root, but where rewrites are made, whether or not its key stands in brackets
  pub root : is_rewritten_place p ≡ false → unbracketed (shape_of u) ≡ unbracketed (shape_of t)
  pub block : is_rewritten_place p ≡ false → (b : Bool) (q : Path) → NoMoreClash (in_body b q (children_of_node u) 0) (in_body b q (children_of_node t) 0)
