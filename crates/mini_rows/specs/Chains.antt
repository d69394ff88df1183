-- The row of conditionals that ask whether a name is null or undefined before they read what it
-- holds: an optional chain does the same (ECMA-262, "Optional Chains").
use Rattle.std.specs.Prelude.{◌≡◌, Bool, true, false, not, ◌&&◌, ◌||◌, List, [], ◌∷◌, is_none, codes}
use Rattle.mini_model.specs.declared.name.Name.{Name}
use Rattle.mini_model.specs.declared.operator.BinaryOperator.TheVariants as binary_operator
use Rattle.mini_model.specs.declared.seat.Seat.{Seat}
use Rattle.mini_model.specs.declared.shape.Shape.{Shape}
use Rattle.mini_model.specs.declared.shape.Shape.TheVariants as shape
use Rattle.mini_model.specs.Tree.{Tree, Trees, node, none, ◌▸◌, listed, shape_of, identifier, conditional, null_literal}
use Rattle.mini_model.specs.Weight.{same_text}
use Rattle.mini_terms.specs.Exact.{kept_by_value}
use Rattle.mini_rows.specs.Spellings.{IsUndefined, binary, static_member, computed_member}

-- ---- what never ends a chain that it stands in

-- what runs inside it, if anything does, ends no chain around it: a name, a constant, `this`, what
-- is absent, a function or a class, what the world evaluates whole, a pattern that assigns, and a
-- chain of its own
abbrev pub is_closed_shape : Shape → Bool
is_closed_shape shape.Absent = true
is_closed_shape shape.Identifier = true
is_closed_shape (shape.IdentifierName s) = true
is_closed_shape (shape.PrivateIdentifier s) = true
is_closed_shape (shape.NumericLiteral n) = true
is_closed_shape (shape.StringLiteral s) = true
is_closed_shape (shape.BooleanLiteral b) = true
is_closed_shape shape.NullLiteral = true
is_closed_shape (shape.RegExpLiteral pattern flags) = true
is_closed_shape (shape.BigIntLiteral n) = true
is_closed_shape shape.ThisExpression = true
is_closed_shape (shape.Function false is_generator directives) = true
is_closed_shape (shape.ArrowFunctionExpression directives) = true
is_closed_shape (shape.Class false) = true
is_closed_shape shape.SuperCallExpression = true
is_closed_shape shape.SuperStaticMemberExpression = true
is_closed_shape shape.SuperComputedMemberExpression = true
is_closed_shape shape.PrivateInExpression = true
is_closed_shape shape.TaggedTemplateExpression = true
is_closed_shape (shape.TemplateElement is_tail raw cooked) = true
is_closed_shape (shape.MetaProperty k) = true
is_closed_shape shape.ImportExpression = true
is_closed_shape shape.ChainExpression = true
is_closed_shape shape.ObjectAssignmentTarget = true
is_closed_shape shape.ArrayAssignmentTarget = true
is_closed_shape h = false

-- it ends none where its parts end none: a link without `?.`, an operator, an array, an object or a
-- template, and a list
abbrev pub is_open_shape : Shape → Bool
is_open_shape shape.Listed = true
is_open_shape shape.InnerExpression = true
is_open_shape shape.ArrayExpression = true
is_open_shape shape.ObjectExpression = true
is_open_shape (shape.ObjectProperty k is_method is_shorthand is_computed) = true
is_open_shape shape.SpreadElement = true
is_open_shape (shape.UnaryExpression o) = true
is_open_shape (shape.UpdateExpression o is_prefix) = true
is_open_shape (shape.BinaryExpression o) = true
is_open_shape (shape.LogicalExpression o) = true
is_open_shape (shape.AssignmentExpression o) = true
is_open_shape shape.ConditionalExpression = true
is_open_shape shape.SequenceExpression = true
is_open_shape (shape.CallExpression is_optional) = not is_optional
is_open_shape shape.NewExpression = true
is_open_shape (shape.StaticMemberExpression is_optional) = not is_optional
is_open_shape (shape.ComputedMemberExpression is_optional) = not is_optional
is_open_shape (shape.PrivateFieldExpression is_optional) = not is_optional
is_open_shape (shape.YieldExpression is_delegate) = true
is_open_shape shape.TemplateLiteral = true
is_open_shape h = false

-- in it each optional link stands in a chain of its own
abbrev mutual
  pub is_calm : Tree → Bool
  is_calm (node h xs n ts) = is_closed_shape h || (is_open_shape h && are_calm ts)

  pub are_calm : Trees → Bool
  are_calm none = true
  are_calm (t ▸ ts) = is_calm t && are_calm ts

abbrev pub is_word_shape : Shape → Bool
is_word_shape (shape.IdentifierName s) = true
is_word_shape h = false

-- ---- members and calls over a name

-- `.k`, `[k]`, and `(a, b)`
pub data Link : Type 0 where
  a_member : Tree → Link
  a_computed : Tree → Link
  a_call : Trees → Link

abbrev pub call : Bool → Tree → Trees → Tree
call is_optional f arguments = node (shape.CallExpression is_optional) [] 0 (f ▸ listed arguments ▸ none)

-- a link over what stands before it, optional or not: `a.k`, or `a?.k`
abbrev pub linked : Bool → Link → Tree → Tree
linked is_optional (a_member k) t = static_member is_optional t k
linked is_optional (a_computed k) t = computed_member is_optional t k
linked is_optional (a_call ts) t = call is_optional t ts

-- links over x, the last one first, of which the first over x may be optional: `x.k(a)`, or
-- `x?.k(a)`
abbrev pub spine : Bool → Tree → Link → List Link → Tree
spine is_optional x l [] = linked is_optional l x
spine is_optional x l (m ∷ ls) = linked false l (spine is_optional x m ls)

-- of none a part ends a chain
abbrev pub is_calm_link : Link → Bool
is_calm_link (a_member k) = is_word_shape (shape_of k)
is_calm_link (a_computed k) = is_calm k
is_calm_link (a_call ts) = are_calm ts

abbrev pub are_calm_links : Link → List Link → Bool
are_calm_links l [] = is_calm_link l
are_calm_links l (m ∷ ls) = is_calm_link l && are_calm_links m ls

-- ---- the row

abbrev pub chain : Tree → Tree
chain t = node shape.ChainExpression [] 0 (t ▸ none)

-- `x == null ? a : b`, or `x != null ? b : a`
abbrev pub if_nullish : Bool → Name → Tree → Tree → Tree
if_nullish true x a b = conditional (binary binary_operator.Equality (identifier x) null_literal) a b
if_nullish false x a b = conditional (binary binary_operator.Inequality (identifier x) null_literal) b a

-- 46: `x == null ? void 0 : x.m` becomes `x?.m`, where a scope declares x, and it isn't named
-- `eval` (`eval(a)` is a direct call); and so do `x.m(a)` and what else is of members and calls
-- over x, and `x != null ? x.m : void 0`. As a callee and under `delete` the chain would be the
-- reference of its last link, and stands behind a `0`: `(x == null ? void 0 : x.m)()` becomes
-- `(0, x?.m)()`
pub record Row46Chain (s : Seat) (n w : Tree) : Type 0 where
  pub equal : Bool
  pub name : Name
  pub missing : Tree
  pub last : Link
  pub others : List Link
  pub declared : is_none name.symbol ≡ false
  pub indirect : same_text name.spelling (codes "eval") ≡ false
  pub undefined : IsUndefined missing
  pub calm : are_calm_links last others ≡ true
  pub shape : n ≡ if_nullish equal name missing (spine false (identifier name) last others)
  pub written : w ≡ kept_by_value s.guard (chain (spine true (identifier name) last others))
