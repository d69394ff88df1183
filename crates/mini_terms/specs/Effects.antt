-- EF: an expression whose evaluation has no effect.
use Rattle.std.specs.Prelude.{ℕ, zero, suc, Bool, true, false, not, ◌||◌, ◌&&◌, List, [], ◌∷◌, is_some}
use Rattle.mini_model.specs.declared.name.Name.{Name}
use Rattle.mini_model.specs.declared.operator.BinaryOperator.{BinaryOperator}
use Rattle.mini_model.specs.declared.operator.BinaryOperator.TheVariants as binary
use Rattle.mini_model.specs.declared.operator.UnaryOperator.{UnaryOperator}
use Rattle.mini_model.specs.declared.operator.UnaryOperator.TheVariants as unary
use Rattle.mini_model.specs.declared.shape.Shape.{Shape}
use Rattle.mini_model.specs.declared.shape.Shape.TheVariants as shape
use Rattle.mini_model.specs.Tree.{Tree, Trees, node, none, ◌▸◌}
use Rattle.mini_laws.specs.Naming.{NameKind, UndefinedName, NumberName, kind_of}
use Rattle.mini_terms.specs.Kind.{Kind, is_primitive, is_nullish_kind, each_kind, nth_kind}

-- unresolved `undefined`, `NaN` and `Infinity`
abbrev pub is_constant_name : NameKind → Bool
is_constant_name UndefinedName = true
is_constant_name NumberName = true
is_constant_name k = false

abbrev pub ef_names : List Name → Bool
ef_names [] = false
ef_names (x ∷ xs) = is_some x.symbol || is_constant_name (kind_of x)

abbrev pub is_identifier_shape : Shape → Bool
is_identifier_shape shape.Identifier = true
is_identifier_shape _ = false

abbrev pub nth_true : List Bool → ℕ → Bool
nth_true [] i = false
nth_true (b ∷ bs) zero = b
nth_true (b ∷ bs) (suc i) = nth_true bs i

abbrev pub all_true : List Bool → Bool
all_true [] = true
all_true (b ∷ bs) = b && all_true bs

abbrev pub all_primitive : List Kind → Bool
all_primitive [] = true
all_primitive (k ∷ ks) = is_primitive k && all_primitive ks

-- whether the items of each child that is a list are of primitive Kind
abbrev pub primitive_items : Tree → Bool
primitive_items (node h xs n ts) = all_primitive (each_kind ts)

abbrev pub each_primitive : Trees → List Bool
each_primitive none = []
each_primitive (t ▸ ts) = primitive_items t ∷ each_primitive ts

abbrev pub is_identifier : Tree → Bool
is_identifier (node h xs n ts) = is_identifier_shape h

abbrev pub each_identifier : Trees → List Bool
each_identifier none = []
each_identifier (t ▸ ts) = is_identifier t ∷ each_identifier ts

-- by the operand's Kind, whether it is an identifier, and whether it is effect-free
abbrev pub ef_unary : UnaryOperator → Kind → Bool → Bool → Bool
ef_unary unary.LogicalNot k i a = a
ef_unary unary.Void k i a = a
ef_unary unary.Typeof k i a = i || a
ef_unary unary.Delete k i a = false
ef_unary o k i a = a && is_primitive k

-- which operands an operator takes without an event
abbrev pub ef_operands : BinaryOperator → Kind → Kind → Bool
ef_operands binary.StrictEquality j k = true
ef_operands binary.StrictInequality j k = true
ef_operands binary.Equality j k = is_nullish_kind j || (is_nullish_kind k || (is_primitive j && is_primitive k))
ef_operands binary.Inequality j k = is_nullish_kind j || (is_nullish_kind k || (is_primitive j && is_primitive k))
ef_operands binary.In j k = false
ef_operands binary.Instanceof j k = false
ef_operands o j k = is_primitive j && is_primitive k

-- by the Kinds of the children, which are identifiers, which are lists of primitive Kind, and which
-- are effect-free. `asked` says that `this` is asked of the world: inside a constructor of a class
-- with `superClass`, arrows included
abbrev pub ef_by : Bool → Shape → List Name → List Kind → List Bool → List Bool → List Bool → Bool
ef_by asked shape.Listed xs ks is ps bs = all_true bs
ef_by asked shape.Identifier xs ks is ps bs = ef_names xs
ef_by asked (shape.NumericLiteral n) xs ks is ps bs = true
ef_by asked (shape.StringLiteral s) xs ks is ps bs = true
ef_by asked (shape.BooleanLiteral b) xs ks is ps bs = true
ef_by asked shape.NullLiteral xs ks is ps bs = true
ef_by asked (shape.BigIntLiteral n) xs ks is ps bs = true
ef_by asked shape.ThisExpression xs ks is ps bs = not asked
ef_by asked (shape.UnaryExpression o) xs ks is ps bs = ef_unary o (nth_kind ks 0) (nth_true is 0) (nth_true bs 0)
ef_by asked (shape.BinaryExpression o) xs ks is ps bs = ef_operands o (nth_kind ks 0) (nth_kind ks 1) && (nth_true bs 0 && nth_true bs 1)
ef_by asked (shape.LogicalExpression o) xs ks is ps bs = nth_true bs 0 && nth_true bs 1
ef_by asked shape.ConditionalExpression xs ks is ps bs = nth_true bs 0 && (nth_true bs 1 && nth_true bs 2)
ef_by asked shape.SequenceExpression xs ks is ps bs = nth_true bs 0
ef_by asked shape.TemplateLiteral xs ks is ps bs = nth_true bs 1 && nth_true ps 1
ef_by asked _ xs ks is ps bs = false

abbrev mutual
  pub ef : Bool → Tree → Bool
  ef asked (node h xs n ts) = ef_by asked h xs (each_kind ts) (each_identifier ts) (each_primitive ts) (each_ef asked ts)

  pub each_ef : Bool → Trees → List Bool
  each_ef asked none = []
  each_ef asked (t ▸ ts) = ef asked t ∷ each_ef asked ts
