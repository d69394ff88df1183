-- Kind: what type of value an expression has, where that is known from its text.
use Rattle.std.specs.Prelude.{ℕ, zero, suc, Bool, true, false, ◌||◌, ◌&&◌, List, [], ◌∷◌}
use Rattle.mini_model.specs.declared.operator.AssignmentOperator.TheVariants.{Assign}
use Rattle.mini_model.specs.declared.operator.BinaryOperator.{BinaryOperator}
use Rattle.mini_model.specs.declared.operator.BinaryOperator.TheVariants as binary
use Rattle.mini_model.specs.declared.operator.UnaryOperator.{UnaryOperator}
use Rattle.mini_model.specs.declared.operator.UnaryOperator.TheVariants as unary
use Rattle.mini_model.specs.declared.shape.Shape.{Shape}
use Rattle.mini_model.specs.declared.shape.Shape.TheVariants as shape
use Rattle.mini_model.specs.Tree.{Tree, Trees, node, none, ◌▸◌}
use Rattle.mini_laws.specs.Value.{Value, Undefined, Null, Boolean, Number, String, Object, choose}
use Rattle.mini_laws.specs.Naming.{NameKind, UndefinedName, kinds}
use Rattle.mini_laws.specs.Expressions.{first_kind}
pub use Rattle.mini_terms.specs.declared.kinds.Kind.{Kind}
pub use Rattle.mini_terms.specs.declared.kinds.Kind.TheVariants.{Undefined as IsUndefined, Null as IsNull, Boolean as IsBoolean, Number as IsNumber, BigInt as IsBigInt, String as IsString, Object as IsObject, Undetermined}

abbrev pub is_primitive : Kind → Bool
is_primitive IsBigInt = false
is_primitive IsObject = false
is_primitive Undetermined = false
is_primitive k = true

abbrev pub is_string : Kind → Bool
is_string IsString = true
is_string k = false

abbrev pub is_number : Kind → Bool
is_number IsNumber = true
is_number k = false

-- what `+` adds as numbers
abbrev pub is_added : Kind → Bool
is_added IsString = false
is_added k = is_primitive k

-- undefined or null
abbrev pub is_nullish_kind : Kind → Bool
is_nullish_kind IsUndefined = true
is_nullish_kind IsNull = true
is_nullish_kind k = false

abbrev pub common : Kind → Kind → Kind
common IsUndefined IsUndefined = IsUndefined
common IsNull IsNull = IsNull
common IsBoolean IsBoolean = IsBoolean
common IsNumber IsNumber = IsNumber
common IsBigInt IsBigInt = IsBigInt
common IsString IsString = IsString
common IsObject IsObject = IsObject
common _ _ = Undetermined

-- `undefined`, which no scope declares
abbrev pub is_undefined_name : NameKind → Bool
is_undefined_name UndefinedName = true
is_undefined_name k = false

abbrev pub name_kind : NameKind → Kind
name_kind k = choose (is_undefined_name k) IsUndefined Undetermined

abbrev pub number_if : Bool → Kind
number_if b = choose b IsNumber Undetermined

abbrev pub unary_kind : UnaryOperator → Kind → Kind
unary_kind unary.LogicalNot k = IsBoolean
unary_kind unary.Delete k = IsBoolean
unary_kind unary.Void k = IsUndefined
unary_kind unary.Typeof k = IsString
unary_kind unary.UnaryPlus k = IsNumber
unary_kind unary.UnaryNegation k = number_if (is_primitive k)
unary_kind unary.BitwiseNot k = number_if (is_primitive k)

abbrev pub binary_kind : BinaryOperator → Kind → Kind → Kind
binary_kind binary.Addition j k = choose (is_string j || is_string k) IsString (number_if (is_added j && is_added k))
binary_kind binary.ShiftRightZeroFill j k = IsNumber
binary_kind binary.Subtraction j k = number_if (is_number j || is_number k)
binary_kind binary.Multiplication j k = number_if (is_number j || is_number k)
binary_kind binary.Division j k = number_if (is_number j || is_number k)
binary_kind binary.Remainder j k = number_if (is_number j || is_number k)
binary_kind binary.Exponential j k = number_if (is_number j || is_number k)
binary_kind binary.BitwiseAnd j k = number_if (is_number j || is_number k)
binary_kind binary.BitwiseOr j k = number_if (is_number j || is_number k)
binary_kind binary.BitwiseXor j k = number_if (is_number j || is_number k)
binary_kind binary.ShiftLeft j k = number_if (is_number j || is_number k)
binary_kind binary.ShiftRight j k = number_if (is_number j || is_number k)
binary_kind o j k = IsBoolean

abbrev pub nth_kind : List Kind → ℕ → Kind
nth_kind [] i = Undetermined
nth_kind (k ∷ ks) zero = k
nth_kind (k ∷ ks) (suc i) = nth_kind ks i

abbrev pub last_kind : List Kind → Kind
last_kind [] = Undetermined
last_kind (k ∷ []) = k
last_kind (k ∷ (j ∷ ks)) = last_kind (j ∷ ks)

-- by the kinds of the children; that of a list is that of its last item
abbrev pub kind_by : Shape → List NameKind → List Kind → Kind
kind_by shape.Listed xs ks = last_kind ks
kind_by shape.InnerExpression xs ks = nth_kind ks 0
kind_by shape.Identifier xs ks = name_kind (first_kind xs)
kind_by (shape.NumericLiteral n) xs ks = IsNumber
kind_by (shape.StringLiteral s) xs ks = IsString
kind_by (shape.BooleanLiteral b) xs ks = IsBoolean
kind_by shape.NullLiteral xs ks = IsNull
kind_by (shape.BigIntLiteral n) xs ks = IsBigInt
kind_by (shape.RegExpLiteral pattern flags) xs ks = IsObject
kind_by (shape.UnaryExpression o) xs ks = unary_kind o (nth_kind ks 0)
kind_by (shape.BinaryExpression o) xs ks = binary_kind o (nth_kind ks 0) (nth_kind ks 1)
kind_by shape.PrivateInExpression xs ks = IsBoolean
kind_by (shape.LogicalExpression o) xs ks = common (nth_kind ks 0) (nth_kind ks 1)
kind_by shape.ConditionalExpression xs ks = common (nth_kind ks 1) (nth_kind ks 2)
kind_by shape.SequenceExpression xs ks = nth_kind ks 0
kind_by (shape.AssignmentExpression Assign) xs ks = nth_kind ks 1
kind_by shape.TemplateLiteral xs ks = IsString
kind_by shape.ArrayExpression xs ks = IsObject
kind_by shape.ObjectExpression xs ks = IsObject
kind_by (shape.Function false is_generator directives) xs ks = IsObject
kind_by (shape.ArrowFunctionExpression directives) xs ks = IsObject
kind_by (shape.Class false) xs ks = IsObject
kind_by shape.NewExpression xs ks = IsObject
kind_by _ xs ks = Undetermined

abbrev mutual
  pub kind : Tree → Kind
  kind (node h xs n ts) = kind_by h (kinds xs) (each_kind ts)

  pub each_kind : Trees → List Kind
  each_kind none = []
  each_kind (t ▸ ts) = kind t ∷ each_kind ts

-- a value of this kind; a BigInt is none
abbrev pub OfKind : Kind → Value → Type 0
OfKind IsUndefined Undefined = Unit {0}
OfKind IsNull Null = Unit {0}
OfKind IsBoolean (Boolean b) = Unit {0}
OfKind IsNumber (Number n) = Unit {0}
OfKind IsString (String s) = Unit {0}
OfKind IsObject (Object n is_function) = Unit {0}
OfKind Undetermined v = Unit {0}
OfKind k v = ⊥
