-- Const: the primitive value of an expression, where it is known from its text. It says nothing of
-- effects.
use Rattle.std.specs.Prelude.{◌≡◌, ℕ, ℤ, zero, suc, pos, Bool, not, List, [], ◌∷◌, length, codes, Option, Some, None}
use Rattle.mini_model.specs.declared.operator.BinaryOperator.{BinaryOperator}
use Rattle.mini_model.specs.declared.operator.BinaryOperator.TheVariants as binary
use Rattle.mini_model.specs.declared.operator.LogicalOperator.{LogicalOperator}
use Rattle.mini_model.specs.declared.operator.LogicalOperator.TheVariants.{Or, And, Coalesce}
use Rattle.mini_model.specs.declared.operator.UnaryOperator.{UnaryOperator}
use Rattle.mini_model.specs.declared.operator.UnaryOperator.TheVariants as unary
use Rattle.mini_model.specs.declared.shape.Shape.{Shape}
use Rattle.mini_model.specs.declared.shape.Shape.TheVariants as shape
use Rattle.mini_model.specs.Tree.{Tree, Trees, node, none, ◌▸◌}
use Rattle.mini_model.specs.Weight.{same_text}
use Rattle.mini_laws.specs.Value.{Value, Undefined, Null, Boolean, Number, String, choose, truth, is_nullish}
use Rattle.mini_laws.specs.Conversion.{Made, makes, raises, outside, to_number, to_text, is_safe}
use Rattle.mini_laws.specs.Operators.{of_primitives, strictly_equal, loosely_equal, type_text, of_number}
use Rattle.mini_laws.specs.Naming.{NameKind, UndefinedName, kinds, Facts, facts, texts_all}
use Rattle.mini_laws.specs.Expressions.{first_kind, interleaved}

abbrev pub made : {A : Type 0} → Made A → Option A
made (makes a) = Some a
made raises = None
made outside = None

-- of an operand that is made a number
abbrev pub of_operand : UnaryOperator → Made ℤ → Made Value
of_operand o (makes n) = of_number o n
of_operand o raises = raises
of_operand o outside = outside

-- `+`, `-` and `~` of a safe number
abbrev pub over_number : UnaryOperator → Option ℤ → Option Value
over_number o (Some n) = choose (is_safe n) (made (of_number o n)) None
over_number o None = None

abbrev pub name_const : NameKind → Option Value
name_const UndefinedName = Some Undefined
name_const k = None

abbrev pub unary_const : UnaryOperator → Option Value → Option Value
unary_const unary.Void c = Some Undefined
unary_const unary.LogicalNot (Some v) = Some (Boolean (not (truth v)))
unary_const unary.Typeof (Some v) = Some (String (type_text v))
unary_const unary.UnaryPlus (Some v) = made (of_operand unary.UnaryPlus (to_number v))
unary_const unary.UnaryNegation (Some v) = made (of_operand unary.UnaryNegation (to_number v))
unary_const unary.BitwiseNot (Some v) = made (of_operand unary.BitwiseNot (to_number v))
unary_const o c = None

abbrev pub mapped : (Bool → Bool) → Option Bool → Option Value
mapped f (Some b) = Some (Boolean (f b))
mapped f None = None

abbrev pub binary_value : BinaryOperator → Value → Value → Option Value
binary_value binary.Equality a b = mapped (λ c. c) (loosely_equal a b)
binary_value binary.Inequality a b = mapped not (loosely_equal a b)
binary_value binary.StrictEquality a b = Some (Boolean (strictly_equal a b))
binary_value binary.StrictInequality a b = Some (Boolean (not (strictly_equal a b)))
binary_value binary.In a b = None
binary_value binary.Instanceof a b = None
binary_value o a b = made (of_primitives o a b)

abbrev pub binary_const : BinaryOperator → Option Value → Option Value → Option Value
binary_const o (Some a) (Some b) = binary_value o a b
binary_const o _ _ = None

abbrev pub decided : LogicalOperator → Value → Value → Value
decided And a b = choose (truth a) b a
decided Or a b = choose (truth a) a b
decided Coalesce a b = choose (is_nullish a) b a

abbrev pub logical_const : LogicalOperator → Option Value → Option Value → Option Value
logical_const o (Some a) (Some b) = Some (decided o a b)
logical_const o _ _ = None

abbrev pub conditional_const : Option Value → Option Value → Option Value → Option Value
conditional_const (Some a) (Some b) (Some c) = Some (choose (truth a) b c)
conditional_const _ _ _ = None

-- `length` of a text
abbrev pub member_const : Option Value → Option Value → Option Value
member_const (Some (String s)) (Some (String k)) = choose (same_text k (codes "length")) (Some (Number (pos (length s)))) None
member_const _ _ = None

abbrev pub cons_text : Option (List ℕ) → Option (List (List ℕ)) → Option (List (List ℕ))
cons_text (Some s) (Some ss) = Some (s ∷ ss)
cons_text _ _ = None

abbrev pub text_of : Option Value → Option (List ℕ)
text_of (Some v) = made (to_text v)
text_of None = None

-- the texts of the parts of a template
abbrev pub all_texts : List (Option Value) → Option (List (List ℕ))
all_texts [] = Some []
all_texts (c ∷ cs) = cons_text (text_of c) (all_texts cs)

abbrev pub template_const : List (List ℕ) → Option (List (List ℕ)) → Option Value
template_const texts (Some parts) = Some (String (interleaved texts parts))
template_const texts None = None

abbrev pub nth_const : List (Option Value) → ℕ → Option Value
nth_const [] i = None
nth_const (c ∷ cs) zero = c
nth_const (c ∷ cs) (suc i) = nth_const cs i

abbrev pub last_const : List (Option Value) → Option Value
last_const [] = None
last_const (c ∷ []) = c
last_const (c ∷ (d ∷ cs)) = last_const (d ∷ cs)

abbrev pub nth_texts : List (Option (List (List ℕ))) → ℕ → Option (List (List ℕ))
nth_texts [] i = None
nth_texts (c ∷ cs) zero = c
nth_texts (c ∷ cs) (suc i) = nth_texts cs i

-- by the constants of the children, that of a list being that of its last item, and by the texts of
-- their items
abbrev pub const_by : Shape → List NameKind → List Facts → List (Option Value) → List (Option (List (List ℕ))) → Option Value
const_by shape.Listed xs fs cs ss = last_const cs
const_by shape.InnerExpression xs fs cs ss = nth_const cs 0
const_by shape.Identifier xs fs cs ss = name_const (first_kind xs)
const_by (shape.IdentifierName s) xs fs cs ss = Some (String s)
const_by (shape.NumericLiteral n) xs fs cs ss = Some (Number n)
const_by (shape.StringLiteral s) xs fs cs ss = Some (String s)
const_by (shape.BooleanLiteral b) xs fs cs ss = Some (Boolean b)
const_by shape.NullLiteral xs fs cs ss = Some Null
const_by (shape.UnaryExpression o) xs fs cs ss = unary_const o (nth_const cs 0)
const_by (shape.BinaryExpression o) xs fs cs ss = binary_const o (nth_const cs 0) (nth_const cs 1)
const_by (shape.LogicalExpression o) xs fs cs ss = logical_const o (nth_const cs 0) (nth_const cs 1)
const_by shape.ConditionalExpression xs fs cs ss = conditional_const (nth_const cs 0) (nth_const cs 1) (nth_const cs 2)
const_by shape.SequenceExpression xs fs cs ss = nth_const cs 0
const_by (shape.StaticMemberExpression is_optional) xs fs cs ss = member_const (nth_const cs 0) (nth_const cs 1)
const_by (shape.ComputedMemberExpression is_optional) xs fs cs ss = member_const (nth_const cs 0) (nth_const cs 1)
const_by shape.TemplateLiteral xs fs cs ss = template_const (texts_all fs) (nth_texts ss 1)
const_by _ xs fs cs ss = None

abbrev pub listed_texts : Shape → List (Option Value) → Option (List (List ℕ))
listed_texts shape.Listed cs = all_texts cs
listed_texts _ cs = None

abbrev mutual
  pub const : Tree → Option Value
  const (node h xs n ts) = const_by h (kinds xs) (facts ts) (each_const ts) (each_texts ts)

  pub each_const : Trees → List (Option Value)
  each_const none = []
  each_const (t ▸ ts) = const t ∷ each_const ts

  pub texts_in : Tree → Option (List (List ℕ))
  texts_in (node h xs n ts) = listed_texts h (each_const ts)

  pub each_texts : Trees → List (Option (List (List ℕ)))
  each_texts none = []
  each_texts (t ▸ ts) = texts_in t ∷ each_texts ts

-- a value that is as it is known
abbrev pub Agrees : {A : Type 0} → Option A → A → Type 0
Agrees (Some c) v = v ≡ c
Agrees None v = Unit {0}
