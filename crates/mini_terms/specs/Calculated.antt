-- The constant of an operator over constants, as far as it is calculated.
use Rattle.std.specs.Prelude.{◌≡◌, ℕ, ℤ, zero, suc, Bool, true, false, not, ◌&&◌, Option, Some, None}
use Rattle.mini_model.specs.declared.operator.BinaryOperator.{BinaryOperator}
use Rattle.mini_model.specs.declared.operator.BinaryOperator.TheVariants as binary
use Rattle.mini_model.specs.declared.operator.LogicalOperator.{LogicalOperator}
use Rattle.mini_model.specs.declared.operator.UnaryOperator.{UnaryOperator}
use Rattle.mini_model.specs.declared.operator.UnaryOperator.TheVariants as unary
use Rattle.mini_model.specs.declared.shape.Shape.{Shape}
use Rattle.mini_model.specs.declared.shape.Shape.TheVariants as shape
use Rattle.mini_model.specs.Tree.{Tree, Trees, node, none, ◌▸◌, children, count, child_or_absent}
use Rattle.mini_node.specs.Children.{part}
use Rattle.mini_node.specs.Kinds.{unary_operator, binary_operator, logical_operator, is_conditional, is_sequence}
use Rattle.mini_laws.specs.Value.{Value, Undefined, Null, Boolean, Number, String, choose, truth}
use Rattle.mini_laws.specs.Conversion.{to_number}
use Rattle.mini_laws.specs.Expressions.{first_kind}
use Rattle.mini_laws.specs.Naming.{NameKind, kinds}
use Rattle.mini_laws.specs.Operators.{of_numbers, same_number, type_text}
pub use Rattle.mini_terms.specs.Const.{over_number}
use Rattle.mini_terms.specs.Const.{made, binary_const, logical_const, conditional_const, const}
use Rattle.mini_terms.specs.Folds.{is_effect_free}
use Rattle.mini_terms.specs.Kind.{is_undefined_name}
use Rattle.mini_terms.specs.Plain.{lit}
use Rattle.mini_terms.specs.Reading.{SameWanted}
use Rattle.mini_terms.specs.Templates.{is_template, template_value}

abbrev pub undefined_if : Bool → Option Value
undefined_if true = Some Undefined
undefined_if false = None

-- of a literal, and of the name `undefined`, which no scope declares
abbrev pub leaf_by : Shape → NameKind → Option Value
leaf_by shape.Identifier k = undefined_if (is_undefined_name k)
leaf_by (shape.NumericLiteral n) k = Some (Number n)
leaf_by (shape.StringLiteral s) k = Some (String s)
leaf_by (shape.BooleanLiteral b) k = Some (Boolean b)
leaf_by shape.NullLiteral k = Some Null
leaf_by h k = None

abbrev pub leaf_value : Tree → Option Value
leaf_value (node h xs n ts) = leaf_by h (first_kind (kinds xs))

-- Operators

-- the number of a value, if that is whole and safe: a text is read as one
abbrev pub as_number : Value → Option ℤ
as_number v = made (to_number v)

abbrev pub calculated_unary : UnaryOperator → Value → Option Value
calculated_unary unary.Void v = Some Undefined
calculated_unary unary.LogicalNot v = Some (Boolean (not (truth v)))
calculated_unary unary.Typeof v = Some (String (type_text v))
calculated_unary o v = over_number o (as_number v)

abbrev pub calculated_numbers : BinaryOperator → ℤ → ℤ → Option Value
calculated_numbers binary.Equality m n = Some (Boolean (same_number m n))
calculated_numbers binary.StrictEquality m n = Some (Boolean (same_number m n))
calculated_numbers binary.Inequality m n = Some (Boolean (not (same_number m n)))
calculated_numbers binary.StrictInequality m n = Some (Boolean (not (same_number m n)))
calculated_numbers o m n = made (of_numbers o m n)

-- All

-- `void e` is undefined whatever e is: where it has to do nothing either, e has to have a value
abbrev pub unary_value : Bool → UnaryOperator → Option Value → Option Value
unary_value true unary.Void c = Some Undefined
unary_value is_free o (Some v) = calculated_unary o v
unary_value is_free o None = None

-- of unary and binary operators, by the values of their operands
abbrev pub calculated_by : Bool → (Tree → Option Value) → Option UnaryOperator → Option BinaryOperator → Tree → Option Value
calculated_by is_free f (Some o) p t = unary_value is_free o (f (part t 0))
calculated_by is_free f None (Some o) t = binary_const o (f (part t 0)) (f (part t 1))
calculated_by is_free f None None t = None

abbrev pub calculated_over : Bool → (Tree → Option Value) → Tree → Option Value
calculated_over is_free f t = calculated_by is_free f (unary_operator t) (binary_operator t) t

-- of the last of some trees
abbrev pub last_value : (Tree → Option Value) → Trees → Option Value
last_value f none = None
last_value f (t ▸ ts) = f (child_or_absent (t ▸ ts) (count ts))

-- of logical expressions, conditionals, sequences and templates
abbrev pub chosen_by : (Tree → Option Value) → Option LogicalOperator → Bool → Bool → Bool → Tree → Option Value
chosen_by f (Some o) b c d t = logical_const o (f (part t 0)) (f (part t 1))
chosen_by f None true c d t = conditional_const (f (part t 0)) (f (part t 1)) (f (part t 2))
chosen_by f None false true d t = last_value f (children (part t 0))
chosen_by f None false false true t = template_value f t
chosen_by f None false false false t = None

-- of a sequence that has to do nothing: the parts before the last needn't have a value then
abbrev pub chosen_over : Bool → (Tree → Option Value) → Tree → Option Value
chosen_over is_free f t = chosen_by f (logical_operator t) (is_conditional t) (is_free && is_sequence t) (is_template t) t

abbrev pub or_else : Option Value → Option Value → Option Value
or_else (Some v) c = Some v
or_else None c = c

-- the value of a literal, or of operators over literals, of which at most so many lie one within
-- another
abbrev pub value_within : Bool → ℕ → Tree → Option Value
value_within is_free zero t = leaf_value t
value_within is_free (suc k) t = or_else (calculated_over is_free (value_within is_free k) t) (or_else (chosen_over is_free (value_within is_free k) t) (leaf_value t))

-- No further is looked into an operand. What is left of a constant weighs no more than its literal,
-- so of a number there are hardly as many.
abbrev pub operand_depth : ℕ
operand_depth = 8

-- whose evaluation does nothing but give it
abbrev pub operand_value : Tree → Option Value
operand_value t = value_within false operand_depth t

-- of an effect-free expression
abbrev pub free_value : Tree → Option Value
free_value t = value_within true operand_depth t

-- the constant of an effect-free unary or binary expression, as far as it is calculated:
-- `(1 << 20) - 1` is 1048575
abbrev pub calculated : Tree → Option Value
calculated t = choose (is_effect_free t) (calculated_over true free_value t) None

-- it is the constant of an effect-free expression
abbrev pub CalculatedIsConst : Type 0
CalculatedIsConst = (t : Tree) (v : Value) → calculated t ≡ Some v → (const t ≡ Some v) × (is_effect_free t ≡ true)

-- and an effect-free expression with a constant means its literal
abbrev pub KnownSame : Type 0
KnownSame = (n w : Tree) (v : Value) → const n ≡ Some v → is_effect_free n ≡ true → lit v ≡ Some w → SameWanted n w
