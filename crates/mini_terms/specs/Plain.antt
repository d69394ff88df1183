-- Lit, the literal of a value, and Plain, what is written as lightly as a literal.
use Rattle.std.specs.Prelude.{Bool, true, false, Option, Some, None, pos, nat_eq}
use Rattle.mini_model.specs.declared.operator.UnaryOperator.TheVariants.{Void}
use Rattle.mini_model.specs.declared.shape.Shape.{Shape}
use Rattle.mini_model.specs.declared.shape.Shape.TheVariants as shape
use Rattle.mini_model.specs.Tree.{Tree, Trees, node, none, ◌▸◌, leaf, unary, negation}
use Rattle.mini_laws.specs.Value.{Value, Undefined, Null, Boolean, Number, String}

abbrev pub void_zero : Tree
void_zero = unary Void (leaf (shape.NumericLiteral (pos 0)))

-- the literal of a primitive value, of which a negative number is one literal; none of a symbol or
-- an object
abbrev pub lit : Value → Option Tree
lit Undefined = Some void_zero
lit Null = Some (leaf shape.NullLiteral)
lit (Boolean true) = Some (negation (leaf (shape.NumericLiteral (pos 0))))
lit (Boolean false) = Some (negation (leaf (shape.NumericLiteral (pos 1))))
lit (Number n) = Some (leaf (shape.NumericLiteral n))
lit (String s) = Some (leaf (shape.StringLiteral s))
lit v = None

-- a literal but RegExp, a negative one included
abbrev pub is_literal : Shape → Bool
is_literal (shape.NumericLiteral n) = true
is_literal (shape.StringLiteral s) = true
is_literal (shape.BooleanLiteral b) = true
is_literal shape.NullLiteral = true
is_literal (shape.BigIntLiteral n) = true
is_literal _ = false

abbrev pub is_empty : Trees → Bool
is_empty none = true
is_empty (t ▸ ts) = false

abbrev pub is_zero_shape : Shape → Bool
is_zero_shape (shape.NumericLiteral (pos n)) = nat_eq n 0
is_zero_shape _ = false

abbrev pub is_zero : Tree → Bool
is_zero (node h xs n ts) = is_zero_shape h

abbrev pub has_no_items : Tree → Bool
has_no_items (node h xs n ts) = is_empty ts

abbrev pub plain_by : Shape → Trees → Bool
plain_by (shape.UnaryExpression Void) (a ▸ none) = is_zero a
plain_by shape.TemplateLiteral (quasis ▸ (expressions ▸ none)) = has_no_items expressions
plain_by h ts = is_literal h

-- a literal but RegExp, a negative literal, a template without expressions, or `void 0`
abbrev pub plain : Tree → Bool
plain (node h xs n ts) = plain_by h ts
