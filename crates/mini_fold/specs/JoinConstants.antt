-- The rewrites 4 and 8 of constants that aren't written out: two operands that do nothing but give
-- their values are one, where that is lighter.
use Rattle.std.specs.Prelude.{ℕ, ◌+◌, nat_lt, Bool, true, false, ◌&&◌, Option, Some, None, if◌then◌else◌}
use Rattle.mini_model.specs.declared.operator.BinaryOperator.{BinaryOperator}
use Rattle.mini_model.specs.declared.operator.BinaryOperator.TheVariants.{Addition, BitwiseAnd, BitwiseXor, BitwiseOr}
use Rattle.mini_model.specs.declared.place.Position.TheVariants.{Expr}
use Rattle.mini_model.specs.Position.{binary_operand_seat}
use Rattle.mini_model.specs.Tree.{Tree}
use Rattle.mini_model.specs.Weight.{weight, capped}
use Rattle.mini_node.specs.Children.{part}
use Rattle.mini_node.specs.Kinds.{binary_operator}
use Rattle.mini_laws.specs.Value.{Value}
use Rattle.mini_terms.specs.Calculated.{operand_value}
use Rattle.mini_terms.specs.Const.{binary_value}
use Rattle.mini_terms.specs.Parts.{leaves_nothing}
use Rattle.mini_terms.specs.Plain.{lit}
use Rattle.mini_rows.specs.Constants.{may_join}
use Rattle.mini_rows.specs.Spellings.{binary}

abbrev pub literal_of : Option Value → Option Tree
literal_of (Some v) = lit v
literal_of None = None

-- ---- what stands in their place

abbrev pub joined_value : BinaryOperator → Bool → Value → Value → Option Value
joined_value o b u v = if may_join o b u v then binary_value o u v else None

abbrev pub value_with : BinaryOperator → Bool → Option Value → Value → Option Value
value_with o b (Some u) v = joined_value o b u v
value_with o b None v = None

abbrev pub value_of_both : BinaryOperator → Bool → Option Value → Option Value → Option Value
value_of_both o b c (Some v) = value_with o b c v
value_of_both o b c None = None

-- the literal of both, of which the first stands beside another operand, on its right or on its
-- left
abbrev pub joined_literal : BinaryOperator → Bool → Tree → Tree → Option Tree
joined_literal o b k l = literal_of (value_of_both o b (operand_value k) (operand_value l))

-- ---- what they weigh

-- an operand and another, on its right or on its left
abbrev pub beside_weight : BinaryOperator → Bool → Tree → Tree → ℕ
beside_weight o true a k = weight (Expr (binary_operand_seat o 0)) a + weight (Expr (binary_operand_seat o 1)) k
beside_weight o false a k = weight (Expr (binary_operand_seat o 0)) k + weight (Expr (binary_operand_seat o 1)) a

-- what the operator weighs that goes, of those that join
abbrev pub sign_weight : BinaryOperator → ℕ
sign_weight BitwiseXor = 4
sign_weight o = 2

-- with it
abbrev pub both_weight : BinaryOperator → Bool → Tree → Tree → Tree → ℕ
both_weight o b a k l = sign_weight o + (beside_weight o b a k + weight (Expr (binary_operand_seat o 1)) l)

abbrev pub is_less : BinaryOperator → Bool → Tree → Tree → Tree → Tree → Bool
is_less o b a k l m = nat_lt (capped (beside_weight o true a m)) (capped (both_weight o b a k l))

-- ---- what is written

abbrev pub replaces : BinaryOperator → Bool → Tree → Tree → Tree → Tree → Bool
replaces o b a k l m = leaves_nothing k && (leaves_nothing l && is_less o b a k l m)

abbrev pub kept_if : Bool → Tree → Option Tree
kept_if c m = if c then Some m else None

abbrev pub joined_by : BinaryOperator → Bool → Tree → Tree → Tree → Option Tree → Option Tree
joined_by o b a k l (Some m) = kept_if (replaces o b a k l m) m
joined_by o b a k l None = None

-- the literal in the place of both
abbrev pub joined : BinaryOperator → Bool → Tree → Tree → Tree → Option Tree
joined o b a k l = joined_by o b a k l (joined_literal o b k l)

abbrev pub with_operand : BinaryOperator → Tree → Option Tree → Option Tree → Option Tree
with_operand o a (Some m) u = Some (binary o a m)
with_operand o a None u = u

-- `a + "st"` of `a + "s" + "t"`, `a & 2` of `a & 6 & 3` and of `6 & a & 3`
abbrev pub within : BinaryOperator → Tree → Tree → Option Tree
within o x l = with_operand o (part x 0) (joined o true (part x 0) (part x 1) l) (with_operand o (part x 1) (joined o false (part x 1) (part x 0) l) None)

-- an operator of this kind over the same one
abbrev pub holds_same : BinaryOperator → Option BinaryOperator → Bool
holds_same Addition (Some Addition) = true
holds_same BitwiseAnd (Some BitwiseAnd) = true
holds_same BitwiseXor (Some BitwiseXor) = true
holds_same BitwiseOr (Some BitwiseOr) = true
holds_same o p = false

abbrev pub joined_under : Option BinaryOperator → Tree → Option Tree
joined_under (Some o) t = if holds_same o (binary_operator (part t 0)) then within o (part t 0) (part t 1) else None
joined_under None t = None

abbrev pub joined_written : Tree → Option Tree
joined_written t = joined_under (binary_operator t) t
