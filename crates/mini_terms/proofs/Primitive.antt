-- What operators make is primitive.
use Rattle.std.proofs.Common.{◌≡◌, ℤ, Bool, true, false, Option, Some, None, subst}
use Rattle.std.specs.Prelude.{not}
use Rattle.mini_model.specs.declared.operator.BinaryOperator.{BinaryOperator}
use Rattle.mini_model.specs.declared.operator.BinaryOperator.TheVariants as binary
use Rattle.mini_model.specs.declared.operator.LogicalOperator.{LogicalOperator}
use Rattle.mini_model.specs.declared.operator.LogicalOperator.TheVariants.{Or, And, Coalesce}
use Rattle.mini_model.specs.declared.operator.UnaryOperator.{UnaryOperator}
use Rattle.mini_model.specs.declared.operator.UnaryOperator.TheVariants as unary
use Rattle.mini_model.specs.Tree.{Tree, node}
use Rattle.mini_model.specs.declared.shape.Shape.TheVariants as shape
use Rattle.mini_laws.specs.Value.{Value, Undefined, Null, Boolean, Number, String, choose, truth, is_nullish}
use Rattle.mini_laws.specs.Conversion.{Made, makes, raises, outside, is_safe}
use Rattle.mini_laws.specs.Expressions.{first_kind}
use Rattle.mini_laws.specs.Naming.{kinds}
use Rattle.mini_laws.specs.Operators.{of_number, of_primitives, loosely_equal, strictly_equal, type_text}
use Rattle.mini_terms.specs.Calculated.{undefined_if, leaf_value, as_number, over_number, calculated_unary}
use Rattle.mini_terms.specs.Const.{made, mapped, decided, binary_value}
use Rattle.mini_terms.specs.Kind.{is_undefined_name}
use Rattle.mini_terms.proofs.Made.{MadeIs, of_primitives_is, of_number_is}
use Rattle.mini_terms.proofs.Fine.{IsPrimitive}
use Rattle.mini_terms.proofs.ConstTable.{number_primitive, added_primitive, related_primitive}

nothing : {A : Type 0} {a : A} {B : Type 0} → None ≡ Some a → B
nothing e = cc e

primitive_as : (u v : Value) → Some u ≡ Some v → IsPrimitive u → IsPrimitive v
primitive_as u v e p = subst IsPrimitive {x = u} {y = v} (cc e) p

made_primitive : (m : Made Value) (v : Value) → MadeIs IsPrimitive m → made m ≡ Some v → IsPrimitive v
unfolding MadeIs
made_primitive (makes x) v p e = primitive_as x v e p
made_primitive raises v p e = nothing e
made_primitive outside v p e = nothing e

undefined_primitive : (b : Bool) (v : Value) → undefined_if b ≡ Some v → IsPrimitive v
undefined_primitive true v e = primitive_as Undefined v e tt
undefined_primitive false v e = nothing e

pub leaf_primitive : (t : Tree) (v : Value) → leaf_value t ≡ Some v → IsPrimitive v
leaf_primitive (node shape.Identifier xs n ts) v e = undefined_primitive (is_undefined_name (first_kind (kinds xs))) v e
leaf_primitive (node (shape.NumericLiteral m) xs n ts) v e = primitive_as (Number m) v e tt
leaf_primitive (node (shape.StringLiteral s) xs n ts) v e = primitive_as (String s) v e tt
leaf_primitive (node (shape.BooleanLiteral b) xs n ts) v e = primitive_as (Boolean b) v e tt
leaf_primitive (node shape.NullLiteral xs n ts) v e = primitive_as Null v e tt
leaf_primitive t v e = nothing e

over_primitive : (o : UnaryOperator) (c : Option ℤ) (v : Value) → over_number o c ≡ Some v → IsPrimitive v
over_primitive o (Some n) v e = go (is_safe n) e
  where
    go : (b : Bool) → choose b (made (of_number o n)) None ≡ Some v → IsPrimitive v
    go true e = made_primitive (of_number o n) v (number_primitive (of_number o n) (of_number_is o n)) e
    go false e = nothing e
over_primitive o None v e = nothing e

pub unary_primitive : (o : UnaryOperator) (u v : Value) → calculated_unary o u ≡ Some v → IsPrimitive v
unary_primitive unary.Void u v e = primitive_as Undefined v e tt
unary_primitive unary.LogicalNot u v e = primitive_as (Boolean (not (truth u))) v e tt
unary_primitive unary.Typeof u v e = primitive_as (String (type_text u)) v e tt
unary_primitive o u v e = over_primitive o (as_number u) v e

mapped_primitive : (f : Bool → Bool) (m : Option Bool) (v : Value) → mapped f m ≡ Some v → IsPrimitive v
mapped_primitive f (Some b) v e = primitive_as (Boolean (f b)) v e tt
mapped_primitive f None v e = nothing e

compared_primitive : (o : BinaryOperator) (x y v : Value) → MadeIs IsPrimitive (of_primitives o x y) → made (of_primitives o x y) ≡ Some v → IsPrimitive v
compared_primitive o x y v p e = made_primitive (of_primitives o x y) v p e

pub binary_primitive : (o : BinaryOperator) (x y v : Value) → binary_value o x y ≡ Some v → IsPrimitive v
binary_primitive binary.Equality x y v e = mapped_primitive (λ c. c) (loosely_equal x y) v e
binary_primitive binary.Inequality x y v e = mapped_primitive not (loosely_equal x y) v e
binary_primitive binary.StrictEquality x y v e = primitive_as (Boolean (strictly_equal x y)) v e tt
binary_primitive binary.StrictInequality x y v e = primitive_as (Boolean (not (strictly_equal x y))) v e tt
binary_primitive binary.In x y v e = nothing e
binary_primitive binary.Instanceof x y v e = nothing e
binary_primitive binary.Addition x y v e = compared_primitive binary.Addition x y v (added_primitive x y) e
binary_primitive binary.LessThan x y v e = compared_primitive binary.LessThan x y v (related_primitive binary.LessThan x y (of_primitives_is binary.LessThan x y (λ e. cc))) e
binary_primitive binary.GreaterThan x y v e = compared_primitive binary.GreaterThan x y v (related_primitive binary.GreaterThan x y (of_primitives_is binary.GreaterThan x y (λ e. cc))) e
binary_primitive binary.LessEqualThan x y v e = compared_primitive binary.LessEqualThan x y v (related_primitive binary.LessEqualThan x y (of_primitives_is binary.LessEqualThan x y (λ e. cc))) e
binary_primitive binary.GreaterEqualThan x y v e = compared_primitive binary.GreaterEqualThan x y v (related_primitive binary.GreaterEqualThan x y (of_primitives_is binary.GreaterEqualThan x y (λ e. cc))) e
binary_primitive o x y v e = compared_primitive o x y v (number_primitive (of_primitives o x y) (of_primitives_is o x y (λ e. cc))) e

chosen_primitive : (b : Bool) (x y : Value) → IsPrimitive x → IsPrimitive y → IsPrimitive (choose b x y)
chosen_primitive true x y p q = p
chosen_primitive false x y p q = q

pub decided_primitive : (o : LogicalOperator) (x y : Value) → IsPrimitive x → IsPrimitive y → IsPrimitive (decided o x y)
decided_primitive And x y p q = chosen_primitive (truth x) y x q p
decided_primitive Or x y p q = chosen_primitive (truth x) x y p q
decided_primitive Coalesce x y p q = chosen_primitive (is_nullish x) y x q p

pub branch_primitive : (x y z : Value) → IsPrimitive y → IsPrimitive z → IsPrimitive (choose (truth x) y z)
branch_primitive x y z p q = chosen_primitive (truth x) y z p q
