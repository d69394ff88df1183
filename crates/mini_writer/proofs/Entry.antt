-- What an entry of the table computes to, step by step.
use Rattle.std.proofs.Common.{◌≡◌, refl, ap, ◌∙◌, Bool, true, false}
use Rattle.std.specs.Prelude.{Option, Some, if◌then◌else◌}
use Rattle.std.proofs.lemmas.Bool.{true≢false, false≢true}
use Rattle.mini_model.specs.declared.kind.MethodDefinitionKind.{MethodDefinitionKind}
use Rattle.mini_model.specs.declared.kind.MethodDefinitionKind.TheVariants as method
use Rattle.mini_model.specs.declared.kind.PropertyKind.{PropertyKind}
use Rattle.mini_model.specs.declared.kind.PropertyKind.TheVariants as property
use Rattle.mini_model.specs.declared.operator.AssignmentOperator.{AssignmentOperator}
use Rattle.mini_model.specs.declared.operator.AssignmentOperator.TheVariants as assignment
use Rattle.mini_model.specs.declared.operator.BinaryOperator.{BinaryOperator}
use Rattle.mini_model.specs.declared.operator.BinaryOperator.TheVariants as binary
use Rattle.mini_model.specs.declared.operator.LogicalOperator.{LogicalOperator}
use Rattle.mini_model.specs.declared.operator.LogicalOperator.TheVariants as logical
use Rattle.mini_model.specs.declared.operator.UnaryOperator.{UnaryOperator}
use Rattle.mini_model.specs.declared.operator.UnaryOperator.TheVariants as unary
use Rattle.mini_model.specs.declared.operator.UpdateOperator.{UpdateOperator}
use Rattle.mini_model.specs.declared.operator.UpdateOperator.TheVariants as update
use Rattle.mini_accept.specs.Fields.{◌>>=◌, require, word_in}
use Rattle.mini_accept.specs.Words.{assignment_operators, binary_operators, logical_operators, unary_operators, update_operators, property_kinds, method_kinds}
use Rattle.mini_writer.specs.Words.{unary_word, update_word, binary_word, logical_word, assignment_word, property_word, method_word}

pub bind_is : {A B : Type 0} (o : Option A) (x : A) (f : A → Option B) (y : Option B) → o ≡ Some x → f x ≡ y → (o >>= f) ≡ y
bind_is o x f y e g = ap (λ v. v >>= f) e ∙ g

pub require_is : {A : Type 0} (b : Bool) (o y : Option A) → b ≡ true → o ≡ y → require b o ≡ y
require_is true o y e g = g
require_is false o y e g = absurd (false≢true e)

pub then_is : {A : Type 0} (b : Bool) (x y z : A) → b ≡ true → x ≡ z → (if b then x else y) ≡ z
then_is true x y z e g = g
then_is false x y z e g = absurd (false≢true e)

pub else_is : {A : Type 0} (b : Bool) (x y z : A) → b ≡ false → y ≡ z → (if b then x else y) ≡ z
else_is true x y z e g = absurd (true≢false e)
else_is false x y z e g = g

-- ---- words

pub unary_back : (o : UnaryOperator) → word_in unary_operators (unary_word o) ≡ Some o
unary_back unary.UnaryPlus = refl
unary_back unary.UnaryNegation = refl
unary_back unary.LogicalNot = refl
unary_back unary.BitwiseNot = refl
unary_back unary.Typeof = refl
unary_back unary.Void = refl
unary_back unary.Delete = refl

pub update_back : (o : UpdateOperator) → word_in update_operators (update_word o) ≡ Some o
update_back update.Increment = refl
update_back update.Decrement = refl

pub binary_back : (o : BinaryOperator) → word_in binary_operators (binary_word o) ≡ Some o
binary_back binary.Equality = refl
binary_back binary.Inequality = refl
binary_back binary.StrictEquality = refl
binary_back binary.StrictInequality = refl
binary_back binary.LessThan = refl
binary_back binary.LessEqualThan = refl
binary_back binary.GreaterThan = refl
binary_back binary.GreaterEqualThan = refl
binary_back binary.ShiftLeft = refl
binary_back binary.ShiftRight = refl
binary_back binary.ShiftRightZeroFill = refl
binary_back binary.Addition = refl
binary_back binary.Subtraction = refl
binary_back binary.Multiplication = refl
binary_back binary.Division = refl
binary_back binary.Remainder = refl
binary_back binary.Exponential = refl
binary_back binary.BitwiseAnd = refl
binary_back binary.BitwiseXor = refl
binary_back binary.BitwiseOr = refl
binary_back binary.In = refl
binary_back binary.Instanceof = refl

pub logical_back : (o : LogicalOperator) → word_in logical_operators (logical_word o) ≡ Some o
logical_back logical.Or = refl
logical_back logical.And = refl
logical_back logical.Coalesce = refl

pub assignment_back : (o : AssignmentOperator) → word_in assignment_operators (assignment_word o) ≡ Some o
assignment_back assignment.Assign = refl
assignment_back assignment.Addition = refl
assignment_back assignment.Subtraction = refl
assignment_back assignment.Multiplication = refl
assignment_back assignment.Division = refl
assignment_back assignment.Remainder = refl
assignment_back assignment.Exponential = refl
assignment_back assignment.ShiftLeft = refl
assignment_back assignment.ShiftRight = refl
assignment_back assignment.ShiftRightZeroFill = refl
assignment_back assignment.BitwiseAnd = refl
assignment_back assignment.BitwiseXor = refl
assignment_back assignment.BitwiseOr = refl
assignment_back assignment.LogicalOr = refl
assignment_back assignment.LogicalAnd = refl
assignment_back assignment.LogicalNullish = refl

pub property_back : (k : PropertyKind) → word_in property_kinds (property_word k) ≡ Some k
property_back property.Init = refl
property_back property.Get = refl
property_back property.Set = refl

pub method_back : (k : MethodDefinitionKind) → word_in method_kinds (method_word k) ≡ Some k
method_back method.Constructor = refl
method_back method.Method = refl
method_back method.Get = refl
method_back method.Set = refl
