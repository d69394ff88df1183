-- The words of the fields that hold one of a few: operators, and the kinds of declarations,
-- properties and methods.
use Rattle.std.specs.Prelude.{ℕ, List, [], ◌∷◌, Bool, true, false, Option, option_and_then, codes}
use Rattle.serde_json.specs.Data.{Data}
use Rattle.mini_model.specs.declared.kind.MethodDefinitionKind.{MethodDefinitionKind}
use Rattle.mini_model.specs.declared.kind.MethodDefinitionKind.TheVariants as method
use Rattle.mini_model.specs.declared.kind.PropertyKind.{PropertyKind}
use Rattle.mini_model.specs.declared.kind.PropertyKind.TheVariants as property
use Rattle.mini_model.specs.declared.kind.VariableDeclarationKind.{VariableDeclarationKind}
use Rattle.mini_model.specs.declared.kind.VariableDeclarationKind.TheVariants as variable
use Rattle.mini_model.specs.declared.operator.AssignmentOperator.{AssignmentOperator}
use Rattle.mini_model.specs.declared.operator.AssignmentOperator.TheVariants as assignment
use Rattle.mini_model.specs.declared.operator.BinaryOperator.{BinaryOperator}
use Rattle.mini_model.specs.declared.operator.BinaryOperator.TheVariants as binary
use Rattle.mini_model.specs.declared.operator.LogicalOperator.{LogicalOperator}
use Rattle.mini_model.specs.declared.operator.LogicalOperator.TheVariants as logical
use Rattle.mini_model.specs.declared.operator.UnaryOperator.{UnaryOperator}
use Rattle.mini_model.specs.declared.operator.UnaryOperator.TheVariants as unary
use Rattle.mini_model.specs.declared.operator.UpdateOperator.{UpdateOperator}
use Rattle.mini_model.specs.declared.operator.UpdateOperator.TheVariants as update
use Rattle.mini_accept.specs.Fields.{text_at, word_in}

-- ---- operators

abbrev pub assignment_operators : List (List ℕ × AssignmentOperator)
assignment_operators =
    (codes "=", assignment.Assign) ∷
    (codes "+=", assignment.Addition) ∷
    (codes "-=", assignment.Subtraction) ∷
    (codes "*=", assignment.Multiplication) ∷
    (codes "/=", assignment.Division) ∷
    (codes "%=", assignment.Remainder) ∷
    (codes "**=", assignment.Exponential) ∷
    (codes "<<=", assignment.ShiftLeft) ∷
    (codes ">>=", assignment.ShiftRight) ∷
    (codes ">>>=", assignment.ShiftRightZeroFill) ∷
    (codes "&=", assignment.BitwiseAnd) ∷
    (codes "^=", assignment.BitwiseXor) ∷
    (codes "|=", assignment.BitwiseOr) ∷
    (codes "||=", assignment.LogicalOr) ∷
    (codes "&&=", assignment.LogicalAnd) ∷
    (codes "??=", assignment.LogicalNullish) ∷
    []

abbrev pub binary_operators : List (List ℕ × BinaryOperator)
binary_operators =
    (codes "==", binary.Equality) ∷
    (codes "!=", binary.Inequality) ∷
    (codes "===", binary.StrictEquality) ∷
    (codes "!==", binary.StrictInequality) ∷
    (codes "<", binary.LessThan) ∷
    (codes "<=", binary.LessEqualThan) ∷
    (codes ">", binary.GreaterThan) ∷
    (codes ">=", binary.GreaterEqualThan) ∷
    (codes "<<", binary.ShiftLeft) ∷
    (codes ">>", binary.ShiftRight) ∷
    (codes ">>>", binary.ShiftRightZeroFill) ∷
    (codes "+", binary.Addition) ∷
    (codes "-", binary.Subtraction) ∷
    (codes "*", binary.Multiplication) ∷
    (codes "/", binary.Division) ∷
    (codes "%", binary.Remainder) ∷
    (codes "**", binary.Exponential) ∷
    (codes "&", binary.BitwiseAnd) ∷
    (codes "^", binary.BitwiseXor) ∷
    (codes "|", binary.BitwiseOr) ∷
    (codes "in", binary.In) ∷
    (codes "instanceof", binary.Instanceof) ∷
    []

abbrev pub logical_operators : List (List ℕ × LogicalOperator)
logical_operators =
    (codes "||", logical.Or) ∷
    (codes "&&", logical.And) ∷
    (codes "??", logical.Coalesce) ∷
    []

abbrev pub unary_operators : List (List ℕ × UnaryOperator)
unary_operators =
    (codes "+", unary.UnaryPlus) ∷
    (codes "-", unary.UnaryNegation) ∷
    (codes "!", unary.LogicalNot) ∷
    (codes "~", unary.BitwiseNot) ∷
    (codes "typeof", unary.Typeof) ∷
    (codes "void", unary.Void) ∷
    (codes "delete", unary.Delete) ∷
    []

abbrev pub update_operators : List (List ℕ × UpdateOperator)
update_operators =
    (codes "++", update.Increment) ∷
    (codes "--", update.Decrement) ∷
    []

-- ---- kinds

abbrev pub variable_kinds : List (List ℕ × VariableDeclarationKind)
variable_kinds =
    (codes "var", variable.Var) ∷
    (codes "let", variable.Let) ∷
    (codes "const", variable.Const) ∷
    []

abbrev pub property_kinds : List (List ℕ × PropertyKind)
property_kinds =
    (codes "init", property.Init) ∷
    (codes "get", property.Get) ∷
    (codes "set", property.Set) ∷
    []

abbrev pub method_kinds : List (List ℕ × MethodDefinitionKind)
method_kinds =
    (codes "constructor", method.Constructor) ∷
    (codes "method", method.Method) ∷
    (codes "get", method.Get) ∷
    (codes "set", method.Set) ∷
    []

-- whether the program is a module
abbrev pub source_types : List (List ℕ × Bool)
source_types =
    (codes "script", false) ∷
    (codes "module", true) ∷
    []

-- the field is one of the words
abbrev pub word_at : {A : Type 0} → List (List ℕ × A) → List ℕ → Data → Option A
word_at words key d = option_and_then (word_in words) (text_at key d)
