-- The words of operators and kinds, as ESTree writes them.
use Rattle.std.specs.Prelude.{ℕ, List, codes, Bool, if◌then◌else◌}
use Rattle.mini_model.specs.declared.kind.MethodDefinitionKind.{MethodDefinitionKind}
use Rattle.mini_model.specs.declared.kind.MethodDefinitionKind.TheVariants as method
use Rattle.mini_model.specs.declared.kind.PropertyKind.{PropertyKind}
use Rattle.mini_model.specs.declared.kind.PropertyKind.TheVariants as property
use Rattle.mini_model.specs.declared.kind.VariableDeclarationKind.{VariableDeclarationKind}
use Rattle.mini_model.specs.declared.kind.VariableDeclarationKind.TheVariants as variable
use Rattle.mini_model.specs.declared.operator.AssignmentOperator.{AssignmentOperator}
use Rattle.mini_model.specs.declared.operator.AssignmentOperator.TheVariants as assignment
use Rattle.mini_model.specs.declared.operator.BinaryOperator.{BinaryOperator}
use Rattle.mini_model.specs.declared.operator.BinaryOperator.TheVariants as binary
use Rattle.mini_model.specs.declared.operator.LogicalOperator.{LogicalOperator}
use Rattle.mini_model.specs.declared.operator.LogicalOperator.TheVariants as logical
use Rattle.mini_model.specs.declared.operator.UnaryOperator.{UnaryOperator}
use Rattle.mini_model.specs.declared.operator.UnaryOperator.TheVariants as unary
use Rattle.mini_model.specs.declared.operator.UpdateOperator.{UpdateOperator}
use Rattle.mini_model.specs.declared.operator.UpdateOperator.TheVariants as update

abbrev pub unary_word : UnaryOperator → List ℕ
unary_word unary.UnaryPlus = codes "+"
unary_word unary.UnaryNegation = codes "-"
unary_word unary.LogicalNot = codes "!"
unary_word unary.BitwiseNot = codes "~"
unary_word unary.Typeof = codes "typeof"
unary_word unary.Void = codes "void"
unary_word unary.Delete = codes "delete"

abbrev pub update_word : UpdateOperator → List ℕ
update_word update.Increment = codes "++"
update_word update.Decrement = codes "--"

abbrev pub binary_word : BinaryOperator → List ℕ
binary_word binary.Equality = codes "=="
binary_word binary.Inequality = codes "!="
binary_word binary.StrictEquality = codes "==="
binary_word binary.StrictInequality = codes "!=="
binary_word binary.LessThan = codes "<"
binary_word binary.LessEqualThan = codes "<="
binary_word binary.GreaterThan = codes ">"
binary_word binary.GreaterEqualThan = codes ">="
binary_word binary.ShiftLeft = codes "<<"
binary_word binary.ShiftRight = codes ">>"
binary_word binary.ShiftRightZeroFill = codes ">>>"
binary_word binary.Addition = codes "+"
binary_word binary.Subtraction = codes "-"
binary_word binary.Multiplication = codes "*"
binary_word binary.Division = codes "/"
binary_word binary.Remainder = codes "%"
binary_word binary.Exponential = codes "**"
binary_word binary.BitwiseAnd = codes "&"
binary_word binary.BitwiseXor = codes "^"
binary_word binary.BitwiseOr = codes "|"
binary_word binary.In = codes "in"
binary_word binary.Instanceof = codes "instanceof"

abbrev pub logical_word : LogicalOperator → List ℕ
logical_word logical.Or = codes "||"
logical_word logical.And = codes "&&"
logical_word logical.Coalesce = codes "??"

abbrev pub assignment_word : AssignmentOperator → List ℕ
assignment_word assignment.Assign = codes "="
assignment_word assignment.Addition = codes "+="
assignment_word assignment.Subtraction = codes "-="
assignment_word assignment.Multiplication = codes "*="
assignment_word assignment.Division = codes "/="
assignment_word assignment.Remainder = codes "%="
assignment_word assignment.Exponential = codes "**="
assignment_word assignment.ShiftLeft = codes "<<="
assignment_word assignment.ShiftRight = codes ">>="
assignment_word assignment.ShiftRightZeroFill = codes ">>>="
assignment_word assignment.BitwiseAnd = codes "&="
assignment_word assignment.BitwiseXor = codes "^="
assignment_word assignment.BitwiseOr = codes "|="
assignment_word assignment.LogicalOr = codes "||="
assignment_word assignment.LogicalAnd = codes "&&="
assignment_word assignment.LogicalNullish = codes "??="

abbrev pub variable_word : VariableDeclarationKind → List ℕ
variable_word variable.Var = codes "var"
variable_word variable.Let = codes "let"
variable_word variable.Const = codes "const"

abbrev pub property_word : PropertyKind → List ℕ
property_word property.Init = codes "init"
property_word property.Get = codes "get"
property_word property.Set = codes "set"

abbrev pub method_word : MethodDefinitionKind → List ℕ
method_word method.Constructor = codes "constructor"
method_word method.Method = codes "method"
method_word method.Get = codes "get"
method_word method.Set = codes "set"

abbrev pub source_type : Bool → List ℕ
source_type is_module = if is_module then codes "module" else codes "script"

-- the type of a function or a class, by whether it is a declaration
abbrev pub function_type : Bool → List ℕ
function_type declaration = if declaration then codes "FunctionDeclaration" else codes "FunctionExpression"

abbrev pub class_type : Bool → List ℕ
class_type declaration = if declaration then codes "ClassDeclaration" else codes "ClassExpression"
