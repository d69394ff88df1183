-- Runs that differ without an item: each premise is needed.
use Rattle.std.specs.Prelude.{◌≡◌, true, false, [], ◌∷◌, Option, Some, None, codes}
use Rattle.mini_model.specs.declared.kind.VariableDeclarationKind.TheVariants.{Var}
use Rattle.mini_model.specs.declared.name.Name.{Name}
use Rattle.mini_model.specs.declared.shape.Shape.TheVariants as shape
use Rattle.mini_model.specs.Tree.{Tree, Trees, node, none, ◌▸◌, listed}
use Rattle.mini_laws.specs.Value.{Undefined, Object, Variable, Slot, Missing, nothing}
use Rattle.mini_laws.specs.State.{Answer, Normal, Environment, Writes}
use Rattle.mini_laws.specs.Body.{FunctionStatements, Outcome, NoAnswersEnd, ReturnOf, Ran, Run}

abbrev plain_environment : Environment
plain_environment = record { shared = nothing; foreign = nothing; fixed = λ x. Writes; asks_this = false }

abbrev no_values : Variable → Slot
no_values x = Missing

abbrev f : Name
f = record { spelling = codes "f"; symbol = Some (record { 0 = 0 }) }

-- function f() {}
abbrev function_f : Tree
function_f = node (shape.Function true false []) [] 1 (node shape.BindingIdentifier (f ∷ []) 0 none ▸ listed none ▸ node shape.FunctionBody [] 0 (listed none ▸ none) ▸ none)

-- var f = {}, which is no item: an object is made
abbrev var_f : Tree
var_f = node (shape.VariableDeclaration Var) [] 0 (listed (node shape.VariableDeclarator [] 0 (node shape.BindingIdentifier (f ∷ []) 0 none ▸ node shape.ObjectExpression [] 0 (listed none ▸ none) ▸ none) ▸ none) ▸ none)

abbrev body : Trees → Tree
body ts = node shape.FunctionBody [] 0 (listed ts ▸ none)

abbrev an_object : Answer
an_object = record { given = Normal (Object 1 false); news = λ x. None; binds = λ x. Undefined }

abbrev a_function : Answer
a_function = record { given = Normal (Object 0 true); news = λ x. None; binds = λ x. Undefined }

abbrev pub outcome_of : Option Ran → Option Outcome
outcome_of (Some r) = Some r.outcome
outcome_of None = None

-- A creation for which no answer is left ends the run, and the later run goes on without it: so
-- each creation has to be answered
abbrev pub UnansweredDiffers : Type 0
UnansweredDiffers =
    (outcome_of (Run plain_environment FunctionStatements (body (function_f ▸ none)) no_values Undefined [] 0) ≡ Some NoAnswersEnd) × (outcome_of (Run plain_environment FunctionStatements (body none) no_values Undefined [] 0) ≡ Some (ReturnOf Undefined))

-- `function f() {} var f = {};` in a function, where f begins without a binding: the function binds
-- f before the `var` writes it. Without the function the `var` alone writes what has no binding,
-- which is outside the model: so a function goes only with every declaration of its name
abbrev pub LoneDeclarationDiffers : Type 0
LoneDeclarationDiffers =
    (outcome_of (Run plain_environment FunctionStatements (body (function_f ▸ var_f ▸ none)) no_values Undefined (a_function ∷ an_object ∷ []) 0) ≡ Some (ReturnOf Undefined)) × (outcome_of (Run plain_environment FunctionStatements (body (var_f ▸ none)) no_values Undefined (an_object ∷ []) 0) ≡ None)
