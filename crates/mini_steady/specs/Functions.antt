-- What is done in the own code of a function.
use Rattle.std.specs.Prelude.{◌≡◌, nat_eq, Bool, true, false, ◌&&◌, List, []}
use Rattle.mini_model.specs.declared.name.Name.{Name}
use Rattle.mini_model.specs.declared.place.Position.{Position}
use Rattle.mini_model.specs.declared.place.Position.TheVariants.{Expr, Stmt, Method, Elsewhere}
use Rattle.mini_model.specs.declared.shape.Shape.{Shape}
use Rattle.mini_model.specs.declared.shape.Shape.TheVariants as shape
use Rattle.mini_model.specs.Tree.{Tree, children, count, shape_of}
use Rattle.mini_kept.specs.Without.{BodySets}
use Rattle.mini_node.specs.Children.{names_of}
use Rattle.mini_rows.specs.Steady.{OwnFunctionRow, OwnFunction, OwnRows}
use Rattle.mini_steady.specs.Chains.{Several}

abbrev pub is_function_shape : Shape → Bool
is_function_shape (shape.Function is_declaration is_generator directives) = true
is_function_shape h = false

abbrev pub are_no_names : List Name → Bool
are_no_names [] = true
are_no_names xs = false

-- a function that is no arrow function, with its name, its parameters and its body
abbrev pub is_function : Tree → Bool
is_function t = is_function_shape (shape_of t) && (are_no_names (names_of t) && nat_eq (count (children t)) 3)

-- steps in its own code by rows of F, or none, and then no row reads it
abbrev pub AppliedInFunction : OwnRows → BodySets → Tree → Tree → Bool → Type 0
AppliedInFunction F S t u true = Several (OwnFunctionRow F S) t u
AppliedInFunction F S t u false = (u ≡ t) × ((w : Tree) → OwnFunctionRow F S t w → ⊥)

-- no row reads it wherever it stands
abbrev pub Rests : OwnRows → BodySets → Position → Tree → Type 0
Rests F S p t = (w : Tree) → OwnFunction F S p t w → ⊥

-- where a function may stand
abbrev pub holds_function : Position → Bool
holds_function (Stmt s) = true
holds_function (Expr s) = true
holds_function Method = true
holds_function Elsewhere = true
holds_function p = false
