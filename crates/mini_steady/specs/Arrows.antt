-- What is done in the own code of an arrow function.
use Rattle.std.specs.Prelude.{◌≡◌, nat_eq, Bool, true, false, ◌&&◌}
use Rattle.mini_model.specs.declared.place.Position.{Position}
use Rattle.mini_model.specs.declared.place.Position.TheVariants.{Expr}
use Rattle.mini_model.specs.declared.shape.Shape.{Shape}
use Rattle.mini_model.specs.declared.shape.Shape.TheVariants as shape
use Rattle.mini_model.specs.Tree.{Tree, children, count, shape_of}
use Rattle.mini_kept.specs.Without.{BodySets}
use Rattle.mini_node.specs.Children.{names_of}
use Rattle.mini_rows.specs.OwnArrows.{OwnArrowRow, OwnArrow}
use Rattle.mini_rows.specs.Steady.{OwnRows}
use Rattle.mini_steady.specs.Chains.{Several}
use Rattle.mini_steady.specs.Functions.{are_no_names}

abbrev pub is_arrow_shape : Shape → Bool
is_arrow_shape (shape.ArrowFunctionExpression directives) = true
is_arrow_shape h = false

-- with its parameters and its body
abbrev pub is_arrow : Tree → Bool
is_arrow t = is_arrow_shape (shape_of t) && (are_no_names (names_of t) && nat_eq (count (children t)) 2)

-- steps in its own code by rows of F, or none, and then no row reads it
abbrev pub AppliedInArrow : OwnRows → BodySets → Tree → Tree → Bool → Type 0
AppliedInArrow F S t u true = Several (OwnArrowRow F S) t u
AppliedInArrow F S t u false = (u ≡ t) × ((w : Tree) → OwnArrowRow F S t w → ⊥)

-- no row reads it wherever it stands
abbrev pub ArrowRests : OwnRows → BodySets → Position → Tree → Type 0
ArrowRests F S p t = (w : Tree) → OwnArrow F S p t w → ⊥

-- where an expression stands
abbrev pub holds_arrow : Position → Bool
holds_arrow (Expr s) = true
holds_arrow p = false
