-- What is done in the own code of a static block or an inner expression.
use Rattle.std.specs.Prelude.{◌≡◌, nat_eq, Bool, true, false, ◌&&◌}
use Rattle.mini_model.specs.declared.place.Position.{Position}
use Rattle.mini_model.specs.declared.shape.Shape.{Shape}
use Rattle.mini_model.specs.declared.shape.Shape.TheVariants as shape
use Rattle.mini_model.specs.Tree.{Tree, children, count, shape_of}
use Rattle.mini_kept.specs.Without.{BodySets}
use Rattle.mini_node.specs.Children.{names_of}
use Rattle.mini_rows.specs.OwnParts.{OwnPart}
use Rattle.mini_rows.specs.Steady.{OwnRows}
use Rattle.mini_steady.specs.Chains.{Several}
use Rattle.mini_steady.specs.Functions.{are_no_names}

abbrev pub is_part_shape : Shape → Bool
is_part_shape shape.StaticBlock = true
is_part_shape shape.InnerExpression = true
is_part_shape h = false

-- either, with what it holds
abbrev pub is_part : Tree → Bool
is_part t = is_part_shape (shape_of t) && (are_no_names (names_of t) && nat_eq (count (children t)) 1)

-- no row reads it where it stands
abbrev pub PartRests : OwnRows → BodySets → Position → Tree → Type 0
PartRests F S p t = (w : Tree) → OwnPart F S p t w → ⊥

-- steps in its own code by rows of F, or none, and then no row reads it
abbrev pub AppliedInPart : OwnRows → BodySets → Position → Tree → Tree → Bool → Type 0
AppliedInPart F S p t u true = Several (OwnPart F S p) t u
AppliedInPart F S p t u false = (u ≡ t) × PartRests F S p t
