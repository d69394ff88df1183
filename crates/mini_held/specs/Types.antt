-- What an equality of a result of `typeof` is over: 16 and 17.
use Rattle.std.specs.Prelude.{Bool, true, false, ◌&&◌, Option, Some}
use Rattle.mini_model.specs.declared.operator.UnaryOperator.{UnaryOperator}
use Rattle.mini_model.specs.declared.operator.UnaryOperator.TheVariants.{Typeof}
use Rattle.mini_model.specs.Tree.{Tree}
use Rattle.mini_node.specs.Children.{part}
use Rattle.mini_node.specs.Kinds.{unary_operator}
use Rattle.mini_terms.specs.Effects.{ef}
use Rattle.mini_terms.specs.Parts.{leaves_nothing}
use Rattle.mini_rows.specs.Operators.{is_no_type}

abbrev pub is_typeof_by : Option UnaryOperator → Bool
is_typeof_by (Some Typeof) = true
is_typeof_by o = false

abbrev pub is_typeof : Tree → Bool
is_typeof t = is_typeof_by (unary_operator t)

-- `typeof` beside what none of its texts equals, where nothing is done and nothing left behind.
-- `this` has an effect where it is asked of the world
abbrev pub is_never_type : Bool → Tree → Bool
is_never_type asked t = is_typeof (part t 0) && (is_no_type (part t 1) && (ef asked t && leaves_nothing t))
