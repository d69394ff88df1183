-- The rewrite 28: `a === b` becomes `a == b` where both sides are of one known Kind.
use Rattle.std.specs.Prelude.{Bool, true, false, [], Option, Some, None}
use Rattle.mini_model.specs.declared.operator.BinaryOperator.{BinaryOperator}
use Rattle.mini_model.specs.declared.shape.Shape.TheVariants.{BinaryExpression}
use Rattle.mini_model.specs.Tree.{Tree, node, children}
use Rattle.mini_node.specs.Children.{part}
use Rattle.mini_node.specs.Kinds.{binary_operator}
use Rattle.mini_terms.specs.Folds.{has_one_kind}
use Rattle.mini_rows.specs.Folding.{loosened}

abbrev pub loosened_by : Option BinaryOperator → Option BinaryOperator
loosened_by (Some o) = loosened o
loosened_by None = None

-- `==` of `===`, and `!=` of `!==`
abbrev pub loose_operator : Tree → Option BinaryOperator
loose_operator t = loosened_by (binary_operator t)

abbrev pub with_operator : Tree → BinaryOperator → Tree
with_operator t o = node (BinaryExpression o) [] 0 (children t)

abbrev pub written_by : Option BinaryOperator → Bool → Tree → Option Tree
written_by (Some o) true t = Some (with_operator t o)
written_by (Some o) false t = None
written_by None alike t = None

-- what is written for an equality
abbrev pub written : Tree → Option Tree
written t = written_by (loose_operator t) (has_one_kind (part t 0) (part t 1)) t
