-- 58, `substitute_loose_equals_undefined`: `undefined` or `void 0` in `==` and `!=` becomes `null`.
use Rattle.std.specs.Prelude.{Bool, true, false, Option, Some, None, if◌then◌else◌}
use Rattle.mini_model.specs.declared.operator.BinaryOperator.{BinaryOperator}
use Rattle.mini_model.specs.declared.operator.BinaryOperator.TheVariants.{Equality, Inequality}
use Rattle.mini_model.specs.Tree.{Tree, null_literal}
use Rattle.mini_node.specs.Children.{part}
use Rattle.mini_node.specs.Kinds.{binary, binary_operator}
use Rattle.mini_syntax.specs.Forms.{is_undefined}

-- `==` or `!=`
abbrev pub is_loose : BinaryOperator → Bool
is_loose Equality = true
is_loose Inequality = true
is_loose _ = false

abbrev pub loose_in : Option BinaryOperator → Option BinaryOperator
loose_in (Some o) = if is_loose o then Some o else None
loose_in None = None

-- the operator, where it is one of these
abbrev pub loose_operator : Tree → Option BinaryOperator
loose_operator t = loose_in (binary_operator t)

abbrev pub written_by : Option BinaryOperator → Tree → Tree → Option Tree
written_by (Some o) a b = if is_undefined a then Some (binary o null_literal b) else (if is_undefined b then Some (binary o a null_literal) else None)
written_by None a b = None

abbrev pub written : Tree → Option Tree
written t = written_by (loose_operator t) (part t 0) (part t 1)
