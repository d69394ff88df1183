-- 55, `substitute_typeof_value`: `typeof a == "undefined"` becomes `a === void 0`, and of an
-- inequality `a !== void 0`, of what `typeof` reads by its value.
use Rattle.std.specs.Prelude.{ℕ, Bool, true, false, ◌&&◌, List, Option, Some, None, codes, if◌then◌else◌}
use Rattle.mini_model.specs.declared.operator.BinaryOperator.{BinaryOperator}
use Rattle.mini_model.specs.declared.operator.UnaryOperator.{UnaryOperator}
use Rattle.mini_model.specs.declared.operator.UnaryOperator.TheVariants.{Typeof}
use Rattle.mini_model.specs.Position.{is_equality}
use Rattle.mini_model.specs.Tree.{Tree}
use Rattle.mini_model.specs.Weight.{same_text}
use Rattle.mini_node.specs.Children.{part}
use Rattle.mini_node.specs.Kinds.{binary, binary_operator, unary_operator, string}
use Rattle.mini_terms.specs.Reading.{is_typed_by_value}
use Rattle.mini_rows.specs.Spellings.{void_zero, strict_operator}

abbrev pub is_typeof : Option UnaryOperator → Bool
is_typeof (Some Typeof) = true
is_typeof _ = false

abbrev pub is_undefined_text : Option (List ℕ) → Bool
is_undefined_text (Some s) = same_text s (codes "undefined")
is_undefined_text None = false

-- `typeof a`, of what it reads by its value
abbrev pub is_typeof_value : Tree → Bool
is_typeof_value t = is_typeof (unary_operator t) && is_typed_by_value (part t 0)

-- the operator that is written for one of the four equalities
abbrev pub strict_of : BinaryOperator → Option BinaryOperator
strict_of o = if is_equality o then Some (strict_operator o) else None

abbrev pub strict_in : Option BinaryOperator → Bool → Option BinaryOperator
strict_in (Some o) true = strict_of o
strict_in _ _ = None

abbrev pub strict : Tree → Option BinaryOperator
strict t = strict_in (binary_operator t) (is_typeof_value (part t 0) && is_undefined_text (string (part t 1)))

abbrev pub written_by : Option BinaryOperator → Tree → Option Tree
written_by (Some o) a = Some (binary o a void_zero)
written_by None a = None

abbrev pub written : Tree → Option Tree
written t = written_by (strict t) (part (part t 0) 0)
