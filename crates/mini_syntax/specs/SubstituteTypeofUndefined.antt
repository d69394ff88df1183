-- 55, `substitute_typeof_undefined`: `typeof x == "undefined"` becomes `typeof x > "u"`, of a name
-- that no scope declares, and of an inequality `typeof x < "u"`; of another operand it becomes
-- `x === void 0`.
use Rattle.std.specs.Prelude.{Bool, true, false, ◌&&◌, List, [], ◌∷◌, Option, Some, None, is_none, codes, if◌then◌else◌}
use Rattle.mini_model.specs.declared.name.Name.{Name}
use Rattle.mini_model.specs.declared.operator.BinaryOperator.{BinaryOperator}
use Rattle.mini_model.specs.Position.{is_equality}
use Rattle.mini_model.specs.Tree.{Tree}
use Rattle.mini_node.specs.Children.{part, names_of}
use Rattle.mini_node.specs.Kinds.{binary, binary_operator, unary_operator, is_identifier, string}
use Rattle.mini_rows.specs.Spellings.{text, ordered}
use Rattle.mini_syntax.specs.SubstituteTypeofValue as value
use Rattle.mini_syntax.specs.SubstituteTypeofValue.{is_typeof, is_undefined_text}

-- a name that no scope declares
abbrev pub is_unresolved_name : List Name → Bool
is_unresolved_name (x ∷ []) = is_none x.symbol
is_unresolved_name _ = false

abbrev pub is_unresolved : Tree → Bool
is_unresolved t = is_identifier t && is_unresolved_name (names_of t)

-- `typeof x`, of such a name
abbrev pub is_typeof_name : Tree → Bool
is_typeof_name t = is_typeof (unary_operator t) && is_unresolved (part t 0)

-- the operator that is written for one of the four equalities
abbrev pub order_of : BinaryOperator → Option BinaryOperator
order_of o = if is_equality o then Some (ordered o) else None

abbrev pub order_in : Option BinaryOperator → Bool → Option BinaryOperator
order_in (Some o) true = order_of o
order_in _ _ = None

abbrev pub order : Tree → Option BinaryOperator
order t = order_in (binary_operator t) (is_typeof_name (part t 0) && is_undefined_text (string (part t 1)))

abbrev pub written_by : Option BinaryOperator → Tree → Option Tree → Option Tree
written_by (Some o) a other = Some (binary o a (text (codes "u")))
written_by None a other = other

abbrev pub written : Tree → Option Tree
written t = written_by (order t) (part t 0) (value.written t)
