-- 33, `convert_to_dotted_properties`: `o["x"]` becomes `o.x`, `o["1"]` becomes `o[1]`, also where
-- it is assigned to or updated.
use Rattle.std.specs.Prelude.{Bool, false, ◌&&◌, List, [], ℕ, Option, Some, None, ℤ, if◌then◌else◌}
use Rattle.mini_model.specs.Texts.{is_identifier_name}
use Rattle.mini_model.specs.Numerals.{safe_number}
use Rattle.mini_model.specs.declared.operator.AssignmentOperator.{AssignmentOperator}
use Rattle.mini_model.specs.declared.operator.UpdateOperator.{UpdateOperator}
use Rattle.mini_model.specs.declared.shape.Shape.{Shape}
use Rattle.mini_model.specs.declared.shape.Shape.TheVariants as shape
use Rattle.mini_model.specs.Tree.{Tree, shape_of}
use Rattle.mini_node.specs.Children.{part, is_bare}
use Rattle.mini_node.specs.Kinds.{carried, string, is_computed_member, assignment_operator}
use Rattle.mini_rows.specs.Spellings.{numeral, key, static_member, computed_member, assignment, update}

-- a text that is an identifier's name
abbrev pub is_name_text : Option (List ℕ) → Bool
is_name_text (Some s) = is_identifier_name s
is_name_text None = false

-- the number that a text writes
abbrev pub number_of_text : Option (List ℕ) → Option ℤ
number_of_text (Some s) = safe_number s
number_of_text None = None

abbrev pub optional_in : Shape → Option Bool
optional_in (shape.ComputedMemberExpression is_optional) = Some is_optional
optional_in _ = None

-- `o["x"]`: whether it is optional
abbrev pub named_member : Tree → Option Bool
named_member t = carried (optional_in (shape_of t)) (is_bare t 2 && is_name_text (string (part t 1)))

-- `o["1"]`: the number
abbrev pub numbered_member : Tree → Option ℤ
numbered_member t = if is_computed_member t then number_of_text (string (part t 1)) else None

abbrev pub text_in : Shape → List ℕ
text_in (shape.StringLiteral s) = s
text_in _ = []

-- the name that a text in quotes is
abbrev pub as_name : Tree → Tree
as_name t = key (text_in (shape_of t))

abbrev pub dotted : Bool → Tree → Tree
dotted is_optional t = static_member is_optional (part t 0) (as_name (part t 1))

abbrev pub numbered : ℤ → Tree → Tree
numbered n t = computed_member false (part t 0) (numeral n)

abbrev pub turned_by : Option Bool → Option ℤ → Tree → Option Tree
turned_by (Some is_optional) n t = Some (dotted is_optional t)
turned_by None (Some n) t = Some (numbered n t)
turned_by None None t = None

-- of the member itself
abbrev pub turned : Tree → Option Tree
turned t = turned_by (named_member t) (numbered_member t) t

abbrev pub assigned_by : Option AssignmentOperator → Option Tree → Tree → Option Tree
assigned_by (Some o) (Some m) t = Some (assignment o m (part t 1))
assigned_by _ _ t = None

-- of an assignment to it
abbrev pub assigned : Tree → Option Tree
assigned t = assigned_by (assignment_operator t) (turned (part t 0)) t

abbrev pub update_in : Shape → Option (UpdateOperator × Bool)
update_in (shape.UpdateExpression o is_prefix) = Some (o, is_prefix)
update_in _ = None

-- the operator of an update, and whether it stands before its operand
abbrev pub update_operator : Tree → Option (UpdateOperator × Bool)
update_operator t = carried (update_in (shape_of t)) (is_bare t 1)

abbrev pub updated_by : Option (UpdateOperator × Bool) → Option Tree → Option Tree
updated_by (Some o) (Some m) = Some (update o.0 o.1 m)
updated_by _ _ = None

-- of an update of it
abbrev pub updated : Tree → Option Tree
updated t = updated_by (update_operator t) (turned (part t 0))

abbrev pub written_by : Shape → Tree → Option Tree
written_by (shape.ComputedMemberExpression is_optional) t = turned t
written_by (shape.AssignmentExpression o) t = assigned t
written_by (shape.UpdateExpression o is_prefix) t = updated t
written_by _ t = None

abbrev pub written : Tree → Option Tree
written t = written_by (shape_of t) t
