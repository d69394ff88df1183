-- Forms of JavaScript that came with an edition of ECMA-262 after that of 2015, and what it is for
-- one program to hold no newer form than another.
use Rattle.std.specs.Prelude.{◌≡◌, ◌<◌, ℕ, Bool, true, false, ◌||◌, Option, Some, None}
use Rattle.mini_model.specs.declared.operator.AssignmentOperator.{AssignmentOperator}
use Rattle.mini_model.specs.declared.operator.AssignmentOperator.TheVariants as assigning
use Rattle.mini_model.specs.declared.operator.BinaryOperator.{BinaryOperator}
use Rattle.mini_model.specs.declared.operator.BinaryOperator.TheVariants as binary_operator
use Rattle.mini_model.specs.declared.operator.LogicalOperator.{LogicalOperator}
use Rattle.mini_model.specs.declared.operator.LogicalOperator.TheVariants as logical_operator
use Rattle.mini_model.specs.declared.shape.Shape.{Shape}
use Rattle.mini_model.specs.declared.shape.Shape.TheVariants as shape
use Rattle.mini_model.specs.Tree.{Tree, Trees, node, none, ◌▸◌, is_absent}

-- `**` and `**=`; `catch` without a parameter; `??`; a chain, `a?.b`; and `&&=`, `||=` or `??=`
pub data Form : Type 0 where
  Exponentiation : Form
  BareCatch : Form
  Coalescing : Form
  Chaining : Form
  Deciding : LogicalOperator → Form

-- the edition that each came with
abbrev pub year : Form → ℕ
year Exponentiation = 2016
year BareCatch = 2019
year Coalescing = 2020
year Chaining = 2020
year (Deciding o) = 2021

abbrev pub is_same_logical : LogicalOperator → LogicalOperator → Bool
is_same_logical logical_operator.Or logical_operator.Or = true
is_same_logical logical_operator.And logical_operator.And = true
is_same_logical logical_operator.Coalesce logical_operator.Coalesce = true
is_same_logical o p = false

abbrev pub is_same_form : Form → Form → Bool
is_same_form Exponentiation Exponentiation = true
is_same_form BareCatch BareCatch = true
is_same_form Coalescing Coalescing = true
is_same_form Chaining Chaining = true
is_same_form (Deciding o) (Deciding p) = is_same_logical o p
is_same_form f g = false

-- the form that a `catch` is, by whether what it catches has no name or pattern
abbrev pub form_of_bare : Bool → Option Form
form_of_bare true = Some BareCatch
form_of_bare false = None

abbrev pub form_of_catch : Trees → Option Form
form_of_catch none = None
form_of_catch (t ▸ ts) = form_of_bare (is_absent t)

-- that an operator is, and one that assigns
abbrev pub form_of_binary : BinaryOperator → Option Form
form_of_binary binary_operator.Exponential = Some Exponentiation
form_of_binary o = None

abbrev pub form_of_logical : LogicalOperator → Option Form
form_of_logical logical_operator.Coalesce = Some Coalescing
form_of_logical o = None

abbrev pub form_of_assignment : AssignmentOperator → Option Form
form_of_assignment assigning.Exponential = Some Exponentiation
form_of_assignment assigning.LogicalOr = Some (Deciding logical_operator.Or)
form_of_assignment assigning.LogicalAnd = Some (Deciding logical_operator.And)
form_of_assignment assigning.LogicalNullish = Some (Deciding logical_operator.Coalesce)
form_of_assignment o = None

-- the form that a node is, if it is one
abbrev pub form_of : Shape → Trees → Option Form
form_of (shape.BinaryExpression o) ts = form_of_binary o
form_of (shape.AssignmentExpression o) ts = form_of_assignment o
form_of (shape.LogicalExpression o) ts = form_of_logical o
form_of shape.ChainExpression ts = Some Chaining
form_of shape.CatchClause ts = form_of_catch ts
form_of h ts = None

abbrev pub is_form : Form → Option Form → Bool
is_form f (Some g) = is_same_form f g
is_form f None = false

-- the form stands in the tree
abbrev mutual
  pub has_form : Form → Tree → Bool
  has_form f (node h xs n ts) = is_form f (form_of h ts) || any_has_form f ts

  pub any_has_form : Form → Trees → Bool
  any_has_form f none = false
  any_has_form f (t ▸ ts) = has_form f t || any_has_form f ts

-- each form newer than this edition that stands in the later tree stood in the earlier one
abbrev pub IsWithinEdition : ℕ → Tree → Tree → Type 0
IsWithinEdition edition earlier later = (f : Form) → edition < year f → has_form f later ≡ true → has_form f earlier ≡ true
