-- Tests of expressions that several rows of a log ask.
use Rattle.std.specs.Prelude.{ℕ, Bool, true, false, not, ◌&&◌, ◌||◌, nat_eq, List, [], ◌∷◌, codes, Option, Some, None, is_none, ℤ}
use Rattle.mini_model.specs.declared.name.Name.{Name}
use Rattle.mini_model.specs.declared.operator.AssignmentOperator.{AssignmentOperator}
use Rattle.mini_model.specs.declared.operator.AssignmentOperator.TheVariants as assigning
use Rattle.mini_model.specs.declared.operator.UnaryOperator.{UnaryOperator}
use Rattle.mini_model.specs.declared.operator.UnaryOperator.TheVariants.{Typeof, Void}
use Rattle.mini_model.specs.declared.shape.Shape.{Shape}
use Rattle.mini_model.specs.declared.shape.Shape.TheVariants as shape
use Rattle.mini_model.specs.Tree.{Tree, Trees, shape_of, children, count}
use Rattle.mini_model.specs.Weight.{same_text, is_zero_number}
use Rattle.mini_node.specs.Children.{part, is_bare, names_of}
use Rattle.mini_node.specs.Kinds.{number, unary_operator, is_identifier, is_listed_shape}

-- what is written, where the test holds
abbrev pub when : Bool → Tree → Option Tree
when true w = Some w
when false w = None

-- ---- operators

abbrev pub is_void : Option UnaryOperator → Bool
is_void (Some Void) = true
is_void _ = false

abbrev pub is_typeof : Option UnaryOperator → Bool
is_typeof (Some Typeof) = true
is_typeof _ = false

abbrev pub is_assign : Option AssignmentOperator → Bool
is_assign (Some assigning.Assign) = true
is_assign o = false

-- ---- texts

-- a text in quotes, and this one
abbrev pub is_text : List ℕ → Option (List ℕ) → Bool
is_text r (Some s) = same_text s r
is_text r None = false

-- ---- undefined

abbrev pub is_zero_value : Option ℤ → Bool
is_zero_value (Some n) = is_zero_number n
is_zero_value None = false

-- `void 0`
abbrev pub is_void_zero : Tree → Bool
is_void_zero t = is_void (unary_operator t) && is_zero_value (number (part t 0))

-- a name that no scope declares
abbrev pub is_free_name : List Name → Bool
is_free_name (x ∷ []) = is_none x.symbol
is_free_name xs = false

-- a name of this spelling
abbrev pub is_spelled : List ℕ → List Name → Bool
is_spelled s (x ∷ xs) = same_text x.spelling s
is_spelled s [] = false

-- a name that no scope declares, as an expression
abbrev pub is_unresolved : Tree → Bool
is_unresolved t = is_identifier t && is_free_name (names_of t)

-- the name `undefined`, which no scope declares
abbrev pub is_undefined_name : Tree → Bool
is_undefined_name t = is_unresolved t && is_spelled (codes "undefined") (names_of t)

-- that name or `void 0`
abbrev pub is_undefined : Tree → Bool
is_undefined t = is_undefined_name t || is_void_zero t

-- ---- Plain: what writes a value out

abbrev pub is_literal_shape : Shape → Bool
is_literal_shape (shape.NumericLiteral n) = true
is_literal_shape (shape.StringLiteral s) = true
is_literal_shape (shape.BooleanLiteral b) = true
is_literal_shape shape.NullLiteral = true
is_literal_shape (shape.BigIntLiteral n) = true
is_literal_shape _ = false

-- a literal other than a regular expression
abbrev pub is_literal : Tree → Bool
is_literal t = is_literal_shape (shape_of t) && is_bare t 0

abbrev pub is_cooked_shape : Shape → Bool
is_cooked_shape (shape.TemplateElement is_tail raw (Some cooked)) = true
is_cooked_shape _ = false

-- a piece of a template that is well formed
abbrev pub is_cooked : Tree → Bool
is_cooked t = is_cooked_shape (shape_of t) && is_bare t 0

-- a list of so many items
abbrev pub is_list_of : ℕ → Tree → Bool
is_list_of n t = is_listed_shape (shape_of t) && is_bare t n

abbrev pub is_template_shape : Shape → Bool
is_template_shape shape.TemplateLiteral = true
is_template_shape _ = false

-- a template without expressions
abbrev pub is_text_template : Tree → Bool
is_text_template t = is_template_shape (shape_of t) && (is_bare t 2 && (is_list_of 1 (part t 0) && (is_list_of 0 (part t 1) && is_cooked (part (part t 0) 0))))

-- a literal, such a template, or `void 0`
abbrev pub is_plain : Tree → Bool
is_plain t = is_literal t || (is_text_template t || is_void_zero t)

-- the items of a list, if it is one
abbrev pub items_by : Shape → Trees → ℕ
items_by shape.Listed ts = count ts
items_by _ ts = 0

abbrev pub is_zero_shape : Shape → Bool
is_zero_shape (shape.NumericLiteral n) = is_zero_number n
is_zero_shape _ = false

-- what weighs more on the left of an equality: what is Plain by its shape, or a sequence. An inner
-- expression stands in no operand
abbrev pub is_awkward_by : Shape → Tree → Bool
is_awkward_by (shape.NumericLiteral n) t = true
is_awkward_by (shape.StringLiteral s) t = true
is_awkward_by (shape.BooleanLiteral b) t = true
is_awkward_by shape.NullLiteral t = true
is_awkward_by (shape.BigIntLiteral n) t = true
is_awkward_by shape.TemplateLiteral t = nat_eq (items_by (shape_of (part t 1)) (children (part t 1))) 0
is_awkward_by (shape.UnaryExpression Void) t = is_zero_shape (shape_of (part t 0))
is_awkward_by shape.SequenceExpression t = true
is_awkward_by shape.InnerExpression t = true
is_awkward_by _ t = false

-- it weighs as much on the left of an equality as on the right
abbrev pub is_ready : Tree → Bool
is_ready t = not (is_awkward_by (shape_of t) t)
