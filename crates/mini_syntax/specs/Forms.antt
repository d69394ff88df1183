-- Tests of expressions that several rewrites ask.
use Rattle.std.specs.Prelude.{ℕ, Bool, true, false, ◌&&◌, ◌||◌, List, [], ◌∷◌, Option, Some, None, is_none, codes, nat_eq, ℤ}
use Rattle.mini_model.specs.declared.name.Name.{Name}
use Rattle.mini_model.specs.declared.operator.UnaryOperator.{UnaryOperator}
use Rattle.mini_model.specs.declared.operator.UnaryOperator.TheVariants.{Void}
use Rattle.mini_model.specs.declared.shape.Shape.{Shape}
use Rattle.mini_model.specs.declared.shape.Shape.TheVariants as shape
use Rattle.mini_model.specs.Tree.{Tree, shape_of, children, count}
use Rattle.mini_model.specs.Weight.{same_text, is_zero_number}
use Rattle.mini_node.specs.Children.{part, is_bare, names_of}
use Rattle.mini_node.specs.Kinds.{number, unary_operator, is_identifier, is_listed_shape}

-- the first of two that is there
abbrev pub first_of : {A : Type 0} → Option A → Option A → Option A
first_of (Some a) b = Some a
first_of None b = b

abbrev pub is_zero_value : Option ℤ → Bool
is_zero_value (Some n) = is_zero_number n
is_zero_value None = false

-- `0`
abbrev pub is_zero : Tree → Bool
is_zero t = is_zero_value (number t)

abbrev pub is_void : Option UnaryOperator → Bool
is_void (Some Void) = true
is_void _ = false

-- `void 0`
abbrev pub is_void_zero : Tree → Bool
is_void_zero t = is_void (unary_operator t) && is_zero (part t 0)

-- the name `undefined`, which no scope declares
abbrev pub is_undefined_name : List Name → Bool
is_undefined_name (x ∷ []) = is_none x.symbol && same_text x.spelling (codes "undefined")
is_undefined_name _ = false

abbrev pub is_global_undefined : Tree → Bool
is_global_undefined t = is_identifier t && is_undefined_name (names_of t)

-- `undefined` or `void 0`
abbrev pub is_undefined : Tree → Bool
is_undefined t = is_void_zero t || is_global_undefined t

abbrev pub is_literal_shape : Shape → Bool
is_literal_shape (shape.NumericLiteral n) = true
is_literal_shape (shape.StringLiteral s) = true
is_literal_shape (shape.BooleanLiteral b) = true
is_literal_shape shape.NullLiteral = true
is_literal_shape (shape.BigIntLiteral n) = true
is_literal_shape _ = false

-- a literal other than a regular expression
abbrev pub is_literal : Tree → Bool
is_literal t = is_literal_shape (shape_of t) && is_bare t 0

abbrev pub is_cooked_shape : Shape → Bool
is_cooked_shape (shape.TemplateElement is_tail raw (Some cooked)) = true
is_cooked_shape _ = false

-- a piece of a template that is well formed
abbrev pub is_cooked : Tree → Bool
is_cooked t = is_cooked_shape (shape_of t) && is_bare t 0

-- a list of so many items
abbrev pub is_list_of : ℕ → Tree → Bool
is_list_of n t = is_listed_shape (shape_of t) && is_bare t n

abbrev pub is_template_shape : Shape → Bool
is_template_shape shape.TemplateLiteral = true
is_template_shape _ = false

-- a template without expressions
abbrev pub is_text_template : Tree → Bool
is_text_template t = is_template_shape (shape_of t) && (is_bare t 2 && (is_list_of 1 (part t 0) && (is_list_of 0 (part t 1) && is_cooked (part (part t 0) 0))))

-- a value that is written out
abbrev pub is_plain : Tree → Bool
is_plain t = is_literal t || (is_text_template t || is_void_zero t)

-- Keys in brackets

abbrev pub is_inner_shape : Shape → Bool
is_inner_shape shape.InnerExpression = true
is_inner_shape _ = false

abbrev pub is_unnamed : List Name → Bool
is_unnamed [] = true
is_unnamed (x ∷ xs) = false

-- an inner expression
abbrev pub is_inner : Tree → Bool
is_inner k = is_inner_shape (shape_of k) && (is_unnamed (names_of k) && nat_eq (count (children k)) 1)

-- what stands in the brackets of a key
abbrev pub bracketed_key : Tree → Tree
bracketed_key t = part (part t 0) 0
