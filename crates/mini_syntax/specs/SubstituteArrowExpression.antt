-- 59, `substitute_arrow_expression`: `() => { return a; }` becomes `() => a`.
use Rattle.std.specs.Prelude.{ℕ, ◌&&◌, Bool, true, false, not, List, [], ◌∷◌, Option, Some, None, if◌then◌else◌}
use Rattle.mini_model.specs.declared.place.Position.{Position}
use Rattle.mini_model.specs.declared.place.Position.TheVariants.{Expr}
use Rattle.mini_model.specs.declared.name.Name.{Name}
use Rattle.mini_model.specs.declared.shape.Shape.{Shape}
use Rattle.mini_model.specs.declared.shape.Shape.TheVariants as shape
use Rattle.mini_model.specs.Tree.{Tree, Trees, none, ◌▸◌, shape_of, children}
use Rattle.mini_node.specs.Children.{part, is_bare, names_of, like, with_child}
use Rattle.mini_node.specs.Kinds.{is_return_statement}
use Rattle.mini_rows.specs.Arrows.{Row59, ArrowContracts}
use Rattle.mini_syntax.specs.Forms.{is_list_of}

abbrev pub are_none : List (List ℕ) → Bool
are_none [] = true
are_none (d ∷ ds) = false

-- an arrow function without directives
abbrev pub is_plain_arrow : Shape → Bool
is_plain_arrow (shape.ArrowFunctionExpression ds) = are_none ds
is_plain_arrow _ = false

abbrev pub is_body_shape : Shape → Bool
is_body_shape shape.FunctionBody = true
is_body_shape _ = false

abbrev pub is_absent_shape : Shape → Bool
is_absent_shape shape.Absent = true
is_absent_shape _ = false

abbrev pub are_no_names : List Name → Bool
are_no_names [] = true
are_no_names (x ∷ xs) = false

abbrev pub are_two : Trees → Bool
are_two (t ▸ (u ▸ none)) = true
are_two _ = false

-- what a body that is one `return` returns
abbrev pub returned : Tree → Tree
returned t = part (part (part t 0) 0) 0

-- `{ return a; }`, as a body
abbrev pub returns : Tree → Bool
returns t = is_body_shape (shape_of t) && (is_bare t 1 && (is_list_of 1 (part t 0) && (is_return_statement (part (part t 0) 0) && not (is_absent_shape (shape_of (returned t))))))

-- `() => { return a; }`
abbrev pub is_returning : Tree → Bool
is_returning t = is_plain_arrow (shape_of t) && (are_no_names (names_of t) && (are_two (children t) && returns (part t 1)))

-- `() => a`
abbrev pub unwrapped : Tree → Tree
unwrapped t = like t (with_child (children t) 1 (returned (part t 1)))

abbrev pub written : Tree → Option Tree
written t = if is_returning t then Some (unwrapped t) else None

-- what the rule makes
abbrev pub Gives : Position → Tree → Tree → Type 0
Gives = ArrowContracts

-- the row reads it as nothing
abbrev pub Rests : Position → Tree → Type 0
Rests (Expr s) n = (w : Tree) → Row59 n w → ⊥
Rests _ n = Unit {0}
