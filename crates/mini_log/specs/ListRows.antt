-- The rows of a log on a statement in its list, or in a branch or a body: 61, 66 and 79. A form is
-- told the list, or the statement around, and the index of what the row is named by.
use Rattle.std.specs.Prelude.{ℕ, zero, suc, Bool, true, false, not, ◌&&◌, nat_le, nat_eq, Option, Some, None, option_map, option_and_then, if◌then◌else◌}
use Rattle.mini_model.specs.declared.kind.VariableDeclarationKind.TheVariants.{Let}
use Rattle.mini_model.specs.declared.place.Position.{Position}
use Rattle.mini_model.specs.declared.place.Position.TheVariants.{StatementList, BodyList}
use Rattle.mini_model.specs.declared.shape.Shape.{Shape}
use Rattle.mini_model.specs.declared.shape.Shape.TheVariants as shape
use Rattle.mini_model.specs.Paths.{append}
use Rattle.mini_model.specs.Tree.{Tree, Trees, none, ◌▸◌, count, shape_of, children, listed, absent, is_absent, expression_statement}
use Rattle.mini_node.specs.Children.{part, with_part, is_bare}
use Rattle.mini_node.specs.Kinds.{sequence, is_listed, is_named_leaf, is_sequence, is_expression_statement, is_empty_statement, is_block, is_if_shape}
use Rattle.mini_rows.specs.Lists.{is_unscoped, are_unscoped, is_one_part}
use Rattle.mini_log.specs.Terms.{when, is_undefined}
use Rattle.mini_log.specs.Walk.{spot}

-- ---- lists

abbrev pub is_statements : Position → Bool
is_statements StatementList = true
is_statements BodyList = true
is_statements _ = false

-- from the statement of this index on, what g makes of the rest
abbrev pub within : (Trees → Option Trees) → Trees → ℕ → Option Trees
within g ts zero = g ts
within g none (suc i) = None
within g (t ▸ ts) (suc i) = option_map (λ us. t ▸ us) (within g ts i)

-- the list of statements that is made of this one
abbrev pub in_list : (Trees → Option Trees) → Position → Tree → ℕ → Option Tree
in_list g p t i = option_and_then (λ us. when (is_statements p && is_listed t) (listed us)) (within g (children t) i)

-- the first of some trees for another
abbrev pub first_by : (Tree → Option Tree) → Trees → Option Trees
first_by f none = None
first_by f (t ▸ ts) = option_map (λ u. u ▸ ts) (f t)

-- ---- 61

abbrev pub is_binding_shape : Shape → Bool
is_binding_shape shape.BindingIdentifier = true
is_binding_shape _ = false

abbrev pub is_declarator_shape : Shape → Bool
is_declarator_shape shape.VariableDeclarator = true
is_declarator_shape _ = false

abbrev pub is_let_shape : Shape → Bool
is_let_shape (shape.VariableDeclaration Let) = true
is_let_shape _ = false

abbrev pub is_export_shape : Shape → Bool
is_export_shape shape.ExportNamedDeclaration = true
is_export_shape _ = false

abbrev pub is_for_shape : Shape → Bool
is_for_shape shape.ForStatement = true
is_for_shape _ = false

-- `x = undefined`, of a plain name
abbrev pub begins_undefined : Tree → Bool
begins_undefined d = is_declarator_shape (shape_of d) && (is_bare d 2 && ((is_binding_shape (shape_of (part d 0)) && is_named_leaf (part d 0)) && is_undefined (part d 1)))

-- the first such declarator without its initializer
abbrev pub bared : Trees → Option Trees
bared none = None
bared (d ▸ ds) = if begins_undefined d then Some (with_part d 1 absent ▸ ds) else option_map (λ us. d ▸ us) (bared ds)

abbrev pub is_let : Tree → Bool
is_let t = is_let_shape (shape_of t) && (is_bare t 1 && is_listed (part t 0))

-- 61: `let x = undefined` becomes `let x`
abbrev pub bare_let : Tree → Option Tree
bare_let t = option_and_then (λ ds. when (is_let t) (with_part t 0 (listed ds))) (bared (children (part t 0)))

-- 61, in an export: the declaration is its first child
abbrev pub bare_export : Tree → Option Tree
bare_export t = option_and_then (λ d. when (is_export_shape (shape_of t) && is_bare t 3) (with_part t 0 d)) (bare_let (part t 0))

-- 61, in the head of a `for`
abbrev pub bare_head : Tree → ℕ → Option Tree
bare_head t i = option_and_then (λ d. when (nat_eq (spot (children t) i) 0 && (is_for_shape (shape_of t) && is_bare t 4)) (with_part t 0 d)) (bare_let (part t 0))

-- ---- 66

-- 66: an empty statement goes
abbrev pub gone : Trees → Option Trees
gone none = None
gone (t ▸ ts) = if is_empty_statement t then Some ts else None

-- the parts of an expression that is joined to another, if it is a sequence of them
abbrev pub parts : Tree → Trees
parts e = if is_sequence e then children (part e 0) else e ▸ none

-- an expression of parts: a sequence of two at least, or one that is no sequence. An inner
-- expression and a declaration stand in no expression statement
abbrev pub has_parts : Tree → Bool
has_parts e = if is_sequence e then nat_le 2 (count (children (part e 0))) else is_one_part e

abbrev pub is_joinable : Tree → Bool
is_joinable t = is_expression_statement t && has_parts (part t 0)

-- 66, with `sequences`: `a; b;` becomes `a, b;`
abbrev pub joined : Bool → Trees → Option Trees
joined sequences (t ▸ (u ▸ ts)) = if sequences && (is_joinable t && is_joinable u) then Some (expression_statement (sequence (append (parts (part t 0)) (parts (part u 0)))) ▸ ts) else None
joined sequences ts = None

-- ---- 79

-- 79: a block without Scoped statements is spread in its list
abbrev pub spread : Trees → Option Trees
spread none = None
spread (t ▸ ts) = if is_block t && are_unscoped (children (part t 0)) then Some (append (children (part t 0)) ts) else None

-- the child at an index is a branch or a body: of `if`, `while`, `do`, `for`, `for..in`, `for..of`
abbrev pub is_branch : Shape → ℕ → Bool
is_branch shape.IfStatement (suc zero) = true
is_branch shape.IfStatement (suc (suc zero)) = true
is_branch shape.WhileStatement (suc zero) = true
is_branch shape.DoWhileStatement zero = true
is_branch shape.ForStatement (suc (suc (suc zero))) = true
is_branch shape.ForInStatement (suc (suc zero)) = true
is_branch shape.ForOfStatement (suc (suc zero)) = true
is_branch h i = false

-- how many children such a statement has
abbrev pub arity : Shape → ℕ
arity shape.WhileStatement = 2
arity shape.DoWhileStatement = 2
arity shape.ForStatement = 4
arity h = 3

-- an `if` with `else`
abbrev pub has_else : Tree → Bool
has_else t = is_if_shape (shape_of t) && not (is_absent (part t 2))

abbrev pub is_consequent : Shape → ℕ → Bool
is_consequent shape.IfStatement (suc zero) = true
is_consequent h i = false

-- it may stand there without a block: it isn't Scoped, and as a consequent no `if` with `else`
abbrev pub stands_bare : Shape → ℕ → Tree → Bool
stands_bare h i t = is_unscoped t && not (is_consequent h i && has_else t)

abbrev pub only : Trees → Option Tree
only (t ▸ none) = Some t
only ts = None

abbrev pub unwrapped_by : Tree → ℕ → Tree → Option Tree
unwrapped_by t i u = when ((is_branch (shape_of t) i && is_bare t (arity (shape_of t))) && (is_block (part t i) && stands_bare (shape_of t) i u)) (with_part t i u)

-- of the child at an index
abbrev pub unwrapped_at : Tree → ℕ → Option Tree
unwrapped_at t i = option_and_then (unwrapped_by t i) (only (children (part (part t i) 0)))

-- 79: a block of one such statement becomes it
abbrev pub unwrapped : Tree → ℕ → Option Tree
unwrapped t i = unwrapped_at t (spot (children t) i)
