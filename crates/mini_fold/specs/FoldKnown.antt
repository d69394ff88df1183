-- The rewrites on what is known of an expression from its text: 12, 13 and 15 of logical
-- expressions, 28 of equalities, 49 of conditionals whose test is effect-free, 9 of the lengths of
-- texts, and 22 of expression statements and of the head of a `for`.
use Rattle.std.specs.Prelude.{◌≡◌, Bool, false, not, ◌&&◌, Option, Some, None, if◌then◌else◌}
use Rattle.mini_model.specs.declared.operator.LogicalOperator.{LogicalOperator}
use Rattle.mini_model.specs.declared.place.Position.{Position}
use Rattle.mini_model.specs.declared.place.Position.TheVariants.{Expr, Stmt}
use Rattle.mini_model.specs.declared.seat.Seat.{Seat}
use Rattle.mini_model.specs.declared.seat.StmtSeat.{StmtSeat}
use Rattle.mini_model.specs.declared.shape.Shape.{Shape}
use Rattle.mini_model.specs.declared.shape.Shape.TheVariants as shape
use Rattle.mini_model.specs.Tree.{Tree, shape_of, empty_statement}
use Rattle.mini_node.specs.Children.{part}
use Rattle.mini_node.specs.Equal.{same_tree}
use Rattle.mini_node.specs.Kinds.{logical_operator, is_conditional, is_expression_statement}
use Rattle.mini_terms.specs.Folds.{is_effect_free, goes_on, stops}
use Rattle.mini_terms.specs.Parts.{suits, leaves_nothing, weighs}
use Rattle.mini_rows.specs.Folding.{names_exports, FoldingRow, FoldingContracts}
use Rattle.mini_rows.specs.Lists.{encloses}
use Rattle.mini_fold.specs.FoldStaticMember as member
use Rattle.mini_fold.specs.MinimizeBinary as equality
use Rattle.mini_fold.specs.RemoveIdleHead as head

-- the left side goes: it is effect-free, and the right one is evaluated after it
abbrev pub is_passed : Seat → LogicalOperator → Tree → Tree → Bool
is_passed s o a b = goes_on o a && (is_effect_free a && (leaves_nothing a && (weighs a && suits s b)))

-- the right side goes: it is never evaluated
abbrev pub is_stopped : Seat → LogicalOperator → Tree → Tree → Bool
is_stopped s o a b = stops o a && (not (names_exports o b) && (encloses false b && (weighs b && suits s a)))

abbrev pub side : Bool → Bool → Tree → Tree → Option Tree
side passed stopped a b = if passed then Some b else (if stopped then Some a else None)

abbrev pub logical_written : Seat → Option LogicalOperator → Tree → Tree → Option Tree
logical_written s (Some o) a b = side (is_passed s o a b) (is_stopped s o a b) a b
logical_written s None a b = None

-- what is written for a logical expression
abbrev pub folded : Seat → Tree → Option Tree
folded s t = logical_written s (logical_operator t) (part t 0) (part t 1)

-- the test goes: it is effect-free, and both branches are the same
abbrev pub is_idle_test : Seat → Tree → Tree → Tree → Bool
is_idle_test s a b c = same_tree b c && (is_effect_free a && (leaves_nothing a && (weighs a && suits s b)))

abbrev pub chooses_nothing : Seat → Tree → Bool
chooses_nothing s t = is_conditional t && is_idle_test s (part t 0) (part t 1) (part t 2)

-- what is written for a conditional
abbrev pub branch_written : Seat → Tree → Option Tree
branch_written s t = if chooses_nothing s t then Some (part t 1) else None

abbrev pub written_by : Shape → Seat → Tree → Option Tree
written_by (shape.LogicalExpression o) s t = folded s t
written_by (shape.BinaryExpression o) s t = equality.written t
written_by shape.ConditionalExpression s t = branch_written s t
written_by (shape.StaticMemberExpression is_optional) s t = member.written s t
written_by _ s t = None

-- what is written for an expression
abbrev pub written : Seat → Tree → Option Tree
written s t = written_by (shape_of t) s t

abbrev pub does_nothing : Tree → Bool
does_nothing t = is_expression_statement t && (is_effect_free (part t 0) && leaves_nothing (part t 0))

-- and for an expression statement
abbrev pub expression_written : Tree → Option Tree
expression_written t = if does_nothing t then Some empty_statement else None

abbrev pub statement_by : Shape → Tree → Option Tree
statement_by shape.ExpressionStatement t = expression_written t
statement_by shape.ForStatement t = head.written t
statement_by _ t = None

-- and for a statement
abbrev pub statement_written : Tree → Option Tree
statement_written t = statement_by (shape_of t) t

-- what the rule makes
abbrev pub Gives : Position → Tree → Tree → Type 0
Gives = FoldingContracts

-- no row reads it as anything
abbrev pub Rests : Position → Tree → Type 0
Rests p n = (w : Tree) → FoldingRow p n w → ⊥

-- what is written is what a row says
abbrev pub WrittenIsRow : Type 0
WrittenIsRow = (s : Seat) (n w : Tree) → written s n ≡ Some w → FoldingRow (Expr s) n w

abbrev pub StatementIsRow : Type 0
StatementIsRow = (q : StmtSeat) (n w : Tree) → statement_written n ≡ Some w → FoldingRow (Stmt q) n w

-- and where nothing is written no row reads the node
abbrev pub UnwrittenRests : Type 0
UnwrittenRests = (s : Seat) (n : Tree) → written s n ≡ None → Rests (Expr s) n

abbrev pub StatementRests : Type 0
StatementRests = (q : StmtSeat) (n : Tree) → statement_written n ≡ None → Rests (Stmt q) n
