-- 50, `de_morgan_for_void_expr`: `!a && b;` becomes `a || b;`, and `!a || b;` `a && b;`, where that
-- is lighter; and so of what a `for` begins with or does after each turn, of the last part of a
-- sequence that stands in one of these places, and of a part of any sequence but the last.
use Rattle.std.specs.Prelude.{◌≡◌, ◌<◌, ◌^◌, ◌-◌, ℕ, Bool, false, not, ◌&&◌, ◌||◌, Option, Some, None, nat_lt, if◌then◌else◌}
use Rattle.mini_model.specs.declared.operator.LogicalOperator.{LogicalOperator}
use Rattle.mini_model.specs.declared.place.Position.{Position}
use Rattle.mini_model.specs.declared.place.Position.TheVariants.{Expr, Stmt}
use Rattle.mini_model.specs.declared.seat.StmtSeat.{StmtSeat}
use Rattle.mini_model.specs.Tree.{Tree, Trees, none, ◌▸◌, children, count, child_or_absent, logical}
use Rattle.mini_model.specs.Position.{is_and_or, statement_expression_seat, left_operand_seat}
use Rattle.mini_model.specs.Terms.{turned}
use Rattle.mini_model.specs.Weight.{weight, capped}
use Rattle.mini_node.specs.Children.{part, with_child, with_part}
use Rattle.mini_node.specs.Kinds.{logical_operator, is_logical, is_expression_statement, is_sequence, sequence}
use Rattle.mini_rows.specs.DeMorgan.{DeMorganContracts}
use Rattle.mini_logic.specs.MinimizeForStatement.{is_for}
use Rattle.mini_logic.specs.MinimizeNegation.{told_lightest}

-- the left side negated under the other operator
abbrev pub turned_over : LogicalOperator → Tree → Tree
turned_over o x = logical (turned o) (told_lightest (left_operand_seat (turned o) statement_expression_seat) (part x 0)) (part x 1)

-- which is lighter, and nothing is joined instead
abbrev pub turns : LogicalOperator → Tree → Bool
turns o x = (is_and_or o && not (is_logical o (part x 1))) && nat_lt (capped (weight (Expr statement_expression_seat) (turned_over o x))) (capped (weight (Expr statement_expression_seat) x))

abbrev pub turns_by : Option LogicalOperator → Tree → Bool
turns_by (Some o) x = turns o x
turns_by None x = false

abbrev pub is_turned : Tree → Bool
is_turned x = turns_by (logical_operator x) x

abbrev pub turned_by : Option LogicalOperator → Tree → Tree
turned_by (Some o) x = turned_over o x
turned_by None x = x

-- `b || c()` of `!b && c()`
abbrev pub turned_part : Tree → Tree
turned_part x = turned_by (logical_operator x) x

-- the parts with the one at a place turned
abbrev pub with_turned : ℕ → Trees → Trees
with_turned i ts = with_child ts i (turned_part (child_or_absent ts i))

-- the last of several parts of a sequence turns
abbrev pub turns_last : Tree → Bool
turns_last x = is_sequence x && (nat_lt 1 (count (children (part x 0))) && is_turned (child_or_absent (children (part x 0)) (count (children (part x 0)) - 1)))

-- `a(), b || c()` of `a(), !b && c()`
abbrev pub turned_last : Tree → Tree
turned_last x = sequence (with_turned (count (children (part x 0)) - 1) (children (part x 0)))

-- what nobody asks for turns, or its last part does
abbrev pub turns_void : Tree → Bool
turns_void x = turns_last x || is_turned x

abbrev pub turned_void : Tree → Tree
turned_void x = if turns_last x then turned_last x else turned_part x

-- ---- of a statement, and of the head of a `for`

-- what stands first in it is a value that nobody asks for
abbrev pub begins_void : Tree → Bool
begins_void t = is_expression_statement t || is_for t

abbrev pub turns_first : Tree → Bool
turns_first t = begins_void t && turns_void (part t 0)

-- so is what a `for` does after each turn
abbrev pub turns_third : Tree → Bool
turns_third t = is_for t && turns_void (part t 2)

-- with the part at this place turned
abbrev pub turned_at : ℕ → Tree → Tree
turned_at i t = with_part t i (turned_void (part t i))

abbrev pub written : Tree → Option Tree
written t = if turns_first t then Some (turned_at 0 t) else (if turns_third t then Some (turned_at 2 t) else None)

-- ---- of a part of a sequence but the last

-- one of them turns, and not the last
abbrev pub turns_before_last : Trees → Bool
turns_before_last none = false
turns_before_last (t ▸ none) = false
turns_before_last (t ▸ (u ▸ us)) = is_turned t || turns_before_last (u ▸ us)

-- what the rule makes
abbrev pub Gives : Position → Tree → Tree → Type 0
Gives = DeMorganContracts

-- no row makes a lighter statement of it, if its weight fits 64 bits
abbrev pub Rests : Position → Tree → Type 0
Rests p n = weight p n < 2 ^ 64 → (w : Tree) → DeMorganContracts p n w → ⊥

-- what is written is what a row says, and lighter
abbrev pub WrittenIsRow : Type 0
WrittenIsRow = (q : StmtSeat) (n w : Tree) → written n ≡ Some w → DeMorganContracts (Stmt q) n w

-- and where nothing is written the rule rests
abbrev pub UnwrittenRests : Type 0
UnwrittenRests = (q : StmtSeat) (n : Tree) → written n ≡ None → Rests (Stmt q) n
