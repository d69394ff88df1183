-- The rows that a call has which is one rewrite of many: what it writes is what they say, and where
-- it writes nothing none of them reads the node.
use Rattle.std.specs.Prelude.{◌≡◌, ◌<◌, ◌^◌, ◌⊎◌, Bool, true, false, not, codes, Option, Some, None, is_some, if◌then◌else◌}
use Rattle.mini_model.specs.declared.operator.LogicalOperator.{LogicalOperator}
use Rattle.mini_model.specs.declared.place.Position.TheVariants.{Expr, Stmt}
use Rattle.mini_model.specs.declared.seat.Seat.{Seat}
use Rattle.mini_model.specs.declared.seat.StmtSeat.{StmtSeat}
use Rattle.mini_model.specs.Position.{is_and_or}
use Rattle.mini_model.specs.Tree.{Tree}
use Rattle.mini_model.specs.Weight.{weight}
use Rattle.mini_node.specs.Children.{part}
use Rattle.mini_node.specs.Kinds.{binary_operator, logical_operator, unary_operator, is_conditional}
use Rattle.mini_choices.specs.OwnRows.{SharedRow}
use Rattle.mini_fold.specs.FoldOperators.{delete_written}
use Rattle.mini_laws.specs.Value.{VariableSet}
use Rattle.mini_logic.specs.MinimizeConditionalExpression.{IsRow}
use Rattle.mini_logic.specs.MinimizeUnaryExpression.{minimizes_unary, minimized_unary}
use Rattle.mini_rows.specs.Booleans.{BooleanRow}
use Rattle.mini_rows.specs.Chains.{Row46Chain}
use Rattle.mini_rows.specs.Choices.{Row13Both, Row21Zero, Row35, Row35Member, Row37, Row37After, Row38, Row38Last, Row57, Row57Null, HeldRow}
use Rattle.mini_rows.specs.Constants.{RowConstant, RowJoined}
use Rattle.mini_rows.specs.Folding.{Row9, Row12, Row13, Row28, Row49Idle}
use Rattle.mini_rows.specs.ForParts.{Row22Init, Row22Update}
use Rattle.mini_rows.specs.KeyHolders.{Row52Held, Row52Bare, Row52Declared, Row53}
use Rattle.mini_rows.specs.Operands.{Row14, Row7, Row29, Row4, Row27, Row27Asked, Row27Enclosed, Row31, Row32}
use Rattle.mini_rows.specs.Operators.{Row2, Row8, Row16, Row17, Row56Left, Row56Right}
use Rattle.mini_rows.specs.Spellings.{computed_member, static_member, text, key, Row33, Row33Assigned, Row33Updated, Row55, Row55Value, Row58Left, Row58Right}
use Rattle.mini_rows.specs.Templates.{Row5, Row6}
use Rattle.mini_rows.specs.Writes.{Row37Assigned, Row46Assigned, Row46AssignedChain}

-- what is written is what a row says, and where nothing is none reads the node
pub record Own (f : Tree → Option Tree) (R : Tree → Tree → Type 0) : Type 0 where
  pub written : (n w : Tree) → f n ≡ Some w → R n w
  pub unwritten : (n : Tree) → f n ≡ None → (w : Tree) → R n w → ⊥

-- so in each seat
abbrev pub OwnIn : (Seat → Tree → Option Tree) → (Seat → Tree → Tree → Type 0) → Type 0
OwnIn f R = (s : Seat) → Own (f s) (R s)

-- of rows that are weighed: what is written is lighter besides, and where nothing is none makes the
-- node lighter, as far as its weight fits 64 bits
pub record Weighed (f : Seat → Tree → Option Tree) (R : Seat → Tree → Tree → Type 0) : Type 0 where
  pub written : (s : Seat) (n w : Tree) → f s n ≡ Some w → R s n w
  pub lighter : (s : Seat) (n w : Tree) → f s n ≡ Some w → weight (Expr s) w < weight (Expr s) n
  pub unwritten : (s : Seat) (n : Tree) → f s n ≡ None → weight (Expr s) n < 2 ^ 64 → (w : Tree) → R s n w → weight (Expr s) w < weight (Expr s) n → ⊥

-- so of statements, whose rows are lighter wherever they stand
pub record Fitting (f : Tree → Option Tree) (R : Tree → Tree → Type 0) : Type 0 where
  pub written : (n w : Tree) → f n ≡ Some w → R n w
  pub lighter : (q : StmtSeat) (n w : Tree) → f n ≡ Some w → weight (Stmt q) w < weight (Stmt q) n
  pub unwritten : (q : StmtSeat) (n : Tree) → f n ≡ None → weight (Stmt q) n < 2 ^ 64 → (w : Tree) → R n w → ⊥

-- of a call that says whether it changes the node: where it does what is made is what a row says,
-- and where not the node is as it was, and none reads it
pub record Changing (changes : Tree → Bool) (made : Tree → Tree) (R : Tree → Tree → Type 0) : Type 0 where
  pub written : (n : Tree) → changes n ≡ true → R n (made n)
  pub kept : (n : Tree) → changes n ≡ false → made n ≡ n
  pub unwritten : (n : Tree) → changes n ≡ false → (w : Tree) → R n w → ⊥

-- ---- what is known of an expression

-- 16 and 17
abbrev pub TypeofRow : Tree → Tree → Type 0
TypeofRow n w = Row16 n w ⊎ Row17 n w

-- 56
abbrev pub PlusRow : Tree → Tree → Type 0
PlusRow n w = Row56Left n w ⊎ Row56Right n w

-- 31 and 32
abbrev pub BitwiseRow : Seat → Tree → Tree → Type 0
BitwiseRow s n w = Row31 s n w ⊎ Row32 n w

-- 27
abbrev pub ZeroRow : Seat → Tree → Tree → Type 0
ZeroRow s n w = Row27 n w ⊎ (Row27Asked s n w ⊎ Row27Enclosed s n w)

-- 27, 28 and 29
abbrev pub BinaryRow : Seat → Tree → Tree → Type 0
BinaryRow s n w = ZeroRow s n w ⊎ (Row28 n w ⊎ Row29 s n w)

-- a logical expression of such an operator
abbrev pub is_of : (LogicalOperator → Bool) → Option LogicalOperator → Bool
is_of p (Some o) = p o
is_of p None = false

-- 12 and 13, and of `??` 15
abbrev pub SideRow : Seat → Tree → Tree → Type 0
SideRow s n w = Row13 s n w ⊎ Row12 s n w

-- 12 to 15
abbrev pub LogicalRow : Seat → Tree → Tree → Type 0
LogicalRow s n w = SideRow s n w ⊎ Row14 s n w

-- 12, 13 and 14
abbrev pub AndOrRow : Seat → Tree → Tree → Type 0
AndOrRow s n w = LogicalRow s n w × (is_of is_and_or (logical_operator n) ≡ true)

abbrev pub is_coalesce : LogicalOperator → Bool
is_coalesce o = not (is_and_or o)

-- 15
abbrev pub CoalesceRow : Seat → Tree → Tree → Type 0
CoalesceRow s n w = SideRow s n w × (is_of is_coalesce (logical_operator n) ≡ true)

-- 1 and 2
abbrev pub UnaryRow : Seat → Tree → Tree → Type 0
UnaryRow s n w = (RowConstant s n w × (is_some (unary_operator n) ≡ true)) ⊎ Row2 n w

-- 2 alone, `fold_delete`
abbrev pub deletes : Tree → Option Tree
deletes n = delete_written (unary_operator n) (part n 0)

-- 7, and 4 of texts that are written out
abbrev pub TextRow : Seat → Tree → Tree → Type 0
TextRow s n w = Row7 s n w ⊎ Row4 n w

-- 4 and 8
abbrev pub JoinRow : Seat → Tree → Tree → Type 0
JoinRow s n w = Row8 n w ⊎ RowJoined s n w

-- 3 to 8
abbrev pub OperatorRow : Seat → Tree → Tree → Type 0
OperatorRow s n w = (RowConstant s n w × (is_some (binary_operator n) ≡ true)) ⊎ (TextRow s n w ⊎ (JoinRow s n w ⊎ (Row5 n w ⊎ Row6 n w)))

-- 9 in brackets: what 9 says of the same member with a dot
abbrev pub LengthRow : Seat → Tree → Tree → Type 0
LengthRow s n w = (o : Tree) × ((n ≡ computed_member false o (text (codes "length"))) × Row9 s (static_member false o (key (codes "length"))) w)

-- 22 of the head of a `for`
abbrev pub IdleHeadRow : Tree → Tree → Type 0
IdleHeadRow n w = Row22Init n w ⊎ Row22Update n w

-- ---- negations

-- 23, `minimize_unary`
abbrev pub negated : Seat → Tree → Option Tree
negated s n = if minimizes_unary s n then Some (minimized_unary s n) else None

-- ---- choices

-- 37
abbrev pub ComparisonRow : Tree → Tree → Type 0
ComparisonRow n w = Row37 n w ⊎ Row37After n w

-- 57
abbrev pub ObjectRow : Tree → Tree → Type 0
ObjectRow n w = Row57 n w ⊎ Row57Null n w

-- 35
abbrev pub CombinedRow : Tree → Tree → Type 0
CombinedRow n w = Row35 n w ⊎ Row35Member n w

-- 42, 43 and 49
abbrev pub HeldIn : Seat → Tree → Tree → Type 0
HeldIn s n w = HeldRow n w

-- 13 and 15 of a left side that does something
abbrev pub BothIn : Seat → Tree → Tree → Type 0
BothIn s n w = Row13Both n w

-- 21 of a first part that stays
abbrev pub ZeroIn : Seat → Tree → Tree → Type 0
ZeroIn s n w = Row21Zero n w

-- 37 and 38
abbrev pub DecisionRow : VariableSet → Seat → Tree → Tree → Type 0
DecisionRow W s n w = ComparisonRow n w ⊎ (Row37Assigned W n w ⊎ (Row38 n w ⊎ Row38Last s n w))

-- 46
abbrev pub CoalescedRow : VariableSet → Seat → Tree → Tree → Type 0
CoalescedRow W s n w = Row46Chain s n w ⊎ (Row46Assigned W n w ⊎ Row46AssignedChain W s n w)

-- 26, 47 and 48: those of booleans that read a conditional
abbrev pub JoinedRow : Seat → Tree → Tree → Type 0
JoinedRow s n w = BooleanRow (Expr s) n w × (is_conditional n ≡ true)

-- 40 to 49, and 26 where only the truth is asked
abbrev pub ConditionalRow : VariableSet → Seat → Tree → Tree → Type 0
ConditionalRow W s n w = IsRow n w ⊎ (JoinedRow s n w ⊎ (Row49Idle s n w ⊎ (SharedRow s n w ⊎ (HeldRow n w ⊎ CoalescedRow W s n w))))

-- ---- spellings

-- 33
abbrev pub DottedRow : Tree → Tree → Type 0
DottedRow n w = Row33 n w ⊎ (Row33Assigned n w ⊎ Row33Updated n w)

-- 58
abbrev pub LooseRow : Tree → Tree → Type 0
LooseRow n w = Row58Left n w ⊎ Row58Right n w

-- 55
abbrev pub UndefinedRow : Tree → Tree → Type 0
UndefinedRow n w = Row55 n w ⊎ Row55Value n w

-- ---- keys of patterns and classes

-- 52, but of what is declared
abbrev pub HeldKey : Tree → Tree → Type 0
HeldKey n w = Row52Held n w ⊎ Row52Bare n w

-- 52
abbrev pub AnyKey : Tree → Tree → Type 0
AnyKey n w = Row52Declared n w ⊎ HeldKey n w

-- 53, and 52 of a property that is assigned to
abbrev pub TargetKey : Tree → Tree → Type 0
TargetKey n w = Row53 n w ⊎ HeldKey n w
