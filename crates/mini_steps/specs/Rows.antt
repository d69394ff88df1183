-- The rows that each call has, by its name.
use Rattle.std.specs.Prelude.{ℕ, ◌<◌, ◌≡◌, Bool, true, false, Option, Some, None}
use Rattle.mini_model.specs.declared.place.Position.{Position}
use Rattle.mini_model.specs.declared.place.Position.TheVariants.{Expr, Stmt, StatementList, BodyList, Elsewhere}
use Rattle.mini_model.specs.declared.seat.Seat.{Seat}
use Rattle.mini_model.specs.Redex.{Row23}
use Rattle.mini_model.specs.declared.shape.Shape.{Shape}
use Rattle.mini_model.specs.declared.shape.Shape.TheVariants as shape
use Rattle.mini_model.specs.Tree.{Tree, count, children, shape_of}
use Rattle.mini_model.specs.Weight.{weight}
use Rattle.mini_laws.specs.Value.{VariableSet}
use Rattle.mini_rows.specs.Arrows.{Row59}
use Rattle.mini_rows.specs.Booleans.{BooleanRow}
use Rattle.mini_rows.specs.Branches.{Row60, Row79}
use Rattle.mini_rows.specs.Catches.{CatchRow}
use Rattle.mini_rows.specs.Choices.{Row39}
use Rattle.mini_rows.specs.DeMorgan.{Row50}
use Rattle.mini_rows.specs.DeadCases.{DeadCaseRow}
use Rattle.mini_rows.specs.Folding.{Row9}
use Rattle.mini_rows.specs.KeyHolders.{Row52Declared, Row53}
use Rattle.mini_rows.specs.Lists.{ListRow}
use Rattle.mini_rows.specs.Switches.{Switches}
use Rattle.mini_node.specs.Children.{part, with_part}
use Rattle.mini_stmt.specs.MinimizeStatements.{switches_of}
use Rattle.mini_rows.specs.Loops.{Row84}
use Rattle.mini_rows.specs.Operands.{Row30}
use Rattle.mini_rows.specs.Sequences.{SequenceRow}
use Rattle.mini_rows.specs.SpellKeys.{KeyRow}
use Rattle.mini_rows.specs.Spellings.{Row19, Row36, Row54, Row60Yield, Row65}
use Rattle.mini_rows.specs.Writes.{Row34}
use Rattle.mini_context.specs.declared.context.TraverseCtx.{TraverseCtx}
use Rattle.mini_choices.specs.MinimizeNormalAssignmentToCombinedLogicalAssignment.{marked}
use Rattle.mini_choices.specs.OwnRows.{FoldedRow}
use Rattle.mini_logic.specs.MinimizeIfStatement.{IsRow}
use Rattle.mini_calls.specs.OwnRows.{AndOrRow, BinaryRow, BitwiseRow, CoalesceRow, CombinedRow, ConditionalRow, DecisionRow, DottedRow, HeldKey, LogicalRow, LooseRow, ObjectRow, OperatorRow, PlusRow, TargetKey, TypeofRow, UnaryRow, UndefinedRow}
use Rattle.mini_steps.specs.declared.names.RuleName.{RuleName}
use Rattle.mini_steps.specs.declared.names.RuleName.TheVariants as name
use Rattle.mini_steps.specs.Called.{Relation}

-- what a row of a call says of an expression in its seat, where the variables W can be written
abbrev pub SeatRow : VariableSet → RuleName → Seat → Tree → Tree → Type 0
SeatRow W name.MinimizeUnary s n w = Row23 s n w
SeatRow W name.MinimizeExpressionInBooleanContext s n w = BooleanRow (Expr s) n w
SeatRow W name.MinimizeBinary s n w = BinaryRow s n w
SeatRow W name.MinimizeLooseBoolean s n w = Row30 n w
SeatRow W name.MinimizeBitwiseBinaryExpr s n w = BitwiseRow s n w
SeatRow W name.MinimizeNormalAssignmentToCombinedLogicalAssignment s n w = Row34 W n w
SeatRow W name.MinimizeNormalAssignmentToCombinedAssignment s n w = CombinedRow n w
SeatRow W name.MinimizeAssignmentToUpdateExpression s n w = Row36 n w
SeatRow W name.MinimizeLogicalExpression s n w = DecisionRow W s n w
SeatRow W name.MinimizeConditionalExpression s n w = ConditionalRow W s n w
SeatRow W name.ConvertToDottedProperties s n w = DottedRow n w
SeatRow W name.FoldUnaryExpr s n w = UnaryRow s n w
SeatRow W name.FoldStaticMemberExpr s n w = Row9 s n w
SeatRow W name.FoldLogicalExpr s n w = LogicalRow s n w
SeatRow W name.TryFoldAndOr s n w = AndOrRow s n w
SeatRow W name.TryFoldCoalesce s n w = CoalesceRow s n w
SeatRow W name.FoldChainExpr s n w = FoldedRow s n w
SeatRow W name.FoldBinaryExpr s n w = OperatorRow s n w
SeatRow W name.FoldSequenceExpression s n w = SequenceRow (Expr s) n w
SeatRow W name.FoldBinaryTypeofComparison s n w = TypeofRow n w
SeatRow W name.SubstituteTemplateLiteral s n w = Row19 n w
SeatRow W name.SubstituteTypeofUndefined s n w = UndefinedRow n w
SeatRow W name.SubstituteUnaryPlus s n w = PlusRow n w
SeatRow W name.SubstituteRotateLogicalExpression s n w = Row39 n w
SeatRow W name.SubstituteIsObjectAndNotNull s n w = ObjectRow n w
SeatRow W name.SubstituteLooseEqualsUndefined s n w = LooseRow n w
SeatRow W name.SubstituteBoolean s n w = Row65 n w
SeatRow W name.SubstituteSwapBinaryExpressions s n w = Row54 n w
SeatRow W name.SubstituteArrowExpression s n w = Row59 n w
SeatRow W name.SubstituteObjectProperty s n w = KeyRow (Expr s) n w
SeatRow W name.SubstituteYieldExpression s n w = Row60Yield n w
SeatRow W _ s n w = ⊥

-- a list of statements, of what holds one: it is rewritten in its place
abbrev pub list_index : Shape → Option ℕ
list_index (shape.Program m ds) = Some 0
list_index shape.BlockStatement = Some 0
list_index shape.StaticBlock = Some 0
list_index shape.SwitchCase = Some 1
list_index _ = None

pub record HeldListRow (o : Switches) (n w : Tree) : Type 0 where
  pub at : ℕ
  pub list : Tree
  pub holds : list_index (shape_of n) ≡ Some at
  pub there : at < count (children n)
  pub row : ListRow o StatementList (part n at) list
  pub written : w ≡ with_part n at list

-- of a statement
abbrev pub StatementRow : Switches → RuleName → Tree → Tree → Type 0
StatementRow o name.DeMorganForVoidExpr n w = Row50 n w
StatementRow o name.SubstituteReturnStatement n w = Row60 n w
StatementRow o name.TryMinimizeIf n w = IsRow n w
StatementRow o name.DropUnreachableSwitchCases n w = DeadCaseRow n w
StatementRow o name.UnwrapBlock n w = Row79 n w
StatementRow o name.MinimizeForStatement n w = Row84 n w
StatementRow o name.MinimizeStatements n w = HeldListRow o n w
StatementRow o _ n w = ⊥

-- and of what is neither: of a property, a method, a field, a declarator or a `catch`
abbrev pub PartRow : Switches → RuleName → Tree → Tree → Type 0
PartRow o name.SubstituteAssignmentTargetPropertyProperty n w = HeldKey n w
PartRow o name.SubstituteAssignmentTargetProperty n w = TargetKey n w
PartRow o name.TryCompressAssignmentTargetProperty n w = Row53 n w
PartRow o name.SubstituteBindingProperty n w = Row52Declared n w
PartRow o name.SubstituteMethodDefinition n w = HeldKey n w
PartRow o name.SubstitutePropertyDefinition n w = HeldKey n w
PartRow o name.SubstituteCatchClause n w = CatchRow Elsewhere n w
PartRow o name.MinimizeStatements n w = HeldListRow o n w
PartRow o _ n w = ⊥

-- of a list of statements
abbrev pub RowOfList : Switches → RuleName → Position → Tree → Tree → Type 0
RowOfList o name.MinimizeStatements p n w = ListRow o p n w
RowOfList o _ p n w = ⊥

abbrev pub is_list_place : Position → Bool
is_list_place StatementList = true
is_list_place BodyList = true
is_list_place _ = false

-- what one says of a node in its place
abbrev pub CallRow : Switches → VariableSet → RuleName → Relation
CallRow o W r (Expr s) n w = SeatRow W r s n w
CallRow o W r (Stmt q) n w = StatementRow o r n w
CallRow o W r StatementList n w = RowOfList o r StatementList n w
CallRow o W r BodyList n w = RowOfList o r BodyList n w
CallRow o W r Elsewhere n w = PartRow o r n w
CallRow o W r _ n w = ⊥

-- and is lighter there
pub record CallRows (o : Switches) (W : VariableSet) (r : RuleName) (p : Position) (n w : Tree) : Type 0 where
  pub row : CallRow o W r p n w
  pub lighter : weight p w < weight p n

-- under the options of the context, where those can be written that it marks
abbrev pub rows_in : TraverseCtx → RuleName → Relation
rows_in c = CallRows (switches_of c.options) (marked c.scopes)
