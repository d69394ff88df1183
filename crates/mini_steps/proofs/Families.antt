-- The rows of each call are rows of the families, and so rewrites.
use Rattle.std.specs.Prelude.{ℕ, zero, suc, ◌≡◌, refl, Some, ◌<◌, true}
use Rattle.std.proofs.Common.{arith, inl, inr, sym, subst}
use Rattle.std.proofs.lemmas.Option.{none-some}
use Rattle.mini_model.specs.declared.place.Position.{Position}
use Rattle.mini_model.specs.declared.place.Position.TheVariants.{Expr, Stmt, StatementList, BodyList, Elsewhere}
use Rattle.mini_model.specs.declared.seat.Seat.{Seat}
use Rattle.mini_model.specs.declared.seat.StmtSeat.{StmtSeat}
use Rattle.mini_model.specs.Redex.{Row23}
use Rattle.mini_model.specs.declared.shape.Shape.{Shape}
use Rattle.mini_model.specs.declared.shape.Shape.TheVariants as shape
use Rattle.mini_model.specs.Position.{child_position}
use Rattle.mini_model.specs.Rewriting.{Reaches}
use Rattle.mini_model.specs.Rewriting as rewriting
use Rattle.mini_model.specs.Tree.{Tree, count, children, shape_of}
use Rattle.mini_node.specs.Children.{part}
use Rattle.mini_model.specs.Weight.{weight}
use Rattle.mini_laws.specs.Value.{VariableSet}
use Rattle.mini_rows.specs.Booleans as boolean
use Rattle.mini_rows.specs.Arrows.{Row59}
use Rattle.mini_rows.specs.Branches.{BranchRow, Row60, Row79}
use Rattle.mini_rows.specs.Catches.{CatchRow}
use Rattle.mini_rows.specs.Choices as choice
use Rattle.mini_rows.specs.DeadCases.{DeadCaseRow}
use Rattle.mini_rows.specs.DeMorgan.{Row50}
use Rattle.mini_rows.specs.Folding.{FoldingRow, Row9}
use Rattle.mini_rows.specs.KeyHolders.{HeldKeyRow, Row52Declared, Row53}
use Rattle.mini_rows.specs.Lists.{ListRow}
use Rattle.mini_rows.specs.Loops.{Row84}
use Rattle.mini_rows.specs.Operands as operand
use Rattle.mini_rows.specs.Operators as operator
use Rattle.mini_rows.specs.Redex.{Row, Rewrites, AsTest, AsSpelling, AsBranch, AsList, AsKey, AsChoice, AsFolding, AsTurn, AsArrow, AsConstant, AsHeldKey, AsBoolean, AsDeMorgan, AsSequence, AsOperand, AsTemplate}
use Rattle.mini_rows.specs.Sequences.{SequenceRow}
use Rattle.mini_rows.specs.SpellKeys.{KeyRow}
use Rattle.mini_rows.specs.Spellings as spelling
use Rattle.mini_rows.specs.Editions.{HasEach}
use Rattle.mini_rows.specs.Switches.{Switches, of_every_edition}
use Rattle.mini_rows.proofs.Latest.{latest_has_each}
use Rattle.mini_rows.specs.Writes.{WriteRow, Row34}
use Rattle.mini_rows.proofs.ArrowWeights.{arrows_lighter}
use Rattle.mini_rows.proofs.BranchWeights.{branch_lighter}
use Rattle.mini_rows.proofs.CatchWeights.{catches_lighter}
use Rattle.mini_rows.proofs.ChoiceWeights as choice_weights
use Rattle.mini_rows.proofs.FoldWeights as fold_weights
use Rattle.mini_rows.proofs.KeysJoined.{held_keys_lighter}
use Rattle.mini_rows.proofs.ListWeights.{lists_lighter}
use Rattle.mini_rows.proofs.OperandWeights as operand_weights
use Rattle.mini_rows.proofs.SequenceWeights as sequence_weights
use Rattle.mini_rows.proofs.SpellKeyWeights as key_weights
use Rattle.mini_rows.proofs.SpellWeights as spell_weights
use Rattle.mini_rows.proofs.WriteWeights.{writes_lighter}
use Rattle.mini_choices.specs.OwnRows.{SharedRow, FoldedRow}
use Rattle.mini_logic.specs.MinimizeIfStatement as if_statement
use Rattle.mini_calls.specs.OwnRows.{AndOrRow, BinaryRow, BitwiseRow, CoalesceRow, CoalescedRow, CombinedRow, ComparisonRow, ConditionalRow, DecisionRow, DottedRow, HeldKey, LogicalRow, LooseRow, ObjectRow, OperatorRow, PlusRow, SideRow, TargetKey, TypeofRow, UnaryRow, UndefinedRow, ZeroRow}
use Rattle.mini_steps.specs.declared.names.RuleName.{RuleName}
use Rattle.mini_steps.specs.declared.names.RuleName.TheVariants as name
use Rattle.mini_steps.specs.Rows.{SeatRow, StatementRow, PartRow, RowOfList, HeldListRow, list_index, CallRows}
use Rattle.mini_steps.proofs.Following.{reaches_at}

-- such a list stands as one of statements
pub list_stands : (h : Shape) (p : Position) (n k : ℕ) → list_index h ≡ Some k → child_position h p n k ≡ StatementList
list_stands (shape.Program m ds) p n k e = refl
list_stands shape.BlockStatement p n k e = refl
list_stands shape.StaticBlock p n k e = refl
list_stands shape.SwitchCase p n zero e = absurd (cc e)
list_stands shape.SwitchCase p n (suc k) e = refl
list_stands h p n k e = absurd (none-some k e)

-- any options: what is lighter is so under all
pub any : Switches
any = record { sequences = true; join_vars = true; keep_function_names = true; keep_class_names = true; edition = 2022 }

module _ (o : Switches) (W : VariableSet) where
  abbrev In : Seat → Tree → Tree → Type 0
  In s n w = Rewrites (of_every_edition o) W (Expr s) n w

  -- calls write forms of every edition
  latest : HasEach 2022
  latest = latest_has_each 2022 (omega arith)

  as_choice : {s : Seat} {n w : Tree} → choice.Choice s n w → Row (of_every_edition o) (Expr s) n w
  as_choice {s = s} {n = n} {w = w} r = AsChoice r (latest.choices (Expr s) n w r)

  -- ---- a row of a family that is lighter everywhere

  pub record Falls (p : Position) (n w : Tree) : Type 0 where
    pub rewrites : Rewrites (of_every_edition o) W p n w
    pub lighter : weight p w < weight p n

  of_row : {p : Position} {n w : Tree} → Row (of_every_edition o) p n w → weight p w < weight p n → Falls p n w
  of_row r l = record { rewrites = inl (record { row = r; lighter = l }); lighter = l }

  of_operand : {s : Seat} {n w : Tree} → operand.Operand s n w → Falls (Expr s) n w
  of_operand {s = s} {n = n} {w = w} r = of_row (AsOperand r) (operand_weights.lighter (Expr s) n w r)

  of_operator : {s : Seat} {n w : Tree} → operator.OperatorRow s n w → Falls (Expr s) n w
  of_operator r = of_operand (operand.ByOperator r)

  of_folding : {s : Seat} {n w : Tree} → FoldingRow (Expr s) n w → Falls (Expr s) n w
  of_folding {s = s} {n = n} {w = w} r = of_row (AsFolding r) (fold_weights.lighter (Expr s) n w r)

  of_spelling : {s : Seat} {n w : Tree} → spelling.Spelling n w → Falls (Expr s) n w
  of_spelling {s = s} {n = n} {w = w} r = of_row (AsSpelling r) (spell_weights.lighter (Expr s) n w r)

  of_choice : {s : Seat} {n w : Tree} → choice.LighterRow s n w → Falls (Expr s) n w
  of_choice {s = s} {n = n} {w = w} r = of_row (as_choice (choice.Shorter r)) (choice_weights.lighter s n w r)

  of_branch : {q : StmtSeat} {n w : Tree} → BranchRow (Stmt q) n w → Falls (Stmt q) n w
  of_branch {q = q} {n = n} {w = w} r = of_row (AsBranch r) (branch_lighter (Stmt q) n w r)

  of_key : {n w : Tree} → HeldKeyRow Elsewhere n w → Falls Elsewhere n w
  of_key {n = n} {w = w} r = of_row (AsHeldKey r) (held_keys_lighter Elsewhere n w r)

  of_write : {s : Seat} {n w : Tree} → WriteRow W (Expr s) n w → Falls (Expr s) n w
  of_write {s = s} {n = n} {w = w} r =
      let l = writes_lighter W (Expr s) n w r in
      record { rewrites = inr (inr (inr (inr (inl (record { row = r; lighter = l }, latest.writes W (Expr s) n w r))))); lighter = l }

  of_sequence : {s : Seat} {n w : Tree} → SequenceRow (Expr s) n w → Falls (Expr s) n w
  of_sequence {s = s} {n = n} {w = w} r = of_row (AsSequence r) (sequence_weights.lighter (Expr s) n w r)

  -- ---- those of operators

  zeroed : (s : Seat) (n w : Tree) → ZeroRow s n w → Falls (Expr s) n w
  zeroed s n w (inl r) = of_operand (operand.BitsBesideZero r)
  zeroed s n w (inr (inl r)) = of_operand (operand.ShiftAsked r)
  zeroed s n w (inr (inr r)) = of_operand (operand.ShiftEnclosed r)

  pub binary : (s : Seat) (n w : Tree) → BinaryRow s n w → Falls (Expr s) n w
  binary s n w (inl r) = zeroed s n w r
  binary s n w (inr (inl r)) = of_folding (inr (inr (inl r)))
  binary s n w (inr (inr r)) = of_operand (operand.BooleanBesideTruth r)

  pub loose_boolean : (s : Seat) (n w : Tree) → operand.Row30 n w → Falls (Expr s) n w
  loose_boolean s n w r = of_operand (operand.TruthBesideValue r)

  pub bitwise : (s : Seat) (n w : Tree) → BitwiseRow s n w → Falls (Expr s) n w
  bitwise s n w (inl r) = of_operand (operand.BitsWithZero r)
  bitwise s n w (inr r) = of_operand (operand.WholeOrZero r)

  pub typeof : (s : Seat) (n w : Tree) → TypeofRow n w → Falls (Expr s) n w
  typeof s n w (inl r) = of_operator (operator.SameTypes r)
  typeof s n w (inr r) = of_operator (operator.NeverType r)

  pub plus : (s : Seat) (n w : Tree) → PlusRow n w → Falls (Expr s) n w
  plus s n w (inl r) = of_operator (operator.LeftPlus r)
  plus s n w (inr r) = of_operator (operator.RightPlus r)

  -- ---- those of sides

  side : (s : Seat) (n w : Tree) → SideRow s n w → Falls (Expr s) n w
  side s n w (inl r) = of_folding (inl r)
  side s n w (inr r) = of_folding (inr (inl r))

  pub logical : (s : Seat) (n w : Tree) → LogicalRow s n w → Falls (Expr s) n w
  logical s n w (inl r) = side s n w r
  logical s n w (inr r) = of_operand (operand.MiddleOperand r)

  pub and_or : (s : Seat) (n w : Tree) → AndOrRow s n w → Falls (Expr s) n w
  and_or s n w r = logical s n w r.0

  pub coalesce : (s : Seat) (n w : Tree) → CoalesceRow s n w → Falls (Expr s) n w
  coalesce s n w r = side s n w r.0

  pub length : (s : Seat) (n w : Tree) → Row9 s n w → Falls (Expr s) n w
  length s n w r = of_folding (inr (inr (inr (inr r))))

  -- ---- those of spellings

  pub short_boolean : (s : Seat) (n w : Tree) → spelling.Row65 n w → Falls (Expr s) n w
  short_boolean s n w r = of_spelling (spelling.ShortBoolean r)

  pub dotted : (s : Seat) (n w : Tree) → DottedRow n w → Falls (Expr s) n w
  dotted s n w (inl r) = of_spelling (spelling.DottedMember r)
  dotted s n w (inr (inl r)) = of_spelling (spelling.DottedTarget r)
  dotted s n w (inr (inr r)) = of_spelling (spelling.DottedUpdate r)

  pub loose : (s : Seat) (n w : Tree) → LooseRow n w → Falls (Expr s) n w
  loose s n w (inl r) = of_spelling (spelling.LooseLeft r)
  loose s n w (inr r) = of_spelling (spelling.LooseRight r)

  pub swapped : (s : Seat) (n w : Tree) → spelling.Row54 n w → Falls (Expr s) n w
  swapped s n w r = of_spelling (spelling.SwappedEquality r)

  pub undefined : (s : Seat) (n w : Tree) → UndefinedRow n w → Falls (Expr s) n w
  undefined s n w (inl r) = of_spelling (spelling.OrderedTypeof r)
  undefined s n w (inr r) = of_spelling (spelling.ComparedWithVoid r)

  pub yielded : (s : Seat) (n w : Tree) → spelling.Row60Yield n w → Falls (Expr s) n w
  yielded s n w r = of_spelling (spelling.BareYield r)

  pub template : (s : Seat) (n w : Tree) → spelling.Row19 n w → Falls (Expr s) n w
  template s n w r = of_spelling (spelling.PlainTemplate r)

  pub stepped : (s : Seat) (n w : Tree) → spelling.Row36 n w → Falls (Expr s) n w
  stepped s n w r = of_spelling (spelling.Stepped r)

  -- ---- those of choices

  comparison : (s : Seat) (n w : Tree) → ComparisonRow n w → Falls (Expr s) n w
  comparison s n w (inl r) = of_choice (choice.LooseNull r)
  comparison s n w (inr r) = of_choice (choice.LooseNullAfter r)

  pub decision : (s : Seat) (n w : Tree) → DecisionRow W s n w → Falls (Expr s) n w
  decision s n w (inl r) = comparison s n w r
  decision s n w (inr (inl r)) = of_write (inr (inr (inl r)))
  decision s n w (inr (inr (inl r))) = of_choice (choice.Decided r)
  decision s n w (inr (inr (inr r))) = of_choice (choice.DecidedLast r)

  pub combined_logical : (s : Seat) (n w : Tree) → Row34 W n w → Falls (Expr s) n w
  combined_logical s n w r = of_write (inl r)

  pub combined : (s : Seat) (n w : Tree) → CombinedRow n w → Falls (Expr s) n w
  combined s n w (inl r) = of_choice (choice.Combined r)
  combined s n w (inr r) = of_choice (choice.CombinedMember r)

  pub rotated : (s : Seat) (n w : Tree) → choice.Row39 n w → Falls (Expr s) n w
  rotated s n w r = of_choice (choice.Rotated r)

  pub object_test : (s : Seat) (n w : Tree) → ObjectRow n w → Falls (Expr s) n w
  object_test s n w (inl r) = of_choice (choice.ObjectTest r)
  object_test s n w (inr r) = of_choice (choice.ObjectTestAfter r)

  -- ---- those of sequences, of arrow functions and of object literals

  pub sequence : (s : Seat) (n w : Tree) → SequenceRow (Expr s) n w → Falls (Expr s) n w
  sequence s n w r = of_sequence r

  pub arrow : (s : Seat) (n w : Tree) → Row59 n w → Falls (Expr s) n w
  arrow s n w r = of_row (AsArrow r) (arrows_lighter (Expr s) n w r)

  pub object : (s : Seat) (n w : Tree) → KeyRow (Expr s) n w → Falls (Expr s) n w
  object s n w r = of_row (AsKey r) (key_weights.lighter (Expr s) n w r)

  -- ---- those of statements

  pub returning : (q : StmtSeat) (n w : Tree) → Row60 n w → Falls (Stmt q) n w
  returning q n w r = of_branch (inl (inl r))

  pub dead_cases : (q : StmtSeat) (n w : Tree) → DeadCaseRow n w → Falls (Stmt q) n w
  dead_cases q n w r = of_branch (inl (inr (inr r)))

  pub block : (q : StmtSeat) (n w : Tree) → Row79 n w → Falls (Stmt q) n w
  block q n w r = of_branch (inr (inl (inl r)))

  pub leaving : (q : StmtSeat) (n w : Tree) → Row84 n w → Falls (Stmt q) n w
  leaving q n w r = of_branch (inr (inl (inr (inr (inr r)))))

  -- ---- those of keys

  pub held_key : (n w : Tree) → HeldKey n w → Falls Elsewhere n w
  held_key n w (inl r) = of_key (inl r)
  held_key n w (inr r) = of_key (inr (inl r))

  pub doubled : (n w : Tree) → Row53 n w → Falls Elsewhere n w
  doubled n w r = of_key (inr (inr (inr r)))

  pub target_key : (n w : Tree) → TargetKey n w → Falls Elsewhere n w
  target_key n w (inl r) = doubled n w r
  target_key n w (inr r) = held_key n w r

  pub declared_key : (n w : Tree) → Row52Declared n w → Falls Elsewhere n w
  declared_key n w r = of_key (inr (inr (inl r)))

  pub nameless : (n w : Tree) → CatchRow Elsewhere n w → Falls Elsewhere n w
  nameless n w r =
      let l = catches_lighter Elsewhere n w r in
      record { rewrites = inr (inr (inr (inl (record { row = r; lighter = l }, omega arith)))); lighter = l }

  -- ---- a row of a family that may be heavier, where it is lighter

  contract : {p : Position} {n w : Tree} → Row (of_every_edition o) p n w → weight p w < weight p n → Rewrites (of_every_edition o) W p n w
  contract r l = inl (record { row = r; lighter = l })

  written : {s : Seat} {n w : Tree} → WriteRow W (Expr s) n w → weight (Expr s) w < weight (Expr s) n → Rewrites (of_every_edition o) W (Expr s) n w
  written {s = s} {n = n} {w = w} r l = inr (inr (inr (inr (inl (record { row = r; lighter = l }, latest.writes W (Expr s) n w r)))))

  pub negation : (s : Seat) (n w : Tree) → Row23 s n w → weight (Expr s) w < weight (Expr s) n → In s n w
  negation s n w r l = contract (AsTest (inl r)) l

  pub truth : (s : Seat) (n w : Tree) → boolean.BooleanRow (Expr s) n w → weight (Expr s) w < weight (Expr s) n → In s n w
  truth s n w r l = contract (AsBoolean r) l

  pub turned : (q : StmtSeat) (n w : Tree) → Row50 n w → weight (Stmt q) w < weight (Stmt q) n → Rewrites (of_every_edition o) W (Stmt q) n w
  turned q n w r l = contract (AsDeMorgan r) l

  pub unary : (s : Seat) (n w : Tree) → UnaryRow s n w → weight (Expr s) w < weight (Expr s) n → In s n w
  unary s n w (inl r) l = contract (AsConstant (inl r.0)) l
  unary s n w (inr r) l = contract (AsOperand (operand.ByOperator (operator.Deleted r))) l

  pub operation : (s : Seat) (n w : Tree) → OperatorRow s n w → weight (Expr s) w < weight (Expr s) n → In s n w
  operation s n w (inl r) l = contract (AsConstant (inl r.0)) l
  operation s n w (inr (inl (inl r))) l = contract (AsOperand (operand.EmptyText r)) l
  operation s n w (inr (inl (inr r))) l = contract (AsOperand (operand.JoinedTexts r)) l
  operation s n w (inr (inr (inl (inl r)))) l = contract (AsOperand (operand.ByOperator (operator.JoinedMasks r))) l
  operation s n w (inr (inr (inl (inr r)))) l = contract (AsConstant (inr (inl r))) l
  operation s n w (inr (inr (inr (inl r)))) l = contract (AsTemplate (inr (inl r))) l
  operation s n w (inr (inr (inr (inr r)))) l = contract (AsTemplate (inr (inr r))) l

  pub chained : (s : Seat) (n w : Tree) → FoldedRow s n w → weight (Expr s) w < weight (Expr s) n → In s n w
  chained s n w (inl r) l = contract (as_choice (choice.ChainEnd r)) l
  chained s n w (inr r) l = contract (as_choice (choice.ChainLink r)) l

  shared : (s : Seat) (n w : Tree) → SharedRow s n w → weight (Expr s) w < weight (Expr s) n → In s n w
  shared s n w (inl (inl r)) l = contract (as_choice (choice.Shorter (choice.NullishIfEqual r))) l
  shared s n w (inl (inr r)) l = contract (as_choice (choice.Shorter (choice.NullishIfUnequal r))) l
  shared s n w (inr (inl r)) l = contract (as_choice (choice.TestedBranch r)) l
  shared s n w (inr (inr (inl (inl r)))) l = contract (as_choice (choice.Shorter (choice.Chosen r))) l
  shared s n w (inr (inr (inl (inr (inl r))))) l = contract (as_choice (choice.Shorter (choice.ChosenMember r))) l
  shared s n w (inr (inr (inl (inr (inr r))))) l = contract (as_choice (choice.ChosenIndexed r)) l
  shared s n w (inr (inr (inr r))) l = contract (as_choice (choice.JoinedCall r)) l

  coalesced : (s : Seat) (n w : Tree) → CoalescedRow W s n w → weight (Expr s) w < weight (Expr s) n → In s n w
  coalesced s n w (inl r) l = contract (as_choice (choice.OptionalChain r)) l
  coalesced s n w (inr (inl r)) l = written (inr (inl r)) l
  coalesced s n w (inr (inr r)) l = written (inr (inr (inr r))) l

  pub conditional : (s : Seat) (n w : Tree) → ConditionalRow W s n w → weight (Expr s) w < weight (Expr s) n → In s n w
  conditional s n w (inl (inl r)) l = contract (AsTest (inr r)) l
  conditional s n w (inl (inr r)) l = contract (AsTurn r) l
  conditional s n w (inr (inl r)) l = contract (AsBoolean r.0) l
  conditional s n w (inr (inr (inl r))) l = contract (AsFolding (inr (inr (inr (inl r))))) l
  conditional s n w (inr (inr (inr (inl r)))) l = shared s n w r l
  conditional s n w (inr (inr (inr (inr (inl r))))) l = contract (as_choice (choice.SharedBranch r)) l
  conditional s n w (inr (inr (inr (inr (inr r))))) l = coalesced s n w r l

  pub if_row : (q : StmtSeat) (n w : Tree) → if_statement.IsRow n w → weight (Stmt q) w < weight (Stmt q) n → Rewrites (of_every_edition o) W (Stmt q) n w
  if_row q n w (inl r) l = contract (AsTest r) l
  if_row q n w (inr (inl r)) l = contract (AsBranch (inr (inr r))) l
  if_row q n w (inr (inr r)) l = contract (AsTurn r) l

  -- ---- by the names of the calls

  in_seat : (r : RuleName) (s : Seat) (n w : Tree) → SeatRow W r s n w → weight (Expr s) w < weight (Expr s) n → In s n w
  in_seat name.MinimizeUnary s n w r l = negation s n w r l
  in_seat name.MinimizeExpressionInBooleanContext s n w r l = truth s n w r l
  in_seat name.MinimizeBinary s n w r l = (binary s n w r).rewrites
  in_seat name.MinimizeLooseBoolean s n w r l = (loose_boolean s n w r).rewrites
  in_seat name.MinimizeBitwiseBinaryExpr s n w r l = (bitwise s n w r).rewrites
  in_seat name.MinimizeNormalAssignmentToCombinedLogicalAssignment s n w r l = (combined_logical s n w r).rewrites
  in_seat name.MinimizeNormalAssignmentToCombinedAssignment s n w r l = (combined s n w r).rewrites
  in_seat name.MinimizeAssignmentToUpdateExpression s n w r l = (stepped s n w r).rewrites
  in_seat name.MinimizeLogicalExpression s n w r l = (decision s n w r).rewrites
  in_seat name.MinimizeConditionalExpression s n w r l = conditional s n w r l
  in_seat name.ConvertToDottedProperties s n w r l = (dotted s n w r).rewrites
  in_seat name.FoldUnaryExpr s n w r l = unary s n w r l
  in_seat name.FoldStaticMemberExpr s n w r l = (length s n w r).rewrites
  in_seat name.FoldLogicalExpr s n w r l = (logical s n w r).rewrites
  in_seat name.TryFoldAndOr s n w r l = (and_or s n w r).rewrites
  in_seat name.TryFoldCoalesce s n w r l = (coalesce s n w r).rewrites
  in_seat name.FoldChainExpr s n w r l = chained s n w r l
  in_seat name.FoldBinaryExpr s n w r l = operation s n w r l
  in_seat name.FoldSequenceExpression s n w r l = (sequence s n w r).rewrites
  in_seat name.FoldBinaryTypeofComparison s n w r l = (typeof s n w r).rewrites
  in_seat name.SubstituteTemplateLiteral s n w r l = (template s n w r).rewrites
  in_seat name.SubstituteTypeofUndefined s n w r l = (undefined s n w r).rewrites
  in_seat name.SubstituteUnaryPlus s n w r l = (plus s n w r).rewrites
  in_seat name.SubstituteRotateLogicalExpression s n w r l = (rotated s n w r).rewrites
  in_seat name.SubstituteIsObjectAndNotNull s n w r l = (object_test s n w r).rewrites
  in_seat name.SubstituteLooseEqualsUndefined s n w r l = (loose s n w r).rewrites
  in_seat name.SubstituteBoolean s n w r l = (short_boolean s n w r).rewrites
  in_seat name.SubstituteSwapBinaryExpressions s n w r l = (swapped s n w r).rewrites
  in_seat name.SubstituteArrowExpression s n w r l = (arrow s n w r).rewrites
  in_seat name.SubstituteObjectProperty s n w r l = (object s n w r).rewrites
  in_seat name.SubstituteYieldExpression s n w r l = (yielded s n w r).rewrites
  in_seat _ s n w r l = absurd r

  -- ---- of the list that a node holds

  one : {p : Position} {n w : Tree} → Rewrites (of_every_edition o) W p n w → Reaches (Rewrites (of_every_edition o) W) p n w
  one {p = p} {n = n} {w = w} r = rewriting.more p n w w (rewriting.here p n w r) (rewriting.done p w)

  of_list : (p : Position) (n w : Tree) → ListRow o p n w → Rewrites (of_every_edition o) W p n w
  of_list p n w r = inl (record { row = AsList r; lighter = lists_lighter o p n w r })

  held : (p : Position) (n w : Tree) → HeldListRow o n w → Reaches (Rewrites (of_every_edition o) W) p n w
  held p n w r =
      subst (λ x. Reaches (Rewrites (of_every_edition o) W) p n x) (sym r.written)
      (reaches_at (Rewrites (of_every_edition o) W) p n r.at r.list r.there
      (subst (λ s. Reaches (Rewrites (of_every_edition o) W) s (part n r.at) r.list) (sym (list_stands (shape_of n) p (count (children n)) r.at r.holds)) (one (of_list StatementList (part n r.at) r.list r.row))))

  of_statement : (r : RuleName) (q : StmtSeat) (n w : Tree) → StatementRow o r n w → weight (Stmt q) w < weight (Stmt q) n → Reaches (Rewrites (of_every_edition o) W) (Stmt q) n w
  of_statement name.DeMorganForVoidExpr q n w r l = one (turned q n w r l)
  of_statement name.SubstituteReturnStatement q n w r l = one (returning q n w r).rewrites
  of_statement name.TryMinimizeIf q n w r l = one (if_row q n w r l)
  of_statement name.DropUnreachableSwitchCases q n w r l = one (dead_cases q n w r).rewrites
  of_statement name.UnwrapBlock q n w r l = one (block q n w r).rewrites
  of_statement name.MinimizeForStatement q n w r l = one (leaving q n w r).rewrites
  of_statement name.MinimizeStatements q n w r l = held (Stmt q) n w r
  of_statement _ q n w r l = absurd r

  of_part : (r : RuleName) (n w : Tree) → PartRow o r n w → Reaches (Rewrites (of_every_edition o) W) Elsewhere n w
  of_part name.SubstituteAssignmentTargetPropertyProperty n w r = one (held_key n w r).rewrites
  of_part name.SubstituteAssignmentTargetProperty n w r = one (target_key n w r).rewrites
  of_part name.TryCompressAssignmentTargetProperty n w r = one (doubled n w r).rewrites
  of_part name.SubstituteBindingProperty n w r = one (declared_key n w r).rewrites
  of_part name.SubstituteMethodDefinition n w r = one (held_key n w r).rewrites
  of_part name.SubstitutePropertyDefinition n w r = one (held_key n w r).rewrites
  of_part name.SubstituteCatchClause n w r = one (nameless n w r).rewrites
  of_part name.MinimizeStatements n w r = held Elsewhere n w r
  of_part _ n w r = absurd r

  in_list_of : (r : RuleName) (p : Position) (n w : Tree) → RowOfList o r p n w → Rewrites (of_every_edition o) W p n w
  in_list_of name.MinimizeStatements p n w r = of_list p n w r
  in_list_of _ p n w r = absurd r

  pub rewrites : (r : RuleName) (p : Position) (n w : Tree) → CallRows o W r p n w → Reaches (Rewrites (of_every_edition o) W) p n w
  rewrites r (Expr s) n w c = one (in_seat r s n w c.row c.lighter)
  rewrites r (Stmt q) n w c = of_statement r q n w c.row c.lighter
  rewrites r StatementList n w c = one (in_list_of r StatementList n w c.row)
  rewrites r BodyList n w c = one (in_list_of r BodyList n w c.row)
  rewrites r Elsewhere n w c = of_part r n w c.row
  rewrites r _ n w c = absurd c.row
