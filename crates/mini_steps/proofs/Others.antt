-- Calls of nodes of another kind, which have no row there.
use Rattle.std.specs.Prelude.{◌≡◌, refl, true, false}
use Rattle.std.proofs.Common.{inl, inr, sym, ap, ◌∙◌}
use Rattle.std.proofs.lemmas.Bool.{false≢true}
use Rattle.mini_model.specs.declared.place.Position.{Position}
use Rattle.mini_model.specs.declared.place.Position.TheVariants.{Expr, Stmt, StatementList, BodyList, Elsewhere}
use Rattle.mini_model.specs.declared.seat.StmtSeat.{StmtSeat}
use Rattle.mini_model.specs.Paths.{is_node}
use Rattle.mini_model.specs.declared.seat.Seat.{Seat}
use Rattle.mini_model.specs.Tree.{Tree}
use Rattle.mini_laws.specs.Value.{VariableSet}
use Rattle.mini_rows.specs.Switches.{Switches}
use Rattle.mini_steps.specs.declared.names.RuleName.{RuleName}
use Rattle.mini_steps.specs.declared.names.RuleName.TheVariants as name
use Rattle.mini_steps.specs.Rows.{StatementRow, PartRow, RowOfList, CallRow, is_list_place}

-- no statement is of another kind, and no part
pub no_statement : (o : Switches) (r : RuleName) (n w : Tree) → (r ≡ name.DeMorganForVoidExpr → ⊥) → (r ≡ name.SubstituteReturnStatement → ⊥) → (r ≡ name.TryMinimizeIf → ⊥) → (r ≡ name.DropUnreachableSwitchCases → ⊥) → (r ≡ name.UnwrapBlock → ⊥) → (r ≡ name.MinimizeForStatement → ⊥) → (r ≡ name.MinimizeStatements → ⊥) → StatementRow o r n w → ⊥
no_statement o name.DeMorganForVoidExpr n w f g h k l m i row = f refl
no_statement o name.SubstituteReturnStatement n w f g h k l m i row = g refl
no_statement o name.TryMinimizeIf n w f g h k l m i row = h refl
no_statement o name.DropUnreachableSwitchCases n w f g h k l m i row = k refl
no_statement o name.UnwrapBlock n w f g h k l m i row = l refl
no_statement o name.MinimizeForStatement n w f g h k l m i row = m refl
no_statement o name.MinimizeStatements n w f g h k l m i row = i refl
no_statement o _ n w f g h k l m i row = row

pub no_part : (o : Switches) (r : RuleName) (n w : Tree) → (r ≡ name.SubstituteAssignmentTargetPropertyProperty → ⊥) → (r ≡ name.SubstituteAssignmentTargetProperty → ⊥) → (r ≡ name.TryCompressAssignmentTargetProperty → ⊥) → (r ≡ name.SubstituteBindingProperty → ⊥) → (r ≡ name.SubstituteMethodDefinition → ⊥) → (r ≡ name.SubstitutePropertyDefinition → ⊥) → (r ≡ name.SubstituteCatchClause → ⊥) → (r ≡ name.MinimizeStatements → ⊥) → PartRow o r n w → ⊥
no_part o name.SubstituteAssignmentTargetPropertyProperty n w f g h k l m i j row = f refl
no_part o name.SubstituteAssignmentTargetProperty n w f g h k l m i j row = g refl
no_part o name.TryCompressAssignmentTargetProperty n w f g h k l m i j row = h refl
no_part o name.SubstituteBindingProperty n w f g h k l m i j row = k refl
no_part o name.SubstituteMethodDefinition n w f g h k l m i j row = l refl
no_part o name.SubstitutePropertyDefinition n w f g h k l m i j row = m refl
no_part o name.SubstituteCatchClause n w f g h k l m i j row = i refl
no_part o name.MinimizeStatements n w f g h k l m i j row = j refl
no_part o _ n w f g h k l m i j row = row

-- a list that a row reads is no node of ESTree
of_list : (o : Switches) (r : RuleName) (p : Position) (n w : Tree) → RowOfList o r p n w → is_list_place p ≡ true → is_node n ≡ false
of_list o name.MinimizeStatements StatementList n w row e = ap is_node row.shape
of_list o name.MinimizeStatements BodyList n w (inl row) e = ap is_node row.shape
of_list o name.MinimizeStatements BodyList n w (inr row) e = ap is_node row.shape
of_list o name.MinimizeStatements p n w row e = absurd row
of_list o _ p n w row e = absurd row

-- and nothing else stands elsewhere
pub no_place : (o : Switches) (W : VariableSet) (r : RuleName) (p : Position) (n w : Tree) → ((s : Seat) → p ≡ Expr s → ⊥) → ((q : StmtSeat) → p ≡ Stmt q → ⊥) → (p ≡ Elsewhere → ⊥) → (is_list_place p ≡ true → is_node n ≡ true) → CallRow o W r p n w → ⊥
no_place o W r (Expr s) n w f g h k row = f s refl
no_place o W r (Stmt q) n w f g h k row = g q refl
no_place o W r Elsewhere n w f g h k row = h refl
no_place o W r StatementList n w f g h k row = false≢true (sym (of_list o r StatementList n w row refl) ∙ k refl)
no_place o W r BodyList n w f g h k row = false≢true (sym (of_list o r BodyList n w row refl) ∙ k refl)
no_place o W r _ n w f g h k row = row
