-- What each row writes means the same.
use Rattle.std.specs.Prelude.{◌⊎◌, true, not}
use Rattle.std.proofs.Common.{◌≡◌, [], refl, sym, ap, subst, ◌∙◌, inl, inr}
use Rattle.std.proofs.lemmas.Bool.{and_parts}
use Rattle.mini_model.specs.declared.operator.UnaryOperator.TheVariants.{Void}
use Rattle.mini_model.specs.declared.place.Position.{Position}
use Rattle.mini_model.specs.declared.place.Position.TheVariants.{Expr, Stmt}
use Rattle.mini_model.specs.declared.seat.Seat.{Seat}
use Rattle.mini_model.specs.declared.seat.StmtSeat.{StmtSeat}
use Rattle.mini_model.specs.declared.shape.Shape.TheVariants as shape
use Rattle.mini_model.specs.Tree.{Tree, none, ◌▸◌, absent, unary}
use Rattle.mini_model.specs.Position.{whole_seat, if_test_seat, child_position}
use Rattle.mini_model.specs.Rewriting.{Step, here, inside, first}
use Rattle.mini_laws.specs.Value.{Undefined}
use Rattle.mini_laws.specs.Naming.{summary}
use Rattle.mini_laws.specs.Rows.{SameAt}
use Rattle.mini_laws.specs.Rewritten.{MeansSame}
use Rattle.mini_laws.proofs.Rewritten.{any_step_same}
use Rattle.mini_terms.specs.Folds.{is_effect_free}
use Rattle.mini_terms.specs.Reading.{is_read_by_value}
use Rattle.mini_terms.proofs.Dropping.{known_same}
use Rattle.mini_terms.proofs.Reading.{same_in_seat}
use Rattle.mini_rows.specs.Lists.{return_statement}
use Rattle.mini_rows.specs.Loops.{may_leap, is_there}
use Rattle.mini_rows.specs.Spellings.{void_zero, IsUndefined}
use Rattle.mini_rows.specs.Branches.{conjunct_seat, IsIdleVoid, Row60, Row82Empty, Row83, IfRow, BodyRow, SwitchRow, BranchRow, BranchContracts}
use Rattle.mini_rows.proofs.BranchMeaning.{SameStatement, statement_same, replaced, row_60, row_82_empty_or, row_82_empty_and, row_83_alone, row_83_else, row_83_nested, row_83_block}
use Rattle.mini_rows.proofs.BranchEnds.{ends_same}
use Rattle.mini_rows.proofs.BranchLoops.{row_79}
use Rattle.mini_rows.proofs.BodyTails.{row_78_block, row_78_whole}
use Rattle.mini_rows.proofs.DoOnce.{row_78_once, row_78_never}
use Rattle.mini_rows.proofs.LoopTests.{row_84}
use Rattle.mini_rows.proofs.BooleanMeaning.{then_same}
use Rattle.mini_rows.proofs.CaseMeaning.{one_case_same}
use Rattle.mini_rows.proofs.DeadCaseMeaning.{dead_case_same, dead_case_reads}

-- 60: `void a` means `void 0` where a has no effect

record Voided (s : Seat) (n w : Tree) : Type 0 where
  operand : Tree
  effect_free : is_effect_free operand ≡ true
  read : is_read_by_value s void_zero ≡ true
  shape : n ≡ unary Void operand
  written : w ≡ void_zero

abbrev VoidedAt : Position → Tree → Tree → Type 0
VoidedAt (Expr s) n w = Voided s n w
VoidedAt p n w = ⊥

voided_at : (p : Position) (n w : Tree) → VoidedAt p n w → SameAt p n w
voided_at (Expr s) n w r =
    subst (λ t. SameAt (Expr s) t w) (sym r.shape) (subst (SameAt (Expr s) (unary Void r.operand)) (sym r.written)
    (same_in_seat s (unary Void r.operand) void_zero refl r.read (known_same (unary Void r.operand) void_zero Undefined refl r.effect_free refl)))
voided_at p n w r = absurd r

voided_read : (p : Position) (n w : Tree) → VoidedAt p n w → summary n ≡ summary w
voided_read (Expr s) n w r = ap summary r.shape ∙ sym (ap summary r.written)
voided_read p n w r = absurd r

voided_same : MeansSame VoidedAt
voided_same = record { same = voided_at; reads = voided_read }

idle_returned : (q : StmtSeat) (a : Tree) → is_effect_free a ≡ true → SameAt (Stmt q) (return_statement (unary Void a)) (return_statement absent)
idle_returned q a h =
    let voided : Voided whole_seat (unary Void a) void_zero = record { operand = a; effect_free = h; read = refl; shape = refl; written = refl } in
    let step : Step VoidedAt (Stmt q) (return_statement (unary Void a)) (return_statement void_zero) =
    inside (Stmt q) shape.ReturnStatement [] 0 (unary Void a ▸ none) (void_zero ▸ none) (first (λ i. child_position shape.ReturnStatement (Stmt q) 1 i) (unary Void a) void_zero none (here (Expr whole_seat) (unary Void a) void_zero voided)) in
    then_same (Stmt q) (return_statement (unary Void a)) (return_statement void_zero) (return_statement absent) (any_step_same VoidedAt voided_same (Stmt q) _ _ step) (statement_same _ _ (row_60 void_zero (inr refl)) q)

returned_same : (q : StmtSeat) (v : Tree) → IsUndefined v ⊎ IsIdleVoid v → SameAt (Stmt q) (return_statement v) (return_statement absent)
returned_same q v (inl u) = statement_same _ _ (row_60 v u) q
returned_same q v (inr i) = subst (λ t. SameAt (Stmt q) (return_statement t) (return_statement absent)) (sym i.is) (idle_returned q i.operand i.effect_free)

return_same : (q : StmtSeat) (n w : Tree) → Row60 n w → SameAt (Stmt q) n w
return_same q n w r = subst (λ t. SameAt (Stmt q) t w) (sym r.shape) (subst (SameAt (Stmt q) (return_statement r.argument)) (sym r.written) (returned_same q r.argument r.undefined))

-- the others

empty_same : (n w : Tree) → Row82Empty n w → SameStatement n w
empty_same n w (inl r) = replaced n _ w _ r.shape r.written (row_82_empty_or r.a r.empty r.b r.is_empty)
empty_same n w (inr r) = replaced n _ w _ r.shape r.written (row_82_empty_and conjunct_seat r.a r.empty r.b r.is_empty)

row_83 : (n w : Tree) → Row83 n w → SameStatement n w
row_83 n w (inl r) = replaced n _ w _ r.shape r.written (row_83_alone r.a r.empty r.is_empty)
row_83 n w (inr (inl r)) = replaced n _ w _ r.shape r.written (row_83_else if_test_seat r.a r.empty r.u r.is_empty)
row_83 n w (inr (inr (inl r))) = replaced n _ w _ r.shape r.written (row_83_nested r.a r.b r.s)
row_83 n w (inr (inr (inr r))) = replaced n _ w _ r.shape r.written (row_83_block r.a r.c r.u r.chooses)

if_same : (n w : Tree) → IfRow n w → SameStatement n w
if_same n w (inl r) = empty_same n w r
if_same n w (inr (inl r)) = row_83 n w r
if_same n w (inr (inr r)) = ends_same n w r

body_same : (n w : Tree) → BodyRow n w → SameStatement n w
body_same n w (inl r) = replaced n _ w _ r.shape r.written (row_79 r.place r.statement r.unscoped)
body_same n w (inr (inl (inl r))) = replaced n _ w _ r.shape r.written (row_78_block r.place r.before r.loop)
body_same n w (inr (inl (inr r))) = replaced n _ w _ r.shape r.written (row_78_whole r.place r.loop)
body_same n w (inr (inr (inl (inl r)))) = replaced n _ w _ r.shape r.written (row_78_once r.test r.before r.fails)
body_same n w (inr (inr (inl (inr r)))) = replaced n _ w _ r.shape r.written (row_78_never r.test r.fails)
body_same n w (inr (inr (inr r))) = replaced n _ w _ r.shape r.written (row_84 r.init r.update r.x r.test r.leading r.leaving (and_parts (is_there r.x) (not (may_leap r.x)) r.asked).0 r.tested r.unscoped r.loose)

switch_same : (q : StmtSeat) (n w : Tree) → SwitchRow n w → SameAt (Stmt q) n w
switch_same q n w (inl r) = statement_same n w (one_case_same n w r) q
switch_same q n w (inr r) = dead_case_same q n w r

switch_reads : (n w : Tree) → SwitchRow n w → summary n ≡ summary w
switch_reads n w (inl r) = (one_case_same n w r).read
switch_reads n w (inr r) = dead_case_reads n w r

row_same : (p : Position) (n w : Tree) → BranchRow p n w → SameAt p n w
row_same (Stmt q) n w (inl (inl r)) = return_same q n w r
row_same (Stmt q) n w (inl (inr r)) = switch_same q n w r
row_same (Stmt q) n w (inr (inl r)) = statement_same n w (body_same n w r) q
row_same (Stmt q) n w (inr (inr r)) = statement_same n w (if_same n w r) q
row_same p n w r = absurd r

row_reads : (p : Position) (n w : Tree) → BranchRow p n w → summary n ≡ summary w
row_reads (Stmt q) n w (inl (inl r)) = ap summary r.shape ∙ sym (ap summary r.written)
row_reads (Stmt q) n w (inl (inr r)) = switch_reads n w r
row_reads (Stmt q) n w (inr (inl r)) = (body_same n w r).read
row_reads (Stmt q) n w (inr (inr r)) = (if_same n w r).read
row_reads p n w r = absurd r

pub branches_same : MeansSame BranchContracts
branches_same = record { same = λ p n w c. row_same p n w c.row; reads = λ p n w c. row_reads p n w c.row }
