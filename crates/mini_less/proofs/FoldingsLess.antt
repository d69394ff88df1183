-- Rows on what is known of an expression from its text ask less.
use Rattle.std.specs.Prelude.{◌≡◌, refl, true, false, ◌&&◌, [], pos, length, codes}
use Rattle.std.proofs.Common.{inl, inr, ◌∙◌, sym, subst}
use Rattle.std.proofs.lemmas.Bool.{and_parts}
use Rattle.mini_model.specs.declared.place.Position.TheVariants.{Expr, Stmt}
use Rattle.mini_model.specs.declared.seat.Seat.{Seat}
use Rattle.mini_model.specs.declared.seat.StmtSeat.{StmtSeat}
use Rattle.mini_model.specs.Tree.{Tree, none, ◌▸◌, absent, identifier}
use Rattle.mini_model.specs.declared.operator.AssignmentOperator.TheVariants.{Subtraction}
use Rattle.mini_model.specs.declared.place.Position.{Position}
use Rattle.mini_laws.specs.declared.names.Declared.TheVariants as declared
use Rattle.mini_laws.specs.DeclaredNames.{names_of}
use Rattle.mini_kept.proofs.Quiet.{no_names}
use Rattle.mini_terms.specs.Folds.{is_effect_free}
use Rattle.mini_terms.specs.Parts.{leaves_nothing, weighs}
use Rattle.mini_terms.specs.Reading.{is_plain_part}
use Rattle.mini_rows.specs.Folding.{Row13, Row12, Row28, Row49Idle, Row9, Row22, FoldingRow, FoldingContracts}
use Rattle.mini_rows.specs.ForParts.{is_idle, Row22Init, Row22Update}
use Rattle.mini_rows.proofs.ForPartKept.{plain_is_quiet}
use Rattle.mini_rows.specs.Sketches.{AbsentPart, Number, Binary, Logical, Conditional, StaticMember, Assignment, Update, Empty, OfExpression, AsValue, AsWhole}
use Rattle.mini_rows.specs.Spellings.{text, key}
use Rattle.mini_less.specs.Families.{LessAt, FoldingsReadLess}
use Rattle.mini_less.specs.Less.{AFor}
use Rattle.mini_less.proofs.LoopsLess.{loop_less}
use Rattle.mini_less.proofs.LessRows.{reads_less_by}
use Rattle.mini_less.proofs.Made.{made_statement_less}
use Rattle.mini_less.proofs.Nodes.{binary_parts, a_binary, logical_parts, conditional_parts, a_number, made_under, part_of, suited, logical_values, conditional_values}

module _ (q : Seat) (n w : Tree) where
  pub passed_less : Row13 q n w → LessAt (Expr q) n w
  passed_less r = part_of q n w (Logical r.operator) (r.left ▸ r.right ▸ none) refl r.shape tt r.right r.written (λ strict x k. (logical_values strict x r.operator r.left r.right k).1) (λ Q l y. (logical_parts Q l r.operator r.left r.right y).1) (suited q r.right w r.written r.stays)

  pub stopped_less : Row12 q n w → LessAt (Expr q) n w
  stopped_less r = part_of q n w (Logical r.operator) (r.left ▸ r.right ▸ none) refl r.shape tt r.left r.written (λ strict x k. (logical_values strict x r.operator r.left r.right k).0) (λ Q l y. (logical_parts Q l r.operator r.left r.right y).0) (suited q r.left w r.written r.stays)

  pub loosened_less : Row28 n w → LessAt (Expr q) n w
  loosened_less r =
      made_under q n w (Binary r.operator) (r.left ▸ r.right ▸ none) refl r.shape tt (Binary r.loose) (r.left ▸ r.right ▸ none) refl r.written (λ strict x k Q l y.
      let (a, b) = binary_parts Q l r.operator r.left r.right (subst (Q AsValue) r.shape y) in
      subst (Q AsValue) (sym r.written) (a_binary Q l r.loose r.left r.right a b))

  pub branch_less : Row49Idle q n w → LessAt (Expr q) n w
  branch_less r = part_of q n w Conditional (r.test ▸ r.branch ▸ r.branch ▸ none) refl r.shape tt r.branch r.written (λ strict x k. (conditional_values strict x r.test r.branch r.branch k).1.0) (λ Q l y. (conditional_parts Q l r.test r.branch r.branch y).1.0) (suited q r.branch w r.written r.stays)

  pub counted_less : Row9 q n w → LessAt (Expr q) n w
  counted_less r = made_under q n w (StaticMember false) (text r.units ▸ key (codes "length") ▸ none) refl r.shape tt (Number (pos (length r.units))) none refl r.written (λ strict x k Q l y. subst (Q AsValue) (sym r.written) (a_number Q l (pos (length r.units))))

-- ---- the head of a `for`

-- what does nothing declares nothing
unnamed : (t : Tree) → is_idle t ≡ true → names_of declared.Lexical t ≡ []
unnamed t e =
    let rest = (and_parts (is_effect_free t) (leaves_nothing t && (weighs t && is_plain_part t)) e).1 in
    let plain = (and_parts (weighs t) (is_plain_part t) (and_parts (leaves_nothing t) (weighs t && is_plain_part t) rest).1).1 in
    no_names declared.Lexical t (plain_is_quiet t plain)

init_less : (q : StmtSeat) (n w : Tree) → Row22Init n w → LessAt (Stmt q) n w
init_less q n w r =
    loop_less q n w AFor r.init absent (r.test ▸ (r.update ▸ (r.body ▸ none))) (r.test ▸ (r.update ▸ (r.body ▸ none))) r.shape r.written (no_names declared.Lexical absent refl ∙ sym (unnamed r.init r.idle)) (inr (unnamed r.init r.idle)) (λ strict x k Q l y.
    (l.up AbsentPart refl AsValue none tt tt, y.1))

update_less : (q : StmtSeat) (n w : Tree) → Row22Update n w → LessAt (Stmt q) n w
update_less q n w r =
    loop_less q n w AFor r.init r.init (r.test ▸ (r.update ▸ (r.body ▸ none))) (r.test ▸ (absent ▸ (r.body ▸ none))) r.shape r.written refl (inl (refl, refl)) (λ strict x k Q l y.
    (y.0, (y.1.0, (l.up AbsentPart refl AsValue none tt tt, y.1.1.1))))

pub emptied_less : (q : StmtSeat) (n w : Tree) → Row22 n w → LessAt (Stmt q) n w
emptied_less q n w r = made_statement_less q n w OfExpression Empty (r.expression ▸ none) none refl refl r.shape r.written tt (λ strict x k Q l y. subst (Q AsWhole) (sym r.written) (l.up Empty refl AsWhole none tt tt))

row_less : (p : Position) (n w : Tree) → FoldingRow p n w → LessAt p n w
row_less (Expr q) n w (inl r) = passed_less q n w r
row_less (Expr q) n w (inr (inl r)) = stopped_less q n w r
row_less (Expr q) n w (inr (inr (inl r))) = loosened_less q n w r
row_less (Expr q) n w (inr (inr (inr (inl r)))) = branch_less q n w r
row_less (Expr q) n w (inr (inr (inr (inr r)))) = counted_less q n w r
row_less (Stmt q) n w (inl r) = emptied_less q n w r
row_less (Stmt q) n w (inr (inl r)) = init_less q n w r
row_less (Stmt q) n w (inr (inr r)) = update_less q n w r
row_less p n w r = absurd r

pub foldings_read_less : FoldingsReadLess
foldings_read_less = reads_less_by FoldingContracts (λ p n w c. row_less p n w c.row)
