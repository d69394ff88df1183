-- Rows that rest on what is known of the body around, of `this` and of members, ask less, whatever is known.
use Rattle.std.specs.Prelude.{◌≡◌, ◌⊎◌, refl, pos, true, false, []}
use Rattle.std.proofs.Common.{inl, inr, ◌∙◌, sym, subst}
use Rattle.std.proofs.lemmas.Bool.{and_parts}
use Rattle.mini_model.specs.declared.operator.AssignmentOperator.TheVariants.{Assign}
use Rattle.mini_model.specs.declared.operator.UnaryOperator.TheVariants.{Void}
use Rattle.mini_model.specs.declared.place.Position.TheVariants.{Expr, Stmt}
use Rattle.mini_model.specs.declared.seat.Seat.{Seat}
use Rattle.mini_model.specs.declared.seat.StmtSeat.{StmtSeat}
use Rattle.mini_model.specs.Paths.{append}
use Rattle.mini_model.specs.Tree.{Tree, Trees, none, ◌▸◌, absent, identifier}
use Rattle.mini_node.specs.Kinds.{computed_member}
use Rattle.mini_laws.specs.declared.names.Declared.TheVariants as declared
use Rattle.mini_laws.specs.DeclaredNames.{names_of}
use Rattle.mini_kept.proofs.Quiet.{no_names}
use Rattle.mini_terms.specs.Reading.{is_plain_part}
use Rattle.mini_rows.specs.Choices.{deciding, member_on, member_of, ChosenRow, ChosenMemberRow, ChosenIndexedRow}
use Rattle.mini_rows.specs.Idle.{is_still, is_still_part, IdleRow, IdleStatement}
use Rattle.mini_rows.specs.Lists.{sequence}
use Rattle.mini_rows.specs.Members.{this, object, member_at, Row38Member, Row38MemberLast, Row35This, MemberRow}
use Rattle.mini_rows.specs.Sketches.{AbsentPart, Unary, Logical, Assignment, Empty, OfExpression, AsValue, AsWhole}
use Rattle.mini_rows.specs.Spellings.{binary, assignment, numeral}
use Rattle.mini_kept.specs.Without.{Assured}
use Rattle.mini_rows.specs.Still.{Row1This, StillRow}
use Rattle.mini_rows.proofs.ForPartKept.{plain_is_quiet}
use Rattle.mini_less.specs.Families.{LessAt, BodyRowsOfThisLess}
use Rattle.mini_less.specs.Less.{AFor}
use Rattle.mini_less.proofs.ConditionalsLess.{assigned_parts, retargeted, member_updated, calls_less, chosen_target_less, zero_less}
use Rattle.mini_less.proofs.LoopsLess.{loop_less}
use Rattle.mini_less.proofs.Made.{made_statement_less}
use Rattle.mini_less.proofs.Nodes.{binary_parts, logical_parts, sequence_parts, a_sequence, firsts, lasts, both_of, a_void, made_under}
use Rattle.mini_less.proofs.OperandsLess.{type_less}
use Rattle.mini_less.proofs.SequencesLess.{dropped_less, alone_less}

module _ (V : Assured) (q : Seat) (n w : Tree) where
  decided_less : Row38Member V n w → LessAt (Expr q) n w
  decided_less r =
      let m : Tree = member_on (object r.of) r.key in
      made_under q n w (Logical r.operator) (m ▸ assignment Assign m r.b ▸ none) refl r.shape tt (Assignment (deciding r.operator)) (m ▸ r.b ▸ none) refl r.written (λ strict x k Q l y.
      let (target, value) = assigned_parts Q l Assign m r.b (logical_parts Q l r.operator m (assignment Assign m r.b) (subst (Q AsValue) r.shape y)).1 in
      subst (Q AsValue) (sym r.written) (retargeted Q l (deciding r.operator) m r.b target (member_updated Q l (object r.of) r.key target) value))

  decided_last_less : Row38MemberLast V q n w → LessAt (Expr q) n w
  decided_last_less r =
      let m : Tree = member_on (object r.of) r.key in
      let read : Trees = r.first ▸ append r.others (assignment Assign m r.b ▸ none) in
      let put : Trees = r.first ▸ append r.others (r.b ▸ none) in
      made_under q n w (Logical r.operator) (m ▸ sequence read ▸ none) refl r.shape tt (Assignment (deciding r.operator)) (m ▸ sequence put ▸ none) refl r.written (λ strict x k Q l y.
      let all = sequence_parts Q l read (logical_parts Q l r.operator m (sequence read) (subst (Q AsValue) r.shape y)).1 in
      let (target, value) = assigned_parts Q l Assign m r.b (lasts Q l r.others (assignment Assign m r.b ▸ none) all.1).0 in
      subst (Q AsValue) (sym r.written) (retargeted Q l (deciding r.operator) m (sequence put) target (member_updated Q l (object r.of) r.key target)
      (a_sequence Q l put (all.0, both_of Q l r.others (r.b ▸ none) (firsts Q l r.others (assignment Assign m r.b ▸ none) all.1) (value, tt)))))

  computed_less : Row35This V n w → LessAt (Expr q) n w
  computed_less r =
      let m : Tree = member_on this r.key in
      made_under q n w (Assignment Assign) (m ▸ binary r.operator m r.b ▸ none) refl r.shape tt (Assignment r.combined) (m ▸ r.b ▸ none) refl r.written (λ strict x k Q l y.
      let (target, sum) = assigned_parts Q l Assign m (binary r.operator m r.b) (subst (Q AsValue) r.shape y) in
      subst (Q AsValue) (sym r.written) (retargeted Q l r.combined m r.b target (member_updated Q l this r.key target) (binary_parts Q l r.operator m r.b sum).1))

  member_less : MemberRow V q n w → LessAt (Expr q) n w
  member_less (inl r) = decided_less r
  member_less (inr (inl r)) = decided_last_less r
  member_less (inr (inr (inl r))) = computed_less r
  member_less (inr (inr (inr r))) = chosen_target_less q n w Assign (member_at (object r.of) r.index) r.a r.b r.c r.shape r.written

  idle_less : IdleRow V q n w → LessAt (Expr q) n w
  idle_less (inl r) = dropped_less q n w r.before r.idle r.next r.after r.shape r.written
  idle_less (inr r) = alone_less q n w r.idle r.last r.shape r.written r.stays

  void_less : Row1This V n w → LessAt (Expr q) n w
  void_less r = made_under q n w (Unary Void) (r.operand ▸ none) refl r.shape tt (Unary Void) (numeral (pos 0) ▸ none) refl r.written (λ strict x k Q l y. subst (Q AsValue) (sym r.written) (a_void Q l))

  still_less : StillRow V q n w → LessAt (Expr q) n w
  still_less (inl r) = zero_less q n w false r.row
  still_less (inr (inl r)) = void_less r
  still_less (inr (inr (inl r))) = calls_less q n w false r.row
  still_less (inr (inr (inr (inl r)))) = type_less q n w false r.row
  still_less (inr (inr (inr (inr r)))) = by r.row
    where
      by : ChosenRow false q n w ⊎ (ChosenMemberRow false q n w ⊎ ChosenIndexedRow false q n w) → LessAt (Expr q) n w
      by (inl r) = chosen_target_less q n w r.operator (identifier r.name) r.a r.b r.c r.shape r.written
      by (inr (inl r)) = chosen_target_less q n w Assign (member_of r.name r.key) r.a r.b r.c r.shape r.written
      by (inr (inr r)) = chosen_target_less q n w Assign (computed_member (identifier r.name) r.key) r.a r.b r.c r.shape r.written

unnamed : (t : Tree) → is_still_part t ≡ true → names_of declared.Lexical t ≡ []
unnamed t e = no_names declared.Lexical t (plain_is_quiet t (and_parts (is_still t) (is_plain_part t) e).1)

module _ (V : Assured) (q : StmtSeat) (n w : Tree) where
  statement_less : IdleStatement V n w → LessAt (Stmt q) n w
  statement_less (inl r) = made_statement_less q n w OfExpression Empty (r.expression ▸ none) none refl refl r.shape r.written tt (λ strict x k Q l y. subst (Q AsWhole) (sym r.written) (l.up Empty refl AsWhole none tt tt))
  statement_less (inr (inl r)) =
      loop_less q n w AFor r.init absent (r.test ▸ (r.update ▸ (r.body ▸ none))) (r.test ▸ (r.update ▸ (r.body ▸ none))) r.shape r.written (no_names declared.Lexical absent refl ∙ sym (unnamed r.init r.still)) (inr (unnamed r.init r.still)) (λ strict x k Q l y.
      (l.up AbsentPart refl AsValue none tt tt, y.1))
  statement_less (inr (inr r)) =
      loop_less q n w AFor r.init r.init (r.test ▸ (r.update ▸ (r.body ▸ none))) (r.test ▸ (absent ▸ (r.body ▸ none))) r.shape r.written refl (inl (refl, refl)) (λ strict x k Q l y.
      (y.0, (y.1.0, (l.up AbsentPart refl AsValue none tt tt, y.1.1.1))))

pub body_rows_of_this_less : BodyRowsOfThisLess
body_rows_of_this_less = record {
  members = λ V q n w r. member_less V q n w r;
  idle = λ V q n w r. idle_less V q n w r;
  still = λ V q n w r. still_less V q n w r;
  statements = λ V q n w r. statement_less V q n w r;
}
