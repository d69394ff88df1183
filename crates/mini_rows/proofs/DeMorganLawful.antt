-- What a row of De Morgan's laws writes makes a whole lighter, and keeps all that a program has to keep.
use Rattle.std.proofs.Common.{◌≡◌, Bool, true, false, [], ◌∷◌, refl, sym, ap, subst, ◌∙◌, inl, true≢false}
use Rattle.mini_model.specs.declared.operator.LogicalOperator.{LogicalOperator}
use Rattle.mini_model.specs.declared.operator.LogicalOperator.TheVariants.{Or, And, Coalesce}
use Rattle.mini_model.specs.declared.place.Position.{Position}
use Rattle.mini_model.specs.declared.place.Position.TheVariants.{Expr, Stmt}
use Rattle.mini_model.specs.declared.shape.Shape.TheVariants as shape
use Rattle.mini_model.specs.Paths.{append}
use Rattle.mini_model.specs.Tree.{Tree, Trees, none, ◌▸◌, shape_of, logical, expression_statement}
use Rattle.mini_model.specs.declared.seat.StmtSeat.{StmtSeat}
use Rattle.mini_model.specs.Position.{is_and_or, statement_expression_seat, left_operand_seat}
use Rattle.mini_model.specs.Terms.{turned}
use Rattle.mini_model.specs.Weight.{outline}
use Rattle.mini_accept.specs.WellShaped.{in_module, in_body, nested, Class, an_init, an_expression, a_statement, a_key, a_private_or_key, an_inner_key, Slot, one, one_or_absent, fits}
use Rattle.mini_laws.specs.DeclaredNames.{is_inner}
use Rattle.mini_laws.specs.Weights.{Lightens}
use Rattle.mini_kept.specs.KeepsNames.{is_rewritten_place}
use Rattle.mini_kept.specs.KeepsShapes.{AskedAlike}
use Rattle.mini_kept.specs.KeepsFrames.{is_body_slot}
use Rattle.mini_kept.specs.Lawful.{Lawful}
use Rattle.mini_kept.specs.Lifted.{is_piece}
use Rattle.mini_kept.proofs.Bools.{left, both}
use Rattle.mini_kept.proofs.Expressions.{refused_here, expression, expression_taken, two_fit}
use Rattle.mini_kept.proofs.Quiet.{IsQuiet}
use Rattle.mini_node.specs.Walks.{append_none}
use Rattle.mini_rows.specs.Arranged.{KeptAt, WrittenFor}
use Rattle.mini_rows.specs.Sketches.{OfExpression, Logical, Sequence, Sketch, Sketches, Parts, part, under, list, end, ◌▹◌, no_items, item, items, still}
use Rattle.mini_rows.specs.Lists.{sequence, for_loop}
use Rattle.mini_rows.specs.DeMorgan.{turned_logical, VoidPlace, Alone, Begins, Turns, void_of, ended, DeMorganRow, DeMorganContracts}
use Rattle.mini_rows.specs.Negations.{lightest}
use Rattle.mini_rows.proofs.ArrangedLawful.{kept_is_lawful}
use Rattle.mini_rows.proofs.ArrangedOthers.{expressions_rewritten}
use Rattle.mini_rows.proofs.ArrangedRewritten.{statements_rewritten, unchanged}
use Rattle.mini_rows.proofs.BranchEnds.{last_written}
use Rattle.mini_rows.proofs.BranchLawful.{taken, as_statement, fits_there, body_slot, plain_asked}
use Rattle.mini_rows.proofs.FoldLawful.{statement_taken, expression_slot}
use Rattle.mini_rows.proofs.ListShapes.{AllFit, sequence_fits, append_fits, both_fit, first_fits, more_fit}
use Rattle.mini_rows.proofs.SequenceLawful.{items_fit, two_at_least}
use Rattle.mini_rows.proofs.SequenceStands.{of_sequence, sequence_asked}
use Rattle.mini_rows.proofs.DeMorganMeaning.{de_morgan_same}
use Rattle.mini_rows.proofs.ForPartKept.{of_init, of_update, other_init_fits, update_fits, other_kept, init_kept, update_kept}
use Rattle.mini_rows.proofs.NegationKept.{of_two, written_then, junction_written, both_written, lightest_written}

-- ---- lighter

place_outline : (v : VoidPlace) (x y : Tree) → outline (void_of v x) ≡ outline (void_of v y)
place_outline Alone x y = refl
place_outline (Begins t u b) x y = refl
place_outline (Turns i t b) x y = refl

row_outline : (p : Position) (n w : Tree) → DeMorganRow p n w → outline n ≡ outline w
row_outline (Stmt q) n w r = ap outline r.shape ∙ place_outline r.place (ended r.before (logical r.operator r.a r.b)) (ended r.before (turned_logical r.operator r.a r.b)) ∙ sym (ap outline r.written)
row_outline (Expr s) n w r = ap outline r.shape ∙ sym (ap outline r.written)
row_outline p n w r = absurd r

pub de_morgan_lighten : Lightens DeMorganContracts
de_morgan_lighten = record {
  lighter = λ p n w c. c.lighter;
  absent = λ p n w c e. ap (λ o. o.absent) (row_outline p n w c.row);
  items = λ p n w c e. ap (λ o. o.items) (row_outline p n w c.row);
  is_zero = λ p n w c e. inl (ap (λ o. o.is_zero) (row_outline p n w c.row));
  chooses = λ p n w c e. inl (λ h. sym (ap (λ o. o.chooses) (row_outline p n w c.row)) ∙ h);
}

-- ---- where it stands

-- a part of a sequence but the last
module _ (strict : Bool) (before : Trees) (o : LogicalOperator) (a b next : Tree) (after : Trees) where
  abbrev read_parts : Trees
  read_parts = append before (logical o a b ▸ (next ▸ after))

  -- the expressions in it
  record Fitting : Type 0 where
    firsts : AllFit strict expression before
    left_side : fits strict expression a ≡ true
    right_side : fits strict expression b ≡ true
    behind : fits strict expression next ≡ true
    lasts : AllFit strict expression after

  fitting_of : fits strict expression (sequence read_parts) ≡ true → Fitting
  fitting_of e =
      let (firsts, others) = both_fit strict expression before (logical o a b ▸ (next ▸ after)) (items_fit strict read_parts e) in
      let (whole, rest) = first_fits strict expression (logical o a b) (next ▸ after) others in
      let (behind, lasts) = first_fits strict expression next after rest in
      let (x, y) = of_two strict o a b whole in
      record { firsts = firsts; left_side = x; right_side = y; behind = behind; lasts = lasts }

  turned_fits : Fitting → fits strict expression (sequence (append before (turned_logical o a b ▸ (next ▸ after)))) ≡ true
  turned_fits f =
      let seat = left_operand_seat (turned o) statement_expression_seat in
      sequence_fits strict (append before (turned_logical o a b ▸ (next ▸ after))) (two_at_least before (turned_logical o a b) next after)
      (append_fits strict expression before (turned_logical o a b ▸ (next ▸ after)) f.firsts
      (more_fit strict expression (turned_logical o a b) (next ▸ after) (two_fit strict (lightest seat a) b ((lightest_written seat a).fitting strict f.left_side) f.right_side) (more_fit strict expression next after f.behind f.lasts)))

-- an expression statement stands with any other expression in it
record Lone (strict : Bool) (s : Slot) (x : Tree) : Type 0 where
  inner : fits strict expression x ≡ true
  other : (y : Tree) → fits strict expression y ≡ true → fits strict s (expression_statement y) ≡ true

alone_in : (strict : Bool) (k : Class) (x : Tree) → fits strict (one k) (expression_statement x) ≡ true → Lone strict (one k) x
alone_in true (a_statement in_module) x e = record { inner = left (fits true expression x) true e; other = λ y f. both (fits true expression y) true f refl }
alone_in true (a_statement in_body) x e = record { inner = left (fits true expression x) true e; other = λ y f. both (fits true expression y) true f refl }
alone_in true (a_statement nested) x e = record { inner = left (fits true expression x) true e; other = λ y f. both (fits true expression y) true f refl }
alone_in false (a_statement in_module) x e = record { inner = left (fits false expression x) true e; other = λ y f. both (fits false expression y) true f refl }
alone_in false (a_statement in_body) x e = record { inner = left (fits false expression x) true e; other = λ y f. both (fits false expression y) true f refl }
alone_in false (a_statement nested) x e = record { inner = left (fits false expression x) true e; other = λ y f. both (fits false expression y) true f refl }
alone_in strict (a_key true) x e = absurd (refused_here strict (one (a_key true)) shape.ExpressionStatement [] 0 (x ▸ none) refl e)
alone_in strict (a_private_or_key true) x e = absurd (refused_here strict (one (a_private_or_key true)) shape.ExpressionStatement [] 0 (x ▸ none) refl e)
alone_in strict (an_inner_key true) x e = absurd (refused_here strict (one (an_inner_key true)) shape.ExpressionStatement [] 0 (x ▸ none) refl e)
alone_in strict k x e = absurd (refused_here strict (one k) shape.ExpressionStatement [] 0 (x ▸ none) refl e)

alone : (strict : Bool) (s : Slot) (x : Tree) → fits strict s (expression_statement x) ≡ true → Lone strict s x
alone strict (one k) x e = alone_in strict k x e
alone strict (one_or_absent k) x e = let a = alone_in strict k x e in record { inner = a.inner; other = a.other }
alone strict s x e = absurd (refused_here strict s shape.ExpressionStatement [] 0 (x ▸ none) refl e)

-- an expression in the head of a `for` stands there as anywhere
pub record InHead (x : Tree) : Type 0 where
  quiet : IsQuiet x
  inner : is_inner (shape_of x) ≡ false
  piece : is_piece (shape_of x) ≡ false
  begins : (strict : Bool) → fits strict (one_or_absent an_init) x ≡ fits strict expression x
  turns : (strict : Bool) → fits strict (one_or_absent an_expression) x ≡ fits strict expression x

pub in_head : (before : Trees) (o : LogicalOperator) (a b : Tree) → InHead (ended before (logical o a b))
in_head none o a b = record { quiet = refl; inner = refl; piece = refl; begins = λ strict. refl; turns = λ strict. refl }
in_head (p ▸ ps) o a b = record { quiet = refl; inner = refl; piece = refl; begins = λ strict. refl; turns = λ strict. refl }

pub place_inner : (strict : Bool) (s : Slot) (v : VoidPlace) (x : Tree) → InHead x → fits strict s (void_of v x) ≡ true → fits strict expression x ≡ true
place_inner strict s Alone x h e = (alone strict s x e).inner
place_inner strict s (Begins t u c) x h e = sym (h.begins strict) ∙ of_init strict x t u c (as_statement strict s (for_loop x t u c) refl refl e)
place_inner strict s (Turns i t c) x h e = sym (h.turns strict) ∙ of_update strict i t x c (as_statement strict s (for_loop i t x c) refl refl e)

place_fits : (strict : Bool) (s : Slot) (v : VoidPlace) (x y : Tree) → InHead y → fits strict expression y ≡ true → fits strict s (void_of v x) ≡ true → fits strict s (void_of v y) ≡ true
place_fits strict s Alone x y h f e = (alone strict s x e).other y f
place_fits strict s (Begins t u c) x y h f e = fits_there strict s (for_loop x t u c) (for_loop y t u c) refl refl refl (λ k. other_init_fits strict x y t u c (h.begins strict ∙ f) k) e
place_fits strict s (Turns i t c) x y h f e = fits_there strict s (for_loop i t x c) (for_loop i t y c) refl refl refl (λ k. update_fits strict i t x y c (h.turns strict ∙ f) k) e

place_slot : (q : StmtSeat) (strict : Bool) (s : Slot) (v : VoidPlace) (x : Tree) → fits strict s (void_of v x) ≡ true → is_body_slot (Stmt q) s ≡ true
place_slot q strict s Alone x e = body_slot (Stmt q) s (statement_taken strict s x e)
place_slot q strict s (Begins t u c) x e = body_slot (Stmt q) s (taken strict s (for_loop x t u c) refl e)
place_slot q strict s (Turns i t c) x e = body_slot (Stmt q) s (taken strict s (for_loop i t x c) refl e)

place_asked : (q : StmtSeat) (v : VoidPlace) (x y : Tree) → AskedAlike (Stmt q) (void_of v x) (void_of v y)
place_asked q Alone x y = plain_asked (Stmt q) (expression_statement x) (expression_statement y) refl refl
place_asked q (Begins t u c) x y = plain_asked (Stmt q) (for_loop x t u c) (for_loop y t u c) refl refl
place_asked q (Turns i t c) x y = plain_asked (Stmt q) (for_loop i t x c) (for_loop i t y c) refl refl

-- ---- the negation is written for the left side

junction : (o : LogicalOperator) (a b : Tree) → is_and_or o ≡ true → WrittenFor (logical o a b) (logical (turned o) a b)
junction And a b h = (junction_written a b).0
junction Or a b h = (junction_written a b).1
junction Coalesce a b h = absurd (true≢false (sym h))

turned_written : (o : LogicalOperator) (a b : Tree) → is_and_or o ≡ true → WrittenFor (logical o a b) (turned_logical o a b)
turned_written o a b h =
    let seat = left_operand_seat (turned o) statement_expression_seat in
    written_then (logical o a b) (logical o (lightest seat a) b) (turned_logical o a b) (both_written o a b (lightest seat a) b (lightest_written seat a) (unchanged b)) (junction o (lightest seat a) b h)

ended_written : (before : Trees) (o : LogicalOperator) (a b : Tree) → is_and_or o ≡ true → WrittenFor (ended before (logical o a b)) (ended before (turned_logical o a b))
ended_written none o a b h = turned_written o a b h
ended_written (p ▸ ps) o a b h = last_written p ps (logical o a b) (turned_logical o a b) (turned_written o a b h)

row_fits : (p : Position) (n w : Tree) → DeMorganRow p n w → (strict : Bool) (s : Slot) → fits strict s n ≡ true → fits strict s w ≡ true
row_fits (Stmt q) n w r strict s e =
    let x = ended r.before (logical r.operator r.a r.b) in
    let y = ended r.before (turned_logical r.operator r.a r.b) in
    let there = subst (λ t. fits strict s t ≡ true) r.shape e in
    let inner = place_inner strict s r.place x (in_head r.before r.operator r.a r.b) there in
    subst (λ t. fits strict s t ≡ true) (sym r.written) (place_fits strict s r.place x y (in_head r.before (turned r.operator) _ r.b) ((ended_written r.before r.operator r.a r.b r.tells).fitting strict inner) there)
row_fits (Expr q) n w r strict s e =
    let (takes, whole) = of_sequence strict s (append r.before (logical r.operator r.a r.b ▸ (r.next ▸ r.after))) (subst (λ t. fits strict s t ≡ true) r.shape e) in
    let written = turned_fits strict r.before r.operator r.a r.b r.next r.after (fitting_of strict r.before r.operator r.a r.b r.next r.after whole) in
    subst (λ t. fits strict s t ≡ true) (sym r.written) (expression_taken strict s (sequence (append r.before (turned_logical r.operator r.a r.b ▸ (r.next ▸ r.after)))) takes written)
row_fits p n w r strict s e = absurd r

row_slot : (p : Position) (n w : Tree) → DeMorganRow p n w → (strict : Bool) (s : Slot) → fits strict s n ≡ true → is_body_slot p s ≡ true
row_slot (Stmt q) n w r strict s e = place_slot q strict s r.place (ended r.before (logical r.operator r.a r.b)) (subst (λ t. fits strict s t ≡ true) r.shape e)
row_slot (Expr q) n w r strict s e = expression_slot (Expr q) s (of_sequence strict s (append r.before (logical r.operator r.a r.b ▸ (r.next ▸ r.after))) (subst (λ t. fits strict s t ≡ true) r.shape e)).0
row_slot p n w r strict s e = absurd r

row_asked : (p : Position) (n w : Tree) → DeMorganRow p n w → AskedAlike p n w
row_asked (Stmt q) n w r = subst (λ t. AskedAlike (Stmt q) t w) (sym r.shape) (subst (AskedAlike (Stmt q) (void_of r.place (ended r.before (logical r.operator r.a r.b)))) (sym r.written) (place_asked q r.place (ended r.before (logical r.operator r.a r.b)) (ended r.before (turned_logical r.operator r.a r.b))))
row_asked (Expr q) n w r = subst (λ t. AskedAlike (Expr q) t w) (sym r.shape) (subst (AskedAlike (Expr q) (sequence (append r.before (logical r.operator r.a r.b ▸ (r.next ▸ r.after))))) (sym r.written) (sequence_asked (Expr q) (append r.before (logical r.operator r.a r.b ▸ (r.next ▸ r.after))) (append r.before (turned_logical r.operator r.a r.b ▸ (r.next ▸ r.after)))))
row_asked p n w r = absurd r

places : (p : Position) (n w : Tree) → DeMorganRow p n w → is_rewritten_place p ≡ true
places (Stmt q) n w r = refl
places (Expr q) n w r = refl
places p n w r = absurd r

-- ---- the same parts, with the negation of the first

abbrev does : Sketch
does = under OfExpression (part 0 ▹ end)

abbrev in_order : LogicalOperator → Sketches
in_order o = list (items 0 (item (under (Logical o) (part 0 ▹ part 1 ▹ end)) (item (part 2) (items 1 no_items)))) ▹ end

abbrev amid : Trees → Tree → Tree → Tree → Trees → Parts
amid before a b next after = record { trees = a ▸ b ▸ next ▸ none; lists = before ∷ after ∷ [] }

abbrev one_part : Tree → Parts
one_part x = record { trees = x ▸ none; lists = [] }

place_kept : (q : StmtSeat) (v : VoidPlace) (x y : Tree) → InHead x → InHead y → WrittenFor x y → KeptAt (Stmt q) (void_of v x) (void_of v y)
place_kept q Alone x y h k l =
    statements_rewritten still (one_part x) (one_part y) (tt, tt, tt) (tt, tt, tt) does does refl (l, tt) q (expression_statement x) (expression_statement y) refl refl
    (λ strict s e. ((alone strict s x e).inner, tt))
place_kept q (Begins t u c) x y h k l = init_kept q x y (other_kept x y h.quiet k.quiet h.inner l an_init h.piece (λ strict e. sym (h.begins strict) ∙ e)) t u c
place_kept q (Turns i t c) x y h k l = update_kept q x y (other_kept x y h.quiet k.quiet h.inner l an_expression h.piece (λ strict e. sym (h.turns strict) ∙ e)) i t c

kept : (p : Position) (n w : Tree) → DeMorganRow p n w → KeptAt p n w
kept (Stmt q) n w r =
    let x = ended r.before (logical r.operator r.a r.b) in
    let y = ended r.before (turned_logical r.operator r.a r.b) in
    subst (λ t. KeptAt (Stmt q) t w) (sym r.shape)
    (subst (KeptAt (Stmt q) (void_of r.place x)) (sym r.written) (place_kept q r.place x y (in_head r.before r.operator r.a r.b) (in_head r.before (turned r.operator) _ r.b) (ended_written r.before r.operator r.a r.b r.tells)))
kept (Expr q) n w r =
    let seat = left_operand_seat (turned r.operator) statement_expression_seat in
    expressions_rewritten still (amid r.before r.a r.b r.next r.after) (amid r.before (lightest seat r.a) r.b r.next r.after) (tt, tt, tt) (tt, tt, tt) (under Sequence (in_order r.operator)) Sequence (in_order (turned r.operator)) refl
    (refl, (lightest_written seat r.a, (unchanged r.b, (unchanged r.next, (refl, tt))))) q n w
    (r.shape ∙ ap (λ us. sequence (append r.before (logical r.operator r.a r.b ▸ (r.next ▸ us)))) (sym (append_none r.after)))
    (r.written ∙ ap (λ us. sequence (append r.before (turned_logical r.operator r.a r.b ▸ (r.next ▸ us)))) (sym (append_none r.after)))
    (λ strict s e. let f = fitting_of strict r.before r.operator r.a r.b r.next r.after (of_sequence strict s (append r.before (logical r.operator r.a r.b ▸ (r.next ▸ r.after))) (subst (λ t. fits strict s t ≡ true) r.shape e)).1 in (f.left_side, (f.right_side, (f.behind, tt))))
kept p n w r = absurd r

pub de_morgan_lawful : Lawful DeMorganContracts
de_morgan_lawful =
    kept_is_lawful DeMorganContracts de_morgan_same
    (record { fitting = λ p n w c strict s k e. row_fits p n w c.row strict s e; asked = λ p n w c. row_asked p n w c.row })
    (λ p n w c. places p n w c.row)
    (λ p n w c strict s k e. row_slot p n w c.row strict s e)
    (λ p n w c. kept p n w c.row)
