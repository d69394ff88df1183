-- What the row of negations writes makes a whole lighter, and keeps all that a program has to keep.
use Rattle.std.proofs.Common.{◌≡◌, zero, Bool, true, [], Option, Some, None, refl, sym, ap, subst, ◌∙◌, inl, true≢false}
use Rattle.std.specs.Prelude.{not, ◌||◌, is_some, codes}
use Rattle.mini_model.specs.declared.operator.BinaryOperator.{BinaryOperator}
use Rattle.mini_model.specs.declared.operator.BinaryOperator.TheVariants.{LessThan, GreaterThan}
use Rattle.mini_model.specs.declared.operator.LogicalOperator.TheVariants.{Or, And}
use Rattle.mini_model.specs.declared.operator.UnaryOperator.TheVariants.{LogicalNot, Typeof}
use Rattle.mini_model.specs.declared.place.Position.{Position}
use Rattle.mini_model.specs.declared.place.Position.TheVariants.{Expr}
use Rattle.mini_model.specs.declared.seat.Seat.{Seat}
use Rattle.mini_model.specs.declared.shape.Shape.TheVariants as shape
use Rattle.mini_model.specs.Paths.{append}
use Rattle.mini_model.specs.Tree.{Tree, Trees, node, none, ◌▸◌, negation, logical}
use Rattle.mini_model.specs.Position.{left_operand_seat, right_operand_seat, branch_seat}
use Rattle.mini_model.specs.Terms.{not_of}
use Rattle.mini_model.specs.Weight.{plain_outline, outline}
use Rattle.mini_accept.specs.WellShaped.{Slot, fits, is_not_positive_number}
use Rattle.mini_laws.specs.Weights.{Lightens}
use Rattle.mini_kept.specs.KeepsNames.{is_rewritten_place}
use Rattle.mini_kept.specs.KeepsShapes.{AskedAlike}
use Rattle.mini_kept.specs.KeepsFrames.{is_body_slot}
use Rattle.mini_kept.specs.Lawful.{Lawful}
use Rattle.mini_kept.proofs.Expressions.{expression_taken, of_negation}
use Rattle.mini_kept.proofs.FrameRows.{expression_slot}
use Rattle.mini_node.specs.Children.{part}
use Rattle.mini_node.specs.Kinds.{boolean as boolean_value}
use Rattle.mini_node.specs.Made.{boolean_is}
use Rattle.mini_node.specs.Walks.{append_one}
use Rattle.mini_rows.specs.Arranged.{KeptAt}
use Rattle.mini_rows.specs.Lists.{sequence}
use Rattle.mini_rows.specs.Sketches.{BooleanValue, String, Unary, Binary, Logical, Sequence, Sketch, Parts, part as part_of, under, list, no_items, item, items, end, ◌▹◌, still}
use Rattle.mini_rows.specs.Spellings.{binary, boolean}
use Rattle.mini_rows.specs.Negations.{beside_u, reversed, reverse_of, negated_leaf, last_by, whole, reaches_in, Row23Whole, NegationRow, NegationContracts}
use Rattle.mini_rows.proofs.ArrangedExpressions.{expressions_arranged}
use Rattle.mini_rows.proofs.ArrangedLawful.{kept_is_lawful}
use Rattle.mini_rows.proofs.ArrangedOthers.{expressions_rewritten}
use Rattle.mini_rows.proofs.ArrangedRewritten.{unchanged}
use Rattle.mini_rows.proofs.BranchEnds.{in_order, parts, last_is}
use Rattle.mini_rows.proofs.NegationKept.{of_two, sides, two, whole_written}
use Rattle.mini_rows.proofs.NegationMeaning.{is_some_part, reverses, negations_same}

-- ---- what is written is another operator, or a literal

pub record IsPlain (t : Tree) : Type 0 where
  pub outlined : outline t ≡ plain_outline
  pub unsigned : is_not_positive_number t ≡ true

leaf_plain : (s : Seat) (t : Tree) → is_some (reverse_of t) || is_some (boolean_value t) ≡ true → IsPlain (negated_leaf (reverse_of t) (boolean_value t) t (not_of s t))
leaf_plain s t e = go (reverse_of t) (boolean_value t) e
  where
    go : (o : Option BinaryOperator) (b : Option Bool) → is_some o || is_some b ≡ true → IsPlain (negated_leaf o b t (not_of s t))
    go (Some o) b e = record { outlined = refl; unsigned = refl }
    go None (Some b) e = record { outlined = refl; unsigned = refl }
    go None None e = absurd (true≢false (sym e))

whole_plain : (s : Seat) (t : Tree) → reaches_in t ≡ true → IsPlain (whole s t)
whole_plain s (node (shape.LogicalExpression And) [] zero (a ▸ b ▸ none)) e = record { outlined = refl; unsigned = refl }
whole_plain s (node (shape.LogicalExpression Or) [] zero (a ▸ b ▸ none)) e = record { outlined = refl; unsigned = refl }
whole_plain s (node shape.SequenceExpression [] zero (node shape.Listed [] zero (a ▸ (b ▸ ts)) ▸ none)) e = record { outlined = refl; unsigned = refl }
whole_plain s t e = leaf_plain s t e

row_plain : (s : Seat) (n w : Tree) → Row23Whole s n w → IsPlain w
row_plain s n w r = subst IsPlain (sym r.written) (whole_plain s r.e r.inside)

row_outline : (p : Position) (n w : Tree) → NegationRow p n w → outline n ≡ outline w
row_outline (Expr s) n w r = ap outline r.shape ∙ sym (row_plain s n w r).outlined
row_outline p n w r = absurd r

pub negations_lighten : Lightens NegationContracts
negations_lighten = record {
  lighter = λ p n w c. c.lighter;
  absent = λ p n w c e. ap (λ o. o.absent) (row_outline p n w c.row);
  items = λ p n w c e. ap (λ o. o.items) (row_outline p n w c.row);
  is_zero = λ p n w c e. inl (ap (λ o. o.is_zero) (row_outline p n w c.row));
  chooses = λ p n w c e. inl (λ h. sym (ap (λ o. o.chooses) (row_outline p n w c.row)) ∙ h);
}

-- ---- where it stands

row_fits : (p : Position) (n w : Tree) → NegationRow p n w → (strict : Bool) (s : Slot) → fits strict s n ≡ true → fits strict s w ≡ true
row_fits (Expr q) n w r strict s e =
    let (takes, operand) = of_negation strict s r.e (subst (λ t. fits strict s t ≡ true) r.shape e) in
    subst (λ t. fits strict s t ≡ true) (sym r.written) (expression_taken strict s (whole q r.e) takes ((whole_written r.e q).fitting strict operand))
row_fits p n w r strict s e = absurd r

row_slot : (p : Position) (n w : Tree) → NegationRow p n w → (strict : Bool) (s : Slot) → fits strict s n ≡ true → is_body_slot p s ≡ true
row_slot (Expr q) n w r strict s e = expression_slot (Expr q) s (of_negation strict s r.e (subst (λ t. fits strict s t ≡ true) r.shape e)).0
row_slot p n w r strict s e = absurd r

row_asked : (p : Position) (n w : Tree) → NegationRow p n w → AskedAlike p n w
row_asked (Expr q) n w r = subst (λ t. AskedAlike (Expr q) t w) (sym r.shape) asked
  where
    asked : AskedAlike (Expr q) (negation r.e) w
    asked = record {
      absent = λ e. absurd (true≢false (sym e));
      body = λ e. absurd (true≢false (sym e));
      optional = λ e. absurd (true≢false (sym e));
      number = λ asks e. (row_plain q n w r).unsigned;
      spelled = λ s e. absurd (cc e);
      plain = refl;
    }
row_asked p n w r = absurd r

places : (p : Position) (n w : Tree) → NegationRow p n w → is_rewritten_place p ≡ true
places (Expr q) n w r = refl
places p n w r = absurd r

-- ---- the same parts

abbrev none_parts : Parts
none_parts = record { trees = none; lists = [] }

abbrev under_not : Sketch → Sketch
under_not s = under (Unary LogicalNot) (s ▹ end)

abbrev compared : BinaryOperator → Sketch
compared o = under (Binary o) (under (Unary Typeof) (part_of 0 ▹ end) ▹ under (String (codes "u")) end ▹ end)

reversed_kept : (q : Seat) (p o : BinaryOperator) (a : Tree) → reversed p ≡ Some o → KeptAt (Expr q) (negation (beside_u p a)) (beside_u o a)
reversed_kept q LessThan o a e =
    let same : GreaterThan ≡ o = cc e in
    subst (λ x. KeptAt (Expr q) (negation (beside_u LessThan a)) (beside_u x a)) same (expressions_arranged (record { trees = a ▸ none; lists = [] }) (under_not (compared LessThan)) (compared GreaterThan) refl q (negation (beside_u LessThan a)) (beside_u GreaterThan a) refl refl)
reversed_kept q GreaterThan o a e =
    let same : LessThan ≡ o = cc e in
    subst (λ x. KeptAt (Expr q) (negation (beside_u GreaterThan a)) (beside_u x a)) same (expressions_arranged (record { trees = a ▸ none; lists = [] }) (under_not (compared GreaterThan)) (compared LessThan) refl q (negation (beside_u GreaterThan a)) (beside_u LessThan a) refl refl)
reversed_kept q p o a e = absurd (cc e)

literal_kept : (q : Seat) (b : Bool) → KeptAt (Expr q) (negation (boolean b)) (boolean (not b))
literal_kept q b = expressions_arranged none_parts (under_not (under (BooleanValue b) end)) (under (BooleanValue (not b)) end) refl q (negation (boolean b)) (boolean (not b)) refl refl

leaf_kept : (q : Seat) (t : Tree) → is_some (reverse_of t) || is_some (boolean_value t) ≡ true → KeptAt (Expr q) (negation t) (negated_leaf (reverse_of t) (boolean_value t) t (not_of q t))
leaf_kept q t e = go (reverse_of t) refl (boolean_value t) refl e
  where
    go : (o : Option BinaryOperator) → reverse_of t ≡ o → (b : Option Bool) → boolean_value t ≡ b → is_some o || is_some b ≡ true → KeptAt (Expr q) (negation t) (negated_leaf o b t (not_of q t))
    go (Some o) h b k e =
        let r = reverses t o h in
        subst (λ x. KeptAt (Expr q) (negation x) (binary o (part x 0) (part x 1))) (sym r.shape) (reversed_kept q r.from o r.operand r.turns)
    go None h (Some b) k e = subst (λ x. KeptAt (Expr q) (negation x) (boolean (not b))) (sym (boolean_is t b k)) (literal_kept q b)
    go None h None k e = absurd (true≢false (sym e))

-- a sequence with the negation of its last part
parts_kept : (q : Seat) (us : Trees) (p : Tree) (ps : Trees) → is_some_part us ≡ true → KeptAt (Expr q) (negation (sequence (p ▸ append ps us))) (sequence (p ▸ append ps (last_by not_of (branch_seat q) us)))
parts_kept q none p ps e = absurd (true≢false (sym e))
parts_kept q (l ▸ none) p ps e =
    let x = whole (branch_seat q) l in
    expressions_rewritten still (parts p ps l) (parts p ps x) (tt, tt, tt) (tt, tt, tt) (under_not in_order) Sequence (list (item (part_of 0) (items 0 (item (part_of 1) no_items))) ▹ end) refl (unchanged p, (refl, (whole_written l (branch_seat q), tt))) q (negation (sequence (p ▸ append ps (l ▸ none)))) (sequence (p ▸ append ps (x ▸ none))) refl refl
    (λ strict s f. let (takes, operand) = of_negation strict s (sequence (p ▸ append ps (l ▸ none))) f in let (first, last) = last_is strict p ps l operand in (first, (last, tt)))
parts_kept q (l ▸ (m ▸ us)) p ps e =
    subst (λ x. KeptAt (Expr q) (negation (sequence (p ▸ x))) (sequence (p ▸ append ps (l ▸ last_by not_of (branch_seat q) (m ▸ us))))) (append_one ps l (m ▸ us))
    (subst (λ x. KeptAt (Expr q) (negation (sequence (p ▸ append (append ps (l ▸ none)) (m ▸ us)))) (sequence (p ▸ x))) (append_one ps l (last_by not_of (branch_seat q) (m ▸ us))) (parts_kept q (m ▸ us) p (append ps (l ▸ none)) refl))

whole_kept : (q : Seat) (t : Tree) → reaches_in t ≡ true → KeptAt (Expr q) (negation t) (whole q t)
whole_kept q (node (shape.LogicalExpression And) [] zero (a ▸ b ▸ none)) e =
    let x = whole (left_operand_seat Or q) a in
    let y = whole (right_operand_seat Or q) b in
    expressions_rewritten still (two a b) (two x y) (tt, tt, tt) (tt, tt, tt) (under_not (sides And)) (Logical Or) (part_of 0 ▹ part_of 1 ▹ end) refl (whole_written a (left_operand_seat Or q), (whole_written b (right_operand_seat Or q), tt)) q (negation (logical And a b)) (logical Or x y) refl refl
    (λ strict s f. let (takes, operand) = of_negation strict s (logical And a b) f in let (l, r) = of_two strict And a b operand in (l, (r, tt)))
whole_kept q (node (shape.LogicalExpression Or) [] zero (a ▸ b ▸ none)) e =
    let x = whole (left_operand_seat And q) a in
    let y = whole (right_operand_seat And q) b in
    expressions_rewritten still (two a b) (two x y) (tt, tt, tt) (tt, tt, tt) (under_not (sides Or)) (Logical And) (part_of 0 ▹ part_of 1 ▹ end) refl (whole_written a (left_operand_seat And q), (whole_written b (right_operand_seat And q), tt)) q (negation (logical Or a b)) (logical And x y) refl refl
    (λ strict s f. let (takes, operand) = of_negation strict s (logical Or a b) f in let (l, r) = of_two strict Or a b operand in (l, (r, tt)))
whole_kept q (node shape.SequenceExpression [] zero (node shape.Listed [] zero (a ▸ (b ▸ ts)) ▸ none)) e = parts_kept q (b ▸ ts) a none refl
whole_kept q t e = leaf_kept q t e

kept : (p : Position) (n w : Tree) → NegationRow p n w → KeptAt p n w
kept (Expr q) n w r = subst (λ t. KeptAt (Expr q) t w) (sym r.shape) (subst (KeptAt (Expr q) (negation r.e)) (sym r.written) (whole_kept q r.e r.inside))
kept p n w r = absurd r

pub negations_lawful : Lawful NegationContracts
negations_lawful =
    kept_is_lawful NegationContracts negations_same
    (record { fitting = λ p n w c strict s k e. row_fits p n w c.row strict s e; asked = λ p n w c. row_asked p n w c.row })
    (λ p n w c. places p n w c.row)
    (λ p n w c strict s k e. row_slot p n w c.row strict s e)
    (λ p n w c. kept p n w c.row)
