-- What a row of names that can be written writes keeps all that a program has to keep, where they can: it is built anew of the same
-- parts.
use Rattle.std.proofs.Common.{◌≡◌, Bool, true, false, [], refl, sym, ap, subst, ◌∙◌, inl, inr}
use Rattle.mini_model.specs.declared.name.Name.{Name}
use Rattle.mini_model.specs.declared.operator.AssignmentOperator.TheVariants.{Assign}
use Rattle.mini_model.specs.declared.operator.BinaryOperator.{BinaryOperator}
use Rattle.mini_model.specs.declared.operator.BinaryOperator.TheVariants.{Equality, Inequality}
use Rattle.mini_model.specs.declared.operator.LogicalOperator.TheVariants.{Coalesce}
use Rattle.mini_model.specs.declared.place.Position.{Position}
use Rattle.mini_model.specs.declared.place.Position.TheVariants.{Expr}
use Rattle.mini_model.specs.declared.seat.Seat.{Seat}
use Rattle.mini_model.specs.Tree.{Tree, none, ◌▸◌, identifier, logical, null_literal}
use Rattle.mini_accept.specs.WellShaped.{Slot, fits}
use Rattle.mini_laws.specs.Naming.{summary}
use Rattle.mini_laws.specs.Value.{VariableSet}
use Rattle.mini_kept.specs.Loosely.{SameWith}
use Rattle.mini_kept.specs.KeepsFrames.{is_body_slot}
use Rattle.mini_kept.specs.KeepsNames.{is_rewritten_place}
use Rattle.mini_kept.specs.KeepsShapes.{AskedAlike}
use Rattle.mini_kept.proofs.FixedSteps.{fixed_anyway}
use Rattle.mini_kept.proofs.Expressions.{expression, of_conditional, TakesExpression, expression_taken, two_fit}
use Rattle.mini_kept.proofs.FrameSteps.{kept_are_shown}
use Rattle.mini_rows.specs.Arranged.{KeptAt}
use Rattle.mini_rows.specs.Choices.{assign, deciding}
use Rattle.mini_rows.specs.Sketches.{Sketch, Binary, Conditional, Logical, Null, part, under, end, ◌▹◌}
use Rattle.mini_rows.specs.Spellings.{assignment, binary}
use Rattle.mini_rows.specs.Unused.{resolved}
use Rattle.mini_rows.specs.Writes.{Row34, if_null, Row46Assigned, WriteRow, WritesAreLawful}
use Rattle.mini_rows.proofs.ArrangedExpressions.{expressions_arranged_freely}
use Rattle.mini_rows.proofs.ChoiceLawful.{retargeted, name_vanishes, first_dropped, assigns_first, assigns_part}
use Rattle.mini_rows.proofs.ChoiceShapes.{choice_taken, of_two, assignment_fits, of_assignment}
use Rattle.mini_rows.proofs.SpellShapes.{a_conditional, a_logical, an_assignment, Formed, formed_asked, formed_slot}
use Rattle.mini_rows.proofs.WriteChains.{chained_same, chained_read, chained_fits, chained_slot, chained_asked, chained_kept}
use Rattle.mini_rows.proofs.WriteMeaning.{assigned_same, combined_same, if_null_read}
use Rattle.mini_rows.proofs.WriteNullish.{nullish_same, nullish_read, nullish_fits, nullish_formed, nullish_kept}

-- ---- 34

combined_kept : (W : VariableSet) (q : Seat) (n w : Tree) → Row34 W n w → KeptAt (Expr q) n w
combined_kept W q n w r =
    let x : Name = resolved r.spelling r.symbol in
    subst (KeptAt (Expr q) n) (sym r.written)
    (retargeted (deciding r.operator) x r.b q n (expressions_arranged_freely first_dropped (record { trees = identifier x ▸ r.b ▸ none; lists = [] }) (tt, tt, (name_vanishes x, tt)) (assigns_first (under (Logical r.operator) (part 0 ▹ part 1 ▹ end))) (assigns_first (part 1)) refl q n (assign x r.b) r.shape refl))

combined_fits : (W : VariableSet) (n w : Tree) → Row34 W n w → (strict : Bool) (s : Slot) → fits strict s n ≡ true → fits strict s w ≡ true
combined_fits W n w r strict s e =
    let x : Name = resolved r.spelling r.symbol in
    let (here, fit) = choice_taken strict s (an_assignment Assign) (identifier x ▸ logical r.operator (identifier x) r.b ▸ none) refl (sym (ap (fits strict s) r.shape) ∙ e) in
    let (first, rest) = of_assignment strict Assign x (logical r.operator (identifier x) r.b) fit in
    ap (fits strict s) r.written ∙ expression_taken strict s (assignment (deciding r.operator) (identifier x) r.b) here (assignment_fits strict (deciding r.operator) x r.b first (of_two strict (identifier x) r.b rest).1)

combined_formed : (W : VariableSet) (n w : Tree) → Row34 W n w → Formed n w
combined_formed W n w r =
    let x : Name = resolved r.spelling r.symbol in
    record { first = an_assignment Assign; second = an_assignment (deciding r.operator); parts = identifier x ▸ logical r.operator (identifier x) r.b ▸ none; others = identifier x ▸ r.b ▸ none; read = r.shape; made = r.written; optional = λ y. absurd (cc y) }

-- ---- 46

abbrev beside_null : BinaryOperator → Sketch
beside_null o = under (Binary o) (assigns_part Assign (part 1) ▹ under Null end ▹ end)

assigned_kept : (W : VariableSet) (q : Seat) (n w : Tree) → Row46Assigned W n w → KeptAt (Expr q) n w
assigned_kept W q n w r = by r.equal r.shape
  where
    x : Name
    x = resolved r.spelling r.symbol

    by : (equal : Bool) → n ≡ if_null equal (assign x r.a) r.b (identifier x) → KeptAt (Expr q) n w
    by true f = expressions_arranged_freely first_dropped (record { trees = identifier x ▸ r.a ▸ r.b ▸ none; lists = [] }) (tt, tt, (name_vanishes x, tt)) (under Conditional (beside_null Equality ▹ part 2 ▹ part 0 ▹ end)) (under (Logical Coalesce) (assigns_part Assign (part 1) ▹ part 2 ▹ end)) refl q n w f r.written
    by false f = expressions_arranged_freely first_dropped (record { trees = identifier x ▸ r.a ▸ r.b ▸ none; lists = [] }) (tt, tt, (name_vanishes x, tt)) (under Conditional (beside_null Inequality ▹ part 0 ▹ part 2 ▹ end)) (under (Logical Coalesce) (assigns_part Assign (part 1) ▹ part 2 ▹ end)) refl q n w f r.written

assigned_fits : (W : VariableSet) (n w : Tree) → Row46Assigned W n w → (strict : Bool) (s : Slot) → fits strict s n ≡ true → fits strict s w ≡ true
assigned_fits W n w r strict s e = by r.equal r.shape
  where
    x : Name
    x = resolved r.spelling r.symbol

    test : BinaryOperator → Tree
    test o = binary o (assign x r.a) null_literal

    made : (o : BinaryOperator) → TakesExpression s → fits strict expression (test o) ≡ true → fits strict expression r.b ≡ true → fits strict s w ≡ true
    made o here f g = ap (fits strict s) r.written ∙ expression_taken strict s (logical Coalesce (assign x r.a) r.b) here (two_fit strict (assign x r.a) r.b (of_two strict (assign x r.a) null_literal f).0 g)

    by : (equal : Bool) → n ≡ if_null equal (assign x r.a) r.b (identifier x) → fits strict s w ≡ true
    by true f =
        let (here, fit) = choice_taken strict s a_conditional (test Equality ▸ r.b ▸ identifier x ▸ none) refl (sym (ap (fits strict s) f) ∙ e) in
        let (asked, first, second) = (of_conditional strict expression (test Equality) r.b (identifier x) fit).1 in
        made Equality here asked first
    by false f =
        let (here, fit) = choice_taken strict s a_conditional (test Inequality ▸ identifier x ▸ r.b ▸ none) refl (sym (ap (fits strict s) f) ∙ e) in
        let (asked, first, second) = (of_conditional strict expression (test Inequality) (identifier x) r.b fit).1 in
        made Inequality here asked second

assigned_formed : (W : VariableSet) (n w : Tree) → Row46Assigned W n w → Formed n w
assigned_formed W n w r = by r.equal r.shape
  where
    x : Name
    x = resolved r.spelling r.symbol

    by : (equal : Bool) → n ≡ if_null equal (assign x r.a) r.b (identifier x) → Formed n w
    by true f = record { first = a_conditional; second = a_logical Coalesce; parts = binary Equality (assign x r.a) null_literal ▸ r.b ▸ identifier x ▸ none; others = assign x r.a ▸ r.b ▸ none; read = f; made = r.written; optional = λ y. absurd (cc y) }
    by false f = record { first = a_conditional; second = a_logical Coalesce; parts = binary Inequality (assign x r.a) null_literal ▸ identifier x ▸ r.b ▸ none; others = assign x r.a ▸ r.b ▸ none; read = f; made = r.written; optional = λ y. absurd (cc y) }

-- ---- all

writes_same : (W : VariableSet) (p : Position) (n w : Tree) → WriteRow W p n w → SameWith W p n w
writes_same W (Expr s) n w (inl r) = record { by = λ e z q f. combined_same W n w r e z.writable q }
writes_same W (Expr s) n w (inr (inl r)) = record { by = λ e z q f. assigned_same W n w r e z.writable q }
writes_same W (Expr s) n w (inr (inr (inl r))) = record { by = λ e z q f. nullish_same W n w r e z.writable q }
writes_same W (Expr s) n w (inr (inr (inr r))) = record { by = λ e z q f. chained_same W s n w r e z.writable q f }
writes_same W p n w r = absurd r

writes_read : (W : VariableSet) (p : Position) (n w : Tree) → WriteRow W p n w → summary n ≡ summary w
writes_read W (Expr s) n w (inl r) = ap summary r.shape ∙ sym (ap summary r.written)
writes_read W (Expr s) n w (inr (inl r)) = let x : Name = resolved r.spelling r.symbol in ap summary r.shape ∙ if_null_read r.equal (assign x r.a) r.b (identifier x) (assign x r.a) r.b ∙ sym (ap summary r.written)
writes_read W (Expr s) n w (inr (inr (inl r))) = nullish_read W n w r
writes_read W (Expr s) n w (inr (inr (inr r))) = chained_read W s n w r
writes_read W p n w r = absurd r

kept : (W : VariableSet) (p : Position) (n w : Tree) → WriteRow W p n w → KeptAt p n w
kept W (Expr q) n w (inl r) = combined_kept W q n w r
kept W (Expr q) n w (inr (inl r)) = assigned_kept W q n w r
kept W (Expr q) n w (inr (inr (inl r))) = nullish_kept W q n w r
kept W (Expr q) n w (inr (inr (inr r))) = chained_kept W q n w r
kept W p n w r = absurd r

places : (W : VariableSet) (p : Position) (n w : Tree) → WriteRow W p n w → is_rewritten_place p ≡ true
places W (Expr q) n w r = refl
places W p n w r = absurd r

row_fits : (W : VariableSet) (p : Position) (n w : Tree) → WriteRow W p n w → (strict : Bool) (s : Slot) → fits strict s n ≡ true → fits strict s w ≡ true
row_fits W (Expr q) n w (inl r) strict s e = combined_fits W n w r strict s e
row_fits W (Expr q) n w (inr (inl r)) strict s e = assigned_fits W n w r strict s e
row_fits W (Expr q) n w (inr (inr (inl r))) strict s e = nullish_fits W n w r strict s e
row_fits W (Expr q) n w (inr (inr (inr r))) strict s e = chained_fits W q n w r strict s e
row_fits W p n w r strict s e = absurd r

row_asked : (W : VariableSet) (p : Position) (n w : Tree) → WriteRow W p n w → AskedAlike p n w
row_asked W (Expr q) n w (inl r) = formed_asked (Expr q) n w (combined_formed W n w r)
row_asked W (Expr q) n w (inr (inl r)) = formed_asked (Expr q) n w (assigned_formed W n w r)
row_asked W (Expr q) n w (inr (inr (inl r))) = formed_asked (Expr q) n w (nullish_formed W n w r)
row_asked W (Expr q) n w (inr (inr (inr r))) = chained_asked W q n w r
row_asked W p n w r = absurd r

row_slot : (W : VariableSet) (p : Position) (n w : Tree) → WriteRow W p n w → (strict : Bool) (s : Slot) → fits strict s n ≡ true → is_body_slot p s ≡ true
row_slot W (Expr q) n w (inl r) = formed_slot (Expr q) n w (combined_formed W n w r)
row_slot W (Expr q) n w (inr (inl r)) = formed_slot (Expr q) n w (assigned_formed W n w r)
row_slot W (Expr q) n w (inr (inr (inl r))) = formed_slot (Expr q) n w (nullish_formed W n w r)
row_slot W (Expr q) n w (inr (inr (inr r))) = chained_slot W q n w r
row_slot W p n w r = absurd r

pub writes_lawful : WritesAreLawful
writes_lawful K W = record {
  shapes = record { fitting = λ p n w c strict s k e. row_fits W p n w c.row strict s e; asked = λ p n w c. row_asked W p n w c.row };
  places = record {
    names = record { places = λ p n w c. inl (places W p n w c.row); pieces = λ p n w c. (kept W p n w c.row).piece; keeps = λ p n w c. (kept W p n w c.row).keeps };
    slots = λ p n w c strict s k e. inl (inl (row_slot W p n w c.row strict s e));
    ports = λ p n w c strict d e m. inl ((kept W p n w c.row).ports strict d e m);
    listed = λ p n w e c. (kept W p n w c.row).listed e;
    exported = λ p n w c strict e. inl ((kept W p n w c.row).exported strict e);
  };
  reads = λ p n w c. writes_read W p n w c.row;
  kind = λ p n w c. (kept W p n w c.row).kind;
  declared = λ p n w c. (kept W p n w c.row).declared;
  instances = λ p n w c.
      let k = kept W p n w c.row in
      inl (record { same = writes_same W p n w c.row; fixed = fixed_anyway p n w k.fixed; frames = λ strict s x e. kept_are_shown n w (k.frames strict s x e); bodies = k.bodies });
}
