-- What a row of booleans writes keeps all that a program has to keep.
use Rattle.std.proofs.Common.{◌≡◌, ℕ, Bool, true, false, [], ◌∷◌, refl, sym, ap, subst, ◌∙◌, inl, inr, true≢false}
use Rattle.std.specs.Prelude.{◌&&◌, ◌||◌, not, pos, None, if◌then◌else◌}
use Rattle.std.proofs.lemmas.Bool.{and_parts}
use Rattle.mini_model.specs.declared.operator.LogicalOperator.TheVariants.{Or, And}
use Rattle.mini_model.specs.declared.operator.UnaryOperator.TheVariants.{LogicalNot, UnaryPlus}
use Rattle.mini_model.specs.declared.place.Position.{Position}
use Rattle.mini_model.specs.declared.place.Position.TheVariants.{Expr}
use Rattle.mini_model.specs.declared.seat.Seat.{Seat}
use Rattle.mini_model.specs.declared.shape.Shape.TheVariants as shape
use Rattle.mini_model.specs.Tree.{Tree, node, none, ◌▸◌, shape_of, is_absent, logical, conditional, negation}
use Rattle.mini_model.specs.Position.{left_operand_seat}
use Rattle.mini_model.specs.Terms.{not_of}
use Rattle.mini_accept.specs.WellShaped.{Slot, fits, is_function_body, has_optional, is_not_positive_number, spelling}
use Rattle.mini_kept.specs.KeepsNames.{is_rewritten_place}
use Rattle.mini_kept.specs.KeepsShapes.{AskedAlike, is_default}
use Rattle.mini_kept.specs.KeepsFrames.{is_body_slot}
use Rattle.mini_kept.specs.Lawful.{Lawful}
use Rattle.mini_kept.proofs.Bools.{left, both}
use Rattle.mini_kept.proofs.FrameRows.{expression_slot}
use Rattle.mini_kept.proofs.Expressions.{expression, TakesExpression, expression_taken, of_negation, of_conditional, two_fit, not_of_fits}
use Rattle.mini_terms.specs.Parts.{leaves_nothing}
use Rattle.mini_rows.specs.Arranged.{KeptAt}
use Rattle.mini_rows.specs.Sketches.{Unary, Number, Logical, Conditional, Sketch, Parts, part, under, end, ◌▹◌, Free, still}
use Rattle.mini_rows.specs.Spellings.{negated_digit}
use Rattle.mini_rows.specs.Booleans.{digit, chosen, giving, is_turned, tested, joined, Row25, KnownBranch, is_truth, truth_of, Row47Both, plus, plus_seat, as_boolean, ConvertedRow, BooleanRow, BooleanContracts}
use Rattle.mini_rows.proofs.ArrangedExpressions.{expressions_arranged, expressions_arranged_freely}
use Rattle.mini_rows.proofs.ArrangedLawful.{kept_is_lawful}
use Rattle.mini_rows.proofs.ArrangedNegations.{negation_written}
use Rattle.mini_rows.proofs.ArrangedOthers.{expressions_rewritten}
use Rattle.mini_rows.proofs.ArrangedRewritten.{unchanged}
use Rattle.mini_rows.proofs.BooleanMeaning.{booleans_same}
use Rattle.mini_rows.proofs.ChoiceShapes.{choice_taken}
use Rattle.mini_rows.proofs.FoldLawful.{vanishes}
use Rattle.mini_rows.proofs.SpellShapes.{a_logical}

-- ---- the same parts

digit_kept : (q : Seat) (n w : Tree) (b : Bool) → n ≡ negated_digit b → w ≡ digit b → KeptAt (Expr q) n w
digit_kept q n w true e f = expressions_arranged (record { trees = none; lists = [] }) (under (Unary LogicalNot) (under (Number (pos 0)) end ▹ end)) (under (Number (pos 1)) end) refl q n w e f
digit_kept q n w false e f = expressions_arranged (record { trees = none; lists = [] }) (under (Unary LogicalNot) (under (Number (pos 1)) end ▹ end)) (under (Number (pos 0)) end) refl q n w e f

abbrev first_dropped : Free
first_dropped = record { moved = []; lists_moved = []; dropped = 0 ∷ [] }

right_kept : (q : Seat) (n w : Tree) → Row25 q n w → KeptAt (Expr q) n w
right_kept q n w r = expressions_arranged_freely first_dropped (record { trees = r.right ▸ r.left ▸ none; lists = [] }) (tt, tt, (vanishes r.right r.dropped, tt)) (under (Logical r.operator) (part 1 ▹ part 0 ▹ end)) (part 1) refl q n w r.shape r.written

-- sketches of a conditional, whose part 0 is what is known, its part 1 the test, and its part 2 the other branch
abbrev consequent_known : Sketch
consequent_known = under Conditional (part 1 ▹ part 0 ▹ part 2 ▹ end)

abbrev alternate_known : Sketch
alternate_known = under Conditional (part 1 ▹ part 2 ▹ part 0 ▹ end)

abbrev parts : Tree → Tree → Tree → Parts
parts k a b = record { trees = k ▸ a ▸ b ▸ none; lists = [] }

-- of each the operator and the test, which is negated in its seat or not
form_kept : (q : Seat) (n w : Tree) (i c : Bool) (a k b : Tree) → leaves_nothing k ≡ true → n ≡ chosen i a k b → w ≡ joined q i c a b → KeptAt (Expr q) n w
form_kept q n w true true a k b d e f = expressions_arranged_freely first_dropped (parts k a b) (tt, tt, (vanishes k d, tt)) consequent_known (under (Logical Or) (part 1 ▹ part 2 ▹ end)) refl q n w e f
form_kept q n w false false a k b d e f = expressions_arranged_freely first_dropped (parts k a b) (tt, tt, (vanishes k d, tt)) alternate_known (under (Logical And) (part 1 ▹ part 2 ▹ end)) refl q n w e f
form_kept q n w true false a k b d e f =
    let x = not_of (left_operand_seat And q) a in
    expressions_rewritten first_dropped (parts k a b) (parts k x b) (tt, tt, (vanishes k d, tt)) (tt, tt, (vanishes k d, tt)) consequent_known (Logical And) (part 1 ▹ part 2 ▹ end) refl (negation_written (left_operand_seat And q) a, (unchanged b, tt)) q n w e f
    (λ strict s g. let (takes, (test, branch, other)) = of_conditional strict s a k b (subst (λ t. fits strict s t ≡ true) e g) in (test, (other, tt)))
form_kept q n w false true a k b d e f =
    let x = not_of (left_operand_seat Or q) a in
    expressions_rewritten first_dropped (parts k a b) (parts k x b) (tt, tt, (vanishes k d, tt)) (tt, tt, (vanishes k d, tt)) alternate_known (Logical Or) (part 1 ▹ part 2 ▹ end) refl (negation_written (left_operand_seat Or q) a, (unchanged b, tt)) q n w e f
    (λ strict s g. let (takes, (test, other, branch)) = of_conditional strict s a b k (subst (λ t. fits strict s t ≡ true) e g) in (test, (other, tt)))

branch_kept : (q : Seat) (n w : Tree) → KnownBranch q n w → KeptAt (Expr q) n w
branch_kept q n w f = form_kept q n w f.is_consequent f.truth f.test f.branch f.other f.dropped f.shape f.written

-- of a conditional the test alone

abbrev two_dropped : Free
two_dropped = record { moved = []; lists_moved = []; dropped = 0 ∷ 1 ∷ [] }

abbrev negated : Sketch → Sketch
negated s = under (Unary LogicalNot) (s ▹ end)

abbrev added : Sketch → Sketch
added s = under (Unary UnaryPlus) (s ▹ end)

truth_kept : (q : Seat) (n w : Tree) (c : Bool) (a k m : Tree) → leaves_nothing k ≡ true → leaves_nothing m ≡ true → n ≡ conditional a k m → w ≡ truth_of c a → KeptAt (Expr q) n w
truth_kept q n w true a k m d g e f = go (is_truth a) f
  where
    go : (b : Bool) → w ≡ (if b then a else negation (negation a)) → KeptAt (Expr q) n w
    go true f = expressions_arranged_freely two_dropped (record { trees = k ▸ m ▸ a ▸ none; lists = [] }) (tt, tt, (vanishes k d, (vanishes m g, tt))) (under Conditional (part 2 ▹ part 0 ▹ part 1 ▹ end)) (part 2) refl q n w e f
    go false f = expressions_arranged_freely two_dropped (record { trees = k ▸ m ▸ a ▸ none; lists = [] }) (tt, tt, (vanishes k d, (vanishes m g, tt))) (under Conditional (part 2 ▹ part 0 ▹ part 1 ▹ end)) (negated (negated (part 2))) refl q n w e f
truth_kept q n w false a k m d g e f = expressions_arranged_freely two_dropped (record { trees = k ▸ m ▸ a ▸ none; lists = [] }) (tt, tt, (vanishes k d, (vanishes m g, tt))) (under Conditional (part 2 ▹ part 0 ▹ part 1 ▹ end)) (negated (part 2)) refl q n w e f

both_kept : (q : Seat) (n w : Tree) → Row47Both n w → KeptAt (Expr q) n w
both_kept q n w r = let (consequent, alternate) = and_parts (leaves_nothing r.consequent) (leaves_nothing r.alternate) r.dropped in truth_kept q n w r.truth r.test r.consequent r.alternate consequent alternate r.shape r.written

-- its test, and two digits
abbrev digits : ℕ → ℕ → Sketch
digits x y = under Conditional (part 0 ▹ under (Number (pos x)) end ▹ under (Number (pos y)) end ▹ end)

abbrev alone : Tree → Parts
alone a = record { trees = a ▸ none; lists = [] }

number_kept : (q : Seat) (n w : Tree) (c : Bool) (a : Tree) → n ≡ conditional a (digit c) (digit (not c)) → w ≡ plus (as_boolean c a) → KeptAt (Expr q) n w
number_kept q n w true a e f = go (is_truth a) f
  where
    go : (b : Bool) → w ≡ plus (if b then a else negation (negation a)) → KeptAt (Expr q) n w
    go true f = expressions_arranged (alone a) (digits 1 0) (added (part 0)) refl q n w e f
    go false f = expressions_arranged (alone a) (digits 1 0) (added (negated (negated (part 0)))) refl q n w e f
number_kept q n w false a e f =
    expressions_rewritten still (alone a) (alone (not_of plus_seat a)) (tt, tt, tt) (tt, tt, tt) (digits 0 1) (Unary UnaryPlus) (part 0 ▹ end) refl (negation_written plus_seat a, tt) q n w e f
    (λ strict s g. let (takes, (test, one, other)) = of_conditional strict s a (digit false) (digit true) (subst (λ t. fits strict s t ≡ true) e g) in (test, tt))

kept : (p : Position) (n w : Tree) → BooleanRow p n w → KeptAt p n w
kept (Expr q) n w (inl (inl r)) = digit_kept q n w r.truth r.shape r.written
kept (Expr q) n w (inl (inr r)) = right_kept q n w r
kept (Expr q) n w (inr (inl (inl r))) = branch_kept q n w r.form
kept (Expr q) n w (inr (inl (inr r))) = branch_kept q n w r.form
kept (Expr q) n w (inr (inr (inl r))) = both_kept q n w r
kept (Expr q) n w (inr (inr (inr r))) = number_kept q n w r.truth r.test r.shape r.written
kept p n w r = absurd r

places : (p : Position) (n w : Tree) → BooleanRow p n w → is_rewritten_place p ≡ true
places (Expr q) n w r = refl
places p n w r = absurd r

-- ---- where they stand

digit_fits : (strict b : Bool) → fits strict expression (digit b) ≡ true
digit_fits strict true = refl
digit_fits strict false = refl

of_digit : (strict : Bool) (s : Slot) (b : Bool) → fits strict s (negated_digit b) ≡ true → TakesExpression s
of_digit strict s true e = (of_negation strict s (digit false) e).0
of_digit strict s false e = (of_negation strict s (digit true) e).0

operands : (q : Seat) (strict : Bool) (s : Slot) (n w : Tree) (r : Row25 q n w) → fits strict s n ≡ true → TakesExpression s × (fits strict expression r.left ≡ true)
operands q strict s n w r e =
    let (takes, whole) = choice_taken strict s (a_logical r.operator) (r.left ▸ r.right ▸ none) refl (subst (λ t. fits strict s t ≡ true) r.shape e) in
    (takes, left (fits strict expression r.left) (fits strict expression r.right && true) whole)

tested_fits : (strict : Bool) (q : Seat) (t : Bool) (a : Tree) → fits strict expression a ≡ true → fits strict expression (tested q t a) ≡ true
tested_fits strict q true a e = not_of_fits strict q a e
tested_fits strict q false a e = e

-- the test and the other branch of a conditional
of_chosen : (strict : Bool) (s : Slot) (i : Bool) (a k b : Tree) → fits strict s (chosen i a k b) ≡ true → TakesExpression s × ((fits strict expression a ≡ true) × (fits strict expression b ≡ true))
of_chosen strict s true a k b e = let (takes, (test, branch, other)) = of_conditional strict s a k b e in (takes, (test, other))
of_chosen strict s false a k b e = let (takes, (test, other, branch)) = of_conditional strict s a b k e in (takes, (test, other))

of_form : (strict : Bool) (s : Slot) (q : Seat) (n w : Tree) (f : KnownBranch q n w) → fits strict s n ≡ true → TakesExpression s × ((fits strict expression f.test ≡ true) × (fits strict expression f.other ≡ true))
of_form strict s q n w f e = of_chosen strict s f.is_consequent f.test f.branch f.other (subst (λ t. fits strict s t ≡ true) f.shape e)

form_fits : (strict : Bool) (s : Slot) (q : Seat) (n w : Tree) → KnownBranch q n w → fits strict s n ≡ true → fits strict s w ≡ true
form_fits strict s q n w f e =
    let (takes, (test, other)) = of_form strict s q n w f e in
    let x = tested (left_operand_seat (giving f.truth) q) (is_turned f.is_consequent f.truth) f.test in
    subst (λ t. fits strict s t ≡ true) (sym f.written) (expression_taken strict s (logical (giving f.truth) x f.other) takes (two_fit strict x f.other (tested_fits strict (left_operand_seat (giving f.truth) q) (is_turned f.is_consequent f.truth) f.test test) other))

-- a test alone

negation_fits : (strict : Bool) (a : Tree) → fits strict expression a ≡ true → fits strict expression (negation a) ≡ true
negation_fits strict a e = both (fits strict expression a) true e refl

plus_fits : (strict : Bool) (a : Tree) → fits strict expression a ≡ true → fits strict expression (plus a) ≡ true
plus_fits strict a e = both (fits strict expression a) true e refl

truth_fits : (strict c : Bool) (a : Tree) → fits strict expression a ≡ true → fits strict expression (truth_of c a) ≡ true
truth_fits strict true a e = go (is_truth a)
  where
    go : (b : Bool) → fits strict expression (if b then a else negation (negation a)) ≡ true
    go true = e
    go false = negation_fits strict (negation a) (negation_fits strict a e)
truth_fits strict false a e = negation_fits strict a e

boolean_fits : (strict c : Bool) (a : Tree) → fits strict expression a ≡ true → fits strict expression (as_boolean c a) ≡ true
boolean_fits strict true a e = truth_fits strict true a e
boolean_fits strict false a e = not_of_fits strict plus_seat a e

converted_fits : (strict : Bool) (s : Slot) (n w : Tree) → ConvertedRow n w → fits strict s n ≡ true → fits strict s w ≡ true
converted_fits strict s n w (inl r) e =
    let (takes, (test, consequent, alternate)) = of_conditional strict s r.test r.consequent r.alternate (subst (λ t. fits strict s t ≡ true) r.shape e) in
    subst (λ t. fits strict s t ≡ true) (sym r.written) (expression_taken strict s (truth_of r.truth r.test) takes (truth_fits strict r.truth r.test test))
converted_fits strict s n w (inr r) e =
    let (takes, (test, consequent, alternate)) = of_conditional strict s r.test (digit r.truth) (digit (not r.truth)) (subst (λ t. fits strict s t ≡ true) r.shape e) in
    subst (λ t. fits strict s t ≡ true) (sym r.written) (expression_taken strict s (plus (as_boolean r.truth r.test)) takes (plus_fits strict (as_boolean r.truth r.test) (boolean_fits strict r.truth r.test test)))

of_converted : (strict : Bool) (s : Slot) (n w : Tree) → ConvertedRow n w → fits strict s n ≡ true → TakesExpression s
of_converted strict s n w (inl r) e = (of_conditional strict s r.test r.consequent r.alternate (subst (λ t. fits strict s t ≡ true) r.shape e)).0
of_converted strict s n w (inr r) e = (of_conditional strict s r.test (digit r.truth) (digit (not r.truth)) (subst (λ t. fits strict s t ≡ true) r.shape e)).0

row_fits : (p : Position) (n w : Tree) → BooleanRow p n w → (strict : Bool) (s : Slot) → fits strict s n ≡ true → fits strict s w ≡ true
row_fits (Expr q) n w (inl (inl r)) strict s e = subst (λ t. fits strict s t ≡ true) (sym r.written) (expression_taken strict s (digit r.truth) (of_digit strict s r.truth (subst (λ t. fits strict s t ≡ true) r.shape e)) (digit_fits strict r.truth))
row_fits (Expr q) n w (inl (inr r)) strict s e = let (takes, first) = operands q strict s n w r e in subst (λ t. fits strict s t ≡ true) (sym r.written) (expression_taken strict s r.left takes first)
row_fits (Expr q) n w (inr (inl (inl r))) strict s e = form_fits strict s q n w r.form e
row_fits (Expr q) n w (inr (inl (inr r))) strict s e = form_fits strict s q n w r.form e
row_fits (Expr q) n w (inr (inr r)) strict s e = converted_fits strict s n w r e
row_fits p n w r strict s e = absurd r

row_slot : (p : Position) (n w : Tree) → BooleanRow p n w → (strict : Bool) (s : Slot) → fits strict s n ≡ true → is_body_slot p s ≡ true
row_slot (Expr q) n w (inl (inl r)) strict s e = expression_slot (Expr q) s (of_digit strict s r.truth (subst (λ t. fits strict s t ≡ true) r.shape e))
row_slot (Expr q) n w (inl (inr r)) strict s e = expression_slot (Expr q) s (operands q strict s n w r e).0
row_slot (Expr q) n w (inr (inl (inl r))) strict s e = expression_slot (Expr q) s (of_form strict s q n w r.form e).0
row_slot (Expr q) n w (inr (inl (inr r))) strict s e = expression_slot (Expr q) s (of_form strict s q n w r.form e).0
row_slot (Expr q) n w (inr (inr r)) strict s e = expression_slot (Expr q) s (of_converted strict s n w r e)
row_slot p n w r strict s e = absurd r

-- ---- what a parent asks of them

-- a node of which a parent asks nothing that another expression hasn't
record Asks (n : Tree) : Type 0 where
  absent : is_absent n ≡ false
  body : is_function_body n ≡ false
  optional : has_optional n ≡ false
  spelled : spelling n ≡ None
  plain : is_default (shape_of n) ≡ false

only_truth : (b c : Bool) → b || c ≡ false → b ≡ false
only_truth false c e = refl
only_truth true c e = e

asked_by : (q : Seat) (n w : Tree) → Asks n → (q.boolean ≡ false → is_not_positive_number w ≡ true) → AskedAlike (Expr q) n w
asked_by q n w a k = record {
  absent = λ e. absurd (true≢false (sym e ∙ a.absent));
  body = λ e. absurd (true≢false (sym e ∙ a.body));
  optional = λ e. absurd (true≢false (sym e ∙ a.optional));
  number = λ asks e. k (only_truth q.boolean (not q.minus) asks);
  spelled = λ s e. absurd (cc (sym e ∙ a.spelled));
  plain = a.plain;
}

asks_digit : (b : Bool) → Asks (negated_digit b)
asks_digit true = record { absent = refl; body = refl; optional = refl; spelled = refl; plain = refl }
asks_digit false = record { absent = refl; body = refl; optional = refl; spelled = refl; plain = refl }

asks_chosen : (i : Bool) (a k b : Tree) → Asks (chosen i a k b)
asks_chosen true a k b = record { absent = refl; body = refl; optional = refl; spelled = refl; plain = refl }
asks_chosen false a k b = record { absent = refl; body = refl; optional = refl; spelled = refl; plain = refl }

form_asked : (q : Seat) (n w : Tree) → KnownBranch q n w → AskedAlike (Expr q) n w
form_asked q n w f = asked_by q n w (subst Asks (sym f.shape) (asks_chosen f.is_consequent f.test f.branch f.other)) (λ b. ap is_not_positive_number f.written)

no_number : (a : Tree) → is_truth a ≡ true → is_not_positive_number a ≡ true
no_number (node (shape.NumericLiteral m) xs n ts) e = absurd (true≢false (sym e))
no_number (node h xs n ts) e = refl

truth_is_no_number : (c : Bool) (a : Tree) → is_not_positive_number (truth_of c a) ≡ true
truth_is_no_number true a = go (is_truth a) refl
  where
    go : (b : Bool) → is_truth a ≡ b → is_not_positive_number (if b then a else negation (negation a)) ≡ true
    go true h = no_number a h
    go false h = refl
truth_is_no_number false a = refl

row_asked : (p : Position) (n w : Tree) → BooleanRow p n w → AskedAlike p n w
row_asked (Expr q) n w (inl (inl r)) = asked_by q n w (subst Asks (sym r.shape) (asks_digit r.truth)) (λ b. absurd (true≢false (sym r.asked ∙ b)))
row_asked (Expr q) n w (inl (inr r)) = asked_by q n w (subst Asks (sym r.shape) (record { absent = refl; body = refl; optional = refl; spelled = refl; plain = refl })) (λ b. absurd (true≢false (sym r.asked ∙ b)))
row_asked (Expr q) n w (inr (inl (inl r))) = form_asked q n w r.form
row_asked (Expr q) n w (inr (inl (inr r))) = form_asked q n w r.form
row_asked (Expr q) n w (inr (inr (inl r))) = asked_by q n w (subst Asks (sym r.shape) (asks_chosen true r.test r.consequent r.alternate)) (λ b. ap is_not_positive_number r.written ∙ truth_is_no_number r.truth r.test)
row_asked (Expr q) n w (inr (inr (inr r))) = asked_by q n w (subst Asks (sym r.shape) (asks_chosen true r.test (digit r.truth) (digit (not r.truth)))) (λ b. ap is_not_positive_number r.written)
row_asked p n w r = absurd r

pub booleans_lawful : Lawful BooleanContracts
booleans_lawful =
    kept_is_lawful BooleanContracts booleans_same
    (record { fitting = λ p n w c strict s k e. row_fits p n w c.row strict s e; asked = λ p n w c. row_asked p n w c.row })
    (λ p n w c. places p n w c.row)
    (λ p n w c strict s k e. row_slot p n w c.row strict s e)
    (λ p n w c. kept p n w c.row)
