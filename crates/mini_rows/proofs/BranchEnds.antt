-- The rows of an `if` whose test is a sequence that ends in a `!`: what is written means the same, is lighter, and has the same parts.
use Rattle.std.proofs.Common.{◌≡◌, ℕ, ◌+◌, ◌*◌, ◌≤◌, Bool, true, false, List, [], ◌∷◌, None, refl, sym, ap, subst, ◌∙◌, inl, inr, arith}
use Rattle.std.specs.Prelude.{not, pos, negsuc, nat_lt, if◌then◌else◌}
use borrow.Author.Tests.{ltb-true}
use Rattle.mini_model.specs.declared.operator.BinaryOperator.TheVariants as binary_operator
use Rattle.mini_model.specs.declared.operator.LogicalOperator.TheVariants.{Or, And, Coalesce}
use Rattle.mini_model.specs.declared.place.Position.TheVariants.{Expr, Stmt}
use Rattle.mini_model.specs.declared.seat.Seat.{Seat}
use Rattle.mini_model.specs.declared.seat.StmtSeat.{StmtSeat}
use Rattle.mini_model.specs.declared.seat.StmtSeat.TheVariants as stmt_seat
use Rattle.mini_model.specs.declared.shape.Shape.{Shape}
use Rattle.mini_model.specs.declared.shape.Shape.TheVariants as shape
use Rattle.mini_model.specs.Paths.{append}
use Rattle.mini_model.specs.Tree.{Tree, Trees, none, ◌▸◌, count, listed, absent, negation, logical, expression_statement, if_else, if_alone}
use Rattle.mini_model.specs.Position.{if_test_seat, statement_expression_seat, left_operand_seat, right_operand_seat, not_operand_seat, passed_part_seat}
use Rattle.mini_model.specs.Terms.{not_of}
use Rattle.mini_model.specs.Weight.{Outline, outlines, place_weight, weight}
use Rattle.mini_accept.specs.WellShaped.{Slot, fits}
use Rattle.mini_laws.specs.declared.names.Use.TheVariants.{Read}
use Rattle.mini_laws.specs.Bodies.{bodies}
use Rattle.mini_laws.specs.Value.{choose}
use Rattle.mini_laws.specs.State.{State, ok, stop, either, Environment}
use Rattle.mini_laws.specs.Demand.{Unused, Test, As, Stat}
use Rattle.mini_laws.specs.Step.{means}
use Rattle.mini_laws.proofs.Runs.{either_cong, either_assoc, each_bool}
use Rattle.mini_laws.proofs.Seats.{placed, moved}
use Rattle.mini_kept.specs.AlikeBodies.{BodiesKept}
use Rattle.mini_kept.proofs.Expressions.{expression}
use Rattle.mini_kept.proofs.Rows.{of_if, of_statement, of_last_statement}
use Rattle.mini_rows.specs.Arranged.{WrittenFor, KeptAt}
use Rattle.mini_rows.specs.Branches.{IsEmpty, Ending, not_of_all, after, with_not, without_not, Row82EndsAnd, Row82Ends}
use Rattle.mini_rows.specs.Lists.{of_parts, sequence}
use Rattle.mini_rows.specs.Sketches.{AbsentPart, Empty, Block, If, Logical, OfExpression, Sequence, AsValue, Sketch, Parts, part as part_of, under, list, no_items, item, items, end, ◌▹◌, still}
use Rattle.mini_rows.proofs.ArrangedNegations.{at_quiet, negation_written}
use Rattle.mini_rows.proofs.ArrangedRewritten.{new_inner, new_fixed, new_declared, new_once, new_targets, new_scoped, new_symbols, new_numbers, new_bodies, new_frames, statements_rewritten, unchanged}
use Rattle.mini_rows.proofs.BranchMeaning.{SameStatement, equal_statement, replaced, empty_does, not_test, by_negated, and_unused, or_unused}
use Rattle.mini_rows.proofs.ListParts.{joined_is}
use Rattle.mini_rows.proofs.ListShapes.{both_fit, first_fits, parts_fit}
use Rattle.mini_rows.proofs.ListStatements.{expression_is, if_is, absent_is}
use Rattle.mini_rows.proofs.ListWeights.{parts_total, parts_weight, sequence_weighs}
use Rattle.mini_rows.proofs.SequenceEnds.{last_fits}
use Rattle.mini_rows.proofs.SequenceMeaning.{several}

-- ---- meaning

-- the parts but the last, and then the last, of which the truth is asked
last_tested : (e : Environment) (p : Tree) (ps : Trees) (q : Tree) (s : State) → means e (sequence (p ▸ append ps (q ▸ none))) (As Test) tt s ≡ either (means e (of_parts p ps) (As Unused) tt s) (λ u z. means e q (As Test) tt z) (λ x z. stop x z)
last_tested e p ps q s = ap (λ t. means e t (As Test) tt s) (sym (several p ps q)) ∙ joined_is e p ps q none Test s

ends_negated : (e : Environment) (c : Ending) (s : State) → means e (with_not c) (As Test) tt s ≡ either (means e (without_not c) (As Test) tt s) (λ t z. ok (not t) z) (λ x z. stop x z)
unfolding either
ends_negated e (not_of_all a) s = not_test e a s
ends_negated e (after p ps c) s =
    last_tested e p ps (with_not c) s
    ∙ either_cong (means e (of_parts p ps) (As Unused) tt s) _ _ _ _ (λ u z. ends_negated e c z) (λ x z. refl)
    ∙ sym (ap (λ y. either y (λ t z. ok (not t) z) (λ x z. stop x z)) (last_tested e p ps (without_not c) s) ∙ either_assoc (means e (of_parts p ps) (As Unused) tt s) (λ u z. means e (without_not c) (As Test) tt z) (λ x z. stop x z) (λ t z. ok (not t) z) (λ x z. stop x z))

or_same : (c : Ending) (b : Tree) → SameStatement (if_alone (with_not c) (expression_statement b)) (expression_statement (logical Or (without_not c) b))
or_same c b = equal_statement _ _ (λ e ls s.
    if_is e (with_not c) (expression_statement b) absent ls s
    ∙ ap (λ x. either x (λ t z. choose t (means e (expression_statement b) (Stat None) [] z) (means e absent (Stat None) [] z)) (λ x z. stop x z)) (ends_negated e c s)
    ∙ by_negated (means e (without_not c) (As Test) tt s) (λ z. means e (expression_statement b) (Stat None) [] z) (λ z. means e absent (Stat None) [] z)
    ∙ either_cong (means e (without_not c) (As Test) tt s) _ _ _ _ (each_bool _ (λ z. absent_is e [] z) (λ z. expression_is e b [] z)) (λ x z. refl)
    ∙ sym (expression_is e (logical Or (without_not c) b) ls s ∙ or_unused e (without_not c) b s)) refl

and_same : (c : Ending) (t b : Tree) → IsEmpty t → SameStatement (if_else (with_not c) t (expression_statement b)) (expression_statement (logical And (without_not c) b))
and_same c t b h = equal_statement _ _ (λ e ls s.
    if_is e (with_not c) t (expression_statement b) ls s
    ∙ ap (λ x. either x (λ u z. choose u (means e t (Stat None) [] z) (means e (expression_statement b) (Stat None) [] z)) (λ x z. stop x z)) (ends_negated e c s)
    ∙ by_negated (means e (without_not c) (As Test) tt s) (λ z. means e t (Stat None) [] z) (λ z. means e (expression_statement b) (Stat None) [] z)
    ∙ either_cong (means e (without_not c) (As Test) tt s) _ _ _ _ (each_bool _ (λ z. expression_is e b [] z) (λ z. empty_does e t h [] z)) (λ x z. refl)
    ∙ sym (expression_is e (logical And (without_not c) b) ls s ∙ and_unused e (without_not c) b s)) refl

pub ends_same : (n w : Tree) → Row82Ends n w → SameStatement n w
ends_same n w (inl r) = replaced n _ w _ r.shape r.written (or_same (after r.first r.others r.last) r.b)
ends_same n w (inr r) = replaced n _ w _ r.shape r.written (and_same (after r.first r.others r.last) r.empty r.b r.is_empty)

-- ---- weights

marks : (h : Shape) (os : List Outline) → place_weight (Expr passed_part_seat) h os ≤ place_weight (Expr not_operand_seat) h os + 0
marks shape.SequenceExpression os = omega arith
marks (shape.LogicalExpression Or) os = omega arith
marks (shape.LogicalExpression And) os = omega arith
marks (shape.LogicalExpression Coalesce) os = omega arith
marks (shape.BinaryExpression binary_operator.BitwiseOr) os = omega arith
marks (shape.BinaryExpression binary_operator.BitwiseXor) os = omega arith
marks (shape.BinaryExpression binary_operator.BitwiseAnd) os = omega arith
marks (shape.BinaryExpression o) os = omega arith
marks (shape.NumericLiteral (pos n)) os = omega arith
marks (shape.NumericLiteral (negsuc n)) os = omega arith
marks h os = omega arith

-- a part is never heavier than as the operand of a `!`
part_falls : (a : Tree) → weight (Expr passed_part_seat) a ≤ weight (Expr not_operand_seat) a + 0
part_falls a = placed 0 passed_part_seat not_operand_seat refl marks a

total_append : (a b : Trees) → parts_total (append a b) + 2 * count (append a b) ≡ parts_total a + 2 * count a + parts_total b + 2 * count b
total_append none b = omega arith
total_append (t ▸ a) b = let rest = total_append a b in omega (arith, rest)

parts_fall : (p : Tree) (ps : Trees) (m l : Tree) → weight (Expr passed_part_seat) m + 2 ≤ weight (Expr passed_part_seat) l → parts_weight p (append ps (m ▸ none)) + 2 ≤ parts_weight p (append ps (l ▸ none))
parts_fall p ps m l h = let lighter = total_append ps (m ▸ none) in let heavier = total_append ps (l ▸ none) in omega (arith, lighter, heavier, h)

-- in one seat it falls by the `!`
ending_falls : (c : Ending) → weight (Expr passed_part_seat) (without_not c) + 2 ≤ weight (Expr passed_part_seat) (with_not c)
ending_falls (not_of_all a) = let falls = part_falls a in omega (arith, falls)
ending_falls (after p ps c) =
    let parts = parts_fall p ps (without_not c) (with_not c) (ending_falls c) in
    let before = sequence_weighs passed_part_seat p (append ps (with_not c ▸ none)) in
    let since = sequence_weighs passed_part_seat p (append ps (without_not c ▸ none)) in
    omega (arith, parts, before, since)

-- and as the left operand, where a sequence has parentheses and a mark
test_falls : (s : Seat) → ((os : List Outline) → place_weight (Expr s) shape.SequenceExpression os ≡ 5) → (p : Tree) (ps : Trees) (c : Ending) → weight (Expr s) (without_not (after p ps c)) ≤ weight (Expr if_test_seat) (with_not (after p ps c)) + 3
test_falls s h p ps c =
    let parts = parts_fall p ps (without_not c) (with_not c) (ending_falls c) in
    let before = sequence_weighs if_test_seat p (append ps (with_not c ▸ none)) in
    let since = sequence_weighs s p (append ps (without_not c ▸ none)) in
    let marks = h (outlines (listed (p ▸ append ps (without_not c ▸ none)) ▸ none)) in
    omega (arith, parts, before, since, marks)

or_falls : (q : StmtSeat) (p : Tree) (ps : Trees) (c : Ending) (b : Tree) → weight (Stmt q) (expression_statement (logical Or (without_not (after p ps c)) b)) + 2 ≤ weight (Stmt q) (if_alone (with_not (after p ps c)) (expression_statement b))
or_falls q p ps c b =
    let left = test_falls (left_operand_seat Or statement_expression_seat) (λ os. refl) p ps c in
    let right = moved (right_operand_seat Or statement_expression_seat) statement_expression_seat refl b in
    omega (arith, left, right)

empty_heavy : (t : Tree) → IsEmpty t → 2 ≤ weight (Stmt stmt_seat.Consequent) t
empty_heavy t (inl e) = let same = ap (weight (Stmt stmt_seat.Consequent)) e in omega (arith, same)
empty_heavy t (inr e) = let same = ap (weight (Stmt stmt_seat.Consequent)) e in omega (arith, same)

and_falls : (q : StmtSeat) (p : Tree) (ps : Trees) (c : Ending) (t b : Tree) → IsEmpty t → weight (Stmt q) (expression_statement (logical And (without_not (after p ps c)) b)) + 5 ≤ weight (Stmt q) (if_else (with_not (after p ps c)) t (expression_statement b))
and_falls q p ps c t b h =
    let empty = empty_heavy t h in
    let left = test_falls (left_operand_seat And statement_expression_seat) (λ os. refl) p ps c in
    let right = moved (right_operand_seat And statement_expression_seat) statement_expression_seat refl b in
    omega (arith, empty, left, right)

pub ends_lighter : (q : StmtSeat) (n w : Tree) → Row82Ends n w → weight (Stmt q) w + 2 ≤ weight (Stmt q) n
ends_lighter q n w (inl r) = let falls = or_falls q r.first r.others r.last r.b in omega (arith, falls, ap (weight (Stmt q)) r.shape, ap (weight (Stmt q)) r.written)
ends_lighter q n w (inr r) = let falls = and_falls q r.first r.others r.last r.empty r.b r.is_empty in omega (arith, falls, ap (weight (Stmt q)) r.shape, ap (weight (Stmt q)) r.written)

pub ends_fall : (q : StmtSeat) (n w : Tree) (r : Row82EndsAnd n w) → weight (Stmt q) (expression_statement (logical And (without_not (after r.first r.others r.last)) r.b)) + 5 ≤ weight (Stmt q) (if_else (with_not (after r.first r.others r.last)) r.empty (expression_statement r.b))
ends_fall q n w r = and_falls q r.first r.others r.last r.empty r.b r.is_empty

-- ---- the same parts

-- the operand may be written for a `!`, whose negation it is where only the truth is asked
lighter_one : (m n : Tree) (a b : ℕ) → b ≤ a → (if nat_lt a b then m else n) ≡ n
lighter_one m n a b h = go (nat_lt a b) refl
  where
    go : (c : Bool) → nat_lt a b ≡ c → (if c then m else n) ≡ n
    go true e = absurd (omega (arith, h, ltb-true a b e))
    go false e = refl

operand_is : (a : Tree) → not_of not_operand_seat (negation a) ≡ a
operand_is a = lighter_one (negation (negation a)) a (weight (Expr not_operand_seat) (negation (negation a))) (weight (Expr not_operand_seat) a) (omega arith)

abbrev pub in_order : Sketch
in_order = under Sequence (list (item (part_of 0) (items 0 (item (part_of 1) no_items))) ▹ end)

abbrev pub parts : Tree → Trees → Tree → Parts
parts p ps q = record { trees = p ▸ q ▸ none; lists = ps ∷ [] }

pub last_is : (strict : Bool) (p : Tree) (ps : Trees) (q : Tree) → fits strict expression (sequence (p ▸ append ps (q ▸ none))) ≡ true → (fits strict expression p ≡ true) × (fits strict expression q ≡ true)
last_is strict p ps q e =
    let all = parts_fit strict p (append ps (q ▸ none)) (subst (λ t. fits strict expression t ≡ true) (sym (several p ps q)) e) in
    let (firsts, lasts) = both_fit strict expression (p ▸ ps) (q ▸ none) all in
    ((first_fits strict expression p ps firsts).0, (first_fits strict expression q none lasts).0)

module _ (p : Tree) (ps : Trees) (q r : Tree) (l : WrittenFor q r) where
  pub last_written : WrittenFor (sequence (p ▸ append ps (q ▸ none))) (sequence (p ▸ append ps (r ▸ none)))
  last_written = record {
    fitting = λ strict e. last_fits strict p ps q e r (l.fitting strict);
    inner = new_inner still (parts p ps q) (parts p ps r) (tt, tt) (tt, tt) AsValue in_order refl (unchanged p, (refl, (l, tt)));
    scoped = λ env s. new_scoped still (parts p ps q) (parts p ps r) (tt, tt) (tt, tt) AsValue in_order refl (unchanged p, (refl, (l, tt))) Read env s;
    symbols = λ s. new_symbols still (parts p ps q) (parts p ps r) (tt, tt) (tt, tt) AsValue in_order refl (unchanged p, (refl, (l, tt))) Read s;
    numbers = λ k. new_numbers still (parts p ps q) (parts p ps r) (tt, tt) (tt, tt) AsValue in_order refl (unchanged p, (refl, (l, tt))) k;
    once = λ e. new_once still (parts p ps q) (parts p ps r) (tt, tt) (tt, tt) AsValue in_order refl (unchanged p, (refl, (l, tt))) e;
    targets = λ g e. new_targets still (parts p ps q) (parts p ps r) (tt, tt) (tt, tt) AsValue in_order refl (unchanged p, (refl, (l, tt))) g e;
    bodies = λ strict e c d i. let (f, g) = last_is strict p ps q e in
        subst (λ h. BodiesKept (bodies h (sequence (p ▸ append ps (q ▸ none)))) (bodies h (sequence (p ▸ append ps (r ▸ none))))) (at_quiet c d i)
        (new_bodies still (parts p ps q) (parts p ps r) (tt, tt) (tt, tt) AsValue in_order refl (unchanged p, (refl, (l, tt))) strict (f, (g, tt)) c);
    frames = λ strict e. let (f, g) = last_is strict p ps q e in new_frames still (parts p ps q) (parts p ps r) (tt, tt) (tt, tt) AsValue in_order refl (unchanged p, (refl, (l, tt))) strict (f, (g, tt));
    fixed = λ x. sym (new_fixed still (parts p ps q) (parts p ps r) (tt, tt) (tt, tt) AsValue in_order refl (unchanged p, (refl, (l, tt))) x);
    declared = λ x c. new_declared still (parts p ps q) (parts p ps r) (tt, tt) (tt, tt) AsValue in_order refl (unchanged p, (refl, (l, tt))) x c;
  }

pub ending_written : (c : Ending) → WrittenFor (with_not c) (without_not c)
ending_written (not_of_all a) = subst (WrittenFor (negation a)) (operand_is a) (negation_written not_operand_seat (negation a))
ending_written (after p ps c) = last_written p ps (with_not c) (without_not c) (ending_written c)

abbrev does : Sketch → Sketch
does s = under OfExpression (s ▹ end)

abbrev two : Tree → Tree → Parts
two a b = record { trees = a ▸ b ▸ none; lists = [] }

abbrev skipping : Sketch → Sketch
skipping s = under If (part_of 0 ▹ s ▹ does (part_of 1) ▹ end)

or_kept : (q : StmtSeat) (c : Ending) (b : Tree) (n w : Tree) → n ≡ if_alone (with_not c) (expression_statement b) → w ≡ expression_statement (logical Or (without_not c) b) → KeptAt (Stmt q) n w
or_kept q c b n w f g =
    statements_rewritten still (two (with_not c) b) (two (without_not c) b) (tt, tt, tt) (tt, tt, tt) (under If (part_of 0 ▹ does (part_of 1) ▹ under AbsentPart end ▹ end)) (does (under (Logical Or) (part_of 0 ▹ part_of 1 ▹ end))) refl (ending_written c, (unchanged b, tt)) q n w f g
    (λ strict s e. let (takes, (test, body, last)) = of_if strict s (with_not c) (expression_statement b) absent (subst (λ t. fits strict s t ≡ true) f e) in (test, (of_statement strict b body, tt)))

and_parts_fit : (c : Ending) (t b n : Tree) → n ≡ if_else (with_not c) t (expression_statement b) → (strict : Bool) (s : Slot) → fits strict s n ≡ true → (fits strict expression (with_not c) ≡ true) × ((fits strict expression b ≡ true) × Unit {0})
and_parts_fit c t b n f strict s e = let (takes, (test, empty, last)) = of_if strict s (with_not c) t (expression_statement b) (subst (λ x. fits strict s x ≡ true) f e) in (test, (of_last_statement strict b last, tt))

and_kept : (q : StmtSeat) (c : Ending) (t b : Tree) → IsEmpty t → (n w : Tree) → n ≡ if_else (with_not c) t (expression_statement b) → w ≡ expression_statement (logical And (without_not c) b) → KeptAt (Stmt q) n w
and_kept q c t b (inl h) n w f g =
    statements_rewritten still (two (with_not c) b) (two (without_not c) b) (tt, tt, tt) (tt, tt, tt) (skipping (under Empty end)) (does (under (Logical And) (part_of 0 ▹ part_of 1 ▹ end))) refl (ending_written c, (unchanged b, tt)) q n w (f ∙ ap (λ x. if_else (with_not c) x (expression_statement b)) h) g
    (and_parts_fit c t b n f)
and_kept q c t b (inr h) n w f g =
    statements_rewritten still (two (with_not c) b) (two (without_not c) b) (tt, tt, tt) (tt, tt, tt) (skipping (under Block (list no_items ▹ end))) (does (under (Logical And) (part_of 0 ▹ part_of 1 ▹ end))) refl (ending_written c, (unchanged b, tt)) q n w (f ∙ ap (λ x. if_else (with_not c) x (expression_statement b)) h) g
    (and_parts_fit c t b n f)

pub ends_kept : (q : StmtSeat) (n w : Tree) → Row82Ends n w → KeptAt (Stmt q) n w
ends_kept q n w (inl r) = or_kept q (after r.first r.others r.last) r.b n w r.shape r.written
ends_kept q n w (inr r) = and_kept q (after r.first r.others r.last) r.empty r.b r.is_empty n w r.shape r.written
