-- What a row on sequences writes weighs less wherever the expression stands.
use Rattle.std.proofs.Common.{◌≡◌, ℕ, ◌+◌, ◌*◌, ◌<◌, ◌≤◌, Bool, true, false, List, [], ◌∷◌, refl, sym, ap, subst, ◌∙◌, ◌⊎◌, inl, inr, true≢false, ltb-true, ltb-false, arith}
use Rattle.std.specs.Prelude.{◌&&◌, ◌||◌, not, nat_eq, nat_lt, if◌then◌else◌, pos, negsuc}
use Rattle.std.proofs.lemmas.Bool.{and_parts, eqb-true}
use Rattle.mini_model.specs.declared.operator.BinaryOperator.{BinaryOperator}
use Rattle.mini_model.specs.declared.operator.BinaryOperator.TheVariants as binary_operator
use Rattle.mini_model.specs.declared.operator.UnaryOperator.TheVariants.{Void}
use Rattle.mini_model.specs.declared.operator.LogicalOperator.{LogicalOperator}
use Rattle.mini_model.specs.declared.operator.LogicalOperator.TheVariants.{Or, And, Coalesce}
use Rattle.mini_model.specs.declared.place.Position.{Position}
use Rattle.mini_model.specs.declared.place.Position.TheVariants.{Expr}
use Rattle.mini_model.specs.declared.seat.Mix.{Mix}
use Rattle.mini_model.specs.declared.seat.Mix.TheVariants as mix
use Rattle.mini_model.specs.declared.seat.Seat.{Seat}
use Rattle.mini_model.specs.declared.shape.Shape.{Shape}
use Rattle.mini_model.specs.declared.shape.Shape.TheVariants as shape
use Rattle.mini_model.specs.Tree.{Tree, Trees, node, none, ◌▸◌, count, children, listed}
use Rattle.mini_model.specs.Paths.{append}
use Rattle.mini_model.specs.Position.{seat_of_level, left_level, unary_level, unary_operand_seat, binary_operand_seat, left_operand_seat, right_operand_seat, conditional_test_seat, branch_seat, passed_part_seat, not_operand_seat, yield_argument_seat}
use Rattle.mini_model.specs.Weight.{Outline, outline, outlines, weight, place_weight, nth_items, first_is_zero, level_of, mixes, is_chain, is_call, is_parenthesized, is_awkward}
use Rattle.mini_laws.specs.Weights.{Lightens, counts_items}
use Rattle.mini_laws.proofs.Seats.{placed, placed_node}
use Rattle.mini_terms.specs.Parts.{weighs}
use Rattle.mini_terms.specs.Reading.{first_of, is_plain_part, are_plain_parts}
use Rattle.mini_rows.specs.Lists.{sequence}
use Rattle.mini_rows.specs.Sequences.{Conversion, Plus, Minus, Complement, conversion_operator, Operation, Decides, Chooses, Negates, Operates, Converts, Yields, over, along, innermost, operation_shape, operand_seat, is_open_seat, is_bare_at, lifts_out, is_unmixed, takes_alone, Row21Alone, SequenceRow, SequenceContracts, SequencesLighter}
use Rattle.mini_rows.proofs.ListWeights.{parts_total, parts_weight, sequence_weighs}
use Rattle.mini_rows.proofs.SequenceCalls.{left_plain}
use Rattle.mini_rows.proofs.FoldWeights.{two, no_inner, there, no_choice}
use Rattle.mini_rows.proofs.SpellWeights.{falls_by}

-- ---- 20

-- a sequence has neither parentheses nor a mark in an open seat

never : (b : Bool) → b && false ≡ false
never true = refl
never false = refl

open_marks : (s : Seat) → is_open_seat s ≡ true → (os : List Outline) → place_weight (Expr s) shape.SequenceExpression os ≡ 0
open_marks s h os =
    let (level, lifted) = and_parts (nat_eq s.level 0) (not s.lifted) h in
    go (nat_lt 0 s.level) s.access s.new_callee s.eq_left s.cond_test s.lifted (ap (λ n. nat_lt 0 n) (eqb-true s.level 0 level)) lifted
  where
    go : (b x y e t f : Bool) → b ≡ false → not f ≡ true → (if b || (false || ((x && false) || (y && false))) then 4 else 0) + (if (e && false) || ((t && false) || (f && true)) then 1 else 0) ≡ 0
    go true x y e t f p q = absurd (true≢false p)
    go false x y e t true p q = absurd (true≢false (sym q))
    go false x y e t false p q = simp never

pair_of : (b : Bool) → (if b then 4 else 0) ≤ 4
pair_of true = omega arith
pair_of false = omega arith

mark_at_most : (b : Bool) → (if b then 1 else 0) ≤ 1
mark_at_most true = omega arith
mark_at_most false = omega arith

-- an expression as the first operand gets parentheses at most, more than it has as a part of a sequence

left_marks : (o : LogicalOperator) (s : Seat) (h : Shape) (os : List Outline) → place_weight (Expr (left_operand_seat o s)) h os ≤ place_weight (Expr passed_part_seat) h os + 4
left_marks Or s shape.SequenceExpression os = omega arith
left_marks And s shape.SequenceExpression os = omega arith
left_marks Coalesce s shape.SequenceExpression os = omega arith
left_marks o s h os = omega (arith, pair_of (is_parenthesized h (left_operand_seat o s)))

test_marks : (h : Shape) (os : List Outline) → place_weight (Expr conditional_test_seat) h os ≤ place_weight (Expr passed_part_seat) h os + 4
test_marks shape.SequenceExpression os = omega arith
test_marks (shape.BinaryExpression binary_operator.Inequality) os = omega arith
test_marks (shape.BinaryExpression binary_operator.StrictInequality) os = omega arith
test_marks h os = omega (arith, pair_of (is_parenthesized h conditional_test_seat))

not_marks : (h : Shape) (os : List Outline) → place_weight (Expr not_operand_seat) h os ≤ place_weight (Expr passed_part_seat) h os + 4
not_marks shape.SequenceExpression os = omega arith
not_marks h os = omega (arith, pair_of (is_parenthesized h not_operand_seat))

-- of an operator of values: what writes a value out has a mark on the left of an equality, and no parentheses there

abbrev lifted_seat : ℕ → Bool → Seat
lifted_seat l equality = record (seat_of_level l) { lifted = true; eq_left = equality }

plain_marks : (l : ℕ) (h : Shape) (os : List Outline) → place_weight (Expr (lifted_seat l false)) h os ≤ place_weight (Expr passed_part_seat) h os + 4
plain_marks l shape.SequenceExpression os = omega (arith, pair_of (is_parenthesized shape.SequenceExpression (lifted_seat l false)))
plain_marks l h os = omega (arith, pair_of (is_parenthesized h (lifted_seat l false)))

equality_marks : (h : Shape) (os : List Outline) → place_weight (Expr (lifted_seat 8 true)) h os ≤ place_weight (Expr passed_part_seat) h os + 4
equality_marks shape.SequenceExpression os = omega arith
equality_marks (shape.NumericLiteral (pos n)) os = omega arith
equality_marks (shape.NumericLiteral (negsuc n)) os = omega arith
equality_marks (shape.StringLiteral t) os = omega arith
equality_marks (shape.BooleanLiteral b) os = omega arith
equality_marks shape.NullLiteral os = omega arith
equality_marks (shape.BigIntLiteral n) os = omega arith
equality_marks shape.TemplateLiteral os = omega (arith, mark_at_most (nat_eq (nth_items os 1) 0 || false))
equality_marks (shape.UnaryExpression Void) os = omega (arith, mark_at_most (first_is_zero os || false))
equality_marks h os = omega (arith, pair_of (is_parenthesized h (lifted_seat 8 true)))

operand_marks : (o : BinaryOperator) (h : Shape) (os : List Outline) → place_weight (Expr (binary_operand_seat o 0)) h os ≤ place_weight (Expr passed_part_seat) h os + 4
operand_marks binary_operator.Equality h os = equality_marks h os
operand_marks binary_operator.Inequality h os = equality_marks h os
operand_marks binary_operator.StrictEquality h os = equality_marks h os
operand_marks binary_operator.StrictInequality h os = equality_marks h os
operand_marks binary_operator.Exponential h os = plain_marks 15 h os
operand_marks o h os = plain_marks (left_level o) h os

no_higher : (o : BinaryOperator) → nat_lt 16 (binary_operand_seat o 0).level ≡ false
no_higher binary_operator.Exponential = refl
no_higher o = refl

operand_moved : (o : BinaryOperator) (t : Tree) → weight (Expr (binary_operand_seat o 0)) t ≤ weight (Expr passed_part_seat) t + 4
operand_moved o t = placed 4 (binary_operand_seat o 0) passed_part_seat (no_higher o) (operand_marks o) t

sequence_marks : (o : BinaryOperator) (os : List Outline) → place_weight (Expr (binary_operand_seat o 0)) shape.SequenceExpression os ≡ 5
sequence_marks binary_operator.Equality os = refl
sequence_marks binary_operator.Exponential os = refl
sequence_marks o os = refl

operator_marks : (o : BinaryOperator) (os : List Outline) → place_weight (Expr passed_part_seat) (shape.BinaryExpression o) os ≡ 0
operator_marks binary_operator.Equality os = refl
operator_marks binary_operator.Exponential os = refl
operator_marks o os = refl

-- no operator's marks ask what it joins
no_plain_operator : (s : Seat) (o : BinaryOperator) (os ps : List Outline) → place_weight (Expr s) (shape.BinaryExpression o) os ≡ place_weight (Expr s) (shape.BinaryExpression o) ps
no_plain_operator s binary_operator.Equality os ps = refl
no_plain_operator s o os ps = refl

-- what a `-` stands before weighs as behind any other

abbrev conversion_seat : Conversion → Seat
conversion_seat c = unary_operand_seat (conversion_operator c)

conversion_moved : (c : Conversion) (t : Tree) → weight (Expr (conversion_seat c)) t ≤ weight (Expr passed_part_seat) t + 4
conversion_moved Plus t = placed 4 (conversion_seat Plus) passed_part_seat refl (plain_marks unary_level) t
conversion_moved Minus t = placed 4 (conversion_seat Minus) passed_part_seat refl (plain_marks unary_level) t
conversion_moved Complement t = placed 4 (conversion_seat Complement) passed_part_seat refl (plain_marks unary_level) t

yield_moved : (t : Tree) → weight (Expr yield_argument_seat) t ≤ weight (Expr passed_part_seat) t + 4
yield_moved t = placed 4 yield_argument_seat passed_part_seat refl (plain_marks 1) t

left_moved : (o : LogicalOperator) (s : Seat) (t : Tree) → weight (Expr (left_operand_seat o s)) t ≤ weight (Expr passed_part_seat) t + 4
left_moved Or s t = placed 4 (left_operand_seat Or s) passed_part_seat refl (left_marks Or s) t
left_moved And s t = placed 4 (left_operand_seat And s) passed_part_seat refl (left_marks And s) t
left_moved Coalesce s t = placed 4 (left_operand_seat Coalesce s) passed_part_seat refl (left_marks Coalesce s) t

-- with another operand a node weighs what the operand weighs more or less
exchanged : (s : Seat) (r : Operation) (x y : Tree) → weight (Expr s) (over r x) + weight (Expr (operand_seat r s)) y ≡ weight (Expr s) (over r y) + weight (Expr (operand_seat r s)) x
exchanged s (Decides Or b) x y = omega arith
exchanged s (Decides And b) x y = omega arith
exchanged s (Decides Coalesce b) x y = omega arith
exchanged s (Chooses b c) x y = omega arith
exchanged s Negates x y = omega arith
exchanged s (Operates o b) x y = let same = no_plain_operator s o (outlines (x ▸ b ▸ none)) (outlines (y ▸ b ▸ none)) in omega (arith, same)
exchanged s (Converts Plus) x y = omega arith
exchanged s (Converts Minus) x y = omega arith
exchanged s (Converts Complement) x y = omega arith
exchanged s (Yields d) x y = omega arith

-- as a part of a sequence it has neither parentheses nor a mark

left_same : (o : LogicalOperator) (s : Seat) (t : Tree) → weight (Expr (left_operand_seat o passed_part_seat)) t ≤ weight (Expr (left_operand_seat o s)) t + 0
left_same Or s t = placed 0 (left_operand_seat Or passed_part_seat) (left_operand_seat Or s) refl (λ h os. omega arith) t
left_same And s t = placed 0 (left_operand_seat And passed_part_seat) (left_operand_seat And s) refl (λ h os. omega arith) t
left_same Coalesce s t = placed 0 (left_operand_seat Coalesce passed_part_seat) (left_operand_seat Coalesce s) refl (λ h os. omega arith) t

right_same : (o : LogicalOperator) (s : Seat) (t : Tree) → weight (Expr (right_operand_seat o passed_part_seat)) t ≤ weight (Expr (right_operand_seat o s)) t + 0
right_same Or s t = placed 0 (right_operand_seat Or passed_part_seat) (right_operand_seat Or s) refl (λ h os. omega arith) t
right_same And s t = placed 0 (right_operand_seat And passed_part_seat) (right_operand_seat And s) refl (λ h os. omega arith) t
right_same Coalesce s t = placed 0 (right_operand_seat Coalesce passed_part_seat) (right_operand_seat Coalesce s) refl (λ h os. omega arith) t

branch_same : (s : Seat) (t : Tree) → weight (Expr (branch_seat passed_part_seat)) t ≤ weight (Expr (branch_seat s)) t + 0
branch_same s t = placed 0 (branch_seat passed_part_seat) (branch_seat s) refl (λ h os. omega arith) t

as_part : (s : Seat) (r : Operation) (x : Tree) → weight (Expr passed_part_seat) (over r x) + place_weight (Expr s) (operation_shape r) (outlines (children (over r x))) ≤ weight (Expr s) (over r x)
as_part s (Decides Or b) x = let first = left_same Or s x in let second = right_same Or s b in omega (arith, first, second)
as_part s (Decides And b) x = let first = left_same And s x in let second = right_same And s b in omega (arith, first, second)
as_part s (Decides Coalesce b) x = let first = left_same Coalesce s x in let second = right_same Coalesce s b in omega (arith, first, second)
as_part s (Chooses b c) x = let second = branch_same s b in let third = branch_same s c in omega (arith, second, third)
as_part s Negates x = omega arith
as_part s (Operates o b) x = let own = operator_marks o (outlines (x ▸ b ▸ none)) in omega (arith, own)
as_part s (Converts Plus) x = omega arith
as_part s (Converts Minus) x = omega arith
as_part s (Converts Complement) x = omega arith
as_part s (Yields d) x = omega arith

-- an operand has parentheses at most, where a sequence has 5, its parentheses and its mark
operand_is : (r : Operation) (s : Seat) (t : Tree) → weight (Expr (operand_seat r s)) t ≤ weight (Expr passed_part_seat) t + 4
operand_is (Decides o b) s t = left_moved o s t
operand_is (Chooses b c) s t = placed 4 conditional_test_seat passed_part_seat refl test_marks t
operand_is Negates s t = placed 4 not_operand_seat passed_part_seat refl not_marks t
operand_is (Operates o b) s t = operand_moved o t
operand_is (Converts c) s t = conversion_moved c t
operand_is (Yields d) s t = yield_moved t

sequence_is : (r : Operation) (s : Seat) (os : List Outline) → place_weight (Expr (operand_seat r s)) shape.SequenceExpression os ≡ 5
sequence_is (Decides Or b) s os = refl
sequence_is (Decides And b) s os = refl
sequence_is (Decides Coalesce b) s os = refl
sequence_is (Chooses b c) s os = refl
sequence_is Negates s os = refl
sequence_is (Operates o b) s os = sequence_marks o os
sequence_is (Converts Plus) s os = refl
sequence_is (Converts Minus) s os = refl
sequence_is (Converts Complement) s os = refl
sequence_is (Yields d) s os = refl

-- the last part has no parentheses in the place of the sequence, whatever is around
same_marks : (r : Operation) (s : Seat) (h : Shape) (os : List Outline) → place_weight (Expr (operand_seat r s)) h os ≡ place_weight (Expr (operand_seat r passed_part_seat)) h os
same_marks (Decides Or b) s h os = refl
same_marks (Decides And b) s h os = refl
same_marks (Decides Coalesce b) s h os = refl
same_marks (Chooses b c) s h os = refl
same_marks Negates s h os = refl
same_marks (Operates o b) s h os = refl
same_marks (Converts c) s h os = refl
same_marks (Yields d) s h os = refl

bare_moved : (r : Operation) (s : Seat) (q : Tree) → is_bare_at (Expr (operand_seat r passed_part_seat)) q ≡ true → weight (Expr (operand_seat r s)) q ≤ weight (Expr passed_part_seat) q + 0
bare_moved r s (node shape.InnerExpression xs n ts) e = absurd (true≢false (sym e))
bare_moved r s (node h xs n ts) e =
    let marks = eqb-true (place_weight (Expr (operand_seat r passed_part_seat)) h (outlines ts)) 0 e in
    let same = same_marks r s h (outlines ts) in
    placed_node 0 (operand_seat r s) passed_part_seat h refl xs n ts (omega (arith, marks, same))

module _ (p : Tree) (ps : Trees) (q : Tree) where
  abbrev parts : Trees
  parts = append ps (q ▸ none)

  -- the last part in place of the sequence, however deep in first operands, where d of the parentheses and the mark are won
  operand_falls : (d : ℕ) (r : Operation) (s : Seat) (rs : List Operation) → ((c : Seat) → weight (Expr (operand_seat (innermost r rs) c)) q + d ≤ weight (Expr passed_part_seat) q + 5) → weight (Expr (operand_seat r s)) (along rs q) + parts_weight p parts + d ≤ weight (Expr (operand_seat r s)) (along rs (sequence (p ▸ parts))) + weight (Expr passed_part_seat) q
  operand_falls d r s [] h =
      let inner = sequence_weighs (operand_seat r s) p parts in
      let marks = sequence_is r s (outlines (listed (p ▸ parts) ▸ none)) in
      let last = h s in
      omega (arith, inner, marks, last)
  operand_falls d r s (o ∷ rs) h =
      let same = exchanged (operand_seat r s) o (along rs q) (along rs (sequence (p ▸ parts))) in
      let inner = operand_falls d o (operand_seat r s) rs h in
      omega (arith, same, inner)

  -- so the node over it as a part of a sequence
  node_falls : (d : ℕ) (s : Seat) (r : Operation) (rs : List Operation) → ((c : Seat) → weight (Expr (operand_seat (innermost r rs) c)) q + d ≤ weight (Expr passed_part_seat) q + 5) → weight (Expr passed_part_seat) (over r (along rs q)) + place_weight (Expr s) (operation_shape r) (outlines (children (over r (along rs q)))) + parts_weight p parts + d ≤ weight (Expr s) (over r (along rs (sequence (p ▸ parts)))) + weight (Expr passed_part_seat) q
  node_falls d s r rs h =
      let moved = as_part s r (along rs q) in
      let same = exchanged s r (along rs q) (along rs (sequence (p ▸ parts))) in
      let inner = operand_falls d r s rs h in
      omega (arith, moved, same, inner)

  -- parentheses at most go round it
  one_is_won : (r : Operation) (rs : List Operation) (c : Seat) → weight (Expr (operand_seat (innermost r rs) c)) q + 1 ≤ weight (Expr passed_part_seat) q + 5
  one_is_won r rs c = let last = operand_is (innermost r rs) c q in omega (arith, last)

  -- or none
  all_is_won : (r : Operation) (rs : List Operation) → is_bare_at (Expr (operand_seat (innermost r rs) passed_part_seat)) q ≡ true → (c : Seat) → weight (Expr (operand_seat (innermost r rs) c)) q + 5 ≤ weight (Expr passed_part_seat) q + 5
  all_is_won r rs e c = let last = bare_moved (innermost r rs) c q e in omega (arith, last)

-- a sequence has parentheses at most where it isn't to be lifted out again
unlifted_marks : (s : Seat) → not s.lifted ≡ true → (os : List Outline) → place_weight (Expr s) shape.SequenceExpression os ≤ 4
unlifted_marks s h os = go (is_parenthesized shape.SequenceExpression s) s.eq_left s.cond_test s.lifted h
  where
    no_mark : (e t : Bool) → ◌≡◌ {A = ℕ} (if (e && false) || ((t && false) || (false && true)) then 1 else 0) 0
    no_mark true true = refl
    no_mark true false = refl
    no_mark false true = refl
    no_mark false false = refl

    go : (b e t f : Bool) → not f ≡ true → (if b then 4 else 0) + (if (e && false) || ((t && false) || (f && true)) then 1 else 0) ≤ 4
    go b e t true p = absurd (true≢false (sym p))
    go true e t false p = omega (arith, no_mark e t)
    go false e t false p = omega (arith, no_mark e t)

own_parentheses : (s : Seat) (h : Shape) (os : List Outline) → is_parenthesized h s ≡ true → 4 ≤ place_weight (Expr s) h os
own_parentheses s h os e = let four = ap {B = ℕ} (λ b. if b then 4 else 0) e in omega (arith, four)

-- the parts of a list, and a comma for each

abbrev all_weigh : Trees → ℕ
all_weigh ts = parts_total ts + 2 * count ts

all_append : (a b : Trees) → all_weigh (append a b) ≡ all_weigh a + all_weigh b
all_append none b = omega arith
all_append (t ▸ a) b = let rest = all_append a b in omega (arith, rest)

both_true : (b c : Bool) → b ≡ true → c ≡ true → b && c ≡ true
both_true true c e f = f
both_true false c e f = e

module _ (s : Seat) (r : Operation) (rs : List Operation) (p : Tree) (ps : Trees) (q : Tree) where
  abbrev last : Tree
  last = over r (along rs q)

  abbrev Falls : Type 0
  Falls = weight (Expr s) (sequence (p ▸ append ps (last ▸ none))) < weight (Expr s) (over r (along rs (sequence (p ▸ append ps (q ▸ none)))))

  falls_from : (d : ℕ) → ((c : Seat) → weight (Expr (operand_seat (innermost r rs) c)) q + d ≤ weight (Expr passed_part_seat) q + 5) → place_weight (Expr s) shape.SequenceExpression (outlines (listed (p ▸ append ps (last ▸ none)) ▸ none)) + 1 ≤ place_weight (Expr s) (operation_shape r) (outlines (children last)) + d → Falls
  falls_from d h marks =
      let whole = sequence_weighs s p (append ps (last ▸ none)) in
      let inner = all_append ps (q ▸ none) in
      let outer = all_append ps (last ▸ none) in
      let falls = node_falls p ps q d s r rs h in
      omega (arith, whole, marks, inner, outer, falls)

  lifted_falls : lifts_out s r rs q ≡ true → Falls
  lifted_falls h = let (l, rest) = and_parts (not s.lifted) (nat_eq s.level 0 || (is_parenthesized (operation_shape r) s || is_bare_at (Expr (operand_seat (innermost r rs) passed_part_seat)) q)) h in go (nat_eq s.level 0) refl l rest
    where
      within : (b : Bool) → is_parenthesized (operation_shape r) s ≡ b → not s.lifted ≡ true → b || is_bare_at (Expr (operand_seat (innermost r rs) passed_part_seat)) q ≡ true → Falls
      within true e l k = falls_from 1 (one_is_won p ps q r rs) (omega (arith, unlifted_marks s l (outlines (listed (p ▸ append ps (last ▸ none)) ▸ none)), own_parentheses s (operation_shape r) (outlines (children last)) e))
      within false e l k = falls_from 5 (all_is_won p ps q r rs k) (omega (arith, unlifted_marks s l (outlines (listed (p ▸ append ps (last ▸ none)) ▸ none))))

      go : (b : Bool) → nat_eq s.level 0 ≡ b → not s.lifted ≡ true → b || (is_parenthesized (operation_shape r) s || is_bare_at (Expr (operand_seat (innermost r rs) passed_part_seat)) q) ≡ true → Falls
      go true e l k = falls_from 1 (one_is_won p ps q r rs) (omega (arith, open_marks s (both_true (nat_eq s.level 0) (not s.lifted) e l) (outlines (listed (p ▸ append ps (last ▸ none)) ▸ none))))
      go false e l k = within (is_parenthesized (operation_shape r) s) refl l k

-- ---- 21

list_weighs : (s : Seat) (before : Trees) (t : Tree) (after : Trees) → weight (Expr s) (sequence (append before (t ▸ after))) + 2 ≡ place_weight (Expr s) shape.SequenceExpression (outlines (listed (append before (t ▸ after)) ▸ none)) + all_weigh (append before (t ▸ after))
list_weighs s none t after = let whole = sequence_weighs s t after in omega (arith, whole)
list_weighs s (b ▸ bs) t after = let whole = sequence_weighs s b (append bs (t ▸ after)) in omega (arith, whole)

spread_falls : (s : Seat) (before : Trees) (a b : Tree) (ps after : Trees) → weight (Expr s) (sequence (append before (a ▸ (b ▸ append ps after)))) < weight (Expr s) (sequence (append before (sequence (a ▸ (b ▸ ps)) ▸ after)))
spread_falls s before a b ps after =
    let nested = list_weighs s before (sequence (a ▸ (b ▸ ps))) after in
    let flat = list_weighs s before a (b ▸ append ps after) in
    let inner = sequence_weighs passed_part_seat a (b ▸ ps) in
    let one = all_append before (sequence (a ▸ (b ▸ ps)) ▸ after) in
    let other = all_append before (a ▸ (b ▸ append ps after)) in
    let rest = all_append ps after in
    omega (arith, nested, flat, inner, one, other, rest)

-- ---- a part in the place of another

pub part_changes : (s : Seat) (before : Trees) (x y q : Tree) (qs : Trees) → weight (Expr s) (sequence (append before (x ▸ (q ▸ qs)))) + weight (Expr passed_part_seat) y ≡ weight (Expr s) (sequence (append before (y ▸ (q ▸ qs)))) + weight (Expr passed_part_seat) x
part_changes s before x y q qs =
    let one = list_weighs s before x (q ▸ qs) in
    let other = list_weighs s before y (q ▸ qs) in
    let some = all_append before (x ▸ (q ▸ qs)) in
    let others = all_append before (y ▸ (q ▸ qs)) in
    omega (arith, one, other, some, others)

pub part_within : (s : Seat) (before : Trees) (x q : Tree) (qs : Trees) → weight (Expr passed_part_seat) x ≤ weight (Expr s) (sequence (append before (x ▸ (q ▸ qs))))
part_within s before x q qs =
    let whole = list_weighs s before x (q ▸ qs) in
    let parts = all_append before (x ▸ (q ▸ qs)) in
    omega (arith, whole, parts)

-- and so of the last
pub end_changes : (s : Seat) (before : Trees) (x y : Tree) → weight (Expr s) (sequence (append before (x ▸ none))) + weight (Expr passed_part_seat) y ≡ weight (Expr s) (sequence (append before (y ▸ none))) + weight (Expr passed_part_seat) x
end_changes s before x y =
    let one = list_weighs s before x none in
    let other = list_weighs s before y none in
    let some = all_append before (x ▸ none) in
    let others = all_append before (y ▸ none) in
    omega (arith, one, other, some, others)

pub end_within : (s : Seat) (before : Trees) (x : Tree) → weight (Expr passed_part_seat) x ≤ weight (Expr s) (sequence (append before (x ▸ none)))
end_within s before x =
    let whole = list_weighs s before x none in
    let parts = all_append before (x ▸ none) in
    omega (arith, whole, parts)

-- ---- 21, of parts without effect: a comma goes, and the part

pub idle_falls : (s : Seat) (before : Trees) (a q : Tree) (qs : Trees) → weight (Expr s) (sequence (append before (q ▸ qs))) < weight (Expr s) (sequence (append before (a ▸ (q ▸ qs))))
idle_falls s before a q qs =
    let whole = list_weighs s before a (q ▸ qs) in
    let rest = list_weighs s before q qs in
    let one = all_append before (a ▸ (q ▸ qs)) in
    let other = all_append before (q ▸ qs) in
    omega (arith, whole, rest, one, other)

not_mixed : (h : Shape) (m : Mix) → is_unmixed m ≡ true → mixes h m ≡ false
not_mixed (shape.LogicalExpression o) mix.None e = refl
not_mixed (shape.LogicalExpression o) m e = absurd (true≢false (sym e))
not_mixed h m e = refl

pairs_by : (p b m x y c d : Bool) → (b ≡ false → p ≡ false) → (b ≡ false → m ≡ false) → (b ≡ false → x ≡ false) → (b ≡ false → y ≡ false) → (if p || (m || ((x && c) || (y && d))) then 4 else 0) ≤ (if b || (false || ((x && false) || (y && false))) then 4 else 0)
pairs_by p true m x y c d f g h k = pair_of (p || (m || ((x && c) || (y && d))))
pairs_by true false m x y c d f g h k = absurd (true≢false (f refl))
pairs_by false false true x y c d f g h k = absurd (true≢false (g refl))
pairs_by false false false true y c d f g h k = absurd (true≢false (h refl))
pairs_by false false false false true c d f g h k = absurd (true≢false (k refl))
pairs_by false false false false false c d f g h k = omega arith

or_rest : (b c : Bool) → b || c ≡ true → b ≡ false → c ≡ true
or_rest true c e f = absurd (true≢false f)
or_rest false c e f = e

not_true : (b : Bool) → not b ≡ true → b ≡ false
not_true false e = refl
not_true true e = absurd (true≢false (sym e))

-- the one part that is left has parentheses only where the sequence has them
module _ (s : Seat) (t : takes_alone s ≡ true) where
  bare : nat_lt 0 s.level ≡ false → not s.access && (not s.new_callee && is_unmixed s.mix) ≡ true
  bare e = or_rest (nat_lt 0 s.level) (not s.access && (not s.new_callee && is_unmixed s.mix)) t e

  no_access : nat_lt 0 s.level ≡ false → s.access ≡ false
  no_access e = not_true s.access (and_parts (not s.access) (not s.new_callee && is_unmixed s.mix) (bare e)).0

  no_callee : nat_lt 0 s.level ≡ false → s.new_callee ≡ false
  no_callee e = not_true s.new_callee (and_parts (not s.new_callee) (is_unmixed s.mix) (and_parts (not s.access) (not s.new_callee && is_unmixed s.mix) (bare e)).1).0

  no_mix : nat_lt 0 s.level ≡ false → is_unmixed s.mix ≡ true
  no_mix e = (and_parts (not s.new_callee) (is_unmixed s.mix) (and_parts (not s.access) (not s.new_callee && is_unmixed s.mix) (bare e)).1).1

  no_level : (k : ℕ) → nat_lt 0 s.level ≡ false → nat_lt k s.level ≡ false
  no_level k e = go (nat_lt k s.level) refl
    where
      go : (b : Bool) → nat_lt k s.level ≡ b → b ≡ false
      go false f = refl
      go true f = absurd (omega (arith, ltb-true k s.level f, ltb-false 0 s.level e))

  alone_marks : (h : Shape) (os : List Outline) → place_weight (Expr s) h os ≤ place_weight (Expr passed_part_seat) h os + (place_weight (Expr s) shape.SequenceExpression os + 1)
  alone_marks h os =
      let pairs = pairs_by (nat_lt (level_of h) s.level) (nat_lt 0 s.level) (mixes h s.mix) s.access s.new_callee (is_chain h) (is_call h) (no_level (level_of h)) (λ e. not_mixed h s.mix (no_mix e)) no_access no_callee in
      omega (arith, pairs, mark_at_most (is_awkward s h os))

  alone_moved : (q : Tree) → is_plain_part q ≡ true → (os : List Outline) → weight (Expr s) q ≤ weight (Expr passed_part_seat) q + (place_weight (Expr s) shape.SequenceExpression os + 1)
  alone_moved (node h xs n ts) e os = placed_node (place_weight (Expr s) shape.SequenceExpression os + 1) s passed_part_seat h (no_inner h (first_of (are_plain_parts ts)) e) xs n ts (alone_marks h (outlines ts))

  pub alone_falls : (a q : Tree) → weighs a ≡ true → is_plain_part q ≡ true → weight (Expr s) q + 2 ≤ weight (Expr s) (sequence (a ▸ (q ▸ none)))
  alone_falls a q h e =
      let whole = sequence_weighs s a (q ▸ none) in
      let heavy = two passed_part_seat a h in
      let here = alone_moved q e (outlines (listed (a ▸ (q ▸ none)) ▸ none)) in
      omega (arith, whole, heavy, here)

-- ---- all

pub lighter : SequencesLighter
lighter (Expr s) n w (inl r) = falls_by (Expr s) n w _ _ r.shape r.written (lifted_falls s r.operation r.operations r.first r.others r.last r.seated)
lighter (Expr s) n w (inr (inl r)) = falls_by (Expr s) n w _ _ r.shape r.written (spread_falls s r.before r.first r.second r.others r.after)
lighter (Expr s) n w (inr (inr (inl r))) = falls_by (Expr s) n w _ _ r.shape r.written (idle_falls s r.before r.idle r.next r.after)
lighter (Expr s) n w (inr (inr (inr r))) = let falls = alone_falls s r.seated r.idle r.last r.heavy (left_plain s r.last r.stays) in falls_by (Expr s) n w _ _ r.shape r.written (omega (arith, falls))
lighter p n w r = absurd r

over_outline : (r : Operation) (a : Tree) (ts : Trees) → outline (over r a) ≡ outline (sequence ts)
over_outline (Decides o b) a ts = refl
over_outline (Chooses b c) a ts = refl
over_outline Negates a ts = refl
over_outline (Operates o b) a ts = refl
over_outline (Converts c) a ts = refl
over_outline (Yields d) a ts = refl

-- what a parent's weight reads of them: a number 0 alone weighs less by 2 at least
record ReadLightly (p : Position) (n w : Tree) : Type 0 where
  absent : (outline n).absent ≡ (outline w).absent
  is_zero : ((outline n).is_zero ≡ (outline w).is_zero) ⊎ (weight p w + 2 ≤ weight p n)
  chooses : (outline n).chooses ≡ (outline w).chooses

whole_alike : (p : Position) (n w : Tree) → outline n ≡ outline w → ReadLightly p n w
whole_alike p n w e = record { absent = ap (λ o. o.absent) e; is_zero = inl (ap (λ o. o.is_zero) e); chooses = ap (λ o. o.chooses) e }

alone_alike : (s : Seat) (n w : Tree) → Row21Alone s n w → ReadLightly (Expr s) n w
alone_alike s n w r =
    let plain = left_plain s r.last r.stays in record {
      absent = ap (λ t. (outline t).absent) r.shape ∙ sym (ap (λ t. (outline t).absent) r.written ∙ there r.last plain);
      is_zero = inr (subst (λ t. weight (Expr s) t + 2 ≤ weight (Expr s) n) (sym r.written) (subst (λ t. weight (Expr s) r.last + 2 ≤ weight (Expr s) t) (sym r.shape) (alone_falls s r.seated r.idle r.last r.heavy plain)));
      chooses = ap (λ t. (outline t).chooses) r.shape ∙ sym (ap (λ t. (outline t).chooses) r.written ∙ no_choice r.last plain);
    }

read_lightly : (p : Position) (n w : Tree) → SequenceRow p n w → ReadLightly p n w
read_lightly (Expr s) n w (inl r) = whole_alike (Expr s) n w (ap outline r.shape ∙ over_outline r.operation (along r.operations (sequence (r.first ▸ append r.others (r.last ▸ none)))) (r.first ▸ append r.others (over r.operation (along r.operations r.last) ▸ none)) ∙ sym (ap outline r.written))
read_lightly (Expr s) n w (inr (inl r)) = whole_alike (Expr s) n w (ap outline r.shape ∙ sym (ap outline r.written))
read_lightly (Expr s) n w (inr (inr (inl r))) = whole_alike (Expr s) n w (ap outline r.shape ∙ sym (ap outline r.written))
read_lightly (Expr s) n w (inr (inr (inr r))) = alone_alike s n w r
read_lightly p n w r = absurd r

no_items : (p : Position) (n w : Tree) → SequenceRow p n w → counts_items p ≡ true → (outline n).items ≡ (outline w).items
no_items (Expr s) n w r e = absurd (true≢false (sym e))
no_items p n w r e = absurd r

pub lightens : Lightens SequenceContracts
lightens = record {
  lighter = λ p n w c. c.lighter;
  absent = λ p n w c a. (read_lightly p n w c.row).absent;
  items = λ p n w c a. no_items p n w c.row a;
  is_zero = λ p n w c a. (read_lightly p n w c.row).is_zero;
  chooses = λ p n w c a. inl (λ h. sym (read_lightly p n w c.row).chooses ∙ h);
}
