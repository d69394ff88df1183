-- What a row of booleans writes weighs less wherever the expression stands, if it may not be heavier for parentheses.
use Rattle.std.proofs.Common.{◌≡◌, ℕ, ◌+◌, ◌<◌, ◌≤◌, Bool, true, false, List, length, refl, sym, ap, ◌∙◌, inl, inr, true≢false, arith}
use Rattle.std.specs.Prelude.{◌&&◌, ◌||◌, nat_lt, pos, if◌then◌else◌}
use Rattle.std.specs.Fmt.{signed_decimal}
use Rattle.std.proofs.lemmas.Bool.{and_parts}
use Rattle.std.proofs.lemmas.Fmt.{decimal_digit}
use borrow.Author.Tests.{ltb-true, ltb-false}
use Rattle.mini_model.specs.declared.operator.LogicalOperator.{LogicalOperator}
use Rattle.mini_model.specs.declared.operator.LogicalOperator.TheVariants.{Or, And, Coalesce}
use Rattle.mini_model.specs.declared.operator.UnaryOperator.TheVariants.{LogicalNot}
use Rattle.mini_model.specs.declared.place.Position.{Position}
use Rattle.mini_model.specs.declared.place.Position.TheVariants.{Expr}
use Rattle.mini_model.specs.declared.seat.Seat.{Seat}
use Rattle.mini_model.specs.declared.shape.Shape.{Shape}
use Rattle.mini_model.specs.declared.shape.Shape.TheVariants as shape
use Rattle.mini_model.specs.Tree.{Tree, node, none, negation, logical}
use Rattle.mini_model.specs.Position.{left_operand_seat, right_operand_seat}
use Rattle.mini_model.specs.Weight.{Outline, plain_outline, outline, outlines, weight, place_weight, is_parenthesized, is_awkward}
use Rattle.mini_laws.specs.Weights.{Lightens, asks_truth, counts_items}
use Rattle.mini_laws.proofs.Seats.{is_inner, placed_node}
use Rattle.mini_terms.specs.Kind.{kind}
use Rattle.mini_terms.specs.Parts.{weighs}
use Rattle.mini_terms.specs.Reading.{is_plain_part_by, first_of, is_plain_part, are_plain_parts}
use Rattle.mini_rows.specs.Spellings.{negated_digit}
use Rattle.mini_rows.specs.Booleans.{digit, chosen, joined, KnownBranch, is_boolean_kind, is_truth, truth_of, ConvertedRow, BooleanRow, BooleanContracts, BooleansLighter}
use Rattle.mini_rows.proofs.FoldWeights.{two}
use Rattle.mini_rows.proofs.SpellWeights.{falls_by}

-- 24: a digit has parentheses only where `!` has

pairs : (s : Seat) → (if nat_lt 16 s.level || (false || ((s.access && false) || (s.new_callee && false))) then 4 else 0) ≤ (if nat_lt 14 s.level || (false || ((s.access && false) || (s.new_callee && false))) then 4 else 0)
pairs s = go (nat_lt 16 s.level) (nat_lt 14 s.level) refl refl
  where
    rest : (b : Bool) → (if b then 4 else 0) ≤ (if b then 4 else 0)
    rest b = omega arith

    less : (b : Bool) → (if b then 4 else 0) ≤ 4
    less true = omega arith
    less false = omega arith

    go : (b c : Bool) → nat_lt 16 s.level ≡ b → nat_lt 14 s.level ≡ c → (if b || (false || ((s.access && false) || (s.new_callee && false))) then 4 else 0) ≤ (if c || (false || ((s.access && false) || (s.new_callee && false))) then 4 else 0)
    go true true e f = omega arith
    go false true e f = less (false || ((s.access && false) || (s.new_callee && false)))
    go false false e f = rest (false || ((s.access && false) || (s.new_callee && false)))
    go true false e f = absurd (omega (arith, ltb-true _ _ e, ltb-false _ _ f))

one_at_most : (b : Bool) → (if b then 1 else 0) ≤ 1
one_at_most true = omega arith
one_at_most false = omega arith

digit_marks : (s : Seat) (k : ℕ) (os ps : List Outline) → place_weight (Expr s) (shape.NumericLiteral (pos k)) os ≤ place_weight (Expr s) (shape.UnaryExpression LogicalNot) ps + 1
digit_marks s k os ps = let mark = one_at_most (is_awkward s (shape.NumericLiteral (pos k)) os) in omega (arith, mark, pairs s)

pub digit_falls : (s : Seat) (b : Bool) → weight (Expr s) (digit b) < weight (Expr s) (negated_digit b)
digit_falls s true =
    let zero : length (signed_decimal (pos 0)) ≡ 1 = ap length (decimal_digit 0 (omega arith)) in
    let one : length (signed_decimal (pos 1)) ≡ 1 = ap length (decimal_digit 1 (omega arith)) in
    omega (arith, zero, one, digit_marks s 1 (outlines none) (outlines none))
digit_falls s false =
    let zero : length (signed_decimal (pos 0)) ≡ 1 = ap length (decimal_digit 0 (omega arith)) in
    let one : length (signed_decimal (pos 1)) ≡ 1 = ap length (decimal_digit 1 (omega arith)) in
    omega (arith, zero, one, digit_marks s 0 (outlines none) (outlines none))

-- 25: the right side weighs more than parentheses and a mark

marks_at_most : (b c : Bool) → (if b then 4 else 0) + (if c then 1 else 0) ≤ 5
marks_at_most true true = omega arith
marks_at_most true false = omega arith
marks_at_most false true = omega arith
marks_at_most false false = omega arith

no_inner : (h : Shape) (b : Bool) → is_plain_part_by h b ≡ true → is_inner h ≡ false
no_inner shape.InnerExpression b e = absurd (true≢false (sym e))
no_inner h b e = refl

pub moved : (s s' : Seat) (t : Tree) → is_plain_part t ≡ true → weight (Expr s) t ≤ weight (Expr s') t + 5
moved s s' (node h xs n ts) e = placed_node 5 s s' h (no_inner h (first_of (are_plain_parts ts)) e) xs n ts (let marks = marks_at_most (is_parenthesized h s) (is_awkward s h (outlines ts)) in omega (arith, marks))

left_falls : (o : LogicalOperator) (s : Seat) (a b : Tree) → weighs b ≡ true → is_plain_part a ≡ true → weight (Expr s) a < weight (Expr s) (logical o a b)
left_falls Or s a b h e = let heavy = two (right_operand_seat Or s) b h in let here = moved s (left_operand_seat Or s) a e in omega (arith, heavy, here)
left_falls And s a b h e = let heavy = two (right_operand_seat And s) b h in let here = moved s (left_operand_seat And s) a e in omega (arith, heavy, here)
left_falls Coalesce s a b h e = let heavy = two (right_operand_seat Coalesce s) b h in let here = moved s (left_operand_seat Coalesce s) a e in omega (arith, heavy, here)

pub lighter : BooleansLighter
lighter s n w (inl r) = falls_by (Expr s) n w _ _ r.shape r.written (digit_falls s r.truth)
lighter s n w (inr r) = falls_by (Expr s) n w _ _ r.shape r.written (left_falls r.operator s r.left r.right r.heavy r.plain)

-- what a parent's weight reads of them, where not the truth alone is asked

joined_outline : (s : Seat) (i c : Bool) (a k b : Tree) → outline (chosen i a k b) ≡ outline (joined s i c a b)
joined_outline s true c a k b = refl
joined_outline s false c a k b = refl

form_outline : (s : Seat) (n w : Tree) → KnownBranch s n w → outline n ≡ outline w
form_outline s n w f = ap outline f.shape ∙ joined_outline s f.is_consequent f.truth f.test f.branch f.other ∙ sym (ap outline f.written)

-- of what always gives a boolean it reads nothing
truth_plain : (a : Tree) → is_truth a ≡ true → outline a ≡ plain_outline
truth_plain (node (shape.NumericLiteral m) xs n ts) e = absurd (true≢false (sym e))
truth_plain (node shape.Absent xs n ts) e = absurd (true≢false (sym (and_parts (is_boolean_kind (kind (node shape.Absent xs n ts))) false e).1))
truth_plain (node shape.Listed xs n ts) e = absurd (true≢false (sym (and_parts (is_boolean_kind (kind (node shape.Listed xs n ts))) false e).1))
truth_plain (node shape.IfStatement xs n ts) e = absurd (true≢false (sym (and_parts (is_boolean_kind (kind (node shape.IfStatement xs n ts))) false e).1))
truth_plain (node h xs n ts) e = refl

truth_outline : (c : Bool) (a : Tree) → outline (truth_of c a) ≡ plain_outline
truth_outline true a = go (is_truth a) refl
  where
    go : (b : Bool) → is_truth a ≡ b → outline (if b then a else negation (negation a)) ≡ plain_outline
    go true h = truth_plain a h
    go false h = refl
truth_outline false a = refl

converted_outline : (n w : Tree) → ConvertedRow n w → outline n ≡ outline w
converted_outline n w (inl r) = ap outline r.shape ∙ sym (ap outline r.written ∙ truth_outline r.truth r.test)
converted_outline n w (inr r) = ap outline r.shape ∙ sym (ap outline r.written)

same_outline : (p : Position) (n w : Tree) → BooleanRow p n w → asks_truth p ≡ false → outline n ≡ outline w
same_outline (Expr s) n w (inl (inl r)) a = absurd (true≢false (sym r.asked ∙ a))
same_outline (Expr s) n w (inl (inr r)) a = absurd (true≢false (sym r.asked ∙ a))
same_outline (Expr s) n w (inr (inl (inl r))) a = form_outline s n w r.form
same_outline (Expr s) n w (inr (inl (inr r))) a = form_outline s n w r.form
same_outline (Expr s) n w (inr (inr r)) a = converted_outline n w r
same_outline p n w r a = absurd r

no_items : (p : Position) (n w : Tree) → BooleanRow p n w → counts_items p ≡ true → (outline n).items ≡ (outline w).items
no_items (Expr s) n w r e = absurd (true≢false (sym e))
no_items p n w r e = absurd r

pub lightens : Lightens BooleanContracts
lightens = record {
  lighter = λ p n w c. c.lighter;
  absent = λ p n w c a. ap (λ o. o.absent) (same_outline p n w c.row a);
  items = λ p n w c a. no_items p n w c.row a;
  is_zero = λ p n w c a. inl (ap (λ o. o.is_zero) (same_outline p n w c.row a));
  chooses = λ p n w c a. inl (λ h. sym (ap (λ o. o.chooses) (same_outline p n w c.row a)) ∙ h);
}
