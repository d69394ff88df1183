-- What a row on operators writes weighs less wherever the expression stands.
use Rattle.std.proofs.Common.{◌≡◌, ℤ, ℕ, ◌+◌, ◌<◌, ◌≤◌, Bool, true, false, List, refl, sym, ap, ◌∙◌, inl, inr, true≢false, arith}
use Rattle.std.specs.Prelude.{◌&&◌, ◌||◌, not, nat_lt, pos, length, if◌then◌else◌, negsuc, ◌*◌}
use Rattle.std.specs.Fmt.{signed_decimal}
use Rattle.std.proofs.lemmas.Bool.{leb-true}
use Rattle.std.proofs.lemmas.Fmt.{decimal_digit}
use borrow.Author.Tests.{ltb-true, ltb-false}
use Rattle.mini_model.specs.declared.operator.BinaryOperator.{BinaryOperator}
use Rattle.mini_model.specs.declared.operator.BinaryOperator.TheVariants as binary_operator
use Rattle.mini_model.specs.declared.operator.UnaryOperator.TheVariants.{Typeof, Delete, UnaryPlus}
use Rattle.mini_model.specs.declared.place.Position.TheVariants.{Expr}
use Rattle.mini_model.specs.declared.seat.Seat.{Seat}
use Rattle.mini_model.specs.declared.shape.Shape.{Shape}
use Rattle.mini_model.specs.declared.shape.Shape.TheVariants as shape
use Rattle.mini_model.specs.Tree.{Tree, none, ◌▸◌, listed, unary, identifier}
use Rattle.mini_model.specs.Position.{is_equality, unary_operand_seat, binary_operand_seat, passed_part_seat}
use Rattle.mini_model.specs.Weight.{Outline, outline, outlines, weight, place_weight, is_parenthesized, is_awkward, mixes, is_chain, is_call}
use Rattle.mini_laws.proofs.Seats.{placed}
use Rattle.mini_terms.specs.Folds.{is_effect_free}
use Rattle.mini_terms.specs.Parts.{leaves_nothing}
use Rattle.mini_rows.specs.Booleans.{plus}
use Rattle.mini_rows.specs.Choices.{pair}
use Rattle.mini_rows.specs.Operators.{deleted, says_equal, makes_numbers, is_bitwise, with_number, is_short, OperatorRow, Deleted, SameTypes, NeverType, LeftPlus, RightPlus, JoinedMasks}
use Rattle.mini_rows.specs.Spellings.{binary, negated_digit, numeral}
use Rattle.mini_rows.proofs.ListWeights.{sequence_weighs}
use Rattle.mini_rows.proofs.SpellWeights.{falls_by, inside}

-- ---- marks and parentheses

never : (b : Bool) → b && false ≡ false
never true = refl
never false = refl

pub zero_mark : (e t f : Bool) → ◌≡◌ {A = ℕ} (if (e && false) || ((t && false) || (f && false)) then 1 else 0) 0
zero_mark e t f = simp never

pub pair_at_most : (b : Bool) → (if b then 4 else 0) ≤ 4
pair_at_most true = omega arith
pair_at_most false = omega arith

mark_at_most : (b : Bool) → (if b then 1 else 0) ≤ 1
mark_at_most true = omega arith
mark_at_most false = omega arith

-- what binds no tighter has parentheses where the other has
pub pairs : (k l : ℕ) → k ≤ l → (m : ℕ) (r : Bool) → (if nat_lt l m || r then 4 else 0) ≤ (if nat_lt k m || r then 4 else 0)
pairs k l h m r = go (nat_lt l m) (nat_lt k m) r refl refl
  where
    go : (b c r : Bool) → nat_lt l m ≡ b → nat_lt k m ≡ c → (if b || r then 4 else 0) ≤ (if c || r then 4 else 0)
    go true true r p q = omega arith
    go false true true p q = omega arith
    go false true false p q = omega arith
    go false false r p q = omega arith
    go true false r p q = absurd (omega (arith, h, ltb-true _ _ p, ltb-false _ _ q))

-- what else asks for parentheses, of an expression that is no logical one, and in a seat of an operand
abbrev pub rest_of : Seat → Bool
rest_of s = false || ((s.access && false) || (s.new_callee && false))

abbrev rest_inside : Shape → Bool
rest_inside h = mixes h passed_part_seat.mix || ((passed_part_seat.access && is_chain h) || (passed_part_seat.new_callee && is_call h))

digit_text : (n : ℕ) → n < 10 → length (signed_decimal (pos n)) ≡ 1
digit_text n h = ap length (decimal_digit n h)

-- ---- 2: `delete` weighs more than a comma, a digit and its `!`, parentheses and a mark

delete_marks : (h : Shape) (os : List Outline) → place_weight (Expr passed_part_seat) h os ≤ place_weight (Expr (unary_operand_seat Delete)) h os + 0
delete_marks h os = omega (arith, inside 1 14 (omega arith) h (rest_inside h))

marks_at_most : (s : Seat) (h : Shape) (os : List Outline) → place_weight (Expr s) h os ≤ 5
marks_at_most s h os = omega (arith, pair_at_most (is_parenthesized h s), mark_at_most (is_awkward s h os))

deleted_falls : (s : Seat) (a : Tree) (b : Bool) → weight (Expr s) (if b then negated_digit true else pair a (negated_digit true)) < weight (Expr s) (unary Delete a)
deleted_falls s a true = omega (arith, zero_mark s.eq_left s.cond_test s.lifted, digit_text 0 (omega arith))
deleted_falls s a false =
    let whole = sequence_weighs s a (negated_digit true ▸ none) in
    let marks = marks_at_most s shape.SequenceExpression (outlines (listed (a ▸ negated_digit true ▸ none) ▸ none)) in
    let first = placed 0 passed_part_seat (unary_operand_seat Delete) refl delete_marks a in
    omega (arith, whole, marks, first, digit_text 0 (omega arith))

-- ---- 16 and 17: `typeof` weighs more than a digit and its `!`

pub boolean_falls : (s : Seat) (o : BinaryOperator) → is_equality o ≡ true → (a b : Tree) (c : Bool) → weight (Expr s) (negated_digit c) < weight (Expr s) (binary o (unary Typeof a) b)
boolean_falls s binary_operator.Equality h a b true = omega (arith, pairs 8 14 (omega arith) s.level (rest_of s), zero_mark s.eq_left s.cond_test s.lifted, digit_text 0 (omega arith))
boolean_falls s binary_operator.Equality h a b false = omega (arith, pairs 8 14 (omega arith) s.level (rest_of s), zero_mark s.eq_left s.cond_test s.lifted, digit_text 1 (omega arith))
boolean_falls s binary_operator.Inequality h a b true = omega (arith, pairs 8 14 (omega arith) s.level (rest_of s), zero_mark s.eq_left s.cond_test s.lifted, digit_text 0 (omega arith))
boolean_falls s binary_operator.Inequality h a b false = omega (arith, pairs 8 14 (omega arith) s.level (rest_of s), zero_mark s.eq_left s.cond_test s.lifted, digit_text 1 (omega arith))
boolean_falls s binary_operator.StrictEquality h a b true = omega (arith, pairs 8 14 (omega arith) s.level (rest_of s), zero_mark s.eq_left s.cond_test s.lifted, digit_text 0 (omega arith))
boolean_falls s binary_operator.StrictEquality h a b false = omega (arith, pairs 8 14 (omega arith) s.level (rest_of s), zero_mark s.eq_left s.cond_test s.lifted, digit_text 1 (omega arith))
boolean_falls s binary_operator.StrictInequality h a b true = omega (arith, pairs 8 14 (omega arith) s.level (rest_of s), zero_mark s.eq_left s.cond_test s.lifted, digit_text 0 (omega arith))
boolean_falls s binary_operator.StrictInequality h a b false = omega (arith, pairs 8 14 (omega arith) s.level (rest_of s), zero_mark s.eq_left s.cond_test s.lifted, digit_text 1 (omega arith))
boolean_falls s o h a b c = absurd (true≢false (sym h))

-- ---- 56: a plus goes, and with it parentheses that its operand had

-- in the seat of an operand that binds no tighter than a unary operator
moved_in : (s : Seat) → nat_lt 16 s.level ≡ false → (k : ℕ) → ((h : Shape) (os : List Outline) → place_weight (Expr s) h os ≤ place_weight (Expr (unary_operand_seat UnaryPlus)) h os + k) → (a : Tree) → weight (Expr s) a ≤ weight (Expr (unary_operand_seat UnaryPlus)) a + k
moved_in s l k m a = placed k s (unary_operand_seat UnaryPlus) l m a

left_falls : (s : Seat) (o : BinaryOperator) → makes_numbers o ≡ true → (a b : Tree) → weight (Expr s) (binary o a b) < weight (Expr s) (binary o (plus a) b)
left_falls s binary_operator.Subtraction e a b = let first = moved_in (binary_operand_seat binary_operator.Subtraction 0) refl 0 (λ h os. omega (arith, inside 11 14 (omega arith) h (rest_inside h))) a in omega (arith, first)
left_falls s binary_operator.Multiplication e a b = let first = moved_in (binary_operand_seat binary_operator.Multiplication 0) refl 0 (λ h os. omega (arith, inside 12 14 (omega arith) h (rest_inside h))) a in omega (arith, first)
left_falls s binary_operator.Division e a b = let first = moved_in (binary_operand_seat binary_operator.Division 0) refl 0 (λ h os. omega (arith, inside 12 14 (omega arith) h (rest_inside h))) a in omega (arith, first)
left_falls s binary_operator.Remainder e a b = let first = moved_in (binary_operand_seat binary_operator.Remainder 0) refl 0 (λ h os. omega (arith, inside 12 14 (omega arith) h (rest_inside h))) a in omega (arith, first)
left_falls s binary_operator.Exponential e a b = let first = moved_in (binary_operand_seat binary_operator.Exponential 0) refl 4 (λ h os. omega (arith, pair_at_most (is_parenthesized h (binary_operand_seat binary_operator.Exponential 0)))) a in omega (arith, first)
left_falls s binary_operator.BitwiseAnd e a b = let first = moved_in (binary_operand_seat binary_operator.BitwiseAnd 0) refl 0 (λ h os. omega (arith, inside 7 14 (omega arith) h (rest_inside h))) a in omega (arith, first)
left_falls s binary_operator.BitwiseXor e a b = let first = moved_in (binary_operand_seat binary_operator.BitwiseXor 0) refl 0 (λ h os. omega (arith, inside 6 14 (omega arith) h (rest_inside h))) a in omega (arith, first)
left_falls s binary_operator.BitwiseOr e a b = let first = moved_in (binary_operand_seat binary_operator.BitwiseOr 0) refl 0 (λ h os. omega (arith, inside 5 14 (omega arith) h (rest_inside h))) a in omega (arith, first)
left_falls s binary_operator.ShiftLeft e a b = let first = moved_in (binary_operand_seat binary_operator.ShiftLeft 0) refl 0 (λ h os. omega (arith, inside 10 14 (omega arith) h (rest_inside h))) a in omega (arith, first)
left_falls s binary_operator.ShiftRight e a b = let first = moved_in (binary_operand_seat binary_operator.ShiftRight 0) refl 0 (λ h os. omega (arith, inside 10 14 (omega arith) h (rest_inside h))) a in omega (arith, first)
left_falls s binary_operator.ShiftRightZeroFill e a b = let first = moved_in (binary_operand_seat binary_operator.ShiftRightZeroFill 0) refl 0 (λ h os. omega (arith, inside 10 14 (omega arith) h (rest_inside h))) a in omega (arith, first)
left_falls s o e a b = absurd (true≢false (sym e))

right_falls : (s : Seat) (o : BinaryOperator) → makes_numbers o ≡ true → (a b : Tree) → weight (Expr s) (binary o a b) < weight (Expr s) (binary o a (plus b))
right_falls s binary_operator.Subtraction e a b = let last = moved_in (binary_operand_seat binary_operator.Subtraction 1) refl 0 (λ h os. omega (arith, inside 12 14 (omega arith) h (rest_inside h))) b in omega (arith, last)
right_falls s binary_operator.Multiplication e a b = let last = moved_in (binary_operand_seat binary_operator.Multiplication 1) refl 0 (λ h os. omega (arith, inside 13 14 (omega arith) h (rest_inside h))) b in omega (arith, last)
right_falls s binary_operator.Division e a b = let last = moved_in (binary_operand_seat binary_operator.Division 1) refl 0 (λ h os. omega (arith, inside 13 14 (omega arith) h (rest_inside h))) b in omega (arith, last)
right_falls s binary_operator.Remainder e a b = let last = moved_in (binary_operand_seat binary_operator.Remainder 1) refl 0 (λ h os. omega (arith, inside 13 14 (omega arith) h (rest_inside h))) b in omega (arith, last)
right_falls s binary_operator.Exponential e a b = let last = moved_in (binary_operand_seat binary_operator.Exponential 1) refl 0 (λ h os. omega (arith, inside 13 14 (omega arith) h (rest_inside h))) b in omega (arith, last)
right_falls s binary_operator.BitwiseAnd e a b = let last = moved_in (binary_operand_seat binary_operator.BitwiseAnd 1) refl 0 (λ h os. omega (arith, inside 8 14 (omega arith) h (rest_inside h))) b in omega (arith, last)
right_falls s binary_operator.BitwiseXor e a b = let last = moved_in (binary_operand_seat binary_operator.BitwiseXor 1) refl 0 (λ h os. omega (arith, inside 7 14 (omega arith) h (rest_inside h))) b in omega (arith, last)
right_falls s binary_operator.BitwiseOr e a b = let last = moved_in (binary_operand_seat binary_operator.BitwiseOr 1) refl 0 (λ h os. omega (arith, inside 6 14 (omega arith) h (rest_inside h))) b in omega (arith, last)
right_falls s binary_operator.ShiftLeft e a b = let last = moved_in (binary_operand_seat binary_operator.ShiftLeft 1) refl 0 (λ h os. omega (arith, inside 11 14 (omega arith) h (rest_inside h))) b in omega (arith, last)
right_falls s binary_operator.ShiftRight e a b = let last = moved_in (binary_operand_seat binary_operator.ShiftRight 1) refl 0 (λ h os. omega (arith, inside 11 14 (omega arith) h (rest_inside h))) b in omega (arith, last)
right_falls s binary_operator.ShiftRightZeroFill e a b = let last = moved_in (binary_operand_seat binary_operator.ShiftRightZeroFill 1) refl 0 (λ h os. omega (arith, inside 11 14 (omega arith) h (rest_inside h))) b in omega (arith, last)
right_falls s o e a b = absurd (true≢false (sym e))

-- ---- 8: an operator goes, which weighs more than the mark that a sequence has on the left

number_weighs : (o : BinaryOperator) → is_bitwise o ≡ true → (r : ℤ) → weight (Expr (binary_operand_seat o 1)) (numeral r) ≡ 2 * length (signed_decimal r)
number_weighs binary_operator.BitwiseAnd e (pos n) = omega arith
number_weighs binary_operator.BitwiseAnd e (negsuc n) = omega arith
number_weighs binary_operator.BitwiseXor e (pos n) = omega arith
number_weighs binary_operator.BitwiseXor e (negsuc n) = omega arith
number_weighs binary_operator.BitwiseOr e (pos n) = omega arith
number_weighs binary_operator.BitwiseOr e (negsuc n) = omega arith
number_weighs o e r = absurd (true≢false (sym e))

masked_falls : (s : Seat) (o : BinaryOperator) → is_bitwise o ≡ true → (b : Bool) (a : Tree) (c d r : ℤ) → is_short r c d ≡ true → weight (Expr s) (binary o a (numeral r)) < weight (Expr s) (binary o (with_number o b a c) (numeral d))
masked_falls s binary_operator.BitwiseAnd e true a c d r h = omega (arith, leb-true _ _ h, number_weighs binary_operator.BitwiseAnd refl r)
masked_falls s binary_operator.BitwiseXor e true a c d r h = omega (arith, leb-true _ _ h, number_weighs binary_operator.BitwiseXor refl r)
masked_falls s binary_operator.BitwiseOr e true a c d r h = omega (arith, leb-true _ _ h, number_weighs binary_operator.BitwiseOr refl r)
masked_falls s binary_operator.BitwiseAnd e false a c d r h = let moved = placed 1 (binary_operand_seat binary_operator.BitwiseAnd 0) (binary_operand_seat binary_operator.BitwiseAnd 1) refl (λ k os. omega (arith, inside 7 8 (omega arith) k (rest_inside k), mark_at_most (is_awkward (binary_operand_seat binary_operator.BitwiseAnd 0) k os))) a in omega (arith, leb-true _ _ h, moved, number_weighs binary_operator.BitwiseAnd refl r)
masked_falls s binary_operator.BitwiseXor e false a c d r h = let moved = placed 1 (binary_operand_seat binary_operator.BitwiseXor 0) (binary_operand_seat binary_operator.BitwiseXor 1) refl (λ k os. omega (arith, inside 6 7 (omega arith) k (rest_inside k), mark_at_most (is_awkward (binary_operand_seat binary_operator.BitwiseXor 0) k os))) a in omega (arith, leb-true _ _ h, moved, number_weighs binary_operator.BitwiseXor refl r)
masked_falls s binary_operator.BitwiseOr e false a c d r h = let moved = placed 1 (binary_operand_seat binary_operator.BitwiseOr 0) (binary_operand_seat binary_operator.BitwiseOr 1) refl (λ k os. omega (arith, inside 5 6 (omega arith) k (rest_inside k), mark_at_most (is_awkward (binary_operand_seat binary_operator.BitwiseOr 0) k os))) a in omega (arith, leb-true _ _ h, moved, number_weighs binary_operator.BitwiseOr refl r)
masked_falls s o e b a c d r h = absurd (true≢false (sym e))

-- ---- all

pub operator_lighter : (s : Seat) (n w : Tree) → OperatorRow s n w → weight (Expr s) w < weight (Expr s) n
operator_lighter s n w (Deleted r) = falls_by (Expr s) n w _ _ r.shape r.written (deleted_falls s r.operand (is_effect_free r.operand && leaves_nothing r.operand))
operator_lighter s n w (SameTypes r) = falls_by (Expr s) n w _ _ r.shape r.written (boolean_falls s r.operator r.equality (identifier r.name) (unary Typeof (identifier r.name)) (says_equal r.operator))
operator_lighter s n w (NeverType r) = falls_by (Expr s) n w _ _ r.shape r.written (boolean_falls s r.operator r.equality r.operand r.right (not (says_equal r.operator)))
operator_lighter s n w (LeftPlus r) = falls_by (Expr s) n w _ _ r.shape r.written (left_falls s r.operator r.numeric r.operand r.right)
operator_lighter s n w (RightPlus r) = falls_by (Expr s) n w _ _ r.shape r.written (right_falls s r.operator r.numeric r.left r.operand)
operator_lighter s n w (JoinedMasks r) = falls_by (Expr s) n w _ _ r.shape r.written (masked_falls s r.operator r.bitwise r.on_right r.operand r.first r.second r.joined r.short)

-- a parent's weight reads the same of both

deleted_outline : (a b : Tree) → outline (unary Delete a) ≡ outline (deleted b)
deleted_outline a b = go (is_effect_free b && leaves_nothing b)
  where
    go : (c : Bool) → outline (unary Delete a) ≡ outline (if c then negated_digit true else pair b (negated_digit true))
    go true = refl
    go false = refl

boolean_outline : (o : BinaryOperator) (a b : Tree) (c : Bool) → outline (binary o a b) ≡ outline (negated_digit c)
boolean_outline o a b true = refl
boolean_outline o a b false = refl

pub operator_outline : (s : Seat) (n w : Tree) → OperatorRow s n w → outline n ≡ outline w
operator_outline s n w (Deleted r) = ap outline r.shape ∙ deleted_outline r.operand r.operand ∙ sym (ap outline r.written)
operator_outline s n w (SameTypes r) = ap outline r.shape ∙ boolean_outline r.operator (unary Typeof (identifier r.name)) (unary Typeof (identifier r.name)) (says_equal r.operator) ∙ sym (ap outline r.written)
operator_outline s n w (NeverType r) = ap outline r.shape ∙ boolean_outline r.operator (unary Typeof r.operand) r.right (not (says_equal r.operator)) ∙ sym (ap outline r.written)
operator_outline s n w (LeftPlus r) = ap outline r.shape ∙ sym (ap outline r.written)
operator_outline s n w (RightPlus r) = ap outline r.shape ∙ sym (ap outline r.written)
operator_outline s n w (JoinedMasks r) = ap outline r.shape ∙ sym (ap outline r.written)
