-- What a row on operands whose value is known writes weighs less wherever the expression stands.
use Rattle.std.proofs.Common.{◌≡◌, ℕ, ◌+◌, ◌<◌, ◌≤◌, Bool, true, false, List, [], ◌++◌, length-append, refl, sym, ap, subst, ◌∙◌, inl, inr, true≢false, arith}
use Rattle.std.specs.Prelude.{◌&&◌, ◌||◌, nat_le, nat_lt, ℤ, pos, length, if◌then◌else◌}
use Rattle.std.specs.Fmt.{signed_decimal, digits}
use Rattle.std.proofs.lemmas.Bool.{leb-true}
use Rattle.std.proofs.lemmas.Fmt.{decimal_digit}
use borrow.Author.Tests.{ltb-true, ltb-false}
use Rattle.mini_model.specs.declared.operator.BinaryOperator.{BinaryOperator}
use Rattle.mini_model.specs.declared.operator.BinaryOperator.TheVariants.{Addition, Equality, Inequality, BitwiseAnd, BitwiseXor, BitwiseOr, ShiftLeft, ShiftRight, ShiftRightZeroFill}
use Rattle.mini_model.specs.declared.operator.LogicalOperator.{LogicalOperator}
use Rattle.mini_model.specs.declared.operator.LogicalOperator.TheVariants.{Or, And, Coalesce}
use Rattle.mini_model.specs.declared.operator.UnaryOperator.TheVariants.{LogicalNot}
use Rattle.mini_model.specs.declared.place.Position.{Position}
use Rattle.mini_model.specs.declared.place.Position.TheVariants.{Expr}
use Rattle.mini_model.specs.declared.seat.Seat.{Seat}
use Rattle.mini_model.specs.declared.shape.Shape.{Shape}
use Rattle.mini_model.specs.declared.shape.Shape.TheVariants as shape
use Rattle.mini_model.specs.Tree.{Tree, node, none, ◌▸◌, logical, negation}
use Rattle.mini_model.specs.Position.{left_operand_seat, right_operand_seat, binary_operand_seat, seat_of_level, not_operand_seat, is_and_or}
use Rattle.mini_model.specs.Weight.{Outline, outline, outlines, weight, mixes, is_awkward, is_chain, is_call, place_weight}
use Rattle.mini_laws.specs.Operators.{same_boolean}
use Rattle.mini_laws.specs.Weights.{Lightens, counts_items}
use Rattle.mini_laws.proofs.Seats.{placed}
use Rattle.mini_terms.specs.declared.kinds.Kind.TheVariants.{Boolean as IsBoolean, String as IsString}
use Rattle.mini_terms.specs.Kind.{kind}
use Rattle.mini_terms.specs.Parts.{weighs}
use Rattle.mini_terms.specs.Reading.{is_plain_part}
use Rattle.mini_rows.specs.Booleans.{digit}
use Rattle.mini_rows.specs.Choices.{loosely}
use Rattle.mini_rows.specs.Operators.{is_bitwise}
use Rattle.mini_rows.specs.Operands.{encloses, beside, told_by, keeps_bits, has_room, zero_told, OperandRow, OperandContracts, OperandsLighter, MiddleOperand, EmptyText, BooleanBesideTruth, TruthBesideValue, JoinedTexts, BitsBesideZero, BitsWithZero, WholeOrZero, ByOperator, ShiftAsked, ShiftEnclosed}
use Rattle.mini_rows.specs.Spellings.{binary, negated_digit, numeral, text}
use Rattle.mini_rows.proofs.BooleanWeights.{digit_falls}
use Rattle.mini_rows.proofs.FoldMeaning.{plain_of}
use Rattle.mini_rows.proofs.FoldWeights.{two, moved, there, no_choice}
use Rattle.mini_rows.proofs.OperandForms.{Shifted, shifts, shifted_form, shifted_plain, Tail, of_text, of_number, of_null, of_undefined, tail_form, Bits, inverted, masked, differing, joined, bits_form, bits_plain, Int32, inverts, operates, int32_form, int32_plain}
use Rattle.mini_rows.proofs.BitNumbers.{same_is}
use Rattle.mini_rows.proofs.OperatorWeights.{zero_mark, pair_at_most, pairs, rest_of, operator_lighter, operator_outline}
use Rattle.mini_rows.proofs.SpellWeights.{falls_by, inside, mark_at_most}

-- 14: an operand and its operator go

middle_falls : (o : LogicalOperator) → is_and_or o ≡ true → (s : Seat) (a k b : Tree) → weighs k ≡ true → weight (Expr s) (logical o a b) < weight (Expr s) (logical o (logical o a k) b)
middle_falls Or t s a k b h =
    let first = placed 0 (left_operand_seat Or s) (left_operand_seat Or (left_operand_seat Or s)) refl (λ h os. omega arith) a in
    let heavy = two (right_operand_seat Or (left_operand_seat Or s)) k h in
    omega (arith, first, heavy)
middle_falls And t s a k b h =
    let first = placed 0 (left_operand_seat And s) (left_operand_seat And (left_operand_seat And s)) refl (λ h os. omega arith) a in
    let heavy = two (right_operand_seat And (left_operand_seat And s)) k h in
    omega (arith, first, heavy)
middle_falls Coalesce t s a k b h = absurd (true≢false (sym t))

-- 7: the operator and the empty text weigh 6, more than parentheses and a mark

text_falls : (b : Bool) (s : Seat) (a : Tree) → is_plain_part a ≡ true → weight (Expr s) a < weight (Expr s) (beside Addition b a (text []))
text_falls true s a h = let here = moved s (binary_operand_seat Addition 0) a h in omega (arith, here)
text_falls false s a h = let here = moved s (binary_operand_seat Addition 1) a h in omega (arith, here)

-- 29: a `!` has parentheses only where an equality has

fewer_pairs : (s : Seat) (r : Bool) → (if nat_lt 14 s.level || r then 4 else 0) ≤ (if nat_lt 8 s.level || r then 4 else 0)
fewer_pairs s r = go (nat_lt 14 s.level) (nat_lt 8 s.level) r refl refl
  where
    go : (b c r : Bool) → nat_lt 14 s.level ≡ b → nat_lt 8 s.level ≡ c → (if b || r then 4 else 0) ≤ (if c || r then 4 else 0)
    go true true r p q = omega arith
    go false true true p q = omega arith
    go false true false p q = omega arith
    go false false r p q = omega arith
    go true false r p q = absurd (omega (arith, ltb-true _ _ p, ltb-false _ _ q))

not_marks : (equal : Bool) (s : Seat) (os ps : List Outline) → place_weight (Expr s) (shape.UnaryExpression LogicalNot) os ≤ place_weight (Expr s) (shape.BinaryExpression (loosely equal)) ps
not_marks true s os ps = omega (arith, zero_mark s.eq_left s.cond_test s.lifted, fewer_pairs s (false || ((s.access && false) || (s.new_callee && false))))
not_marks false s os ps = omega (arith, zero_mark s.eq_left s.cond_test s.lifted, fewer_pairs s (false || ((s.access && false) || (s.new_callee && false))))

told_falls : (equal c : Bool) (s : Seat) (a : Tree) → is_plain_part a ≡ true → weight (Expr s) (told_by (same_boolean equal c) a) < weight (Expr s) (binary (loosely equal) a (negated_digit c))
told_falls true true s a h = let here = moved s (binary_operand_seat Equality 0) a h in omega (arith, here)
told_falls false false s a h = let here = moved s (binary_operand_seat Inequality 0) a h in omega (arith, here)
told_falls true false s a h =
    let here = moved not_operand_seat (binary_operand_seat Equality 0) a h in
    let marks = not_marks true s (outlines (a ▸ none)) (outlines (a ▸ negated_digit false ▸ none)) in
    let one : length (signed_decimal (pos 1)) ≡ 1 = ap length (decimal_digit 1 (omega arith)) in
    omega (arith, here, marks, one)
told_falls false true s a h =
    let here = moved not_operand_seat (binary_operand_seat Inequality 0) a h in
    let marks = not_marks false s (outlines (a ▸ none)) (outlines (a ▸ negated_digit true ▸ none)) in
    let zero : length (signed_decimal (pos 0)) ≡ 1 = ap length (decimal_digit 0 (omega arith)) in
    omega (arith, here, marks, zero)

plain_inside : (t : Bool) (a : Tree) → is_plain_part (told_by t a) ≡ true → is_plain_part a ≡ true
plain_inside true a h = h
plain_inside false a h = h

-- 30

counted_falls : (equal c b : Bool) (s : Seat) (a : Tree) → weight (Expr s) (beside (loosely equal) b a (digit c)) < weight (Expr s) (beside (loosely equal) b a (negated_digit c))
counted_falls true c true s a = omega (arith, digit_falls (binary_operand_seat Equality 1) c)
counted_falls true c false s a = omega (arith, digit_falls (binary_operand_seat Equality 0) c)
counted_falls false c true s a = omega (arith, digit_falls (binary_operand_seat Inequality 1) c)
counted_falls false c false s a = omega (arith, digit_falls (binary_operand_seat Inequality 0) c)

-- 4: an operator goes, and the quotes of a text, if it is one; `null` and `undefined` weigh as much as their texts

joined_falls : (seat : Seat) (a : Tree) (s : List ℕ) (k : Tree) (t : List ℕ) → Tail k t → weight (Expr seat) (binary Addition a (text (s ++ t))) < weight (Expr seat) (binary Addition (binary Addition a (text s)) k)
joined_falls seat a s k t (of_text is) = subst (λ x. weight (Expr seat) (binary Addition a (text (s ++ t))) < weight (Expr seat) (binary Addition (binary Addition a (text s)) x)) (sym is) (omega (arith, length-append s t))
joined_falls seat a s k t (of_number m is same) = subst (λ x. weight (Expr seat) (binary Addition a (text (s ++ t))) < weight (Expr seat) (binary Addition (binary Addition a (text s)) x)) (sym is) (omega (arith, length-append s t, ap length same))
joined_falls seat a s k t (of_undefined is same) = subst (λ x. weight (Expr seat) (binary Addition a (text (s ++ t))) < weight (Expr seat) (binary Addition (binary Addition a (text s)) x)) (sym is) (omega (arith, length-append s t, ap length same))
joined_falls seat a s k t (of_null is same) = subst (λ x. weight (Expr seat) (binary Addition a (text (s ++ t))) < weight (Expr seat) (binary Addition (binary Addition a (text s)) x)) (sym is) (omega (arith, length-append s t, ap length same))

-- 27: what is looked at has parentheses on the left of an equality where it has them under a `!`

bits_moved : (equal : Bool) (a : Tree) → Bits a → weight (Expr not_operand_seat) a ≤ weight (Expr (binary_operand_seat (loosely equal) 0)) a
bits_moved true a (inverted is) = subst (λ x. weight (Expr not_operand_seat) x ≤ weight (Expr (binary_operand_seat Equality 0)) x) (sym is) (omega arith)
bits_moved true a (masked is) = subst (λ x. weight (Expr not_operand_seat) x ≤ weight (Expr (binary_operand_seat Equality 0)) x) (sym is) (omega arith)
bits_moved true a (differing is) = subst (λ x. weight (Expr not_operand_seat) x ≤ weight (Expr (binary_operand_seat Equality 0)) x) (sym is) (omega arith)
bits_moved true a (joined is) = subst (λ x. weight (Expr not_operand_seat) x ≤ weight (Expr (binary_operand_seat Equality 0)) x) (sym is) (omega arith)
bits_moved false a (inverted is) = subst (λ x. weight (Expr not_operand_seat) x ≤ weight (Expr (binary_operand_seat Inequality 0)) x) (sym is) (omega arith)
bits_moved false a (masked is) = subst (λ x. weight (Expr not_operand_seat) x ≤ weight (Expr (binary_operand_seat Inequality 0)) x) (sym is) (omega arith)
bits_moved false a (differing is) = subst (λ x. weight (Expr not_operand_seat) x ≤ weight (Expr (binary_operand_seat Inequality 0)) x) (sym is) (omega arith)
bits_moved false a (joined is) = subst (λ x. weight (Expr not_operand_seat) x ≤ weight (Expr (binary_operand_seat Inequality 0)) x) (sym is) (omega arith)

zero_falls : (equal : Bool) (s : Seat) (a : Tree) → Bits a → weight (Expr s) (zero_told equal a) < weight (Expr s) (binary (loosely equal) a (digit false))
zero_falls true s a h =
    let here = bits_moved true a h in
    let marks = not_marks true s (outlines (a ▸ none)) (outlines (a ▸ digit false ▸ none)) in
    let zero : length (signed_decimal (pos 0)) ≡ 1 = ap length (decimal_digit 0 (omega arith)) in
    omega (arith, here, marks, zero)
zero_falls false s a h =
    let here = bits_moved false a h in
    let marks = not_marks false s (outlines (negation a ▸ none)) (outlines (a ▸ digit false ▸ none)) in
    let zero : length (signed_decimal (pos 0)) ≡ 1 = ap length (decimal_digit 0 (omega arith)) in
    omega (arith, here, marks, zero)

-- 31: `|` has parentheses where the other operator has them, or there is room, and what stands on its left has no more

room : (k : ℕ) (s : Seat) → nat_le s.level 5 || nat_lt k s.level ≡ true → (r : Bool) → (if nat_lt 5 s.level || r then 4 else 0) ≤ (if nat_lt k s.level || r then 4 else 0)
room k s h r = go (nat_lt 5 s.level) (nat_lt k s.level) (nat_le s.level 5) r refl refl refl h
  where
    go : (b c d r : Bool) → nat_lt 5 s.level ≡ b → nat_lt k s.level ≡ c → nat_le s.level 5 ≡ d → d || c ≡ true → (if b || r then 4 else 0) ≤ (if c || r then 4 else 0)
    go true true d r p q w e = omega arith
    go false true d true p q w e = omega arith
    go false true d false p q w e = omega arith
    go false false d r p q w e = omega arith
    go true false true r p q w e = absurd (omega (arith, ltb-true _ _ p, leb-true _ _ w))
    go true false false r p q w e = absurd (true≢false (sym e))

abbrev or_seat : Seat
or_seat = binary_operand_seat BitwiseOr 0

abbrev rest_inside : Shape → Bool
rest_inside h = mixes h or_seat.mix || ((or_seat.access && is_chain h) || (or_seat.new_callee && is_call h))

left_moved : (o : BinaryOperator) (x : ℤ) → keeps_bits o x ≡ true → (a : Tree) → weight (Expr or_seat) a ≤ weight (Expr (binary_operand_seat o 0)) a + 0
left_moved ShiftLeft x e a = placed 0 or_seat (binary_operand_seat ShiftLeft 0) refl (λ h os. omega (arith, inside 5 10 (omega arith) h (rest_inside h))) a
left_moved ShiftRight x e a = placed 0 or_seat (binary_operand_seat ShiftRight 0) refl (λ h os. omega (arith, inside 5 10 (omega arith) h (rest_inside h))) a
left_moved BitwiseXor x e a = placed 0 or_seat (binary_operand_seat BitwiseXor 0) refl (λ h os. omega (arith, inside 5 6 (omega arith) h (rest_inside h))) a
left_moved BitwiseAnd x e a = placed 0 or_seat (binary_operand_seat BitwiseAnd 0) refl (λ h os. omega (arith, inside 5 7 (omega arith) h (rest_inside h))) a
left_moved o x e a = absurd (true≢false (sym e))

nought_text : length (signed_decimal (pos 0)) ≡ 1
unfolding digits
nought_text = refl

mask_text : length (signed_decimal (pos 4_294_967_295)) ≡ 10
unfolding digits
mask_text = refl

kept_falls : (o : BinaryOperator) (x : ℤ) → keeps_bits o x ≡ true → (s : Seat) → has_room o s ≡ true → (a : Tree) → weight (Expr s) (binary BitwiseOr a (digit false)) < weight (Expr s) (binary o a (numeral x))
kept_falls ShiftLeft x e s h a = subst (λ y. weight (Expr s) (binary BitwiseOr a (digit false)) < weight (Expr s) (binary ShiftLeft a (numeral y))) (sym (same_is x 0 e)) (omega (arith, left_moved ShiftLeft x e a, room 10 s h (rest_of s), zero_mark s.eq_left s.cond_test s.lifted))
kept_falls ShiftRight x e s h a = subst (λ y. weight (Expr s) (binary BitwiseOr a (digit false)) < weight (Expr s) (binary ShiftRight a (numeral y))) (sym (same_is x 0 e)) (omega (arith, left_moved ShiftRight x e a, room 10 s h (rest_of s), zero_mark s.eq_left s.cond_test s.lifted))
kept_falls BitwiseXor x e s h a = subst (λ y. weight (Expr s) (binary BitwiseOr a (digit false)) < weight (Expr s) (binary BitwiseXor a (numeral y))) (sym (same_is x 0 e)) (omega (arith, left_moved BitwiseXor x e a, room 6 s h (rest_of s), zero_mark s.eq_left s.cond_test s.lifted))
kept_falls BitwiseAnd x e s h a = subst (λ y. weight (Expr s) (binary BitwiseOr a (digit false)) < weight (Expr s) (binary BitwiseAnd a (numeral y))) (sym (same_is x 4_294_967_295 e)) (omega (arith, left_moved BitwiseAnd x e a, pair_at_most (nat_lt 5 s.level || rest_of s), zero_mark s.eq_left s.cond_test s.lifted, nought_text, mask_text))
kept_falls o x e s h a = absurd (true≢false (sym e))

-- with the number on the left: what stands on the right is no list of expressions without parentheses, and has a mark besides on the left
right_marks : (k : ℕ) → 5 ≤ k → (h : Shape) (os : List Outline) → place_weight (Expr or_seat) h os ≤ place_weight (Expr (seat_of_level k)) h os + 1
right_marks k l h os = omega (arith, inside 5 k l h (rest_inside h), mark_at_most (is_awkward or_seat h os))

right_moved : (o : BinaryOperator) (x : ℤ) → keeps_bits o x ≡ true → is_bitwise o ≡ true → (a : Tree) → weight (Expr or_seat) a ≤ weight (Expr (binary_operand_seat o 1)) a + 1
right_moved BitwiseXor x e t a = placed 1 or_seat (binary_operand_seat BitwiseXor 1) refl (right_marks 7 (omega arith)) a
right_moved BitwiseAnd x e t a = placed 1 or_seat (binary_operand_seat BitwiseAnd 1) refl (right_marks 8 (omega arith)) a
right_moved BitwiseOr x e t a = absurd (true≢false (sym e))
right_moved o x e t a = absurd (true≢false (sym t))

turned_falls : (o : BinaryOperator) (x : ℤ) → keeps_bits o x ≡ true → is_bitwise o ≡ true → (s : Seat) → has_room o s ≡ true → (a : Tree) → weight (Expr s) (binary BitwiseOr a (digit false)) < weight (Expr s) (binary o (numeral x) a)
turned_falls BitwiseXor x e t s h a = subst (λ y. weight (Expr s) (binary BitwiseOr a (digit false)) < weight (Expr s) (binary BitwiseXor (numeral y) a)) (sym (same_is x 0 e)) (omega (arith, right_moved BitwiseXor x e t a, room 6 s h (rest_of s), zero_mark s.eq_left s.cond_test s.lifted))
turned_falls BitwiseAnd x e t s h a = subst (λ y. weight (Expr s) (binary BitwiseOr a (digit false)) < weight (Expr s) (binary BitwiseAnd (numeral y) a)) (sym (same_is x 4_294_967_295 e)) (omega (arith, right_moved BitwiseAnd x e t a, pair_at_most (nat_lt 5 s.level || rest_of s), zero_mark s.eq_left s.cond_test s.lifted, nought_text, mask_text))
turned_falls BitwiseOr x e t s h a = absurd (true≢false (sym e))
turned_falls o x e t s h a = absurd (true≢false (sym t))

beside_falls : (o : BinaryOperator) (b : Bool) (x : ℤ) → keeps_bits o x ≡ true → b || is_bitwise o ≡ true → (s : Seat) → has_room o s ≡ true → (a : Tree) → weight (Expr s) (binary BitwiseOr a (digit false)) < weight (Expr s) (beside o b a (numeral x))
beside_falls o true x e t s h a = kept_falls o x e s h a
beside_falls o false x e t s h a = turned_falls o x e t s h a

-- 32: what stays has parentheses only where `|` has

int32_falls : (s : Seat) (t : Tree) → Int32 t → weight (Expr s) t < weight (Expr s) (binary BitwiseOr t (digit false))
int32_falls s t (inverts is) = subst (λ x. weight (Expr s) x < weight (Expr s) (binary BitwiseOr x (digit false))) (sym is) (omega (arith, pairs 5 14 (omega arith) s.level (rest_of s), zero_mark s.eq_left s.cond_test s.lifted))
int32_falls s t (operates BitwiseAnd h is) = subst (λ x. weight (Expr s) x < weight (Expr s) (binary BitwiseOr x (digit false))) (sym is) (omega (arith, pairs 5 7 (omega arith) s.level (rest_of s), zero_mark s.eq_left s.cond_test s.lifted))
int32_falls s t (operates BitwiseXor h is) = subst (λ x. weight (Expr s) x < weight (Expr s) (binary BitwiseOr x (digit false))) (sym is) (omega (arith, pairs 5 6 (omega arith) s.level (rest_of s), zero_mark s.eq_left s.cond_test s.lifted))
int32_falls s t (operates BitwiseOr h is) = subst (λ x. weight (Expr s) x < weight (Expr s) (binary BitwiseOr x (digit false))) (sym is) (omega (arith, zero_mark s.eq_left s.cond_test s.lifted))
int32_falls s t (operates ShiftLeft h is) = subst (λ x. weight (Expr s) x < weight (Expr s) (binary BitwiseOr x (digit false))) (sym is) (omega (arith, pairs 5 10 (omega arith) s.level (rest_of s), zero_mark s.eq_left s.cond_test s.lifted))
int32_falls s t (operates ShiftRight h is) = subst (λ x. weight (Expr s) x < weight (Expr s) (binary BitwiseOr x (digit false))) (sym is) (omega (arith, pairs 5 10 (omega arith) s.level (rest_of s), zero_mark s.eq_left s.cond_test s.lifted))
int32_falls s t (operates o h is) = absurd (true≢false (sym h))

int32_left_falls : (s : Seat) (t : Tree) → Int32 t → weight (Expr s) t < weight (Expr s) (binary BitwiseOr (digit false) t)
int32_left_falls s t (inverts is) = subst (λ x. weight (Expr s) x < weight (Expr s) (binary BitwiseOr (digit false) x)) (sym is) (omega (arith, pairs 5 14 (omega arith) s.level (rest_of s), zero_mark s.eq_left s.cond_test s.lifted))
int32_left_falls s t (operates BitwiseAnd h is) = subst (λ x. weight (Expr s) x < weight (Expr s) (binary BitwiseOr (digit false) x)) (sym is) (omega (arith, pairs 5 7 (omega arith) s.level (rest_of s), zero_mark s.eq_left s.cond_test s.lifted))
int32_left_falls s t (operates BitwiseXor h is) = subst (λ x. weight (Expr s) x < weight (Expr s) (binary BitwiseOr (digit false) x)) (sym is) (omega (arith, pairs 5 6 (omega arith) s.level (rest_of s), zero_mark s.eq_left s.cond_test s.lifted))
int32_left_falls s t (operates BitwiseOr h is) = subst (λ x. weight (Expr s) x < weight (Expr s) (binary BitwiseOr (digit false) x)) (sym is) (omega (arith, zero_mark s.eq_left s.cond_test s.lifted))
int32_left_falls s t (operates ShiftLeft h is) = subst (λ x. weight (Expr s) x < weight (Expr s) (binary BitwiseOr (digit false) x)) (sym is) (omega (arith, pairs 5 10 (omega arith) s.level (rest_of s), zero_mark s.eq_left s.cond_test s.lifted))
int32_left_falls s t (operates ShiftRight h is) = subst (λ x. weight (Expr s) x < weight (Expr s) (binary BitwiseOr (digit false) x)) (sym is) (omega (arith, pairs 5 10 (omega arith) s.level (rest_of s), zero_mark s.eq_left s.cond_test s.lifted))
int32_left_falls s t (operates o h is) = absurd (true≢false (sym h))

whole_falls : (b : Bool) (s : Seat) (t : Tree) → Int32 t → weight (Expr s) t < weight (Expr s) (beside BitwiseOr b t (digit false))
whole_falls true s t h = int32_falls s t h
whole_falls false s t h = int32_left_falls s t h

-- 27: a shift has parentheses only where the equality has them

shifted_falls : (s : Seat) (t : Tree) → Shifted t → weight (Expr s) t < weight (Expr s) (binary (loosely false) t (digit false))
shifted_falls s t (shifts ShiftLeft h is) = subst (λ x. weight (Expr s) x < weight (Expr s) (binary (loosely false) x (digit false))) (sym is) (omega (arith, pairs 8 10 (omega arith) s.level (rest_of s), zero_mark s.eq_left s.cond_test s.lifted))
shifted_falls s t (shifts ShiftRight h is) = subst (λ x. weight (Expr s) x < weight (Expr s) (binary (loosely false) x (digit false))) (sym is) (omega (arith, pairs 8 10 (omega arith) s.level (rest_of s), zero_mark s.eq_left s.cond_test s.lifted))
shifted_falls s t (shifts ShiftRightZeroFill h is) = subst (λ x. weight (Expr s) x < weight (Expr s) (binary (loosely false) x (digit false))) (sym is) (omega (arith, pairs 8 10 (omega arith) s.level (rest_of s), zero_mark s.eq_left s.cond_test s.lifted))
shifted_falls s t (shifts o h is) = absurd (true≢false (sym h))

-- 27: a shift gets parentheses under a `!`, where the comparison loses its own

no_rest : (a b : Bool) → false || ((a && false) || (b && false)) ≡ false
no_rest true true = refl
no_rest true false = refl
no_rest false true = refl
no_rest false false = refl

enclosed_pairs : (s : Seat) (r : Bool) → encloses s ≡ true → r ≡ false → (if nat_lt 14 s.level || r then 4 else 0) + 4 ≤ (if nat_lt 8 s.level || r then 4 else 0)
enclosed_pairs s r h e = go (nat_lt 14 s.level) (nat_lt 8 s.level) r refl refl e h
  where
    go : (b c r : Bool) → nat_lt 14 s.level ≡ b → nat_lt 8 s.level ≡ c → r ≡ false → c && nat_le s.level 14 ≡ true → (if b || r then 4 else 0) + 4 ≤ (if c || r then 4 else 0)
    go b c true p q e h = absurd (true≢false e)
    go b false false p q e h = absurd (true≢false (sym h))
    go false true false p q e h = omega arith
    go true true false p q e h = absurd (omega (arith, ltb-true _ _ p, leb-true _ _ h))

enclosed_marks : (equal : Bool) (s : Seat) → encloses s ≡ true → (os ps : List Outline) → place_weight (Expr s) (shape.UnaryExpression LogicalNot) os + 4 ≤ place_weight (Expr s) (shape.BinaryExpression (loosely equal)) ps
enclosed_marks true s h os ps = omega (arith, zero_mark s.eq_left s.cond_test s.lifted, enclosed_pairs s (false || ((s.access && false) || (s.new_callee && false))) h (no_rest s.access s.new_callee))
enclosed_marks false s h os ps = omega (arith, zero_mark s.eq_left s.cond_test s.lifted, enclosed_pairs s (false || ((s.access && false) || (s.new_callee && false))) h (no_rest s.access s.new_callee))

shifted_moved : (equal : Bool) (t : Tree) → Shifted t → weight (Expr not_operand_seat) t ≤ weight (Expr (binary_operand_seat (loosely equal) 0)) t + 4
shifted_moved true t (shifts ShiftLeft h is) = subst (λ x. weight (Expr not_operand_seat) x ≤ weight (Expr (binary_operand_seat Equality 0)) x + 4) (sym is) (omega arith)
shifted_moved true t (shifts ShiftRight h is) = subst (λ x. weight (Expr not_operand_seat) x ≤ weight (Expr (binary_operand_seat Equality 0)) x + 4) (sym is) (omega arith)
shifted_moved true t (shifts ShiftRightZeroFill h is) = subst (λ x. weight (Expr not_operand_seat) x ≤ weight (Expr (binary_operand_seat Equality 0)) x + 4) (sym is) (omega arith)
shifted_moved false t (shifts ShiftLeft h is) = subst (λ x. weight (Expr not_operand_seat) x ≤ weight (Expr (binary_operand_seat Inequality 0)) x + 4) (sym is) (omega arith)
shifted_moved false t (shifts ShiftRight h is) = subst (λ x. weight (Expr not_operand_seat) x ≤ weight (Expr (binary_operand_seat Inequality 0)) x + 4) (sym is) (omega arith)
shifted_moved false t (shifts ShiftRightZeroFill h is) = subst (λ x. weight (Expr not_operand_seat) x ≤ weight (Expr (binary_operand_seat Inequality 0)) x + 4) (sym is) (omega arith)
shifted_moved equal t (shifts o h is) = absurd (true≢false (sym h))

enclosed_falls : (equal : Bool) (s : Seat) (a : Tree) → encloses s ≡ true → Shifted a → weight (Expr s) (zero_told equal a) < weight (Expr s) (binary (loosely equal) a (digit false))
enclosed_falls true s a e h =
    let here = shifted_moved true a h in
    let marks = enclosed_marks true s e (outlines (a ▸ none)) (outlines (a ▸ digit false ▸ none)) in
    let zero : length (signed_decimal (pos 0)) ≡ 1 = ap length (decimal_digit 0 (omega arith)) in
    omega (arith, here, marks, zero)
enclosed_falls false s a e h =
    let here = shifted_moved false a h in
    let marks = enclosed_marks false s e (outlines (negation a ▸ none)) (outlines (a ▸ digit false ▸ none)) in
    let zero : length (signed_decimal (pos 0)) ≡ 1 = ap length (decimal_digit 0 (omega arith)) in
    omega (arith, here, marks, zero)

-- ---- all

pub lighter : OperandsLighter
lighter (Expr s) n w (MiddleOperand r) = falls_by (Expr s) n w _ _ r.shape r.written (middle_falls r.operator r.tells s r.left r.middle r.right r.heavy)
lighter (Expr s) n w (EmptyText r) = falls_by (Expr s) n w _ _ r.shape r.written (text_falls r.on_right s r.operand (plain_of s r.operand r.stays))
lighter (Expr s) n w (BooleanBesideTruth r) = falls_by (Expr s) n w _ _ r.shape r.written (told_falls r.equal r.truth s r.operand (plain_inside (same_boolean r.equal r.truth) r.operand (plain_of s (told_by (same_boolean r.equal r.truth) r.operand) r.stays)))
lighter (Expr s) n w (TruthBesideValue r) = falls_by (Expr s) n w _ _ r.shape r.written (counted_falls r.equal r.truth r.on_right s r.operand)
lighter (Expr s) n w (JoinedTexts r) = falls_by (Expr s) n w _ _ r.shape r.written (joined_falls s r.left r.before r.tail r.after (tail_form r.tail r.after r.known))
lighter (Expr s) n w (BitsBesideZero r) = falls_by (Expr s) n w _ _ r.shape r.written (zero_falls r.equal s r.operand (bits_form r.operand r.known))
lighter (Expr s) n w (BitsWithZero r) = falls_by (Expr s) n w _ _ r.shape r.written (beside_falls r.operator r.on_right r.number r.known r.sided s r.seated r.operand)
lighter (Expr s) n w (WholeOrZero r) = falls_by (Expr s) n w _ _ r.shape r.written (whole_falls r.on_right s r.operand (int32_form r.operand r.known))
lighter (Expr s) n w (ByOperator r) = operator_lighter s n w r
lighter (Expr s) n w (ShiftEnclosed r) = falls_by (Expr s) n w _ _ r.shape r.written (enclosed_falls r.equal s r.operand r.seated (shifted_form r.operand r.known))
lighter (Expr s) n w (ShiftAsked r) = falls_by (Expr s) n w _ _ r.shape r.written (shifted_falls s r.operand (shifted_form r.operand r.known))
lighter p n w r = absurd r

-- what a parent's weight reads of them

-- a text is not the number 0, and no boolean is
text_not_zero : (t : Tree) → kind t ≡ IsString → (outline t).is_zero ≡ false
text_not_zero (node (shape.NumericLiteral m) xs n ts) e = absurd (cc e)
text_not_zero (node h xs n ts) e = refl

boolean_not_zero : (t : Tree) → kind t ≡ IsBoolean → (outline t).is_zero ≡ false
boolean_not_zero (node (shape.NumericLiteral m) xs n ts) e = absurd (cc e)
boolean_not_zero (node h xs n ts) e = refl

told_not_zero : (b : Bool) (t : Tree) → kind t ≡ IsBoolean → (outline (told_by b t)).is_zero ≡ false
told_not_zero true t e = boolean_not_zero t e
told_not_zero false t e = refl

beside_outline : (o : BinaryOperator) (b : Bool) (a k l : Tree) → outline (beside o b a k) ≡ outline (beside o b a l)
beside_outline o true a k l = refl
beside_outline o false a k l = refl

beside_there : (o : BinaryOperator) (b : Bool) (a k : Tree) → (outline (beside o b a k)).absent ≡ false
beside_there o true a k = refl
beside_there o false a k = refl

beside_chooses : (o : BinaryOperator) (b : Bool) (a k : Tree) → (outline (beside o b a k)).chooses ≡ false
beside_chooses o true a k = refl
beside_chooses o false a k = refl

beside_zero : (o : BinaryOperator) (b : Bool) (a k : Tree) → (outline (beside o b a k)).is_zero ≡ false
beside_zero o true a k = refl
beside_zero o false a k = refl

-- one of them is read by a parent as the other is
record ReadAlike (n w : Tree) : Type 0 where
  absent : (outline n).absent ≡ (outline w).absent
  is_zero : (outline n).is_zero ≡ (outline w).is_zero
  chooses : (outline n).chooses ≡ (outline w).chooses

whole_alike : (n w : Tree) → outline n ≡ outline w → ReadAlike n w
whole_alike n w e = record { absent = ap (λ o. o.absent) e; is_zero = ap (λ o. o.is_zero) e; chooses = ap (λ o. o.chooses) e }

left_alike : (n w : Tree) (o : BinaryOperator) (b : Bool) (a k t : Tree) → n ≡ beside o b a k → w ≡ t → is_plain_part t ≡ true → (outline t).is_zero ≡ false → ReadAlike n w
left_alike n w o b a k t e f plain zero = record {
  absent = ap (λ x. (outline x).absent) e ∙ beside_there o b a k ∙ sym (ap (λ x. (outline x).absent) f ∙ there t plain);
  is_zero = ap (λ x. (outline x).is_zero) e ∙ beside_zero o b a k ∙ sym (ap (λ x. (outline x).is_zero) f ∙ zero);
  chooses = ap (λ x. (outline x).chooses) e ∙ beside_chooses o b a k ∙ sym (ap (λ x. (outline x).chooses) f ∙ no_choice t plain);
}

zero_plain : (equal : Bool) (a : Tree) → is_plain_part a ≡ true → is_plain_part (zero_told equal a) ≡ true
zero_plain true a h = h
zero_plain false a h = h

zero_is_none : (equal : Bool) (a : Tree) → (outline (zero_told equal a)).is_zero ≡ false
zero_is_none true a = refl
zero_is_none false a = refl

int32_no_zero : (t : Tree) → Int32 t → (outline t).is_zero ≡ false
int32_no_zero t (inverts is) = ap (λ x. (outline x).is_zero) is
int32_no_zero t (operates o h is) = ap (λ x. (outline x).is_zero) is

shifted_no_zero : (t : Tree) → Shifted t → (outline t).is_zero ≡ false
shifted_no_zero t (shifts o h is) = ap (λ x. (outline x).is_zero) is

alike : (p : Position) (n w : Tree) → OperandRow p n w → ReadAlike n w
alike (Expr s) n w (MiddleOperand r) = whole_alike n w (ap outline r.shape ∙ sym (ap outline r.written))
alike (Expr s) n w (EmptyText r) = left_alike n w Addition r.on_right r.operand (text []) r.operand r.shape r.written (plain_of s r.operand r.stays) (text_not_zero r.operand r.known)
alike (Expr s) n w (BooleanBesideTruth r) = let t : Tree = told_by (same_boolean r.equal r.truth) r.operand in left_alike n w (loosely r.equal) true r.operand (negated_digit r.truth) t r.shape r.written (plain_of s t r.stays) (told_not_zero (same_boolean r.equal r.truth) r.operand r.known)
alike (Expr s) n w (TruthBesideValue r) = whole_alike n w (ap outline r.shape ∙ beside_outline (loosely r.equal) r.on_right r.operand (negated_digit r.truth) (digit r.truth) ∙ sym (ap outline r.written))
alike (Expr s) n w (JoinedTexts r) = whole_alike n w (ap outline r.shape ∙ sym (ap outline r.written))
alike (Expr s) n w (BitsBesideZero r) = left_alike n w (loosely r.equal) true r.operand (digit false) (zero_told r.equal r.operand) r.shape r.written (zero_plain r.equal r.operand (bits_plain r.operand r.known)) (zero_is_none r.equal r.operand)
alike (Expr s) n w (BitsWithZero r) = left_alike n w r.operator r.on_right r.operand (numeral r.number) (binary BitwiseOr r.operand (digit false)) r.shape r.written refl refl
alike (Expr s) n w (WholeOrZero r) = let form = int32_form r.operand r.known in left_alike n w BitwiseOr r.on_right r.operand (digit false) r.operand r.shape r.written (int32_plain r.operand form) (int32_no_zero r.operand form)
alike (Expr s) n w (ByOperator r) = whole_alike n w (operator_outline s n w r)
alike (Expr s) n w (ShiftEnclosed r) = left_alike n w (loosely r.equal) true r.operand (digit false) (zero_told r.equal r.operand) r.shape r.written (zero_plain r.equal r.operand (shifted_plain r.operand (shifted_form r.operand r.known))) (zero_is_none r.equal r.operand)
alike (Expr s) n w (ShiftAsked r) = let form = shifted_form r.operand r.known in left_alike n w (loosely false) true r.operand (digit false) r.operand r.shape r.written (shifted_plain r.operand form) (shifted_no_zero r.operand form)
alike p n w r = absurd r

no_items : (p : Position) (n w : Tree) → OperandRow p n w → counts_items p ≡ true → (outline n).items ≡ (outline w).items
no_items (Expr s) n w r e = absurd (true≢false (sym e))
no_items p n w r e = absurd r

pub lightens : Lightens OperandContracts
lightens = record {
  lighter = λ p n w c. c.lighter;
  absent = λ p n w c a. (alike p n w c.row).absent;
  items = λ p n w c a. no_items p n w c.row a;
  is_zero = λ p n w c a. inl (alike p n w c.row).is_zero;
  chooses = λ p n w c a. inl (λ h. sym (alike p n w c.row).chooses ∙ h);
}
