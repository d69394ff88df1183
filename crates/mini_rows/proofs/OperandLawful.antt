-- What a row on operands whose value is known writes keeps all that a program has to keep: it is built anew of the same parts.
use Rattle.std.proofs.Common.{◌≡◌, ℕ, ℤ, Bool, true, false, List, [], ◌++◌, refl, sym, ap, ◌∙◌, subst, inl, inr, true≢false}
use Rattle.std.specs.Prelude.{◌&&◌, codes, pos}
use Rattle.std.specs.Char.Utf16.{utf16_chars}
use Rattle.mini_model.specs.declared.operator.BinaryOperator.{BinaryOperator}
use Rattle.mini_model.specs.declared.operator.BinaryOperator.TheVariants.{Addition, BitwiseOr}
use Rattle.mini_model.specs.declared.operator.UnaryOperator.TheVariants.{LogicalNot, BitwiseNot}
use Rattle.mini_model.specs.declared.place.Position.{Position}
use Rattle.mini_model.specs.declared.place.Position.TheVariants.{Expr}
use Rattle.mini_model.specs.declared.seat.Seat.{Seat}
use Rattle.mini_model.specs.declared.shape.Shape.TheVariants as shape
use Rattle.mini_model.specs.Tree.{Tree, none, ◌▸◌, unary, logical, negation, identifier, unresolved}
use Rattle.mini_node.specs.Children.{part as its_part}
use Rattle.mini_accept.specs.WellShaped.{Slot, is_paired, fits}
use Rattle.mini_kept.specs.KeepsNames.{is_rewritten_place}
use Rattle.mini_kept.specs.KeepsShapes.{AskedAlike}
use Rattle.mini_kept.specs.KeepsFrames.{is_body_slot}
use Rattle.mini_kept.specs.Lawful.{Lawful}
use Rattle.mini_kept.proofs.Bools.{both}
use Rattle.mini_kept.proofs.Expressions.{expression, TakesExpression, expression_taken, two_fit}
use Rattle.mini_laws.specs.Operators.{same_boolean}
use Rattle.mini_terms.specs.Parts.{suits}
use Rattle.mini_rows.specs.Arranged.{KeptAt}
use Rattle.mini_rows.specs.Booleans.{digit}
use Rattle.mini_rows.specs.Choices.{loosely}
use Rattle.mini_rows.specs.Operands.{beside, told_by, zero_told, Row14, OperandRow, OperandContracts, MiddleOperand, EmptyText, BooleanBesideTruth, TruthBesideValue, JoinedTexts, BitsBesideZero, BitsWithZero, WholeOrZero, ByOperator, ShiftAsked, ShiftEnclosed}
use Rattle.mini_rows.specs.Sketches.{Null, Number, String, Unary, Binary, Logical, Sketch, part, under, end, ◌▹◌}
use Rattle.mini_rows.specs.Spellings.{binary, negated_digit, numeral, text}
use Rattle.mini_rows.proofs.ArrangedExpressions.{expressions_arranged, expressions_arranged_freely}
use Rattle.mini_rows.proofs.ArrangedLawful.{kept_is_lawful}
use Rattle.mini_rows.proofs.ConstantLawful.{plain_fields, binary_at}
use Rattle.mini_rows.proofs.FoldLawful.{vanishes, first_dropped, operands, expression_slot, no_number}
use Rattle.mini_rows.proofs.FoldWeights.{not_a_number}
use Rattle.mini_rows.proofs.OperandForms.{Shifted, shifts, shifted_form, Tail, of_text, of_number, of_null, of_undefined, tail_form, Int32, inverts, operates, int32_form}
use Rattle.mini_rows.proofs.OperandMeaning.{operands_same}
use Rattle.mini_rows.proofs.OperatorLawful.{operator_kept, operator_stood, operator_asked}
use Rattle.mini_rows.proofs.Surrogates.{is_paired_joined, numeral_paired}

null_paired : is_paired (codes "null") ≡ true
unfolding utf16_chars
null_paired = refl

undefined_paired : is_paired (codes "undefined") ≡ true
unfolding utf16_chars
undefined_paired = refl

-- ---- the same parts

abbrev of_two : BinaryOperator → Bool → Sketch → Sketch
of_two o true k = under (Binary o) (part 0 ▹ k ▹ end)
of_two o false k = under (Binary o) (k ▹ part 0 ▹ end)

abbrev a_digit : Bool → Sketch
a_digit true = under (Number (pos 1)) end
a_digit false = under (Number (pos 0)) end

abbrev a_boolean : Bool → Sketch
a_boolean true = under (Unary LogicalNot) (under (Number (pos 0)) end ▹ end)
a_boolean false = under (Unary LogicalNot) (under (Number (pos 1)) end ▹ end)

middle_kept : (q : Seat) (n w : Tree) → Row14 q n w → KeptAt (Expr q) n w
middle_kept q n w r = expressions_arranged_freely first_dropped (record { trees = r.middle ▸ r.left ▸ r.right ▸ none; lists = [] }) (tt, tt, (vanishes r.middle r.dropped, tt)) (under (Logical r.operator) (under (Logical r.operator) (part 1 ▹ part 0 ▹ end) ▹ part 2 ▹ end)) (under (Logical r.operator) (part 1 ▹ part 2 ▹ end)) refl q n w r.shape r.written

text_kept : (b : Bool) (a : Tree) (q : Seat) (n w : Tree) → n ≡ beside Addition b a (text []) → w ≡ a → KeptAt (Expr q) n w
text_kept true a q n w e f = expressions_arranged (record { trees = a ▸ none; lists = [] }) (of_two Addition true (under (String []) end)) (part 0) refl q n w e f
text_kept false a q n w e f = expressions_arranged (record { trees = a ▸ none; lists = [] }) (of_two Addition false (under (String []) end)) (part 0) refl q n w e f

told_kept : (equal c : Bool) (a : Tree) (q : Seat) (n w : Tree) → n ≡ binary (loosely equal) a (negated_digit c) → w ≡ told_by (same_boolean equal c) a → KeptAt (Expr q) n w
told_kept true true a q n w e f = expressions_arranged (record { trees = a ▸ none; lists = [] }) (of_two (loosely true) true (a_boolean true)) (part 0) refl q n w e f
told_kept false false a q n w e f = expressions_arranged (record { trees = a ▸ none; lists = [] }) (of_two (loosely false) true (a_boolean false)) (part 0) refl q n w e f
told_kept true false a q n w e f = expressions_arranged (record { trees = a ▸ none; lists = [] }) (of_two (loosely true) true (a_boolean false)) (under (Unary LogicalNot) (part 0 ▹ end)) refl q n w e f
told_kept false true a q n w e f = expressions_arranged (record { trees = a ▸ none; lists = [] }) (of_two (loosely false) true (a_boolean true)) (under (Unary LogicalNot) (part 0 ▹ end)) refl q n w e f

kept_bits_kept : (o : BinaryOperator) (b : Bool) (x : ℤ) (a : Tree) (q : Seat) (n w : Tree) → n ≡ beside o b a (numeral x) → w ≡ binary BitwiseOr a (digit false) → KeptAt (Expr q) n w
kept_bits_kept o true x a q n w e f = expressions_arranged (record { trees = a ▸ none; lists = [] }) (of_two o true (under (Number x) end)) (of_two BitwiseOr true (a_digit false)) refl q n w e f
kept_bits_kept o false x a q n w e f = expressions_arranged (record { trees = a ▸ none; lists = [] }) (of_two o false (under (Number x) end)) (of_two BitwiseOr true (a_digit false)) refl q n w e f

whole_kept : (b : Bool) (a : Tree) (q : Seat) (n w : Tree) → n ≡ beside BitwiseOr b a (digit false) → w ≡ a → KeptAt (Expr q) n w
whole_kept true a q n w e f = expressions_arranged (record { trees = a ▸ none; lists = [] }) (of_two BitwiseOr true (a_digit false)) (part 0) refl q n w e f
whole_kept false a q n w e f = expressions_arranged (record { trees = a ▸ none; lists = [] }) (of_two BitwiseOr false (a_digit false)) (part 0) refl q n w e f

counted_kept : (o : BinaryOperator) (b c : Bool) (a : Tree) (q : Seat) (n w : Tree) → n ≡ beside o b a (negated_digit c) → w ≡ beside o b a (digit c) → KeptAt (Expr q) n w
counted_kept o true true a q n w e f = expressions_arranged (record { trees = a ▸ none; lists = [] }) (of_two o true (a_boolean true)) (of_two o true (a_digit true)) refl q n w e f
counted_kept o true false a q n w e f = expressions_arranged (record { trees = a ▸ none; lists = [] }) (of_two o true (a_boolean false)) (of_two o true (a_digit false)) refl q n w e f
counted_kept o false true a q n w e f = expressions_arranged (record { trees = a ▸ none; lists = [] }) (of_two o false (a_boolean true)) (of_two o false (a_digit true)) refl q n w e f
counted_kept o false false a q n w e f = expressions_arranged (record { trees = a ▸ none; lists = [] }) (of_two o false (a_boolean false)) (of_two o false (a_digit false)) refl q n w e f

abbrev undefined_name : Tree
undefined_name = identifier (unresolved (codes "undefined"))

joined_kept : (a : Tree) (s : List ℕ) (k : Tree) (t : List ℕ) → Tail k t → (q : Seat) (n w : Tree) → n ≡ binary Addition (binary Addition a (text s)) k → w ≡ binary Addition a (text (s ++ t)) → KeptAt (Expr q) n w
joined_kept a s k t (of_text is) q n w e f = expressions_arranged (record { trees = a ▸ none; lists = [] }) (under (Binary Addition) (under (Binary Addition) (part 0 ▹ under (String s) end ▹ end) ▹ under (String t) end ▹ end)) (under (Binary Addition) (part 0 ▹ under (String (s ++ t)) end ▹ end)) refl q n w (e ∙ ap (binary Addition (binary Addition a (text s))) is) f
joined_kept a s k t (of_number m is same) q n w e f = expressions_arranged (record { trees = a ▸ none; lists = [] }) (under (Binary Addition) (under (Binary Addition) (part 0 ▹ under (String s) end ▹ end) ▹ under (Number m) end ▹ end)) (under (Binary Addition) (part 0 ▹ under (String (s ++ t)) end ▹ end)) refl q n w (e ∙ ap (binary Addition (binary Addition a (text s))) is) f
joined_kept a s k t (of_null is same) q n w e f = expressions_arranged (record { trees = a ▸ none; lists = [] }) (under (Binary Addition) (under (Binary Addition) (part 0 ▹ under (String s) end ▹ end) ▹ under Null end ▹ end)) (under (Binary Addition) (part 0 ▹ under (String (s ++ t)) end ▹ end)) refl q n w (e ∙ ap (binary Addition (binary Addition a (text s))) is) f
joined_kept a s k t (of_undefined is same) q n w e f =
    expressions_arranged_freely first_dropped (record { trees = undefined_name ▸ a ▸ none; lists = [] }) (tt, tt, (vanishes undefined_name refl, tt)) (under (Binary Addition) (under (Binary Addition) (part 1 ▹ under (String s) end ▹ end) ▹ part 0 ▹ end)) (under (Binary Addition) (part 1 ▹ under (String (s ++ t)) end ▹ end)) refl q n w (e ∙ ap (binary Addition (binary Addition a (text s))) is) f

zero_kept : (equal : Bool) (a : Tree) (q : Seat) (n w : Tree) → n ≡ binary (loosely equal) a (digit false) → w ≡ zero_told equal a → KeptAt (Expr q) n w
zero_kept true a q n w e f = expressions_arranged (record { trees = a ▸ none; lists = [] }) (of_two (loosely true) true (a_digit false)) (under (Unary LogicalNot) (part 0 ▹ end)) refl q n w e f
zero_kept false a q n w e f = expressions_arranged (record { trees = a ▸ none; lists = [] }) (of_two (loosely false) true (a_digit false)) (under (Unary LogicalNot) (under (Unary LogicalNot) (part 0 ▹ end) ▹ end)) refl q n w e f

kept : (p : Position) (n w : Tree) → OperandRow p n w → KeptAt p n w
kept (Expr q) n w (MiddleOperand r) = middle_kept q n w r
kept (Expr q) n w (EmptyText r) = text_kept r.on_right r.operand q n w r.shape r.written
kept (Expr q) n w (BooleanBesideTruth r) = told_kept r.equal r.truth r.operand q n w r.shape r.written
kept (Expr q) n w (TruthBesideValue r) = counted_kept (loosely r.equal) r.on_right r.truth r.operand q n w r.shape r.written
kept (Expr q) n w (JoinedTexts r) = joined_kept r.left r.before r.tail r.after (tail_form r.tail r.after r.known) q n w r.shape r.written
kept (Expr q) n w (BitsBesideZero r) = zero_kept r.equal r.operand q n w r.shape r.written
kept (Expr q) n w (BitsWithZero r) = kept_bits_kept r.operator r.on_right r.number r.operand q n w r.shape r.written
kept (Expr q) n w (WholeOrZero r) = whole_kept r.on_right r.operand q n w r.shape r.written
kept (Expr q) n w (ByOperator r) = operator_kept q n w r
kept (Expr q) n w (ShiftEnclosed r) = zero_kept r.equal r.operand q n w r.shape r.written
kept (Expr q) n w (ShiftAsked r) = expressions_arranged (record { trees = r.operand ▸ none; lists = [] }) (of_two (loosely false) true (a_digit false)) (part 0) refl q n w r.shape r.written
kept p n w r = absurd r

places : (p : Position) (n w : Tree) → OperandRow p n w → is_rewritten_place p ≡ true
places (Expr q) n w r = refl
places p n w r = absurd r

-- ---- where they stand

module _ (strict : Bool) (s : Slot) where
  abbrev Fits : Tree → Type 0
  Fits t = fits strict expression t ≡ true

  beside_at : (o : BinaryOperator) (b : Bool) (a k : Tree) → fits strict s (beside o b a k) ≡ true → TakesExpression s × Fits a
  beside_at o true a k e = let (takes, (first, second)) = binary_at strict o a k s e in (takes, first)
  beside_at o false a k e = let (takes, (first, second)) = binary_at strict o k a s e in (takes, second)

  digit_fits : (c : Bool) → Fits (digit c)
  digit_fits true = refl
  digit_fits false = refl

  beside_fits : (o : BinaryOperator) (b : Bool) (a k : Tree) → Fits a → Fits k → Fits (beside o b a k)
  beside_fits o true a k e f = two_fit strict a k e f
  beside_fits o false a k e f = two_fit strict k a f e

  told_fits : (b : Bool) (a : Tree) → Fits a → Fits (told_by b a)
  told_fits true a e = e
  told_fits false a e = both (fits strict expression a) true e refl

  text_paired : (t : List ℕ) → Fits (text t) → is_paired t ≡ true
  text_paired t e = plain_fields strict expression (shape.StringLiteral t) [] 0 none e

  text_fits : (t : List ℕ) → is_paired t ≡ true → Fits (text t)
  text_fits t e = ap (λ b. (b && true) && true) e

  tail_paired : (k : Tree) (t : List ℕ) → Tail k t → Fits k → is_paired t ≡ true
  tail_paired k t (of_text is) e = text_paired t (subst Fits is e)
  tail_paired k t (of_number m is same) e = subst (λ r. is_paired r ≡ true) same (numeral_paired m)
  tail_paired k t (of_null is same) e = subst (λ r. is_paired r ≡ true) same null_paired
  tail_paired k t (of_undefined is same) e = subst (λ r. is_paired r ≡ true) same undefined_paired

  zero_fits : (equal : Bool) (a : Tree) → Fits a → Fits (zero_told equal a)
  zero_fits true a e = told_fits false a e
  zero_fits false a e = told_fits false (negation a) (told_fits false a e)

  -- what is written, where an expression is taken
  stood : (p : Position) (n w : Tree) → OperandRow p n w → fits strict s n ≡ true → TakesExpression s × Fits w
  stood (Expr q) n w (MiddleOperand r) e =
      let (takes, first, last) = operands strict s r.operator (logical r.operator r.left r.middle) r.right (subst (λ t. fits strict s t ≡ true) r.shape e) in
      let (within, left, middle) = operands strict expression r.operator r.left r.middle first in
      (takes, subst Fits (sym r.written) (two_fit strict r.left r.right left last))
  stood (Expr q) n w (EmptyText r) e =
      let (takes, fit) = beside_at Addition r.on_right r.operand (text []) (subst (λ t. fits strict s t ≡ true) r.shape e) in
      (takes, subst Fits (sym r.written) fit)
  stood (Expr q) n w (BooleanBesideTruth r) e =
      let (takes, fit) = beside_at (loosely r.equal) true r.operand (negated_digit r.truth) (subst (λ t. fits strict s t ≡ true) r.shape e) in
      (takes, subst Fits (sym r.written) (told_fits (same_boolean r.equal r.truth) r.operand fit))
  stood (Expr q) n w (TruthBesideValue r) e =
      let (takes, fit) = beside_at (loosely r.equal) r.on_right r.operand (negated_digit r.truth) (subst (λ t. fits strict s t ≡ true) r.shape e) in
      (takes, subst Fits (sym r.written) (beside_fits (loosely r.equal) r.on_right r.operand (digit r.truth) fit (digit_fits r.truth)))
  stood (Expr q) n w (JoinedTexts r) e =
      let (takes, (sum, tail)) = binary_at strict Addition (binary Addition r.left (text r.before)) r.tail s (subst (λ t. fits strict s t ≡ true) r.shape e) in
      let (within, (left, before)) = binary_at strict Addition r.left (text r.before) expression sum in
      (takes, subst Fits (sym r.written) (two_fit strict r.left (text (r.before ++ r.after)) left (text_fits (r.before ++ r.after) (is_paired_joined r.before r.after (text_paired r.before before) (tail_paired r.tail r.after (tail_form r.tail r.after r.known) tail)))))
  stood (Expr q) n w (BitsWithZero r) e =
      let (takes, fit) = beside_at r.operator r.on_right r.operand (numeral r.number) (subst (λ t. fits strict s t ≡ true) r.shape e) in
      (takes, subst Fits (sym r.written) (beside_fits BitwiseOr true r.operand (digit false) fit (digit_fits false)))
  stood (Expr q) n w (WholeOrZero r) e =
      let (takes, fit) = beside_at BitwiseOr r.on_right r.operand (digit false) (subst (λ t. fits strict s t ≡ true) r.shape e) in
      (takes, subst Fits (sym r.written) fit)
  stood (Expr q) n w (BitsBesideZero r) e =
      let (takes, fit) = beside_at (loosely r.equal) true r.operand (digit false) (subst (λ t. fits strict s t ≡ true) r.shape e) in
      (takes, subst Fits (sym r.written) (zero_fits r.equal r.operand fit))
  stood (Expr q) n w (ByOperator r) e = operator_stood strict s q n w r e
  stood (Expr q) n w (ShiftEnclosed r) e =
      let (takes, fit) = beside_at (loosely r.equal) true r.operand (digit false) (subst (λ t. fits strict s t ≡ true) r.shape e) in
      (takes, subst Fits (sym r.written) (zero_fits r.equal r.operand fit))
  stood (Expr q) n w (ShiftAsked r) e =
      let (takes, fit) = beside_at (loosely false) true r.operand (digit false) (subst (λ t. fits strict s t ≡ true) r.shape e) in
      (takes, subst Fits (sym r.written) fit)
  stood p n w r e = absurd r

row_fits : (p : Position) (n w : Tree) → OperandRow p n w → (strict : Bool) (s : Slot) → fits strict s n ≡ true → fits strict s w ≡ true
row_fits p n w r strict s e = let (takes, fit) = stood strict s p n w r e in expression_taken strict s w takes fit

row_slot : (p : Position) (n w : Tree) → OperandRow p n w → (strict : Bool) (s : Slot) → fits strict s n ≡ true → is_body_slot p s ≡ true
row_slot p n w r strict s e = expression_slot p s (stood strict s p n w r e).0

-- ---- what a parent asks of them

beside_asked : (q : Seat) (o : BinaryOperator) (b : Bool) (a k t : Tree) → suits q t ≡ true → AskedAlike (Expr q) (beside o b a k) t
beside_asked q o true a k t h = record {
  absent = λ e. absurd (true≢false (sym e));
  body = λ e. absurd (true≢false (sym e));
  optional = λ e. absurd (true≢false (sym e));
  number = λ asks e. no_number t (not_a_number q t asks h);
  spelled = λ s e. absurd (cc e);
  plain = refl;
}
beside_asked q o false a k t h = record {
  absent = λ e. absurd (true≢false (sym e));
  body = λ e. absurd (true≢false (sym e));
  optional = λ e. absurd (true≢false (sym e));
  number = λ asks e. no_number t (not_a_number q t asks h);
  spelled = λ s e. absurd (cc e);
  plain = refl;
}

both_asked : (q : Seat) (o : BinaryOperator) (b : Bool) (a k l : Tree) → AskedAlike (Expr q) (beside o b a k) (beside o b a l)
both_asked q o true a k l = record {
  absent = λ e. absurd (true≢false (sym e));
  body = λ e. absurd (true≢false (sym e));
  optional = λ e. absurd (true≢false (sym e));
  number = λ asks e. refl;
  spelled = λ s e. absurd (cc e);
  plain = refl;
}
both_asked q o false a k l = record {
  absent = λ e. absurd (true≢false (sym e));
  body = λ e. absurd (true≢false (sym e));
  optional = λ e. absurd (true≢false (sym e));
  number = λ asks e. refl;
  spelled = λ s e. absurd (cc e);
  plain = refl;
}

middle_asked : (q : Seat) (n w : Tree) → Row14 q n w → AskedAlike (Expr q) n w
middle_asked q n w r = subst (λ t. AskedAlike (Expr q) t w) (sym r.shape) (subst (AskedAlike (Expr q) (logical r.operator (logical r.operator r.left r.middle) r.right)) (sym r.written) (record {
  absent = λ e. absurd (true≢false (sym e));
  body = λ e. absurd (true≢false (sym e));
  optional = λ e. absurd (true≢false (sym e));
  number = λ asks e. refl;
  spelled = λ s e. absurd (cc e);
  plain = refl;
}))

joined_asked : (q : Seat) (o p : BinaryOperator) (a b c d : Tree) → AskedAlike (Expr q) (binary o a b) (binary p c d)
joined_asked q o p a b c d = record {
  absent = λ e. absurd (true≢false (sym e));
  body = λ e. absurd (true≢false (sym e));
  optional = λ e. absurd (true≢false (sym e));
  number = λ asks e. refl;
  spelled = λ s e. absurd (cc e);
  plain = refl;
}

zero_asked : (q : Seat) (o : BinaryOperator) (equal : Bool) (a b : Tree) → AskedAlike (Expr q) (binary o a b) (zero_told equal a)
zero_asked q o true a b = record {
  absent = λ e. absurd (true≢false (sym e));
  body = λ e. absurd (true≢false (sym e));
  optional = λ e. absurd (true≢false (sym e));
  number = λ asks e. refl;
  spelled = λ s e. absurd (cc e);
  plain = refl;
}
zero_asked q o false a b = record {
  absent = λ e. absurd (true≢false (sym e));
  body = λ e. absurd (true≢false (sym e));
  optional = λ e. absurd (true≢false (sym e));
  number = λ asks e. refl;
  spelled = λ s e. absurd (cc e);
  plain = refl;
}

inverse_asked : (q : Seat) (a b c : Tree) → AskedAlike (Expr q) (binary BitwiseOr a b) (unary BitwiseNot c)
inverse_asked q a b c = record {
  absent = λ e. absurd (true≢false (sym e));
  body = λ e. absurd (true≢false (sym e));
  optional = λ e. absurd (true≢false (sym e));
  number = λ asks e. refl;
  spelled = λ s e. absurd (cc e);
  plain = refl;
}

int32_asked : (q : Seat) (t k : Tree) → Int32 t → AskedAlike (Expr q) (binary BitwiseOr t k) t
int32_asked q t k (inverts is) = subst (AskedAlike (Expr q) (binary BitwiseOr t k)) (sym is) (inverse_asked q t k (its_part t 0))
int32_asked q t k (operates o h is) = subst (AskedAlike (Expr q) (binary BitwiseOr t k)) (sym is) (joined_asked q BitwiseOr o t k (its_part t 0) (its_part t 1))

int32_left_asked : (q : Seat) (t k : Tree) → Int32 t → AskedAlike (Expr q) (binary BitwiseOr k t) t
int32_left_asked q t k (inverts is) = subst (AskedAlike (Expr q) (binary BitwiseOr k t)) (sym is) (inverse_asked q k t (its_part t 0))
int32_left_asked q t k (operates o h is) = subst (AskedAlike (Expr q) (binary BitwiseOr k t)) (sym is) (joined_asked q BitwiseOr o k t (its_part t 0) (its_part t 1))

whole_asked : (q : Seat) (b : Bool) (t : Tree) → Int32 t → AskedAlike (Expr q) (beside BitwiseOr b t (digit false)) t
whole_asked q true t h = int32_asked q t (digit false) h
whole_asked q false t h = int32_left_asked q t (digit false) h

bits_asked : (q : Seat) (o : BinaryOperator) (b : Bool) (a k : Tree) → AskedAlike (Expr q) (beside o b a k) (binary BitwiseOr a (digit false))
bits_asked q o true a k = joined_asked q o BitwiseOr a k a (digit false)
bits_asked q o false a k = joined_asked q o BitwiseOr k a a (digit false)

shifted_asked : (q : Seat) (t k : Tree) → Shifted t → AskedAlike (Expr q) (binary (loosely false) t k) t
shifted_asked q t k (shifts o h is) = subst (AskedAlike (Expr q) (binary (loosely false) t k)) (sym is) (joined_asked q (loosely false) o t k (its_part t 0) (its_part t 1))

asked_by : (q : Seat) (n w a b : Tree) → n ≡ a → w ≡ b → AskedAlike (Expr q) a b → AskedAlike (Expr q) n w
asked_by q n w a b e f h = subst (λ t. AskedAlike (Expr q) t w) (sym e) (subst (AskedAlike (Expr q) a) (sym f) h)

row_asked : (p : Position) (n w : Tree) → OperandRow p n w → AskedAlike p n w
row_asked (Expr q) n w (MiddleOperand r) = middle_asked q n w r
row_asked (Expr q) n w (EmptyText r) = asked_by q n w _ _ r.shape r.written (beside_asked q Addition r.on_right r.operand (text []) r.operand r.stays)
row_asked (Expr q) n w (BooleanBesideTruth r) = asked_by q n w _ _ r.shape r.written (beside_asked q (loosely r.equal) true r.operand (negated_digit r.truth) (told_by (same_boolean r.equal r.truth) r.operand) r.stays)
row_asked (Expr q) n w (TruthBesideValue r) = asked_by q n w _ _ r.shape r.written (both_asked q (loosely r.equal) r.on_right r.operand (negated_digit r.truth) (digit r.truth))
row_asked (Expr q) n w (JoinedTexts r) = asked_by q n w _ _ r.shape r.written (joined_asked q Addition Addition (binary Addition r.left (text r.before)) r.tail r.left (text (r.before ++ r.after)))
row_asked (Expr q) n w (BitsWithZero r) = asked_by q n w _ _ r.shape r.written (bits_asked q r.operator r.on_right r.operand (numeral r.number))
row_asked (Expr q) n w (WholeOrZero r) = asked_by q n w _ _ r.shape r.written (whole_asked q r.on_right r.operand (int32_form r.operand r.known))
row_asked (Expr q) n w (BitsBesideZero r) = asked_by q n w _ _ r.shape r.written (zero_asked q (loosely r.equal) r.equal r.operand (digit false))
row_asked (Expr q) n w (ByOperator r) = operator_asked q n w r
row_asked (Expr q) n w (ShiftEnclosed r) = asked_by q n w _ _ r.shape r.written (zero_asked q (loosely r.equal) r.equal r.operand (digit false))
row_asked (Expr q) n w (ShiftAsked r) = asked_by q n w _ _ r.shape r.written (shifted_asked q r.operand (digit false) (shifted_form r.operand r.known))
row_asked p n w r = absurd r

pub operands_lawful : Lawful OperandContracts
operands_lawful =
    kept_is_lawful OperandContracts operands_same
    (record { fitting = λ p n w c strict s k e. row_fits p n w c.row strict s e; asked = λ p n w c. row_asked p n w c.row })
    (λ p n w c. places p n w c.row)
    (λ p n w c strict s k e. row_slot p n w c.row strict s e)
    (λ p n w c. kept p n w c.row)
