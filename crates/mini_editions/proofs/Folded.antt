-- Rows of what is known of an expression write no form that the expression lacks.
use Rattle.std.proofs.Common.{◌≡◌, ◌+◌, ℕ, ℤ, zero, arith, Bool, true, false, Option, Some, None, List, [], ◌∷◌, refl, subst, inl, inr}
use Rattle.std.specs.Prelude.{◌&&◌, not, IfSome, nat_lt}
use Rattle.mini_model.specs.declared.operator.BinaryOperator.{BinaryOperator}
use Rattle.mini_model.specs.declared.operator.BinaryOperator.TheVariants as binary_operator
use Rattle.mini_model.specs.declared.operator.LogicalOperator.{LogicalOperator}
use Rattle.mini_model.specs.declared.operator.LogicalOperator.TheVariants.{Or, And, Coalesce}
use Rattle.mini_model.specs.declared.place.Position.{Position}
use Rattle.mini_model.specs.declared.place.Position.TheVariants.{Expr, Stmt}
use Rattle.mini_model.specs.declared.seat.Seat.{Seat}
use Rattle.mini_model.specs.declared.shape.Shape.TheVariants as shape
use Rattle.mini_model.specs.Tree.{Tree, Trees, node, none, ◌▸◌, negation, logical}
use Rattle.mini_model.specs.Paths.{append}
use Rattle.mini_model.specs.Position.{left_operand_seat, right_operand_seat, branch_seat, statement_expression_seat}
use Rattle.mini_model.specs.Terms.{turned, not_of}
use Rattle.mini_model.specs.Weight.{weight}
use Rattle.mini_laws.specs.Value.{Value, Undefined, Null, Boolean, Number, String}
use Rattle.mini_laws.specs.Operators.{same_boolean}
use Rattle.mini_terms.specs.Plain.{lit}
use Rattle.mini_terms.specs.Folds.{is_effect_free}
use Rattle.mini_terms.specs.Parts.{leaves_nothing}
use Rattle.mini_node.specs.Children.{part}
use Rattle.mini_node.specs.Kinds.{binary_operator as operator_of, unary_operator, boolean as boolean_value, string}
use Rattle.mini_rows.specs.Forms.{Form, form_of_binary, form_of_logical}
use Rattle.mini_rows.specs.Arrows.{ArrowRow}
use Rattle.mini_rows.specs.Booleans.{digit, chosen, giving, is_turned, tested, KnownBranch, is_truth, truth_of, as_boolean, plus_seat, BooleanRow}
use Rattle.mini_rows.specs.Constants.{ConstantRow}
use Rattle.mini_rows.specs.DeMorgan.{turned_logical, void_of, Alone, Begins, Turns, VoidPlace, ended, DeMorganRow}
use Rattle.mini_rows.specs.Folding.{loosened, FoldingRow}
use Rattle.mini_rows.specs.Negations.{is_typeof, is_letter, reversed, reversed_in, negated_leaf, reverse_of, whole_by, last_by, whole, lightest, NegationRow}
use Rattle.mini_rows.specs.Operands.{beside, told_by, zero_told, OperandRow, MiddleOperand, EmptyText, BooleanBesideTruth, TruthBesideValue, JoinedTexts, BitsBesideZero, BitsWithZero, WholeOrZero, ByOperator, ShiftAsked, ShiftEnclosed}
use Rattle.mini_rows.specs.Operators.{says_equal, with_number, OperatorRow, Deleted, SameTypes, NeverType, LeftPlus, RightPlus, JoinedMasks}
use Rattle.mini_rows.specs.Choices.{loosely, pair}
use Rattle.mini_rows.specs.Sequences.{Operation, Decides, Chooses, Negates, Operates, Converts, Yields, over, along, SequenceRow}
use Rattle.mini_rows.specs.Spellings.{negated_digit, numeral, text, binary}
use Rattle.mini_rows.specs.Templates.{Piece, piece, pieces, pair as pair_of, spelled, Row5, TemplateRow}
use Rattle.mini_rows.specs.Lists.{sequence}
use Rattle.mini_rows.specs.Turns.{equal, TurnRow}
use Rattle.mini_editions.proofs.Times.{own, times, all_times, Fewer, written, all_append, part_lacks, choice_lacks}
use Rattle.mini_editions.proofs.Negated.{not_lacks}
use Rattle.mini_editions.proofs.Expressions.{digit_times, own_loose}

module _ (f : Form) where
  lit_lacks : (v : Value) (w : Tree) → lit v ≡ Some w → times f w ≡ 0
  lit_lacks v w e = subst (λ o. IfSome o (λ w. times f w ≡ 0)) e (by v)
    where
      by : (v : Value) → IfSome (lit v) (λ w. times f w ≡ 0)
      by Undefined = refl
      by Null = refl
      by (Boolean true) = refl
      by (Boolean false) = refl
      by (Number n) = refl
      by (String s) = refl
      by v = tt

  beside_sum : (o : BinaryOperator) (b : Bool) (a k : Tree) → times f (beside o b a k) ≡ own f (form_of_binary o) + (times f a + times f k)
  beside_sum o true a k = omega arith
  beside_sum o false a k = omega arith

  told_lacks : (b : Bool) (t : Tree) → times f t ≡ 0 → times f (told_by b t) ≡ 0
  told_lacks true t z = z
  told_lacks false t z = omega (arith, z)

  zero_lacks : (b : Bool) (t : Tree) → times f t ≡ 0 → times f (zero_told b t) ≡ 0
  zero_lacks true t z = omega (arith, z)
  zero_lacks false t z = omega (arith, z)

  truth_times : (b : Bool) → times f (digit b) ≡ 0
  truth_times true = refl
  truth_times false = refl

  -- ---- known sides

  loosened_form : (o : BinaryOperator) → IfSome (loosened o) (λ l. own f (form_of_binary l) ≡ 0)
  loosened_form binary_operator.StrictEquality = refl
  loosened_form binary_operator.StrictInequality = refl
  loosened_form o = tt

  loose_times : (o l : BinaryOperator) → loosened o ≡ Some l → own f (form_of_binary l) ≡ 0
  loose_times o l e = subst (λ x. IfSome x (λ l. own f (form_of_binary l) ≡ 0)) e (loosened_form o)

  pub folding_fewer : (s : Seat) (n w : Tree) → FoldingRow (Expr s) n w → Fewer f n w
  folding_fewer s n w (inl r) = written f r.shape r.written (λ z. omega (arith, z))
  folding_fewer s n w (inr (inl r)) = written f r.shape r.written (λ z. omega (arith, z))
  folding_fewer s n w (inr (inr (inl r))) = written f r.shape r.written (λ z. omega (arith, z, loose_times r.operator r.loose r.loosens))
  folding_fewer s n w (inr (inr (inr (inl r)))) = written f r.shape r.written (λ z. omega (arith, z))
  folding_fewer s n w (inr (inr (inr (inr r)))) = written f r.shape r.written (λ z. refl)

  -- ---- constants

  pub constant_fewer : (p : Position) (n w : Tree) → ConstantRow p n w → Fewer f n w
  constant_fewer (Expr s) n w (inl r) = λ z. lit_lacks r.value w r.literal
  constant_fewer (Expr s) n w (inr (inl r)) = written f r.shape r.written (λ z. omega (arith, z, beside_sum r.operator r.on_right r.operand r.first, lit_lacks r.value r.literal r.written_out))
  constant_fewer (Expr s) n w (inr (inr r)) = written f r.shape r.written (λ z. refl)
  constant_fewer p n w r = absurd r

  -- ---- truths

  chosen_parts : (b : Bool) (a k o : Tree) → times f (chosen b a k o) ≡ 0 → (times f a ≡ 0) × (times f o ≡ 0)
  chosen_parts true a k o z = (omega (arith, z), omega (arith, z))
  chosen_parts false a k o z = (omega (arith, z), omega (arith, z))

  own_giving : (b : Bool) → own f (form_of_logical (giving b)) ≡ 0
  own_giving true = refl
  own_giving false = refl

  tested_lacks : (s : Seat) (b : Bool) (a : Tree) → times f a ≡ 0 → times f (tested s b a) ≡ 0
  tested_lacks s true a z = not_lacks f s a z
  tested_lacks s false a z = z

  branch_fewer : (s : Seat) (n w : Tree) → KnownBranch s n w → Fewer f n w
  branch_fewer s n w r = written f r.shape r.written (λ z.
      let (a, o) = chosen_parts r.is_consequent r.test r.branch r.other z in
      let t = tested_lacks (left_operand_seat (giving r.truth) s) (is_turned r.is_consequent r.truth) r.test a in
      omega (arith, o, t, own_giving r.truth))

  truth_lacks : (b : Bool) (a : Tree) → times f a ≡ 0 → times f (truth_of b a) ≡ 0
  truth_lacks true a z = choice_lacks f (is_truth a) a (negation (negation a)) z (omega (arith, z))
  truth_lacks false a z = omega (arith, z)

  boolean_lacks : (b : Bool) (a : Tree) → times f a ≡ 0 → times f (as_boolean b a) ≡ 0
  boolean_lacks true a z = truth_lacks true a z
  boolean_lacks false a z = not_lacks f plus_seat a z

  pub boolean_fewer : (p : Position) (n w : Tree) → BooleanRow p n w → Fewer f n w
  boolean_fewer (Expr s) n w (inl (inl r)) = written f r.shape r.written (λ z. truth_times r.truth)
  boolean_fewer (Expr s) n w (inl (inr r)) = written f r.shape r.written (λ z. omega (arith, z))
  boolean_fewer (Expr s) n w (inr (inl (inl r))) = branch_fewer s n w r.form
  boolean_fewer (Expr s) n w (inr (inl (inr r))) = branch_fewer s n w r.form
  boolean_fewer (Expr s) n w (inr (inr (inl r))) = written f r.shape r.written (λ z. truth_lacks r.truth r.test (omega (arith, z)))
  boolean_fewer (Expr s) n w (inr (inr (inr r))) = written f r.shape r.written (λ z. let t = boolean_lacks r.truth r.test (omega (arith, z)) in omega (arith, t))
  boolean_fewer p n w r = absurd r

  -- ---- negations that reach into the operand

  reversed_form : (o : BinaryOperator) → IfSome (reversed o) (λ l. own f (form_of_binary l) ≡ 0)
  reversed_form binary_operator.LessThan = refl
  reversed_form binary_operator.GreaterThan = refl
  reversed_form o = tt

  reverse_times : (p : Option BinaryOperator) (b : Bool) → IfSome (reversed_in p b) (λ l. own f (form_of_binary l) ≡ 0)
  reverse_times (Some o) true = reversed_form o
  reverse_times (Some o) false = tt
  reverse_times None b = tt

  leaf_lacks : (o : Option BinaryOperator) (b : Option Bool) (t other : Tree) → IfSome o (λ l. own f (form_of_binary l) ≡ 0) → times f t ≡ 0 → times f other ≡ 0 → times f (negated_leaf o b t other) ≡ 0
  leaf_lacks (Some o) b t other k z y = omega (arith, k, part_lacks f t 0 z, part_lacks f t 1 z)
  leaf_lacks None (Some b) t other k z y = refl
  leaf_lacks None None t other k z y = y

  mutual
    whole_lacks : (s : Seat) (t : Tree) → times f t ≡ 0 → times f (whole_by not_of s t) ≡ 0
    whole_lacks s (node (shape.LogicalExpression And) [] zero (a ▸ b ▸ none)) z = omega (arith, whole_lacks (left_operand_seat Or s) a (omega (arith, z)), whole_lacks (right_operand_seat Or s) b (omega (arith, z)))
    whole_lacks s (node (shape.LogicalExpression Or) [] zero (a ▸ b ▸ none)) z = omega (arith, whole_lacks (left_operand_seat And s) a (omega (arith, z)), whole_lacks (right_operand_seat And s) b (omega (arith, z)))
    whole_lacks s (node shape.SequenceExpression [] zero (node shape.Listed [] zero (a ▸ (b ▸ ts)) ▸ none)) z = omega (arith, z, last_lacks (branch_seat s) (b ▸ ts) (omega (arith, z)))
    whole_lacks s t z = leaf_lacks (reverse_of t) (boolean_value t) t (not_of s t) (reverse_times (operator_of t) (is_typeof (unary_operator (part t 0)) && is_letter (string (part t 1)))) z (not_lacks f s t z)

    last_lacks : (s : Seat) (ts : Trees) → all_times f ts ≡ 0 → all_times f (last_by not_of s ts) ≡ 0
    last_lacks s none z = refl
    last_lacks s (a ▸ none) z = omega (arith, whole_lacks s a (omega (arith, z)))
    last_lacks s (a ▸ (b ▸ ts)) z = omega (arith, z, last_lacks s (b ▸ ts) (omega (arith, z)))

  pub negation_fewer : (p : Position) (n w : Tree) → NegationRow p n w → Fewer f n w
  negation_fewer (Expr s) n w r = written f r.shape r.written (λ z. whole_lacks s r.e (omega (arith, z)))
  negation_fewer p n w r = absurd r

  lightest_lacks : (s : Seat) (a : Tree) → times f a ≡ 0 → times f (lightest s a) ≡ 0
  lightest_lacks s a z = choice_lacks f (nat_lt (weight (Expr s) (not_of s a)) (weight (Expr s) (whole s a))) (not_of s a) (whole s a) (not_lacks f s a z) (whole_lacks s a z)

  -- ---- De Morgan's laws

  turned_form : (o : LogicalOperator) → own f (form_of_logical (turned o)) ≡ own f (form_of_logical o)
  turned_form Or = refl
  turned_form And = refl
  turned_form Coalesce = refl

  turned_lacks : (o : LogicalOperator) (a b : Tree) → times f (logical o a b) ≡ 0 → times f (turned_logical o a b) ≡ 0
  turned_lacks o a b z = omega (arith, z, turned_form o, lightest_lacks (left_operand_seat (turned o) statement_expression_seat) a (omega (arith, z)))

  ended_sum : (ps : Trees) (x : Tree) → times f (ended ps x) ≡ all_times f ps + times f x
  ended_sum none x = omega arith
  ended_sum (p ▸ ps) x = omega (arith, all_append f ps (x ▸ none))

  abbrev place_times : VoidPlace → ℕ
  place_times Alone = 0
  place_times (Begins a b c) = times f a + (times f b + times f c)
  place_times (Turns a b c) = times f a + (times f b + times f c)

  place_sum : (p : VoidPlace) (x : Tree) → times f (void_of p x) ≡ place_times p + times f x
  place_sum Alone x = omega arith
  place_sum (Begins a b c) x = omega arith
  place_sum (Turns a b c) x = omega arith

  pub de_morgan_fewer : (p : Position) (n w : Tree) → DeMorganRow p n w → Fewer f n w
  de_morgan_fewer (Stmt q) n w r = written f r.shape r.written (λ z.
      let before = place_sum r.place (ended r.before (logical r.operator r.a r.b)) in
      let after = place_sum r.place (ended r.before (turned_logical r.operator r.a r.b)) in
      let inside = ended_sum r.before (logical r.operator r.a r.b) in
      let turned = ended_sum r.before (turned_logical r.operator r.a r.b) in
      let made = turned_lacks r.operator r.a r.b (omega (arith, z, before, inside)) in
      omega (arith, z, before, after, inside, turned, made))
  de_morgan_fewer (Expr s) n w r = written f r.shape r.written (λ z.
      let before = all_append f r.before (logical r.operator r.a r.b ▸ (r.next ▸ r.after)) in
      let after = all_append f r.before (turned_logical r.operator r.a r.b ▸ (r.next ▸ r.after)) in
      let made = turned_lacks r.operator r.a r.b (omega (arith, z, before)) in
      omega (arith, z, before, after, made))
  de_morgan_fewer p n w r = absurd r

  -- ---- sequences

  abbrev over_times : Operation → ℕ
  over_times (Decides o b) = own f (form_of_logical o) + times f b
  over_times (Chooses b c) = times f b + times f c
  over_times Negates = 0
  over_times (Operates o b) = own f (form_of_binary o) + times f b
  over_times (Converts c) = 0
  over_times (Yields is_delegate) = 0

  over_sum : (r : Operation) (a : Tree) → times f (over r a) ≡ over_times r + times f a
  over_sum (Decides o b) a = omega arith
  over_sum (Chooses b c) a = omega arith
  over_sum Negates a = omega arith
  over_sum (Operates o b) a = omega arith
  over_sum (Converts c) a = omega arith
  over_sum (Yields is_delegate) a = omega arith

  abbrev along_times : List Operation → ℕ
  along_times [] = 0
  along_times (r ∷ rs) = over_times r + along_times rs

  along_sum : (rs : List Operation) (a : Tree) → times f (along rs a) ≡ along_times rs + times f a
  along_sum [] a = omega arith
  along_sum (r ∷ rs) a = omega (arith, over_sum r (along rs a), along_sum rs a)

  pub sequence_fewer : (p : Position) (n w : Tree) → SequenceRow p n w → Fewer f n w
  sequence_fewer (Expr s) n w (inl r) = written f r.shape r.written (λ z.
      let t = sequence (r.first ▸ append r.others (r.last ▸ none)) in
      let u = over r.operation (along r.operations r.last) in
      omega (arith, z, over_sum r.operation (along r.operations t), along_sum r.operations t, all_append f r.others (r.last ▸ none), over_sum r.operation (along r.operations r.last), along_sum r.operations r.last, all_append f r.others (u ▸ none)))
  sequence_fewer (Expr s) n w (inr (inl r)) = written f r.shape r.written (λ z.
      omega (arith, z, all_append f r.before (sequence (r.first ▸ (r.second ▸ r.others)) ▸ r.after), all_append f r.before (r.first ▸ (r.second ▸ append r.others r.after)), all_append f r.others r.after))
  sequence_fewer (Expr s) n w (inr (inr (inl r))) = written f r.shape r.written (λ z. omega (arith, z, all_append f r.before (r.idle ▸ (r.next ▸ r.after)), all_append f r.before (r.next ▸ r.after)))
  sequence_fewer (Expr s) n w (inr (inr (inr r))) = written f r.shape r.written (λ z. omega (arith, z))
  sequence_fewer p n w r = absurd r

  -- ---- operands

  numbered_sum : (o : BinaryOperator) (b : Bool) (a : Tree) (c : ℤ) → times f (with_number o b a c) ≡ own f (form_of_binary o) + times f a
  numbered_sum o true a c = omega arith
  numbered_sum o false a c = omega arith

  operator_fewer : (s : Seat) (n w : Tree) → OperatorRow s n w → Fewer f n w
  operator_fewer s n w (Deleted r) = written f r.shape r.written (λ z. choice_lacks f (is_effect_free r.operand && leaves_nothing r.operand) (negated_digit true) (pair r.operand (negated_digit true)) refl (omega (arith, z)))
  operator_fewer s n w (SameTypes r) = written f r.shape r.written (λ z. digit_times f (says_equal r.operator))
  operator_fewer s n w (NeverType r) = written f r.shape r.written (λ z. digit_times f (not (says_equal r.operator)))
  operator_fewer s n w (LeftPlus r) = written f r.shape r.written (λ z. omega (arith, z))
  operator_fewer s n w (RightPlus r) = written f r.shape r.written (λ z. omega (arith, z))
  operator_fewer s n w (JoinedMasks r) = written f r.shape r.written (λ z. omega (arith, z, numbered_sum r.operator r.on_right r.operand r.first))

  pub operand_fewer : (p : Position) (n w : Tree) → OperandRow p n w → Fewer f n w
  operand_fewer (Expr s) n w (MiddleOperand r) = written f r.shape r.written (λ z. omega (arith, z))
  operand_fewer (Expr s) n w (EmptyText r) = written f r.shape r.written (λ z. omega (arith, z, beside_sum binary_operator.Addition r.on_right r.operand (text [])))
  operand_fewer (Expr s) n w (BooleanBesideTruth r) = written f r.shape r.written (λ z. told_lacks (same_boolean r.equal r.truth) r.operand (omega (arith, z)))
  operand_fewer (Expr s) n w (TruthBesideValue r) = written f r.shape r.written (λ z. omega (arith, z, own_loose f r.equal, beside_sum (loosely r.equal) r.on_right r.operand (negated_digit r.truth), beside_sum (loosely r.equal) r.on_right r.operand (digit r.truth), truth_times r.truth))
  operand_fewer (Expr s) n w (JoinedTexts r) = written f r.shape r.written (λ z. omega (arith, z))
  operand_fewer (Expr s) n w (BitsBesideZero r) = written f r.shape r.written (λ z. zero_lacks r.equal r.operand (omega (arith, z)))
  operand_fewer (Expr s) n w (BitsWithZero r) = written f r.shape r.written (λ z. omega (arith, z, beside_sum r.operator r.on_right r.operand (numeral r.number)))
  operand_fewer (Expr s) n w (WholeOrZero r) = written f r.shape r.written (λ z. omega (arith, z, beside_sum binary_operator.BitwiseOr r.on_right r.operand (digit false)))
  operand_fewer (Expr s) n w (ByOperator r) = operator_fewer s n w r
  operand_fewer (Expr s) n w (ShiftAsked r) = written f r.shape r.written (λ z. omega (arith, z))
  operand_fewer (Expr s) n w (ShiftEnclosed r) = written f r.shape r.written (λ z. zero_lacks r.equal r.operand (omega (arith, z)))
  operand_fewer p n w r = absurd r

  -- ---- templates

  pieces_times : (ps : List Piece) → all_times f (pieces ps) ≡ 0
  pieces_times [] = refl
  pieces_times (p ∷ ps) = omega (arith, pieces_times ps)

  template_fewer : (n w : Tree) → Row5 n w → Fewer f n w
  template_fewer n w (inl r) = written f r.shape r.written (λ z.
      omega (arith, z, all_append f (pieces r.before) (piece (pair_of r.last r.first) ▸ pieces r.after), all_append f r.earlier r.later, pieces_times r.before, pieces_times r.after))
  template_fewer n w (inr (inl r)) = written f r.shape r.written (λ z.
      omega (arith, z, all_append f (pieces r.before) (piece (pair_of r.last (spelled r.text)) ▸ none), pieces_times r.before))
  template_fewer n w (inr (inr r)) = written f r.shape r.written (λ z. omega (arith, z, pieces_times r.after))

  pub templates_fewer : (p : Position) (n w : Tree) → TemplateRow p n w → Fewer f n w
  templates_fewer (Expr s) n w (inl r) = written f r.shape r.written (λ z.
      omega (arith, z, all_append f (pieces r.before) (piece (pair_of (pair_of r.first (spelled r.text)) r.second) ▸ pieces r.after), pieces_times r.before, pieces_times r.after, all_append f r.earlier (r.part ▸ r.later), all_append f r.earlier r.later))
  templates_fewer (Expr s) n w (inr (inl r)) = template_fewer n w r
  templates_fewer (Expr s) n w (inr (inr r)) = written f r.shape r.written (λ z. let joined = template_fewer (binary binary_operator.Addition r.inner r.tail) r.joined r.sum (omega (arith, z)) in omega (arith, z, joined))
  templates_fewer p n w r = absurd r

  -- ---- tests that are turned, and arrow functions

  equal_form : (b : Bool) → own f (form_of_binary (equal b)) ≡ 0
  equal_form true = refl
  equal_form false = refl

  pub turn_fewer : (p : Position) (n w : Tree) → TurnRow p n w → Fewer f n w
  turn_fewer (Expr s) n w r = written f r.shape r.written (λ z. omega (arith, z, equal_form r.is_strict))
  turn_fewer (Stmt q) n w r = written f r.shape r.written (λ z. omega (arith, z))
  turn_fewer p n w r = absurd r

  pub arrow_fewer : (p : Position) (n w : Tree) → ArrowRow p n w → Fewer f n w
  arrow_fewer (Expr s) n w r = written f r.shape r.written (λ z. omega (arith, z))
  arrow_fewer p n w r = absurd r
