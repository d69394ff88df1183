-- What a row on operators writes keeps all that a program has to keep: it is built anew of the same parts.
use Rattle.std.proofs.Common.{◌≡◌, ℤ, Bool, true, false, [], ◌∷◌, refl, sym, subst, inl, inr, true≢false}
use Rattle.std.specs.Prelude.{◌&&◌, not, pos, if◌then◌else◌}
use Rattle.std.proofs.lemmas.Bool.{and_parts}
use Rattle.mini_model.specs.declared.name.Name.{Name}
use Rattle.mini_model.specs.declared.operator.BinaryOperator.{BinaryOperator}
use Rattle.mini_model.specs.declared.operator.UnaryOperator.TheVariants.{Typeof, Delete, UnaryPlus, LogicalNot}
use Rattle.mini_model.specs.declared.place.Position.TheVariants.{Expr}
use Rattle.mini_model.specs.declared.seat.Seat.{Seat}
use Rattle.mini_model.specs.Tree.{Tree, none, ◌▸◌, unary, identifier}
use Rattle.mini_accept.specs.WellShaped.{Slot, fits}
use Rattle.mini_kept.specs.KeepsShapes.{AskedAlike}
use Rattle.mini_kept.proofs.Bools.{both}
use Rattle.mini_kept.proofs.Expressions.{expression, TakesExpression, two_fit}
use Rattle.mini_laws.specs.Value.{Number}
use Rattle.mini_terms.specs.Folds.{is_effect_free}
use Rattle.mini_terms.specs.Parts.{leaves_nothing}
use Rattle.mini_rows.specs.Arranged.{KeptAt, Vanishes}
use Rattle.mini_rows.specs.Booleans.{plus}
use Rattle.mini_rows.specs.Choices.{pair}
use Rattle.mini_rows.specs.Operators.{deleted, says_equal, with_number, OperatorRow, TypeRow, Deleted, SameTypes, NeverType, LeftPlus, RightPlus, JoinedMasks}
use Rattle.mini_rows.specs.Sketches.{Number as NumberHead, Unary, Binary, Sequence, Sketch, part, under, list, end, ◌▹◌, no_items, item, Free}
use Rattle.mini_rows.specs.Spellings.{binary, negated_digit, numeral}
use Rattle.mini_rows.proofs.ArrangedExpressions.{expressions_arranged, expressions_arranged_freely}
use Rattle.mini_rows.proofs.ChoiceShapes.{pair_fits}
use Rattle.mini_rows.proofs.ConstantLawful.{unary_at, binary_at, numbers_written, lit_fits}
use Rattle.mini_rows.proofs.FoldLawful.{vanishes, first_dropped}

-- ---- the same parts

abbrev a_boolean : Bool → Sketch
a_boolean true = under (Unary LogicalNot) (under (NumberHead (pos 0)) end ▹ end)
a_boolean false = under (Unary LogicalNot) (under (NumberHead (pos 1)) end ▹ end)

deleted_kept : (a : Tree) (q : Seat) (n w : Tree) → n ≡ unary Delete a → w ≡ deleted a → KeptAt (Expr q) n w
deleted_kept a q n w e f = go (is_effect_free a && leaves_nothing a) refl f
  where
    go : (b : Bool) → is_effect_free a && leaves_nothing a ≡ b → w ≡ (if b then negated_digit true else pair a (negated_digit true)) → KeptAt (Expr q) n w
    go true h g = expressions_arranged_freely first_dropped (record { trees = a ▸ none; lists = [] }) (tt, tt, (vanishes a (and_parts (is_effect_free a) (leaves_nothing a) h).1, tt)) (under (Unary Delete) (part 0 ▹ end)) (a_boolean true) refl q n w e g
    go false h g = expressions_arranged (record { trees = a ▸ none; lists = [] }) (under (Unary Delete) (part 0 ▹ end)) (under Sequence (list (item (part 0) (item (a_boolean true) no_items)) ▹ end)) refl q n w e g

abbrev both_dropped : Free
both_dropped = record { moved = []; lists_moved = []; dropped = 0 ∷ 1 ∷ [] }

-- both sides go
told_kept : (o : BinaryOperator) (a b : Tree) (c : Bool) → Vanishes a → Vanishes b → (q : Seat) (n w : Tree) → n ≡ binary o a b → w ≡ negated_digit c → KeptAt (Expr q) n w
told_kept o a b true x y q n w e f = expressions_arranged_freely both_dropped (record { trees = a ▸ b ▸ none; lists = [] }) (tt, tt, (x, (y, tt))) (under (Binary o) (part 0 ▹ part 1 ▹ end)) (a_boolean true) refl q n w e f
told_kept o a b false x y q n w e f = expressions_arranged_freely both_dropped (record { trees = a ▸ b ▸ none; lists = [] }) (tt, tt, (x, (y, tt))) (under (Binary o) (part 0 ▹ part 1 ▹ end)) (a_boolean false) refl q n w e f

both_vanish : (o : BinaryOperator) (a b : Tree) → leaves_nothing (binary o a b) ≡ true → Vanishes a × Vanishes b
both_vanish o a b e = let (first, rest) = and_parts (leaves_nothing a) (leaves_nothing b && true) e in (vanishes a first, vanishes b (and_parts (leaves_nothing b) true rest).0)

pub type_kept : (asked : Bool) (q : Seat) (n w : Tree) → TypeRow asked n w → KeptAt (Expr q) n w
type_kept asked q n w r =
    let (first, second) = both_vanish r.operator (unary Typeof r.operand) r.right r.dropped in
    told_kept r.operator (unary Typeof r.operand) r.right (not (says_equal r.operator)) first second q n w r.shape r.written

types_kept : (o : BinaryOperator) (x : Name) (q : Seat) (n w : Tree) → n ≡ binary o (unary Typeof (identifier x)) (unary Typeof (identifier x)) → w ≡ negated_digit (says_equal o) → KeptAt (Expr q) n w
types_kept o x q n w e f = let goes = vanishes (unary Typeof (identifier x)) refl in told_kept o (unary Typeof (identifier x)) (unary Typeof (identifier x)) (says_equal o) goes goes q n w e f

masked_kept : (o : BinaryOperator) (b : Bool) (a : Tree) (c d r : ℤ) (q : Seat) (n w : Tree) → n ≡ binary o (with_number o b a c) (numeral d) → w ≡ binary o a (numeral r) → KeptAt (Expr q) n w
masked_kept o true a c d r q n w e f = expressions_arranged (record { trees = a ▸ none; lists = [] }) (under (Binary o) (under (Binary o) (part 0 ▹ under (NumberHead c) end ▹ end) ▹ under (NumberHead d) end ▹ end)) (under (Binary o) (part 0 ▹ under (NumberHead r) end ▹ end)) refl q n w e f
masked_kept o false a c d r q n w e f = expressions_arranged (record { trees = a ▸ none; lists = [] }) (under (Binary o) (under (Binary o) (under (NumberHead c) end ▹ part 0 ▹ end) ▹ under (NumberHead d) end ▹ end)) (under (Binary o) (part 0 ▹ under (NumberHead r) end ▹ end)) refl q n w e f

pub operator_kept : (q : Seat) (n w : Tree) → OperatorRow q n w → KeptAt (Expr q) n w
operator_kept q n w (Deleted r) = deleted_kept r.operand q n w r.shape r.written
operator_kept q n w (SameTypes r) = types_kept r.operator r.name q n w r.shape r.written
operator_kept q n w (NeverType r) = type_kept true q n w r
operator_kept q n w (LeftPlus r) = expressions_arranged (record { trees = r.operand ▸ r.right ▸ none; lists = [] }) (under (Binary r.operator) (under (Unary UnaryPlus) (part 0 ▹ end) ▹ part 1 ▹ end)) (under (Binary r.operator) (part 0 ▹ part 1 ▹ end)) refl q n w r.shape r.written
operator_kept q n w (JoinedMasks r) = masked_kept r.operator r.on_right r.operand r.first r.second r.joined q n w r.shape r.written
operator_kept q n w (RightPlus r) = expressions_arranged (record { trees = r.left ▸ r.operand ▸ none; lists = [] }) (under (Binary r.operator) (part 0 ▹ under (Unary UnaryPlus) (part 1 ▹ end) ▹ end)) (under (Binary r.operator) (part 0 ▹ part 1 ▹ end)) refl q n w r.shape r.written

-- ---- where they stand

module _ (strict : Bool) (s : Slot) where
  abbrev Fits : Tree → Type 0
  Fits t = fits strict expression t ≡ true

  boolean_fits : (c : Bool) → Fits (negated_digit c)
  boolean_fits true = refl
  boolean_fits false = refl

  deleted_fits : (a : Tree) → Fits a → Fits (deleted a)
  deleted_fits a e = go (is_effect_free a && leaves_nothing a)
    where
      go : (b : Bool) → Fits (if b then negated_digit true else pair a (negated_digit true))
      go true = refl
      go false = pair_fits strict a (negated_digit true) e refl

  of_plus : (a : Tree) → Fits (plus a) → Fits a
  of_plus a e = (unary_at strict UnaryPlus a expression e).1

  -- the operand beside a number
  of_number : (o : BinaryOperator) (b : Bool) (a : Tree) (c : ℤ) → Fits (with_number o b a c) → Fits a
  of_number o true a c e = let (takes, (first, second)) = binary_at strict o a (numeral c) expression e in first
  of_number o false a c e = let (takes, (first, second)) = binary_at strict o (numeral c) a expression e in second

  -- what is written, where an expression is taken
  pub operator_stood : (q : Seat) (n w : Tree) → OperatorRow q n w → fits strict s n ≡ true → TakesExpression s × Fits w
  operator_stood q n w (Deleted r) e =
      let (takes, fit) = unary_at strict Delete r.operand s (subst (λ t. fits strict s t ≡ true) r.shape e) in
      (takes, subst Fits (sym r.written) (deleted_fits r.operand fit))
  operator_stood q n w (SameTypes r) e =
      let (takes, both) = binary_at strict r.operator (unary Typeof (identifier r.name)) (unary Typeof (identifier r.name)) s (subst (λ t. fits strict s t ≡ true) r.shape e) in
      (takes, subst Fits (sym r.written) (boolean_fits (says_equal r.operator)))
  operator_stood q n w (NeverType r) e =
      let (takes, both) = binary_at strict r.operator (unary Typeof r.operand) r.right s (subst (λ t. fits strict s t ≡ true) r.shape e) in
      (takes, subst Fits (sym r.written) (boolean_fits (not (says_equal r.operator))))
  operator_stood q n w (LeftPlus r) e =
      let (takes, (first, second)) = binary_at strict r.operator (plus r.operand) r.right s (subst (λ t. fits strict s t ≡ true) r.shape e) in
      (takes, subst Fits (sym r.written) (two_fit strict r.operand r.right (of_plus r.operand first) second))
  operator_stood q n w (JoinedMasks r) e =
      let (takes, (first, second)) = binary_at strict r.operator (with_number r.operator r.on_right r.operand r.first) (numeral r.second) s (subst (λ t. fits strict s t ≡ true) r.shape e) in
      (takes, subst Fits (sym r.written) (two_fit strict r.operand (numeral r.joined) (of_number r.operator r.on_right r.operand r.first first) (lit_fits strict (Number r.joined) (numeral r.joined) refl (numbers_written r.operator r.first r.second (Number r.joined) r.known))))
  operator_stood q n w (RightPlus r) e =
      let (takes, (first, second)) = binary_at strict r.operator r.left (plus r.operand) s (subst (λ t. fits strict s t ≡ true) r.shape e) in
      (takes, subst Fits (sym r.written) (two_fit strict r.left r.operand first (of_plus r.operand second)))

-- ---- what a parent asks of them

deleted_asked : (q : Seat) (a b : Tree) → AskedAlike (Expr q) (unary Delete a) (deleted b)
deleted_asked q a b = go (is_effect_free b && leaves_nothing b)
  where
    go : (c : Bool) → AskedAlike (Expr q) (unary Delete a) (if c then negated_digit true else pair b (negated_digit true))
    go true = record {
      absent = λ e. absurd (true≢false (sym e));
      body = λ e. absurd (true≢false (sym e));
      optional = λ e. absurd (true≢false (sym e));
      number = λ asks e. refl;
      spelled = λ s e. absurd (cc e);
      plain = refl;
    }
    go false = record {
      absent = λ e. absurd (true≢false (sym e));
      body = λ e. absurd (true≢false (sym e));
      optional = λ e. absurd (true≢false (sym e));
      number = λ asks e. refl;
      spelled = λ s e. absurd (cc e);
      plain = refl;
    }

told_asked : (q : Seat) (o : BinaryOperator) (a b : Tree) (c : Bool) → AskedAlike (Expr q) (binary o a b) (negated_digit c)
told_asked q o a b true = record {
  absent = λ e. absurd (true≢false (sym e));
  body = λ e. absurd (true≢false (sym e));
  optional = λ e. absurd (true≢false (sym e));
  number = λ asks e. refl;
  spelled = λ s e. absurd (cc e);
  plain = refl;
}
told_asked q o a b false = record {
  absent = λ e. absurd (true≢false (sym e));
  body = λ e. absurd (true≢false (sym e));
  optional = λ e. absurd (true≢false (sym e));
  number = λ asks e. refl;
  spelled = λ s e. absurd (cc e);
  plain = refl;
}

binary_asked : (q : Seat) (o : BinaryOperator) (a b c d : Tree) → AskedAlike (Expr q) (binary o a b) (binary o c d)
binary_asked q o a b c d = record {
  absent = λ e. absurd (true≢false (sym e));
  body = λ e. absurd (true≢false (sym e));
  optional = λ e. absurd (true≢false (sym e));
  number = λ asks e. refl;
  spelled = λ s e. absurd (cc e);
  plain = refl;
}

asked_by : (q : Seat) (n w a b : Tree) → n ≡ a → w ≡ b → AskedAlike (Expr q) a b → AskedAlike (Expr q) n w
asked_by q n w a b e f h = subst (λ t. AskedAlike (Expr q) t w) (sym e) (subst (AskedAlike (Expr q) a) (sym f) h)

pub operator_asked : (q : Seat) (n w : Tree) → OperatorRow q n w → AskedAlike (Expr q) n w
operator_asked q n w (Deleted r) = asked_by q n w _ _ r.shape r.written (deleted_asked q r.operand r.operand)
operator_asked q n w (SameTypes r) = asked_by q n w _ _ r.shape r.written (told_asked q r.operator (unary Typeof (identifier r.name)) (unary Typeof (identifier r.name)) (says_equal r.operator))
operator_asked q n w (NeverType r) = asked_by q n w _ _ r.shape r.written (told_asked q r.operator (unary Typeof r.operand) r.right (not (says_equal r.operator)))
operator_asked q n w (LeftPlus r) = asked_by q n w _ _ r.shape r.written (binary_asked q r.operator (plus r.operand) r.right r.operand r.right)
operator_asked q n w (JoinedMasks r) = asked_by q n w _ _ r.shape r.written (binary_asked q r.operator (with_number r.operator r.on_right r.operand r.first) (numeral r.second) r.operand (numeral r.joined))
operator_asked q n w (RightPlus r) = asked_by q n w _ _ r.shape r.written (binary_asked q r.operator r.left (plus r.operand) r.left r.operand)
