-- What is written for an operand whose value is known is what a row says, and where nothing is no row reads the expression.
use Rattle.std.proofs.Common.{◌≡◌, ℕ, zero, suc, Bool, true, false, List, [], Option, Some, None, refl, sym, ap, subst, ◌∙◌, inl, inr, true≢false}
use Rattle.std.specs.Prelude.{◌⊎◌, ◌&&◌, ◌||◌, ◌++◌, not, ℤ, pos, is_some, unwrap_or, if◌then◌else◌}
use Rattle.std.proofs.lemmas.Bool.{and_parts}
use Rattle.mini_model.specs.declared.operator.BinaryOperator.{BinaryOperator}
use Rattle.mini_model.specs.declared.operator.BinaryOperator.TheVariants.{Addition, Equality, Inequality, BitwiseAnd, BitwiseXor, BitwiseOr, ShiftLeft, ShiftRight}
use Rattle.mini_model.specs.declared.operator.LogicalOperator.{LogicalOperator}
use Rattle.mini_model.specs.declared.operator.LogicalOperator.TheVariants.{Or, And, Coalesce}
use Rattle.mini_model.specs.declared.place.Position.TheVariants.{Expr}
use Rattle.mini_model.specs.declared.seat.Seat.{Seat}
use Rattle.mini_model.specs.declared.shape.Shape.{Shape}
use Rattle.mini_model.specs.declared.shape.Shape.TheVariants as shape
use Rattle.mini_model.specs.declared.operator.UnaryOperator.TheVariants.{Typeof}
use Rattle.mini_model.specs.Tree.{Tree, shape_of, unary, identifier, logical, negation}
use Rattle.mini_model.specs.Position.{is_and_or, right_operand_seat}
use Rattle.mini_node.specs.Children.{part}
use Rattle.mini_node.specs.Kinds.{logical_operator, binary_operator, unary_operator, is_logical, is_negation, number, string, binary}
use Rattle.mini_node.specs.Made.{logical_is, binary_is, and_is, or_is, negation_is, number_is, string_is}
use Rattle.mini_laws.specs.Operators.{same_boolean}
use Rattle.mini_terms.specs.declared.kinds.Kind.{Kind}
use Rattle.mini_terms.specs.declared.kinds.Kind.TheVariants.{Boolean as IsBoolean, String as IsString}
use Rattle.mini_terms.specs.Folds.{is_effect_free, goes_on}
use Rattle.mini_terms.specs.Kind.{kind}
use Rattle.mini_terms.specs.Parts.{takes_numbers, suits, leaves_nothing, weighs}
use Rattle.mini_terms.specs.Reading.{is_unguarded, is_plain_part}
use Rattle.mini_rows.specs.ChainLinks.{is_lone}
use Rattle.mini_rows.specs.Choices.{loosely}
use Rattle.mini_rows.specs.Operands.{encloses, beside, told_by, tail_text, is_bits, is_int32, is_shifted, keeps_bits, has_room, zero_told, Row14, Row7, Row4, Row27, Row27Asked, Row27Enclosed, Row31, Row32, OperandRow, MiddleOperand, EmptyText, BooleanBesideTruth, TruthBesideValue, JoinedTexts, BitsBesideZero, BitsWithZero, WholeOrZero, ByOperator, ShiftAsked, ShiftEnclosed}
use Rattle.mini_rows.specs.Booleans.{digit, plus}
use Rattle.mini_rows.specs.Operators.{is_bitwise, deleted, with_number, Row8, Row16, Row17, Row56Left, Row56Right, OperatorRow, Deleted, SameTypes, NeverType, LeftPlus, RightPlus, JoinedMasks}
use Rattle.mini_rows.specs.Spellings.{negated_digit, numeral, text}
use Rattle.mini_rows.proofs.OperandWeights.{lighter}
use Rattle.mini_tree.specs.Rule.{Applied}
use Rattle.mini_tree.proofs.Reaching.{moves_once}
use Rattle.mini_fold.proofs.Operators.{operator_or, delete_row, same_there, never_there, left_there, right_there, later, masks_there}
use Rattle.mini_fold.specs.FoldOperands.{is_redundant, logical_written, is_empty, is_string_kind, is_text, text_written, sum_text_by, joined_texts, with_text, joined_written, or_else, sum_written, is_zero, tests_bits, tests_shift, tests_enclosed, keeps_beside, kept_written, bits_written, whole_written, wholes_written, negated_truth, truth_in, is_boolean_kind, is_told, right_written, left_written, either_written, equal_written, operands_written, binary_written, written_by, written, Gives, Rests}

or_true : (b : Bool) → b || true ≡ true
or_true true = refl
or_true false = refl

-- a `!` stands by its value, and is no number
pub negated_suits : (s : Seat) (a : Tree) → is_plain_part a ≡ suits s (negation a)
negated_suits s a = sym (ap (λ b. is_plain_part a && (b && (takes_numbers s || true))) (or_true (is_unguarded s.guard && true)) ∙ ap (λ b. is_plain_part a && b) (or_true (takes_numbers s)) ∙ both (is_plain_part a))
  where
    both : (b : Bool) → b && true ≡ b
    both true = refl
    both false = refl

pub both_true : (b c : Bool) → b ≡ true → c ≡ true → b && c ≡ true
both_true true c e f = f
both_true false c e f = e

some_is : (x y : Tree) → Some x ≡ Some y → x ≡ y
some_is x y e = cc e

nothing : {w : Tree} {B : Type 0} → None ≡ Some w → B
nothing e = cc e

-- ---- 14

nested_is : (o : LogicalOperator) (t : Tree) → is_and_or o ≡ true → is_logical o t ≡ true → t ≡ logical o (part t 0) (part t 1)
nested_is Or t h e = or_is t e
nested_is And t h e = and_is t e
nested_is Coalesce t h e = absurd (true≢false (sym h))

middle_row : (s : Seat) (n : Tree) (o : LogicalOperator) → logical_operator n ≡ Some o → is_redundant s o (part n 0) (part n 1) ≡ true → Row14 s n (logical o (part (part n 0) 0) (part n 1))
middle_row s n o h e =
    let a : Tree = part n 0 in
    let b : Tree = part n 1 in
    let k : Tree = part a 1 in
    let (tells, r1) = and_parts (is_and_or o) (is_logical o a && (goes_on o k && (is_effect_free k && (leaves_nothing k && (weighs k && suits (right_operand_seat o s) b))))) e in
    let (nested, r2) = and_parts (is_logical o a) (goes_on o k && (is_effect_free k && (leaves_nothing k && (weighs k && suits (right_operand_seat o s) b)))) r1 in
    let (known, r3) = and_parts (goes_on o k) (is_effect_free k && (leaves_nothing k && (weighs k && suits (right_operand_seat o s) b))) r2 in
    let (free, r4) = and_parts (is_effect_free k) (leaves_nothing k && (weighs k && suits (right_operand_seat o s) b)) r3 in
    let (dropped, r5) = and_parts (leaves_nothing k) (weighs k && suits (right_operand_seat o s) b) r4 in
    let (heavy, stays) = and_parts (weighs k) (suits (right_operand_seat o s) b) r5 in record {
      operator = o;
      left = part a 0;
      middle = k;
      right = b;
      tells = tells;
      known = known;
      effect_free = free;
      dropped = dropped;
      heavy = heavy;
      stays = stays;
      shape = logical_is n o h ∙ ap (λ t. logical o t b) (nested_is o a tells nested);
      written = refl;
    }

pub logical_row : (s : Seat) (n w : Tree) (o : Option LogicalOperator) → logical_operator n ≡ o → logical_written s o n ≡ Some w → Row14 s n w
logical_row s n w None h e = nothing e
logical_row s n w (Some o) h e = go (is_redundant s o (part n 0) (part n 1)) refl e
  where
    go : (b : Bool) → is_redundant s o (part n 0) (part n 1) ≡ b → (if b then Some (logical o (part (part n 0) 0) (part n 1)) else None) ≡ Some w → Row14 s n w
    go true k f = subst (Row14 s n) (some_is (logical o (part (part n 0) 0) (part n 1)) w f) (middle_row s n o h k)
    go false k f = nothing f

pub redundant : (s : Seat) (o : LogicalOperator) (a k b : Tree) → is_and_or o ≡ true → goes_on o k ≡ true → is_effect_free k ≡ true → leaves_nothing k ≡ true → weighs k ≡ true → suits (right_operand_seat o s) b ≡ true → is_redundant s o (logical o a k) b ≡ true
redundant s Or a k b t h e d w p = both_true (goes_on Or k) _ h (both_true (is_effect_free k) _ e (both_true (leaves_nothing k) _ d (both_true (weighs k) (suits (right_operand_seat Or s) b) w p)))
redundant s And a k b t h e d w p = both_true (goes_on And k) _ h (both_true (is_effect_free k) _ e (both_true (leaves_nothing k) _ d (both_true (weighs k) (suits (right_operand_seat And s) b) w p)))
redundant s Coalesce a k b t h e d w p = absurd (true≢false (sym t))

pub there : (b : Bool) (t : Tree) → b ≡ true → is_some (if b then Some t else None) ≡ true
there true t e = refl
there false t e = absurd (true≢false (sym e))

middle_passes : (s : Seat) (n w : Tree) → Row14 s n w → is_some (written s n) ≡ true
middle_passes s n w r =
    ap (λ t. is_some (written s t)) r.shape
    ∙ there (is_redundant s r.operator (logical r.operator r.left r.middle) r.right) (logical r.operator r.left r.right) (redundant s r.operator r.left r.middle r.right r.tells r.known r.effect_free r.dropped r.heavy r.stays)

-- ---- 7

empty_text : (t : Tree) → is_empty (string t) ≡ true → t ≡ text []
empty_text t e = go (string t) refl e
  where
    go : (c : Option (List ℕ)) → string t ≡ c → is_empty c ≡ true → t ≡ text []
    go (Some []) h k = string_is t [] h
    go c h k = absurd (true≢false (sym k))

pub string_kind : (k : Kind) → is_string_kind k ≡ true → k ≡ IsString
string_kind IsString e = refl
string_kind k e = absurd (true≢false (sym e))

text_row : (s : Seat) (n a k : Tree) (b : Bool) → n ≡ beside Addition b a k → is_text s a k ≡ true → Row7 s n a
text_row s n a k b is e =
    let (empty, rest) = and_parts (is_empty (string k)) (is_string_kind (kind a) && suits s a) e in
    let (known, stays) = and_parts (is_string_kind (kind a)) (suits s a) rest in
    record { on_right = b; operand = a; known = string_kind (kind a) known; stays = stays; shape = is ∙ ap (beside Addition b a) (empty_text k empty); written = refl }

pub texts_row : (s : Seat) (n w a b : Tree) → n ≡ binary Addition a b → text_written s a b ≡ Some w → Row7 s n w
texts_row s n w a b is e = go (is_text s a b) (is_text s b a) refl refl e
  where
    go : (c d : Bool) → is_text s a b ≡ c → is_text s b a ≡ d → (if c then Some a else (if d then Some b else None)) ≡ Some w → Row7 s n w
    go true d h k f = subst (Row7 s n) (some_is a w f) (text_row s n a b true is h)
    go false true h k f = subst (Row7 s n) (some_is b w f) (text_row s n b a false is k)
    go false false h k f = nothing f

pub first_or_second : (b c : Bool) (t u : Tree) → b || c ≡ true → is_some (if b then Some t else (if c then Some u else None)) ≡ true
first_or_second true c t u e = refl
first_or_second false true t u e = refl
first_or_second false false t u e = absurd (true≢false (sym e))

pub is_text_there : (s : Seat) (a : Tree) → kind a ≡ IsString → suits s a ≡ true → is_text s a (text []) ≡ true
is_text_there s a known stays = ap (λ k. is_string_kind k && suits s a) known ∙ stays

pub or_right : (b c : Bool) → c ≡ true → b || c ≡ true
or_right true c e = refl
or_right false c e = e

pub or_else_there : (t u : Option Tree) → is_some t ≡ true → is_some (or_else t u) ≡ true
or_else_there (Some t) u e = refl
or_else_there None u e = absurd (true≢false (sym e))

pub or_else_other : (t u : Option Tree) → is_some u ≡ true → is_some (or_else t u) ≡ true
or_else_other (Some t) u e = refl
or_else_other None u e = e

text_passes_as : (s : Seat) (b : Bool) (a : Tree) → kind a ≡ IsString → suits s a ≡ true → is_some (written s (beside Addition b a (text []))) ≡ true
text_passes_as s true a k h = later Addition (binary Addition a (text [])) (sum_written s a (text [])) (or_else_there (text_written s a (text [])) (joined_written a (text [])) (first_or_second (is_text s a (text [])) (is_text s (text []) a) a (text []) (ap (λ c. c || is_text s (text []) a) (is_text_there s a k h))))
text_passes_as s false a k h = later Addition (binary Addition (text []) a) (sum_written s (text []) a) (or_else_there (text_written s (text []) a) (joined_written (text []) a) (first_or_second (is_text s (text []) a) (is_text s a (text [])) (text []) a (or_right (is_text s (text []) a) (is_text s a (text [])) (is_text_there s a k h))))

text_passes : (s : Seat) (n w : Tree) → Row7 s n w → is_some (written s n) ≡ true
text_passes s n w r = ap (λ t. is_some (written s t)) r.shape ∙ text_passes_as s r.on_right r.operand r.known r.stays

-- ---- 4

pub joined_row : (n w a k : Tree) → n ≡ binary Addition a k → joined_written a k ≡ Some w → Row4 n w
joined_row n w a k is e = go (binary_operator a) (string (part a 1)) (tail_text k) refl refl refl e
  where
    go : (o : Option BinaryOperator) (c d : Option (List ℕ)) → binary_operator a ≡ o → string (part a 1) ≡ c → tail_text k ≡ d → with_text a (joined_texts (sum_text_by o (part a 1)) d) ≡ Some w → Row4 n w
    go (Some Addition) (Some s) (Some t) h g j f = record {
      left = part a 0;
      before = s;
      tail = k;
      after = t;
      known = j;
      shape = is ∙ ap (λ x. binary Addition x k) (binary_is a Addition h ∙ ap (binary Addition (part a 0)) (string_is (part a 1) s g));
      written = sym (some_is (binary Addition (part a 0) (text (s ++ t))) w (sym (ap (λ c. with_text a (joined_texts c (Some t))) g) ∙ f));
    }
    go (Some Addition) (Some s) None h g j f = nothing (sym (ap (λ c. with_text a (joined_texts c None)) g) ∙ f)
    go (Some Addition) None d h g j f = nothing (sym (ap (λ c. with_text a (joined_texts c d)) g) ∙ f)
    go o c d h g j f = nothing f

sum_row : (s : Seat) (n w a b : Tree) → n ≡ binary Addition a b → sum_written s a b ≡ Some w → OperandRow (Expr s) n w
sum_row s n w a b is e = go (text_written s a b) refl e
  where
    go : (c : Option Tree) → text_written s a b ≡ c → or_else c (joined_written a b) ≡ Some w → OperandRow (Expr s) n w
    go (Some t) h f = EmptyText (texts_row s n w a b is (h ∙ f))
    go None h f = JoinedTexts (joined_row n w a b is f)

-- what is written first, and what is where that is nothing
module _ (s : Seat) (n : Tree) where
  abbrev text_first : Option Tree
  text_first = text_written s (part n 0) (part n 1)

  abbrev sum_first : Option Tree
  sum_first = sum_written s (part n 0) (part n 1)

  pub text_made : (u : Tree) → u ≡ unwrap_or text_first n → true ≡ is_some text_first → (u ≡ unwrap_or sum_first n) × (true ≡ is_some sum_first)
  text_made u e h = go text_first (joined_written (part n 0) (part n 1)) e h
    where
      go : (c d : Option Tree) → u ≡ unwrap_or c n → true ≡ is_some c → (u ≡ unwrap_or (or_else c d) n) × (true ≡ is_some (or_else c d))
      go (Some t) d e h = (e, refl)
      go None d e h = absurd (true≢false h)

  pub text_kept : (u : Tree) → u ≡ unwrap_or text_first n → false ≡ is_some text_first → u ≡ n
  text_kept u e h = go text_first e h
    where
      go : (c : Option Tree) → u ≡ unwrap_or c n → false ≡ is_some c → u ≡ n
      go (Some t) e h = absurd (true≢false (sym h))
      go None e h = e

  pub no_text : false ≡ is_some text_first → sum_first ≡ joined_written (part n 0) (part n 1)
  no_text h = go text_first (joined_written (part n 0) (part n 1)) h
    where
      go : (c d : Option Tree) → false ≡ is_some c → or_else c d ≡ d
      go (Some t) d h = absurd (true≢false (sym h))
      go None d h = refl

  pub joined_kept : (u : Tree) → u ≡ n → false ≡ is_some text_first → unwrap_or (joined_written (part u 0) (part u 1)) u ≡ unwrap_or sum_first n
  joined_kept u e h = ap (λ x. unwrap_or (joined_written (part x 0) (part x 1)) x) e ∙ ap (λ c. unwrap_or c n) (sym (no_text h))

  pub joined_said : (u : Tree) → u ≡ n → false ≡ is_some text_first → is_some (joined_written (part u 0) (part u 1)) ≡ is_some sum_first
  joined_said u e h = ap (λ x. is_some (joined_written (part x 0) (part x 1))) e ∙ ap is_some (sym (no_text h))

joined_passes : (s : Seat) (n w : Tree) → Row4 n w → is_some (written s n) ≡ true
joined_passes s n w r =
    ap (λ t. is_some (written s t)) r.shape
    ∙ later Addition (binary Addition (binary Addition r.left (text r.before)) r.tail) (sum_written s (binary Addition r.left (text r.before)) r.tail)
    (or_else_other (text_written s (binary Addition r.left (text r.before)) r.tail) (joined_written (binary Addition r.left (text r.before)) r.tail)
    (ap (λ d. is_some (with_text (binary Addition r.left (text r.before)) (joined_texts (Some r.before) d))) r.known))

-- ---- 27

zero_is : (b : Tree) → is_zero (number b) ≡ true → b ≡ digit false
zero_is b e = go (number b) refl e
  where
    go : (c : Option ℤ) → number b ≡ c → is_zero c ≡ true → b ≡ digit false
    go (Some (pos zero)) h f = number_is b (pos 0) h
    go c h f = absurd (true≢false (sym f))

pub zero_row : (n : Tree) (equal : Bool) (a b : Tree) → n ≡ binary (loosely equal) a b → tests_bits a b ≡ true → Row27 n (zero_told equal a)
zero_row n equal a b is e =
    let (nought, bits) = and_parts (is_zero (number b)) (is_bits a) e in
    record { equal = equal; operand = a; known = bits; shape = is ∙ ap (binary (loosely equal) a) (zero_is b nought); written = refl }

-- a shift beside 0
pub shift_row : (s : Seat) (n : Tree) (equal : Bool) (a b : Tree) → n ≡ binary (loosely equal) a b → tests_shift s equal a b ≡ true → Row27Asked s n a
shift_row s n equal a b is e =
    let (nought, others) = and_parts (is_zero (number b)) (not equal && (s.boolean && is_shifted a)) e in
    let (unequal, seated) = and_parts (not equal) (s.boolean && is_shifted a) others in
    let (asked, known) = and_parts s.boolean (is_shifted a) seated in
    record { operand = a; known = known; asked = asked; shape = is ∙ ap (λ c. binary (loosely c) a b) (not_true equal unequal) ∙ ap (binary (loosely false) a) (zero_is b nought); written = refl }
  where
    not_true : (c : Bool) → not c ≡ true → c ≡ false
    not_true false h = refl
    not_true true h = absurd (true≢false (sym h))

-- a shift whose comparison has parentheses
pub enclosed_row : (s : Seat) (n : Tree) (equal : Bool) (a b : Tree) → n ≡ binary (loosely equal) a b → tests_enclosed s a b ≡ true → Row27Enclosed s n (zero_told equal a)
enclosed_row s n equal a b is e =
    let (nought, rest) = and_parts (is_zero (number b)) (encloses s && is_shifted a) e in
    let (seated, known) = and_parts (encloses s) (is_shifted a) rest in
    record { equal = equal; operand = a; known = known; seated = seated; shape = is ∙ ap (binary (loosely equal) a) (zero_is b nought); written = refl }

pub there_or : (b : Bool) (t : Tree) (u : Option Tree) → b ≡ true → is_some (if b then Some t else u) ≡ true
there_or true t u e = refl
there_or false t u e = absurd (true≢false (sym e))

pub tested : (b : Bool) (t : Tree) (u : Option Tree) → is_some u ≡ true → is_some (if b then Some t else u) ≡ true
tested true t u e = refl
tested false t u e = e

zero_there : (equal : Bool) (a : Tree) → is_bits a ≡ true → (s : Seat) → is_some (equal_written s equal a (digit false)) ≡ true
zero_there equal a e s = ap (λ b. is_some (if b then Some (zero_told equal a) else (if tests_shift s equal a (digit false) then Some a else (if tests_enclosed s a (digit false) then Some (zero_told equal a) else either_written s equal (truth_in (digit false)) a (digit false))))) e

enclosed_there : (s : Seat) (equal : Bool) (a : Tree) → is_shifted a ≡ true → encloses s ≡ true → is_some (equal_written s equal a (digit false)) ≡ true
enclosed_there s equal a e h = tested (tests_bits a (digit false)) (zero_told equal a) _ (tested (tests_shift s equal a (digit false)) a _ (there_or (tests_enclosed s a (digit false)) (zero_told equal a) _ (both_true (encloses s) (is_shifted a) h e)))

enclosed_passes : (s : Seat) (equal : Bool) (a : Tree) → is_shifted a ≡ true → encloses s ≡ true → is_some (written s (binary (loosely equal) a (digit false))) ≡ true
enclosed_passes s true a e h = later Equality (binary Equality a (digit false)) (equal_written s true a (digit false)) (enclosed_there s true a e h)
enclosed_passes s false a e h = later Inequality (binary Inequality a (digit false)) (equal_written s false a (digit false)) (enclosed_there s false a e h)

shift_passes : (s : Seat) (a : Tree) → is_shifted a ≡ true → s.boolean ≡ true → is_some (written s (binary (loosely false) a (digit false))) ≡ true
shift_passes s a e h = later Inequality (binary Inequality a (digit false)) (equal_written s false a (digit false)) (tested (tests_bits a (digit false)) (zero_told false a) _ (there_or (tests_shift s false a (digit false)) a _ (both_true s.boolean (is_shifted a) h e)))

zero_passes_as : (s : Seat) (equal : Bool) (a : Tree) → is_bits a ≡ true → is_some (written s (binary (loosely equal) a (digit false))) ≡ true
zero_passes_as s true a e = later Equality (binary Equality a (digit false)) (equal_written s true a (digit false)) (zero_there true a e s)
zero_passes_as s false a e = later Inequality (binary Inequality a (digit false)) (equal_written s false a (digit false)) (zero_there false a e s)

-- ---- 29 and 30

pub truth_is : (t : Tree) (c : Bool) → truth_in t ≡ Some c → t ≡ negated_digit c
truth_is t c e = go (is_negation t) refl e
  where
    by : is_negation t ≡ true → (x : Option ℤ) → number (part t 0) ≡ x → negated_truth x ≡ Some c → t ≡ negated_digit c
    by h (Some (pos zero)) k f = negation_is t h ∙ ap negation (number_is (part t 0) (pos 0) k) ∙ ap negated_digit {x = true} {y = c} (cc f)
    by h (Some (pos (suc zero))) k f = negation_is t h ∙ ap negation (number_is (part t 0) (pos 1) k) ∙ ap negated_digit {x = false} {y = c} (cc f)
    by h x k f = absurd (cc f)

    go : (b : Bool) → is_negation t ≡ b → (if b then negated_truth (number (part t 0)) else None) ≡ Some c → t ≡ negated_digit c
    go true h f = by h (number (part t 0)) refl f
    go false h f = absurd (cc f)

pub boolean_kind : (k : Kind) → is_boolean_kind k ≡ true → k ≡ IsBoolean
boolean_kind IsBoolean e = refl
boolean_kind k e = absurd (true≢false (sym e))

abbrev Reads : Seat → Tree → Tree → Type 0
Reads s n w = OperandRow (Expr s) n w

right_row : (s : Seat) (n : Tree) (equal c : Bool) (a : Tree) → n ≡ binary (loosely equal) a (negated_digit c) → Reads s n (right_written s equal c a)
right_row s n equal c a is = go (is_told s (same_boolean equal c) a) refl
  where
    go : (b : Bool) → is_told s (same_boolean equal c) a ≡ b → Reads s n (if b then told_by (same_boolean equal c) a else binary (loosely equal) a (digit c))
    go true h = let (known, stays) = and_parts (is_boolean_kind (kind a)) (suits s (told_by (same_boolean equal c) a)) h in BooleanBesideTruth (record { equal = equal; truth = c; operand = a; known = boolean_kind (kind a) known; stays = stays; shape = is; written = refl })
    go false h = TruthBesideValue (record { equal = equal; truth = c; on_right = true; operand = a; shape = is; written = refl })

others_row : (s : Seat) (n w : Tree) (equal : Bool) (a b : Tree) → n ≡ binary (loosely equal) a b → either_written s equal (truth_in b) a b ≡ Some w → Reads s n w
others_row s n w equal a b is e = go (truth_in b) (truth_in a) refl refl e
  where
    go : (c d : Option Bool) → truth_in b ≡ c → truth_in a ≡ d → either_written s equal c a b ≡ Some w → Reads s n w
    go (Some c) d h k f = subst (Reads s n) (some_is (right_written s equal c a) w f) (right_row s n equal c a (is ∙ ap (binary (loosely equal) a) (truth_is b c h)))
    go None (Some d) h k f = TruthBesideValue (record { equal = equal; truth = d; on_right = false; operand = b; shape = is ∙ ap (λ t. binary (loosely equal) t b) (truth_is a d k); written = sym (some_is (binary (loosely equal) (digit d) b) w (sym (ap (λ o. left_written equal o b) k) ∙ f)) })
    go None None h k f = nothing (sym (ap (λ o. left_written equal o b) k) ∙ f)

equal_row : (s : Seat) (n w : Tree) (equal : Bool) (a b : Tree) → n ≡ binary (loosely equal) a b → equal_written s equal a b ≡ Some w → Reads s n w
equal_row s n w equal a b is e = go (tests_bits a b) refl e
  where
    enclosed : (c : Bool) → tests_enclosed s a b ≡ c → (if c then Some (zero_told equal a) else either_written s equal (truth_in b) a b) ≡ Some w → Reads s n w
    enclosed true h f = ShiftEnclosed (subst (Row27Enclosed s n) (some_is (zero_told equal a) w f) (enclosed_row s n equal a b is h))
    enclosed false h f = others_row s n w equal a b is f

    shift : (c : Bool) → tests_shift s equal a b ≡ c → (if c then Some a else (if tests_enclosed s a b then Some (zero_told equal a) else either_written s equal (truth_in b) a b)) ≡ Some w → Reads s n w
    shift true h f = ShiftAsked (subst (Row27Asked s n) (some_is a w f) (shift_row s n equal a b is h))
    shift false h f = enclosed (tests_enclosed s a b) refl f

    go : (c : Bool) → tests_bits a b ≡ c → (if c then Some (zero_told equal a) else (if tests_shift s equal a b then Some a else (if tests_enclosed s a b then Some (zero_told equal a) else either_written s equal (truth_in b) a b))) ≡ Some w → Reads s n w
    go true h f = BitsBesideZero (subst (Row27 n) (some_is (zero_told equal a) w f) (zero_row n equal a b is h))
    go false h f = shift (tests_shift s equal a b) refl f

right_passes : (s : Seat) (equal c : Bool) (a : Tree) → is_some (written s (binary (loosely equal) a (negated_digit c))) ≡ true
right_passes s true true a = later Equality (binary Equality a (negated_digit true)) (equal_written s true a (negated_digit true)) refl
right_passes s true false a = later Equality (binary Equality a (negated_digit false)) (equal_written s true a (negated_digit false)) refl
right_passes s false true a = later Inequality (binary Inequality a (negated_digit true)) (equal_written s false a (negated_digit true)) refl
right_passes s false false a = later Inequality (binary Inequality a (negated_digit false)) (equal_written s false a (negated_digit false)) refl

either_passes : (s : Seat) (equal c : Bool) (a : Tree) (o : Option Bool) → is_some (either_written s equal o (negated_digit c) a) ≡ true
either_passes s equal c a (Some d) = refl
either_passes s equal true a None = refl
either_passes s equal false a None = refl

beside_passes : (s : Seat) (equal c b : Bool) (a : Tree) → is_some (written s (beside (loosely equal) b a (negated_digit c))) ≡ true
beside_passes s equal c true a = right_passes s equal c a
beside_passes s true c false a = later Equality (binary Equality (negated_digit c) a) (equal_written s true (negated_digit c) a) (tested (tests_bits (negated_digit c) a) _ _ (tested (tests_shift s true (negated_digit c) a) _ _ (tested (tests_enclosed s (negated_digit c) a) _ _ (either_passes s true c a (truth_in a)))))
beside_passes s false c false a = later Inequality (binary Inequality (negated_digit c) a) (equal_written s false (negated_digit c) a) (tested (tests_bits (negated_digit c) a) _ _ (tested (tests_shift s false (negated_digit c) a) _ _ (tested (tests_enclosed s (negated_digit c) a) _ _ (either_passes s false c a (truth_in a)))))

-- ---- 31 and 32

pub kept_row : (s : Seat) (n w : Tree) (o : BinaryOperator) (r : Bool) → r || is_bitwise o ≡ true → (a k : Tree) → n ≡ beside o r a k → kept_written s o a k ≡ Some w → Row31 s n w
kept_row s n w o r sided a k is e = go (number k) refl e
  where
    made : (x : ℤ) → number k ≡ Some x → (b : Bool) → keeps_bits o x && has_room o s ≡ b → (if b then Some (binary BitwiseOr a (digit false)) else None) ≡ Some w → Row31 s n w
    made x h true j f =
        let (known, seated) = and_parts (keeps_bits o x) (has_room o s) j in
        record { operator = o; on_right = r; operand = a; number = x; known = known; sided = sided; seated = seated; shape = is ∙ ap (beside o r a) (number_is k x h); written = sym (some_is (binary BitwiseOr a (digit false)) w f) }
    made x h false j f = nothing f

    go : (c : Option ℤ) → number k ≡ c → (if keeps_beside o c && has_room o s then Some (binary BitwiseOr a (digit false)) else None) ≡ Some w → Row31 s n w
    go (Some x) h f = made x h (keeps_bits o x && has_room o s) refl f
    go None h f = nothing f

pub either_is : (c d : Option Tree) (w : Tree) → or_else c d ≡ Some w → (c ≡ Some w) ⊎ (d ≡ Some w)
either_is (Some t) d w e = inl e
either_is None d w e = inr e

pub bits_row : (s : Seat) (n w : Tree) (o : BinaryOperator) → is_bitwise o ≡ true → (a b : Tree) → n ≡ binary o a b → bits_written s o a b ≡ Some w → Row31 s n w
bits_row s n w o h a b is e = go (either_is (kept_written s o a b) (kept_written s o b a) w e)
  where
    go : (kept_written s o a b ≡ Some w) ⊎ (kept_written s o b a ≡ Some w) → Row31 s n w
    go (inl f) = kept_row s n w o true refl a b is f
    go (inr f) = kept_row s n w o false h b a is f

whole_row : (n w : Tree) (r : Bool) (a k : Tree) → n ≡ beside BitwiseOr r a k → whole_written a k ≡ Some w → Row32 n w
whole_row n w r a k is e = go (is_zero (number k) && is_int32 a) refl e
  where
    go : (b : Bool) → is_zero (number k) && is_int32 a ≡ b → (if b then Some a else None) ≡ Some w → Row32 n w
    go true j f =
        let (nought, known) = and_parts (is_zero (number k)) (is_int32 a) j in
        record { on_right = r; operand = a; known = known; shape = is ∙ ap (beside BitwiseOr r a) (zero_is k nought); written = sym (some_is a w f) }
    go false j f = nothing f

pub wholes_row : (n w a b : Tree) → n ≡ binary BitwiseOr a b → wholes_written a b ≡ Some w → Row32 n w
wholes_row n w a b is e = go (either_is (whole_written a b) (whole_written b a) w e)
  where
    go : (whole_written a b ≡ Some w) ⊎ (whole_written b a ≡ Some w) → Row32 n w
    go (inl f) = whole_row n w true a b is f
    go (inr f) = whole_row n w false b a is f

pub kept_there : (s : Seat) (o : BinaryOperator) (x : ℤ) → keeps_bits o x ≡ true → has_room o s ≡ true → (a : Tree) → is_some (kept_written s o a (numeral x)) ≡ true
kept_there s o x e h a = there (keeps_bits o x && has_room o s) (binary BitwiseOr a (digit false)) (both_true (keeps_bits o x) (has_room o s) e h)

kept_passes : (s : Seat) (o : BinaryOperator) (r : Bool) (x : ℤ) → keeps_bits o x ≡ true → r || is_bitwise o ≡ true → has_room o s ≡ true → (a : Tree) → is_some (written s (beside o r a (numeral x))) ≡ true
kept_passes s ShiftLeft true x e t h a = later ShiftLeft (binary ShiftLeft a (numeral x)) (kept_written s ShiftLeft a (numeral x)) (kept_there s ShiftLeft x e h a)
kept_passes s ShiftRight true x e t h a = later ShiftRight (binary ShiftRight a (numeral x)) (kept_written s ShiftRight a (numeral x)) (kept_there s ShiftRight x e h a)
kept_passes s BitwiseXor true x e t h a = later BitwiseXor (binary BitwiseXor a (numeral x)) (bits_written s BitwiseXor a (numeral x)) (or_else_there (kept_written s BitwiseXor a (numeral x)) (kept_written s BitwiseXor (numeral x) a) (kept_there s BitwiseXor x e h a))
kept_passes s BitwiseAnd true x e t h a = later BitwiseAnd (binary BitwiseAnd a (numeral x)) (bits_written s BitwiseAnd a (numeral x)) (or_else_there (kept_written s BitwiseAnd a (numeral x)) (kept_written s BitwiseAnd (numeral x) a) (kept_there s BitwiseAnd x e h a))
kept_passes s BitwiseXor false x e t h a = later BitwiseXor (binary BitwiseXor (numeral x) a) (bits_written s BitwiseXor (numeral x) a) (or_else_other (kept_written s BitwiseXor (numeral x) a) (kept_written s BitwiseXor a (numeral x)) (kept_there s BitwiseXor x e h a))
kept_passes s BitwiseAnd false x e t h a = later BitwiseAnd (binary BitwiseAnd (numeral x) a) (bits_written s BitwiseAnd (numeral x) a) (or_else_other (kept_written s BitwiseAnd (numeral x) a) (kept_written s BitwiseAnd a (numeral x)) (kept_there s BitwiseAnd x e h a))
kept_passes s BitwiseOr r x e t h a = absurd (true≢false (sym e))
kept_passes s o false x e t h a = absurd (true≢false (sym t))
kept_passes s o true x e t h a = absurd (true≢false (sym e))

whole_passes : (s : Seat) (r : Bool) (a : Tree) → is_int32 a ≡ true → is_some (written s (beside BitwiseOr r a (digit false))) ≡ true
whole_passes s true a e = later BitwiseOr (binary BitwiseOr a (digit false)) (wholes_written a (digit false)) (or_else_there (whole_written a (digit false)) (whole_written (digit false) a) (there (is_int32 a) a e))
whole_passes s false a e = later BitwiseOr (binary BitwiseOr (digit false) a) (wholes_written (digit false) a) (or_else_other (whole_written (digit false) a) (whole_written a (digit false)) (there (is_int32 a) a e))

-- ---- all

operands_row : (s : Seat) (n w : Tree) (o : BinaryOperator) → n ≡ binary o (part n 0) (part n 1) → operands_written s o n ≡ Some w → OperandRow (Expr s) n w
operands_row s n w Addition is e = sum_row s n w (part n 0) (part n 1) is e
operands_row s n w Equality is e = equal_row s n w true (part n 0) (part n 1) is e
operands_row s n w Inequality is e = equal_row s n w false (part n 0) (part n 1) is e
operands_row s n w BitwiseOr is e = WholeOrZero (wholes_row n w (part n 0) (part n 1) is e)
operands_row s n w BitwiseAnd is e = BitsWithZero (bits_row s n w BitwiseAnd refl (part n 0) (part n 1) is e)
operands_row s n w BitwiseXor is e = BitsWithZero (bits_row s n w BitwiseXor refl (part n 0) (part n 1) is e)
operands_row s n w ShiftLeft is e = BitsWithZero (kept_row s n w ShiftLeft true refl (part n 0) (part n 1) is e)
operands_row s n w ShiftRight is e = BitsWithZero (kept_row s n w ShiftRight true refl (part n 0) (part n 1) is e)
operands_row s n w o is e = nothing e

-- of operators
of_operator : (s : Seat) (n w : Tree) → OperatorRow s n w → OperandRow (Expr s) n w
of_operator s n w r = ByOperator r

binary_row : (s : Seat) (n w : Tree) (o : Option BinaryOperator) → binary_operator n ≡ o → binary_written s o n ≡ Some w → OperandRow (Expr s) n w
binary_row s n w None h e = nothing e
binary_row s n w (Some o) h e = go (operator_or s n w o (operands_written s o n) (binary_is n o h) e)
  where
    go : OperatorRow s n w ⊎ (operands_written s o n ≡ Some w) → OperandRow (Expr s) n w
    go (inl r) = of_operator s n w r
    go (inr f) = operands_row s n w o (binary_is n o h) f

written_is_row : (s : Seat) (n w : Tree) → written s n ≡ Some w → OperandRow (Expr s) n w
written_is_row s n w e = go (shape_of n) e
  where
    go : (h : Shape) → written_by h s n ≡ Some w → OperandRow (Expr s) n w
    go (shape.LogicalExpression o) f = MiddleOperand (logical_row s n w (logical_operator n) refl f)
    go (shape.BinaryExpression o) f = binary_row s n w (binary_operator n) refl f
    go (shape.UnaryExpression o) f = of_operator s n w (Deleted (delete_row n w (unary_operator n) refl f))
    go h f = nothing f

operator_passes : (s : Seat) (n w : Tree) → OperatorRow s n w → is_some (written s n) ≡ true
operator_passes s n w (Deleted r) = ap (λ t. is_some (written s t)) r.shape ∙ there (is_lone r.operand) (deleted r.operand) r.value
operator_passes s n w (SameTypes r) = ap (λ t. is_some (written s t)) r.shape ∙ same_there r.operator r.name r.equality (operands_written s r.operator (binary r.operator (unary Typeof (identifier r.name)) (unary Typeof (identifier r.name))))
operator_passes s n w (NeverType r) = ap (λ t. is_some (written s t)) r.shape ∙ never_there r.operator r.operand r.right r.equality r.known r.effect_free r.dropped (operands_written s r.operator (binary r.operator (unary Typeof r.operand) r.right))
operator_passes s n w (LeftPlus r) = ap (λ t. is_some (written s t)) r.shape ∙ left_there r.operator r.operand r.right r.number r.numeric r.known (operands_written s r.operator (binary r.operator (plus r.operand) r.right))
operator_passes s n w (RightPlus r) = ap (λ t. is_some (written s t)) r.shape ∙ right_there r.operator r.left r.operand r.numeric r.known (operands_written s r.operator (binary r.operator r.left (plus r.operand)))
operator_passes s n w (JoinedMasks r) = ap (λ t. is_some (written s t)) r.shape ∙ masks_there r.operator r.on_right r.operand r.first r.second r.joined r.bitwise r.known r.short (operands_written s r.operator (binary r.operator (with_number r.operator r.on_right r.operand r.first) (numeral r.second)))

passes : (s : Seat) (n w : Tree) → OperandRow (Expr s) n w → is_some (written s n) ≡ true
passes s n w (MiddleOperand r) = middle_passes s n w r
passes s n w (EmptyText r) = text_passes s n w r
passes s n w (BooleanBesideTruth r) = ap (λ t. is_some (written s t)) r.shape ∙ right_passes s r.equal r.truth r.operand
passes s n w (TruthBesideValue r) = ap (λ t. is_some (written s t)) r.shape ∙ beside_passes s r.equal r.truth r.on_right r.operand
passes s n w (JoinedTexts r) = joined_passes s n w r
passes s n w (BitsBesideZero r) = ap (λ t. is_some (written s t)) r.shape ∙ zero_passes_as s r.equal r.operand r.known
passes s n w (BitsWithZero r) = ap (λ t. is_some (written s t)) r.shape ∙ kept_passes s r.operator r.on_right r.number r.known r.sided r.seated r.operand
passes s n w (WholeOrZero r) = ap (λ t. is_some (written s t)) r.shape ∙ whole_passes s r.on_right r.operand r.known
passes s n w (ByOperator r) = operator_passes s n w r
passes s n w (ShiftAsked r) = ap (λ t. is_some (written s t)) r.shape ∙ shift_passes s r.operand r.known r.asked
passes s n w (ShiftEnclosed r) = ap (λ t. is_some (written s t)) r.shape ∙ enclosed_passes s r.equal r.operand r.known r.seated

unwritten_rests : (s : Seat) (n : Tree) → written s n ≡ None → Rests (Expr s) n
unwritten_rests s n e w r = true≢false (sym (passes s n w r) ∙ ap is_some e)

pub applied : (s : Seat) (t u : Tree) (b : Bool) → u ≡ unwrap_or (written s t) t → b ≡ is_some (written s t) → Applied Gives Rests (Expr s) t u b
applied s t u b e f = subst (λ v. Applied Gives Rests (Expr s) t v b) (sym e) (subst (Applied Gives Rests (Expr s) t (unwrap_or (written s t) t)) (sym f) (go (written s t) refl))
  where
    go : (o : Option Tree) → written s t ≡ o → Applied Gives Rests (Expr s) t (unwrap_or o t) (is_some o)
    go None h = (refl, unwritten_rests s t h)
    go (Some w) h = let row = written_is_row s t w h in moves_once Gives (Expr s) t w (record { row = row; lighter = lighter (Expr s) t w row })
