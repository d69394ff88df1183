-- What a row on operands whose value is known writes means the same.
use Rattle.std.proofs.Common.{◌≡◌, ℕ, ℤ, suc, Bool, true, false, List, [], ◌∷◌, ◌++◌, Option, Some, None, append_assoc, refl, sym, ap, subst, ◌∙◌, inl, inr, true≢false}
use Rattle.std.specs.Prelude.{not, ◌||◌, codes, pos, negsuc, nat_eq, ◌-◌}
use Rattle.std.specs.Fmt.{signed_decimal}
use Rattle.std.proofs.lemmas.List.{append-nil}
use Rattle.mini_model.specs.declared.operator.BinaryOperator.{BinaryOperator}
use Rattle.mini_model.specs.declared.operator.BinaryOperator.TheVariants.{Addition, BitwiseAnd, BitwiseXor, BitwiseOr, ShiftLeft, ShiftRight}
use Rattle.mini_model.specs.declared.operator.UnaryOperator.TheVariants.{BitwiseNot}
use Rattle.mini_model.specs.declared.place.Position.{Position}
use Rattle.mini_model.specs.declared.place.Position.TheVariants.{Expr}
use Rattle.mini_model.specs.declared.seat.Seat.{Seat}
use Rattle.mini_model.specs.declared.shape.Shape.TheVariants as shape
use Rattle.mini_model.specs.Tree.{Tree, none, ◌▸◌, unary, logical, negation, null_literal, identifier, unresolved}
use Rattle.mini_model.specs.Position.{right_operand_seat, child_position}
use Rattle.mini_node.specs.Children.{part}
use Rattle.mini_model.specs.Rewriting.{Step, here, inside, first, later}
use Rattle.mini_laws.specs.Value.{Value, Undefined, Null, Boolean, Number, String, Symbol, Object, truth}
use Rattle.mini_laws.specs.State.{ForDefault, Coerce, Item, State, Completion, ok, stop, halt, out, either, Environment}
use Rattle.mini_laws.specs.Demand.{Val, Test, As}
use Rattle.mini_laws.specs.Command.{is_object, Naming, Command, ret, bind, emit, Kids, run}
use Rattle.mini_laws.specs.Naming.{summary, summaries, naming}
use Rattle.mini_laws.specs.Conversion.{Made, makes, raises, outside, to_text}
use Rattle.mini_laws.specs.Operators.{same_boolean, loosely_equal, joined, of_primitives, of_numbers, of_number, modulo_32}
use Rattle.mini_laws.specs.Replies.{reply, primitive, numeric, raise, of_made, of_option}
use Rattle.mini_laws.specs.Replies as replies
use Rattle.mini_laws.specs.Expressions.{operate_by}
use Rattle.mini_laws.specs.Step.{step, means, meaning}
use Rattle.mini_laws.specs.Rows.{SameAt}
use Rattle.mini_laws.specs.Rewritten.{MeansSame}
use Rattle.mini_laws.specs.Truth.{told}
use Rattle.mini_laws.proofs.Rewritten.{any_step_same}
use Rattle.mini_laws.proofs.Rows.{by_equality}
use Rattle.mini_laws.proofs.Runs.{either_cong, either_assoc, either_eta, either_ok, either_stop, either_out, runs, run_bind}
use Rattle.mini_laws.proofs.Truth.{coherent}
use Rattle.mini_terms.specs.declared.kinds.Kind.TheVariants.{Boolean as IsBoolean, Number as IsNumber, String as IsString}
use Rattle.mini_terms.specs.Kind.{kind, OfKind}
use Rattle.mini_terms.specs.Reading.{SameWanted, stands, is_plain_part}
use Rattle.mini_terms.specs.Sound.{Gives}
use Rattle.mini_terms.proofs.Dropping.{after_cong}
use Rattle.mini_terms.proofs.KindTable.{kind_sound}
use Rattle.mini_terms.proofs.Opened.{negation_opened}
use Rattle.mini_terms.proofs.Reading.{same_in_seat}
use Rattle.mini_rows.specs.Booleans.{digit}
use Rattle.mini_rows.specs.Choices.{loosely}
use Rattle.mini_rows.specs.Folding.{Row13}
use Rattle.mini_rows.specs.Operands.{is_shifted, beside, told_by, is_bits, keeps_bits, zero_told, Row14, Row7, Row29, OperandRow, OperandContracts, MiddleOperand, EmptyText, BooleanBesideTruth, TruthBesideValue, JoinedTexts, BitsBesideZero, BitsWithZero, WholeOrZero, ByOperator, ShiftAsked, ShiftEnclosed}
use Rattle.mini_rows.specs.Spellings.{binary, negated_digit, numeral, text}
use Rattle.mini_rows.proofs.BooleanMeaning.{then_same, asked_truth}
use Rattle.mini_rows.proofs.ChoiceMeaning.{rotated_same}
use Rattle.mini_rows.proofs.ChoiceRuns.{value, null_value, undefined_value, binary_value, binary_names, sides, raise_free, primitive_free, bind_free, numeric_free, made_free}
use Rattle.mini_rows.proofs.BitNumbers.{whole, IsWhole, keeps_is, signed_whole, operated_whole}
use Rattle.mini_rows.proofs.ConversionRuns.{after_boolean}
use Rattle.mini_rows.proofs.FoldMeaning.{plain_of, value_of, plain_read, passed_same, passed_read}
use Rattle.mini_rows.proofs.OperandForms.{Tail, of_text, tail_form, shifted_form, shifted_plain, shifted_number, bits_number, bits_plain, is_int32_operator, Int32, inverts, operates, int32_form, int32_plain}
use Rattle.mini_rows.proofs.OperandForms as form
use Rattle.mini_rows.specs.Operators.{is_bitwise}
use Rattle.mini_rows.proofs.OperatorMeaning.{operator_same, operator_read, turned_alike}
use Rattle.mini_rows.proofs.SpellAlike.{SameTree, Alike, bind_alike, choose_alike}
use Rattle.mini_rows.proofs.SequenceMeaning.{same_value}
use Rattle.mini_rows.proofs.SpellMeaning.{tree_same, same_by}

-- ---- 14

-- a row 13 below
abbrev Passed : Position → Tree → Tree → Type 0
Passed (Expr s) n w = Row13 s n w
Passed p n w = ⊥

passed_at : (p : Position) (n w : Tree) → Passed p n w → SameAt p n w
passed_at (Expr s) n w r = passed_same s n w r
passed_at p n w r = absurd r

read_at : (p : Position) (n w : Tree) → Passed p n w → summary n ≡ summary w
read_at (Expr s) n w r = passed_read s n w r
read_at p n w r = absurd r

passed_means : MeansSame Passed
passed_means = record { same = passed_at; reads = read_at }

middle_same : (s : Seat) (n w : Tree) → Row14 s n w → SameAt (Expr s) n w
middle_same s n w r =
    let o = r.operator in
    let nested : Tree = logical o r.left (logical o r.middle r.right) in
    let whole : Tree = logical o (logical o r.left r.middle) r.right in
    let made : Tree = logical o r.left r.right in
    let inner : Row13 (right_operand_seat o s) (logical o r.middle r.right) r.right = record { operator = o; left = r.middle; right = r.right; known = r.known; effect_free = r.effect_free; dropped = r.dropped; heavy = r.heavy; stays = r.stays; shape = refl; written = refl } in
    let step : Step Passed (Expr s) nested made =
    inside (Expr s) (shape.LogicalExpression o) [] 0 (r.left ▸ logical o r.middle r.right ▸ none) (r.left ▸ r.right ▸ none)
    (later (child_position (shape.LogicalExpression o) (Expr s) 2) r.left (logical o r.middle r.right ▸ none) (r.right ▸ none)
    (first (λ i. child_position (shape.LogicalExpression o) (Expr s) 2 (suc i)) (logical o r.middle r.right) r.right none (here (Expr (right_operand_seat o s)) (logical o r.middle r.right) r.right inner))) in
    subst (λ t. SameAt (Expr s) t w) (sym r.shape) (subst (SameAt (Expr s) whole) (sym r.written)
    (then_same (Expr s) whole nested made (tree_same s whole nested (turned (rotated_same o r.left r.middle r.right none))) (any_step_same Passed passed_means (Expr s) nested made step)))
  where
    turned : {a b : Tree} → SameTree a b → SameTree b a
    turned h = record { by = λ e q x z. sym (h.by e q x z); read = sym h.read }

-- ---- by values alone

wanted_by : (n w : Tree) → ((e : Environment) (s : State) → value e n s ≡ value e w s) → SameWanted n w
wanted_by n w h e D X u = by_equality e D X (As u) n w (λ r s. coherent n u e s ∙ ap (told u) (h e s) ∙ sym (coherent w u e s))

-- what follows both operands
abbrev ends_with : Environment → BinaryOperator → Tree → Tree → Value → Value → State → Completion Value
ends_with e o a b v u y = run {q = λ i. As Val} e (binary_names o a b) (sides e a b) (operate_by o v u) y

-- ---- 7

empty_value : (e : Environment) (z : State) → value e (text []) z ≡ ok (String []) z
unfolding means step
empty_value e z = refl

right_empty : (e : Environment) (a : Tree) (v : Value) → OfKind IsString v → (z : State) → ends_with e Addition a (text []) v (String []) z ≡ ok v z
right_empty e a (String t) p z = ap (λ r. ok (String r) z) (append-nil t)
right_empty e a v p z = absurd p

left_empty : (e : Environment) (a : Tree) (v : Value) → OfKind IsString v → (z : State) → ends_with e Addition (text []) a (String []) v z ≡ ok v z
left_empty e a (String t) p z = refl
left_empty e a v p z = absurd p

text_value : (on_right : Bool) (a : Tree) → kind a ≡ IsString → (e : Environment) (s : State) → value e (beside Addition on_right a (text [])) s ≡ value e a s
text_value true a k e s =
    binary_value e Addition a (text []) s
    ∙ after_cong (OfKind IsString) (value e a s) _ (λ v z. ok v z) (subst (λ j. Gives (OfKind j) (value e a s)) k (kind_sound a e s))
    (λ v p z. ap (λ y. either y (λ u y. ends_with e Addition a (text []) v u y) (λ x y. stop x y)) (empty_value e z) ∙ either_ok (String []) z _ _ ∙ right_empty e a v p z)
    ∙ either_eta (value e a s)
text_value false a k e s =
    binary_value e Addition (text []) a s
    ∙ ap (λ y. either y (λ v z. either (value e a z) (λ u y. ends_with e Addition (text []) a v u y) (λ x y. stop x y)) (λ x z. stop x z)) (empty_value e s)
    ∙ either_ok (String []) s _ _
    ∙ after_cong (OfKind IsString) (value e a s) _ (λ v z. ok v z) (subst (λ j. Gives (OfKind j) (value e a s)) k (kind_sound a e s)) (λ v p z. left_empty e a v p z)
    ∙ either_eta (value e a s)

text_same : (s : Seat) (n w : Tree) → Row7 s n w → SameAt (Expr s) n w
text_same s n w r = onto r.on_right r.shape
  where
    onto : (b : Bool) → n ≡ beside Addition b r.operand (text []) → SameAt (Expr s) n w
    onto true e = subst (λ t. SameAt (Expr s) t w) (sym e) (subst (SameAt (Expr s) (binary Addition r.operand (text []))) (sym r.written) (same_in_seat s (binary Addition r.operand (text [])) r.operand refl (value_of s r.operand r.stays) (wanted_by _ _ (text_value true r.operand r.known))))
    onto false e = subst (λ t. SameAt (Expr s) t w) (sym e) (subst (SameAt (Expr s) (binary Addition (text []) r.operand)) (sym r.written) (same_in_seat s (binary Addition (text []) r.operand) r.operand refl (value_of s r.operand r.stays) (wanted_by _ _ (text_value false r.operand r.known))))

-- ---- 29

boolean_value : (c : Bool) (e : Environment) (z : State) → value e (negated_digit c) z ≡ ok (Boolean c) z
unfolding means meaning step either
boolean_value true e z = refl
boolean_value false e z = refl

abbrev told_of : Bool → Value → Value
told_of true v = v
told_of false v = Boolean (not (truth v))

compared : (e : Environment) (equal c : Bool) (a : Tree) (v : Value) → OfKind IsBoolean v → (z : State) → ends_with e (loosely equal) a (negated_digit c) v (Boolean c) z ≡ ok (told_of (same_boolean equal c) v) z
compared e true true a (Boolean true) p z = refl
compared e true true a (Boolean false) p z = refl
compared e true false a (Boolean true) p z = refl
compared e true false a (Boolean false) p z = refl
compared e false true a (Boolean true) p z = refl
compared e false true a (Boolean false) p z = refl
compared e false false a (Boolean true) p z = refl
compared e false false a (Boolean false) p z = refl
compared e equal c a v p z = absurd p

told_value : (t : Bool) (a : Tree) (e : Environment) (s : State) → either (value e a s) (λ v z. ok (told_of t v) z) (λ x z. stop x z) ≡ value e (told_by t a) s
told_value true a e s = either_eta (value e a s)
told_value false a e s = sym (negation_opened e a s)

equal_value : (equal c : Bool) (a : Tree) → kind a ≡ IsBoolean → (e : Environment) (s : State) → value e (binary (loosely equal) a (negated_digit c)) s ≡ value e (told_by (same_boolean equal c) a) s
equal_value equal c a k e s =
    binary_value e (loosely equal) a (negated_digit c) s
    ∙ after_cong (OfKind IsBoolean) (value e a s) _ (λ v z. ok (told_of (same_boolean equal c) v) z) (subst (λ j. Gives (OfKind j) (value e a s)) k (kind_sound a e s))
    (λ v p z. ap (λ y. either y (λ u y. ends_with e (loosely equal) a (negated_digit c) v u y) (λ x y. stop x y)) (boolean_value c e z) ∙ either_ok (Boolean c) z _ _ ∙ compared e equal c a v p z)
    ∙ told_value (same_boolean equal c) a e s

equal_same : (s : Seat) (n w : Tree) → Row29 s n w → SameAt (Expr s) n w
equal_same s n w r =
    subst (λ t. SameAt (Expr s) t w) (sym r.shape) (subst (SameAt (Expr s) (binary (loosely r.equal) r.operand (negated_digit r.truth))) (sym r.written)
    (same_in_seat s (binary (loosely r.equal) r.operand (negated_digit r.truth)) (told_by (same_boolean r.equal r.truth) r.operand) refl (value_of s (told_by (same_boolean r.equal r.truth) r.operand) r.stays) (wanted_by _ _ (equal_value r.equal r.truth r.operand r.known))))

-- ---- 30

-- a boolean counts as its number
abbrev counts : Bool → Value
counts true = Number (pos 1)
counts false = Number (pos 0)

digit_value : (c : Bool) (e : Environment) (z : State) → value e (digit c) z ≡ ok (counts c) z
unfolding means meaning step either
digit_value true e z = refl
digit_value false e z = refl

module _ (e : Environment) (names : Naming) (K L : Kids (λ i. As Val)) where
  abbrev Both : {A : Type 0} → Command (λ i. As Val) A → Command (λ i. As Val) A → Type 0
  Both c d = Alike e names (λ i. As Val) K L c d

  made_primitive : (v : Value) → Both (primitive ForDefault v) (primitive ForDefault v)
  made_primitive v = choose_alike e names (λ i. As Val) K L (is_object v) (emit (Coerce ForDefault) (Item v ∷ [])) (ret v) (emit (Coerce ForDefault) (Item v ∷ [])) (ret v) (λ z. refl) (λ z. refl)

  optional : (o : Option Bool) → Both (of_option o) (of_option o)
  optional (Some b) z = refl
  optional None z = refl

  right_counted : (c : Bool) (v : Value) → Both (replies.loosely v (Boolean c)) (replies.loosely v (counts c))
  right_counted true Undefined = λ z. refl
  right_counted false Undefined = λ z. refl
  right_counted true Null = λ z. refl
  right_counted false Null = λ z. refl
  right_counted true (Object m f) = bind_alike e names (λ i. As Val) K L (primitive ForDefault (Object m f)) (primitive ForDefault (Object m f)) (λ x. bind (primitive ForDefault (Boolean true)) (λ y. of_option (loosely_equal x y))) (λ x. bind (primitive ForDefault (Number (pos 1))) (λ y. of_option (loosely_equal x y))) (made_primitive (Object m f)) (λ x. optional (loosely_equal x (Boolean true)))
  right_counted false (Object m f) = bind_alike e names (λ i. As Val) K L (primitive ForDefault (Object m f)) (primitive ForDefault (Object m f)) (λ x. bind (primitive ForDefault (Boolean false)) (λ y. of_option (loosely_equal x y))) (λ x. bind (primitive ForDefault (Number (pos 0))) (λ y. of_option (loosely_equal x y))) (made_primitive (Object m f)) (λ x. optional (loosely_equal x (Boolean false)))
  right_counted true (Boolean b) = optional (loosely_equal (Boolean b) (Boolean true))
  right_counted false (Boolean b) = optional (loosely_equal (Boolean b) (Boolean false))
  right_counted true (Number m) = optional (loosely_equal (Number m) (Boolean true))
  right_counted false (Number m) = optional (loosely_equal (Number m) (Boolean false))
  right_counted true (String t) = optional (loosely_equal (String t) (Boolean true))
  right_counted false (String t) = optional (loosely_equal (String t) (Boolean false))
  right_counted true (Symbol n) = optional (loosely_equal (Symbol n) (Boolean true))
  right_counted false (Symbol n) = optional (loosely_equal (Symbol n) (Boolean false))

  left_counted : (c : Bool) (v : Value) → Both (replies.loosely (Boolean c) v) (replies.loosely (counts c) v)
  left_counted true Undefined = λ z. refl
  left_counted false Undefined = λ z. refl
  left_counted true Null = λ z. refl
  left_counted false Null = λ z. refl
  left_counted true (Object m f) = bind_alike e names (λ i. As Val) K L (primitive ForDefault (Object m f)) (primitive ForDefault (Object m f)) (λ y. of_option (loosely_equal (Boolean true) y)) (λ y. of_option (loosely_equal (Number (pos 1)) y)) (made_primitive (Object m f)) (λ y. optional (loosely_equal (Boolean true) y))
  left_counted false (Object m f) = bind_alike e names (λ i. As Val) K L (primitive ForDefault (Object m f)) (primitive ForDefault (Object m f)) (λ y. of_option (loosely_equal (Boolean false) y)) (λ y. of_option (loosely_equal (Number (pos 0)) y)) (made_primitive (Object m f)) (λ y. optional (loosely_equal (Boolean false) y))
  left_counted true (Boolean b) = optional (loosely_equal (Boolean true) (Boolean b))
  left_counted false (Boolean b) = optional (loosely_equal (Boolean false) (Boolean b))
  left_counted true (Number m) = optional (loosely_equal (Boolean true) (Number m))
  left_counted false (Number m) = optional (loosely_equal (Boolean false) (Number m))
  left_counted true (String t) = optional (loosely_equal (Boolean true) (String t))
  left_counted false (String t) = optional (loosely_equal (Boolean false) (String t))
  left_counted true (Symbol n) = optional (loosely_equal (Boolean true) (Symbol n))
  left_counted false (Symbol n) = optional (loosely_equal (Boolean false) (Symbol n))

  -- so the equality says the same, and the inequality
  says : (equal : Bool) (v u x y : Value) → Both (replies.loosely v u) (replies.loosely x y) → Both (operate_by (loosely equal) v u) (operate_by (loosely equal) x y)
  says true v u x y h = bind_alike e names (λ i. As Val) K L (replies.loosely v u) (replies.loosely x y) (λ c. ret (Boolean c)) (λ c. ret (Boolean c)) h (λ c z. refl)
  says false v u x y h = bind_alike e names (λ i. As Val) K L (replies.loosely v u) (replies.loosely x y) (λ c. ret (Boolean (not c))) (λ c. ret (Boolean (not c))) h (λ c z. refl)

module _ (e : Environment) (o : BinaryOperator) (a k d : Tree) (u w : Value) (known : (z : State) → value e k z ≡ ok u z) (other : (z : State) → value e d z ≡ ok w z) where
  -- an operand of another value on the right, where the operator makes the same of both
  right_value : ((v : Value) (z : State) → ends_with e o a k v u z ≡ ends_with e o a d v w z) → (s : State) → value e (binary o a k) s ≡ value e (binary o a d) s
  right_value h s =
      binary_value e o a k s
      ∙ either_cong (value e a s) _ _ _ _ (λ v z. ap (λ y. either y (λ u y. ends_with e o a k v u y) (λ x y. stop x y)) (known z) ∙ either_ok u z _ _ ∙ h v z ∙ sym (ap (λ y. either y (λ u y. ends_with e o a d v u y) (λ x y. stop x y)) (other z) ∙ either_ok w z _ _)) (λ x z. refl)
      ∙ sym (binary_value e o a d s)

  left_value : ((v : Value) (z : State) → ends_with e o k a u v z ≡ ends_with e o d a w v z) → (s : State) → value e (binary o k a) s ≡ value e (binary o d a) s
  left_value h s =
      binary_value e o k a s
      ∙ ap (λ y. either y (λ v z. either (value e a z) (λ u y. ends_with e o k a v u y) (λ x y. stop x y)) (λ x z. stop x z)) (known s)
      ∙ either_ok u s _ _
      ∙ either_cong (value e a s) _ _ _ _ (λ v z. h v z) (λ x z. refl)
      ∙ sym (binary_value e o d a s ∙ ap (λ y. either y (λ v z. either (value e a z) (λ u y. ends_with e o d a v u y) (λ x y. stop x y)) (λ x z. stop x z)) (other s) ∙ either_ok w s _ _)

counted_value : (equal c on_right : Bool) (a : Tree) (e : Environment) (s : State) → value e (beside (loosely equal) on_right a (negated_digit c)) s ≡ value e (beside (loosely equal) on_right a (digit c)) s
counted_value equal true true a e s = right_value e (loosely equal) a (negated_digit true) (digit true) (Boolean true) (Number (pos 1)) (boolean_value true e) (digit_value true e) (λ v z. says e (binary_names (loosely equal) a (digit true)) (sides e a (negated_digit true)) (sides e a (digit true)) equal v (Boolean true) v (Number (pos 1)) (right_counted e (binary_names (loosely equal) a (digit true)) (sides e a (negated_digit true)) (sides e a (digit true)) true v) z) s
counted_value equal false true a e s = right_value e (loosely equal) a (negated_digit false) (digit false) (Boolean false) (Number (pos 0)) (boolean_value false e) (digit_value false e) (λ v z. says e (binary_names (loosely equal) a (digit false)) (sides e a (negated_digit false)) (sides e a (digit false)) equal v (Boolean false) v (Number (pos 0)) (right_counted e (binary_names (loosely equal) a (digit false)) (sides e a (negated_digit false)) (sides e a (digit false)) false v) z) s
counted_value equal true false a e s = left_value e (loosely equal) a (negated_digit true) (digit true) (Boolean true) (Number (pos 1)) (boolean_value true e) (digit_value true e) (λ v z. says e (binary_names (loosely equal) (digit true) a) (sides e (negated_digit true) a) (sides e (digit true) a) equal (Boolean true) v (Number (pos 1)) v (left_counted e (binary_names (loosely equal) (digit true) a) (sides e (negated_digit true) a) (sides e (digit true) a) true v) z) s
counted_value equal false false a e s = left_value e (loosely equal) a (negated_digit false) (digit false) (Boolean false) (Number (pos 0)) (boolean_value false e) (digit_value false e) (λ v z. says e (binary_names (loosely equal) (digit false) a) (sides e (negated_digit false) a) (sides e (digit false) a) equal (Boolean false) v (Number (pos 0)) v (left_counted e (binary_names (loosely equal) (digit false) a) (sides e (negated_digit false) a) (sides e (digit false) a) false v) z) s

counted_alike : (equal c on_right : Bool) (a : Tree) → SameTree (beside (loosely equal) on_right a (negated_digit c)) (beside (loosely equal) on_right a (digit c))
counted_alike equal c true a = same_value _ _ refl refl refl (counted_value equal c true a)
counted_alike equal c false a = same_value _ _ refl refl refl (counted_value equal c false a)

-- ---- 4

-- what `+` makes of a value and a text
with_text : (x : Value) (r : List ℕ) → of_primitives Addition x (String r) ≡ joined (to_text x) (makes r)
with_text Undefined r = refl
with_text Null r = refl
with_text (Boolean b) r = refl
with_text (Number m) r = refl
with_text (String p) r = refl
with_text (Symbol m) r = refl
with_text (Object m f) r = refl

module _ (e : Environment) (m n : Naming) (K L : Kids (λ i. As Val)) (s t : List ℕ) (then_text : Value → State → Completion Value) (later : (r : List ℕ) (z : State) → then_text (String r) z ≡ ok (String (r ++ t)) z) where
  raised : (z : State) → either (run {q = λ i. As Val} e m K (raise {A = Value}) z) then_text (λ x y. stop x y) ≡ run {q = λ i. As Val} e n L (raise {A = Value}) z
  raised z = simp runs (raise_free e m n (λ i. As Val) (λ i. As Val) K L z)

  made_later : (x : Made (List ℕ)) (z : State) → either (run {q = λ i. As Val} e m K (of_made (joined x (makes s))) z) then_text (λ x y. stop x y) ≡ run {q = λ i. As Val} e n L (of_made (joined x (makes (s ++ t)))) z
  made_later (makes p) z = either_ok (String (p ++ s)) z _ _ ∙ later (p ++ s) z ∙ ap (λ r. ok (String r) z) (append_assoc p s t)
  made_later raises z = raised z
  made_later outside z = either_out then_text (λ x y. stop x y)

  primitive_later : (x : Value) (z : State) → either (run {q = λ i. As Val} e m K (of_made (of_primitives Addition x (String s))) z) then_text (λ x y. stop x y) ≡ run {q = λ i. As Val} e n L (of_made (of_primitives Addition x (String (s ++ t)))) z
  primitive_later x z =
      ap (λ c. either (run {q = λ i. As Val} e m K (of_made c) z) then_text (λ x y. stop x y)) (with_text x s)
      ∙ made_later (to_text x) z
      ∙ sym (ap (λ c. run {q = λ i. As Val} e n L (of_made c) z) (with_text x (s ++ t)))

  pub added_twice : (v : Value) (z : State) → either (run {q = λ i. As Val} e m K (operate_by Addition v (String s)) z) then_text (λ x y. stop x y) ≡ run {q = λ i. As Val} e n L (operate_by Addition v (String (s ++ t))) z
  added_twice v z =
      ap (λ c. either c then_text (λ x y. stop x y)) (run_bind e m (primitive ForDefault v) (λ x. of_made (of_primitives Addition x (String s))) K z)
      ∙ either_assoc (run {q = λ i. As Val} e m K (primitive ForDefault v) z) _ _ _ _
      ∙ either_cong (run {q = λ i. As Val} e m K (primitive ForDefault v) z) _ (λ x y. run {q = λ i. As Val} e n L (of_made (of_primitives Addition x (String (s ++ t)))) y) _ (λ x y. stop x y) primitive_later (λ x y. either_stop x y _ _)
      ∙ ap (λ c. either c (λ x y. run {q = λ i. As Val} e n L (of_made (of_primitives Addition x (String (s ++ t)))) y) (λ x y. stop x y)) (primitive_free e m n (λ i. As Val) (λ i. As Val) K L ForDefault v z)
      ∙ sym (run_bind e n (primitive ForDefault v) (λ x. of_made (of_primitives Addition x (String (s ++ t)))) L z)

pub text_value_is : (t : List ℕ) (e : Environment) (z : State) → value e (text t) z ≡ ok (String t) z
unfolding means step
text_value_is t e z = refl

pub number_value : (m : ℤ) (e : Environment) (z : State) → value e (numeral m) z ≡ ok (Number m) z
unfolding means step
number_value m e z = refl

abbrev sum_of : Tree → List ℕ → Tree
sum_of a s = binary Addition a (text s)

module _ (e : Environment) (a : Tree) (s t : List ℕ) (k : Tree) (u : Value) (known : (z : State) → value e k z ≡ ok u z) (later : (r : List ℕ) (z : State) → ends_with e Addition (sum_of a s) k (String r) u z ≡ ok (String (r ++ t)) z) where
  -- what the sum of an expression and a text is
  sum_value : (r : List ℕ) (z : State) → value e (sum_of a r) z ≡ either (value e a z) (λ v y. ends_with e Addition a (text r) v (String r) y) (λ x y. stop x y)
  sum_value r z =
      binary_value e Addition a (text r) z
      ∙ either_cong (value e a z) _ _ _ _ (λ v y. ap (λ c. either c (λ w y. ends_with e Addition a (text r) v w y) (λ x y. stop x y)) (text_value_is r e y) ∙ either_ok (String r) y _ _) (λ x y. refl)

  pub joined_value : (z : State) → value e (binary Addition (sum_of a s) k) z ≡ value e (sum_of a (s ++ t)) z
  joined_value z =
      binary_value e Addition (sum_of a s) k z
      ∙ either_cong (value e (sum_of a s) z) _ (λ v y. ends_with e Addition (sum_of a s) k v u y) _ (λ x y. stop x y) (λ v y. ap (λ c. either c (λ w y. ends_with e Addition (sum_of a s) k v w y) (λ x y. stop x y)) (known y) ∙ either_ok u y _ _) (λ x y. refl)
      ∙ ap (λ c. either c (λ v y. ends_with e Addition (sum_of a s) k v u y) (λ x y. stop x y)) (sum_value s z)
      ∙ either_assoc (value e a z) _ _ _ _
      ∙ either_cong (value e a z) _ (λ v y. ends_with e Addition a (text (s ++ t)) v (String (s ++ t)) y) _ (λ x y. stop x y) (λ v y. added_twice e (binary_names Addition a (text s)) (binary_names Addition a (text (s ++ t))) (sides e a (text s)) (sides e a (text (s ++ t))) s t (λ r y. ends_with e Addition (sum_of a s) k r u y) later v y) (λ x y. either_stop x y _ _)
      ∙ sym (sum_value (s ++ t) z)

tail_value : (a : Tree) (s : List ℕ) (k : Tree) (t : List ℕ) → Tail k t → (e : Environment) (z : State) → value e (binary Addition (sum_of a s) k) z ≡ value e (sum_of a (s ++ t)) z
tail_value a s k t (of_text is) e z = ap (λ x. value e (binary Addition (sum_of a s) x) z) is ∙ joined_value e a s t (text t) (String t) (text_value_is t e) (λ r y. refl) z
tail_value a s k t (form.of_number m is same) e z =
    ap (λ x. value e (binary Addition (sum_of a s) x) z) is
    ∙ joined_value e a s (signed_decimal m) (numeral m) (Number m) (number_value m e) (λ r y. refl) z
    ∙ ap (λ r. value e (sum_of a (s ++ r)) z) same
tail_value a s k t (form.of_null is same) e z =
    ap (λ x. value e (binary Addition (sum_of a s) x) z) is
    ∙ joined_value e a s (codes "null") null_literal Null (null_value e) (λ r y. refl) z
    ∙ ap (λ r. value e (sum_of a (s ++ r)) z) same
tail_value a s k t (form.of_undefined is same) e z =
    ap (λ x. value e (binary Addition (sum_of a s) x) z) is
    ∙ joined_value e a s (codes "undefined") (identifier (unresolved (codes "undefined"))) Undefined (undefined_value e (identifier (unresolved (codes "undefined"))) (inl refl)) (λ r y. refl) z
    ∙ ap (λ r. value e (sum_of a (s ++ r)) z) same

joined_alike : (a : Tree) (s : List ℕ) (k : Tree) (t : List ℕ) → Tail k t → SameTree (binary Addition (sum_of a s) k) (sum_of a (s ++ t))
joined_alike a s k t h = same_value _ _ refl refl refl (λ e z. tail_value a s k t h e z)

-- ---- 27

abbrev zero_of : Bool → Value → Value
zero_of true v = Boolean (not (truth v))
zero_of false v = Boolean (not (not (truth v)))

twice : (b : Bool) → not (not b) ≡ b
twice true = refl
twice false = refl

is_zero : (e : Environment) (equal : Bool) (a : Tree) (v : Value) → OfKind IsNumber v → (z : State) → ends_with e (loosely equal) a (digit false) v (Number (pos 0)) z ≡ ok (zero_of equal v) z
is_zero e true a (Number (pos m)) p z = ap (λ b. ok (Boolean b) z) (sym (twice (nat_eq m 0)))
is_zero e false a (Number (pos m)) p z = ap (λ b. ok (Boolean b) z) (sym (twice (not (nat_eq m 0))))
is_zero e true a (Number (negsuc m)) p z = refl
is_zero e false a (Number (negsuc m)) p z = refl
is_zero e equal a v p z = absurd p

zero_told_value : (equal : Bool) (a : Tree) (e : Environment) (s : State) → either (value e a s) (λ v z. ok (zero_of equal v) z) (λ x z. stop x z) ≡ value e (zero_told equal a) s
zero_told_value true a e s = sym (negation_opened e a s)
zero_told_value false a e s = sym (negation_opened e (negation a) s ∙ ap (λ x. either x (λ v z. ok (Boolean (not (truth v))) z) (λ x z. stop x z)) (negation_opened e a s) ∙ after_boolean (value e a s) (λ v. not (truth v)) (λ v z. ok (Boolean (not (truth v))) z))

zero_value : (equal : Bool) (a : Tree) → kind a ≡ IsNumber → (e : Environment) (s : State) → value e (binary (loosely equal) a (digit false)) s ≡ value e (zero_told equal a) s
zero_value equal a k e s =
    binary_value e (loosely equal) a (digit false) s
    ∙ after_cong (OfKind IsNumber) (value e a s) _ (λ v z. ok (zero_of equal v) z) (subst (λ j. Gives (OfKind j) (value e a s)) k (kind_sound a e s))
    (λ v p z. ap (λ y. either y (λ u y. ends_with e (loosely equal) a (digit false) v u y) (λ x y. stop x y)) (digit_value false e z) ∙ either_ok (Number (pos 0)) z _ _ ∙ is_zero e equal a v p z)
    ∙ zero_told_value equal a e s

zero_read : (equal : Bool) (a : Tree) → is_plain_part a ≡ true → summary (binary (loosely equal) a (digit false)) ≡ summary (zero_told equal a)
zero_read true a h = sym (plain_read (negation a) h)
zero_read false a h = sym (plain_read (negation (negation a)) h)

zero_stands : (equal : Bool) (a : Tree) → stands (zero_told equal a) ≡ true
zero_stands true a = refl
zero_stands false a = refl

zero_alike : (equal : Bool) (a : Tree) → is_bits a ≡ true → SameTree (binary (loosely equal) a (digit false)) (zero_told equal a)
zero_alike equal a h = same_value _ _ refl (zero_stands equal a) (zero_read equal a (bits_plain a h)) (zero_value equal a (bits_number a h))

enclosed_alike : (equal : Bool) (a : Tree) → is_shifted a ≡ true → SameTree (binary (loosely equal) a (digit false)) (zero_told equal a)
enclosed_alike equal a h = same_value _ _ refl (zero_stands equal a) (zero_read equal a (shifted_plain a (shifted_form a h))) (zero_value equal a (shifted_number a h))

-- ---- 31

module _ (e : Environment) (m n : Naming) (K L : Kids (λ i. As Val)) where
  -- what an operator of two numbers makes of any value and a number
  beside_number : (o p : BinaryOperator) (x y : ℤ) → ((a : ℤ) → of_numbers o a x ≡ of_numbers p a y) → (v : Value) (z : State) → run {q = λ i. As Val} e m K (bind (numeric v) (λ a. of_made (of_numbers o a x))) z ≡ run {q = λ i. As Val} e n L (bind (numeric v) (λ a. of_made (of_numbers p a y))) z
  beside_number o p x y h v z =
      bind_free e m n (λ i. As Val) (λ i. As Val) K L (numeric v) (numeric v) (λ a. of_made (of_numbers o a x)) (λ a. of_made (of_numbers p a y)) (numeric_free e m n (λ i. As Val) (λ i. As Val) K L v)
      (λ a y'. made_free e m n (λ i. As Val) (λ i. As Val) K L (of_numbers o a x) y' ∙ ap (λ c. run {q = λ i. As Val} e n L (of_made c) y') (h a)) z

  kept_bits : (o : BinaryOperator) (x : ℤ) → keeps_bits o x ≡ true → (v : Value) (z : State) → run {q = λ i. As Val} e m K (operate_by o v (Number x)) z ≡ run {q = λ i. As Val} e n L (operate_by BitwiseOr v (Number (pos 0))) z
  kept_bits ShiftLeft x h v z = beside_number ShiftLeft BitwiseOr x (pos 0) (λ a. keeps_is ShiftLeft x a h) v z
  kept_bits ShiftRight x h v z = beside_number ShiftRight BitwiseOr x (pos 0) (λ a. keeps_is ShiftRight x a h) v z
  kept_bits BitwiseXor x h v z = beside_number BitwiseXor BitwiseOr x (pos 0) (λ a. keeps_is BitwiseXor x a h) v z
  kept_bits BitwiseAnd x h v z = beside_number BitwiseAnd BitwiseOr x (pos 0) (λ a. keeps_is BitwiseAnd x a h) v z
  kept_bits o x h v z = absurd (true≢false (sym h))

-- an operator of a value and a literal
literal_last : (e : Environment) (o : BinaryOperator) (a k : Tree) (u : Value) → ((z : State) → value e k z ≡ ok u z) → (s : State) → value e (binary o a k) s ≡ either (value e a s) (λ v z. ends_with e o a k v u z) (λ x z. stop x z)
literal_last e o a k u known s =
    binary_value e o a k s
    ∙ either_cong (value e a s) _ _ _ _ (λ v z. ap (λ c. either c (λ w y. ends_with e o a k v w y) (λ x y. stop x y)) (known z) ∙ either_ok u z _ _) (λ x z. refl)

kept_value : (o : BinaryOperator) (x : ℤ) → keeps_bits o x ≡ true → (a : Tree) (e : Environment) (s : State) → value e (binary o a (numeral x)) s ≡ value e (binary BitwiseOr a (digit false)) s
kept_value o x h a e s =
    literal_last e o a (numeral x) (Number x) (number_value x e) s
    ∙ either_cong (value e a s) _ _ _ _ (λ v z. kept_bits e (binary_names o a (numeral x)) (binary_names BitwiseOr a (digit false)) (sides e a (numeral x)) (sides e a (digit false)) o x h v z) (λ x z. refl)
    ∙ sym (literal_last e BitwiseOr a (digit false) (Number (pos 0)) (digit_value false e) s)

kept_alike : (o : BinaryOperator) (x : ℤ) → keeps_bits o x ≡ true → (a : Tree) → SameTree (binary o a (numeral x)) (binary BitwiseOr a (digit false))
kept_alike o x h a = same_value _ _ refl refl refl (kept_value o x h a)

-- ---- 32

module _ (e : Environment) (names : Naming) (K : Kids (λ i. As Val)) (then_whole : Value → State → Completion Value) (later : (m : ℤ) (z : State) → then_whole (Number m) z ≡ run {q = λ i. As Val} e names K (of_made (whole m)) z) where
  abbrev Settles : Command (λ i. As Val) Value → Type 0
  Settles c = (z : State) → either (run {q = λ i. As Val} e names K c z) then_whole (λ x y. stop x y) ≡ run {q = λ i. As Val} e names K c z

  settled_bind : {A : Type 0} (c : Command (λ i. As Val) A) (f : A → Command (λ i. As Val) Value) → ((a : A) → Settles (f a)) → Settles (bind c f)
  settled_bind c f h z =
      ap (λ y. either y then_whole (λ x y. stop x y)) (run_bind e names c f K z)
      ∙ either_assoc (run {q = λ i. As Val} e names K c z) _ _ _ _
      ∙ either_cong (run {q = λ i. As Val} e names K c z) _ (λ a y. run {q = λ i. As Val} e names K (f a) y) _ (λ x y. stop x y) h (λ x y. either_stop x y _ _)
      ∙ sym (run_bind e names c f K z)

  settled_made : (x : Made Value) → IsWhole x → Settles (of_made x)
  settled_made (makes (Number m)) h z = either_ok (Number m) z _ _ ∙ later m z ∙ ap (λ c. run {q = λ i. As Val} e names K (of_made c) z) h
  settled_made (makes Undefined) h z = absurd h
  settled_made (makes Null) h z = absurd h
  settled_made (makes (Boolean b)) h z = absurd h
  settled_made (makes (String t)) h z = absurd h
  settled_made (makes (Symbol m)) h z = absurd h
  settled_made (makes (Object m f)) h z = absurd h
  settled_made raises h z = simp runs
  settled_made outside h z = either_out then_whole (λ x y. stop x y)

  settled_numbers : (f : ℤ → ℤ → Made Value) → ((a b : ℤ) → IsWhole (f a b)) → (v u : Value) → Settles (bind (numeric v) (λ a. bind (numeric u) (λ b. of_made (f a b))))
  settled_numbers f h v u = settled_bind (numeric v) (λ a. bind (numeric u) (λ b. of_made (f a b))) (λ a. settled_bind (numeric u) (λ b. of_made (f a b)) (λ b. settled_made (f a b) (h a b)))

  settled_operator : (o : BinaryOperator) → is_int32_operator o ≡ true → (v u : Value) → Settles (operate_by o v u)
  settled_operator BitwiseAnd h v u = settled_numbers (of_numbers BitwiseAnd) (operated_whole BitwiseAnd h) v u
  settled_operator BitwiseXor h v u = settled_numbers (of_numbers BitwiseXor) (operated_whole BitwiseXor h) v u
  settled_operator BitwiseOr h v u = settled_numbers (of_numbers BitwiseOr) (operated_whole BitwiseOr h) v u
  settled_operator ShiftLeft h v u = settled_numbers (of_numbers ShiftLeft) (operated_whole ShiftLeft h) v u
  settled_operator ShiftRight h v u = settled_numbers (of_numbers ShiftRight) (operated_whole ShiftRight h) v u
  settled_operator o h v u = absurd (true≢false (sym h))

  settled_inverse : (v : Value) → Settles (bind (numeric v) (λ a. of_made (of_number BitwiseNot a)))
  settled_inverse v = settled_bind (numeric v) (λ a. of_made (of_number BitwiseNot a)) (λ a. settled_made (of_number BitwiseNot a) (signed_whole (4_294_967_295 - modulo_32 a)))

  -- what settles after a value
  settled_after : (y : Completion Value) (f : Value → State → Completion Value) → ((v : Value) (z : State) → either (f v z) then_whole (λ x y. stop x y) ≡ f v z) → either (either y f (λ x y. stop x y)) then_whole (λ x y. stop x y) ≡ either y f (λ x y. stop x y)
  settled_after y f h = either_assoc y f _ _ _ ∙ either_cong y _ f _ (λ x y. stop x y) h (λ x z. either_stop x z _ _)

-- what `~` does with the value of its operand
abbrev under_not : Environment → Tree → Kids (λ i. As Val)
under_not e a i r z = meaning e (a ▸ none) i (As Val) r z

abbrev not_names : Tree → Naming
not_names a = naming (shape.UnaryExpression BitwiseNot) (As Val) [] 0 (summaries (a ▸ none))

inverse_value : (e : Environment) (a : Tree) (s : State) → value e (unary BitwiseNot a) s ≡ either (value e a s) (λ v z. run {q = λ i. As Val} e (not_names a) (under_not e a) (bind (numeric v) (λ b. of_made (of_number BitwiseNot b))) z) (λ x z. stop x z)
unfolding means meaning step
inverse_value e a s =
    either_cong (value e a s) _ _ _ _ (λ v z. run_bind e (not_names a) (bind (numeric v) (λ b. of_made (of_number BitwiseNot b))) (reply (As Val) tt) (under_not e a) z ∙ either_eta (run {q = λ i. As Val} e (not_names a) (under_not e a) (bind (numeric v) (λ b. of_made (of_number BitwiseNot b))) z)) (λ x z. refl)

module _ (e : Environment) (t : Tree) where
  abbrev or_zero : Value → State → Completion Value
  or_zero v z = ends_with e BitwiseOr t (digit false) v (Number (pos 0)) z

  or_later : (names : Naming) (K : Kids (λ i. As Val)) (m : ℤ) (z : State) → or_zero (Number m) z ≡ run {q = λ i. As Val} e names K (of_made (whole m)) z
  or_later names K m z = made_free e (binary_names BitwiseOr t (digit false)) names (λ i. As Val) (λ i. As Val) (sides e t (digit false)) K (whole m) z

  whole_value : Int32 t → (s : State) → either (value e t s) or_zero (λ x z. stop x z) ≡ value e t s
  whole_value (inverts is) s =
      let a : Tree = part t 0 in
      let opened = ap (λ x. value e x s) is ∙ inverse_value e a s in
      ap (λ y. either y or_zero (λ x z. stop x z)) opened
      ∙ settled_after e (not_names a) (under_not e a) or_zero (or_later (not_names a) (under_not e a)) (value e a s) (λ v z. run {q = λ i. As Val} e (not_names a) (under_not e a) (bind (numeric v) (λ b. of_made (of_number BitwiseNot b))) z) (λ v z. settled_inverse e (not_names a) (under_not e a) or_zero (or_later (not_names a) (under_not e a)) v z)
      ∙ sym opened
  whole_value (operates o h is) s =
      let a : Tree = part t 0 in
      let b : Tree = part t 1 in
      let opened = ap (λ x. value e x s) is ∙ binary_value e o a b s in
      ap (λ y. either y or_zero (λ x z. stop x z)) opened
      ∙ settled_after e (binary_names o a b) (sides e a b) or_zero (or_later (binary_names o a b) (sides e a b)) (value e a s) (λ v z. either (value e b z) (λ u y. ends_with e o a b v u y) (λ x y. stop x y))
      (λ v z. settled_after e (binary_names o a b) (sides e a b) or_zero (or_later (binary_names o a b) (sides e a b)) (value e b z) (λ u y. ends_with e o a b v u y) (λ u y. settled_operator e (binary_names o a b) (sides e a b) or_zero (or_later (binary_names o a b) (sides e a b)) o h v u y))
      ∙ sym opened

int32_value : (t : Tree) → Int32 t → (e : Environment) (s : State) → value e (binary BitwiseOr t (digit false)) s ≡ value e t s
int32_value t h e s = literal_last e BitwiseOr t (digit false) (Number (pos 0)) (digit_value false e) s ∙ whole_value e t h s

int32_stands : (t : Tree) → Int32 t → stands t ≡ true
int32_stands t (inverts is) = ap stands is
int32_stands t (operates o h is) = ap stands is

int32_alike : (t : Tree) → Int32 t → SameTree (binary BitwiseOr t (digit false)) t
int32_alike t h = same_value _ _ refl (int32_stands t h) (sym (plain_read t (int32_plain t h))) (int32_value t h)

-- ---- 27, of a shift of which only the truth is asked

told_twice : (x : Completion Value) → told Test (either x (λ v z. ok (zero_of false v) z) (λ y z. stop y z)) ≡ told Test x
unfolding told either
told_twice (ok v z) = ap (λ b. ok b z) (twice (truth v))
told_twice (stop y z) = refl
told_twice (halt y z) = refl
told_twice out = refl

shift_truth : (a : Tree) → kind a ≡ IsNumber → (e : Environment) (s : State) → means e (binary (loosely false) a (digit false)) (As Test) tt s ≡ means e a (As Test) tt s
shift_truth a k e s =
    coherent (binary (loosely false) a (digit false)) Test e s
    ∙ ap (told Test) (zero_value false a k e s ∙ sym (zero_told_value false a e s))
    ∙ told_twice (value e a s)
    ∙ sym (coherent a Test e s)

shift_same : (s : Seat) (a : Tree) → kind a ≡ IsNumber → s.boolean ≡ true → SameAt (Expr s) (binary (loosely false) a (digit false)) a
shift_same s a k b = asked_truth s (binary (loosely false) a (digit false)) a b (λ e D X. by_equality e D X (As Test) (binary (loosely false) a (digit false)) a (λ u z. shift_truth a k e z))

same_by_shape : (s : Seat) (n w : Tree) {a b : Tree} → n ≡ a → w ≡ b → SameAt (Expr s) a b → SameAt (Expr s) n w
same_by_shape s n w {a} {b} e f h = subst (λ t. SameAt (Expr s) t w) (sym e) (subst (SameAt (Expr s) a) (sym f) h)

-- ---- 31 and 32 with the number on the left

same_after : (n m w : Tree) → SameTree n m → SameTree m w → SameTree n w
same_after n m w h k = record { by = λ e q r s. h.by e q r s ∙ k.by e q r s; read = h.read ∙ k.read }

kept_beside : (o : BinaryOperator) (b : Bool) → b || is_bitwise o ≡ true → (x : ℤ) → keeps_bits o x ≡ true → (a : Tree) → SameTree (beside o b a (numeral x)) (binary BitwiseOr a (digit false))
kept_beside o true t x h a = kept_alike o x h a
kept_beside o false t x h a = same_after (binary o (numeral x) a) (binary o a (numeral x)) (binary BitwiseOr a (digit false)) (turned_alike o t a x) (kept_alike o x h a)

int32_beside : (b : Bool) (t : Tree) → Int32 t → SameTree (beside BitwiseOr b t (digit false)) t
int32_beside true t h = int32_alike t h
int32_beside false t h = same_after (binary BitwiseOr (digit false) t) (binary BitwiseOr t (digit false)) t (turned_alike BitwiseOr refl t (pos 0)) (int32_alike t h)

-- ---- all

row_same : (p : Position) (n w : Tree) → OperandRow p n w → SameAt p n w
row_same (Expr s) n w (MiddleOperand r) = middle_same s n w r
row_same (Expr s) n w (EmptyText r) = text_same s n w r
row_same (Expr s) n w (BooleanBesideTruth r) = equal_same s n w r
row_same (Expr s) n w (TruthBesideValue r) = tree_same s n w (same_by n w _ _ r.shape r.written (counted_alike r.equal r.truth r.on_right r.operand))
row_same (Expr s) n w (JoinedTexts r) = tree_same s n w (same_by n w _ _ r.shape r.written (joined_alike r.left r.before r.tail r.after (tail_form r.tail r.after r.known)))
row_same (Expr s) n w (BitsBesideZero r) = tree_same s n w (same_by n w _ _ r.shape r.written (zero_alike r.equal r.operand r.known))
row_same (Expr s) n w (BitsWithZero r) = tree_same s n w (same_by n w _ _ r.shape r.written (kept_beside r.operator r.on_right r.sided r.number r.known r.operand))
row_same (Expr s) n w (WholeOrZero r) = tree_same s n w (same_by n w _ _ r.shape r.written (int32_beside r.on_right r.operand (int32_form r.operand r.known)))
row_same (Expr s) n w (ByOperator r) = operator_same s n w r
row_same (Expr s) n w (ShiftEnclosed r) = tree_same s n w (same_by n w _ _ r.shape r.written (enclosed_alike r.equal r.operand r.known))
row_same (Expr s) n w (ShiftAsked r) = same_by_shape s n w r.shape r.written (shift_same s r.operand (shifted_number r.operand r.known) r.asked)
row_same p n w r = absurd r

beside_read : (o : BinaryOperator) (b : Bool) (a k t : Tree) → is_plain_part t ≡ true → summary (beside o b a k) ≡ summary t
beside_read o true a k t h = sym (plain_read t h)
beside_read o false a k t h = sym (plain_read t h)

row_read : (p : Position) (n w : Tree) → OperandRow p n w → summary n ≡ summary w
row_read (Expr s) n w (MiddleOperand r) = ap summary r.shape ∙ sym (ap summary r.written)
row_read (Expr s) n w (EmptyText r) = ap summary r.shape ∙ beside_read Addition r.on_right r.operand (text []) r.operand (plain_of s r.operand r.stays) ∙ sym (ap summary r.written)
row_read (Expr s) n w (BooleanBesideTruth r) = let t : Tree = told_by (same_boolean r.equal r.truth) r.operand in ap summary r.shape ∙ beside_read (loosely r.equal) true r.operand (negated_digit r.truth) t (plain_of s t r.stays) ∙ sym (ap summary r.written)
row_read (Expr s) n w (TruthBesideValue r) = ap summary r.shape ∙ (counted_alike r.equal r.truth r.on_right r.operand).read ∙ sym (ap summary r.written)
row_read (Expr s) n w (JoinedTexts r) = ap summary r.shape ∙ (joined_alike r.left r.before r.tail r.after (tail_form r.tail r.after r.known)).read ∙ sym (ap summary r.written)
row_read (Expr s) n w (BitsBesideZero r) = ap summary r.shape ∙ (zero_alike r.equal r.operand r.known).read ∙ sym (ap summary r.written)
row_read (Expr s) n w (BitsWithZero r) = ap summary r.shape ∙ (kept_beside r.operator r.on_right r.sided r.number r.known r.operand).read ∙ sym (ap summary r.written)
row_read (Expr s) n w (WholeOrZero r) = ap summary r.shape ∙ (int32_beside r.on_right r.operand (int32_form r.operand r.known)).read ∙ sym (ap summary r.written)
row_read (Expr s) n w (ByOperator r) = operator_read s n w r
row_read (Expr s) n w (ShiftEnclosed r) = ap summary r.shape ∙ (enclosed_alike r.equal r.operand r.known).read ∙ sym (ap summary r.written)
row_read (Expr s) n w (ShiftAsked r) = ap summary r.shape ∙ beside_read (loosely false) true r.operand (digit false) r.operand (shifted_plain r.operand (shifted_form r.operand r.known)) ∙ sym (ap summary r.written)
row_read p n w r = absurd r

pub operands_same : MeansSame OperandContracts
operands_same = record { same = λ p n w c. row_same p n w c.row; reads = λ p n w c. row_read p n w c.row }
