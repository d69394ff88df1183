-- What is written for an operator is what a row says, and each row is written.
use Rattle.std.proofs.Common.{◌≡◌, ℤ, Bool, true, false, Option, Some, None, refl, sym, ap, subst, ◌∙◌, inl, inr, true≢false}
use Rattle.std.specs.Prelude.{◌⊎◌, ◌&&◌, not, is_some, if◌then◌else◌}
use Rattle.std.proofs.lemmas.Bool.{and_parts}
use Rattle.mini_model.specs.declared.name.Name.{Name}
use Rattle.mini_model.specs.declared.operator.BinaryOperator.{BinaryOperator}
use Rattle.mini_model.specs.declared.operator.BinaryOperator.TheVariants.{BitwiseAnd, BitwiseXor, BitwiseOr}
use Rattle.mini_model.specs.declared.operator.UnaryOperator.{UnaryOperator}
use Rattle.mini_model.specs.declared.operator.UnaryOperator.TheVariants.{Typeof, Delete, UnaryPlus}
use Rattle.mini_model.specs.declared.seat.Seat.{Seat}
use Rattle.mini_model.specs.Tree.{Tree, unary, identifier}
use Rattle.mini_model.specs.Position.{is_equality}
use Rattle.mini_node.specs.Children.{part}
use Rattle.mini_node.specs.Equal.{same_tree}
use Rattle.mini_node.specs.Kinds.{unary_operator, binary_operator, is_identifier, number}
use Rattle.mini_node.specs.Made.{unary_is, binary_is, identifier_is, number_is}
use Rattle.mini_node.proofs.Equality.{tree_same, tree_itself}
use Rattle.mini_terms.specs.declared.kinds.Kind.{Kind}
use Rattle.mini_terms.specs.declared.kinds.Kind.TheVariants.{Number as IsNumber}
use Rattle.mini_laws.specs.Value.{Value, Number}
use Rattle.mini_terms.specs.Calculated.{calculated_numbers, operand_value}
use Rattle.mini_terms.specs.Folds.{is_effect_free}
use Rattle.mini_terms.specs.Kind.{is_number, kind}
use Rattle.mini_terms.specs.Parts.{leaves_nothing}
use Rattle.mini_rows.specs.ChainLinks.{is_lone}
use Rattle.mini_rows.specs.Booleans.{plus}
use Rattle.mini_rows.specs.Operators.{deleted, says_equal, is_no_type, makes_numbers, is_bitwise, with_number, is_short, Row2, Row8, Row16, Row17, Row56Left, Row56Right, OperatorRow, SameTypes, NeverType, LeftPlus, RightPlus, JoinedMasks}
use Rattle.mini_rows.specs.Spellings.{binary, negated_digit, numeral}
use Rattle.mini_held.proofs.NeverEqual.{typeof_is, never_row}
use Rattle.mini_fold.specs.FoldOperators.{delete_written, is_typeof, are_types_same, is_never_type, told_by, told, is_plus_by, is_plus, is_number_value, drops_left, drops_right, holds_bitwise, number_of, shortened, masked, with_mask, masks_written, mask_written, without_plus, boolean_or, operator_written}

both_true : (b c : Bool) → b ≡ true → c ≡ true → b && c ≡ true
both_true true c e f = f
both_true false c e f = e

some_is : (x y : Tree) → Some x ≡ Some y → x ≡ y
some_is x y e = cc e

nothing : {A : Type 0} {a : A} {B : Type 0} → None ≡ Some a → B
nothing e = cc e

-- ---- 2

pub delete_row : (n w : Tree) (o : Option UnaryOperator) → unary_operator n ≡ o → delete_written o (part n 0) ≡ Some w → Row2 n w
delete_row n w (Some Delete) h e = go (is_lone (part n 0)) refl e
  where
    go : (b : Bool) → is_lone (part n 0) ≡ b → (if b then Some (deleted (part n 0)) else None) ≡ Some w → Row2 n w
    go true k f = record { operand = part n 0; value = k; shape = unary_is n Delete h; written = sym (some_is (deleted (part n 0)) w f) }
    go false k f = nothing f
delete_row n w o h e = nothing e

-- ---- 16 and 17

same_row : (n : Tree) (o : BinaryOperator) (a b : Tree) → n ≡ binary o a b → is_equality o ≡ true → are_types_same a b ≡ true → Row16 n (negated_digit (says_equal o))
same_row n o a b is h e =
    let (first, rest) = and_parts (is_typeof a) (is_identifier (part a 0) && same_tree a b) e in
    let (named, equal) = and_parts (is_identifier (part a 0)) (same_tree a b) rest in
    let (x, name) = identifier_is (part a 0) named in
    let left : a ≡ unary Typeof (identifier x) = typeof_is a first ∙ ap (unary Typeof) name in
    record { operator = o; name = x; equality = h; shape = is ∙ ap (binary o a) (sym (tree_same a b equal)) ∙ ap (λ t. binary o t t) left; written = refl }

pub told_row : (n : Tree) (o : BinaryOperator) (c : Bool) → n ≡ binary o (part n 0) (part n 1) → told o n ≡ Some c → Row16 n (negated_digit c) ⊎ Row17 n (negated_digit c)
told_row n o c is e = go (is_equality o) (are_types_same (part n 0) (part n 1)) (is_never_type true n) refl refl refl e
  where
    go : (b x y : Bool) → is_equality o ≡ b → are_types_same (part n 0) (part n 1) ≡ x → is_never_type true n ≡ y → (if b then told_by o x y else None) ≡ Some c → Row16 n (negated_digit c) ⊎ Row17 n (negated_digit c)
    go true true y h k l f = inl (subst (λ d. Row16 n (negated_digit d)) {x = says_equal o} {y = c} (cc f) (same_row n o (part n 0) (part n 1) is h k))
    go true false true h k l f = inr (subst (λ d. Row17 n (negated_digit d)) {x = not (says_equal o)} {y = c} (cc f) (never_row true n o is h l))
    go true false false h k l f = nothing f
    go false x y h k l f = nothing f

of_told : (s : Seat) (n w : Tree) → Row16 n w ⊎ Row17 n w → OperatorRow s n w
of_told s n w (inl r) = SameTypes r
of_told s n w (inr r) = NeverType r

-- ---- 56

plus_is : (t : Tree) → is_plus t ≡ true → t ≡ plus (part t 0)
plus_is t e = go (unary_operator t) refl e
  where
    go : (o : Option UnaryOperator) → unary_operator t ≡ o → is_plus_by o ≡ true → t ≡ plus (part t 0)
    go (Some UnaryPlus) h k = unary_is t UnaryPlus h
    go o h k = absurd (true≢false (sym k))

number_kind : (k : Kind) → is_number k ≡ true → k ≡ IsNumber
number_kind IsNumber e = refl
number_kind k e = absurd (true≢false (sym e))

number_there : (c : Option Value) → is_number_value c ≡ true → (m : ℤ) × (c ≡ Some (Number m))
number_there (Some (Number m)) e = (m, refl)
number_there c e = absurd (true≢false (sym e))

module _ (n : Tree) (o : BinaryOperator) (a b : Tree) (is : n ≡ binary o a b) where
  left_row : drops_left o a b ≡ true → Row56Left n (binary o (part a 0) b)
  left_row e =
      let (first, rest) = and_parts (is_plus a) (makes_numbers o && is_number_value (operand_value b)) e in
      let (numeric, there) = and_parts (makes_numbers o) (is_number_value (operand_value b)) rest in
      let (m, known) = number_there (operand_value b) there in
      record { operator = o; operand = part a 0; right = b; number = m; numeric = numeric; known = known; shape = is ∙ ap (λ t. binary o t b) (plus_is a first); written = refl }

  right_row : drops_right o a b ≡ true → Row56Right n (binary o a (part b 0))
  right_row e =
      let (last, rest) = and_parts (is_plus b) (makes_numbers o && is_number (kind a)) e in
      let (numeric, known) = and_parts (makes_numbers o) (is_number (kind a)) rest in
      record { operator = o; left = a; operand = part b 0; numeric = numeric; known = number_kind (kind a) known; shape = is ∙ ap (binary o a) (plus_is b last); written = refl }

  pub plus_or : (w : Tree) (u : Option Tree) → without_plus o a b u ≡ Some w → (Row56Left n w ⊎ Row56Right n w) ⊎ (u ≡ Some w)
  plus_or w u e = go (drops_left o a b) (drops_right o a b) refl refl e
    where
      go : (x y : Bool) → drops_left o a b ≡ x → drops_right o a b ≡ y → (if x then Some (binary o (part a 0) b) else (if y then Some (binary o a (part b 0)) else u)) ≡ Some w → (Row56Left n w ⊎ Row56Right n w) ⊎ (u ≡ Some w)
      go true y h k f = inl (inl (subst (Row56Left n) (some_is (binary o (part a 0) b) w f) (left_row h)))
      go false true h k f = inl (inr (subst (Row56Right n) (some_is (binary o a (part b 0)) w f) (right_row k)))
      go false false h k f = inr f

of_plus : (s : Seat) (n w : Tree) → Row56Left n w ⊎ Row56Right n w → OperatorRow s n w
of_plus s n w (inl r) = LeftPlus r
of_plus s n w (inr r) = RightPlus r

-- ---- 8

record Bitwise (o : BinaryOperator) (t : Tree) : Type 0 where
  bitwise : is_bitwise o ≡ true
  inner : t ≡ binary o (part t 0) (part t 1)

bitwise_by : (o : BinaryOperator) (t : Tree) (p : Option BinaryOperator) → binary_operator t ≡ p → holds_bitwise o p ≡ true → Bitwise o t
bitwise_by BitwiseAnd t (Some BitwiseAnd) h e = record { bitwise = refl; inner = binary_is t BitwiseAnd h }
bitwise_by BitwiseXor t (Some BitwiseXor) h e = record { bitwise = refl; inner = binary_is t BitwiseXor h }
bitwise_by BitwiseOr t (Some BitwiseOr) h e = record { bitwise = refl; inner = binary_is t BitwiseOr h }
bitwise_by o t p h e = absurd (true≢false (sym e))

-- two numbers, and what is made of them
record Numbers (o : BinaryOperator) (c d : Option ℤ) (r : ℤ) : Type 0 where
  first : ℤ
  second : ℤ
  one : c ≡ Some first
  other : d ≡ Some second
  known : calculated_numbers o first second ≡ Some (Number r)
  short : is_short r first second ≡ true

numbers_by : (o : BinaryOperator) (c d : Option ℤ) (r : ℤ) → masked o c d ≡ Some r → Numbers o c d r
numbers_by o None d r e = nothing e
numbers_by o (Some c) None r e = nothing e
numbers_by o (Some c) (Some d) r e = go (calculated_numbers o c d) refl e
  where
    short : (m : ℤ) → calculated_numbers o c d ≡ Some (Number m) → (b : Bool) → is_short m c d ≡ b → (if b then Some m else None) ≡ Some r → Numbers o (Some c) (Some d) r
    short m h true k f = subst (Numbers o (Some c) (Some d)) {x = m} {y = r} (cc f) (record { first = c; second = d; one = refl; other = refl; known = h; short = k })
    short m h false k f = nothing f

    go : (v : Option Value) → calculated_numbers o c d ≡ v → shortened (number_of v) c d ≡ Some r → Numbers o (Some c) (Some d) r
    go (Some (Number m)) h f = short m h (is_short m c d) refl f
    go v h f = nothing f

module _ (n : Tree) (o : BinaryOperator) (a b : Tree) (is : n ≡ binary o a b) where
  right_mask : Bitwise o a → (r : ℤ) → masked o (number (part a 1)) (number b) ≡ Some r → Row8 n (binary o (part a 0) (numeral r))
  right_mask g r e =
      let m = numbers_by o (number (part a 1)) (number b) r e in
      record { operator = o; on_right = true; operand = part a 0; first = m.first; second = m.second; joined = r; bitwise = g.bitwise; known = m.known; short = m.short; shape = is ∙ ap (λ t. binary o t b) (g.inner ∙ ap (binary o (part a 0)) (number_is (part a 1) m.first m.one)) ∙ ap (binary o (binary o (part a 0) (numeral m.first))) (number_is b m.second m.other); written = refl }

  left_mask : Bitwise o a → (r : ℤ) → masked o (number (part a 0)) (number b) ≡ Some r → Row8 n (binary o (part a 1) (numeral r))
  left_mask g r e =
      let m = numbers_by o (number (part a 0)) (number b) r e in
      record { operator = o; on_right = false; operand = part a 1; first = m.first; second = m.second; joined = r; bitwise = g.bitwise; known = m.known; short = m.short; shape = is ∙ ap (λ t. binary o t b) (g.inner ∙ ap (λ t. binary o t (part a 1)) (number_is (part a 0) m.first m.one)) ∙ ap (binary o (binary o (numeral m.first) (part a 1))) (number_is b m.second m.other); written = refl }

  masks_or : (w : Tree) (u : Option Tree) → Bitwise o a → masks_written o a b u ≡ Some w → Row8 n w ⊎ (u ≡ Some w)
  masks_or w u g e = go (masked o (number (part a 1)) (number b)) (masked o (number (part a 0)) (number b)) refl refl e
    where
      go : (c d : Option ℤ) → masked o (number (part a 1)) (number b) ≡ c → masked o (number (part a 0)) (number b) ≡ d → with_mask o (part a 0) c (with_mask o (part a 1) d u) ≡ Some w → Row8 n w ⊎ (u ≡ Some w)
      go (Some r) d h k f = inl (subst (Row8 n) (some_is (binary o (part a 0) (numeral r)) w f) (right_mask g r h))
      go None (Some r) h k f = inl (subst (Row8 n) (some_is (binary o (part a 1) (numeral r)) w f) (left_mask g r k))
      go None None h k f = inr f

  pub mask_or : (w : Tree) (u : Option Tree) → mask_written o a b u ≡ Some w → Row8 n w ⊎ (u ≡ Some w)
  mask_or w u e = go (holds_bitwise o (binary_operator a)) refl e
    where
      go : (c : Bool) → holds_bitwise o (binary_operator a) ≡ c → (if c then masks_written o a b u else u) ≡ Some w → Row8 n w ⊎ (u ≡ Some w)
      go true h f = masks_or w u (bitwise_by o a (binary_operator a) refl h) f
      go false h f = inr f

-- ---- all

-- what is written is a row's, or what else would be
pub operator_or : (s : Seat) (n w : Tree) (o : BinaryOperator) (u : Option Tree) → n ≡ binary o (part n 0) (part n 1) → operator_written o n u ≡ Some w → OperatorRow s n w ⊎ (u ≡ Some w)
operator_or s n w o u is e = go (told o n) refl e
  where
    masks : Row8 n w ⊎ (u ≡ Some w) → OperatorRow s n w ⊎ (u ≡ Some w)
    masks (inl r) = inl (JoinedMasks r)
    masks (inr f) = inr f

    last : (Row56Left n w ⊎ Row56Right n w) ⊎ (mask_written o (part n 0) (part n 1) u ≡ Some w) → OperatorRow s n w ⊎ (u ≡ Some w)
    last (inl r) = inl (of_plus s n w r)
    last (inr f) = masks (mask_or n o (part n 0) (part n 1) is w u f)

    go : (c : Option Bool) → told o n ≡ c → boolean_or c (without_plus o (part n 0) (part n 1) (mask_written o (part n 0) (part n 1) u)) ≡ Some w → OperatorRow s n w ⊎ (u ≡ Some w)
    go (Some c) h f = inl (subst (OperatorRow s n) (some_is (negated_digit c) w f) (of_told s n (negated_digit c) (told_row n o c is h)))
    go None h f = last (plus_or n o (part n 0) (part n 1) is w (mask_written o (part n 0) (part n 1) u) f)

-- ---- and each row is written

pub boolean_first : (o : BinaryOperator) (b x y : Bool) (u : Option Tree) → b ≡ true → x ≡ true → is_some (boolean_or (if b then told_by o x y else None) u) ≡ true
boolean_first o true true y u h k = refl
boolean_first o true false y u h k = absurd (true≢false (sym k))
boolean_first o false x y u h k = absurd (true≢false (sym h))

pub boolean_second : (o : BinaryOperator) (b x y : Bool) (u : Option Tree) → b ≡ true → y ≡ true → is_some (boolean_or (if b then told_by o x y else None) u) ≡ true
boolean_second o true true y u h k = refl
boolean_second o true false true u h k = refl
boolean_second o true false false u h k = absurd (true≢false (sym k))
boolean_second o false x y u h k = absurd (true≢false (sym h))

pub same_there : (o : BinaryOperator) (x : Name) → is_equality o ≡ true → (u : Option Tree) → is_some (operator_written o (binary o (unary Typeof (identifier x)) (unary Typeof (identifier x))) u) ≡ true
same_there o x h u =
    let t : Tree = unary Typeof (identifier x) in
    boolean_first o (is_equality o) (are_types_same t t) (is_never_type true (binary o t t)) (without_plus o t t (mask_written o t t u)) h (tree_itself t)

pub never_there : (o : BinaryOperator) (a b : Tree) → is_equality o ≡ true → is_no_type b ≡ true → is_effect_free (binary o (unary Typeof a) b) ≡ true → leaves_nothing (binary o (unary Typeof a) b) ≡ true → (u : Option Tree) → is_some (operator_written o (binary o (unary Typeof a) b) u) ≡ true
never_there o a b h k e d u =
    let t : Tree = binary o (unary Typeof a) b in
    boolean_second o (is_equality o) (are_types_same (unary Typeof a) b) (is_never_type true t) (without_plus o (unary Typeof a) b (mask_written o (unary Typeof a) b u)) h (both_true (is_no_type b) (is_effect_free t && leaves_nothing t) k (both_true (is_effect_free t) (leaves_nothing t) e d))

after_boolean : (c : Option Bool) (u : Option Tree) → is_some u ≡ true → is_some (boolean_or c u) ≡ true
after_boolean (Some c) u h = refl
after_boolean None u h = h

pub first_there : (x : Bool) (t : Tree) (u : Option Tree) → x ≡ true → is_some (if x then Some t else u) ≡ true
first_there true t u h = refl
first_there false t u h = absurd (true≢false (sym h))

pub second_there : (x y : Bool) (t v : Tree) (u : Option Tree) → y ≡ true → is_some (if x then Some t else (if y then Some v else u)) ≡ true
second_there true y t v u h = refl
second_there false y t v u h = first_there y v u h

pub left_there : (o : BinaryOperator) (a k : Tree) (m : ℤ) → makes_numbers o ≡ true → operand_value k ≡ Some (Number m) → (u : Option Tree) → is_some (operator_written o (binary o (plus a) k) u) ≡ true
left_there o a k m h known u =
    let t : Tree = binary o (plus a) k in
    after_boolean (told o t) (without_plus o (plus a) k (mask_written o (plus a) k u)) (first_there (drops_left o (plus a) k) (binary o a k) _ (both_true (makes_numbers o) (is_number_value (operand_value k)) h (ap is_number_value known)))

pub right_there : (o : BinaryOperator) (a b : Tree) → makes_numbers o ≡ true → kind a ≡ IsNumber → (u : Option Tree) → is_some (operator_written o (binary o a (plus b)) u) ≡ true
right_there o a b h k u =
    let t : Tree = binary o a (plus b) in
    after_boolean (told o t) (without_plus o a (plus b) (mask_written o a (plus b) u)) (second_there (drops_left o a (plus b)) (drops_right o a (plus b)) (binary o (part a 0) (plus b)) (binary o a b) (mask_written o a (plus b) u) (both_true (makes_numbers o) (is_number (kind a)) h (ap is_number k)))

-- what comes after the others is written unless one of them is
plus_later : (o : BinaryOperator) (a b : Tree) (u : Option Tree) → is_some u ≡ true → is_some (without_plus o a b u) ≡ true
plus_later o a b u h = go (drops_left o a b) (drops_right o a b)
  where
    go : (x y : Bool) → is_some (if x then Some (binary o (part a 0) b) else (if y then Some (binary o a (part b 0)) else u)) ≡ true
    go true y = refl
    go false true = refl
    go false false = h

mask_first : (o : BinaryOperator) (a : Tree) (c : Option ℤ) (u : Option Tree) → is_some c ≡ true → is_some (with_mask o a c u) ≡ true
mask_first o a (Some r) u h = refl
mask_first o a None u h = absurd (true≢false (sym h))

mask_later : (o : BinaryOperator) (a : Tree) (c : Option ℤ) (u : Option Tree) → is_some u ≡ true → is_some (with_mask o a c u) ≡ true
mask_later o a (Some r) u h = refl
mask_later o a None u h = h

bitwise_later : (o : BinaryOperator) (a b : Tree) (u : Option Tree) → is_some u ≡ true → is_some (mask_written o a b u) ≡ true
bitwise_later o a b u h = go (holds_bitwise o (binary_operator a))
  where
    go : (c : Bool) → is_some (if c then masks_written o a b u else u) ≡ true
    go true = mask_later o (part a 0) (masked o (number (part a 1)) (number b)) _ (mask_later o (part a 1) (masked o (number (part a 0)) (number b)) u h)
    go false = h

pub later : (o : BinaryOperator) (t : Tree) (u : Option Tree) → is_some u ≡ true → is_some (operator_written o t u) ≡ true
later o t u h = after_boolean (told o t) (without_plus o (part t 0) (part t 1) (mask_written o (part t 0) (part t 1) u)) (plus_later o (part t 0) (part t 1) (mask_written o (part t 0) (part t 1) u) (bitwise_later o (part t 0) (part t 1) u h))

holds_itself : (o : BinaryOperator) → is_bitwise o ≡ true → holds_bitwise o (Some o) ≡ true
holds_itself BitwiseAnd h = refl
holds_itself BitwiseXor h = refl
holds_itself BitwiseOr h = refl
holds_itself o h = absurd (true≢false (sym h))

masked_there : (o : BinaryOperator) (c d r : ℤ) → calculated_numbers o c d ≡ Some (Number r) → is_short r c d ≡ true → is_some (masked o (Some c) (Some d)) ≡ true
masked_there o c d r h k = ap (λ v. is_some (shortened (number_of v) c d)) h ∙ ap (λ b. is_some (if b then Some r else None)) k

pub mask_there : (o : BinaryOperator) (b : Bool) (a : Tree) (c d r : ℤ) → is_bitwise o ≡ true → calculated_numbers o c d ≡ Some (Number r) → is_short r c d ≡ true → (u : Option Tree) → is_some (mask_written o (with_number o b a c) (numeral d) u) ≡ true
mask_there o true a c d r h k l u =
    ap (λ x. is_some (if x then masks_written o (binary o a (numeral c)) (numeral d) u else u)) (holds_itself o h)
    ∙ mask_first o a (masked o (Some c) (Some d)) (with_mask o (numeral c) (masked o (number a) (Some d)) u) (masked_there o c d r k l)
mask_there o false a c d r h k l u =
    ap (λ x. is_some (if x then masks_written o (binary o (numeral c) a) (numeral d) u else u)) (holds_itself o h)
    ∙ mask_later o (numeral c) (masked o (number a) (Some d)) (with_mask o a (masked o (Some c) (Some d)) u) (mask_first o a (masked o (Some c) (Some d)) u (masked_there o c d r k l))

pub masks_there : (o : BinaryOperator) (b : Bool) (a : Tree) (c d r : ℤ) → is_bitwise o ≡ true → calculated_numbers o c d ≡ Some (Number r) → is_short r c d ≡ true → (u : Option Tree) → is_some (operator_written o (binary o (with_number o b a c) (numeral d)) u) ≡ true
masks_there o b a c d r h k l u =
    let t : Tree = binary o (with_number o b a c) (numeral d) in
    after_boolean (told o t) (without_plus o (with_number o b a c) (numeral d) (mask_written o (with_number o b a c) (numeral d) u)) (plus_later o (with_number o b a c) (numeral d) (mask_written o (with_number o b a c) (numeral d) u) (mask_there o b a c d r h k l u))
