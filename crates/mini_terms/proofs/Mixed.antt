-- Operators on values of several types, in code and in the model.
use Rattle.std.proofs.Common.{◌≡◌, ℕ, suc, ◌+◌, ◌<◌, ◌≤◌, Bool, true, false, List, [], ◌∷◌, length, get_or, drop, Option, Some, None, refl, sym, ap, ◌∙◌, true≢false, eq-eqb, eqb-true, ltb-true, ltb-false, drop-cons, length-drop, arith}
use Rattle.std.specs.Prelude.{◌||◌, ◌++◌, ℤ, pos, negsuc, nat_lt, nat_eq}
use Rattle.std.proofs.lemmas.List.{drop_all}
use Rattle.std.proofs.lemmas.Bool.{lt-ltb}
use Rattle.mini_model.specs.declared.operator.BinaryOperator.{BinaryOperator}
use Rattle.mini_model.specs.declared.operator.BinaryOperator.TheVariants as binary
use Rattle.mini_laws.specs.Value.{Value, Undefined, Null, Boolean, Number, String, Symbol, Object, choose, is_nullish}
use Rattle.mini_laws.specs.Conversion.{Made, makes, raises, outside, both, to_text, to_number}
use Rattle.mini_laws.specs.Operators.{is_text_less, of_numbers, by_numbers, of_primitives, joined, same_number, equals_number, loosely_equal}
use Rattle.mini_terms.specs.Const.{made, binary_value}
use Rattle.mini_terms.specs.Texts.{is_sum, order_of_texts, order_of, equal_numbers, equal_present}
use Rattle.mini_terms.specs.declared.values.ConstantValue.{ConstantValue}
use Rattle.mini_terms.specs.declared.values.ConstantValue.TheVariants as constant
use Rattle.mini_terms.specs.Values.{value, is_text_value}

nothing : {A : Type 0} {a : A} {B : Type 0} → None ≡ Some a → B
nothing e = cc e

-- ---- `+`

sum_of_texts : (v u : Value) → is_text_value v || is_text_value u ≡ true → joined (to_text v) (to_text u) ≡ of_primitives binary.Addition v u
sum_of_texts (String s) u e = refl
sum_of_texts Undefined (String t) e = refl
sum_of_texts Null (String t) e = refl
sum_of_texts (Boolean b) (String t) e = refl
sum_of_texts (Number n) (String t) e = refl
sum_of_texts (Symbol n) (String t) e = refl
sum_of_texts (Object n f) (String t) e = refl
sum_of_texts v u e = absurd (true≢false (sym e))

pub texts_added : (v u : Value) (s t : List ℕ) → is_text_value v || is_text_value u ≡ true → makes s ≡ to_text v → makes t ≡ to_text u → Some (String (s ++ t)) ≡ binary_value binary.Addition v u
texts_added v u s t e f g = ap (λ c. made (joined c (makes t))) f ∙ ap (λ c. made (joined (to_text v) c)) g ∙ ap made (sum_of_texts v u e)

pub numbers_added : (v u : Value) → is_text_value v || is_text_value u ≡ false → made (by_numbers binary.Addition v u) ≡ binary_value binary.Addition v u
numbers_added (String s) u e = absurd (true≢false e)
numbers_added Undefined (String t) e = absurd (true≢false e)
numbers_added Null (String t) e = absurd (true≢false e)
numbers_added (Boolean b) (String t) e = absurd (true≢false e)
numbers_added (Number n) (String t) e = absurd (true≢false e)
numbers_added (Symbol n) (String t) e = absurd (true≢false e)
numbers_added (Object n f) (String t) e = absurd (true≢false e)
numbers_added v u e = refl

-- ---- values that are made numbers

both_numbers : (a b : Made ℤ) (m n : ℤ) (f : ℤ → ℤ → Made Value) → Some m ≡ made a → Some n ≡ made b → made (f m n) ≡ made (both a b f)
both_numbers (makes x) (makes y) m n f e g = ap (λ k. made (f k n)) {x = m} {y = x} (cc e) ∙ ap (λ k. made (f x k)) {x = n} {y = y} (cc g)
both_numbers raises b m n f e g = nothing (sym e)
both_numbers outside b m n f e g = nothing (sym e)
both_numbers (makes x) raises m n f e g = nothing (sym g)
both_numbers (makes x) outside m n f e g = nothing (sym g)

pub of_two_numbers : (o : BinaryOperator) (v u : Value) (m n : ℤ) → Some m ≡ made (to_number v) → Some n ≡ made (to_number u) → made (of_numbers o m n) ≡ made (by_numbers o v u)
of_two_numbers o v u m n e f = both_numbers (to_number v) (to_number u) m n (of_numbers o) e f

no_left : (a b : Made ℤ) (f : ℤ → ℤ → Made Value) → None ≡ made a → None ≡ made (both a b f)
no_left (makes x) b f e = nothing e
no_left raises b f e = refl
no_left outside b f e = refl

no_right : (a b : Made ℤ) (f : ℤ → ℤ → Made Value) → None ≡ made b → None ≡ made (both a b f)
no_right raises b f e = refl
no_right outside b f e = refl
no_right (makes x) (makes y) f e = nothing e
no_right (makes x) raises f e = refl
no_right (makes x) outside f e = refl

pub no_left_number : (o : BinaryOperator) (v u : Value) → None ≡ made (to_number v) → None ≡ made (by_numbers o v u)
no_left_number o v u e = no_left (to_number v) (to_number u) (of_numbers o) e

pub no_right_number : (o : BinaryOperator) (v u : Value) → None ≡ made (to_number u) → None ≡ made (by_numbers o v u)
no_right_number o v u e = no_right (to_number v) (to_number u) (of_numbers o) e

-- ---- order

abbrev told : Option Bool → Bool
told (Some b) = b
told None = false

ordered_texts : (o : BinaryOperator) (s t : List ℕ) (b : Bool) → Some b ≡ order_of_texts o s t → Some (Boolean b) ≡ made (of_primitives o (String s) (String t))
ordered_texts binary.LessThan s t b e = ap (λ c. Some (Boolean (told c))) e
ordered_texts binary.GreaterThan s t b e = ap (λ c. Some (Boolean (told c))) e
ordered_texts binary.LessEqualThan s t b e = ap (λ c. Some (Boolean (told c))) e
ordered_texts binary.GreaterEqualThan s t b e = ap (λ c. Some (Boolean (told c))) e
ordered_texts o s t b e = nothing (sym e)

pub texts_ordered : (o : BinaryOperator) (v u : Value) (b : Bool) → Some b ≡ order_of o v u → Some (Boolean b) ≡ made (of_primitives o v u)
texts_ordered o (String s) (String t) b e = ordered_texts o s t b e
texts_ordered o v u b e = nothing (sym e)

unordered_texts : (o : BinaryOperator) (s t : List ℕ) → is_sum o ≡ false → None ≡ order_of_texts o s t → made (by_numbers o (String s) (String t)) ≡ made (of_primitives o (String s) (String t))
unordered_texts binary.Addition s t h e = absurd (true≢false h)
unordered_texts binary.LessThan s t h e = nothing e
unordered_texts binary.GreaterThan s t h e = nothing e
unordered_texts binary.LessEqualThan s t h e = nothing e
unordered_texts binary.GreaterEqualThan s t h e = nothing e
unordered_texts o s t h e = refl

-- one side is no text
unordered : (o : BinaryOperator) (v u : Value) → is_sum o ≡ false → None ≡ order_of o v u → made (by_numbers o v u) ≡ made (of_primitives o v u)
unordered o (String s) (String t) h e = unordered_texts o s t h e
unordered binary.Addition v u h e = absurd (true≢false h)
unordered o v u h e = refl

pub numbers_ordered : (o : BinaryOperator) (v u : Value) → is_sum o ≡ false → None ≡ order_of o v u → made (by_numbers o v u) ≡ made (of_primitives o v u)
numbers_ordered o v u h e = unordered o v u h e

-- ---- equality

eq_swapped : (m n : ℕ) → nat_eq m n ≡ nat_eq n m
eq_swapped m n = go (nat_eq m n) (nat_eq n m) refl refl
  where
    go : (b c : Bool) → nat_eq m n ≡ b → nat_eq n m ≡ c → b ≡ c
    go true true e f = refl
    go false false e f = refl
    go true false e f = absurd (true≢false (sym (eq-eqb n m (sym (eqb-true m n e))) ∙ f))
    go false true e f = absurd (true≢false (sym (eq-eqb m n (sym (eqb-true n m f))) ∙ e))

same_swapped : (m n : ℤ) → same_number m n ≡ same_number n m
same_swapped (pos m) (pos n) = eq_swapped m n
same_swapped (negsuc m) (negsuc n) = eq_swapped m n
same_swapped (pos m) (negsuc n) = refl
same_swapped (negsuc m) (pos n) = refl

text_then : (k : Made ℤ) (n : ℤ) → equal_numbers (made k) (Some n) ≡ equals_number k n
text_then (makes m) n = refl
text_then raises n = refl
text_then outside n = refl

then_text : (k : Made ℤ) (n : ℤ) → equal_numbers (Some n) (made k) ≡ equals_number k n
then_text (makes m) n = ap (λ b. Some b) (same_swapped n m)
then_text raises n = refl
then_text outside n = refl

pub loosely_is : (c d : ConstantValue) → is_nullish (value c) ≡ false → is_nullish (value d) ≡ false → equal_present (value c) (value d) ≡ loosely_equal (value c) (value d)
loosely_is constant.Undefined d h k = absurd (true≢false h)
loosely_is constant.Null d h k = absurd (true≢false h)
loosely_is c constant.Undefined h k = absurd (true≢false k)
loosely_is c constant.Null h k = absurd (true≢false k)
loosely_is (constant.Boolean true) (constant.Boolean true) h k = refl
loosely_is (constant.Boolean true) (constant.Boolean false) h k = refl
loosely_is (constant.Boolean false) (constant.Boolean true) h k = refl
loosely_is (constant.Boolean false) (constant.Boolean false) h k = refl
loosely_is (constant.Boolean true) (constant.Number n) h k = refl
loosely_is (constant.Boolean false) (constant.Number n) h k = refl
loosely_is (constant.Number m) (constant.Boolean true) h k = refl
loosely_is (constant.Number m) (constant.Boolean false) h k = refl
loosely_is (constant.Number m) (constant.Number n) h k = refl
loosely_is (constant.String s) (constant.String t) h k = refl
loosely_is (constant.String s) (constant.Boolean true) h k = text_then (to_number (String s)) (pos 1)
loosely_is (constant.String s) (constant.Boolean false) h k = text_then (to_number (String s)) (pos 0)
loosely_is (constant.String s) (constant.Number n) h k = text_then (to_number (String s)) n
loosely_is (constant.Boolean true) (constant.String t) h k = then_text (to_number (String t)) (pos 1)
loosely_is (constant.Boolean false) (constant.String t) h k = then_text (to_number (String t)) (pos 0)
loosely_is (constant.Number m) (constant.String t) h k = then_text (to_number (String t)) m

-- ---- by units

both_first : (s t : List ℕ) (i : ℕ) → i < length s → i < length t → is_text_less (drop i s) (drop i t) ≡ choose (nat_eq (get_or s i 0) (get_or t i 0)) (is_text_less (drop (suc i) s) (drop (suc i) t)) (nat_lt (get_or s i 0) (get_or t i 0))
both_first s t i h k = ap (λ x. is_text_less x (drop i t)) (drop-cons s i 0 h) ∙ ap (λ x. is_text_less (get_or s i 0 ∷ drop (suc i) s) x) (drop-cons t i 0 k)

unequal : (m n : ℕ) → (m ≡ n → ⊥) → nat_eq m n ≡ false
unequal m n h = go (nat_eq m n) refl
  where
    go : (b : Bool) → nat_eq m n ≡ b → b ≡ false
    go false e = refl
    go true e = absurd (h (eqb-true m n e))

pub less_goes_on : (s t : List ℕ) (i : ℕ) → i < length s → i < length t → get_or s i 0 ≡ get_or t i 0 → is_text_less (drop i s) (drop i t) ≡ is_text_less s t → is_text_less (drop (i + 1) s) (drop (i + 1) t) ≡ is_text_less s t
less_goes_on s t i h k e inv =
    let next : i + 1 ≡ suc i = omega arith in
    ap (λ j. is_text_less (drop j s) (drop j t)) next ∙ sym (ap (λ b. choose b (is_text_less (drop (suc i) s) (drop (suc i) t)) (nat_lt (get_or s i 0) (get_or t i 0))) (eq-eqb (get_or s i 0) (get_or t i 0) e)) ∙ sym (both_first s t i h k) ∙ inv

pub less_differs : (s t : List ℕ) (i : ℕ) → i < length s → i < length t → (get_or s i 0 ≡ get_or t i 0 → ⊥) → is_text_less (drop i s) (drop i t) ≡ is_text_less s t → nat_lt (get_or s i 0) (get_or t i 0) ≡ is_text_less s t
less_differs s t i h k e inv = sym (ap (λ b. choose b (is_text_less (drop (suc i) s) (drop (suc i) t)) (nat_lt (get_or s i 0) (get_or t i 0))) (unequal (get_or s i 0) (get_or t i 0) e)) ∙ sym (both_first s t i h k) ∙ inv

pub less_ends : (s t : List ℕ) (i : ℕ) → i < length s → length t ≤ i → is_text_less (drop i s) (drop i t) ≡ is_text_less s t → false ≡ is_text_less s t
less_ends s t i h k inv = sym (ap (λ x. is_text_less x (drop i t)) (drop-cons s i 0 h) ∙ ap (is_text_less (get_or s i 0 ∷ drop (suc i) s)) (drop_all i t k)) ∙ inv

nothing_less : (t : List ℕ) → is_text_less [] t ≡ nat_lt 0 (length t)
nothing_less [] = refl
nothing_less (y ∷ ys) = sym (lt-ltb 0 (suc (length ys)) (omega arith))

pub less_at_end : (s t : List ℕ) (i : ℕ) → length s ≤ i → i ≤ length s → is_text_less (drop i s) (drop i t) ≡ is_text_less s t → nat_lt (length s) (length t) ≡ is_text_less s t
less_at_end s t i h k inv = by (nat_lt (length s) (length t)) (nat_lt 0 (length (drop i t))) refl refl ∙ sym (ap (λ x. is_text_less x (drop i t)) (drop_all i s h) ∙ nothing_less (drop i t)) ∙ inv
  where
    by : (b c : Bool) → nat_lt (length s) (length t) ≡ b → nat_lt 0 (length (drop i t)) ≡ c → b ≡ c
    by true true e f = refl
    by false false e f = refl
    by true false e f = absurd (omega (arith, h, k, ltb-true (length s) (length t) e, ltb-false 0 (length (drop i t)) f, length-drop i t))
    by false true e f = absurd (omega (arith, h, k, ltb-false (length s) (length t) e, ltb-true 0 (length (drop i t)) f, length-drop i t))
