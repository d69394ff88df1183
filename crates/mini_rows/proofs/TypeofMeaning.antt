-- What a comparison of `typeof` with `"undefined"` gives is what one of the value with `void 0` gives.
use Rattle.std.proofs.Common.{◌≡◌, ℕ, true, false, List, refl, sym, ap, ◌∙◌, true≢false}
use Rattle.std.specs.Prelude.{codes}
use Rattle.mini_model.specs.declared.operator.BinaryOperator.{BinaryOperator}
use Rattle.mini_model.specs.declared.operator.BinaryOperator.TheVariants.{Equality, Inequality, StrictEquality, StrictInequality}
use Rattle.mini_model.specs.declared.operator.UnaryOperator.TheVariants.{Typeof}
use Rattle.mini_model.specs.Tree.{Tree, unary}
use Rattle.mini_model.specs.Position.{is_equality}
use Rattle.mini_laws.specs.Value.{Value, Undefined, Null, Boolean, Number, String, Symbol, Object}
use Rattle.mini_laws.specs.Operators.{type_text}
use Rattle.mini_laws.specs.State.{State, Completion, ok, stop, halt, out, either, Environment}
use Rattle.mini_laws.specs.Demand.{Val, As, OfType}
use Rattle.mini_laws.specs.Command.{run}
use Rattle.mini_laws.specs.Expressions.{operate_by}
use Rattle.mini_laws.specs.Step.{step, means, meaning}
use Rattle.mini_laws.proofs.Runs.{either_ok}
use Rattle.mini_terms.specs.Reading.{by_value, is_typed_by_value}
use Rattle.mini_terms.proofs.Reading.{read_by_value, typed_by_value}
use Rattle.mini_rows.specs.Spellings.{text, void_zero, binary, strict_operator}
use Rattle.mini_rows.proofs.ChoiceRuns.{value, sides, binary_names, binary_value}
use Rattle.mini_rows.proofs.SpellAlike.{SameTree}

-- what an operator does after both operands
abbrev ends_with : Environment → BinaryOperator → Tree → Tree → Value → Value → State → Completion Value
ends_with e o a b v u y = run {q = λ i. As Val} e (binary_names o a b) (sides e a b) (operate_by o v u) y

module _ (e : Environment) (a b c d : Tree) where
  -- beside each text that `typeof` gives
  abbrev Told : BinaryOperator → Value → Type 0
  Told o v = (y : State) → ends_with e o a b (String (type_text v)) (String (codes "undefined")) y ≡ ends_with e (strict_operator o) c d v Undefined y

  equal_told : (v : Value) → Told Equality v
  equal_told Undefined y = refl
  equal_told Null y = refl
  equal_told (Boolean b) y = refl
  equal_told (Number n) y = refl
  equal_told (String s) y = refl
  equal_told (Symbol n) y = refl
  equal_told (Object n true) y = refl
  equal_told (Object n false) y = refl

  unequal_told : (v : Value) → Told Inequality v
  unequal_told Undefined y = refl
  unequal_told Null y = refl
  unequal_told (Boolean b) y = refl
  unequal_told (Number n) y = refl
  unequal_told (String s) y = refl
  unequal_told (Symbol n) y = refl
  unequal_told (Object n true) y = refl
  unequal_told (Object n false) y = refl

  strictly_told : (v : Value) → Told StrictEquality v
  strictly_told Undefined y = refl
  strictly_told Null y = refl
  strictly_told (Boolean b) y = refl
  strictly_told (Number n) y = refl
  strictly_told (String s) y = refl
  strictly_told (Symbol n) y = refl
  strictly_told (Object n true) y = refl
  strictly_told (Object n false) y = refl

  differently_told : (v : Value) → Told StrictInequality v
  differently_told Undefined y = refl
  differently_told Null y = refl
  differently_told (Boolean b) y = refl
  differently_told (Number n) y = refl
  differently_told (String s) y = refl
  differently_told (Symbol n) y = refl
  differently_told (Object n true) y = refl
  differently_told (Object n false) y = refl

  told : (o : BinaryOperator) → is_equality o ≡ true → (v : Value) → Told o v
  told Equality h = equal_told
  told Inequality h = unequal_told
  told StrictEquality h = strictly_told
  told StrictInequality h = differently_told
  told o h = absurd (true≢false (sym h))

typeof_opened : (e : Environment) (a : Tree) (s : State) → value e (unary Typeof a) s ≡ either (means e a OfType tt s) (λ v y. ok (String (type_text v)) y) (λ x y. stop x y)
unfolding means meaning step
typeof_opened e a s = refl

text_value : (e : Environment) (s : List ℕ) (y : State) → value e (text s) y ≡ ok (String s) y
unfolding means meaning step either
text_value e s y = refl

void_value : (e : Environment) (y : State) → value e void_zero y ≡ ok Undefined y
unfolding means meaning step either
void_value e y = refl

typed_then : (x : Completion Value) (f g : Value → State → Completion Value) → ((v : Value) (y : State) → f (String (type_text v)) y ≡ g v y) → either (either x (λ v y. ok (String (type_text v)) y) (λ x y. stop x y)) f (λ x y. stop x y) ≡ either x g (λ x y. stop x y)
unfolding either
typed_then (ok v s) f g h = h v s
typed_then (stop x s) f g h = refl
typed_then (halt x s) f g h = refl
typed_then out f g h = refl

module _ (e : Environment) (o : BinaryOperator) (h : is_equality o ≡ true) (a : Tree) (p : is_typed_by_value a ≡ true) where
  abbrev typed : Tree
  typed = unary Typeof a

  abbrev long : Tree
  long = text (codes "undefined")

  abbrev after_type : Value → State → Completion Value
  after_type v y = either (value e long y) (λ u z. ends_with e o typed long v u z) (λ x z. stop x z)

  abbrev after_value : Value → State → Completion Value
  after_value v y = either (value e void_zero y) (λ u z. ends_with e (strict_operator o) a void_zero v u z) (λ x z. stop x z)

  after_same : (v : Value) (y : State) → after_type (String (type_text v)) y ≡ after_value v y
  after_same v y =
      ap (λ x. either x (λ u z. ends_with e o typed long (String (type_text v)) u z) (λ x z. stop x z)) (text_value e (codes "undefined") y)
      ∙ either_ok (String (codes "undefined")) y _ _
      ∙ told e typed long a void_zero o h v y
      ∙ sym (ap (λ x. either x (λ u z. ends_with e (strict_operator o) a void_zero v u z) (λ x z. stop x z)) (void_value e y) ∙ either_ok Undefined y _ _)

  compared_value : (s : State) → value e (binary o typed long) s ≡ value e (binary (strict_operator o) a void_zero) s
  compared_value s =
      binary_value e o typed long s
      ∙ ap (λ x. either x after_type (λ x y. stop x y)) (typeof_opened e a s)
      ∙ typed_then (means e a OfType tt s) after_type after_value after_same
      ∙ ap (λ x. either x after_value (λ x y. stop x y)) (typed_by_value a p e s)
      ∙ sym (binary_value e (strict_operator o) a void_zero s)

-- 55, of what `typeof` reads by its value
pub typed_same : (o : BinaryOperator) → is_equality o ≡ true → (a : Tree) → is_typed_by_value a ≡ true → SameTree (binary o (unary Typeof a) (text (codes "undefined"))) (binary (strict_operator o) a void_zero)
typed_same o h a p = record {
  by = λ e q r s. read_by_value (binary o (unary Typeof a) (text (codes "undefined"))) refl e q r s ∙ ap (by_value q r) (compared_value e o h a p s) ∙ sym (read_by_value (binary (strict_operator o) a void_zero) refl e q r s);
  read = refl;
}
