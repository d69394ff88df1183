-- What makes a number of 32 bits gives one.
use Rattle.std.proofs.Common.{◌≡◌, ℕ, ℤ, ◌<◌, Bool, true, false, List, refl, sym, subst, true≢false, ltb-true, ltb-false, arith}
use Rattle.std.specs.Prelude.{pos, negsuc, ◌-◌, ◌/◌, ◌*◌, ◌%◌, nat_lt, nat_le, bit_and, bit_or, bit_xor, ◌&&◌, ◌||◌}
use Rattle.std.proofs.Math.Nat.{div-le_self}
use Rattle.std.proofs.lemmas.Bool.{le-leb, lt-ltb}
use Rattle.mini_model.specs.declared.operator.BinaryOperator.{BinaryOperator}
use Rattle.mini_model.specs.declared.operator.BinaryOperator.TheVariants as binary
use Rattle.mini_model.specs.declared.operator.UnaryOperator.TheVariants.{BitwiseNot}
use Rattle.mini_model.specs.declared.shape.Shape.{Shape}
use Rattle.mini_model.specs.declared.shape.Shape.TheVariants as shape
use Rattle.mini_model.specs.declared.name.Name.{Name}
use Rattle.mini_model.specs.Tree.{Trees}
use Rattle.mini_laws.specs.Value.{Value, Number, choose}
use Rattle.mini_laws.specs.Conversion.{Made, makes}
use Rattle.mini_laws.specs.Operators.{of_numbers, of_number, modulo_32, signed_32, shifted_right, two_to}
use Rattle.mini_laws.specs.Demand.{Val, As, OfType, Parts, Texts}
use Rattle.mini_laws.specs.Command.{bind}
use Rattle.mini_laws.specs.Naming.{kinds, facts}
use Rattle.mini_laws.specs.Asking.{demand}
use Rattle.mini_laws.specs.Replies.{numeric, of_made}
use Rattle.mini_laws.specs.Expressions.{unary_step, binary_step, operate_by}
use Rattle.mini_laws.specs.Step.{step, means}
use Rattle.mini_terms.specs.Exact.{is_32, makes_32, int32_by, is_int32_or_uint32}
use Rattle.mini_terms.specs.Kind.{each_kind, nth_kind, is_number}
use Rattle.mini_terms.specs.Int32.{Is32, Int32Sound}
use Rattle.mini_terms.specs.Sound.{Gives}
use Rattle.mini_terms.proofs.Frame.{Yields, yields_all, yields_bind, Facts', Claims, NodeYields, Table, tree_gives}
use Rattle.mini_terms.proofs.KindTable.{Kids, made_yields, replied}
use Rattle.mini_terms.proofs.Made.{MadeIs}

-- numbers

below : (n : ℕ) → n < 4_294_967_296 → nat_le n 4_294_967_295 ≡ true
below n h = le-leb n 4_294_967_295 (omega (arith, h))

above : (n : ℕ) → n < 2_147_483_648 → nat_lt n 2_147_483_648 ≡ true
above n h = lt-ltb n 2_147_483_648 h

modulo_small : (x : ℤ) → modulo_32 x < 4_294_967_296
modulo_small (pos n) = omega arith
modulo_small (negsuc n) = omega arith

signed_is : (n : ℕ) → MadeIs Is32 (signed_32 n)
unfolding MadeIs
signed_is n = go (nat_lt n 2_147_483_648) refl
  where
    go : (b : Bool) → nat_lt n 2_147_483_648 ≡ b → MadeIs Is32 (choose b (makes (Number (pos n))) (makes (Number (negsuc (4_294_967_295 - n)))))
    go true e = below n (omega (arith, ltb-true n 2_147_483_648 e))
    go false e = above (4_294_967_295 - n) (omega (arith, ltb-false n 2_147_483_648 e))

shifted_is : (n k : ℕ) → MadeIs Is32 (shifted_right n k)
unfolding MadeIs
shifted_is n k = go (nat_lt n 2_147_483_648) refl
  where
    go : (b : Bool) → nat_lt n 2_147_483_648 ≡ b → MadeIs Is32 (choose b (makes (Number (pos (n / k)))) (makes (Number (negsuc ((4_294_967_295 - n) / k)))))
    go true e = below (n / k) (omega (arith, ltb-true n 2_147_483_648 e, div-le_self n k))
    go false e = above ((4_294_967_295 - n) / k) (omega (arith, ltb-false n 2_147_483_648 e, div-le_self (4_294_967_295 - n) k))

operated_is : (o : BinaryOperator) → makes_32 o ≡ true → (m n : ℤ) → MadeIs Is32 (of_numbers o m n)
unfolding MadeIs
operated_is binary.BitwiseAnd h m n = signed_is (bit_and (modulo_32 m) (modulo_32 n))
operated_is binary.BitwiseXor h m n = signed_is (bit_xor (modulo_32 m) (modulo_32 n))
operated_is binary.BitwiseOr h m n = signed_is (bit_or (modulo_32 m) (modulo_32 n))
operated_is binary.ShiftLeft h m n = signed_is (modulo_32 m * two_to n % 4_294_967_296)
operated_is binary.ShiftRight h m n = shifted_is (modulo_32 m) (two_to n)
operated_is binary.ShiftRightZeroFill h m n = below (modulo_32 m / two_to n) (omega (arith, modulo_small m, div-le_self (modulo_32 m) (two_to n)))
operated_is o h m n = absurd (true≢false (sym h))

-- commands

numbers_yield : (ks : Kids (λ i. As Val)) (f : ℤ → ℤ → Made Value) → ((m n : ℤ) → MadeIs Is32 (f m n)) → (a b : Value) → Yields {q = λ i. As Val} ks Is32 (bind (numeric a) (λ m. bind (numeric b) (λ n. of_made (f m n))))
numbers_yield ks f h a b =
    yields_bind ks (λ m. Unit {0}) Is32 (numeric a) _ (yields_all ks _ (λ m. tt) _) (λ m u.
    yields_bind ks (λ n. Unit {0}) Is32 (numeric b) _ (yields_all ks _ (λ n. tt) _) (λ n w.
    made_yields _ ks Is32 (f m n) (h m n)))

operate_yields : (o : BinaryOperator) → makes_32 o ≡ true → (ks : Kids (λ i. As Val)) (a b : Value) → Yields {q = λ i. As Val} ks Is32 (operate_by o a b)
operate_yields binary.BitwiseAnd h ks a b = numbers_yield ks (of_numbers binary.BitwiseAnd) (operated_is binary.BitwiseAnd h) a b
operate_yields binary.BitwiseXor h ks a b = numbers_yield ks (of_numbers binary.BitwiseXor) (operated_is binary.BitwiseXor h) a b
operate_yields binary.BitwiseOr h ks a b = numbers_yield ks (of_numbers binary.BitwiseOr) (operated_is binary.BitwiseOr h) a b
operate_yields binary.ShiftLeft h ks a b = numbers_yield ks (of_numbers binary.ShiftLeft) (operated_is binary.ShiftLeft h) a b
operate_yields binary.ShiftRight h ks a b = numbers_yield ks (of_numbers binary.ShiftRight) (operated_is binary.ShiftRight h) a b
operate_yields binary.ShiftRightZeroFill h ks a b = numbers_yield ks (of_numbers binary.ShiftRightZeroFill) (operated_is binary.ShiftRightZeroFill h) a b
operate_yields o h ks a b = absurd (true≢false (sym h))

inverse_yields : (ks : Kids (λ i. As Val)) → Yields {q = λ i. As Val} ks Is32 (unary_step BitwiseNot)
unfolding Yields
inverse_yields ks = (λ v t. yields_bind ks (λ n. Unit {0}) Is32 (numeric v) _ (yields_all ks _ (λ n. tt) _) (λ n u. made_yields _ ks Is32 (of_number BitwiseNot n) (signed_is (4_294_967_295 - modulo_32 n))), λ x. tt)

-- what is known: nothing of what makes no such number
abbrev Known : Bool → Value → Type 0
Known true v = Is32 v
Known false v = Unit {0}

abbrev int32_facts : Facts'
int32_facts = record { Fact = Bool; top = false; fact = is_int32_or_uint32; Is = Known; any = λ v. tt; AreTexts = λ t ss. Unit {0} }

-- the table

module _ (xs : List Name) (n : ℕ) (ts : Trees) where
  abbrev of_kids : (h : Shape) → Kids (demand h (facts ts) (As Val))
  of_kids h = Claims int32_facts ts (demand h (facts ts) (As Val))

  numeral : (m : ℤ) (b : Bool) → is_32 m ≡ b → Known b (Number m)
  numeral m true e = e
  numeral m false e = tt

  inverse : (b : Bool) → Yields {q = demand (shape.UnaryExpression BitwiseNot) (facts ts) (As Val)} (of_kids (shape.UnaryExpression BitwiseNot)) (Known b) (step (shape.UnaryExpression BitwiseNot) (kinds xs) (facts ts) (As Val) tt)
  unfolding Yields step
  inverse true = replied _ (of_kids (shape.UnaryExpression BitwiseNot)) Is32 (unary_step BitwiseNot) (inverse_yields _)
  inverse false = yields_all {q = demand (shape.UnaryExpression BitwiseNot) (facts ts) (As Val)} (of_kids (shape.UnaryExpression BitwiseNot)) (λ v. Unit {0}) (λ v. tt) (step (shape.UnaryExpression BitwiseNot) (kinds xs) (facts ts) (As Val) tt)

  operator : (o : BinaryOperator) (b c : Bool) → makes_32 o ≡ b → Yields {q = demand (shape.BinaryExpression o) (facts ts) (As Val)} (of_kids (shape.BinaryExpression o)) (Known (b && c)) (step (shape.BinaryExpression o) (kinds xs) (facts ts) (As Val) tt)
  unfolding Yields step
  operator o true true e = replied _ (of_kids (shape.BinaryExpression o)) Is32 (binary_step o) (λ a p. (λ b q. operate_yields o e _ a b, λ x. tt), λ x. tt)
  operator o true false e = yields_all {q = demand (shape.BinaryExpression o) (facts ts) (As Val)} (of_kids (shape.BinaryExpression o)) (λ v. Unit {0}) (λ v. tt) (step (shape.BinaryExpression o) (kinds xs) (facts ts) (As Val) tt)
  operator o false c e = yields_all {q = demand (shape.BinaryExpression o) (facts ts) (As Val)} (of_kids (shape.BinaryExpression o)) (λ v. Unit {0}) (λ v. tt) (step (shape.BinaryExpression o) (kinds xs) (facts ts) (As Val) tt)

  value : (h : Shape) → NodeYields int32_facts (As Val) tt h xs n ts
  unfolding Yields step
  value (shape.NumericLiteral m) = numeral m (is_32 m) refl
  value (shape.UnaryExpression BitwiseNot) = inverse (int32_by (shape.UnaryExpression BitwiseNot) (each_kind ts))
  value (shape.BinaryExpression o) = operator o (makes_32 o) (is_number (nth_kind (each_kind ts) 0) || is_number (nth_kind (each_kind ts) 1)) refl
  value h = yields_all {q = demand h (facts ts) (As Val)} (of_kids h) (λ v. Unit {0}) (λ v. tt) (step h (kinds xs) (facts ts) (As Val) tt)

  last : (h : Shape) → NodeYields int32_facts (Parts Val) tt h xs n ts
  unfolding Yields step
  last (shape.NumericLiteral m) = tt
  last (shape.UnaryExpression o) = tt
  last (shape.BinaryExpression o) = tt
  last h = yields_all {q = demand h (facts ts) (Parts Val)} (Claims int32_facts ts (demand h (facts ts) (Parts Val))) (λ v. Unit {0}) (λ v. tt) (step h (kinds xs) (facts ts) (Parts Val) tt)

  texts : (h : Shape) → NodeYields int32_facts Texts tt h xs n ts
  texts h = yields_all {q = demand h (facts ts) Texts} (Claims int32_facts ts (demand h (facts ts) Texts)) (λ ss. Unit {0}) (λ ss. tt) (step h (kinds xs) (facts ts) Texts tt)

  of_type : (h : Shape) → NodeYields int32_facts OfType tt h xs n ts
  unfolding Yields step
  of_type (shape.NumericLiteral m) = numeral m (is_32 m) refl
  of_type (shape.UnaryExpression BitwiseNot) = value (shape.UnaryExpression BitwiseNot)
  of_type (shape.BinaryExpression o) = value (shape.BinaryExpression o)
  of_type h = yields_all {q = demand h (facts ts) OfType} (Claims int32_facts ts (demand h (facts ts) OfType)) (λ v. Unit {0}) (λ v. tt) (step h (kinds xs) (facts ts) OfType tt)

int32_table : Table int32_facts
int32_table = record { value = λ h xs n ts. value xs n ts h; last = λ h xs n ts. last xs n ts h; texts = λ h xs n ts. texts xs n ts h; of_type = λ h xs n ts. of_type xs n ts h }

pub int32_sound : Int32Sound
int32_sound n e s h = subst (λ b. Gives (Known b) (means e n (As Val) tt s)) h (tree_gives int32_facts int32_table e n (As Val) tt s)
