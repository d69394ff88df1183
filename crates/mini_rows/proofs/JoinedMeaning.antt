-- Two operands that do nothing but give their values mean what one does.
use Rattle.std.proofs.Common.{◌≡◌, ℕ, ℤ, Bool, true, false, List, ◌++◌, Some, None, refl, sym, ap, subst, ◌∙◌, true≢false}
use Rattle.std.specs.Prelude.{pos, negsuc, nat_lt, ◌-◌}
use Rattle.mini_model.specs.declared.operator.BinaryOperator.{BinaryOperator}
use Rattle.mini_model.specs.declared.operator.BinaryOperator.TheVariants as binary_operator
use Rattle.mini_model.specs.declared.place.Position.TheVariants.{Expr}
use Rattle.mini_model.specs.declared.seat.Seat.{Seat}
use Rattle.mini_model.specs.Tree.{Tree}
use Rattle.mini_laws.specs.Value.{Value, Number, String, choose}
use Rattle.mini_laws.specs.State.{State, Completion, stop, either, Environment}
use Rattle.mini_laws.specs.Command.{run}
use Rattle.mini_laws.specs.Conversion.{Made, makes, raises, outside, to_text}
use Rattle.mini_laws.specs.Demand.{Val, As}
use Rattle.mini_laws.specs.Expressions.{operate_by}
use Rattle.mini_laws.specs.Naming.{summary}
use Rattle.mini_laws.specs.Operators.{joined, signed_32}
use Rattle.mini_laws.specs.Rows.{SameAt}
use Rattle.mini_laws.proofs.Runs.{either_cong}
use Rattle.mini_terms.specs.Calculated.{calculated_numbers, operand_value}
use Rattle.mini_terms.specs.Const.{made, binary_value}
use Rattle.mini_terms.specs.Plain.{lit}
use Rattle.mini_rows.specs.Constants.{may_join, RowJoined}
use Rattle.mini_rows.specs.Operands.{beside}
use Rattle.mini_rows.specs.Operators.{is_bitwise, with_number}
use Rattle.mini_rows.specs.Spellings.{binary, numeral, text}
use Rattle.mini_rows.proofs.ChoiceRuns.{value, sides, binary_names, binary_value as binary_opened, operate_by_free}
use Rattle.mini_rows.proofs.ConstantRuns.{operand_done}
use Rattle.mini_rows.proofs.OperandMeaning.{joined_value, text_value_is, number_value}
use Rattle.mini_rows.proofs.OperatorMeaning.{masked_value}
use Rattle.mini_rows.proofs.SequenceMeaning.{same_value}
use Rattle.mini_rows.proofs.SpellAlike.{SameTree}
use Rattle.mini_rows.proofs.SpellMeaning.{tree_same, same_by}
use Rattle.mini_rows.proofs.TemplateMeaning.{with_tail}

nothing : {A : Type 0} {a : A} {B : Type 0} → None ≡ Some a → B
nothing e = cc e

abbrev ends_with : Environment → BinaryOperator → Tree → Tree → Value → Value → State → Completion Value
ends_with e o a b v u y = run {q = λ i. As Val} e (binary_names o a b) (sides e a b) (operate_by o v u) y

-- ---- an operand of the same value in the place of another

module _ (e : Environment) (o : BinaryOperator) where
  after_both : (a b c d : Tree) (v u : Value) (y : State) → ends_with e o a b v u y ≡ ends_with e o c d v u y
  after_both a b c d v u y = operate_by_free e (binary_names o a b) (binary_names o c d) (sides e a b) (sides e c d) o v u y

  in_left : (a b t : Tree) → ((s : State) → value e a s ≡ value e b s) → (s : State) → value e (binary o a t) s ≡ value e (binary o b t) s
  in_left a b t h s =
      binary_opened e o a t s
      ∙ ap (λ c. either c (λ v z. either (value e t z) (λ u y. ends_with e o a t v u y) (λ x y. stop x y)) (λ x z. stop x z)) (h s)
      ∙ either_cong (value e b s) _ _ _ _ (λ v z. either_cong (value e t z) _ _ _ _ (λ u y. after_both a t b t v u y) (λ x y. refl)) (λ x z. refl)
      ∙ sym (binary_opened e o b t s)

  in_right : (a t u : Tree) → ((s : State) → value e t s ≡ value e u s) → (s : State) → value e (binary o a t) s ≡ value e (binary o a u) s
  in_right a t u h s =
      binary_opened e o a t s
      ∙ either_cong (value e a s) _ _ _ _ (λ v z. ap (λ c. either c (λ w y. ends_with e o a t v w y) (λ x y. stop x y)) (h z) ∙ either_cong (value e u z) _ _ _ _ (λ w y. after_both a t a u v w y) (λ x y. refl)) (λ x z. refl)
      ∙ sym (binary_opened e o a u s)

  in_either : (b : Bool) (a t u : Tree) → ((s : State) → value e t s ≡ value e u s) → (s : State) → value e (beside o b a t) s ≡ value e (beside o b a u) s
  in_either true a t u h s = in_right a t u h s
  in_either false a t u h s = in_left t u a h s

-- ---- a text behind which something is added

module _ (a i t : Tree) (s r : List ℕ) (v : Value) (known : operand_value i ≡ Some (String s)) (told : operand_value t ≡ Some v) (reads : made (to_text v) ≡ Some r) where
  text_value : (e : Environment) (z : State) → value e (binary binary_operator.Addition (binary binary_operator.Addition a i) t) z ≡ value e (binary binary_operator.Addition a (text (s ++ r))) z
  text_value e z =
      in_left e binary_operator.Addition (binary binary_operator.Addition a i) (binary binary_operator.Addition a (text s)) t
      (in_right e binary_operator.Addition a i (text s) (λ y. operand_done e i (String s) known y ∙ sym (text_value_is s e y))) z
      ∙ joined_value e a s r t v (λ y. operand_done e t v told y) (λ q y. with_tail e (binary binary_operator.Addition a (text s)) t q v r reads y) z

  text_alike : SameTree (binary binary_operator.Addition (binary binary_operator.Addition a i) t) (binary binary_operator.Addition a (text (s ++ r)))
  text_alike = same_value _ _ refl refl refl text_value

-- ---- numbers

module _ (o : BinaryOperator) (h : is_bitwise o ≡ true) (b : Bool) (a i t : Tree) (c d r : ℤ) (known : operand_value i ≡ Some (Number c)) (told : operand_value t ≡ Some (Number d)) (made_of : calculated_numbers o c d ≡ Some (Number r)) where
  gives : (k : Tree) (n : ℤ) → operand_value k ≡ Some (Number n) → (e : Environment) (z : State) → value e k z ≡ value e (numeral n) z
  gives k n is e z = operand_done e k (Number n) is z ∙ sym (number_value n e z)

  sides_same : (b : Bool) (e : Environment) (z : State) → value e (beside o b a i) z ≡ value e (with_number o b a c) z
  sides_same true e z = in_right e o a i (numeral c) (gives i c known e) z
  sides_same false e z = in_left e o i (numeral c) a (gives i c known e) z

  bits_value : (e : Environment) (z : State) → value e (binary o (beside o b a i) t) z ≡ value e (binary o (with_number o b a c) (numeral d)) z
  bits_value e z = in_left e o (beside o b a i) (with_number o b a c) t (sides_same b e) z ∙ in_right e o (with_number o b a c) t (numeral d) (gives t d told e) z

  bits_alike : SameTree (binary o (beside o b a i) t) (binary o a (numeral r))
  bits_alike = same_value _ _ refl refl refl (λ e z. bits_value e z ∙ masked_value e o h a d r b c made_of z)

-- what an operator of bits makes is a number
whole_is : (n : ℕ) (v : Value) → made (signed_32 n) ≡ Some v → (r : ℤ) × (v ≡ Number r)
whole_is n v e = go (nat_lt n 2_147_483_648) e
  where
    go : (b : Bool) → made (choose b (makes (Number (pos n))) (makes (Number (negsuc (4_294_967_295 - n))))) ≡ Some v → (r : ℤ) × (v ≡ Number r)
    go true e = (pos n, cc e)
    go false e = (negsuc (4_294_967_295 - n), cc e)

-- ---- all

lit_number : (r : ℤ) (w : Tree) (x : Value) → x ≡ Number r → lit x ≡ Some w → w ≡ numeral r
lit_number r w x e h = let same : Some (numeral r) ≡ Some w = sym (ap lit e) ∙ h in cc same

module _ (a i t w : Tree) (x : Value) (written : lit x ≡ Some w) where
  of_bits : (o : BinaryOperator) → is_bitwise o ≡ true → (b : Bool) (c d : ℤ) → operand_value i ≡ Some (Number c) → operand_value t ≡ Some (Number d) → calculated_numbers o c d ≡ Some x → (r : ℤ) × (x ≡ Number r) → SameTree (binary o (beside o b a i) t) (binary o a w)
  of_bits o h b c d known told made_of (r, is) = subst (λ k. SameTree (binary o (beside o b a i) t) (binary o a k)) (sym (lit_number r w x is written)) (bits_alike o h b a i t c d r known told (made_of ∙ ap Some is))

  of_text : (s : List ℕ) (v : Value) → operand_value i ≡ Some (String s) → operand_value t ≡ Some v → made (joined (makes s) (to_text v)) ≡ Some x → SameTree (binary binary_operator.Addition (binary binary_operator.Addition a i) t) (binary binary_operator.Addition a w)
  of_text s v known told e = go (to_text v) refl e
    where
      go : (m : Made (List ℕ)) → to_text v ≡ m → made (joined (makes s) m) ≡ Some x → SameTree (binary binary_operator.Addition (binary binary_operator.Addition a i) t) (binary binary_operator.Addition a w)
      go (makes r) f e =
          let is : x ≡ String (s ++ r) = cc e in
          let same : Some (text (s ++ r)) ≡ Some w = sym (ap lit is) ∙ written in
          let put : text (s ++ r) ≡ w = cc same in
          subst (λ k. SameTree (binary binary_operator.Addition (binary binary_operator.Addition a i) t) (binary binary_operator.Addition a k)) put (text_alike a i t s r v known told (ap made f))
      go raises f e = nothing e
      go outside f e = nothing e

  alike : (o : BinaryOperator) (b : Bool) (u v : Value) → may_join o b u v ≡ true → operand_value i ≡ Some u → operand_value t ≡ Some v → binary_value o u v ≡ Some x → SameTree (binary o (beside o b a i) t) (binary o a w)
  alike binary_operator.Addition true (String s) v h k l e = of_text s v k l e
  alike binary_operator.BitwiseAnd b (Number c) (Number d) h k l e = of_bits binary_operator.BitwiseAnd refl b c d k l e (whole_is _ x e)
  alike binary_operator.BitwiseXor b (Number c) (Number d) h k l e = of_bits binary_operator.BitwiseXor refl b c d k l e (whole_is _ x e)
  alike binary_operator.BitwiseOr b (Number c) (Number d) h k l e = of_bits binary_operator.BitwiseOr refl b c d k l e (whole_is _ x e)
  alike o b u v h k l e = absurd (true≢false (sym h))

joined_alike : (s : Seat) (n w : Tree) → RowJoined s n w → SameTree n w
joined_alike s n w r = same_by n w _ _ r.shape r.written (alike r.operand r.first r.second r.literal r.value r.written_out r.operator r.on_right r.before r.after r.joins r.known r.told r.joined)

pub joined_same : (s : Seat) (n w : Tree) → RowJoined s n w → SameAt (Expr s) n w
joined_same s n w r = tree_same s n w (joined_alike s n w r)

pub joined_read : (s : Seat) (n w : Tree) → RowJoined s n w → summary n ≡ summary w
joined_read s n w r = (joined_alike s n w r).read
