-- Of two values of one Kind a loose equality says what the strict one does.
use Rattle.std.proofs.Common.{◌≡◌, Bool, true, false, [], Some, refl, sym, subst, true≢false}
use Rattle.std.specs.Prelude.{not}
use Rattle.mini_model.specs.declared.operator.BinaryOperator.{BinaryOperator}
use Rattle.mini_model.specs.declared.operator.BinaryOperator.TheVariants.{Equality, Inequality, StrictEquality, StrictInequality}
use Rattle.mini_model.specs.declared.shape.Shape.TheVariants as shape
use Rattle.mini_model.specs.Tree.{Tree, none, ◌▸◌}
use Rattle.mini_laws.specs.Value.{Value, Undefined, Null, Boolean, Number, String, Object}
use Rattle.mini_laws.specs.Operators.{strictly_equal}
use Rattle.mini_laws.specs.State.{State, Environment}
use Rattle.mini_laws.specs.Demand.{Val, Demand, As, Request}
use Rattle.mini_laws.specs.Command.{Naming, Command, ret, Kids}
use Rattle.mini_laws.specs.Naming.{summaries, naming}
use Rattle.mini_laws.specs.Replies.{loosely}
use Rattle.mini_laws.specs.Expressions.{operate_by, binary_step}
use Rattle.mini_laws.specs.Step.{step, means, meaning}
use Rattle.mini_terms.specs.declared.kinds.Kind.{Kind}
use Rattle.mini_terms.specs.declared.kinds.Kind.TheVariants.{Undefined as IsUndefined, Null as IsNull, Boolean as IsBoolean, Number as IsNumber, BigInt as IsBigInt, String as IsString, Object as IsObject, Undetermined}
use Rattle.mini_terms.specs.Kind.{common, kind, OfKind}
use Rattle.mini_terms.specs.Folds.{is_known, has_one_kind}
use Rattle.mini_terms.proofs.Dropping.{after_cong}
use Rattle.mini_terms.proofs.KindTable.{kind_sound}
use Rattle.mini_rows.specs.Folding.{loosened}
use Rattle.mini_rows.specs.Spellings.{binary}
use Rattle.mini_rows.proofs.SpellAlike.{SameTree, Alike, bind_alike, valued_alike}

one_kind : (j k : Kind) → is_known (common j k) ≡ true → j ≡ k
one_kind IsUndefined IsUndefined e = refl
one_kind IsNull IsNull e = refl
one_kind IsBoolean IsBoolean e = refl
one_kind IsNumber IsNumber e = refl
one_kind IsBigInt IsBigInt e = refl
one_kind IsString IsString e = refl
one_kind IsObject IsObject e = refl
one_kind j k e = absurd (true≢false (sym e))

common_known : (k : Kind) → is_known (common k k) ≡ true → is_known k ≡ true
common_known Undetermined e = e
common_known k e = refl

module _ (e : Environment) (names : Naming) (K L : Kids (λ i. As Val)) where
  abbrev Both : {A : Type 0} → Command (λ i. As Val) A → Command (λ i. As Val) A → Type 0
  Both c d = Alike e names (λ i. As Val) K L c d

  booleans : (b c : Bool) → Both (ret (strictly_equal (Boolean b) (Boolean c))) (loosely (Boolean b) (Boolean c))
  booleans true true z = refl
  booleans true false z = refl
  booleans false true z = refl
  booleans false false z = refl

  of_one_kind : (k : Kind) → is_known k ≡ true → (v u : Value) → OfKind k v → OfKind k u → Both (ret (strictly_equal v u)) (loosely v u)
  of_one_kind IsUndefined e Undefined Undefined h i = λ z. refl
  of_one_kind IsNull e Null Null h i = λ z. refl
  of_one_kind IsBoolean e (Boolean b) (Boolean c) h i = booleans b c
  of_one_kind IsNumber e (Number m) (Number n) h i = λ z. refl
  of_one_kind IsString e (String s) (String t) h i = λ z. refl
  of_one_kind IsObject e (Object m f) (Object n g) h i = λ z. refl
  of_one_kind Undetermined e v u h i = absurd (true≢false (sym e))
  of_one_kind IsUndefined e Undefined u h i = absurd i
  of_one_kind IsNull e Null u h i = absurd i
  of_one_kind IsBoolean e (Boolean b) u h i = absurd i
  of_one_kind IsNumber e (Number m) u h i = absurd i
  of_one_kind IsString e (String s) u h i = absurd i
  of_one_kind IsObject e (Object m f) u h i = absurd i
  of_one_kind k e v u h i = absurd h

  abbrev OperatedAs : Value → Value → BinaryOperator → BinaryOperator → Type 0
  OperatedAs v u o p = Both (operate_by o v u) (operate_by p v u)

  operated : (o p : BinaryOperator) → loosened o ≡ Some p → (v u : Value) → Both (ret (strictly_equal v u)) (loosely v u) → OperatedAs v u o p
  operated StrictEquality p l v u h = subst (OperatedAs v u StrictEquality) {x = Equality} {y = p} (cc l) (bind_alike e names (λ i. As Val) K L (ret (strictly_equal v u)) (loosely v u) (λ c. ret (Boolean c)) (λ c. ret (Boolean c)) h (λ c z. refl))
  operated StrictInequality p l v u h = subst (OperatedAs v u StrictInequality) {x = Inequality} {y = p} (cc l) (bind_alike e names (λ i. As Val) K L (ret (strictly_equal v u)) (loosely v u) (λ c. ret (Boolean (not c))) (λ c. ret (Boolean (not c))) h (λ c z. refl))
  operated o p l v u h = absurd (cc l)

module _ (o p : BinaryOperator) (l : loosened o ≡ Some p) (a b : Tree) (k : has_one_kind a b ≡ true) where
  abbrev sides : Environment → Kids (λ i. As Val)
  sides e i r z = meaning e (a ▸ b ▸ none) i (As Val) r z

  alike : kind a ≡ kind b
  alike = one_kind (kind a) (kind b) k

  known : is_known (kind a) ≡ true
  known = common_known (kind a) (subst (λ j. is_known (common (kind a) j) ≡ true) (sym alike) k)

  equality_step : (e : Environment) (names : Naming) → Alike e names (λ i. As Val) (sides e) (sides e) (binary_step o) (binary_step p)
  unfolding meaning
  equality_step e names z =
      after_cong (OfKind (kind a)) (means e a (As Val) tt z) _ _ (kind_sound a e z)
      (λ v h y. after_cong (OfKind (kind b)) (means e b (As Val) tt y) _ _ (kind_sound b e y)
      (λ u i w. operated e names (sides e) (sides e) o p l v u (of_one_kind e names (sides e) (sides e) (kind a) known v u h (subst (λ j. OfKind j u) (sym alike) i)) w))

  equality_does : (e : Environment) (q : Demand) (r : Request q) (z : State) → means e (binary o a b) q r z ≡ means e (binary p a b) q r z
  unfolding means step
  equality_does e q r z = valued_alike e (naming (shape.BinaryExpression o) q [] 0 (summaries (a ▸ b ▸ none))) (λ i. As Val) (sides e) (sides e) q r (binary_step o) (binary_step p) (equality_step e (naming (shape.BinaryExpression o) q [] 0 (summaries (a ▸ b ▸ none)))) z

  pub equality_same : SameTree (binary o a b) (binary p a b)
  equality_same = record { by = equality_does; read = refl }
