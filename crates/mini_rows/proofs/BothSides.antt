-- A logical expression whose left side is known to let the right one be evaluated means both in order.
use Rattle.std.proofs.Common.{◌≡◌, Bool, true, false, Option, Some, None, refl, sym, ap, ◌∙◌, true≢false}
use Rattle.std.specs.Prelude.{not}
use Rattle.mini_model.specs.declared.operator.LogicalOperator.{LogicalOperator}
use Rattle.mini_model.specs.declared.operator.LogicalOperator.TheVariants.{Or, And, Coalesce}
use Rattle.mini_model.specs.Tree.{Tree, logical}
use Rattle.mini_laws.specs.Value.{Value, Undefined, Null, choose, truth, is_nullish}
use Rattle.mini_laws.specs.State.{State, ok, Environment}
use Rattle.mini_laws.specs.Targets.{assigns}
use Rattle.mini_terms.specs.declared.kinds.Kind.{Kind}
use Rattle.mini_terms.specs.declared.kinds.Kind.TheVariants.{Undefined as IsUndefined, Null as IsNull}
use Rattle.mini_terms.specs.Kind.{is_nullish_kind, kind, OfKind}
use Rattle.mini_terms.specs.Evident.{evident_truth}
use Rattle.mini_terms.specs.Folds.{is_true, is_false, goes_on}
use Rattle.mini_terms.specs.Sound.{Gives}
use Rattle.mini_terms.proofs.Frame.{gives_map}
use Rattle.mini_terms.proofs.KindTable.{kind_sound}
use Rattle.mini_terms.proofs.Evidence.{evident_is}
use Rattle.mini_terms.proofs.Dropping.{after_cong}
use Rattle.mini_rows.specs.Choices.{pair, Row13Both}
use Rattle.mini_rows.proofs.ChoiceRuns.{value, by_value, logical_tells, pair_tells, logical_value, pair_value}
use Rattle.mini_rows.proofs.SpellAlike.{SameTree}
use Rattle.mini_rows.proofs.SpellMeaning.{same_by}

true_is : (o : Option Bool) → is_true o ≡ true → o ≡ Some true
true_is (Some true) h = refl
true_is (Some false) h = absurd (true≢false (sym h))
true_is None h = absurd (true≢false (sym h))

false_is : (o : Option Bool) → is_false o ≡ true → o ≡ Some false
false_is (Some false) h = refl
false_is (Some true) h = absurd (true≢false (sym h))
false_is None h = absurd (true≢false (sym h))

pub nullish_of : (k : Kind) (v : Value) → is_nullish_kind k ≡ true → OfKind k v → is_nullish v ≡ true
nullish_of IsUndefined Undefined h p = refl
nullish_of IsUndefined v h p = absurd p
nullish_of IsNull Null h p = refl
nullish_of IsNull v h p = absurd p
nullish_of k v h p = absurd (true≢false (sym h))

module _ (e : Environment) (a b : Tree) where
  -- each value that the left side gives lets the right one be evaluated
  always : (o : LogicalOperator) → goes_on o a ≡ true → (s : State) → Gives (λ v. assigns o v ≡ true) (value e a s)
  always And h s = evident_is a true (true_is (evident_truth a) h) e s
  always Or h s = gives_map (λ v. truth v ≡ false) (λ v. not (truth v) ≡ true) (λ v p. ap not p) (value e a s) (evident_is a false (false_is (evident_truth a) h) e s)
  always Coalesce h s = gives_map (OfKind (kind a)) (λ v. is_nullish v ≡ true) (λ v p. nullish_of (kind a) v h p) (value e a s) (kind_sound a e s)

  both_value : (o : LogicalOperator) → goes_on o a ≡ true → (s : State) → value e (logical o a b) s ≡ value e (pair a b) s
  both_value o h s =
      logical_value e o a b s
      ∙ after_cong (λ v. assigns o v ≡ true) (value e a s) _ _ (always o h s) (λ v p z. ap (λ c. choose c (value e b z) (ok v z)) p)
      ∙ sym (pair_value e a b s)

pub both_sides_same : (n w : Tree) → Row13Both n w → SameTree n w
both_sides_same n w r =
    same_by n w _ _ r.shape r.written
    (by_value _ _ (logical_tells r.operator r.left r.right) (pair_tells r.left r.right) refl (λ e s. both_value e r.left r.right r.operator r.known s))
