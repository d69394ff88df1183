-- A conditional whose test has no effect means what its branches do, where both are the same.
use Rattle.std.proofs.Common.{◌≡◌, Bool, true, false, refl, sym, subst, ◌∙◌, true≢false}
use Rattle.mini_model.specs.Tree.{Tree, conditional}
use Rattle.mini_laws.specs.Value.{VariableSet, Value, choose, truth}
use Rattle.mini_laws.specs.State.{Completion, ok, stop, halt, out, either, State, Environment}
use Rattle.mini_laws.specs.Demand.{Want, Val, As}
use Rattle.mini_laws.specs.Step.{means}
use Rattle.mini_laws.specs.Same.{Goes, Agree}
use Rattle.mini_laws.proofs.Rows.{goes_refl}
use Rattle.mini_laws.proofs.Runs.{either_cong}
use Rattle.mini_terms.specs.Folds.{is_effect_free}
use Rattle.mini_terms.specs.Reading.{SameWanted}
use Rattle.mini_terms.specs.Sound.{Quiet}
use Rattle.mini_terms.proofs.Dropping.{weak}
use Rattle.mini_terms.proofs.EffectsTable.{effect_free_sound}
use Rattle.mini_terms.proofs.Opened.{after, conditional_opened}

either_way : {A : Type 0} (b : Bool) (y : Completion A) → choose b y y ≡ y
either_way true y = refl
either_way false y = refl

module _ (D : VariableSet) where
  abbrev Near : {A : Type 0} → Completion A → Completion A → Type 0
  Near x y = Goes true (λ a. Agree D) (Agree D) (Agree D) x y

  -- after what is quiet all goes as without it
  quiet_then : {B : Type 0} (s : State) (x : Completion Value) (f : State → Completion B) → Quiet s x → Near (after x (λ v z. f z)) (f s)
  unfolding Quiet either
  quiet_then s (ok v t) f q = subst (λ z. Near (f z) (f s)) (sym q) (goes_refl D (f s))
  quiet_then s (stop y t) f q = absurd q
  quiet_then s (halt y t) f q = absurd q
  quiet_then s out f q = weak D (f s)

  module _ (e : Environment) (a b : Tree) (h : is_effect_free a ≡ true) where
    branch_after : (w : Want) (s : State) → means e (conditional a b b) (As w) tt s ≡ after (means e a (As Val) tt s) (λ v z. means e b (As w) tt z)
    branch_after w s = conditional_opened e a b b w s ∙ either_cong (means e a (As Val) tt s) _ _ _ _ (λ v z. either_way (truth v) (means e b (As w) tt z)) (λ y z. refl)

    branch_near : (w : Want) (s : State) → Near (means e (conditional a b b) (As w) tt s) (means e b (As w) tt s)
    branch_near w s =
        subst (λ x. Near x (means e b (As w) tt s)) (sym (branch_after w s))
        (quiet_then s (means e a (As Val) tt s) (λ z. means e b (As w) tt z) (effect_free_sound a e true (λ f. absurd (true≢false f)) h Val s))

pub branch_same : (a b : Tree) → is_effect_free a ≡ true → SameWanted (conditional a b b) b
branch_same a b h e D X w = record { by = λ r s i. branch_near D e a b h w s }
