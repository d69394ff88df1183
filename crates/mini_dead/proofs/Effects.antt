-- Initializers without effects.
use Rattle.std.proofs.Common.{refl, sym, true≢false}
use Rattle.std.specs.Prelude.{◌≡◌, ◌||◌, ℕ, Bool, true, false, List}
use Rattle.mini_model.specs.declared.name.Name.{Name}
use Rattle.mini_model.specs.declared.shape.Shape.{Shape}
use Rattle.mini_model.specs.declared.shape.Shape.TheVariants as shape
use Rattle.mini_model.specs.Tree.{Tree, Trees, node, is_absent_shape}
use Rattle.mini_laws.specs.State.{State, Environment}
use Rattle.mini_laws.specs.Demand.{Val, As}
use Rattle.mini_laws.specs.Step.{step, means}
use Rattle.mini_terms.specs.Effects.{ef}
use Rattle.mini_terms.specs.Sound.{Quiet}
use Rattle.mini_terms.proofs.EffectsTable.{effect_free_sound}
use Rattle.mini_dead.specs.Dead.{is_without_effect}

absent_still : (e : Environment) (h : Shape) (xs : List Name) (n : ℕ) (ts : Trees) → is_absent_shape h ≡ true → (s : State) → Quiet s (means e (node h xs n ts) (As Val) tt s)
unfolding Quiet means step
absent_still e shape.Absent xs n ts p s = refl
absent_still e h xs n ts p s = absurd (true≢false (sym p))

pub without_effect_still : (e : Environment) (t : Tree) → is_without_effect t ≡ true → (s : State) → Quiet s (means e t (As Val) tt s)
without_effect_still e (node h xs n ts) p s = by (is_absent_shape h) refl p
  where
    by : (b : Bool) → is_absent_shape h ≡ b → (b || ef true (node h xs n ts)) ≡ true → Quiet s (means e (node h xs n ts) (As Val) tt s)
    by true q r = absent_still e h xs n ts q s
    by false q r = effect_free_sound (node h xs n ts) e true (λ k. absurd (true≢false k)) r Val s
