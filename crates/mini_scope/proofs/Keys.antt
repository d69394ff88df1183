-- The field that holds a child: one past the fourth has that of the fourth. And the step to it, where a node is no list.
use Rattle.std.specs.Prelude.{ℕ, zero, suc, ◌∷◌, ◌≡◌, ◌≤◌, refl}
use Rattle.std.proofs.Common.{arith}
use Rattle.mini_model.specs.declared.shape.Shape.{Shape}
use Rattle.mini_model.specs.declared.shape.Shape.TheVariants as shape
use Rattle.mini_scope.specs.Pointers.{key_of, step_text}

pub last_key : (h : Shape) (i : ℕ) → 3 ≤ i → key_of h 3 ≡ key_of h i
last_key h zero e = absurd (omega (arith, e))
last_key h (suc zero) e = absurd (omega (arith, e))
last_key h (suc (suc zero)) e = absurd (omega (arith, e))
last_key (shape.Program m ds) (suc (suc (suc i))) e = refl
last_key h (suc (suc (suc i))) e = refl

pub other_step : (h : Shape) (shift i : ℕ) → (h ≡ shape.Listed → ⊥) → (h ≡ shape.InnerExpression → ⊥) → 47 ∷ key_of h i ≡ step_text h shift i
other_step shape.Listed shift i n m = absurd (n refl)
other_step shape.InnerExpression shift i n m = absurd (m refl)
other_step h shift i n m = refl
