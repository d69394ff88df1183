-- Runs of which the first leaves the model, or both are the same.
use Rattle.std.proofs.Common.{◌≡◌, ℕ, true, refl, sym, subst, inl, inr}
use Rattle.std.specs.Prelude.{◌⊎◌}
use Rattle.mini_laws.specs.Value.{VariableSet}
use Rattle.mini_laws.specs.State.{State, Stop, Completion, ok, stop, halt, out, done, ended, either, Environment}
use Rattle.mini_laws.specs.Demand.{Demand, Request}
use Rattle.mini_laws.specs.Command.{Naming, Command, ret, fails, stuck, op, kid, Kids, act, run}
use Rattle.mini_laws.specs.Same.{Goes, Agree}
use Rattle.mini_laws.proofs.Rows.{goes_refl}
use Rattle.mini_laws.proofs.Runs.{either_out}
use Rattle.mini_terms.proofs.Dropping.{weak}

abbrev pub Weaker : {A : Type 0} → Completion A → Completion A → Type 0
Weaker x y = (x ≡ out) ⊎ (x ≡ y)

-- what goes on after the same
goes_on : {A B : Type 0} (x : Completion A) (f g : A → State → Completion B) (h k : Stop → State → Completion B) → ((a : A) (s : State) → Weaker (f a s) (g a s)) → ((e : Stop) (s : State) → Weaker (h e s) (k e s)) → Weaker (either x f h) (either x g k)
unfolding either
goes_on (ok a s) f g h k p q = p a s
goes_on (stop e s) f g h k p q = q e s
goes_on (halt e s) f g h k p q = inr refl
goes_on out f g h k p q = inr refl

-- and after two of which the first leaves the model, or both are the same
pub weaker_either : {A B : Type 0} (x y : Completion A) (f g : A → State → Completion B) (h k : Stop → State → Completion B) → Weaker x y → ((a : A) (s : State) → Weaker (f a s) (g a s)) → ((e : Stop) (s : State) → Weaker (h e s) (k e s)) → Weaker (either x f h) (either y g k)
weaker_either x y f g h k (inl o) p q = inl (subst (λ z. either z f h ≡ out) (sym o) (either_out f h))
weaker_either x y f g h k (inr e) p q = subst (λ z. Weaker (either x f h) (either z g k)) e (goes_on x f g h k p q)

-- a command over children that are so
module _ (e : Environment) (names : Naming) {q : ℕ → Demand} (K L : Kids q) (near : (i : ℕ) (r : Request (q i)) (s : State) → Weaker (K i r s) (L i r s)) where
  pub weaker_run : {A : Type 0} (c : Command q A) (s : State) → Weaker (run {q = q} e names K c s) (run {q = q} e names L c s)
  weaker_run (ret a) s = inr refl
  weaker_run (fails x) s = inr refl
  weaker_run stuck s = inr refl
  weaker_run (op o c) s = goes_on (act e names o s) _ _ _ _ (λ a z. weaker_run (c (done a)) z) (λ x z. weaker_run (c (ended x)) z)
  weaker_run (kid i r c) s = weaker_either (K i r s) (L i r s) _ _ _ _ (near i r s) (λ a z. weaker_run (c (done a)) z) (λ x z. weaker_run (c (ended x)) z)

-- they go together
pub weaker_goes : {A : Type 0} (D : VariableSet) (x y : Completion A) → Weaker x y → Goes true (λ a. Agree D) (Agree D) (Agree D) x y
weaker_goes D x y (inl o) = subst (λ z. Goes true (λ a. Agree D) (Agree D) (Agree D) z y) (sym o) (weak D y)
weaker_goes D x y (inr e) = subst (λ z. Goes true (λ a. Agree D) (Agree D) (Agree D) x z) e (goes_refl D x)
