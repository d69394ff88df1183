-- A step in the own code of a body is one of the body that is read again.
use Rattle.std.specs.Prelude.{◌≡◌, refl, ℕ, suc}
use Rattle.std.proofs.Common.{ap, ◌∙◌, sym, subst}
use Rattle.mini_kept.specs.Without.{Assured}
use Rattle.mini_laws.specs.Naming.{summaries}
use Rattle.mini_laws.specs.Renaming.{rename_variable}
use Rattle.mini_laws.specs.Value.{Variable, Declared, Global, VariableSet}
use Rattle.mini_model.specs.declared.place.Position.{Position}
use Rattle.mini_model.specs.Position.{child_position}
use Rattle.mini_model.specs.Tree.{Tree, Trees}
use Rattle.mini_rows.specs.Steady.{Begun, begun_at, OwnRows, OwnStep, own_here, own_inside, OwnStepIn, own_first, own_later, own_rows, known_in, valued, Symbols}
use Rattle.mini_again.specs.Again.{Renaming, again, all_again, with_others_in, assured_with_others}
use Rattle.mini_again.specs.Families.{OwnSurvives}
use Rattle.mini_again.proofs.ModelTreeAgain.{count_again}
use Rattle.mini_again.proofs.PastAgain.{binds_again}
use Rattle.mini_again.proofs.SteadyAgain.{bindings_again}
use Rattle.mini_again.proofs.Summaries.{begun_with_others, begun_at_again}

module _ (ρ : Renaming) (R Q : Begun → Position → Tree → Tree → Type 0) (e : (L : Begun) (p : Position) (n w : Tree) → R (begun_with_others ρ L) p n w → Q L p (again ρ n) (again ρ w)) where
  mutual
    step_again : {K : Begun} {p : Position} {n w : Tree} → OwnStep R K p n w → (L : Begun) → K ≡ begun_with_others ρ L → OwnStep Q L p (again ρ n) (again ρ w)
    step_again (own_here K p n w r) L q = own_here L p (again ρ n) (again ρ w) (e L p n w (subst (λ J. R J p n w) q r))
    step_again (own_inside K p h xs ts us c s) L q =
        own_inside L p h _ (all_again ρ ts) (all_again ρ us) c
        (subst (λ k. OwnStepIn Q (begun_at h p L (summaries (all_again ρ ts))) (child_position h p k) (all_again ρ ts) (all_again ρ us)) (sym (count_again ρ ts))
        (steps_again s (begun_at h p L (summaries (all_again ρ ts))) (λ i. ap (λ J. begun_at h p J (summaries ts) i) q ∙ begun_at_again ρ h p L ts i)))

    steps_again : {Λ : ℕ → Begun} {π : ℕ → Position} {ts us : Trees} → OwnStepIn R Λ π ts us → (Ω : ℕ → Begun) → ((i : ℕ) → Λ i ≡ begun_with_others ρ (Ω i)) → OwnStepIn Q Ω π (all_again ρ ts) (all_again ρ us)
    steps_again (own_first Λ π t u ts s) Ω q = own_first Ω π (again ρ t) (again ρ u) (all_again ρ ts) (step_again s (Ω 0) (q 0))
    steps_again (own_later Λ π t ts us s) Ω q = own_later Ω π (again ρ t) (all_again ρ ts) (all_again ρ us) (steps_again s (λ i. Ω (suc i)) (λ i. q (suc i)))

-- ---- what is known at a node

valued_again : (ρ : Renaming) (t : Tree) (L : Symbols) (X : VariableSet) (x : Variable) → valued t (λ k. L (ρ.symbol k)) (with_others_in ρ X) x ≡ valued (again ρ t) L X (rename_variable ρ.symbol x)
valued_again ρ t L X (Declared k) = simp (bindings_again ρ k t, binds_again ρ k t)
valued_again ρ t L X (Global s) = refl

known_in_again : (ρ : Renaming) (t : Tree) (V : Assured) (L : Begun) → known_in t (assured_with_others ρ V) (begun_with_others ρ L) ≡ assured_with_others ρ (known_in (again ρ t) V L)
known_in_again ρ t V L = λ i. record { steady = with_others_in ρ V.steady; unshared = with_others_in ρ V.unshared; initial = λ x. valued_again ρ t L.symbols V.initial x i; has_this = V.has_this }

-- the rows of a family that survives do so over what is known there
pub own_step_again : (ρ : Renaming) (F : OwnRows) → OwnSurvives F → (t : Tree) (V : Assured) (L : Begun) (p : Position) (n w : Tree) → OwnStep (own_rows F t (assured_with_others ρ V)) (begun_with_others ρ L) p n w → OwnStep (own_rows F (again ρ t) V) L p (again ρ n) (again ρ w)
own_step_again ρ F survives t V L p n w s =
    step_again ρ (own_rows F t (assured_with_others ρ V)) (own_rows F (again ρ t) V) (λ K p n w r. survives ρ (known_in (again ρ t) V K) p n w (subst (λ U. F U p n w) (known_in_again ρ t V K) r)) s L refl
