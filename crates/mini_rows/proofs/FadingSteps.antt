-- What goes together over states of which one lacks some variables: what means the same does, and a body that does runs alike.
use Rattle.std.proofs.Common.{◌≡◌, Bool, true, Some, None, refl, sym, ap, subst, ◌∙◌, inl, inr, true≢false}
use Rattle.std.specs.Prelude.{◌⊎◌, reverse}
use Rattle.mini_model.specs.Tree.{Tree}
use Rattle.mini_laws.specs.Value.{VariableSet, Slot, Uninitialised, nothing}
use Rattle.mini_laws.specs.State.{State, Completion, ok, stop, halt, out, Environment, seen}
use Rattle.mini_laws.specs.Demand.{Demand}
use Rattle.mini_laws.specs.Step.{means}
use Rattle.mini_laws.specs.Body.{BodyKind, Outcome, body_demand, body_request, outcome_of_reply, outcome_of_stop, outcome_of_halt, ran, ends_as, start_of}
use Rattle.mini_laws.specs.Same.{Goes, Agree, Same, Filled, Initialised}
use Rattle.mini_laws.specs.Skeleton.{Within, Both, TreesGo}
use Rattle.mini_laws.specs.Congruence.{Apart}
use Rattle.mini_laws.proofs.Congruent.{agree_refl, avoids_nothing, no_within}
use Rattle.mini_laws.proofs.Dead.{dead_self, self_goes}
use Rattle.mini_laws.proofs.Simulation.{init_less, within_trans}
use Rattle.mini_kept.specs.AlikeBodies.{RunsAs}
use Rattle.mini_rows.specs.Fading.{Fades, Fading, FadingFrom}
use Rattle.mini_rows.proofs.Fading.{fading_rules, fading_sound, seen_fades, fades_itself}

pub fades_refl : (V : VariableSet) (s : State) → Fades V s s
fades_refl V s = record { vars = λ x. inl refl; self = refl; answers = refl; turns = refl; events = refl }

fades_agree : (V : VariableSet) (s t v : State) → Fades V s t → Agree nothing t v → Fades V s v
fades_agree V s t v f a = record { vars = λ x. by (s.vars x) (t.vars x) (v.vars x) (V x) (f.vars x) (a.vars x refl); self = f.self ∙ a.self; answers = f.answers ∙ a.answers; turns = f.turns ∙ a.turns; events = f.events ∙ a.events }
  where
    by : (p q r : Slot) (b : Bool) → (p ≡ q) ⊎ ((b ≡ true) × (p ≡ Uninitialised)) → q ≡ r → (p ≡ r) ⊎ ((b ≡ true) × (p ≡ Uninitialised))
    by p q r b (inl h) k = inl (h ∙ k)
    by p q r b (inr u) k = inr u

then_agrees : {A : Type 0} (V : VariableSet) (x y z : Completion A) → Goes true (λ a. Fades V) (Fades V) (Fades V) x y → Goes true (λ a. Agree nothing) (Agree nothing) (Agree nothing) y z → Goes true (λ a. Fades V) (Fades V) (Fades V) x z
unfolding Goes
then_agrees V (ok a s) (ok b t) (ok c v) g h = (g.0 ∙ h.0, fades_agree V s t v g.1 h.1)
then_agrees V (stop a s) (stop b t) (stop c v) g h = (g.0 ∙ h.0, fades_agree V s t v g.1 h.1)
then_agrees V (halt a s) (halt b t) (halt c v) g h = (g.0 ∙ h.0, fades_agree V s t v g.1 h.1)
then_agrees V out y (ok c v) g h = tt
then_agrees V out y (stop c v) g h = tt
then_agrees V out y (halt c v) g h = tt
then_agrees V out y out g h = tt
then_agrees V (ok a s) (ok b t) z g h = absurd h
then_agrees V (stop a s) (stop b t) z g h = absurd h
then_agrees V (halt a s) (halt b t) z g h = absurd h
then_agrees V x y z g h = absurd g

-- what has a value in the one has it in the other
fades_filled : (V X : VariableSet) (s t : State) → Fades V s t → Initialised X s → Initialised X t
unfolding Initialised
fades_filled V X s t f i x h = by (s.vars x) (t.vars x) (V x) (f.vars x) (i x h)
  where
    by : (p q : Slot) (b : Bool) → (p ≡ q) ⊎ ((b ≡ true) × (p ≡ Uninitialised)) → Filled p → Filled q
    by p q b (inl h) f = subst Filled h f
    by p q b (inr u) f = absurd (subst Filled u.1 f)

-- what means the same goes together so
pub same_fades : (V X : VariableSet) (e : Environment) → Apart e V → (q : Demand) (n w : Tree) → Same e nothing X q n w → FadingFrom V X e q n w
same_fades V X e apart q n w same r s t f i = then_agrees V (means e n q r s) (means e n q r t) (means e w q r t) (fades_itself V e apart q n r s t f) (same.by r t (fades_filled V X s t f i))

-- ---- with what is known to be initialised

with_known : {A : Type 0} (V P Q : VariableSet) (x z : Completion A) → Goes true (λ a. Fades V) (Fades V) (Fades V) x z → Goes true (λ a. Both (Agree nothing) P) (Both (Agree nothing) Q) (Agree nothing) x x → Goes true (λ a. Both (Fades V) P) (Both (Fades V) Q) (Fades V) x z
unfolding Goes
with_known V P Q (ok a s) (ok c v) g f = (g.0, (g.1, f.1.1))
with_known V P Q (stop a s) (stop c v) g f = (g.0, (g.1, f.1.1))
with_known V P Q (halt a s) (halt c v) g f = g
with_known V P Q out (ok c v) g f = tt
with_known V P Q out (stop c v) g f = tt
with_known V P Q out (halt c v) g f = tt
with_known V P Q out out g f = tt
with_known V P Q x z g f = absurd g

module _ (V : VariableSet) (e : Environment) (apart : Apart e V) where
  pub trees_fade_from : (I X : VariableSet) → Within I X → (q : Demand) (n w : Tree) → FadingFrom V I e q n w → TreesGo (fading_rules V e) X q n w
  unfolding TreesGo
  trees_fade_from I X more q n w g r l within o s t b =
      with_known V _ _ (means e n q r s) (means e w q r t) (g r s t b.0 (init_less I l s (within_trans I X l more within) b.1))
      (dead_self nothing e (λ x h. absurd (true≢false (sym h))) n (avoids_nothing n) nothing q r l (no_within l) o s s (agree_refl nothing s, b.1))

  pub trees_fade : (X : VariableSet) (q : Demand) (n w : Tree) → Fading V e q n w → TreesGo (fading_rules V e) X q n w
  trees_fade X q n w g = trees_fade_from nothing X (no_within X) q n w (λ r s t f i. g r s t f)

  pub tree_itself : (X : VariableSet) (q : Demand) (n : Tree) → TreesGo (fading_rules V e) X q n n
  tree_itself X q n = self_goes (fading_rules V e) (fading_sound V e apart) (λ q n. Unit {0}) (λ σ ts. Unit {0}) (λ h q xs n ts a. refl) (λ h q xs n ts a. tt) (λ σ t ts a. tt) (λ σ t ts a. tt) n X q tt

  -- ---- bodies

  same_ran : (o o' : Outcome) (s t : State) → o ≡ o' → Fades V s t → ran e o s ≡ ran e o' t
  same_ran o o' s t p g =
      ap (λ v. Some (record { events = reverse v; final = seen e.shared s.vars; outcome = o })) g.events
      ∙ ap (λ f. Some (record { events = reverse t.events; final = f; outcome = o })) (seen_fades V e apart s t g)
      ∙ ap (λ o. Some (record { events = reverse t.events; final = seen e.shared t.vars; outcome = o })) p

  same_end : {A : Type 0} (f : A → Outcome) (x y : Completion A) → Goes true (λ a. Fades V) (Fades V) (Fades V) x y → (ends_as e f x ≡ None) ⊎ (ends_as e f x ≡ ends_as e f y)
  unfolding Goes
  same_end f (ok a s) (ok b t) g = inr (same_ran (f a) (f b) s t (ap f g.0) g.1)
  same_end f (stop a s) (stop b t) g = inr (same_ran (outcome_of_stop a) (outcome_of_stop b) s t (ap outcome_of_stop g.0) g.1)
  same_end f (halt a s) (halt b t) g = inr (same_ran (outcome_of_halt a) (outcome_of_halt b) s t (ap outcome_of_halt g.0) g.1)
  same_end f out y g = inl refl
  same_end f x y g = absurd g

  pub runs_alike : (k : BodyKind) (n w : Tree) (X : VariableSet) → FadingFrom V X e (body_demand k) n w → RunsAs e k k X n w
  runs_alike k n w X g = record { by = λ vars this answers turns i. same_end (outcome_of_reply k) _ _ (g (body_request k) (start_of vars this answers turns) (start_of vars this answers turns) (fades_refl V (start_of vars this answers turns)) i) }
