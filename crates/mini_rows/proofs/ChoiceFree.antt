-- A test that has no effect: what is read before it may be read after it.
use Rattle.std.proofs.Common.{◌≡◌, Bool, true, false, refl, sym, ap, ◌∙◌, inl, inr, true≢false}
use Rattle.std.specs.Prelude.{◌⊎◌}
use Rattle.mini_model.specs.Tree.{Tree}
use Rattle.mini_laws.specs.Value.{Value, choose, truth}
use Rattle.mini_laws.specs.State.{State, Completion, ok, stop, halt, out, either, Environment}
use Rattle.mini_laws.specs.Demand.{Val}
use Rattle.mini_terms.specs.Effects.{ef}
use Rattle.mini_terms.specs.Folds.{is_effect_free}
use Rattle.mini_terms.specs.Sound.{Quiet}
use Rattle.mini_terms.proofs.EffectsTable.{effect_free_sound}
use Rattle.mini_rows.proofs.ChainRuns.{next}
use Rattle.mini_rows.proofs.ChoiceRuns.{value}

-- it is outside the model, or replies and changes nothing
abbrev pub Told : {A : Type 0} → Completion A → State → Type 0
Told {A} y s = (y ≡ out) ⊎ ((a : A) × (y ≡ ok a s))

quiet_told : (y : Completion Value) (s : State) → Quiet s y → Told y s
unfolding Quiet
quiet_told (ok v t) s q = inr (v, ap (ok v) q)
quiet_told (stop x t) s q = absurd q
quiet_told (halt x t) s q = absurd q
quiet_told out s q = inl refl

-- where the world isn't asked for `this` if it is no effect
pub told_there : (e : Environment) (asked : Bool) → (asked ≡ false → e.asks_this ≡ false) → (a : Tree) → ef asked a ≡ true → (s : State) → Told (value e a s) s
told_there e asked f a h s = quiet_told (value e a s) s (effect_free_sound a e asked f h Val s)

pub free_told : (e : Environment) (a : Tree) → is_effect_free a ≡ true → (s : State) → Told (value e a s) s
free_told e a h s = told_there e true (λ f. absurd (true≢false f)) a h s

-- a choice of values
abbrev pub chosen : Completion Value → (State → Completion Value) → (State → Completion Value) → Completion Value
chosen t y n = next t (λ v z. choose (truth v) (y z) (n z))

pub over_choice : {A B : Type 0} (f : A → B) (b : Bool) (y n : A) → f (choose b y n) ≡ choose b (f y) (f n)
over_choice f true y n = refl
over_choice f false y n = refl

both_out : {A : Type 0} (b : Bool) (y n : Completion A) → y ≡ out → n ≡ out → choose b y n ≡ out
both_out true y n h k = h
both_out false y n h k = k

-- what goes on with a chosen value may be chosen itself
pub goes_on_chosen : (K : Completion Value → Completion Value) → K out ≡ out → (t : Completion Value) (s : State) → Told t s → (y n : State → Completion Value) → K (chosen t y n) ≡ chosen t (λ z. K (y z)) (λ z. K (n z))
unfolding either
goes_on_chosen K o t s (inl k) y n = ap (λ t. K (chosen t y n)) k ∙ o ∙ sym (ap (λ t. chosen t (λ z. K (y z)) (λ z. K (n z))) k)
goes_on_chosen K o t s (inr (v, k)) y n = ap (λ t. K (chosen t y n)) k ∙ over_choice K (truth v) (y s) (n s) ∙ sym (ap (λ t. chosen t (λ z. K (y z)) (λ z. K (n z))) k)

-- two that begin with the same and go on in their own ways: the choice may come after that
pub begins_alike : {A : Type 0} (s : State) (first : Completion A) (t : Completion Value) → Told first s → Told t s → (f g h : A → State → Completion Value) → ((a : A) → h a s ≡ chosen t (f a) (g a)) → (y n : State → Completion Value) → y s ≡ next first f → n s ≡ next first g → chosen t y n ≡ next first h
unfolding either
begins_alike s first t (inl o) (inl k) f g h e y n p q = ap (λ t. chosen t y n) k ∙ sym (ap (λ x. next x h) o)
begins_alike s first t (inl o) (inr (v, k)) f g h e y n p q = ap (λ t. chosen t y n) k ∙ both_out (truth v) (y s) (n s) (p ∙ ap (λ x. next x f) o) (q ∙ ap (λ x. next x g) o) ∙ sym (ap (λ x. next x h) o)
begins_alike s first t (inr (a, o)) (inl k) f g h e y n p q = ap (λ t. chosen t y n) k ∙ sym (ap (λ x. next x h) o ∙ e a ∙ ap (λ t. chosen t (f a) (g a)) k)
begins_alike s first t (inr (a, o)) (inr (v, k)) f g h e y n p q =
    ap (λ t. chosen t y n) k
    ∙ (λ i. choose (truth v) ((p ∙ ap (λ x. next x f) o) i) ((q ∙ ap (λ x. next x g) o) i))
    ∙ sym (ap (λ x. next x h) o ∙ e a ∙ ap (λ t. chosen t (f a) (g a)) k)
