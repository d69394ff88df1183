-- An expression that moves past another.
use Rattle.std.proofs.Common.{◌≡◌, ℕ, None, Bool, true, false, List, [], ◌∷◌, refl, sym, ap, ◌∙◌, subst}
use Rattle.std.specs.Prelude.{ℤ, codes, if◌then◌else◌}
use Rattle.mini_model.specs.declared.shape.Shape.TheVariants as shape
use Rattle.mini_model.specs.Tree.{Tree}
use Rattle.mini_model.specs.Weight.{same_text}
use Rattle.mini_laws.specs.Value.{Value, Number, Variable, Declared, Slot, Holds}
use Rattle.mini_laws.specs.State.{State, Completion, ok, stop, halt, out, either, Environment}
use Rattle.mini_laws.specs.Demand.{Val, As, Stat}
use Rattle.mini_laws.specs.Command.{act, run, read_slot, at_variable}
use Rattle.mini_laws.specs.Naming.{EvalName, PlainName, naming}
use Rattle.mini_laws.specs.Replies.{valued}
use Rattle.mini_laws.specs.Expressions.{get_identifier}
use Rattle.mini_laws.specs.Step.{step, means}
use Rattle.mini_laws.specs.Moves as law
use Rattle.mini_laws.specs.Moves.{Passes}
use Rattle.mini_laws.specs.Steady.{KeepsSlot}
use Rattle.mini_laws.specs.Substitution.{use_of, number}
use Rattle.mini_laws.proofs.Runs.{either_ok}
use Rattle.mini_laws.proofs.Sparing.{steady}

module _ (e : Environment) (p r : Tree) (s : State) (passes : Passes e p r s) (f : Value → Value → State → Completion Value) where
  then_p : Value → State → Completion Value
  then_p b y = either (means e p (As Val) tt y) (λ a z. f a b z) (λ x z. stop x z)

  moved : (y : Completion Value) → means e r (As Val) tt s ≡ y → either y (λ b z. f passes.value b z) (λ x z. stop x z) ≡ either y then_p (λ x z. stop x z)
  unfolding either then_p
  moved (ok b z) q = sym (ap (λ c. either c (λ a z. f a b z) (λ x z. stop x z)) (passes.after b z q))
  moved (stop x z) q = refl
  moved (halt x z) q = refl
  moved out q = refl

  both : either (means e p (As Val) tt s) (λ a y. either (means e r (As Val) tt y) (λ b z. f a b z) (λ x z. stop x z)) (λ x z. stop x z) ≡ either (means e r (As Val) tt s) then_p (λ x z. stop x z)
  both =
      ap (λ c. either c (λ a y. either (means e r (As Val) tt y) (λ b z. f a b z) (λ x z. stop x z)) (λ x z. stop x z)) passes.before
      ∙ either_ok passes.value s _ _
      ∙ moved (means e r (As Val) tt s) refl

pub commutes : law.Commutes
unfolding then_p
commutes e p r s passes f = both e p r s passes f

number_is : (e : Environment) (k : ℤ) (s : State) → means e (number k) (As Val) tt s ≡ ok (Number k) s
unfolding means step
number_is e k s = refl

pub number_passes : law.NumberPasses
number_passes e k r s = record { value = Number k; before = number_is e k s; after = λ b z q. number_is e k z }

-- a name that is initialised gives what it has
name_is : (e : Environment) (spelling : List ℕ) (x : ℕ) (v : Value) (z : State) → z.vars (Declared x) ≡ Holds v → means e (use_of spelling x) (As Val) tt z ≡ ok v z
unfolding means step act at_variable read_slot either
name_is e spelling x v z h = go (same_text spelling (codes "eval"))
  where
    at_slot : (o : Slot) → o ≡ Holds v → either (read_slot o z) (λ a t. ok a t) (λ y t. stop y t) ≡ ok v z
    at_slot o q = subst (λ o. either (read_slot o z) (λ a t. ok a t) (λ y t. stop y t) ≡ ok v z) (sym q) refl

    go : (b : Bool) → run {q = λ i. Stat None} e (naming shape.Identifier (As Val) (Declared x ∷ []) 0 []) (λ i r z. out) (valued (As Val) tt (get_identifier (if b then EvalName else PlainName))) z ≡ ok v z
    go true = at_slot (z.vars (Declared x)) h
    go false = at_slot (z.vars (Declared x)) h

kept : (x : Variable) (slot : Slot) (y : Completion Value) (b : Value) (z : State) → y ≡ ok b z → KeepsSlot x slot y → z.vars x ≡ slot
kept x slot y b z q k = subst (KeepsSlot x slot) q k

pub steady_passes : law.SteadyPasses
steady_passes e spelling x r s v nf spares has = record {
  value = v;
  before = name_is e spelling x v s has;
  after = λ b z q. name_is e spelling x v z (kept (Declared x) (s.vars (Declared x)) (means e r (As Val) tt s) b z q (steady e (Declared x) nf r (As Val) spares tt s) ∙ has);
}
