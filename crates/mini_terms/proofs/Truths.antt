-- Truth and the literal of a value.
use Rattle.std.proofs.Common.{Bool, true, false, Option, Some, None, refl, sym, ap, subst}
use Rattle.mini_laws.specs.Value.{Value, Undefined, Null, Boolean, Number, String, Object, truth}
use Rattle.mini_laws.specs.State.{Completion, ok, stop, halt, out, either}
use Rattle.mini_laws.specs.Demand.{Test}
use Rattle.mini_laws.specs.Step.{step, means, meaning}
use Rattle.mini_laws.specs.Truth.{told}
use Rattle.mini_laws.proofs.Truth.{coherent}
use Rattle.mini_laws.proofs.Runs.{runs}
use Rattle.mini_terms.specs.Kind.{Kind, IsObject, kind, OfKind}
use Rattle.mini_terms.specs.Const.{const, Agrees}
use Rattle.mini_terms.specs.Truth.{truth_by, truth_of}
use Rattle.mini_terms.specs.Sound.{Gives, TruthSound, TruthOfValue, LitSound}
use Rattle.mini_terms.proofs.KindTable.{kind_sound}
use Rattle.mini_terms.proofs.ConstTable.{const_sound}

pub truth_known : (c : Option Value) (k : Kind) (v : Value) → Agrees c v → OfKind k v → Agrees (truth_by c k) (truth v)
truth_known (Some c) k v p q = ap truth p
truth_known None IsObject (Object n f) p q = refl
truth_known None IsObject v p q = absurd q
truth_known None k v p q = tt

pub gives_both : {A : Type 0} (P Q R : A → Type 0) → ((a : A) → P a → Q a → R a) → (x : Completion A) → Gives P x → Gives Q x → Gives R x
unfolding Gives
gives_both P Q R f (ok a s) p q = f a p q
gives_both P Q R f (stop x s) p q = tt
gives_both P Q R f (halt x s) p q = tt
gives_both P Q R f out p q = tt

told_gives : (P : Bool → Type 0) (x : Completion Value) → Gives (λ v. P (truth v)) x → Gives P (told Test x)
unfolding Gives told either
told_gives P (ok v s) p = p
told_gives P (stop y s) p = tt
told_gives P (halt y s) p = tt
told_gives P out p = tt

pub truth_of_value : TruthOfValue
truth_of_value n e s = gives_both (Agrees (const n)) (OfKind (kind n)) (λ v. Agrees (truth_of n) (truth v)) (truth_known (const n) (kind n)) _ (const_sound n e s) (kind_sound n e s)

pub truth_sound : TruthSound
truth_sound n e s = subst (Gives (Agrees (truth_of n))) (sym (coherent n Test e s)) (told_gives (Agrees (truth_of n)) _ (truth_of_value n e s))

pub lit_sound : LitSound
unfolding means meaning step
lit_sound Undefined = λ e s. simp runs
lit_sound Null = λ e s. refl
lit_sound (Boolean true) = λ e s. simp runs
lit_sound (Boolean false) = λ e s. simp runs
lit_sound (Number n) = λ e s. refl
lit_sound (String t) = λ e s. refl
lit_sound v = tt
