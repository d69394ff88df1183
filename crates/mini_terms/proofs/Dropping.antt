-- What goes of an expression where this is known of a part of it.
use Rattle.std.proofs.Common.{◌≡◌, Bool, true, false, Option, Some, None, refl, sym, ap, ◌∙◌, subst, true≢false}
use Rattle.std.specs.Prelude.{not}
use Rattle.mini_model.specs.declared.operator.LogicalOperator.TheVariants.{Or, And, Coalesce}
use Rattle.mini_model.specs.Tree.{Tree, logical, empty_statement}
use Rattle.mini_laws.specs.Value.{Value, Undefined, Null, VariableSet, choose, truth, is_nullish}
use Rattle.mini_laws.specs.State.{Completion, ok, stop, halt, out, either, State, Stop, Environment}
use Rattle.mini_laws.specs.Demand.{Want, Val, Unused, Tail, As, Stat, LabelSet, Says, says}
use Rattle.mini_laws.specs.Step.{step, means}
use Rattle.mini_laws.specs.Same.{Goes, Agree, Same}
use Rattle.mini_laws.specs.Truth.{told}
use Rattle.mini_laws.proofs.Truth.{coherent}
use Rattle.mini_laws.proofs.Rows.{goes_refl, by_equality}
use Rattle.mini_terms.specs.Kind.{Kind, IsUndefined, IsNull, Undetermined, is_nullish_kind, kind, OfKind}
use Rattle.mini_terms.specs.Evident.{evident_truth}
use Rattle.mini_terms.specs.Const.{Agrees}
use Rattle.mini_terms.specs.Plain.{lit}
use Rattle.mini_terms.specs.Sound.{Gives, Quiet, LitOf}
use Rattle.mini_terms.specs.Calculated.{KnownSame}
use Rattle.mini_terms.specs.Folds.{is_effect_free, is_true, is_false, is_known, GoesOnSame, StopsSame, DoesNothing}
use Rattle.mini_terms.proofs.Frame.{gives_any, gives_map}
use Rattle.mini_terms.proofs.Made.{and_left, and_right}
use Rattle.mini_terms.proofs.KindTable.{kind_sound}
use Rattle.mini_terms.proofs.ConstTable.{const_sound}
use Rattle.mini_terms.proofs.Truths.{lit_sound}
use Rattle.mini_terms.proofs.EffectsTable.{effect_free_sound}
use Rattle.mini_terms.proofs.Evidence.{evident_is}
use Rattle.mini_terms.proofs.Opened.{after, and_opened, or_opened, coalesce_opened, statement_opened}

-- what goes on after a value of which this is known
pub after_cong : {B : Type 0} (P : Value → Type 0) (x : Completion Value) (f g : Value → State → Completion B) → Gives P x → ((v : Value) → P v → (z : State) → f v z ≡ g v z) → after x f ≡ after x g
unfolding Gives either
after_cong P (ok v s) f g p h = h v p s
after_cong P (stop y s) f g p h = refl
after_cong P (halt y s) f g p h = refl
after_cong P out f g p h = refl

pub weak : {B : Type 0} (D : VariableSet) (y : Completion B) → Goes true (λ a. Agree D) (Agree D) (Agree D) out y
unfolding Goes
weak D (ok v s) = tt
weak D (stop u s) = tt
weak D (halt u s) = tt
weak D out = tt

-- what goes on the same after any value is quiet, or the run leaves the model
after_quiet : {B : Type 0} (D : VariableSet) (P : Value → Type 0) (s : State) (x : Completion Value) (f : Value → State → Completion B) (y : Completion B) → Quiet s x → Gives P x → ((v : Value) → P v → f v s ≡ y) → Goes true (λ a. Agree D) (Agree D) (Agree D) (after x f) y
unfolding Gives Quiet either
after_quiet D P s (ok v t) f y q p h = subst (λ c. Goes true (λ a. Agree D) (Agree D) (Agree D) c y) (sym (ap (f v) q ∙ h v p)) (goes_refl D y)
after_quiet D P s (stop u t) f y q p h = absurd q
after_quiet D P s (halt u t) f y q p h = absurd q
after_quiet D P s out f y q p h = weak D y

told_after : (w : Want) (x : Completion Value) → told w x ≡ after x (λ v z. ok (says w v) z)
unfolding told either
told_after w (ok v s) = refl
told_after w (stop y s) = refl
told_after w (halt y s) = refl
told_after w out = refl

module _ (e : Environment) where
  truth_is : (a : Tree) (b : Bool) → evident_truth a ≡ Some b → (s : State) → Gives (λ v. truth v ≡ b) (means e a (As Val) tt s)
  truth_is a b h s = evident_is a b h e s

  any : (a : Tree) (s : State) → Gives (λ v. Unit {0}) (means e a (As Val) tt s)
  any a s = gives_any (means e a (As Val) tt s)

  wanted : (w : Want) (a : Tree) (s : State) → means e a (As w) tt s ≡ after (means e a (As Val) tt s) (λ v z. ok (says w v) z)
  wanted w a s = coherent a w e s ∙ told_after w (means e a (As Val) tt s)

  nullish_is : (a : Tree) → is_nullish_kind (kind a) ≡ true → (s : State) → Gives (λ v. is_nullish v ≡ true) (means e a (As Val) tt s)
  nullish_is a h s = gives_map (OfKind (kind a)) (λ v. is_nullish v ≡ true) (λ v p. go (kind a) v h p) (means e a (As Val) tt s) (kind_sound a e s)
    where
      go : (k : Kind) (v : Value) → is_nullish_kind k ≡ true → OfKind k v → is_nullish v ≡ true
      go IsUndefined Undefined h p = refl
      go IsUndefined v h p = absurd p
      go IsNull Null h p = refl
      go IsNull v h p = absurd p
      go k v h p = absurd (true≢false (sym h))

  present_is : (a : Tree) → is_nullish_kind (kind a) ≡ false → is_known (kind a) ≡ true → (s : State) → Gives (λ v. is_nullish v ≡ false) (means e a (As Val) tt s)
  present_is a h k s = gives_map (OfKind (kind a)) (λ v. is_nullish v ≡ false) (λ v p. go (kind a) v h k p) (means e a (As Val) tt s) (kind_sound a e s)
    where
      go : (j : Kind) (v : Value) → is_nullish_kind j ≡ false → is_known j ≡ true → OfKind j v → is_nullish v ≡ false
      go Undetermined v h k p = absurd (true≢false (sym k))
      go IsUndefined v h k p = absurd (true≢false h)
      go IsNull v h k p = absurd (true≢false h)
      go j Undefined h k p = absurd p
      go j Null h k p = absurd p
      go j v h k p = refl

  quiet : (a : Tree) → is_effect_free a ≡ true → (s : State) → Quiet s (means e a (As Val) tt s)
  quiet a h s = effect_free_sound a e true (λ f. absurd (true≢false f)) h Val s

  pick : {B : Type 0} (b c : Bool) → b ≡ c → (x y : Completion B) → choose b x y ≡ choose c x y
  pick b c h x y = ap (λ d. choose d x y) h

  -- whatever the value, the rest follows in place of the whole
  drops : (D X : VariableSet) (w : Want) (n a b : Tree) (P : Value → Type 0) (f : Value → State → Completion (Says w)) → ((s : State) → means e n (As w) tt s ≡ after (means e a (As Val) tt s) f) → ((s : State) → Gives P (means e a (As Val) tt s)) → ((v : Value) → P v → (z : State) → f v z ≡ means e b (As w) tt z) → is_effect_free a ≡ true → Same e D X (As w) n b
  drops D X w n a b P f o p h q = record { by = λ r s i. subst (λ c. Goes true (λ a. Agree D) (Agree D) (Agree D) c (means e b (As w) tt s)) (sym (o s)) (after_quiet D P s (means e a (As Val) tt s) f (means e b (As w) tt s) (quiet a q s) (p s) (λ v t. h v t s)) }

  -- both go on alike
  alike : (D X : VariableSet) (w : Want) (n m a : Tree) (P : Value → Type 0) (f g : Value → State → Completion (Says w)) → ((s : State) → means e n (As w) tt s ≡ after (means e a (As Val) tt s) f) → ((s : State) → means e m (As w) tt s ≡ after (means e a (As Val) tt s) g) → ((s : State) → Gives P (means e a (As Val) tt s)) → ((v : Value) → P v → (z : State) → f v z ≡ g v z) → Same e D X (As w) n m
  alike D X w n m a P f g o u p h = by_equality e D X (As w) n m (λ r s. o s ∙ after_cong P (means e a (As Val) tt s) f g (p s) h ∙ sym (u s))

true_is : (o : Option Bool) → is_true o ≡ true → o ≡ Some true
true_is (Some true) h = refl
true_is (Some false) h = absurd (true≢false (sym h))
true_is None h = absurd (true≢false (sym h))

false_is : (o : Option Bool) → is_false o ≡ true → o ≡ Some false
false_is (Some false) h = refl
false_is (Some true) h = absurd (true≢false (sym h))
false_is None h = absurd (true≢false (sym h))

not_true : (b : Bool) → not b ≡ true → b ≡ false
not_true false h = refl
not_true true h = absurd (true≢false (sym h))

pub goes_on_same : GoesOnSame
goes_on_same And a b t q e D X w = drops e D X w (logical And a b) a b (λ v. truth v ≡ true) _ (and_opened e a b w) (truth_is e a true (true_is (evident_truth a) t)) (λ v p z. pick e (truth v) true p _ _) q
goes_on_same Or a b t q e D X w = drops e D X w (logical Or a b) a b (λ v. truth v ≡ false) _ (or_opened e a b w) (truth_is e a false (false_is (evident_truth a) t)) (λ v p z. pick e (truth v) false p _ _) q
goes_on_same Coalesce a b t q e D X w = drops e D X w (logical Coalesce a b) a b (λ v. is_nullish v ≡ true) _ (coalesce_opened e a b w) (nullish_is e a t) (λ v p z. pick e (is_nullish v) true p _ _ ∙ sym (coherent b w e z)) q

pub stops_same : StopsSame
stops_same And a b t e D X w = alike e D X w (logical And a b) a a (λ v. truth v ≡ false) _ _ (and_opened e a b w) (wanted e w a) (truth_is e a false (false_is (evident_truth a) t)) (λ v p z. pick e (truth v) false p _ _)
stops_same Or a b t e D X w = alike e D X w (logical Or a b) a a (λ v. truth v ≡ true) _ _ (or_opened e a b w) (wanted e w a) (truth_is e a true (true_is (evident_truth a) t)) (λ v p z. pick e (truth v) true p _ _)
stops_same Coalesce a b t e D X w = alike e D X w (logical Coalesce a b) a a (λ v. is_nullish v ≡ false) _ _ (coalesce_opened e a b w) (wanted e w a) (present_is e a (not_true (is_nullish_kind (kind a)) (and_right (is_known (kind a)) _ t)) (and_left (is_known (kind a)) _ t)) (λ v p z. pick e (is_nullish v) false p _ _)

-- an effect-free expression with a constant

after_ok : {B : Type 0} (v : Value) (s : State) (f : Value → State → Completion B) → after (ok v s) f ≡ f v s
unfolding either
after_ok v s f = refl

literal_is : (v : Value) (l : Option Tree) (w : Tree) → l ≡ Some w → LitOf v l → (e : Environment) (s : State) → means e w (As Val) tt s ≡ ok v s
literal_is v l w h p = subst (LitOf v) h p

pub known_same : KnownSame
known_same n w v c q l e D X u =
    drops e D X u n n w (λ x. x ≡ v) (λ x z. ok (says u x) z) (wanted e u n) (λ s. subst (λ o. Gives (Agrees o) (means e n (As Val) tt s)) c (const_sound n e s))
    (λ x p z. ap (λ y. ok (says u y) z) p ∙ sym (wanted e u w z ∙ ap (λ y. after y (λ x z. ok (says u x) z)) (literal_is v (lit v) w l (lit_sound v) e z) ∙ after_ok v z (λ x z. ok (says u x) z)))
    q

-- an expression statement

quiet_goes : {A : Type 0} (D : VariableSet) (s : State) (x : Completion A) (h : Stop → State → Completion (Unit {0})) → Quiet s x → Goes true (λ a. Agree D) (Agree D) (Agree D) (either x (λ a z. ok tt z) h) (ok tt s)
unfolding Quiet either
quiet_goes D s (ok a t) h q = subst (λ z. Goes true (λ a. Agree D) (Agree D) (Agree D) (ok tt z) (ok tt s)) (sym q) (goes_refl D (ok tt s))
quiet_goes D s (stop u t) h q = absurd q
quiet_goes D s (halt u t) h q = absurd q
quiet_goes D s out h q = weak D (ok tt s)

empty_is : (e : Environment) (t : Option Tail) (ls : LabelSet) (s : State) → means e empty_statement (Stat t) ls s ≡ ok tt s
unfolding means step
empty_is e t ls s = refl

pub does_nothing : DoesNothing
does_nothing a q e D X t = record { by = λ ls s i. subst (λ c. Goes true (λ a. Agree D) (Agree D) (Agree D) c (means e empty_statement (Stat t) ls s)) (sym (statement_opened e a t ls s)) (subst (Goes true (λ a. Agree D) (Agree D) (Agree D) _) (sym (empty_is e t ls s)) (quiet_goes D s (means e a (As Unused) tt s) _ (effect_free_sound a e true (λ f. absurd (true≢false f)) q Unused s))) }
