-- What a conditional does of whose branches one is effect-free and its truth is known, and what a logical expression does of whose
-- right side that is so.
use Rattle.std.proofs.Common.{◌≡◌, Bool, true, false, Option, Some, None, refl, sym, ap, ◌∙◌, subst, true≢false}
use Rattle.std.specs.Prelude.{not}
use Rattle.mini_model.specs.declared.operator.LogicalOperator.{LogicalOperator}
use Rattle.mini_model.specs.declared.operator.LogicalOperator.TheVariants.{Or, And, Coalesce}
use Rattle.mini_model.specs.Tree.{Tree, negation, logical, conditional}
use Rattle.mini_model.specs.Position.{is_and_or}
use Rattle.mini_laws.specs.Value.{Value, Boolean, VariableSet, choose, truth}
use Rattle.mini_laws.specs.State.{Completion, ok, stop, halt, out, either, State, Environment}
use Rattle.mini_laws.specs.Demand.{Want, Val, Test, As, Says, says}
use Rattle.mini_laws.specs.Step.{means}
use Rattle.mini_laws.specs.Same.{Goes, Agree}
use Rattle.mini_laws.specs.Truth.{told}
use Rattle.mini_laws.proofs.Truth.{coherent}
use Rattle.mini_laws.proofs.Rows.{goes_refl}
use Rattle.mini_terms.specs.declared.kinds.Kind.{Kind}
use Rattle.mini_terms.specs.declared.kinds.Kind.TheVariants.{Boolean as IsBoolean}
use Rattle.mini_terms.specs.Kind.{kind, OfKind}
use Rattle.mini_terms.specs.Evident.{evident_truth}
use Rattle.mini_terms.specs.Sound.{Gives, Quiet}
use Rattle.mini_terms.specs.Folds.{is_effect_free, is_true, is_false, goes_on}
use Rattle.mini_terms.proofs.Frame.{gives_any, gives_map}
use Rattle.mini_terms.proofs.KindTable.{kind_sound}
use Rattle.mini_terms.proofs.EffectsTable.{effect_free_sound}
use Rattle.mini_terms.proofs.Evidence.{evident_is}
use Rattle.mini_terms.proofs.Opened.{after, and_opened, or_opened, conditional_opened, negation_opened}
use Rattle.mini_terms.proofs.Dropping.{weak}
use Rattle.mini_rows.specs.Booleans.{is_boolean_kind, chosen, giving, is_turned}

-- ---- what gives this alone

gives_told : (w : Want) (P : Says w → Type 0) (x : Completion Value) → Gives (λ v. P (says w v)) x → Gives P (told w x)
unfolding told either Gives
gives_told w P (ok v s) g = g
gives_told w P (stop y s) g = tt
gives_told w P (halt y s) g = tt
gives_told w P out g = tt

gives_both : {A : Type 0} (P Q : A → Type 0) (x : Completion A) → Gives P x → Gives Q x → Gives (λ a. P a × Q a) x
unfolding Gives
gives_both P Q (ok a s) g h = (g, h)
gives_both P Q (stop y s) g h = tt
gives_both P Q (halt y s) g h = tt
gives_both P Q out g h = tt

boolean_of : (j : Kind) (c : Bool) (v : Value) → is_boolean_kind j ≡ true → OfKind j v → truth v ≡ c → v ≡ Boolean c
boolean_of IsBoolean c (Boolean b) h k t = ap Boolean t
boolean_of IsBoolean c v h k t = absurd k
boolean_of j c v h k t = absurd (true≢false (sym h))

-- a value that is a boolean says what its truth does
says_truth : (j : Kind) (v : Value) → is_boolean_kind j ≡ true → OfKind j v → v ≡ Boolean (truth v)
says_truth j v h k = boolean_of j (truth v) v h k refl

true_is : (o : Option Bool) → is_true o ≡ true → o ≡ Some true
true_is (Some true) h = refl
true_is (Some false) h = absurd (true≢false (sym h))
true_is None h = absurd (true≢false (sym h))

false_is : (o : Option Bool) → is_false o ≡ true → o ≡ Some false
false_is (Some false) h = refl
false_is (Some true) h = absurd (true≢false (sym h))
false_is None h = absurd (true≢false (sym h))

-- the test as it is, or under a `!`
abbrev pub test_of : Bool → Tree → Tree
test_of true a = negation a
test_of false a = a

-- ---- completions that go together

module _ (D : VariableSet) where
  abbrev pub Near : {A : Type 0} → Completion A → Completion A → Type 0
  Near x y = Goes true (λ a. Agree D) (Agree D) (Agree D) x y

  near_quiet : {A : Type 0} (s : State) (c : A) (x : Completion A) → Quiet s x → Gives (λ a. a ≡ c) x → Near x (ok c s)
  unfolding Quiet Gives
  near_quiet s c (ok a t) q g = subst (λ z. Near (ok a z) (ok c s)) (sym q) (subst (λ b. Near (ok a s) (ok b s)) g (goes_refl D (ok a s)))
  near_quiet s c (stop y t) q g = absurd q
  near_quiet s c (halt y t) q g = absurd q
  near_quiet s c out q g = weak D (ok c s)

  pub near_after : {A : Type 0} (P : Value → Type 0) (x : Completion Value) (f g : Value → State → Completion A) → Gives P x → ((v : Value) → P v → (z : State) → Near (f v z) (g v z)) → Near (after x f) (after x g)
  unfolding Gives either
  near_after P (ok v s) f g p h = h v p s
  near_after P (stop y s) f g p h = goes_refl D (stop y s)
  near_after P (halt y s) f g p h = goes_refl D (halt y s)
  near_after P out f g p h = goes_refl D out

  pub along : {A : Type 0} {x y p q : Completion A} → x ≡ p → y ≡ q → Near p q → Near x y
  along {A} {x} {y} {p} {q} e f n = subst (λ z. Near z y) (sym e) (subst (λ z. Near p z) (sym f) n)

  picked : {A : Type 0} (t : Bool) (x y p q : Completion A) → (t ≡ true → Near x p) → (t ≡ false → Near y q) → Near (choose t x y) (choose t p q)
  picked true x y p q h k = h refl
  picked false x y p q h k = k refl

  picked_turned : {A : Type 0} (t : Bool) (x y p q : Completion A) → (t ≡ true → Near x q) → (t ≡ false → Near y p) → Near (choose t x y) (choose (not t) p q)
  picked_turned true x y p q h k = h refl
  picked_turned false x y p q h k = k refl

  -- ---- a part that is known

  module _ (e : Environment) where
    abbrev pub value : Tree → State → Completion Value
    value a s = means e a (As Val) tt s

    asked_is : (w : Want) (a : Tree) (s : State) → means e a (As w) tt s ≡ after (value a s) (λ v z. ok (says w v) z)
    unfolding told
    asked_is w a s = coherent a w e s

    quiet : (w : Want) (k : Tree) → is_effect_free k ≡ true → (s : State) → Quiet s (means e k (As w) tt s)
    quiet w k h s = effect_free_sound k e true (λ f. absurd (true≢false f)) h w s

    pub known_test : (k : Tree) (c : Bool) → evident_truth k ≡ Some c → is_effect_free k ≡ true → (z : State) → Near (means e k (As Test) tt z) (ok c z)
    known_test k c t h z = near_quiet z c (means e k (As Test) tt z) (quiet Test k h z) (subst (Gives (λ b. b ≡ c)) (sym (coherent k Test e z)) (gives_told Test (λ b. b ≡ c) (value k z) (evident_is k c t e z)))

    pub known_value : (k : Tree) (c : Bool) → evident_truth k ≡ Some c → is_effect_free k ≡ true → is_boolean_kind (kind k) ≡ true → (z : State) → Near (means e k (As Val) tt z) (ok (Boolean c) z)
    known_value k c t h b z =
        near_quiet z (Boolean c) (value k z) (quiet Val k h z)
        (gives_map (λ v. OfKind (kind k) v × (truth v ≡ c)) (λ v. v ≡ Boolean c) (λ v p. boolean_of (kind k) c v b p.0 p.1) (value k z) (gives_both (OfKind (kind k)) (λ v. truth v ≡ c) (value k z) (kind_sound k e z) (evident_is k c t e z)))

    -- the value of a test is a boolean
    pub boolean_test : (a : Tree) → is_boolean_kind (kind a) ≡ true → (s : State) → Gives (λ v. says Val v ≡ says Val (Boolean (truth v))) (value a s)
    boolean_test a b s = gives_map (OfKind (kind a)) (λ v. v ≡ Boolean (truth v)) (λ v k. says_truth (kind a) v b k) (value a s) (kind_sound a e s)

    -- or its truth is asked
    pub any_test : (a : Tree) (s : State) → Gives (λ v. says Test v ≡ says Test (Boolean (truth v))) (value a s)
    any_test a s = gives_map (λ v. Unit {0}) (λ v. says Test v ≡ says Test (Boolean (truth v))) (λ v u. refl) (value a s) (gives_any (value a s))

    -- ---- a conditional, and the logical expression over its test or over the `!` of that

    after_negated : {A : Type 0} (x : Completion Value) (g : Value → State → Completion A) → after (after x (λ v z. ok (Boolean (not (truth v))) z)) g ≡ after x (λ v z. g (Boolean (not (truth v))) z)
    unfolding either
    after_negated (ok v s) g = refl
    after_negated (stop y s) g = refl
    after_negated (halt y s) g = refl
    after_negated out g = refl

    pub negated_and : (a b : Tree) (w : Want) (s : State) → means e (logical And (negation a) b) (As w) tt s ≡ after (value a s) (λ v z. choose (not (truth v)) (means e b (As w) tt z) (ok (says w (Boolean (not (truth v)))) z))
    negated_and a b w s = and_opened e (negation a) b w s ∙ ap (λ x. after x (λ v z. choose (truth v) (means e b (As w) tt z) (ok (says w v) z))) (negation_opened e a s) ∙ after_negated (value a s) (λ v z. choose (truth v) (means e b (As w) tt z) (ok (says w v) z))

    pub negated_or : (a b : Tree) (w : Want) (s : State) → means e (logical Or (negation a) b) (As w) tt s ≡ after (value a s) (λ v z. choose (not (truth v)) (ok (says w (Boolean (not (truth v)))) z) (means e b (As w) tt z))
    negated_or a b w s = or_opened e (negation a) b w s ∙ ap (λ x. after x (λ v z. choose (truth v) (ok (says w v) z) (means e b (As w) tt z))) (negation_opened e a s) ∙ after_negated (value a s) (λ v z. choose (truth v) (ok (says w v) z) (means e b (As w) tt z))

    module _ (w : Want) (a k b : Tree) (c : Bool) (known : (z : State) → Near (means e k (As w) tt z) (ok (says w (Boolean c)) z)) where
      -- what the truth is, said as it is wanted
      said : (v : Value) (z : State) → says w v ≡ says w (Boolean (truth v)) → truth v ≡ c → Near (means e k (As w) tt z) (ok (says w v) z)
      said v z h t = subst (λ y. Near (means e k (As w) tt z) (ok y z)) (ap (λ d. says w (Boolean d)) (sym t) ∙ sym h) (known z)

      said_turned : (t : Bool) (z : State) → not t ≡ c → Near (means e k (As w) tt z) (ok (says w (Boolean (not t))) z)
      said_turned t z h = subst (λ d. Near (means e k (As w) tt z) (ok (says w (Boolean d)) z)) (sym h) (known z)

      abbrev ToldAlike : State → Type 0
      ToldAlike s = Gives (λ v. says w v ≡ says w (Boolean (truth v))) (value a s)

      near_or : c ≡ true → (s : State) → ToldAlike s → Near (means e (conditional a k b) (As w) tt s) (means e (logical Or a b) (As w) tt s)
      near_or g s t =
          along (conditional_opened e a k b w s) (or_opened e a b w s)
          (near_after (λ v. says w v ≡ says w (Boolean (truth v))) (value a s) _ _ t (λ v p z. picked (truth v) _ _ _ _ (λ h. said v z p (h ∙ sym g)) (λ h. goes_refl D (means e b (As w) tt z))))

      near_and : c ≡ false → (s : State) → ToldAlike s → Near (means e (conditional a b k) (As w) tt s) (means e (logical And a b) (As w) tt s)
      near_and g s t =
          along (conditional_opened e a b k w s) (and_opened e a b w s)
          (near_after (λ v. says w v ≡ says w (Boolean (truth v))) (value a s) _ _ t (λ v p z. picked (truth v) _ _ _ _ (λ h. goes_refl D (means e b (As w) tt z)) (λ h. said v z p (h ∙ sym g))))

      near_negated_and : c ≡ false → (s : State) → Near (means e (conditional a k b) (As w) tt s) (means e (logical And (negation a) b) (As w) tt s)
      near_negated_and g s =
          along (conditional_opened e a k b w s) (negated_and a b w s)
          (near_after (λ v. Unit {0}) (value a s) _ _ (gives_any (value a s)) (λ v p z. picked_turned (truth v) _ _ _ _ (λ h. said_turned (truth v) z (ap not h ∙ sym g)) (λ h. goes_refl D (means e b (As w) tt z))))

      near_negated_or : c ≡ true → (s : State) → Near (means e (conditional a b k) (As w) tt s) (means e (logical Or (negation a) b) (As w) tt s)
      near_negated_or g s =
          along (conditional_opened e a b k w s) (negated_or a b w s)
          (near_after (λ v. Unit {0}) (value a s) _ _ (gives_any (value a s)) (λ v p z. picked_turned (truth v) _ _ _ _ (λ h. goes_refl D (means e b (As w) tt z)) (λ h. said_turned (truth v) z (ap not h ∙ sym g))))

    pub joined_near : (w : Want) (i c : Bool) (a k b : Tree) → ((z : State) → Near (means e k (As w) tt z) (ok (says w (Boolean c)) z)) → (s : State) → (is_turned i c ≡ false → Gives (λ v. says w v ≡ says w (Boolean (truth v))) (value a s)) → Near (means e (chosen i a k b) (As w) tt s) (means e (logical (giving c) (test_of (is_turned i c) a) b) (As w) tt s)
    joined_near w true true a k b h s t = near_or w a k b true h refl s (t refl)
    joined_near w true false a k b h s t = near_negated_and w a k b false h refl s
    joined_near w false true a k b h s t = near_negated_or w a k b true h refl s
    joined_near w false false a k b h s t = near_and w a k b false h refl s (t refl)

    -- ---- the right side of a logical expression

    pub right_known : (o : LogicalOperator) (a k : Tree) → is_and_or o ≡ true → goes_on o k ≡ true → is_effect_free k ≡ true → (s : State) → Near (means e (logical o a k) (As Test) tt s) (means e a (As Test) tt s)
    right_known And a k i g h s =
        along (and_opened e a k Test s) (asked_is Test a s) (near_after (λ v. Unit {0}) (value a s) _ _ (gives_any (value a s)) (λ v p z. go (truth v) z))
      where
        go : (t : Bool) (z : State) → Near (choose t (means e k (As Test) tt z) (ok t z)) (ok t z)
        go true z = known_test k true (true_is (evident_truth k) g) h z
        go false z = goes_refl D (ok false z)
    right_known Or a k i g h s =
        along (or_opened e a k Test s) (asked_is Test a s) (near_after (λ v. Unit {0}) (value a s) _ _ (gives_any (value a s)) (λ v p z. go (truth v) z))
      where
        go : (t : Bool) (z : State) → Near (choose t (ok t z) (means e k (As Test) tt z)) (ok t z)
        go true z = goes_refl D (ok true z)
        go false z = known_test k false (false_is (evident_truth k) g) h z
    right_known Coalesce a k i g h s = absurd (true≢false (sym i))
