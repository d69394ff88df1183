-- What a conditional does both of whose branches are known, and what its test does as a boolean or as a number.
use Rattle.std.proofs.Common.{◌≡◌, Bool, true, false, [], refl, sym, ap, ◌∙◌}
use Rattle.std.specs.Prelude.{not, pos, ℤ, if◌then◌else◌}
use Rattle.std.proofs.lemmas.Bool.{and_parts}
use Rattle.mini_model.specs.declared.operator.UnaryOperator.TheVariants.{UnaryPlus}
use Rattle.mini_model.specs.declared.shape.Shape.TheVariants as shape
use Rattle.mini_model.specs.Tree.{Tree, none, ◌▸◌, negation, conditional}
use Rattle.mini_laws.specs.Value.{Value, Boolean, Number, VariableSet, nothing, choose, truth}
use Rattle.mini_laws.specs.State.{Completion, ok, stop, halt, out, either, State, Environment}
use Rattle.mini_laws.specs.Demand.{Val, As}
use Rattle.mini_laws.specs.Command.{bind, run}
use Rattle.mini_laws.specs.Naming.{summaries, naming}
use Rattle.mini_laws.specs.Operators.{of_number}
use Rattle.mini_laws.specs.Replies.{reply, of_made, numeric}
use Rattle.mini_laws.specs.Step.{step, means, meaning}
use Rattle.mini_laws.proofs.Runs.{either_eta}
use Rattle.mini_terms.specs.Kind.{kind}
use Rattle.mini_terms.specs.Reading.{stands}
use Rattle.mini_terms.proofs.Dropping.{after_cong}
use Rattle.mini_terms.proofs.Frame.{gives_any}
use Rattle.mini_terms.proofs.Opened.{after, conditional_opened, negation_opened}
use Rattle.mini_rows.specs.Booleans.{digit, is_boolean_kind, is_truth, truth_of, plus}
use Rattle.mini_rows.proofs.BooleanRuns.{Near, near_after, along, boolean_test}

abbrev value : Environment → Tree → State → Completion Value
value e t s = means e t (As Val) tt s

-- a truth, or the other one
abbrev as_told : Bool → Bool → Bool
as_told true t = t
as_told false t = not t

twice : (t : Bool) → not (not t) ≡ t
twice true = refl
twice false = refl

pub after_boolean : {A : Type 0} (x : Completion Value) (f : Value → Bool) (g : Value → State → Completion A) → after (after x (λ v z. ok (Boolean (f v)) z)) g ≡ after x (λ v z. g (Boolean (f v)) z)
unfolding either
after_boolean (ok v s) f g = refl
after_boolean (stop y s) f g = refl
after_boolean (halt y s) f g = refl
after_boolean out f g = refl

-- ---- as a boolean

truth_opened : (e : Environment) (c : Bool) (a : Tree) (s : State) → value e (truth_of c a) s ≡ after (value e a s) (λ v z. ok (Boolean (as_told c (truth v))) z)
truth_opened e false a s = negation_opened e a s
truth_opened e true a s = go (is_truth a) refl
  where
    twice_negated : value e (negation (negation a)) s ≡ after (value e a s) (λ v z. ok (Boolean (truth v)) z)
    twice_negated =
        negation_opened e (negation a) s
        ∙ ap (λ x. after x (λ v z. ok (Boolean (not (truth v))) z)) (negation_opened e a s)
        ∙ after_boolean (value e a s) (λ v. not (truth v)) (λ v z. ok (Boolean (not (truth v))) z)
        ∙ after_cong (λ v. Unit {0}) (value e a s) _ _ (gives_any (value e a s)) (λ v p z. ap (λ t. ok (Boolean t) z) (twice (truth v)))

    itself : is_boolean_kind (kind a) ≡ true → value e a s ≡ after (value e a s) (λ v z. ok (Boolean (truth v)) z)
    itself h = sym (either_eta (value e a s)) ∙ after_cong (λ v. v ≡ Boolean (truth v)) (value e a s) _ _ (boolean_test nothing e a h s) (λ v p z. ap (λ u. ok u z) p)

    go : (b : Bool) → is_truth a ≡ b → value e (if b then a else negation (negation a)) s ≡ after (value e a s) (λ v z. ok (Boolean (truth v)) z)
    go true h = itself (and_parts (is_boolean_kind (kind a)) (stands a) h).0
    go false h = twice_negated

module _ (D : VariableSet) (e : Environment) where
  pub both_near : (c : Bool) (a k m : Tree) → ((z : State) → Near D (value e k z) (ok (Boolean c) z)) → ((z : State) → Near D (value e m z) (ok (Boolean (not c)) z)) → (s : State) → Near D (value e (conditional a k m) s) (value e (truth_of c a) s)
  both_near c a k m h g s =
      along D (conditional_opened e a k m Val s) (truth_opened e c a s)
      (near_after D (λ v. Unit {0}) (value e a s) _ _ (gives_any (value e a s)) (λ v p z. go c (truth v) z (h z) (g z)))
    where
      go : (c t : Bool) (z : State) → Near D (value e k z) (ok (Boolean c) z) → Near D (value e m z) (ok (Boolean (not c)) z) → Near D (choose t (value e k z) (value e m z)) (ok (Boolean (as_told c t)) z)
      go true true z h g = h
      go true false z h g = g
      go false true z h g = h
      go false false z h g = g

-- ---- as a number

abbrev number_of : Bool → ℤ
number_of true = pos 1
number_of false = pos 0

-- what `+` does with the value of its operand
abbrev plus_of : Environment → Tree → Value → State → Completion Value
plus_of e x v z = run {q = λ i. As Val} e (naming (shape.UnaryExpression UnaryPlus) (As Val) [] 0 (summaries (x ▸ none))) (λ i r z. meaning e (x ▸ none) i (As Val) r z) (bind (bind (numeric v) (λ n. of_made (of_number UnaryPlus n))) (reply (As Val) tt)) z

plus_value : (e : Environment) (x : Tree) (s : State) → value e (plus x) s ≡ after (value e x s) (plus_of e x)
unfolding means meaning step
plus_value e x s = refl

plus_boolean : (e : Environment) (x : Tree) (b : Bool) (z : State) → plus_of e x (Boolean b) z ≡ ok (Number (number_of b)) z
plus_boolean e x true z = refl
plus_boolean e x false z = refl

-- `+` of what gives a boolean
plus_opened : (e : Environment) (x : Tree) (y : Completion Value) (f : Value → Bool) (s : State) → value e x s ≡ after y (λ v z. ok (Boolean (f v)) z) → value e (plus x) s ≡ after y (λ v z. ok (Number (number_of (f v))) z)
plus_opened e x y f s h =
    plus_value e x s
    ∙ ap (λ c. after c (plus_of e x)) h
    ∙ after_boolean y f (plus_of e x)
    ∙ after_cong (λ v. Unit {0}) y _ _ (gives_any y) (λ v p z. plus_boolean e x (f v) z)

-- the conditional of digits
digit_chosen : (e : Environment) (c t : Bool) (z : State) → choose t (value e (digit c) z) (value e (digit (not c)) z) ≡ ok (Number (number_of (as_told c t))) z
unfolding means step
digit_chosen e true true z = refl
digit_chosen e true false z = refl
digit_chosen e false true z = refl
digit_chosen e false false z = refl

digits_opened : (e : Environment) (c : Bool) (a : Tree) (s : State) → value e (conditional a (digit c) (digit (not c))) s ≡ after (value e a s) (λ v z. ok (Number (number_of (as_told c (truth v)))) z)
digits_opened e c a s =
    conditional_opened e a (digit c) (digit (not c)) Val s
    ∙ after_cong (λ v. Unit {0}) (value e a s) _ _ (gives_any (value e a s)) (λ v p z. digit_chosen e c (truth v) z)

pub digits_of_truth : (e : Environment) (c : Bool) (a : Tree) (s : State) → value e (conditional a (digit c) (digit (not c))) s ≡ value e (plus (truth_of c a)) s
digits_of_truth e c a s = digits_opened e c a s ∙ sym (plus_opened e (truth_of c a) (value e a s) (λ v. as_told c (truth v)) s (truth_opened e c a s))
