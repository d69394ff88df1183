-- What expressions of two and three parts do, over what the value of their first part is.
use Rattle.std.proofs.Common.{◌≡◌, ℕ, Bool, true, false, Option, refl, ap, ◌∙◌}
use Rattle.mini_model.specs.declared.operator.LogicalOperator.TheVariants.{Or, And, Coalesce}
use Rattle.mini_model.specs.Tree.{Tree, none, ◌▸◌, logical, conditional, negation, expression_statement}
use Rattle.std.specs.Prelude.{not}
use Rattle.mini_laws.specs.Value.{Value, Boolean, choose, truth, is_nullish}
use Rattle.mini_laws.specs.State.{Completion, ok, stop, halt, out, either, State, Stop, Environment}
use Rattle.mini_laws.specs.Demand.{Want, Val, Test, Unused, Tail, Demand, As, Stat, LabelSet, Request, Reply, Says, says}
use Rattle.mini_laws.specs.Command.{Naming, ret, kid, then, bind, run}
use Rattle.mini_laws.specs.Asking.{and_or_demand, first_demand}
use Rattle.mini_laws.specs.Replies.{passed}
use Rattle.mini_laws.specs.Samples.{sequence}
use Rattle.mini_laws.specs.Step.{step, means, meaning}
use Rattle.mini_laws.specs.Truth.{told}
use Rattle.mini_laws.proofs.Truth.{coherent}
use Rattle.mini_laws.proofs.Runs.{either_cong, runs, tails, tail_stop}

pub told_either : {B : Type 0} (w : Want) (x : Completion Value) (f : Says w → State → Completion B) (h : Stop → State → Completion B) → either (told w x) f h ≡ either x (λ v z. f (says w v) z) h
unfolding told either
told_either w (ok v s) f h = refl
told_either w (stop y s) f h = refl
told_either w (halt y s) f h = refl
told_either w out f h = refl

-- after the value of a first part
abbrev pub after : {B : Type 0} → Completion Value → (Value → State → Completion B) → Completion B
after x f = either x f (λ y z. stop y z)

module _ (e : Environment) where
  asked : {B : Type 0} (w : Want) (a : Tree) (s : State) (f : Says w → State → Completion B) → either (means e a (As w) tt s) f (λ y z. stop y z) ≡ after (means e a (As Val) tt s) (λ v z. f (says w v) z)
  asked w a s f = ap (λ x. either x f (λ y z. stop y z)) (coherent a w e s) ∙ told_either w (means e a (As Val) tt s) f (λ y z. stop y z)

  abbrev All : Type 0
  All = (i : ℕ) (q : Demand) (r : Request q) → State → Completion (Reply q r)

  module _ (names : Naming) (K : All) where
    and_val : (c : Bool) (v : Value) (z : State) → run {q = and_or_demand Val} e names (λ i. K i (and_or_demand Val i)) (bind (choose c (kid 1 tt (then ret)) (ret v)) (passed (As Val) tt)) z ≡ choose c (K 1 (As Val) tt z) (ok v z)
    and_val true v z = simp runs
    and_val false v z = refl

    and_test : (c : Bool) (z : State) → run {q = and_or_demand Test} e names (λ i. K i (and_or_demand Test i)) (bind (choose c (kid 1 tt (then ret)) (ret false)) (passed (As Test) tt)) z ≡ choose c (K 1 (As Test) tt z) (ok c z)
    and_test true z = simp runs
    and_test false z = refl

    and_unused : (c : Bool) (z : State) → run {q = and_or_demand Unused} e names (λ i. K i (and_or_demand Unused i)) (bind (choose c (kid 1 tt (then ret)) (ret tt)) (passed (As Unused) tt)) z ≡ choose c (K 1 (As Unused) tt z) (ok tt z)
    and_unused true z = simp runs
    and_unused false z = refl

    or_val : (c : Bool) (v : Value) (z : State) → run {q = and_or_demand Val} e names (λ i. K i (and_or_demand Val i)) (bind (choose c (ret v) (kid 1 tt (then ret))) (passed (As Val) tt)) z ≡ choose c (ok v z) (K 1 (As Val) tt z)
    or_val true v z = refl
    or_val false v z = simp runs

    or_test : (c : Bool) (z : State) → run {q = and_or_demand Test} e names (λ i. K i (and_or_demand Test i)) (bind (choose c (ret true) (kid 1 tt (then ret))) (passed (As Test) tt)) z ≡ choose c (ok c z) (K 1 (As Test) tt z)
    or_test true z = refl
    or_test false z = simp runs

    or_unused : (c : Bool) (z : State) → run {q = and_or_demand Unused} e names (λ i. K i (and_or_demand Unused i)) (bind (choose c (ret tt) (kid 1 tt (then ret))) (passed (As Unused) tt)) z ≡ choose c (ok tt z) (K 1 (As Unused) tt z)
    or_unused true z = refl
    or_unused false z = simp runs

    coalesce_at : (w : Want) (c : Bool) (v : Value) (z : State) → run {q = λ i. As Val} e names (λ i. K i (As Val)) (bind (choose c (kid 1 tt (then (λ u. ret (says w u)))) (ret (says w v))) (passed (As w) tt)) z ≡ choose c (told w (K 1 (As Val) tt z)) (ok (says w v) z)
    unfolding told
    coalesce_at w true v z = refl
    coalesce_at w false v z = refl

    conditional_at : (w : Want) (c : Bool) (z : State) → run {q = first_demand (As Test) (As w)} e names (λ i. K i (first_demand (As Test) (As w) i)) (bind (choose c (kid 1 tt (then ret)) (kid 2 tt (then ret))) (passed (As w) tt)) z ≡ choose c (K 1 (As w) tt z) (K 2 (As w) tt z)
    conditional_at w true z = simp runs
    conditional_at w false z = simp runs

  pub and_opened : (a b : Tree) (w : Want) (s : State) → means e (logical And a b) (As w) tt s ≡ after (means e a (As Val) tt s) (λ v z. choose (truth v) (means e b (As w) tt z) (ok (says w v) z))
  unfolding means meaning step
  and_opened a b Val s = either_cong (means e a (As Val) tt s) _ _ _ _ (λ v z. and_val _ (meaning e (a ▸ (b ▸ none))) (truth v) v z) (λ y z. refl)
  and_opened a b Test s = asked Test a s _ ∙ either_cong (means e a (As Val) tt s) _ _ _ _ (λ v z. and_test _ (meaning e (a ▸ (b ▸ none))) (truth v) z) (λ y z. refl)
  and_opened a b Unused s = asked Test a s _ ∙ either_cong (means e a (As Val) tt s) _ _ _ _ (λ v z. and_unused _ (meaning e (a ▸ (b ▸ none))) (truth v) z) (λ y z. refl)

  pub or_opened : (a b : Tree) (w : Want) (s : State) → means e (logical Or a b) (As w) tt s ≡ after (means e a (As Val) tt s) (λ v z. choose (truth v) (ok (says w v) z) (means e b (As w) tt z))
  unfolding means meaning step
  or_opened a b Val s = either_cong (means e a (As Val) tt s) _ _ _ _ (λ v z. or_val _ (meaning e (a ▸ (b ▸ none))) (truth v) v z) (λ y z. refl)
  or_opened a b Test s = asked Test a s _ ∙ either_cong (means e a (As Val) tt s) _ _ _ _ (λ v z. or_test _ (meaning e (a ▸ (b ▸ none))) (truth v) z) (λ y z. refl)
  or_opened a b Unused s = asked Test a s _ ∙ either_cong (means e a (As Val) tt s) _ _ _ _ (λ v z. or_unused _ (meaning e (a ▸ (b ▸ none))) (truth v) z) (λ y z. refl)

  pub coalesce_opened : (a b : Tree) (w : Want) (s : State) → means e (logical Coalesce a b) (As w) tt s ≡ after (means e a (As Val) tt s) (λ v z. choose (is_nullish v) (told w (means e b (As Val) tt z)) (ok (says w v) z))
  unfolding means meaning step
  coalesce_opened a b w s = either_cong (means e a (As Val) tt s) _ _ _ _ (λ v z. coalesce_at _ (meaning e (a ▸ (b ▸ none))) w (is_nullish v) v z) (λ y z. refl)

  pub conditional_opened : (a b c : Tree) (w : Want) (s : State) → means e (conditional a b c) (As w) tt s ≡ after (means e a (As Val) tt s) (λ v z. choose (truth v) (means e b (As w) tt z) (means e c (As w) tt z))
  unfolding means meaning step
  conditional_opened a b c w s = asked Test a s _ ∙ either_cong (means e a (As Val) tt s) _ _ _ _ (λ v z. conditional_at _ (meaning e (a ▸ (b ▸ (c ▸ none)))) w (truth v) z) (λ y z. refl)

  pub sequence_opened : (a b : Tree) (w : Want) (s : State) → means e (sequence (a ▸ (b ▸ none))) (As w) tt s ≡ after (means e a (As Val) tt s) (λ v z. means e b (As w) tt z)
  unfolding means meaning step
  sequence_opened a b w s = simp runs (asked Unused a s _)

  pub negation_opened : (a : Tree) (s : State) → means e (negation a) (As Val) tt s ≡ after (means e a (As Val) tt s) (λ v z. ok (Boolean (not (truth v))) z)
  unfolding means meaning step
  negation_opened a s = asked Test a s _

  pub statement_opened : (a : Tree) (t : Option Tail) (ls : LabelSet) (s : State) → means e (expression_statement a) (Stat t) ls s ≡ either (means e a (As Unused) tt s) (λ u z. ok tt z) (λ x z. tail_stop t x z)
  unfolding means meaning step
  statement_opened a t ls s = simp tails
