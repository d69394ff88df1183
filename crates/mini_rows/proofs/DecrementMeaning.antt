-- `t -= 1` does what `--t` does, whatever is assigned to.
use Rattle.std.proofs.Common.{◌≡◌, true, refl, sym, ap, ◌∙◌}
use Rattle.std.specs.Prelude.{ℤ, pos, negsuc, ◌-ℤ◌, []}
use Rattle.mini_model.specs.declared.operator.AssignmentOperator.TheVariants.{Subtraction}
use Rattle.mini_model.specs.declared.operator.BinaryOperator.TheVariants as binary_operator
use Rattle.mini_model.specs.declared.operator.UpdateOperator.{UpdateOperator}
use Rattle.mini_model.specs.declared.operator.UpdateOperator.TheVariants.{Increment, Decrement}
use Rattle.mini_model.specs.declared.shape.Shape.TheVariants as shape
use Rattle.mini_model.specs.Tree.{Tree, none, ◌▸◌}
use Rattle.mini_laws.specs.Value.{Value, Number, choose}
use Rattle.mini_laws.specs.State.{Item, State, ok, stop, either, Environment}
use Rattle.mini_laws.specs.Demand.{Val, Demand, As, Callee, OfType, Deleted, Target, AnEntry, AValue, Prepare, Fetch, Put, Reference, Request, plain_call}
use Rattle.mini_laws.specs.Command.{Naming, Command, ret, kid, then, bind, Kids, run}
use Rattle.mini_laws.specs.Naming.{summaries, naming}
use Rattle.mini_laws.specs.Replies.{reply, of_made, numeric, operate}
use Rattle.mini_laws.specs.Conversion.{Made}
use Rattle.mini_laws.specs.Operators.{safe_number}
use Rattle.mini_laws.specs.Targets.{AssignDemand, put_target, after_read, changed, update_step}
use Rattle.mini_laws.specs.Step.{step, means, meaning}
use Rattle.mini_laws.proofs.Runs.{either_cong, either_assoc, either_ok, run_bind}
use Rattle.mini_laws.proofs.Truth.{coherent}
use Rattle.mini_rows.specs.Spellings.{amount, subtracts, steps, update}
use Rattle.mini_rows.proofs.ChoiceRuns.{value, asked, Tells, by_value, after_value, assignment_tells, bind_free, made_free, numeric_free}
use Rattle.mini_rows.proofs.SpellAlike.{SameTree}

-- ---- an update tells all that is asked of it by its value

update_told : (o : UpdateOperator) (t : Tree) (e : Environment) (q : Demand) (r : Request q) (s : State) → means e (update o true t) q r s ≡ asked q r (value e (update o true t) s)
unfolding means meaning step asked
update_told o t e (As w) r s = coherent (update o true t) w e s
update_told o t e Callee r s = after_value e (naming (shape.UpdateExpression o true) Callee [] 0 (summaries (t ▸ none))) (λ i. Target) (λ i r z. meaning e (t ▸ none) i Target r z) (update_step o true) (λ v. ret (plain_call v)) s
update_told o t e OfType r s = after_value e (naming (shape.UpdateExpression o true) OfType [] 0 (summaries (t ▸ none))) (λ i. Target) (λ i r z. meaning e (t ▸ none) i Target r z) (update_step o true) (λ v. ret v) s
update_told o t e Deleted r s = after_value e (naming (shape.UpdateExpression o true) Deleted [] 0 (summaries (t ▸ none))) (λ i. Target) (λ i r z. meaning e (t ▸ none) i Target r z) (update_step o true) (λ v. ret (AValue v)) s
update_told o t e AnEntry r s = after_value e (naming (shape.UpdateExpression o true) AnEntry [] 0 (summaries (t ▸ none))) (λ i. Target) (λ i r z. meaning e (t ▸ none) i Target r z) (update_step o true) (λ v. ret (Item v)) s
update_told o t e q r s = refl

update_tells : (o : UpdateOperator) (t : Tree) → Tells (update o true t)
update_tells o t = record { by = update_told o t }

-- ---- the two do the same

-- the number that is subtracted
abbrev number_of : UpdateOperator → ℤ
number_of Decrement = pos 1
number_of Increment = negsuc 0

amount_is : (e : Environment) (o : UpdateOperator) (s : State) → value e (amount o) s ≡ ok (Number (number_of o)) s
unfolding means meaning step either
amount_is e Decrement s = refl
amount_is e Increment s = refl

module _ (e : Environment) (o : UpdateOperator) (t : Tree) where
  abbrev subtracting : Naming
  subtracting = naming (shape.AssignmentExpression Subtraction) (As Val) [] 0 (summaries (t ▸ amount o ▸ none))

  abbrev subtracting_kids : Kids AssignDemand
  subtracting_kids i r z = meaning e (t ▸ amount o ▸ none) i (AssignDemand i) r z

  abbrev stepping : Naming
  stepping = naming (shape.UpdateExpression o true) (As Val) [] 0 (summaries (t ▸ none))

  abbrev stepping_kids : Kids (λ i. Target)
  stepping_kids i r z = meaning e (t ▸ none) i Target r z

  -- a command of the one and a command of the other that do the same
  abbrev Both : {A : Type 0} → Command AssignDemand A → Command (λ i. Target) A → Type 0
  Both c d = (z : State) → run {q = AssignDemand} e subtracting subtracting_kids c z ≡ run {q = λ i. Target} e stepping stepping_kids d z

  module _ (reference : Reference) where
    -- the value is put to the target, and is the value of the whole
    abbrev put_back : ℤ → Value → Command (λ i. Target) Value
    put_back n v = kid 0 (Put reference v) (then (λ u. ret (choose true v (Number n))))

    put_alike : (n : ℤ) (v : Value) → Both (put_target reference v) (put_back n v)
    unfolding meaning
    put_alike n v z = refl

    made_alike : (n : ℤ) (x : Made Value) → Both (bind (of_made x) (put_target reference)) (bind (of_made x) (put_back n))
    made_alike n x = bind_free e subtracting stepping AssignDemand (λ i. Target) subtracting_kids stepping_kids (of_made x) (of_made x) (put_target reference) (put_back n) (made_free e subtracting stepping AssignDemand (λ i. Target) subtracting_kids stepping_kids x) (put_alike n)

    difference : (p : UpdateOperator) (n : ℤ) → Both (bind (of_made (safe_number (n -ℤ number_of p))) (put_target reference)) (bind (of_made (safe_number (changed p n))) (put_back n))
    difference Decrement n = made_alike n (safe_number (n -ℤ pos 1))
    difference Increment n = made_alike n (safe_number (n -ℤ negsuc 0))

    -- of the old value
    stepped : (v : Value) → Both (bind (operate binary_operator.Subtraction v (Number (number_of o))) (put_target reference)) (bind (numeric v) (λ n. bind (of_made (safe_number (changed o n))) (put_back n)))
    unfolding either
    stepped v z =
        run_bind e subtracting (operate binary_operator.Subtraction v (Number (number_of o))) (put_target reference) subtracting_kids z
        ∙ ap (λ y. either y (λ u k. run {q = AssignDemand} e subtracting subtracting_kids (put_target reference u) k) (λ x k. stop x k)) (run_bind e subtracting (numeric v) (λ n. of_made (safe_number (n -ℤ number_of o))) subtracting_kids z)
        ∙ either_assoc (run {q = AssignDemand} e subtracting subtracting_kids (numeric v) z) _ _ _ _
        ∙ ap (λ y. either y (λ n k. either (run {q = AssignDemand} e subtracting subtracting_kids (of_made (safe_number (n -ℤ number_of o))) k) (λ u k. run {q = AssignDemand} e subtracting subtracting_kids (put_target reference u) k) (λ x k. stop x k)) (λ x k. stop x k)) (numeric_free e subtracting stepping AssignDemand (λ i. Target) subtracting_kids stepping_kids v z)
        ∙ either_cong (run {q = λ i. Target} e stepping stepping_kids (numeric v) z) _ _ _ _ (λ n k. sym (run_bind e subtracting (of_made (safe_number (n -ℤ number_of o))) (put_target reference) subtracting_kids k) ∙ difference o n k) (λ x k. refl)
        ∙ sym (run_bind e stepping (numeric v) (λ n. bind (of_made (safe_number (changed o n))) (put_back n)) stepping_kids z)

  -- and so where it is replied
  replied : (reference : Reference) (v : Value) → Both (bind (bind (operate binary_operator.Subtraction v (Number (number_of o))) (put_target reference)) (reply (As Val) tt)) (bind (bind (numeric v) (λ n. bind (of_made (safe_number (changed o n))) (put_back reference n))) (reply (As Val) tt))
  replied reference v = bind_free e subtracting stepping AssignDemand (λ i. Target) subtracting_kids stepping_kids _ _ (reply (As Val) tt) (reply (As Val) tt) (stepped reference v) (λ u z. refl)

  -- behind the old value: the number is read, and nothing else happens
  counted : (reference : Reference) (v : Value) (z : State) → either (value e (amount o) z) (λ u k. run {q = AssignDemand} e subtracting subtracting_kids (bind (bind (operate binary_operator.Subtraction v u) (put_target (after_read reference))) (reply (As Val) tt)) k) (λ x k. stop x k) ≡ run {q = λ i. Target} e stepping stepping_kids (bind (bind (numeric v) (λ n. bind (of_made (safe_number (changed o n))) (put_back (after_read reference) n))) (reply (As Val) tt)) z
  counted reference v z =
      ap (λ y. either y (λ u k. run {q = AssignDemand} e subtracting subtracting_kids (bind (bind (operate binary_operator.Subtraction v u) (put_target (after_read reference))) (reply (As Val) tt)) k) (λ x k. stop x k)) (amount_is e o z)
      ∙ either_ok (Number (number_of o)) z _ _
      ∙ replied (after_read reference) v z

  -- ECMA-262, "Assignment Operators" and "Update Expressions": the target is prepared and read
  step_value : (s : State) → value e (subtracts o t) s ≡ value e (steps o t) s
  unfolding means meaning step either
  step_value s = either_cong (means e t Target Prepare s) _ _ _ _ (λ reference z. either_cong (means e t Target (Fetch reference) z) _ _ _ _ (λ v k. counted reference v k) (λ x k. refl)) (λ x z. refl)

pub step_same : (o : UpdateOperator) (t : Tree) → SameTree (subtracts o t) (steps o t)
step_same o t = by_value (subtracts o t) (steps o t) (assignment_tells Subtraction t (amount o)) (update_tells o t) refl (λ e s. step_value e o t s)
