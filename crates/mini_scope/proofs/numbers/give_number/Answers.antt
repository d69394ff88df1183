use Rattle.std.specs.Prelude.{ℕ, List, ◌≡◌, Some, OnOk, if◌then◌else◌}
use Rattle.std.proofs.Common.{◌∙◌, subst}
use Rattle.mini_model.specs.Weight.{same_text}
use Rattle.mini_scope.specs.Spelled.{number_of}
use Rattle.mini_scope.proofs.Renumbered.{given, unchanged, on_ok, on_err}
use Rattle.mini_scope.proofs.numbers.give_number.Goals as goal

pub returns-in-Ok-clause-given : goal.returns-in-Ok-clause-given
returns-in-Ok-clause-given c =
    subst (λ t. OnOk c.put.result ((s : List ℕ) → number_of c.put.new.numbers s ≡ (if same_text t s then Some c.args.number else number_of c.args.numbers.now s))) (c.in-Ok.ensures.items ∙ c.as_slice.ensures)
    (on_ok c.put.result (λ h s. given c.args.numbers.now c.put.new.numbers c.in-Ok.key.items s (Some c.args.number) h) c.put.ensures.given)

pub returns-in-Ok-clause-kept : goal.returns-in-Ok-clause-kept
returns-in-Ok-clause-kept c = on_err c.put.result (λ h s. unchanged c.args.numbers.now c.put.new.numbers s h) c.put.ensures.kept
