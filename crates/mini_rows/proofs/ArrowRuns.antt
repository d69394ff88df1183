-- What an arrow function does, and that its body runs as the value that it returns.
use Rattle.std.proofs.Common.{◌≡◌, ℕ, false, [], List, Some, None, refl, sym, ap, ◌∙◌}
use Rattle.mini_model.specs.declared.place.Position.{Position}
use Rattle.mini_model.specs.declared.place.Position.TheVariants.{Expr}
use Rattle.mini_model.specs.declared.shape.Shape.TheVariants as shape
use Rattle.mini_model.specs.Tree.{Tree, none, ◌▸◌, listed}
use Rattle.mini_laws.specs.Value.{Value, Undefined, Variable, Slot}
use Rattle.mini_laws.specs.State.{State, Answer, Returned, Completion, ok, stop, halt, out, either, Environment}
use Rattle.mini_laws.specs.Demand.{Val, FunctionTail, Demand, As, Callee, OfType, Deleted, AnEntry, Stat, Request}
use Rattle.mini_laws.specs.Command.{Naming, Kids, act, run}
use Rattle.mini_laws.specs.Naming.{summary, summaries, facts, naming}
use Rattle.mini_laws.specs.Statements.{body_step}
use Rattle.mini_laws.specs.Step.{step, means, meaning}
use Rattle.mini_laws.specs.Body.{FunctionStatements, ArrowExpression, outcome_of_reply, ends_as, start_of, Run}
use Rattle.mini_laws.specs.Rows.{SameAt}
use Rattle.mini_laws.specs.Rewritten.{MeansSame}
use Rattle.mini_laws.specs.Tails.{ends_in}
use Rattle.mini_laws.proofs.Rows.{equal_same}
use Rattle.mini_laws.proofs.Runs.{either_assoc, either_cong, either_eta, either_stop}
use Rattle.mini_laws.proofs.Stretching.{listed_one}
use Rattle.mini_laws.proofs.Tailing.{finished, finish_none, tail_same}
use Rattle.mini_rows.specs.Lists.{return_statement}
use Rattle.mini_rows.specs.Arrows.{arrow, returning, ArrowRow, ArrowContracts}
use Rattle.mini_rows.proofs.ListStatements.{return_is}

-- ---- the function itself

created : (k : ℕ) (ps b c : Tree) (e : Environment) (q : Demand) (r : Request q) (s : State) → means e (arrow k ps b) q r s ≡ means e (arrow k ps c) q r s
unfolding means step
created k ps b c e (As w) r s = refl
created k ps b c e Callee r s = refl
created k ps b c e OfType r s = refl
created k ps b c e Deleted r s = refl
created k ps b c e AnEntry r s = refl
created k ps b c e q r s = refl

row_same : (p : Position) (n w : Tree) → ArrowRow p n w → SameAt p n w
row_same (Expr s) n w r =
    equal_same (Expr s) n w (record { by = λ e q f x z. ap (λ t. means e t q x z) r.shape ∙ created r.number r.parameters (returning r.value) r.value e q x z ∙ sym (ap (λ t. means e t q x z) r.written) })
row_same p n w r = absurd r

row_reads : (p : Position) (n w : Tree) → ArrowRow p n w → summary n ≡ summary w
row_reads (Expr s) n w r = ap summary r.shape ∙ sym (ap summary r.written)
row_reads p n w r = absurd r

pub arrow_rows_same : MeansSame ArrowRow
arrow_rows_same = record { same = row_same; reads = row_reads }

pub arrows_same : MeansSame ArrowContracts
arrows_same = record { same = λ p n w c. row_same p n w c.row; reads = λ p n w c. row_reads p n w c.row }

-- ---- its body

module _ (e : Environment) (v : Tree) where
  abbrev names : Naming
  names = naming shape.FunctionBody (Stat None) [] 0 (summaries (listed (return_statement v ▸ none) ▸ none))

  abbrev kids : Kids (λ i. Stat (Some FunctionTail))
  kids i r z = meaning e (listed (return_statement v ▸ none) ▸ none) i (Stat (Some FunctionTail)) r z

  command_runs : (s : State) → run {q = λ i. Stat (Some FunctionTail)} e names kids (body_step false (Some FunctionTail) (facts (listed (return_statement v ▸ none) ▸ none))) s ≡ means e (listed (return_statement v ▸ none)) (Stat (Some FunctionTail)) [] s
  unfolding meaning act either
  command_runs s = either_eta (means e (listed (return_statement v ▸ none)) (Stat (Some FunctionTail)) [] s)

  body_is : (s : State) → means e (returning v) (Stat None) [] s ≡ means e (listed (return_statement v ▸ none)) (Stat (Some FunctionTail)) [] s
  unfolding means step
  body_is s = finished e names (λ i. Stat (Some FunctionTail)) kids None (body_step false (Some FunctionTail) (facts (listed (return_statement v ▸ none) ▸ none))) s ∙ finish_none _ ∙ command_runs s

  body_does : (s : State) → means e (returning v) (Stat None) [] s ≡ either (means e v (As Val) tt s) (λ a z. ends_in (Some FunctionTail) (Returned a) z) (λ x z. ends_in (Some FunctionTail) x z)
  body_does s =
      body_is s ∙ tail_same e (listed (return_statement v ▸ none)) (Some FunctionTail) [] s
      ∙ ap (λ x. either x (λ u z. ok tt z) (ends_in (Some FunctionTail))) (listed_one e (return_statement v) s ∙ return_is e v [] s)
      ∙ either_assoc (means e v (As Val) tt s) _ _ _ _
      ∙ either_cong (means e v (As Val) tt s) _ _ _ _ (λ a z. either_stop (Returned a) z _ _) (λ x z. either_stop x z _ _)

  ends_same : (x : Completion Value) → ends_as e (outcome_of_reply FunctionStatements) (either x (λ a z. ends_in (Some FunctionTail) (Returned a) z) (λ y z. ends_in (Some FunctionTail) y z)) ≡ ends_as e (outcome_of_reply ArrowExpression) x
  unfolding either
  ends_same (ok Undefined z) = refl
  ends_same (ok a z) = refl
  ends_same (stop (Returned Undefined) z) = refl
  ends_same (stop (Returned a) z) = refl
  ends_same (stop x z) = refl
  ends_same (halt x z) = refl
  ends_same out = refl

  pub runs_same : (vars : Variable → Slot) (this : Value) (answers : List Answer) (turns : ℕ) → Run e FunctionStatements (returning v) vars this answers turns ≡ Run e ArrowExpression v vars this answers turns
  runs_same vars this answers turns = ap (ends_as e (outcome_of_reply FunctionStatements)) (body_does (start_of vars this answers turns)) ∙ ends_same (means e v (As Val) tt (start_of vars this answers turns))
