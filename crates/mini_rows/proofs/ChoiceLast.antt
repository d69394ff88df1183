-- What is assigned last of a sequence may be decided on before it (38).
use Rattle.std.proofs.Common.{◌≡◌, refl, sym, ap, ◌∙◌}
use Rattle.mini_model.specs.declared.name.Name.{Name}
use Rattle.mini_model.specs.declared.operator.LogicalOperator.{LogicalOperator}
use Rattle.mini_model.specs.declared.seat.Seat.{Seat}
use Rattle.mini_model.specs.Tree.{Tree, Trees, none, ◌▸◌, identifier, logical}
use Rattle.mini_model.specs.Paths.{append}
use Rattle.mini_laws.specs.Value.{choose}
use Rattle.mini_laws.specs.State.{State, ok, stop, either, Environment}
use Rattle.mini_laws.specs.Demand.{Val, Unused, As}
use Rattle.mini_laws.specs.Step.{means}
use Rattle.mini_laws.specs.Targets.{assigns}
use Rattle.mini_laws.proofs.Runs.{either_cong, either_assoc}
use Rattle.mini_rows.specs.Lists.{of_parts, sequence}
use Rattle.mini_rows.specs.Spellings.{assignment}
use Rattle.mini_rows.specs.Choices.{assign, deciding, Row38Last}
use Rattle.mini_rows.proofs.ChoiceRuns.{value, by_value, logical_tells, logical_value, assignment_tells, assign_value, deciding_value, puts}
use Rattle.mini_rows.proofs.ListParts.{joined_is}
use Rattle.mini_rows.proofs.SequenceMeaning.{several}
use Rattle.mini_rows.proofs.SpellAlike.{SameTree}
use Rattle.mini_rows.proofs.SpellMeaning.{same_by}

-- ---- the same

-- the parts but the last, and then the last
pub in_order : (e : Environment) (p : Tree) (ps : Trees) (q : Tree) (s : State) → value e (sequence (p ▸ append ps (q ▸ none))) s ≡ either (means e (of_parts p ps) (As Unused) tt s) (λ u z. value e q z) (λ x z. stop x z)
in_order e p ps q s = ap (λ t. value e t s) (sym (several p ps q)) ∙ joined_is e p ps q none Val s

put_last : (e : Environment) (x : Name) (p : Tree) (ps : Trees) (b : Tree) (s : State) → value e (sequence (p ▸ append ps (assign x b ▸ none))) s ≡ puts e x (value e (sequence (p ▸ append ps (b ▸ none))) s)
unfolding either
put_last e x p ps b s =
    in_order e p ps (assign x b) s
    ∙ either_cong (means e (of_parts p ps) (As Unused) tt s) _ _ _ _ (λ u z. assign_value e x b z) (λ y z. refl)
    ∙ sym (ap (puts e x) (in_order e p ps b s) ∙ either_assoc (means e (of_parts p ps) (As Unused) tt s) (λ u z. value e b z) (λ y z. stop y z) _ _)

last_value : (e : Environment) (o : LogicalOperator) (x : Name) (p : Tree) (ps : Trees) (b : Tree) (s : State) → value e (logical o (identifier x) (sequence (p ▸ append ps (assign x b ▸ none)))) s ≡ value e (assignment (deciding o) (identifier x) (sequence (p ▸ append ps (b ▸ none)))) s
last_value e o x p ps b s =
    logical_value e o (identifier x) (sequence (p ▸ append ps (assign x b ▸ none))) s
    ∙ either_cong (value e (identifier x) s) _ _ _ _ (λ v z. ap (λ y. choose (assigns o v) y (ok v z)) (put_last e x p ps b z)) (λ y z. refl)
    ∙ sym (deciding_value e o x (sequence (p ▸ append ps (b ▸ none))) s)

pub last_same : (s : Seat) (n w : Tree) → Row38Last s n w → SameTree n w
last_same s n w r =
    same_by n w _ _ r.shape r.written
    (by_value _ _ (logical_tells r.operator (identifier r.name) (sequence (r.first ▸ append r.others (assign r.name r.b ▸ none)))) (assignment_tells (deciding r.operator) (identifier r.name) (sequence (r.first ▸ append r.others (r.b ▸ none)))) refl
    (λ e z. last_value e r.operator r.name r.first r.others r.b z))
