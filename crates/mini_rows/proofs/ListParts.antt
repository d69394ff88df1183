-- What a sequence does, part by part.
use Rattle.std.proofs.Common.{◌≡◌, suc, [], length, refl, sym, ap, ◌∙◌}
use Rattle.mini_model.specs.declared.shape.Shape.TheVariants as shape
use Rattle.mini_model.specs.Tree.{Tree, Trees, none, ◌▸◌}
use Rattle.mini_model.specs.Paths.{append}
use Rattle.mini_laws.specs.State.{State, Completion, stop, either, Environment}
use Rattle.mini_laws.specs.Demand.{Want, Unused, As, Parts, Says}
use Rattle.mini_laws.specs.Command.{Naming, run}
use Rattle.mini_laws.specs.Naming.{summaries, facts, naming}
use Rattle.mini_laws.specs.Asking.{parts_demand}
use Rattle.mini_laws.specs.Lists.{parts}
use Rattle.mini_laws.specs.Step.{step, means, meaning}
use Rattle.mini_laws.proofs.Runs.{either_cong, either_assoc, either_eta, either_stop, runs, run_shift}
use Rattle.mini_node.specs.Walks.{append_none}
use Rattle.mini_rows.specs.Lists.{of_parts, sequence}

-- the parts in a row, of which the last gives the value
unfoldable pub in_row : (e : Environment) → Tree → Trees → (w : Want) → State → Completion (Says w)
in_row e p none w s = means e p (As w) tt s
in_row e p (q ▸ qs) w s = either (means e p (As Unused) tt s) (λ u z. in_row e q qs w z) (λ x z. stop x z)

parts_run : (e : Environment) (names : Naming) (p : Tree) (ps : Trees) (w : Want) (s : State) → run {q = parts_demand (length (facts ps)) w} e names (λ i r z. meaning e (p ▸ ps) i (parts_demand (length (facts ps)) w i) r z) (parts (length (facts ps)) w) s ≡ in_row e p ps w s
unfolding meaning in_row
parts_run e names p none w s = either_eta (means e p (As w) tt s)
parts_run e names p (q ▸ qs) w s = either_cong (means e p (As Unused) tt s) _ _ _ _ (λ u z. run_shift e names (parts_demand (suc (length (facts qs))) w) (parts (length (facts qs)) w) (λ i r z. meaning e (p ▸ (q ▸ qs)) i (parts_demand (suc (length (facts qs))) w i) r z) z ∙ parts_run e names q qs w z) (λ x z. refl)

of_parts_is : (e : Environment) (p : Tree) (ps : Trees) (w : Want) (s : State) → means e (of_parts p ps) (As w) tt s ≡ in_row e p ps w s
unfolding means meaning step in_row
of_parts_is e p none w s = refl
of_parts_is e p (q ▸ qs) w s = simp runs (ap (λ x. x) (parts_run e (naming shape.Listed (Parts w) [] 0 (summaries (p ▸ (q ▸ qs)))) p (q ▸ qs) w s))

-- some parts and then others
rows_append : (e : Environment) (p : Tree) (ps : Trees) (q : Tree) (qs : Trees) (w : Want) (s : State) → in_row e p (append ps (q ▸ qs)) w s ≡ either (in_row e p ps Unused s) (λ u z. in_row e q qs w z) (λ x z. stop x z)
unfolding in_row
rows_append e p none q qs w s = refl
rows_append e p (c ▸ ps) q qs w s = either_cong (means e p (As Unused) tt s) _ _ _ _ (λ u z. rows_append e c ps q qs w z) (λ x z. sym (either_stop x z _ _)) ∙ sym (either_assoc (means e p (As Unused) tt s) _ _ _ _)

-- an expression of the parts of two
pub joined_is : (e : Environment) (p : Tree) (ps : Trees) (q : Tree) (qs : Trees) (w : Want) (s : State) → means e (of_parts p (append ps (q ▸ qs))) (As w) tt s ≡ either (means e (of_parts p ps) (As Unused) tt s) (λ u z. means e (of_parts q qs) (As w) tt z) (λ x z. stop x z)
joined_is e p ps q qs w s =
    of_parts_is e p (append ps (q ▸ qs)) w s
    ∙ rows_append e p ps q qs w s
    ∙ sym (ap (λ y. either y (λ u z. means e (of_parts q qs) (As w) tt z) (λ x z. stop x z)) (of_parts_is e p ps Unused s) ∙ either_cong (in_row e p ps Unused s) _ _ _ _ (λ u z. of_parts_is e q qs w z) (λ x z. refl))

-- ---- a sequence in a sequence

pub sequence_in_row : (e : Environment) (p : Tree) (ps : Trees) (w : Want) (s : State) → means e (sequence (p ▸ ps)) (As w) tt s ≡ in_row e p ps w s
unfolding means meaning step in_row
sequence_in_row e p ps w s = simp runs (parts_run e (naming shape.Listed (Parts w) [] 0 (summaries (p ▸ ps))) p ps w s)

module _ (e : Environment) (a b : Tree) (ps after : Trees) where
  -- its parts, and then what follows it
  spread_first : (w : Want) (s : State) → in_row e (sequence (a ▸ (b ▸ ps))) after w s ≡ in_row e a (b ▸ append ps after) w s
  unfolding in_row
  spread_first w s = go after
    where
      go : (after : Trees) → in_row e (sequence (a ▸ (b ▸ ps))) after w s ≡ in_row e a (b ▸ append ps after) w s
      go none = sequence_in_row e a (b ▸ ps) w s ∙ ap (λ qs. in_row e a (b ▸ qs) w s) (sym (append_none ps))
      go (c ▸ cs) = ap (λ y. either y (λ u z. in_row e c cs w z) (λ x z. stop x z)) (sequence_in_row e a (b ▸ ps) Unused s) ∙ sym (rows_append e a (b ▸ ps) c cs w s)

  spread_later : (p : Tree) (qs : Trees) (w : Want) (s : State) → in_row e p (append qs (sequence (a ▸ (b ▸ ps)) ▸ after)) w s ≡ in_row e p (append qs (a ▸ (b ▸ append ps after))) w s
  unfolding in_row
  spread_later p none w s = either_cong (means e p (As Unused) tt s) _ _ _ _ (λ u z. spread_first w z) (λ x z. refl)
  spread_later p (q ▸ qs) w s = either_cong (means e p (As Unused) tt s) _ _ _ _ (λ u z. spread_later q qs w z) (λ x z. refl)

  -- so its parts may stand in the sequence round it
  pub spread_is : (before : Trees) (w : Want) (s : State) → means e (sequence (append before (sequence (a ▸ (b ▸ ps)) ▸ after))) (As w) tt s ≡ means e (sequence (append before (a ▸ (b ▸ append ps after)))) (As w) tt s
  spread_is none w s = sequence_in_row e (sequence (a ▸ (b ▸ ps))) after w s ∙ spread_first w s ∙ sym (sequence_in_row e a (b ▸ append ps after) w s)
  spread_is (p ▸ qs) w s = sequence_in_row e p (append qs (sequence (a ▸ (b ▸ ps)) ▸ after)) w s ∙ spread_later p qs w s ∙ sym (sequence_in_row e p (append qs (a ▸ (b ▸ append ps after))) w s)
