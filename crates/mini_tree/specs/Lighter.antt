-- A step of one rule or the other is a step of one of them, so it makes the whole lighter where
-- both do.
use Rattle.std.specs.Prelude.{◌⊎◌, ℕ, ◌<◌}
use Rattle.std.proofs.Common.{inl, inr}
use Rattle.mini_model.specs.Tree.{Tree, Trees}
use Rattle.mini_model.specs.declared.place.Position.{Position}
use Rattle.mini_model.specs.Weight.{weight}
use Rattle.mini_model.specs.Rewriting.{Step, here, inside, StepIn, first, later}
use Rattle.mini_tree.specs.Rule.{Either, IsLighter}

each : {A B C D : Type 0} → (A → C) → (B → D) → A ⊎ B → C ⊎ D
each f g (inl a) = inl (f a)
each f g (inr b) = inr (g b)

module _ (R S : Position → Tree → Tree → Type 0) where
  mutual
    step_of_one : {p : Position} {t u : Tree} → Step (Either R S) p t u → Step R p t u ⊎ Step S p t u
    step_of_one (here p t u (inl r)) = inl (here p t u r)
    step_of_one (here p t u (inr s)) = inr (here p t u s)
    step_of_one (inside p h xs n ts us s) = each (inside p h xs n ts us) (inside p h xs n ts us) (step_in_of_one s)

    step_in_of_one : {π : ℕ → Position} {ts us : Trees} → StepIn (Either R S) π ts us → StepIn R π ts us ⊎ StepIn S π ts us
    step_in_of_one (first π t u ts s) = each (first π t u ts) (first π t u ts) (step_of_one s)
    step_in_of_one (later π t ts us s) = each (later π t ts us) (later π t ts us) (step_in_of_one s)

  lighter_by_one : {p : Position} {t u : Tree} → IsLighter R → IsLighter S → Step R p t u ⊎ Step S p t u → weight p u < weight p t
  lighter_by_one {p} {t} {u} l m (inl r) = l p t u r
  lighter_by_one {p} {t} {u} l m (inr s) = m p t u s

  pub either_lighter : IsLighter R → IsLighter S → IsLighter (Either R S)
  either_lighter l m p t u s = lighter_by_one l m (step_of_one s)
