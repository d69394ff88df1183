-- Steps of a relation are steps of a wider one.
use Rattle.std.specs.Prelude.{ℕ, suc}
use Rattle.mini_model.specs.Tree.{Tree, Trees, count}
use Rattle.mini_model.specs.declared.place.Position.{Position}
use Rattle.mini_model.specs.Position.{child_position}
use Rattle.mini_model.specs.Rewriting.{Step, StepIn, here, inside, first, later, Reaches, done, more}
use Rattle.mini_tree.specs.Rule.{Moves}

module _ (R S : Position → Tree → Tree → Type 0) (f : (p : Position) (t u : Tree) → R p t u → S p t u) where
  mutual
    pub step_of : (p : Position) (t u : Tree) → Step R p t u → Step S p t u
    step_of _ _ _ (here p t u r) = here p t u (f p t u r)
    step_of _ _ _ (inside p h xs n ts us s) = inside p h xs n ts us (step_in_of (child_position h p (count ts)) ts us s)

    step_in_of : (π : ℕ → Position) (ts us : Trees) → StepIn R π ts us → StepIn S π ts us
    step_in_of _ _ _ (first π t u ts s) = first π t u ts (step_of (π 0) t u s)
    step_in_of _ _ _ (later π t ts us s) = later π t ts us (step_in_of (λ i. π (suc i)) ts us s)

  pub reaches_of : (p : Position) (t u : Tree) → Reaches R p t u → Reaches S p t u
  reaches_of _ _ _ (done p t) = done p t
  reaches_of _ _ _ (more p t u v s r) = more p t u v (step_of p t u s) (reaches_of p u v r)

  pub moves_of : (p : Position) (t u : Tree) → Moves R p t u → Moves S p t u
  moves_of p t u m = record { next = m.next; step = step_of p t m.next m.step; others = reaches_of p m.next u m.others }
