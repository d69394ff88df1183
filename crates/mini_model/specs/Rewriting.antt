-- From one tree to another by steps at places in it. What a step may make of which tree at a place
-- is a relation, which is handed in.
use Rattle.std.specs.Prelude.{ℕ, zero, suc, List}
use Rattle.mini_model.specs.declared.name.Name.{Name}
use Rattle.mini_model.specs.declared.shape.Shape.{Shape}
use Rattle.mini_model.specs.Tree.{Tree, Trees, node, none, ◌▸◌, count}
use Rattle.mini_model.specs.Position.{Position, child_position}

mutual
  -- one step, at the node or at a place in it
  pub data Step (R : Position → Tree → Tree → Type 0) : Position → Tree → Tree → Type 0 where
    here : (p : Position) (n w : Tree) → R p n w → Step R p n w
    inside : (p : Position) (h : Shape) (xs : List Name) (n : ℕ) (ts us : Trees) → StepIn R (child_position h p (count ts)) ts us → Step R p (node h xs n ts) (node h xs n us)

  -- the same of one of some children, which stand at these places
  pub data StepIn (R : Position → Tree → Tree → Type 0) : (ℕ → Position) → Trees → Trees → Type 0 where
    first : (π : ℕ → Position) (t u : Tree) (ts : Trees) → Step R (π zero) t u → StepIn R π (t ▸ ts) (u ▸ ts)
    later : (π : ℕ → Position) (t : Tree) (ts us : Trees) → StepIn R (λ i. π (suc i)) ts us → StepIn R π (t ▸ ts) (t ▸ us)

-- any number of steps, one after another
pub data Reaches (R : Position → Tree → Tree → Type 0) : Position → Tree → Tree → Type 0 where
  done : (p : Position) (t : Tree) → Reaches R p t t
  more : (p : Position) (t u v : Tree) → Step R p t u → Reaches R p u v → Reaches R p t v

-- the same of some children
pub data ReachesIn (R : Position → Tree → Tree → Type 0) : (ℕ → Position) → Trees → Trees → Type 0 where
  done_in : (π : ℕ → Position) (ts : Trees) → ReachesIn R π ts ts
  more_in : (π : ℕ → Position) (ts us vs : Trees) → StepIn R π ts us → ReachesIn R π us vs → ReachesIn R π ts vs

-- of every node of a tree, in its place
abbrev mutual
  pub Everywhere : (Position → Tree → Type 0) → Position → Tree → Type 0
  Everywhere D p (node h xs n ts) = D p (node h xs n ts) × EverywhereIn D (child_position h p (count ts)) ts

  pub EverywhereIn : (Position → Tree → Type 0) → (ℕ → Position) → Trees → Type 0
  EverywhereIn D π none = Unit {0}
  EverywhereIn D π (t ▸ ts) = Everywhere D (π zero) t × EverywhereIn D (λ i. π (suc i)) ts
