-- What follows from two things at each place holds everywhere in a tree where they do.
use Rattle.std.specs.Prelude.{ℕ, zero, suc}
use Rattle.mini_model.specs.Tree.{Tree, Trees, node, none, ◌▸◌, count}
use Rattle.mini_model.specs.declared.place.Position.{Position}
use Rattle.mini_model.specs.Position.{child_position}
use Rattle.mini_model.specs.Rewriting.{Everywhere, EverywhereIn}

module _ (D E F : Position → Tree → Type 0) (f : (p : Position) (t : Tree) → D p t → E p t → F p t) where
  mutual
    pub everywhere_with : (p : Position) (t : Tree) → Everywhere D p t → Everywhere E p t → Everywhere F p t
    everywhere_with p (node h xs n ts) d e = (f p (node h xs n ts) d.0 e.0, with_in (child_position h p (count ts)) ts d.1 e.1)

    with_in : (π : ℕ → Position) (ts : Trees) → EverywhereIn D π ts → EverywhereIn E π ts → EverywhereIn F π ts
    with_in π none d e = tt
    with_in π (t ▸ ts) d e = (everywhere_with (π zero) t d.0 e.0, with_in (λ i. π (suc i)) ts d.1 e.1)
