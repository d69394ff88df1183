-- Parts of a tree that is read again.
use Rattle.mini_again.specs.Again.{Renaming, again, all_again}
use Rattle.mini_model.specs.Tree.{Tree, Trees, child_or_absent, children, count, is_absent, node, none, shape_of, ◌▸◌}
use Rattle.std.specs.Prelude.{refl, suc, zero, ℕ, ◌≡◌}

pub child_or_absent_again : (ρ : Renaming) (ts : Trees) (i : ℕ) → child_or_absent (all_again ρ ts) i ≡ again ρ (child_or_absent ts i)
child_or_absent_again ρ none i = refl
child_or_absent_again ρ (t ▸ ts) zero = refl
child_or_absent_again ρ (t ▸ ts) (suc i) = simp (child_or_absent_again ρ ts i)

pub children_again : (ρ : Renaming) (t : Tree) → children (again ρ t) ≡ all_again ρ (children t)
children_again ρ (node h xs n ts) = refl

pub count_again : (ρ : Renaming) (ts : Trees) → count (all_again ρ ts) ≡ count ts
count_again ρ none = refl
count_again ρ (t ▸ ts) = simp (count_again ρ ts)

pub is_absent_again : (ρ : Renaming) (t : Tree) → is_absent (again ρ t) ≡ is_absent t
is_absent_again ρ (node h xs n ts) = refl

pub shape_of_again : (ρ : Renaming) (t : Tree) → shape_of (again ρ t) ≡ shape_of t
shape_of_again ρ (node h xs n ts) = refl
