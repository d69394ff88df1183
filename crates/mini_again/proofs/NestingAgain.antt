-- A tree that is read again nests as deep as the tree.
use Rattle.mini_again.specs.Again.{Renaming, again, all_again}
use Rattle.mini_model.specs.Tree.{Tree, Trees, node, none, ◌▸◌}
use Rattle.mini_rows.specs.Nesting.{are_shallow, is_shallow}
use Rattle.std.specs.Prelude.{refl, suc, zero, ℕ, ◌≡◌}

mutual
  unfolding are_shallow is_shallow

  pub are_shallow_again : (ρ : Renaming) (levels : ℕ) (ts : Trees) → are_shallow levels (all_again ρ ts) ≡ are_shallow levels ts
  are_shallow_again ρ levels none = refl
  are_shallow_again ρ levels (t ▸ ts) = simp (is_shallow_again ρ levels t, are_shallow_again ρ levels ts)

  pub is_shallow_again : (ρ : Renaming) (i : ℕ) (t : Tree) → is_shallow i (again ρ t) ≡ is_shallow i t
  is_shallow_again ρ zero t = refl
  is_shallow_again ρ (suc levels) (node h xs n ts) = simp (are_shallow_again ρ levels ts)
