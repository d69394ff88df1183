-- Children and names of a node that is read again.
use Rattle.mini_again.specs.Again.{Renaming, again, all_again, other_number}
use Rattle.mini_laws.specs.Renaming.{rename_name}
use Rattle.mini_model.specs.Tree.{Tree, Trees, node, none, ◌▸◌}
use Rattle.mini_node.specs.Children.{has_count, is_bare, is_nameless, names_of, number_of, rest_children}
use Rattle.std.specs.Prelude.{[], map, refl, suc, zero, ℕ, ◌≡◌}

pub has_count_again : (ρ : Renaming) (ts : Trees) (i : ℕ) → has_count (all_again ρ ts) i ≡ has_count ts i
has_count_again ρ none zero = refl
has_count_again ρ (t ▸ ts) (suc k) = simp (has_count_again ρ ts k)
has_count_again ρ _ _ = refl

pub is_bare_again : (ρ : Renaming) (t : Tree) (k : ℕ) → is_bare (again ρ t) k ≡ is_bare t k
is_bare_again ρ (node h [] zero ts) k = simp (has_count_again ρ ts k)
is_bare_again ρ _ k = refl

pub is_nameless_again : (ρ : Renaming) (t : Tree) → is_nameless (again ρ t) ≡ is_nameless t
is_nameless_again ρ (node h [] zero ts) = refl
is_nameless_again ρ _ = refl

pub names_of_again : (ρ : Renaming) (t : Tree) → names_of (again ρ t) ≡ map (rename_name ρ.symbol) (names_of t)
names_of_again ρ (node h xs n ts) = refl

pub number_of_again : (ρ : Renaming) (t : Tree) → number_of (again ρ t) ≡ other_number ρ (number_of t)
number_of_again ρ (node h xs n ts) = refl

pub rest_children_again : (ρ : Renaming) (n : ℕ) (ts : Trees) → rest_children n (all_again ρ ts) ≡ all_again ρ (rest_children n ts)
rest_children_again ρ n none = refl
rest_children_again ρ zero (t ▸ ts) = refl
rest_children_again ρ (suc n) (t ▸ ts) = simp (rest_children_again ρ n ts)
