-- What ends no chain, by its parts.
use Rattle.std.proofs.Common.{◌≡◌, ℕ, suc, ◌+◌, ◌<◌, ◌≤◌, true, false, refl, sym, ap, ◌∙◌, arith}
use Rattle.std.specs.Prelude.{◌&&◌, ◌||◌}
use Rattle.mini_model.specs.Tree.{Tree, Trees, node, children, child_or_absent, count, node_count, node_counts, shape_of}
use Rattle.mini_node.specs.Children.{rest_children}
use Rattle.mini_node.specs.Walks.{next_child, no_rest}
use Rattle.mini_rows.specs.Chains.{is_closed_shape, is_open_shape, is_calm, are_calm}

pub calm_is : (t : Tree) → is_calm t ≡ is_closed_shape (shape_of t) || (is_open_shape (shape_of t) && are_calm (children t))
calm_is (node h xs n ts) = refl

pub calm_below : (t : Tree) → node_counts (children t) + 1 ≡ node_count t
calm_below (node h xs n ts) = omega arith

pub calm_stops : (ts : Trees) (i : ℕ) → i < count ts → is_calm (child_or_absent ts i) ≡ false → are_calm (rest_children i ts) ≡ are_calm ts → false ≡ are_calm ts
calm_stops ts i h e inv = sym (ap (λ b. b && are_calm (rest_children (suc i) ts)) e) ∙ sym (ap are_calm (next_child ts i h)) ∙ inv

pub calm_goes_on : (ts : Trees) (i : ℕ) → i < count ts → is_calm (child_or_absent ts i) ≡ true → are_calm (rest_children i ts) ≡ are_calm ts → are_calm (rest_children (i + 1) ts) ≡ are_calm ts
calm_goes_on ts i h e inv = let next : i + 1 ≡ suc i = omega arith in ap (λ k. are_calm (rest_children k ts)) next ∙ sym (ap (λ b. b && are_calm (rest_children (suc i) ts)) e) ∙ sym (ap are_calm (next_child ts i h)) ∙ inv

pub calm_ends : (ts : Trees) (i : ℕ) → count ts ≤ i → are_calm (rest_children i ts) ≡ are_calm ts → true ≡ are_calm ts
calm_ends ts i h inv = sym (ap are_calm (no_rest ts i h)) ∙ inv
