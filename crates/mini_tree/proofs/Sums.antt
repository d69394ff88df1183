-- The children of a node, from one on.
use Rattle.std.proofs.Common.{◌≡◌, refl, ap, sym, ◌∙◌, ℕ, zero, suc, ◌+◌, ◌<◌, ◌≤◌, List, [], ◌∷◌, length, arith}
use Rattle.std.specs.Prelude.{slice_index_or}
use Rattle.mini_model.specs.Tree.{Tree, Trees, node, none, ◌▸◌, shape_of, children, count, node_count, node_counts}
use Rattle.mini_model.specs.declared.place.Position.{Position}
use Rattle.mini_model.specs.Position.{child_position}
use Rattle.mini_model.specs.Weight.{outlines, own_weight, weight, weights}
use Rattle.mini_node.specs.Children.{trees_of, names_of}

abbrev pub weights_from : (ℕ → Position) → ℕ → Trees → ℕ
weights_from π at none = 0
weights_from π at (t ▸ ts) = weight (π at) t + weights_from π (at + 1) ts

shifted : (π ρ : ℕ → Position) (at : ℕ) → ((i : ℕ) → ρ i ≡ π (i + at)) → (ts : Trees) → weights_from π at ts ≡ weights ρ ts
shifted π ρ at h none = refl
shifted π ρ at h (t ▸ ts) =
    let first : π at ≡ ρ zero = ap π (omega arith) ∙ sym (h zero) in
    let next : (i : ℕ) → ρ (suc i) ≡ π (i + (at + 1)) = λ i. h (suc i) ∙ ap π (omega arith) in
    omega (arith, ap (λ p. weight p t) first, shifted π (λ i. ρ (suc i)) (at + 1) next ts)

pub from_start : (π : ℕ → Position) (ts : Trees) → weights_from π 0 ts ≡ weights π ts
from_start π ts = shifted π π 0 (λ i. ap π (omega arith)) ts

-- an item of a list is a smaller tree
pub item_within : (xs : List Tree) (i : ℕ) (d : Tree) → i < length xs → node_count (slice_index_or xs i d) ≤ node_counts (trees_of xs)
item_within [] i d h = absurd (omega arith)
item_within (x ∷ xs) zero d h = omega arith
item_within (x ∷ xs) (suc i) d h = omega (arith, item_within xs i d (omega arith))

-- a node's weight by its parts
pub weight_of : (p : Position) (t : Tree) → weight p t ≡ own_weight p (shape_of t) (names_of t) (outlines (children t)) + weights (child_position (shape_of t) p (count (children t))) (children t)
weight_of p (node h xs n ts) = refl
