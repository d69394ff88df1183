-- How many children there are, and which, after one of them is another; a child is smaller than the node.
use Rattle.std.proofs.Common.{◌≡◌, refl, ap, ℕ, zero, suc, ◌<◌, ◌≤◌, arith}
use Rattle.mini_model.specs.Tree.{Tree, Trees, node, none, ◌▸◌, count, children, child_or_absent, node_count, node_counts}
use Rattle.mini_node.specs.Children.{with_child, part}

pub count_with : (ts : Trees) (at : ℕ) (u : Tree) → count (with_child ts at u) ≡ count ts
count_with none at u = refl
count_with (t ▸ ts) zero u = refl
count_with (t ▸ ts) (suc at) u = ap suc (count_with ts at u)

pub with_same : (ts : Trees) (at : ℕ) → with_child ts at (child_or_absent ts at) ≡ ts
with_same none at = refl
with_same (t ▸ ts) zero = refl
with_same (t ▸ ts) (suc at) = ap (λ us. t ▸ us) (with_same ts at)

pub others_with : (ts : Trees) (at : ℕ) (u : Tree) (i : ℕ) → at < i → child_or_absent (with_child ts at u) i ≡ child_or_absent ts i
others_with none at u i h = refl
others_with (t ▸ ts) zero u zero h = absurd (omega arith)
others_with (t ▸ ts) zero u (suc i) h = refl
others_with (t ▸ ts) (suc at) u zero h = absurd (omega arith)
others_with (t ▸ ts) (suc at) u (suc i) h = others_with ts at u i (omega arith)

child_within : (ts : Trees) (at : ℕ) → at < count ts → node_count (child_or_absent ts at) ≤ node_counts ts
child_within none at h = absurd (omega arith)
child_within (t ▸ ts) zero h = omega arith
child_within (t ▸ ts) (suc at) h = omega (arith, child_within ts at (omega arith))

pub part_within : (t : Tree) (at : ℕ) → at < count (children t) → node_count (part t at) < node_count t
part_within (node h xs n ts) at k = let inner = child_within ts at k in omega (arith, inner)
