-- The test of how deep a tree nests, node by node, is the definition.
use Rattle.std.proofs.Common.{◌≡◌, ℕ, zero, suc, ◌+◌, ◌-◌, ◌<◌, ◌≤◌, Bool, true, false, ◌&&◌, List, [], ◌∷◌, length, get_or, drop, refl, ap, sym, ◌∙◌, arith}
use Rattle.std.specs.Prelude.{nat_le, if◌then◌else◌}
use Rattle.std.proofs.lemmas.List.{at_drop_more, at_drop_all}
use Rattle.mini_model.specs.Tree.{Tree, Trees, node, none, ◌▸◌, shape_of, children, count, node_count, node_counts}
use Rattle.mini_node.specs.Children.{trees_of, part}
use Rattle.mini_faults.specs.Depth.{is_template, own_levels, nests_within, all_nest_within}

pub levels_of_template : (t : Tree) (n : ℕ) → is_template (shape_of t) ≡ true → n ≡ count (children (part t 0)) → n ≡ own_levels t
levels_of_template t n e f = f ∙ sym (ap (λ b. if b then count (children (part t 0)) else 1) e)

pub levels_of_none : (t : Tree) → is_template (shape_of t) ≡ true → count (children t) ≡ 0 → 0 ≡ own_levels t
levels_of_none (node h xs n none) e f = levels_of_template (node h xs n none) 0 e refl
levels_of_none (node h xs n (a ▸ ts)) e f = absurd (omega (arith, f))

pub one_level : (t : Tree) → is_template (shape_of t) ≡ false → 1 ≡ own_levels t
one_level t e = sym (ap (λ b. if b then count (children (part t 0)) else 1) e)

pub below : (t : Tree) → node_counts (children t) + 1 ≡ node_count t
below (node h xs n ts) = omega arith

pub nests_by : (k : ℕ) (t : Tree) → nat_le (own_levels t) k ≡ true → all_nest_within (k - own_levels t) (children t) ≡ nests_within k t
nests_by k (node h xs n ts) e = sym (ap (λ b. b && all_nest_within (k - own_levels (node h xs n ts)) ts) e)

pub too_many : (k : ℕ) (t : Tree) → nat_le (own_levels t) k ≡ false → false ≡ nests_within k t
too_many k (node h xs n ts) e = sym (ap (λ b. b && all_nest_within (k - own_levels (node h xs n ts)) ts) e)

nodes_step : (k : ℕ) (ts : List Tree) (i : ℕ) (t : Tree) (b : Bool) → i < length ts → t ≡ get_or ts i t → b ≡ nests_within k t → all_nest_within k (trees_of (drop i ts)) ≡ b && all_nest_within k (trees_of (drop (i + 1) ts))
nodes_step k ts i t b h d e = at_drop_more (λ us. all_nest_within k (trees_of us)) ts i t h ∙ ap (λ a. a && all_nest_within k (trees_of (drop (i + 1) ts))) (ap (nests_within k) (sym d) ∙ sym e)

pub nodes_go_on : (k : ℕ) (ts : List Tree) (i : ℕ) (t : Tree) → i < length ts → t ≡ get_or ts i t → true ≡ nests_within k t → all_nest_within k (trees_of (drop i ts)) ≡ all_nest_within k (trees_of ts) → all_nest_within k (trees_of (drop (i + 1) ts)) ≡ all_nest_within k (trees_of ts)
nodes_go_on k ts i t h d e inv = sym (nodes_step k ts i t true h d e) ∙ inv

pub nodes_stop : (k : ℕ) (ts : List Tree) (i : ℕ) (t : Tree) → i < length ts → t ≡ get_or ts i t → false ≡ nests_within k t → all_nest_within k (trees_of (drop i ts)) ≡ all_nest_within k (trees_of ts) → false ≡ all_nest_within k (trees_of ts)
nodes_stop k ts i t h d e inv = sym (sym inv ∙ nodes_step k ts i t false h d e)

pub nodes_end : (k : ℕ) (ts : List Tree) (i : ℕ) → length ts ≤ i → all_nest_within k (trees_of (drop i ts)) ≡ all_nest_within k (trees_of ts) → true ≡ all_nest_within k (trees_of ts)
nodes_end k ts i h inv = sym (sym inv ∙ at_drop_all (λ us. all_nest_within k (trees_of us)) ts i h)
