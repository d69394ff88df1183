-- A walk over the children of a node, one after another, each of which may become any other.
use Rattle.std.proofs.Common.{◌≡◌, ℕ, ◌+◌, ◌<◌, ◌≤◌, refl, ap, ◌∙◌, arith}
use Rattle.mini_model.specs.Tree.{Tree, Trees, node, count, children, child_or_absent, node_count}
use Rattle.mini_node.specs.Children.{part, with_child}
use Rattle.mini_node.specs.Lends.{with_children}
use Rattle.mini_tree.proofs.Edits.{count_with, others_with}
use Rattle.mini_tree.proofs.Walks.{child_smaller}

-- the children from an index on are as they were
pub record KeptFrom (at : ℕ) (t u : Tree) : Type 0 where
  pub rest : (i : ℕ) → at ≤ i → part u i ≡ part t i
  pub counted : count (children u) ≡ count (children t)

pub kept_all : (t : Tree) → KeptFrom 0 t t
kept_all t = record { rest = λ i h. refl; counted = refl }

pub kept_next : (at : ℕ) (t u v : Tree) (ts : Trees) → ts ≡ children u → KeptFrom at t u → KeptFrom (at + 1) t (with_children u (with_child ts at v))
kept_next at t (node h xs n us) v ts e k = record {
  rest = λ i h. ap (λ ws. child_or_absent (with_child ws at v) i) e ∙ others_with us at v i (omega (arith, h)) ∙ k.rest i (omega (arith, h));
  counted = ap (λ ws. count (with_child ws at v)) e ∙ count_with us at v ∙ k.counted;
}

pub next_smaller : (at : ℕ) (t u x : Tree) (ts : Trees) → ts ≡ children u → x ≡ child_or_absent ts at → KeptFrom at t u → at < count (children t) → node_count x < node_count t
next_smaller at t u x ts e f k h = child_smaller t u x ts at e f (k.rest at (omega arith)) h
