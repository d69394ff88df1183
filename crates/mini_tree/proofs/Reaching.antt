-- Steps one after another, and steps of a child as steps of the node.
use Rattle.std.proofs.Common.{◌≡◌, ℕ, zero, suc, ◌<◌, ◌≤◌, List, refl, sym, subst, arith}
use Rattle.mini_model.specs.declared.name.Name.{Name}
use Rattle.mini_model.specs.declared.shape.Shape.{Shape}
use Rattle.mini_model.specs.Tree.{Tree, Trees, node, none, ◌▸◌, count, children, shape_of, child_or_absent}
use Rattle.mini_model.specs.declared.place.Position.{Position}
use Rattle.mini_model.specs.Position.{child_position}
use Rattle.mini_model.specs.Weight.{weight}
use Rattle.mini_model.specs.Rewriting.{Step, here, inside, StepIn, first, later, Reaches, done, more}
use Rattle.mini_node.specs.Children.{with_child, with_part, part}
use Rattle.mini_tree.specs.Rule.{Moves, IsLighter}
use Rattle.mini_tree.proofs.Edits.{count_with, with_same}

module _ (R : Position → Tree → Tree → Type 0) where
  pub reaches_trans : {p : Position} {t u v : Tree} → Reaches R p t u → Reaches R p u v → Reaches R p t v
  reaches_trans (done p t) r = r
  reaches_trans {v = v} (more p t w u s r) q = more p t w v s (reaches_trans r q)

  pub moves_reach : {p : Position} {t u : Tree} → Moves R p t u → Reaches R p t u
  moves_reach {p} {t} {u} m = more p t m.next u m.step m.others

  pub moves_trans : {p : Position} {t u v : Tree} → Moves R p t u → Moves R p u v → Moves R p t v
  moves_trans {p} {t} {u} {v} m n = record { next = m.next; step = m.step; others = reaches_trans m.others (moves_reach n) }

  -- one step, at the node
  pub moves_once : (p : Position) (t u : Tree) → R p t u → Moves R p t u
  moves_once p t u r = record { next = u; step = here p t u r; others = done p u }

  pub reaches_lighter : {p : Position} {t u : Tree} → IsLighter R → Reaches R p t u → weight p u ≤ weight p t
  reaches_lighter l (done p t) = omega arith
  reaches_lighter l (more p t w u s r) = let less = l p t w s in let rest = reaches_lighter l r in omega (arith, less, rest)

  pub moves_lighter : {p : Position} {t u : Tree} → IsLighter R → Moves R p t u → weight p u < weight p t
  moves_lighter {p} {t} {u} l m = let less = l p t m.next m.step in let rest = reaches_lighter l m.others in omega (arith, less, rest)

  -- a step of the child at an index
  step_in_at : (π : ℕ → Position) (at : ℕ) (ts : Trees) (v w : Tree) → at < count ts → Step R (π at) v w → StepIn R π (with_child ts at v) (with_child ts at w)
  step_in_at π at none v w h s = absurd (omega arith)
  step_in_at π zero (t ▸ ts) v w h s = first π v w ts s
  step_in_at π (suc at) (t ▸ ts) v w h s = later π t (with_child ts at v) (with_child ts at w) (step_in_at (λ i. π (suc i)) at ts v w (omega arith) s)

  step_at : (p : Position) (h : Shape) (xs : List Name) (n : ℕ) (ts : Trees) (at : ℕ) (v w : Tree) → at < count ts → Step R (child_position h p (count ts) at) v w → Step R p (node h xs n (with_child ts at v)) (node h xs n (with_child ts at w))
  step_at p h xs n ts at v w k s =
      let π = λ (c : ℕ). child_position h p c in
      inside p h xs n (with_child ts at v) (with_child ts at w)
      (subst (λ c. StepIn R (π c) (with_child ts at v) (with_child ts at w)) (sym (count_with ts at v)) (step_in_at (π (count ts)) at ts v w k s))

  steps_at : (p : Position) (h : Shape) (xs : List Name) (n : ℕ) (ts : Trees) (at : ℕ) {q : Position} {v w : Tree} → q ≡ child_position h p (count ts) at → at < count ts → Reaches R q v w → Reaches R p (node h xs n (with_child ts at v)) (node h xs n (with_child ts at w))
  steps_at p h xs n ts at e k (done q v) = done p (node h xs n (with_child ts at v))
  steps_at p h xs n ts at e k (more q v w u s r) =
      more p (node h xs n (with_child ts at v)) (node h xs n (with_child ts at w)) (node h xs n (with_child ts at u))
      (step_at p h xs n ts at v w k (subst (λ o. Step R o v w) e s)) (steps_at p h xs n ts at e k r)

  -- in the child at an index
  pub reaches_at : (p : Position) (t : Tree) (at : ℕ) (u : Tree) → at < count (children t) → Reaches R (child_position (shape_of t) p (count (children t)) at) (part t at) u → Reaches R p t (with_part t at u)
  reaches_at p (node h xs n ts) at u k r = subst (λ vs. Reaches R p (node h xs n vs) (node h xs n (with_child ts at u))) (with_same ts at) (steps_at p h xs n ts at refl k r)

  pub moves_at : (p : Position) (t : Tree) (at : ℕ) (u : Tree) → at < count (children t) → Moves R (child_position (shape_of t) p (count (children t)) at) (part t at) u → Moves R p t (with_part t at u)
  moves_at p (node h xs n ts) at u k m =
      let v = child_or_absent ts at in record {
        next = node h xs n (with_child ts at m.next);
        step = subst (λ vs. Step R p (node h xs n vs) (node h xs n (with_child ts at m.next))) (with_same ts at) (step_at p h xs n ts at v m.next k m.step);
        others = steps_at p h xs n ts at refl k m.others;
      }
