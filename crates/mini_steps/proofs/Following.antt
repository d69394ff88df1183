-- What a list of steps leads to.
use Rattle.std.specs.Prelude.{ℕ, zero, suc, ◌≡◌, ◌<◌, refl, Bool, true, false, List}
use Rattle.std.proofs.Common.{ap, sym, subst, arith}
use Rattle.mini_model.specs.declared.name.Name.{Name}
use Rattle.mini_model.specs.declared.place.Position.{Position}
use Rattle.mini_model.specs.declared.place.Position.TheVariants.{Elsewhere}
use Rattle.mini_model.specs.declared.shape.Shape.{Shape}
use Rattle.mini_model.specs.Paths.{Path}
use Rattle.mini_model.specs.Position.{child_position}
use Rattle.mini_model.specs.Rewriting.{StepIn, Reaches}
use Rattle.mini_model.specs.Rewriting as rewriting
use Rattle.mini_model.specs.Tree.{Tree, Trees, node, none, ◌▸◌, count, children, child_or_absent}
use Rattle.mini_node.specs.Children.{part, with_part, with_child}
use Rattle.mini_node.specs.Walks.{count_with, with_same}
use Rattle.mini_steps.specs.declared.names.RuleName.{RuleName}
use Rattle.mini_steps.specs.declared.names.Step.{Step}
use Rattle.mini_steps.specs.Called.{Relation, Called}
use Rattle.mini_steps.specs.Steps.{place_in, AtPath, here, below, nowhere, Followed, no_step, changed, stayed}

module _ (R : Relation) where
  pub reaches_on : {p : Position} {t u v : Tree} → Reaches R p t u → Reaches R p u v → Reaches R p t v
  reaches_on (rewriting.done p t) r = r
  reaches_on {v = v} (rewriting.more p t w u s r) q = rewriting.more p t w v s (reaches_on r q)

  -- a step of the child at an index
  step_in_at : (π : ℕ → Position) (at : ℕ) (ts : Trees) (v w : Tree) → at < count ts → rewriting.Step R (π at) v w → StepIn R π (with_child ts at v) (with_child ts at w)
  step_in_at π at none v w h s = absurd (omega (arith, h))
  step_in_at π zero (t ▸ ts) v w h s = rewriting.first π v w ts s
  step_in_at π (suc at) (t ▸ ts) v w h s = rewriting.later π t (with_child ts at v) (with_child ts at w) (step_in_at (λ i. π (suc i)) at ts v w (omega (arith, h)) s)

  pub step_at : (p : Position) (h : Shape) (xs : List Name) (n : ℕ) (ts : Trees) (at : ℕ) (v w : Tree) → at < count ts → rewriting.Step R (child_position h p (count ts) at) v w → rewriting.Step R p (node h xs n (with_child ts at v)) (node h xs n (with_child ts at w))
  step_at p h xs n ts at v w k s =
      rewriting.inside p h xs n (with_child ts at v) (with_child ts at w)
      (subst (λ c. StepIn R (child_position h p c) (with_child ts at v) (with_child ts at w)) (sym (count_with ts at v)) (step_in_at (child_position h p (count ts)) at ts v w k s))

  pub steps_at : (p : Position) (h : Shape) (xs : List Name) (n : ℕ) (ts : Trees) (at : ℕ) {q : Position} {v w : Tree} → q ≡ child_position h p (count ts) at → at < count ts → Reaches R q v w → Reaches R p (node h xs n (with_child ts at v)) (node h xs n (with_child ts at w))
  steps_at p h xs n ts at e k (rewriting.done q v) = rewriting.done p (node h xs n (with_child ts at v))
  steps_at p h xs n ts at e k (rewriting.more q v w u s r) =
      rewriting.more p (node h xs n (with_child ts at v)) (node h xs n (with_child ts at w)) (node h xs n (with_child ts at u))
      (step_at p h xs n ts at v w k (subst (λ o. rewriting.Step R o v w) e s)) (steps_at p h xs n ts at e k r)

  pub reaches_at : (p : Position) (t : Tree) (at : ℕ) (u : Tree) → at < count (children t) → Reaches R (place_in p t at) (part t at) u → Reaches R p t (with_part t at u)
  reaches_at p (node h xs n ts) at u k r = subst (λ vs. Reaches R p (node h xs n vs) (node h xs n (with_child ts at u))) (with_same ts at) (steps_at p h xs n ts at refl k r)

  called_reaches : (p : Position) (t u : Tree) (b : Bool) → Called R p t u b → Reaches R p t u
  called_reaches p t u true m = rewriting.more p t m.next u m.step m.others
  called_reaches p t u false e = subst (Reaches R p t) (sym e.0) (rewriting.done p t)

  pub path_reaches : (q : Path) (p : Position) (t u : Tree) (b : Bool) → AtPath R q p t u b → Reaches R p t u
  path_reaches _ _ _ _ _ (here p t u b c) = called_reaches p t u b c
  path_reaches _ _ _ _ _ (below i q p t v k b e l a) = reaches_at p t k v l (path_reaches _ (place_in p t k) (part t k) v b a)
  path_reaches _ _ _ _ _ (nowhere i q p t l) = rewriting.done p t

-- where each step of one relation is steps of another
module _ (Q R : Relation) (f : (p : Position) (n w : Tree) → Q p n w → R p n w) where
  mutual
    pub step_more : {p : Position} {t u : Tree} → rewriting.Step Q p t u → rewriting.Step R p t u
    step_more (rewriting.here p n w r) = rewriting.here p n w (f p n w r)
    step_more (rewriting.inside p h xs n ts us s) = rewriting.inside p h xs n ts us (step_in_more s)

    step_in_more : {π : ℕ → Position} {ts us : Trees} → StepIn Q π ts us → StepIn R π ts us
    step_in_more (rewriting.first π t u ts s) = rewriting.first π t u ts (step_more s)
    step_in_more (rewriting.later π t ts us s) = rewriting.later π t ts us (step_in_more s)

  pub reaches_more : {p : Position} {t u : Tree} → Reaches Q p t u → Reaches R p t u
  reaches_more (rewriting.done p t) = rewriting.done p t
  reaches_more (rewriting.more p t u v s r) = rewriting.more p t u v (step_more s) (reaches_more r)

-- where each row of one relation is steps of another
module _ (Q R : Relation) (f : (p : Position) (n w : Tree) → Q p n w → Reaches R p n w) where
  -- those of a child
  record Inner (π : ℕ → Position) (ts us : Trees) : Type 0 where
    at : ℕ
    new : Tree
    there : at < count ts
    steps : Reaches R (π at) (child_or_absent ts at) new
    whole : with_child ts at new ≡ us

  mutual
    step_flat : {p : Position} {t u : Tree} → rewriting.Step Q p t u → Reaches R p t u
    step_flat (rewriting.here p n w r) = f p n w r
    step_flat (rewriting.inside p h xs n ts us s) =
        let i = step_in_flat s in
        subst (λ vs. Reaches R p (node h xs n ts) (node h xs n vs)) i.whole (reaches_at R p (node h xs n ts) i.at i.new i.there i.steps)

    step_in_flat : {π : ℕ → Position} {ts us : Trees} → StepIn Q π ts us → Inner π ts us
    step_in_flat (rewriting.first π t u ts s) = record { at = zero; new = u; there = omega arith; steps = step_flat s; whole = refl }
    step_in_flat (rewriting.later π t ts us s) =
        let i = step_in_flat s in
        record { at = suc i.at; new = i.new; there = omega (arith, i.there); steps = i.steps; whole = ap (λ vs. t ▸ vs) i.whole }

  pub reaches_flat : {p : Position} {t u : Tree} → Reaches Q p t u → Reaches R p t u
  reaches_flat (rewriting.done p t) = rewriting.done p t
  reaches_flat (rewriting.more p t u v s r) = reaches_on R (step_flat s) (reaches_flat r)

module _ (G : RuleName → Relation) (R : Relation) (rows : (r : RuleName) (p : Position) (n w : Tree) → G r p n w → Reaches R p n w) where
  one_reaches : (s : Step) (t u : Tree) (b : Bool) → AtPath (G s.rule) s.at Elsewhere t u b → Reaches R Elsewhere t u
  one_reaches s t u b a = reaches_flat (G s.rule) R (rows s.rule) (path_reaches (G s.rule) s.at Elsewhere t u b a)

  pub followed_reaches : {ss : List Step} {t u : Tree} {n : ℕ} → Followed G ss t u n → Reaches R Elsewhere t u
  followed_reaches (no_step t) = rewriting.done Elsewhere t
  followed_reaches (changed ss s t u v n f a) = reaches_on R (followed_reaches f) (one_reaches s u v true a)
  followed_reaches (stayed ss s t u v n f a) = reaches_on R (followed_reaches f) (one_reaches s u v false a)
