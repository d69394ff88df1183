-- A step at the node that a path leads to is a step at its place.
use Rattle.std.proofs.Common.{◌≡◌, subst}
use Rattle.std.specs.Prelude.{ℕ, zero, suc, ◌-◌, nat_lt, Bool, true, false, [], ◌∷◌, Option, Some, None, option_map, if◌then◌else◌}
use Rattle.std.proofs.lemmas.Option.{none-some}
use Rattle.mini_model.specs.declared.place.Position.{Position}
use Rattle.mini_model.specs.Paths.{Path, standing, by_standing, width}
use Rattle.mini_model.specs.Position.{child_position}
use Rattle.mini_model.specs.Rewriting.{Step, StepIn}
use Rattle.mini_model.specs.Rewriting as rewriting
use Rattle.mini_model.specs.Tree.{Tree, Trees, node, none, ◌▸◌, count, shape_of}
use Rattle.mini_log.specs.Walk.{or_else, step_at, step_in}
use Rattle.mini_log.proofs.Tests.{mapped}

one_of : {A : Type 0} (x y : Option A) (u : A) (S : Type 0) → or_else x y ≡ Some u → (x ≡ Some u → S) → (y ≡ Some u → S) → S
one_of (Some v) y u S e f g = f e
one_of None y u S e f g = g e

-- in the first child, or further on
either_way : (R : Position → Tree → Tree → Type 0) (π : ℕ → Position) (t : Tree) (ts : Trees) (o : Option Tree) (os : Option Trees) (b : Bool) (us : Trees) →
    ((u : Tree) → o ≡ Some u → Step R (π zero) t u) → ((vs : Trees) → os ≡ Some vs → StepIn R (λ j. π (suc j)) ts vs) →
    (if b then option_map (λ u. u ▸ ts) o else option_map (λ vs. t ▸ vs) os) ≡ Some us → StepIn R π (t ▸ ts) us
either_way R π t ts o os true us here further e =
    let (u, (is, made)) = mapped (λ u. u ▸ ts) o us e in
    subst (λ v. StepIn R π (t ▸ ts) v) made (rewriting.first π t u ts (here u is))
either_way R π t ts o os false us here further e =
    let (vs, (is, made)) = mapped (λ vs. t ▸ vs) os us e in
    subst (λ v. StepIn R π (t ▸ ts) v) made (rewriting.later π t ts vs (further vs is))

module _ (f : Position → Tree → Path → Option Tree) (R : Position → Tree → Tree → Type 0) (m : (p : Position) (t : Tree) (q : Path) (u : Tree) → f p t q ≡ Some u → R p t u) where
  mutual
    pub walked : (p : Position) (t : Tree) (q : Path) (u : Tree) → step_at f p t q ≡ Some u → Step R p t u
    walked p (node h xs n ts) [] u e = rewriting.here p (node h xs n ts) u (m p (node h xs n ts) [] u e)
    walked p (node h xs n ts) (i ∷ q) u e =
        one_of (f p (node h xs n ts) (i ∷ q)) (option_map (node h xs n) (step_in f (child_position h p (count ts)) ts i q)) u (Step R p (node h xs n ts) u) e (λ is. rewriting.here p (node h xs n ts) u (m p (node h xs n ts) (i ∷ q) u is)) (λ inside.
        let (us, (is, made)) = mapped (node h xs n) (step_in f (child_position h p (count ts)) ts i q) u inside in
        subst (λ v. Step R p (node h xs n ts) v) made (rewriting.inside p h xs n ts us (walked_in (child_position h p (count ts)) ts i q us is)))

    walked_in : (π : ℕ → Position) (ts : Trees) (i : ℕ) (q : Path) (us : Trees) → step_in f π ts i q ≡ Some us → StepIn R π ts us
    walked_in π none i q us e = absurd (none-some us e)
    walked_in π (t ▸ ts) i q us e =
        either_way R π t ts (step_at f (π zero) t (by_standing (standing (shape_of t)) q (i ∷ q) (i ∷ q))) (step_in f (λ j. π (suc j)) ts (i - width t) q) (nat_lt i (width t)) us
        (λ u is. walked (π zero) t (by_standing (standing (shape_of t)) q (i ∷ q) (i ∷ q)) u is) (λ vs is. walked_in (λ j. π (suc j)) ts (i - width t) q vs is) e
