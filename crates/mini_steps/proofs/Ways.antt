-- A step at the node to which a path leads, as code finds it, and a list of steps, one after another.
use Rattle.std.specs.Prelude.{ℕ, suc, ◌+◌, ◌≡◌, ◌<◌, ◌≤◌, refl, Bool, true, false, List, [], ◌∷◌, ◌++◌, length, take, slice_index_or, if◌then◌else◌}
use Rattle.std.proofs.Common.{sym, ap, ◌∙◌, subst, arith}
use Rattle.std.proofs.lemmas.List.{take_more, take_all}
use Rattle.mini_model.specs.declared.place.Position.{Position}
use Rattle.mini_model.specs.declared.place.Position.TheVariants.{Elsewhere}
use Rattle.mini_model.specs.declared.shape.Shape.{Shape}
use Rattle.mini_model.specs.Paths.{Path}
use Rattle.mini_model.specs.Position.{child_position}
use Rattle.mini_model.specs.Tree.{Tree, Trees, node, count, children, child_or_absent, shape_of}
use Rattle.mini_node.specs.Children.{part, with_part, with_child}
use Rattle.mini_node.specs.Lends.{with_children}
use Rattle.mini_log.specs.Walk.{spot}
use Rattle.mini_checker.specs.Made.{index_in}
use Rattle.mini_steps.specs.declared.names.RuleName.{RuleName}
use Rattle.mini_steps.specs.declared.names.Step.{Step}
use Rattle.mini_steps.specs.Called.{Relation}
use Rattle.mini_steps.specs.Steps.{place_in, rest_in, AtPath, below, nowhere, Followed, changed, stayed}
use Rattle.mini_steps.specs.Taken.{Taken}

edited : (t : Tree) (k : ℕ) (u : Tree) → with_children t (with_child (children t) k u) ≡ with_part t k u
edited (node h xs n ts) k u = refl

-- the child that code has found: at its spot, in its place, with the rest of the path
pub went : (R : Relation) (p : Position) (t : Tree) (i : ℕ) (q : Path) (k j n : ℕ) (h : Shape) (s : Position) (us ts : Trees) (c u : Tree) (r : Path) (b : Bool) →
    us ≡ children t → k ≡ spot us i → j ≡ index_in us i → ts ≡ children t → c ≡ child_or_absent ts k → n ≡ count (children t) → h ≡ shape_of t → s ≡ child_position h p n k → k < n → r ≡ rest_in c j q →
    AtPath R r s c u b → AtPath R (i ∷ q) p t (with_children t (with_child ts k u)) b
went R p t i q k j n h s us ts c u r b all at index list child counted shape stands inside way a =
    let place : s ≡ place_in p t k = stands ∙ (λ e. child_position (shape e) p (counted e) k) in
    let there : c ≡ part t k = child ∙ ap (λ vs. child_or_absent vs k) list in
    let rest : r ≡ rest_in (part t k) (index_in (children t) i) q = way ∙ (λ e. rest_in (there e) ((index ∙ ap (λ vs. index_in vs i) all) e) q) in
    let first : AtPath R r (place_in p t k) c u b = subst (λ x. AtPath R r x c u b) place a in
    let second : AtPath R r (place_in p t k) (part t k) u b = subst (λ x. AtPath R r (place_in p t k) x u b) there first in
    let third : AtPath R (rest_in (part t k) (index_in (children t) i) q) (place_in p t k) (part t k) u b = subst (λ x. AtPath R x (place_in p t k) (part t k) u b) rest second in
    let whole : AtPath R (i ∷ q) p t (with_part t k u) b = below i q p t u k b (at ∙ ap (λ vs. spot vs i) all) (subst (λ m. k < m) counted inside) third in
    subst (λ vs. AtPath R (i ∷ q) p t (with_children t (with_child vs k u)) b) (sym list) (subst (λ x. AtPath R (i ∷ q) p t x b) (sym (edited t k u)) whole)

pub no_way : (R : Relation) (p : Position) (t : Tree) (i : ℕ) (q : Path) (k : ℕ) → k ≡ spot (children t) i → count (children t) ≤ k → AtPath R (i ∷ q) p t t false
no_way R p t i q k at past = nowhere i q p t (subst (λ m. count (children t) ≤ m) at past)

-- ---- a list of steps

-- what the step at an index does is done after the steps before it
pub one_more : (G : RuleName → Relation) (steps : List Step) (i : ℕ) (s : Step) (t u v : Tree) (n m : ℕ) → i < length steps → s ≡ slice_index_or steps i s → Followed G (take i steps) t u n → Taken G s u v n m → Followed G (take (i + 1) steps) t v m
one_more G steps i s t u v n m within is f d =
    let so : take (i + 1) steps ≡ take i steps ++ s ∷ [] = take_more steps i s within ∙ ap (λ x. take i steps ++ x ∷ []) (sym is) in
    subst (λ ss. Followed G ss t v m) (sym so) (subst (λ k. Followed G (take i steps ++ s ∷ []) t v k) (sym d.counted) (by d.changed d.step))
  where
    by : (b : Bool) → AtPath (G s.rule) s.at Elsewhere u v b → Followed G (take i steps ++ s ∷ []) t v (if b then suc n else n)
    by true a = changed (take i steps) s t u v n f a
    by false a = stayed (take i steps) s t u v n f a

pub all_taken : (G : RuleName → Relation) (steps : List Step) (i : ℕ) (t u : Tree) (n : ℕ) → length steps ≤ i → Followed G (take i steps) t u n → Followed G steps t u n
all_taken G steps i t u n h f = subst (λ ss. Followed G ss t u n) (take_all i steps h) f

-- no more steps change something than are taken
pub no_more : (G : RuleName → Relation) (s : Step) (u v : Tree) (n m i : ℕ) → n ≤ i → Taken G s u v n m → m ≤ i + 1
no_more G s u v n m i h d = by d.changed d.counted
  where
    by : (b : Bool) → m ≡ (if b then suc n else n) → m ≤ i + 1
    by true e = omega (arith, h, e)
    by false e = omega (arith, h, e)

pub was_taken : (G : RuleName → Relation) (s : Step) (path : Path) (t u : Tree) (n : ℕ) (b : Bool) → path ≡ s.at → b ≡ true → AtPath (G s.rule) path Elsewhere t u b → Taken G s t u n (n + 1)
was_taken G s path t u n b e f a = record {
  changed = true;
  step = subst (λ c. AtPath (G s.rule) s.at Elsewhere t u c) f (subst (λ q. AtPath (G s.rule) q Elsewhere t u b) e a);
  counted = omega arith;
}

pub was_passed : (G : RuleName → Relation) (s : Step) (path : Path) (t u : Tree) (n : ℕ) (b : Bool) → path ≡ s.at → b ≡ false → AtPath (G s.rule) path Elsewhere t u b → Taken G s t u n n
was_passed G s path t u n b e f a = record {
  changed = false;
  step = subst (λ c. AtPath (G s.rule) s.at Elsewhere t u c) f (subst (λ q. AtPath (G s.rule) q Elsewhere t u b) e a);
  counted = refl;
}
