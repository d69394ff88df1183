-- A walk over the children of a node, one after another, and then over the node.
use Rattle.std.proofs.Common.{◌≡◌, ℕ, suc, ◌+◌, ◌<◌, ◌≤◌, Bool, true, false, refl, sym, ap, ◌∙◌, subst, arith}
use borrow.Author.Count.{below_more}
use Rattle.std.specs.Prelude.{◌||◌, Result, Ok, Err, OnOk}
use Rattle.mini_model.specs.declared.shape.Shape.{Shape}
use Rattle.mini_model.specs.Tree.{Tree, Trees, node, none, ◌▸◌, count, children, shape_of, child_or_absent, node_count}
use Rattle.mini_model.specs.declared.place.Position.{Position}
use Rattle.mini_model.specs.Position.{child_position}
use Rattle.mini_model.specs.Weight.{weight}
use Rattle.mini_model.specs.Rewriting.{Reaches, done, Everywhere, EverywhereIn}
use Rattle.mini_node.specs.Children.{with_child, with_part, part}
use Rattle.mini_node.specs.Lends.{with_children}
use Rattle.mini_tree.specs.Rule.{Moves, Applied, IsLighter}
use Rattle.mini_tree.specs.Walk.{Walked, WalkedBelow}
use Rattle.mini_tree.proofs.Edits.{count_with, others_with, with_same, part_within}
use Rattle.mini_tree.proofs.Reaching.{reaches_trans, reaches_lighter, reaches_at, moves_reach, moves_trans, moves_lighter, moves_at}

-- what an answer tells, told otherwise
pub on_ok : {A E P Q : Type 0} → (r : Result A E) → (P → Q) → OnOk r P → OnOk r Q
on_ok (Ok x) f h = f h
on_ok (Err e) f h = h

-- where the child at an index stands
abbrev pub place_in : Position → Tree → ℕ → Position
place_in p t = child_position (shape_of t) p (count (children t))

part_same : (t : Tree) (at : ℕ) → with_part t at (part t at) ≡ t
part_same (node h xs n ts) at = ap (node h xs n) (with_same ts at)

like_with : (t : Tree) (at : ℕ) (u : Tree) → (shape_of (with_part t at u) ≡ shape_of t) × (count (children (with_part t at u)) ≡ count (children t))
like_with (node h xs n ts) at u = (refl, count_with ts at u)

others_as_before : (t : Tree) (at : ℕ) (u : Tree) (i : ℕ) → at < i → part (with_part t at u) i ≡ part t i
others_as_before (node h xs n ts) at u i k = others_with ts at u i k

edited : (t : Tree) (ts : Trees) (at : ℕ) (u : Tree) → ts ≡ children t → with_children t (with_child ts at u) ≡ with_part t at u
edited (node h xs n us) ts at u e = ap (λ vs. node h xs n (with_child vs at u)) e

-- a child that hasn't been walked over is smaller than the node
pub child_smaller : (t u x : Tree) (ts : Trees) (at : ℕ) → ts ≡ children u → x ≡ child_or_absent ts at → part u at ≡ part t at → at < count (children t) → node_count x < node_count t
child_smaller t u x ts at these child before below =
    let small = part_within t at below in
    let same = ap node_count (child ∙ ap (λ us. child_or_absent us at) these ∙ before) in
    omega (arith, small, same)

module _ (R : Position → Tree → Tree → Type 0) (D : Position → Tree → Type 0) where
  -- of the first so many children
  abbrev pub WalkedFirst : Position → ℕ → Tree → Tree → Bool → Type 0
  WalkedFirst p at t u true = Moves R p t u
  WalkedFirst p at t u false = (u ≡ t) × ((i : ℕ) → i < at → Everywhere D (place_in p t i) (part t i))

  -- the first so many children are walked over, and the others are as they were
  pub record WalkedTo (p : Position) (at : ℕ) (t u : Tree) (changed : Bool) : Type 0 where
    pub walked : WalkedFirst p at t u changed
    pub rest : (i : ℕ) → at ≤ i → part u i ≡ part t i
    pub shape : shape_of u ≡ shape_of t
    pub counted : count (children u) ≡ count (children t)

  pub walked_none : (p : Position) (t : Tree) → WalkedTo p 0 t t false
  walked_none p t = record { walked = (refl, λ i h. absurd (omega arith)); rest = λ i h. refl; shape = refl; counted = refl }

  first_next : (p : Position) (at : ℕ) (t u v : Tree) (a b : Bool) → at < count (children u) → place_in p t at ≡ place_in p u at → WalkedFirst p at t u a → part u at ≡ part t at → Walked R D (place_in p t at) (part u at) v b → WalkedFirst p (at + 1) t (with_part u at v) (a || b)
  first_next p at t u v true true h q x e y = moves_trans R x (moves_at R p u at v h (subst (λ o. Moves R o (part u at) v) q y))
  first_next p at t u v true false h q x e y = subst (Moves R p t) (sym (ap (with_part u at) y.0 ∙ part_same u at)) x
  first_next p at t u v false true h q x e y = subst (λ w. Moves R p w (with_part u at v)) x.0 (moves_at R p u at v h (subst (λ o. Moves R o (part u at) v) q y))
  first_next p at t u v false false h q x e y = (
    ap (with_part u at) y.0 ∙ part_same u at ∙ x.0,
    λ i k. below_more (λ j. Everywhere D (place_in p t j) (part t j)) at x.1 (subst (Everywhere D (place_in p t at)) e y.1) i k,
  )

  pub walked_next : (p : Position) (at : ℕ) (t u v : Tree) (a b : Bool) → at < count (children t) → WalkedTo p at t u a → Walked R D (place_in p t at) (part u at) v b → WalkedTo p (at + 1) t (with_part u at v) (a || b)
  walked_next p at t u v a b h w x =
      let kept = like_with u at v in
      let placed = ap (λ g. child_position g p (count (children t)) at) (sym w.shape) ∙ ap (λ c. child_position (shape_of u) p c at) (sym w.counted) in record {
        walked = first_next p at t u v a b (omega (arith, h, w.counted)) placed w.walked (w.rest at (omega arith)) x;
        rest = λ i k. others_as_before u at v i (omega (arith, k)) ∙ w.rest i (omega (arith, k));
        shape = kept.0 ∙ w.shape;
        counted = kept.1 ∙ w.counted;
      }

  -- the same, as the code names the parts: the child, its place and the children that it stands in
  pub walked_child : (p q : Position) (h : Shape) (k at : ℕ) (t u x v : Tree) (ts : Trees) (a b : Bool) → (q ≡ child_position h p k at) × (h ≡ shape_of u) × (k ≡ count (children t)) × (ts ≡ children u) × (x ≡ child_or_absent ts at) → at < k → WalkedTo p at t u a → Walked R D q x v b → WalkedTo p (at + 1) t (with_children u (with_child ts at v)) (a || b)
  walked_child p q h k at t u x v ts a b (placed, shaped, counted, these, child) below w m =
      let stands : q ≡ place_in p t at = placed ∙ ap (λ g. child_position g p k at) (shaped ∙ w.shape) ∙ ap (λ c. child_position (shape_of t) p c at) counted in
      let stood = subst (λ o. Walked R D o x v b) stands m in
      let there = subst (λ o. Walked R D (place_in p t at) o v b) (child ∙ ap (λ us. child_or_absent us at) these) stood in
      subst (λ o. WalkedTo p (at + 1) t o (a || b)) (sym (edited u ts at v these)) (walked_next p at t u v a b (omega (arith, below, counted)) w there)

  everywhere_in : (π : ℕ → Position) (ts : Trees) → ((i : ℕ) → i < count ts → Everywhere D (π i) (child_or_absent ts i)) → EverywhereIn D π ts
  everywhere_in π none f = tt
  everywhere_in π (t ▸ ts) f = (f 0 (omega arith), everywhere_in (λ i. π (suc i)) ts (λ i h. f (suc i) (omega arith)))

  first_all : (p : Position) (t u : Tree) (a : Bool) → WalkedFirst p (count (children t)) t u a → WalkedBelow R D p t u a
  first_all p t u true x = x
  first_all p t u false x = (x.0, everywhere_in (place_in p t) (children t) x.1)

  pub walked_all : (p : Position) (at : ℕ) (t u : Tree) (a : Bool) → at ≡ count (children t) → WalkedTo p at t u a → WalkedBelow R D p t u a
  walked_all p at t u a e w = first_all p t u a (subst (λ k. WalkedFirst p k t u a) e w.walked)

  everywhere : (p : Position) (t : Tree) → D p t → EverywhereIn D (place_in p t) (children t) → Everywhere D p t
  everywhere p (node h xs n ts) d ds = (d, ds)

  -- the node, after its children
  pub walked_both : (p : Position) (t u v : Tree) (a b : Bool) → WalkedBelow R D p t u a → Applied R D p u v b → Walked R D p t v (a || b)
  walked_both p t u v true true x y = moves_trans R x y
  walked_both p t u v true false x y = subst (Moves R p t) (sym y.0) x
  walked_both p t u v false true x y = subst (λ w. Moves R p w v) x.0 y
  walked_both p t u v false false x y = (y.0 ∙ x.0, everywhere p t (subst (D p) x.0 y.1) x.1)

  -- the node itself, so far
  abbrev pub HereTo : Position → Tree → Tree → Bool → Type 0
  HereTo p t u true = Moves R p t u
  HereTo p t u false = u ≡ t

  pub here_next : (p : Position) (t u v : Tree) (a b : Bool) → HereTo p t u a → Applied R D p u v b → b ≡ true → HereTo p t v true
  here_next p t u v true true x y e = moves_trans R x y
  here_next p t u v false true x y e = subst (λ w. Moves R p w v) x y
  here_next p t u v a false x y e = absurd (cc e)

  pub here_ended : (p : Position) (t u v : Tree) (a b : Bool) → HereTo p t u a → Applied R D p u v b → b ≡ false → Applied R D p t v a
  here_ended p t u v a true x y e = absurd (cc e)
  here_ended p t u v true false x y e = subst (Moves R p t) (sym y.0) x
  here_ended p t u v false false x y e = (y.0 ∙ x, subst (D p) x y.1)

  pub applied_lighter : (p : Position) (u v : Tree) (b : Bool) → IsLighter R → Applied R D p u v b → b ≡ true → weight p v < weight p u
  applied_lighter p u v true l y e = moves_lighter R l y
  applied_lighter p u v false l y e = absurd (cc e)

  moves_on : {p : Position} {t u v : Tree} → Moves R p t u → Reaches R p u v → Moves R p t v
  moves_on m r = record { next = m.next; step = m.step; others = reaches_trans R m.others r }

  pub here_more : (p : Position) (t u v w : Tree) (a b : Bool) → HereTo p t u a → Applied R D p u v b → b ≡ true → Reaches R p v w → HereTo p t w true
  here_more p t u v w true true x y e r = moves_on (moves_trans R x y) r
  here_more p t u v w false true x y e r = subst (λ z. Moves R p z w) x (moves_on y r)
  here_more p t u v w a false x y e r = absurd (cc e)

  pub here_fallen : (p : Position) (u v w : Tree) (b : Bool) → IsLighter R → Applied R D p u v b → b ≡ true → Reaches R p v w → weight p w < weight p u
  here_fallen p u v w true l y e r = let less = moves_lighter R l y in let rest = reaches_lighter R l r in omega (arith, less, rest)
  here_fallen p u v w false l y e r = absurd (cc e)

  -- the children of a node that the rule made, one after another
  pub record TriedTo (p : Position) (t u : Tree) : Type 0 where
    pub reached : Reaches R p t u
    pub shape : shape_of u ≡ shape_of t
    pub counted : count (children u) ≡ count (children t)

  pub tried_none : (p : Position) (t : Tree) → TriedTo p t t
  tried_none p t = record { reached = done p t; shape = refl; counted = refl }

  here_reached : (p : Position) (t u : Tree) (b : Bool) → Applied R D p t u b → Reaches R p t u
  here_reached p t u true x = moves_reach R x
  here_reached p t u false x = subst (Reaches R p t) (sym x.0) (done p t)

  pub tried_through : (p q : Position) (h : Shape) (k at : ℕ) (t u x v : Tree) (ts : Trees) → (q ≡ child_position h p k at) × (h ≡ shape_of u) × (k ≡ count (children t)) × (ts ≡ children u) × (x ≡ child_or_absent ts at) → at < k → TriedTo p t u → Reaches R q x v → TriedTo p t (with_children u (with_child ts at v))
  tried_through p q h k at t u x v ts (placed, shaped, counted, these, child) below w m =
      let stands : q ≡ place_in p u at = placed ∙ ap (λ g. child_position g p k at) shaped ∙ ap (λ c. child_position (shape_of u) p c at) (counted ∙ sym w.counted) in
      let stood = subst (λ o. Reaches R o x v) stands m in
      let there = subst (λ o. Reaches R (place_in p u at) o v) (child ∙ ap (λ us. child_or_absent us at) these) stood in
      let kept = like_with u at v in
      let made : TriedTo p t (with_part u at v) = record {
        reached = reaches_trans R w.reached (reaches_at R p u at v (omega (arith, below, counted, w.counted)) there);
        shape = kept.0 ∙ w.shape;
        counted = kept.1 ∙ w.counted;
      } in
      subst (TriedTo p t) (sym (edited u ts at v these)) made

  pub tried_child : (p q : Position) (h : Shape) (k at : ℕ) (t u x v : Tree) (ts : Trees) (b : Bool) → (q ≡ child_position h p k at) × (h ≡ shape_of u) × (k ≡ count (children t)) × (ts ≡ children u) × (x ≡ child_or_absent ts at) → at < k → TriedTo p t u → Applied R D q x v b → TriedTo p t (with_children u (with_child ts at v))
  tried_child p q h k at t u x v ts b stands below w m = tried_through p q h k at t u x v ts stands below w (here_reached q x v b m)

  -- a node, and then what it holds
  pub through : (p : Position) (t u v : Tree) (b : Bool) → Applied R D p t u b → Reaches R p u v → Reaches R p t v
  through p t u v b x r = reaches_trans R (here_reached p t u b x) r

  pub through_here : (p : Position) (t u : Tree) (b : Bool) → Applied R D p t u b → Reaches R p t u
  through_here = here_reached
