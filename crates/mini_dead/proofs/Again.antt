-- Programs that lose dead items any number of times.
use Rattle.std.proofs.Common.{◌≡◌, ℕ, zero, suc, Bool, true, false, List, [], ◌∷◌, refl, sym, ap, ◌∙◌, subst, subst₂, true≢false, inl, inr, arith}
use Rattle.std.specs.Prelude.{Contains, nat_eq, not, ◌&&◌}
use Rattle.std.specs.List.{list_any}
use Rattle.std.proofs.Math.Path.{fun_ext}
use Rattle.mini_model.specs.Tree.{Tree}
use Rattle.mini_accept.specs.WellShaped.{one, a_program}
use Rattle.mini_laws.specs.Value.{Variable, Declared, Global, VariableSet, variables, choose, is_in}
use Rattle.mini_laws.specs.State.{Writable, Writes}
use Rattle.mini_laws.specs.Fixity.{written_in, fixed_in}
use Rattle.mini_laws.specs.Writable.{mentions, any_mentions}
use Rattle.mini_laws.specs.Congruence.{Avoids}
use Rattle.mini_laws.specs.Body.{environment_in}
use Rattle.mini_laws.specs.Bodies.{Body, bodies_in}
use Rattle.mini_kept.specs.Carried.{numbers}
use Rattle.mini_dead.proofs.Basics.{either_way, both_ways, second, not_second}
use Rattle.mini_dead.specs.Creations.{FunctionSet, SameWithout, either_set}
use Rattle.mini_dead.specs.Pruned.{Elsewhere, Pruned, prune, Prunings, end, stays, goes, declarator_goes, earlier, earlier_all, later, later_all, item_tree, declarator_tree}
use Rattle.mini_dead.specs.PrunedBodies.{BodyWithout, BodiesWithout}
use Rattle.mini_dead.specs.Drops as law
use Rattle.mini_dead.specs.Drops.{gone, DropsDead, gone_from, lost_from, times_in, NumbersOnce, ShowsShared, BodyStays, BodiesStay, Drops, DropsAgain, nothing_goes, more_goes}
use Rattle.mini_dead.proofs.Avoiding.{unnamed_writable, unnamed_unshared}
use Rattle.mini_dead.proofs.Numbers as number
use Rattle.mini_dead.proofs.Numbers.{Numbered, fits_numbered, numbered_still}
use Rattle.mini_dead.proofs.Twice.{without_none_same, without_twice_same}
use Rattle.mini_dead.proofs.Dropping.{of_pruned}

-- ---- the later program names nothing else

mutual
  named_before : (x : Variable) (p : Pruned) → mentions (later p) x ≡ true → mentions (earlier p) x ≡ true
  named_before x (prune h xs n ps) q = either_way (is_in x (variables xs)) (any_mentions (later_all ps) x) (any_mentions (earlier_all ps) x) (all_named_before x ps) q

  all_named_before : (x : Variable) (ps : Prunings) → any_mentions (later_all ps) x ≡ true → any_mentions (earlier_all ps) x ≡ true
  all_named_before x end q = q
  all_named_before x (stays p ps) q = both_ways (mentions (later p) x) (mentions (earlier p) x) (any_mentions (later_all ps) x) (any_mentions (earlier_all ps) x) (named_before x p) (all_named_before x ps) q
  all_named_before x (goes i ps) q = second (mentions (item_tree i) x) (any_mentions (earlier_all ps) x) (all_named_before x ps q)
  all_named_before x (declarator_goes c ps) q = second (mentions (declarator_tree c) x) (any_mentions (earlier_all ps) x) (all_named_before x ps q)

-- ---- what goes in two steps

-- of a thing in the first, the second and the third program, where none has one that those before
-- lack
module _ (a b c : Bool) (in_first : b ≡ true → a ≡ true) (in_second : c ≡ true → b ≡ true) where
  goes_first : (a && not b) ≡ true → (a && not c) ≡ true
  goes_first p = by a b c in_second p
    where
      by : (a b c : Bool) → (c ≡ true → b ≡ true) → (a && not b) ≡ true → (a && not c) ≡ true
      by true false false f p = refl
      by true false true f p = absurd (true≢false (sym (f refl)))
      by true true c f p = absurd (true≢false (sym p))
      by false b c f p = p

  goes_second : (b && not c) ≡ true → (a && not c) ≡ true
  goes_second p = by a b c in_first p
    where
      by : (a b c : Bool) → (b ≡ true → a ≡ true) → (b && not c) ≡ true → (a && not c) ≡ true
      by true true c f p = p
      by false true c f p = absurd (true≢false (sym (f refl)))
      by a false c f p = absurd (true≢false (sym p))

  goes_at_all : choose (a && not b) true (b && not c) ≡ (a && not c)
  goes_at_all = by a b c in_first in_second
    where
      by : (a b c : Bool) → (b ≡ true → a ≡ true) → (c ≡ true → b ≡ true) → choose (a && not b) true (b && not c) ≡ (a && not c)
      by true true c f g = refl
      by true false false f g = refl
      by true false true f g = absurd (true≢false (sym (g refl)))
      by false true c f g = absurd (true≢false (sym (f refl)))
      by false false c f g = refl

-- ---- bodies

body_itself : (d : FunctionSet) → d ≡ (λ n. false) → (D : VariableSet) (b : Body) → BodyWithout d D b b
body_itself d none_goes D b = record { number = refl; kind = refl; strict = refl; asks_this = refl; same = λ e may apart. subst (λ f. SameWithout f e b.kind b.root b.root) (sym none_goes) (without_none_same e b.kind b.root) }

bodies_themselves : (d : FunctionSet) → d ≡ (λ n. false) → (D : VariableSet) (bs : List Body) → BodiesWithout d D bs bs
bodies_themselves d none_goes D [] = tt
bodies_themselves d none_goes D (b ∷ bs) = inl (body_itself d none_goes D b, bodies_themselves d none_goes D bs)

module _ (c d : FunctionSet) (C D E : VariableSet) (f : (x : Variable) → C x ≡ true → E x ≡ true) (g : (x : Variable) → D x ≡ true → E x ≡ true) where
  body_twice : (x y z : Body) → BodyWithout c C x y → BodyWithout d D y z → BodyWithout (either_set c d) E x z
  body_twice x y z v w = record {
    number = v.number ∙ w.number;
    kind = v.kind ∙ w.kind;
    strict = v.strict ∙ w.strict;
    asks_this = v.asks_this ∙ w.asks_this;
    same = λ e may apart. without_twice_same c d e x.kind x.root y.root z.root (v.same e (λ x p. may x (f x p)) (λ x p. apart x (f x p))) (subst (λ k. SameWithout d e k y.root z.root) (sym v.kind) (w.same e (λ x p. may x (g x p)) (λ x p. apart x (g x p))));
  }

  bodies_twice : (xs ys zs : List Body) → BodiesWithout c C xs ys → BodiesWithout d D ys zs → BodiesWithout (either_set c d) E xs zs
  bodies_twice xs ys [] v w = tt
  bodies_twice xs [] (z ∷ zs) v w = absurd w
  bodies_twice [] (y ∷ ys) (z ∷ zs) v w = absurd v
  bodies_twice (x ∷ xs) (y ∷ ys) (z ∷ zs) (inl v) (inl w) = inl (body_twice x y z v.0 w.0, bodies_twice xs ys zs v.1 w.1)
  bodies_twice (x ∷ xs) (y ∷ ys) (z ∷ zs) (inl v) (inr w) = inr (bodies_twice xs ys (z ∷ zs) v.1 w)
  bodies_twice (x ∷ xs) (y ∷ ys) (z ∷ zs) (inr v) w = inr (bodies_twice xs (y ∷ ys) (z ∷ zs) v w)

-- ---- any number of times

-- what is carried from step to step
pub record Lost (t u : Tree) : Type 0 where
  pub bodies : BodiesWithout (gone_from t u) (lost_from t u) (bodies_in t) (bodies_in u)
  pub numbered : Numbered u
  pub once : NumbersOnce u
  pub number_before : (n : ℕ) → list_any (nat_eq n) (numbers u) ≡ true → list_any (nat_eq n) (numbers t) ≡ true
  pub named_before : (x : Variable) → mentions u x ≡ true → mentions t x ≡ true

itself_lost : (t : Tree) → Numbered t → NumbersOnce t → Lost t t
itself_lost t numbered once = record {
  bodies = bodies_themselves (gone_from t t) (fun_ext λ n. by (list_any (nat_eq n) (numbers t))) (lost_from t t) (bodies_in t);
  numbered = numbered;
  once = once;
  number_before = λ n p. p;
  named_before = λ x p. p;
}
  where
    by : (b : Bool) → (b && not b) ≡ false
    by true = refl
    by false = refl

of_pruned_tree : (p : Pruned) (rounds : ℕ → ℕ) → DropsDead (earlier p) (gone p) rounds Elsewhere p → Avoids (gone p) (later p) → Numbered (earlier p) → NumbersOnce (earlier p) → Lost (earlier p) (later p)
of_pruned_tree p rounds a v numbered once = record {
  bodies = of_pruned p rounds a v numbered once;
  numbered = numbered_still p numbered;
  once = λ n. omega (arith, once n, number.fewer n p);
  number_before = λ n q. number.was_there n p q;
  named_before = λ x q. named_before x p q;
}

of_drops : (t u : Tree) (n : ℕ) → Drops t u n → Numbered t → NumbersOnce t → Lost t u
of_drops t u n w numbered once =
    subst₂ Lost w.before w.after
    (of_pruned_tree w.pruned w.rounds (subst (λ t. DropsDead t (gone w.pruned) w.rounds Elsewhere w.pruned) (sym w.before) w.dead) (subst (Avoids (gone w.pruned)) (sym w.after) w.unnamed) (subst Numbered (sym w.before) numbered) (subst NumbersOnce (sym w.before) once))

lost_twice : (t u v : Tree) → Lost t u → Lost u v → Lost t v
lost_twice t u v a b = record {
  bodies = subst (λ d. BodiesWithout d (lost_from t v) (bodies_in t) (bodies_in v)) (fun_ext λ n. goes_at_all (list_any (nat_eq n) (numbers t)) (list_any (nat_eq n) (numbers u)) (list_any (nat_eq n) (numbers v)) (a.number_before n) (b.number_before n))
      (bodies_twice (gone_from t u) (gone_from u v) (lost_from t u) (lost_from u v) (lost_from t v) first_names second_names (bodies_in t) (bodies_in u) (bodies_in v) a.bodies b.bodies);
  numbered = b.numbered;
  once = b.once;
  number_before = λ n p. a.number_before n (b.number_before n p);
  named_before = λ x p. a.named_before x (b.named_before x p);
}
  where
    first_names : (x : Variable) → lost_from t u x ≡ true → lost_from t v x ≡ true
    first_names (Declared s) p = goes_first (mentions t (Declared s)) (mentions u (Declared s)) (mentions v (Declared s)) (a.named_before (Declared s)) (b.named_before (Declared s)) p
    first_names (Global s) p = p

    second_names : (x : Variable) → lost_from u v x ≡ true → lost_from t v x ≡ true
    second_names (Declared s) p = goes_second (mentions t (Declared s)) (mentions u (Declared s)) (mentions v (Declared s)) (a.named_before (Declared s)) (b.named_before (Declared s)) p
    second_names (Global s) p = p

of_steps : (t u : Tree) (n : ℕ) → DropsAgain t u n → Numbered t → NumbersOnce t → Lost t u
of_steps _ _ _ (nothing_goes t) numbered once = itself_lost t numbered once
of_steps _ _ _ (more_goes t u v m n w s) numbered once =
    let a = of_steps t u m w numbered once in
    lost_twice t u v a (of_drops u v n s a.numbered a.once)

pub drops_keep_bodies : law.DropsKeepBodies
drops_keep_bodies t u n w shaped once = (of_steps t u n w (fits_numbered false (one a_program) t shaped) once).bodies

-- ---- in the environment of a body that is left

module _ (t u : Tree) where
  written : (strict : Bool) (x : Variable) → lost_from t u x ≡ true → fixed_in strict u x ≡ Writes
  written strict (Declared s) p = ap (written_in strict (Declared s)) (unnamed_writable u (Declared s) (not_second (mentions t (Declared s)) (mentions u (Declared s)) p)) ∙ by strict
    where
      by : (strict : Bool) → written_in strict (Declared s) Writable ≡ Writes
      by true = refl
      by false = refl
  written strict (Global s) p = absurd (true≢false (sym p))

  hidden : (b : ℕ) (shared : VariableSet) → ShowsShared u b shared → (x : Variable) → lost_from t u x ≡ true → shared x ≡ false
  hidden b shared h (Declared s) p = h s (unnamed_unshared u s (not_second (mentions t (Declared s)) (mentions u (Declared s)) p) b)
  hidden b shared h (Global s) p = absurd (true≢false (sym p))

  body_stays : (b c : Body) → BodyWithout (gone_from t u) (lost_from t u) b c → BodyStays t u b c
  body_stays b c w = record {
    number = w.number;
    kind = w.kind;
    strict = w.strict;
    asks_this = w.asks_this;
    same = λ shared foreign h.
        let e = environment_in u shared foreign c.strict c.asks_this in
        subst (λ k. SameWithout (gone_from t u) e k b.root c.root) w.kind (w.same e (λ x p. written c.strict x p) (hidden c.number shared h));
  }

  Found : List Body → Body → Type 0
  Found bs c = (b : Body) × Contains bs b × BodyStays t u b c

  further : (b : Body) (bs : List Body) (c : Body) → Found bs c → Found (b ∷ bs) c
  unfolding Found
  further b bs c (b', (j, below, is), s) = (b', (suc j, omega (arith, below), is), s)

  find : (bs cs : List Body) → BodiesWithout (gone_from t u) (lost_from t u) bs cs → (c : Body) → Contains cs c → Found bs c
  unfolding Found
  find bs [] w c (i, less, at) = absurd (omega (arith, less))
  find [] (c' ∷ cs) w c m = absurd w
  find (b ∷ bs) (c' ∷ cs) (inl w) c (zero, less, at) = (b, (zero, omega arith, refl), subst (BodyStays t u b) at (body_stays b c' w.0))
  find (b ∷ bs) (c' ∷ cs) (inl w) c (suc i, less, at) = further b bs c (find bs cs w.1 c (i, omega (arith, less), at))
  find (b ∷ bs) (c' ∷ cs) (inr w) c m = further b bs c (find bs (c' ∷ cs) w c m)

pub dropped_bodies_stay : law.DroppedBodiesStay
unfolding Found
dropped_bodies_stay t u n w shaped once c m = find t u (bodies_in t) (bodies_in u) (drops_keep_bodies t u n w shaped once) c m
