-- What a step at a path comes to, in terms of the nodes of ESTree.
use Rattle.std.specs.Prelude.{ℕ, zero, suc, ◌-◌, ◌≡◌, ◌<◌, ◌≤◌, ◌⊎◌, refl, nat_lt, if◌then◌else◌, Bool, true, false, List, ◌∷◌, Option, Some, None, option_map, option_and_then}
use Rattle.std.proofs.Common.{sym, ap, ◌∙◌, subst, arith, inl, inr, ltb-true, ltb-false}
use Rattle.mini_model.specs.declared.name.Name.{Name}
use Rattle.mini_model.specs.declared.shape.Shape.{Shape}
use Rattle.mini_model.specs.Paths.{Path, Standing, Node, Holder, Missing, standing, by_standing, append, stands_for, spread, width, child_at, put, put_inside, node_at, replace_at}
use Rattle.mini_model.specs.Tree.{Tree, Trees, node, none, ◌▸◌, count, children, child_or_absent}
use Rattle.mini_laws.proofs.Children.{child_at-append_first, child_at-append_later}
use Rattle.mini_node.specs.Children.{part, with_part, with_child}
use Rattle.mini_node.specs.Walks.{with_same}
use Rattle.mini_log.specs.Walk.{spot}
use Rattle.mini_checker.specs.Made.{index_in}
use Rattle.mini_steps.specs.Called.{Relation}
use Rattle.mini_steps.specs.Steps.{place_in, rest_in, here, below, nowhere}
use Rattle.mini_steps.specs.Laws.{CalledAt, StepsTold}

-- ---- the child at the spot of an index

-- it holds the node of that index, which has another one there; and to put a tree in the place of
-- that node is to put it there in the child
record Spotted (ts : Trees) (i k j : ℕ) : Type 0 where
  among : j < width (child_or_absent ts k)
  found : child_at (spread ts) i ≡ child_at (stands_for (child_or_absent ts k)) j
  put_there : (w : Tree) → put ts i w ≡ with_child ts k (put_inside (child_or_absent ts k) j w)

spotted_by : (b : Bool) (t : Tree) (ts : Trees) (i : ℕ) → nat_lt i (width t) ≡ b
    → (spot ts (i - width t) < count ts → Spotted ts (i - width t) (spot ts (i - width t)) (index_in ts (i - width t)))
    → (if b then 0 else suc (spot ts (i - width t))) < suc (count ts)
    → Spotted (t ▸ ts) i (if b then 0 else suc (spot ts (i - width t))) (if b then i else index_in ts (i - width t))
spotted_by true t ts i e later l =
    let small = ltb-true i (width t) e in
    record {
      among = small;
      found = child_at-append_first (stands_for t) (spread ts) i small;
      put_there = λ w. ap (λ c. if c then put_inside t i w ▸ ts else t ▸ put ts (i - width t) w) e;
    }
spotted_by false t ts i e later l =
    let s = later (omega (arith, l)) in
    record {
      among = s.among;
      found = child_at-append_later (stands_for t) (spread ts) i (ltb-false i (width t) e) ∙ s.found;
      put_there = λ w. ap (λ c. if c then put_inside t i w ▸ ts else t ▸ put ts (i - width t) w) e ∙ ap (λ us. t ▸ us) (s.put_there w);
    }

spotted : (ts : Trees) (i : ℕ) → spot ts i < count ts → Spotted ts i (spot ts i) (index_in ts i)
spotted none i l = absurd (omega (arith, l))
spotted (t ▸ ts) i l = spotted_by (nat_lt i (width t)) t ts i refl (spotted ts (i - width t)) l

past_by : (b : Bool) (t : Tree) (ts : Trees) (i : ℕ) → nat_lt i (width t) ≡ b → (count ts ≤ spot ts (i - width t) → child_at (spread ts) (i - width t) ≡ None)
    → suc (count ts) ≤ (if b then 0 else suc (spot ts (i - width t))) → child_at (append (stands_for t) (spread ts)) i ≡ None
past_by true t ts i e later l = absurd (omega (arith, l))
past_by false t ts i e later l = child_at-append_later (stands_for t) (spread ts) i (ltb-false i (width t) e) ∙ later (omega (arith, l))

past : (ts : Trees) (i : ℕ) → count ts ≤ spot ts i → child_at (spread ts) i ≡ None
past none i l = refl
past (t ▸ ts) i l = past_by (nat_lt i (width t)) t ts i refl (past ts (i - width t)) l

-- ---- on from there

-- the path goes on in the child
record GoesOn (c : Tree) (j : ℕ) (q : Path) (w : Tree) : Type 0 where
  at : option_and_then (node_at q) (child_at (stands_for c) j) ≡ node_at (rest_in c j q) c
  put_on : option_and_then (λ d. option_map (put_inside c j) (replace_at q w d)) (child_at (stands_for c) j) ≡ replace_at (rest_in c j q) w c

same_map : (o : Option Tree) → option_map (λ v. v) o ≡ o
same_map None = refl
same_map (Some v) = refl

goes_on_by : (s : Standing) (h : Shape) (xs : List Name) (n : ℕ) (ts : Trees) (j : ℕ) (q : Path) (w : Tree) → standing h ≡ s → j < count (by_standing s (node h xs n ts ▸ none) (spread ts) none) → GoesOn (node h xs n ts) j q w
goes_on_by Node h xs n ts zero q w e l = record {
  at = ap (λ s. option_and_then (node_at q) (child_at (by_standing s (node h xs n ts ▸ none) (spread ts) none) zero)) e ∙ sym (ap (λ s. node_at (by_standing s q (zero ∷ q) (zero ∷ q)) (node h xs n ts)) e);
  put_on = ap (λ s. option_and_then (λ d. option_map (λ v. by_standing s v (node h xs n (put ts zero v)) (node h xs n ts)) (replace_at q w d)) (child_at (by_standing s (node h xs n ts ▸ none) (spread ts) none) zero)) e
      ∙ same_map (replace_at q w (node h xs n ts)) ∙ sym (ap (λ s. replace_at (by_standing s q (zero ∷ q) (zero ∷ q)) w (node h xs n ts)) e);
}
goes_on_by Node h xs n ts (suc j) q w e l = absurd (omega (arith, l))
goes_on_by Holder h xs n ts j q w e l = record {
  at = ap (λ s. option_and_then (node_at q) (child_at (by_standing s (node h xs n ts ▸ none) (spread ts) none) j)) e ∙ sym (ap (λ s. node_at (by_standing s q (j ∷ q) (j ∷ q)) (node h xs n ts)) e);
  put_on = ap (λ s. option_and_then (λ d. option_map (λ v. by_standing s v (node h xs n (put ts j v)) (node h xs n ts)) (replace_at q w d)) (child_at (by_standing s (node h xs n ts ▸ none) (spread ts) none) j)) e
      ∙ sym (ap (λ s. replace_at (by_standing s q (j ∷ q) (j ∷ q)) w (node h xs n ts)) e);
}
goes_on_by Missing h xs n ts j q w e l = absurd (omega (arith, l))

goes_on : (c : Tree) (j : ℕ) (q : Path) (w : Tree) → j < width c → GoesOn c j q w
goes_on (node h xs n ts) j q w l = goes_on_by (standing h) h xs n ts j q w refl l

map_and : (o p : Option Tree) (f : Tree → Option Tree) (g h : Tree → Tree) → o ≡ p → option_and_then (λ d. option_map (λ v. g (h v)) (f d)) o ≡ option_map g (option_and_then (λ d. option_map h (f d)) p)
map_and o None f g h e = ap (option_and_then (λ d. option_map (λ v. g (h v)) (f d))) e
map_and o (Some d) f g h e = ap (option_and_then (λ d. option_map (λ v. g (h v)) (f d))) e ∙ twice (f d)
  where
    twice : (p : Option Tree) → option_map (λ v. g (h v)) p ≡ option_map g (option_map h p)
    twice None = refl
    twice (Some v) = refl

-- so it leads where the rest does in the child
at_child : (t : Tree) (i k : ℕ) (q : Path) → k ≡ spot (children t) i → k < count (children t) → node_at (i ∷ q) t ≡ node_at (rest_in (part t k) (index_in (children t) i) q) (part t k)
at_child (node h xs n ts) i k q e l =
    subst (λ m. node_at (i ∷ q) (node h xs n ts) ≡ node_at (rest_in (child_or_absent ts m) (index_in ts i) q) (child_or_absent ts m)) (sym e)
    (let s = spotted ts i (subst (λ m. m < count ts) e l) in
    ap (option_and_then (node_at q)) s.found ∙ (goes_on (child_or_absent ts (spot ts i)) (index_in ts i) q (node h xs n ts) s.among).at)

put_in_child : (t w : Tree) (i k : ℕ) (q : Path) → k ≡ spot (children t) i → k < count (children t) → replace_at (i ∷ q) w t ≡ option_map (with_part t k) (replace_at (rest_in (part t k) (index_in (children t) i) q) w (part t k))
put_in_child (node h xs n ts) w i k q e l =
    subst (λ m. replace_at (i ∷ q) w (node h xs n ts) ≡ option_map (λ v. node h xs n (with_child ts m v)) (replace_at (rest_in (child_or_absent ts m) (index_in ts i) q) w (child_or_absent ts m))) (sym e)
    (let k = spot ts i in
    let s = spotted ts i (subst (λ m. m < count ts) e l) in
    let c = child_or_absent ts k in
    let put_so : (λ v. node h xs n (put ts i v)) ≡ (λ v. node h xs n (with_child ts k (put_inside c (index_in ts i) v))) = λ x v. node h xs n (s.put_there v x) in
    ap (λ f. option_and_then (λ d. option_map f (replace_at q w d)) (child_at (spread ts) i)) put_so
    ∙ map_and (child_at (spread ts) i) (child_at (stands_for c) (index_in ts i)) (replace_at q w) (λ v. node h xs n (with_child ts k v)) (put_inside c (index_in ts i)) s.found
    ∙ ap (option_map (λ v. node h xs n (with_child ts k v))) (goes_on c (index_in ts i) q w s.among).put_on)

nowhere_at : (t : Tree) (i : ℕ) (q : Path) → count (children t) ≤ spot (children t) i → node_at (i ∷ q) t ≡ None
nowhere_at (node h xs n ts) i q l = ap (option_and_then (node_at q)) (past ts i l)

same_part : (t : Tree) (k : ℕ) → with_part t k (part t k) ≡ t
same_part (node h xs n ts) k = ap (node h xs n) (with_same ts k)

-- ---- a step

abbrev Told : Relation → Path → Tree → Tree → Bool → Type 0
Told R q t u b = CalledAt R q t u b ⊎ ((node_at q t ≡ None) × ((u ≡ t) × (b ≡ false)))

in_child : (R : Relation) (t v : Tree) (i k : ℕ) (q : Path) (b : Bool) → k ≡ spot (children t) i → k < count (children t) → Told R (rest_in (part t k) (index_in (children t) i) q) (part t k) v b → Told R (i ∷ q) t (with_part t k v) b
in_child R t v i k q b e l (inl s) = inl (record {
  node = s.node;
  made = s.made;
  place = s.place;
  there = at_child t i k q e l ∙ s.there;
  whole = put_in_child t s.made i k q e l ∙ ap (option_map (with_part t k)) s.whole;
  called = s.called;
})
in_child R t v i k q b e l (inr n) = inr (at_child t i k q e l ∙ n.0, (ap (with_part t k) n.1.0 ∙ same_part t k, n.1.1))

pub told : (R : Relation) → StepsTold R
told R _ _ _ _ _ (here p t u b c) = inl (record { node = t; made = u; place = p; there = refl; whole = refl; called = c })
told R _ _ _ _ _ (below i q p t v k b e l a) = in_child R t v i k q b e l (told R (rest_in (part t k) (index_in (children t) i) q) (place_in p t k) (part t k) v b a)
told R _ _ _ _ _ (nowhere i q p t l) = inr (nowhere_at t i q l, (refl, refl))
