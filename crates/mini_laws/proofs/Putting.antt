-- One child in place of another.
use Rattle.std.proofs.Common.{◌≡◌, ℕ, zero, suc, ◌+◌, ◌-◌, ◌<◌, ◌≤◌, true, false, List, Some, refl, sym, ap, ◌∙◌, subst, ⊎_elim, arith}
use Rattle.std.proofs.lemmas.Option.{none-some, same_Some}
use Rattle.std.proofs.lemmas.Bool.{cases_lt, lt-ltb, le-ltb, cond-true, cond-false, false≢true}
use Rattle.mini_model.specs.declared.name.Name.{Name}
use Rattle.mini_model.specs.declared.shape.Shape.{Shape}
use Rattle.mini_model.specs.Tree.{Tree, Trees, node, none, ◌▸◌, count, node_count, node_counts}
use Rattle.mini_model.specs.Paths.{Standing, Node, Holder, Missing, standing, by_standing, is_node, append, stands_for, spread, child_at, width, put_inside, put}
use Rattle.mini_laws.proofs.Children.{set_at, count_set_at, set_at-append_first, set_at-append_later, child_at-append_first, child_at-append_later}

put_first : (t : Tree) (ts : Trees) (i : ℕ) (w : Tree) → i < width t → put (t ▸ ts) i w ≡ put_inside t i w ▸ ts
put_first t ts i w l = cond-true _ _ _ (lt-ltb i (width t) l)

put_later : (t : Tree) (ts : Trees) (i : ℕ) (w : Tree) → width t ≤ i → put (t ▸ ts) i w ≡ t ▸ put ts (i - width t) w
put_later t ts i w l = cond-false _ _ _ (le-ltb i (width t) l)

-- a node is one child, itself
stands_by : (s : Standing) (t : Tree) (us : Trees) → by_standing s true false false ≡ true → by_standing s (t ▸ none) us none ≡ t ▸ none
stands_by Node t us e = refl
stands_by Holder t us e = absurd (false≢true e)
stands_by Missing t us e = absurd (false≢true e)

stands_node : (w : Tree) → is_node w ≡ true → stands_for w ≡ w ▸ none
stands_node (node h xs n ts) e = stands_by (standing h) (node h xs n ts) (spread ts) e

put_by : (s : Standing) (c v u : Tree) → by_standing s true false false ≡ true → by_standing s c v u ≡ c
put_by Node c v u e = refl
put_by Holder c v u e = absurd (false≢true e)
put_by Missing c v u e = absurd (false≢true e)

put_node : (w c : Tree) (i : ℕ) → is_node w ≡ true → put_inside w i c ≡ c
put_node (node h xs n ts) c i e = put_by (standing h) c (node h xs n (put ts i c)) (node h xs n ts) e

-- the children, with this one at the index
stands_put_by : (s : Standing) (h : Shape) (xs : List Name) (n : ℕ) (ts : Trees) (i : ℕ) (w : Tree) → standing h ≡ s → spread (put ts i w) ≡ set_at (spread ts) i w → is_node w ≡ true → i < count (by_standing s (node h xs n ts ▸ none) (spread ts) none) → stands_for (by_standing s w (node h xs n (put ts i w)) (node h xs n ts)) ≡ set_at (by_standing s (node h xs n ts ▸ none) (spread ts) none) i w
stands_put_by Node h xs n ts zero w e k m l = stands_node w m
stands_put_by Node h xs n ts (suc i) w e k m l = absurd (omega (arith, l))
stands_put_by Holder h xs n ts i w e k m l = ap (λ s. by_standing s (node h xs n (put ts i w) ▸ none) (spread (put ts i w)) none) e ∙ k
stands_put_by Missing h xs n ts i w e k m l = absurd (omega (arith, l))

mutual
  stands_put : (t : Tree) (i : ℕ) (w : Tree) → is_node w ≡ true → i < width t → stands_for (put_inside t i w) ≡ set_at (stands_for t) i w
  stands_put (node h xs n ts) i w m l = stands_put_by (standing h) h xs n ts i w refl (spread_put ts i w m) m l

  pub spread_put : (ts : Trees) (i : ℕ) (w : Tree) → is_node w ≡ true → spread (put ts i w) ≡ set_at (spread ts) i w
  spread_put none i w m = refl
  spread_put (t ▸ ts) i w m =
      ⊎_elim
      (λ l. ap spread (put_first t ts i w l) ∙ ap (λ us. append us (spread ts)) (stands_put t i w m l) ∙ sym (set_at-append_first (stands_for t) (spread ts) i w l))
      (λ l. ap spread (put_later t ts i w l) ∙ ap (append (stands_for t)) (spread_put ts (i - width t) w m) ∙ sym (set_at-append_later (stands_for t) (spread ts) i w l))
      (cases_lt i (width t))

-- of two in one place the last counts

width_put : (t : Tree) (i : ℕ) (w : Tree) → is_node w ≡ true → i < width t → width (put_inside t i w) ≡ width t
width_put t i w m l = ap count (stands_put t i w m l) ∙ count_set_at (stands_for t) i w

twice_by : (s : Standing) (h : Shape) (xs : List Name) (n : ℕ) (ts : Trees) (i : ℕ) (w c : Tree) → standing h ≡ s → put (put ts i w) i c ≡ put ts i c → is_node w ≡ true → i < count (by_standing s (node h xs n ts ▸ none) (spread ts) none) → put_inside (by_standing s w (node h xs n (put ts i w)) (node h xs n ts)) i c ≡ by_standing s c (node h xs n (put ts i c)) (node h xs n ts)
twice_by Node h xs n ts i w c e k m l = put_node w c i m
twice_by Holder h xs n ts i w c e k m l = ap (λ s. by_standing s c (node h xs n (put (put ts i w) i c)) (node h xs n (put ts i w))) e ∙ ap (node h xs n) k
twice_by Missing h xs n ts i w c e k m l = absurd (omega (arith, l))

mutual
  twice_inside : (t : Tree) (i : ℕ) (w c : Tree) → is_node w ≡ true → i < width t → put_inside (put_inside t i w) i c ≡ put_inside t i c
  twice_inside (node h xs n ts) i w c m l = twice_by (standing h) h xs n ts i w c refl (put_twice ts i w c m) m l

  pub put_twice : (ts : Trees) (i : ℕ) (w c : Tree) → is_node w ≡ true → put (put ts i w) i c ≡ put ts i c
  put_twice none i w c m = refl
  put_twice (t ▸ ts) i w c m =
      ⊎_elim
      (λ l. ap (λ us. put us i c) (put_first t ts i w l) ∙ put_first (put_inside t i w) ts i c (subst (λ n. i < n) (sym (width_put t i w m l)) l) ∙ ap (λ u. u ▸ ts) (twice_inside t i w c m l) ∙ sym (put_first t ts i c l))
      (λ l. ap (λ us. put us i c) (put_later t ts i w l) ∙ put_later t (put ts (i - width t) w) i c l ∙ ap (λ us. t ▸ us) (put_twice ts (i - width t) w c m) ∙ sym (put_later t ts i c l))
      (cases_lt i (width t))

-- what stands at an index: put there, it changes nothing; it is a node; and the nodes are counted

in_first : (t : Tree) (ts : Trees) (i : ℕ) (c : Tree) → i < width t → child_at (spread (t ▸ ts)) i ≡ Some c → child_at (stands_for t) i ≡ Some c
in_first t ts i c l e = sym (child_at-append_first (stands_for t) (spread ts) i l) ∙ e

in_later : (t : Tree) (ts : Trees) (i : ℕ) (c : Tree) → width t ≤ i → child_at (spread (t ▸ ts)) i ≡ Some c → child_at (spread ts) (i - width t) ≡ Some c
in_later t ts i c l e = sym (child_at-append_later (stands_for t) (spread ts) i l) ∙ e

only_child : (t c : Tree) (i : ℕ) → child_at (t ▸ none) i ≡ Some c → t ≡ c
only_child t c zero e = same_Some t c e
only_child t c (suc i) e = absurd (none-some c e)

same_by : (s : Standing) (h : Shape) (xs : List Name) (n : ℕ) (ts : Trees) (i : ℕ) (c : Tree) → (child_at (spread ts) i ≡ Some c → put ts i c ≡ ts) → child_at (by_standing s (node h xs n ts ▸ none) (spread ts) none) i ≡ Some c → by_standing s c (node h xs n (put ts i c)) (node h xs n ts) ≡ node h xs n ts
same_by Node h xs n ts i c k e = sym (only_child (node h xs n ts) c i e)
same_by Holder h xs n ts i c k e = ap (node h xs n) (k e)
same_by Missing h xs n ts i c k e = refl

mutual
  same_inside : (t : Tree) (i : ℕ) (c : Tree) → child_at (stands_for t) i ≡ Some c → put_inside t i c ≡ t
  same_inside (node h xs n ts) i c e = same_by (standing h) h xs n ts i c (put_same ts i c) e

  pub put_same : (ts : Trees) (i : ℕ) (c : Tree) → child_at (spread ts) i ≡ Some c → put ts i c ≡ ts
  put_same none i c e = refl
  put_same (t ▸ ts) i c e =
      ⊎_elim
      (λ l. put_first t ts i c l ∙ ap (λ u. u ▸ ts) (same_inside t i c (in_first t ts i c l e)))
      (λ l. put_later t ts i c l ∙ ap (λ us. t ▸ us) (put_same ts (i - width t) c (in_later t ts i c l e)))
      (cases_lt i (width t))

node_by : (s : Standing) (h : Shape) (xs : List Name) (n : ℕ) (ts : Trees) (i : ℕ) (c : Tree) → standing h ≡ s → (child_at (spread ts) i ≡ Some c → is_node c ≡ true) → child_at (by_standing s (node h xs n ts ▸ none) (spread ts) none) i ≡ Some c → is_node c ≡ true
node_by Node h xs n ts i c e k f = ap is_node (sym (only_child (node h xs n ts) c i f)) ∙ ap (λ s. by_standing s true false false) e
node_by Holder h xs n ts i c e k f = k f
node_by Missing h xs n ts i c e k f = absurd (none-some c f)

mutual
  node_inside : (t : Tree) (i : ℕ) (c : Tree) → child_at (stands_for t) i ≡ Some c → is_node c ≡ true
  node_inside (node h xs n ts) i c e = node_by (standing h) h xs n ts i c refl (spread_node ts i c) e

  pub spread_node : (ts : Trees) (i : ℕ) (c : Tree) → child_at (spread ts) i ≡ Some c → is_node c ≡ true
  spread_node none i c e = absurd (none-some c e)
  spread_node (t ▸ ts) i c e =
      ⊎_elim
      (λ l. node_inside t i c (in_first t ts i c l e))
      (λ l. spread_node ts (i - width t) c (in_later t ts i c l e))
      (cases_lt i (width t))

counted_by : (s : Standing) (h : Shape) (xs : List Name) (n : ℕ) (ts : Trees) (i : ℕ) (c w : Tree) → (child_at (spread ts) i ≡ Some c → node_counts (put ts i w) + node_count c ≡ node_counts ts + node_count w) → child_at (by_standing s (node h xs n ts ▸ none) (spread ts) none) i ≡ Some c → node_count (by_standing s w (node h xs n (put ts i w)) (node h xs n ts)) + node_count c ≡ node_count (node h xs n ts) + node_count w
counted_by Node h xs n ts i c w k e = let same = ap node_count (only_child (node h xs n ts) c i e) in omega (arith, same)
counted_by Holder h xs n ts i c w k e = let inner = k e in omega (arith, inner)
counted_by Missing h xs n ts i c w k e = absurd (none-some c e)

mutual
  counted_inside : (t : Tree) (i : ℕ) (c w : Tree) → child_at (stands_for t) i ≡ Some c → node_count (put_inside t i w) + node_count c ≡ node_count t + node_count w
  counted_inside (node h xs n ts) i c w e = counted_by (standing h) h xs n ts i c w (put_counted ts i c w) e

  pub put_counted : (ts : Trees) (i : ℕ) (c w : Tree) → child_at (spread ts) i ≡ Some c → node_counts (put ts i w) + node_count c ≡ node_counts ts + node_count w
  put_counted none i c w e = absurd (none-some c e)
  put_counted (t ▸ ts) i c w e =
      ⊎_elim
      (λ l. let one = counted_inside t i c w (in_first t ts i c l e) in let all = ap node_counts (put_first t ts i w l) in omega (arith, one, all))
      (λ l. let one = put_counted ts (i - width t) c w (in_later t ts i c l e) in let all = ap node_counts (put_later t ts i w l) in omega (arith, one, all))
      (cases_lt i (width t))
