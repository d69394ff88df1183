-- The child of an index, and a step in it.
use Rattle.std.proofs.Common.{◌≡◌, ℕ, zero, suc, ◌+◌, ◌-◌, ◌<◌, ◌≤◌, Bool, true, false, nat_lt, [], ◌∷◌, length, refl, sym, ap, ◌∙◌, subst, arith, add-one}
use Rattle.std.specs.Prelude.{Option, Some, None, option_map, if◌then◌else◌}
use Rattle.std.proofs.lemmas.Option.{none-some, same_Some}
use Rattle.std.proofs.lemmas.Bool.{false≢true}
use Rattle.std.proofs.lemmas.Bool.Decides.{nat_tests}
use Rattle.mini_model.specs.declared.place.Position.{Position}
use Rattle.mini_model.specs.declared.shape.Shape.{Shape}
use Rattle.mini_model.specs.Paths.{Path, append, stands_for, spread, Standing, Node, Holder, Missing, standing, by_standing, is_node, width}
use Rattle.mini_model.specs.Position.{child_position}
use Rattle.mini_model.specs.Tree.{Tree, Trees, node, none, ◌▸◌, count, child_or_absent, shape_of, children, node_count, node_counts}
use Rattle.mini_node.specs.Children.{rest_children, with_child}
use Rattle.mini_node.specs.Lends.{with_children}
use Rattle.mini_node.proofs.Lists.{smaller}
use Rattle.mini_log.specs.Walk.{or_else, step_at, step_in, spot}
use Rattle.mini_checker.specs.Made.{Made, beyond, index_in, step_below}
use Rattle.mini_node.specs.Walks.{from_first, next_child, no_rest, with_same}

-- ---- past a child or in it

pub in_it : (b : Bool) (w i : ℕ) → None ≡ (if b then None else Some (i - w)) → b ≡ true
in_it true w i e = refl
in_it false w i e = absurd (none-some (i - w) e)

pub past_it : (b : Bool) (w i r : ℕ) → Some r ≡ (if b then None else Some (i - w)) → (b ≡ false) × (r ≡ i - w)
past_it true w i r e = absurd (none-some r (sym e))
past_it false w i r e = (refl, same_Some r (i - w) e)

-- ---- the child of an index

pub record Found (ts : Trees) (i at left : ℕ) : Type 0 where
  pub child : at + spot (rest_children at ts) left ≡ spot ts i
  pub index : index_in (rest_children at ts) left ≡ index_in ts i

zero_plus : (n : ℕ) → 0 + n ≡ n
zero_plus n = omega arith

pub begins : (ts : Trees) (i : ℕ) → Found ts i 0 i
begins ts i = record {
  child = zero_plus (spot (rest_children 0 ts) i) ∙ ap (λ us. spot us i) (from_first ts);
  index = ap (λ us. index_in us i) (from_first ts);
}

pub goes_on : (ts : Trees) (i at left r : ℕ) → at < count ts → Some r ≡ beyond (width (child_or_absent ts at)) left → Found ts i at left → Found ts i (at + 1) r
goes_on ts i at left r h e f =
    let (test, is) = past_it (nat_lt left (width (child_or_absent ts at))) (width (child_or_absent ts at)) left r e in
    let rest = next_child ts at h in
    let one = add-one at in
    record {
      child = (λ j. one j + spot (rest_children (one j) ts) (is j)) ∙ suc_out at (spot (rest_children (suc at) ts) (left - width (child_or_absent ts at)))
          ∙ sym (ap (λ b. at + (if b then 0 else suc (spot (rest_children (suc at) ts) (left - width (child_or_absent ts at))))) test) ∙ sym (ap (λ us. at + spot us left) rest) ∙ f.child;
      index = (λ j. index_in (rest_children (one j) ts) (is j))
          ∙ sym (ap (λ b. if b then left else index_in (rest_children (suc at) ts) (left - width (child_or_absent ts at))) test) ∙ sym (ap (λ us. index_in us left) rest) ∙ f.index;
    }
  where
    suc_out : (a b : ℕ) → suc a + b ≡ a + suc b
    suc_out a b = omega arith

pub halts_at : (ts : Trees) (i at left : ℕ) → at < count ts → None ≡ beyond (width (child_or_absent ts at)) left → Found ts i at left → at ≡ spot ts i
halts_at ts i at left h e f =
    let test = in_it (nat_lt left (width (child_or_absent ts at))) (width (child_or_absent ts at)) left e in
    plus_none at ∙ sym (ap (λ b. at + (if b then 0 else suc (spot (rest_children (suc at) ts) (left - width (child_or_absent ts at))))) test) ∙ sym (ap (λ us. at + spot us left) (next_child ts at h)) ∙ f.child
  where
    plus_none : (a : ℕ) → a ≡ a + 0
    plus_none a = omega arith

pub halts_left : (ts : Trees) (i at left : ℕ) → at < count ts → None ≡ beyond (width (child_or_absent ts at)) left → Found ts i at left → left ≡ index_in ts i
halts_left ts i at left h e f =
    let test = in_it (nat_lt left (width (child_or_absent ts at))) (width (child_or_absent ts at)) left e in
    sym (ap (λ b. if b then left else index_in (rest_children (suc at) ts) (left - width (child_or_absent ts at))) test) ∙ sym (ap (λ us. index_in us left) (next_child ts at h)) ∙ f.index

pub ends_at : (ts : Trees) (i at left : ℕ) → count ts ≤ at → Found ts i at left → at ≡ spot ts i
ends_at ts i at left h f = plus_none at ∙ sym (ap (λ us. at + spot us left) (no_rest ts at h)) ∙ f.child
  where
    plus_none : (a : ℕ) → a ≡ a + 0
    plus_none a = omega arith

pub ends_left : (ts : Trees) (i at left : ℕ) → count ts ≤ at → Found ts i at left → left ≡ index_in ts i
ends_left ts i at left h f = sym (ap (λ us. index_in us left) (no_rest ts at h)) ∙ f.index

-- ---- how many there are

count_append : (ts us : Trees) → count (append ts us) ≡ count ts + count us
count_append none us = sym (zero_plus (count us))
count_append (t ▸ ts) us = let e = count_append ts us in omega (arith, e)

no_node : (i : ℕ) → beyond 0 i ≡ Some i
no_node i = λ h. if test i h then None else Some (rest i h)
  where
    test : (i : ℕ) → nat_lt i 0 ≡ false
    test i = grind (arith, nat_tests)

    rest : (i : ℕ) → i - 0 ≡ i
    rest i = omega arith

among_by : (b : Bool) (w n i k m j : ℕ) → nat_lt i w ≡ b → beyond n (i - w) ≡ (if nat_lt k m then None else Some j) → beyond (w + n) i ≡ (if nat_lt (if b then 0 else suc k) (suc m) then None else Some (if b then i else j))
among_by true w n i k m j e d = here (nat_lt i (w + n)) (i - (w + n)) (within i w n (lt_of i w e)) ∙ sym (here (nat_lt 0 (suc m)) i (none_less m))
  where
    lt_of : (a b : ℕ) → nat_lt a b ≡ true → a < b
    lt_of a b e = grind (arith, nat_tests)

    within : (i w n : ℕ) → i < w → nat_lt i (w + n) ≡ true
    within i w n h = grind (arith, nat_tests)

    none_less : (n : ℕ) → nat_lt 0 (suc n) ≡ true
    none_less n = grind (arith, nat_tests)

    here : (b : Bool) (x : ℕ) → b ≡ true → (if b then None else Some x) ≡ None
    here true x e = refl
    here false x e = absurd (false≢true e)
among_by false w n i k m j e d = same (nat_lt i (w + n)) (nat_lt (i - w) n) (i - (w + n)) (i - w - n) (shift i w n (le_of i w e)) (omega arith) ∙ d ∙ ap (λ b. if b then None else Some j) (both_up k m)
  where
    both_up : (a b : ℕ) → nat_lt a b ≡ nat_lt (suc a) (suc b)
    both_up a b = grind (arith, nat_tests)

    le_of : (a b : ℕ) → nat_lt a b ≡ false → b ≤ a
    le_of a b e = grind (arith, nat_tests)

    shift : (i w n : ℕ) → w ≤ i → nat_lt i (w + n) ≡ nat_lt (i - w) n
    shift i w n h = grind (arith, nat_tests)

    same : (b c : Bool) (x y : ℕ) → b ≡ c → x ≡ y → (if b then None else Some x) ≡ (if c then None else Some y)
    same b c x y e d = λ h. if e h then None else Some (d h)

-- the index is among the nodes of the children exactly where a child holds it
pub among : (ts : Trees) (i : ℕ) → beyond (count (spread ts)) i ≡ (if nat_lt (spot ts i) (count ts) then None else Some (index_in ts i))
among none i = no_node i
among (t ▸ ts) i =
    ap (λ n. beyond n i) (count_append (stands_for t) (spread ts))
    ∙ among_by (nat_lt i (width t)) (width t) (count (spread ts)) i (spot ts (i - width t)) (count ts) (index_in ts (i - width t)) refl (among ts (i - width t))

pub none_among : (ts : Trees) (i : ℕ) → spot ts i < count ts → None ≡ beyond (count (spread ts)) i
none_among ts i h = sym (among ts i ∙ ap (λ b. if b then None else Some (index_in ts i)) (test (spot ts i) (count ts) h))
  where
    test : (a b : ℕ) → a < b → nat_lt a b ≡ true
    test a b h = grind (arith, nat_tests)

pub all_past : (ts : Trees) (i : ℕ) → count ts ≤ spot ts i → Some (index_in ts i) ≡ beyond (count (spread ts)) i
all_past ts i h = sym (among ts i ∙ ap (λ b. if b then None else Some (index_in ts i)) (test (spot ts i) (count ts) h))
  where
    test : (a b : ℕ) → b ≤ a → nat_lt a b ≡ false
    test a b h = grind (arith, nat_tests)

-- ---- a step in a child

abbrev pub further : Tree → ℕ → Path → Path
further t i q = by_standing (standing (shape_of t)) q (i ∷ q) (i ∷ q)

map_map : {A B C : Type 0} (f : A → B) (g : B → C) (o : Option A) → option_map g (option_map f o) ≡ option_map (λ x. g (f x)) o
map_map f g None = refl
map_map f g (Some x) = refl

in_child_by : (f : Position → Tree → Path → Option Tree) (π : ℕ → Position) (t : Tree) (ts : Trees) (i j k m : ℕ) (q : Path) (b : Bool) →
    (k < count ts → step_in f (λ l. π (suc l)) ts j q ≡ option_map (with_child ts k) (step_at f (π (suc k)) (child_or_absent ts k) (further (child_or_absent ts k) m q))) →
    (if b then 0 else suc k) < suc (count ts) →
    (if b then option_map (λ u. u ▸ ts) (step_at f (π zero) t (further t i q)) else option_map (λ us. t ▸ us) (step_in f (λ l. π (suc l)) ts j q))
    ≡ option_map (with_child (t ▸ ts) (if b then 0 else suc k))
    (step_at f (π (if b then 0 else suc k)) (child_or_absent (t ▸ ts) (if b then 0 else suc k)) (further (child_or_absent (t ▸ ts) (if b then 0 else suc k)) (if b then i else m) q))
in_child_by f π t ts i j k m q true later h = refl
in_child_by f π t ts i j k m q false later h =
    ap (option_map (λ us. t ▸ us)) (later (omega (arith, h)))
    ∙ map_map (with_child ts k) (λ us. t ▸ us) (step_at f (π (suc k)) (child_or_absent ts k) (further (child_or_absent ts k) m q))

in_child : (f : Position → Tree → Path → Option Tree) (π : ℕ → Position) (ts : Trees) (i : ℕ) (q : Path) → spot ts i < count ts →
    step_in f π ts i q ≡ option_map (with_child ts (spot ts i)) (step_at f (π (spot ts i)) (child_or_absent ts (spot ts i)) (further (child_or_absent ts (spot ts i)) (index_in ts i) q))
in_child f π none i q h = absurd (omega (arith, h))
in_child f π (t ▸ ts) i q h =
    in_child_by f π t ts i (i - width t) (spot ts (i - width t)) (index_in ts (i - width t)) q (nat_lt i (width t)) (λ l. in_child f (λ j. π (suc j)) ts (i - width t) q l) h

no_child_by : (t : Tree) (ts : Trees) (k : ℕ) (o : Option Tree) (os : Option Trees) (b : Bool) → (count ts ≤ k → os ≡ None) → suc (count ts) ≤ (if b then 0 else suc k) →
    (if b then option_map (λ u. u ▸ ts) o else option_map (λ us. t ▸ us) os) ≡ None
no_child_by t ts k o os true later h = absurd (omega (arith, h))
no_child_by t ts k o os false later h = ap (option_map (λ us. t ▸ us)) (later (omega (arith, h)))

no_child : (f : Position → Tree → Path → Option Tree) (π : ℕ → Position) (ts : Trees) (i : ℕ) (q : Path) → count ts ≤ spot ts i → step_in f π ts i q ≡ None
no_child f π none i q h = refl
no_child f π (t ▸ ts) i q h =
    no_child_by t ts (spot ts (i - width t)) (step_at f (π zero) t (further t i q)) (step_in f (λ j. π (suc j)) ts (i - width t) q) (nat_lt i (width t)) (λ l. no_child f (λ j. π (suc j)) ts (i - width t) q l) h

raised : (h : Tree) (ts : Trees) (k : ℕ) (o : Option Tree) (u : Tree) (b : Bool) → ts ≡ children h → Made o (child_or_absent ts k) u b →
    Made (option_map (λ v. with_children h (with_child ts k v)) o) h (with_children h (with_child ts k u)) b
raised (node h xs n us) ts k None u b e m = record {
  said = m.said;
  tree = ap (λ v. node h xs n (with_child ts k v)) m.tree ∙ ap (node h xs n) (with_same ts k ∙ e);
}
raised h ts k (Some v) u b e m = record {
  said = m.said;
  tree = ap (λ v. with_children h (with_child ts k v)) m.tree;
}

-- what is made of the child of the index, on the rest of the path, is made of the node on the whole
pub step_in_child : (f : Position → Tree → Path → Option Tree) (p : Position) (t : Tree) (i : ℕ) (q : Path) (k j : ℕ) (r : Path) (u : Tree) (b : Bool) →
    k ≡ spot (children t) i → j ≡ index_in (children t) i → k < count (children t) → r ≡ further (child_or_absent (children t) k) j q →
    Made (step_at f (child_position (shape_of t) p (count (children t)) k) (child_or_absent (children t) k) r) (child_or_absent (children t) k) u b →
    Made (step_below f p t i q) t (with_children t (with_child (children t) k u)) b
step_in_child f p (node h xs n ts) i q k j r u b at index inside way m =
    subst (λ o. Made o (node h xs n ts) (node h xs n (with_child ts k u)) b) (sym whole)
    (raised (node h xs n ts) ts k (step_at f (child_position h p (count ts) k) (child_or_absent ts k) r) u b refl m)
  where
    same : option_map (with_child ts k) (step_at f (child_position h p (count ts) k) (child_or_absent ts k) r)
        ≡ option_map (with_child ts (spot ts i)) (step_at f (child_position h p (count ts) (spot ts i)) (child_or_absent ts (spot ts i)) (further (child_or_absent ts (spot ts i)) (index_in ts i) q))
    same = ap (λ w. option_map (with_child ts k) (step_at f (child_position h p (count ts) k) (child_or_absent ts k) w)) way
        ∙ (λ e. option_map (with_child ts (at e)) (step_at f (child_position h p (count ts) (at e)) (child_or_absent ts (at e)) (further (child_or_absent ts (at e)) (index e) q)))

    whole : step_below f p (node h xs n ts) i q ≡ option_map (λ v. node h xs n (with_child ts k v)) (step_at f (child_position h p (count ts) k) (child_or_absent ts k) r)
    whole = ap (option_map (node h xs n)) (in_child f (child_position h p (count ts)) ts i q (subst (λ m. m < count ts) at inside) ∙ sym same) ∙ map_map (with_child ts k) (node h xs n) (step_at f (child_position h p (count ts) k) (child_or_absent ts k) r)

pub no_step : (f : Position → Tree → Path → Option Tree) (p : Position) (t : Tree) (i : ℕ) (q : Path) (k : ℕ) → k ≡ spot (children t) i → count (children t) ≤ k → Made (step_below f p t i q) t t false
no_step f p (node h xs n ts) i q k at past =
    let nothing = ap (option_map (node h xs n)) (no_child f (child_position h p (count ts)) ts i q (subst (λ m. count ts ≤ m) at past)) in
    subst (λ o. Made o (node h xs n ts) (node h xs n ts) false) (sym nothing) (record { said = refl; tree = refl })

-- whether the path goes on after this child, or with an index in it
pub goes_past : (t : Tree) (j : ℕ) (q : Path) → is_node t ≡ true → q ≡ further t j q
goes_past (node h xs n ts) j q e = by (standing h) e
  where
    by : (s : Standing) → by_standing s true false false ≡ true → q ≡ by_standing s q (j ∷ q) (j ∷ q)
    by Node e = refl
    by Holder e = absurd (false≢true e)
    by Missing e = absurd (false≢true e)

pub goes_into : (t : Tree) (j : ℕ) (q : Path) → is_node t ≡ false → j ∷ q ≡ further t j q
goes_into (node h xs n ts) j q e = by (standing h) e
  where
    by : (s : Standing) → by_standing s true false false ≡ false → j ∷ q ≡ by_standing s q (j ∷ q) (j ∷ q)
    by Node e = absurd (false≢true (sym e))
    by Holder e = refl
    by Missing e = refl

pub child_smaller : (t : Tree) (ts : Trees) (c : Tree) (k : ℕ) → ts ≡ children t → c ≡ child_or_absent ts k → k < count ts → node_count c < node_count t
child_smaller (node h xs n us) ts c k e d inside =
    let less : node_count (child_or_absent ts k) ≤ node_counts ts = smaller ts k inside in
    let same : node_counts ts ≡ node_counts us = ap node_counts e in
    let is : node_count c ≡ node_count (child_or_absent ts k) = ap node_count d in
    omega (arith, less, same, is)

-- a path that ends here, and one that goes on: the node itself comes first
pub ended : (f : Position → Tree → Path → Option Tree) (p : Position) (t u : Tree) (b : Bool) → Made (f p t []) t u b → Made (step_at f p t []) t u b
ended f p (node h xs n ts) u b m = m

pub here_first : (f : Position → Tree → Path → Option Tree) (p : Position) (t u : Tree) (i : ℕ) (q : Path) → Made (f p t (i ∷ q)) t u true → Made (step_at f p t (i ∷ q)) t u true
here_first f p (node h xs n ts) u i q m = by (f p (node h xs n ts) (i ∷ q)) m
  where
    by : (o : Option Tree) → Made o (node h xs n ts) u true → Made (or_else o (step_below f p (node h xs n ts) i q)) (node h xs n ts) u true
    by None m = absurd (false≢true (sym m.said))
    by (Some v) m = m

pub below_next : (f : Position → Tree → Path → Option Tree) (p : Position) (t s u : Tree) (i : ℕ) (q : Path) (b : Bool) → Made (f p t (i ∷ q)) t s false → Made (step_below f p s i q) s u b → Made (step_at f p t (i ∷ q)) t u b
below_next f p (node h xs n ts) s u i q b m k = by (f p (node h xs n ts) (i ∷ q)) m
  where
    by : (o : Option Tree) → Made o (node h xs n ts) s false → Made (or_else o (step_below f p (node h xs n ts) i q)) (node h xs n ts) u b
    by None m = subst (λ r. Made (step_below f p r i q) r u b) m.tree k
    by (Some v) m = absurd (false≢true m.said)

pub as_large : (f : Position → Tree → Path → Option Tree) (p : Position) (t s : Tree) (q : Path) → Made (f p t q) t s false → s ≡ t
as_large f p t s q m = by (f p t q) m
  where
    by : (o : Option Tree) → Made o t s false → s ≡ t
    by None m = m.tree
    by (Some v) m = absurd (false≢true m.said)

-- a step in the child that code has found
pub below : (f : Position → Tree → Path → Option Tree) (p : Position) (t : Tree) (i : ℕ) (q : Path) (k j n : ℕ) (h : Shape) (s : Position) (us ts : Trees) (c u : Tree) (r : Path) (b : Bool) →
    us ≡ children t → k ≡ spot us i → j ≡ index_in us i → ts ≡ children t → c ≡ child_or_absent ts k → n ≡ count (children t) → h ≡ shape_of t → s ≡ child_position h p n k → k < n → r ≡ further c j q →
    Made (step_at f s c r) c u b → Made (step_below f p t i q) t (with_children t (with_child ts k u)) b
below f p t i q k j n h s us ts c u r b all at index list child counted shape stands inside way m =
    let place : s ≡ child_position (shape_of t) p (count (children t)) k = stands ∙ (λ e. child_position (shape e) p (counted e) k) in
    let there : c ≡ child_or_absent (children t) k = child ∙ ap (λ vs. child_or_absent vs k) list in
    let first : Made (step_at f (child_position (shape_of t) p (count (children t)) k) c r) c u b = subst (λ x. Made (step_at f x c r) c u b) place m in
    let second : Made (step_at f (child_position (shape_of t) p (count (children t)) k) (child_or_absent (children t) k) r) (child_or_absent (children t) k) u b = subst (λ x. Made (step_at f (child_position (shape_of t) p (count (children t)) k) x r) x u b) there first in
    let whole : Made (step_below f p t i q) t (with_children t (with_child (children t) k u)) b =
    step_in_child f p t i q k j r u b (at ∙ ap (λ vs. spot vs i) all) (index ∙ ap (λ vs. index_in vs i) all) (subst (λ m. k < m) counted inside) (way ∙ ap (λ x. further x j q) there) second in
    subst (λ vs. Made (step_below f p t i q) t (with_children t (with_child vs k u)) b) (sym list) whole

pub no_index : (q : Path) → 0 ≡ length q → q ≡ []
no_index [] e = refl
no_index (i ∷ q) e = absurd (omega (arith, e))
