-- The places that a walk over declarators and statements gives to symbols.
use Rattle.std.proofs.Common.{◌≡◌, ℕ, zero, suc, ◌<◌, ◌≤◌, Bool, true, false, List, [], ◌∷◌, refl, sym, ap, subst, ◌∙◌, true≢false, arith}
use Rattle.std.specs.Prelude.{◌&&◌, ◌||◌, not, cond, nat_eq, nat_le, Option, Some, None, IfSome, Result, Ok, Err, OnOk}
use Rattle.std.specs.BTreeMap.{IsEmpty, Updates, get}
use Rattle.std.specs.Cmp.{unsigned_ties}
use Rattle.std.specs.Map.{lookup}
use Rattle.std.specs.Ordering.{nat_cmp, is_eq}
use Rattle.std.proofs.lemmas.Bool.{and_parts, le-leb, leb-true, leb-false, lt-leb, eqb-true}
use Rattle.std.proofs.Math.Dec.{leb-suc-suc}
use Rattle.mini_model.specs.declared.name.Name.{Name}
use Rattle.mini_model.specs.declared.shape.Shape.TheVariants as shape
use Rattle.mini_model.specs.Tree.{Tree, Trees, node, none, ◌▸◌, count, child_or_absent, children, shape_of}
use Rattle.mini_node.specs.Children.{first_children, names_of, part}
use Rattle.mini_node.specs.Walks.{all_first}
use Rattle.mini_rows.specs.Past.{is_binding, has_symbol, is_symbol, is_only_symbol, is_name, is_let_name, binds, any_bind, all_of, spares, lets_here, lets_at_most, is_let}
use Rattle.mini_rows.specs.Unused.{is_declarator, is_childless, declares_list}
use Rattle.mini_rows.specs.Inside.{is_lexical_shape}
use Rattle.mini_unused.specs.RemoveUnusedDeclaration as listing
use Rattle.mini_past.proofs.Firsts.{lexical_is}
use Rattle.mini_past.specs.declared.let_places.FirstPlaces.{FirstPlaces}
use Rattle.mini_past.specs.declared.let_places.LetPlaces.{LetPlaces}
use Rattle.mini_past.specs.LetPlaces.{Places, is_within, reaches, Marked, Placed, passes_here, passes_there, is_single, is_plain_name, is_plain, Tells, Nowhere, Told, ToldFirst}

-- ---- of booleans

or_false : (b : Bool) → (b || false) ≡ b
or_false true = refl
or_false false = refl

or_true : (b : Bool) → (b || true) ≡ true
or_true true = refl
or_true false = refl

and_true : (b : Bool) → (b && true) ≡ b
and_true true = refl
and_true false = refl

joined : (a p q d : Bool) → ((a || (p && d)) || (q && d)) ≡ (a || ((p || q) && d))
joined true p q d = refl
joined false true true true = refl
joined false true true false = refl
joined false true false true = refl
joined false true false false = refl
joined false false q d = refl

not_both : (a b : Bool) → not (a && b) ≡ (not a || not b)
not_both true b = refl
not_both false b = refl

not_not : (b : Bool) → not (not b) ≡ b
not_not true = refl
not_not false = refl

-- ---- one symbol

pub reaches_at : (m : Places) (k w : ℕ) (o : Option ℕ) → o ≡ get nat_cmp m k → is_within o w ≡ reaches m k w
unfolding reaches
reaches_at m k w o e = ap (λ x. is_within x w) e

within_grows : (o : Option ℕ) (i w : ℕ) → is_within o i ≡ true → nat_le i w ≡ true → is_within o w ≡ true
within_grows (Some p) i w e f = let a = leb-true p i e in let b = leb-true i w f in le-leb p w (omega (arith, a, b))
within_grows None i w e f = absurd (true≢false (sym e))

reaches_grows : (m : Places) (k i w : ℕ) → reaches m k i ≡ true → nat_le i w ≡ true → reaches m k w ≡ true
unfolding reaches
reaches_grows m k i w = within_grows (get nat_cmp m k) i w

pub marked_kept : (m : Places) (s i : ℕ) → reaches m s i ≡ true → Marked (nat_eq s) i m m
marked_kept m s i e k w = by (nat_eq s k) refl (nat_le i w) refl
  where
    by : (c : Bool) → nat_eq s k ≡ c → (d : Bool) → nat_le i w ≡ d → reaches m k w ≡ (reaches m k w || (c && d))
    by true f true g =
        let there = reaches_grows m k i w (subst (λ j. reaches m j i ≡ true) (eqb-true s k f) e) g in
        there ∙ sym (or_true (reaches m k w))
    by true f false g = sym (or_false (reaches m k w))
    by false f d g = sym (or_false (reaches m k w))

opened : (n : Places) (k w : ℕ) (o : Option ℕ) → get nat_cmp n k ≡ o → reaches n k w ≡ is_within o w
unfolding reaches
opened n k w o e = ap (λ x. is_within x w) e

pub marked_put : (m n : Places) (s i : ℕ) → Updates nat_cmp m n s (Some i) → reaches m s i ≡ false → Marked (nat_eq s) i m n
marked_put m n s i h e k w = by (nat_eq s k) refl
  where
    later : s ≡ k → (d : Bool) → nat_le i w ≡ d → (b : Bool) → reaches m k w ≡ b → d ≡ (b || d)
    later f true g b r = sym (or_true b)
    later f false g false r = refl
    later f false g true r =
        let less = leb-false i w g in
        let there = reaches_grows m k w i r (le-leb w i (omega (arith, less))) in
        absurd (true≢false (sym there ∙ subst (λ j. reaches m j i ≡ false) f e))

    by : (c : Bool) → nat_eq s k ≡ c → reaches n k w ≡ (reaches m k w || (c && nat_le i w))
    by true f =
        let there = h.0 k ∙ ap (λ b. cond b (Some i) (get nat_cmp m k)) (sym (unsigned_ties s k) ∙ f) in
        opened n k w (Some i) there ∙ later (eqb-true s k f) (nat_le i w) refl (reaches m k w) refl
    by false f =
        let there = h.0 k ∙ ap (λ b. cond b (Some i) (get nat_cmp m k)) (sym (unsigned_ties s k) ∙ f) in
        opened n k w (get nat_cmp m k) there ∙ sym (opened m k w (get nat_cmp m k) refl) ∙ sym (or_false (reaches m k w))

-- ---- several

pub marked_by : (p q : ℕ → Bool) (i : ℕ) (m n : Places) → ((k : ℕ) → p k ≡ q k) → Marked p i m n → Marked q i m n
marked_by p q i m n e h k w = h k w ∙ ap (λ b. reaches m k w || (b && nat_le i w)) (e k)

pub marked_none : (p : ℕ → Bool) (i : ℕ) (m : Places) → ((k : ℕ) → p k ≡ false) → Marked p i m m
marked_none p i m e k w = sym (ap (λ b. reaches m k w || (b && nat_le i w)) (e k) ∙ or_false (reaches m k w))

pub marked_both : (p q r : ℕ → Bool) (i : ℕ) (m n o : Places) → ((k : ℕ) → r k ≡ (p k || q k)) → Marked p i m n → Marked q i n o → Marked r i m o
marked_both p q r i m n o e g h k w =
    h k w ∙ ap (λ b. b || (q k && nat_le i w)) (g k w) ∙ joined (reaches m k w) (p k) (q k) (nat_le i w)
    ∙ ap (λ b. reaches m k w || (b && nat_le i w)) (sym (e k))

-- what an answer tells, told otherwise
pub on_ok : {A B P Q : Type 0} → (r : Result A B) → (P → Q) → OnOk r P → OnOk r Q
on_ok (Ok x) f h = f h
on_ok (Err e) f h = h

-- ---- what a node declares

own_by : (h : Tree) (xs : List Name) (b : Bool) (k : ℕ) → xs ≡ names_of h → is_binding (shape_of h) ≡ b → (is_binding (shape_of h) && has_symbol k (names_of h)) ≡ (b && has_symbol k xs)
own_by h xs b k e f i = f i && has_symbol k (sym e i)

pub own_none : (t : Tree) (k : ℕ) → is_binding (shape_of t) ≡ false → (is_binding (shape_of t) && has_symbol k (names_of t)) ≡ false
own_none t k f = ap (λ b. b && has_symbol k (names_of t)) f

pub own_nameless : (t : Tree) (k : ℕ) → [] ≡ names_of t → (is_binding (shape_of t) && has_symbol k (names_of t)) ≡ false
own_nameless t k e = by (is_binding (shape_of t)) ∙ refl
  where
    none_there : (b : Bool) → (b && has_symbol k []) ≡ false
    none_there true = refl
    none_there false = refl

    by : (b : Bool) → (b && has_symbol k (names_of t)) ≡ false
    by b = ap (λ xs. b && has_symbol k xs) (sym e) ∙ none_there b

pub own_symbol : (t : Tree) (x : Name) (k : ℕ) → x ∷ [] ≡ names_of t → is_binding (shape_of t) ≡ true → (is_binding (shape_of t) && has_symbol k (names_of t)) ≡ is_symbol k x.symbol
own_symbol t x k e f = own_by t (x ∷ []) true k e f ∙ or_false (is_symbol k x.symbol)

pub whole : (t : Tree) (k : ℕ) → binds k t ≡ ((is_binding (shape_of t) && has_symbol k (names_of t)) || any_bind k (children t))
whole (node h xs n ts) k = refl

pub spared : (k : ℕ) (ts : Trees) → any_bind k ts ≡ not (all_of (spares k) ts)
spared k none = refl
spared k (t ▸ ts) = by (binds k t) (spared k ts)
  where
    by : (b : Bool) → any_bind k ts ≡ not (all_of (spares k) ts) → (b || any_bind k ts) ≡ not (not b && all_of (spares k) ts)
    by true e = refl
    by false e = e

-- ---- one child after another

pub none_first : (p : Tree → Bool) (ts : Trees) → not (all_of p (first_children 0 ts)) ≡ false
none_first p none = refl
none_first p (t ▸ ts) = refl

more_all : (p : Tree → Bool) (ts : Trees) (i : ℕ) → i < count ts → all_of p (first_children (suc i) ts) ≡ (all_of p (first_children i ts) && p (child_or_absent ts i))
more_all p none i h = absurd (omega (arith, h))
more_all p (t ▸ none) zero h = and_true (p t)
more_all p (t ▸ (u ▸ ts)) zero h = and_true (p t)
more_all p (t ▸ ts) (suc i) h = by (p t) (more_all p ts i (omega (arith, h)))
  where
    by : (b : Bool) → all_of p (first_children (suc i) ts) ≡ (all_of p (first_children i ts) && p (child_or_absent ts i)) → (b && all_of p (first_children (suc i) ts)) ≡ ((b && all_of p (first_children i ts)) && p (child_or_absent ts i))
    by true e = e
    by false e = refl

pub more_first : (p : Tree → Bool) (ts : Trees) (i j : ℕ) (t : Tree) → j ≡ suc i → i < count ts → t ≡ child_or_absent ts i → not (all_of p (first_children j ts)) ≡ (not (all_of p (first_children i ts)) || not (p t))
more_first p ts i j t f h e =
    ap (λ k. not (all_of p (first_children k ts))) f ∙ ap not (more_all p ts i h) ∙ not_both (all_of p (first_children i ts)) (p (child_or_absent ts i))
    ∙ ap (λ u. not (all_of p (first_children i ts)) || not (p u)) (sym e)

pub all_there : (p : Tree → Bool) (ts : Trees) (i : ℕ) → count ts ≤ i → not (all_of p (first_children i ts)) ≡ not (all_of p ts)
all_there p ts i h = ap (λ us. not (all_of p us)) (all_first ts i h)

-- each at its place
more_placed : (p : Tree → Bool) (ts : Trees) (i w : ℕ) → i < count ts → all_of p (first_children w (first_children (suc i) ts)) ≡ (all_of p (first_children w (first_children i ts)) && (p (child_or_absent ts i) || not (nat_le (suc i) w)))
more_placed p none i w h = absurd (omega (arith, h))
more_placed p (t ▸ none) zero zero h = sym (ap (λ b. p t || not b) (lt-leb 1 0 (omega arith)) ∙ or_true (p t))
more_placed p (t ▸ (u ▸ ts)) zero zero h = sym (ap (λ b. p t || not b) (lt-leb 1 0 (omega arith)) ∙ or_true (p t))
more_placed p (t ▸ none) zero (suc w) h = and_true (p t) ∙ sym (ap (λ b. p t || not b) (le-leb 1 (suc w) (omega arith)) ∙ or_false (p t))
more_placed p (t ▸ (u ▸ ts)) zero (suc w) h = at_none (first_children w none) (no_first w) ∙ sym (ap (λ b. p t || not b) (le-leb 1 (suc w) (omega arith)) ∙ or_false (p t))
  where
    no_first : (w : ℕ) → first_children w none ≡ none
    no_first w = refl

    at_none : (us : Trees) → us ≡ none → (p t && all_of p us) ≡ p t
    at_none us e = ap (λ vs. p t && all_of p vs) e ∙ and_true (p t)
more_placed p (t ▸ ts) (suc i) zero h =
    let c = p (child_or_absent ts i) in
    sym (ap (λ b. c || not b) (lt-leb (suc (suc i)) 0 (omega arith)) ∙ or_true c)
more_placed p (t ▸ ts) (suc i) (suc w) h = by (p t) (more_placed p ts i w (omega (arith, h)))
  where
    by : (b : Bool) → all_of p (first_children w (first_children (suc i) ts)) ≡ (all_of p (first_children w (first_children i ts)) && (p (child_or_absent ts i) || not (nat_le (suc i) w))) → (b && all_of p (first_children w (first_children (suc i) ts))) ≡ ((b && all_of p (first_children w (first_children i ts))) && (p (child_or_absent ts i) || not (nat_le (suc (suc i)) (suc w))))
    by true e = e ∙ ap (λ b. all_of p (first_children w (first_children i ts)) && (p (child_or_absent ts i) || not b)) (sym (leb-suc-suc (suc i) w))
    by false e = refl

empty : (e : Places) (k w : ℕ) → IsEmpty e → reaches e k w ≡ false
unfolding reaches
empty e k w z = ap (λ es. is_within (lookup (λ q. is_eq (nat_cmp k q)) es) w) z

module _ (by_let is_lexical : Bool) (ds : Trees) where
  pub placed_none : (m : Places) → Placed by_let is_lexical ds 0 m m
  placed_none m k w = sym (ap (λ us. reaches m k w || not (all_of (passes_there by_let is_lexical k) (first_children w us))) (start ds) ∙ or_false (reaches m k w))
    where
      start : (ts : Trees) → first_children 0 ts ≡ none
      start none = refl
      start (t ▸ ts) = refl

  pub placed_on : (m n o : Places) (i j : ℕ) (d : Tree) → j ≡ suc i → i < count ds → d ≡ child_or_absent ds i → Placed by_let is_lexical ds i m n → Marked (λ k. not (passes_there by_let is_lexical k d)) j n o → Placed by_let is_lexical ds j m o
  placed_on m n o i j d f h e g l k w =
      let p = passes_there by_let is_lexical k in
      let before = all_of p (first_children w (first_children i ds)) in
      l k w ∙ ap (λ b. b || (not (p d) && nat_le j w)) (g k w) ∙ spread (reaches m k w) before (p d) (nat_le j w)
      ∙ (λ x. reaches m k w || not (before && (p (e x) || not (nat_le (f x) w))))
      ∙ ap (λ b. reaches m k w || not b) (sym (more_placed p ds i w h))
      ∙ ap (λ a. reaches m k w || not (all_of p (first_children w (first_children a ds)))) (sym f)
    where
      spread : (a b c d : Bool) → ((a || not b) || (not c && d)) ≡ (a || not (b && (c || not d)))
      spread true b c d = refl
      spread false false c d = refl
      spread false true true d = refl
      spread false true false true = refl
      spread false true false false = refl

  pub placed_all : (before : Trees) (e m n : Places) → IsEmpty e → Marked (λ k. not (all_of (passes_here by_let k) before)) 0 e m → Placed by_let is_lexical ds (count ds) m n → Tells by_let is_lexical n before ds (count ds)
  placed_all before e m n z h g k w l =
      let here = all_of (passes_here by_let k) before in
      let there = passes_there by_let is_lexical k in
      g k w ∙ ap (λ b. b || not (all_of there (first_children w (first_children (count ds) ds)))) (h k w)
      ∙ (λ x. (empty e k w z x || (not here && le-leb 0 w (omega arith) x)) || not (all_of there (first_children w (all_first ds (count ds) (omega arith) x))))
      ∙ ap (λ b. b || not (all_of there (first_children w ds))) (and_true (not here))
      ∙ sym (not_both here (all_of there (first_children w ds)))

-- ---- declarators and statements

single_by : (k : ℕ) (xs : List Name) → is_single xs ≡ false → is_only_symbol k xs ≡ false
single_by k [] e = refl
single_by k (x ∷ []) e = absurd (true≢false e)
single_by k (x ∷ (y ∷ xs)) e = refl

single_same : (k : ℕ) (xs : List Name) → is_single xs ≡ true → has_symbol k xs ≡ is_only_symbol k xs
single_same k [] e = absurd (true≢false (sym e))
single_same k (x ∷ []) e = or_false (is_symbol k x.symbol)
single_same k (x ∷ (y ∷ xs)) e = absurd (true≢false (sym e))

not_plain_name : (k : ℕ) (t : Tree) → is_plain_name t ≡ false → is_name k t ≡ false
not_plain_name k t e = by (is_binding (shape_of t)) (is_single (names_of t)) refl e
  where
    by : (a b : Bool) → is_single (names_of t) ≡ b → (a && (b && is_childless t)) ≡ false → (a && (is_only_symbol k (names_of t) && is_childless t)) ≡ false
    by false b f g = refl
    by true false f g = ap (λ c. c && is_childless t) (single_by k (names_of t) f)
    by true true f g = ap (λ c. is_only_symbol k (names_of t) && c) g ∙ none_so (is_only_symbol k (names_of t))
      where
        none_so : (b : Bool) → (b && false) ≡ false
        none_so true = refl
        none_so false = refl

plain_name : (k : ℕ) (t : Tree) → is_plain_name t ≡ true → binds k t ≡ is_name k t
plain_name k (node h xs n none) e = by (is_binding h) (is_single xs) refl e
  where
    by : (a b : Bool) → is_single xs ≡ b → (a && (b && true)) ≡ true → ((a && has_symbol k xs) || false) ≡ (a && (is_only_symbol k xs && true))
    by false b f g = absurd (true≢false (sym g))
    by true false f g = absurd (true≢false (sym g))
    by true true f g = or_false (has_symbol k xs) ∙ single_same k xs f ∙ sym (and_true (is_only_symbol k xs))
plain_name k (node h xs n (t ▸ ts)) e = absurd (by (is_binding h) (is_single xs) e)
  where
    by : (a b : Bool) → (a && (b && false)) ≡ true → ⊥
    by false b g = true≢false (sym g)
    by true false g = true≢false (sym g)
    by true true g = true≢false (sym g)

-- of `y = v` in a `let` or a `const` those of v
module _ (k : ℕ) where
  two_parts : (d : Tree) → is_declarator d ≡ true → binds k d ≡ (binds k (part d 0) || binds k (part d 1))
  two_parts (node shape.VariableDeclarator [] zero (a ▸ (b ▸ none))) e = ap (λ c. binds k a || c) (or_false (binds k b))
  two_parts (node h xs n ts) e = absurd (cc e)

  pub hidden_plain : (is_lexical : Bool) (d v : Tree) → is_lexical ≡ true → is_plain d ≡ true → v ≡ part d 1 → binds k v ≡ not (lets_at_most is_lexical k d)
  hidden_plain is_lexical d v e f g =
      let (declares, plain) = and_parts (is_declarator d) (is_plain_name (part d 0)) f in
      let name = is_name k (part d 0) in
      let value = binds k (part d 1) in
      ap (binds k) g ∙ by name value
      ∙ sym (λ i. not (not ((two_parts d declares ∙ ap (λ b. b || value) (plain_name k (part d 0) plain)) i) || (e i && (declares i && (name && not value)))))
    where
      by : (a b : Bool) → b ≡ not (not (a || b) || (true && (true && (a && not b))))
      by true true = refl
      by true false = refl
      by false true = refl
      by false false = refl

  unlet : (is_lexical : Bool) (d : Tree) → (is_lexical && is_plain d) ≡ false → (is_lexical && is_let_name k d) ≡ false
  unlet false d e = refl
  unlet true d e = by (is_declarator d) (is_plain_name (part d 0)) refl e
    where
      by : (a b : Bool) → is_plain_name (part d 0) ≡ b → (a && b) ≡ false → (a && (is_name k (part d 0) && not (binds k (part d 1)))) ≡ false
      by false b f g = refl
      by true true f g = absurd (true≢false g)
      by true false f g = ap (λ c. c && not (binds k (part d 1))) (not_plain_name k (part d 0) f)

  pub hidden_otherwise : (is_lexical : Bool) (d : Tree) → (is_lexical && is_plain d) ≡ false → binds k d ≡ not (lets_at_most is_lexical k d)
  hidden_otherwise is_lexical d e =
      sym (ap (λ b. not (not (binds k d) || b)) (unlet is_lexical d e) ∙ ap not (or_false (not (binds k d))) ∙ not_not (binds k d))

  -- of a declaration those of its declarators
  unbound_all : (is_lexical : Bool) (ds : Trees) → any_bind k ds ≡ false → all_of (lets_at_most is_lexical k) ds ≡ true
  unbound_all is_lexical none e = refl
  unbound_all is_lexical (d ▸ ds) e = by (binds k d) e (unbound_all is_lexical ds)
    where
      by : (b : Bool) → (b || any_bind k ds) ≡ false → (any_bind k ds ≡ false → all_of (lets_at_most is_lexical k) ds ≡ true) → ((not b || (is_lexical && is_let_name k d)) && all_of (lets_at_most is_lexical k) ds) ≡ true
      by true e f = absurd (true≢false e)
      by false e f = f e

  pub any_below : (t : Tree) → binds k t ≡ false → any_bind k (children t) ≡ false
  any_below (node h xs n ts) e = by (is_binding h && has_symbol k xs) e
    where
      by : (b : Bool) → (b || any_bind k ts) ≡ false → any_bind k ts ≡ false
      by true f = absurd (true≢false f)
      by false f = f

  first_below : (ts : Trees) → any_bind k ts ≡ false → binds k (child_or_absent ts 0) ≡ false
  first_below none e = refl
  first_below (t ▸ ts) e = by (binds k t) e
    where
      by : (b : Bool) → (b || any_bind k ts) ≡ false → b ≡ false
      by true f = f
      by false f = refl

  below_list : (t : Tree) → binds k t ≡ false → any_bind k (children (part t 0)) ≡ false
  below_list t f = any_below (part t 0) (first_below (children t) (any_below t f))

  pub here_listed : (t l : Tree) (is_lexical : Bool) (ds : Trees) → declares_list t ≡ true → is_lexical ≡ listing.is_lexical_shape (shape_of t) → l ≡ part t 0 → ds ≡ children l → not (all_of (lets_at_most is_lexical k) ds) ≡ not (lets_here k t)
  here_listed t l is_lexical ds d e f g =
      let there : ds ≡ children (part t 0) = g ∙ ap children f in
      let own = all_of (lets_at_most (is_lexical_shape (shape_of t)) k) (children (part t 0)) in
      ap not ((λ j. all_of (lets_at_most ((e ∙ sym (lexical_is (shape_of t))) j) k) (there j)) ∙ by (binds k t) refl ∙ sym (λ j. not (binds k t) || (d j && own)))
    where
      by : (b : Bool) → binds k t ≡ b → all_of (lets_at_most (is_lexical_shape (shape_of t)) k) (children (part t 0)) ≡ (not b || (true && all_of (lets_at_most (is_lexical_shape (shape_of t)) k) (children (part t 0))))
      by true e = refl
      by false e = unbound_all (is_lexical_shape (shape_of t)) (children (part t 0)) (below_list t e)

  pub here_unlisted : (t : Tree) → declares_list t ≡ false → binds k t ≡ not (lets_here k t)
  here_unlisted t d =
      sym (ap (λ b. not (not (binds k t) || (b && all_of (lets_at_most (is_lexical_shape (shape_of t)) k) (children (part t 0))))) d ∙ ap not (or_false (not (binds k t))) ∙ not_not (binds k t))

pub bound_there : (k : ℕ) (t : Tree) → binds k t ≡ not (spares k t)
bound_there k t = sym (not_not (binds k t))

-- ---- what the places tell

pub all_told : (e m : Places) (ts : Trees) → IsEmpty e → Marked (λ k. any_bind k ts) 0 e m → Nowhere m ts
all_told e m ts z h k n = by (any_bind k ts) (sym n ∙ h k 0 ∙ (λ x. empty e k 0 z x || (any_bind k ts && le-leb 0 0 (omega arith) x)))
  where
    by : (b : Bool) → false ≡ (false || (b && true)) → b ≡ false
    by true f = sym f
    by false f = refl

pub let_told : (first : FirstPlaces) (ts ds : Trees) (i j s : ℕ) → ToldFirst first ts i ds j → (reaches first.bound s j && not (reaches first.hidden s j)) ≡ is_let s (first_children i ts) (listing.is_free_at ts i) (first_children j ds)
let_told first ts ds i j s t =
    let free = listing.is_free_at ts i in
    let here = first_children i ts in
    let there = first_children j ds in
    let same : j ≤ j = omega arith in
    (λ x. t.bound s j same x && not (t.hidden s j same x))
    ∙ ap (λ b. not (all_of (spares s) here && all_of (spares s) there) && b) (not_not (all_of (lets_here s) here && all_of (lets_at_most free s) there))

pub first_told : (lets : LetPlaces) (ts ds : Trees) (i j : ℕ) → Told lets ts i ds j → IfSome lets.first (λ f. ToldFirst f ts i ds j)
first_told lets ts ds i j t = t.first
