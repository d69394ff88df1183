-- Where a name goes from a list, what the places tell of the declarators before it and of the
-- statements before theirs stays true.
use Rattle.std.proofs.Common.{◌≡◌, ℕ, zero, suc, ◌+◌, ◌<◌, ◌≤◌, Bool, true, false, List, [], ◌∷◌, refl, sym, ap, subst, ◌∙◌, true≢false, arith}
use Rattle.std.specs.Prelude.{◌&&◌, ◌||◌, not, Option, Some, None, IfSome, if◌then◌else◌}
use Rattle.mini_model.specs.declared.name.Name.{Name}
use Rattle.mini_model.specs.declared.kind.PropertyKind.TheVariants.{Init}
use Rattle.mini_model.specs.declared.shape.Shape.{Shape}
use Rattle.mini_model.specs.declared.shape.Shape.TheVariants as shape
use Rattle.mini_model.specs.Tree.{Tree, Trees, node, none, ◌▸◌, count, child_or_absent, children, shape_of, empty_statement}
use Rattle.mini_node.specs.Children.{first_children, names_of, part, with_child, with_part, without, like, is_bare}
use Rattle.mini_node.specs.Walks.{child_with}
use Rattle.mini_rows.specs.Past.{is_binding, has_symbol, binds, any_bind, all_of}
use Rattle.mini_rows.specs.Unused.{declares_list, in_full, is_short, names, put_first, put_among}
use Rattle.mini_unused.specs.RemoveUnusedDeclaration.{is_free_at, is_lexical_shape, list_at, let_left}
use Rattle.mini_unused.specs.SubstituteNext.{put_named, declarators_next, list_next}
use Rattle.mini_unused.specs.SubstituteSingleUse.{declaration_left, declared_names, initializer, last_place, list_single}
use Rattle.mini_unused.specs.Sweep.{declarators_of}
use Rattle.mini_unused.proofs.SingleUses.{last_is}
use Rattle.mini_past.proofs.FirstPlaces.{whole, any_below}
use Rattle.mini_past.specs.declared.let_places.FirstPlaces.{FirstPlaces}
use Rattle.mini_past.specs.declared.let_places.LetPlaces.{LetPlaces}
use Rattle.mini_past.specs.LetPlaces.{passes_here, passes_there, Nowhere, Told, ToldFirst, ToldAt, ToldOfAll, ToldNowhere}

-- ---- nothing comes to be declared

neither : (a b : Bool) → (a || b) ≡ false → (a ≡ false) × (b ≡ false)
neither true b e = absurd (true≢false e)
neither false b e = (refl, e)

full_binding : (h : Shape) → is_binding (in_full h) ≡ is_binding h
full_binding (shape.ObjectProperty kind is_method is_shorthand is_computed) = by (is_short (shape.ObjectProperty kind is_method is_shorthand is_computed))
  where
    by : (c : Bool) → is_binding (if c then shape.ObjectProperty Init false false false else shape.ObjectProperty kind is_method is_shorthand is_computed) ≡ false
    by true = refl
    by false = refl
full_binding h = refl

module _ (k : ℕ) where
  own : (t : Tree) → binds k t ≡ false → (is_binding (shape_of t) && has_symbol k (names_of t)) ≡ false
  own t e = (neither (is_binding (shape_of t) && has_symbol k (names_of t)) (any_bind k (children t)) (sym (whole t k) ∙ e)).0

  over : (h : Shape) (xs : List Name) (n : ℕ) (ts : Trees) → (is_binding h && has_symbol k xs) ≡ false → any_bind k ts ≡ false → binds k (node h xs n ts) ≡ false
  over h xs n ts e f i = e i || f i

  joined : (t : Tree) (ts : Trees) → binds k t ≡ false → any_bind k ts ≡ false → any_bind k (t ▸ ts) ≡ false
  joined t ts e f i = e i || f i

  one_of : (ts : Trees) (i : ℕ) → any_bind k ts ≡ false → binds k (child_or_absent ts i) ≡ false
  one_of none i e = refl
  one_of (t ▸ ts) zero e = (neither (binds k t) (any_bind k ts) e).0
  one_of (t ▸ ts) (suc i) e = one_of ts i (neither (binds k t) (any_bind k ts) e).1

  part_of : (t : Tree) (i : ℕ) → binds k t ≡ false → binds k (part t i) ≡ false
  part_of t i e = one_of (children t) i (any_below k t e)

  with_one : (ts : Trees) (i : ℕ) (x : Tree) → any_bind k ts ≡ false → binds k x ≡ false → any_bind k (with_child ts i x) ≡ false
  with_one none i x e f = refl
  with_one (t ▸ ts) zero x e f = joined x ts f (neither (binds k t) (any_bind k ts) e).1
  with_one (t ▸ ts) (suc i) x e f = let (a, b) = neither (binds k t) (any_bind k ts) e in joined t (with_child ts i x) a (with_one ts i x b f)

  with_there : (t : Tree) (i : ℕ) (x : Tree) → binds k t ≡ false → binds k x ≡ false → binds k (with_part t i x) ≡ false
  with_there (node h xs n ts) i x e f = over h xs n (with_child ts i x) (own (node h xs n ts) e) (with_one ts i x (any_below k (node h xs n ts) e) f)

  without_one : (ts : Trees) (i : ℕ) → any_bind k ts ≡ false → any_bind k (without ts i) ≡ false
  without_one none i e = refl
  without_one (t ▸ ts) zero e = (neither (binds k t) (any_bind k ts) e).1
  without_one (t ▸ ts) (suc i) e = let (a, b) = neither (binds k t) (any_bind k ts) e in joined t (without ts i) a (without_one ts i b)

  others_of : (t : Tree) (j : ℕ) → binds k t ≡ false → binds k (like t (without (children t) j)) ≡ false
  others_of (node h xs n ts) j e = over h xs n (without ts j) (own (node h xs n ts) e) (without_one ts j (any_below k (node h xs n ts) e))

  left_of : (t : Tree) (j : ℕ) → binds k t ≡ false → binds k (declaration_left t j) ≡ false
  left_of t j e = by (is_bare (part t 0) 1) (with_there t 0 (like (part t 0) (without (children (part t 0)) j)) e (others_of (part t 0) j (part_of t 0 e)))
    where
      by : (c : Bool) → binds k (let_left t j) ≡ false → binds k (if c then empty_statement else let_left t j) ≡ false
      by true f = refl
      by false f = f

  mutual
    put_there : (x : Name) (r t : Tree) → binds k r ≡ false → binds k t ≡ false → binds k (put_first x r t) ≡ false
    put_there x r (node h xs n none) e f = e
    put_there x r (node h xs n (t ▸ ts)) e f =
        over (in_full h) xs n (put_among x r (t ▸ ts)) (ap (λ b. b && has_symbol k xs) (full_binding h) ∙ own (node h xs n (t ▸ ts)) f) (put_in x r (t ▸ ts) e (any_below k (node h xs n (t ▸ ts)) f))

    put_in : (x : Name) (r : Tree) (ts : Trees) → binds k r ≡ false → any_bind k ts ≡ false → any_bind k (put_among x r ts) ≡ false
    put_in x r none e f = refl
    put_in x r (t ▸ ts) e f = let (a, b) = neither (binds k t) (any_bind k ts) f in by (names x t) (put_there x r t e a) (put_in x r ts e b) a b
      where
        by : (c : Bool) → binds k (put_first x r t) ≡ false → any_bind k (put_among x r ts) ≡ false → binds k t ≡ false → any_bind k ts ≡ false → any_bind k (if c then put_first x r t ▸ ts else t ▸ put_among x r ts) ≡ false
        by true p q a b = joined (put_first x r t) ts p b
        by false p q a b = joined t (put_among x r ts) a q

  named_there : (xs : List Name) (r t : Tree) → binds k r ≡ false → binds k t ≡ false → binds k (put_named xs r t) ≡ false
  named_there [] r t e f = f
  named_there (x ∷ xs) r t e f = put_there x r t e f

  single_there : (ts : Trees) (i j : ℕ) (xs : List Name) → any_bind k ts ≡ false → any_bind k (with_child (with_child ts i (declaration_left (child_or_absent ts i) j)) (suc i) (put_named xs (part (part (part (child_or_absent ts i) 0) j) 1) (child_or_absent ts (suc i)))) ≡ false
  single_there ts i j xs e =
      let t = child_or_absent ts i in
      let there = one_of ts i e in
      let init = part (part (part t 0) j) 1 in
      with_one (with_child ts i (declaration_left t j)) (suc i) (put_named xs init (child_or_absent ts (suc i)))
      (with_one ts i (declaration_left t j) e (left_of t j there))
      (named_there xs init (child_or_absent ts (suc i)) (part_of (part (part t 0) j) 1 (part_of (part t 0) j (part_of t 0 there))) (one_of ts (suc i) e))

  next_in : (l : Tree) (j : ℕ) → binds k l ≡ false → binds k (declarators_next l j) ≡ false
  next_in l j e =
      let m = like l (without (children l) j) in
      let others = others_of l j e in
      let n = part m j in
      let next = part_of m j others in
      with_there m j (with_part n 1 (put_named (names_of (part (part l j) 0)) (part (part l j) 1) (part n 1))) others
      (with_there n 1 (put_named (names_of (part (part l j) 0)) (part (part l j) 1) (part n 1)) next
      (named_there (names_of (part (part l j) 0)) (part (part l j) 1) (part n 1) (part_of (part l j) 1 (part_of l j e)) (part_of n 1 next)))

  next_there : (ts : Trees) (i j : ℕ) → any_bind k ts ≡ false → any_bind k (with_child ts i (with_part (child_or_absent ts i) 0 (declarators_next (part (child_or_absent ts i) 0) j))) ≡ false
  next_there ts i j e =
      let t = child_or_absent ts i in
      let there = one_of ts i e in
      with_one ts i (with_part t 0 (declarators_next (part t 0) j)) e (with_there t 0 (declarators_next (part t 0) j) there (next_in (part t 0) j (part_of t 0 there)))

-- ---- what stands before stays

first_none : (ts : Trees) → first_children 0 ts ≡ none
first_none none = refl
first_none (t ▸ ts) = refl

first_before : (ts : Trees) (i j : ℕ) (x : Tree) → i ≤ j → first_children i (with_child ts j x) ≡ first_children i ts
first_before none i j x h = refl
first_before (t ▸ ts) zero zero x h = refl
first_before (t ▸ ts) zero (suc j) x h = refl
first_before (t ▸ ts) (suc i) zero x h = absurd (omega (arith, h))
first_before (t ▸ ts) (suc i) (suc j) x h = ap (λ us. t ▸ us) (first_before ts i j x (omega (arith, h)))

first_without : (ts : Trees) (i j : ℕ) → i ≤ j → first_children i (without ts j) ≡ first_children i ts
first_without none i j h = refl
first_without (t ▸ ts) zero zero h = first_none ts
first_without (t ▸ ts) zero (suc j) h = refl
first_without (t ▸ ts) (suc i) zero h = absurd (omega (arith, h))
first_without (t ▸ ts) (suc i) (suc j) h = ap (λ us. t ▸ us) (first_without ts i j (omega (arith, h)))

other_there : (ts : Trees) (i : ℕ) (x : Tree) → child_or_absent (with_child ts (suc i) x) i ≡ child_or_absent ts i
other_there none i x = refl
other_there (t ▸ ts) zero x = refl
other_there (t ▸ ts) (suc i) x = other_there ts i x

all_none : (p : Tree → Bool) (ts : Trees) → all_of p (first_children 0 ts) ≡ true
all_none p ts = ap (all_of p) (first_none ts)

bare_count : (t : Tree) → is_bare t 1 ≡ true → count (children t) ≡ 1
bare_count (node h [] zero (t ▸ none)) e = refl
bare_count (node h [] zero none) e = absurd (true≢false (sym e))
bare_count (node h [] zero (t ▸ (u ▸ ts))) e = absurd (true≢false (sym e))
bare_count (node h [] (suc n) ts) e = absurd (true≢false (sym e))
bare_count (node h (x ∷ xs) n ts) e = absurd (true≢false (sym e))

-- the declarators before the place pass as before
Passing : Tree → Tree → ℕ → Type 0
Passing t u j = (b : Bool) (k w : ℕ) → w ≤ j → all_of (passes_there b (is_lexical_shape (shape_of u)) k) (first_children w (children (part u 0))) ≡ all_of (passes_there b (is_lexical_shape (shape_of t)) k) (first_children w (children (part t 0)))

left_passing : (t : Tree) (j : ℕ) → j < count (children (part t 0)) → Passing t (declaration_left t j) j
unfolding Passing
left_passing t j l b k w h = by (is_bare (part t 0) 1) refl w h
  where
    others : (t : Tree) (w : ℕ) → w ≤ j → all_of (passes_there b (is_lexical_shape (shape_of (let_left t j))) k) (first_children w (children (part (let_left t j) 0))) ≡ all_of (passes_there b (is_lexical_shape (shape_of t)) k) (first_children w (children (part t 0)))
    others (node h xs n none) w g = refl
    others (node h xs n (d ▸ ts)) w g = ap (all_of (passes_there b (is_lexical_shape h) k)) (first_without (children d) w j g)

    by : (c : Bool) → is_bare (part t 0) 1 ≡ c → (w : ℕ) → w ≤ j → all_of (passes_there b (is_lexical_shape (shape_of (if c then empty_statement else let_left t j))) k) (first_children w (children (part (if c then empty_statement else let_left t j) 0))) ≡ all_of (passes_there b (is_lexical_shape (shape_of t)) k) (first_children w (children (part t 0)))
    by true e zero g = sym (all_none (passes_there b (is_lexical_shape (shape_of t)) k) (children (part t 0)))
    by true e (suc w) g = let one = bare_count (part t 0) e in absurd (omega (arith, one, l, g))
    by false e w g = others t w g

next_passing : (t : Tree) (j : ℕ) → Passing t (with_part t 0 (declarators_next (part t 0) j)) j
unfolding Passing
next_passing (node h xs n none) j b k w g = refl
next_passing (node h xs n (d ▸ ts)) j b k w g = ap (all_of (passes_there b (is_lexical_shape h) k)) (first_before (without (children d) j) w j _ g ∙ first_without (children d) w j g)

-- ---- so what the places tell does

some_by : {A : Type 0} {P Q : A → Type 0} → (o : Option A) → ((a : A) → P a → Q a) → IfSome o P → IfSome o Q
some_by None f h = h
some_by (Some a) f h = f a h

told_by : (lets : LetPlaces) (ts us : Trees) (i j : ℕ) (u : Tree) → first_children i us ≡ first_children i ts → child_or_absent us i ≡ u → ((k : ℕ) → any_bind k ts ≡ false → any_bind k us ≡ false) → Passing (child_or_absent ts i) u j → Told lets ts i (children (list_at ts i)) j → Told lets us i (children (list_at us i)) j
unfolding Passing
told_by lets ts us i j u f e q g t =
    let same : (b : Bool) (k w : ℕ) → w ≤ j → (all_of (passes_here b k) (first_children i ts) && all_of (passes_there b (is_free_at ts i) k) (first_children w (children (list_at ts i)))) ≡ (all_of (passes_here b k) (first_children i us) && all_of (passes_there b (is_free_at us i) k) (first_children w (children (list_at us i)))) =
    λ b k w h.
    (λ x. all_of (passes_here b k) (sym f x) && sym (g b k w h) x)
    ∙ ap (λ v. all_of (passes_here b k) (first_children i us) && all_of (passes_there b (is_lexical_shape (shape_of v)) k) (first_children w (children (part v 0)))) (sym e) in
    record {
      first = some_by lets.first (λ p h. record { bound = λ k w g. h.bound k w g ∙ ap not (same false k w g); hidden = λ k w g. h.hidden k w g ∙ ap not (same true k w g) }) t.first;
      nowhere = λ k n. q k (t.nowhere k n);
    }

below_with : (l : Tree) (i : ℕ) (x : Tree) → children (with_part l i x) ≡ with_child (children l) i x
below_with (node h xs n ts) i x = refl

single_children : (l : Tree) (i j : ℕ) → children (list_single l i j) ≡ with_child (with_child (children l) i (declaration_left (part l i) j)) (suc i) (put_named (declared_names l i j) (initializer l i j) (part l (suc i)))
single_children (node h xs n ts) i j = refl

pub single_told : (lets : Option LetPlaces) (l : Tree) (i j : ℕ) → i < count (children l) → j < count (children (list_at (children l) i)) → ToldAt lets l i j → ToldAt lets (list_single l i j) i j
single_told lets l i j g h = some_by lets (λ m t.
    let ts = children l in
    let d = declaration_left (child_or_absent ts i) j in
    let us = with_child ts i d in
    let p = put_named (declared_names l i j) (initializer l i j) (part l (suc i)) in
    subst (λ vs. Told m vs i (children (list_at vs i)) j) (sym (single_children l i j))
    (told_by m ts (with_child us (suc i) p) i j d (first_before us i (suc i) p (omega arith) ∙ first_before ts i i d (omega arith)) (other_there us i p ∙ child_with ts i d g)
    (λ k. single_there k ts i j (declared_names l i j)) (left_passing (child_or_absent ts i) j h) t))

pub next_told : (lets : Option LetPlaces) (l : Tree) (i j : ℕ) → i < count (children l) → ToldAt lets l i j → ToldAt lets (list_next l i j) i j
next_told lets l i j g = some_by lets (λ m t.
    let ts = children l in
    let d = with_part (child_or_absent ts i) 0 (declarators_next (part (child_or_absent ts i) 0) j) in
    subst (λ vs. Told m vs i (children (list_at vs i)) j) (sym (below_with l i d))
    (told_by m ts (with_child ts i d) i j d (first_before ts i i d (omega arith)) (child_with ts i d g) (λ k. next_there k ts i j) (next_passing (child_or_absent ts i) j) t))

-- of fewer declarators
pub fewer_told : (lets : Option LetPlaces) (l : Tree) (i n j : ℕ) → j ≤ n → ToldAt lets l i n → ToldAt lets l i j
fewer_told lets l i n j h = some_by lets (λ m t. record {
  first = some_by m.first (λ p f. record { bound = λ k w g. f.bound k w (omega (arith, g, h)); hidden = λ k w g. f.hidden k w (omega (arith, g, h)) }) t.first;
  nowhere = t.nowhere;
})

-- of one statement, and of none
pub there_of_all : (lets : Option LetPlaces) (ts ds : Trees) (i n : ℕ) → ToldOfAll lets ts → IfSome lets (λ m. Told m ts i ds n)
there_of_all lets ts ds i n = some_by lets (λ m t. t i ds n)

pub nowhere_of_all : (lets : Option LetPlaces) (ts : Trees) → ToldOfAll lets ts → ToldNowhere lets ts
nowhere_of_all lets ts = some_by lets (λ m t. (t 0 none 0).nowhere)

pub nowhere_at : (lets : Option LetPlaces) (l : Tree) (i n : ℕ) → ToldAt lets l i n → ToldNowhere lets (children l)
nowhere_at lets l i n = some_by lets (λ m t. t.nowhere)

pub nowhere_told : (lets : Option LetPlaces) (ts ds : Trees) (i j : ℕ) → IfSome lets (λ m. Told m ts i ds j) → IfSome lets (λ m. Nowhere m.all ts)
nowhere_told lets ts ds i j = some_by lets (λ m t. t.nowhere)

-- ---- of the last declarator

declared_count : (t : Tree) (n : ℕ) → declarators_of t ≡ n + 1 → count (children (part t 0)) ≡ n + 1
declared_count t n e = by (declares_list t) e
  where
    by : (c : Bool) → (if c then count (children (part t 0)) else 0) ≡ n + 1 → count (children (part t 0)) ≡ n + 1
    by true f = f
    by false f = absurd (omega (arith, f))

last_there : (l : Tree) (i j : ℕ) → declarators_of (part l i) ≡ j + 1 → last_place (children (list_at (children l) i)) ≡ j
last_there l i j e =
    let ds = children (list_at (children l) i) in
    let counted : count ds ≡ j + 1 = declared_count (part l i) j e in
    let last : last_place ds + 1 ≡ count ds = last_is ds (omega (arith, counted)) in
    omega (arith, counted, last)

pub last_told : (lets : Option LetPlaces) (l m : Tree) (i j last : ℕ) → i < count (children l) → declarators_of (part l i) ≡ j + 1 → last ≡ last_place (children (list_at (children l) i)) → m ≡ list_single l i last → ToldAt lets l i j → ToldAt lets m i j
last_told lets l m i j last g e f h t =
    let counted : count (children (list_at (children l) i)) ≡ j + 1 = declared_count (part l i) j e in
    subst (λ n. ToldAt lets n i j) (sym (h ∙ ap (list_single l i) (f ∙ last_there l i j e))) (single_told lets l i j g (omega (arith, counted)) t)

pub past_told : (lets : Option LetPlaces) (l : Tree) (ts : Trees) (i j : ℕ) → ts ≡ children l → declarators_of (part l i) ≡ j + 1 → ToldAt lets l i j → IfSome lets (λ m. Told m ts i (children (list_at ts i)) (last_place (children (list_at ts i))))
past_told lets l ts i j e f t =
    subst (λ us. IfSome lets (λ m. Told m us i (children (list_at us i)) (last_place (children (list_at us i))))) (sym e)
    (subst (λ n. IfSome lets (λ m. Told m (children l) i (children (list_at (children l) i)) n)) (sym (last_there l i j f)) t)

-- ---- where a function reads them

pub there_told : (lets : Option LetPlaces) (ts : Trees) (i n : ℕ) (t l : Tree) → t ≡ child_or_absent ts i → l ≡ part t 0 → n ≡ last_place (children l) → IfSome lets (λ m. Told m ts i (children (list_at ts i)) (last_place (children (list_at ts i)))) → IfSome lets (λ m. Told m ts i (children l) n)
there_told lets ts i n t l e f g h =
    let there : l ≡ list_at ts i = f ∙ ap (λ u. part u 0) e in
    subst (λ k. IfSome lets (λ m. Told m ts i (children l) k)) (sym g) (subst (λ u. IfSome lets (λ m. Told m ts i (children u) (last_place (children u)))) (sym there) h)

pub listed_told : (lets : Option LetPlaces) (ts : Trees) (i n : ℕ) (t l : Tree) → t ≡ child_or_absent ts i → l ≡ part t 0 → IfSome lets (λ m. Told m ts i (children (list_at ts i)) n) → IfSome lets (λ m. Told m ts i (children l) n)
listed_told lets ts i n t l e f h = subst (λ u. IfSome lets (λ m. Told m ts i (children u) n)) (sym (f ∙ ap (λ u. part u 0) e)) h

pub read_told : (lets : Option LetPlaces) (ts ds es : Trees) (i n : ℕ) → es ≡ ds → IfSome lets (λ m. Told m ts i ds n) → IfSome lets (λ m. Told m ts i es n)
read_told lets ts ds es i n e h = subst (λ us. IfSome lets (λ m. Told m ts i us n)) (sym e) h

pub found_told : (lets : Option LetPlaces) (l : Tree) (ts : Trees) (i n : ℕ) → ts ≡ children l → ToldAt lets l i n → IfSome lets (λ m. Told m ts i (children (list_at ts i)) n)
found_told lets l ts i n e h = subst (λ us. IfSome lets (λ m. Told m us i (children (list_at us i)) n)) (sym e) h

pub after_next : (lets : Option LetPlaces) (l m : Tree) (i j : ℕ) → i < count (children l) → m ≡ list_next l i j → ToldAt lets l i j → ToldAt lets m i j
after_next lets l m i j g e h = subst (λ n. ToldAt lets n i j) (sym e) (next_told lets l i j g h)

pub placed_told : (first : FirstPlaces) (l t : Tree) (ts ds : Trees) (i : ℕ) → ts ≡ children l → t ≡ part l i → ds ≡ children (part t 0) → declares_list t ≡ true → ToldFirst first ts i ds (count ds) → ToldFirst first (children l) i (children (list_at (children l) i)) (declarators_of (part l i))
placed_told first l t ts ds i e f g d h =
    let declarators : ds ≡ children (list_at (children l) i) = g ∙ ap (λ u. children (part u 0)) f in
    let counted : count ds ≡ declarators_of (part l i) = ap count declarators ∙ sym (ap (λ b. if b then count (children (part (part l i) 0)) else 0) (sym (ap declares_list f) ∙ d)) in
    subst (λ n. ToldFirst first (children l) i (children (list_at (children l) i)) n) counted (subst (λ us. ToldFirst first (children l) i us (count ds)) declarators (subst (λ us. ToldFirst first us i ds (count ds)) e h))
