-- Functions, added one after another.
use Rattle.std.specs.Prelude.{ℕ, zero, suc, ◌≡◌, ◌≤◌, ◌<◌, refl, nat_eq, nat_lt, ◌&&◌, ◌||◌, Bool, true, false, List, [], ◌∷◌, ◌+◌, ◌++◌, length, slice_index_or, take, if◌then◌else◌, Result, OnOk}
use Rattle.std.specs.List.{list_any}
use Rattle.std.proofs.Common.{ap, ◌∙◌, arith, sym, subst, eq-eqb}
use Rattle.std.proofs.lemmas.Bool.{eqb-true, ltb-true, ltb-false}
use Rattle.std.proofs.lemmas.List.{take_all, take_more}
use Rattle.std.proofs.lemmas.List.Folds.{list_any-append}
use Rattle.std.proofs.lemmas.Result.{on_ok_weaker}
use Rattle.mini_model.specs.declared.memory.OutOfMemory.{OutOfMemory}
use Rattle.mini_model.specs.declared.name.Name.{Name}
use Rattle.mini_model.specs.declared.shape.Shape.{Shape}
use Rattle.mini_model.specs.declared.shape.Shape.TheVariants as shape
use Rattle.mini_model.specs.Tree.{Tree, Trees, node, none, ◌▸◌, shape_of, children, first_or_absent}
use Rattle.mini_node.specs.Children.{number_of, trees_of}
use Rattle.mini_laws.specs.DeclaredNames.{bound_names}
use Rattle.mini_laws.specs.Foreign.{has_number, any_has_number, own_params_around, params_with}
use Rattle.mini_laws.specs.Mentions.{same_variable, is_among}
use Rattle.mini_context.specs.declared.params.Params.{Params}
use Rattle.mini_context.specs.Enclosing.{all_numbers_in, is_around, numbers_in, own_params, Below, Enclosed, PutNames, PutNumbers}
use Rattle.mini_context.specs.Lists.{holds}
use Rattle.mini_context.specs.Tables.{named}
use Rattle.mini_context.proofs.Gathering.{Adds, Gathers}
use Rattle.mini_context.proofs.Marking.{or_assoc, or_false}

-- ---- booleans

pub by_both : (p q : Bool) → (p ≡ true → q ≡ true) → (q ≡ true → p ≡ true) → p ≡ q
by_both true q f g = sym (f refl)
by_both false true f g = g refl
by_both false false f g = refl

or_cases : {C : Type 0} (a b : Bool) → (a || b) ≡ true → (a ≡ true → C) → (b ≡ true → C) → C
or_cases true b e f g = f refl
or_cases false b e f g = g e

or_in : (a b : Bool) → b ≡ true → (a || b) ≡ true
or_in true b e = refl
or_in false b e = e

or_first : (a b : Bool) → a ≡ true → (a || b) ≡ true
or_first a b e = ap (λ v. v || b) e

pub and_left : (a b : Bool) → (a && b) ≡ true → a ≡ true
and_left true b e = refl
and_left false b e = absurd (cc e)

and_right : (a b : Bool) → (a && b) ≡ true → b ≡ true
and_right true b e = e
and_right false b e = absurd (cc e)

and_in : (a b : Bool) → a ≡ true → b ≡ true → (a && b) ≡ true
and_in a b e f = ap (λ v. v && b) e ∙ f

spread : (h a b g : Bool) → ((h || (a && g)) || (b && g)) ≡ (h || ((a || b) && g))
spread true a b g = refl
spread false true b true = refl
spread false true true false = refl
spread false true false false = refl
spread false false b g = refl

nothing_put : (h g : Bool) → h ≡ (h || (false && g))
nothing_put h g = sym (or_false h)

-- ---- names and numbers

pub names_put : (k : ℕ) → Adds (PutNames k)
names_put k = record {
  nothing = λ s. record { lists = refl; each = λ s' h j. nothing_put (holds s s' j) (nat_eq k j) };
  both = λ xs ys a c d f g. record {
    lists = g.lists ∙ f.lists;
    each = λ s h j.
        let within : s < length c = omega (arith, h, f.lists) in
        g.each s within j ∙ ap (λ v. v || (is_among (named s) ys && nat_eq k j)) (f.each s h j) ∙ spread (holds a s j) (is_among (named s) xs) (is_among (named s) ys) (nat_eq k j)
        ∙ ap (λ v. holds a s j || (v && nat_eq k j)) (sym (list_any-append (same_variable (named s)) xs ys));
  };
}

pub names_turn : (k : ℕ) (xs : List Name) (i : ℕ) (x : Name) (a b c : List (List ℕ)) → i < length xs → x ≡ slice_index_or xs i x → PutNames k (take i xs) a b → PutNames k (x ∷ []) b c → PutNames k (take (i + 1) xs) a c
names_turn k xs i x a b c h e p q = subst (λ ys. PutNames k ys a c) (sym (take_more xs i x h ∙ ap (λ y. take i xs ++ y ∷ []) (sym e))) ((names_put k).both (take i xs) (x ∷ []) a b c p q)

pub names_end : (k : ℕ) (xs : List Name) (i : ℕ) (a b : List (List ℕ)) → length xs ≤ i → PutNames k (take i xs) a b → PutNames k xs a b
names_end k xs i a b h p = subst (λ ys. PutNames k ys a b) (take_all i xs h) p

pub numbers_put : (k : ℕ) → Adds (PutNumbers k)
numbers_put k = record {
  nothing = λ s b j. nothing_put (holds s b j) (nat_eq k j);
  both = λ xs ys a c d f g b j.
      let p : ℕ → Bool = λ n. nat_eq n b in
      g b j ∙ ap (λ v. v || (list_any p ys && nat_eq k j)) (f b j) ∙ spread (holds a b j) (list_any p xs) (list_any p ys) (nat_eq k j)
      ∙ ap (λ v. holds a b j || (v && nat_eq k j)) (sym (list_any-append p xs ys));
}

pub numbers_gather : Gathers (λ i us. numbers_in (first_or_absent us)) (λ i us. all_numbers_in us)
unfolding numbers_in
numbers_gather = record { at_none = λ i. refl; at_more = λ i t ts. refl }

pub numbers_open : (n : Tree) → number_of n ∷ all_numbers_in (children n) ≡ numbers_in n
unfolding numbers_in
numbers_open (node h xs n ts) = refl

mutual
  unfolding numbers_in has_number

  pub numbers_told : (b : ℕ) (t : Tree) → list_any (λ n. nat_eq n b) (numbers_in t) ≡ has_number b t
  numbers_told b (node h xs n ts) = ap (λ v. nat_eq n b || v) (all_numbers_told b ts)

  all_numbers_told : (b : ℕ) (ts : Trees) → list_any (λ n. nat_eq n b) (all_numbers_in ts) ≡ any_has_number b ts
  all_numbers_told b none = refl
  all_numbers_told b (t ▸ ts) =
      list_any-append (λ n. nat_eq n b) (numbers_in t) (all_numbers_in ts)
      ∙ ap (λ v. v || list_any (λ n. nat_eq n b) (all_numbers_in ts)) (numbers_told b t) ∙ ap (λ v. has_number b t || v) (all_numbers_told b ts)

-- ---- a function in common

pub record Common (fs ws : List (List ℕ)) (s b : ℕ) : Type 0 where
  pub function : ℕ
  pub of_symbol : holds fs s function ≡ true
  pub of_number : holds ws b function ≡ true

pub record Within (q : ℕ → Bool) (l : List ℕ) : Type 0 where
  pub item : ℕ
  pub stands : list_any (nat_eq item) l ≡ true
  pub passes : q item ≡ true

equal_itself : (n : ℕ) → nat_eq n n ≡ true
equal_itself n = eq-eqb n n refl

found_in : (q : ℕ → Bool) (l : List ℕ) → list_any q l ≡ true → Within q l
found_in q [] e = absurd (cc e)
found_in q (x ∷ xs) e =
    or_cases (q x) (list_any q xs) e
    (λ f. record { item = x; stands = or_first (nat_eq x x) (list_any (nat_eq x) xs) (equal_itself x); passes = f })
    (λ f. let w = found_in q xs f in record { item = w.item; stands = or_in (nat_eq w.item x) (list_any (nat_eq w.item) xs) w.stands; passes = w.passes })

put_in : (q : ℕ → Bool) (j : ℕ) (l : List ℕ) → list_any (nat_eq j) l ≡ true → q j ≡ true → list_any q l ≡ true
put_in q j [] e f = absurd (cc e)
put_in q j (x ∷ xs) e f =
    or_cases (nat_eq j x) (list_any (nat_eq j) xs) e
    (λ g. or_first (q x) (list_any q xs) (ap q (sym (eqb-true j x g)) ∙ f))
    (λ g. or_in (q x) (list_any q xs) (put_in q j xs g f))

common_of : (fs ws : List (List ℕ)) (s b : ℕ) → is_around fs ws s b ≡ true → Common fs ws s b
common_of fs ws s b e = let w = found_in (λ k. holds ws b k) (slice_index_or fs s []) e in record { function = w.item; of_symbol = w.stands; of_number = w.passes }

around_of : (fs ws : List (List ℕ)) (s b j : ℕ) → holds fs s j ≡ true → holds ws b j ≡ true → is_around fs ws s b ≡ true
around_of fs ws s b j e f = put_in (λ k. holds ws b k) j (slice_index_or fs s []) e f

-- ---- one function more

-- what is in a list after it was put there: it was before, or it is the new one
was : {C : Type 0} (h a g : Bool) → (h || (a && g)) ≡ true → (h ≡ true → C) → (a ≡ true → g ≡ true → C) → C
was h a g e f k = or_cases h (a && g) e f (λ r. k (and_left a g r) (and_right a g r))

new_below : (k : ℕ) (old new : List (List ℕ)) (a : ℕ → Bool) → ((s j : ℕ) → holds new s j ≡ true → (holds old s j || (a s && nat_eq k j)) ≡ true) → Below k old → Below (suc k) new
new_below k old new a f b s j e =
    was (holds old s j) (a s) (nat_eq k j) (f s j e) (λ r. let under : j < k = b s j r in omega (arith, under)) (λ r g. let same : k ≡ j = eqb-true k j g in omega (arith, same))

-- past the end there is no list
past : (ls : List (List ℕ)) (s j : ℕ) → length ls ≤ s → holds ls s j ≡ false
past [] s j h = refl
past (l ∷ ls) zero j h = absurd (omega arith)
past (l ∷ ls) (suc s) j h = past ls s j (omega arith)

not_both : {C : Type 0} (b : Bool) → b ≡ true → b ≡ false → C
not_both true e f = absurd (cc f)
not_both false e f = absurd (cc e)

named_by : (v : Bool) (k : ℕ) (xs : List Name) (old new : List (List ℕ)) → PutNames k xs old new → (s j : ℕ) → nat_lt s (length old) ≡ v → holds new s j ≡ true → (holds old s j || (is_among (named s) xs && nat_eq k j)) ≡ true
named_by true k xs old new p s j h e = sym (p.each s (ltb-true s (length old) h) j) ∙ e
named_by false k xs old new p s j h e = let over : length old ≤ s = ltb-false s (length old) h in not_both (holds new s j) e (past new s j (omega (arith, over, p.lists)))

named_below : (k : ℕ) (xs : List Name) (old new : List (List ℕ)) → PutNames k xs old new → (s j : ℕ) → holds new s j ≡ true → (holds old s j || (is_among (named s) xs && nat_eq k j)) ≡ true
named_below k xs old new p s j e = named_by (nat_lt s (length old)) k xs old new p s j refl e

no_longer : {C : Type 0} (k j : ℕ) → j < k → nat_eq k j ≡ true → C
no_longer k j h e = let same : k ≡ j = eqb-true k j e in absurd (omega (arith, h, same))

enclosed_there : (k : ℕ) (xs : List Name) (ns : List ℕ) (fs fs' ws ws' : List (List ℕ)) → Below k fs → Below k ws → PutNames k xs fs fs' → PutNumbers k ns ws ws' → (s b : ℕ) → s < length fs → is_around fs' ws' s b ≡ true → (is_around fs ws s b || (is_among (named s) xs && list_any (λ n. nat_eq n b) ns)) ≡ true
enclosed_there k xs ns fs fs' ws ws' bf bw p q s b h e =
    let w = common_of fs' ws' s b e in
    let j = w.function in
    let here = is_around fs ws s b in
    let there = is_among (named s) xs && list_any (λ n. nat_eq n b) ns in
    was (holds fs s j) (is_among (named s) xs) (nat_eq k j) (sym (p.each s h j) ∙ w.of_symbol)
    (λ f. was (holds ws b j) (list_any (λ n. nat_eq n b) ns) (nat_eq k j) (sym (q b j) ∙ w.of_number)
    (λ g. or_first here there (around_of fs ws s b j f g))
    (λ g same. no_longer k j (bf s j f) same))
    (λ f same. was (holds ws b j) (list_any (λ n. nat_eq n b) ns) (nat_eq k j) (sym (q b j) ∙ w.of_number)
    (λ g. no_longer k j (bw b j g) same)
    (λ g same'. or_in here there (and_in (is_among (named s) xs) (list_any (λ n. nat_eq n b) ns) f g)))

enclosed_back : (k : ℕ) (xs : List Name) (ns : List ℕ) (fs fs' ws ws' : List (List ℕ)) → PutNames k xs fs fs' → PutNumbers k ns ws ws' → (s b : ℕ) → s < length fs → (is_around fs ws s b || (is_among (named s) xs && list_any (λ n. nat_eq n b) ns)) ≡ true → is_around fs' ws' s b ≡ true
enclosed_back k xs ns fs fs' ws ws' p q s b h e =
    or_cases (is_around fs ws s b) (is_among (named s) xs && list_any (λ n. nat_eq n b) ns) e
    (λ f. let w = common_of fs ws s b f in around_of fs' ws' s b w.function
    (p.each s h w.function ∙ or_first (holds fs s w.function) (is_among (named s) xs && nat_eq k w.function) w.of_symbol)
    (q b w.function ∙ or_first (holds ws b w.function) (list_any (λ n. nat_eq n b) ns && nat_eq k w.function) w.of_number))
    (λ f. around_of fs' ws' s b k
    (p.each s h k ∙ or_in (holds fs s k) (is_among (named s) xs && nat_eq k k) (and_in (is_among (named s) xs) (nat_eq k k) (and_left (is_among (named s) xs) (list_any (λ n. nat_eq n b) ns) f) (equal_itself k)))
    (q b k ∙ or_in (holds ws b k) (list_any (λ n. nat_eq n b) ns && nat_eq k k) (and_in (list_any (λ n. nat_eq n b) ns) (nat_eq k k) (and_right (is_among (named s) xs) (list_any (λ n. nat_eq n b) ns) f) (equal_itself k))))

pub one_enclosed : (t : Tree) (xs : List Name) (old new : Params) → xs ≡ bound_names t → new.next ≡ suc old.next → PutNames old.next xs old.by_symbol.items new.by_symbol.items → PutNumbers old.next (numbers_in t) old.by_number.items new.by_number.items → Enclosed (t ∷ []) old new
one_enclosed t xs old new e n p q = record {
  lists = p.lists;
  bounded = λ w. record {
    symbols = subst (λ k. Below k new.by_symbol.items) (sym n) (new_below old.next old.by_symbol.items new.by_symbol.items (λ s. is_among (named s) xs) (named_below old.next xs old.by_symbol.items new.by_symbol.items p) w.symbols);
    numbers = subst (λ k. Below k new.by_number.items) (sym n) (new_below old.next old.by_number.items new.by_number.items (λ b. list_any (λ m. nat_eq m b) (numbers_in t)) (λ b j f. sym (q b j) ∙ f) w.numbers);
  };
  each = λ w s h b.
      by_both (is_around new.by_symbol.items new.by_number.items s b) (is_around old.by_symbol.items old.by_number.items s b || (is_among (named s) xs && list_any (λ m. nat_eq m b) (numbers_in t)))
      (enclosed_there old.next xs (numbers_in t) old.by_symbol.items new.by_symbol.items old.by_number.items new.by_number.items w.symbols w.numbers p q s b h)
      (enclosed_back old.next xs (numbers_in t) old.by_symbol.items new.by_symbol.items old.by_number.items new.by_number.items p q s b h)
      ∙ ap (λ v. is_around old.by_symbol.items old.by_number.items s b || v) (ap (λ v. is_among (named s) xs && v) (numbers_told b t) ∙ ap (λ v. is_among (named s) v && has_number b t) e ∙ sym (or_false (is_among (named s) (bound_names t) && has_number b t)));
}

pub enclosed_add : Adds Enclosed
enclosed_add = record {
  nothing = λ s. record { lists = refl; bounded = λ w. w; each = λ w k h b. sym (or_false (is_around s.by_symbol.items s.by_number.items k b)) };
  both = λ xs ys a c d f g. record {
    lists = g.lists ∙ f.lists;
    bounded = λ w. g.bounded (f.bounded w);
    each = λ w s h b.
        let within : s < length c.by_symbol.items = omega (arith, h, f.lists) in
        let p : Tree → Bool = λ t. is_among (named s) (bound_names t) && has_number b t in
        g.each (f.bounded w) s within b ∙ ap (λ v. v || list_any p ys) (f.each w s h b) ∙ or_assoc (is_around a.by_symbol.items a.by_number.items s b) (list_any p xs) (list_any p ys)
        ∙ ap (λ v. is_around a.by_symbol.items a.by_number.items s b || v) (sym (list_any-append p xs ys));
  };
}

pub none_enclosed : (n : Tree) (h : Shape) (xs : List Tree) (old : Params) → h ≡ shape_of n → trees_of xs ≡ children n → own_params h (trees_of xs) ≡ [] → Enclosed (own_params (shape_of n) (children n)) old old
none_enclosed n h xs old e f g = subst (λ ps. Enclosed ps old old) (sym (ap (λ k. own_params k (children n)) (sym e) ∙ ap (own_params h) (sym f) ∙ g)) (enclosed_add.nothing old)

and_true : (v : Bool) → (v && true) ≡ v
and_true true = refl
and_true false = refl

and_false : (v : Bool) → (v && false) ≡ false
and_false true = refl
and_false false = refl

-- ---- what it says of a tree

params_named : (s b : ℕ) (t : Tree) (v : Bool) → has_number b t ≡ v → is_among (named s) (params_with b t) ≡ (is_among (named s) (bound_names t) && has_number b t)
params_named s b t true e = ap (λ v. is_among (named s) (if v then bound_names t else [])) e ∙ sym (and_true (is_among (named s) (bound_names t))) ∙ ap (λ v. is_among (named s) (bound_names t) && v) (sym e)
params_named s b t false e = ap (λ v. is_among (named s) (if v then bound_names t else [])) e ∙ sym (and_false (is_among (named s) (bound_names t))) ∙ ap (λ v. is_among (named s) (bound_names t) && v) (sym e)

pub own_told : (s b : ℕ) (h : Shape) (ts : Trees) → list_any (λ t. is_among (named s) (bound_names t) && has_number b t) (own_params h ts) ≡ is_among (named s) (own_params_around b h ts)
own_told s b (shape.Function d g ds) none = refl
own_told s b (shape.Function d g ds) (t ▸ none) = refl
own_told s b (shape.Function d g ds) (t ▸ (u ▸ ts)) = or_false (is_among (named s) (bound_names u) && has_number b u) ∙ sym (params_named s b u (has_number b u) refl)
own_told s b (shape.ArrowFunctionExpression ds) none = refl
own_told s b (shape.ArrowFunctionExpression ds) (t ▸ ts) = or_false (is_among (named s) (bound_names t) && has_number b t) ∙ sym (params_named s b t (has_number b t) refl)
own_told s b h ts = refl

no_params_in : (d g : Bool) (ds : List (List ℕ)) (xs : List Tree) → length xs < 2 → own_params (shape.Function d g ds) (trees_of xs) ≡ []
no_params_in d g ds [] h = refl
no_params_in d g ds (x ∷ []) h = refl
no_params_in d g ds (x ∷ (y ∷ xs)) h = absurd (omega arith)

pub few_params : (n : Tree) (d g : Bool) (ds : List (List ℕ)) (xs : List Tree) (old : Params) → shape_of n ≡ shape.Function d g ds → trees_of xs ≡ children n → length xs < 2 → Enclosed (own_params (shape_of n) (children n)) old old
few_params n d g ds xs old e f h = subst (λ ps. Enclosed ps old old) (sym (ap (λ k. own_params k (children n)) e ∙ ap (own_params (shape.Function d g ds)) (sym f) ∙ no_params_in d g ds xs h)) (enclosed_add.nothing old)

-- a node that is no function
other_params : (h : Shape) (ts : Trees) → ((d g : Bool) (ds : List (List ℕ)) → h ≡ shape.Function d g ds → ⊥) → ((ds : List (List ℕ)) → h ≡ shape.ArrowFunctionExpression ds → ⊥) → own_params h ts ≡ []
other_params (shape.Function d g ds) ts n m = absurd (n d g ds refl)
other_params (shape.ArrowFunctionExpression ds) ts n m = absurd (m ds refl)
other_params h ts n m = refl

pub unenclosed : (n : Tree) (h : Shape) (old : Params) → h ≡ shape_of n → ((d g : Bool) (ds : List (List ℕ)) → h ≡ shape.Function d g ds → ⊥) → ((ds : List (List ℕ)) → h ≡ shape.ArrowFunctionExpression ds → ⊥) → Enclosed (own_params (shape_of n) (children n)) old old
unenclosed n h old e f g = subst (λ ps. Enclosed ps old old) (sym (ap (λ k. own_params k (children n)) (sym e) ∙ other_params h (children n) f g)) (enclosed_add.nothing old)

no_arrow_params : (ds : List (List ℕ)) (xs : List Tree) → length xs < 1 → own_params (shape.ArrowFunctionExpression ds) (trees_of xs) ≡ []
no_arrow_params ds [] h = refl
no_arrow_params ds (x ∷ xs) h = absurd (omega arith)

second_params : (d g : Bool) (ds : List (List ℕ)) (xs : List Tree) (x : Tree) → 2 ≤ length xs → x ≡ slice_index_or xs 1 x → own_params (shape.Function d g ds) (trees_of xs) ≡ x ∷ []
second_params d g ds [] x h e = absurd (omega arith)
second_params d g ds (y ∷ []) x h e = absurd (omega arith)
second_params d g ds (y ∷ (z ∷ xs)) x h e = ap (λ r. r ∷ []) (sym e)

first_params : (ds : List (List ℕ)) (xs : List Tree) (x : Tree) → 1 ≤ length xs → x ≡ slice_index_or xs 0 x → own_params (shape.ArrowFunctionExpression ds) (trees_of xs) ≡ x ∷ []
first_params ds [] x h e = absurd (omega arith)
first_params ds (y ∷ xs) x h e = ap (λ r. r ∷ []) (sym e)

pub few_arrow_params : (n : Tree) (ds : List (List ℕ)) (xs : List Tree) (old : Params) → shape_of n ≡ shape.ArrowFunctionExpression ds → trees_of xs ≡ children n → length xs < 1 → Enclosed (own_params (shape_of n) (children n)) old old
few_arrow_params n ds xs old e f h = subst (λ ps. Enclosed ps old old) (sym (ap (λ k. own_params k (children n)) e ∙ ap (own_params (shape.ArrowFunctionExpression ds)) (sym f) ∙ no_arrow_params ds xs h)) (enclosed_add.nothing old)

-- a function, of which the parameters are added
pub function_enclosed : (n : Tree) (d g : Bool) (ds : List (List ℕ)) (xs : List Tree) (x : Tree) (old new : Params) → shape_of n ≡ shape.Function d g ds → trees_of xs ≡ children n → 2 ≤ length xs → x ≡ slice_index_or xs 1 x → (r : Result Unit OutOfMemory) → OnOk r (Enclosed (x ∷ []) old new) → OnOk r (Enclosed (own_params (shape_of n) (children n)) old new)
function_enclosed n d g ds xs x old new e f h i r o = on_ok_weaker r (λ q. subst (λ ps. Enclosed ps old new) (sym (ap (λ k. own_params k (children n)) e ∙ ap (own_params (shape.Function d g ds)) (sym f) ∙ second_params d g ds xs x h i)) q) o

pub arrow_enclosed : (n : Tree) (ds : List (List ℕ)) (xs : List Tree) (x : Tree) (old new : Params) → shape_of n ≡ shape.ArrowFunctionExpression ds → trees_of xs ≡ children n → 1 ≤ length xs → x ≡ slice_index_or xs 0 x → (r : Result Unit OutOfMemory) → OnOk r (Enclosed (x ∷ []) old new) → OnOk r (Enclosed (own_params (shape_of n) (children n)) old new)
arrow_enclosed n ds xs x old new e f h i r o = on_ok_weaker r (λ q. subst (λ ps. Enclosed ps old new) (sym (ap (λ k. own_params k (children n)) e ∙ ap (own_params (shape.ArrowFunctionExpression ds)) (sym f) ∙ first_params ds xs x h i)) q) o
