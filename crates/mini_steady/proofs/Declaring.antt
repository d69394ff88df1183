-- The symbols that a tree declares, part by part; and that steps in a body declare no more.
use Rattle.std.proofs.Common.{◌≡◌, ℕ, Bool, true, false, List, [], ◌∷◌, Option, Some, None, refl, sym, ap, ◌∙◌, inl, inr, arith, true≢false}
use Rattle.std.specs.Prelude.{zero, suc, ◌⊎◌, ◌<◌, ◌≤◌, ◌+◌, ◌&&◌, ◌||◌, not, nat_eq, nat_lt, ◌++◌, Contains, if◌then◌else◌}
use Rattle.std.proofs.Math.Path.{fun_ext}
use Rattle.std.proofs.lemmas.Bool.{and_parts, lt-ltb, ltb-true}
use Rattle.std.proofs.lemmas.List.{append_assoc}
use Rattle.std.proofs.lemmas.List.Elements.{Contains-append_left, Contains-append_right, Contains-append_cases}
use Rattle.mini_model.specs.declared.name.Name.{Name}
use Rattle.mini_model.specs.declared.name.SymbolId.{SymbolId}
use Rattle.mini_model.specs.declared.place.Position.{Position}
use Rattle.mini_model.specs.declared.shape.Shape.{Shape}
use Rattle.mini_model.specs.declared.shape.Shape.TheVariants as shape
use Rattle.mini_model.specs.Tree.{Tree, Trees, node, none, ◌▸◌, children, shape_of}
use Rattle.mini_model.specs.Rewriting.{done, more}
use Rattle.mini_laws.specs.Value.{Variable, Declared, Global, VariableSet}
use Rattle.mini_kept.specs.Declaring.{declared_by, declared, declared_all}
use Rattle.mini_kept.specs.Without.{Assured, BodySets}
use Rattle.mini_kept.proofs.Counts.{first_or_other, at_first, at_other}
use Rattle.mini_kept.proofs.Declared.{reaches_declared}
use Rattle.mini_node.specs.Children.{names_of}
use Rattle.mini_rows.specs.Past.{is_binding, is_symbol, has_symbol, binds, any_bind}
use Rattle.mini_rows.specs.Steady.{times_named, bindings, all_bindings, Symbols, Begun, nothing_begun, valued, known_in, own_rows, OwnRows, ReadsMore, OwnStep, own_here, own_inside, OwnStepIn, own_first, own_later}
use Rattle.mini_steady.specs.Chains.{Several, once, again}
use Rattle.mini_steady.specs.Own.{KeepsEach}
use Rattle.mini_rows.proofs.OwnLightens.{some_row}
use Rattle.mini_rows.proofs.SteadyLawful.{AnyRow}
use Rattle.mini_rows.proofs.Valued.{Has, let_here, all_along, has, had}
use Rattle.mini_steady.specs.Declarations.{symbol_of, symbols_of, own_symbols, declared_in, declared_among, is_listed, is_listed_twice, unlisted, known_there, begun_by}
use Rattle.mini_steady.specs.declared.code.BodyCode.{BodyCode}
use Rattle.mini_steady.proofs.Gathering.{Gathers}

-- ---- the list, part by part

pub gathers : Gathers declared_in declared_among
gathers = record { at_none = refl; at_more = λ t ts. refl }

pub node_there : (ss us : List SymbolId) (t : Tree) (ts : Trees) → us ≡ ss ++ own_symbols (is_binding (shape_of t)) (names_of t) → ts ≡ children t → ss ++ declared_in t ≡ us ++ declared_among ts
node_there ss us (node h xs n ws) ts e f = sym (append_assoc ss (own_symbols (is_binding h) xs) (declared_among ws)) ∙ (λ i. sym e i ++ declared_among (sym f i))

-- ---- a symbol is in it exactly where the tree declares it

pub either_listed : (k : ℕ) (ss us : List SymbolId) → is_listed k (ss ++ us) ≡ (is_listed k ss || is_listed k us)
either_listed k [] us = refl
either_listed k (s ∷ ss) us = ap (λ b. nat_eq s.0 k || b) (either_listed k ss us) ∙ grouped (nat_eq s.0 k) (is_listed k ss) (is_listed k us)
  where
    grouped : (a b c : Bool) → (a || (b || c)) ≡ ((a || b) || c)
    grouped true b c = refl
    grouped false b c = refl

named : (k : ℕ) (o : Option SymbolId) → is_listed k (symbol_of o) ≡ is_symbol k o
named k (Some s) = by (nat_eq s.0 k)
  where
    by : (b : Bool) → (b || false) ≡ b
    by true = refl
    by false = refl
named k None = refl

all_named : (k : ℕ) (xs : List Name) → is_listed k (symbols_of xs) ≡ has_symbol k xs
all_named k [] = refl
all_named k (x ∷ xs) = either_listed k (symbol_of x.symbol) (symbols_of xs) ∙ (λ i. named k x.symbol i || all_named k xs i)

own_listed : (k : ℕ) (b : Bool) (xs : List Name) → is_listed k (own_symbols b xs) ≡ (b && has_symbol k xs)
own_listed k true xs = all_named k xs
own_listed k false xs = refl

mutual
  listed_there : (k : ℕ) (t : Tree) → is_listed k (declared_in t) ≡ binds k t
  listed_there k (node h xs n ts) = either_listed k (own_symbols (is_binding h) xs) (declared_among ts) ∙ (λ i. own_listed k (is_binding h) xs i || all_listed k ts i)

  all_listed : (k : ℕ) (ts : Trees) → is_listed k (declared_among ts) ≡ any_bind k ts
  all_listed k none = refl
  all_listed k (t ▸ ts) = either_listed k (declared_in t) (declared_among ts) ∙ (λ i. listed_there k t i || all_listed k ts i)

-- and twice in it where the tree declares it twice

abbrev occurrences : ℕ → List SymbolId → ℕ
occurrences k [] = 0
occurrences k (s ∷ ss) = (if nat_eq s.0 k then 1 else 0) + occurrences k ss

both_occur : (k : ℕ) (ss us : List SymbolId) → occurrences k (ss ++ us) ≡ occurrences k ss + occurrences k us
both_occur k [] us = omega arith
both_occur k (s ∷ ss) us = omega (arith, both_occur k ss us)

one_occurs : (k : ℕ) (o : Option SymbolId) → occurrences k (symbol_of o) ≡ (if is_symbol k o then 1 else 0)
one_occurs k (Some s) = omega arith
one_occurs k None = refl

names_occur : (k : ℕ) (xs : List Name) → occurrences k (symbols_of xs) ≡ times_named k xs
names_occur k [] = refl
names_occur k (x ∷ xs) = omega (arith, both_occur k (symbol_of x.symbol) (symbols_of xs), one_occurs k x.symbol, names_occur k xs)

own_occur : (k : ℕ) (b : Bool) (xs : List Name) → occurrences k (own_symbols b xs) ≡ (if b then times_named k xs else 0)
own_occur k true xs = names_occur k xs
own_occur k false xs = refl

mutual
  occur_there : (k : ℕ) (t : Tree) → occurrences k (declared_in t) ≡ bindings k t
  occur_there k (node h xs n ts) = omega (arith, both_occur k (own_symbols (is_binding h) xs) (declared_among ts), own_occur k (is_binding h) xs, all_occur k ts)

  all_occur : (k : ℕ) (ts : Trees) → occurrences k (declared_among ts) ≡ all_bindings k ts
  all_occur k none = refl
  all_occur k (t ▸ ts) = omega (arith, both_occur k (declared_in t) (declared_among ts), occur_there k t, all_occur k ts)

some_there : (m : ℕ) → nat_lt 0 m ≡ nat_lt 1 (1 + m)
some_there zero = refl
some_there (suc m) = lt-ltb 0 (suc m) (omega arith) ∙ sym (lt-ltb 1 (1 + suc m) (omega arith))

once_by : (b l : Bool) (m : ℕ) → l ≡ nat_lt 0 m → (b || l) ≡ nat_lt 0 ((if b then 1 else 0) + m)
once_by true l m e = sym (lt-ltb 0 (1 + m) (omega arith))
once_by false l m e = let same : m ≡ 0 + m = omega arith in e ∙ ap (nat_lt 0) same

once_listed : (k : ℕ) (ss : List SymbolId) → is_listed k ss ≡ nat_lt 0 (occurrences k ss)
once_listed k [] = refl
once_listed k (s ∷ ss) = once_by (nat_eq s.0 k) (is_listed k ss) (occurrences k ss) (once_listed k ss)

twice_by : (b l w : Bool) (m : ℕ) → l ≡ nat_lt 0 m → w ≡ nat_lt 1 m → (if b then l else w) ≡ nat_lt 1 ((if b then 1 else 0) + m)
twice_by true l w m e f = e ∙ some_there m
twice_by false l w m e f = let same : m ≡ 0 + m = omega arith in f ∙ ap (nat_lt 1) same

twice_listed : (k : ℕ) (ss : List SymbolId) → is_listed_twice k ss ≡ nat_lt 1 (occurrences k ss)
twice_listed k [] = refl
twice_listed k (s ∷ ss) = twice_by (nat_eq s.0 k) (is_listed k ss) (is_listed_twice k ss) (occurrences k ss) (once_listed k ss) (twice_listed k ss)

twice_there : (k : ℕ) (t : Tree) → is_listed_twice k (declared_in t) ≡ nat_lt 1 (bindings k t)
twice_there k t = twice_listed k (declared_in t) ∙ ap (nat_lt 1) (occur_there k t)

same_set : (t : Tree) (L : Symbols) (X : VariableSet) (x : Variable) → unlisted (declared_in t) L X x ≡ valued t L X x
same_set t L X (Declared k) = (λ i. (L k && not (twice_there k t i)) || (X (Declared k) && not (listed_there k t i)))
same_set t L X (Global s) = refl

-- so what is known in the code of a body is what is known in it
known_is : (S : BodySets) (c : BodyCode) (k : ℕ) (t : Tree) → c.number ≡ k → c.declared.items ≡ declared_in t → (L : Begun) → known_there S c L ≡ known_in t (S k) L
known_is S c k t e f L = (λ i. record (S (e i)) { initial = unlisted (f i) L.symbols (S (e i)).initial }) ∙ ap (λ X. record (S k) { initial = X }) (fun_ext (same_set t L.symbols (S k).initial))

pub all_known : (S : BodySets) (c : BodyCode) (k : ℕ) (t : Tree) → c.number ≡ k → c.declared.items ≡ declared_in t → known_there S c ≡ known_in t (S k)
all_known S c k t e f = (λ i L. known_is S c k t e f L i)

-- at its start nothing is begun
pub none_begun : (c : BodyCode) → c.begun.items ≡ [] → c.in_lexical ≡ false → begun_by c ≡ nothing_begun
none_begun c e f = (λ i. record { symbols = λ k. is_listed k (e i); in_lexical = f i })

-- ---- what a tree declares

record Declares (k : ℕ) (xs : List Name) : Type 0 where
  name : Name
  there : Contains xs name
  is : is_symbol k name.symbol ≡ true

either_way : {P : Type 0} (a b : Bool) → (a || b) ≡ true → (a ≡ true → P) → (b ≡ true → P) → P
either_way true b e f g = f refl
either_way false b e f g = g e

or_left : (a b : Bool) → a ≡ true → (a || b) ≡ true
or_left true b e = refl
or_left false b e = absurd (true≢false (sym e))

or_right : (a b : Bool) → b ≡ true → (a || b) ≡ true
or_right true b e = refl
or_right false b e = e

on_left : (k : ℕ) (xs ys : List Name) → Declares k xs → Declares k (xs ++ ys)
on_left k xs ys d = record { name = d.name; there = Contains-append_left xs ys d.name d.there; is = d.is }

on_right : (k : ℕ) (xs ys : List Name) → Declares k ys → Declares k (xs ++ ys)
on_right k xs ys d = record { name = d.name; there = Contains-append_right xs ys d.name d.there; is = d.is }

among : (k : ℕ) (xs : List Name) → has_symbol k xs ≡ true → Declares k xs
among k [] e = absurd (true≢false (sym e))
among k (x ∷ xs) e =
    either_way (is_symbol k x.symbol) (has_symbol k xs) e (λ h. record { name = x; there = at_first x x xs refl; is = h })
    (λ h. let d = among k xs h in record { name = d.name; there = at_other d.name x xs d.there; is = d.is })

of_among : (k : ℕ) (xs : List Name) → Declares k xs → has_symbol k xs ≡ true
of_among k [] d = let none : d.there.0 < 0 = d.there.1 in absurd (omega (arith, none))
of_among k (x ∷ xs) d = elim (first_or_other d.name x xs d.there) [
  | inl e ↦ or_left (is_symbol k x.symbol) (has_symbol k xs) (ap (λ y. is_symbol k y.symbol) e ∙ d.is)
  | inr c ↦ or_right (is_symbol k x.symbol) (has_symbol k xs) (of_among k xs (record { name = d.name; there = c; is = d.is }))
]

own_declares : (k : ℕ) (h : Shape) (xs : List Name) → (is_binding h && has_symbol k xs) ≡ true → Declares k (declared_by h xs)
own_declares k shape.BindingIdentifier xs e = among k xs e
own_declares k h xs e = absurd (true≢false (sym e))

of_own : (k : ℕ) (h : Shape) (xs : List Name) → Declares k (declared_by h xs) → (is_binding h && has_symbol k xs) ≡ true
of_own k shape.BindingIdentifier xs d = of_among k xs d
of_own k h xs d = let none : d.there.0 < 0 = d.there.1 in absurd (omega (arith, none))

of_either : (k : ℕ) (xs ys : List Name) (a b : Bool) → (Declares k xs → a ≡ true) → (Declares k ys → b ≡ true) → Declares k (xs ++ ys) → (a || b) ≡ true
of_either k xs ys a b f g d = by (Contains-append_cases xs ys d.name d.there)
  where
    by : Contains xs d.name ⊎ Contains ys d.name → (a || b) ≡ true
    by (inl c) = or_left a b (f (record { name = d.name; there = c; is = d.is }))
    by (inr c) = or_right a b (g (record { name = d.name; there = c; is = d.is }))

mutual
  declares : (k : ℕ) (t : Tree) → binds k t ≡ true → Declares k (declared t)
  declares k (node h xs n ts) e =
      either_way (is_binding h && has_symbol k xs) (any_bind k ts) e (λ a. on_left k (declared_by h xs) (declared_all ts) (own_declares k h xs a)) (λ a. on_right k (declared_by h xs) (declared_all ts) (all_declare k ts a))

  all_declare : (k : ℕ) (ts : Trees) → any_bind k ts ≡ true → Declares k (declared_all ts)
  all_declare k none e = absurd (true≢false (sym e))
  all_declare k (t ▸ ts) e = either_way (binds k t) (any_bind k ts) e (λ a. on_left k (declared t) (declared_all ts) (declares k t a)) (λ a. on_right k (declared t) (declared_all ts) (all_declare k ts a))

mutual
  of_declares : (k : ℕ) (t : Tree) → Declares k (declared t) → binds k t ≡ true
  of_declares k (node h xs n ts) d = of_either k (declared_by h xs) (declared_all ts) (is_binding h && has_symbol k xs) (any_bind k ts) (of_own k h xs) (of_all k ts) d

  of_all : (k : ℕ) (ts : Trees) → Declares k (declared_all ts) → any_bind k ts ≡ true
  of_all k none d = let none' : d.there.0 < 0 = d.there.1 in absurd (omega (arith, none'))
  of_all k (t ▸ ts) d = of_either k (declared t) (declared_all ts) (binds k t) (any_bind k ts) (of_declares k t) (of_all k ts) d

-- ---- a step in the code of a body declares no more

-- what the first doesn't declare the second doesn't
pub Fewer : Tree → Tree → Type 0
Fewer t u = (k : ℕ) → binds k t ≡ false → binds k u ≡ false

pub fewer_itself : (t : Tree) → Fewer t t
unfolding Fewer
fewer_itself t k e = e

pub fewer_then : (t u v : Tree) → Fewer t u → Fewer u v → Fewer t v
unfolding Fewer
fewer_then t u v f g k e = g k (f k e)

pub step_fewer : (F : OwnRows) → KeepsEach F → (c : Tree) (V : Assured) (L : Begun) (p : Position) (t u : Tree) → OwnStep (own_rows F c V) L p t u → Fewer t u
unfolding Fewer
step_fewer F keeps c V L p t u s k e = by (binds k u) refl
  where
    by : (b : Bool) → binds k u ≡ b → b ≡ false
    by false h = refl
    by true h =
        let d = declares k u h in
        let there = reaches_declared (AnyRow F) (λ p n w r. (keeps r.0).declared p n w r.1) (more p t u u (some_row F c V s) (done p u)) d.name d.there in
        absurd (true≢false (sym (of_declares k t (record { name = d.name; there = there; is = d.is })) ∙ e))

-- nor more often
abbrev pub Rarer : Tree → Tree → Type 0
Rarer t u = (k : ℕ) → bindings k u ≤ bindings k t

module _ (F : OwnRows) (keeps : KeepsEach F) (c : Tree) (V : Assured) where
  mutual
    step_bound : {L : Begun} {p : Position} {t u : Tree} → OwnStep (own_rows F c V) L p t u → Rarer t u
    step_bound (own_here L p n w r) k = (keeps (known_in c V L)).bound p n w r k
    step_bound (own_inside L p h xs ts us b s) k = omega (arith, steps_bound s k)

    steps_bound : {Λ : ℕ → Begun} {π : ℕ → Position} {ts us : Trees} → OwnStepIn (own_rows F c V) Λ π ts us → (k : ℕ) → all_bindings k us ≤ all_bindings k ts
    steps_bound (own_first Λ π t u ts s) k = omega (arith, step_bound s k)
    steps_bound (own_later Λ π t ts us s) k = omega (arith, steps_bound s k)

still_once : (m n : ℕ) → m ≤ n → not (nat_lt 1 n) ≡ true → not (nat_lt 1 m) ≡ true
still_once m n h e = by (nat_lt 1 m) refl
  where
    by : (b : Bool) → nat_lt 1 m ≡ b → not b ≡ true
    by false f = refl
    by true f = let large = ltb-true 1 m f in absurd (true≢false (sym e ∙ ap not (lt-ltb 1 n (omega (arith, large, h)))))

-- so all that was known in it is known after the step
pub known_more : (V : Assured) (t u : Tree) → Fewer t u → Rarer t u → (L : Symbols) (x : Variable) → valued t L V.initial x ≡ true → valued u L V.initial x ≡ true
unfolding Fewer
known_more V t u f g L (Declared k) h = by (has k t L V.initial h)
  where
    not_so : (b : Bool) → not b ≡ true → b ≡ false
    not_so true e = absurd (true≢false (sym e))
    not_so false e = refl

    by : Has k t L V.initial → valued u L V.initial (Declared k) ≡ true
    by (let_here a b) = had k u L V.initial (let_here a (still_once (bindings k u) (bindings k t) (g k) b))
    by (all_along e) =
        let (there, free) = and_parts (V.initial (Declared k)) (not (binds k t)) e in
        had k u L V.initial (all_along (λ i. there i && not (f k (not_so (binds k t) free) i)))
known_more V t u f g L (Global s) h = h

-- ---- steps in a body, one after another

module _ (R Q : Begun → Position → Tree → Tree → Type 0) (same : (L : Begun) (p : Position) (n w : Tree) → R L p n w → Q L p n w) where
  mutual
    step_by : {L : Begun} {p : Position} {t u : Tree} → OwnStep R L p t u → OwnStep Q L p t u
    step_by (own_here L p n w r) = own_here L p n w (same L p n w r)
    step_by (own_inside L p h xs ts us b s) = own_inside L p h xs ts us b (steps_by s)

    steps_by : {Λ : ℕ → Begun} {π : ℕ → Position} {ts us : Trees} → OwnStepIn R Λ π ts us → OwnStepIn Q Λ π ts us
    steps_by (own_first Λ π t u ts s) = own_first Λ π t u ts (step_by s)
    steps_by (own_later Λ π t ts us s) = own_later Λ π t ts us (steps_by s)

-- what is known as the first begins is known at each, so that each is a step over its own code
module _ (F : OwnRows) (keeps : KeepsEach F) (wide : ReadsMore F) (V : Assured) (p : Position) (Q : Tree → Tree → Type 0) (over : Tree → Tree) (step_in : (t u : Tree) → OwnStep (own_rows F t V) nothing_begun p t u → Q (over t) (over u)) where
  record Less (s t : Tree) : Type 0 where
    fewer : Fewer s t
    rarer : (k : ℕ) → bindings k t ≤ bindings k s

  known_on : (s t : Tree) → Less s t → (L : Symbols) (x : Variable) → valued s L V.initial x ≡ true → valued t L V.initial x ≡ true
  known_on s t l = known_more V s t l.fewer l.rarer

  one_in : (s t u : Tree) → Less s t → OwnStep (own_rows F s V) nothing_begun p t u → Q (over t) (over u) × Less s u
  one_in s t u l r = (
    step_in t u (step_by (own_rows F s V) (own_rows F t V) (λ L. wide (known_in s V L) (valued t L.symbols V.initial) (known_on s t l L.symbols)) r),
    record { fewer = fewer_then s t u l.fewer (step_fewer F keeps s V nothing_begun p t u r); rarer = λ k. omega (arith, l.rarer k, step_bound F keeps s V r k) },
  )

  several_in : (s t u : Tree) → Less s t → Several (OwnStep (own_rows F s V) nothing_begun p) t u → Several Q (over t) (over u) × Less s u
  several_in s _ _ l (once t u r) = let (q, g) = one_in s t u l r in (once (over t) (over u) q, g)
  several_in s _ _ l (again t u v a r) =
      let (qs, g) = several_in s t u l a in
      let (q, h) = one_in s u v g r in
      (again (over t) (over u) (over v) qs q, h)

  pub several_known : (t u : Tree) → Several (OwnStep (own_rows F t V) nothing_begun p) t u → Several Q (over t) (over u)
  several_known t u m = (several_in t t u (record { fewer = fewer_itself t; rarer = λ k. omega arith }) m).0
