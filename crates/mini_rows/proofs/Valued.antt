-- What is begun at a child has its value there, and no scope in the children hides it, where the code declares it only once.
use Rattle.std.specs.Prelude.{ℕ, zero, suc, ◌≡◌, ◌≤◌, ◌+◌, ◌⊎◌, ◌&&◌, ◌||◌, not, nat_lt, Bool, true, false, List, [], ◌∷◌, ◌++◌, Option, Some, None, if◌then◌else◌}
use Rattle.std.proofs.Common.{ap, ◌∙◌, sym, subst, refl, inl, inr, arith, true≢false}
use Rattle.std.proofs.lemmas.Bool.{and_parts, lt-ltb}
use Rattle.mini_model.specs.declared.name.Name.{Name}
use Rattle.mini_model.specs.declared.name.SymbolId.{SymbolId}
use Rattle.mini_model.specs.declared.operator.UnaryOperator.TheVariants.{LogicalNot}
use Rattle.mini_model.specs.declared.place.Position.{Position}
use Rattle.mini_model.specs.declared.shape.Shape.{Shape}
use Rattle.mini_model.specs.declared.shape.Shape.TheVariants as shape
use Rattle.mini_model.specs.Tree.{Tree, Trees, node, none, ◌▸◌}
use Rattle.mini_laws.specs.Value.{Variable, Declared, Global, VariableSet, choose, is_in, variable_by, variable_eq, variables}
use Rattle.mini_laws.specs.Naming.{Summary, AClass, Declared as What, Variables, summary, summaries, lets_all, lets_first, lets_of, class_lets, first_facts, facts_all, front, is_lexical, scope_of}
use Rattle.mini_laws.specs.Skeleton.{plus, Within, Off, hidden, hidden_all}
use Rattle.mini_rows.specs.Past.{is_binding, is_symbol, has_symbol, binds, any_bind}
use Rattle.mini_rows.specs.Steady.{times_named, bindings, all_bindings, Symbols, passing, Begun, Beginning, OfChild, OfHead, OfNone, beginning, nth_lets, lets_as, head_lets, begins_by, begins, begun_at, valued}
use Rattle.mini_rows.proofs.Unbound.{all_unhidden}

-- ---- lists

-- what isn't false is true
pub told : (b : Bool) → (b ≡ false → ⊥) → b ≡ true
told true f = refl
told false f = absurd (f refl)

module _ (k : ℕ) where
  abbrev pub In : List Variable → Type 0
  In xs = is_in (Declared k) xs ≡ true

  pub in_either : (xs ys : List Variable) → In (xs ++ ys) → In xs ⊎ In ys
  in_either [] ys e = inr e
  in_either (x ∷ xs) ys e = by (variable_eq x (Declared k)) e (in_either xs ys)
    where
      by : (b : Bool) → choose b true (is_in (Declared k) (xs ++ ys)) ≡ true → (In (xs ++ ys) → In xs ⊎ In ys) → (choose b true (is_in (Declared k) xs) ≡ true) ⊎ In ys
      by true e f = inl refl
      by false e f = f e

  pub in_left : (xs ys : List Variable) → In xs → In (xs ++ ys)
  in_left [] ys e = absurd (true≢false (sym e))
  in_left (x ∷ xs) ys e = by (variable_eq x (Declared k)) e (in_left xs ys)
    where
      by : (b : Bool) → choose b true (is_in (Declared k) xs) ≡ true → (In xs → In (xs ++ ys)) → choose b true (is_in (Declared k) (xs ++ ys)) ≡ true
      by true e f = refl
      by false e f = f e

  pub in_right : (xs ys : List Variable) → In ys → In (xs ++ ys)
  in_right [] ys e = e
  in_right (x ∷ xs) ys e = by (variable_eq x (Declared k)) (in_right xs ys e)
    where
      by : (b : Bool) → In (xs ++ ys) → choose b true (is_in (Declared k) (xs ++ ys)) ≡ true
      by true f = refl
      by false f = f

  -- ---- what is declared in a tree is there at least once

  some_named : (xs : List Name) → times_named k xs ≡ 0 → has_symbol k xs ≡ false
  some_named [] e = refl
  some_named (x ∷ xs) e = by (is_symbol k x.symbol) e (some_named xs)
    where
      by : (b : Bool) → (if b then 1 else 0) + times_named k xs ≡ 0 → (times_named k xs ≡ 0 → has_symbol k xs ≡ false) → (b || has_symbol k xs) ≡ false
      by true e f = absurd (omega (arith, e))
      by false e f = f (omega (arith, e))

  own_unbound : (b : Bool) (xs : List Name) → (if b then times_named k xs else 0) ≡ 0 → (b && has_symbol k xs) ≡ false
  own_unbound true xs e = some_named xs e
  own_unbound false xs e = refl

  mutual
    pub unbound : (t : Tree) → bindings k t ≡ 0 → binds k t ≡ false
    unbound (node h xs n ts) e =
        (λ i. own_unbound (is_binding h) xs (omega (arith, e)) i || all_unbound ts (omega (arith, e)) i)

    pub all_unbound : (ts : Trees) → all_bindings k ts ≡ 0 → any_bind k ts ≡ false
    all_unbound none e = refl
    all_unbound (t ▸ ts) e = (λ i. unbound t (omega (arith, e)) i || all_unbound ts (omega (arith, e)) i)

  positive : (m : ℕ) → (m ≡ 0 → ⊥) → 1 ≤ m
  positive zero f = absurd (f refl)
  positive (suc m) f = omega arith

  -- and so is what a scope in it hides
  hidden_once : (ts : Trees) → In (hidden_all ts) → 1 ≤ all_bindings k ts
  hidden_once ts e = positive (all_bindings k ts) (λ z. true≢false (sym e ∙ all_unhidden k ts (all_unbound ts z)))

  -- ---- what a tree lets, and a scope in it hides, is declared twice in it

  same_symbol : (s : List ℕ) (o : Option SymbolId) → variable_eq (variable_by s o) (Declared k) ≡ true → is_symbol k o ≡ true
  same_symbol s (Some y) e = e
  same_symbol s None e = absurd (true≢false (sym e))

  counted : (b : Bool) (m : ℕ) → b ≡ true → 1 ≤ (if b then 1 else 0) + m
  counted true m e = omega arith
  counted false m e = absurd (true≢false (sym e))

  front_named : (xs : List Name) → In (front (variables xs)) → 1 ≤ times_named k xs
  front_named [] e = absurd (true≢false (sym e))
  front_named (x ∷ xs) e = counted (is_symbol k x.symbol) (times_named k xs) (same_symbol x.spelling x.symbol (only (variable_eq (variable_by x.spelling x.symbol) (Declared k)) e))
    where
      only : (b : Bool) → choose b true false ≡ true → b ≡ true
      only true e = refl
      only false e = e

  -- what isn't a name itself lets what its children do, and has no scope
  record Lets (h : Shape) (is : List Summary) : Type 0 where
    below : In (lets_all is)
    open_scope : scope_of h is ≡ []

  of_first : (is : List Summary) → In (lets_first is) → In (lets_all is)
  of_first [] e = e
  of_first (i ∷ is) e = in_left i.lets (lets_all is) e

  of_lexical : (b : Bool) (xs : List Variable) → In (choose b xs []) → In xs
  of_lexical true xs e = e
  of_lexical false xs e = absurd (true≢false (sym e))

  of_class : (o : Option What) (xs : List Variable) → In (class_lets o xs) → In xs
  of_class (Some AClass) xs e = e
  of_class (Some (Variables v)) xs e = absurd (true≢false (sym e))
  of_class None xs e = absurd (true≢false (sym e))

  lets_below : (h : Shape) (xs : List Variable) (is : List Summary) → is_binding h ≡ false → In (lets_of h xs is) → Lets h is
  lets_below shape.BindingIdentifier xs is b e = absurd (true≢false b)
  lets_below (shape.UnaryExpression LogicalNot) xs is b e = record { below = of_first is e; open_scope = refl }
  lets_below shape.Listed xs is b e = record { below = e; open_scope = refl }
  lets_below shape.ObjectPattern xs is b e = record { below = e; open_scope = refl }
  lets_below shape.ArrayPattern xs is b e = record { below = e; open_scope = refl }
  lets_below (shape.BindingProperty s c) xs is b e = record { below = e; open_scope = refl }
  lets_below shape.RestElement xs is b e = record { below = e; open_scope = refl }
  lets_below shape.AssignmentPattern xs is b e = record { below = of_first is e; open_scope = refl }
  lets_below shape.VariableDeclarator xs is b e = record { below = of_first is e; open_scope = refl }
  lets_below (shape.VariableDeclaration v) xs is b e = record { below = of_first is (of_lexical (is_lexical v) (lets_first is) e); open_scope = refl }
  lets_below (shape.Class true) xs is b e = record { below = of_first is e; open_scope = refl }
  lets_below shape.SwitchCase xs is b e = record { below = e; open_scope = refl }
  lets_below shape.ExportNamedDeclaration xs is b e = record { below = of_first is e; open_scope = refl }
  lets_below shape.ExportDefaultDeclaration xs is b e = record { below = of_first is (of_class (first_facts (facts_all is)).declared (lets_first is) e); open_scope = refl }
  lets_below h xs is b e = absurd (true≢false (sym e))

  -- what it lets is declared in it
  named_once : (h : Shape) (xs : List Name) (n : ℕ) (ts : Trees) → is_binding h ≡ true → In (lets_of h (variables xs) (summaries ts)) → 1 ≤ bindings k (node h xs n ts)
  named_once shape.BindingIdentifier xs n ts q e = omega (arith, front_named xs e)
  named_once h xs n ts q e = absurd (true≢false (sym q))

  once_by : (h : Shape) (xs : List Name) (n : ℕ) (ts : Trees) (b : Bool) → is_binding h ≡ b → (In (lets_all (summaries ts)) → 1 ≤ all_bindings k ts) → In (lets_of h (variables xs) (summaries ts)) → 1 ≤ bindings k (node h xs n ts)
  once_by h xs n ts true q below e = named_once h xs n ts q e
  once_by h xs n ts false q below e = omega (arith, below (lets_below h (variables xs) (summaries ts) q e).below)

  first_or_later : (m n : ℕ) {A B : Type 0} → (A → 1 ≤ m) → (B → 1 ≤ n) → A ⊎ B → 1 ≤ m + n
  first_or_later m n f g (inl a) = omega (arith, f a)
  first_or_later m n f g (inr b) = omega (arith, g b)

  mutual
    lets_once : (t : Tree) → In (summary t).lets → 1 ≤ bindings k t
    lets_once (node h xs n ts) e = once_by h xs n ts (is_binding h) refl (λ f. all_lets_once ts f) e

    pub all_lets_once : (ts : Trees) → In (lets_all (summaries ts)) → 1 ≤ all_bindings k ts
    all_lets_once none e = absurd (true≢false (sym e))
    all_lets_once (t ▸ ts) e = first_or_later (bindings k t) (all_bindings k ts) (λ f. lets_once t f) (λ f. all_lets_once ts f) (in_either (summary t).lets (lets_all (summaries ts)) e)

  -- and where a scope in it hides that, it is so twice
  named_twice : (h : Shape) (xs : List Name) (n : ℕ) (ts : Trees) → is_binding h ≡ true → In (lets_of h (variables xs) (summaries ts)) → In (scope_of h (summaries ts) ++ hidden_all ts) → 2 ≤ bindings k (node h xs n ts)
  named_twice shape.BindingIdentifier xs n ts q e f = omega (arith, front_named xs e, hidden_once ts f)
  named_twice h xs n ts q e f = absurd (true≢false (sym q))

  twice_by : (h : Shape) (xs : List Name) (n : ℕ) (ts : Trees) (b : Bool) → is_binding h ≡ b → (In (lets_all (summaries ts)) → In (hidden_all ts) → 2 ≤ all_bindings k ts) → In (lets_of h (variables xs) (summaries ts)) → In (scope_of h (summaries ts) ++ hidden_all ts) → 2 ≤ bindings k (node h xs n ts)
  twice_by h xs n ts true q below e f = named_twice h xs n ts q e f
  twice_by h xs n ts false q below e f =
      let l = lets_below h (variables xs) (summaries ts) q e in
      omega (arith, below l.below (subst (λ vs. In (vs ++ hidden_all ts)) l.open_scope f))

  one_hidden : (t : Tree) → In (hidden t) → 1 ≤ bindings k t
  one_hidden t g = omega (arith, hidden_once (t ▸ none) (in_left (hidden t) [] g))

  first_and_later : (m n : ℕ) {A B C D : Type 0} → (A → C → 2 ≤ m) → (A → 1 ≤ m) → (C → 1 ≤ m) → (B → D → 2 ≤ n) → (B → 1 ≤ n) → (D → 1 ≤ n) → A ⊎ B → C ⊎ D → 2 ≤ m + n
  first_and_later m n f f' f'' g g' g'' (inl a) (inl c) = omega (arith, f a c)
  first_and_later m n f f' f'' g g' g'' (inl a) (inr d) = omega (arith, f' a, g'' d)
  first_and_later m n f f' f'' g g' g'' (inr b) (inl c) = omega (arith, g' b, f'' c)
  first_and_later m n f f' f'' g g' g'' (inr b) (inr d) = omega (arith, g b d)

  mutual
    lets_twice : (t : Tree) → In (summary t).lets → In (hidden t) → 2 ≤ bindings k t
    lets_twice (node h xs n ts) e f = twice_by h xs n ts (is_binding h) refl (λ e f. all_lets_twice ts e f) e f

    pub all_lets_twice : (ts : Trees) → In (lets_all (summaries ts)) → In (hidden_all ts) → 2 ≤ all_bindings k ts
    all_lets_twice none e f = absurd (true≢false (sym e))
    all_lets_twice (t ▸ ts) e f =
        first_and_later (bindings k t) (all_bindings k ts) (λ e f. lets_twice t e f) (lets_once t) (one_hidden t) (λ e f. all_lets_twice ts e f) (all_lets_once ts) (hidden_once ts) (in_either (summary t).lets (lets_all (summaries ts)) e) (in_either (hidden t) (hidden_all ts) f)

  -- ---- what is known at a child

  pub once : (m : ℕ) → not (nat_lt 1 m) ≡ true → m ≤ 1
  once zero e = omega arith
  once (suc zero) e = omega arith
  once (suc (suc m)) e = absurd (true≢false (sym e ∙ ap not (lt-ltb 1 (suc (suc m)) (omega arith))))

  or_either : (a b : Bool) → (a || b) ≡ true → (a ≡ true) ⊎ (b ≡ true)
  or_either true b e = inl refl
  or_either false b e = inr e

  pub or_first : (a b : Bool) → a ≡ true → (a || b) ≡ true
  or_first true b e = refl
  or_first false b e = absurd (true≢false (sym e))

  pub or_second : (a b : Bool) → b ≡ true → (a || b) ≡ true
  or_second true b e = refl
  or_second false b e = e

  both : (a b : Bool) → a ≡ true → b ≡ true → (a && b) ≡ true
  both true b e f = f
  both false b e f = e

  pub passed : (L : Symbols) (xs : List Variable) → passing L xs k ≡ true → (L k ≡ true) ⊎ In xs
  passed L xs e = or_either (L k) (is_in (Declared k) xs) e

  -- what begins behind a child one of the children lets
  nth_in : (is : List Summary) (i : ℕ) → In (nth_lets is i) → In (lets_all is)
  nth_in [] i e = e
  nth_in (s ∷ is) zero e = in_left s.lets (lets_all is) e
  nth_in (s ∷ is) (suc i) e = in_right s.lets (lets_all is) (nth_in is i e)

  as_lets : (o : Option What) (xs : List Variable) → In (lets_as o xs) → In xs
  as_lets (Some (Variables v)) xs e = of_lexical (is_lexical v) xs e
  as_lets (Some AClass) xs e = absurd (true≢false (sym e))
  as_lets None xs e = absurd (true≢false (sym e))

  head_in : (is : List Summary) → In (head_lets is) → In (lets_all is)
  head_in [] e = e
  head_in (s ∷ is) e = in_left s.lets (lets_all is) (as_lets s.facts.declared s.lets e)

  begins_in : (b : Beginning) (is : List Summary) (i : ℕ) → In (begins_by b is i) → In (lets_all is)
  begins_in OfChild is i e = nth_in is i e
  begins_in OfHead is i e = head_in is e
  begins_in OfNone is i e = absurd (true≢false (sym e))

  -- so what is begun there was so before, or one of the children lets it
  pub begun_before : (h : Shape) (p : Position) (L : Begun) (is : List Summary) (i : ℕ) → (begun_at h p L is i).symbols k ≡ true → (L.symbols k ≡ true) ⊎ In (lets_all is)
  begun_before h p L is zero e = inl e
  begun_before h p L is (suc i) e = by (passed (begun_at h p L is i).symbols (begins L.in_lexical h p is i) e) (λ f. begun_before h p L is i f)
    where
      by : ((begun_at h p L is i).symbols k ≡ true) ⊎ In (begins L.in_lexical h p is i) → ((begun_at h p L is i).symbols k ≡ true → (L.symbols k ≡ true) ⊎ In (lets_all is)) → (L.symbols k ≡ true) ⊎ In (lets_all is)
      by (inl f) g = g f
      by (inr f) g = inr (begins_in (beginning L.in_lexical h p i) is i f)

  -- which has its value where the code declares it once
  pub data Has (t : Tree) (L : Symbols) (X : VariableSet) : Type 0 where
    let_here : L k ≡ true → not (nat_lt 1 (bindings k t)) ≡ true → Has t L X
    all_along : (X (Declared k) && not (binds k t)) ≡ true → Has t L X

  pub has : (t : Tree) (L : Symbols) (X : VariableSet) → valued t L X (Declared k) ≡ true → Has t L X
  has t L X e = by (or_either (L k && not (nat_lt 1 (bindings k t))) (X (Declared k) && not (binds k t)) e)
    where
      by : ((L k && not (nat_lt 1 (bindings k t))) ≡ true) ⊎ ((X (Declared k) && not (binds k t)) ≡ true) → Has t L X
      by (inl h) = let (a, b) = and_parts (L k) (not (nat_lt 1 (bindings k t))) h in let_here a b
      by (inr h) = all_along h

  pub had : (t : Tree) (L : Symbols) (X : VariableSet) → Has t L X → valued t L X (Declared k) ≡ true
  had t L X (let_here a b) = or_first (L k && not (nat_lt 1 (bindings k t))) (X (Declared k) && not (binds k t)) (both (L k) (not (nat_lt 1 (bindings k t))) a b)
  had t L X (all_along h) = or_second (L k && not (nat_lt 1 (bindings k t))) (X (Declared k) && not (binds k t)) h

-- ---- the sets

module _ (c : Tree) (X : VariableSet) where
  abbrev K : Symbols → VariableSet
  K L = valued c L X

  -- no scope in the children of a node hides what is begun in it, if none hides what was before
  pub begun_off : (h : Shape) (p : Position) (L : Begun) (ts : Trees) → Off (hidden_all ts) (K L.symbols) → ((k : ℕ) → all_bindings k ts ≤ bindings k c) → (i : ℕ) → Off (hidden_all ts) (K (begun_at h p L (summaries ts) i).symbols)
  unfolding Off
  begun_off h p L ts o less i (Global s) e = absurd (true≢false (sym e))
  begun_off h p L ts o less i (Declared k) e = by (has k c (begun_at h p L (summaries ts) i).symbols X e)
    where
      twice : In k (lets_all (summaries ts)) → not (nat_lt 1 (bindings k c)) ≡ true → (b : Bool) → is_in (Declared k) (hidden_all ts) ≡ b → b ≡ false
      twice e f false q = refl
      twice e f true q = absurd (omega (arith, all_lets_twice k ts e q, less k, once k (bindings k c) f))

      of : not (nat_lt 1 (bindings k c)) ≡ true → (L.symbols k ≡ true) ⊎ In k (lets_all (summaries ts)) → is_in (Declared k) (hidden_all ts) ≡ false
      of f (inl a) = o (Declared k) (had k c L.symbols X (let_here a f))
      of f (inr a) = twice a f (is_in (Declared k) (hidden_all ts)) refl

      by : Has k c (begun_at h p L (summaries ts) i).symbols X → is_in (Declared k) (hidden_all ts) ≡ false
      by (let_here a f) = of f (begun_before k h p L (summaries ts) i a)
      by (all_along f) = o (Declared k) (had k c L.symbols X (all_along f))

  -- and what begins behind a child has its value there
  pub more_known : (L : Symbols) (xs : List Variable) (S : VariableSet) → Within (K L) S → Within (K (passing L xs)) (plus S xs)
  unfolding Within
  more_known L xs S w (Global s) e = absurd (true≢false (sym e))
  more_known L xs S w (Declared k) e = by (has k c (passing L xs) X e)
    where
      here : (b : Bool) → b ≡ true → choose b true (S (Declared k)) ≡ true
      here true e = refl
      here false e = absurd (true≢false (sym e))

      before : (b : Bool) → S (Declared k) ≡ true → choose b true (S (Declared k)) ≡ true
      before true e = refl
      before false e = e

      of : not (nat_lt 1 (bindings k c)) ≡ true → (L k ≡ true) ⊎ In k xs → plus S xs (Declared k) ≡ true
      of f (inl a) = before (is_in (Declared k) xs) (w (Declared k) (had k c L X (let_here a f)))
      of f (inr a) = here (is_in (Declared k) xs) a

      by : Has k c (passing L xs) X → plus S xs (Declared k) ≡ true
      by (let_here a f) = of f (passed k L xs a)
      by (all_along f) = before (is_in (Declared k) xs) (w (Declared k) (had k c L X (all_along f)))
