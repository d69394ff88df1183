-- Each name in a statement that can't be written and that it takes along is declared by a scope in it.
use Rattle.std.specs.Prelude.{ℕ, suc, ◌+◌, ◌≤◌, ◌≡◌, refl, nat_eq, Bool, true, false, ◌&&◌, ◌||◌, not, List, [], ◌∷◌, ◌++◌, length, drop, map, Option, Some, None, if◌then◌else◌}
use Rattle.std.proofs.Common.{ap, ◌∙◌, sym, subst, inl, inr, ◌⊎◌, arith, true≢false}
use Rattle.std.proofs.lemmas.Bool.{and_parts, eqb-true, eq-eqb}
use Rattle.mini_model.specs.declared.kind.VariableDeclarationKind.TheVariants.{Const}
use Rattle.mini_model.specs.declared.name.Name.{Name}
use Rattle.mini_model.specs.declared.operator.UnaryOperator.TheVariants.{LogicalNot}
use Rattle.mini_model.specs.declared.name.SymbolId.{SymbolId}
use Rattle.mini_model.specs.declared.shape.Shape.{Shape}
use Rattle.mini_model.specs.declared.shape.Shape.TheVariants as shape
use Rattle.mini_model.specs.Tree.{Tree, Trees, node, none, ◌▸◌, count, shape_of}
use Rattle.mini_model.specs.Weight.{same_text}
use Rattle.mini_laws.specs.declared.names.Use.{Use}
use Rattle.mini_laws.specs.declared.names.Use.TheVariants.{Read}
use Rattle.mini_laws.specs.declared.names.Binding.{Binding}
use Rattle.mini_laws.specs.declared.names.Declared.TheVariants as declared
use Rattle.mini_laws.specs.DeclaredNames.{names_of, all_names, body_names, all_body_names, bound_names, has_inner, is_spelled, with_name, with_names}
use Rattle.mini_laws.specs.Scopes.{use_of, lexical_scope, body_scope, merged, scopes_by, opened}
use Rattle.mini_laws.specs.Resolved.{Environment, or_else, own_symbol, symbol_of}
use Rattle.mini_laws.specs.Scoped.{NamesScoped, Scoped, AllScoped}
use Rattle.mini_laws.specs.Symbols.{symbols_in, declared as declared_in, declared_from, is_same, times}
use Rattle.mini_laws.specs.Value.{Variable, Declared, Global, variable_of, variables, variable_eq, choose, is_in}
use Rattle.mini_laws.specs.State.{Fixed, Writable}
use Rattle.mini_laws.specs.Naming.{front, lets_all, lets_first, summary, summaries}
use Rattle.mini_laws.specs.Fixity.{fixity_by, declared_by as declares_by, stricter, fixed_by, fixed_by_any}
use Rattle.mini_laws.proofs.Changes.{times_three}
use Rattle.mini_laws.proofs.Numbers.{symbol_of_both, fresh, with_fresh}
use Rattle.mini_kept.specs.Loosely.{symbol_for}
use Rattle.mini_kept.proofs.Hoisting.{bound_scoped}
use Rattle.mini_kept.proofs.SameScopes.{same_texts}
use Rattle.mini_rows.specs.Lists.{is_name_shape, binds, all_bind, encloses_by, is_body_of_function, holds, encloses, all_enclose}

-- ---- a scope that has a name of some spelling

abbrev named : List ℕ → List Binding → Bool
named s [] = false
named s (b ∷ bs) = same_text b.name.spelling s || named s bs

neither : (a b : Bool) → (a || b) ≡ false → (a ≡ false) × (b ≡ false)
neither true b e = absurd (true≢false e)
neither false b e = (refl, e)

unfound : (s : List ℕ) (bs : List Binding) → named s bs ≡ false → symbol_of Read s bs ≡ None
unfound s [] e = refl
unfound s (b ∷ bs) e =
    let (own, rest) = neither (same_text b.name.spelling s) (named s bs) e in
    ap (λ o. or_else o (own_symbol Read s b)) (unfound s bs rest) ∙ ap (λ c. if c then b.name.symbol else None) own

-- a name that stands outside of it
outside : (s : List ℕ) (env : Environment) (bs : List Binding) → named s bs ≡ false → symbol_of Read s (env ++ bs) ≡ symbol_of Read s env
outside s env bs e = symbol_of_both Read s env bs ∙ ap (λ o. or_else o (symbol_of Read s env)) (unfound s bs e)

-- declared there, or a name without a symbol is
pub record Declares (x : Variable) (ss : List (Option SymbolId)) : Type 0 where
  pub symbol : Option SymbolId
  pub either : (symbol ≡ symbol_for x) ⊎ (symbol ≡ None)
  pub there : 1 ≤ times symbol ss

abbrev Finds : List ℕ → List Binding → Type 0
Finds s bs = (1 ≤ times None (symbols_in bs)) ⊎ ((k : SymbolId) × (symbol_of Read s bs ≡ Some k) × (1 ≤ times (Some k) (symbols_in bs)))

counted : (k : Option SymbolId) (b : Binding) (bs : List Binding) → 1 ≤ times k (symbols_in bs) → 1 ≤ times k (symbols_in (b ∷ bs))
counted k b bs h = omega (arith, h)

last_finds : (o : Option SymbolId) (b : Binding) (bs : List Binding) → b.name.symbol ≡ o → (s : List ℕ) → symbol_of Read s (b ∷ bs) ≡ o → Finds s (b ∷ bs)
last_finds None b bs e s f = inl (let one : times None (symbols_in (b ∷ bs)) ≡ 1 + times None (symbols_in bs) = ap (λ o. (if is_same None o then 1 else 0) + times None (symbols_in bs)) e in omega (arith, one))
last_finds (Some k) b bs e s f =
    inr (
      k,
      f,
      (let one : times (Some k) (symbols_in (b ∷ bs)) ≡ 1 + times (Some k) (symbols_in bs) = ap (λ o. (if is_same (Some k) o then 1 else 0) + times (Some k) (symbols_in bs)) e ∙ ap (λ c. (if c then 1 else 0) + times (Some k) (symbols_in bs)) (eq-eqb k.0 k.0 refl) in omega (arith, one)),
    )

finds : (s : List ℕ) (bs : List Binding) → named s bs ≡ true → Finds s bs
finds s [] e = absurd (true≢false (sym e))
finds s (b ∷ bs) e = by (λ f. finds s bs f) (named s bs) refl
  where
    further : Finds s bs → Finds s (b ∷ bs)
    further (inl m) = inl (counted None b bs m)
    further (inr (k, f, m)) = inr (k, ap (λ o. or_else o (own_symbol Read s b)) f, counted (Some k) b bs m)

    or_this : (a c : Bool) → c ≡ false → (a || c) ≡ true → a ≡ true
    or_this true c f g = refl
    or_this false c f g = absurd (true≢false (sym g ∙ f))

    by : (named s bs ≡ true → Finds s bs) → (c : Bool) → named s bs ≡ c → Finds s (b ∷ bs)
    by rest true f = further (rest f)
    by rest false f =
        let own = or_this (same_text b.name.spelling s) (named s bs) f e in
        last_finds b.name.symbol b bs refl s (ap (λ o. or_else o (own_symbol Read s b)) (unfound s bs f) ∙ ap (λ c. if c then b.name.symbol else None) own)

equal_symbol : (m : ℕ) (x : Variable) → variable_eq (Declared m) x ≡ true → Some (record { 0 = m }) ≡ symbol_for x
equal_symbol m (Declared n) e = λ i. Some (record { 0 = eqb-true m n e i })
equal_symbol m (Global s) e = absurd (true≢false (sym e))

-- a variable by a name whose symbol the scopes around give
record Name_of (x : Variable) (env : Environment) : Type 0 where
  spelling : List ℕ
  symbol : Option SymbolId
  is : variable_eq (variable_of (record { spelling = spelling; symbol = symbol })) x ≡ true
  given : symbol ≡ symbol_of Read spelling env

-- where the last scope has its spelling, it is declared there
declared_there : (x : Variable) (env : Environment) (bs : List Binding) (y : Name_of x (env ++ bs)) → named y.spelling bs ≡ true → Declares x (symbols_in bs)
declared_there x env bs y e = by (finds y.spelling bs e)
  where
    by : Finds y.spelling bs → Declares x (symbols_in bs)
    by (inl m) = record { symbol = None; either = inr refl; there = m }
    by (inr (k, f, m)) =
        let its : y.symbol ≡ Some k = y.given ∙ symbol_of_both Read y.spelling env bs ∙ ap (λ o. or_else o (symbol_of Read y.spelling env)) f in
        record { symbol = Some k; either = inl (equal_symbol k.0 x (subst (λ o. variable_eq (variable_of (record { spelling = y.spelling; symbol = o })) x ≡ true) its y.is)); there = m }

abbrev further_out : (x : Variable) (env : Environment) (bs : List Binding) (y : Name_of x (env ++ bs)) → named y.spelling bs ≡ false → Name_of x env
further_out x env bs y e = record { spelling = y.spelling; symbol = y.symbol; is = y.is; given = y.given ∙ outside y.spelling env bs e }

-- ---- the scopes that nodes open have the names that they are of

or_first : (a b : Bool) → a ≡ true → (a || b) ≡ true
or_first true b e = refl
or_first false b e = absurd (true≢false (sym e))

or_second : (a b : Bool) → b ≡ true → (a || b) ≡ true
or_second true b e = refl
or_second false b e = e

spelled_both : (s : List ℕ) (xs ys : List Name) → is_spelled s (xs ++ ys) ≡ (is_spelled s xs || is_spelled s ys)
spelled_both s [] ys = refl
spelled_both s (x ∷ xs) ys = ap (λ b. same_text x.spelling s || b) (spelled_both s xs ys) ∙ grouped (same_text x.spelling s) (is_spelled s xs) (is_spelled s ys)
  where
    grouped : (a b c : Bool) → (a || (b || c)) ≡ ((a || b) || c)
    grouped true b c = refl
    grouped false b c = refl

spelled_first : (s : List ℕ) (xs ys : List Name) → is_spelled s xs ≡ true → is_spelled s (xs ++ ys) ≡ true
spelled_first s xs ys e = spelled_both s xs ys ∙ or_first (is_spelled s xs) (is_spelled s ys) e

spelled_second : (s : List ℕ) (xs ys : List Name) → is_spelled s ys ≡ true → is_spelled s (xs ++ ys) ≡ true
spelled_second s xs ys e = spelled_both s xs ys ∙ or_second (is_spelled s xs) (is_spelled s ys) e

-- names with others have those and these
still_spelled : (s : List ℕ) (seen : List Name) (x : Name) → is_spelled s seen ≡ true → is_spelled s (with_name seen x) ≡ true
still_spelled s seen x e = by (is_spelled x.spelling seen)
  where
    by : (b : Bool) → is_spelled s (if b then seen else seen ++ x ∷ []) ≡ true
    by true = e
    by false = spelled_first s seen (x ∷ []) e

newly_spelled : (s : List ℕ) (seen : List Name) (x : Name) → same_text x.spelling s ≡ true → is_spelled s (with_name seen x) ≡ true
newly_spelled s seen x e = by (is_spelled x.spelling seen) refl
  where
    by : (b : Bool) → is_spelled x.spelling seen ≡ b → is_spelled s (if is_spelled x.spelling seen then seen else seen ++ x ∷ []) ≡ true
    by true f = ap (λ b. is_spelled s (if b then seen else seen ++ x ∷ [])) f ∙ ap (λ r. is_spelled r seen) (sym (same_texts x.spelling s e)) ∙ f
    by false f = ap (λ b. is_spelled s (if b then seen else seen ++ x ∷ [])) f ∙ spelled_second s seen (x ∷ []) (or_first (same_text x.spelling s) false e)

all_seen : (s : List ℕ) (seen xs : List Name) → is_spelled s seen ≡ true → is_spelled s (with_names seen xs) ≡ true
unfolding with_names
all_seen s seen [] e = e
all_seen s seen (x ∷ xs) e = all_seen s (with_name seen x) xs (still_spelled s seen x e)

all_added : (s : List ℕ) (seen xs : List Name) → is_spelled s xs ≡ true → is_spelled s (with_names seen xs) ≡ true
unfolding with_names
all_added s seen [] e = absurd (true≢false (sym e))
all_added s seen (x ∷ xs) e = by (λ g. all_added s (with_name seen x) xs g) (same_text x.spelling s) refl e
  where
    by : (is_spelled s xs ≡ true → is_spelled s (with_names (with_name seen x) xs) ≡ true) → (b : Bool) → same_text x.spelling s ≡ b → (b || is_spelled s xs) ≡ true → is_spelled s (with_names (with_name seen x) xs) ≡ true
    by rest true f g = all_seen s (with_name seen x) xs (newly_spelled s seen x f)
    by rest false f g = rest g

named_by : (s : List ℕ) (h : Bool) (xs : List Name) → named s (map (λ x. record { name = x; hoists = h }) xs) ≡ is_spelled s xs
named_by s h [] = refl
named_by s h (x ∷ xs) = ap (λ b. same_text x.spelling s || b) (named_by s h xs)

lexical_named : (s : List ℕ) (xs : List Name) → is_spelled s xs ≡ true → named s (lexical_scope xs) ≡ true
lexical_named s xs e = named_by s false (with_names [] xs) ∙ all_added s [] xs e

-- those of a body, but for the names of parameters, which stand before them
past_names : (p xs : List Name) → drop (length p) (p ++ xs) ≡ xs
past_names [] xs = refl
past_names (x ∷ p) xs = past_names p xs

body_named : (s : List ℕ) (p xs : List Name) → is_spelled s p ≡ false → is_spelled s xs ≡ true → named s (body_scope p xs) ≡ true
body_named s p xs e f =
    named_by s true (drop (length p) (with_names p xs)) ∙ ap (λ ys. is_spelled s (drop (length p) ys)) (with_fresh p xs) ∙ ap (is_spelled s) (past_names p (fresh p xs))
    ∙ ap (λ b. b || is_spelled s (fresh p xs)) (sym e)
    ∙ sym (spelled_both s p (fresh p xs))
    ∙ ap (is_spelled s) (sym (with_fresh p xs))
    ∙ all_added s p xs f

-- ---- names that a declaration gives

abbrev in_or : Variable → Variable → List Variable → Bool
in_or x y ys = choose (variable_eq y x) true (is_in x ys)

in_both : (x : Variable) (xs ys : List Variable) → is_in x (xs ++ ys) ≡ true → (is_in x xs ≡ true) ⊎ (is_in x ys ≡ true)
in_both x [] ys e = inr e
in_both x (z ∷ xs) ys e = by (λ g. in_both x xs ys g) (variable_eq z x) refl e
  where
    by : (is_in x (xs ++ ys) ≡ true → (is_in x xs ≡ true) ⊎ (is_in x ys ≡ true)) → (b : Bool) → variable_eq z x ≡ b → choose b true (is_in x (xs ++ ys)) ≡ true → (in_or x z xs ≡ true) ⊎ (is_in x ys ≡ true)
    by rest true f g = inl (ap (λ c. choose c true (is_in x xs)) f)
    by rest false f g = elim (rest g) [ inl h ↦ inl (ap (λ c. choose c true (is_in x xs)) f ∙ h) | inr h ↦ inr h ]

-- the name that is the variable, its spelling among the names, and its symbol
record Found (u : Use) (x : Variable) (env : Environment) (xs : List Name) : Type 0 where
  name : Name
  is : variable_eq (variable_of name) x ≡ true
  spelled : is_spelled name.spelling xs ≡ true
  given : name.symbol ≡ symbol_of u name.spelling env

text_itself : (s : List ℕ) → same_text s s ≡ true
text_itself [] = refl
text_itself (c ∷ s) = ap (λ b. b && same_text s s) (eq-eqb c c refl) ∙ text_itself s

found : (u : Use) (x : Variable) (env : Environment) (xs : List Name) → NamesScoped u env xs → is_in x (variables xs) ≡ true → Found u x env xs
found u x env [] a e = absurd (true≢false (sym e))
found u x env (y ∷ xs) a e = by (λ g. found u x env xs a.1 g) (variable_eq (variable_of y) x) refl e
  where
    by : (is_in x (variables xs) ≡ true → Found u x env xs) → (b : Bool) → variable_eq (variable_of y) x ≡ b → choose b true (is_in x (variables xs)) ≡ true → Found u x env (y ∷ xs)
    by further true f g = record { name = y; is = f; spelled = ap (λ b. b || is_spelled y.spelling xs) (text_itself y.spelling); given = a.0 }
    by further false f g = let rest = further g in record { name = rest.name; is = rest.is; spelled = or_second (same_text y.spelling rest.name.spelling) (is_spelled rest.name.spelling xs) rest.spelled; given = rest.given }

in_front : (x : Variable) (xs : List Variable) → is_in x (front xs) ≡ true → is_in x xs ≡ true
in_front x [] e = e
in_front x (y ∷ xs) e = by (variable_eq y x) refl e
  where
    by : (b : Bool) → variable_eq y x ≡ b → choose b true false ≡ true → in_or x y xs ≡ true
    by true f g = ap (λ c. choose c true (is_in x xs)) f
    by false f g = absurd (true≢false (sym g))

later_in : (x : Variable) (xs ys : List Name) → is_in x (variables ys) ≡ true → is_in x (variables (xs ++ ys)) ≡ true
later_in x [] ys e = e
later_in x (z ∷ xs) ys e = by (later_in x xs ys e) (variable_eq (variable_of z) x)
  where
    by : is_in x (variables (xs ++ ys)) ≡ true → (b : Bool) → choose b true (is_in x (variables (xs ++ ys))) ≡ true
    by rest true = refl
    by rest false = rest

first_in : (x : Variable) (xs ys : List Name) → is_in x (variables xs) ≡ true → is_in x (variables (xs ++ ys)) ≡ true
first_in x [] ys e = absurd (true≢false (sym e))
first_in x (z ∷ xs) ys e = by (λ f. first_in x xs ys f) (variable_eq (variable_of z) x) e
  where
    by : (is_in x (variables xs) ≡ true → is_in x (variables (xs ++ ys)) ≡ true) → (b : Bool) → choose b true (is_in x (variables xs)) ≡ true → choose b true (is_in x (variables (xs ++ ys))) ≡ true
    by rest true f = refl
    by rest false f = rest f

-- a name is that of its node, if there is one
name_in : (x : Variable) (t : Tree) → is_name_shape (shape_of t) ≡ true → is_in x (summary t).lets ≡ true → is_in x (variables (names_of declared.Bound t)) ≡ true
unfolding names_of
name_in x (node shape.BindingIdentifier xs n ts) h e = in_front x (variables xs) e
name_in x (node shape.Absent xs n ts) h e = absurd (true≢false (sym e))
name_in x (node g xs n ts) h e = absurd (true≢false (sym h))

-- the names that a part of a declaration gives are those that it binds
in_some : (x : Variable) (xs ys : List Variable) (zs ws : List Name) → (is_in x xs ≡ true → is_in x (variables zs) ≡ true) → (is_in x ys ≡ true → is_in x (variables ws) ≡ true) → is_in x (xs ++ ys) ≡ true → is_in x (variables (zs ++ ws)) ≡ true
in_some x xs ys zs ws f g e = elim (in_both x xs ys e) [ inl h ↦ first_in x zs ws (f h) | inr h ↦ later_in x zs ws (g h) ]

mutual
  unfolding names_of

  lets_bound : (x : Variable) (t : Tree) → binds t ≡ true → is_in x (summary t).lets ≡ true → is_in x (variables (names_of declared.Bound t)) ≡ true
  lets_bound x (node shape.BindingIdentifier xs n ts) b e = in_front x (variables xs) e
  lets_bound x (node (shape.UnaryExpression LogicalNot) xs n ts) b e = absurd (true≢false (sym b))
  lets_bound x (node shape.Listed xs n ts) b e = all_lets_bound x ts b e
  lets_bound x (node shape.ObjectPattern xs n ts) b e = all_lets_bound x ts b e
  lets_bound x (node shape.ArrayPattern xs n ts) b e = all_lets_bound x ts b e
  lets_bound x (node (shape.BindingProperty is_shorthand is_computed) xs n ts) b e = all_lets_bound x ts b e
  lets_bound x (node shape.RestElement xs n ts) b e = all_lets_bound x ts b e
  lets_bound x (node shape.AssignmentPattern xs n none) b e = absurd (true≢false (sym e))
  lets_bound x (node shape.AssignmentPattern xs n (t ▸ ts)) b e = first_in x (names_of declared.Bound t) (all_names declared.Bound ts) (lets_bound x t b e)
  lets_bound x (node shape.VariableDeclarator xs n none) b e = absurd (true≢false (sym e))
  lets_bound x (node shape.VariableDeclarator xs n (t ▸ ts)) b e = lets_bound x t b e
  lets_bound x (node (shape.VariableDeclaration k) xs n ts) b e = absurd (true≢false (sym b))
  lets_bound x (node (shape.Class true) xs n ts) b e = absurd (true≢false (sym b))
  lets_bound x (node shape.SwitchCase xs n ts) b e = absurd (true≢false (sym b))
  lets_bound x (node shape.ExportNamedDeclaration xs n ts) b e = absurd (true≢false (sym b))
  lets_bound x (node shape.ExportDefaultDeclaration xs n ts) b e = absurd (true≢false (sym b))
  lets_bound x (node h xs n ts) b e = absurd (true≢false (sym e))

  all_lets_bound : (x : Variable) (ts : Trees) → all_bind ts ≡ true → is_in x (lets_all (summaries ts)) ≡ true → is_in x (variables (all_names declared.Bound ts)) ≡ true
  all_lets_bound x none b e = absurd (true≢false (sym e))
  all_lets_bound x (t ▸ ts) b e =
      let (own, rest) = and_parts (binds t) (all_bind ts) b in
      in_some x (summary t).lets (lets_all (summaries ts)) (names_of declared.Bound t) (all_names declared.Bound ts) (λ f. lets_bound x t own f) (λ f. all_lets_bound x ts rest f) e

-- ---- what is left to the scopes around

-- a spelling among the names that it declares in a list, or in a body
abbrev SpelledIn : List ℕ → Tree → Type 0
SpelledIn s t = (is_spelled s (body_names t) ≡ true) × ((is_spelled s (names_of declared.Lexical t) ≡ true) ⊎ (is_body_of_function (shape_of t) ≡ true))

module _ (x : Variable) where
  record Left (held : Bool) (env : Environment) (t : Tree) : Type 0 where
    holds_it : held ≡ true
    name : Name_of x env
    spelled : SpelledIn name.spelling t

  abbrev Outcome : Bool → Use → Environment → Tree → Type 0
  Outcome held v env t = (fixed_by t x ≡ Writable) ⊎ (Declares x (declared_in v t) ⊎ Left held env t)

  -- of some children: one leaves such a name that no scope before it declares
  abbrev AnyLeft : Bool → Shape → (ℕ → List Binding) → List ℕ → ℕ → Trees → Type 0
  AnyLeft held h sc s i none = ⊥
  AnyLeft held h sc s i (t ▸ ts) = (named s (sc i) ≡ false) × (((holds held h i (shape_of t) ≡ true) × SpelledIn s t) ⊎ AnyLeft held h sc s (suc i) ts)

  record LeftBelow (held : Bool) (h : Shape) (sc : ℕ → List Binding) (i : ℕ) (env : Environment) (ts : Trees) : Type 0 where
    name : Name_of x env
    any : AnyLeft held h sc name.spelling i ts

  abbrev AllOutcome : Bool → Shape → (ℕ → List Binding) → (ℕ → Use) → ℕ → Environment → Trees → Type 0
  AllOutcome held h sc vs i env ts = (fixed_by_any ts x ≡ Writable) ⊎ (Declares x (declared_from sc vs i ts) ⊎ LeftBelow held h sc i env ts)

  both_writable : (f g : Fixed) → f ≡ Writable → g ≡ Writable → stricter f g ≡ Writable
  both_writable f g e h = ap (λ y. stricter y g) e ∙ h

  -- declared in a part
  in_scope : (sc : ℕ → List Binding) (vs : ℕ → Use) (i : ℕ) (t : Tree) (ts : Trees) → Declares x (symbols_in (sc i)) → Declares x (declared_from sc vs i (t ▸ ts))
  unfolding declared_in
  in_scope sc vs i t ts d = record { symbol = d.symbol; either = d.either; there = omega (arith, d.there, times_three d.symbol (symbols_in (sc i)) (declared_in (vs i) t) (declared_from sc vs (suc i) ts)) }

  in_child : (sc : ℕ → List Binding) (vs : ℕ → Use) (i : ℕ) (t : Tree) (ts : Trees) → Declares x (declared_in (vs i) t) → Declares x (declared_from sc vs i (t ▸ ts))
  unfolding declared_in
  in_child sc vs i t ts d = record { symbol = d.symbol; either = d.either; there = omega (arith, d.there, times_three d.symbol (symbols_in (sc i)) (declared_in (vs i) t) (declared_from sc vs (suc i) ts)) }

  in_others : (sc : ℕ → List Binding) (vs : ℕ → Use) (i : ℕ) (t : Tree) (ts : Trees) → Declares x (declared_from sc vs (suc i) ts) → Declares x (declared_from sc vs i (t ▸ ts))
  unfolding declared_in
  in_others sc vs i t ts d = record { symbol = d.symbol; either = d.either; there = omega (arith, d.there, times_three d.symbol (symbols_in (sc i)) (declared_in (vs i) t) (declared_from sc vs (suc i) ts)) }

  -- the last scope before it has the name, or it is left further out
  one_out : (held : Bool) (h : Shape) (sc : ℕ → List Binding) (vs : ℕ → Use) (i : ℕ) (env : Environment) (t : Tree) (ts : Trees) (y : Name_of x (env ++ sc i)) → ((holds held h i (shape_of t) ≡ true) × SpelledIn y.spelling t) ⊎ AnyLeft held h sc y.spelling (suc i) ts → AllOutcome held h sc vs i env (t ▸ ts)
  one_out held h sc vs i env t ts y l = by (named y.spelling (sc i)) refl
    where
      by : (b : Bool) → named y.spelling (sc i) ≡ b → AllOutcome held h sc vs i env (t ▸ ts)
      by true f = inr (inl (in_scope sc vs i t ts (declared_there x env (sc i) y f)))
      by false f = inr (inr (record { name = further_out x env (sc i) y f; any = (f, l) }))

  joined : (held : Bool) (h : Shape) (sc : ℕ → List Binding) (vs : ℕ → Use) (i : ℕ) (env : Environment) (t : Tree) (ts : Trees) → Outcome (holds held h i (shape_of t)) (vs i) (env ++ sc i) t → AllOutcome held h sc vs (suc i) (env ++ sc i) ts → AllOutcome held h sc vs i env (t ▸ ts)
  joined held h sc vs i env t ts (inr (inl d)) o = inr (inl (in_child sc vs i t ts d))
  joined held h sc vs i env t ts (inr (inr l)) o = one_out held h sc vs i env t ts l.name (inl (l.holds_it, l.spelled))
  joined held h sc vs i env t ts (inl e) (inl f) = inl (both_writable (fixed_by t x) (fixed_by_any ts x) e f)
  joined held h sc vs i env t ts (inl e) (inr (inl d)) = inr (inl (in_others sc vs i t ts d))
  joined held h sc vs i env t ts (inl e) (inr (inr l)) = one_out held h sc vs i env t ts l.name (inr l.any)

  -- ---- what holds the names of a child declares them

  none_any : (held : Bool) (h : Shape) (sc : ℕ → List Binding) (s : List ℕ) (i : ℕ) (ts : Trees) → ((j : ℕ) (g : Shape) → holds held h j g ≡ false) → AnyLeft held h sc s i ts → ⊥
  none_any held h sc s i none f l = l
  none_any held h sc s i (t ▸ ts) f (e, inl (g, p)) = true≢false (sym g ∙ f i (shape_of t))
  none_any held h sc s i (t ▸ ts) f (e, inr l) = none_any held h sc s (suc i) ts f l

  -- after the first, after the second, after the third
  none_later : (held : Bool) (h : Shape) (sc : ℕ → List Binding) (s : List ℕ) (i : ℕ) (ts : Trees) → ((j : ℕ) (g : Shape) → holds held h (suc j) g ≡ false) → AnyLeft held h sc s (suc i) ts → ⊥
  none_later held h sc s i none f l = l
  none_later held h sc s i (t ▸ ts) f (e, inl (g, p)) = true≢false (sym g ∙ f i (shape_of t))
  none_later held h sc s i (t ▸ ts) f (e, inr l) = none_later held h sc s (suc i) ts f l

  none_second : (held : Bool) (h : Shape) (sc : ℕ → List Binding) (s : List ℕ) (i : ℕ) (ts : Trees) → ((j : ℕ) (g : Shape) → holds held h (suc (suc j)) g ≡ false) → AnyLeft held h sc s (suc (suc i)) ts → ⊥
  none_second held h sc s i none f l = l
  none_second held h sc s i (t ▸ ts) f (e, inl (g, p)) = true≢false (sym g ∙ f i (shape_of t))
  none_second held h sc s i (t ▸ ts) f (e, inr l) = none_second held h sc s (suc i) ts f l

  none_third : (held : Bool) (h : Shape) (sc : ℕ → List Binding) (s : List ℕ) (i : ℕ) (ts : Trees) → ((j : ℕ) (g : Shape) → holds held h (suc (suc (suc j))) g ≡ false) → AnyLeft held h sc s (suc (suc (suc i))) ts → ⊥
  none_third held h sc s i none f l = l
  none_third held h sc s i (t ▸ ts) f (e, inl (g, p)) = true≢false (sym g ∙ f i (shape_of t))
  none_third held h sc s i (t ▸ ts) f (e, inr l) = none_third held h sc s (suc i) ts f l

  not_both : (s : List ℕ) (bs : List Binding) → named s bs ≡ false → named s bs ≡ true → ⊥
  not_both s bs e f = true≢false (sym f ∙ e)

  -- what is held by a test of shapes is no body, and its names are those of a list
  not_body : (f : Shape → Bool) (g : Shape) → f shape.FunctionBody ≡ false → f g ≡ true → is_body_of_function g ≡ false
  not_body f shape.FunctionBody e h = absurd (true≢false (sym h ∙ e))
  not_body f g e h = refl

  in_list : (s : List ℕ) (t : Tree) → is_body_of_function (shape_of t) ≡ false → SpelledIn s t → is_spelled s (names_of declared.Lexical t) ≡ true
  in_list s t f (p, inl q) = q
  in_list s t f (p, inr q) = absurd (true≢false (sym q ∙ f))

  -- one around it has a scope of them
  if_held : (held b : Bool) → (held && b) ≡ true → held ≡ true
  if_held true b e = refl
  if_held false b e = e

  no_more_held : (held : Bool) → (held && false) ≡ false
  no_more_held true = refl
  no_more_held false = refl

  merged_spelled : (s : List ℕ) (p : Tree) → is_spelled s (merged p) ≡ true → is_spelled s (bound_names p) ≡ true
  merged_spelled s p e = by (has_inner p) e
    where
      by : (b : Bool) → is_spelled s (if b then [] else bound_names p) ≡ true → is_spelled s (bound_names p) ≡ true
      by true f = absurd (true≢false (sym f))
      by false f = f

  -- a body's names, of which parameters may have some
  in_body : (s : List ℕ) (params body : Tree) → is_spelled s (body_names body) ≡ true → named s (body_scope [] (bound_names params)) ≡ false → named s (body_scope (merged params) (body_names body)) ≡ false → ⊥
  in_body s params body p e f = by (is_spelled s (merged params)) refl
    where
      by : (b : Bool) → is_spelled s (merged params) ≡ b → ⊥
      by true g = not_both s (body_scope [] (bound_names params)) e (body_named s [] (bound_names params) refl (merged_spelled s params g))
      by false g = not_both s (body_scope (merged params) (body_names body)) f (body_named s (merged params) (body_names body) g p)

  listed_left : (held : Bool) (sc : ℕ → List Binding) (s : List ℕ) (i : ℕ) (ts : Trees) → AnyLeft held shape.Listed sc s i ts → (held ≡ true) × (is_spelled s (all_body_names ts) ≡ true) × (is_spelled s (all_names declared.Lexical ts) ≡ true)
  unfolding names_of body_names
  listed_left held sc s i none l = absurd l
  listed_left held sc s i (t ▸ ts) (e, inl (g, p)) = (
    if_held held (not (is_body_of_function (shape_of t))) g,
    spelled_first s (body_names t) (all_body_names ts) p.0,
    spelled_first s (names_of declared.Lexical t) (all_names declared.Lexical ts) (in_list s t (not_body (λ k. holds held shape.Listed i k) (shape_of t) (no_more_held held) g) p),
  )
  listed_left held sc s i (t ▸ ts) (e, inr l) =
      let (own, body, lexical) = listed_left held sc s (suc i) ts l in
      (own, spelled_second s (body_names t) (all_body_names ts) body, spelled_second s (names_of declared.Lexical t) (all_names declared.Lexical ts) lexical)

  closes : (held : Bool) (v : Use) (h : Shape) (xs : List Name) (n : ℕ) (ts : Trees) (s : List ℕ) → AnyLeft held h (opened v h ts) s 0 ts → (held ≡ true) × SpelledIn s (node h xs n ts)
  unfolding scopes_by names_of body_names
  closes held v shape.BlockStatement xs n none s l = absurd l
  closes held v shape.BlockStatement xs n (t ▸ ts) s (e, inl (g, p)) = absurd (not_both s (lexical_scope (names_of declared.Lexical t)) e (lexical_named s (names_of declared.Lexical t) (in_list s t (not_body (λ k. holds held shape.BlockStatement 0 k) (shape_of t) refl g) p)))
  closes held v shape.BlockStatement xs n (t ▸ ts) s (e, inr l) = absurd (none_later held shape.BlockStatement (opened v shape.BlockStatement (t ▸ ts)) s 0 ts (λ j g. refl) l)
  closes held v shape.ForStatement xs n none s l = absurd l
  closes held v shape.ForStatement xs n (t ▸ ts) s (e, inl (g, p)) = absurd (not_both s (lexical_scope (names_of declared.Lexical t)) e (lexical_named s (names_of declared.Lexical t) (in_list s t (not_body (λ k. holds held shape.ForStatement 0 k) (shape_of t) refl g) p)))
  closes held v shape.ForStatement xs n (t ▸ ts) s (e, inr l) = absurd (none_later held shape.ForStatement (opened v shape.ForStatement (t ▸ ts)) s 0 ts (λ j g. refl) l)
  closes held v shape.ForInStatement xs n none s l = absurd l
  closes held v shape.ForInStatement xs n (t ▸ ts) s (e, inl (g, p)) = absurd (not_both s (lexical_scope (names_of declared.Lexical t)) e (lexical_named s (names_of declared.Lexical t) (in_list s t (not_body (λ k. holds held shape.ForInStatement 0 k) (shape_of t) refl g) p)))
  closes held v shape.ForInStatement xs n (t ▸ ts) s (e, inr l) = absurd (none_later held shape.ForInStatement (opened v shape.ForInStatement (t ▸ ts)) s 0 ts (λ j g. refl) l)
  closes held v shape.ForOfStatement xs n none s l = absurd l
  closes held v shape.ForOfStatement xs n (t ▸ ts) s (e, inl (g, p)) = absurd (not_both s (lexical_scope (names_of declared.Lexical t)) e (lexical_named s (names_of declared.Lexical t) (in_list s t (not_body (λ k. holds held shape.ForOfStatement 0 k) (shape_of t) refl g) p)))
  closes held v shape.ForOfStatement xs n (t ▸ ts) s (e, inr l) = absurd (none_later held shape.ForOfStatement (opened v shape.ForOfStatement (t ▸ ts)) s 0 ts (λ j g. refl) l)
  closes held v shape.StaticBlock xs n none s l = absurd l
  closes held v shape.StaticBlock xs n (t ▸ ts) s (e, inl (g, p)) = absurd (not_both s (body_scope [] (body_names t)) e (body_named s [] (body_names t) refl p.0))
  closes held v shape.StaticBlock xs n (t ▸ ts) s (e, inr l) = absurd (none_later held shape.StaticBlock (opened v shape.StaticBlock (t ▸ ts)) s 0 ts (λ j g. refl) l)
  closes held v shape.SwitchStatement xs n none s l = absurd l
  closes held v shape.SwitchStatement xs n (a ▸ ts) s (e, inl (g, p)) = absurd (true≢false (sym g))
  closes held v shape.SwitchStatement xs n (a ▸ none) s (e, inr l) = absurd l
  closes held v shape.SwitchStatement xs n (a ▸ (t ▸ ts)) s (e, inr (f, inl (g, p))) = absurd (not_both s (lexical_scope (names_of declared.Lexical t)) f (lexical_named s (names_of declared.Lexical t) (in_list s t (not_body (λ k. holds held shape.SwitchStatement 1 k) (shape_of t) refl g) p)))
  closes held v shape.SwitchStatement xs n (a ▸ (t ▸ ts)) s (e, inr (f, inr l)) = absurd (none_second held shape.SwitchStatement (opened v shape.SwitchStatement (a ▸ (t ▸ ts))) s 0 ts (λ j g. refl) l)
  closes held v (shape.Function d y ds) xs n none s l = absurd l
  closes held v (shape.Function d y ds) xs n (a ▸ ts) s (e, inl (g, p)) = absurd (true≢false (sym g))
  closes held v (shape.Function d y ds) xs n (a ▸ none) s (e, inr l) = absurd l
  closes held v (shape.Function d y ds) xs n (a ▸ (b ▸ ts)) s (e, inr (f, inl (g, p))) = absurd (true≢false (sym g))
  closes held v (shape.Function d y ds) xs n (a ▸ (b ▸ none)) s (e, inr (f, inr l)) = absurd l
  closes held v (shape.Function d y ds) xs n (a ▸ (b ▸ (t ▸ ts))) s (e, inr (f, inr (q, inl (g, p)))) = absurd (in_body s b t p.0 f q)
  closes held v (shape.Function d y ds) xs n (a ▸ (b ▸ (t ▸ ts))) s (e, inr (f, inr (q, inr l))) = absurd (none_third held (shape.Function d y ds) (opened v (shape.Function d y ds) (a ▸ (b ▸ (t ▸ ts)))) s 0 ts (λ j g. refl) l)
  closes held v (shape.ArrowFunctionExpression ds) xs n none s l = absurd l
  closes held v (shape.ArrowFunctionExpression ds) xs n (a ▸ ts) s (e, inl (g, p)) = absurd (true≢false (sym g))
  closes held v (shape.ArrowFunctionExpression ds) xs n (a ▸ none) s (e, inr l) = absurd l
  closes held v (shape.ArrowFunctionExpression ds) xs n (a ▸ (t ▸ ts)) s (e, inr (f, inl (g, p))) = absurd (in_body s a t p.0 e f)
  closes held v (shape.ArrowFunctionExpression ds) xs n (a ▸ (t ▸ ts)) s (e, inr (f, inr l)) = absurd (none_second held (shape.ArrowFunctionExpression ds) (opened v (shape.ArrowFunctionExpression ds) (a ▸ (t ▸ ts))) s 0 ts (λ j g. refl) l)
  closes held v shape.FunctionBody xs n none s l = absurd l
  closes held v shape.FunctionBody xs n (t ▸ ts) s (e, inl (g, p)) = (if_held held (not (is_body_of_function (shape_of t))) g, (spelled_first s (body_names t) (all_body_names ts) p.0, inr refl))
  closes held v shape.FunctionBody xs n (t ▸ ts) s (e, inr l) = absurd (none_later held shape.FunctionBody (opened v shape.FunctionBody (t ▸ ts)) s 0 ts (λ j g. refl) l)
  closes held v shape.SwitchCase xs n none s l = absurd l
  closes held v shape.SwitchCase xs n (a ▸ ts) s (e, inl (g, p)) = absurd (true≢false (sym g))
  closes held v shape.SwitchCase xs n (a ▸ none) s (e, inr l) = absurd l
  closes held v shape.SwitchCase xs n (a ▸ (t ▸ ts)) s (e, inr (f, inl (g, p))) =
      let there : is_spelled s (all_names declared.Lexical (a ▸ (t ▸ ts))) ≡ true = spelled_second s (names_of declared.Lexical a) (all_names declared.Lexical (t ▸ ts)) (spelled_first s (names_of declared.Lexical t) (all_names declared.Lexical ts) (in_list s t (not_body (λ k. holds held shape.SwitchCase 1 k) (shape_of t) (no_more_held held) g) p)) in
      (if_held held (not (is_body_of_function (shape_of t))) g, (spelled_first s (all_names declared.Lexical (a ▸ (t ▸ ts))) (all_names declared.Hoisted (a ▸ (t ▸ ts))) there, inl there))
  closes held v shape.SwitchCase xs n (a ▸ (t ▸ ts)) s (e, inr (f, inr l)) = absurd (none_second held shape.SwitchCase (opened v shape.SwitchCase (a ▸ (t ▸ ts))) s 0 ts (λ j g. refl) l)
  closes held v shape.Listed xs n ts s l = let (own, body, lexical) = listed_left held (opened v shape.Listed ts) s 0 ts l in (own, (body, inl lexical))
  closes held v h xs n ts s l = absurd (none_any held h (opened v h ts) s 0 ts (λ j g. refl) l)

  -- ---- the own name of a node

  freely : (b : Bool) → choose b Writable Writable ≡ Writable
  freely true = refl
  freely false = refl

  decided : {P : Type 0} (b : Bool) (f : Fixed) → (b ≡ true → P) → (choose b f Writable ≡ Writable) ⊎ P
  decided true f g = inr (g refl)
  decided false f g = inl refl

  abbrev its_name : (env : Environment) (xs : List Name) → (f : Found Read x env xs) → Name_of x env
  its_name env xs f = record { spelling = f.name.spelling; symbol = f.name.symbol; is = f.is; given = f.given }

  abbrev Own : Bool → Use → Environment → Tree → Type 0
  Own held v env t = Declares x (declared_in v t) ⊎ Left held env t

  abbrev Self : Shape → Trees → Type 0
  Self h ts = choose (is_in x (declares_by h (summaries ts))) (fixity_by h) Writable ≡ Writable

  constants : (env : Environment) (t : Tree) → binds t ≡ true → Scoped Read env t → is_in x (summary t).lets ≡ true → Found Read x env (names_of declared.Bound t)
  constants env t b a e = found Read x env (names_of declared.Bound t) (bound_scoped Read env t a) (lets_bound x t b e)

  const_left : (v : Use) (env : Environment) (xs : List Name) (n : ℕ) (t : Tree) (ts : Trees) → let sc = opened v (shape.VariableDeclaration Const) (t ▸ ts) in Found Read x (env ++ sc 0) (names_of declared.Bound t) → Own true v env (node (shape.VariableDeclaration Const) xs n (t ▸ ts))
  unfolding names_of body_names declared_in
  const_left v env xs n t ts f =
      let sc = opened v (shape.VariableDeclaration Const) (t ▸ ts) in
      by (named f.name.spelling (sc 0)) refl
    where
      by : (b : Bool) → named f.name.spelling (opened v (shape.VariableDeclaration Const) (t ▸ ts) 0) ≡ b → Own true v env (node (shape.VariableDeclaration Const) xs n (t ▸ ts))
      by true g =
          let sc = opened v (shape.VariableDeclaration Const) (t ▸ ts) in
          inl (in_scope sc (use_of (shape.VariableDeclaration Const) v) 0 t ts (declared_there x env (sc 0) (its_name (env ++ sc 0) (names_of declared.Bound t) f) g))
      by false g =
          let sc = opened v (shape.VariableDeclaration Const) (t ▸ ts) in
          let there : is_spelled f.name.spelling (all_names declared.Bound (t ▸ ts)) ≡ true = spelled_first f.name.spelling (names_of declared.Bound t) (all_names declared.Bound ts) f.spelled in
          inr (record {
            holds_it = refl;
            name = further_out x env (sc 0) (its_name (env ++ sc 0) (names_of declared.Bound t) f) g;
            spelled = (spelled_first f.name.spelling (all_names declared.Bound (t ▸ ts)) [] there, inl there);
          })

  own : (held : Bool) (v : Use) (env : Environment) (h : Shape) (xs : List Name) (n : ℕ) (ts : Trees) → encloses_by held h ts ≡ true → Scoped v env (node h xs n ts) → Self h ts ⊎ Own held v env (node h xs n ts)
  unfolding Scoped scopes_by declared_in
  own held v env (shape.VariableDeclaration Const) xs n none e a = inl refl
  own held v env (shape.VariableDeclaration Const) xs n (t ▸ ts) e a =
      let (hd, b) = and_parts held (binds t) e in
      let sc = opened v (shape.VariableDeclaration Const) (t ▸ ts) in
      decided (is_in x (summary t).lets) (fixity_by (shape.VariableDeclaration Const)) (λ g. subst (λ c. Own c v env (node (shape.VariableDeclaration Const) xs n (t ▸ ts))) (sym hd) (const_left v env xs n t ts (constants (env ++ sc 0) t b a.1.0 g)))
  own held v env (shape.VariableDeclaration k) xs n ts e a = inl (freely (is_in x (lets_first (summaries ts))))
  own held v env (shape.Function false y ds) xs n none e a = absurd (true≢false (sym e))
  own held v env (shape.Function false y ds) xs n (t ▸ none) e a = absurd (true≢false (sym e))
  own held v env (shape.Function false y ds) xs n (t ▸ (p ▸ none)) e a = absurd (true≢false (sym e))
  own held v env (shape.Function false y ds) xs n (t ▸ (p ▸ (b ▸ ts))) e a =
      let sc = opened v (shape.Function false y ds) (t ▸ (p ▸ (b ▸ ts))) in
      let name = (and_parts (nat_eq (count (t ▸ (p ▸ (b ▸ ts)))) 3) (is_name_shape (shape_of t)) e).1 in
      decided (is_in x (summary t).lets) (fixity_by (shape.Function false y ds)) (λ g.
      let f = found Read x (env ++ sc 0) (names_of declared.Bound t) (bound_scoped Read (env ++ sc 0) t a.1.0) (name_in x t name g) in
      inl (in_scope sc (use_of (shape.Function false y ds) v) 0 t (p ▸ (b ▸ ts)) (declared_there x env (sc 0) (its_name (env ++ sc 0) (names_of declared.Bound t) f) (lexical_named f.name.spelling (names_of declared.Bound t) f.spelled))))
  own held v env (shape.Class false) xs n none e a = absurd (true≢false (sym e))
  own held v env (shape.Class false) xs n (t ▸ none) e a = absurd (true≢false (sym e))
  own held v env (shape.Class false) xs n (t ▸ (p ▸ none)) e a = absurd (true≢false (sym e))
  own held v env (shape.Class false) xs n (t ▸ (p ▸ (b ▸ none))) e a = absurd (true≢false (sym e))
  own held v env (shape.Class false) xs n (t ▸ (p ▸ (b ▸ (d ▸ ts)))) e a =
      let sc = opened v (shape.Class false) (t ▸ (p ▸ (b ▸ (d ▸ ts)))) in
      let name = (and_parts (nat_eq (count (t ▸ (p ▸ (b ▸ (d ▸ ts))))) 4) (is_name_shape (shape_of t)) e).1 in
      decided (is_in x (summary t).lets) (fixity_by (shape.Class false)) (λ g.
      let f = found Read x (env ++ sc 0) (names_of declared.Bound t) (bound_scoped Read (env ++ sc 0) t a.1.0) (name_in x t name g) in
      inl (in_scope sc (use_of (shape.Class false) v) 0 t (p ▸ (b ▸ (d ▸ ts))) (declared_there x env (sc 0) (its_name (env ++ sc 0) (names_of declared.Bound t) f) (lexical_named f.name.spelling (names_of declared.Bound t) f.spelled))))
  own held v env (shape.Class true) xs n none e a = absurd (true≢false (sym e))
  own held v env (shape.Class true) xs n (t ▸ none) e a = absurd (true≢false (sym e))
  own held v env (shape.Class true) xs n (t ▸ (p ▸ none)) e a = absurd (true≢false (sym e))
  own held v env (shape.Class true) xs n (t ▸ (p ▸ (b ▸ none))) e a = absurd (true≢false (sym e))
  own held v env (shape.Class true) xs n (t ▸ (p ▸ (b ▸ (d ▸ ts)))) e a =
      let sc = opened v (shape.Class true) (t ▸ (p ▸ (b ▸ (d ▸ ts)))) in
      let us = use_of (shape.Class true) v in
      let name = (and_parts (nat_eq (count (t ▸ (p ▸ (b ▸ (d ▸ ts))))) 4) (is_name_shape (shape_of d)) e).1 in
      let around = (env ++ sc 0) ++ sc 1 in
      decided (is_in x (summary d).lets) (fixity_by (shape.Class true)) (λ g.
      let f = found Read x ((around ++ []) ++ []) (names_of declared.Bound d) (bound_scoped Read ((around ++ []) ++ []) d a.1.1.1.1.0) (name_in x d name g) in
      let y = further_out x around [] (further_out x (around ++ []) [] (its_name ((around ++ []) ++ []) (names_of declared.Bound d) f) refl) refl in
      inl (in_others sc us 0 t (p ▸ (b ▸ (d ▸ ts))) (in_scope sc us 1 p (b ▸ (d ▸ ts)) (declared_there x (env ++ sc 0) (sc 1) y (lexical_named f.name.spelling (names_of declared.Bound d) f.spelled)))))
  own held v env shape.ImportSpecifier xs n ts e a = absurd (true≢false (sym e))
  own held v env shape.ImportDefaultSpecifier xs n ts e a = absurd (true≢false (sym e))
  own held v env shape.ImportNamespaceSpecifier xs n ts e a = absurd (true≢false (sym e))
  own held v env h xs n ts e a = inl (freely (is_in x (declares_by h (summaries ts))))

  together : (held : Bool) (v : Use) (env : Environment) (h : Shape) (xs : List Name) (n : ℕ) (ts : Trees) → Self h ts ⊎ Own held v env (node h xs n ts) → AllOutcome held h (opened v h ts) (use_of h v) 0 env ts → Outcome held v env (node h xs n ts)
  unfolding declared_in
  together held v env h xs n ts (inr o) b = inr o
  together held v env h xs n ts (inl e) (inl f) = inl (both_writable (choose (is_in x (declares_by h (summaries ts))) (fixity_by h) Writable) (fixed_by_any ts x) e f)
  together held v env h xs n ts (inl e) (inr (inl d)) = inr (inl d)
  together held v env h xs n ts (inl e) (inr (inr l)) = let (hd, p) = closes held v h xs n ts l.name.spelling l.any in inr (inr (record { holds_it = hd; name = l.name; spelled = p }))

  mutual
    unfolding Scoped

    outcome : (held : Bool) (v : Use) (env : Environment) (t : Tree) → encloses held t ≡ true → Scoped v env t → Outcome held v env t
    outcome held v env (node h xs n ts) e a =
        let (self, below) = and_parts (encloses_by held h ts) (all_enclose held h 0 ts) e in
        together held v env h xs n ts (own held v env h xs n ts self a) (all_outcome held h (opened v h ts) (use_of h v) 0 env ts below a.1)

    all_outcome : (held : Bool) (h : Shape) (sc : ℕ → List Binding) (vs : ℕ → Use) (i : ℕ) (env : Environment) (ts : Trees) → all_enclose held h i ts ≡ true → AllScoped sc vs i env ts → AllOutcome held h sc vs i env ts
    all_outcome held h sc vs i env none e a = inl refl
    all_outcome held h sc vs i env (t ▸ ts) e a =
        let (one, rest) = and_parts (encloses (holds held h i (shape_of t)) t) (all_enclose held h (suc i) ts) e in
        joined held h sc vs i env t ts (outcome (holds held h i (shape_of t)) (vs i) (env ++ sc i) t one a.0) (all_outcome held h sc vs (suc i) (env ++ sc i) ts rest a.1)

  -- a write of it writes, or a scope in the tree declares it
  pub enclosed : (v : Use) (env : Environment) (t : Tree) → encloses false t ≡ true → Scoped v env t → (fixed_by t x ≡ Writable) ⊎ Declares x (declared_in v t)
  enclosed v env t e a = by (outcome false v env t e a)
    where
      by : Outcome false v env t → (fixed_by t x ≡ Writable) ⊎ Declares x (declared_in v t)
      by (inl f) = inl f
      by (inr (inl d)) = inr d
      by (inr (inr l)) = absurd (true≢false (sym l.holds_it))
