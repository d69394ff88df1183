-- Resolution of a tree as it is written.
use Rattle.std.specs.Prelude.{ℕ, zero, suc, ◌+◌, ◌≡◌, refl, Bool, true, false, ◌||◌, List, [], ◌∷◌, ◌++◌, length, drop, map, Option, Some, if◌then◌else◌}
use Rattle.std.proofs.Common.{ap, ◌∙◌, sym}
use Rattle.std.proofs.lemmas.List.{map-append}
use Rattle.mini_model.specs.declared.name.Name.{Name}
use Rattle.mini_model.specs.declared.name.SymbolId.{SymbolId}
use Rattle.mini_model.specs.declared.shape.Shape.{Shape}
use Rattle.mini_model.specs.declared.shape.Shape.TheVariants as shape
use Rattle.mini_model.specs.Tree.{Tree, Trees, node, none, ◌▸◌, is_absent}
use Rattle.mini_model.specs.Weight.{same_text}
use Rattle.mini_laws.specs.declared.names.Use.{Use}
use Rattle.mini_laws.specs.declared.names.Binding.{Binding}
use Rattle.mini_laws.specs.declared.names.Declared.{Declared}
use Rattle.mini_laws.specs.declared.names.Declared.TheVariants as declared
use Rattle.mini_laws.specs.declared.names.Place.{Place}
use Rattle.mini_laws.specs.declared.names.Place.TheVariants as place
use Rattle.mini_laws.specs.declared.names.Opening.{Opening}
use Rattle.mini_laws.specs.declared.names.Opening.TheVariants as opening
use Rattle.mini_laws.specs.DeclaredNames.{place_of, names_by, names_of, first_names, all_names, is_statement_list, body_names, all_body_names, is_spelled, with_name, with_names, is_inner, has_inner, any_inner}
use Rattle.mini_laws.specs.Scopes.{use_of, opening_of, scopes_by, at_or_empty, opened, name_if, lexical_scope, body_scope, merged}
use Rattle.mini_laws.specs.Resolved.{Environment, plain_name, written_name, names_in, with_symbol, numbered, symbols, symbols_from, resolved, resolved_from}
use Rattle.mini_laws.specs.Symbols.{with_new, no_symbol, bare_names, bare, all_bare}
use Rattle.mini_laws.proofs.Back.{with_other}
use Rattle.mini_laws.proofs.Writing.{SpelledAlike, written_over}

names_by_bare : (p : Place) (xs a b c a' b' c' : List Name) → a' ≡ map (with_new no_symbol) a → b' ≡ map (with_new no_symbol) b → c' ≡ map (with_new no_symbol) c → names_by p (map (with_new no_symbol) xs) a' b' c' ≡ map (with_new no_symbol) (names_by p xs a b c)
names_by_bare place.Here xs a b c a' b' c' e g h = refl
names_by_bare place.FirstBound xs a b c a' b' c' e g h = e
names_by_bare place.Bound xs a b c a' b' c' e g h = g
names_by_bare place.Below xs a b c a' b' c' e g h = h
names_by_bare place.Nowhere xs a b c a' b' c' e g h = refl

-- a node that declares its own names has them still
own_bare : (d : Declared) (h : Shape) (xs : List Name) → place_of d h ≡ place.Here → bare_names h xs ≡ map (with_new no_symbol) xs
own_bare declared.Bound shape.VariableDeclarator xs e = absurd (cc e)
own_bare declared.Lexical shape.VariableDeclarator xs e = absurd (cc e)
own_bare declared.Hoisted shape.VariableDeclarator xs e = absurd (cc e)
own_bare d h xs e = refl

node_bare : (d : Declared) (h : Shape) (xs a b c : List Name) → names_by (place_of d h) (bare_names h xs) a b c ≡ names_by (place_of d h) (map (with_new no_symbol) xs) a b c
node_bare d h xs a b c = by (place_of d h) (own_bare d h xs)
  where
    by : (p : Place) → (p ≡ place.Here → bare_names h xs ≡ map (with_new no_symbol) xs) → names_by p (bare_names h xs) a b c ≡ names_by p (map (with_new no_symbol) xs) a b c
    by place.Here e = e refl
    by place.FirstBound e = refl
    by place.Bound e = refl
    by place.Below e = refl
    by place.Nowhere e = refl

both_bare : (xs ys vs ws : List Name) → vs ≡ map (with_new no_symbol) xs → ws ≡ map (with_new no_symbol) ys → vs ++ ws ≡ map (with_new no_symbol) (xs ++ ys)
both_bare xs ys vs ws e g = ap (λ r. r ++ ws) e ∙ ap (λ r. map (with_new no_symbol) xs ++ r) g ∙ sym (map-append (with_new no_symbol) xs ys)

mutual
  unfolding names_of bare

  pub names_bare : (d : Declared) (t : Tree) → names_of d (bare t) ≡ map (with_new no_symbol) (names_of d t)
  names_bare d (node h xs n ts) = node_bare d h xs (first_names (all_bare ts)) (all_names declared.Bound (all_bare ts)) (all_names d (all_bare ts)) ∙ names_by_bare (place_of d h) xs (first_names ts) (all_names declared.Bound ts) (all_names d ts) _ _ _ (first_bare ts) (all_names_bare declared.Bound ts) (all_names_bare d ts)

  first_bare : (ts : Trees) → first_names (all_bare ts) ≡ map (with_new no_symbol) (first_names ts)
  first_bare none = refl
  first_bare (t ▸ ts) = names_bare declared.Bound t

  all_names_bare : (d : Declared) (ts : Trees) → all_names d (all_bare ts) ≡ map (with_new no_symbol) (all_names d ts)
  all_names_bare d none = refl
  all_names_bare d (t ▸ ts) = both_bare (names_of d t) (all_names d ts) _ _ (names_bare d t) (all_names_bare d ts)

body_by_bare : (b : Bool) (xs ys xs' ys' : List Name) → xs' ≡ map (with_new no_symbol) xs → ys' ≡ map (with_new no_symbol) ys → (if b then xs' else ys') ≡ map (with_new no_symbol) (if b then xs else ys)
body_by_bare true xs ys xs' ys' e g = e
body_by_bare false xs ys xs' ys' e g = g

mutual
  unfolding body_names bare

  body_bare : (t : Tree) → body_names (bare t) ≡ map (with_new no_symbol) (body_names t)
  body_bare (node h xs n ts) =
      body_by_bare (is_statement_list h) (all_body_names ts) (names_of declared.Lexical (node h xs n ts) ++ names_of declared.Hoisted (node h xs n ts)) _ _ (all_body_bare ts)
      (both_bare (names_of declared.Lexical (node h xs n ts)) (names_of declared.Hoisted (node h xs n ts)) _ _ (names_bare declared.Lexical (node h xs n ts)) (names_bare declared.Hoisted (node h xs n ts)))

  all_body_bare : (ts : Trees) → all_body_names (all_bare ts) ≡ map (with_new no_symbol) (all_body_names ts)
  all_body_bare none = refl
  all_body_bare (t ▸ ts) = both_bare (body_names t) (all_body_names ts) _ _ (body_bare t) (all_body_bare ts)

mutual
  unfolding has_inner bare

  inner_bare : (t : Tree) → has_inner (bare t) ≡ has_inner t
  inner_bare (node h xs n ts) = ap (λ b. is_inner h || b) (any_inner_bare ts)

  any_inner_bare : (ts : Trees) → any_inner (all_bare ts) ≡ any_inner ts
  any_inner_bare none = refl
  any_inner_bare (t ▸ ts) = ap (λ b. b || any_inner (all_bare ts)) (inner_bare t) ∙ ap (λ b. has_inner t || b) (any_inner_bare ts)

-- ---- scopes

spelled_bare : (s : List ℕ) (xs : List Name) → is_spelled s (map (with_new no_symbol) xs) ≡ is_spelled s xs
spelled_bare s [] = refl
spelled_bare s (x ∷ xs) = ap (λ b. same_text x.spelling s || b) (spelled_bare s xs)

with_name_by : (b c : Bool) (seen : List Name) (x : Name) → c ≡ b → (if c then map (with_new no_symbol) seen else map (with_new no_symbol) seen ++ with_new no_symbol x ∷ []) ≡ map (with_new no_symbol) (if b then seen else seen ++ x ∷ [])
with_name_by true true seen x e = refl
with_name_by true false seen x e = cc
with_name_by false true seen x e = cc
with_name_by false false seen x e = sym (map-append (with_new no_symbol) seen (x ∷ []))

with_names_bare : (seen xs : List Name) → with_names (map (with_new no_symbol) seen) (map (with_new no_symbol) xs) ≡ map (with_new no_symbol) (with_names seen xs)
unfolding with_names
with_names_bare seen [] = refl
with_names_bare seen (x ∷ xs) =
    ap (λ r. with_names r (map (with_new no_symbol) xs)) (with_name_by (is_spelled x.spelling seen) (is_spelled x.spelling (map (with_new no_symbol) seen)) seen x (spelled_bare x.spelling seen))
    ∙ with_names_bare (with_name seen x) xs

drop_bare : (p xs : List Name) → drop (length (map (with_new no_symbol) p)) (map (with_new no_symbol) xs) ≡ map (with_new no_symbol) (drop (length p) xs)
drop_bare [] xs = refl
drop_bare (y ∷ p) [] = refl
drop_bare (y ∷ p) (x ∷ xs) = drop_bare p xs

bindings_bare : (h : Bool) (xs : List Name) → map (λ x. record { name = x; hoists = h }) (map (with_new no_symbol) xs) ≡ map (with_other no_symbol) (map (λ x. record { name = x; hoists = h }) xs)
bindings_bare h [] = refl
bindings_bare h (x ∷ xs) = ap (λ r. record { name = with_new no_symbol x; hoists = h } ∷ r) (bindings_bare h xs)

abbrev bindings : Bool → List Name → List Binding
bindings h xs = map (λ x. record { name = x; hoists = h }) xs

lexical_bare : (xs ys : List Name) → ys ≡ map (with_new no_symbol) xs → lexical_scope ys ≡ map (with_other no_symbol) (lexical_scope xs)
lexical_bare xs ys e = ap (λ r. lexical_scope r) e ∙ ap (bindings false) (with_names_bare [] xs) ∙ bindings_bare false (with_names [] xs)

body_scope_bare : (p q xs ys : List Name) → q ≡ map (with_new no_symbol) p → ys ≡ map (with_new no_symbol) xs → body_scope q ys ≡ map (with_other no_symbol) (body_scope p xs)
body_scope_bare p q xs ys e g =
    ap (λ r. body_scope r ys) e ∙ ap (λ r. body_scope (map (with_new no_symbol) p) r) g
    ∙ ap (λ r. bindings true (drop (length (map (with_new no_symbol) p)) r)) (with_names_bare p xs)
    ∙ ap (bindings true) (drop_bare p (with_names p xs)) ∙ bindings_bare true (drop (length p) (with_names p xs))

merged_by : (b c : Bool) (xs ys : List Name) → c ≡ b → ys ≡ map (with_new no_symbol) xs → (if c then [] else ys) ≡ map (with_new no_symbol) (if b then [] else xs)
merged_by true true xs ys e g = refl
merged_by true false xs ys e g = cc
merged_by false true xs ys e g = cc
merged_by false false xs ys e g = g

merged_bare : (t : Tree) → merged (bare t) ≡ map (with_new no_symbol) (merged t)
merged_bare t = merged_by (has_inner t) (has_inner (bare t)) (names_of declared.Bound t) (names_of declared.Bound (bare t)) (inner_bare t) (names_bare declared.Bound t)

name_if_bare : (b : Bool) (t : Tree) → name_if b (bare t) ≡ map (with_new no_symbol) (name_if b t)
name_if_bare true t = names_bare declared.Bound t
name_if_bare false t = refl

-- scopes of which each is the other with other symbols
abbrev ScopesBare : List (List Binding) → List (List Binding) → Type 0
ScopesBare [] [] = Unit {0}
ScopesBare [] (r ∷ rs) = ⊥
ScopesBare (s ∷ ss) [] = ⊥
ScopesBare (s ∷ ss) (r ∷ rs) = (r ≡ map (with_other no_symbol) s) × ScopesBare ss rs

bound_scope : (t : Tree) → lexical_scope (names_of declared.Bound (bare t)) ≡ map (with_other no_symbol) (lexical_scope (names_of declared.Bound t))
bound_scope t = lexical_bare (names_of declared.Bound t) (names_of declared.Bound (bare t)) (names_bare declared.Bound t)

block_scope : (t : Tree) → lexical_scope (names_of declared.Lexical (bare t)) ≡ map (with_other no_symbol) (lexical_scope (names_of declared.Lexical t))
block_scope t = lexical_bare (names_of declared.Lexical t) (names_of declared.Lexical (bare t)) (names_bare declared.Lexical t)

name_scope : (own : Bool) (t : Tree) → lexical_scope (name_if own (bare t)) ≡ map (with_other no_symbol) (lexical_scope (name_if own t))
name_scope own t = lexical_bare (name_if own t) (name_if own (bare t)) (name_if_bare own t)

params_scope : (t : Tree) → body_scope [] (names_of declared.Bound (bare t)) ≡ map (with_other no_symbol) (body_scope [] (names_of declared.Bound t))
params_scope t = body_scope_bare [] [] (names_of declared.Bound t) (names_of declared.Bound (bare t)) refl (names_bare declared.Bound t)

own_scope : (p t : Tree) → body_scope (merged (bare p)) (body_names (bare t)) ≡ map (with_other no_symbol) (body_scope (merged p) (body_names t))
own_scope p t = body_scope_bare (merged p) (merged (bare p)) (body_names t) (body_names (bare t)) (merged_bare p) (body_bare t)

scopes_bare : (o : Opening) (ts : Trees) → ScopesBare (scopes_by o ts) (scopes_by o (all_bare ts))
unfolding scopes_by bare
scopes_bare opening.Nothing ts = tt
scopes_bare opening.Body none = tt
scopes_bare opening.Body (t ▸ ts) = (body_scope_bare [] [] (body_names t) (body_names (bare t)) refl (body_bare t), tt)
scopes_bare opening.First none = tt
scopes_bare opening.First (t ▸ ts) = (block_scope t, tt)
scopes_bare opening.Bound none = tt
scopes_bare opening.Bound (t ▸ ts) = (bound_scope t, tt)
scopes_bare opening.Second none = tt
scopes_bare opening.Second (a ▸ none) = tt
scopes_bare opening.Second (a ▸ (t ▸ ts)) = (refl, (block_scope t, tt))
scopes_bare (opening.Class own inside) none = tt
scopes_bare (opening.Class own inside) (id ▸ none) = tt
scopes_bare (opening.Class own inside) (id ▸ (h ▸ none)) = tt
scopes_bare (opening.Class own inside) (id ▸ (h ▸ (b ▸ none))) = tt
scopes_bare (opening.Class own inside) (id ▸ (h ▸ (b ▸ (t ▸ ts)))) = (name_scope own id, (name_scope inside t, tt))
scopes_bare opening.Arrow none = tt
scopes_bare opening.Arrow (p ▸ none) = tt
scopes_bare opening.Arrow (p ▸ (t ▸ ts)) = (params_scope p, (own_scope p t, tt))
scopes_bare (opening.Function own) none = tt
scopes_bare (opening.Function own) (id ▸ none) = tt
scopes_bare (opening.Function own) (id ▸ (p ▸ none)) = tt
scopes_bare (opening.Function own) (id ▸ (p ▸ (t ▸ ts))) = (name_scope own id, (params_scope p, (own_scope p t, tt)))

at_bare : (ss rs : List (List Binding)) (i : ℕ) → ScopesBare ss rs → at_or_empty rs i ≡ map (with_other no_symbol) (at_or_empty ss i)
at_bare [] [] i m = refl
at_bare [] (r ∷ rs) i m = absurd m
at_bare (s ∷ ss) [] i m = absurd m
at_bare (s ∷ ss) (r ∷ rs) zero m = m.0
at_bare (s ∷ ss) (r ∷ rs) (suc i) m = at_bare ss rs i m.1

pub opened_bare : (u : Use) (h : Shape) (ts : Trees) (i : ℕ) → opened u h (all_bare ts) i ≡ map (with_other no_symbol) (opened u h ts i)
opened_bare u h ts i = at_bare (scopes_by (opening_of u h) ts) (scopes_by (opening_of u h) (all_bare ts)) i (scopes_bare (opening_of u h) ts)

-- ---- resolution

numbered_bare : (s : ℕ) (bs : List Binding) → numbered s (map (with_other no_symbol) bs) ≡ numbered s bs
numbered_bare s [] = refl
numbered_bare s (b ∷ bs) = ap (λ r. record { name = record { spelling = b.name.spelling; symbol = Some (record { 0 = s }) }; hoists = b.hoists } ∷ r) (numbered_bare (suc s) bs)

scope_numbered : (s : ℕ) (bs cs : List Binding) → cs ≡ map (with_other no_symbol) bs → numbered s cs ≡ numbered s bs
scope_numbered s bs cs e = ap (numbered s) e ∙ numbered_bare s bs

other_length : (bs : List Binding) → length (map (with_other no_symbol) bs) ≡ length bs
other_length [] = refl
other_length (b ∷ bs) = ap suc (other_length bs)

scope_length : (bs cs : List Binding) → cs ≡ map (with_other no_symbol) bs → length cs ≡ length bs
scope_length bs cs e = ap length e ∙ other_length bs

symbols_again : (u : Use) (env : Environment) (xs : List Name) → map (with_symbol u env) (map (with_new no_symbol) xs) ≡ map (with_symbol u env) xs
symbols_again u env [] = refl
symbols_again u env (x ∷ xs) = ap (λ r. with_symbol u env x ∷ r) (symbols_again u env xs)

alike_bare : (xs : List Name) → SpelledAlike (map (with_new no_symbol) xs) xs
alike_bare [] = tt
alike_bare (x ∷ xs) = refl

plain_bare : (t : Tree) → SpelledAlike (plain_name (bare t)) (plain_name t)
unfolding bare
plain_bare (node shape.BindingIdentifier xs n ts) = alike_bare xs
plain_bare (node h xs n ts) = tt

absent_bare : (t : Tree) → is_absent (bare t) ≡ is_absent t
unfolding bare
absent_bare (node shape.Absent xs n ts) = refl
absent_bare (node h xs n ts) = refl

written_bare : (u : Use) (env : Environment) (ts : Trees) → written_name u env (all_bare ts) ≡ written_name u env ts
unfolding bare
written_bare u env none = refl
written_bare u env (id ▸ none) = refl
written_bare u env (id ▸ (init ▸ ts)) = written_over u env (bare id) id (bare init) init (all_bare ts) ts (plain_bare id) (absent_bare init)

names_again : (u : Use) (env : Environment) (h : Shape) (xs : List Name) (ts : Trees) → names_in u env h (bare_names h xs) (all_bare ts) ≡ names_in u env h xs ts
names_again u env shape.VariableDeclarator xs ts = written_bare u env ts
names_again u env h xs ts = symbols_again u env xs

mutual
  unfolding symbols bare

  symbols_bare : (u : Use) (t : Tree) → symbols u (bare t) ≡ symbols u t
  symbols_bare u (node h xs n ts) = all_symbols_bare (opened u h ts) (opened u h (all_bare ts)) (opened_bare u h ts) (use_of h u) 0 ts

  all_symbols_bare : (sc sc' : ℕ → List Binding) → ((i : ℕ) → sc' i ≡ map (with_other no_symbol) (sc i)) → (us : ℕ → Use) (i : ℕ) (ts : Trees) → symbols_from sc' us i (all_bare ts) ≡ symbols_from sc us i ts
  all_symbols_bare sc sc' e us i none = refl
  all_symbols_bare sc sc' e us i (t ▸ ts) =
      ap (λ k. k + symbols (us i) (bare t) + symbols_from sc' us (suc i) (all_bare ts)) (scope_length (sc i) (sc' i) (e i))
      ∙ ap (λ k. length (sc i) + k + symbols_from sc' us (suc i) (all_bare ts)) (symbols_bare (us i) t)
      ∙ ap (λ k. length (sc i) + symbols (us i) t + k) (all_symbols_bare sc sc' e us (suc i) ts)

mutual
  unfolding resolved bare

  pub resolved_bare : (u : Use) (env : Environment) (s : ℕ) (t : Tree) → resolved u env s (bare t) ≡ resolved u env s t
  resolved_bare u env s (node h xs n ts) =
      ap (λ ys. node h ys n (resolved_from (opened u h (all_bare ts)) (use_of h u) 0 env s (all_bare ts))) (names_again u env h xs ts)
      ∙ ap (node h (names_in u env h xs ts) n) (all_resolved_bare (opened u h ts) (opened u h (all_bare ts)) (opened_bare u h ts) (use_of h u) 0 env s ts)

  all_resolved_bare : (sc sc' : ℕ → List Binding) → ((i : ℕ) → sc' i ≡ map (with_other no_symbol) (sc i)) → (us : ℕ → Use) (i : ℕ) (env : Environment) (s : ℕ) (ts : Trees) → resolved_from sc' us i env s (all_bare ts) ≡ resolved_from sc us i env s ts
  all_resolved_bare sc sc' e us i env s none = refl
  all_resolved_bare sc sc' e us i env s (t ▸ ts) =
      let both = λ (v : List Binding) (k : ℕ) (j : ℕ). resolved (us i) (env ++ v) (s + k) (bare t) ▸ resolved_from sc' us (suc i) (env ++ v) (s + k + j) (all_bare ts) in
      let inner = env ++ numbered s (sc i) in
      let r = s + length (sc i) in
      ap (λ v. both v (length (sc' i)) (symbols (us i) (bare t))) (scope_numbered s (sc i) (sc' i) (e i))
      ∙ ap (λ k. both (numbered s (sc i)) k (symbols (us i) (bare t))) (scope_length (sc i) (sc' i) (e i))
      ∙ ap (λ j. both (numbered s (sc i)) (length (sc i)) j) (symbols_bare (us i) t)
      ∙ ap (λ x. x ▸ resolved_from sc' us (suc i) inner (r + symbols (us i) t) (all_bare ts)) (resolved_bare (us i) inner r t)
      ∙ ap (λ x. resolved (us i) inner r t ▸ x) (all_resolved_bare sc sc' e us (suc i) inner (r + symbols (us i) t) ts)
